-- Fields, values and elements that are read are spelled, and are in range.
use Rattle.std.proofs.Common.{◌≡◌, ℕ, zero, suc, ◌<◌, ◌^◌, Bool, true, eqb, List, [], ◌∷◌, ◌++◌, map, length, flat_map, Some, None, Ok, refl, sym, ap, subst, ◌∙◌, inl, inr}
use Rattle.std.proofs.Math.Dec.{eqb-suc-zero}
use Rattle.std.proofs.lemmas.Bool.{eqb-true}
use Rattle.std.specs.Prelude.{All}
use Rattle.std.proofs.lemmas.Int.{of_z-to_z}
use Rattle.std.proofs.lemmas.List.Elements.{All-nil, All-cons}
use borrow.Author.Gap.{read_sfits}
use Rattle.std.specs.Int.{Width, w16, w32, w64, to_be_bytes, cast_unsigned, cast_signed}
use Rattle.class_desc.specs.declared.slot.Slot.{Slot}
use Rattle.class_desc.specs.declared.field.TypeCode.{TypeCode}
use Rattle.class_desc.specs.declared.field.TypeCode.TheVariants as codes
use Rattle.class_desc.specs.declared.field.FieldDesc.{FieldDesc}
use Rattle.class_desc.specs.TypeCode.{letter}
use Rattle.class_desc.specs.TypeText.{code_of}
use Rattle.ser_values.specs.declared.value.Value.{Value}
use Rattle.ser_values.specs.declared.value.Value.TheVariants as values
use Rattle.ser_values.specs.declared.node.Node.{Node}
use Rattle.ser_values.specs.declared.node.SlotPlace.{SlotPlace}
use Rattle.ser_values.specs.declared.node.SlotPlace.TheVariants as places
use Rattle.ser_values.specs.Shape.{is_short, fits_type, fits_value, fit_values}
use Rattle.ser_values.specs.Ranges.{ValueFits, NameFits}
use Rattle.stream_grammar.specs.Spelled.{Token, truth, value_token, One, SpellsToken, SpellsAll, Spelling}
use Rattle.stream_grammar.specs.Reading.{◌>>=◌, Plain, byte_at, number_at, Progress, Step, Slots, plain, map_step, many_at, is_true, value_at, values_at}
use Rattle.stream_grammar.proofs.PlainSound.{AreBytes, bytes_left, bind_ok, chosen, ok_is, byte_sound, IsNumber, number_sound_16, number_sound_32, number_sound_64}
use Rattle.stream_grammar.proofs.Solid.{WholeIn, Solid, Got, got_none, got_two}

-- ---- what is read of a reference

pub record GotSlot (S : List Node → Spelling) (unread : List ℕ) (p : SlotPlace) (now : Progress) (bs : List ℕ) (y : Slot × Progress × List ℕ) : Type 0 where
  pub got : Got unread now y.1 y.2 (λ F. S F unread (p, y.0) (length now.nodes) bs y.2 (length y.1.nodes))
  pub whole : WholeIn p y.1.nodes unread y.0

abbrev pub IsSound : (List Node → Spelling) → Slots → Type 0
IsSound S inner = (unread : List ℕ) (p : SlotPlace) (now : Progress) (bs : List ℕ) (y : Slot × Progress × List ℕ) → inner p unread now bs ≡ Ok y → Solid unread now → AreBytes bs → GotSlot S unread p now bs y

-- ---- lists of tokens

pub spells_join : (S : One) (xs ys : List Token) (n : ℕ) (bs b rest : List ℕ) (k m : ℕ) → SpellsAll S xs n bs b k → SpellsAll S ys k b rest m → SpellsAll S (xs ++ ys) n bs rest m
spells_join S [] ys n bs b rest k m h g = subst (λ (l : List ℕ). SpellsAll S ys n l rest m) (sym h.0) (subst (λ j. SpellsAll S ys j b rest m) h.1 g)
spells_join S (x ∷ xs) ys n bs b rest k m h g = (h.0, h.1, h.2, spells_join S xs ys h.1 h.0 b rest k m h.3 g)

pub spells_last : (S : One) (t : Token) (n : ℕ) (bs rest : List ℕ) (m : ℕ) → SpellsToken S t n bs rest m → SpellsAll S (t ∷ []) n bs rest m
spells_last S t n bs rest m h = (rest, m, h, (refl, refl))

-- ---- steps that did not fail

pub plain_ok : {A : Type 0} (read : List ℕ → Plain A) (now : Progress) (bs : List ℕ) (y : A × Progress × List ℕ) → plain read now bs ≡ Ok y → (v : A × List ℕ) × (read bs ≡ Ok v) × ((v.0, now, v.1) ≡ y)
plain_ok read now bs y e = let a = bind_ok (read bs) (λ x. Ok (x.0, now, x.1)) y e in (a.0, a.1, ok_is (a.0.0, now, a.0.1) y a.2)

pub mapped_ok : {A B : Type 0} (f : A → B) (step : Step A) (now : Progress) (bs : List ℕ) (y : B × Progress × List ℕ) → map_step f step now bs ≡ Ok y → (v : A × Progress × List ℕ) × (step now bs ≡ Ok v) × ((f v.0, v.1, v.2) ≡ y)
mapped_ok f step now bs y e = let a = bind_ok (step now bs) (λ x. Ok (f x.0, x.1, x.2)) y e in (a.0, a.1, ok_is (f a.0.0, a.0.1, a.0.2) y a.2)

-- a step that reads what these tokens spell, of which this holds
abbrev pub StepSound : {X : Type 0} → (List Node → Spelling) → List ℕ → Step X → (X → List Token) → (List Node → X → Type 0) → Type 0
StepSound {X} S unread step toks P = (now : Progress) (bs : List ℕ) (y : X × Progress × List ℕ) → step now bs ≡ Ok y → Solid unread now → AreBytes bs → Got unread now y.1 y.2 (λ F. SpellsAll (S F unread) (toks y.0) (length now.nodes) bs y.2 (length y.1.nodes) × P F y.0)

abbrev pub Each : {X : Type 0} → (X → Type 0) → List X → Type 0
Each P [] = Unit {0}
Each P (x ∷ xs) = P x × Each P xs

pub each_all : {X : Type 0} (P : X → Type 0) (xs : List X) → Each P xs → All P xs
each_all P [] h = All-nil P
each_all P (x ∷ xs) h = All-cons P x xs h.0 (each_all P xs h.1)

pub record GotMany {X : Type 0} (S : List Node → Spelling) (unread : List ℕ) (toks : X → List Token) (P : List Node → X → Type 0) (n : ℕ) (now : Progress) (bs : List ℕ) (y : List X × Progress × List ℕ) : Type 0 where
  pub len : length y.0 ≡ n
  pub got : Got unread now y.1 y.2 (λ F. SpellsAll (S F unread) (flat_map toks y.0) (length now.nodes) bs y.2 (length y.1.nodes) × Each (P F) y.0)

pub many_sound : {X : Type 0} (S : List Node → Spelling) (unread : List ℕ) (step : Step X) (toks : X → List Token) (P : List Node → X → Type 0) → StepSound S unread step toks P
    → (n : ℕ) (now : Progress) (bs : List ℕ) (y : List X × Progress × List ℕ) → many_at step n now bs ≡ Ok y → Solid unread now → AreBytes bs → GotMany S unread toks P n now bs y
unfolding many_at
many_sound {X} S unread step toks P one zero now bs y e solid bytes =
    subst (λ (y : List X × Progress × List ℕ). GotMany S unread toks P zero now bs y) (ok_is ([], now, bs) y e) (record { len = refl; got = got_none unread now bs _ solid bytes (λ F sees. ((refl, refl), tt)) })
many_sound {X} S unread step toks P one (suc n) now bs y e solid bytes =
    let a = bind_ok (step now bs) (λ x. many_at step n x.1 x.2 >>= λ xs. Ok (x.0 ∷ xs.0, xs.1, xs.2)) y e in
    let x = a.0 in
    let b = bind_ok (many_at step n x.1 x.2) (λ xs. Ok (x.0 ∷ xs.0, xs.1, xs.2)) y a.2 in
    let xs = b.0 in
    let g = one now bs x a.1 solid bytes in
    let h = many_sound S unread step toks P one n x.1 x.2 xs b.1 g.solid g.left in
    subst (λ (y : List X × Progress × List ℕ). GotMany S unread toks P (suc n) now bs y) (ok_is (x.0 ∷ xs.0, xs.1, xs.2) y b.2) (record {
      len = ap suc h.len;
      got = got_two unread now x.1 xs.1 x.2 xs.2
          (λ F. SpellsAll (S F unread) (toks x.0) (length now.nodes) bs x.2 (length x.1.nodes) × P F x.0)
          (λ F. SpellsAll (S F unread) (flat_map toks xs.0) (length x.1.nodes) x.2 xs.2 (length xs.1.nodes) × Each (P F) xs.0)
          (λ F. SpellsAll (S F unread) (toks x.0 ++ flat_map toks xs.0) (length now.nodes) bs xs.2 (length xs.1.nodes) × (P F x.0 × Each (P F) xs.0))
          g h.got (λ F sees p q. (spells_join (S F unread) (toks x.0) (flat_map toks xs.0) (length now.nodes) bs x.2 xs.2 (length x.1.nodes) (length xs.1.nodes) p.0 q.0, (p.1, q.1)));
    })

-- ---- values

pub record GotValue (S : List Node → Spelling) (unread : List ℕ) (code : TypeCode) (now : Progress) (bs : List ℕ) (y : Value × Progress × List ℕ) : Type 0 where
  pub fits : fits_value code y.0 ≡ true
  pub ranged : ValueFits y.0
  pub got : Got unread now y.1 y.2 (λ F. SpellsToken (S F unread) (value_token y.0) (length now.nodes) bs y.2 (length y.1.nodes))

-- what a number that is read spells as a token
abbrev pub Spells_as : (ℕ → Token) → List ℕ → ℕ × List ℕ → Type 1
Spells_as tok bs v = AreBytes v.1 × ((S : One) (n : ℕ) → SpellsToken S (tok v.0) n bs v.1 n)

plain_value : (S : List Node → Spelling) (unread : List ℕ) (code : TypeCode) (read : List ℕ → Plain ℕ) (kind : ℕ → Value) (now : Progress) (bs : List ℕ) (y : Value × Progress × List ℕ) → map_step kind (plain read) now bs ≡ Ok y → Solid unread now → ((n : ℕ) → fits_value code (kind n) ≡ true)
    → ((v : ℕ × List ℕ) → read bs ≡ Ok v → ValueFits (kind v.0)) → ((v : ℕ × List ℕ) → read bs ≡ Ok v → Spells_as (λ n. value_token (kind n)) bs v) → GotValue S unread code now bs y
plain_value S unread code read kind now bs y e solid fits ranged sound =
    let a = mapped_ok kind (plain read) now bs y e in
    let b = plain_ok read now bs a.0 a.1 in
    let v = b.0 in
    let s = sound v b.1 in
    let made : GotValue S unread code now bs (kind v.0, now, v.1) = record { fits = fits v.0; ranged = ranged v b.1; got = got_none unread now v.1 _ solid s.0 (λ F sees. s.1 (S F unread) (length now.nodes)) } in
    let same : (kind v.0, now, v.1) ≡ y = ap (λ (z : ℕ × Progress × List ℕ). (kind z.0, z.1, z.2)) b.2 ∙ a.2 in
    subst (λ (y : Value × Progress × List ℕ). GotValue S unread code now bs y) same made

pub byte_spells : (bs : List ℕ) → AreBytes bs → (v : ℕ × List ℕ) → byte_at bs ≡ Ok v → AreBytes v.1 × (bs ≡ v.0 ∷ v.1)
byte_spells bs bytes v e = let s = byte_sound bs v e in (bytes_left bs (v.0 ∷ []) v.1 s bytes, s)

pub byte_below : (bs : List ℕ) → AreBytes bs → (v : ℕ × List ℕ) → byte_at bs ≡ Ok v → v.0 < 2 ^ 8
byte_below bs bytes v e = (subst AreBytes (byte_sound bs v e) bytes).0

pub truth_spells : (bs rest : List ℕ) (b : ℕ) (S : One) (n : ℕ) → bs ≡ b ∷ rest → SpellsToken S (truth (is_true b)) n bs rest n
truth_spells bs rest zero S n e = (e, refl)
truth_spells bs rest (suc b) S n e = let yes : is_true (suc b) ≡ true = rw (eqb-suc-zero b) refl in subst (λ (t : Bool). SpellsToken S (truth t) n bs rest n) (sym yes) (b, e, refl)

-- a signed number of a width
pub back : (w : Width) (bound : ℕ) (bs : List ℕ) (v : ℕ × List ℕ) → ((n : ℕ) → n < bound → cast_unsigned w (cast_signed w n) ≡ n) → IsNumber w bound bs v → bs ≡ to_be_bytes w (cast_unsigned w (cast_signed w v.0)) ++ v.1
back w bound bs v law n = n.parts ∙ ap (λ k. to_be_bytes w k ++ v.1) (sym (law v.0 n.below))

pub value_sound : (S : List Node → Spelling) (inner : Slots) → IsSound S inner → (unread : List ℕ) (code : TypeCode) (now : Progress) (bs : List ℕ) (y : Value × Progress × List ℕ) → value_at (inner places.Reference unread) code now bs ≡ Ok y → Solid unread now → AreBytes bs → GotValue S unread code now bs y
unfolding value_at
value_sound S inner sound unread codes.Byte now bs y e solid bytes = plain_value S unread codes.Byte byte_at values.Byte now bs y e solid (λ n. refl) (λ v r. byte_below bs bytes v r) (λ v r. (let s = byte_spells bs bytes v r in (s.0, λ S n. (s.1, refl))))
value_sound S inner sound unread codes.Char now bs y e solid bytes = plain_value S unread codes.Char (number_at w16) values.Char now bs y e solid (λ n. refl) (λ v r. (number_sound_16 bs v r bytes).below) (λ v r. (let s = number_sound_16 bs v r bytes in (s.left, λ S n. (s.parts, refl))))
value_sound S inner sound unread codes.Double now bs y e solid bytes = plain_value S unread codes.Double (number_at w64) values.Double now bs y e solid (λ n. refl) (λ v r. (number_sound_64 bs v r bytes).below) (λ v r. (let s = number_sound_64 bs v r bytes in (s.left, λ S n. (s.parts, refl))))
value_sound S inner sound unread codes.Float now bs y e solid bytes = plain_value S unread codes.Float (number_at w32) values.Float now bs y e solid (λ n. refl) (λ v r. (number_sound_32 bs v r bytes).below) (λ v r. (let s = number_sound_32 bs v r bytes in (s.left, λ S n. (s.parts, refl))))
value_sound S inner sound unread codes.Int now bs y e solid bytes = plain_value S unread codes.Int (number_at w32) (λ n. values.Int (cast_signed w32 n)) now bs y e solid (λ n. refl) (λ v r. read_sfits w32 v.0) (λ v r. (let s = number_sound_32 bs v r bytes in (s.left, λ S n. (back w32 (2 ^ 32) bs v (of_z-to_z w32) s, refl))))
value_sound S inner sound unread codes.Long now bs y e solid bytes = plain_value S unread codes.Long (number_at w64) (λ n. values.Long (cast_signed w64 n)) now bs y e solid (λ n. refl) (λ v r. read_sfits w64 v.0) (λ v r. (let s = number_sound_64 bs v r bytes in (s.left, λ S n. (back w64 (2 ^ 64) bs v (of_z-to_z w64) s, refl))))
value_sound S inner sound unread codes.Short now bs y e solid bytes = plain_value S unread codes.Short (number_at w16) (λ n. values.Short (cast_signed w16 n)) now bs y e solid (λ n. refl) (λ v r. read_sfits w16 v.0) (λ v r. (let s = number_sound_16 bs v r bytes in (s.left, λ S n. (back w16 (2 ^ 16) bs v (of_z-to_z w16) s, refl))))
value_sound S inner sound unread codes.Boolean now bs y e solid bytes = plain_value S unread codes.Boolean byte_at (λ b. values.Boolean (is_true b)) now bs y e solid (λ n. refl) (λ v r. tt) (λ v r. (let s = byte_spells bs bytes v r in (s.0, λ S n. truth_spells bs v.1 v.0 S n s.1)))
value_sound S inner sound unread codes.Array now bs y e solid bytes =
    let a = mapped_ok values.Ref (inner places.Reference unread) now bs y e in
    subst (λ (y : Value × Progress × List ℕ). GotValue S unread codes.Array now bs y) a.2 (record { fits = refl; ranged = tt; got = (sound unread places.Reference now bs a.0 a.1 solid bytes).got })
value_sound S inner sound unread codes.Object now bs y e solid bytes =
    let a = mapped_ok values.Ref (inner places.Reference unread) now bs y e in
    subst (λ (y : Value × Progress × List ℕ). GotValue S unread codes.Object now bs y) a.2 (record { fits = refl; ranged = tt; got = (sound unread places.Reference now bs a.0 a.1 solid bytes).got })

pub record GotValues (S : List Node → Spelling) (unread : List ℕ) (fs : List FieldDesc) (now : Progress) (bs : List ℕ) (y : List Value × Progress × List ℕ) : Type 0 where
  pub fit : fit_values fs y.0 ≡ true
  pub ranged : All ValueFits y.0
  pub got : Got unread now y.1 y.2 (λ F. SpellsAll (S F unread) (map value_token y.0) (length now.nodes) bs y.2 (length y.1.nodes))

pub values_sound : (S : List Node → Spelling) (inner : Slots) → IsSound S inner → (unread : List ℕ) (fs : List FieldDesc) (now : Progress) (bs : List ℕ) (y : List Value × Progress × List ℕ) → values_at (inner places.Reference unread) fs now bs ≡ Ok y → Solid unread now → AreBytes bs → GotValues S unread fs now bs y
unfolding values_at fit_values
values_sound S inner sound unread [] now bs y e solid bytes =
    subst (λ (y : List Value × Progress × List ℕ). GotValues S unread [] now bs y) (ok_is ([], now, bs) y e) (record { fit = refl; ranged = All-nil ValueFits; got = got_none unread now bs _ solid bytes (λ F sees. (refl, refl)) })
values_sound S inner sound unread (f ∷ fs) now bs y e solid bytes =
    let a = bind_ok (value_at (inner places.Reference unread) f.code now bs) (λ v. values_at (inner places.Reference unread) fs v.1 v.2 >>= λ vs. Ok (v.0 ∷ vs.0, vs.1, vs.2)) y e in
    let v = a.0 in
    let b = bind_ok (values_at (inner places.Reference unread) fs v.1 v.2) (λ vs. Ok (v.0 ∷ vs.0, vs.1, vs.2)) y a.2 in
    let vs = b.0 in
    let g = value_sound S inner sound unread f.code now bs v a.1 solid bytes in
    let h = values_sound S inner sound unread fs v.1 v.2 vs b.1 g.got.solid g.got.left in
    subst (λ (y : List Value × Progress × List ℕ). GotValues S unread (f ∷ fs) now bs y) (ok_is (v.0 ∷ vs.0, vs.1, vs.2) y b.2) (record {
      fit = rw g.fits h.fit;
      ranged = All-cons ValueFits v.0 vs.0 g.ranged h.ranged;
      got = got_two unread now v.1 vs.1 v.2 vs.2 (λ F. SpellsToken (S F unread) (value_token v.0) (length now.nodes) bs v.2 (length v.1.nodes)) (λ F. SpellsAll (S F unread) (map value_token vs.0) (length v.1.nodes) v.2 vs.2 (length vs.1.nodes))
          (λ F. SpellsAll (S F unread) (map value_token (v.0 ∷ vs.0)) (length now.nodes) bs vs.2 (length vs.1.nodes)) g.got h.got (λ F sees p q. (v.2, length v.1.nodes, p, q));
    })

-- ---- fields

abbrev pub FieldOk : List Node → FieldDesc → Type 0
FieldOk F f = (is_short f.name ≡ true) × (fits_type F f.code f.type_text ≡ true) × NameFits f

pub code_letter : (c : ℕ) (code : TypeCode) → code_of c ≡ Some code → c ≡ letter code
code_letter c code e = elim (chosen (eqb c 0x42) _ _ _ e) [
  | inl p ↦ found c 0x42 codes.Byte code p.0 p.1 refl
  | inr p ↦ elim (chosen (eqb c 0x43) _ _ _ p.1) [
    | inl q ↦ found c 0x43 codes.Char code q.0 q.1 refl
    | inr q ↦ elim (chosen (eqb c 0x44) _ _ _ q.1) [
      | inl r ↦ found c 0x44 codes.Double code r.0 r.1 refl
      | inr r ↦ elim (chosen (eqb c 0x46) _ _ _ r.1) [
        | inl s ↦ found c 0x46 codes.Float code s.0 s.1 refl
        | inr s ↦ elim (chosen (eqb c 0x49) _ _ _ s.1) [
          | inl t ↦ found c 0x49 codes.Int code t.0 t.1 refl
          | inr t ↦ elim (chosen (eqb c 0x4A) _ _ _ t.1) [
            | inl u ↦ found c 0x4A codes.Long code u.0 u.1 refl
            | inr u ↦ elim (chosen (eqb c 0x53) _ _ _ u.1) [
              | inl v ↦ found c 0x53 codes.Short code v.0 v.1 refl
              | inr v ↦ elim (chosen (eqb c 0x5A) _ _ _ v.1) [
                | inl w ↦ found c 0x5A codes.Boolean code w.0 w.1 refl
                | inr w ↦ elim (chosen (eqb c 0x5B) _ _ _ w.1) [
                  | inl x ↦ found c 0x5B codes.Array code x.0 x.1 refl
                  | inr x ↦ elim (chosen (eqb c 0x4C) _ _ _ x.1) [
                    | inl z ↦ found c 0x4C codes.Object code z.0 z.1 refl
                    | inr z ↦ absurd (let bad : None ≡ Some code = z.1 in cc)
                  ]
                ]
              ]
            ]
          ]
        ]
      ]
    ]
  ]
]
  where
    found : (c k : ℕ) (d code : TypeCode) → eqb c k ≡ true → Some d ≡ Some code → k ≡ letter d → c ≡ letter code
    found c k d code e f g = let same : d ≡ code = cc in eqb-true c k e ∙ (g ∙ ap letter same)
