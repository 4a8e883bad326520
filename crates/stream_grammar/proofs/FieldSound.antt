-- Fields and elements that are read are spelled, and are in range.
use Rattle.std.proofs.Common.{◌≡◌, ◌&&◌, not, ℕ, ◌<◌, ◌^◌, true, false, cond, List, [], ◌∷◌, map, length, Some, None, Option, Ok, Err, slice_get, refl, sym, ap, subst, ◌∙◌, inl, inr}
use Rattle.std.proofs.lemmas.Bool.{lt-ltb}
use Rattle.std.specs.Prelude.{FitsSigned}
use Rattle.std.proofs.lemmas.Int.{of_z-to_z}
use borrow.Author.Gap.{read_sfits}
use Rattle.std.specs.Int.{w16, w32, w64, cast_unsigned, cast_signed}
use Rattle.mod_utf.specs.Utf.{utf}
use Rattle.class_desc.specs.declared.slot.Slot.{Slot}
use Rattle.class_desc.specs.declared.slot.Slot.TheVariants as slots
use Rattle.class_desc.specs.declared.field.TypeCode.{TypeCode}
use Rattle.class_desc.specs.declared.field.TypeCode.TheVariants as codes
use Rattle.class_desc.specs.declared.field.FieldDesc.{FieldDesc}
use Rattle.class_desc.specs.TypeCode.{is_primitive, letter}
use Rattle.class_desc.specs.TypeText.{code_of}
use Rattle.ser_values.specs.declared.value.Values.{Values}
use Rattle.ser_values.specs.declared.value.Values.TheVariants as kinds
use Rattle.ser_values.specs.declared.node.Node.{Node}
use Rattle.ser_values.specs.declared.node.SlotPlace.TheVariants as places
use Rattle.ser_values.specs.Shape.{is_short, fits_type, fits_node, fit_elements, count_of}
use Rattle.ser_values.specs.Ranges.{ElementsFit}
use Rattle.stream_grammar.specs.Spelled.{Token, raw, truth, want, number, reference, element_tokens, SpellsAll, Spelling}
use Rattle.stream_grammar.specs.Reading.{bad, bad_desc, ◌>>=◌, Plain, byte_at, number_at, short_at, Progress, Step, Slots, plain, map_step, many_at, field, field_of, field_at, is_true, elements_at}
use Rattle.stream_grammar.proofs.PlainSound.{AreBytes, bind_ok, passed, chosen, ok_is, number_sound_16, number_sound_32, number_sound_64, IsText, short_sound}
use Rattle.stream_grammar.proofs.Solid.{IsTextAt, Solid, Sees, Got, got_none, got_map, got_self}
use Rattle.ser_values.proofs.Ranged.{units_all}
use Rattle.stream_grammar.proofs.Steps.{field_toks, map_flat}
use Rattle.stream_grammar.proofs.StepSound.{GotSlot, IsSound, spells_last, plain_ok, mapped_ok, StepSound, Each, each_all, many_sound, Spells_as, byte_below, byte_spells, truth_spells, back, FieldOk, code_letter}

-- ---- fields

abbrev pub GotField : (List Node → Spelling) → List ℕ → Progress → List ℕ → FieldDesc × Progress × List ℕ → Type 0
GotField S unread now bs y = Got unread now y.1 y.2 (λ F. SpellsAll (S F unread) (field_toks y.0) (length now.nodes) bs y.2 (length y.1.nodes) × FieldOk F y.0)

seen_type : (F N : List Node) (unread : List ℕ) (code : TypeCode) (s : Slot) → Sees F N unread → IsTextAt N s → fits_type N code s ≡ true → fits_type F code s ≡ true
seen_type F N unread code s sees t h =
    let there : slice_get F t.number ≡ slice_get N t.number = sees.texts t.number t.node t.is t.text ∙ sym t.is in
    let h2 : fits_type N code (slots.Node t.number) ≡ true = subst (λ (z : Slot). fits_type N code z ≡ true) t.what h in
    let h3 : fits_type F code (slots.Node t.number) ≡ true = subst (λ o. (not (is_primitive code) && fits_node code o) ≡ true) (sym there) h2 in
    subst (λ (z : Slot). fits_type F code z ≡ true) (sym t.what) h3

short_is : (t : List ℕ) → length (utf t) < 2 ^ 16 → is_short t ≡ true
short_is t h = lt-ltb _ _ h

primitive_field : (S : List Node → Spelling) (unread : List ℕ) (code : TypeCode) (name : List ℕ) (now : Progress) (bs b rest : List ℕ) → is_primitive code ≡ true → bs ≡ letter code ∷ b → IsText w16 (2 ^ 16) b (name, rest) → Solid unread now → GotField S unread now bs (field code name slots.Null, now, rest)
primitive_field S unread code name now bs b rest primitive begins text solid =
    got_none unread now rest _ solid text.left (λ F sees. (
      (b, length now.nodes, (begins, refl), (rest, length now.nodes, (text.parts, refl), subst (λ p. SpellsAll (S F unread) (cond p [] (want (places.Text, slots.Null) ∷ [])) (length now.nodes) rest rest (length now.nodes)) (sym primitive) (refl, refl))),
      (short_is name text.below, primitive, units_all name text.units),
    ))

reference_field : (S : List Node → Spelling) (unread : List ℕ) (code : TypeCode) (name : List ℕ) (now : Progress) (bs b b2 : List ℕ) (t : Slot × Progress × List ℕ) → is_primitive code ≡ false → bs ≡ letter code ∷ b → IsText w16 (2 ^ 16) b (name, b2) → GotSlot S unread places.Text now b2 t
    → fits_type t.1.nodes code t.0 ≡ true → GotField S unread now bs (field code name t.0, t.1, t.2)
reference_field S unread code name now bs b b2 t wanted begins text g fits =
    got_map unread now t.1 t.2 _ _ g.got (λ F sees p. (
      (b, length now.nodes, (begins, refl), (b2, length now.nodes, (text.parts, refl), subst (λ p. SpellsAll (S F unread) (cond p [] (want (places.Text, t.0) ∷ [])) (length now.nodes) b2 t.2 (length t.1.nodes)) (sym wanted) (spells_last (S F unread) (want (places.Text, t.0)) (length now.nodes) b2 t.2 (length t.1.nodes) p))),
      (short_is name text.below, seen_type F t.1.nodes unread code t.0 sees g.whole fits, units_all name text.units),
    ))

coded_field : (S : List Node → Spelling) (inner : Slots) → IsSound S inner → (unread : List ℕ) (end at : ℕ) (o : Option TypeCode) (c : ℕ) (now : Progress) (bs b : List ℕ) (y : FieldDesc × Progress × List ℕ) → code_of c ≡ o → bs ≡ c ∷ b → field_of end at (inner places.Text unread) o now b ≡ Ok y → Solid unread now → AreBytes b
    → GotField S unread now bs y
unfolding field_of
coded_field S inner sound unread end at None c now bs b y is begins e solid bytes = absurd cc
coded_field S inner sound unread end at (Some code) c now bs b y is begins e solid bytes =
    let a = bind_ok (short_at end b) (λ name. cond (is_primitive code) (Ok (field code name.0 slots.Null, now, name.1)) (inner places.Text unread now name.1 >>= λ t. cond (fits_type t.1.nodes code t.0) (Ok (field code name.0 t.0, t.1, t.2)) (Err (bad bad_desc at)))) y e in
    let name = a.0 in
    let text = short_sound end b name a.1 bytes in
    let begins2 : bs ≡ letter code ∷ b = begins ∙ ap (λ k. k ∷ b) (code_letter c code is) in
    elim (chosen (is_primitive code) _ _ _ a.2) [
      | inl p ↦ subst (λ (y : FieldDesc × Progress × List ℕ). GotField S unread now bs y) (ok_is (field code name.0 slots.Null, now, name.1) y p.1) (primitive_field S unread code name.0 now bs b name.1 p.0 begins2 text solid)
      | inr p ↦
          let d = bind_ok (inner places.Text unread now name.1) (λ t. cond (fits_type t.1.nodes code t.0) (Ok (field code name.0 t.0, t.1, t.2)) (Err (bad bad_desc at))) y p.1 in
          let t = d.0 in
          let q = passed (fits_type t.1.nodes code t.0) (Ok (field code name.0 t.0, t.1, t.2)) _ y d.2 in
          subst (λ (y : FieldDesc × Progress × List ℕ). GotField S unread now bs y) (ok_is (field code name.0 t.0, t.1, t.2) y q.1)
          (reference_field S unread code name.0 now bs b name.1 t p.0 begins2 text (sound unread places.Text now name.1 t d.1 solid text.left) q.0)
    ]

pub field_sound : (S : List Node → Spelling) (inner : Slots) → IsSound S inner → (unread : List ℕ) (end at : ℕ) → StepSound S unread (field_at end at (inner places.Text unread)) field_toks FieldOk
unfolding field_at
field_sound S inner sound unread end at now bs y e solid bytes =
    let a = bind_ok (byte_at bs) (λ c. field_of end at (inner places.Text unread) (code_of c.0) now c.1) y e in
    let s = byte_spells bs bytes a.0 a.1 in
    coded_field S inner sound unread end at (code_of a.0.0) a.0.0 now bs a.0.1 y refl s.1 a.2 solid s.0

-- ---- elements

pub record GotElements (S : List Node → Spelling) (unread : List ℕ) (code : TypeCode) (n : ℕ) (now : Progress) (bs : List ℕ) (y : Values × Progress × List ℕ) : Type 0 where
  pub fit : fit_elements y.0 (Some code) ≡ true
  pub count : count_of y.0 ≡ n
  pub ranged : ElementsFit y.0
  pub got : Got unread now y.1 y.2 (λ F. SpellsAll (S F unread) (element_tokens y.0) (length now.nodes) bs y.2 (length y.1.nodes))

-- a step that takes no nodes
plain_step : {X : Type 0} (S : List Node → Spelling) (unread : List ℕ) (read : List ℕ → Plain ℕ) (f : ℕ → X) (tok : X → Token) (R : X → Type 0) → ((bs : List ℕ) → AreBytes bs → (v : ℕ × List ℕ) → read bs ≡ Ok v → R (f v.0)) → ((bs : List ℕ) → AreBytes bs → (v : ℕ × List ℕ) → read bs ≡ Ok v → Spells_as (λ n. tok (f n)) bs v) → StepSound S unread (map_step f (plain read)) (λ x. tok x ∷ []) (λ F x. R x)
plain_step {X} S unread read f tok R ranged sound now bs y e solid bytes =
    let a = mapped_ok f (plain read) now bs y e in
    let b = plain_ok read now bs a.0 a.1 in
    let v = b.0 in
    let s = sound bs bytes v b.1 in
    let same : (f v.0, now, v.1) ≡ y = ap (λ (z : ℕ × Progress × List ℕ). (f z.0, z.1, z.2)) b.2 ∙ a.2 in
    subst (λ (y : X × Progress × List ℕ). Got unread now y.1 y.2 (λ F. SpellsAll (S F unread) (tok y.0 ∷ []) (length now.nodes) bs y.2 (length y.1.nodes) × R y.0)) same
    (got_none unread now v.1 _ solid s.0 (λ F sees. (spells_last (S F unread) (tok (f v.0)) (length now.nodes) bs v.1 (length now.nodes) (s.1 (S F unread) (length now.nodes)), ranged bs bytes v b.1)))

number_step : (S : List Node → Spelling) (unread : List ℕ) (read : List ℕ → Plain ℕ) (tok : ℕ → Token) (R : ℕ → Type 0) → ((bs : List ℕ) → AreBytes bs → (v : ℕ × List ℕ) → read bs ≡ Ok v → R v.0) → ((bs : List ℕ) → AreBytes bs → (v : ℕ × List ℕ) → read bs ≡ Ok v → Spells_as tok bs v) → StepSound S unread (plain read) (λ x. tok x ∷ []) (λ F x. R x)
number_step S unread read tok R ranged sound now bs y e solid bytes =
    let b = plain_ok read now bs y e in
    let v = b.0 in
    let s = sound bs bytes v b.1 in
    subst (λ (y : ℕ × Progress × List ℕ). Got unread now y.1 y.2 (λ F. SpellsAll (S F unread) (tok y.0 ∷ []) (length now.nodes) bs y.2 (length y.1.nodes) × R y.0)) b.2
    (got_none unread now v.1 _ solid s.0 (λ F sees. (spells_last (S F unread) (tok v.0) (length now.nodes) bs v.1 (length now.nodes) (s.1 (S F unread) (length now.nodes)), ranged bs bytes v b.1)))

slot_step : (S : List Node → Spelling) (inner : Slots) → IsSound S inner → (unread : List ℕ) → StepSound S unread (inner places.Reference unread) (λ s. reference s ∷ []) (λ F s. Unit {0})
slot_step S inner sound unread now bs y e solid bytes =
    let g = (sound unread places.Reference now bs y e solid bytes).got in
    got_map unread now y.1 y.2 _ _ g (λ F sees p. (spells_last (S F unread) (reference y.0) (length now.nodes) bs y.2 (length y.1.nodes) p, tt))

of_kind : {X : Type 0} (S : List Node → Spelling) (unread : List ℕ) (code : TypeCode) (step : Step X) (tok : X → Token) (R : X → Type 0) (kind : List X → Values) (n : ℕ) (now : Progress) (bs : List ℕ) (y : Values × Progress × List ℕ) → StepSound S unread step (λ x. tok x ∷ []) (λ F x. R x)
    → ((xs : List X) → Each R xs → ElementsFit (kind xs)) → ((xs : List X) → fit_elements (kind xs) (Some code) ≡ true) → ((xs : List X) → count_of (kind xs) ≡ length xs) → ((xs : List X) → element_tokens (kind xs) ≡ map tok xs) → map_step kind (many_at step n) now bs ≡ Ok y → Solid unread now → AreBytes bs → GotElements S unread code n now bs y
of_kind {X} S unread code step tok R kind n now bs y sound ranged fit count toks e solid bytes =
    let a = mapped_ok kind (many_at step n) now bs y e in
    let m = many_sound S unread step (λ x. tok x ∷ []) (λ F x. R x) sound n now bs a.0 a.1 solid bytes in
    subst (λ (y : Values × Progress × List ℕ). GotElements S unread code n now bs y) a.2 (record {
      fit = fit a.0.0;
      count = count a.0.0 ∙ m.len;
      ranged = ranged a.0.0 (got_self unread now a.0.1 a.0.2 _ m.got).1;
      got = got_map unread now a.0.1 a.0.2 _ _ m.got (λ F sees p. subst (λ (ts : List Token). SpellsAll (S F unread) ts (length now.nodes) bs a.0.2 (length a.0.1.nodes)) (sym (map_flat tok a.0.0) ∙ sym (toks a.0.0)) p.0);
    })

pub elements_sound : (S : List Node → Spelling) (inner : Slots) → IsSound S inner → (unread : List ℕ) (code : TypeCode) (n : ℕ) (now : Progress) (bs : List ℕ) (y : Values × Progress × List ℕ) → elements_at (inner places.Reference unread) code n now bs ≡ Ok y → Solid unread now → AreBytes bs → GotElements S unread code n now bs y
unfolding elements_at
elements_sound S inner sound unread codes.Byte n now bs y e solid bytes = of_kind S unread codes.Byte (plain byte_at) (λ x. raw (x ∷ [])) (λ x. x < 2 ^ 8) kinds.Bytes n now bs y (number_step S unread byte_at (λ x. raw (x ∷ [])) (λ x. x < 2 ^ 8) (λ bs bytes v r. byte_below bs bytes v r) (λ bs bytes v r. (let s = byte_spells bs bytes v r in (s.0, λ S n. (s.1, refl))))) (λ xs h. each_all (λ x. x < 2 ^ 8) xs h) (λ xs. refl) (λ xs. refl) (λ xs. refl) e solid bytes
elements_sound S inner sound unread codes.Char n now bs y e solid bytes = of_kind S unread codes.Char (plain (number_at w16)) (λ x. number w16 x) (λ x. x < 2 ^ 16) kinds.Chars n now bs y (number_step S unread (number_at w16) (λ x. number w16 x) (λ x. x < 2 ^ 16) (λ bs bytes v r. (number_sound_16 bs v r bytes).below) (λ bs bytes v r. (let s = number_sound_16 bs v r bytes in (s.left, λ S n. (s.parts, refl))))) (λ xs h. each_all (λ x. x < 2 ^ 16) xs h) (λ xs. refl) (λ xs. refl) (λ xs. refl) e solid bytes
elements_sound S inner sound unread codes.Double n now bs y e solid bytes = of_kind S unread codes.Double (plain (number_at w64)) (λ x. number w64 x) (λ x. x < 2 ^ 64) kinds.Doubles n now bs y (number_step S unread (number_at w64) (λ x. number w64 x) (λ x. x < 2 ^ 64) (λ bs bytes v r. (number_sound_64 bs v r bytes).below) (λ bs bytes v r. (let s = number_sound_64 bs v r bytes in (s.left, λ S n. (s.parts, refl))))) (λ xs h. each_all (λ x. x < 2 ^ 64) xs h) (λ xs. refl) (λ xs. refl) (λ xs. refl) e solid bytes
elements_sound S inner sound unread codes.Float n now bs y e solid bytes = of_kind S unread codes.Float (plain (number_at w32)) (λ x. number w32 x) (λ x. x < 2 ^ 32) kinds.Floats n now bs y (number_step S unread (number_at w32) (λ x. number w32 x) (λ x. x < 2 ^ 32) (λ bs bytes v r. (number_sound_32 bs v r bytes).below) (λ bs bytes v r. (let s = number_sound_32 bs v r bytes in (s.left, λ S n. (s.parts, refl))))) (λ xs h. each_all (λ x. x < 2 ^ 32) xs h) (λ xs. refl) (λ xs. refl) (λ xs. refl) e solid bytes
elements_sound S inner sound unread codes.Int n now bs y e solid bytes =
    of_kind S unread codes.Int (map_step (λ k. cast_signed w32 k) (plain (number_at w32))) (λ z. number w32 (cast_unsigned w32 z)) (FitsSigned w32) kinds.Ints n now bs y (plain_step S unread (number_at w32) (λ k. cast_signed w32 k) (λ z. number w32 (cast_unsigned w32 z)) (FitsSigned w32) (λ bs bytes v r. read_sfits w32 v.0) (λ bs bytes v r. (let s = number_sound_32 bs v r bytes in (s.left, λ S n. (back w32 (2 ^ 32) bs v (of_z-to_z w32) s, refl))))) (λ xs h. each_all (FitsSigned w32) xs h) (λ xs. refl) (λ xs. refl) (λ xs. refl) e solid bytes
elements_sound S inner sound unread codes.Long n now bs y e solid bytes =
    of_kind S unread codes.Long (map_step (λ k. cast_signed w64 k) (plain (number_at w64))) (λ z. number w64 (cast_unsigned w64 z)) (FitsSigned w64) kinds.Longs n now bs y (plain_step S unread (number_at w64) (λ k. cast_signed w64 k) (λ z. number w64 (cast_unsigned w64 z)) (FitsSigned w64) (λ bs bytes v r. read_sfits w64 v.0) (λ bs bytes v r. (let s = number_sound_64 bs v r bytes in (s.left, λ S n. (back w64 (2 ^ 64) bs v (of_z-to_z w64) s, refl))))) (λ xs h. each_all (FitsSigned w64) xs h) (λ xs. refl) (λ xs. refl) (λ xs. refl) e solid bytes
elements_sound S inner sound unread codes.Short n now bs y e solid bytes =
    of_kind S unread codes.Short (map_step (λ k. cast_signed w16 k) (plain (number_at w16))) (λ z. number w16 (cast_unsigned w16 z)) (FitsSigned w16) kinds.Shorts n now bs y (plain_step S unread (number_at w16) (λ k. cast_signed w16 k) (λ z. number w16 (cast_unsigned w16 z)) (FitsSigned w16) (λ bs bytes v r. read_sfits w16 v.0) (λ bs bytes v r. (let s = number_sound_16 bs v r bytes in (s.left, λ S n. (back w16 (2 ^ 16) bs v (of_z-to_z w16) s, refl))))) (λ xs h. each_all (FitsSigned w16) xs h) (λ xs. refl) (λ xs. refl) (λ xs. refl) e solid bytes
elements_sound S inner sound unread codes.Boolean n now bs y e solid bytes = of_kind S unread codes.Boolean (map_step is_true (plain byte_at)) (λ x. truth x) (λ x. Unit {0}) kinds.Bools n now bs y (plain_step S unread byte_at is_true (λ x. truth x) (λ x. Unit {0}) (λ bs bytes v r. tt) (λ bs bytes v r. (let s = byte_spells bs bytes v r in (s.0, λ S n. truth_spells bs v.1 v.0 S n s.1)))) (λ xs h. tt) (λ xs. refl) (λ xs. refl) (λ xs. refl) e solid bytes
elements_sound S inner sound unread codes.Array n now bs y e solid bytes = of_kind S unread codes.Array (inner places.Reference unread) (λ s. reference s) (λ s. Unit {0}) kinds.Refs n now bs y (slot_step S inner sound unread) (λ xs h. tt) (λ xs. refl) (λ xs. refl) (λ xs. refl) e solid bytes
elements_sound S inner sound unread codes.Object n now bs y e solid bytes = of_kind S unread codes.Object (inner places.Reference unread) (λ s. reference s) (λ s. Unit {0}) kinds.Refs n now bs y (slot_step S inner sound unread) (λ xs h. tt) (λ xs. refl) (λ xs. refl) (λ xs. refl) e solid bytes
