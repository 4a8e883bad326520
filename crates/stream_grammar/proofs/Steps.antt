-- Fields, values, elements and parts that are spelled are read.
use Rattle.std.proofs.Common.{◌≡◌, ◌&&◌, not, ℕ, zero, suc, ◌<◌, ◌^◌, ℤ, FitsSigned, Bool, true, false, cond, List, [], ◌∷◌, ◌++◌, map, length, flat_map, All, Result, Ok, Err, refl, sym, ap, subst, ◌∙◌, arith}
use Rattle.std.proofs.Math.Dec.{eqb-suc-zero}
use Rattle.std.proofs.lemmas.Int.{to_z-of_z}
use Rattle.std.specs.Int.{Width, w16, w32, w64, to_be_bytes, cast_unsigned, cast_signed}
use Rattle.std.proofs.lemmas.Bool.{and_parts}
use Rattle.mod_utf.specs.Utf.{utf}
use Rattle.mod_utf.proofs.Fronts.{AreUnits}
use Rattle.class_desc.specs.declared.slot.Slot.{Slot}
use Rattle.class_desc.specs.declared.slot.Slot.TheVariants as slots
use Rattle.class_desc.specs.declared.field.TypeCode.{TypeCode}
use Rattle.class_desc.specs.declared.field.TypeCode.TheVariants as codes
use Rattle.class_desc.specs.declared.field.FieldDesc.{FieldDesc}
use Rattle.class_desc.specs.TypeCode.{is_primitive, letter}
use Rattle.class_desc.proofs.TypeTexts.{letter_back}
use Rattle.ser_values.specs.declared.value.Value.{Value}
use Rattle.ser_values.specs.declared.value.Value.TheVariants as values
use Rattle.ser_values.specs.declared.node.Node.{Node}
use Rattle.ser_values.specs.declared.node.SlotPlace.{SlotPlace}
use Rattle.ser_values.specs.declared.node.SlotPlace.TheVariants as places
use Rattle.ser_values.specs.Shape.{fits_type, fits_node, fits_value, fit_values}
use Rattle.stream_grammar.specs.Spelled.{Token, raw, truth, want, short_text, field_tokens, value_token, One, SpellsToken, SpellsAll, Spelling}
use Rattle.ser_values.specs.Ranges.{ValueFits}
use Rattle.stream_grammar.specs.Reading.{Fault, bad, bad_desc, ◌>>=◌, Plain, byte_at, number_at, short_at, Progress, Step, Slots, plain, many_at, field, field_of, field_at, is_true, value_at, values_at}
use Rattle.stream_grammar.proofs.Apart.{below_16, below_32, below_64}
use Rattle.stream_grammar.proofs.Varieties.{ValueOf, value_of}
use Rattle.stream_grammar.proofs.Leading.{all_rest}
use Rattle.stream_grammar.proofs.Parted.{null_type}
use Rattle.stream_grammar.proofs.Mirror.{Ready, ReadsBy, Reads, Settled, reads_done, reads_then}
use Rattle.stream_grammar.proofs.Plains.{number_back_16, number_back_32, number_back_64, short_back}

-- ---- what is read of a reference

pub record ReadsIn (F : List Node) (unread : List ℕ) (p : SlotPlace) (now : Progress) (s : Slot) (rest : List ℕ) (m : ℕ) (r : Result (Slot × Progress × List ℕ) Fault) : Type 0 where
  pub reads : Reads F unread now s rest m r
  pub settled : Settled F reads.later.nodes p s

abbrev pub IsComplete : List Node → Spelling → Slots → Type 0
IsComplete F S inner = (unread : List ℕ) (p : SlotPlace) (s : Slot) (now : Progress) (bs rest : List ℕ) (m : ℕ) → S unread (p, s) (length now.nodes) bs rest m → Ready F unread now → ReadsIn F unread p now s rest m (inner p unread now bs)

-- ---- lists of tokens

pub spells_split : (S : One) (xs ys : List Token) (n : ℕ) (bs rest : List ℕ) (m : ℕ) → SpellsAll S (xs ++ ys) n bs rest m → (b : List ℕ) × (k : ℕ) × SpellsAll S xs n bs b k × SpellsAll S ys k b rest m
spells_split S [] ys n bs rest m h = (bs, n, (refl, refl), h)
spells_split S (x ∷ xs) ys n bs rest m h = let r = spells_split S xs ys h.1 h.0 rest m h.3 in (r.0, r.1, (h.0, h.1, h.2, r.2), r.3)

pub spells_one : (S : One) (t : Token) (n : ℕ) (bs rest : List ℕ) (m : ℕ) → SpellsAll S (t ∷ []) n bs rest m → SpellsToken S t n bs rest m
spells_one S t n bs rest m h = subst (λ (b : List ℕ). SpellsToken S t n bs b m) h.3.0 (subst (λ k. SpellsToken S t n bs h.0 k) (sym h.3.1) h.2)

pub moved : (S : One) (ts : List Token) (n k : ℕ) (bs rest : List ℕ) (m : ℕ) → n ≡ k → SpellsAll S ts k bs rest m → SpellsAll S ts n bs rest m
moved S ts n k bs rest m e h = subst (λ j. SpellsAll S ts j bs rest m) (sym e) h

-- ---- steps

pub plain_reads : {A : Type 0} (F : List Node) (unread : List ℕ) (now : Progress) (read : List ℕ → Plain A) (x : A) (bs rest : List ℕ) (m : ℕ) → read bs ≡ Ok (x, rest) → m ≡ length now.nodes → Ready F unread now → Reads F unread now x rest m (plain read now bs)
plain_reads F unread now read x bs rest m e len ready = rw e (reads_done F unread now x rest m len ready)

pub reads_map : {A B : Type 0} {own : ℕ} (F : List Node) (unread : List ℕ) (now : Progress) (f : A → B) (x : A) (rest : List ℕ) (m : ℕ) (r : Result (A × Progress × List ℕ) Fault) → ReadsBy own F unread now x rest m r → ReadsBy own F unread now (f x) rest m (r >>= λ v. Ok (f v.0, v.1, v.2))
reads_map F unread now f x rest m r h = record { later = h.later; is = rw h.is refl; len = h.len; after = h.after }

-- a step that reads what these tokens spell
abbrev pub StepReads : {X : Type 0} → List Node → One → List ℕ → Step X → (X → List Token) → (X → Type 0) → Type 0
StepReads {X} F S unread step toks P = (x : X) (now : Progress) (bs rest : List ℕ) (m : ℕ) → P x → SpellsAll S (toks x) (length now.nodes) bs rest m → Ready F unread now → Reads F unread now x rest m (step now bs)

pub many_reads : {X : Type 0} (F : List Node) (S : One) (unread : List ℕ) (step : Step X) (toks : X → List Token) (P : X → Type 0) → StepReads F S unread step toks P
    → (xs : List X) (now : Progress) (bs rest : List ℕ) (m : ℕ) → All P xs → SpellsAll S (flat_map toks xs) (length now.nodes) bs rest m → Ready F unread now → Reads F unread now xs rest m (many_at step (length xs) now bs)
unfolding many_at
many_reads F S unread step toks P one [] now bs rest m p h ready = rw h.0 (reads_done F unread now [] rest m h.1 ready)
many_reads F S unread step toks P one (x ∷ xs) now bs rest m p h ready =
    let s = spells_split S (toks x) (flat_map toks xs) (length now.nodes) bs rest m h in
    let first = one x now bs s.0 s.1 (p zero x (omega arith)) s.2 ready in
    let second = many_reads F S unread step toks P one xs first.later s.0 rest m (all_rest P x xs p) (moved S (flat_map toks xs) (length first.later.nodes) s.1 s.0 rest m first.len s.3) first.after.ready in
    reads_then F unread now x s.0 s.1 (step now bs) _ (x ∷ xs) rest m first (reads_map F unread first.later (λ l. x ∷ l) xs rest m (many_at step (length xs) first.later s.0) second)

pub map_flat : {X : Type 0} (f : X → Token) (xs : List X) → map f xs ≡ flat_map (λ x. f x ∷ []) xs
map_flat f [] = refl
map_flat f (x ∷ xs) = ap (λ (l : List Token). f x ∷ l) (map_flat f xs)

-- ---- fields

abbrev pub field_toks : FieldDesc → List Token
field_toks f = raw (letter f.code ∷ []) ∷ short_text f.name ∷ (cond (is_primitive f.code) [] (want (places.Text, f.type_text) ∷ []))

pub fields_flat : (fs : List FieldDesc) → field_tokens fs ≡ flat_map field_toks fs
fields_flat [] = refl
fields_flat (f ∷ fs) = go (is_primitive f.code) (fields_flat fs)
  where
    go : (b : Bool) → field_tokens fs ≡ flat_map field_toks fs
        → raw (letter f.code ∷ []) ∷ short_text f.name ∷ (cond b (field_tokens fs) (want (places.Text, f.type_text) ∷ field_tokens fs))
        ≡ raw (letter f.code ∷ []) ∷ short_text f.name ∷ (cond b [] (want (places.Text, f.type_text) ∷ []) ++ flat_map field_toks fs)
    go true e = ap (λ (l : List Token). raw (letter f.code ∷ []) ∷ short_text f.name ∷ l) e
    go false e = ap (λ (l : List Token). raw (letter f.code ∷ []) ∷ short_text f.name ∷ want (places.Text, f.type_text) ∷ l) e

-- the field's name is short, and its type text fits
pub record FieldFits (F : List Node) (f : FieldDesc) : Type 0 where
  pub is_short : length (utf f.name) < 2 ^ 16
  pub units : AreUnits f.name
  pub typed : fits_type F f.code f.type_text ≡ true

type_settled : (F N : List Node) (code : TypeCode) (s : Slot) → Settled F N places.Text s → fits_type F code s ≡ true → fits_type N code s ≡ true
type_settled F N code slots.Null settled h = h
type_settled F N code (slots.Node k) settled h = subst (λ o. (not (is_primitive code) && fits_node code o) ≡ true) (settled k refl) h

type_reads : (F : List Node) (S : Spelling) (inner : Slots) → IsComplete F S inner → (unread : List ℕ) (end at : ℕ) (f : FieldDesc) (b : Bool) (now : Progress) (bs rest : List ℕ) (m : ℕ) → is_primitive f.code ≡ b → FieldFits F f
    → SpellsAll (S unread) (cond b [] (want (places.Text, f.type_text) ∷ [])) (length now.nodes) bs rest m → Ready F unread now
    → Reads F unread now f rest m (cond b (Ok (field f.code f.name slots.Null, now, bs)) (inner places.Text unread now bs >>= λ t. cond (fits_type t.1.nodes f.code t.0) (Ok (field f.code f.name t.0, t.1, t.2)) (Err (bad bad_desc at))))
type_reads F S inner complete unread end at f true now bs rest m e fits h ready =
    let same : field f.code f.name slots.Null ≡ f = ap (λ t. field f.code f.name t) (sym (null_type F f.code f.type_text fits.typed e)) in
    rw (same, h.0) (reads_done F unread now f rest m h.1 ready)
type_reads F S inner complete unread end at f false now bs rest m e fits h ready =
    let w = spells_one (S unread) (want (places.Text, f.type_text)) (length now.nodes) bs rest m h in
    let r = complete unread places.Text f.type_text now bs rest m w ready in
    let typed = type_settled F r.reads.later.nodes f.code f.type_text r.settled fits.typed in
    reads_then F unread now f.type_text rest m (inner places.Text unread now bs) _ f rest m r.reads (rw typed (reads_done F unread r.reads.later f rest m (sym r.reads.len) r.reads.after.ready))

pub field_reads : (F : List Node) (S : Spelling) (inner : Slots) → IsComplete F S inner → (unread : List ℕ) (end at : ℕ) → StepReads F (S unread) unread (field_at end at (inner places.Text unread)) field_toks (FieldFits F)
unfolding field_at field_of
field_reads F S inner complete unread end at f now bs rest m fits h ready =
    let b1 = h.0 in
    let t = h.3 in
    let begins : bs ≡ letter f.code ∷ b1 = h.2.0 in
    let name : short_at end b1 ≡ Ok (f.name, t.0) = short_back end f.name b1 t.0 fits.is_short fits.units t.2.0 in
    let len : length now.nodes ≡ t.1 = sym (t.2.1 ∙ h.2.1) in
    let rest_of = type_reads F S inner complete unread end at f (is_primitive f.code) now t.0 rest m refl fits (moved (S unread) _ (length now.nodes) t.1 t.0 rest m len t.3) ready in
    rw begins (rw (letter_back f.code) (rw name rest_of))

-- ---- values

abbrev pub signed : (w : Width) (z : ℤ) → FitsSigned w z → cast_signed w (cast_unsigned w z) ≡ z
signed w z p = to_z-of_z w z p

value_reads : (F : List Node) (S : Spelling) (inner : Slots) → IsComplete F S inner → (unread : List ℕ) (code : TypeCode) (v : Value) (now : Progress) (bs rest : List ℕ) (m : ℕ) → ValueOf code v → ValueFits v → SpellsToken (S unread) (value_token v) (length now.nodes) bs rest m → Ready F unread now
    → Reads F unread now v rest m (value_at (inner places.Reference unread) code now bs)
unfolding value_at
value_reads F S inner complete unread codes.Byte v now bs rest m (x, e) fits h ready =
    let t : (bs ≡ x ∷ rest) × (m ≡ length now.nodes) = rw e at h in
    rw e (reads_map F unread now values.Byte x rest m (plain byte_at now bs) (plain_reads F unread now byte_at x bs rest m (ap byte_at t.0) t.1 ready))
value_reads F S inner complete unread codes.Char v now bs rest m (x, e) fits h ready =
    let t : (bs ≡ to_be_bytes w16 x ++ rest) × (m ≡ length now.nodes) = rw e at h in
    rw e (reads_map F unread now values.Char x rest m (plain (number_at w16) now bs) (plain_reads F unread now (number_at w16) x bs rest m (number_back_16 x bs rest (rw e at fits) t.0) t.1 ready))
value_reads F S inner complete unread codes.Double v now bs rest m (x, e) fits h ready =
    let t : (bs ≡ to_be_bytes w64 x ++ rest) × (m ≡ length now.nodes) = rw e at h in
    rw e (reads_map F unread now values.Double x rest m (plain (number_at w64) now bs) (plain_reads F unread now (number_at w64) x bs rest m (number_back_64 x bs rest (rw e at fits) t.0) t.1 ready))
value_reads F S inner complete unread codes.Float v now bs rest m (x, e) fits h ready =
    let t : (bs ≡ to_be_bytes w32 x ++ rest) × (m ≡ length now.nodes) = rw e at h in
    rw e (reads_map F unread now values.Float x rest m (plain (number_at w32) now bs) (plain_reads F unread now (number_at w32) x bs rest m (number_back_32 x bs rest (rw e at fits) t.0) t.1 ready))
value_reads F S inner complete unread codes.Int v now bs rest m (x, e) fits h ready =
    let t : (bs ≡ to_be_bytes w32 (cast_unsigned w32 x) ++ rest) × (m ≡ length now.nodes) = rw e at h in
    let f : FitsSigned w32 x = rw e at fits in
    let r = reads_map F unread now (λ n. values.Int (cast_signed w32 n)) (cast_unsigned w32 x) rest m (plain (number_at w32) now bs) (plain_reads F unread now (number_at w32) (cast_unsigned w32 x) bs rest m (number_back_32 (cast_unsigned w32 x) bs rest (below_32 x f) t.0) t.1 ready) in
    rw e (subst (λ (z : ℤ). Reads F unread now (values.Int z) rest m (plain (number_at w32) now bs >>= λ n. Ok (values.Int (cast_signed w32 n.0), n.1, n.2))) (signed w32 x f) r)
value_reads F S inner complete unread codes.Long v now bs rest m (x, e) fits h ready =
    let t : (bs ≡ to_be_bytes w64 (cast_unsigned w64 x) ++ rest) × (m ≡ length now.nodes) = rw e at h in
    let f : FitsSigned w64 x = rw e at fits in
    let r = reads_map F unread now (λ n. values.Long (cast_signed w64 n)) (cast_unsigned w64 x) rest m (plain (number_at w64) now bs) (plain_reads F unread now (number_at w64) (cast_unsigned w64 x) bs rest m (number_back_64 (cast_unsigned w64 x) bs rest (below_64 x f) t.0) t.1 ready) in
    rw e (subst (λ (z : ℤ). Reads F unread now (values.Long z) rest m (plain (number_at w64) now bs >>= λ n. Ok (values.Long (cast_signed w64 n.0), n.1, n.2))) (signed w64 x f) r)
value_reads F S inner complete unread codes.Short v now bs rest m (x, e) fits h ready =
    let t : (bs ≡ to_be_bytes w16 (cast_unsigned w16 x) ++ rest) × (m ≡ length now.nodes) = rw e at h in
    let f : FitsSigned w16 x = rw e at fits in
    let r = reads_map F unread now (λ n. values.Short (cast_signed w16 n)) (cast_unsigned w16 x) rest m (plain (number_at w16) now bs) (plain_reads F unread now (number_at w16) (cast_unsigned w16 x) bs rest m (number_back_16 (cast_unsigned w16 x) bs rest (below_16 x f) t.0) t.1 ready) in
    rw e (subst (λ (z : ℤ). Reads F unread now (values.Short z) rest m (plain (number_at w16) now bs >>= λ n. Ok (values.Short (cast_signed w16 n.0), n.1, n.2))) (signed w16 x f) r)
value_reads F S inner complete unread codes.Boolean v now bs rest m (x, e) fits h ready =
    let t : SpellsToken (S unread) (truth x) (length now.nodes) bs rest m = rw e at h in
    rw e (truth_reads F unread values.Boolean x (S unread) now bs rest m t ready)
  where
    truth_reads : (F : List Node) (unread : List ℕ) (f : Bool → Value) (x : Bool) (S : One) (now : Progress) (bs rest : List ℕ) (m : ℕ) → SpellsToken S (truth x) (length now.nodes) bs rest m → Ready F unread now → Reads F unread now (f x) rest m (plain byte_at now bs >>= λ b. Ok (f (is_true b.0), b.1, b.2))
    truth_reads F unread f true S now bs rest m (b, e, len) ready =
        let yes : is_true (suc b) ≡ true = rw (eqb-suc-zero b) refl in
        subst (λ (z : Bool). Reads F unread now (f z) rest m (plain byte_at now bs >>= λ b. Ok (f (is_true b.0), b.1, b.2))) yes
        (reads_map F unread now (λ b. f (is_true b)) (suc b) rest m (plain byte_at now bs) (plain_reads F unread now byte_at (suc b) bs rest m (ap byte_at e) len ready))
    truth_reads F unread f false S now bs rest m (e, len) ready =
        reads_map F unread now (λ b. f (is_true b)) 0 rest m (plain byte_at now bs) (plain_reads F unread now byte_at 0 bs rest m (ap byte_at e) len ready)
value_reads F S inner complete unread codes.Array v now bs rest m (s, e) fits h ready =
    let t : S unread (places.Reference, s) (length now.nodes) bs rest m = rw e at h in
    rw e (reads_map F unread now values.Ref s rest m (inner places.Reference unread now bs) (complete unread places.Reference s now bs rest m t ready).reads)
value_reads F S inner complete unread codes.Object v now bs rest m (s, e) fits h ready =
    let t : S unread (places.Reference, s) (length now.nodes) bs rest m = rw e at h in
    rw e (reads_map F unread now values.Ref s rest m (inner places.Reference unread now bs) (complete unread places.Reference s now bs rest m t ready).reads)

pub values_reads : (F : List Node) (S : Spelling) (inner : Slots) → IsComplete F S inner → (unread : List ℕ) (fs : List FieldDesc) (vs : List Value) (now : Progress) (bs rest : List ℕ) (m : ℕ) → fit_values fs vs ≡ true → All ValueFits vs
    → SpellsAll (S unread) (map value_token vs) (length now.nodes) bs rest m → Ready F unread now → Reads F unread now vs rest m (values_at (inner places.Reference unread) fs now bs)
unfolding values_at fit_values
values_reads F S inner complete unread [] [] now bs rest m fit p h ready = rw h.0 (reads_done F unread now [] rest m h.1 ready)
values_reads F S inner complete unread (f ∷ fs) (v ∷ vs) now bs rest m fit p h ready =
    let a = and_parts (fits_value f.code v) (fit_values fs vs) fit in
    let first = value_reads F S inner complete unread f.code v now bs h.0 h.1 (value_of f.code v a.0) (p zero v (omega arith)) h.2 ready in
    let second = values_reads F S inner complete unread fs vs first.later h.0 rest m a.1 (all_rest ValueFits v vs p) (moved (S unread) (map value_token vs) (length first.later.nodes) h.1 h.0 rest m first.len h.3) first.after.ready in
    reads_then F unread now v h.0 h.1 (value_at (inner places.Reference unread) f.code now bs) _ (v ∷ vs) rest m first (reads_map F unread first.later (λ l. v ∷ l) vs rest m (values_at (inner places.Reference unread) fs first.later h.0) second)
values_reads F S inner complete unread [] (v ∷ vs) now bs rest m fit p h ready = absurd cc
values_reads F S inner complete unread (f ∷ fs) [] now bs rest m fit p h ready = absurd cc
