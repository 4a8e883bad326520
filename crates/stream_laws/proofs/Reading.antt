-- Reading a reference answers what the bytes give of it.
use Rattle.std.proofs.Common.{◌≡◌, ◌≢◌, ◌⊎◌, ◌<◌, ◌≤◌, ◌+◌, ◌-◌, ◌^◌, ℕ, zero, suc, Bool, true, false, cond, eqb, ltb, List, [], ◌∷◌, ◌++◌, length, Option, Some, None, Result, Ok, Err, refl, sym, ap, subst, ◌∙◌, arith, inl, inr}
use Rattle.std.proofs.lemmas.Bool.{eqb-true, eqb-false, ne_eqb, ltb-true, ltb-false, lt-ltb, le-ltb}
use Rattle.std.specs.Prelude.{ℤ}
use Rattle.std.specs.Int.{Width, w16, w32, w64, byte_len, from_be_bytes, cast_signed}
use Rattle.mod_utf.specs.Utf.{Utf}
use Rattle.mod_utf.specs.Decoding.{decoded_units}
use Rattle.mod_utf.proofs.Decoded.{decoded_sound, is_text, gives_text}
use Rattle.class_desc.specs.declared.slot.Slot.{Slot}
use Rattle.class_desc.specs.declared.slot.Slot.TheVariants as slots
use Rattle.class_desc.specs.declared.slot.Item.{Item}
use Rattle.class_desc.specs.declared.slot.Item.TheVariants as items
use Rattle.class_desc.specs.declared.field.TypeCode.{TypeCode}
use Rattle.class_desc.specs.declared.field.TypeCode.TheVariants as codes
use Rattle.class_desc.specs.declared.field.FieldDesc.{FieldDesc}
use Rattle.class_desc.specs.TypeCode.{is_primitive}
use Rattle.class_desc.specs.TypeText.{code_of}
use Rattle.ser_values.specs.declared.value.Value.{Value}
use Rattle.ser_values.specs.declared.value.Value.TheVariants as values
use Rattle.ser_values.specs.declared.value.Values.TheVariants as kinds
use Rattle.ser_values.specs.declared.value.Part.{Part}
use Rattle.ser_values.specs.declared.node.SlotPlace.{SlotPlace}
use Rattle.ser_values.specs.declared.node.SlotPlace.TheVariants as places
use Rattle.ser_values.specs.Shape.{fits_type}
use Rattle.ser_values.specs.declared.limits.TheConstants.{PARTS}
use Rattle.stream_grammar.specs.Spelled.{joined}
use Rattle.stream_grammar.specs.Reading.{Fault, bad, bad_desc, too_many, add_parts, counting, ◌>>=◌, Plain, byte_at, take_at, number_at, size_at, units_of, units_at, short_at, long_at, Progress, Step, Slots, plain, map_step, many_at, blocks_at, items_at, field, field_of, field_at, is_true, value_at, values_at, elements_at, Row, note_at, parts_at}
use Rattle.stream_grammar.specs.Faults.{DescHead, desc_head_at}
use Rattle.stream_grammar.proofs.PlainSound.{bind_ok, chosen, done, passed, guarded, ok_is, byte_sound, take_sound, units_ok}
use Rattle.stream_grammar.proofs.Plains.{take_back}
use Rattle.stream_laws.specs.Reads.{HasByte, HasNumber, HasSize, HasUnits, HasText, HasLongText, Gives, References, Plainly, As, Many, HasValue, HasValues, HasElements, HasBlock, BeginsReference, Follow, HasNote, HasField, HasDescHead, HasNoteIf, HasParts}

pub ok_first : {A B : Type 0} (r : Result A Fault) (k : A → Result B Fault) (x : A) (y : Result B Fault) → r ≡ Ok x → k x ≡ y → (r >>= k) ≡ y
ok_first r k x y e h = ap (λ z. z >>= k) e ∙ h

-- ---- parts that are counted

-- They have room where what counts them answers.
pub room_of : {A : Type 0} (n at : ℕ) (now : Progress) (r : Result A Fault) (y : A) → cond (ltb PARTS (now.parts + n)) (Err (too_many at)) r ≡ Ok y → (now.parts + n ≤ PARTS) × (r ≡ Ok y)
room_of n at now r y e = let g = guarded (ltb PARTS (now.parts + n)) (too_many at) r y e in (ltb-false PARTS (now.parts + n) g.0, g.1)

pub with_room : {A : Type 0} (n at : ℕ) (now : Progress) (r y : Result A Fault) → now.parts + n ≤ PARTS → r ≡ y → cond (ltb PARTS (now.parts + n)) (Err (too_many at)) r ≡ y
with_room n at now r y room e = rw (le-ltb PARTS (now.parts + n) room) e

-- ---- numbers and texts

pub byte_has : (bs : List ℕ) (x : ℕ × List ℕ) → byte_at bs ≡ Ok x → HasByte bs x
byte_has bs x e = byte_sound bs x e

pub has_byte : (bs : List ℕ) (x : ℕ × List ℕ) → HasByte bs x → byte_at bs ≡ Ok x
has_byte bs x e = ap byte_at e

pub number_has : (w : Width) (bs : List ℕ) (n : ℕ × List ℕ) → number_at w bs ≡ Ok n → HasNumber w bs n
number_has w bs n e =
    let a = bind_ok (take_at (byte_len w) bs) _ n e in
    let s = take_sound (byte_len w) bs a.0 a.1 in
    let same : (from_be_bytes w a.0.0, a.0.1) ≡ n = ok_is (from_be_bytes w a.0.0, a.0.1) n a.2 in
    (a.0.0, s.0 ∙ ap (λ (y : ℕ × List ℕ). a.0.0 ++ y.1) same, s.1, sym (ap (λ (y : ℕ × List ℕ). y.0) same))

pub has_number : (w : Width) (bs : List ℕ) (n : ℕ × List ℕ) → HasNumber w bs n → number_at w bs ≡ Ok n
has_number w bs n (digits, is, len, number) =
    ap (number_at w) is ∙ ok_first (take_at (byte_len w) (digits ++ n.1)) _ (digits, n.1) _ (ap (λ k. take_at k (digits ++ n.1)) (sym len) ∙ take_back digits n.1) (ap (λ k. done (k, n.1)) (sym number))

pub size_has : (end : ℕ) (w : Width) (bound : ℕ) (bs : List ℕ) (n : ℕ × List ℕ) → size_at end w bound bs ≡ Ok n → HasSize w bound bs n
unfolding size_at
size_has end w bound bs n e =
    let a = bind_ok (number_at w bs) _ n e in
    let p = passed (ltb a.0.0 bound) (Ok a.0) _ n a.2 in
    let same : a.0 ≡ n = ok_is a.0 n p.1 in
    (number_has w bs n (a.1 ∙ ap (λ (y : ℕ × List ℕ). done y) same), subst (λ (y : ℕ × List ℕ). y.0 < bound) same (ltb-true a.0.0 bound p.0))

pub has_size : (end : ℕ) (w : Width) (bound : ℕ) (bs : List ℕ) (n : ℕ × List ℕ) → HasSize w bound bs n → size_at end w bound bs ≡ Ok n
unfolding size_at
has_size end w bound bs n (h, lt) = ok_first (number_at w bs) _ n _ (has_number w bs n h) (rw (lt-ltb n.0 bound lt) refl)

units_has : (end n : ℕ) (bs : List ℕ) (y : List ℕ × List ℕ) → units_at end n bs ≡ Ok y → HasUnits n bs y
unfolding units_at
units_has end n bs y e =
    let a = bind_ok (take_at n bs) _ y e in
    let b = bind_ok (units_of (end - length bs) (decoded_units a.0.0)) _ y a.2 in
    let s = take_sound n bs a.0 a.1 in
    let u = is_text b.0 a.0.0 (decoded_sound a.0.0 b.0 (units_ok (end - length bs) (decoded_units a.0.0) b.0 b.1)) in
    let same : (b.0, a.0.1) ≡ y = ok_is (b.0, a.0.1) y b.2 in
    (a.0.0, s.0 ∙ ap (λ (y : List ℕ × List ℕ). a.0.0 ++ y.1) same, s.1, subst (λ (y : List ℕ × List ℕ). Utf y.0 a.0.0) same u)

has_units : (end n : ℕ) (bs : List ℕ) (y : List ℕ × List ℕ) → HasUnits n bs y → units_at end n bs ≡ Ok y
unfolding units_at
has_units end n bs y (bytes, is, len, u) =
    ok_first (take_at n bs) _ (bytes, y.1) _ (ap (take_at n) is ∙ (ap (λ k. take_at k (bytes ++ y.1)) (sym len) ∙ take_back bytes y.1))
    (ok_first (units_of (end - length bs) (decoded_units bytes)) _ y.0 _ (ap (units_of (end - length bs)) (gives_text bytes y.0 u)) refl)

pub text_has : (end : ℕ) (bs : List ℕ) (y : List ℕ × List ℕ) → short_at end bs ≡ Ok y → HasText bs y
unfolding short_at
text_has end bs y e = let a = bind_ok (number_at w16 bs) _ y e in (a.0, number_has w16 bs a.0 a.1, units_has end a.0.0 a.0.1 y a.2)

pub has_text : (end : ℕ) (bs : List ℕ) (y : List ℕ × List ℕ) → HasText bs y → short_at end bs ≡ Ok y
unfolding short_at
has_text end bs y (n, h, u) = ok_first (number_at w16 bs) _ n _ (has_number w16 bs n h) (has_units end n.0 n.1 y u)

pub long_has : (end : ℕ) (bs : List ℕ) (y : List ℕ × List ℕ) → long_at end bs ≡ Ok y → HasLongText bs y
unfolding long_at
long_has end bs y e = let a = bind_ok (size_at end w64 (2 ^ 63) bs) _ y e in (a.0, size_has end w64 (2 ^ 63) bs a.0 a.1, units_has end a.0.0 a.0.1 y a.2)

pub has_long : (end : ℕ) (bs : List ℕ) (y : List ℕ × List ℕ) → HasLongText bs y → long_at end bs ≡ Ok y
unfolding long_at
has_long end bs y (n, h, u) = ok_first (size_at end w64 (2 ^ 63) bs) _ n _ (has_size end w64 (2 ^ 63) bs n h) (has_units end n.0 n.1 y u)

-- ---- steps

-- a step answers what is said
pub record Same {A : Type 0} (step : Step A) (G : Gives A) : Type 0 where
  pub to : (now : Progress) (bs : List ℕ) (y : A × Progress × List ℕ) → step now bs ≡ Ok y → G now bs y
  pub from : (now : Progress) (bs : List ℕ) (y : A × Progress × List ℕ) → G now bs y → step now bs ≡ Ok y

pub same_plain : {A : Type 0} (read : List ℕ → Plain A) (G : List ℕ → A × List ℕ → Type 0) → ((bs : List ℕ) (x : A × List ℕ) → read bs ≡ Ok x → G bs x) → ((bs : List ℕ) (x : A × List ℕ) → G bs x → read bs ≡ Ok x) → Same (plain read) (Plainly G)
same_plain read G to from = record {
  to = λ now bs y e. (let a = bind_ok (read bs) _ y e in (a.0, to bs a.0 a.1, sym (ok_is _ y a.2)));
  from = λ now bs y h. ok_first (read bs) _ h.0 _ (from bs h.0 h.1) (ap (λ z. done z) (sym h.2));
}

pub same_map : {A B : Type 0} (g : A → B) (step : Step A) (G : Gives A) → Same step G → Same (map_step g step) (As g G)
same_map g step G s = record {
  to = λ now bs y e. (let a = bind_ok (step now bs) _ y e in (a.0, s.to now bs a.0 a.1, sym (ok_is _ y a.2)));
  from = λ now bs y h. ok_first (step now bs) _ h.0 _ (s.from now bs h.0 h.1) (ap (λ z. done z) (sym h.2));
}

many_to : {A : Type 0} (step : Step A) (G : Gives A) → Same step G → (n : ℕ) (now : Progress) (bs : List ℕ) (y : List A × Progress × List ℕ) → many_at step n now bs ≡ Ok y → Many G n now bs y
unfolding many_at
many_to step G s zero now bs y e = sym (ok_is _ y e)
many_to step G s (suc n) now bs y e =
    let a = bind_ok (step now bs) _ y e in
    let b = bind_ok (many_at step n a.0.1 a.0.2) _ y a.2 in
    (a.0, s.to now bs a.0 a.1, b.0, many_to step G s n a.0.1 a.0.2 b.0 b.1, sym (ok_is _ y b.2))

many_from : {A : Type 0} (step : Step A) (G : Gives A) → Same step G → (n : ℕ) (now : Progress) (bs : List ℕ) (y : List A × Progress × List ℕ) → Many G n now bs y → many_at step n now bs ≡ Ok y
unfolding many_at
many_from step G s zero now bs y h = ap (λ z. done z) (sym h)
many_from step G s (suc n) now bs y (x, g, xs, more, same) = ok_first (step now bs) _ x _ (s.from now bs x g) (ok_first (many_at step n x.1 x.2) _ xs _ (many_from step G s n x.1 x.2 xs more) (ap (λ z. done z) (sym same)))

pub same_many : {A : Type 0} (step : Step A) (G : Gives A) → Same step G → (n : ℕ) → Same (many_at step n) (Many G n)
same_many step G s n = record { to = many_to step G s n; from = many_from step G s n }

same_byte : Same (plain byte_at) (Plainly HasByte)
same_byte = same_plain byte_at HasByte byte_has has_byte

same_number : (w : Width) → Same (plain (number_at w)) (Plainly (HasNumber w))
same_number w = same_plain (number_at w) (HasNumber w) (number_has w) (has_number w)

pub same_text : (end : ℕ) → Same (plain (short_at end)) (Plainly HasText)
same_text end = same_plain (short_at end) HasText (text_has end) (has_text end)

-- ---- values and elements

pub same_value : (step : Step Slot) (R : Gives Slot) → Same step R → (code : TypeCode) → Same (value_at step code) (HasValue R code)
unfolding value_at
same_value step R s codes.Byte = same_map values.Byte (plain byte_at) (Plainly HasByte) same_byte
same_value step R s codes.Char = same_map values.Char (plain (number_at w16)) (Plainly (HasNumber w16)) (same_number w16)
same_value step R s codes.Double = same_map values.Double (plain (number_at w64)) (Plainly (HasNumber w64)) (same_number w64)
same_value step R s codes.Float = same_map values.Float (plain (number_at w32)) (Plainly (HasNumber w32)) (same_number w32)
same_value step R s codes.Int = same_map (λ n. values.Int (cast_signed w32 n)) (plain (number_at w32)) (Plainly (HasNumber w32)) (same_number w32)
same_value step R s codes.Long = same_map (λ n. values.Long (cast_signed w64 n)) (plain (number_at w64)) (Plainly (HasNumber w64)) (same_number w64)
same_value step R s codes.Short = same_map (λ n. values.Short (cast_signed w16 n)) (plain (number_at w16)) (Plainly (HasNumber w16)) (same_number w16)
same_value step R s codes.Boolean = same_map (λ b. values.Boolean (is_true b)) (plain byte_at) (Plainly HasByte) same_byte
same_value step R s codes.Array = same_map values.Ref step R s
same_value step R s codes.Object = same_map values.Ref step R s

values_to : (step : Step Slot) (R : Gives Slot) → Same step R → (fs : List FieldDesc) (now : Progress) (bs : List ℕ) (y : List Value × Progress × List ℕ) → values_at step fs now bs ≡ Ok y → HasValues R fs now bs y
unfolding values_at
values_to step R s [] now bs y e = sym (ok_is _ y e)
values_to step R s (d ∷ fs) now bs y e =
    let a = bind_ok (value_at step d.code now bs) _ y e in
    let b = bind_ok (values_at step fs a.0.1 a.0.2) _ y a.2 in
    (a.0, (same_value step R s d.code).to now bs a.0 a.1, b.0, values_to step R s fs a.0.1 a.0.2 b.0 b.1, sym (ok_is _ y b.2))

values_from : (step : Step Slot) (R : Gives Slot) → Same step R → (fs : List FieldDesc) (now : Progress) (bs : List ℕ) (y : List Value × Progress × List ℕ) → HasValues R fs now bs y → values_at step fs now bs ≡ Ok y
unfolding values_at
values_from step R s [] now bs y h = ap (λ z. done z) (sym h)
values_from step R s (d ∷ fs) now bs y (x, g, xs, more, same) = ok_first (value_at step d.code now bs) _ x _ ((same_value step R s d.code).from now bs x g) (ok_first (values_at step fs x.1 x.2) _ xs _ (values_from step R s fs x.1 x.2 xs more) (ap (λ z. done z) (sym same)))

pub same_values : (step : Step Slot) (R : Gives Slot) → Same step R → (fs : List FieldDesc) → Same (values_at step fs) (HasValues R fs)
same_values step R s fs = record { to = values_to step R s fs; from = values_from step R s fs }

pub same_elements : (step : Step Slot) (R : Gives Slot) → Same step R → (code : TypeCode) (n : ℕ) → Same (elements_at step code n) (HasElements R code n)
unfolding elements_at
same_elements step R s codes.Byte n = same_map kinds.Bytes (many_at (plain byte_at) n) _ (same_many (plain byte_at) _ same_byte n)
same_elements step R s codes.Char n = same_map kinds.Chars (many_at (plain (number_at w16)) n) _ (same_many (plain (number_at w16)) _ (same_number w16) n)
same_elements step R s codes.Double n = same_map kinds.Doubles (many_at (plain (number_at w64)) n) _ (same_many (plain (number_at w64)) _ (same_number w64) n)
same_elements step R s codes.Float n = same_map kinds.Floats (many_at (plain (number_at w32)) n) _ (same_many (plain (number_at w32)) _ (same_number w32) n)
same_elements step R s codes.Int n =
    let one : Step ℤ = map_step (λ k. cast_signed w32 k) (plain (number_at w32)) in
    same_map kinds.Ints (many_at one n) _ (same_many one _ (same_map (λ k. cast_signed w32 k) (plain (number_at w32)) _ (same_number w32)) n)
same_elements step R s codes.Long n =
    let one : Step ℤ = map_step (λ k. cast_signed w64 k) (plain (number_at w64)) in
    same_map kinds.Longs (many_at one n) _ (same_many one _ (same_map (λ k. cast_signed w64 k) (plain (number_at w64)) _ (same_number w64)) n)
same_elements step R s codes.Short n =
    let one : Step ℤ = map_step (λ k. cast_signed w16 k) (plain (number_at w16)) in
    same_map kinds.Shorts (many_at one n) _ (same_many one _ (same_map (λ k. cast_signed w16 k) (plain (number_at w16)) _ (same_number w16)) n)
same_elements step R s codes.Boolean n =
    let one : Step Bool = map_step is_true (plain byte_at) in
    same_map kinds.Bools (many_at one n) _ (same_many one _ (same_map is_true (plain byte_at) _ same_byte) n)
same_elements step R s codes.Array n = same_map kinds.Refs (many_at step n) _ (same_many step R s n)
same_elements step R s codes.Object n = same_map kinds.Refs (many_at step n) _ (same_many step R s n)

-- ---- annotations

-- the bytes of a block of the short form
pub short_block : (bs : List ℕ) (n : ℕ × List ℕ) (t : List ℕ × List ℕ) → byte_at bs ≡ Ok n → take_at n.0 n.1 ≡ Ok t → bs ≡ length t.0 ∷ (t.0 ++ t.1)
short_block bs n t e h = let s = take_sound n.0 n.1 t h in byte_sound bs n e ∙ (ap (λ k. k ∷ n.1) (sym s.1) ∙ ap (λ (l : List ℕ). length t.0 ∷ l) s.0)

-- and of the long one
pub long_block : (end : ℕ) (bs : List ℕ) (n : ℕ × List ℕ) (t : List ℕ × List ℕ) → size_at end w32 (2 ^ 31) bs ≡ Ok n → take_at n.0 n.1 ≡ Ok t → HasBlock t.0 (0x7A ∷ bs) t.1
long_block end bs n t e h =
    let s = take_sound n.0 n.1 t h in
    let z = size_has end w32 (2 ^ 31) bs n e in
    let d = z.0 in
    let less : length t.0 < 2 ^ 31 = subst (λ k. k < 2 ^ 31) (sym s.1) z.1 in
    inr (d.0, d.2, sym d.3 ∙ sym s.1, less, ap (λ (l : List ℕ). 0x7A ∷ l) (d.1 ∙ ap (λ (l : List ℕ). d.0 ++ l) s.0))

-- blocks and references up to the end of an annotation, fewer than these
record Noted (R : Gives Slot) (most : ℕ) (now : Progress) (bs : List ℕ) (y : List Item × Progress × List ℕ) : Type 0 where
  fewer : length y.0 < most
  follow : Follow true R y.0 now bs y.1 (0x78 ∷ y.2)

abbrev all_of : List Item → Progress → List ℕ → Result (List Item × Progress × List ℕ) Fault
all_of is now bs = Ok (is, now, bs)

abbrev more_of : Item → List Item × Progress × List ℕ → List Item × Progress × List ℕ
more_of i is = (i ∷ is.0, is.1, is.2)

noted_block : (R : Gives Slot) (p : List ℕ) (most : ℕ) (now : Progress) (bs rest : List ℕ) (is : List Item × Progress × List ℕ) → HasBlock p bs rest → Noted R most now rest is → Noted R (suc most) now bs (more_of (items.Bytes p) is)
noted_block R p most now bs rest is block h = record { fewer = omega (arith, h.fewer); follow = (rest, block, h.follow) }

blocks_to : (end : ℕ) (step : Step Slot) (R : Gives Slot) → Same step R → (most : ℕ) (now : Progress) (bs : List ℕ) (y : List Item × Progress × List ℕ) → blocks_at end step true most now bs ≡ Ok y → Noted R most now bs y
unfolding blocks_at
blocks_to end step R s zero now bs y e = absurd cc
blocks_to end step R s (suc most) now [] y e = absurd cc
blocks_to end step R s (suc most) now (c ∷ bs) y e = elim (chosen (eqb c 0x78) _ _ _ e) [
  | inl p ↦ subst (λ (y : List Item × Progress × List ℕ). Noted R (suc most) now (c ∷ bs) y) (ok_is ([], now, bs) y p.1) (record { fewer = omega arith; follow = (ap (λ k. k ∷ bs) (eqb-true c 0x78 p.0), refl) })
  | inr p ↦ elim (chosen (eqb c 0x77) _ _ _ p.1) [
    | inl q ↦ (
        let n = bind_ok (byte_at bs) _ y q.1 in
        let t = bind_ok (take_at n.0.0 n.0.1) _ y n.2 in
        let is = bind_ok (blocks_at end step true most now t.0.1) _ y t.2 in
        let block : c ∷ bs ≡ 0x77 ∷ length t.0.0 ∷ (t.0.0 ++ t.0.1) = ap (λ k. k ∷ bs) (eqb-true c 0x77 q.0) ∙ ap (λ (l : List ℕ). 0x77 ∷ l) (short_block bs n.0 t.0 n.1 t.1) in
        subst (λ (y : List Item × Progress × List ℕ). Noted R (suc most) now (c ∷ bs) y) (ok_is (more_of (items.Bytes t.0.0) is.0) y is.2)
        (noted_block R t.0.0 most now (c ∷ bs) t.0.1 is.0 (inl block) (blocks_to end step R s most now t.0.1 is.0 is.1)))
    | inr q ↦ elim (chosen (eqb c 0x7A) _ _ _ q.1) [
      | inl r ↦ (
          let n = bind_ok (size_at end w32 (2 ^ 31) bs) _ y r.1 in
          let t = bind_ok (take_at n.0.0 n.0.1) _ y n.2 in
          let is = bind_ok (blocks_at end step true most now t.0.1) _ y t.2 in
          let block : HasBlock t.0.0 (c ∷ bs) t.0.1 = subst (λ k. HasBlock t.0.0 (k ∷ bs) t.0.1) (sym (eqb-true c 0x7A r.0)) (long_block end bs n.0 t.0 n.1 t.1) in
          subst (λ (y : List Item × Progress × List ℕ). Noted R (suc most) now (c ∷ bs) y) (ok_is (more_of (items.Bytes t.0.0) is.0) y is.2)
          (noted_block R t.0.0 most now (c ∷ bs) t.0.1 is.0 block (blocks_to end step R s most now t.0.1 is.0 is.1)))
      | inr r ↦ (
          let a = bind_ok (step now (c ∷ bs)) _ y r.1 in
          let g = room_of 1 (end - length (c ∷ bs)) a.0.1 (blocks_at end step true most (add_parts 1 a.0.1) a.0.2 >>= λ is. all_of (items.Ref a.0.0 ∷ is.0) is.1 is.2) y a.2 in
          let is = bind_ok (blocks_at end step true most (add_parts 1 a.0.1) a.0.2) _ y g.1 in
          let h = blocks_to end step R s most (add_parts 1 a.0.1) a.0.2 is.0 is.1 in
          let begins : BeginsReference true (c ∷ bs) = record { code = c; rest = bs; is = refl; goes_on = λ inside. eqb-false c 0x78 p.0; no_block = eqb-false c 0x77 q.0; no_long_block = eqb-false c 0x7A r.0 } in
          subst (λ (y : List Item × Progress × List ℕ). Noted R (suc most) now (c ∷ bs) y) (ok_is (more_of (items.Ref a.0.0) is.0) y is.2)
          (record { fewer = omega (arith, h.fewer); follow = (begins, a.0.1, a.0.2, s.to now (c ∷ bs) a.0 a.1, g.0, h.follow) }))
    ]
  ]
]

-- what stands in front is read
block_read : (end : ℕ) (step : Step Slot) (most : ℕ) (now later : Progress) (p : List ℕ) (is : List Item) (bs rest there : List ℕ) → HasBlock p bs rest → blocks_at end step true most now rest ≡ all_of is later there → blocks_at end step true (suc most) now bs ≡ all_of (items.Bytes p ∷ is) later there
unfolding blocks_at
block_read end step most now later p is bs rest there (inl begins) h = rw begins (ok_first (take_at (length p) (p ++ rest)) _ (p, rest) _ (take_back p rest) (ok_first (blocks_at end step true most now rest) _ (is, later, there) _ h refl))
block_read end step most now later p is bs rest there (inr (digits, four, number, low, begins)) h =
    rw begins (ok_first (size_at end w32 (2 ^ 31) (digits ++ (p ++ rest))) _ (length p, p ++ rest) _ (has_size end w32 (2 ^ 31) (digits ++ (p ++ rest)) (length p, p ++ rest) ((digits, refl, four, sym number), low))
    (ok_first (take_at (length p) (p ++ rest)) _ (p, rest) _ (take_back p rest) (ok_first (blocks_at end step true most now rest) _ (is, later, there) _ h refl)))

reference_read : (end : ℕ) (step : Step Slot) (most : ℕ) (now : Progress) (bs : List ℕ) → BeginsReference true bs → blocks_at end step true (suc most) now bs ≡ (step now bs >>= λ s. counting 1 (end - length bs) s.1 (λ next. blocks_at end step true most next s.2 >>= λ is. Ok (items.Ref s.0 ∷ is.0, is.1, is.2)))
unfolding blocks_at
reference_read end step most now bs b = by bs b.code b.rest b.is (b.goes_on refl) b.no_block b.no_long_block
  where
    by : (bs : List ℕ) (c : ℕ) (rest : List ℕ) → bs ≡ c ∷ rest → c ≢ 0x78 → c ≢ 0x77 → c ≢ 0x7A → blocks_at end step true (suc most) now bs ≡ (step now bs >>= λ s. counting 1 (end - length bs) s.1 (λ next. blocks_at end step true most next s.2 >>= λ is. Ok (items.Ref s.0 ∷ is.0, is.1, is.2)))
    by bs c rest is a b d = rw is (rw (ne_eqb c 0x78 a) (rw (ne_eqb c 0x77 b) (rw (ne_eqb c 0x7A d) refl)))

blocks_from : (end : ℕ) (step : Step Slot) (R : Gives Slot) → Same step R → (is : List Item) (most : ℕ) (now later : Progress) (bs there : List ℕ) → length is < most → Follow true R is now bs later (0x78 ∷ there) → blocks_at end step true most now bs ≡ all_of is later there
unfolding blocks_at
blocks_from end step R s is zero now later bs there lt h = absurd (omega arith)
blocks_from end step R s [] (suc most) now later bs there lt (same, still) = rw (same, still) refl
blocks_from end step R s (items.Bytes p ∷ is) (suc most) now later bs there lt (rest, block, h) = block_read end step most now later p is bs rest there block (blocks_from end step R s is most now later rest there (omega arith) h)
blocks_from end step R s (items.Ref x ∷ is) (suc most) now later bs there lt (begins, mid, rest, read, room, h) =
    let next = add_parts 1 mid in
    let more : (blocks_at end step true most next rest >>= λ is. all_of (items.Ref x ∷ is.0) is.1 is.2) ≡ all_of (items.Ref x ∷ is) later there = ok_first (blocks_at end step true most next rest) _ (is, later, there) _ (blocks_from end step R s is most next later rest there (omega arith) h) refl in
    reference_read end step most now bs begins ∙ ok_first (step now bs) _ (x, mid, rest) _ (s.from now bs (x, mid, rest) read) (with_room 1 (end - length bs) mid (blocks_at end step true most next rest >>= λ is. all_of (items.Ref x ∷ is.0) is.1 is.2) (all_of (items.Ref x ∷ is) later there) room more)

pub note_to : (end : ℕ) (step : Step Slot) (R : Gives Slot) → Same step R → (now : Progress) (bs : List ℕ) (y : List Item × Progress × List ℕ) → items_at end step true now bs ≡ Ok y → HasNote R now bs y
unfolding items_at
note_to end step R s now bs y e =
    let a = bind_ok (blocks_at end step true (suc (length bs)) now bs) _ y e in
    let h = blocks_to end step R s (suc (length bs)) now bs a.0 a.1 in
    subst (λ (y : List Item × Progress × List ℕ). HasNote R now bs y) (ok_is (joined a.0.0, a.0.1, a.0.2) y a.2) (record { blocks = a.0.0; few = omega (arith, h.fewer); follow = h.follow; same = refl })

pub note_from : (end : ℕ) (step : Step Slot) (R : Gives Slot) → Same step R → (now : Progress) (bs : List ℕ) (y : List Item × Progress × List ℕ) → HasNote R now bs y → items_at end step true now bs ≡ Ok y
unfolding items_at
note_from end step R s now bs y h =
    ok_first (blocks_at end step true (suc (length bs)) now bs) _ (h.blocks, y.1, y.2) _ (blocks_from end step R s h.blocks (suc (length bs)) now y.1 bs y.2 (omega (arith, h.few)) h.follow) (ap (λ (l : List Item). all_of l y.1 y.2) (sym h.same))

pub same_note : (end : ℕ) (step : Step Slot) (R : Gives Slot) → Same step R → Same (items_at end step true) (HasNote R)
same_note end step R s = record { to = note_to end step R s; from = note_from end step R s }

-- ---- parts

pub same_note_if : (end : ℕ) (step : Step Slot) (R : Gives Slot) → Same step R → (b : Bool) → Same (note_at end step b) (HasNoteIf R b)
unfolding note_at
same_note_if end step R s true = record { to = λ now bs y e. note_to end step R s now bs y e; from = λ now bs y h. note_from end step R s now bs y h }
same_note_if end step R s false = record { to = λ now bs y e. sym (ok_is _ y e); from = λ now bs y h. ap (λ z. done z) (sym h) }

parts_to : (end : ℕ) (step : Step Slot) (R : Gives Slot) → Same step R → (rows : List Row) (now : Progress) (bs : List ℕ) (y : List Part × Progress × List ℕ) → parts_at end step rows now bs ≡ Ok y → HasParts R rows now bs y
unfolding parts_at
parts_to end step R s [] now bs y e = sym (ok_is _ y e)
parts_to end step R s (r ∷ rs) now bs y e =
    let a = bind_ok (values_at step r.0 now bs) _ y e in
    let b = bind_ok (note_at end step r.1 a.0.1 a.0.2) _ y a.2 in
    let c = bind_ok (parts_at end step rs b.0.1 b.0.2) _ y b.2 in
    (a.0, values_to step R s r.0 now bs a.0 a.1, b.0, (same_note_if end step R s r.1).to a.0.1 a.0.2 b.0 b.1, c.0, parts_to end step R s rs b.0.1 b.0.2 c.0 c.1, sym (ok_is _ y c.2))

parts_from : (end : ℕ) (step : Step Slot) (R : Gives Slot) → Same step R → (rows : List Row) (now : Progress) (bs : List ℕ) (y : List Part × Progress × List ℕ) → HasParts R rows now bs y → parts_at end step rows now bs ≡ Ok y
unfolding parts_at
parts_from end step R s [] now bs y h = ap (λ z. done z) (sym h)
parts_from end step R s (r ∷ rs) now bs y (vs, f, is, g, ps, h, same) =
    ok_first (values_at step r.0 now bs) _ vs _ (values_from step R s r.0 now bs vs f) (ok_first (note_at end step r.1 vs.1 vs.2) _ is _ ((same_note_if end step R s r.1).from vs.1 vs.2 is g)
    (ok_first (parts_at end step rs is.1 is.2) _ ps _ (parts_from end step R s rs is.1 is.2 ps h) (ap (λ z. done z) (sym same))))

pub same_parts : (end : ℕ) (step : Step Slot) (R : Gives Slot) → Same step R → (rows : List Row) → Same (parts_at end step rows) (HasParts R rows)
same_parts end step R s rows = record { to = parts_to end step R s rows; from = parts_from end step R s rows }

-- ---- fields

-- `inner` reads references as `R` says
pub record SameReferences (inner : Slots) (R : References) : Type 0 where
  pub at : (p : SlotPlace) (unread : List ℕ) → Same (inner p unread) (R p unread)

field_to : (end at : ℕ) (inner : Slots) (R : References) → SameReferences inner R → (unread : List ℕ) (now : Progress) (bs : List ℕ) (y : FieldDesc × Progress × List ℕ) → field_at end at (inner places.Text unread) now bs ≡ Ok y → HasField R unread now bs y
unfolding field_at field_of
field_to end at inner R s unread now [] y e = absurd cc
field_to end at inner R s unread now (c ∷ rest) y e = by (code_of c) refl e
  where
    by : (kind : Option TypeCode) → code_of c ≡ kind → field_of end at (inner places.Text unread) kind now rest ≡ Ok y → HasField R unread now (c ∷ rest) y
    by None is e = absurd cc
    by (Some code) is e =
        let a = bind_ok (short_at end rest) _ y e in
        elim (chosen (is_primitive code) _ _ _ a.2) [
          | inl p ↦ record { letter = c; rest = rest; is = refl; code = code; typed = is; name = a.0; named = text_has end rest a.0 a.1; gives = inl (p.0, sym (ok_is _ y p.1)) }
          | inr p ↦ (
              let t = bind_ok (inner places.Text unread now a.0.1) _ y p.1 in
              let q = passed (fits_type t.0.1.nodes code t.0.0) _ _ y t.2 in
              record { letter = c; rest = rest; is = refl; code = code; typed = is; name = a.0; named = text_has end rest a.0 a.1; gives = inr (p.0, t.0, (s.at places.Text unread).to now a.0.1 t.0 t.1, q.0, sym (ok_is _ y q.1)) })
        ]

field_from : (end at : ℕ) (inner : Slots) (R : References) → SameReferences inner R → (unread : List ℕ) (now : Progress) (bs : List ℕ) (y : FieldDesc × Progress × List ℕ) → HasField R unread now bs y → field_at end at (inner places.Text unread) now bs ≡ Ok y
unfolding field_at field_of
field_from end at inner R s unread now bs y h =
    ap (field_at end at (inner places.Text unread) now) h.is ∙ (ap (λ o. field_of end at (inner places.Text unread) o now h.rest) h.typed ∙ ok_first (short_at end h.rest) _ h.name _ (has_text end h.rest h.name h.named) (by h.gives))
  where
    by : ((is_primitive h.code ≡ true) × (y ≡ (record { code = h.code; name = h.name.0; type_text = slots.Null }, now, h.name.1)))
        ⊎ ((is_primitive h.code ≡ false) × (t : Slot × Progress × List ℕ) × R places.Text unread now h.name.1 t × (fits_type t.1.nodes h.code t.0 ≡ true) × (y ≡ (record { code = h.code; name = h.name.0; type_text = t.0 }, t.1, t.2)))
        → cond (is_primitive h.code) (Ok (field h.code h.name.0 slots.Null, now, h.name.1)) (inner places.Text unread now h.name.1 >>= λ t. cond (fits_type t.1.nodes h.code t.0) (Ok (field h.code h.name.0 t.0, t.1, t.2)) (Err (bad bad_desc at))) ≡ done y
    by (inl (own, same)) = rw own (ap (λ z. done z) (sym same))
    by (inr (own, t, read, fits, same)) = rw own (ok_first (inner places.Text unread now h.name.1) _ t _ ((s.at places.Text unread).from now h.name.1 t read) (rw fits (ap (λ z. done z) (sym same))))

pub same_field : (end at : ℕ) (inner : Slots) (R : References) → SameReferences inner R → (unread : List ℕ) → Same (field_at end at (inner places.Text unread)) (HasField R unread)
same_field end at inner R s unread = record { to = field_to end at inner R s unread; from = field_from end at inner R s unread }

pub head_has : (end : ℕ) (bs : List ℕ) (head : DescHead) → desc_head_at end bs ≡ Ok head → HasDescHead bs head
unfolding desc_head_at
head_has end bs head e =
    let a = bind_ok (short_at end bs) _ head e in
    let b = bind_ok (number_at w64 a.0.1) _ head a.2 in
    let c = bind_ok (byte_at b.0.1) _ head b.2 in
    let d = bind_ok (size_at end w16 32768 c.0.1) _ head c.2 in
    subst (λ (h : DescHead). HasDescHead bs h) (ok_is (record { name = a.0.0; suid = b.0.0; flags = c.0.0; count = d.0.0; rest = d.0.1 }) head d.2) (record {
      behind_name = a.0.1;
      named = text_has end bs a.0 a.1;
      behind_suid = b.0.1;
      numbered = number_has w64 a.0.1 b.0 b.1;
      behind_flags = c.0.1;
      flagged = byte_has b.0.1 c.0 c.1;
      counted = size_has end w16 32768 c.0.1 d.0 d.1;
    })

pub has_head : (end : ℕ) (bs : List ℕ) (head : DescHead) → HasDescHead bs head → desc_head_at end bs ≡ Ok head
unfolding desc_head_at
has_head end bs head h =
    ok_first (short_at end bs) _ (head.name, h.behind_name) _ (has_text end bs (head.name, h.behind_name) h.named) (ok_first (number_at w64 h.behind_name) _ (head.suid, h.behind_suid) _ (has_number w64 h.behind_name (head.suid, h.behind_suid) h.numbered)
    (ok_first (byte_at h.behind_suid) _ (head.flags, h.behind_flags) _ (has_byte h.behind_suid (head.flags, h.behind_flags) h.flagged) (ok_first (size_at end w16 32768 h.behind_flags) _ (head.count, head.rest) _ (has_size end w16 32768 h.behind_flags (head.count, head.rest) h.counted) refl)))
