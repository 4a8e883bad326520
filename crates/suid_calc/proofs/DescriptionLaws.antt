-- The nodes of a description are a graph.
use Rattle.std.proofs.Common.{◌≡◌, ℕ, suc, ◌+◌, ◌<◌, ◌≤◌, Bool, true, false, cond, not, ◌&&◌, ◌||◌, List, [], ◌∷◌, ◌++◌, length, filter, fold, slice_get, Some, refl, sym, ap, subst, ◌∙◌, arith, lt-ltb, inl, inr, length-append, append_assoc, append-nil}
use Rattle.std.specs.List.{AllByRecursion, list_any}
use Rattle.std.specs.Cmp.Lexicographic.{bytes_decides}
use Rattle.std.proofs.lemmas.Bool.{and_parts, and_from, not-true, or_cases, or_left, or_right}
use Rattle.mod_utf.specs.Utf.{utf}
use Rattle.class_desc.specs.declared.slot.Slot.TheVariants as slots
use Rattle.class_desc.specs.declared.field.TypeCode.{TypeCode}
use Rattle.class_desc.specs.declared.field.TypeCode.TheVariants as codes
use Rattle.class_desc.specs.declared.field.FieldDesc.{FieldDesc}
use Rattle.class_desc.specs.TypeCode.{is_primitive, letter}
use Rattle.class_desc.specs.TypeText.{IsComponentText, fits_text}
use Rattle.class_desc.proofs.TypeTexts.{fits_of}
use Rattle.method_hash.specs.MethodText.{IsType}
use Rattle.ser_values.specs.declared.node.Node.{Node}
use Rattle.ser_values.specs.declared.node.Node.TheVariants.{Text}
use Rattle.ser_values.specs.Shape.{is_short, fits_type, are_typed}
use Rattle.suid_calc.specs.declared.outline.Member.{Member}
use Rattle.suid_calc.specs.Members.{name_of}
use Rattle.suid_calc.specs.Reading.{is_good}
use Rattle.suid_calc.specs.Description.{is_serial, type_of, code_in, is_primitive_field, is_reference_field, same_text, with_text, with_type, texts_of, place_in, field_of}
use Rattle.suid_calc.proofs.FieldLaws.{AreVisible, utf_itself, field_is, counted}

-- ---- texts, each once

abbrev pub has : List (List ℕ) → List ℕ → Bool
has texts t = list_any (same_text t) texts

same_itself : (t : List ℕ) → same_text t t ≡ true
same_itself t = (bytes_decides t t).1 refl

pub has_here : (seen more : List (List ℕ)) (t : List ℕ) → has (seen ++ t ∷ more) t ≡ true
has_here [] more t = or_left (same_text t t) (has more t) (same_itself t)
has_here (x ∷ seen) more t = or_right (same_text t x) (has (seen ++ t ∷ more) t) (has_here seen more t)

pub has_still : (seen more : List (List ℕ)) (t : List ℕ) → has seen t ≡ true → has (seen ++ more) t ≡ true
has_still [] more t h = absurd cc
has_still (x ∷ seen) more t h = elim (or_cases (same_text t x) (has seen t) h) [
  | inl e ↦ or_left (same_text t x) (has (seen ++ more) t) e
  | inr e ↦ or_right (same_text t x) (has (seen ++ more) t) (has_still seen more t e)
]

next_place : (n : ℕ) → suc n ≡ 1 + n
next_place n = omega arith

-- where a text stands, it is found
pub found : (texts : List (List ℕ)) (t : List ℕ) → has texts t ≡ true → slice_get texts (place_in texts t) ≡ Some t
found [] t h = absurd cc
found (x ∷ texts) t h = go (same_text t x) refl h (λ e. found texts t e)
  where
    go : (b : Bool) → same_text t x ≡ b → (b || has texts t) ≡ true → (has texts t ≡ true → slice_get texts (place_in texts t) ≡ Some t)
        → slice_get (x ∷ texts) (cond (not b) (1 + place_in texts t) 0) ≡ Some t
    go true e h rest = ap Some (sym ((bytes_decides t x).0 e))
    go false e h rest = subst (λ (n : ℕ). slice_get (x ∷ texts) n ≡ Some t) (next_place (place_in texts t)) (rest h)

pub place_below : (texts : List (List ℕ)) (t : List ℕ) → has texts t ≡ true → place_in texts t < length texts
place_below [] t h = absurd cc
place_below (x ∷ texts) t h = go (same_text t x) h (λ e. place_below texts t e)
  where
    go : (b : Bool) → (b || has texts t) ≡ true → (has texts t ≡ true → place_in texts t < length texts) → cond (not b) (1 + place_in texts t) 0 < length (x ∷ texts)
    go true h rest = omega arith
    go false h rest = let less = rest h in omega (arith, less)

pub place_stays : (seen more : List (List ℕ)) (t : List ℕ) → has seen t ≡ true → place_in (seen ++ more) t ≡ place_in seen t
place_stays [] more t h = absurd cc
place_stays (x ∷ seen) more t h = go (same_text t x) h (λ e. place_stays seen more t e)
  where
    go : (b : Bool) → (b || has seen t) ≡ true → (has seen t ≡ true → place_in (seen ++ more) t ≡ place_in seen t)
        → cond (not b) (1 + place_in (seen ++ more) t) 0 ≡ cond (not b) (1 + place_in seen t) 0
    go true h rest = refl
    go false h rest = ap (λ (n : ℕ). 1 + n) (rest h)

pub place_new : (seen more : List (List ℕ)) (t : List ℕ) → has seen t ≡ false → place_in (seen ++ t ∷ more) t ≡ length seen
place_new [] more t h = rw (same_itself t) refl
place_new (x ∷ seen) more t h = go (same_text t x) h (λ e. place_new seen more t e)
  where
    go : (b : Bool) → (b || has seen t) ≡ false → (has seen t ≡ false → place_in (seen ++ t ∷ more) t ≡ length seen) → cond (not b) (1 + place_in (seen ++ t ∷ more) t) 0 ≡ length (x ∷ seen)
    go true h rest = absurd cc
    go false h rest = ap (λ (n : ℕ). 1 + n) (rest h) ∙ sym (next_place (length seen))

-- texts grow at their end
abbrev pub Grows : List (List ℕ) → List (List ℕ) → Type 0
Grows seen texts = (more : List (List ℕ)) × (texts ≡ seen ++ more)

grows_text : (seen : List (List ℕ)) (t : List ℕ) → Grows seen (with_text seen t)
grows_text seen t = go (has seen t)
  where
    go : (b : Bool) → Grows seen (cond b seen (seen ++ t ∷ []))
    go true = ([], sym (append-nil seen))
    go false = (t ∷ [], refl)

grows_one : (seen : List (List ℕ)) (m : Member) → Grows seen (with_type seen m)
grows_one seen m = go (is_reference_field m)
  where
    go : (b : Bool) → Grows seen (cond b (with_text seen (type_of m)) seen)
    go true = grows_text seen (type_of m)
    go false = ([], sym (append-nil seen))

pub grows : (seen : List (List ℕ)) (ms : List Member) → Grows seen (fold with_type seen ms)
grows seen [] = ([], sym (append-nil seen))
grows seen (m ∷ ms) =
    let one = grows_one seen m in
    let rest = grows (with_type seen m) ms in
    (one.0 ++ rest.0, rest.1 ∙ ap (λ (l : List (List ℕ)). l ++ rest.0) one.1 ∙ append_assoc seen one.0 rest.0)

has_grown : (seen : List (List ℕ)) (ms : List Member) (t : List ℕ) → has seen t ≡ true → has (fold with_type seen ms) t ≡ true
has_grown seen ms t h = let g = grows seen ms in rw g.1 (has_still seen g.0 t h)

has_added : (seen : List (List ℕ)) (t : List ℕ) → has (with_text seen t) t ≡ true
has_added seen t = go (has seen t) refl
  where
    go : (b : Bool) → has seen t ≡ b → has (cond b seen (seen ++ t ∷ [])) t ≡ true
    go true e = e
    go false e = has_here seen [] t

-- each reference field's text is there
abbrev pub HasText : List (List ℕ) → Member → Type 0
HasText texts m = is_reference_field m ≡ true → has texts (type_of m) ≡ true

pub all_there : (seen : List (List ℕ)) (ms : List Member) → AllByRecursion (HasText (fold with_type seen ms)) ms
all_there seen [] = tt
all_there seen (m ∷ ms) = (first, all_there (with_type seen m) ms)
  where
    first : HasText (fold with_type (with_type seen m) ms) m
    first e = has_grown (with_type seen m) ms (type_of m) (subst (λ (b : Bool). has (cond b (with_text seen (type_of m)) seen) (type_of m) ≡ true) (sym e) (has_added seen (type_of m)))

-- there are no more texts than fields
text_count : (seen : List (List ℕ)) (t : List ℕ) → length (with_text seen t) ≤ length seen + 1
text_count seen t = go (has seen t)
  where
    go : (b : Bool) → length (cond b seen (seen ++ t ∷ [])) ≤ length seen + 1
    go true = omega arith
    go false = omega (arith, length-append seen (t ∷ []))

texts_counted : (seen : List (List ℕ)) (ms : List Member) → length (fold with_type seen ms) ≤ length seen + length (filter is_reference_field ms)
texts_counted seen [] = omega arith
texts_counted seen (m ∷ ms) = go (is_reference_field m) (λ s. texts_counted s ms)
  where
    go : (b : Bool) → ((s : List (List ℕ)) → length (fold with_type s ms) ≤ length s + length (filter is_reference_field ms))
        → length (fold with_type (cond b (with_text seen (type_of m)) seen) ms) ≤ length seen + length (cond b (m ∷ filter is_reference_field ms) (filter is_reference_field ms))
    go true rest = omega (arith, rest (with_text seen (type_of m)), text_count seen (type_of m))
    go false rest = rest seen

pub few_texts : (ms : List Member) → length (texts_of ms) ≤ length (filter is_serial ms)
few_texts ms = omega (arith, texts_counted [] ms, counted ms)

-- a property of each reference field's text is one of all texts
abbrev pub TypeHas : (List ℕ → Type 0) → Member → Type 0
TypeHas P m = is_reference_field m ≡ true → P (type_of m)

push_all : (P : List ℕ → Type 0) (seen : List (List ℕ)) (t : List ℕ) → AllByRecursion P seen → P t → AllByRecursion P (seen ++ t ∷ [])
push_all P [] t h p = (p, tt)
push_all P (x ∷ seen) t h p = (h.0, push_all P seen t h.1 p)

pub all_texts : (P : List ℕ → Type 0) (seen : List (List ℕ)) (ms : List Member) → AllByRecursion P seen → AllByRecursion (TypeHas P) ms → AllByRecursion P (fold with_type seen ms)
all_texts P seen [] h each = h
all_texts P seen (m ∷ ms) h each = go (is_reference_field m) each.0 (λ s k. all_texts P s ms k each.1)
  where
    add : (b : Bool) → P (type_of m) → AllByRecursion P (cond b seen (seen ++ type_of m ∷ []))
    add true p = h
    add false p = push_all P seen (type_of m) h p

    go : (b : Bool) → (b ≡ true → P (type_of m)) → ((s : List (List ℕ)) → AllByRecursion P s → AllByRecursion P (fold with_type s ms)) → AllByRecursion P (fold with_type (cond b (with_text seen (type_of m)) seen) ms)
    go true p rest = rest (with_text seen (type_of m)) (add (has seen (type_of m)) (p refl))
    go false p rest = rest seen h

-- ---- type texts as types

component : (t : List ℕ) → IsType t → IsComponentText t
component [] h = absurd h
component (c ∷ t) (inl h) = inl (h.0, component t h.1)
component (c ∷ t) (inr (inl (is, (name, some, are, e)))) = inr (inl (name, some, ap (λ (n : ℕ). n ∷ t) is ∙ ap (λ (l : List ℕ). 0x4C ∷ l) e))
component (c ∷ t) (inr (inr (code, primitive, is, none))) = inr (inr (code, primitive, ap (λ (n : ℕ). n ∷ t) is ∙ ap (λ (l : List ℕ). letter code ∷ l) none))

-- a reference type's text fits its code
abbrev FitsCode : List ℕ → Type 0
FitsCode t = is_primitive (code_in t) ≡ false → fits_text (code_in t) t ≡ true

code_primitive : (code : TypeCode) (t : List ℕ) → is_primitive code ≡ true → is_primitive (code_in (letter code ∷ t)) ≡ true
code_primitive codes.Byte t h = refl
code_primitive codes.Char t h = refl
code_primitive codes.Double t h = refl
code_primitive codes.Float t h = refl
code_primitive codes.Int t h = refl
code_primitive codes.Long t h = refl
code_primitive codes.Short t h = refl
code_primitive codes.Boolean t h = refl
code_primitive codes.Array t h = absurd cc
code_primitive codes.Object t h = absurd cc

type_fits : (t : List ℕ) → IsType t → FitsCode t
type_fits [] h reference = absurd h
type_fits (c ∷ t) (inl h) reference =
    subst (λ (n : ℕ). fits_text (code_in (n ∷ t)) (n ∷ t) ≡ true) (sym h.0) (fits_of codes.Array (0x5B ∷ t) (refl, component t h.1))
type_fits (c ∷ t) (inr (inl (is, (name, some, are, e)))) reference =
    subst (λ (n : ℕ). fits_text (code_in (n ∷ t)) (n ∷ t) ≡ true) (sym is) (fits_of codes.Object (0x4C ∷ t) (name, some, ap (λ (l : List ℕ). 0x4C ∷ l) e))
type_fits (c ∷ t) (inr (inr (code, primitive, is, none))) reference =
    let p : is_primitive (code_in (c ∷ t)) ≡ true = subst (λ (n : ℕ). is_primitive (code_in (n ∷ t)) ≡ true) (sym is) (code_primitive code t primitive) in
    absurd (true≢false' (sym p ∙ reference))
  where
    true≢false' : true ≡ false → ⊥
    true≢false' h = cc

-- ---- fields have types

pub short_text : (t : List ℕ) → AreVisible t → length t ≤ 65535 → is_short t ≡ true
short_text t v short = lt-ltb (length (utf t)) 65536 (rw (utf_itself t v) (omega (arith, short)))

abbrev pub IsTyped : List Node → FieldDesc → Type 0
IsTyped nodes f = (is_short f.name && fits_type nodes f.code f.type_text) ≡ true

pub typed_all : (nodes : List Node) (fs : List FieldDesc) → AllByRecursion (IsTyped nodes) fs → are_typed nodes fs ≡ true
unfolding are_typed
typed_all nodes [] h = refl
typed_all nodes (f ∷ fs) h = and_from (is_short f.name && fits_type nodes f.code f.type_text) (are_typed nodes fs) h.0 (typed_all nodes fs h.1)

short_name : (m : Member) → is_good m ≡ true → is_serial m ≡ true → is_short (name_of m) ≡ true
short_name m good s = let f = field_is m good s in let n = f.name_short in short_text (name_of m) f.name_visible (omega (arith, n))

-- nodes in which these texts follow the first
abbrev pub AreBehind : List Node → List (List ℕ) → Type 0
AreBehind nodes texts = (k : ℕ) (t : List ℕ) → slice_get texts k ≡ Some t → slice_get nodes (suc k) ≡ Some (Text t)

pub typed_primitive : (nodes : List Node) (texts : List (List ℕ)) (m : Member) → is_good m ≡ true → is_primitive_field m ≡ true → IsTyped nodes (field_of texts m)
typed_primitive nodes texts m good p =
    let a = and_parts (is_serial m) (is_primitive (code_in (type_of m))) p in
    and_from (is_short (name_of m)) _ (short_name m good a.0) (go (is_primitive (code_in (type_of m))) refl a.1)
  where
    go : (b : Bool) → is_primitive (code_in (type_of m)) ≡ b → b ≡ true → fits_type nodes (code_in (type_of m)) (cond b slots.Null (slots.Node (suc (place_in texts (type_of m))))) ≡ true
    go true e h = e
    go false e h = absurd cc

pub typed_reference : (nodes : List Node) (texts : List (List ℕ)) (m : Member) → AreBehind nodes texts → is_good m ≡ true → has texts (type_of m) ≡ true → is_reference_field m ≡ true
    → IsTyped nodes (field_of texts m)
typed_reference nodes texts m behind good there r =
    let a = and_parts (is_serial m) (not (is_primitive (code_in (type_of m)))) r in
    let f = field_is m good a.0 in
    let reference : is_primitive (code_in (type_of m)) ≡ false = not-true (is_primitive (code_in (type_of m))) a.1 in
    and_from (is_short (name_of m)) _ (short_name m good a.0)
    (go (is_primitive (code_in (type_of m))) refl reference (type_fits (type_of m) f.typed reference))
  where
    at : slice_get nodes (suc (place_in texts (type_of m))) ≡ Some (Text (type_of m))
    at = behind (place_in texts (type_of m)) (type_of m) (found texts (type_of m) there)

    go : (b : Bool) → is_primitive (code_in (type_of m)) ≡ b → b ≡ false → fits_text (code_in (type_of m)) (type_of m) ≡ true
        → fits_type nodes (code_in (type_of m)) (cond b slots.Null (slots.Node (suc (place_in texts (type_of m))))) ≡ true
    go true e h fit = absurd cc
    go false e h fit = rw (e, at) fit
