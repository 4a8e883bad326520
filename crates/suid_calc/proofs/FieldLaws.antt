-- The fields of a description: how many there are, their order, and the bytes of their names and type texts.
use Rattle.std.proofs.Common.{◌≡◌, ℕ, ◌+◌, ◌<◌, ◌≤◌, ◌^◌, Bool, true, false, cond, not, ◌&&◌, ◌||◌, leb, List, [], ◌∷◌, ◌++◌, length, map, filter, Ordering, Less, Equal, Greater, nat_cmp, refl, sym, subst, ◌∙◌, arith, leb-true, inl, inr}
use Rattle.std.specs.Prelude.{All}
use Rattle.std.specs.Ordering.{is_lt, ordering_then}
use Rattle.std.specs.Cmp.Lexicographic.{slice_cmp}
use Rattle.std.specs.List.{AllByRecursion}
use Rattle.std.specs.List.Sorted.{IsStrictlySortedBy}
use Rattle.std.proofs.lemmas.Bool.{and_parts, and_from, not-true}
use Rattle.std.proofs.lemmas.List.Elements.{All-from_recursion}
use Rattle.mod_utf.specs.Utf.{utf, SpellsItself}
use Rattle.mod_utf.proofs.Spelling.{ascii_spelled, spelled_once}
use Rattle.class_desc.specs.declared.field.TypeCode.{TypeCode}
use Rattle.class_desc.specs.declared.field.TypeCode.TheVariants as codes
use Rattle.class_desc.specs.declared.field.FieldDesc.{FieldDesc}
use Rattle.class_desc.specs.TypeCode.{is_primitive, letter}
use Rattle.class_desc.specs.ClassDesc.{comes_before, are_ordered}
use Rattle.method_hash.specs.MethodText.{is_class_byte, IsClassTail, IsType}
use Rattle.suid_calc.specs.declared.outline.Member.{Member}
use Rattle.suid_calc.specs.declared.outline.Member.TheVariants.{Interface, Field, Initializer, Constructor, Method}
use Rattle.suid_calc.specs.Members.{name_of, compare}
use Rattle.suid_calc.specs.Grammar.{is_name_byte}
use Rattle.suid_calc.specs.Reading.{is_name, is_type, is_good}
use Rattle.suid_calc.specs.Description.{is_serial, type_of, code_in, is_primitive_field, is_reference_field, field_of, fields_of}
use Rattle.suid_calc.proofs.WordLaws.{weaker, name_is}
use Rattle.suid_calc.proofs.TypeLaws.{type_is}

-- ---- how many

pub counted : (ms : List Member) → length (filter is_primitive_field ms) + length (filter is_reference_field ms) ≡ length (filter is_serial ms)
counted [] = refl
counted (m ∷ ms) = go (is_serial m) (is_primitive (code_in (type_of m))) (counted ms)
  where
    go : (s p : Bool) → length (filter is_primitive_field ms) + length (filter is_reference_field ms) ≡ length (filter is_serial ms)
        → length (cond (s && p) (m ∷ filter is_primitive_field ms) (filter is_primitive_field ms)) + length (cond (s && not p) (m ∷ filter is_reference_field ms) (filter is_reference_field ms))
        ≡ length (cond s (m ∷ filter is_serial ms) (filter is_serial ms))
    go true true e = omega (arith, e)
    go true false e = omega (arith, e)
    go false p e = e

-- ---- bytes

abbrev pub AreVisible : List ℕ → Type 0
AreVisible t = AllByRecursion (λ b. is_name_byte b ≡ true) t

pub all_append : {X : Type 0} (P : X → Type 0) (xs ys : List X) → AllByRecursion P xs → AllByRecursion P ys → AllByRecursion P (xs ++ ys)
all_append P [] ys h k = k
all_append P (x ∷ xs) ys h k = (h.0, all_append P xs ys h.1 k)

class_byte : (b : ℕ) → is_class_byte b ≡ true → is_name_byte b ≡ true
class_byte b h =
    let low = and_parts (leb 0x21 b) _ h in
    let high = and_parts (leb b 0x7E) _ low.1 in
    and_from (leb 0x21 b) (leb b 0x7E) low.0 high.0

tail_visible : (t : List ℕ) → IsClassTail t → AreVisible t
tail_visible t (name, some, are, is) =
    subst (λ (l : List ℕ). AreVisible l) (sym is)
    (all_append (λ (b : ℕ). is_name_byte b ≡ true) name (0x3B ∷ []) (weaker (λ b. is_class_byte b ≡ true) (λ b. is_name_byte b ≡ true) class_byte name are) (refl, tt))

letter_visible : (code : TypeCode) → is_name_byte (letter code) ≡ true
letter_visible codes.Byte = refl
letter_visible codes.Char = refl
letter_visible codes.Double = refl
letter_visible codes.Float = refl
letter_visible codes.Int = refl
letter_visible codes.Long = refl
letter_visible codes.Short = refl
letter_visible codes.Boolean = refl
letter_visible codes.Array = refl
letter_visible codes.Object = refl

pub type_visible : (t : List ℕ) → IsType t → AreVisible t
type_visible [] h = absurd h
type_visible (c ∷ t) (inl h) = (subst (λ (b : ℕ). is_name_byte b ≡ true) (sym h.0) refl, type_visible t h.1)
type_visible (c ∷ t) (inr (inl h)) = (subst (λ (b : ℕ). is_name_byte b ≡ true) (sym h.0) refl, tail_visible t h.1)
type_visible (c ∷ t) (inr (inr (code, primitive, is, none))) =
    (subst (λ (b : ℕ). is_name_byte b ≡ true) (sym is) (letter_visible code), subst (λ (l : List ℕ). AreVisible l) (sym none) tt)

record IsVisibleByte (b : ℕ) : Type 0 where
  above : 0x21 ≤ b
  below : b ≤ 0x7E

visible_byte : (b : ℕ) → is_name_byte b ≡ true → IsVisibleByte b
visible_byte b h = let a = and_parts (leb 0x21 b) (leb b 0x7E) h in record { above = leb-true 0x21 b a.0; below = leb-true b 0x7E a.1 }

spells : (b : ℕ) → is_name_byte b ≡ true → SpellsItself b
spells b h = let v = visible_byte b h in let low = v.above in let high = v.below in (omega (arith, low), omega (arith, high))

pub utf_itself : (t : List ℕ) → AreVisible t → utf t ≡ t
utf_itself t h = sym (spelled_once t t (ascii_spelled t (All-from_recursion SpellsItself t (weaker (λ b. is_name_byte b ≡ true) SpellsItself spells t h))))

fits : (b : ℕ) → is_name_byte b ≡ true → b < 2 ^ 16
fits b h = let v = visible_byte b h in let high = v.below in omega (arith, high)

pub text_fits : (t : List ℕ) → AreVisible t → All (λ u. u < 2 ^ 16) t
text_fits t h = All-from_recursion (λ u. u < 2 ^ 16) t (weaker (λ b. is_name_byte b ≡ true) (λ u. u < 2 ^ 16) fits t h)

-- a field's name and type text
pub record IsField (name type_text : List ℕ) : Type 0 where
  pub name_visible : AreVisible name
  pub name_short : length name ≤ 255
  pub typed : IsType type_text
  pub type_short : length type_text ≤ 65535

pub field_is : (m : Member) → is_good m ≡ true → is_serial m ≡ true → IsField (name_of m) (type_of m)
field_is (Interface name) good s = absurd cc
field_is Initializer good s = absurd cc
field_is (Constructor modifiers descriptor) good s = absurd cc
field_is (Method modifiers name descriptor) good s = absurd cc
field_is (Field modifiers name type_text) good s =
    let a = and_parts (is_name name) (is_type type_text) good in
    let n = name_is name a.0 in
    let t = type_is type_text a.1 in
    record { name_visible = n.visible; name_short = n.short; typed = t.typed; type_short = t.short }

-- ---- order

then_less : (o : Ordering) → ordering_then o Equal ≡ Less → is_lt o ≡ true
then_less Less h = refl
then_less Equal h = absurd cc
then_less Greater h = absurd cc

lower_name : (a b : Member) → is_serial a ≡ true → is_serial b ≡ true → compare a b ≡ Less → is_lt (slice_cmp nat_cmp (name_of a) (name_of b)) ≡ true
lower_name (Interface name) b s r h = absurd cc
lower_name Initializer b s r h = absurd cc
lower_name (Constructor modifiers descriptor) b s r h = absurd cc
lower_name (Method modifiers name descriptor) b s r h = absurd cc
lower_name (Field modifiers name type_text) (Interface other) s r h = absurd cc
lower_name (Field modifiers name type_text) Initializer s r h = absurd cc
lower_name (Field modifiers name type_text) (Constructor k descriptor) s r h = absurd cc
lower_name (Field modifiers name type_text) (Method k other descriptor) s r h = absurd cc
lower_name (Field modifiers name type_text) (Field k other another) s r h = then_less (slice_cmp nat_cmp name other) h

abbrev Before : FieldDesc → FieldDesc → Type 0
Before f g = comes_before f g ≡ true

-- each field may stand before each later one
abbrev Pairs : List FieldDesc → Type 0
Pairs [] = Unit {0}
Pairs (f ∷ fs) = AllByRecursion (Before f) fs × Pairs fs

pairs_ordered : (fs : List FieldDesc) → Pairs fs → are_ordered fs ≡ true
unfolding are_ordered
pairs_ordered [] h = refl
pairs_ordered (f ∷ []) h = refl
pairs_ordered (f ∷ g ∷ fs) h = and_from (comes_before f g) (are_ordered (g ∷ fs)) h.0.0 (pairs_ordered (g ∷ fs) h.1)

pairs_append : (xs ys : List FieldDesc) → Pairs xs → Pairs ys → AllByRecursion (λ f. AllByRecursion (Before f) ys) xs → Pairs (xs ++ ys)
pairs_append [] ys h k across = k
pairs_append (x ∷ xs) ys h k across = (all_append (Before x) xs ys h.0 across.0, pairs_append xs ys h.1 k across.1)

-- what passes a test has a property
kept : (p : Member → Bool) (P : FieldDesc → Type 0) (texts : List (List ℕ)) → ((m : Member) → p m ≡ true → P (field_of texts m)) → (ms : List Member) → AllByRecursion P (map (field_of texts) (filter p ms))
kept p P texts f [] = tt
kept p P texts f (m ∷ ms) = go (p m) refl (kept p P texts f ms)
  where
    go : (b : Bool) → p m ≡ b → AllByRecursion P (map (field_of texts) (filter p ms)) → AllByRecursion P (map (field_of texts) (cond b (m ∷ filter p ms) (filter p ms)))
    go true e rest = (f m e, rest)
    go false e rest = rest

pub later : (p : Member → Bool) (P : FieldDesc → Type 0) (Q : Member → Type 0) (texts : List (List ℕ)) → ((m : Member) → p m ≡ true → Q m → P (field_of texts m)) → (ms : List Member) → AllByRecursion Q ms
    → AllByRecursion P (map (field_of texts) (filter p ms))
later p P Q texts f [] h = tt
later p P Q texts f (m ∷ ms) h = go (p m) refl (later p P Q texts f ms h.1)
  where
    go : (b : Bool) → p m ≡ b → AllByRecursion P (map (field_of texts) (filter p ms)) → AllByRecursion P (map (field_of texts) (cond b (m ∷ filter p ms) (filter p ms)))
    go true e rest = (f m e h.0, rest)
    go false e rest = rest

group : (p : Member → Bool) (texts : List (List ℕ)) → ((a b : Member) → p a ≡ true → p b ≡ true → compare a b ≡ Less → Before (field_of texts a) (field_of texts b)) → (ms : List Member)
    → IsStrictlySortedBy compare ms → Pairs (map (field_of texts) (filter p ms))
unfolding IsStrictlySortedBy
group p texts f [] h = tt
group p texts f (m ∷ ms) h = go (p m) refl (group p texts f ms h.1)
  where
    go : (b : Bool) → p m ≡ b → Pairs (map (field_of texts) (filter p ms)) → Pairs (map (field_of texts) (cond b (m ∷ filter p ms) (filter p ms)))
    go true e rest = (later p (Before (field_of texts m)) (λ y. compare m y ≡ Less) texts (λ y k less. f m y e k less) ms h.0, rest)
    go false e rest = rest

before_by : (u v l : Bool) → u ≡ v → l ≡ true → ((u && not v) || ((u || not v) && l)) ≡ true
before_by true true l e f = f
before_by false false l e f = f
before_by true false l e f = refl
before_by false true l e f = absurd cc

primitives_before : (texts : List (List ℕ)) (a b : Member) → is_primitive_field a ≡ true → is_primitive_field b ≡ true → compare a b ≡ Less → Before (field_of texts a) (field_of texts b)
primitives_before texts a b h k less =
    let x = and_parts (is_serial a) (is_primitive (code_in (type_of a))) h in
    let y = and_parts (is_serial b) (is_primitive (code_in (type_of b))) k in
    before_by (is_primitive (code_in (type_of a))) (is_primitive (code_in (type_of b))) (is_lt (slice_cmp nat_cmp (name_of a) (name_of b))) (x.1 ∙ sym y.1) (lower_name a b x.0 y.0 less)

references_before : (texts : List (List ℕ)) (a b : Member) → is_reference_field a ≡ true → is_reference_field b ≡ true → compare a b ≡ Less → Before (field_of texts a) (field_of texts b)
references_before texts a b h k less =
    let x = and_parts (is_serial a) (not (is_primitive (code_in (type_of a)))) h in
    let y = and_parts (is_serial b) (not (is_primitive (code_in (type_of b)))) k in
    before_by (is_primitive (code_in (type_of a))) (is_primitive (code_in (type_of b))) (is_lt (slice_cmp nat_cmp (name_of a) (name_of b)))
    (not-true (is_primitive (code_in (type_of a))) x.1 ∙ sym (not-true (is_primitive (code_in (type_of b))) y.1)) (lower_name a b x.0 y.0 less)

across_by : (u v l : Bool) → u ≡ true → v ≡ false → ((u && not v) || ((u || not v) && l)) ≡ true
across_by true false l e f = refl
across_by true true l e f = absurd cc
across_by false v l e f = absurd cc

groups_apart : (texts : List (List ℕ)) (a b : Member) → is_primitive_field a ≡ true → is_reference_field b ≡ true → Before (field_of texts a) (field_of texts b)
groups_apart texts a b h k =
    let x = and_parts (is_serial a) (is_primitive (code_in (type_of a))) h in
    let y = and_parts (is_serial b) (not (is_primitive (code_in (type_of b)))) k in
    across_by (is_primitive (code_in (type_of a))) (is_primitive (code_in (type_of b))) (is_lt (slice_cmp nat_cmp (name_of a) (name_of b))) x.1 (not-true (is_primitive (code_in (type_of b))) y.1)

-- the fields are in a description's order
pub fields_ordered : (texts : List (List ℕ)) (ms : List Member) → IsStrictlySortedBy compare ms → are_ordered (fields_of texts ms) ≡ true
fields_ordered texts ms h =
    pairs_ordered (fields_of texts ms)
    (pairs_append (map (field_of texts) (filter is_primitive_field ms)) (map (field_of texts) (filter is_reference_field ms))
    (group is_primitive_field texts (primitives_before texts) ms h) (group is_reference_field texts (references_before texts) ms h)
    (kept is_primitive_field (λ f. AllByRecursion (Before f) (map (field_of texts) (filter is_reference_field ms))) texts
    (λ a e. kept is_reference_field (Before (field_of texts a)) texts (λ b k. groups_apart texts a b e k) ms) ms))
