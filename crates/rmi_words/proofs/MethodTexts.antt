-- A text is one method's.
use mathlib.Core.HLevel.{Σ_prop_path}
use Rattle.std.proofs.Common.{◌≡◌, ◌∙◌, inl, inr, ℕ, Bool, true, false, true≢false, List, [], ◌∷◌, ◌++◌, ◌&&◌, Option, Some, None, refl, ap, ap₂, sym, subst}
use Rattle.std.proofs.Math.Logic.{∥∥₁_elim, ∥∥₁_prop}
use Rattle.std.proofs.Props.{props}
use Rattle.std.proofs.lemmas.List.{append_assoc}
use Rattle.std.specs.List.{AllByRecursion, list_all}
use Rattle.class_desc.specs.declared.field.TypeCode.{TypeCode}
use Rattle.class_desc.specs.declared.field.TypeCode.TheVariants as types
use Rattle.class_desc.specs.TypeCode.{is_primitive, letter}
use Rattle.class_desc.specs.TypeText.{code_of}
use Rattle.class_desc.proofs.TypeTexts.{letter_back}
use Rattle.method_hash.specs.MethodText.{AreTypes, HasType, IsClassTail, IsMethod, IsTail, IsType, Returns, is_class_byte, is_name_byte}
use Rattle.method_hash.specs.declared.method.Method.{Method}
use Rattle.rmi_words.specs.CallWords.{IsMethodIn, IsMethodOf, is_printed, is_said}

-- ---- lists that end at a mark

same_front : {b c : ℕ} {t u : List ℕ} → b ∷ t ≡ c ∷ u → (b ≡ c) × (t ≡ u)
same_front e = (cc, cc)

-- The front that passes a test, up to a mark that doesn't, is one.
until : (test : ℕ → Bool) (m : ℕ) → test m ≡ false → (xs ys t u : List ℕ) → AllByRecursion (λ b. test b ≡ true) xs → AllByRecursion (λ b. test b ≡ true) ys
    → xs ++ m ∷ t ≡ ys ++ m ∷ u → (xs ≡ ys) × (t ≡ u)
until test m fails [] [] t u a b e = (refl, (same_front e).1)
until test m fails [] (y ∷ ys) t u a b e = absurd (true≢false (sym b.0 ∙ ap test (sym ((same_front e).0)) ∙ fails))
until test m fails (x ∷ xs) [] t u a b e = absurd (true≢false (sym a.0 ∙ ap test ((same_front e).0) ∙ fails))
until test m fails (x ∷ xs) (y ∷ ys) t u a b e =
    let rest = until test m fails xs ys t u a.1 b.1 (same_front e).1 in
    (ap₂ (λ z zs. z ∷ zs) (same_front e).0 rest.0, rest.1)

-- ---- types

some_is : (a b : TypeCode) → Some a ≡ Some b → a ≡ b
some_is a b e = cc

one_letter : (a b : TypeCode) → letter a ≡ letter b → a ≡ b
one_letter a b e = some_is a b (sym (letter_back a) ∙ ap code_of e ∙ letter_back b)

primitive_tail : (code : TypeCode) (t : List ℕ) → is_primitive code ≡ true → t ≡ [] → IsTail code t
primitive_tail types.Array t plain e = absurd (true≢false (sym plain))
primitive_tail types.Object t plain e = absurd (true≢false (sym plain))
primitive_tail _ t plain e = e

kind_of : (c : ℕ) (t : List ℕ) → IsType (c ∷ t) → (code : TypeCode) × (c ≡ letter code) × IsTail code t
kind_of c t (inl a) = (types.Array, a.0, a.1)
kind_of c t (inr (inl a)) = (types.Object, a.0, a.1)
kind_of c t (inr (inr p)) = (p.0, p.2, primitive_tail p.0 t p.1 p.3)

class_ends : (t u r s : List ℕ) → IsClassTail t → IsClassTail u → t ++ r ≡ u ++ s → r ≡ s
class_ends t u r s a b e =
    let marked : a.0 ++ 0x3B ∷ r ≡ b.0 ++ 0x3B ∷ s =
    sym (append_assoc a.0 (0x3B ∷ []) r) ∙ ap (λ x. x ++ r) (sym a.3) ∙ e ∙ ap (λ x. x ++ s) b.3 ∙ append_assoc b.0 (0x3B ∷ []) s in
    (until is_class_byte 0x3B refl a.0 b.0 r s a.2 b.2 marked).1

nothing_ends : (t u r s : List ℕ) → t ≡ [] → u ≡ [] → t ++ r ≡ u ++ s → r ≡ s
nothing_ends t u r s a b e = ap (λ x. x ++ r) (sym a) ∙ e ∙ ap (λ x. x ++ s) b

-- What follows a type's letter ends in one place.
tail_ends : (code : TypeCode) (t u r s : List ℕ) → (IsType t → IsType u → t ++ r ≡ u ++ s → r ≡ s) → IsTail code t → IsTail code u → t ++ r ≡ u ++ s → r ≡ s
tail_ends types.Array t u r s below a b e = below a b e
tail_ends types.Object t u r s below a b e = class_ends t u r s a b e
tail_ends _ t u r s below a b e = nothing_ends t u r s a b e

type_ends : (t u r s : List ℕ) → IsType t → IsType u → t ++ r ≡ u ++ s → r ≡ s
type_ends [] u r s a b e = absurd a
type_ends (c ∷ t) [] r s a b e = absurd b
type_ends (c ∷ t) (d ∷ u) r s a b e =
    let first = kind_of c t a in
    let second = kind_of d u b in
    let same : first.0 ≡ second.0 = one_letter first.0 second.0 (sym first.1 ∙ (same_front e).0 ∙ second.1) in
    tail_ends first.0 t u r s (type_ends t u r s) first.2 (subst (λ code. IsTail code u) (sym same) second.2) (same_front e).1

one_type : (a b : TypeCode) (t u r s : List ℕ) → HasType a t → HasType b u → t ++ r ≡ u ++ s → (a ≡ b) × (r ≡ s)
one_type a b t u r s x y e =
    let spelled : letter a ∷ (x.0 ++ r) ≡ letter b ∷ (y.0 ++ s) = ap (λ l. l ++ r) (sym x.1) ∙ e ∙ ap (λ l. l ++ s) y.1 in
    let same : a ≡ b = one_letter a b (same_front spelled).0 in
    (same, tail_ends a x.0 y.0 r s (type_ends x.0 y.0 r s) x.2 (subst (λ code. IsTail code y.0) (sym same) y.2) (same_front spelled).1)

no_letter : (n : ℕ) (code : TypeCode) → code_of n ≡ None → n ≡ letter code → ⊥
no_letter n code none e = let both : None ≡ Some code = sym none ∙ ap code_of e ∙ letter_back code in cc

-- ---- parameters and results

one_types : (ps qs : List TypeCode) (t u r s : List ℕ) → AreTypes ps t → AreTypes qs u → t ++ 0x29 ∷ r ≡ u ++ 0x29 ∷ s → (ps ≡ qs) × (r ≡ s)
one_types [] [] t u r s x y e =
    (refl, (same_front (ap (λ l. l ++ 0x29 ∷ r) (sym x) ∙ e ∙ ap (λ l. l ++ 0x29 ∷ s) y)).1)
one_types [] (q ∷ qs) t u r s x y e =
    let spelled : 0x29 ∷ r ≡ letter q ∷ ((y.2.0 ++ y.1) ++ 0x29 ∷ s) =
    ap (λ l. l ++ 0x29 ∷ r) (sym x) ∙ e ∙ ap (λ l. l ++ 0x29 ∷ s) (y.4 ∙ ap (λ l. l ++ y.1) y.2.1) in
    absurd (no_letter 0x29 q refl (same_front spelled).0)
one_types (p ∷ ps) [] t u r s x y e =
    let spelled : 0x29 ∷ s ≡ letter p ∷ ((x.2.0 ++ x.1) ++ 0x29 ∷ r) =
    ap (λ l. l ++ 0x29 ∷ s) (sym y) ∙ sym e ∙ ap (λ l. l ++ 0x29 ∷ r) (x.4 ∙ ap (λ l. l ++ x.1) x.2.1) in
    absurd (no_letter 0x29 p refl (same_front spelled).0)
one_types (p ∷ ps) (q ∷ qs) t u r s x y e =
    let parted : x.0 ++ (x.1 ++ 0x29 ∷ r) ≡ y.0 ++ (y.1 ++ 0x29 ∷ s) =
    sym (append_assoc x.0 x.1 (0x29 ∷ r)) ∙ ap (λ l. l ++ 0x29 ∷ r) (sym x.4) ∙ e ∙ ap (λ l. l ++ 0x29 ∷ s) y.4 ∙ append_assoc y.0 y.1 (0x29 ∷ s) in
    let first = one_type p q x.0 y.0 (x.1 ++ 0x29 ∷ r) (y.1 ++ 0x29 ∷ s) x.2 y.2 parted in
    let rest = one_types ps qs x.1 y.1 r s x.3 y.3 first.1 in
    (ap₂ (λ z zs. z ∷ zs) first.0 rest.0, rest.1)

one_result : (a b : Option TypeCode) (t u : List ℕ) → Returns a t → Returns b u → t ≡ u → a ≡ b
one_result None None t u x y e = refl
one_result None (Some b) t u x y e = absurd (no_letter 0x56 b refl (same_front (sym x ∙ e ∙ y.1)).0)
one_result (Some a) None t u x y e = absurd (no_letter 0x56 a refl (same_front (sym y ∙ sym e ∙ x.1)).0)
one_result (Some a) (Some b) t u x y e = ap Some (one_type a b t u [] [] x y (ap (λ l. l ++ []) e)).0

-- ---- methods

-- what a text says of a method
abbrev Parts : Type 0
Parts = List ℕ × List TypeCode × Option TypeCode

one_text : (text n m : List ℕ) (ps qs : List TypeCode) (a b : Option TypeCode) → IsMethod text n ps a → IsMethod text m qs b → (n ≡ m) × (ps ≡ qs) × (a ≡ b)
one_text text n m ps qs a b x y =
    let named = until is_name_byte 0x28 refl n m _ _ x.named y.named (sym x.parts ∙ y.parts) in
    let typed = one_types ps qs x.types y.types x.last y.last x.typed y.typed named.1 in
    (named.0, typed.0, one_result a b x.last y.last x.returns y.returns typed.1)

-- A text says one thing of a method.
pub same_parts : (a b : Method) → a.text ≡ b.text → (a.name ≡ b.name) × (a.params ≡ b.params) × (a.result ≡ b.result)
same_parts a b e =
    ∥∥₁_elim a.spelled (hlevel props) (λ x. ∥∥₁_elim b.spelled (hlevel props) (λ y.
    one_text b.text a.name b.name a.params b.params a.result b.result (subst (λ t. IsMethod t a.name a.params a.result) e x) y))

abbrev Whole : Type 0
Whole = Parts × List ℕ

abbrev IsWhole : Whole → Type 0
IsWhole w = ∥ IsMethod w.1 w.0.0 w.0.1 w.0.2 ∥₁

abbrev made : (w : Whole) × IsWhole w → Method
made m = record { name = m.0.0.0; params = m.0.0.1; result = m.0.0.2; text = m.0.1; spelled = m.1 }

abbrev whole_of : Method → Whole
whole_of m = ((m.name, m.params, m.result), m.text)

-- Methods of one text are one.
pub same_method : (a b : Method) → a.text ≡ b.text → a ≡ b
same_method a b e =
    let parts = same_parts a b e in
    let names : (a.name, a.params, a.result) ≡ (b.name, b.params, b.result) =
    ap (λ (n : List ℕ). (n, a.params, a.result)) parts.0 ∙ ap (λ (p : List TypeCode). (b.name, p, a.result)) parts.1 ∙ ap (λ (r : Option TypeCode). (b.name, b.params, r)) parts.2 in
    let whole : whole_of a ≡ whole_of b = ap₂ (λ (p : Parts) (t : List ℕ). (p, t)) names e in
    ap made (Σ_prop_path {B = IsWhole} (λ w. ∥∥₁_prop) {u = (whole_of a, a.spelled)} {v = (whole_of b, b.spelled)} whole)

-- A word is the text of one.
pub one_method : (word : Option (List ℕ)) (a b : Method) → IsMethodOf a word → IsMethodOf b word → a ≡ b
one_method (Some word) a b x y = same_method a b (sym x.text_is ∙ y.text_is)
one_method None a b x y = absurd x

-- Where the method of a text can't be called, the text is no method's that can.
pub not_called : (method : Method) (text : List ℕ) → method.text ≡ text → (list_all is_said method.params && is_printed method.result) ≡ false
    → (other : Method) → IsMethodIn other text → ⊥
not_called method text is fails other told =
    let same : other ≡ method = same_method other method (sym told.text_is ∙ sym is) in
    let said : list_all is_said method.params ≡ true = subst (λ (m : Method). list_all is_said m.params ≡ true) same told.said in
    let printed : is_printed method.result ≡ true = subst (λ (m : Method). is_printed m.result ≡ true) same told.printed in
    true≢false (sym (ap₂ ◌&&◌ said printed) ∙ fails)
