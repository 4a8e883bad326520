-- Reading a line: what is read is what the grammar says, and all of that is read.
use Rattle.std.proofs.Common.{◌≡◌, ℕ, ◌<◌, Bool, true, false, cond, not, ◌&&◌, eqb, List, [], ◌∷◌, ◌++◌, length, Option, Some, None, option_map, option_and_then, refl, sym, ap, subst, ◌∙◌, arith, codes, inl, inr, flat_map, append_assoc}
use Rattle.std.specs.List.{AllByRecursion, list_all}
use Rattle.std.specs.Prelude.{◌⊎◌, nat_eq}
use Rattle.std.specs.Cmp.Lexicographic.{bytes_decides}
use Rattle.std.proofs.lemmas.Bool.{and_parts, and_from, not-true}
use Rattle.class_desc.specs.declared.field.TypeCode.{TypeCode}
use Rattle.class_desc.specs.declared.field.TypeCode.TheVariants as kinds
use Rattle.class_desc.specs.TypeCode.{letter}
use Rattle.method_hash.specs.MethodText.{is_class_byte, IsClassTail, IsType}
use Rattle.suid_calc.specs.declared.outline.Member.{Member}
use Rattle.suid_calc.specs.declared.outline.Member.TheVariants.{Interface, Field, Initializer, Constructor, Method}
use Rattle.suid_calc.specs.Grammar.{is_name_byte, is_digit, IsName, IsNumber, IsTypeText, IsReturned, IsDescriptor, IsClassLine, IsLine}
use Rattle.suid_calc.specs.Reading.{split_at, is_name, number, is_type, is_descriptor, after_number, class_of, interface_of, field_with, field_of, constructor_of, method_with, method_of, is_word, with_word, member_of, class_line_of, is_good}
use Rattle.suid_calc.proofs.WordLaws.{some_is, bound, mapped, tested, weaker, Lacks, split_is, split_of, name_is, name_is_read, apart_from, name_has_no_blank, digits_have_no_blank, number_is, number_of}
use Rattle.suid_calc.proofs.TypeLaws.{type_is, type_is_read, descriptor_is, descriptor_is_read}

chosen : {A : Type 0} (b : Bool) (x y z : A) → cond b x y ≡ z → ((b ≡ true) × (x ≡ z)) ⊎ ((b ≡ false) × (y ≡ z))
chosen true x y z h = inl (refl, h)
chosen false x y z h = inr (refl, h)

word_is : (t w : List ℕ) → is_word t w ≡ true → t ≡ w
word_is t w h = (bytes_decides t w).0 h

lacks_by : (b : ℕ) (w : List ℕ) → list_all (λ c. not (eqb c b)) w ≡ true → Lacks b w
lacks_by b [] h = tt
lacks_by b (c ∷ w) h = let a = and_parts (not (eqb c b)) (list_all (λ x. not (eqb x b)) w) h in (not-true (eqb c b) a.0, lacks_by b w a.1)

-- ---- what is read

number_read : (t : List ℕ) (p : ℕ × List ℕ) → after_number t ≡ Some p → (digits : List ℕ) × IsNumber digits p.0 × (t ≡ digits ++ 0x20 ∷ p.1)
number_read t p h =
    let b = bound (λ (q : List ℕ × List ℕ). option_map (λ (n : ℕ). (n, q.1)) (number q.0)) (split_at 0x20 t) p h in
    let m = mapped (λ (n : ℕ). (n, b.0.1)) (number b.0.0) p b.2 in
    let P : ℕ × List ℕ → Type 0 = λ q. IsNumber b.0.0 q.0 in
    let Q : ℕ × List ℕ → Type 0 = λ q. t ≡ b.0.0 ++ 0x20 ∷ q.1 in
    (b.0.0, subst P m.2 (number_is b.0.0 m.0 m.1), subst Q m.2 (split_is 0x20 t b.0 b.1))

pub class_line_is : (t : List ℕ) (p : ℕ × List ℕ) → class_line_of t ≡ Some p → IsClassLine t p.0 p.1
unfolding class_line_of
class_line_is t p h =
    let b = bound (λ (q : List ℕ × List ℕ). cond (is_word q.0 (codes "class")) (class_of q.1) None) (split_at 0x20 t) p h in
    go b.0.0 b.0.1 b.2 (split_is 0x20 t b.0 b.1)
  where
    classed : (w r : List ℕ) → is_word w (codes "class") ≡ true → class_of r ≡ Some p → t ≡ w ++ 0x20 ∷ r → IsClassLine t p.0 p.1
    classed w r same k is =
        let b = bound (λ (q : ℕ × List ℕ). cond (is_name q.1) (Some q) None) (after_number r) p k in
        let a = tested (is_name b.0.1) b.0 p b.2 in
        let n = number_read r b.0 b.1 in
        let whole : t ≡ codes "class" ++ 0x20 ∷ (n.0 ++ 0x20 ∷ b.0.1) = is ∙ ap (λ (l : List ℕ). l ++ 0x20 ∷ r) (word_is w (codes "class") same) ∙ ap (λ (l : List ℕ). codes "class" ++ 0x20 ∷ l) n.2 in
        let P : ℕ × List ℕ → Type 0 = λ q. IsClassLine t q.0 q.1 in
        subst P a.1 (n.0, n.1, name_is b.0.1 a.0, whole)

    go : (w r : List ℕ) → cond (is_word w (codes "class")) (class_of r) None ≡ Some p → t ≡ w ++ 0x20 ∷ r → IsClassLine t p.0 p.1
    go w r k is = elim (chosen (is_word w (codes "class")) (class_of r) None (Some p) k) [
      | inl a ↦ classed w r a.0 a.1 is
      | inr a ↦ absurd cc
    ]

interface_read : (t r : List ℕ) (m : Member) → interface_of r ≡ Some m → t ≡ codes "interface" ++ 0x20 ∷ r → IsLine t m
interface_read t r m h is = let a = tested (is_name r) (Interface r) m h in subst (λ (x : Member). IsLine t x) a.1 (name_is r a.0, is)

field_read : (t r : List ℕ) (m : Member) → field_of r ≡ Some m → t ≡ codes "field" ++ 0x20 ∷ r → IsLine t m
field_read t r m h is =
    let b = bound (λ (p : ℕ × List ℕ). field_with p.0 p.1) (after_number r) m h in
    let n = number_read r b.0 b.1 in
    let c = bound (λ (p : List ℕ × List ℕ). cond (is_name p.0 && is_type p.1) (Some (Field b.0.0 p.0 p.1)) None) (split_at 0x20 b.0.1) m b.2 in
    let d = tested (is_name c.0.0 && is_type c.0.1) (Field b.0.0 c.0.0 c.0.1) m c.2 in
    let e = and_parts (is_name c.0.0) (is_type c.0.1) d.0 in
    let whole : t ≡ codes "field" ++ 0x20 ∷ (n.0 ++ 0x20 ∷ (c.0.0 ++ 0x20 ∷ c.0.1)) =
    is ∙ ap (λ (l : List ℕ). codes "field" ++ 0x20 ∷ l) (n.2 ∙ ap (λ (l : List ℕ). n.0 ++ 0x20 ∷ l) (split_is 0x20 b.0.1 c.0 c.1)) in
    subst (λ (x : Member). IsLine t x) d.1 (n.0, n.1, name_is c.0.0 e.0, type_is c.0.1 e.1, whole)

constructor_read : (t r : List ℕ) (m : Member) → constructor_of r ≡ Some m → t ≡ codes "constructor" ++ 0x20 ∷ r → IsLine t m
constructor_read t r m h is =
    let b = bound (λ (p : ℕ × List ℕ). cond (is_descriptor p.1) (Some (Constructor p.0 p.1)) None) (after_number r) m h in
    let n = number_read r b.0 b.1 in
    let d = tested (is_descriptor b.0.1) (Constructor b.0.0 b.0.1) m b.2 in
    let whole : t ≡ codes "constructor" ++ 0x20 ∷ (n.0 ++ 0x20 ∷ b.0.1) = is ∙ ap (λ (l : List ℕ). codes "constructor" ++ 0x20 ∷ l) n.2 in
    subst (λ (x : Member). IsLine t x) d.1 (n.0, n.1, descriptor_is b.0.1 d.0, whole)

method_read : (t r : List ℕ) (m : Member) → method_of r ≡ Some m → t ≡ codes "method" ++ 0x20 ∷ r → IsLine t m
method_read t r m h is =
    let b = bound (λ (p : ℕ × List ℕ). method_with p.0 p.1) (after_number r) m h in
    let n = number_read r b.0 b.1 in
    let c = bound (λ (p : List ℕ × List ℕ). cond (is_name p.0 && is_descriptor p.1) (Some (Method b.0.0 p.0 p.1)) None) (split_at 0x20 b.0.1) m b.2 in
    let d = tested (is_name c.0.0 && is_descriptor c.0.1) (Method b.0.0 c.0.0 c.0.1) m c.2 in
    let e = and_parts (is_name c.0.0) (is_descriptor c.0.1) d.0 in
    let whole : t ≡ codes "method" ++ 0x20 ∷ (n.0 ++ 0x20 ∷ (c.0.0 ++ 0x20 ∷ c.0.1)) =
    is ∙ ap (λ (l : List ℕ). codes "method" ++ 0x20 ∷ l) (n.2 ∙ ap (λ (l : List ℕ). n.0 ++ 0x20 ∷ l) (split_is 0x20 b.0.1 c.0 c.1)) in
    subst (λ (x : Member). IsLine t x) d.1 (n.0, n.1, name_is c.0.0 e.0, descriptor_is c.0.1 e.1, whole)

with_word_read : (t w r : List ℕ) (m : Member) → with_word w r ≡ Some m → t ≡ w ++ 0x20 ∷ r → IsLine t m
with_word_read t w r m h is =
    elim (chosen (is_word w (codes "interface")) (interface_of r) _ (Some m) h) [
      | inl a ↦ interface_read t r m a.1 (begun (codes "interface") a.0)
      | inr h ↦ elim (chosen (is_word w (codes "field")) (field_of r) _ (Some m) h.1) [
        | inl a ↦ field_read t r m a.1 (begun (codes "field") a.0)
        | inr h ↦ elim (chosen (is_word w (codes "constructor")) (constructor_of r) _ (Some m) h.1) [
          | inl a ↦ constructor_read t r m a.1 (begun (codes "constructor") a.0)
          | inr h ↦ elim (chosen (is_word w (codes "method")) (method_of r) None (Some m) h.1) [
            | inl a ↦ method_read t r m a.1 (begun (codes "method") a.0)
            | inr h ↦ absurd cc
          ]
        ]
      ]
    ]
  where
    begun : (v : List ℕ) → is_word w v ≡ true → t ≡ v ++ 0x20 ∷ r
    begun v same = is ∙ ap (λ (l : List ℕ). l ++ 0x20 ∷ r) (word_is w v same)

pub line_is : (t : List ℕ) (m : Member) → member_of t ≡ Some m → IsLine t m
unfolding member_of
line_is t m h = elim (chosen (is_word t (codes "clinit")) (Some Initializer) _ (Some m) h) [
  | inl a ↦ subst (λ (x : Member). IsLine t x) (some_is Initializer m a.1) (word_is t (codes "clinit") a.0)
  | inr a ↦ let b = bound (λ (p : List ℕ × List ℕ). with_word p.0 p.1) (split_at 0x20 t) m a.1 in with_word_read t b.0.0 b.0.1 m b.2 (split_is 0x20 t b.0 b.1)
]

-- ---- all of it is read

number_found : (digits : List ℕ) (n : ℕ) (r : List ℕ) → IsNumber digits n → after_number (digits ++ 0x20 ∷ r) ≡ Some (n, r)
number_found digits n r h =
    ap (option_and_then (λ (q : List ℕ × List ℕ). option_map (λ (k : ℕ). (k, q.1)) (number q.0))) (split_of 0x20 digits r (digits_have_no_blank digits n h))
    ∙ ap (option_map (λ (k : ℕ). (k, r))) (number_of digits n h)

taken : {A : Type 0} (b : Bool) (x : A) → b ≡ true → cond b (Some x) None ≡ Some x
taken true x h = refl
taken false x h = absurd cc

pub class_line_found : (t : List ℕ) (modifiers : ℕ) (name : List ℕ) → IsClassLine t modifiers name → class_line_of t ≡ Some (modifiers, name)
unfolding class_line_of
class_line_found t modifiers name (digits, n, named, is) =
    let split : split_at 0x20 t ≡ Some (codes "class", digits ++ 0x20 ∷ name) = ap (split_at 0x20) is ∙ split_of 0x20 (codes "class") (digits ++ 0x20 ∷ name) (lacks_by 0x20 (codes "class") refl) in
    let classed : class_of (digits ++ 0x20 ∷ name) ≡ Some (modifiers, name) =
    ap (option_and_then (λ (q : ℕ × List ℕ). cond (is_name q.1) (Some q) None)) (number_found digits modifiers name n) ∙ taken (is_name name) (modifiers, name) (name_is_read name named) in
    ap (option_and_then (λ (q : List ℕ × List ℕ). cond (is_word q.0 (codes "class")) (class_of q.1) None)) split ∙ classed

worded : (w r : List ℕ) → Lacks 0x20 w → is_word (w ++ 0x20 ∷ r) (codes "clinit") ≡ false → member_of (w ++ 0x20 ∷ r) ≡ with_word w r
unfolding member_of
worded w r lacks other = rw other (ap (option_and_then (λ (p : List ℕ × List ℕ). with_word p.0 p.1)) (split_of 0x20 w r lacks))

pub line_found : (t : List ℕ) (m : Member) → IsLine t m → member_of t ≡ Some m
unfolding member_of
line_found t (Interface name) (named, is) =
    ap member_of is ∙ worded (codes "interface") name (lacks_by 0x20 (codes "interface") refl) refl ∙ taken (is_name name) (Interface name) (name_is_read name named)
line_found t (Field modifiers name type_text) (digits, n, named, typed, is) =
    ap member_of is ∙ worded (codes "field") (digits ++ 0x20 ∷ (name ++ 0x20 ∷ type_text)) (lacks_by 0x20 (codes "field") refl) refl
    ∙ ap (option_and_then (λ (p : ℕ × List ℕ). field_with p.0 p.1)) (number_found digits modifiers (name ++ 0x20 ∷ type_text) n)
    ∙ ap (option_and_then (λ (p : List ℕ × List ℕ). cond (is_name p.0 && is_type p.1) (Some (Field modifiers p.0 p.1)) None)) (split_of 0x20 name type_text (name_has_no_blank name named))
    ∙ taken (is_name name && is_type type_text) (Field modifiers name type_text) (and_from (is_name name) (is_type type_text) (name_is_read name named) (type_is_read type_text typed))
line_found t Initializer is = ap member_of is
line_found t (Constructor modifiers descriptor) (digits, n, described, is) =
    ap member_of is ∙ worded (codes "constructor") (digits ++ 0x20 ∷ descriptor) (lacks_by 0x20 (codes "constructor") refl) refl
    ∙ ap (option_and_then (λ (p : ℕ × List ℕ). cond (is_descriptor p.1) (Some (Constructor p.0 p.1)) None)) (number_found digits modifiers descriptor n)
    ∙ taken (is_descriptor descriptor) (Constructor modifiers descriptor) (descriptor_is_read descriptor described)
line_found t (Method modifiers name descriptor) (digits, n, named, described, is) =
    ap member_of is ∙ worded (codes "method") (digits ++ 0x20 ∷ (name ++ 0x20 ∷ descriptor)) (lacks_by 0x20 (codes "method") refl) refl
    ∙ ap (option_and_then (λ (p : ℕ × List ℕ). method_with p.0 p.1)) (number_found digits modifiers (name ++ 0x20 ∷ descriptor) n)
    ∙ ap (option_and_then (λ (p : List ℕ × List ℕ). cond (is_name p.0 && is_descriptor p.1) (Some (Method modifiers p.0 p.1)) None)) (split_of 0x20 name descriptor (name_has_no_blank name named))
    ∙ taken (is_name name && is_descriptor descriptor) (Method modifiers name descriptor) (and_from (is_name name) (is_descriptor descriptor) (name_is_read name named) (descriptor_is_read descriptor described))

pub line_is_good : (t : List ℕ) (m : Member) → IsLine t m → is_good m ≡ true
line_is_good t (Interface name) (named, is) = name_is_read name named
line_is_good t (Field modifiers name type_text) (digits, n, named, typed, is) = and_from (is_name name) (is_type type_text) (name_is_read name named) (type_is_read type_text typed)
line_is_good t Initializer is = refl
line_is_good t (Constructor modifiers descriptor) (digits, n, described, is) = descriptor_is_read descriptor described
line_is_good t (Method modifiers name descriptor) (digits, n, named, described, is) = and_from (is_name name) (is_descriptor descriptor) (name_is_read name named) (descriptor_is_read descriptor described)

-- ---- no line has an LF in it

joined : (b : ℕ) (x y : List ℕ) → Lacks b x → Lacks b y → Lacks b (x ++ y)
joined b [] y k l = l
joined b (c ∷ x) y k l = (k.0, joined b x y k.1 l)

name_lacks : (t : List ℕ) → IsName t → Lacks 0x0A t
name_lacks t n = weaker (λ b. is_name_byte b ≡ true) (λ c. eqb c 0x0A ≡ false) (λ c h. apart_from is_name_byte 0x0A c refl h) t n.visible

number_lacks : (t : List ℕ) (n : ℕ) → IsNumber t n → Lacks 0x0A t
number_lacks t n h = weaker (λ b. is_digit b ≡ true) (λ c. eqb c 0x0A ≡ false) (λ c k. apart_from is_digit 0x0A c refl k) t h.digital

tail_lacks : (t : List ℕ) → IsClassTail t → Lacks 0x0A t
tail_lacks t (name, some, are, is) =
    subst (λ (l : List ℕ). Lacks 0x0A l) (sym is)
    (joined 0x0A name (0x3B ∷ []) (weaker (λ b. is_class_byte b ≡ true) (λ c. eqb c 0x0A ≡ false) (λ c h. apart_from is_class_byte 0x0A c refl h) name are) (refl, tt))

type_lacks : (t : List ℕ) → IsType t → Lacks 0x0A t
type_lacks [] h = absurd h
type_lacks (c ∷ t) (inl h) = (rw h.0 refl, type_lacks t h.1)
type_lacks (c ∷ t) (inr (inl h)) = (rw h.0 refl, tail_lacks t h.1)
type_lacks (c ∷ t) (inr (inr (code, primitive, is, none))) = (rw is (lettered code), subst (λ (l : List ℕ). Lacks 0x0A l) (sym none) tt)
  where
    lettered : (code : TypeCode) → eqb (letter code) 0x0A ≡ false
    lettered kinds.Byte = refl
    lettered kinds.Char = refl
    lettered kinds.Double = refl
    lettered kinds.Float = refl
    lettered kinds.Int = refl
    lettered kinds.Long = refl
    lettered kinds.Short = refl
    lettered kinds.Boolean = refl
    lettered kinds.Array = refl
    lettered kinds.Object = refl

types_lack : (types : List (List ℕ)) → AllByRecursion IsType types → Lacks 0x0A (flat_map (λ (x : List ℕ). x) types)
types_lack [] h = tt
types_lack (x ∷ types) h = joined 0x0A x (flat_map (λ (y : List ℕ). y) types) (type_lacks x h.0) (types_lack types h.1)

returned_lacks : (t : List ℕ) → IsReturned t → Lacks 0x0A t
returned_lacks t (inl h) = type_lacks t h
returned_lacks t (inr e) = subst (λ (l : List ℕ). Lacks 0x0A l) (sym e) (refl, tt)

descriptor_lacks : (t : List ℕ) → IsDescriptor t → Lacks 0x0A t
descriptor_lacks t d =
    subst (λ (l : List ℕ). Lacks 0x0A l) (sym d.parts)
    (refl, joined 0x0A (flat_map (λ (x : List ℕ). x) d.types) (0x29 ∷ d.last) (types_lack d.types d.typed) (refl, returned_lacks d.last d.returned))

blanked : (x y : List ℕ) → Lacks 0x0A x → Lacks 0x0A y → Lacks 0x0A (x ++ 0x20 ∷ y)
blanked x y k l = joined 0x0A x (0x20 ∷ y) k (refl, l)

pub class_line_lacks : (t : List ℕ) (modifiers : ℕ) (name : List ℕ) → IsClassLine t modifiers name → Lacks 0x0A t
class_line_lacks t modifiers name (digits, n, named, is) =
    subst (λ (l : List ℕ). Lacks 0x0A l) (sym is)
    (blanked (codes "class") (digits ++ 0x20 ∷ name) (lacks_by 0x0A (codes "class") refl) (blanked digits name (number_lacks digits modifiers n) (name_lacks name named)))

pub line_lacks : (t : List ℕ) (m : Member) → IsLine t m → Lacks 0x0A t
line_lacks t (Interface name) (named, is) = subst (λ (l : List ℕ). Lacks 0x0A l) (sym is) (blanked (codes "interface") name (lacks_by 0x0A (codes "interface") refl) (name_lacks name named))
line_lacks t (Field modifiers name type_text) (digits, n, named, typed, is) =
    subst (λ (l : List ℕ). Lacks 0x0A l) (sym is)
    (blanked (codes "field") (digits ++ 0x20 ∷ (name ++ 0x20 ∷ type_text)) (lacks_by 0x0A (codes "field") refl)
    (blanked digits (name ++ 0x20 ∷ type_text) (number_lacks digits modifiers n) (blanked name type_text (name_lacks name named) (type_lacks type_text typed.typed))))
line_lacks t Initializer is = subst (λ (l : List ℕ). Lacks 0x0A l) (sym is) (lacks_by 0x0A (codes "clinit") refl)
line_lacks t (Constructor modifiers descriptor) (digits, n, described, is) =
    subst (λ (l : List ℕ). Lacks 0x0A l) (sym is)
    (blanked (codes "constructor") (digits ++ 0x20 ∷ descriptor) (lacks_by 0x0A (codes "constructor") refl) (blanked digits descriptor (number_lacks digits modifiers n) (descriptor_lacks descriptor described)))
line_lacks t (Method modifiers name descriptor) (digits, n, named, described, is) =
    subst (λ (l : List ℕ). Lacks 0x0A l) (sym is)
    (blanked (codes "method") (digits ++ 0x20 ∷ (name ++ 0x20 ∷ descriptor)) (lacks_by 0x0A (codes "method") refl)
    (blanked digits (name ++ 0x20 ∷ descriptor) (number_lacks digits modifiers n) (blanked name descriptor (name_lacks name named) (descriptor_lacks descriptor described))))
