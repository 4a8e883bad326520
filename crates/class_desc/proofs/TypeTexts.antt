-- The tests of type texts are exact.
use Rattle.std.proofs.Common.{◌≡◌, ℕ, suc, ◌-◌, ◌<◌, ◌≤◌, ◌||◌, ◌&&◌, Bool, true, false, cond, eqb, List, [], ◌∷◌, ◌++◌, length, get_or, Option, Some, None, refl, sym, ap, ◌∙◌, arith, inl, inr}
use Rattle.std.specs.Prelude.{IfSome, is_some}
use Rattle.std.proofs.lemmas.Bool.{eqb-true, eqb-false, and_parts, or_cases}
use Rattle.class_desc.specs.declared.field.TypeCode.{TypeCode}
use Rattle.class_desc.specs.declared.field.TypeCode.TheVariants as codes
use Rattle.class_desc.specs.TypeCode.{is_primitive, letter}
use Rattle.class_desc.specs.TypeText.{IsClassText, IsComponentText, IsArrayText, HasTypeText, HasElements, ends_class, is_class_text, is_letter, is_component_text, is_array_text, is_nil, fits_text, code_of, element_of}

pub ends_last : (t : List ℕ) → 0 < length t → ends_class t ≡ eqb (get_or t (length t - 1) 0) 59
unfolding ends_class
ends_last [] h = absurd (omega arith)
ends_last (c ∷ []) h = refl
ends_last (c ∷ d ∷ t) h =
    let e : length (c ∷ d ∷ t) - 1 ≡ suc (length (d ∷ t) - 1) = omega arith in
    ends_last (d ∷ t) (omega arith) ∙ sym (ap (λ n. eqb (get_or (c ∷ d ∷ t) n 0) 59) e)

pub eq_true : (a b : ℕ) → a ≡ b → eqb a b ≡ true
eq_true a b e = go (eqb a b) refl
  where
    go : (c : Bool) → eqb a b ≡ c → c ≡ true
    go true f = refl
    go false f = absurd (eqb-false a b f e)

ends : (t : List ℕ) → ends_class t ≡ true → (v : List ℕ) × (t ≡ v ++ 59 ∷ [])
unfolding ends_class
ends [] h = absurd cc
ends (c ∷ []) h = ([], ap (λ (x : ℕ). x ∷ []) (eqb-true c 59 h))
ends (c ∷ d ∷ t) h = let r = ends (d ∷ t) h in (c ∷ r.0, ap (λ (l : List ℕ). c ∷ l) r.1)

ends_of : (v : List ℕ) → ends_class (v ++ 59 ∷ []) ≡ true
unfolding ends_class
ends_of [] = refl
ends_of (c ∷ []) = refl
ends_of (c ∷ d ∷ v) = ends_of (d ∷ v)

pub class_text : (t : List ℕ) → is_class_text t ≡ true → IsClassText t
class_text [] h = absurd cc
class_text (c ∷ []) h = absurd cc
class_text (c ∷ d ∷ t) h =
    let p = and_parts (eqb c 76) (ends_class t) h in
    let r = ends t p.1 in
    (d ∷ r.0, omega arith, ap (λ (x : ℕ). x ∷ d ∷ t) (eqb-true c 76 p.0) ∙ ap (λ (l : List ℕ). 76 ∷ d ∷ l) r.1)

class_text_at : (inner : List ℕ) → 0 < length inner → is_class_text (76 ∷ (inner ++ 59 ∷ [])) ≡ true
class_text_at [] h = absurd (omega arith)
class_text_at (d ∷ v) h = ends_of v

pub class_text_of : (t : List ℕ) → IsClassText t → is_class_text t ≡ true
class_text_of t h = ap is_class_text h.2 ∙ class_text_at h.0 h.1

letter_code : (c : ℕ) → is_letter c ≡ true → (code : TypeCode) × (is_primitive code ≡ true) × (c ≡ letter code)
letter_code c h = elim (or_cases (eqb c 66) (eqb c 67 || (eqb c 68 || (eqb c 70 || (eqb c 73 || (eqb c 74 || (eqb c 83 || eqb c 90)))))) h) [
  | inl e ↦ (codes.Byte, refl, eqb-true c 66 e)
  | inr h ↦ elim (or_cases (eqb c 67) (eqb c 68 || (eqb c 70 || (eqb c 73 || (eqb c 74 || (eqb c 83 || eqb c 90))))) h) [
    | inl e ↦ (codes.Char, refl, eqb-true c 67 e)
    | inr h ↦ elim (or_cases (eqb c 68) (eqb c 70 || (eqb c 73 || (eqb c 74 || (eqb c 83 || eqb c 90)))) h) [
      | inl e ↦ (codes.Double, refl, eqb-true c 68 e)
      | inr h ↦ elim (or_cases (eqb c 70) (eqb c 73 || (eqb c 74 || (eqb c 83 || eqb c 90))) h) [
        | inl e ↦ (codes.Float, refl, eqb-true c 70 e)
        | inr h ↦ elim (or_cases (eqb c 73) (eqb c 74 || (eqb c 83 || eqb c 90)) h) [
          | inl e ↦ (codes.Int, refl, eqb-true c 73 e)
          | inr h ↦ elim (or_cases (eqb c 74) (eqb c 83 || eqb c 90) h) [
            | inl e ↦ (codes.Long, refl, eqb-true c 74 e)
            | inr h ↦ elim (or_cases (eqb c 83) (eqb c 90) h) [
              | inl e ↦ (codes.Short, refl, eqb-true c 83 e)
              | inr h ↦ (codes.Boolean, refl, eqb-true c 90 h)
            ]
          ]
        ]
      ]
    ]
  ]
]

code_letter : (code : TypeCode) → is_primitive code ≡ true → is_letter (letter code) ≡ true
code_letter codes.Byte h = refl
code_letter codes.Char h = refl
code_letter codes.Double h = refl
code_letter codes.Float h = refl
code_letter codes.Int h = refl
code_letter codes.Long h = refl
code_letter codes.Short h = refl
code_letter codes.Boolean h = refl
code_letter codes.Array h = absurd cc
code_letter codes.Object h = absurd cc

code_plain : (code : TypeCode) → is_primitive code ≡ true → (eqb (letter code) 91 ≡ false) × (eqb (letter code) 76 ≡ false)
code_plain codes.Byte h = (refl, refl)
code_plain codes.Char h = (refl, refl)
code_plain codes.Double h = (refl, refl)
code_plain codes.Float h = (refl, refl)
code_plain codes.Int h = (refl, refl)
code_plain codes.Long h = (refl, refl)
code_plain codes.Short h = (refl, refl)
code_plain codes.Boolean h = (refl, refl)
code_plain codes.Array h = absurd cc
code_plain codes.Object h = absurd cc

pub nil_is : {A : Type 0} (t : List A) → is_nil t ≡ true → t ≡ []
nil_is [] h = refl
nil_is (x ∷ t) h = absurd cc

pub element_text : (t : List ℕ) → is_component_text t ≡ true → IsComponentText t
unfolding is_component_text
element_text [] h = absurd cc
element_text (c ∷ t) h = go (λ f. element_text t f) (eqb c 91) refl h
  where
    go : (is_component_text t ≡ true → IsComponentText t) → (b : Bool) → eqb c 91 ≡ b → cond b (is_component_text t) (cond (eqb c 76) (is_class_text (c ∷ t)) (is_letter c && is_nil t)) ≡ true → IsComponentText (c ∷ t)
    go more true e h = inl (eqb-true c 91 e, more h)
    go more false e h = inner (eqb c 76) refl h
      where
        inner : (b : Bool) → eqb c 76 ≡ b → cond b (is_class_text (c ∷ t)) (is_letter c && is_nil t) ≡ true → IsComponentText (c ∷ t)
        inner true e h = inr (inl (class_text (c ∷ t) h))
        inner false e h = let p = and_parts (is_letter c) (is_nil t) h in let l = letter_code c p.0 in inr (inr (l.0, l.1, ap (λ (x : ℕ). x ∷ t) l.2 ∙ ap (λ (s : List ℕ). letter l.0 ∷ s) (nil_is t p.1)))

primitive_text : (code : TypeCode) → is_primitive code ≡ true → is_component_text (letter code ∷ []) ≡ true
unfolding is_component_text
primitive_text code h =
    let p = code_plain code h in
    let m = code_letter code h in
    rw (p.0, p.1, m) refl

class_head : (c : ℕ) (t : List ℕ) → IsClassText (c ∷ t) → c ≡ 76
class_head c t h = let e = h.2 in cc

pub element_text_of : (t : List ℕ) → IsComponentText t → is_component_text t ≡ true
unfolding is_component_text
element_text_of [] h = absurd h
element_text_of (c ∷ t) h = elim h [
  | inl p ↦ rw (eq_true c 91 p.0) (element_text_of t p.1)
  | inr q ↦ elim q [
    | inl k ↦ (let e = class_head c t k in let f : eqb c 91 ≡ false = rw e refl in rw (f, eq_true c 76 e) (class_text_of (c ∷ t) k))
    | inr l ↦ ap is_component_text l.2 ∙ primitive_text l.0 l.1
  ]
]

pub array_text : (t : List ℕ) → is_array_text t ≡ true → IsArrayText t
unfolding is_array_text
array_text [] h = absurd cc
array_text (c ∷ t) h = let p = and_parts (eqb c 91) (is_component_text t) h in (eqb-true c 91 p.0, element_text t p.1)

pub array_text_of : (t : List ℕ) → IsArrayText t → is_array_text t ≡ true
unfolding is_array_text
array_text_of [] h = absurd h
array_text_of (c ∷ t) h = rw (eq_true c 91 h.0, element_text_of t h.1) refl

-- the letter that follows the first bracket stands for a type
component_code : (d : ℕ) (t : List ℕ) → IsComponentText (d ∷ t) → (code : TypeCode) × (d ≡ letter code)
component_code d t h = elim h [
  | inl p ↦ (codes.Array, p.0)
  | inr q ↦ elim q [
    | inl k ↦ (codes.Object, class_head d t k)
    | inr l ↦ (l.0, let e = l.2 in cc)
  ]
]

-- A type's letter stands for the type.
pub letter_back : (code : TypeCode) → code_of (letter code) ≡ Some code
letter_back codes.Byte = refl
letter_back codes.Char = refl
letter_back codes.Double = refl
letter_back codes.Float = refl
letter_back codes.Int = refl
letter_back codes.Long = refl
letter_back codes.Short = refl
letter_back codes.Boolean = refl
letter_back codes.Array = refl
letter_back codes.Object = refl

-- an array's text says what its elements are, and no other text does
pub is_some-element_of : (t : List ℕ) → is_some (element_of t) ≡ is_array_text t
unfolding element_of is_array_text is_component_text
is_some-element_of [] = refl
is_some-element_of (c ∷ []) = sym (and_none (eqb c 0x5B))
  where
    and_none : (b : Bool) → (b && false) ≡ false
    and_none true = refl
    and_none false = refl
is_some-element_of (c ∷ d ∷ t) = go (is_array_text (c ∷ d ∷ t)) refl
  where
    go : (b : Bool) → is_array_text (c ∷ d ∷ t) ≡ b → is_some (cond b (code_of d) None) ≡ b
    go true e = let k = component_code d t (array_text (c ∷ d ∷ t) e).1 in rw k.1 (ap is_some (letter_back k.0))
    go false e = refl

pub fits : (code : TypeCode) (t : List ℕ) → fits_text code t ≡ true → HasTypeText code t
fits codes.Array t h = array_text t (sym (is_some-element_of t) ∙ h)
fits codes.Object t h = class_text t h
fits codes.Byte t h = absurd cc
fits codes.Char t h = absurd cc
fits codes.Double t h = absurd cc
fits codes.Float t h = absurd cc
fits codes.Int t h = absurd cc
fits codes.Long t h = absurd cc
fits codes.Short t h = absurd cc
fits codes.Boolean t h = absurd cc

pub fits_of : (code : TypeCode) (t : List ℕ) → HasTypeText code t → fits_text code t ≡ true
fits_of codes.Array t h = is_some-element_of t ∙ array_text_of t h
fits_of codes.Object t h = class_text_of t h
fits_of codes.Byte t h = absurd h
fits_of codes.Char t h = absurd h
fits_of codes.Double t h = absurd h
fits_of codes.Float t h = absurd h
fits_of codes.Int t h = absurd h
fits_of codes.Long t h = absurd h
fits_of codes.Short t h = absurd h
fits_of codes.Boolean t h = absurd h

-- ---- what the tests answer

pub not_of : {P : Type 0} (b : Bool) → (P → b ≡ true) → false ≡ b → ¬ P
not_of b f e p = let t : false ≡ true = e ∙ f p in absurd cc

-- the letter that follows the first bracket tells the elements' type
pub elements_found : (t : List ℕ) (r : Option TypeCode) → is_array_text t ≡ true → 2 ≤ length t → IfSome r (λ code. get_or t 1 0 ≡ letter code) → IfSome r (HasElements t)
elements_found [] r h le f = absurd (omega arith)
elements_found (c ∷ []) r h le f = absurd (omega arith)
elements_found (c ∷ d ∷ t) None h le f = tt
elements_found (c ∷ d ∷ t) (Some code) h le f = (array_text (c ∷ d ∷ t) h, f)

pub elements_of_none : (t : List ℕ) → false ≡ is_array_text t → (code : TypeCode) → ¬ HasElements t code
elements_of_none [] h code e = e
elements_of_none (c ∷ []) h code e = e
elements_of_none (c ∷ d ∷ t) h code e = not_of (is_array_text (c ∷ d ∷ t)) (array_text_of (c ∷ d ∷ t)) h e.0
