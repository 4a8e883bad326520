-- Reading types and descriptors: what is read is what the grammar says, and all of that is read.
use Rattle.std.proofs.Common.{◌≡◌, ℕ, zero, suc, ◌+◌, ◌<◌, ◌≤◌, Bool, true, false, cond, not, ◌&&◌, ◌||◌, eqb, leb, List, [], ◌∷◌, ◌++◌, length, flat_map, Option, Some, None, option_and_then, refl, sym, ap, subst, ◌∙◌, arith, eq-eqb, eqb-true, le-leb, leb-true, append_assoc, append-nil, inl, inr}
use Rattle.std.specs.List.{AllByRecursion}
use Rattle.std.specs.Prelude.{◌⊎◌, nat_eq}
use Rattle.std.specs.Cmp.Lexicographic.{pointwise, bytes_decides}
use Rattle.std.proofs.lemmas.Bool.{and_parts, and_from, ne_eqb, eqb-false, or_cases, or_left, or_right}
use Rattle.class_desc.specs.declared.field.TypeCode.{TypeCode}
use Rattle.class_desc.specs.declared.field.TypeCode.TheVariants as codes
use Rattle.class_desc.specs.TypeCode.{is_primitive, letter}
use Rattle.class_desc.specs.TypeText.{is_letter}
use Rattle.method_hash.specs.MethodText.{is_class_byte, AreClassBytes, IsClassTail, IsType}
use Rattle.suid_calc.specs.declared.outline.TheConstants.{TYPE_BYTES, MAX_PARAMETERS}
use Rattle.suid_calc.specs.Grammar.{IsTypeText, IsReturned, IsDescriptor}
use Rattle.suid_calc.specs.Reading.{after_name, after_class, after_type, after_parameters, is_end, is_returned, is_type, returned_behind, is_signature, is_descriptor}
use Rattle.suid_calc.proofs.WordLaws.{some_is, bound, tested, apart_from}

name_is : (t r : List ℕ) → after_name t ≡ Some r → (w : List ℕ) × AreClassBytes w × (t ≡ w ++ 0x3B ∷ r)
unfolding after_name
name_is [] r h = absurd cc
name_is (c ∷ t) r h = go (λ g. name_is t r g) (eqb c 0x3B) refl (is_class_byte c) refl h
  where
    go : (after_name t ≡ Some r → (w : List ℕ) × AreClassBytes w × (t ≡ w ++ 0x3B ∷ r)) → (u : Bool) → eqb c 0x3B ≡ u → (v : Bool) → is_class_byte c ≡ v → cond u (Some t) (cond v (after_name t) None) ≡ Some r → (w : List ℕ) × AreClassBytes w × (c ∷ t ≡ w ++ 0x3B ∷ r)
    go again true e v f g =
        let is : t ≡ r = some_is t r g in
        let same : c ≡ 0x3B = eqb-true c 0x3B e in
        ([], tt, ap (λ (n : ℕ). n ∷ t) same ∙ ap (λ (l : List ℕ). 0x3B ∷ l) is)
    go again false e true f g = let w = again g in (c ∷ w.0, (f, w.1), ap (λ (l : List ℕ). c ∷ l) w.2)
    go again false e false f g = absurd cc

name_of : (w r : List ℕ) → AreClassBytes w → after_name (w ++ 0x3B ∷ r) ≡ Some r
unfolding after_name
name_of [] r h = refl
name_of (c ∷ w) r h =
    let good : is_class_byte c ≡ true = h.0 in
    let apart : eqb c 0x3B ≡ false = apart_from is_class_byte 0x3B c refl good in
    subst (λ (v : Bool). cond (eqb c 0x3B) (Some (w ++ 0x3B ∷ r)) (cond v (after_name (w ++ 0x3B ∷ r)) None) ≡ Some r) (sym good)
    (subst (λ (u : Bool). cond u (Some (w ++ 0x3B ∷ r)) (after_name (w ++ 0x3B ∷ r)) ≡ Some r) (sym apart) (name_of w r h.1))

class_is : (t r : List ℕ) → after_class t ≡ Some r → (x : List ℕ) × IsClassTail x × (t ≡ x ++ r)
class_is [] r h = absurd cc
class_is (c ∷ t) r h = go (is_class_byte c) refl h
  where
    go : (v : Bool) → is_class_byte c ≡ v → cond v (after_name t) None ≡ Some r → (x : List ℕ) × IsClassTail x × (c ∷ t ≡ x ++ r)
    go true e g =
        let w = name_is t r g in
        (c ∷ (w.0 ++ 0x3B ∷ []), (c ∷ w.0, omega arith, (e, w.1), refl), ap (λ (l : List ℕ). c ∷ l) (w.2 ∙ sym (append_assoc w.0 (0x3B ∷ []) r)))
    go false e g = absurd cc

class_of : (x r : List ℕ) → IsClassTail x → after_class (x ++ r) ≡ Some r
class_of x r ([], some, are, is) = absurd (omega arith)
class_of x r (c ∷ name, some, are, is) =
    let good : is_class_byte c ≡ true = are.0 in
    subst (λ (y : List ℕ). after_class (y ++ r) ≡ Some r) (sym is)
    (subst (λ (v : Bool). cond v (after_name ((name ++ 0x3B ∷ []) ++ r)) None ≡ Some r) (sym good)
    (subst (λ (l : List ℕ). after_name l ≡ Some r) (sym (append_assoc name (0x3B ∷ []) r)) (name_of name r are.1)))

letter_is : (c : ℕ) → is_letter c ≡ true → (code : TypeCode) × (is_primitive code ≡ true) × (c ≡ letter code)
letter_is c h =
    elim (or_cases (eqb c 0x42) _ h) [
      | inl e ↦ (codes.Byte, refl, eqb-true c 0x42 e)
      | inr h ↦
          elim (or_cases (eqb c 0x43) _ h) [
            | inl e ↦ (codes.Char, refl, eqb-true c 0x43 e)
            | inr h ↦
                elim (or_cases (eqb c 0x44) _ h) [
                  | inl e ↦ (codes.Double, refl, eqb-true c 0x44 e)
                  | inr h ↦
                      elim (or_cases (eqb c 0x46) _ h) [
                        | inl e ↦ (codes.Float, refl, eqb-true c 0x46 e)
                        | inr h ↦
                            elim (or_cases (eqb c 0x49) _ h) [
                              | inl e ↦ (codes.Int, refl, eqb-true c 0x49 e)
                              | inr h ↦
                                  elim (or_cases (eqb c 0x4A) _ h) [
                                    | inl e ↦ (codes.Long, refl, eqb-true c 0x4A e)
                                    | inr h ↦
                                        elim (or_cases (eqb c 0x53) _ h) [ inl e ↦ (codes.Short, refl, eqb-true c 0x53 e) | inr h ↦ (codes.Boolean, refl, eqb-true c 0x5A h) ]
                                  ]
                            ]
                      ]
                ]
          ]
    ]

letter_of : (code : TypeCode) (r : List ℕ) → is_primitive code ≡ true → after_type (letter code ∷ r) ≡ Some r
unfolding after_type
letter_of codes.Byte r h = refl
letter_of codes.Char r h = refl
letter_of codes.Double r h = refl
letter_of codes.Float r h = refl
letter_of codes.Int r h = refl
letter_of codes.Long r h = refl
letter_of codes.Short r h = refl
letter_of codes.Boolean r h = refl
letter_of codes.Array r h = absurd cc
letter_of codes.Object r h = absurd cc

pub after_type_is : (t r : List ℕ) → after_type t ≡ Some r → (x : List ℕ) × IsType x × (t ≡ x ++ r)
unfolding after_type
after_type_is [] r h = absurd cc
after_type_is (c ∷ t) r h = go (λ g. after_type_is t r g) (eqb c 0x5B) refl (eqb c 0x4C) refl (is_letter c) refl h
  where
    go : (after_type t ≡ Some r → (x : List ℕ) × IsType x × (t ≡ x ++ r)) → (u : Bool) → eqb c 0x5B ≡ u → (v : Bool) → eqb c 0x4C ≡ v → (w : Bool) → is_letter c ≡ w
        → cond u (after_type t) (cond v (after_class t) (cond w (Some t) None)) ≡ Some r → (x : List ℕ) × IsType x × (c ∷ t ≡ x ++ r)
    go again true e v f w k g = let x = again g in (c ∷ x.0, inl (eqb-true c 0x5B e, x.1), ap (λ (l : List ℕ). c ∷ l) x.2)
    go again false e true f w k g = let x = class_is t r g in (c ∷ x.0, inr (inl (eqb-true c 0x4C f, x.1)), ap (λ (l : List ℕ). c ∷ l) x.2)
    go again false e false f true k g =
        let code = letter_is c k in
        (c ∷ [], inr (inr (code.0, code.1, code.2, refl)), ap (λ (l : List ℕ). c ∷ l) (some_is t r g))
    go again false e false f false k g = absurd cc

pub after_type_of : (x r : List ℕ) → IsType x → after_type (x ++ r) ≡ Some r
unfolding after_type
after_type_of [] r h = absurd h
after_type_of (c ∷ t) r (inl h) =
    subst (λ (n : ℕ). cond (eqb n 0x5B) (after_type (t ++ r)) (cond (eqb n 0x4C) (after_class (t ++ r)) (cond (is_letter n) (Some (t ++ r)) None)) ≡ Some r) (sym h.0) (after_type_of t r h.1)
after_type_of (c ∷ t) r (inr (inl h)) =
    subst (λ (n : ℕ). cond (eqb n 0x5B) (after_type (t ++ r)) (cond (eqb n 0x4C) (after_class (t ++ r)) (cond (is_letter n) (Some (t ++ r)) None)) ≡ Some r) (sym h.0) (class_of t r h.1)
after_type_of (c ∷ t) r (inr (inr (code, primitive, is, none))) =
    subst (λ (l : List ℕ). after_type (c ∷ (l ++ r)) ≡ Some r) (sym none)
    (subst (λ (n : ℕ). after_type (n ∷ r) ≡ Some r) (sym is) (letter_of code r primitive))

-- ---- parameters

-- no type begins with a closing parenthesis
begins : (c : ℕ) (x : List ℕ) → IsType (c ∷ x) → eqb c 0x29 ≡ false
begins c x (inl h) = rw h.0 refl
begins c x (inr (inl h)) = rw h.0 refl
begins c x (inr (inr (code, primitive, is, none))) = rw is (apart code)
  where
    apart : (code : TypeCode) → eqb (letter code) 0x29 ≡ false
    apart codes.Byte = refl
    apart codes.Char = refl
    apart codes.Double = refl
    apart codes.Float = refl
    apart codes.Int = refl
    apart codes.Long = refl
    apart codes.Short = refl
    apart codes.Boolean = refl
    apart codes.Array = refl
    apart codes.Object = refl

abbrev join : List (List ℕ) → List ℕ
join types = flat_map (λ (x : List ℕ). x) types

abbrev AreParameters : ℕ → List ℕ → List ℕ → Type 0
AreParameters n t r = (types : List (List ℕ)) × AllByRecursion IsType types × (length types ≤ n) × (t ≡ join types ++ 0x29 ∷ r)

closes : (n c : ℕ) (t r : List ℕ) → eqb c 0x29 ≡ true → Some t ≡ Some r → AreParameters n (c ∷ t) r
closes n c t r e g = ([], tt, omega arith, ap (λ (m : ℕ). m ∷ t) (eqb-true c 0x29 e) ∙ ap (λ (l : List ℕ). 0x29 ∷ l) (some_is t r g))

parameters_are : (n : ℕ) (t r : List ℕ) → after_parameters n t ≡ Some r → AreParameters n t r
unfolding after_parameters
parameters_are n [] r h = absurd cc
parameters_are zero (c ∷ t) r h = go (eqb c 0x29) refl h
  where
    go : (v : Bool) → eqb c 0x29 ≡ v → cond v (Some t) None ≡ Some r → AreParameters zero (c ∷ t) r
    go true e g = closes zero c t r e g
    go false e g = absurd cc
parameters_are (suc n) (c ∷ t) r h = go (λ s g. parameters_are n s r g) (eqb c 0x29) refl h
  where
    go : ((s : List ℕ) → after_parameters n s ≡ Some r → AreParameters n s r) → (v : Bool) → eqb c 0x29 ≡ v → cond v (Some t) (option_and_then (after_parameters n) (after_type (c ∷ t))) ≡ Some r → AreParameters (suc n) (c ∷ t) r
    go again true e g = closes (suc n) c t r e g
    go again false e g =
        let b = bound (after_parameters n) (after_type (c ∷ t)) r g in
        let x = after_type_is (c ∷ t) b.0 b.1 in
        let more = again b.0 b.2 in
        (x.0 ∷ more.0, (x.1, more.1), omega (arith, more.2), x.2 ∙ ap (λ (l : List ℕ). x.0 ++ l) more.3 ∙ sym (append_assoc x.0 (join more.0) (0x29 ∷ r)))

parameters_of : (n : ℕ) (types : List (List ℕ)) (r : List ℕ) → AllByRecursion IsType types → length types ≤ n → after_parameters n (join types ++ 0x29 ∷ r) ≡ Some r
unfolding after_parameters
parameters_of zero [] r are few = refl
parameters_of (suc n) [] r are few = refl
parameters_of zero (x ∷ types) r are few = absurd (omega arith)
parameters_of (suc n) ([] ∷ types) r are few = absurd are.0
parameters_of (suc n) ((c ∷ x) ∷ types) r are few =
    let apart : eqb c 0x29 ≡ false = begins c x are.0 in
    let whole : after_type (c ∷ ((x ++ join types) ++ 0x29 ∷ r)) ≡ Some (join types ++ 0x29 ∷ r) =
    subst (λ (l : List ℕ). after_type (c ∷ l) ≡ Some (join types ++ 0x29 ∷ r)) (sym (append_assoc x (join types) (0x29 ∷ r))) (after_type_of (c ∷ x) (join types ++ 0x29 ∷ r) are.0) in
    let rest : after_parameters n (join types ++ 0x29 ∷ r) ≡ Some r = parameters_of n types r are.1 (omega arith) in
    subst (λ (v : Bool). cond v (Some ((x ++ join types) ++ 0x29 ∷ r)) (option_and_then (after_parameters n) (after_type (c ∷ ((x ++ join types) ++ 0x29 ∷ r)))) ≡ Some r) (sym apart)
    (subst (λ (o : Option (List ℕ)). option_and_then (after_parameters n) o ≡ Some r) (sym whole) rest)

-- ---- whole words

end_is : (o : Option (List ℕ)) → is_end o ≡ true → o ≡ Some []
end_is None h = absurd cc
end_is (Some []) h = refl
end_is (Some (c ∷ t)) h = absurd cc

whole_is : (t : List ℕ) → is_end (after_type t) ≡ true → IsType t
whole_is t h = let x = after_type_is t [] (end_is (after_type t) h) in subst IsType (sym (x.2 ∙ append-nil x.0)) x.1

whole_of : (t : List ℕ) → IsType t → is_end (after_type t) ≡ true
whole_of t h = ap is_end (ap after_type (sym (append-nil t)) ∙ after_type_of t [] h)

pub type_is : (t : List ℕ) → is_type t ≡ true → IsTypeText t
type_is t h = let a = and_parts (leb (length t) TYPE_BYTES) (is_end (after_type t)) h in record { typed = whole_is t a.1; short = leb-true (length t) TYPE_BYTES a.0 }

pub type_is_read : (t : List ℕ) → IsTypeText t → is_type t ≡ true
type_is_read t h = and_from (leb (length t) TYPE_BYTES) (is_end (after_type t)) (le-leb (length t) TYPE_BYTES h.short) (whole_of t h.typed)

returned_is : (t : List ℕ) → is_returned t ≡ true → IsReturned t
returned_is t h = elim (or_cases (pointwise nat_eq t (0x56 ∷ [])) (is_end (after_type t)) h) [
  | inl e ↦ inr ((bytes_decides t (0x56 ∷ [])).0 e)
  | inr e ↦ inl (whole_is t e)
]

returned_of : (t : List ℕ) → IsReturned t → is_returned t ≡ true
returned_of t (inl h) = or_right (pointwise nat_eq t (0x56 ∷ [])) (is_end (after_type t)) (whole_of t h)
returned_of t (inr e) = rw e refl

behind_is : (o : Option (List ℕ)) → returned_behind o ≡ true → (last : List ℕ) × (o ≡ Some last) × (is_returned last ≡ true)
behind_is None h = absurd cc
behind_is (Some last) h = (last, refl, h)

pub descriptor_is : (t : List ℕ) → is_descriptor t ≡ true → IsDescriptor t
descriptor_is [] h = absurd cc
descriptor_is (c ∷ t) h =
    let a = and_parts (leb (length (c ∷ t)) TYPE_BYTES) (is_signature (c ∷ t)) h in
    let b = and_parts (eqb c 0x28) (returned_behind (after_parameters MAX_PARAMETERS t)) a.1 in
    let o = behind_is (after_parameters MAX_PARAMETERS t) b.1 in
    let p = parameters_are MAX_PARAMETERS t o.0 o.1 in
    record {
      types = p.0;
      last = o.0;
      typed = p.1;
      few = p.2;
      returned = returned_is o.0 o.2;
      parts = ap (λ (n : ℕ). n ∷ t) (eqb-true c 0x28 b.0) ∙ ap (λ (l : List ℕ). 0x28 ∷ l) p.3;
      short = leb-true (length (c ∷ t)) TYPE_BYTES a.0;
    }

pub descriptor_is_read : (t : List ℕ) → IsDescriptor t → is_descriptor t ≡ true
descriptor_is_read t d =
    let behind : returned_behind (after_parameters MAX_PARAMETERS (join d.types ++ 0x29 ∷ d.last)) ≡ true =
    ap returned_behind (parameters_of MAX_PARAMETERS d.types d.last d.typed d.few) ∙ returned_of d.last d.returned in
    let signed : is_signature t ≡ true = subst (λ (l : List ℕ). is_signature l ≡ true) (sym d.parts) behind in
    and_from (leb (length t) TYPE_BYTES) (is_signature t) (le-leb (length t) TYPE_BYTES d.short) signed
