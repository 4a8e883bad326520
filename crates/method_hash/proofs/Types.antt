-- The text of a type, byte by byte: what a first and a further byte lead to, and what completes it from there.
use Rattle.std.proofs.Common.{◌≡◌, ℕ, Bool, true, false, cond, eqb, List, [], ◌∷◌, ◌++◌, Option, Some, None, refl, sym, ap, ◌∙◌, arith, inl, inr}
use Rattle.std.proofs.lemmas.Bool.{eqb-true}
use Rattle.class_desc.specs.declared.field.TypeCode.{TypeCode}
use Rattle.class_desc.specs.declared.field.TypeCode.TheVariants as codes
use Rattle.class_desc.specs.TypeCode.{is_primitive, letter}
use Rattle.class_desc.specs.TypeText.{code_of}
use Rattle.class_desc.proofs.TypeTexts.{letter_back}
use Rattle.method_hash.specs.MethodText.{is_class_byte, AreClassBytes, IsClassTail, IsType, IsTail, HasType}
use Rattle.method_hash.specs.Next.{begun_by, begin, part_next}
use Rattle.method_hash.specs.TextReading.{CompletesPart}
use Rattle.method_hash.specs.declared.place.Begun.{Begun}
use Rattle.method_hash.specs.declared.place.Begun.TheVariants.{Whole, In}
use Rattle.method_hash.specs.declared.place.Part.{Part}
use Rattle.method_hash.specs.declared.place.Part.TheVariants.{Elements, Class, ClassName}

-- What completes a type that has come so far.
abbrev pub CompletesBegun : Begun → List ℕ → Type 0
CompletesBegun Whole t = t ≡ []
CompletesBegun (In part) t = CompletesPart part t

-- ---- letters

-- The type that a byte stands for has that byte as its letter.
pub code_letter : (b : ℕ) (code : TypeCode) → code_of b ≡ Some code → b ≡ letter code
code_letter b code h = at (eqb b 0x42) refl h
  where
    step : (n : ℕ) (c : TypeCode) (rest : Option TypeCode) → letter c ≡ n → (rest ≡ Some code → b ≡ letter code) → (t : Bool) → eqb b n ≡ t → cond t (Some c) rest ≡ Some code → b ≡ letter code
    step n c rest l more true e h = let same : c ≡ code = cc in eqb-true b n e ∙ sym l ∙ ap letter same
    step n c rest l more false e h = more h

    none : None ≡ Some code → b ≡ letter code
    none h = absurd cc

    at : (t : Bool) → eqb b 0x42 ≡ t → code_of b ≡ Some code → b ≡ letter code
    at t e h =
        step 0x42 codes.Byte _ refl (
        step 0x43 codes.Char _ refl (
        step 0x44 codes.Double _ refl (
        step 0x46 codes.Float _ refl (
        step 0x49 codes.Int _ refl (
        step 0x4A codes.Long _ refl (
        step 0x53 codes.Short _ refl (
        step 0x5A codes.Boolean _ refl (
        step 0x5B codes.Array _ refl (
        step 0x4C codes.Object _ refl none (eqb b 0x4C) refl) (eqb b 0x5B) refl) (eqb b 0x5A) refl) (eqb b 0x53) refl) (eqb b 0x4A) refl) (eqb b 0x49) refl) (eqb b 0x46) refl) (eqb b 0x44) refl) (eqb b 0x43) refl) (eqb b 0x42) refl h

-- ---- the first byte

-- A type of this kind has come so far behind its letter, and what completes it is its tail.
begun_tail : (code : TypeCode) (x : Begun) (t : List ℕ) → begun_by (Some code) ≡ Some x → CompletesBegun x t → IsTail code t
begun_tail codes.Byte Whole t h c = c
begun_tail codes.Char Whole t h c = c
begun_tail codes.Double Whole t h c = c
begun_tail codes.Float Whole t h c = c
begun_tail codes.Int Whole t h c = c
begun_tail codes.Long Whole t h c = c
begun_tail codes.Short Whole t h c = c
begun_tail codes.Boolean Whole t h c = c
begun_tail codes.Array (In Elements) t h c = c
begun_tail codes.Object (In Class) t h c = c
begun_tail codes.Byte (In part) t h c = absurd cc
begun_tail codes.Char (In part) t h c = absurd cc
begun_tail codes.Double (In part) t h c = absurd cc
begun_tail codes.Float (In part) t h c = absurd cc
begun_tail codes.Int (In part) t h c = absurd cc
begun_tail codes.Long (In part) t h c = absurd cc
begun_tail codes.Short (In part) t h c = absurd cc
begun_tail codes.Boolean (In part) t h c = absurd cc
begun_tail codes.Array Whole t h c = absurd cc
begun_tail codes.Array (In Class) t h c = absurd cc
begun_tail codes.Array (In ClassName) t h c = absurd cc
begun_tail codes.Object Whole t h c = absurd cc
begun_tail codes.Object (In Elements) t h c = absurd cc
begun_tail codes.Object (In ClassName) t h c = absurd cc

-- Behind the letter of a type, what its tail is completes it.
tail_begun : (code : TypeCode) (t : List ℕ) → IsTail code t → (x : Begun) × (begun_by (Some code) ≡ Some x) × CompletesBegun x t
tail_begun codes.Byte t h = (Whole, refl, h)
tail_begun codes.Char t h = (Whole, refl, h)
tail_begun codes.Double t h = (Whole, refl, h)
tail_begun codes.Float t h = (Whole, refl, h)
tail_begun codes.Int t h = (Whole, refl, h)
tail_begun codes.Long t h = (Whole, refl, h)
tail_begun codes.Short t h = (Whole, refl, h)
tail_begun codes.Boolean t h = (Whole, refl, h)
tail_begun codes.Array t h = (In Elements, refl, h)
tail_begun codes.Object t h = (In Class, refl, h)

-- Where a type begins with a byte, the byte stands for a type, of which what completes it makes a text.
pub begun_type : (b : ℕ) (x : Begun) (t : List ℕ) → begin b ≡ Some x → CompletesBegun x t → (code : TypeCode) × (code_of b ≡ Some code) × HasType code (b ∷ t)
unfolding begin
begun_type b x t h c = go (code_of b) refl h
  where
    go : (o : Option TypeCode) → code_of b ≡ o → begun_by o ≡ Some x → (code : TypeCode) × (code_of b ≡ Some code) × HasType code (b ∷ t)
    go None e h = absurd cc
    go (Some code) e h = (code, e, (t, ap (λ (n : ℕ). n ∷ t) (code_letter b code e), begun_tail code x t h c))

-- A text of a type of this kind begins with its letter.
pub type_begun : (code : TypeCode) (t : List ℕ) → HasType code t → (tail : List ℕ) × (x : Begun) × (t ≡ letter code ∷ tail) × (begin (letter code) ≡ Some x) × CompletesBegun x tail
unfolding begin
type_begun code t (tail, is, h) = let r = tail_begun code tail h in (tail, r.0, is, ap begun_by (letter_back code) ∙ r.1, r.2)

-- ---- types of elements

-- The text of a type is that of one of its kind.
type_of : (code : TypeCode) (c : ℕ) (t : List ℕ) → c ≡ letter code → IsTail code t → IsType (c ∷ t)
type_of codes.Byte c t e h = inr (inr (codes.Byte, refl, e, h))
type_of codes.Char c t e h = inr (inr (codes.Char, refl, e, h))
type_of codes.Double c t e h = inr (inr (codes.Double, refl, e, h))
type_of codes.Float c t e h = inr (inr (codes.Float, refl, e, h))
type_of codes.Int c t e h = inr (inr (codes.Int, refl, e, h))
type_of codes.Long c t e h = inr (inr (codes.Long, refl, e, h))
type_of codes.Short c t e h = inr (inr (codes.Short, refl, e, h))
type_of codes.Boolean c t e h = inr (inr (codes.Boolean, refl, e, h))
type_of codes.Array c t e h = inl (e, h)
type_of codes.Object c t e h = inr (inl (e, h))

-- A primitive type has nothing behind its letter.
pub primitive_tail : (code : TypeCode) (t : List ℕ) → is_primitive code ≡ true → t ≡ [] → IsTail code t
primitive_tail codes.Byte t p h = h
primitive_tail codes.Char t p h = h
primitive_tail codes.Double t p h = h
primitive_tail codes.Float t p h = h
primitive_tail codes.Int t p h = h
primitive_tail codes.Long t p h = h
primitive_tail codes.Short t p h = h
primitive_tail codes.Boolean t p h = h
primitive_tail codes.Array t p h = absurd cc
primitive_tail codes.Object t p h = absurd cc

-- The type that a text begins with.
pub kind_of : (c : ℕ) (t : List ℕ) → IsType (c ∷ t) → (code : TypeCode) × (c ≡ letter code) × IsTail code t
kind_of c t h = elim h [
  | inl p ↦ (codes.Array, p.0, p.1)
  | inr q ↦ elim q [
    | inl k ↦ (codes.Object, k.0, k.1)
    | inr l ↦ (l.0, l.2, primitive_tail l.0 t l.1 l.3)
  ]
]

-- ---- a further byte

-- Where a byte leads on in a type, it makes with what completes the type from there what completes it from before.
pub part_sound : (part : Part) (b : ℕ) (x : Begun) (t : List ℕ) → part_next part b ≡ Some x → CompletesBegun x t → CompletesPart part (b ∷ t)
unfolding part_next begin
part_sound Elements b x t h c = let r = begun_type b x t h c in type_of r.0 b t (code_letter b r.0 r.1) (tail_is r.0 r.2)
  where
    tail_is : (code : TypeCode) → HasType code (b ∷ t) → IsTail code t
    tail_is code (tail, is, k) = let same : tail ≡ t = cc in rw (← same) k
part_sound Class b x t h c = go (is_class_byte b) refl x h c
  where
    go : (v : Bool) → is_class_byte b ≡ v → (x : Begun) → cond v (Some (In ClassName)) None ≡ Some x → CompletesBegun x t → IsClassTail (b ∷ t)
    go true e (In ClassName) h (name, are, is) = (b ∷ name, omega arith, (e, are), ap (λ (l : List ℕ). b ∷ l) is)
    go true e Whole h c = absurd cc
    go true e (In Elements) h c = absurd cc
    go true e (In Class) h c = absurd cc
    go false e x h c = absurd cc
part_sound ClassName b x t h c = go (eqb b 0x3B) refl x h c
  where
    inner : (v : Bool) → is_class_byte b ≡ v → (x : Begun) → cond v (Some (In ClassName)) None ≡ Some x → CompletesBegun x t → (name : List ℕ) × AreClassBytes name × (b ∷ t ≡ name ++ 0x3B ∷ [])
    inner true e (In ClassName) h (name, are, is) = (b ∷ name, (e, are), ap (λ (l : List ℕ). b ∷ l) is)
    inner true e Whole h c = absurd cc
    inner true e (In Elements) h c = absurd cc
    inner true e (In Class) h c = absurd cc
    inner false e x h c = absurd cc

    go : (v : Bool) → eqb b 0x3B ≡ v → (x : Begun) → cond v (Some Whole) (cond (is_class_byte b) (Some (In ClassName)) None) ≡ Some x → CompletesBegun x t → (name : List ℕ) × AreClassBytes name × (b ∷ t ≡ name ++ 0x3B ∷ [])
    go true e Whole h c = ([], tt, ap (λ (n : ℕ). n ∷ t) (eqb-true b 0x3B e) ∙ ap (λ (l : List ℕ). 0x3B ∷ l) c)
    go true e (In part) h c = absurd cc
    go false e x h c = inner (is_class_byte b) refl x h c

-- What completes a type from a place in it begins with a byte that leads on.
pub part_back : (part : Part) (t : List ℕ) → CompletesPart part t → (b : ℕ) × (tail : List ℕ) × (x : Begun) × (t ≡ b ∷ tail) × (part_next part b ≡ Some x) × CompletesBegun x tail
unfolding part_next begin
part_back Elements [] h = absurd h
part_back Elements (b ∷ t) h =
    let k = kind_of b t h in
    let r = tail_begun k.0 t k.2 in
    (b, t, r.0, refl, ap (λ n. begun_by (code_of n)) k.1 ∙ ap begun_by (letter_back k.0) ∙ r.1, r.2)
part_back Class t ([], some, are, is) = absurd (omega arith)
part_back Class t (b ∷ name, some, are, is) = (b, name ++ 0x3B ∷ [], In ClassName, is, rw (are.0) refl, (name, are.1, refl))
part_back ClassName t ([], are, is) = (0x3B, [], Whole, is, refl, refl)
part_back ClassName t (b ∷ name, are, is) = (b, name ++ 0x3B ∷ [], In ClassName, is, more, (name, are.1, refl))
  where
    other : eqb b 0x3B ≡ false
    other = go (eqb b 0x3B) refl
      where
        go : (v : Bool) → eqb b 0x3B ≡ v → v ≡ false
        go false e = refl
        go true e = let same : b ≡ 0x3B = eqb-true b 0x3B e in let no : is_class_byte 0x3B ≡ true = ap is_class_byte (sym same) ∙ are.0 in absurd cc

    more : part_next ClassName b ≡ Some (In ClassName)
    more = rw (are.0, other) refl
