-- What completes a method's text from a place on, and what was read of one up to there.
use Rattle.std.specs.Prelude.{◌≡◌, ℕ, ◌+◌, ◌<◌, ◌≤◌, nat_eq, List, [], ◌∷◌, ◌++◌, length, Option, option_to_list, if◌then◌else◌}
use Rattle.class_desc.specs.declared.field.TypeCode.{TypeCode}
use Rattle.class_desc.specs.TypeText.{code_of}
use Rattle.method_hash.specs.MethodText.{AreClassBytes, AreNameBytes, IsClassTail, IsType, AreTypes, Returns}
use Rattle.method_hash.specs.Next.{need, IsWithin}
use Rattle.method_hash.specs.declared.place.Part.{Part}
use Rattle.method_hash.specs.declared.place.Part.TheVariants.{Elements, Class, ClassName}
use Rattle.method_hash.specs.declared.place.TextPlace.{TextPlace}
use Rattle.method_hash.specs.declared.place.TextPlace.TheVariants.{Name, Parameters, Parameter, Returned, ReturnedType, End}
use Rattle.method_hash.specs.declared.place.TheConstants.{MAX_METHOD_PARTS}
use Rattle.method_hash.specs.declared.method.TheConstants.{METHOD_BYTES}

-- ---- what completes a text

-- The rest of a type's text.
abbrev pub CompletesPart : Part → List ℕ → Type 0
CompletesPart Elements t = IsType t
CompletesPart Class t = IsClassTail t
CompletesPart ClassName t = (name : List ℕ) × AreClassBytes name × (t ≡ name ++ 0x3B ∷ [])

-- Parameters of these kinds, of which so many came before, the closing parenthesis, and such a result.
abbrev pub CompletesTypes : ℕ → List ℕ → List TypeCode → Option TypeCode → Type 0
CompletesTypes count t params returned =
    (types last : List ℕ) × AreTypes params types × (count + length params ≤ MAX_METHOD_PARTS) × Returns returned last × (t ≡ types ++ 0x29 ∷ last)

-- The rest of a method's text, with what of its name, its parameters and its result is still to come.
abbrev pub Completes : TextPlace → List ℕ → List ℕ → List TypeCode → Option TypeCode → Type 0
Completes (Name read) t name params returned =
    (tail : List ℕ) × AreNameBytes name × (0 < read + length name) × (read + length name ≤ MAX_METHOD_PARTS) × CompletesTypes 0 tail params returned × (t ≡ name ++ 0x28 ∷ tail)
Completes (Parameters read) t name params returned = (name ≡ []) × CompletesTypes read t params returned
Completes (Parameter count part) t name params returned =
    (name ≡ []) × ((first tail : List ℕ) × CompletesPart part first × CompletesTypes count tail params returned × (t ≡ first ++ tail))
Completes Returned t name params returned = (name ≡ []) × (params ≡ []) × Returns returned t
Completes (ReturnedType part) t name params returned = (name ≡ []) × (params ≡ []) × CompletesPart part t
Completes End t name params returned = (name ≡ []) × (params ≡ []) × (t ≡ [])

-- ---- what a byte tells

-- a byte of the name
abbrev pub name_noted : TextPlace → ℕ → List ℕ
name_noted (Name read) b = if nat_eq b 0x28 then [] else b ∷ []
name_noted _ b = []

-- the type of a parameter
abbrev pub param_noted : TextPlace → ℕ → List TypeCode
param_noted (Parameters read) b = option_to_list (code_of b)
param_noted _ b = []

-- the type of the result
abbrev pub returned_noted : TextPlace → ℕ → Option TypeCode → Option TypeCode
returned_noted Returned b before = code_of b
returned_noted _ b before = before

-- the type of the result, once it was told or is to come
abbrev pub returned_at : TextPlace → Option TypeCode → Option TypeCode → Option TypeCode
returned_at (ReturnedType part) told coming = told
returned_at End told coming = told
returned_at _ told coming = coming

-- These bytes lead to the place, and so much was told on the way: what completes a method's text from there makes, with what was told,
-- a method's text of the whole; and nothing else does.
pub record HasRead (bytes : List ℕ) (place : TextPlace) (name : List ℕ) (params : List TypeCode) (returned : Option TypeCode) : Type 0 where
  pub within : IsWithin place
  pub fits : length bytes + need place ≤ METHOD_BYTES
  pub leads : (rest more : List ℕ) (others : List TypeCode) (coming : Option TypeCode) → Completes place rest more others coming
      → Completes (Name 0) (bytes ++ rest) (name ++ more) (params ++ others) (returned_at place returned coming)
  pub back : (rest whole : List ℕ) (all : List TypeCode) (result : Option TypeCode) → Completes (Name 0) (bytes ++ rest) whole all result
      → (more : List ℕ) × (others : List TypeCode) × (coming : Option TypeCode) × Completes place rest more others coming
