-- The texts of remote methods (Java RMI Specification, 8.3): a name, the types of the parameters in parentheses, and the type of the
-- result, as in add(J)J. Which bytes are one, and where bytes cease to be one.
use Rattle.std.specs.Prelude.{◌≡◌, ◌⊎◌, ◌<◌, ◌≤◌, ℕ, ◌+◌, Bool, true, not, ◌&&◌, nat_eq, nat_le, List, [], ◌∷◌, ◌++◌, length, take, Option, Some, None}
use Rattle.std.specs.List.{AllByRecursion}
use Rattle.class_desc.specs.declared.field.TypeCode.{TypeCode}
use Rattle.class_desc.specs.declared.field.TypeCode.TheVariants as codes
use Rattle.class_desc.specs.TypeCode.{is_primitive, letter}
use Rattle.method_hash.specs.declared.method.MethodFault.{MethodFault}
use Rattle.method_hash.specs.declared.method.MethodFault.TheVariants.{BadDescriptor, OutOfMemory}
use Rattle.method_hash.specs.declared.place.TheConstants.{MAX_METHOD_PARTS}
use Rattle.method_hash.specs.declared.method.TheConstants.{METHOD_BYTES}

-- A byte that may stand in a class's name: visible, and none of ; ( ) [
abbrev pub is_class_byte : ℕ → Bool
is_class_byte b = nat_le 0x21 b && (nat_le b 0x7E && (not (nat_eq b 0x3B) && (not (nat_eq b 0x28) && (not (nat_eq b 0x29) && not (nat_eq b 0x5B)))))

-- A byte that may stand in a method's name: also none of / .
abbrev pub is_name_byte : ℕ → Bool
is_name_byte b = is_class_byte b && (not (nat_eq b 0x2F) && not (nat_eq b 0x2E))

abbrev pub AreClassBytes : List ℕ → Type 0
AreClassBytes bytes = AllByRecursion (λ b. is_class_byte b ≡ true) bytes

abbrev pub AreNameBytes : List ℕ → Type 0
AreNameBytes bytes = AllByRecursion (λ b. is_name_byte b ≡ true) bytes

-- ---- types

-- What follows the letter L: a class's name and a semicolon.
abbrev pub IsClassTail : List ℕ → Type 0
IsClassTail t = (name : List ℕ) × (0 < length name) × AreClassBytes name × (t ≡ name ++ 0x3B ∷ [])

-- The text of a type: a bracket and the type of the elements, a class's, or the letter of a primitive type.
abbrev pub IsType : List ℕ → Type 0
IsType [] = ⊥
IsType (c ∷ t) = ((c ≡ 0x5B) × IsType t) ⊎ (((c ≡ 0x4C) × IsClassTail t) ⊎ ((code : TypeCode) × (is_primitive code ≡ true) × (c ≡ letter code) × (t ≡ [])))

-- What follows the letter of a type.
abbrev pub IsTail : TypeCode → List ℕ → Type 0
IsTail codes.Array t = IsType t
IsTail codes.Object t = IsClassTail t
IsTail _ t = t ≡ []

-- The text of a type of this kind.
abbrev pub HasType : TypeCode → List ℕ → Type 0
HasType code t = (tail : List ℕ) × (t ≡ letter code ∷ tail) × IsTail code tail

-- The texts of types of these kinds, one after the other.
abbrev pub AreTypes : List TypeCode → List ℕ → Type 0
AreTypes [] t = t ≡ []
AreTypes (code ∷ more) t = (first rest : List ℕ) × HasType code first × AreTypes more rest × (t ≡ first ++ rest)

-- The text of what a method returns: V for nothing, or a type of this kind.
abbrev pub Returns : Option TypeCode → List ℕ → Type 0
Returns None t = t ≡ 0x56 ∷ []
Returns (Some code) t = HasType code t

-- ---- methods

-- The text of a method with this name, with parameters of these kinds, and with such a result.
pub record IsMethod (text name : List ℕ) (params : List TypeCode) (returned : Option TypeCode) : Type 0 where
  pub types : List ℕ
  pub last : List ℕ
  pub named : AreNameBytes name
  pub some_name : 0 < length name
  pub short_name : length name ≤ MAX_METHOD_PARTS
  pub typed : AreTypes params types
  pub few : length params ≤ MAX_METHOD_PARTS
  pub returns : Returns returned last
  pub parts : text ≡ name ++ 0x28 ∷ (types ++ 0x29 ∷ last)
  pub short : length text ≤ METHOD_BYTES

-- Some method's text begins with these bytes.
abbrev pub IsFront : List ℕ → Type 0
IsFront bytes = (rest name : List ℕ) × (params : List TypeCode) × (returned : Option TypeCode) × IsMethod (bytes ++ rest) name params returned

-- The bytes are no method's text.
abbrev pub IsNoMethod : List ℕ → Type 0
IsNoMethod bytes = (name : List ℕ) (params : List TypeCode) (returned : Option TypeCode) → IsMethod bytes name params returned → ⊥

-- The bytes are no method's text, and the longest front of them with which some method's text begins ends at this place.
pub record BreaksAt (bytes : List ℕ) (at : ℕ) : Type 0 where
  pub no_method : IsNoMethod bytes
  pub within : at ≤ length bytes
  pub front : IsFront (take at bytes)
  pub longest : at < length bytes → IsFront (take (at + 1) bytes) → ⊥

-- Why bytes are not taken as a method: they are none's text, or there was no memory.
abbrev pub IsUnread : List ℕ → MethodFault → Type 0
IsUnread bytes (BadDescriptor at) = BreaksAt bytes at
IsUnread bytes OutOfMemory = Unit {0}
