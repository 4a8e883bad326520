-- Type texts: how the type of a reference field and the name of an array's class are written.
use Rattle.std.specs.Prelude.{◌≡◌, ◌⊎◌, ◌<◌, ℕ, Bool, true, false, ◌||◌, ◌&&◌, nat_eq, List, [], ◌∷◌, ◌++◌, length, Option, Some, None, is_some, if◌then◌else◌}
use Rattle.class_desc.specs.declared.field.TypeCode.{TypeCode}
use Rattle.class_desc.specs.declared.field.TypeCode.TheVariants as codes
use Rattle.class_desc.specs.TypeCode.{is_primitive, letter}

-- 'L', at least one unit, and ';'.
abbrev pub IsClassText : List ℕ → Type 0
IsClassText t = (name : List ℕ) × (0 < length name) × (t ≡ 0x4C ∷ (name ++ 0x3B ∷ []))

-- The letter of a primitive type, alone.
abbrev pub IsPrimitiveText : List ℕ → Type 0
IsPrimitiveText t = (code : TypeCode) × (is_primitive code ≡ true) × (t ≡ letter code ∷ [])

-- What may follow a bracket: an array's text, a class's, or a primitive type's.
abbrev pub IsComponentText : List ℕ → Type 0
IsComponentText [] = ⊥
IsComponentText (c ∷ t) = ((c ≡ 0x5B) × IsComponentText t) ⊎ (IsClassText (c ∷ t) ⊎ IsPrimitiveText (c ∷ t))

-- '[', and the text of the elements' type.
abbrev pub IsArrayText : List ℕ → Type 0
IsArrayText [] = ⊥
IsArrayText (c ∷ t) = (c ≡ 0x5B) × IsComponentText t

-- The text names a type of the code. A primitive field has no type text.
abbrev pub HasTypeText : TypeCode → List ℕ → Type 0
HasTypeText codes.Array t = IsArrayText t
HasTypeText codes.Object t = IsClassText t
HasTypeText _ t = ⊥

-- The name is an array class's, and its elements have the type of the letter that follows the first bracket.
abbrev pub HasElements : List ℕ → TypeCode → Type 0
HasElements [] code = ⊥
HasElements (c ∷ []) code = ⊥
HasElements (c ∷ d ∷ t) code = IsArrayText (c ∷ d ∷ t) × (d ≡ letter code)

-- ---- the same as tests

-- the text ends in ';'
unfoldable pub ends_class : List ℕ → Bool
ends_class [] = false
ends_class (c ∷ []) = nat_eq c 0x3B
ends_class (c ∷ d ∷ t) = ends_class (d ∷ t)

abbrev pub is_class_text : List ℕ → Bool
is_class_text [] = false
is_class_text (c ∷ []) = false
is_class_text (c ∷ d ∷ t) = nat_eq c 0x4C && ends_class t

abbrev pub is_letter : ℕ → Bool
is_letter c = nat_eq c 0x42 || (nat_eq c 0x43 || (nat_eq c 0x44 || (nat_eq c 0x46 || (nat_eq c 0x49 || (nat_eq c 0x4A || (nat_eq c 0x53 || nat_eq c 0x5A))))))

abbrev pub is_nil : {A : Type 0} → List A → Bool
is_nil [] = true
is_nil (x ∷ xs) = false

unfoldable pub is_component_text : List ℕ → Bool
is_component_text [] = false
is_component_text (c ∷ t) = if nat_eq c 0x5B then is_component_text t else (if nat_eq c 0x4C then is_class_text (c ∷ t) else is_letter c && is_nil t)

unfoldable pub is_array_text : List ℕ → Bool
is_array_text [] = false
is_array_text (c ∷ t) = nat_eq c 0x5B && is_component_text t

-- the type that a letter stands for
abbrev pub code_of : ℕ → Option TypeCode
code_of c =
    if nat_eq c 0x42 then Some codes.Byte else
    (if nat_eq c 0x43 then Some codes.Char else
    (if nat_eq c 0x44 then Some codes.Double else
    (if nat_eq c 0x46 then Some codes.Float else
    (if nat_eq c 0x49 then Some codes.Int else
    (if nat_eq c 0x4A then Some codes.Long else
    (if nat_eq c 0x53 then Some codes.Short else
    (if nat_eq c 0x5A then Some codes.Boolean else
    (if nat_eq c 0x5B then Some codes.Array else
    (if nat_eq c 0x4C then Some codes.Object else None)))))))))

-- The type of the elements of the array class of this name, if it is one.
unfoldable pub element_of : List ℕ → Option TypeCode
element_of [] = None
element_of (c ∷ []) = None
element_of (c ∷ d ∷ t) = if is_array_text (c ∷ d ∷ t) then code_of d else None

-- The text names a type of the code.
abbrev pub fits_text : TypeCode → List ℕ → Bool
fits_text codes.Array t = is_some (element_of t)
fits_text codes.Object t = is_class_text t
fits_text _ t = false
