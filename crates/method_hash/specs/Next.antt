-- Reading a method's text byte by byte: where reading stands, where a byte leads, and how many bytes are still to come at the least.
use Rattle.std.specs.Prelude.{ℕ, zero, suc, ◌+◌, ◌≤◌, ◌&&◌, nat_eq, nat_lt, Option, Some, None, option_map, if◌then◌else◌}
use Rattle.class_desc.specs.declared.field.TypeCode.{TypeCode}
use Rattle.class_desc.specs.declared.field.TypeCode.TheVariants as codes
use Rattle.class_desc.specs.TypeText.{code_of}
use Rattle.method_hash.specs.MethodText.{is_class_byte, is_name_byte}
use Rattle.method_hash.specs.declared.place.Begun.{Begun}
use Rattle.method_hash.specs.declared.place.Begun.TheVariants.{Whole, In}
use Rattle.method_hash.specs.declared.place.Part.{Part}
use Rattle.method_hash.specs.declared.place.Part.TheVariants.{Elements, Class, ClassName}
use Rattle.method_hash.specs.declared.place.TextPlace.{TextPlace}
use Rattle.method_hash.specs.declared.place.TextPlace.TheVariants.{Name, Parameters, Parameter, Returned, ReturnedType, End}
use Rattle.method_hash.specs.declared.place.TheConstants.{MAX_METHOD_PARTS}

abbrev pub begun_by : Option TypeCode → Option Begun
begun_by None = None
begun_by (Some codes.Array) = Some (In Elements)
begun_by (Some codes.Object) = Some (In Class)
begun_by (Some _) = Some Whole

-- How far a type has come behind its first byte.
unfoldable pub begin : ℕ → Option Begun
begin b = begun_by (code_of b)

-- How far it has come behind a further byte.
unfoldable pub part_next : Part → ℕ → Option Begun
part_next Elements b = begin b
part_next Class b = if is_class_byte b then Some (In ClassName) else None
part_next ClassName b = if nat_eq b 0x3B then Some Whole else (if is_class_byte b then Some (In ClassName) else None)

abbrev pub in_parameter : ℕ → Begun → TextPlace
in_parameter count Whole = Parameters count
in_parameter count (In part) = Parameter count part

abbrev pub in_result : Begun → TextPlace
in_result Whole = End
in_result (In part) = ReturnedType part

-- Where reading stands behind a further byte.
unfoldable pub next : TextPlace → ℕ → Option TextPlace
next (Name read) b =
    if nat_eq b 0x28 && nat_lt 0 read then Some (Parameters 0)
    else (if is_name_byte b && nat_lt read MAX_METHOD_PARTS then Some (Name (read + 1)) else None)
next (Parameters read) b =
    if nat_eq b 0x29 then Some Returned
    else (if nat_lt read MAX_METHOD_PARTS then option_map (in_parameter (read + 1)) (begin b) else None)
next (Parameter count part) b = option_map (in_parameter count) (part_next part b)
next Returned b = if nat_eq b 0x56 then Some End else option_map in_result (begin b)
next (ReturnedType part) b = option_map in_result (part_next part b)
next End b = None

-- How many bytes are still to come at the least.
abbrev pub need : TextPlace → ℕ
need (Name zero) = 4
need (Name (suc read)) = 3
need (Parameters read) = 2
need (Parameter count Class) = 4
need (Parameter count Elements) = 3
need (Parameter count ClassName) = 3
need Returned = 1
need (ReturnedType Class) = 2
need (ReturnedType Elements) = 1
need (ReturnedType ClassName) = 1
need End = 0

-- The counts of a place are within their limits.
abbrev pub IsWithin : TextPlace → Type 0
IsWithin (Name read) = read ≤ MAX_METHOD_PARTS
IsWithin (Parameters read) = read ≤ MAX_METHOD_PARTS
IsWithin (Parameter count part) = count ≤ MAX_METHOD_PARTS
IsWithin _ = Unit {0}
