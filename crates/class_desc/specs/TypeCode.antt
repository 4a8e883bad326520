-- The types of fields and of elements (Java Object Serialization Specification, 6.4.2).
use Rattle.std.specs.Prelude.{ℕ, Bool, true, false}
use Rattle.class_desc.specs.declared.field.TypeCode.{TypeCode}
use Rattle.class_desc.specs.declared.field.TypeCode.TheVariants.{Byte, Char, Double, Float, Int, Long, Short, Boolean, Array, Object}

-- A value of the type is no reference.
abbrev pub is_primitive : TypeCode → Bool
is_primitive Array = false
is_primitive Object = false
is_primitive _ = true

-- The ASCII letter that stands for a type; '[' stands for arrays and 'L' for classes.
abbrev pub letter : TypeCode → ℕ
letter Byte = 0x42
letter Char = 0x43
letter Double = 0x44
letter Float = 0x46
letter Int = 0x49
letter Long = 0x4A
letter Short = 0x53
letter Boolean = 0x5A
letter Array = 0x5B
letter Object = 0x4C
