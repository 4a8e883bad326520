-- The types of fields.
use Rattle.std.specs.Prelude.{List, map}
use Rattle.class_desc.specs.declared.field.TypeCode.{TypeCode}
use Rattle.class_desc.specs.declared.field.FieldDesc.{FieldDesc}

abbrev pub codes_of : List FieldDesc → List TypeCode
codes_of fields = map (λ f. f.code) fields
