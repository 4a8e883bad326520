-- The types of fields, wherever they stand.
use Rattle.std.specs.Prelude.{◌≤◌, List, take, ⊤}
use Rattle.class_desc.specs.declared.field.TypeCode.{TypeCode}
use Rattle.ser_read.specs.declared.row.HeldCodes.{HeldCodes}
use Rattle.ser_read.specs.declared.row.TheConstants.{FEW}
use Rattle.ser_read.specs.declared.row.HeldCodes.TheVariants.{Few, Many}

abbrev pub codes_in : HeldCodes → List TypeCode
codes_in (Few all count) = take count all
codes_in (Many all) = all

-- no more than there is room for in place
abbrev pub FitsIn : HeldCodes → Type 0
FitsIn (Few all count) = count ≤ FEW
FitsIn (Many all) = ⊤
