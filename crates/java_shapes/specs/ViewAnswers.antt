-- What a view answers: the value that a slot has, or that it has none. Want of memory may stand in place of any answer.
use Rattle.std.specs.Prelude.{◌≡◌, Option, Some, None, Result, Ok, Err}
use Rattle.java_shapes.specs.declared.fault.ShapeFault.{ShapeFault}
use Rattle.java_shapes.specs.declared.fault.ShapeFault.TheVariants.{WrongShape, OutOfMemory}

abbrev pub Views : {A : Type 0} → Result A ShapeFault → Option A → Type 0
Views (Ok value) shown = shown ≡ Some value
Views (Err WrongShape) shown = shown ≡ None
Views (Err OutOfMemory) shown = Unit {0}
