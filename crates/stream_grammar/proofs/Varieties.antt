-- Which variants of values the types of fields and elements have.
use Rattle.std.proofs.Common.{◌≡◌, ℕ, ℤ, Bool, true, List, Option, Some, None, refl}
use Rattle.class_desc.specs.declared.slot.Slot.{Slot}
use Rattle.class_desc.specs.declared.field.TypeCode.{TypeCode}
use Rattle.class_desc.specs.declared.field.TypeCode.TheVariants as codes
use Rattle.ser_values.specs.declared.value.Value.{Value}
use Rattle.ser_values.specs.declared.value.Value.TheVariants as values
use Rattle.ser_values.specs.declared.value.Values.{Values}
use Rattle.ser_values.specs.declared.value.Values.TheVariants as kinds
use Rattle.ser_values.specs.Shape.{fits_value, fit_elements}

abbrev pub ValueOf : TypeCode → Value → Type 0
ValueOf codes.Byte v = (x : ℕ) × (v ≡ values.Byte x)
ValueOf codes.Char v = (x : ℕ) × (v ≡ values.Char x)
ValueOf codes.Double v = (x : ℕ) × (v ≡ values.Double x)
ValueOf codes.Float v = (x : ℕ) × (v ≡ values.Float x)
ValueOf codes.Int v = (x : ℤ) × (v ≡ values.Int x)
ValueOf codes.Long v = (x : ℤ) × (v ≡ values.Long x)
ValueOf codes.Short v = (x : ℤ) × (v ≡ values.Short x)
ValueOf codes.Boolean v = (x : Bool) × (v ≡ values.Boolean x)
ValueOf codes.Array v = (s : Slot) × (v ≡ values.Ref s)
ValueOf codes.Object v = (s : Slot) × (v ≡ values.Ref s)

pub value_of : (code : TypeCode) (v : Value) → fits_value code v ≡ true → ValueOf code v
value_of codes.Byte (values.Byte x) h = (x, refl)
value_of codes.Char (values.Char x) h = (x, refl)
value_of codes.Double (values.Double x) h = (x, refl)
value_of codes.Float (values.Float x) h = (x, refl)
value_of codes.Int (values.Int x) h = (x, refl)
value_of codes.Long (values.Long x) h = (x, refl)
value_of codes.Short (values.Short x) h = (x, refl)
value_of codes.Boolean (values.Boolean x) h = (x, refl)
value_of codes.Array (values.Ref s) h = (s, refl)
value_of codes.Object (values.Ref s) h = (s, refl)
value_of _ _ h = absurd cc

abbrev pub ElementsOf : Option TypeCode → Values → Type 0
ElementsOf None v = ⊥
ElementsOf (Some codes.Byte) v = (x : List ℕ) × (v ≡ kinds.Bytes x)
ElementsOf (Some codes.Char) v = (x : List ℕ) × (v ≡ kinds.Chars x)
ElementsOf (Some codes.Double) v = (x : List ℕ) × (v ≡ kinds.Doubles x)
ElementsOf (Some codes.Float) v = (x : List ℕ) × (v ≡ kinds.Floats x)
ElementsOf (Some codes.Int) v = (x : List ℤ) × (v ≡ kinds.Ints x)
ElementsOf (Some codes.Long) v = (x : List ℤ) × (v ≡ kinds.Longs x)
ElementsOf (Some codes.Short) v = (x : List ℤ) × (v ≡ kinds.Shorts x)
ElementsOf (Some codes.Boolean) v = (x : List Bool) × (v ≡ kinds.Bools x)
ElementsOf (Some codes.Array) v = (s : List Slot) × (v ≡ kinds.Refs s)
ElementsOf (Some codes.Object) v = (s : List Slot) × (v ≡ kinds.Refs s)

pub elements_of : (v : Values) (code : Option TypeCode) → fit_elements v code ≡ true → ElementsOf code v
elements_of (kinds.Bytes x) (Some codes.Byte) h = (x, refl)
elements_of (kinds.Chars x) (Some codes.Char) h = (x, refl)
elements_of (kinds.Doubles x) (Some codes.Double) h = (x, refl)
elements_of (kinds.Floats x) (Some codes.Float) h = (x, refl)
elements_of (kinds.Ints x) (Some codes.Int) h = (x, refl)
elements_of (kinds.Longs x) (Some codes.Long) h = (x, refl)
elements_of (kinds.Shorts x) (Some codes.Short) h = (x, refl)
elements_of (kinds.Bools x) (Some codes.Boolean) h = (x, refl)
elements_of (kinds.Refs s) (Some codes.Array) h = (s, refl)
elements_of (kinds.Refs s) (Some codes.Object) h = (s, refl)
elements_of _ _ h = absurd cc
