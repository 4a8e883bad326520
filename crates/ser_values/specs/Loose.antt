-- What a node's text says of arrays: the type of the elements of the array class that a text or a description names.
use Rattle.std.specs.Prelude.{Option, Some, None}
use Rattle.class_desc.specs.declared.field.TypeCode.{TypeCode}
use Rattle.class_desc.specs.TypeText.{element_of}
use Rattle.ser_values.specs.declared.node.Node.{Node}
use Rattle.ser_values.specs.declared.node.Node.TheVariants.{Text, Desc}

abbrev pub elements_in : Node → Option TypeCode
elements_in (Text t) = element_of t
elements_in (Desc d) = element_of d.name
elements_in _ = None

abbrev pub elements_at : Option Node → Option TypeCode
elements_at None = None
elements_at (Some i) = elements_in i
