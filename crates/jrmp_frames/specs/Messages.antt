-- The messages of calls and returns (Java RMI Specification, 10.2): each holds a stream of its own, in which numbers are block data, as many
-- bytes as their types have, and references are the stream's contents.
use Rattle.std.specs.Prelude.{◌≡◌, ℕ, Bool, nat_eq, not, List, [], ◌∷◌, ◌++◌, length, map, if◌then◌else◌}
use Rattle.std.specs.Int.{w8, w16, w32, w64, from_be_bytes}
use Rattle.object_ids.specs.declared.ids.Uid.{Uid}
use Rattle.object_ids.specs.Bytes.{signed_bytes, signed_from_bytes, bytes_of_uid, bytes_of_objid}
use Rattle.class_desc.specs.declared.field.TypeCode.{TypeCode}
use Rattle.class_desc.specs.declared.field.TypeCode.TheVariants as codes
use Rattle.class_desc.specs.declared.slot.Slot.TheVariants as slots
use Rattle.class_desc.specs.declared.slot.Item.{Item}
use Rattle.class_desc.specs.declared.slot.Item.TheVariants as items
use Rattle.ser_values.specs.declared.value.Value.{Value}
use Rattle.ser_values.specs.declared.value.Value.TheVariants as values
use Rattle.ser_values.specs.declared.node.Node.{Node}
use Rattle.ser_values.specs.declared.graph.Graph.{Graph}
use Rattle.stream_grammar.specs.Spelled.{joined}
use Rattle.ser_values.specs.Fronts.{put_block}
use Rattle.ser_read.specs.declared.serving.Want.{Want}
use Rattle.ser_read.specs.declared.serving.Want.TheVariants as wanted
use Rattle.ser_read.specs.SpelledWants.{SpellsWants}
use Rattle.ser_write.specs.Canonical.{contents, value_bytes}
use Rattle.jrmp_frames.specs.declared.head.CallHead.{CallHead}
use Rattle.jrmp_frames.specs.declared.arguments.Arg.{Arg}
use Rattle.jrmp_frames.specs.declared.arguments.Arg.TheVariants as arguments
use Rattle.jrmp_frames.specs.declared.arguments.Arguments.{Arguments}
use Rattle.jrmp_frames.specs.declared.message.Body.{Body}
use Rattle.jrmp_frames.specs.declared.message.Body.TheVariants.{Void, Prim, Tree}

-- ---- heads

-- the 34 bytes of a call's head: the object's identifier, the operation's number, the hash
unfoldable pub head_bytes : CallHead → List ℕ
head_bytes head = bytes_of_objid head.id ++ signed_bytes w32 head.operation ++ signed_bytes w64 head.hash

-- the 15 bytes that a return begins with: 01 for a result or 02 for an exception, and its identifier
unfoldable pub return_front : Bool → Uid → List ℕ
return_front normal uid = (if normal then 1 else 2) ∷ bytes_of_uid uid

-- ---- arguments

-- how many bytes a value of a primitive type has
abbrev pub width_of : TypeCode → ℕ
width_of codes.Byte = 1
width_of codes.Char = 2
width_of codes.Double = 8
width_of codes.Float = 4
width_of codes.Int = 4
width_of codes.Long = 8
width_of codes.Short = 2
width_of codes.Boolean = 1
width_of codes.Array = 0
width_of codes.Object = 0

-- what is wanted for a parameter of this type: so many bytes of block data, or a reference
abbrev pub want_of : TypeCode → Want
want_of codes.Array = wanted.Slot
want_of codes.Object = wanted.Slot
want_of code = wanted.Bytes (width_of code)

-- what a method wants, whose parameters have these types
abbrev pub wants_of : List TypeCode → List Want
wants_of params = map want_of params

-- The value of a primitive type that bytes spell; every byte but 00 is true. For the type of references it is null.
abbrev pub value_of : TypeCode → List ℕ → Value
value_of codes.Byte b = values.Byte (from_be_bytes w8 b)
value_of codes.Char b = values.Char (from_be_bytes w16 b)
value_of codes.Double b = values.Double (from_be_bytes w64 b)
value_of codes.Float b = values.Float (from_be_bytes w32 b)
value_of codes.Int b = values.Int (signed_from_bytes w32 b)
value_of codes.Long b = values.Long (signed_from_bytes w64 b)
value_of codes.Short b = values.Short (signed_from_bytes w16 b)
value_of codes.Boolean b = values.Boolean (not (nat_eq (from_be_bytes w8 b) 0))
value_of codes.Array b = values.Ref slots.Null
value_of codes.Object b = values.Ref slots.Null

-- what an answer to its want says of an argument
abbrev pub arg_of : TypeCode → Item → Arg
arg_of code (items.Bytes b) = arguments.Prim (value_of code b)
arg_of code (items.Ref s) = arguments.Ref s

-- the arguments for parameters of these types
abbrev pub args_of : List TypeCode → List Item → List Arg
args_of (code ∷ params) (answer ∷ answers) = arg_of code answer ∷ args_of params answers
args_of _ _ = []

-- The bytes are a call with this head of a method whose parameters have these types, with these arguments: 50, and a stream of the head's
-- bytes followed by the arguments, in whatever blocks, the last of which is not empty. The arguments' graph has the arguments alone as
-- its items.
pub record CallBytes (head : CallHead) (params : List TypeCode) (arguments : Arguments) (bytes : List ℕ) : Type 0 where
  pub contents : List ℕ
  pub headed : bytes ≡ 0x50 ∷ 0xAC ∷ 0xED ∷ 0x00 ∷ 0x05 ∷ contents
  pub answers : List Item
  pub asked : SpellsWants (wanted.Bytes 34 ∷ wants_of params) (items.Bytes (head_bytes head) ∷ answers) arguments.graph.nodes contents
  pub items : arguments.graph.items ≡ joined answers
  pub values : arguments.values ≡ args_of params answers

-- ---- returns

-- what a body's stream holds behind the identifier
abbrev pub items_of : Body → List Item
items_of Void = []
items_of (Prim value) = items.Bytes (value_bytes value) ∷ []
items_of (Tree graph) = graph.items

abbrev pub nodes_of : Body → List Node
nodes_of (Tree graph) = graph.nodes
nodes_of _ = []

-- the want that an item answers
abbrev pub want_for : Item → Want
want_for (items.Bytes b) = wanted.Bytes (length b)
want_for (items.Ref s) = wanted.Slot

-- The bytes are a return of a result or of an exception, with this identifier and this body: 51, and a stream of the 15 bytes that a return
-- begins with followed by the body, in whatever blocks, the last of which is not empty.
pub record ReturnBytes (normal : Bool) (uid : Uid) (body : Body) (bytes : List ℕ) : Type 0 where
  pub contents : List ℕ
  pub headed : bytes ≡ 0x51 ∷ 0xAC ∷ 0xED ∷ 0x00 ∷ 0x05 ∷ contents
  pub asked : SpellsWants (wanted.Bytes 15 ∷ map want_for (items_of body)) (items.Bytes (return_front normal uid) ∷ items_of body) (nodes_of body) contents

-- ---- as they are written

-- the call whose arguments are a graph's items: the head and numbers that follow it are one run of blocks
abbrev pub call_message : CallHead → Graph → List ℕ
call_message head graph = 0x50 ∷ 0xAC ∷ 0xED ∷ 0x00 ∷ 0x05 ∷ contents graph.nodes (put_block (head_bytes head) graph.items)

abbrev pub return_message : Bool → Uid → Body → List ℕ
return_message normal uid body = 0x51 ∷ 0xAC ∷ 0xED ∷ 0x00 ∷ 0x05 ∷ contents (nodes_of body) (put_block (return_front normal uid) (items_of body))
