-- The arguments of a call: whether they fit its method, and what is sent of them.
use Rattle.std.specs.Prelude.{◌≡◌, ◌≢◌, ℕ, false, List, [], ◌∷◌, ◌++◌, length, slice_get, Option, Some, None}
use Rattle.class_desc.specs.declared.field.TypeCode.{TypeCode}
use Rattle.class_desc.specs.declared.field.TypeCode.TheVariants as types
use Rattle.class_desc.specs.TypeCode.{is_primitive}
use Rattle.class_desc.specs.declared.slot.Slot.{Slot}
use Rattle.class_desc.specs.declared.slot.Slot.TheVariants as slots
use Rattle.class_desc.specs.declared.slot.Item.{Item}
use Rattle.class_desc.specs.declared.slot.Item.TheVariants as items
use Rattle.ser_values.specs.declared.graph.Graph.{Graph}
use Rattle.ser_values.specs.declared.node.Node.{Node}
use Rattle.ser_values.specs.declared.value.Value.TheVariants as values
use Rattle.ser_values.specs.Finished.{IsGraphOf}
use Rattle.ser_values.specs.Fronts.{put_block}
use Rattle.ser_write.specs.Canonical.{value_bytes}
use Rattle.stream_grammar.specs.Spelled.{joined}
use Rattle.java_shapes.specs.Objects.{text_at}
use Rattle.java_shapes.specs.Proxies.{ProxyAt}
use Rattle.java_shapes.specs.RefNotes.{ref_note}
use Rattle.rmi_client.specs.Requests.{sent_ref}
use Rattle.rmi_caller.specs.declared.argument.Argument.{Argument}
use Rattle.rmi_caller.specs.declared.argument.Argument.TheVariants.{Boolean, Byte, Char, Short, Int, Long, Null, Text, Remote}
use Rattle.rmi_caller.specs.declared.arguments.Draft.{Draft}
use Rattle.rmi_caller.specs.declared.error.CallError.{CallError}
use Rattle.rmi_caller.specs.declared.error.CallError.TheVariants.{ArgumentCount, WrongArgument}
use Rattle.mod_utf.specs.Texts.{units_of}

-- ---- whether they fit

-- The type of parameters that an argument is for; null is for any type of objects.
abbrev pub code_of : Argument → Option TypeCode
code_of (Boolean value) = Some types.Boolean
code_of (Byte value) = Some types.Byte
code_of (Char value) = Some types.Char
code_of (Short value) = Some types.Short
code_of (Int value) = Some types.Int
code_of (Long value) = Some types.Long
code_of Null = None
code_of (Text text) = Some types.Object
code_of (Remote interface reference) = Some types.Object

abbrev pub FitsCode : TypeCode → Option TypeCode → Type 0
FitsCode code (Some own) = own ≡ code
FitsCode code None = is_primitive code ≡ false

-- The argument fits a parameter of this type.
abbrev pub Fits : TypeCode → Argument → Type 0
Fits code argument = FitsCode code (code_of argument)

-- Each argument fits its parameter, and there is one for each.
abbrev pub AllFit : List TypeCode → List Argument → Type 0
AllFit [] [] = Unit {0}
AllFit (c ∷ cs) (a ∷ more) = Fits c a × AllFit cs more
AllFit _ _ = ⊥

-- The argument at a place fits not.
abbrev pub FitsNot : List TypeCode → List Argument → ℕ → Type 0
FitsNot codes arguments place = (code : TypeCode) × (argument : Argument) × (slice_get codes place ≡ Some code) × (slice_get arguments place ≡ Some argument) × ¬ Fits code argument

-- Why arguments do not fit parameters of these types: there are more or fewer, or one fits not.
abbrev pub RefusesArguments : List TypeCode → List Argument → CallError → Type 0
RefusesArguments codes arguments (ArgumentCount wanted) = (wanted ≡ length codes) × (length arguments ≢ length codes)
RefusesArguments codes arguments (WrongArgument place) = FitsNot codes arguments place
RefusesArguments codes arguments _ = ⊥

-- ---- what is sent of them

-- The item is the reference to a text, or to a proxy of an interface.
abbrev pub IsTextItem : List Node → List ℕ → Item → Type 0
IsTextItem loose text item = (s : Slot) × (item ≡ items.Ref s) × (text_at loose s ≡ Some text)

abbrev pub IsProxyItem : List Node → List ℕ → List ℕ → Item → Type 0
IsProxyItem loose interface note item = (s : Slot) × (item ≡ items.Ref s) × ProxyAt loose interface note s

-- What is sent of an argument over these loose nodes: the bytes of a number, null, the reference to a text, or a proxy of the interface.
abbrev pub IsSent : List Node → Argument → Item → Type 0
IsSent loose (Boolean value) item = item ≡ items.Bytes (value_bytes (values.Boolean value))
IsSent loose (Byte value) item = item ≡ items.Bytes (value_bytes (values.Byte value))
IsSent loose (Char value) item = item ≡ items.Bytes (value_bytes (values.Char value))
IsSent loose (Short value) item = item ≡ items.Bytes (value_bytes (values.Short value))
IsSent loose (Int value) item = item ≡ items.Bytes (value_bytes (values.Int value))
IsSent loose (Long value) item = item ≡ items.Bytes (value_bytes (values.Long value))
IsSent loose Null item = item ≡ items.Ref slots.Null
IsSent loose (Text text) item = IsTextItem loose (units_of text.now) item
IsSent loose (Remote interface reference) item = IsProxyItem loose (units_of interface.now) (ref_note (sent_ref reference.now)) item

-- The items are what is sent of the arguments, one each.
abbrev pub AreSent : List Node → List Argument → List Item → Type 0
AreSent loose [] [] = Unit {0}
AreSent loose (a ∷ more) (i ∷ is) = IsSent loose a i × AreSent loose more is
AreSent loose _ _ = ⊥

-- The graph is that of what is sent of the arguments. Bytes that stand side by side are one run of block data.
abbrev pub AreArguments : List Argument → Graph → Type 0
AreArguments arguments graph = (loose : List Node) × (sent : List Item) × AreSent loose arguments sent × IsGraphOf loose (joined sent) graph.nodes graph.items

-- ---- as they are put

-- the items of a draft, and these behind them
abbrev pub before_items : Draft → List Item → List Item
before_items draft more = draft.items ++ put_block draft.run more

-- One more item, of which this holds, stands behind those of the draft, whatever comes next.
abbrev pub AddsItem : Draft → Draft → (Item → Type 0) → Type 0
AddsItem old new Is = (item : Item) × Is item × ((more : List Item) → before_items new (joined more) ≡ before_items old (joined (item ∷ more)))

-- These arguments are in the draft.
abbrev pub HasPut : Draft → List Argument → Type 0
HasPut draft arguments = (sent : List Item) × AreSent draft.builder arguments sent × ((more : List Item) → before_items draft (joined more) ≡ joined (sent ++ more))
