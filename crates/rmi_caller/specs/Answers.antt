-- What an author reads of a result.
use Rattle.std.specs.Prelude.{◌≡◌, ◌≢◌, ◌⊎◌, List, [], ◌∷◌, Option, Some, None, Result, Ok, Err}
use Rattle.class_desc.specs.declared.slot.Slot.{Slot}
use Rattle.class_desc.specs.declared.slot.Item.{Item}
use Rattle.class_desc.specs.declared.slot.Item.TheVariants as items
use Rattle.java_shapes.specs.declared.fault.ShapeFault.{ShapeFault}
use Rattle.java_shapes.specs.declared.fault.ShapeFault.TheVariants as shapes
use Rattle.jrmp_frames.specs.declared.message.Body.{Body}
use Rattle.jrmp_frames.specs.declared.message.Body.TheVariants.{Void, Prim, Tree}
use Rattle.ser_values.specs.declared.value.Value.{Value}
use Rattle.ser_values.specs.declared.node.Node.{Node}
use Rattle.rmi_caller.specs.declared.error.Wanted.{Wanted}
use Rattle.rmi_caller.specs.declared.error.CallError.{CallError}
use Rattle.rmi_caller.specs.declared.error.CallError.TheVariants.{WrongAnswer, OutOfMemory}

-- ---- what a result is

abbrev pub nothing_in : Body → Option (Unit {0})
nothing_in Void = Some tt
nothing_in (Prim value) = None
nothing_in (Tree graph) = None

-- a number, a character or a truth value
abbrev pub value_in : Body → Option Value
value_in (Prim value) = Some value
value_in Void = None
value_in (Tree graph) = None

abbrev pub slot_of : List Item → Option Slot
slot_of (items.Ref slot ∷ []) = Some slot
slot_of _ = None

-- a reference in a graph, and the graph's nodes
abbrev pub slot_in : Body → Option Slot
slot_in (Tree graph) = slot_of graph.items
slot_in Void = None
slot_in (Prim value) = None

abbrev pub nodes_in : Body → List Node
nodes_in (Tree graph) = graph.nodes
nodes_in Void = []
nodes_in (Prim value) = []

-- ---- what a reader answers

-- The value that is wanted, or the error that names the type, exactly where there is none.
abbrev pub Reads : {T : Type 0} → Wanted → Option T → Result T CallError → Type 0
Reads wanted (Some value) result = result ≡ Ok value
Reads wanted None result = result ≡ Err (WrongAnswer wanted)

-- The number, character or truth value of a kind, as `Int`, or the error that names the type, exactly where there is none of the kind.
abbrev pub ReadsValue : {T : Type 0} → (T → Value) → Wanted → Option Value → Result T CallError → Type 0
ReadsValue {T} kind wanted value (Ok x) = value ≡ Some (kind x)
ReadsValue {T} kind wanted value (Err error) = (error ≡ WrongAnswer wanted) × ((x : T) → value ≢ Some (kind x))

-- The same of what a reference is viewed as; there may be no memory for that.
abbrev pub ReadsAt : {T : Type 0} → (Slot → Option T) → Wanted → Option Slot → Result T CallError → Type 0
ReadsAt view wanted (Some slot) result = Reads wanted (view slot) result ⊎ (result ≡ Err OutOfMemory)
ReadsAt view wanted None result = result ≡ Err (WrongAnswer wanted)

-- the error of a result that was not read as a type
abbrev pub shape_error : ShapeFault → Wanted → CallError
shape_error shapes.WrongShape wanted = WrongAnswer wanted
shape_error shapes.OutOfMemory wanted = OutOfMemory
