-- What a service reads of a call's arguments.
use Rattle.std.specs.Prelude.{◌≡◌, ◌≢◌, ◌⊎◌, ℕ, List, [], ◌∷◌, slice_get, Option, Some, None, Result, Ok, Err}
use Rattle.class_desc.specs.declared.slot.Slot.{Slot}
use Rattle.class_desc.specs.declared.slot.Item.TheVariants as contents
use Rattle.java_shapes.specs.LiveRefs.{live_ref_at}
use Rattle.java_shapes.specs.Objects.{text_at}
use Rattle.java_shapes.specs.declared.fault.ShapeFault.{ShapeFault}
use Rattle.java_shapes.specs.declared.fault.ShapeFault.TheVariants as shapes
use Rattle.java_shapes.specs.declared.ref_views.LiveRef.{LiveRef}
use Rattle.call_dispatch.specs.declared.outcome.Invocation.{Invocation}
use Rattle.jrmp_frames.specs.declared.arguments.Arg.{Arg}
use Rattle.jrmp_frames.specs.declared.arguments.Arg.TheVariants as arguments
use Rattle.ser_values.specs.declared.value.Value.{Value}
use Rattle.ser_values.specs.declared.node.Node.{Node}
use Rattle.ser_values.specs.declared.graph.Graph.{Graph}
use Rattle.ser_values.specs.Finished.{IsGraphOf, IsOrder}
use Rattle.ser_values.specs.declared.limits.TheConstants.{LEVELS}
use Rattle.rmi_server.specs.declared.fault.Wanted.{Wanted}
use Rattle.rmi_server.specs.declared.fault.Wanted.TheVariants as wanted_kinds
use Rattle.rmi_server.specs.declared.fault.CallFault.{CallFault}
use Rattle.rmi_server.specs.declared.fault.CallFault.TheVariants.{WrongArgument, OutOfMemory}

-- ---- what stands at a place

abbrev pub value_in : Option Arg → Option Value
value_in (Some (arguments.Prim value)) = Some value
value_in _ = None

-- the number, character or truth value at a place
abbrev pub value_at : List Arg → ℕ → Option Value
value_at args place = value_in (slice_get args place)

abbrev pub slot_in : Option Arg → Option Slot
slot_in (Some (arguments.Ref slot)) = Some slot
slot_in _ = None

-- the reference at a place
abbrev pub slot_at : List Arg → ℕ → Option Slot
slot_at args place = slot_in (slice_get args place)

-- What the reference reaches of these nodes is no graph: a rule of graphs is broken, or it is too deep.
abbrev pub IsNoGraph : List Node → Slot → Type 0
IsNoGraph nodes slot = (order : List ℕ) → ¬ IsOrder nodes LEVELS (contents.Ref slot ∷ []) order

-- ---- what a reader answers

-- The value that is wanted, or the fault that names the place and the type, exactly where there is none.
abbrev pub Reads : {T : Type 0} → Wanted → ℕ → Option T → Result T CallFault → Type 0
Reads wanted place (Some value) result = result ≡ Ok value
Reads wanted place None result = result ≡ Err (WrongArgument place wanted)

-- The number, character or truth value of a kind, as `Int`, or the fault that names the place and the type, exactly where there is none of the kind.
abbrev pub ReadsValue : {T : Type 0} → (T → Value) → Wanted → ℕ → Option Value → Result T CallFault → Type 0
ReadsValue {T} kind wanted place value (Ok x) = value ≡ Some (kind x)
ReadsValue {T} kind wanted place value (Err fault) = (fault ≡ WrongArgument place wanted) × ((x : T) → value ≢ Some (kind x))

-- The same of what a reference is viewed as; there may be no memory for that.
abbrev pub ReadsAt : {T : Type 0} → (Slot → Option T) → Wanted → ℕ → Option Slot → Result T CallFault → Type 0
ReadsAt view wanted place (Some slot) result = Reads wanted place (view slot) result ⊎ (result ≡ Err OutOfMemory)
ReadsAt view wanted place None result = result ≡ Err (WrongArgument place wanted)

-- What a reference reaches of these nodes, as a graph of its own; the fault that names the place, where that is no graph; or no memory.
abbrev pub ReadsPart : List Node → ℕ → Slot → Result Graph CallFault → Type 0
ReadsPart nodes place slot (Ok graph) = IsGraphOf nodes (contents.Ref slot ∷ []) graph.nodes graph.items
ReadsPart nodes place slot (Err OutOfMemory) = Unit {0}
ReadsPart nodes place slot (Err fault) = (fault ≡ WrongArgument place wanted_kinds.Object) × IsNoGraph nodes slot

-- The same where the argument is this reference.
abbrev pub ReadsGraph : List Node → ℕ → Option Slot → Result Graph CallFault → Type 0
ReadsGraph nodes place (Some slot) result = ReadsPart nodes place slot result
ReadsGraph nodes place None result = result ≡ Err (WrongArgument place wanted_kinds.Object)

-- ---- what is read of a call

-- The number, character or truth value of a kind that is the argument at a place, or the fault that names the place and the type.
abbrev pub ReadsPrimitive : {T : Type 0} → (T → Value) → Wanted → Invocation → ℕ → Result T CallFault → Type 0
ReadsPrimitive kind wanted call place result = ReadsValue kind wanted place (value_at call.arguments.values place) result

-- The text that is the argument at a place, as its 16-bit units.
abbrev pub ReadsText : Invocation → ℕ → Result (List ℕ) CallFault → Type 0
ReadsText call place result = ReadsAt (text_at call.arguments.graph.nodes) wanted_kinds.Text place (slot_at call.arguments.values place) result

-- The reference to a remote object that is the argument at a place.
abbrev pub ReadsReference : Invocation → ℕ → Result LiveRef CallFault → Type 0
ReadsReference call place result = ReadsAt (live_ref_at call.arguments.graph.nodes) wanted_kinds.Reference place (slot_at call.arguments.values place) result

-- The object that is the argument at a place, with all that it refers to.
abbrev pub ReadsObject : Invocation → ℕ → Result Graph CallFault → Type 0
ReadsObject call place result = ReadsGraph call.arguments.graph.nodes place (slot_at call.arguments.values place) result

-- The fault of an argument that was not read as a type.
abbrev pub shape_fault : ShapeFault → ℕ → Wanted → CallFault
shape_fault shapes.WrongShape place wanted = WrongArgument place wanted
shape_fault shapes.OutOfMemory place wanted = OutOfMemory
