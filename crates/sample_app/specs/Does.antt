-- What the calls of sample objects come to.
use Rattle.std.specs.Prelude.{◌≡◌, ◌≢◌, ◌==◌, ℤ, pos, ◌+ℤ◌, FitsSigned, ◌⊎◌, Bool, true, false, ◌&&◌, codes, List, [], ◌∷◌, Option, Some, None, if◌then◌else◌}
use Rattle.std.specs.Int.{w64}
use Rattle.class_desc.specs.declared.slot.Slot.{Slot}
use Rattle.class_desc.specs.declared.slot.Slot.TheVariants as slots
use Rattle.class_desc.specs.declared.slot.Item.{Item}
use Rattle.class_desc.specs.declared.slot.Item.TheVariants as items
use Rattle.ser_values.specs.declared.value.Value.TheVariants as values
use Rattle.ser_values.specs.declared.graph.Graph.{Graph}
use Rattle.object_ids.specs.declared.ids.ObjId.{ObjId}
use Rattle.jrmp_frames.specs.declared.arguments.Arg.{Arg}
use Rattle.jrmp_frames.specs.declared.arguments.Arg.TheVariants as arguments
use Rattle.jrmp_frames.specs.declared.arguments.Arguments.{Arguments}
use Rattle.call_dispatch.specs.declared.outcome.Invocation.{Invocation}
use Rattle.call_dispatch.specs.declared.outcome.Outcome.{Outcome}
use Rattle.call_dispatch.specs.declared.outcome.Outcome.TheVariants.{Void, Prim, Tree, NewRemote, Fault, OutOfMemory}
use Rattle.call_dispatch.specs.Acts.{Call, invokes, unreferenced, States}
use Rattle.sample_app.specs.declared.sample_call.SampleCall.{SampleCall}
use Rattle.sample_app.specs.declared.sample_call.SampleCall.TheVariants.{Echo, Add, Get, Make}
use Rattle.sample_app.specs.Counters.{count_of, with_count, without}
use Rattle.sample_app.specs.Kinds.{counter_kind}

-- ---- what is asked for

abbrev pub same_slot : Slot → Slot → Bool
same_slot slots.Null slots.Null = true
same_slot (slots.Node a) (slots.Node b) = a == b
same_slot _ _ = false

-- The arguments of echo are one reference, and their graph has nothing else.
abbrev pub echo_with : List Arg → List Item → Option SampleCall
echo_with (arguments.Ref argument ∷ []) (items.Ref item ∷ []) = if same_slot argument item then Some Echo else None
echo_with _ _ = None

abbrev pub echo_of : Arguments → Option SampleCall
echo_of a = echo_with a.values a.graph.items

-- The arguments of add are one number of the type long.
abbrev pub add_with : List Arg → Option SampleCall
add_with (arguments.Prim (values.Long number) ∷ []) = Some (Add number)
add_with _ = None

abbrev pub add_of : Arguments → Option SampleCall
add_of a = add_with a.values

-- get has no arguments.
abbrev pub get_with : List Arg → Option SampleCall
get_with [] = Some Get
get_with _ = None

abbrev pub get_of : Arguments → Option SampleCall
get_of a = get_with a.values

-- make has no arguments.
abbrev pub make_with : List Arg → Option SampleCall
make_with [] = Some Make
make_with _ = None

abbrev pub make_of : Arguments → Option SampleCall
make_of a = make_with a.values

-- What an invocation asks for, by the places of its kind and its method: none of these methods, or not its arguments, is None.
abbrev pub call_of : Invocation → Option SampleCall
call_of call =
    if call.kind == 0 && call.method == 0 then echo_of call.arguments else
    if call.kind == 1 && call.method == 0 then add_of call.arguments else
    if call.kind == 1 && call.method == 1 then get_of call.arguments else
    if call.kind == 2 && call.method == 0 then make_of call.arguments else None

-- ---- outcomes

-- the fault of a sum that is no number of the type long
abbrev pub overflow : Outcome
overflow = Fault (codes "java.lang.ArithmeticException: overflow")

-- The outcome is a number of the type long.
abbrev pub IsNumber : Outcome → Type 0
IsNumber outcome = (number : ℤ) × (outcome ≡ Prim (values.Long number))

-- Which outcomes there are of what is asked for with this graph.
abbrev pub MayGive : Graph → Option SampleCall → Outcome → Type 0
MayGive graph (Some Echo) outcome = outcome ≡ Tree graph
MayGive graph (Some (Add number)) outcome = IsNumber outcome ⊎ ((number ≢ pos 0) × (outcome ≡ overflow))
MayGive graph (Some Get) outcome = IsNumber outcome
MayGive graph (Some Make) outcome = outcome ≡ NewRemote counter_kind
MayGive graph None outcome = outcome ≡ Void

-- Which outcomes an invocation may have, whatever was counted before: for each there may be no memory.
abbrev pub May : Invocation → Outcome → Type 0
May call outcome = (outcome ≡ OutOfMemory) ⊎ MayGive call.arguments.graph (call_of call) outcome

-- ---- counting

-- Adding a number to an object's own: the sum is given and becomes the object's number, where it is one of the type long; any other is a fault, and
-- leaves the numbers.
abbrev pub Adds : States → ObjId → ℤ → Outcome → States → Type 0
Adds before object number outcome after =
    let sum = count_of before object +ℤ number in
    (FitsSigned w64 sum × (outcome ≡ Prim (values.Long sum)) × (after ≡ with_count before object sum))
    ⊎ ((FitsSigned w64 sum → ⊥) × (outcome ≡ overflow) × (after ≡ before))

-- How what is asked of an object changes the numbers, and what it gives of them.
abbrev pub ChangesNumbers : States → ObjId → Option SampleCall → Outcome → States → Type 0
ChangesNumbers before object (Some (Add number)) outcome after = Adds before object number outcome after
ChangesNumbers before object (Some Get) outcome after = (outcome ≡ Prim (values.Long (count_of before object))) × (after ≡ before)
ChangesNumbers before object _ outcome after = after ≡ before

-- How a call of the worker changes the numbers: an invocation for which there was no memory leaves them, and what is no longer exported has none.
abbrev pub Moves : States → Call → States → Type 0
Moves before (invokes call OutOfMemory) after = after ≡ before
Moves before (invokes call outcome) after = ChangesNumbers before call.object (call_of call) outcome after
Moves before (unreferenced object) after = after ≡ without before object
