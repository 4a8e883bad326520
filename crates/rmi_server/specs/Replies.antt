-- The outcomes of results.
use Rattle.std.specs.Prelude.{◌≡◌, ℕ, List, [], ◌∷◌, Result, Ok, Err}
use Rattle.class_desc.specs.declared.slot.Item.{Item}
use Rattle.class_desc.specs.declared.slot.Item.TheVariants as contents
use Rattle.class_desc.specs.declared.slot.Slot.{Slot}
use Rattle.class_desc.specs.declared.slot.Slot.TheVariants as slots
use Rattle.ser_values.specs.declared.value.Value.TheVariants as values
use Rattle.ser_values.specs.declared.graph.Graph.{Graph}
use Rattle.ser_values.specs.declared.node.Node.{Node}
use Rattle.ser_values.specs.declared.node.Node.TheVariants as nodes
use Rattle.ser_values.specs.Finished.{IsGraphOf}
use Rattle.java_shapes.specs.TextsGraph.{texts_items, texts_nodes}
use Rattle.call_dispatch.specs.declared.outcome.Outcome.{Outcome}
use Rattle.call_dispatch.specs.declared.outcome.Outcome.TheVariants as outcomes
use Rattle.rmi_server.specs.declared.fault.CallFault.{CallFault}
use Rattle.rmi_server.specs.declared.reply.Reply.{Reply}
use Rattle.rmi_server.specs.declared.reply.Reply.TheVariants.{Void, Boolean, Byte, Char, Short, Int, Long, Null, Text, Texts, New, Object}
use Rattle.rmi_server.specs.declared.reply.Reply.TheVariants as replies
use Rattle.rmi_server.specs.Faults.{FaultGives}

-- The graph is that of these loose nodes whose one item is this reference.
abbrev pub IsGraphAt : List Node → Slot → Graph → Type 0
IsGraphAt nodes slot graph = IsGraphOf nodes (contents.Ref slot ∷ []) graph.nodes graph.items

-- These are the nodes and the items of a list of texts.
abbrev pub IsTextsGraph : List (List ℕ) → List Node → List Item → Type 0
IsTextsGraph texts nodes items = (nodes ≡ texts_nodes texts) × (items ≡ texts_items)

-- The outcome is such a graph, or there was no memory for it.
abbrev pub GivesTree : (List Node → List Item → Type 0) → Outcome → Type 0
GivesTree Is (outcomes.Tree graph) = Is graph.nodes graph.items
GivesTree Is outcomes.OutOfMemory = Unit {0}
GivesTree Is _ = ⊥

-- The outcome of a call with a result: the number, character or truth value itself; the graph of null, of a text or of a list of texts; the graph
-- itself; a new object of the kind; or the object that there is.
abbrev pub ReplyGives : Reply → Outcome → Type 0
ReplyGives Void outcome = outcome ≡ outcomes.Void
ReplyGives (Boolean value) outcome = outcome ≡ outcomes.Prim (values.Boolean value)
ReplyGives (Byte value) outcome = outcome ≡ outcomes.Prim (values.Byte value)
ReplyGives (Char value) outcome = outcome ≡ outcomes.Prim (values.Char value)
ReplyGives (Short value) outcome = outcome ≡ outcomes.Prim (values.Short value)
ReplyGives (Int value) outcome = outcome ≡ outcomes.Prim (values.Int value)
ReplyGives (Long value) outcome = outcome ≡ outcomes.Prim (values.Long value)
ReplyGives Null outcome = GivesTree (IsGraphOf [] (contents.Ref slots.Null ∷ [])) outcome
ReplyGives (Text text) outcome = GivesTree (IsGraphOf (nodes.Text text ∷ []) (contents.Ref (slots.Node 0) ∷ [])) outcome
ReplyGives (Texts texts) outcome = GivesTree (IsTextsGraph texts) outcome
ReplyGives (replies.Graph graph) outcome = outcome ≡ outcomes.Tree graph
ReplyGives (New kind) outcome = outcome ≡ outcomes.NewRemote kind
ReplyGives (Object object kind) outcome = outcome ≡ outcomes.OldRemote object kind

-- The outcome of a call that a service answered so.
abbrev pub AnswerGives : Result Reply CallFault → Outcome → Type 0
AnswerGives (Ok reply) outcome = ReplyGives reply outcome
AnswerGives (Err fault) outcome = FaultGives fault outcome
