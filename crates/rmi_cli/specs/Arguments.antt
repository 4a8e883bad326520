-- The arguments of `rmi call`, as the nodes and the items of a graph.
use Rattle.std.specs.Prelude.{ℕ, suc, List, [], ◌∷◌, ◌++◌}
use Rattle.std.specs.List.{flat_map}
use Rattle.class_desc.specs.declared.slot.Slot.TheVariants as slots
use Rattle.class_desc.specs.declared.slot.Item.{Item}
use Rattle.class_desc.specs.declared.slot.Item.TheVariants as items
use Rattle.ser_values.specs.declared.node.Node.{Node}
use Rattle.ser_values.specs.declared.node.Node.TheVariants as nodes
use Rattle.ser_values.specs.Fronts.{put_block}
use Rattle.stream_grammar.specs.Spelled.{joined}
use Rattle.ser_write.specs.Canonical.{value_bytes}
use Rattle.rmi_words.specs.declared.call_words.Argument.{Argument}
use Rattle.rmi_words.specs.declared.call_words.Argument.TheVariants.{Prim, Text}
use Rattle.rmi_cli.specs.declared.call_arguments.ItemDraft.{ItemDraft}

-- ---- the graph

-- the node of a string
abbrev pub node_of : Argument → List Node
node_of (Prim value) = []
node_of (Text units) = nodes.Text units ∷ []

-- The nodes of arguments: their strings, in order.
abbrev pub argument_nodes : List Argument → List Node
argument_nodes arguments = flat_map node_of arguments

-- What is sent of each argument, where so many strings stand before: the bytes of a number, or the reference to a string.
unfoldable pub answers_from : ℕ → List Argument → List Item
answers_from k [] = []
answers_from k (Prim value ∷ more) = items.Bytes (value_bytes value) ∷ answers_from k more
answers_from k (Text units ∷ more) = items.Ref (slots.Node k) ∷ answers_from (suc k) more

-- The items of arguments: bytes that stand side by side are one run of block data.
abbrev pub argument_items : List Argument → List Item
argument_items arguments = joined (answers_from 0 arguments)

-- ---- as it is made

-- the items of a draft, and these behind them
abbrev pub before_items : ItemDraft → List Item → List Item
before_items draft more = draft.items ++ put_block draft.run more

-- the items of a draft once these arguments are added
abbrev pub with_arguments : ItemDraft → List Argument → List Item
with_arguments draft more = before_items draft (joined (answers_from draft.strings more))
