-- The bytes of Returns (Java RMI Specification, 10.2): of graphs, of references to the server's own objects, and exceptional ones with their messages.
use Rattle.std.specs.Prelude.{ℕ, true, false, codes, List, ◌∷◌, ◌++◌}
use Rattle.class_desc.specs.declared.slot.Item.{Item}
use Rattle.ser_values.specs.declared.node.Node.{Node}
use Rattle.ser_values.specs.Fronts.{put_block}
use Rattle.ser_write.specs.Canonical.{contents}
use Rattle.object_ids.specs.declared.ids.ObjId.{ObjId}
use Rattle.object_ids.specs.declared.ids.Uid.{Uid}
use Rattle.object_ids.specs.declared.ids.FullKind.{FullKind}
use Rattle.object_ids.specs.declared.ids.FullKind.TheVariants.{Exports, Awaiting, Clients, Pairs, Names}
use Rattle.history.specs.declared.replies.Refused.{Refused}
use Rattle.history.specs.declared.replies.Refused.TheVariants as refusals
use Rattle.java_shapes.specs.declared.ref_views.LiveRef.{LiveRef}
use Rattle.java_shapes.specs.Fault.{fault_nodes, fault_items}
use Rattle.java_shapes.specs.RefGraph.{ref_nodes, ref_items}
use Rattle.jrmp_frames.specs.Messages.{return_front}
use Rattle.system_objects.specs.Terms.{Terms}

-- ---- normal Returns

-- the normal Return of a graph with these nodes and items
abbrev pub graph_return : Uid → List Node → List Item → List ℕ
graph_return uid nodes items = 0x51 ∷ 0xAC ∷ 0xED ∷ 0x00 ∷ 0x05 ∷ contents nodes (put_block (return_front true uid) items)

-- the server's own reference to an object, made for a result
abbrev pub reference_to : Terms → ObjId → LiveRef
reference_to terms object = record { host = terms.host; port = terms.port; id = object; result = true }

-- the normal Return of such a reference, by an interface with this name
abbrev pub own_return : Terms → Uid → List ℕ → ObjId → List ℕ
own_return terms uid interface object = graph_return uid (ref_nodes interface (reference_to terms object)) ref_items

-- ---- exceptional Returns

-- the exceptional Return with this message
unfoldable pub fault_return : Uid → List ℕ → List ℕ
fault_return uid message = 0x51 ∷ 0xAC ∷ 0xED ∷ 0x00 ∷ 0x05 ∷ contents (fault_nodes message) (put_block (return_front false uid) fault_items)

-- ---- their messages

abbrev pub no_object : List ℕ
no_object = codes "java.rmi.NoSuchObjectException: no such object"

abbrev pub no_method : List ℕ
no_method = codes "java.rmi.UnmarshalException: no such method"

abbrev pub wrong_outcome : List ℕ
wrong_outcome = codes "java.rmi.ServerException: wrong outcome"

abbrev pub table_word : FullKind → List ℕ
table_word Exports = codes "exports"
table_word Awaiting = codes "awaiting"
table_word Clients = codes "clients"
table_word Pairs = codes "pairs"
table_word Names = codes "names"

abbrev pub full_word : Refused → List ℕ
full_word (refusals.Full kind) = table_word kind
full_word _ = codes "history"

abbrev pub full : Refused → List ℕ
full refused = codes "java.rmi.ServerException: full: " ++ full_word refused
