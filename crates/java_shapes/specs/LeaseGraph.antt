-- The graph of a lease.
use Rattle.std.specs.Prelude.{ℕ, ℤ, List, [], ◌∷◌, ◌++◌, codes}
use Rattle.class_desc.specs.declared.slot.Slot.TheVariants as slots
use Rattle.class_desc.specs.declared.slot.Item.{Item}
use Rattle.class_desc.specs.declared.slot.Item.TheVariants as items
use Rattle.class_desc.specs.declared.known_class.KnownClass.TheVariants as known
use Rattle.object_ids.specs.declared.ids.Uid.{Uid}
use Rattle.object_ids.specs.Client.{Client}
use Rattle.ser_values.specs.declared.value.Value.TheVariants as values
use Rattle.ser_values.specs.declared.value.Values.TheVariants as kinds
use Rattle.ser_values.specs.declared.value.Part.{Part}
use Rattle.ser_values.specs.declared.node.Node.{Node}
use Rattle.ser_values.specs.declared.node.Node.TheVariants.{Text, Object, Array}
use Rattle.java_shapes.specs.Fault.{class_node}
use Rattle.java_shapes.specs.Shapes.{one_part, uid_values}

-- The lease's class with its type text, and the lease; its client is node 6.
abbrev pub lease_first : ℤ → List Node
lease_first value =
    class_node known.Lease (slots.Null ∷ slots.Node 1 ∷ []) slots.Null
    ∷ Text (codes "Ljava/rmi/dgc/VMID;")
    ∷ Object 0 (one_part (values.Long value ∷ values.Ref (slots.Node 6) ∷ []))
    ∷ []

-- The client's class with its type texts, and the client; its address is node 8, and its identifier node 10.
abbrev pub vmid_class : List Node
vmid_class = class_node known.Vmid (slots.Node 4 ∷ slots.Node 5 ∷ []) slots.Null ∷ Text (codes "[B") ∷ []

abbrev pub vmid_parts : List Part
vmid_parts = one_part (values.Ref (slots.Node 8) ∷ values.Ref (slots.Node 10) ∷ [])

abbrev pub vmid_next : List Node
vmid_next = Text (codes "Ljava/rmi/server/UID;") ∷ Object 3 vmid_parts ∷ []

-- The address with its class.
abbrev pub addr_next : List ℕ → List Node
addr_next addr = class_node known.ByteArray [] slots.Null ∷ Array 7 (kinds.Bytes addr) ∷ []

-- The identifier with its class.
abbrev pub uid_last : Uid → List Node
uid_last uid = class_node known.Uid (slots.Null ∷ slots.Null ∷ slots.Null ∷ []) slots.Null ∷ Object 9 (one_part (uid_values uid)) ∷ []

-- The nodes of the graph of a lease of this duration to this client, in the order of their handles.
unfoldable pub lease_nodes : ℤ → Client → List Node
lease_nodes value client = lease_first value ++ (vmid_class ++ (vmid_next ++ (addr_next client.addr ++ uid_last client.uid)))

-- its one item: the lease
abbrev pub lease_items : List Item
lease_items = items.Ref (slots.Node 2) ∷ []
