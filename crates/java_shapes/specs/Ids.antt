-- The shapes of identifiers and leases. Each of these objects goes by its own class.
use Rattle.std.specs.Prelude.{ℕ, ℤ, List, length, nat_le, Option, Some, None, codes, option_map, if◌then◌else◌}
use Rattle.class_desc.specs.declared.slot.Slot.{Slot}
use Rattle.class_desc.specs.declared.slot.Slot.TheVariants as slots
use Rattle.class_desc.specs.declared.field.TypeCode.TheVariants as types
use Rattle.object_ids.specs.declared.ids.Uid.{Uid}
use Rattle.object_ids.specs.declared.ids.ObjId.{ObjId}
use Rattle.object_ids.specs.Client.{Client}
use Rattle.object_ids.specs.declared.limits.TheConstants.{MAX_ADDRESS_BYTES}
use Rattle.ser_values.specs.declared.node.Node.{Node}
use Rattle.java_shapes.specs.declared.lease_views.LeaseView.{LeaseView}
use Rattle.java_shapes.specs.Objects.{Held, own_at, value_of, as_slot, as_short, as_int, as_long, array_at, as_bytes, as_refs, ◌>>=◌, each, text_at}

-- ---- identifiers

unfoldable pub uid_of : Held → Option Uid
uid_of held = do
  count ← as_short (value_of held types.Short (codes "count"))
  time ← as_long (value_of held types.Long (codes "time"))
  unique ← as_int (value_of held types.Int (codes "unique"))
  Some (record { unique = unique; time = time; count = count })

-- The identifier of an object of java.rmi.server.UID.
abbrev pub uid_at : List Node → Slot → Option Uid
uid_at nodes s = own_at nodes (codes "java.rmi.server.UID") s >>= uid_of

unfoldable pub objid_of : List Node → Held → Option ObjId
objid_of nodes held = do
  number ← as_long (value_of held types.Long (codes "objNum"))
  slot ← as_slot (value_of held types.Object (codes "space"))
  space ← uid_at nodes slot
  Some (record { number = number; space = space })

-- The identifier of an object of java.rmi.server.ObjID, whose space is there.
abbrev pub objid_at : List Node → Slot → Option ObjId
objid_at nodes s = own_at nodes (codes "java.rmi.server.ObjID") s >>= objid_of nodes

-- The elements of an array of such objects, each of them there.
unfoldable pub objids_at : List Node → Slot → Option (List ObjId)
objids_at nodes s = as_refs (array_at nodes (codes "[Ljava.rmi.server.ObjID;") s) >>= each (objid_at nodes)

-- ---- clients and leases

abbrev pub short_client : List ℕ → Uid → Option Client
short_client addr uid = if nat_le (length addr) MAX_ADDRESS_BYTES then Some (record { addr = addr; uid = uid }) else None

-- the address and the identifier in a VMID's fields
unfoldable pub vmid_parts : List Node → Held → Option (List ℕ × Uid)
vmid_parts nodes held = do
  place ← as_slot (value_of held types.Array (codes "addr"))
  slot ← as_slot (value_of held types.Object (codes "uid"))
  addr ← as_bytes (array_at nodes (codes "[B") place)
  uid ← uid_at nodes slot
  Some (addr, uid)

abbrev pub vmid_parts_at : List Node → Slot → Option (List ℕ × Uid)
vmid_parts_at nodes s = own_at nodes (codes "java.rmi.dgc.VMID") s >>= vmid_parts nodes

abbrev pub vmid_of : Option (List ℕ × Uid) → Option Client
vmid_of None = None
vmid_of (Some parts) = short_client parts.0 parts.1

-- The client of an object of java.rmi.dgc.VMID, whose address of at most 255 bytes and identifier are there.
abbrev pub vmid_at : List Node → Slot → Option Client
vmid_at nodes s = vmid_of (vmid_parts_at nodes s)

-- the same, or null
abbrev pub vmid_or_null : List Node → Slot → Option (Option Client)
vmid_or_null nodes slots.Null = Some None
vmid_or_null nodes (slots.Node k) = option_map (λ v. Some v) (vmid_at nodes (slots.Node k))

-- the duration and the client's slot in a Lease's fields
unfoldable pub lease_parts : Held → Option (ℤ × Slot)
lease_parts held = do
  value ← as_long (value_of held types.Long (codes "value"))
  slot ← as_slot (value_of held types.Object (codes "vmid"))
  Some (value, slot)

abbrev pub lease_parts_at : List Node → Slot → Option (ℤ × Slot)
lease_parts_at nodes s = own_at nodes (codes "java.rmi.dgc.Lease") s >>= lease_parts

abbrev pub lease_with : ℤ → Option (Option Client) → Option LeaseView
lease_with value None = None
lease_with value (Some vmid) = Some (record { value = value; vmid = vmid })

abbrev pub lease_of : List Node → Option (ℤ × Slot) → Option LeaseView
lease_of nodes None = None
lease_of nodes (Some parts) = lease_with parts.0 (vmid_or_null nodes parts.1)

-- The lease of an object of java.rmi.dgc.Lease. Its vmid may be null.
abbrev pub lease_at : List Node → Slot → Option LeaseView
lease_at nodes s = lease_of nodes (lease_parts_at nodes s)

-- ---- texts

-- The elements of an array of texts, each of them there.
unfoldable pub texts_at : List Node → Slot → Option (List (List ℕ))
texts_at nodes s = as_refs (array_at nodes (codes "[Ljava.lang.String;") s) >>= each (text_at nodes)
