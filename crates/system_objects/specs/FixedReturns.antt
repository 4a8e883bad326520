-- The bytes of leases and of references: all are known, but for some numbers and texts.
use Rattle.std.specs.Prelude.{ℕ, ℤ, List, [], ◌∷◌, ◌++◌, codes, length}
use Rattle.std.specs.Int.{w16, w32, w64, to_be_bytes}
use Rattle.object_ids.specs.Bytes.{signed_bytes, bytes_of_uid}
use Rattle.object_ids.specs.declared.ids.Uid.{Uid}
use Rattle.object_ids.specs.Client.{Client}
use Rattle.ser_write.specs.Canonical.{blocks, interface_bytes}
use Rattle.java_shapes.specs.Proxies.{interfaces}

-- what a normal Return begins with, up to its result
unfoldable pub return_start : Uid → List ℕ
return_start uid = 0x51 ∷ 0xAC ∷ 0xED ∷ 0x00 ∷ 0x05 ∷ 0x77 ∷ 0x0F ∷ 0x01 ∷ bytes_of_uid uid

-- ---- leases

-- a lease, up to its duration
unfoldable pub lease_head : List ℕ
lease_head = 0x73 ∷ 0x72 ∷ 0x00 ∷ 0x12 ∷ (codes "java.rmi.dgc.Lease" ++ (0xB0 ∷ 0xB5 ∷ 0xE2 ∷ 0x66 ∷ 0x0C ∷ 0x4A ∷ 0xDC ∷ 0x34 ∷ 0x02 ∷ 0x00 ∷ 0x02 ∷ 0x4A ∷ 0x00 ∷ 0x05 ∷ (codes "value" ++ (0x4C ∷ 0x00 ∷ 0x04 ∷ (codes "vmid" ++ (0x74 ∷ 0x00 ∷ 0x13 ∷ (codes "Ljava/rmi/dgc/VMID;" ++ (0x70 ∷ 0x78 ∷ 0x70 ∷ []))))))))

-- a client, up to its address
unfoldable pub client_head : List ℕ
client_head = 0x73 ∷ 0x72 ∷ 0x00 ∷ 0x11 ∷ (codes "java.rmi.dgc.VMID" ++ (0xF8 ∷ 0x86 ∷ 0x5B ∷ 0xAF ∷ 0xA4 ∷ 0xA5 ∷ 0x6D ∷ 0xB6 ∷ 0x02 ∷ 0x00 ∷ 0x02 ∷ 0x5B ∷ 0x00 ∷ 0x04 ∷ (codes "addr" ++ (0x74 ∷ 0x00 ∷ 0x02 ∷ (codes "[B" ++ (0x4C ∷ 0x00 ∷ 0x03 ∷ (codes "uid" ++ (0x74 ∷ 0x00 ∷ 0x15 ∷ (codes "Ljava/rmi/server/UID;" ++ (0x70 ∷ 0x78 ∷ 0x70 ∷ []))))))))))

-- an array of bytes, up to its length
unfoldable pub array_head : List ℕ
array_head = 0x75 ∷ 0x72 ∷ 0x00 ∷ 0x02 ∷ (codes "[B" ++ (0xAC ∷ 0xF3 ∷ 0x17 ∷ 0xF8 ∷ 0x06 ∷ 0x08 ∷ 0x54 ∷ 0xE0 ∷ 0x02 ∷ 0x00 ∷ 0x00 ∷ 0x70 ∷ 0x78 ∷ 0x70 ∷ []))

-- an identifier, up to its count
unfoldable pub uid_head : List ℕ
uid_head = 0x73 ∷ 0x72 ∷ 0x00 ∷ 0x13 ∷ (codes "java.rmi.server.UID" ++ (0x0F ∷ 0x12 ∷ 0x70 ∷ 0x0D ∷ 0xBF ∷ 0x36 ∷ 0x4F ∷ 0x12 ∷ 0x02 ∷ 0x00 ∷ 0x03 ∷ 0x53 ∷ 0x00 ∷ 0x05 ∷ (codes "count" ++ (0x4A ∷ 0x00 ∷ 0x04 ∷ (codes "time" ++ (0x49 ∷ 0x00 ∷ 0x06 ∷ (codes "unique" ++ (0x70 ∷ 0x78 ∷ 0x70 ∷ []))))))))

-- an array of these bytes
unfoldable pub array_object : List ℕ → List ℕ
array_object bytes = array_head ++ (to_be_bytes w32 (length bytes) ++ bytes)

-- the count, the time and the unique number of an identifier
unfoldable pub uid_values : Uid → List ℕ
uid_values uid = signed_bytes w16 uid.count ++ (signed_bytes w64 uid.time ++ signed_bytes w32 uid.unique)

-- this identifier
unfoldable pub uid_object : Uid → List ℕ
uid_object uid = uid_head ++ uid_values uid

-- this client
unfoldable pub client_object : Client → List ℕ
client_object client = client_head ++ (array_object client.addr ++ uid_object client.uid)

-- a lease of this many milliseconds, up to its client
unfoldable pub lease_start : ℤ → List ℕ
lease_start duration = lease_head ++ signed_bytes w64 duration

-- a lease of this many milliseconds to this client
unfoldable pub lease_object : ℤ → Client → List ℕ
lease_object duration client = lease_start duration ++ client_object client

-- ---- references

-- a reference's proxy, from its interfaces on and up to its handler
unfoldable pub proxy_head : List ℕ
proxy_head = 0x70 ∷ 0x78 ∷ 0x72 ∷ 0x00 ∷ 0x17 ∷ (codes "java.lang.reflect.Proxy" ++ (0xE1 ∷ 0x27 ∷ 0xDA ∷ 0x20 ∷ 0xCC ∷ 0x10 ∷ 0x43 ∷ 0xCB ∷ 0x02 ∷ 0x00 ∷ 0x01 ∷ 0x4C ∷ 0x00 ∷ 0x01 ∷ (codes "h" ++ (0x74 ∷ 0x00 ∷ 0x25 ∷ (codes "Ljava/lang/reflect/InvocationHandler;" ++ (0x70 ∷ 0x78 ∷ 0x70 ∷ []))))))

-- a reference's handler, up to its note
unfoldable pub handler_head : List ℕ
handler_head = 0x73 ∷ 0x72 ∷ 0x00 ∷ 0x2D ∷ (codes "java.rmi.server.RemoteObjectInvocationHandler" ++ (0x00 ∷ 0x00 ∷ 0x00 ∷ 0x00 ∷ 0x00 ∷ 0x00 ∷ 0x00 ∷ 0x02 ∷ 0x02 ∷ 0x00 ∷ 0x00 ∷ 0x70 ∷ 0x78 ∷ 0x72 ∷ 0x00 ∷ 0x1C ∷ (codes "java.rmi.server.RemoteObject" ++ (0xD3 ∷ 0x61 ∷ 0xB4 ∷ 0x91 ∷ 0x0C ∷ 0x61 ∷ 0x33 ∷ 0x1E ∷ 0x03 ∷ 0x00 ∷ 0x00 ∷ 0x70 ∷ 0x78 ∷ 0x70 ∷ []))))

-- a proxy of an interface of this name, up to its handler
unfoldable pub proxy_object : List ℕ → List ℕ
proxy_object interface = 0x73 ∷ 0x7D ∷ (interface_bytes (interfaces interface) ++ proxy_head)

-- a handler with this note
unfoldable pub handler_object : List ℕ → List ℕ
handler_object note = handler_head ++ (blocks note ++ 0x78 ∷ [])

-- a reference with this note, whose interface has this name
unfoldable pub reference_object : List ℕ → List ℕ → List ℕ
reference_object interface note = proxy_object interface ++ handler_object note
