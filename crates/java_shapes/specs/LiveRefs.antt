-- The shape of a reference to a remote object: a proxy with its handler, or a stub, and the bytes of its note.
use Rattle.std.specs.Prelude.{ℕ, zero, ◌+◌, ◌*◌, Bool, true, false, not, nat_eq, nat_le, List, [], ◌∷◌, length, take, drop, get_or, Option, Some, None, Result, Ok, Err, codes, slice_get, unwrap_or, if◌then◌else◌}
use Rattle.std.specs.Int.{w32}
use Rattle.mod_utf.specs.Decoding.{decoded_units}
use Rattle.object_ids.specs.Bytes.{signed_from_bytes, objid_from_bytes}
use Rattle.class_desc.specs.declared.slot.Slot.{Slot}
use Rattle.class_desc.specs.declared.slot.Item.{Item}
use Rattle.class_desc.specs.declared.slot.Item.TheVariants as items
use Rattle.class_desc.specs.declared.field.TypeCode.TheVariants as types
use Rattle.ser_values.specs.declared.node.Node.{Node}
use Rattle.ser_values.specs.declared.node.Node.TheVariants.{Proxy, Object}
use Rattle.java_shapes.specs.declared.ref_views.LiveRef.{LiveRef}
use Rattle.java_shapes.specs.Objects.{Held, same_text, node_at, held_at, own_at, value_of, as_slot, ◌>>=◌}

-- ---- the bytes of a note

abbrev pub cut : ℕ → List ℕ → Option (List ℕ × List ℕ)
cut n bytes = if nat_le n (length bytes) then Some (take n bytes, drop n bytes) else None

-- A length of 16 bits and so many bytes; and what follows them.
abbrev pub cut_text : List ℕ → Option (List ℕ × List ℕ)
cut_text (high ∷ low ∷ bytes) = cut (256 * high + low) bytes
cut_text _ = None

abbrev pub after_format : List ℕ → Option (List ℕ)
after_format (zero ∷ rest) = Some rest
after_format _ = None

-- What follows the kind of a reference: UnicastRef, or UnicastRef2 and the format byte 0, which says that there is no socket factory.
abbrev pub after_kind : List ℕ × List ℕ → Option (List ℕ)
after_kind parts = if same_text parts.0 (codes "UnicastRef") then Some parts.1 else (if same_text parts.0 (codes "UnicastRef2") then after_format parts.1 else None)

-- the encoded host, and what follows it
unfoldable pub host_and_tail : List ℕ → Option (List ℕ × List ℕ)
host_and_tail bytes = do
  kind ← cut_text bytes
  rest ← after_kind kind
  cut_text rest

abbrev pub units_of : Result (List ℕ) ℕ → Option (List ℕ)
units_of (Ok units) = Some units
units_of (Err at) = None

-- The port in 4 bytes, the object's identifier in 22, one truth value; and no more.
abbrev pub ref_with : List ℕ → List ℕ → Option LiveRef
ref_with host tail = if nat_eq (length tail) 27 then Some (record {
  host = host;
  port = signed_from_bytes w32 (take 4 tail);
  id = objid_from_bytes (take 22 (drop 4 tail));
  result = not (nat_eq (get_or tail 26 0) 0);
}) else None

abbrev pub ref_of_parts : Option (List ℕ × List ℕ) → Option LiveRef
ref_of_parts None = None
ref_of_parts (Some parts) = units_of (decoded_units parts.0) >>= λ units. ref_with units parts.1

-- The reference that the bytes of a note are.
abbrev pub ref_of : List ℕ → Option LiveRef
ref_of bytes = ref_of_parts (host_and_tail bytes)

-- ---- where the note stands

abbrev pub is_proxy : Option Node → Bool
is_proxy (Some (Proxy p)) = true
is_proxy _ = false

abbrev pub is_proxied : List Node → Option Node → Bool
is_proxied nodes (Some (Object c ps)) = is_proxy (slice_get nodes c)
is_proxied nodes _ = false

-- the handler of a proxy, where it is an object of java.rmi.server.RemoteObjectInvocationHandler
unfoldable pub proxy_handler : List Node → Slot → Option Slot
proxy_handler nodes s = do
  proxy ← held_at nodes (codes "java.lang.reflect.Proxy") s
  handler ← as_slot (value_of proxy types.Object (codes "h"))
  held ← own_at nodes (codes "java.rmi.server.RemoteObjectInvocationHandler") handler
  Some handler

abbrev pub handler_at : List Node → Slot → Option Slot
handler_at nodes s = if is_proxied nodes (node_at nodes s) then proxy_handler nodes s else None

-- The object that has the note: a proxy's handler, or else the object itself.
abbrev pub holder_at : List Node → Slot → Slot
holder_at nodes s = unwrap_or (handler_at nodes s) s

abbrev pub one_run : List Item → Option (List ℕ)
one_run (items.Bytes bytes ∷ []) = Some bytes
one_run _ = None

abbrev pub run_of : Option Held → Option (List ℕ)
run_of None = None
run_of (Some held) = one_run (held.1).note

-- The note of an object's part of class java.rmi.server.RemoteObject, where that is one run of bytes.
abbrev pub note_at : List Node → Slot → Option (List ℕ)
note_at nodes s = run_of (held_at nodes (codes "java.rmi.server.RemoteObject") s)

abbrev pub ref_in : Option (List ℕ) → Option LiveRef
ref_in None = None
ref_in (Some bytes) = ref_of bytes

-- The reference that an object's own note is.
abbrev pub stub_ref_at : List Node → Slot → Option LiveRef
stub_ref_at nodes s = ref_in (note_at nodes s)

-- The reference that a slot is: a proxy, with any interfaces, by its handler, or a stub.
abbrev pub live_ref_at : List Node → Slot → Option LiveRef
live_ref_at nodes s = stub_ref_at nodes (holder_at nodes s)
