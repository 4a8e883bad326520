-- The bytes that are put together of leases and of references are those that are written of their graphs.
use Rattle.std.proofs.Common.{◌≡◌, ◌<◌, ◌+◌, ℕ, ℤ, Bool, true, false, List, [], ◌∷◌, ◌++◌, length, map, take, get_or, sym, ap, ◌∙◌, append_assoc, if◌then◌else◌}
use Rattle.std.proofs.lemmas.List.{append-nil, take_more, flat_map_more}
use Rattle.mod_utf.specs.Utf.{unit_bytes, utf}
use Rattle.std.specs.Int.{w32, w64, to_be_bytes}
use Rattle.std.specs.Prelude.{codes}
use Rattle.class_desc.specs.declared.slot.Slot.TheVariants as slots
use Rattle.ser_values.specs.declared.value.Values.TheVariants as kinds
use Rattle.ser_values.specs.declared.node.Node.{Node}
use Rattle.stream_grammar.specs.Spelled.{note, want, short_text, part_tokens, writers}
use Rattle.object_ids.specs.declared.ids.Uid.{Uid}
use Rattle.object_ids.specs.Bytes.{signed_bytes}
use Rattle.object_ids.specs.Client.{Client}
use Rattle.java_shapes.specs.declared.ref_views.LiveRef.{LiveRef}
use Rattle.ser_write.specs.Canonical.{Written, before_more, interface_bytes, short_bytes, write_items, write_all, write_one, write_at, tokens_before, tokens_after, contents, pieces, pieces_in, blocks}
use Rattle.ser_write.proofs.Writes.{write_all-append, write_all-elements, write_all-raw}
use Rattle.class_desc.specs.declared.known_class.KnownClass.TheVariants as known
use Rattle.ser_values.specs.declared.node.Node.TheVariants.{Text, Object, Proxy}
use Rattle.ser_values.specs.declared.node.SlotPlace.TheVariants as places
use Rattle.java_shapes.specs.Fault.{class_node, reference, empty_part}
use Rattle.java_shapes.specs.Put.{no_codebase}
use Rattle.java_shapes.specs.Objects.{same_text}
use Rattle.java_shapes.specs.Proxies.{interfaces}
use Rattle.java_shapes.specs.LeaseGraph.{lease_nodes, lease_items}
use Rattle.java_shapes.specs.RefGraph.{handler_classes, handler_last, noted_nodes, ref_nodes, ref_items}
use Rattle.java_shapes.specs.RefNotes.{ref_note}
use Rattle.jrmp_frames.specs.Messages.{return_front}
use Rattle.system_objects.specs.ReturnBytes.{graph_return}
use Rattle.system_objects.specs.FixedReturns.{return_start, lease_head, lease_start, client_head, array_head, uid_head, array_object, uid_object, uid_values, client_object, lease_object, proxy_head, handler_head, proxy_object, handler_object, reference_object}

-- ---- leases

-- the client's address, where 7 nodes have handles
array_written : (value : ℤ) (client : Client) → write_at 198 (lease_nodes value client) 7 (slots.Node 8) ≡ (array_object client.addr, 9)
unfolding write_at write_one write_all write_items tokens_before tokens_after lease_nodes array_object array_head
array_written value client = ap (λ (w : Written). (array_head ++ (to_be_bytes w32 (length client.addr) ++ w.0), w.1))
    (write_all-elements (write_at 197 (lease_nodes value client)) 9 (kinds.Bytes client.addr) ∙ ap (λ (l : List ℕ). (l, 9)) (append-nil client.addr))

client_written : (value : ℤ) (client : Client) → write_at 199 (lease_nodes value client) 3 (slots.Node 6) ≡ (client_object client, 11)
unfolding write_at write_one write_all write_items tokens_before tokens_after part_tokens writers lease_nodes client_object client_head uid_object uid_values uid_head array_object array_head
client_written value client = ap (λ (w : Written). (client_head ++ (w.0 ++ ((write_at 198 (lease_nodes value client) w.1 (slots.Node 10)).0 ++ [])), (write_at 198 (lease_nodes value client) w.1 (slots.Node 10)).1))
    (array_written value client)

lease_written : (value : ℤ) (client : Client) → write_at 200 (lease_nodes value client) 0 (slots.Node 2) ≡ (lease_object value client, 11)
unfolding write_at write_one write_all write_items tokens_before tokens_after part_tokens writers lease_nodes lease_object lease_start lease_head
lease_written value client = ap (λ (w : Written). (lease_head ++ (signed_bytes w64 value ++ (w.0 ++ [])), w.1)) (client_written value client)
    ∙ ap (λ (l : List ℕ). (lease_head ++ (signed_bytes w64 value ++ l), 11)) (append-nil (client_object client))

lease_return_is : (uid : Uid) (value : ℤ) (client : Client) → graph_return uid (lease_nodes value client) lease_items ≡ return_start uid ++ lease_object value client
unfolding contents write_items pieces pieces_in return_front return_start
lease_return_is uid value client =
    ap (λ (w : Written). return_start uid ++ (w.0 ++ [])) (lease_written value client) ∙ ap (λ (l : List ℕ). return_start uid ++ l) (append-nil (lease_object value client))

pub lease_is : (uid : Uid) (value : ℤ) (client : Client) (bytes : List ℕ) → bytes ≡ return_start uid ++ lease_object value client → bytes ≡ graph_return uid (lease_nodes value client) lease_items
lease_is uid value client bytes is = is ∙ sym (lease_return_is uid value client)

-- ---- references

-- the nodes of a reference, whose proxy has these interfaces
named_nodes : List (List ℕ) → List ℕ → List Node
named_nodes names bytes =
    Proxy (record { names = names; note = no_codebase; parent = slots.Node 1 })
    ∷ class_node known.Proxy (slots.Node 2 ∷ []) slots.Null
    ∷ Text (codes "Ljava/lang/reflect/InvocationHandler;")
    ∷ Object 0 (reference (slots.Node 6) ∷ empty_part ∷ [])
    ∷ (handler_classes ++ handler_last bytes)

-- the class of the proxy
class_written : (names : List (List ℕ)) (bytes : List ℕ) → write_at 199 (named_nodes names bytes) 0 (slots.Node 0) ≡ (0x7D ∷ (interface_bytes names ++ proxy_head), 3)
unfolding write_at write_one write_all write_items tokens_before tokens_after part_tokens writers named_nodes proxy_head
class_written names bytes =
    let inner = write_at 198 (named_nodes names bytes) in
    let rest = note no_codebase ∷ want (places.Parent, slots.Node 1) ∷ [] in
    ap (λ (w : Written). (0x7D ∷ (to_be_bytes w32 (length names) ++ w.0), w.1))
    (write_all-append inner 1 (map short_text names) rest ∙ ap (λ (w : Written). before_more w (λ m. write_all inner m rest)) (write_all-raw inner 1 short_bytes names))

handler_written : (names : List (List ℕ)) (bytes : List ℕ) → write_at 199 (named_nodes names bytes) 4 (slots.Node 6) ≡ (handler_head ++ (blocks bytes ++ 0x78 ∷ []), 7)
unfolding write_at write_one write_all write_items tokens_before tokens_after part_tokens writers named_nodes handler_head
handler_written names bytes =
    ap (λ (l : List ℕ). (handler_head ++ ((l ++ 0x78 ∷ []) ++ []), 7)) (append-nil (blocks bytes)) ∙ ap (λ (l : List ℕ). (handler_head ++ l, 7)) (append-nil (blocks bytes ++ 0x78 ∷ []))

proxy_written : (names : List (List ℕ)) (bytes : List ℕ) → write_at 200 (named_nodes names bytes) 0 (slots.Node 3) ≡ ((0x73 ∷ 0x7D ∷ (interface_bytes names ++ proxy_head)) ++ (handler_head ++ (blocks bytes ++ 0x78 ∷ [])), 7)
unfolding write_at write_one write_all write_items tokens_before tokens_after part_tokens writers named_nodes
proxy_written names bytes =
    let class = 0x7D ∷ (interface_bytes names ++ proxy_head) in
    let handler = handler_head ++ (blocks bytes ++ 0x78 ∷ []) in
    ap (λ (w : Written). ((0x73 ∷ (w.0 ++ [])) ++ ((write_at 199 (named_nodes names bytes) 4 (slots.Node 6)).0 ++ []), (write_at 199 (named_nodes names bytes) 4 (slots.Node 6)).1)) (class_written names bytes)
    ∙ ap (λ (w : Written). ((0x73 ∷ (class ++ [])) ++ (w.0 ++ []), w.1)) (handler_written names bytes)
    ∙ ap (λ (l : List ℕ). ((0x73 ∷ l) ++ (handler ++ []), 7)) (append-nil class)
    ∙ ap (λ (l : List ℕ). ((0x73 ∷ class) ++ l, 7)) (append-nil handler)

reference_return_is : (uid : Uid) (interface : List ℕ) (r : LiveRef) → graph_return uid (ref_nodes interface r) ref_items ≡ return_start uid ++ reference_object interface (ref_note r)
unfolding contents write_items pieces pieces_in return_front return_start noted_nodes named_nodes reference_object proxy_object handler_object
reference_return_is uid interface r =
    ap (λ (w : Written). return_start uid ++ (w.0 ++ [])) (proxy_written (interfaces interface) (ref_note r)) ∙ ap (λ (l : List ℕ). return_start uid ++ l) (append-nil (reference_object interface (ref_note r)))

pub reference_is : (uid : Uid) (interface : List ℕ) (r : LiveRef) (bytes : List ℕ) → bytes ≡ return_start uid ++ reference_object interface (ref_note r) → bytes ≡ graph_return uid (ref_nodes interface r) ref_items
reference_is uid interface r bytes is = is ∙ sym (reference_return_is uid interface r)

-- ---- interfaces

abbrev tested : Bool → List ℕ → List (List ℕ)
tested test interface = if test then interface ∷ [] else codes "java.rmi.Remote" ∷ interface ∷ []

one_tested : (test : Bool) (interface : List ℕ) → test ≡ true → (0 ∷ 0 ∷ 0 ∷ 1 ∷ []) ++ short_bytes interface ≡ interface_bytes (tested test interface)
one_tested true interface is = ap (λ (l : List ℕ). 0 ∷ 0 ∷ 0 ∷ 1 ∷ l) (sym (append-nil (short_bytes interface)))
one_tested false interface is = absurd cc

two_tested : (test : Bool) (interface : List ℕ) → test ≡ false → (0 ∷ 0 ∷ 0 ∷ 2 ∷ 0 ∷ 15 ∷ codes "java.rmi.Remote") ++ short_bytes interface ≡ interface_bytes (tested test interface)
two_tested true interface is = absurd cc
two_tested false interface is = ap (λ (l : List ℕ). (0 ∷ 0 ∷ 0 ∷ 2 ∷ 0 ∷ 15 ∷ codes "java.rmi.Remote") ++ l) (sym (append-nil (short_bytes interface)))

pub one_name : (interface : List ℕ) → same_text interface (codes "java.rmi.Remote") ≡ true → (0 ∷ 0 ∷ 0 ∷ 1 ∷ []) ++ short_bytes interface ≡ interface_bytes (interfaces interface)
one_name interface is = one_tested (same_text interface (codes "java.rmi.Remote")) interface is

pub two_names : (interface : List ℕ) → same_text interface (codes "java.rmi.Remote") ≡ false → (0 ∷ 0 ∷ 0 ∷ 2 ∷ 0 ∷ 15 ∷ codes "java.rmi.Remote") ++ short_bytes interface ≡ interface_bytes (interfaces interface)
two_names interface is = two_tested (same_text interface (codes "java.rmi.Remote")) interface is

-- bytes are put, and then others
pub both_put : (old first second both new : List ℕ) → new ≡ (old ++ first) ++ second → first ++ second ≡ both → new ≡ old ++ both
both_put old first second both new put is = put ∙ append_assoc old first second ∙ ap (λ (l : List ℕ). old ++ l) is

-- ---- texts

-- One more unit was spelled, by one byte.
pub one_spelled : (units out now : List ℕ) (i byte : ℕ) → i < length units → out ≡ utf (take i units) → unit_bytes (get_or units i 0) ≡ byte ∷ [] → now ≡ out ++ byte ∷ [] → now ≡ utf (take (i + 1) units)
one_spelled units out now i byte inside is one put =
    let front : take (i + 1) units ≡ take i units ++ get_or units i 0 ∷ [] = take_more units i 0 inside in
    put ∙ ap (λ (xs : List ℕ). out ++ xs) (sym one) ∙ ap (λ (xs : List ℕ). xs ++ unit_bytes (get_or units i 0)) is ∙ flat_map_more unit_bytes [] (take i units) (get_or units i 0) ∙ ap utf (sym front)
