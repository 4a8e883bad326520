use Rattle.std.proofs.Common.{◌≡◌, ◌<◌, ◌≤◌, ◌∙◌, sym, refl, arith, rules, false, drop, slice_get, [], None, Some}
use Rattle.std.proofs.lemmas.List.{append-nil}
use Rattle.std.proofs.lemmas.Option.{slice_get-get_or}
use Rattle.ser_values.proofs.Lists.{slice_get-or}
use Rattle.class_desc.specs.declared.slot.Slot.TheVariants as slots
use Rattle.ser_values.specs.declared.node.SlotPlace.TheVariants as places
use Rattle.stream_grammar.specs.Spelled.{want}
use Rattle.ser_write.specs.Canonical.{write_at}
use Rattle.ser_write.specs.Nodes.{class_of, rest_tokens}
use Rattle.ser_write.proofs.Begins.{begins_more}
use Rattle.ser_write.proofs.Writes.{again_adds, flat_adds, alone_adds, classed_adds, note_adds, class_adds, head_adds, head_alone, write_all-one, parts_stop, part_next}
use Rattle.ser_write.proofs.writing.+writing.Goals as goal

pub put_slot-returns-in_ok-put_handle-in-Node : goal.put_slot-returns-in_ok-put_handle-in-Node
put_slot-returns-in_ok-put_handle-in-Node t c =
    let lt : c.in-Node.number < c.args.next = search rules in
    rw c.in-Node.is (again_adds c.args.out.now c.put_handle.new.out c.args.left c.args.nodes.now c.args.next c.in-Node.number c.in_ok-put_handle-in-Node.ensures.written lt)

pub put_slot-returns-then-left-eq0 : goal.put_slot-returns-then-left-eq0
put_slot-returns-then-left-eq0 t c =
    let le : c.args.next ≤ c.in-Node.number = search rules in
    rw c.in-Node.is (flat_adds c.args.out.now c.args.left c.args.nodes.now c.args.next c.in-Node.number le c.if-left-eq0.true)

pub put_parts-returns-else-i-writes : goal.put_parts-returns-else-i-writes
put_parts-returns-else-i-writes t c =
    let stop = parts_stop (write_at c.args.left c.args.nodes.now) c.loop-i.next c.args.writes.now (drop c.loop-i.i c.args.parts.now) c.loop-i.i c.if-i-writes.false in
    let bytes = rw stop at c.loop-i.invariant.bytes in
    let count = rw stop at c.loop-i.invariant.count in
    (sym (append-nil c.loop-i.out) ∙ bytes, count)

pub put_parts-loop-i-preserved : goal.put_parts-loop-i-preserved
put_parts-loop-i-preserved t c =
    let at_w = slice_get-get_or c.args.writes.now c.loop-i.i false c.if-i-writes.true in
    let at_p = slice_get-or c.args.parts.now c.loop-i.i c.index-parts-i.result c.loop-i-test.true c.index-parts-i.is in
    let values = rw c.as_slice.ensures at c.in_ok-next.ensures in
    let noted = rw c.as_slice-in-loop-i.ensures at c.in_ok-next-2.ensures in
    let n = part_next (write_at c.args.left c.args.nodes.now) c.loop-i.next c.in_ok-next.next c.in_ok-next-2.next c.args.writes.now c.args.parts.now c.loop-i.i _ c.index-parts-i.result c.loop-i.out c.put_values.new.out c.put_note.new.out at_w at_p values noted in
    record {
      within = omega (arith, c.loop-i-test.true);
      bytes = n.bytes ∙ c.loop-i.invariant.bytes;
      count = n.count ∙ c.loop-i.invariant.count;
      kept = begins_more c.args.out.now c.put_values.new.out c.put_note.new.out _ (begins_more c.args.out.now c.loop-i.out c.put_values.new.out _ c.loop-i.invariant.kept values.0) noted.0;
    }

pub put_new-returns-in-None-class_of : goal.put_new-returns-in-None-class_of
put_new-returns-in-None-class_of t c =
    let here : slice_get c.args.nodes.now c.args.number ≡ Some c.in-Some.node.now = search rules in
    let none : class_of c.in-Some.node.now ≡ None = search rules in
    rw here (alone_adds c.args.nodes.now (write_at c.args.left c.args.nodes.now) c.args.next c.args.number c.in-Some.node.now c.args.out.now c.put_before_handle.new.out c.put_after.new.out c.put_after.result none c.in_ok-put_before_handle-in-Some.ensures.written
    (rw c.from.ensures at c.put_after.ensures))

pub put_new-returns-in_ok-_before-in-Some-class_of : goal.put_new-returns-in_ok-_before-in-Some-class_of
put_new-returns-in_ok-_before-in-Some-class_of t c =
    let here : slice_get c.args.nodes.now c.args.number ≡ Some c.in-Some.node.now = search rules in
    let some : class_of c.in-Some.node.now ≡ Some c.in-Some-class_of.class = search rules in
    rw here (classed_adds c.args.nodes.now (write_at c.args.left c.args.nodes.now) c.args.next c.args.number c.in-Some-class_of.class c.in-Some.node.now c.args.out.now c.put_before_handle.new.out c.put_slot.new.out c.put_after-in-Some-class_of.new.out _ c.put_after-in-Some-class_of.result some c.in_ok-put_before_handle-in-Some.ensures.written c.in_ok-_before-in-Some-class_of.ensures
    (rw c.from-in-Some-class_of.ensures at c.put_after-in-Some-class_of.ensures))

pub put_after-returns-in-Text : goal.put_after-returns-in-Text
put_after-returns-in-Text t c =
    let none : rest_tokens c.args.nodes.now c.args.node.now ≡ [] = rw c.in-Text.is refl in
    head_alone c.args.nodes.now (write_at c.args.left c.args.nodes.now) c.args.next c.args.node.now c.args.out.now c.put_behind_handle.new.out none c.in_ok-put_behind_handle.ensures.written

pub put_after-returns-in-Class : goal.put_after-returns-in-Class
put_after-returns-in-Class t c =
    let none : rest_tokens c.args.nodes.now c.args.node.now ≡ [] = rw c.in-Class.is refl in
    head_alone c.args.nodes.now (write_at c.args.left c.args.nodes.now) c.args.next c.args.node.now c.args.out.now c.put_behind_handle.new.out none c.in_ok-put_behind_handle.ensures.written

pub put_after-returns-in-Desc : goal.put_after-returns-in-Desc
put_after-returns-in-Desc t c =
    head_adds c.args.nodes.now (write_at c.args.left c.args.nodes.now) c.args.next c.args.node.now c.args.out.now c.put_behind_handle.new.out c.put_class_parts.new.out c.put_class_parts.result c.in_ok-put_behind_handle.ensures.written
    (rw c.in-Desc.is (rw (c.as_slice-fields.ensures, c.as_slice-note.ensures) at c.put_class_parts.ensures))

pub put_after-returns-in-Proxy : goal.put_after-returns-in-Proxy
put_after-returns-in-Proxy t c =
    head_adds c.args.nodes.now (write_at c.args.left c.args.nodes.now) c.args.next c.args.node.now c.args.out.now c.put_behind_handle.new.out c.put_class_parts-in-Proxy.new.out c.put_class_parts-in-Proxy.result c.in_ok-put_behind_handle.ensures.written
    (rw c.in-Proxy.is (rw c.as_slice-note-in-Proxy.ensures at c.put_class_parts-in-Proxy.ensures))

pub put_after-returns-in-Object : goal.put_after-returns-in-Object
put_after-returns-in-Object t c =
    head_adds c.args.nodes.now (write_at c.args.left c.args.nodes.now) c.args.next c.args.node.now c.args.out.now c.put_behind_handle.new.out c.put_object.new.out c.put_object.result c.in_ok-put_behind_handle.ensures.written
    (rw c.in-Object.is (rw c.as_slice.ensures at c.put_object.ensures))

pub put_after-returns-in-Array : goal.put_after-returns-in-Array
put_after-returns-in-Array t c =
    head_adds c.args.nodes.now (write_at c.args.left c.args.nodes.now) c.args.next c.args.node.now c.args.out.now c.put_behind_handle.new.out c.put_slots.new.out c.put_slots.result c.in_ok-put_behind_handle.ensures.written
    (rw c.in-Array.is (rw c.slots_of.ensures at c.put_slots.ensures))

pub put_after-returns-in-Enum : goal.put_after-returns-in-Enum
put_after-returns-in-Enum t c =
    head_adds c.args.nodes.now (write_at c.args.left c.args.nodes.now) c.args.next c.args.node.now c.args.out.now c.put_behind_handle.new.out c.put_slot.new.out c.put_slot.result c.in_ok-put_behind_handle.ensures.written
    (rw (c.in-Enum.is, write_all-one (write_at c.args.left c.args.nodes.now) c.args.next (want (places.Text, slots.Node c.in-Enum.name))) c.put_slot.ensures)

pub put_class_parts-returns : goal.put_class_parts-returns
put_class_parts-returns t c =
    class_adds (write_at c.args.left c.args.nodes.now) c.args.next c.in_ok-next.next c.in_ok-next-2.next c.args.fields.now c.args.annotation.now c.args.parent c.args.out.now c.put_fields.new.out c.put_note.new.out c.put_slot.new.out c.put_slot.result c.in_ok-next.ensures c.in_ok-next-2.ensures c.put_slot.ensures

pub put_note-returns-in_ok-put_byte : goal.put_note-returns-in_ok-put_byte
put_note-returns-in_ok-put_byte t c =
    rw c.if-writes.true (note_adds (write_at c.args.left c.args.nodes.now) c.args.next c.in_ok-next.next c.args.note.now c.args.out.now c.put_items.new.out c.put_byte.new.out c.in_ok-next.ensures c.in_ok-put_byte.ensures.written)
