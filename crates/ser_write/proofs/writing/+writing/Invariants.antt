use Rattle.std.proofs.Common.{◌≡◌, ◌≤◌, ◌+◌, ◌-◌, ◌*◌, ◌++◌, drop, map, length}
use Rattle.stream_grammar.specs.Spelled.{field_tokens, value_token, reference, part_tokens}
use Rattle.ser_write.specs.Canonical.{Begins, write_items, write_all, write_at}
use Rattle.ser_write.proofs.writing.+writing.Given as goal

abbrev pub decreases-put_slot : goal.decreases-put_slot
decreases-put_slot l = 16 * l.left + 1

abbrev pub decreases-put_new : goal.decreases-put_new
decreases-put_new l = 16 * l.left + 15

abbrev pub decreases-put_after : goal.decreases-put_after
decreases-put_after l = 16 * l.left + 13

abbrev pub decreases-put_class_parts : goal.decreases-put_class_parts
decreases-put_class_parts l = 16 * l.left + 12

abbrev pub decreases-put_object : goal.decreases-put_object
decreases-put_object l = 16 * l.left + 12

abbrev pub decreases-put_parts : goal.decreases-put_parts
decreases-put_parts l = 16 * l.left + 9

abbrev pub decreases-put_fields : goal.decreases-put_fields
decreases-put_fields l = 16 * l.left + 6

abbrev pub decreases-put_items : goal.decreases-put_items
decreases-put_items l = 16 * l.left + 6

abbrev pub decreases-put_values : goal.decreases-put_values
decreases-put_values l = 16 * l.left + 6

abbrev pub decreases-put_note : goal.decreases-put_note
decreases-put_note l = 16 * l.left + 8

abbrev pub decreases-put_slots : goal.decreases-put_slots
decreases-put_slots l = 16 * l.left + 6

abbrev pub invariant-put_slots-loop-slot : goal.invariant-put_slots-loop-slot
invariant-put_slots-loop-slot l =
    let one = write_at l.left l.nodes in
    record {
      bytes : l.out ++ (write_all one l.next (map reference (drop l.slot-index l.slots))).0 ≡ l.fn.out ++ (write_all one l.fn.next (map reference l.slots)).0;
      count : (write_all one l.next (map reference (drop l.slot-index l.slots))).1 ≡ (write_all one l.fn.next (map reference l.slots)).1;
      kept : Begins l.fn.out l.out;
    }

abbrev pub invariant-put_values-loop-value : goal.invariant-put_values-loop-value
invariant-put_values-loop-value l =
    let one = write_at l.left l.nodes in
    record {
      bytes : l.out ++ (write_all one l.next (map value_token (drop l.value-index l.values))).0 ≡ l.fn.out ++ (write_all one l.fn.next (map value_token l.values)).0;
      count : (write_all one l.next (map value_token (drop l.value-index l.values))).1 ≡ (write_all one l.fn.next (map value_token l.values)).1;
      kept : Begins l.fn.out l.out;
    }

abbrev pub invariant-put_items-loop-item : goal.invariant-put_items-loop-item
invariant-put_items-loop-item l =
    let one = write_at l.left l.nodes in
    record {
      bytes : l.out ++ (write_items one l.next (drop l.item-index l.items)).0 ≡ l.fn.out ++ (write_items one l.fn.next l.items).0;
      count : (write_items one l.next (drop l.item-index l.items)).1 ≡ (write_items one l.fn.next l.items).1;
      kept : Begins l.fn.out l.out;
    }

abbrev pub invariant-put_fields-loop-field : goal.invariant-put_fields-loop-field
invariant-put_fields-loop-field l =
    let one = write_at l.left l.nodes in
    record {
      bytes : l.out ++ (write_all one l.next (field_tokens (drop l.field-index l.fields))).0 ≡ l.fn.out ++ (write_all one l.fn.next (field_tokens l.fields)).0;
      count : (write_all one l.next (field_tokens (drop l.field-index l.fields))).1 ≡ (write_all one l.fn.next (field_tokens l.fields)).1;
      kept : Begins l.fn.out l.out;
    }

abbrev pub invariant-put_parts-loop-i : goal.invariant-put_parts-loop-i
invariant-put_parts-loop-i l =
    let one = write_at l.left l.nodes in
    record {
      within : l.i ≤ length l.parts;
      bytes : l.out ++ (write_all one l.next (part_tokens (drop l.i l.writes) (drop l.i l.parts))).0 ≡ l.fn.out ++ (write_all one l.fn.next (part_tokens l.writes l.parts)).0;
      count : (write_all one l.next (part_tokens (drop l.i l.writes) (drop l.i l.parts))).1 ≡ (write_all one l.fn.next (part_tokens l.writes l.parts)).1;
      kept : Begins l.fn.out l.out;
    }

abbrev pub decreases-put_parts-loop-i : goal.decreases-put_parts-loop-i
decreases-put_parts-loop-i l = length l.parts - l.i
