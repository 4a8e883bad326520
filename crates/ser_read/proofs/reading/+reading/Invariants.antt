use Rattle.std.proofs.Common.{◌≡◌, true, ◌-◌, ◌+◌, ◌*◌, ◌≤◌, length, drop}
use Rattle.ser_values.specs.declared.node.SlotPlace.TheVariants.{Reference, Text}
use Rattle.wire_io.specs.Pulled.{pull_state}
use Rattle.stream_grammar.specs.Reading.{slot_at, many_at, field_at, value_at, short}
use Rattle.ser_read.specs.Lists.{all_at}
use Rattle.ser_read.specs.ObjectRows.{part_by, values_by, parts_by}
use Rattle.ser_read.specs.Tables.{now_of}
use Rattle.ser_read.proofs.Steps.{Leads}
use Rattle.ser_read.proofs.Loop.{front_of}
use Rattle.ser_read.proofs.Blocks.{Slack}
use Rattle.ser_read.proofs.reading.+reading.Given as goal

abbrev pub decreases-not_null : goal.decreases-not_null
decreases-not_null g l = 16 * l.left + 0

abbrev pub decreases-construct : goal.decreases-construct
decreases-construct g l = 16 * l.left + 1

abbrev pub decreases-slot : goal.decreases-slot
decreases-slot g l = 16 * l.left + 2

abbrev pub decreases-arrays::slots : goal.decreases-arrays::slots
decreases-arrays::slots g l = 16 * l.left + 3

abbrev pub decreases-objects::value : goal.decreases-objects::value
decreases-objects::value g l = 16 * l.left + 3

abbrev pub decreases-descriptions::field_of : goal.decreases-descriptions::field_of
decreases-descriptions::field_of g l = 16 * l.left + 3

abbrev pub decreases-class : goal.decreases-class
decreases-class g l = 16 * l.left + 3

abbrev pub decreases-annotations::item : goal.decreases-annotations::item
decreases-annotations::item g l = 16 * l.left + 3

abbrev pub decreases-annotations::items : goal.decreases-annotations::items
decreases-annotations::items g l = 16 * l.left + 4

abbrev pub decreases-objects::values : goal.decreases-objects::values
decreases-objects::values g l = 16 * l.left + 4

abbrev pub decreases-descriptions::field : goal.decreases-descriptions::field
decreases-descriptions::field g l = 16 * l.left + 4

abbrev pub decreases-arrays::elements : goal.decreases-arrays::elements
decreases-arrays::elements g l = 16 * l.left + 4

abbrev pub decreases-constants::constant_in : goal.decreases-constants::constant_in
decreases-constants::constant_in g l = 16 * l.left + 4

abbrev pub decreases-constants::class_value : goal.decreases-constants::class_value
decreases-constants::class_value g l = 16 * l.left + 4

abbrev pub decreases-annotations::note : goal.decreases-annotations::note
decreases-annotations::note g l = 16 * l.left + 5

abbrev pub decreases-objects::part : goal.decreases-objects::part
decreases-objects::part g l = 16 * l.left + 6

abbrev pub decreases-objects::parts : goal.decreases-objects::parts
decreases-objects::parts g l = 16 * l.left + 7

abbrev pub decreases-descriptions::fields : goal.decreases-descriptions::fields
decreases-descriptions::fields g l = 16 * l.left + 5

abbrev pub decreases-arrays::array_of : goal.decreases-arrays::array_of
decreases-arrays::array_of g l = 16 * l.left + 5

abbrev pub decreases-arrays::array_in : goal.decreases-arrays::array_in
decreases-arrays::array_in g l = 16 * l.left + 6

abbrev pub decreases-descriptions::desc_behind : goal.decreases-descriptions::desc_behind
decreases-descriptions::desc_behind g l = 16 * l.left + 6

abbrev pub decreases-objects::object_after : goal.decreases-objects::object_after
decreases-objects::object_after g l = 16 * l.left + 8

abbrev pub decreases-objects::object_in : goal.decreases-objects::object_in
decreases-objects::object_in g l = 16 * l.left + 9

abbrev pub decreases-descriptions::desc : goal.decreases-descriptions::desc
decreases-descriptions::desc g l = 16 * l.left + 8

abbrev pub decreases-descriptions::proxy : goal.decreases-descriptions::proxy
decreases-descriptions::proxy g l = 16 * l.left + 8

abbrev pub decreases-arrays::array : goal.decreases-arrays::array
decreases-arrays::array g l = 16 * l.left + 7

abbrev pub decreases-objects::object : goal.decreases-objects::object
decreases-objects::object g l = 16 * l.left + 10

abbrev pub decreases-constants::constant : goal.decreases-constants::constant
decreases-constants::constant g l = 16 * l.left + 5

abbrev pub decreases-fresh : goal.decreases-fresh
decreases-fresh g l = 16 * l.left + 15

abbrev pub invariant-arrays::slots-loop : goal.invariant-arrays::slots-loop
invariant-arrays::slots-loop g l =
    record {
      lent : l.pull.source.ghost_name ≡ l.fn.pull.source.ghost_name;
      grows : length l.fn.table.nodes.items ≤ length l.table.nodes.items;
      unread : l.table.unread.items ≡ l.fn.table.unread.items;
      leads : Leads short (pull_state g.S.Source.half l.fn.pull) (pull_state g.S.Source.half l.pull) (λ end. many_at (slot_at end l.left Reference l.fn.table.unread.items) l.n (now_of l.fn.table)) (λ end bs. front_of l.slots (many_at (slot_at end l.left Reference l.fn.table.unread.items) (l.n - l.counter) (now_of l.table) bs));
    }

abbrev pub invariant-descriptions::fields-loop : goal.invariant-descriptions::fields-loop
invariant-descriptions::fields-loop g l =
    record {
      lent : l.pull.source.ghost_name ≡ l.fn.pull.source.ghost_name;
      grows : length l.fn.table.nodes.items ≤ length l.table.nodes.items;
      unread : l.table.unread.items ≡ l.fn.table.unread.items;
      leads : Leads short (pull_state g.S.Source.half l.fn.pull) (pull_state g.S.Source.half l.pull) (λ end. many_at (field_at end l.at (slot_at end l.left Text l.fn.table.unread.items)) l.n (now_of l.fn.table)) (λ end bs. front_of l.fields.items (many_at (field_at end l.at (slot_at end l.left Text l.fn.table.unread.items)) (l.n - l.counter) (now_of l.table) bs));
    }

abbrev pub invariant-objects::values-loop-code : goal.invariant-objects::values-loop-code
invariant-objects::values-loop-code g l =
    record {
      lent : l.pull.source.ghost_name ≡ l.fn.pull.source.ghost_name;
      grows : length l.fn.table.nodes.items ≤ length l.table.nodes.items;
      unread : l.table.unread.items ≡ l.fn.table.unread.items;
      leads : Leads short (pull_state g.S.Source.half l.fn.pull) (pull_state g.S.Source.half l.pull) (λ end. values_by (slot_at end l.left Reference l.fn.table.unread.items) l.codes (now_of l.fn.table)) (λ end bs. front_of l.values.items (all_at (value_at (slot_at end l.left Reference l.fn.table.unread.items)) (drop l.code-index l.codes) (now_of l.table) bs));
    }

abbrev pub invariant-objects::parts-loop-row : goal.invariant-objects::parts-loop-row
invariant-objects::parts-loop-row g l =
    record {
      lent : l.pull.source.ghost_name ≡ l.fn.pull.source.ghost_name;
      grows : length l.fn.table.nodes.items ≤ length l.table.nodes.items;
      unread : l.table.unread.items ≡ l.fn.table.unread.items;
      leads : Leads short (pull_state g.S.Source.half l.fn.pull) (pull_state g.S.Source.half l.pull) (λ end. parts_by end (slot_at end l.left Reference l.fn.table.unread.items) l.rows (now_of l.fn.table)) (λ end bs. front_of l.parts.items (all_at (part_by end (slot_at end l.left Reference l.fn.table.unread.items)) (drop l.row-index l.rows) (now_of l.table) bs));
    }

abbrev pub invariant-annotations::items-loop-items : goal.invariant-annotations::items-loop-items
invariant-annotations::items-loop-items g l =
    record {
      lent : l.pull.source.ghost_name ≡ l.fn.pull.source.ghost_name;
      grows : length l.fn.table.nodes.items ≤ length l.table.nodes.items;
      unread : l.table.unread.items ≡ l.fn.table.unread.items;
      slack : Slack (pull_state g.S.Source.half l.fn.pull) (pull_state g.S.Source.half l.pull) (λ end. (slot_at end l.left Reference l.fn.table.unread.items)) true (now_of l.fn.table) (now_of l.table) l.items.items;
    }

abbrev pub decreases-annotations::items-loop-items : goal.decreases-annotations::items-loop-items
decreases-annotations::items-loop-items g l = l.pull.stop - l.pull.at
