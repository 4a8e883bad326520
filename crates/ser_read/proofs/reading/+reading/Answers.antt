use Rattle.std.proofs.Common.{◌≡◌, Err, ◌-◌, ◌∙◌, FitsSigned, ◌∷◌, [], Some, None, true, false, arith, refl, rules, sym, ap, Option, option_map, slice_get}
use Rattle.std.proofs.lemmas.Bool.{ne_eqb}
use Rattle.class_desc.specs.declared.slot.Slot.TheVariants as slots
use Rattle.ser_values.specs.declared.node.SlotPlace.TheVariants.{Reference, Text}
use Rattle.stream_grammar.specs.Reading.{FaultKind, short, bad, enum_at, fresh_at, note_at, slot_at, coded, field_at, field_of, value_at, Progress, add_parts, push, fill, blank, proxy_at, array_of, array_at, type_in}
use Rattle.ser_read.specs.ObjectRows.{part_by, values_by, parts_by}
use Rattle.ser_read.specs.Tables.{now_of}
use Rattle.ser_read.specs.Here.{kind_of}
use Rattle.ser_read.specs.declared.fault.StreamKind.{StreamKind}
use Rattle.ser_read.proofs.Steps.{then, last, said, said_last, done, leads_start, leads_more, leads_done}
use Rattle.ser_read.proofs.Breaking.{first, later, later_last, breaks_said, breaks_said_last, loop_stops, took, no_memory, bad_here, many_here, deep_here, nearer}
use Rattle.ser_read.proofs.Stopping.{many_err, all_err, all_err_item, slack_stops, item_other, value_refs, elements_refs}
use Rattle.ser_read.specs.declared.fault.StreamKind.TheVariants.{BadDesc, BadCode}
use Rattle.ser_read.specs.Named.{class_named}
use Rattle.ser_read.specs.Fronts.{desc_behind}
use Rattle.ser_read.proofs.Fronts.{desc_is}
use Rattle.ser_read.proofs.Loop.{many_start, many_next, many_end, all_start, all_next, all_end, all_next_item}
use Rattle.ser_read.proofs.Blocks.{slack_start, slack_more, slack_end, slack_leads, code_err}
use Rattle.ser_read.proofs.Parts.{with_class_is, object_is, object_here, object_bad}
use Rattle.ser_read.proofs.Slots.{made, slot_here, slot_gives, null_reads, null_stops, value_any, item_block, item_long, when, otherwise, stops_when, stops_otherwise, elements_any, coded_none, coded_deep, coded_full}
use Rattle.ser_read.proofs.reading.+reading.Goals as goal
use Rattle.std.proofs.lemmas.Int.{to_z-of_z}
use Rattle.std.specs.Int.{w64, cast_signed}
use Rattle.class_desc.specs.TypeCode.{is_primitive}
use Rattle.class_desc.specs.TypeText.{code_of}
use Rattle.class_desc.specs.ClassDesc.{is_good_desc}
use Rattle.ser_values.specs.Shape.{fits_type}
use Rattle.ser_values.specs.declared.node.Node.TheVariants as nodes
use Rattle.ser_values.specs.declared.value.Values.TheVariants as kinds_of
use Rattle.std.proofs.lemmas.Grind.{common_steps}
use Rattle.ser_read.proofs.NodeReading.{fell}

pub arrays::array-returns : goal.arrays::array-returns
arrays::array-returns g t c = record {
  lent = first_of (search rules, grind (arith, common_steps));
  grows = first_of (search rules, grind (arith, common_steps));
  unread = first_of (search rules, grind (arith, common_steps));
  some = first_of (search rules, grind (arith, common_steps));
  reads = said_last _ _ _ c.array_in.result (λ end bs here. with_class_is _ _ _ _ _ bs) (last _ _ _ c.array_in.result c.in_ok-class.ensures.reads (rw c.in_ok-class.ensures.unread at c.array_in.ensures.reads));
  stops = breaks_said_last _ _ c.array_in.result (λ end bs here. with_class_is _ _ _ _ _ bs) (later_last _ _ c.array_in.result c.in_ok-class.ensures.reads (rw c.in_ok-class.ensures.unread at c.array_in.ensures.stops));
}

pub objects::object-returns : goal.objects::object-returns
objects::object-returns g t c = record {
  lent = first_of (search rules, grind (arith, common_steps));
  grows = first_of (search rules, grind (arith, common_steps));
  unread = first_of (search rules, grind (arith, common_steps));
  some = first_of (search rules, grind (arith, common_steps));
  reads = said_last _ _ _ c.object_in.result (λ end bs here. with_class_is _ _ _ _ _ bs) (last _ _ _ c.object_in.result c.in_ok-class.ensures.reads (rw c.in_ok-class.ensures.unread at c.object_in.ensures.reads));
  stops = breaks_said_last _ _ c.object_in.result (λ end bs here. with_class_is _ _ _ _ _ bs) (later_last _ _ c.object_in.result c.in_ok-class.ensures.reads (rw c.in_ok-class.ensures.unread at c.object_in.ensures.stops));
}

pub constants::constant-returns : goal.constants::constant-returns
constants::constant-returns g t c = record {
  lent = first_of (search rules, grind (arith, common_steps));
  grows = first_of (search rules, grind (arith, common_steps));
  unread = first_of (search rules, grind (arith, common_steps));
  some = first_of (search rules, grind (arith, common_steps));
  reads = said_last _ _ _ c.constant_in.result (λ end bs here. with_class_is _ _ _ _ _ bs) (last _ _ _ c.constant_in.result c.in_ok-class.ensures.reads (rw c.in_ok-class.ensures.unread at c.constant_in.ensures.reads));
  stops = breaks_said_last _ _ c.constant_in.result (λ end bs here. with_class_is _ _ _ _ _ bs) (later_last _ _ c.constant_in.result c.in_ok-class.ensures.reads (rw c.in_ok-class.ensures.unread at c.constant_in.ensures.stops));
}

pub arrays::array_of-returns : goal.arrays::array_of-returns
unfolding array_of
arrays::array_of-returns g t c = record {
  lent = first_of (search rules, grind (arith, common_steps));
  grows = first_of (search rules, grind (arith, common_steps));
  unread = first_of (search rules, grind (arith, common_steps));
  some = first_of (search rules, grind (arith, common_steps));
  reads = then _ c.in_ok-n.ensures.reads (otherwise _ (rw c.refs_among.ensures at c.in_ok-count_parts.ensures.room) (then _ (rw (c.begin.ensures.unread, c.count_parts.ensures.unread, c.in_ok-number.ensures.now ∙ ap (λ (n : Progress). push n (nodes.Array c.args.class (kinds_of.Bytes c.new.result))) c.in_ok-count_parts.ensures.ok, c.refs_among.ensures, c.new.ensures) at c.in_ok-values.ensures.reads) (done (λ end bs. made _ _ _ _ _ bs _ refl (c.in_ok-number.ensures.number ∙ c.count_parts.ensures.grows) c.fill.ensures.now))));
  stops = tt;
}

pub construct-returns-then-code-eq112 : goal.construct-returns-then-code-eq112
construct-returns-then-code-eq112 g t c = record {
  lent = first_of (search rules, grind (arith, common_steps));
  grows = first_of (search rules, grind (arith, common_steps));
  unread = first_of (search rules, grind (arith, common_steps));
  some = first_of (search rules, grind (arith, common_steps));
  reads = null_reads _ c.args.left (λ end. slot_at end (c.args.left - 1)) c.args.place c.args.table.now.unread.items c.args.at c.args.code (now_of c.args.table.now) c.null.result c.if-code-eq112.true c.null.ensures.gives;
  stops = null_stops _ c.args.left (λ end. slot_at end (c.args.left - 1)) c.args.place c.args.table.now.unread.items c.args.at c.args.code (now_of c.args.table.now) c.null.result c.if-code-eq112.true c.null.ensures.gives c.null.ensures.cause;
}

pub descriptions::desc-returns : goal.descriptions::desc-returns
descriptions::desc-returns g t c = record {
  lent = first_of (search rules, grind (arith, common_steps));
  grows = first_of (search rules, grind (arith, common_steps));
  unread = first_of (search rules, grind (arith, common_steps));
  some = first_of (search rules, grind (arith, common_steps));
  reads = said (λ end bs here. desc_is end c.args.at (slot_at end c.args.left) c.args.table.now.unread.items (now_of c.args.table.now) bs) (then _ c.in_ok-name.ensures.reads (then _ c.in_ok-front.ensures.reads (then _ (rw (c.in_ok-open.ensures.unread, c.begin.ensures.unread, c.open.ensures.now, c.in_ok-number.ensures.now, c.blank.ensures, c.in_ok-number.ensures.number) at c.in_ok-desc.ensures.reads) (done (λ end bs. made _ _ _ _ _ bs _ refl c.in_ok-number.ensures.number (c.fill_desc.ensures.now ∙ ap (λ (n : Progress). fill n c.in_ok-number.number (nodes.Desc c.in_ok-desc.desc)) c.close.ensures.now))))));
  stops = tt;
}

pub descriptions::proxy-returns : goal.descriptions::proxy-returns
unfolding proxy_at
descriptions::proxy-returns g t c = record {
  lent = first_of (search rules, grind (arith, common_steps));
  grows = first_of (search rules, grind (arith, common_steps));
  unread = first_of (search rules, grind (arith, common_steps));
  some = first_of (search rules, grind (arith, common_steps));
  reads = then _ c.in_ok-n.ensures.reads (otherwise _ c.in_ok-count_parts.ensures.room (then _ (c.in_ok-names.ensures.reads (add_parts c.in_ok-n.n (push (now_of c.args.table.now) (nodes.Desc blank)))) (then _ (rw (c.in_ok-open.ensures.unread, c.begin.ensures.unread, c.count_parts.ensures.unread, c.open.ensures.now, c.in_ok-number.ensures.now ∙ ap (λ (n : Progress). push n c.blank.result) c.in_ok-count_parts.ensures.ok, c.blank.ensures, c.in_ok-number.ensures.number, c.count_parts.ensures.grows) at c.in_ok-note.ensures.reads) (then _ (rw (c.in_ok-note.ensures.unread, c.in_ok-open.ensures.unread, c.begin.ensures.unread, c.count_parts.ensures.unread, c.in_ok-number.ensures.number, c.count_parts.ensures.grows) at c.in_ok-parent.ensures.reads) (done (λ end bs. made _ _ _ _ _ bs _ refl (c.in_ok-number.ensures.number ∙ c.count_parts.ensures.grows) (c.fill.ensures.now ∙ ap (λ (n : Progress). fill n c.in_ok-number.number (nodes.Proxy (record { names = c.in_ok-names.names; note = c.in_ok-note.note; parent = c.in_ok-parent.parent }))) c.close.ensures.now)))))));
  stops = tt;
}

pub descriptions::desc_behind-returns : goal.descriptions::desc_behind-returns
unfolding desc_behind
descriptions::desc_behind-returns g t c =
    let good : is_good_desc (record { name = c.args.name; suid = cast_signed w64 c.args.front.suid; flags = c.args.front.flags; fields = c.in_ok-fields.fields; note = []; parent = slots.Null }) ≡ true = search rules in
    let fits : FitsSigned w64 c.cast_signed.result = search rules in
    record {
      lent = first_of (search rules, grind (arith, common_steps));
      grows = first_of (search rules, grind (arith, common_steps));
      unread = first_of (search rules, grind (arith, common_steps));
      some = tt;
      reads = rw (to_z-of_z w64 c.cast_signed.result fits, c.cast_signed.ensures) (otherwise _ (rw c.from.ensures at c.in_ok-count_parts.ensures.room) (then _ (rw (c.count_parts.ensures.unread, c.in_ok-count_parts.ensures.ok, c.from.ensures) at c.in_ok-fields.ensures.reads) (when _ good (then _ (rw (c.in_ok-fields.ensures.unread, c.count_parts.ensures.unread) at c.in_ok-desc.ensures.reads) (then _ (rw (c.in_ok-desc.ensures.unread, c.in_ok-fields.ensures.unread, c.count_parts.ensures.unread) at c.in_ok-desc-2.ensures.reads) (done (λ end bs. refl)))))));
      stops = tt;
    }

pub arrays::elements-returns-then-is_primitive : goal.arrays::elements-returns-then-is_primitive
arrays::elements-returns-then-is_primitive g t c = record {
  lent = first_of (search rules, grind (arith, common_steps));
  grows = first_of (search rules, grind (arith, common_steps));
  unread = first_of (search rules, grind (arith, common_steps));
  some = tt;
  reads = said_last _ _ _ c.primitives.result (λ end bs here. elements_any c.args.code c.args.n (slot_at end c.args.left Reference c.args.table.now.unread.items) (slot_at 0 c.args.left Reference c.args.table.now.unread.items) (now_of c.args.table.now) bs (sym c.is_primitive.ensures ∙ c.if-is_primitive.true)) (c.primitives.ensures.reads (slot_at 0 c.args.left Reference c.args.table.now.unread.items) (now_of c.args.table.now));
  stops = breaks_said_last _ _ c.primitives.result (λ end bs here. elements_any c.args.code c.args.n (slot_at end c.args.left Reference c.args.table.now.unread.items) (slot_at 0 c.args.left Reference c.args.table.now.unread.items) (now_of c.args.table.now) bs (sym c.is_primitive.ensures ∙ c.if-is_primitive.true)) (c.primitives.ensures.stops (slot_at 0 c.args.left Reference c.args.table.now.unread.items) (now_of c.args.table.now));
}

pub objects::value-returns-then-is_primitive : goal.objects::value-returns-then-is_primitive
objects::value-returns-then-is_primitive g t c = record {
  lent = first_of (search rules, grind (arith, common_steps));
  grows = first_of (search rules, grind (arith, common_steps));
  unread = first_of (search rules, grind (arith, common_steps));
  some = tt;
  reads = said_last _ _ _ c.primitive.result (λ end bs here. value_any c.args.code (slot_at end c.args.left Reference c.args.table.now.unread.items) (slot_at 0 c.args.left Reference c.args.table.now.unread.items) (now_of c.args.table.now) bs (sym c.is_primitive.ensures ∙ c.if-is_primitive.true)) (c.primitive.ensures.reads (slot_at 0 c.args.left Reference c.args.table.now.unread.items) (now_of c.args.table.now));
  stops = breaks_said_last _ _ c.primitive.result (λ end bs here. value_any c.args.code (slot_at end c.args.left Reference c.args.table.now.unread.items) (slot_at 0 c.args.left Reference c.args.table.now.unread.items) (now_of c.args.table.now) bs (sym c.is_primitive.ensures ∙ c.if-is_primitive.true)) (c.primitive.ensures.stops (slot_at 0 c.args.left Reference c.args.table.now.unread.items) (now_of c.args.table.now));
}

pub objects::object_in-returns : goal.objects::object_in-returns
objects::object_in-returns g t c =
    let rows = c.as_slice-rows.ensures.value ∙ c.in_ok-shape.ensures.rows in
    let few = sym c.lacks_object.ensures ∙ c.if-lacks_object.false in
    let good = sym c.in_ok-shape.ensures.fault ∙ ap (λ (f : Option StreamKind). option_map kind_of f) c.in-None.is in
    record {
      lent = first_of (search rules, grind (arith, common_steps));
      grows = first_of (search rules, grind (arith, common_steps));
      unread = first_of (search rules, grind (arith, common_steps));
      some = first_of (search rules, grind (arith, common_steps));
      reads = said_last _ _ _ c.object_after.result (λ end bs here. object_here end c.args.at (slot_at end c.args.left Reference c.args.table.now.unread.items) c.args.class c.as_slice-rows.result.now (now_of c.args.table.now) bs rows few good) c.object_after.ensures.reads;
      stops = breaks_said_last _ _ c.object_after.result (λ end bs here. object_here end c.args.at (slot_at end c.args.left Reference c.args.table.now.unread.items) c.args.class c.as_slice-rows.result.now (now_of c.args.table.now) bs rows few good) c.object_after.ensures.stops;
    }

pub descriptions::field-returns-in-Some : goal.descriptions::field-returns-in-Some
unfolding field_at
descriptions::field-returns-in-Some g t c =
    let e : code_of c.in_ok-letter.letter ≡ Some c.in-Some.code = sym c.from_letter.ensures.value ∙ c.in-Some.is in
    record {
      lent = first_of (search rules, grind (arith, common_steps));
      grows = first_of (search rules, grind (arith, common_steps));
      unread = first_of (search rules, grind (arith, common_steps));
      some = tt;
      reads = last _ _ _ c.field_of.result c.in_ok-letter.ensures.reads (rw (← e) at c.field_of.ensures.reads);
      stops = later_last _ _ c.field_of.result c.in_ok-letter.ensures.reads (rw (← e) at c.field_of.ensures.stops);
    }

pub descriptions::field_of-returns : goal.descriptions::field_of-returns
unfolding field_of
descriptions::field_of-returns g t c =
    let prim : is_primitive c.args.code ≡ false = sym c.is_primitive.ensures ∙ c.if-is_primitive.false in
    let fits : fits_type c.slot.new.table.nodes.items c.args.code c.in_ok-type_text.type_text ≡ true = search rules in
    record {
      lent = first_of (search rules, grind (arith, common_steps));
      grows = first_of (search rules, grind (arith, common_steps));
      unread = first_of (search rules, grind (arith, common_steps));
      some = tt;
      reads = then _ c.in_ok-name.ensures.reads (otherwise _ prim (then _ c.in_ok-type_text.ensures.reads (when _ fits (done (λ end bs. refl)))));
      stops = tt;
    }

pub annotations::item-returns-in_ok-take : goal.annotations::item-returns-in_ok-take
annotations::item-returns-in_ok-take g t c = record {
  lent = first_of (search rules, grind (arith, common_steps));
  grows = first_of (search rules, grind (arith, common_steps));
  unread = first_of (search rules, grind (arith, common_steps));
  some = tt;
  reads = said (λ end bs here. item_block end c.args.at _ c.args.code _ bs c.if-code-eq119.true) (then _ c.in_ok-n.ensures.reads (then _ (rw c.from.ensures at c.in_ok-take.ensures.reads) (done (λ end bs. refl))));
  stops = tt;
}

pub annotations::item-returns-in_ok-take-2 : goal.annotations::item-returns-in_ok-take-2
annotations::item-returns-in_ok-take-2 g t c = record {
  lent = first_of (search rules, grind (arith, common_steps));
  grows = first_of (search rules, grind (arith, common_steps));
  unread = first_of (search rules, grind (arith, common_steps));
  some = tt;
  reads = said (λ end bs here. item_long end c.args.at _ c.args.code _ bs c.if-code-eq122.true) (then _ c.in_ok-n-2.ensures.reads (then _ (rw c.from-then-code-eq122.ensures at c.in_ok-take-2.ensures.reads) (done (λ end bs. refl))));
  stops = tt;
}

pub objects::part-returns : goal.objects::part-returns
unfolding part_by
objects::part-returns g t c = record {
  lent = first_of (search rules, grind (arith, common_steps));
  grows = first_of (search rules, grind (arith, common_steps));
  unread = first_of (search rules, grind (arith, common_steps));
  some = tt;
  reads = then _ (rw c.as_slice.ensures at c.in_ok-values.ensures.reads) (then _ (rw c.in_ok-values.ensures.unread at c.in_ok-note.ensures.reads) (done (λ end bs. refl)));
  stops = tt;
}

pub slot-returns : goal.slot-returns
slot-returns g t c = record {
  lent = first_of (search rules, grind (arith, common_steps));
  grows = first_of (search rules, grind (arith, common_steps));
  unread = first_of (search rules, grind (arith, common_steps));
  some = first_of (search rules, grind (arith, common_steps));
  reads = said_last _ _ _ c.construct.result (λ end bs here. slot_here end c.args.left c.args.place c.args.table.now.unread.items (now_of c.args.table.now) bs c.args.pull.now.at here) (last _ _ _ c.construct.result c.in_ok-code.ensures.reads c.construct.ensures.reads);
  stops = breaks_said_last _ _ c.construct.result (λ end bs here. slot_here end c.args.left c.args.place c.args.table.now.unread.items (now_of c.args.table.now) bs c.args.pull.now.at here) (later_last _ _ c.construct.result c.in_ok-code.ensures.reads c.construct.ensures.stops);
}

pub arrays::slots-loop-preserved : goal.arrays::slots-loop-preserved
arrays::slots-loop-preserved g t c = record {
  lent = c.in_ok-slot.ensures.lent ∙ c.loop.invariant.lent;
  grows = omega (arith, c.slot.ensures.grows, c.loop.invariant.grows);
  unread = c.in_ok-slot.ensures.unread ∙ c.loop.invariant.unread;
  leads = (leads_more _ c.loop.invariant.leads (rw c.loop.invariant.unread at c.in_ok-slot.ensures.reads) (λ end bs rest here h. rw c.in_ok-push.ensures.ok (many_next (slot_at end c.args.left Reference c.args.table.now.unread.items) c.loop.slots c.args.n c.loop.counter (now_of c.loop.table) bs c.in_ok-slot.slot (now_of c.slot.new.table) rest c.loop-test.true h))
      (λ end bs here is. many_err (slot_at end c.args.left Reference c.args.table.now.unread.items) c.loop.slots c.args.n c.loop.counter (now_of c.loop.table) bs short c.loop-test.true is));
}

pub arrays::slots-returns : goal.arrays::slots-returns
arrays::slots-returns g t c = record {
  lent = first_of (search rules, grind (arith, common_steps));
  grows = first_of (search rules, grind (arith, common_steps));
  unread = first_of (search rules, grind (arith, common_steps));
  some = tt;
  reads = leads_done c.loop.invariant.leads (λ end bs. many_end (slot_at end c.args.left Reference c.args.table.now.unread.items) c.loop.slots c.args.n c.loop.counter (now_of c.loop.table) bs c.loop-test.false);
  stops = tt;
}

pub descriptions::fields-loop-preserved : goal.descriptions::fields-loop-preserved
descriptions::fields-loop-preserved g t c = record {
  lent = c.in_ok-field.ensures.lent ∙ c.loop.invariant.lent;
  grows = omega (arith, c.field.ensures.grows, c.loop.invariant.grows);
  unread = c.in_ok-field.ensures.unread ∙ c.loop.invariant.unread;
  leads = (leads_more _ c.loop.invariant.leads (rw c.loop.invariant.unread at c.in_ok-field.ensures.reads) (λ end bs rest here h. rw c.in_ok-push.ensures.items (many_next (field_at end c.args.at (slot_at end c.args.left Text c.args.table.now.unread.items)) c.loop.fields.items c.args.n c.loop.counter (now_of c.loop.table) bs c.in_ok-field.field (now_of c.field.new.table) rest c.loop-test.true h))
      (λ end bs here is. many_err (field_at end c.args.at (slot_at end c.args.left Text c.args.table.now.unread.items)) c.loop.fields.items c.args.n c.loop.counter (now_of c.loop.table) bs short c.loop-test.true is));
}

pub descriptions::fields-returns : goal.descriptions::fields-returns
descriptions::fields-returns g t c = record {
  lent = first_of (search rules, grind (arith, common_steps));
  grows = first_of (search rules, grind (arith, common_steps));
  unread = first_of (search rules, grind (arith, common_steps));
  some = tt;
  reads = rw c.from_vec.ensures (leads_done c.loop.invariant.leads (λ end bs. many_end (field_at end c.args.at (slot_at end c.args.left Text c.args.table.now.unread.items)) c.loop.fields.items c.args.n c.loop.counter (now_of c.loop.table) bs c.loop-test.false));
  stops = tt;
}

pub objects::values-loop-code-init : goal.objects::values-loop-code-init
unfolding values_by
objects::values-loop-code-init g t c = record {
  lent = refl;
  grows = omega arith;
  unread = refl;
  leads = rw c.new-values.ensures.items (leads_start _ _ _ (λ end bs. all_start (value_at (slot_at end c.args.left Reference c.args.table.now.unread.items)) c.args.codes.now (now_of c.args.table.now) bs));
}

pub objects::values-loop-code-preserved : goal.objects::values-loop-code-preserved
objects::values-loop-code-preserved g t c = record {
  lent = c.in_ok-value.ensures.lent ∙ c.loop-code.invariant.lent;
  grows = omega (arith, c.value.ensures.grows, c.loop-code.invariant.grows);
  unread = c.in_ok-value.ensures.unread ∙ c.loop-code.invariant.unread;
  leads = leads_more _ c.loop-code.invariant.leads (rw c.loop-code.invariant.unread at c.in_ok-value.ensures.reads) (λ end bs rest here h. rw c.in_ok-push.ensures.items (all_next (value_at (slot_at end c.args.left Reference c.args.table.now.unread.items)) c.loop-code.values.items c.args.codes.now c.loop-code.code-index _ (now_of c.loop-code.table) bs c.in_ok-value.value (now_of c.value.new.table) rest c.loop-code-test.true h))
      (λ end bs here is. all_err (value_at (slot_at end c.args.left Reference c.args.table.now.unread.items)) c.loop-code.values.items c.args.codes.now c.loop-code.code-index _ (now_of c.loop-code.table) bs short c.loop-code-test.true is);
}

pub objects::values-returns : goal.objects::values-returns
objects::values-returns g t c = record {
  lent = first_of (search rules, grind (arith, common_steps));
  grows = first_of (search rules, grind (arith, common_steps));
  unread = first_of (search rules, grind (arith, common_steps));
  some = tt;
  reads = rw c.from_vec.ensures (leads_done c.loop-code.invariant.leads (λ end bs. all_end (value_at (slot_at end c.args.left Reference c.args.table.now.unread.items)) c.loop-code.values.items c.args.codes.now c.loop-code.code-index (now_of c.loop-code.table) bs c.loop-code-test.false));
  stops = tt;
}

pub objects::parts-loop-row-init : goal.objects::parts-loop-row-init
unfolding parts_by
objects::parts-loop-row-init g t c = record {
  lent = refl;
  grows = omega arith;
  unread = refl;
  leads = rw c.new-parts.ensures.items (leads_start _ _ _ (λ end bs. all_start (part_by end (slot_at end c.args.left Reference c.args.table.now.unread.items)) c.args.rows.now (now_of c.args.table.now) bs));
}

pub objects::parts-loop-row-preserved : goal.objects::parts-loop-row-preserved
objects::parts-loop-row-preserved g t c = record {
  lent = c.in_ok-part.ensures.lent ∙ c.loop-row.invariant.lent;
  grows = omega (arith, c.part.ensures.grows, c.loop-row.invariant.grows);
  unread = c.in_ok-part.ensures.unread ∙ c.loop-row.invariant.unread;
  leads = leads_more _ c.loop-row.invariant.leads (rw c.loop-row.invariant.unread at c.in_ok-part.ensures.reads) (λ end bs rest here h. rw c.in_ok-push.ensures.items (all_next_item (part_by end (slot_at end c.args.left Reference c.args.table.now.unread.items)) c.loop-row.parts.items c.args.rows.now c.loop-row.row-index c.row-item.result (now_of c.loop-row.table) bs c.in_ok-part.part (now_of c.part.new.table) rest c.loop-row-test.true c.row-item.is h))
      (λ end bs here is. all_err_item (part_by end (slot_at end c.args.left Reference c.args.table.now.unread.items)) c.loop-row.parts.items c.args.rows.now c.loop-row.row-index c.row-item.result (now_of c.loop-row.table) bs short c.loop-row-test.true c.row-item.is is);
}

pub objects::parts-returns : goal.objects::parts-returns
objects::parts-returns g t c = record {
  lent = first_of (search rules, grind (arith, common_steps));
  grows = first_of (search rules, grind (arith, common_steps));
  unread = first_of (search rules, grind (arith, common_steps));
  some = tt;
  reads = rw c.from_vec.ensures (leads_done c.loop-row.invariant.leads (λ end bs. all_end (part_by end (slot_at end c.args.left Reference c.args.table.now.unread.items)) c.loop-row.parts.items c.args.rows.now c.loop-row.row-index (now_of c.loop-row.table) bs c.loop-row-test.false));
  stops = tt;
}

pub annotations::items-loop-items-init : goal.annotations::items-loop-items-init
annotations::items-loop-items-init g t c = record {
  lent = refl;
  grows = omega arith;
  unread = refl;
  slack = rw c.new-items.ensures.items (slack_start _ _ _ _);
}

pub annotations::items-returns-then-code-eq120 : goal.annotations::items-returns-then-code-eq120
annotations::items-returns-then-code-eq120 g t c = record {
  lent = first_of (search rules, grind (arith, common_steps));
  grows = first_of (search rules, grind (arith, common_steps));
  unread = first_of (search rules, grind (arith, common_steps));
  some = tt;
  reads = rw c.from_vec.ensures (slack_end c.loop-items.invariant.slack c.in_ok-code.ensures.reads c.if-code-eq120.true);
  stops = tt;
}

pub annotations::items-loop-items-preserved : goal.annotations::items-loop-items-preserved
annotations::items-loop-items-preserved g t c = record {
  lent = c.in_ok-item.ensures.lent ∙ c.in_ok-code.ensures.lent ∙ c.loop-items.invariant.lent;
  grows = omega (arith, c.item.ensures.grows, c.loop-items.invariant.grows);
  unread = c.in_ok-item.ensures.unread ∙ c.loop-items.invariant.unread;
  slack = rw c.in_ok-add.ensures (slack_more (λ end. coded end c.args.left (slot_at end (c.args.left - 1)) Reference c.args.table.now.unread.items c.loop-items.pull.at c.in_ok-code.code) c.loop-items.invariant.slack c.in_ok-code.ensures.reads (rw c.loop-items.invariant.unread at c.in_ok-item.ensures.reads) (ne_eqb c.in_ok-code.code 120 c.if-code-eq120.false)
      (λ end bs here. slot_gives end c.args.left Reference c.args.table.now.unread.items (now_of c.loop-items.table) (c.in_ok-code.code ∷ bs) c.loop-items.pull.at c.in_ok-code.code bs here refl));
}

pub slot-returns-in_err-code : goal.slot-returns-in_err-code
slot-returns-in_err-code g t c = fell c.from_residual.result c.from_residual.ensures.1 (λ f is. tt) (first_of (search rules, grind (arith, common_steps))) (first_of (search rules, grind (arith, common_steps))) (breaks_said (λ end bs here. slot_here end c.args.left c.args.place c.args.table.now.unread.items (now_of c.args.table.now) bs c.args.pull.now.at here) (first _ c.in_err-code.ensures.stops))

pub descriptions::desc-returns-in_err-name : goal.descriptions::desc-returns-in_err-name
descriptions::desc-returns-in_err-name g t c = fell c.from_residual.result c.from_residual.ensures.1 (λ f. tt) (first_of (search rules, grind (arith, common_steps))) (first_of (search rules, grind (arith, common_steps))) (breaks_said (λ end bs here. desc_is end c.args.at (slot_at end c.args.left) c.args.table.now.unread.items (now_of c.args.table.now) bs) (first _ c.in_err-name.ensures.stops))

pub descriptions::desc-returns-in_err-front : goal.descriptions::desc-returns-in_err-front
descriptions::desc-returns-in_err-front g t c = fell c.from_residual-in_err-front.result c.from_residual-in_err-front.ensures.1 (λ f. tt) (first_of (search rules, grind (arith, common_steps))) (first_of (search rules, grind (arith, common_steps))) (breaks_said (λ end bs here. desc_is end c.args.at (slot_at end c.args.left) c.args.table.now.unread.items (now_of c.args.table.now) bs) (later _ c.in_ok-name.ensures.reads (first _ c.in_err-front.ensures.stops)))

pub descriptions::desc-returns-in_err-number : goal.descriptions::desc-returns-in_err-number
descriptions::desc-returns-in_err-number g t c = fell c.from_residual-in_err-number.result c.from_residual-in_err-number.ensures.1 (λ f. tt) (first_of (search rules, grind (arith, common_steps))) (first_of (search rules, grind (arith, common_steps))) (breaks_said (λ end bs here. desc_is end c.args.at (slot_at end c.args.left) c.args.table.now.unread.items (now_of c.args.table.now) bs) (later _ c.in_ok-name.ensures.reads (first _ (took c.in_ok-front.ensures.reads))))

pub descriptions::desc-returns-in_err-open : goal.descriptions::desc-returns-in_err-open
descriptions::desc-returns-in_err-open g t c = fell c.from_residual-in_err-open.result c.from_residual-in_err-open.ensures.1 (λ f. tt) (first_of (search rules, grind (arith, common_steps))) (first_of (search rules, grind (arith, common_steps))) (breaks_said (λ end bs here. desc_is end c.args.at (slot_at end c.args.left) c.args.table.now.unread.items (now_of c.args.table.now) bs) (later _ c.in_ok-name.ensures.reads (first _ (took c.in_ok-front.ensures.reads))))

pub descriptions::desc-returns-in_err-desc : goal.descriptions::desc-returns-in_err-desc
descriptions::desc-returns-in_err-desc g t c = fell c.from_residual-in_err-desc.result c.from_residual-in_err-desc.ensures.1 (λ f. tt) (first_of (search rules, grind (arith, common_steps))) (first_of (search rules, grind (arith, common_steps))) (breaks_said (λ end bs here. desc_is end c.args.at (slot_at end c.args.left) c.args.table.now.unread.items (now_of c.args.table.now) bs) (later _ c.in_ok-name.ensures.reads (later _ c.in_ok-front.ensures.reads (first _ (rw (c.in_ok-open.ensures.unread, c.begin.ensures.unread, c.open.ensures.now, c.in_ok-number.ensures.now, c.blank.ensures, c.in_ok-number.ensures.number) at c.in_err-desc.ensures.stops)))))

pub descriptions::proxy-returns-in_err-n : goal.descriptions::proxy-returns-in_err-n
unfolding proxy_at
descriptions::proxy-returns-in_err-n g t c = fell c.from_residual.result c.from_residual.ensures.1 (λ f. tt) (first_of (search rules, grind (arith, common_steps))) (first_of (search rules, grind (arith, common_steps))) (first _ c.in_err-n.ensures.stops)

pub descriptions::proxy-returns-in_err-count_parts : goal.descriptions::proxy-returns-in_err-count_parts
unfolding proxy_at
descriptions::proxy-returns-in_err-count_parts g t c = fell c.from_residual-in_err-count_parts.result c.from_residual-in_err-count_parts.ensures.1 (λ f. tt) (first_of (search rules, grind (arith, common_steps))) (first_of (search rules, grind (arith, common_steps))) (later _ c.in_ok-n.ensures.reads (rw c.in_err-count_parts.ensures.err.0 (many_here c.args.at (λ end bs here. rw c.in_err-count_parts.ensures.err.1 refl))))

pub descriptions::proxy-returns-in_err-number : goal.descriptions::proxy-returns-in_err-number
unfolding proxy_at
descriptions::proxy-returns-in_err-number g t c = fell c.from_residual-in_err-number.result c.from_residual-in_err-number.ensures.1 (λ f. tt) (first_of (search rules, grind (arith, common_steps))) (first_of (search rules, grind (arith, common_steps))) (first _ (took c.in_ok-n.ensures.reads))

pub descriptions::proxy-returns-in_err-open : goal.descriptions::proxy-returns-in_err-open
unfolding proxy_at
descriptions::proxy-returns-in_err-open g t c = fell c.from_residual-in_err-open.result c.from_residual-in_err-open.ensures.1 (λ f. tt) (first_of (search rules, grind (arith, common_steps))) (first_of (search rules, grind (arith, common_steps))) (first _ (took c.in_ok-n.ensures.reads))

pub descriptions::proxy-returns-in_err-names : goal.descriptions::proxy-returns-in_err-names
unfolding proxy_at
descriptions::proxy-returns-in_err-names g t c = fell c.from_residual-in_err-names.result c.from_residual-in_err-names.ensures.1 (λ f. tt) (first_of (search rules, grind (arith, common_steps))) (first_of (search rules, grind (arith, common_steps))) (later _ c.in_ok-n.ensures.reads (stops_otherwise _ c.in_ok-count_parts.ensures.room (first _ (c.in_err-names.ensures.stops (add_parts c.in_ok-n.n (push (now_of c.args.table.now) (nodes.Desc blank)))))))

pub descriptions::proxy-returns-in_err-note : goal.descriptions::proxy-returns-in_err-note
unfolding proxy_at
descriptions::proxy-returns-in_err-note g t c = fell c.from_residual-in_err-note.result c.from_residual-in_err-note.ensures.1 (λ f. tt) (first_of (search rules, grind (arith, common_steps))) (first_of (search rules, grind (arith, common_steps))) (later _ c.in_ok-n.ensures.reads (stops_otherwise _ c.in_ok-count_parts.ensures.room (later _ (c.in_ok-names.ensures.reads (add_parts c.in_ok-n.n (push (now_of c.args.table.now) (nodes.Desc blank)))) (first _ (rw (c.in_ok-open.ensures.unread, c.begin.ensures.unread, c.count_parts.ensures.unread, c.open.ensures.now, c.in_ok-number.ensures.now ∙ ap (λ (n : Progress). push n c.blank.result) c.in_ok-count_parts.ensures.ok, c.blank.ensures, c.in_ok-number.ensures.number, c.count_parts.ensures.grows) at c.in_err-note.ensures.stops)))))

pub descriptions::proxy-returns-in_err-parent : goal.descriptions::proxy-returns-in_err-parent
unfolding proxy_at
descriptions::proxy-returns-in_err-parent g t c = fell c.from_residual-in_err-parent.result c.from_residual-in_err-parent.ensures.1 (λ f. tt) (first_of (search rules, grind (arith, common_steps))) (first_of (search rules, grind (arith, common_steps))) (later _ c.in_ok-n.ensures.reads (stops_otherwise _ c.in_ok-count_parts.ensures.room (later _ (c.in_ok-names.ensures.reads (add_parts c.in_ok-n.n (push (now_of c.args.table.now) (nodes.Desc blank)))) (later _ (rw (c.in_ok-open.ensures.unread, c.begin.ensures.unread, c.count_parts.ensures.unread, c.open.ensures.now, c.in_ok-number.ensures.now ∙ ap (λ (n : Progress). push n c.blank.result) c.in_ok-count_parts.ensures.ok, c.blank.ensures, c.in_ok-number.ensures.number, c.count_parts.ensures.grows) at c.in_ok-note.ensures.reads) (first _ (rw (c.in_ok-note.ensures.unread, c.in_ok-open.ensures.unread, c.begin.ensures.unread, c.count_parts.ensures.unread, c.in_ok-number.ensures.number, c.count_parts.ensures.grows) at c.in_err-parent.ensures.stops))))))

pub descriptions::desc_behind-returns-in_err-count_parts : goal.descriptions::desc_behind-returns-in_err-count_parts
unfolding desc_behind
descriptions::desc_behind-returns-in_err-count_parts g t c = fell c.from_residual.result c.from_residual.ensures.1 (λ f. tt) (first_of (search rules, grind (arith, common_steps))) (first_of (search rules, grind (arith, common_steps))) (rw c.in_err-count_parts.ensures.err.0 (many_here c.args.at (λ end bs here. rw (rw c.from.ensures at c.in_err-count_parts.ensures.err.1) refl)))

pub descriptions::desc_behind-returns-in_err-fields : goal.descriptions::desc_behind-returns-in_err-fields
unfolding desc_behind
descriptions::desc_behind-returns-in_err-fields g t c = fell c.from_residual-in_err-fields.result c.from_residual-in_err-fields.ensures.1 (λ f. tt) (first_of (search rules, grind (arith, common_steps))) (first_of (search rules, grind (arith, common_steps))) (stops_otherwise _ (rw c.from.ensures at c.in_ok-count_parts.ensures.room) (first _ (rw (c.count_parts.ensures.unread, c.in_ok-count_parts.ensures.ok, c.from.ensures) at c.in_err-fields.ensures.stops)))

pub descriptions::desc_behind-returns-in_err-desc : goal.descriptions::desc_behind-returns-in_err-desc
unfolding desc_behind
descriptions::desc_behind-returns-in_err-desc g t c =
    let good : is_good_desc (record { name = c.args.name; suid = cast_signed w64 c.args.front.suid; flags = c.args.front.flags; fields = c.in_ok-fields.fields; note = []; parent = slots.Null }) ≡ true = search rules in
    fell c.from_residual-in_err-desc.result c.from_residual-in_err-desc.ensures.1 (λ f. tt) (first_of (search rules, grind (arith, common_steps))) (first_of (search rules, grind (arith, common_steps))) (stops_otherwise _ (rw c.from.ensures at c.in_ok-count_parts.ensures.room) (later _ (rw (c.count_parts.ensures.unread, c.in_ok-count_parts.ensures.ok, c.from.ensures) at c.in_ok-fields.ensures.reads) (stops_when _ good (first _ (rw (c.in_ok-fields.ensures.unread, c.count_parts.ensures.unread) at c.in_err-desc.ensures.stops)))))

pub descriptions::desc_behind-returns-in_err-desc-2 : goal.descriptions::desc_behind-returns-in_err-desc-2
unfolding desc_behind
descriptions::desc_behind-returns-in_err-desc-2 g t c =
    let good : is_good_desc (record { name = c.args.name; suid = cast_signed w64 c.args.front.suid; flags = c.args.front.flags; fields = c.in_ok-fields.fields; note = []; parent = slots.Null }) ≡ true = search rules in
    fell c.from_residual-in_err-desc-2.result c.from_residual-in_err-desc-2.ensures.1 (λ f. tt) (first_of (search rules, grind (arith, common_steps))) (first_of (search rules, grind (arith, common_steps))) (stops_otherwise _ (rw c.from.ensures at c.in_ok-count_parts.ensures.room) (later _ (rw (c.count_parts.ensures.unread, c.in_ok-count_parts.ensures.ok, c.from.ensures) at c.in_ok-fields.ensures.reads) (stops_when _ good (later _ (rw (c.in_ok-fields.ensures.unread, c.count_parts.ensures.unread) at c.in_ok-desc.ensures.reads) (first _ (rw (c.in_ok-desc.ensures.unread, c.in_ok-fields.ensures.unread, c.count_parts.ensures.unread) at c.in_err-desc-2.ensures.stops))))))

pub descriptions::desc_behind-returns-then-is_err : goal.descriptions::desc_behind-returns-then-is_err
unfolding desc_behind
descriptions::desc_behind-returns-then-is_err g t c =
    let poor : is_good_desc (record { name = c.args.name; suid = cast_signed w64 c.args.front.suid; flags = c.args.front.flags; fields = c.in_ok-fields.fields; note = []; parent = slots.Null }) ≡ false = search rules in
    record {
      lent = first_of (search rules, grind (arith, common_steps));
      grows = first_of (search rules, grind (arith, common_steps));
      unread = tt;
      some = tt;
      reads = tt;
      stops = rw c.bad.ensures (stops_otherwise _ (rw c.from.ensures at c.in_ok-count_parts.ensures.room) (later _ (rw (c.count_parts.ensures.unread, c.in_ok-count_parts.ensures.ok, c.from.ensures) at c.in_ok-fields.ensures.reads) (stops_otherwise _ poor (bad_here BadDesc c.args.at tt (λ end bs here. refl)))));
    }

pub class-returns-in_err-slot : goal.class-returns-in_err-slot
unfolding class_named
class-returns-in_err-slot g t c = fell c.from_residual.result c.from_residual.ensures.1 (λ f. tt) (first_of (search rules, grind (arith, common_steps))) (first_of (search rules, grind (arith, common_steps))) (first _ c.in_err-slot.ensures.stops)

pub objects::object-returns-in_err-class : goal.objects::object-returns-in_err-class
objects::object-returns-in_err-class g t c = fell c.from_residual.result c.from_residual.ensures.1 (λ f. tt) (first_of (search rules, grind (arith, common_steps))) (first_of (search rules, grind (arith, common_steps))) (breaks_said (λ end bs here. with_class_is _ _ _ _ _ bs) (first _ c.in_err-class.ensures.stops))

pub arrays::array-returns-in_err-class : goal.arrays::array-returns-in_err-class
arrays::array-returns-in_err-class g t c = fell c.from_residual.result c.from_residual.ensures.1 (λ f. tt) (first_of (search rules, grind (arith, common_steps))) (first_of (search rules, grind (arith, common_steps))) (breaks_said (λ end bs here. with_class_is _ _ _ _ _ bs) (first _ c.in_err-class.ensures.stops))

pub constants::constant-returns-in_err-class : goal.constants::constant-returns-in_err-class
constants::constant-returns-in_err-class g t c = fell c.from_residual.result c.from_residual.ensures.1 (λ f. tt) (first_of (search rules, grind (arith, common_steps))) (first_of (search rules, grind (arith, common_steps))) (breaks_said (λ end bs here. with_class_is _ _ _ _ _ bs) (first _ c.in_err-class.ensures.stops))

pub constants::class_value-returns-in_err-class : goal.constants::class_value-returns-in_err-class
constants::class_value-returns-in_err-class g t c = fell c.from_residual.result c.from_residual.ensures.1 (λ f. tt) (first_of (search rules, grind (arith, common_steps))) (first_of (search rules, grind (arith, common_steps))) (breaks_said (λ end bs here. with_class_is _ _ _ _ _ bs) (first _ c.in_err-class.ensures.stops))

pub constants::class_value-returns-in_err-number : goal.constants::class_value-returns-in_err-number
constants::class_value-returns-in_err-number g t c = fell c.from_residual-in_err-number.result c.from_residual-in_err-number.ensures.1 (λ f. tt) (first_of (search rules, grind (arith, common_steps))) (first_of (search rules, grind (arith, common_steps))) (breaks_said (λ end bs here. with_class_is _ _ _ _ _ bs) (first _ (took c.in_ok-class.ensures.reads)))

pub objects::object_in-returns-in_err-shape : goal.objects::object_in-returns-in_err-shape
objects::object_in-returns-in_err-shape g t c = fell c.from_residual.result c.from_residual.ensures.1 (λ f. tt) (first_of (search rules, grind (arith, common_steps))) (first_of (search rules, grind (arith, common_steps))) (no_memory)

pub objects::object_after-returns-in_err-number : goal.objects::object_after-returns-in_err-number
objects::object_after-returns-in_err-number g t c = fell c.from_residual.result c.from_residual.ensures.1 (λ f. tt) (first_of (search rules, grind (arith, common_steps))) (first_of (search rules, grind (arith, common_steps))) (no_memory)

pub arrays::array_in-returns-in-None : goal.arrays::array_in-returns-in-None
unfolding array_at array_of
arrays::array_in-returns-in-None g t c =
    let none : type_in (slice_get c.args.table.now.nodes.items c.args.class) ≡ None = sym c.element_type.ensures ∙ c.in-None.is in
    record {
      lent = first_of (search rules, grind (arith, common_steps));
      grows = first_of (search rules, grind (arith, common_steps));
      unread = tt;
      some = tt;
      reads = tt;
      stops = rw c.bad.ensures (bad_here BadDesc c.args.at tt (λ end bs here. rw none refl));
    }

pub arrays::array_of-returns-in_err-n : goal.arrays::array_of-returns-in_err-n
unfolding array_of
arrays::array_of-returns-in_err-n g t c = fell c.from_residual.result c.from_residual.ensures.1 (λ f. tt) (first_of (search rules, grind (arith, common_steps))) (first_of (search rules, grind (arith, common_steps))) (first _ c.in_err-n.ensures.stops)

pub arrays::array_of-returns-in_err-count_parts : goal.arrays::array_of-returns-in_err-count_parts
unfolding array_of
arrays::array_of-returns-in_err-count_parts g t c = fell c.from_residual-in_err-count_parts.result c.from_residual-in_err-count_parts.ensures.1 (λ f. tt) (first_of (search rules, grind (arith, common_steps))) (first_of (search rules, grind (arith, common_steps))) (later _ c.in_ok-n.ensures.reads (rw c.in_err-count_parts.ensures.err.0 (many_here c.args.at (λ end bs here. rw (rw c.refs_among.ensures at c.in_err-count_parts.ensures.err.1) refl))))

pub arrays::array_of-returns-in_err-number : goal.arrays::array_of-returns-in_err-number
unfolding array_of
arrays::array_of-returns-in_err-number g t c = fell c.from_residual-in_err-number.result c.from_residual-in_err-number.ensures.1 (λ f. tt) (first_of (search rules, grind (arith, common_steps))) (first_of (search rules, grind (arith, common_steps))) (first _ (took c.in_ok-n.ensures.reads))

pub arrays::array_of-returns-in_err-values : goal.arrays::array_of-returns-in_err-values
unfolding array_of
arrays::array_of-returns-in_err-values g t c = fell c.from_residual-in_err-values.result c.from_residual-in_err-values.ensures.1 (λ f. tt) (first_of (search rules, grind (arith, common_steps))) (first_of (search rules, grind (arith, common_steps))) (later _ c.in_ok-n.ensures.reads (stops_otherwise _ (rw c.refs_among.ensures at c.in_ok-count_parts.ensures.room) (first _ (rw (c.begin.ensures.unread, c.count_parts.ensures.unread, c.in_ok-number.ensures.now ∙ ap (λ (n : Progress). push n (nodes.Array c.args.class (kinds_of.Bytes c.new.result))) c.in_ok-count_parts.ensures.ok, c.refs_among.ensures, c.new.ensures) at c.in_err-values.ensures.stops))))

pub arrays::elements-returns-in_err-slots : goal.arrays::elements-returns-in_err-slots
arrays::elements-returns-in_err-slots g t c = fell c.from_residual.result c.from_residual.ensures.1 (λ f. tt) (first_of (search rules, grind (arith, common_steps))) (first_of (search rules, grind (arith, common_steps))) (breaks_said (λ end bs here. elements_refs c.args.code c.args.n (slot_at end c.args.left Reference c.args.table.now.unread.items) (now_of c.args.table.now) bs (sym c.is_primitive.ensures ∙ c.if-is_primitive.false)) (first _ c.in_err-slots.ensures.stops))

pub objects::value-returns-in_err-slot : goal.objects::value-returns-in_err-slot
objects::value-returns-in_err-slot g t c = fell c.from_residual.result c.from_residual.ensures.1 (λ f. tt) (first_of (search rules, grind (arith, common_steps))) (first_of (search rules, grind (arith, common_steps))) (breaks_said (λ end bs here. value_refs c.args.code (slot_at end c.args.left Reference c.args.table.now.unread.items) (now_of c.args.table.now) bs (sym c.is_primitive.ensures ∙ c.if-is_primitive.false)) (first _ c.in_err-slot.ensures.stops))

pub constants::constant_in-returns-in_err-number : goal.constants::constant_in-returns-in_err-number
constants::constant_in-returns-in_err-number g t c = fell c.from_residual.result c.from_residual.ensures.1 (λ f. tt) (first_of (search rules, grind (arith, common_steps))) (first_of (search rules, grind (arith, common_steps))) (no_memory)

pub descriptions::field-returns-in_err-letter : goal.descriptions::field-returns-in_err-letter
unfolding field_at
descriptions::field-returns-in_err-letter g t c = fell c.from_residual.result c.from_residual.ensures.1 (λ f. tt) (first_of (search rules, grind (arith, common_steps))) (first_of (search rules, grind (arith, common_steps))) (first _ c.in_err-letter.ensures.stops)

pub descriptions::field-returns-in-None : goal.descriptions::field-returns-in-None
unfolding field_at field_of
descriptions::field-returns-in-None g t c =
    let e : code_of c.in_ok-letter.letter ≡ None = sym c.from_letter.ensures.value ∙ c.in-None.is in
    record {
      lent = first_of (search rules, grind (arith, common_steps));
      grows = first_of (search rules, grind (arith, common_steps));
      unread = tt;
      some = tt;
      reads = tt;
      stops = rw c.bad.ensures (later _ c.in_ok-letter.ensures.reads (bad_here BadDesc c.args.at tt (λ end bs here. rw e refl)));
    }

pub descriptions::field_of-returns-in_err-name : goal.descriptions::field_of-returns-in_err-name
unfolding field_of
descriptions::field_of-returns-in_err-name g t c = fell c.from_residual.result c.from_residual.ensures.1 (λ f. tt) (first_of (search rules, grind (arith, common_steps))) (first_of (search rules, grind (arith, common_steps))) (first _ c.in_err-name.ensures.stops)

pub descriptions::field_of-returns-in_err-type_text : goal.descriptions::field_of-returns-in_err-type_text
unfolding field_of
descriptions::field_of-returns-in_err-type_text g t c =
    let prim : is_primitive c.args.code ≡ false = sym c.is_primitive.ensures ∙ c.if-is_primitive.false in
    fell c.from_residual-in_err-type_text.result c.from_residual-in_err-type_text.ensures.1 (λ f. tt) (first_of (search rules, grind (arith, common_steps))) (first_of (search rules, grind (arith, common_steps))) (later _ c.in_ok-name.ensures.reads (stops_otherwise _ prim (first _ c.in_err-type_text.ensures.stops)))

pub descriptions::field_of-returns-then-not-fits_type : goal.descriptions::field_of-returns-then-not-fits_type
unfolding field_of
descriptions::field_of-returns-then-not-fits_type g t c =
    let prim : is_primitive c.args.code ≡ false = sym c.is_primitive.ensures ∙ c.if-is_primitive.false in
    let unfit : fits_type c.slot.new.table.nodes.items c.args.code c.in_ok-type_text.type_text ≡ false = search rules in
    record {
      lent = first_of (search rules, grind (arith, common_steps));
      grows = first_of (search rules, grind (arith, common_steps));
      unread = tt;
      some = tt;
      reads = tt;
      stops = rw c.bad.ensures (later _ c.in_ok-name.ensures.reads (stops_otherwise _ prim (later _ c.in_ok-type_text.ensures.reads (stops_otherwise _ unfit (bad_here BadDesc c.args.at tt (λ end bs here. refl))))));
    }

pub annotations::item-returns-in_err-n : goal.annotations::item-returns-in_err-n
annotations::item-returns-in_err-n g t c = fell c.from_residual.result c.from_residual.ensures.1 (λ f. tt) (first_of (search rules, grind (arith, common_steps))) (first_of (search rules, grind (arith, common_steps))) (breaks_said (λ end bs here. item_block end c.args.at _ c.args.code _ bs c.if-code-eq119.true) (first _ c.in_err-n.ensures.stops))

pub annotations::item-returns-in_err-take : goal.annotations::item-returns-in_err-take
annotations::item-returns-in_err-take g t c = fell c.from_residual-in_err-take.result c.from_residual-in_err-take.ensures.1 (λ f. tt) (first_of (search rules, grind (arith, common_steps))) (first_of (search rules, grind (arith, common_steps))) (breaks_said (λ end bs here. item_block end c.args.at _ c.args.code _ bs c.if-code-eq119.true) (later _ c.in_ok-n.ensures.reads (first _ (rw c.from.ensures at c.in_err-take.ensures.stops))))

pub annotations::item-returns-in_err-n-2 : goal.annotations::item-returns-in_err-n-2
annotations::item-returns-in_err-n-2 g t c = fell c.from_residual-in_err-n-2.result c.from_residual-in_err-n-2.ensures.1 (λ f. tt) (first_of (search rules, grind (arith, common_steps))) (first_of (search rules, grind (arith, common_steps))) (breaks_said (λ end bs here. item_long end c.args.at _ c.args.code _ bs c.if-code-eq122.true) (first _ c.in_err-n-2.ensures.stops))

pub annotations::item-returns-in_err-take-2 : goal.annotations::item-returns-in_err-take-2
annotations::item-returns-in_err-take-2 g t c = fell c.from_residual-in_err-take-2.result c.from_residual-in_err-take-2.ensures.1 (λ f. tt) (first_of (search rules, grind (arith, common_steps))) (first_of (search rules, grind (arith, common_steps))) (breaks_said (λ end bs here. item_long end c.args.at _ c.args.code _ bs c.if-code-eq122.true) (later _ c.in_ok-n-2.ensures.reads (first _ (rw c.from-then-code-eq122.ensures at c.in_err-take-2.ensures.stops))))

pub annotations::item-returns-in_err-count_parts : goal.annotations::item-returns-in_err-count_parts
annotations::item-returns-in_err-count_parts g t c = fell c.from_residual-in_err-count_parts.result c.from_residual-in_err-count_parts.ensures.1 (λ f. tt) (first_of (search rules, grind (arith, common_steps))) (first_of (search rules, grind (arith, common_steps))) (breaks_said (λ end bs here. item_other end c.args.at _ c.args.code _ bs (ne_eqb c.args.code 119 c.if-code-eq119.false) (ne_eqb c.args.code 122 c.if-code-eq122.false)) (later _ c.in_ok-slot.ensures.reads (rw c.in_err-count_parts.ensures.err.0 (many_here c.args.at (λ end bs here. rw c.in_err-count_parts.ensures.err.1 refl)))))

pub annotations::item-returns-in_err-slot : goal.annotations::item-returns-in_err-slot
annotations::item-returns-in_err-slot g t c = fell c.from_residual-in_err-slot.result c.from_residual-in_err-slot.ensures.1 (λ f. tt) (first_of (search rules, grind (arith, common_steps))) (first_of (search rules, grind (arith, common_steps))) (breaks_said (λ end bs here. item_other end c.args.at _ c.args.code _ bs (ne_eqb c.args.code 119 c.if-code-eq119.false) (ne_eqb c.args.code 122 c.if-code-eq122.false)) (first _ c.in_err-slot.ensures.stops))

pub objects::part-returns-in_err-values : goal.objects::part-returns-in_err-values
unfolding part_by
objects::part-returns-in_err-values g t c = fell c.from_residual.result c.from_residual.ensures.1 (λ f. tt) (first_of (search rules, grind (arith, common_steps))) (first_of (search rules, grind (arith, common_steps))) (first _ (rw c.as_slice.ensures at c.in_err-values.ensures.stops))

pub objects::part-returns-in_err-note : goal.objects::part-returns-in_err-note
unfolding part_by
objects::part-returns-in_err-note g t c = fell c.from_residual-in_err-note.result c.from_residual-in_err-note.ensures.1 (λ f. tt) (first_of (search rules, grind (arith, common_steps))) (first_of (search rules, grind (arith, common_steps))) (later _ (rw c.as_slice.ensures at c.in_ok-values.ensures.reads) (first _ (rw c.in_ok-values.ensures.unread at c.in_err-note.ensures.stops)))

pub arrays::slots-returns-in_err-slot : goal.arrays::slots-returns-in_err-slot
arrays::slots-returns-in_err-slot g t c = fell c.from_residual.result c.from_residual.ensures.1 (λ f. tt) (first_of (search rules, grind (arith, common_steps))) (first_of (search rules, grind (arith, common_steps))) (loop_stops c.loop.invariant.leads (λ end bs f here is. many_err (slot_at end c.args.left Reference c.args.table.now.unread.items) c.loop.slots c.args.n c.loop.counter (now_of c.loop.table) bs f c.loop-test.true is) (rw c.loop.invariant.unread at c.in_err-slot.ensures.stops))

pub arrays::slots-returns-in_err-push : goal.arrays::slots-returns-in_err-push
arrays::slots-returns-in_err-push g t c = fell c.from_residual-in_err-push.result c.from_residual-in_err-push.ensures.1 (λ f. tt) (first_of (search rules, grind (arith, common_steps))) (first_of (search rules, grind (arith, common_steps))) (loop_stops c.loop.invariant.leads (λ end bs f here is. many_err (slot_at end c.args.left Reference c.args.table.now.unread.items) c.loop.slots c.args.n c.loop.counter (now_of c.loop.table) bs f c.loop-test.true is) (took (rw c.loop.invariant.unread at c.in_ok-slot.ensures.reads)))

pub descriptions::fields-returns-in_err-field : goal.descriptions::fields-returns-in_err-field
descriptions::fields-returns-in_err-field g t c = fell c.from_residual.result c.from_residual.ensures.1 (λ f. tt) (first_of (search rules, grind (arith, common_steps))) (first_of (search rules, grind (arith, common_steps))) (loop_stops c.loop.invariant.leads (λ end bs f here is. many_err (field_at end c.args.at (slot_at end c.args.left Text c.args.table.now.unread.items)) c.loop.fields.items c.args.n c.loop.counter (now_of c.loop.table) bs f c.loop-test.true is) (rw c.loop.invariant.unread at c.in_err-field.ensures.stops))

pub descriptions::fields-returns-in_err-push : goal.descriptions::fields-returns-in_err-push
descriptions::fields-returns-in_err-push g t c = fell c.from_residual-in_err-push.result c.from_residual-in_err-push.ensures.1 (λ f. tt) (first_of (search rules, grind (arith, common_steps))) (first_of (search rules, grind (arith, common_steps))) (loop_stops c.loop.invariant.leads (λ end bs f here is. many_err (field_at end c.args.at (slot_at end c.args.left Text c.args.table.now.unread.items)) c.loop.fields.items c.args.n c.loop.counter (now_of c.loop.table) bs f c.loop-test.true is) (took (rw c.loop.invariant.unread at c.in_ok-field.ensures.reads)))

pub objects::values-returns-in_err-value : goal.objects::values-returns-in_err-value
objects::values-returns-in_err-value g t c = fell c.from_residual.result c.from_residual.ensures.1 (λ f. tt) (first_of (search rules, grind (arith, common_steps))) (first_of (search rules, grind (arith, common_steps))) (loop_stops c.loop-code.invariant.leads (λ end bs f here is. all_err (value_at (slot_at end c.args.left Reference c.args.table.now.unread.items)) c.loop-code.values.items c.args.codes.now c.loop-code.code-index _ (now_of c.loop-code.table) bs f c.loop-code-test.true is) (rw c.loop-code.invariant.unread at c.in_err-value.ensures.stops))

pub objects::values-returns-in_err-push : goal.objects::values-returns-in_err-push
objects::values-returns-in_err-push g t c = fell c.from_residual-in_err-push.result c.from_residual-in_err-push.ensures.1 (λ f. tt) (first_of (search rules, grind (arith, common_steps))) (first_of (search rules, grind (arith, common_steps))) (loop_stops c.loop-code.invariant.leads (λ end bs f here is. all_err (value_at (slot_at end c.args.left Reference c.args.table.now.unread.items)) c.loop-code.values.items c.args.codes.now c.loop-code.code-index _ (now_of c.loop-code.table) bs f c.loop-code-test.true is) (took (rw c.loop-code.invariant.unread at c.in_ok-value.ensures.reads)))

pub objects::parts-returns-in_err-part : goal.objects::parts-returns-in_err-part
objects::parts-returns-in_err-part g t c = fell c.from_residual.result c.from_residual.ensures.1 (λ f. tt) (first_of (search rules, grind (arith, common_steps))) (first_of (search rules, grind (arith, common_steps))) (loop_stops c.loop-row.invariant.leads (λ end bs f here is. all_err_item (part_by end (slot_at end c.args.left Reference c.args.table.now.unread.items)) c.loop-row.parts.items c.args.rows.now c.loop-row.row-index c.row-item.result (now_of c.loop-row.table) bs f c.loop-row-test.true c.row-item.is is) (rw c.loop-row.invariant.unread at c.in_err-part.ensures.stops))

pub objects::parts-returns-in_err-push : goal.objects::parts-returns-in_err-push
objects::parts-returns-in_err-push g t c = fell c.from_residual-in_err-push.result c.from_residual-in_err-push.ensures.1 (λ f. tt) (first_of (search rules, grind (arith, common_steps))) (first_of (search rules, grind (arith, common_steps))) (loop_stops c.loop-row.invariant.leads (λ end bs f here is. all_err_item (part_by end (slot_at end c.args.left Reference c.args.table.now.unread.items)) c.loop-row.parts.items c.args.rows.now c.loop-row.row-index c.row-item.result (now_of c.loop-row.table) bs f c.loop-row-test.true c.row-item.is is) (took (rw c.loop-row.invariant.unread at c.in_ok-part.ensures.reads)))

pub annotations::items-returns-in_err-code : goal.annotations::items-returns-in_err-code
annotations::items-returns-in_err-code g t c = fell c.from_residual.result c.from_residual.ensures.1 (λ f. tt) (first_of (search rules, grind (arith, common_steps))) (first_of (search rules, grind (arith, common_steps))) (loop_stops (slack_leads c.loop-items.invariant.slack) (λ end bs f here is. code_err end (slot_at end c.args.left Reference c.args.table.now.unread.items) _ (now_of c.loop-items.table) c.loop-items.items.items bs f is) c.in_err-code.ensures.stops)

pub annotations::items-returns-in_err-item : goal.annotations::items-returns-in_err-item
annotations::items-returns-in_err-item g t c = fell c.from_residual-in_err-item.result c.from_residual-in_err-item.ensures.1 (λ f. tt) (first_of (search rules, grind (arith, common_steps))) (first_of (search rules, grind (arith, common_steps))) (slack_stops (λ end. coded end c.args.left (slot_at end (c.args.left - 1)) Reference c.args.table.now.unread.items c.loop-items.pull.at c.in_ok-code.code) c.loop-items.invariant.slack c.in_ok-code.ensures.reads (ne_eqb c.in_ok-code.code 120 c.if-code-eq120.false) (λ end bs here. slot_gives end c.args.left Reference c.args.table.now.unread.items (now_of c.loop-items.table) (c.in_ok-code.code ∷ bs) c.loop-items.pull.at c.in_ok-code.code bs here refl) (rw c.loop-items.invariant.unread at c.in_err-item.ensures.stops))

pub annotations::items-returns-in_err-add : goal.annotations::items-returns-in_err-add
annotations::items-returns-in_err-add g t c = fell c.from_residual-in_err-add.result c.from_residual-in_err-add.ensures.1 (λ f. tt) (first_of (search rules, grind (arith, common_steps))) (first_of (search rules, grind (arith, common_steps))) (slack_stops (λ end. coded end c.args.left (slot_at end (c.args.left - 1)) Reference c.args.table.now.unread.items c.loop-items.pull.at c.in_ok-code.code) c.loop-items.invariant.slack c.in_ok-code.ensures.reads (ne_eqb c.in_ok-code.code 120 c.if-code-eq120.false) (λ end bs here. slot_gives end c.args.left Reference c.args.table.now.unread.items (now_of c.loop-items.table) (c.in_ok-code.code ∷ bs) c.loop-items.pull.at c.in_ok-code.code bs here refl) (took (rw c.loop-items.invariant.unread at c.in_ok-item.ensures.reads)))

pub annotations::items-loop-items-smaller : goal.annotations::items-loop-items-smaller
annotations::items-loop-items-smaller g t c = nearer c.in_ok-code.ensures.reads c.in_ok-item.ensures.reads c.item.new.pull.within

pub objects::object_in-returns-then-lacks_object : goal.objects::object_in-returns-then-lacks_object
objects::object_in-returns-then-lacks_object g t c =
    let rows = c.as_slice-rows.ensures.value ∙ c.in_ok-shape.ensures.rows in
    let lacks = sym c.lacks_object.ensures ∙ c.if-lacks_object.true in
    record {
      lent = first_of (search rules, grind (arith, common_steps));
      grows = first_of (search rules, grind (arith, common_steps));
      unread = tt;
      some = tt;
      reads = tt;
      stops = many_here c.args.at (λ end bs here. object_is end c.args.at (slot_at end c.args.left Reference c.args.table.now.unread.items) c.args.class c.as_slice-rows.result.now (now_of c.args.table.now) bs rows ∙ rw lacks refl);
    }

pub not_null-returns-then-not-admits_code : goal.not_null-returns-then-not-admits_code
not_null-returns-then-not-admits_code g t c =
    let none = sym c.admits_code.ensures ∙ c.if-not-admits_code.true in
    record {
      lent = first_of (search rules, grind (arith, common_steps));
      grows = first_of (search rules, grind (arith, common_steps));
      unread = tt;
      some = λ is. tt;
      reads = tt;
      stops = rw c.bad.ensures (bad_here c.code_fault.result c.args.at c.code_fault.ensures.known (λ end bs here. coded_none end c.args.left (slot_at end (c.args.left - 1)) c.args.place c.args.table.now.unread.items c.args.at c.args.code (now_of c.args.table.now) bs (ne_eqb c.args.code 112 c.requires.code) (ne_eqb c.args.code 113 c.if-code-eq113.false) none ∙ ap (λ (k : FaultKind). Err (bad k c.args.at)) (sym c.code_fault.ensures.kind)));
    }

pub not_null-returns-then-left-eq0 : goal.not_null-returns-then-left-eq0
not_null-returns-then-left-eq0 g t c =
    let some = sym c.admits_code.ensures ∙ c.if-not-admits_code.false in
    record {
      lent = first_of (search rules, grind (arith, common_steps));
      grows = first_of (search rules, grind (arith, common_steps));
      unread = tt;
      some = λ is. tt;
      reads = tt;
      stops = deep_here c.args.at (λ end bs here. coded_deep end c.args.left (slot_at end (c.args.left - 1)) c.args.place c.args.table.now.unread.items c.args.at c.args.code (now_of c.args.table.now) bs (ne_eqb c.args.code 112 c.requires.code) (ne_eqb c.args.code 113 c.if-code-eq113.false) some c.if-left-eq0.true);
    }

pub not_null-returns-then-is_full : goal.not_null-returns-then-is_full
not_null-returns-then-is_full g t c =
    let some = sym c.admits_code.ensures ∙ c.if-not-admits_code.false in
    record {
      lent = first_of (search rules, grind (arith, common_steps));
      grows = first_of (search rules, grind (arith, common_steps));
      unread = tt;
      some = λ is. tt;
      reads = tt;
      stops = many_here c.args.at (λ end bs here. coded_full end c.args.left (slot_at end (c.args.left - 1)) c.args.place c.args.table.now.unread.items c.args.at c.args.code (now_of c.args.table.now) bs (ne_eqb c.args.code 112 c.requires.code) (ne_eqb c.args.code 113 c.if-code-eq113.false) some (omega arith) (sym c.is_full.ensures ∙ c.if-is_full.true));
    }

pub constants::constant_in-returns-then-not-is_enum : goal.constants::constant_in-returns-then-not-is_enum
unfolding enum_at
constants::constant_in-returns-then-not-is_enum g t c =
    let none = sym c.is_enum.ensures ∙ c.if-not-is_enum.true in
    record {
      lent = first_of (search rules, grind (arith, common_steps));
      grows = first_of (search rules, grind (arith, common_steps));
      unread = tt;
      some = tt;
      reads = tt;
      stops = rw c.bad.ensures (bad_here BadDesc c.args.at tt (λ end bs here. rw none refl));
    }

pub descriptions::fields-loop-init : goal.descriptions::fields-loop-init
descriptions::fields-loop-init g t c = record {
  lent = refl;
  grows = omega arith;
  unread = refl;
  leads = rw c.new-fields.ensures.items (leads_start _ _ _ (λ end bs. many_start (field_at end c.args.at (slot_at end c.args.left Text c.args.table.now.unread.items)) c.args.n (now_of c.args.table.now) bs));
}

pub arrays::slots-loop-init : goal.arrays::slots-loop-init
arrays::slots-loop-init g t c = record {
  lent = refl;
  grows = omega arith;
  unread = refl;
  leads = rw c.new-slots.ensures (leads_start _ _ _ (λ end bs. many_start (slot_at end c.args.left Reference c.args.table.now.unread.items) c.args.n (now_of c.args.table.now) bs));
}

pub fresh-returns-in_default : goal.fresh-returns-in_default
unfolding fresh_at
fresh-returns-in_default g t c = record {
  lent = first_of (search rules, grind (arith, common_steps));
  grows = first_of (search rules, grind (arith, common_steps));
  unread = tt;
  some = tt;
  reads = tt;
  stops = rw c.bad.ensures (bad_here BadCode c.args.at tt (λ end bs here. search rules));
}

pub annotations::note-returns-else-writes : goal.annotations::note-returns-else-writes
unfolding note_at
annotations::note-returns-else-writes g t c = record {
  lent = first_of (search rules, grind (arith, common_steps));
  grows = first_of (search rules, grind (arith, common_steps));
  unread = first_of (search rules, grind (arith, common_steps));
  some = tt;
  reads = rw (c.new.ensures, c.if-writes.false) (done (λ end bs. refl));
  stops = tt;
}

pub objects::object_in-returns-in-Some : goal.objects::object_in-returns-in-Some
objects::object_in-returns-in-Some g t c =
    let rows = c.as_slice-rows.ensures.value ∙ c.in_ok-shape.ensures.rows in
    let few = sym c.lacks_object.ensures ∙ c.if-lacks_object.false in
    let wrong = sym c.in_ok-shape.ensures.fault ∙ ap (λ (f : Option StreamKind). option_map kind_of f) c.in-Some.is in
    record {
      lent = first_of (search rules, grind (arith, common_steps));
      grows = first_of (search rules, grind (arith, common_steps));
      unread = tt;
      some = tt;
      reads = tt;
      stops = rw c.bad.ensures (bad_here c.in-Some.kind c.args.at (rw c.in-Some.is at c.in_ok-shape.ensures.known) (λ end bs here. object_bad end c.args.at (slot_at end c.args.left Reference c.args.table.now.unread.items) c.args.class c.as_slice-rows.result.now (now_of c.args.table.now) bs (kind_of c.in-Some.kind) rows few wrong));
    }
