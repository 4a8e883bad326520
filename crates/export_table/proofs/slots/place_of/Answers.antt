use Rattle.std.proofs.Common.{sym, ◌∙◌, arith}
use Rattle.export_table.proofs.Slotted.{no-slot, other-slot, gone-here, slot-found}
use Rattle.export_table.proofs.slots.place_of.Goals as goal

pub returns-then-place-slots : goal.returns-then-place-slots
returns-then-place-slots c =
    let found = c.first_from-place.ensures in let behind = c.if-place-slots.true in
    no-slot c.args.id.now c.args.slots.now c.first_from-place.result c.requires found.below found.from (omega arith)

pub returns-then-not-is_of : goal.returns-then-not-is_of
returns-then-not-is_of c =
    let found = c.first_from-place.ensures in
    other-slot c.args.id.now c.args.slots.now c.first_from-place.result _ c.requires found.below found.from (sym c.is_of.ensures ∙ c.if-not-is_of.true)

pub returns-then-is_here : goal.returns-then-is_here
returns-then-is_here c =
    let within = c.first_from-place.ensures.within in let other = c.if-place-slots.false in
    slot-found c.args.id.now c.args.slots.now c.first_from-place.result _ (omega arith) (sym c.is_of.ensures ∙ c.if-not-is_of.false) (sym c.is_here.ensures ∙ c.if-is_here.true)

pub returns-else-is_here : goal.returns-else-is_here
returns-else-is_here c =
    let within = c.first_from-place.ensures.within in let other = c.if-place-slots.false in
    gone-here c.args.id.now c.args.slots.now c.first_from-place.result _ c.requires (omega arith) (sym c.is_of.ensures ∙ c.if-not-is_of.false) (sym c.is_here.ensures ∙ c.if-is_here.false)
