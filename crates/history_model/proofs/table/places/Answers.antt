use Rattle.std.proofs.Common.{ap, sym, ◌∙◌, arith}
use Rattle.history.specs.Table.{place_of}
use Rattle.history.proofs.TableLaws.{places-none}
use Rattle.history_model.proofs.ModelSteps.{places_step}
use Rattle.history_model.proofs.table.places.Goals as goal

pub loop-event-init : goal.loop-event-init
loop-event-init c = c.new-places.ensures.items ∙ sym (places-none c.args.config.now)

pub loop-event-preserved : goal.loop-event-preserved
loop-event-preserved c =
    places_step c.args.config.now c.args.events.now c.loop-event.event-index c.event-item.result c.loop-event.places.items _ c.in_ok-place.place
    (omega arith) c.event-item.is c.loop-event.invariant
    (c.in_ok-place.ensures ∙ ap (λ h. place_of c.args.config.now h c.event-item.result) c.as_slice.ensures.value) c.in_ok-insert.ensures.items
