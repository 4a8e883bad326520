use Rattle.std.proofs.Common.{◌≡◌, ◌∙◌, ap, sym, subst, List, [], map}
use Rattle.std.specs.Prelude.{None}
use Rattle.std.specs.List.{flat_map}
use Rattle.space.specs.Entries.{end_of}
use Rattle.call_dispatch.specs.Acts.{Call, calls, unreferenced, tells_of, TellsMore, LeadsStates}
use Rattle.conn_server.specs.Made.{gone_with}
use Rattle.conn_server.proofs.Ticks.{calls_told}
use Rattle.conn_server.proofs.admission.tell_answer.Goals as goal

pub returns-in-Ok-clause-seen : goal.returns-in-Ok-clause-seen
returns-in-Ok-clause-seen g c =
    let gone = c.as_slice.result.now in
    let same : flat_map calls (tells_of gone) ≡ map unreferenced (gone_with (end_of c.args.answer.now))
    = calls_told gone ∙ (ap (λ l. map unreferenced l) c.as_slice.ensures ∙ ap (λ a. map unreferenced (gone_with (end_of a))) (sym c.in-Ok.is)) in
    subst (λ (l : List Call). TellsMore (g.H.Worker.shown c.args.hand.now).seen l (g.H.Worker.shown c.notify_unreferenced.new.worker).seen) same (c.notify_unreferenced.ensures.led [] None).seen

pub returns-in-Ok-clause-state : goal.returns-in-Ok-clause-state
returns-in-Ok-clause-state g c =
    let gone = c.as_slice.result.now in
    let same : flat_map calls (tells_of gone) ≡ map unreferenced (gone_with (end_of c.args.answer.now))
    = calls_told gone ∙ (ap (λ l. map unreferenced l) c.as_slice.ensures ∙ ap (λ a. map unreferenced (gone_with (end_of a))) (sym c.in-Ok.is)) in
    subst (λ (l : List Call). LeadsStates g.H.Worker.moves (g.H.Worker.shown c.args.hand.now).state l (g.H.Worker.shown c.notify_unreferenced.new.worker).state) same (c.notify_unreferenced.ensures.led [] None).state

pub returns-in-Ok-clause-number : goal.returns-in-Ok-clause-number
returns-in-Ok-clause-number g c = (c.notify_unreferenced.ensures.led [] None).number
