use Rattle.std.proofs.Common.{◌≡◌, refl, sym, subst, List, ◌∙◌}
use Rattle.std.specs.Prelude.{option_to_list}
use Rattle.history.specs.declared.asks.Ask.TheVariants.{Tick}
use Rattle.space.specs.declared.asked.Asked.{Asked}
use Rattle.turn_lock.specs.Handles.{view_of}
use Rattle.turn_lock.specs.PassPorts.{PassWent}
use Rattle.call_dispatch.specs.Acts.{TellsMore, LeadsStates}
use Rattle.conn_server.proofs.Quiet.{tick_there}
use Rattle.conn_server.proofs.Ticks.{end_there, entry_there, place_there, told_as}
use Rattle.conn_server.proofs.admission.tick_at.Goals as goal

pub returns-clause-went : goal.returns-clause-went
returns-clause-went g c =
    let t = c.turn-answer in
    let entries = option_to_list c.tick_entry.result in
    let same : t.result.1 ≡ entries = t.ensures.asked ∙ sym c.tick_entry.ensures in
    subst (λ (l : List Asked). PassWent c.args.root.now.pass t.new.self.pass l) same t.ensures.went

pub returns-clause-is_tick : goal.returns-clause-is_tick
returns-clause-is_tick g c =
    let t = c.turn-answer in
    let entry = c.tick_entry.result in
    tick_there entry (entry_there (λ e. e.ask ≡ Tick) c.args.moment Tick t.result.0 entry c.tick_entry.ensures refl)
    (end_there (view_of c.args.root.now.pass) (view_of t.new.self.pass) c.args.root.now.pass.number c.args.moment t.result.0 entry c.tick_entry.ensures t.ensures.turned)

pub returns-clause-place : goal.returns-clause-place
returns-clause-place g c =
    let t = c.turn-answer in
    place_there (view_of c.args.root.now.pass) (view_of t.new.self.pass) c.args.root.now.pass.number c.args.moment t.result.0 c.tick_entry.result c.tick_entry.ensures t.ensures.turned

pub returns-clause-at_moment : goal.returns-clause-at_moment
returns-clause-at_moment g c = entry_there (λ entry. entry.moment ≡ c.args.moment) c.args.moment Tick c.turn-answer.result.0 c.tick_entry.result c.tick_entry.ensures refl

pub returns-clause-seen : goal.returns-clause-seen
returns-clause-seen g c =
    told_as (λ l. TellsMore (g.H.Worker.shown c.args.hand.now).seen l (g.H.Worker.shown c.tell_answer.new.hand).seen) c.args.moment c.turn-answer.result.0 c.tick_entry.result c.tick_entry.ensures c.tell_answer.ensures.seen

pub returns-clause-state : goal.returns-clause-state
returns-clause-state g c =
    told_as (λ l. LeadsStates g.H.Worker.moves (g.H.Worker.shown c.args.hand.now).state l (g.H.Worker.shown c.tell_answer.new.hand).state) c.args.moment c.turn-answer.result.0 c.tick_entry.result c.tick_entry.ensures c.tell_answer.ensures.state
