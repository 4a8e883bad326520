use Rattle.std.proofs.Common.{◌+◌, [], false, refl, true}
use Rattle.turn_lock.specs.Handles.{opening_of, view_of}
use Rattle.conn_server.proofs.Ending.{begins_gained}
use Rattle.conn_server.proofs.Quiet.{due_then, idle_now, quiet_due, quiet_idle}
use Rattle.conn_server.proofs.Taking.{looked_accepting}
use Rattle.conn_server.proofs.admission.Acceptor.tick_quietly.Goals as goal

-- The root looked, and made no turn.
pub make_tick-requires-clause-accepting : goal.make_tick-requires-clause-accepting
make_tick-requires-clause-accepting g c κs lives =
    let t = c.wants_tick.ensures in
    looked_accepting _ _ _ _ _ _ _ c.args.self.now c.wants_tick.new.self c.requires.accepting t.root t.counts.0 t.counts.1 t.went.views

pub returns-then-not-wants_tick-clause-accepting : goal.returns-then-not-wants_tick-clause-accepting
returns-then-not-wants_tick-clause-accepting g c =
    let t = c.wants_tick.ensures in
    looked_accepting _ _ _ _ _ _ _ c.args.self.now c.wants_tick.new.self c.requires.accepting t.root t.counts.0 t.counts.1 t.went.views

pub returns-then-not-wants_tick-clause-follows : goal.returns-then-not-wants_tick-clause-follows
returns-then-not-wants_tick-clause-follows g c = (begins_gained (view_of c.args.self.now.root.pass) (view_of c.wants_tick.new.self.pass) [] c.wants_tick.ensures.went.views, refl)

pub returns-then-not-wants_tick-clause-quiet : goal.returns-then-not-wants_tick-clause-quiet
returns-then-not-wants_tick-clause-quiet g c gave_first quiets_first quiets_last before_links t =
    let lock = c.args.shared.now.lock.now in
    let a = c.args.self.now in
    let after = returns-then-not-wants_tick-clause-accepting g c in
    let idle = idle_now lock c.wants_tick.new.self (g.C.ReportTaker.taken a.taker).ticks c.now-moment.result c.wants_tick.ensures.root after.ticked (c.if-not-wants_tick.ensures.idle refl) in
    quiet_idle g.H.Worker.shown g.H.Worker.moves (opening_of lock) (view_of a.root.pass).seen (view_of c.wants_tick.new.self.pass).seen c.args.own.now.missed gave_first _ _ quiets_first quiets_last c.now-moment.result before_links _ c.args.own.now.hand
    (begins_gained (view_of a.root.pass) (view_of c.wants_tick.new.self.pass) [] c.wants_tick.ensures.went.views) idle c.now-moment.ensures.given t

pub returns-then-not-make_tick-clause-follows : goal.returns-then-not-make_tick-clause-follows
returns-then-not-make_tick-clause-follows g c =
    let looked = begins_gained (view_of c.args.self.now.root.pass) (view_of c.wants_tick.new.self.pass) [] c.wants_tick.ensures.went.views in
    let made = c.make_tick.ensures.follows in
    (λ front begins. made.0 front (looked front begins), made.1)

pub returns-then-not-make_tick-clause-quiet : goal.returns-then-not-make_tick-clause-quiet
returns-then-not-make_tick-clause-quiet g c gave_first quiets_first quiets_last before_links t =
    let lock = c.args.shared.now.lock.now in
    let a = c.args.self.now in
    let looked = begins_gained (view_of a.root.pass) (view_of c.wants_tick.new.self.pass) [] c.wants_tick.ensures.went.views in
    let made = c.make_tick.ensures in
    let w = c.wants_tick.ensures in
    let before = looked_accepting _ _ _ _ _ _ _ a c.wants_tick.new.self c.requires.accepting w.root w.counts.0 w.counts.1 w.went.views in
    let due = due_then lock c.wants_tick.new.self (view_of c.make_tick.new.self.root.pass).seen (g.C.ReportTaker.taken a.taker).ticks c.now-moment.result made.follows.0 c.wants_tick.ensures.root before.ticked (c.if-not-wants_tick.ensures.due refl) in
    quiet_due g.H.Worker.shown g.H.Worker.moves (opening_of lock) (view_of a.root.pass).seen _ c.args.own.now.missed c.saturating_add-own.result gave_first _ _ quiets_first quiets_last c.now-moment.result before_links _ _ c.args.own.now.hand _
    (λ front begins. made.follows.0 front (looked front begins)) due c.now-moment.ensures.given false c.if-not-make_tick.ensures.made c.saturating_add-own.ensures t

pub returns-else-not-make_tick-clause-quiet : goal.returns-else-not-make_tick-clause-quiet
returns-else-not-make_tick-clause-quiet g c gave_first quiets_first quiets_last before_links t =
    let lock = c.args.shared.now.lock.now in
    let a = c.args.self.now in
    let looked = begins_gained (view_of a.root.pass) (view_of c.wants_tick.new.self.pass) [] c.wants_tick.ensures.went.views in
    let made = c.make_tick.ensures in
    let w = c.wants_tick.ensures in
    let before = looked_accepting _ _ _ _ _ _ _ a c.wants_tick.new.self c.requires.accepting w.root w.counts.0 w.counts.1 w.went.views in
    let due = due_then lock c.wants_tick.new.self (view_of c.make_tick.new.self.root.pass).seen (g.C.ReportTaker.taken a.taker).ticks c.now-moment.result made.follows.0 c.wants_tick.ensures.root before.ticked (c.if-not-wants_tick.ensures.due refl) in
    quiet_due g.H.Worker.shown g.H.Worker.moves (opening_of lock) (view_of a.root.pass).seen _ c.args.own.now.missed c.args.own.now.missed gave_first _ _ quiets_first quiets_last c.now-moment.result before_links _ _ c.args.own.now.hand _
    (λ front begins. made.follows.0 front (looked front begins)) due c.now-moment.ensures.given true c.if-not-make_tick.ensures.made refl t
