use Rattle.std.proofs.Common.{◌∙◌, ◌+◌, ◌++◌, [], ap, append-nil, refl, subst, sym}
use Rattle.std.specs.Prelude.{ℕ, Option}
use Rattle.turn_lock.specs.Handles.{view_of}
use Rattle.conn_server.specs.Handed.{AreHanded}
use Rattle.conn_server.proofs.Ending.{begins_gained, learns_gained}
use Rattle.conn_server.proofs.Recording.{handed_more, place_same}
use Rattle.conn_server.proofs.Taking.{looked_accepting, tick_accepting}
use Rattle.conn_server.proofs.admission.Acceptor.hand_on.Goals as goal

pub returns-in-Ok-clause-accepting : goal.returns-in-Ok-clause-accepting
returns-in-Ok-clause-accepting g c =
    let t = c.take_recent.ensures in
    let given = c.record_parts.ensures in
    let shared = c.args.shared.now in
    let a = c.args.self.now in
    let seen = (learns_gained (view_of a.root.pass) (view_of c.take_recent.new.self.pass) [] t.went.views).seen in
    tick_accepting _ _ _ _ _ shared.lock.now shared.book.now a _ [] c.requires.accepting t.root t.counts.0 t.counts.1 t.went.views (given.ticks ∙ sym (append-nil _)) given.reports refl refl refl
    (λ host. handed_more shared.lock.now (view_of a.root.pass) (view_of c.take_recent.new.self.pass) _ _ _ _ _
    (subst (λ (o : Option ℕ). AreHanded shared.lock.now (view_of a.root.pass) (g.C.ReportTaker.taken a.taker).events o) c.in-Some.is (c.requires.accepting.handed_on host)) seen c.in-Ok.ensures.recent
    (given.events ∙ ap (λ l. (g.C.ReportTaker.taken a.taker).events ++ l) c.as_slice.ensures) (place_same _ _ _ (ap (λ n. c.in-Some.from + n) c.len.ensures) c.place_behind-self.ensures.place))

pub returns-in-Err-clause-accepting : goal.returns-in-Err-clause-accepting
returns-in-Err-clause-accepting g c =
    let t = c.take_recent.ensures in
    looked_accepting _ _ _ _ _ _ _ c.args.self.now c.take_recent.new.self c.requires.accepting t.root t.counts.0 t.counts.1 t.went.views

pub returns-in-Ok-clause-follows : goal.returns-in-Ok-clause-follows
returns-in-Ok-clause-follows g c = (begins_gained (view_of c.args.self.now.root.pass) (view_of c.take_recent.new.self.pass) [] c.take_recent.ensures.went.views, refl)

pub returns-in-Err-clause-follows : goal.returns-in-Err-clause-follows
returns-in-Err-clause-follows g c = (begins_gained (view_of c.args.self.now.root.pass) (view_of c.take_recent.new.self.pass) [] c.take_recent.ensures.went.views, refl)
