use Rattle.std.proofs.Common.{refl}
use Rattle.turn_lock.specs.Handles.{view_of}
use Rattle.conn_server.proofs.Ending.{begins_later, learns_left}
use Rattle.conn_server.proofs.Taking.{link_accepting}
use Rattle.conn_server.proofs.admission.Acceptor.start_link.Goals as goal

pub returns-clause-accepting : goal.returns-clause-accepting
returns-clause-accepting g c =
    let s = c.in-Ok.ensures in
    let begun = c.start-begun in
    let next = c.requires in
    let is = next.accepting in
    link_accepting _ _ _ _ _ c.args.shared.now.lock.now c.args.shared.now.book.now c.args.self.now _ _ begun.result is c.split.ensures.root s.pass.1 s.pass.2 s.pass.4 s.pass.3 refl
    (record { own = s.pass.0; admitted = next.can }) next.made next.after_tick begun.ensures.task begun.ensures.by begun.ensures.begun begun.ensures.out
    c.push_reserved.ensures.items c.push.ensures refl next.reports c.began.ensures.same refl refl

pub returns-clause-follows : goal.returns-clause-follows
returns-clause-follows g c =
    let v = view_of c.args.self.now.root.pass in
    let w = view_of c.split.new.self.pass in
    (begins_later v w (learns_left v w c.in-Ok.ensures.pass.2).seen, refl)
