use Rattle.std.proofs.Common.{◌∙◌, ◌++◌, [], ap, append-nil, sym}
use Rattle.turn_lock.specs.Handles.{view_of}
use Rattle.conn_server.proofs.Recording.{handed_closed, handed_some}
use Rattle.conn_server.proofs.handing.close_recorded.Goals as goal

pub returns-in-Some-clause-whole : goal.returns-in-Some-clause-whole
returns-in-Some-clause-whole g c =
    let closed = c.close_lock-space in
    λ is. handed_closed c.args.lock (view_of c.args.root.pass) closed.result.0.events _ _ _ c.args.handed closed.result.1 c.requires.handed closed.ensures.settled.seen closed.ensures.rest c.in-Some.is (c.record_parts.ensures.events ∙ ap (λ l. (g.C.ReportTaker.taken c.args.taker.now).events ++ l) c.as_slice.ensures)

pub returns-in-Some-clause-handed : goal.returns-in-Some-clause-handed
returns-in-Some-clause-handed g c =
    let closed = c.close_lock-space in
    ([], handed_closed c.args.lock (view_of c.args.root.pass) closed.result.0.events _ _ _ c.args.handed closed.result.1 c.requires.handed closed.ensures.settled.seen closed.ensures.rest c.in-Some.is (c.record_parts.ensures.events ∙ ap (λ l. (g.C.ReportTaker.taken c.args.taker.now).events ++ l) c.as_slice.ensures) ∙ sym (append-nil _))

pub returns-in-None-clause-handed : goal.returns-in-None-clause-handed
returns-in-None-clause-handed g c =
    let closed = c.close_lock-space in
    handed_some c.args.lock (view_of c.args.root.pass) closed.result.0.events _ c.args.handed c.requires.handed closed.ensures.settled.seen
