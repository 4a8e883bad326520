use Rattle.std.proofs.Common.{◌∙◌, ◌-◌, [], ◌∷◌, ap, sym, subst, arith, refl}
use Rattle.turn_lock.specs.Handles.{view_of}
use Rattle.conn_server.specs.Made.{shown_admitted}
use Rattle.conn_server.specs.Starts.{IsEndOf, task_of}
use Rattle.conn_server.specs.Talks.{TalksOver}
use Rattle.conn_server.specs.declared.link_thread.LinkState.TheVariants.{Ended}
use Rattle.conn_server.proofs.Ending.{begins_later}
use Rattle.conn_server.proofs.Taking.{found_live, number_left, settled_accepting, settled_tasks}
use Rattle.conn_server.proofs.admission.Acceptor.settle.Goals as goal

pub finish-report-requires-clause-begun : goal.finish-report-requires-clause-begun
finish-report-requires-clause-begun g c =
    let shared = c.args.shared.now in
    (found_live _ _ _ _ _ shared.lock.now shared.book.now c.args.self.now c.args.place c.remove-by.result c.requires.accepting c.requires.there c.remove-by.ensures.value).begun.link_state

pub finish-report-requires-clause-open : goal.finish-report-requires-clause-open
finish-report-requires-clause-open g c =
    let shared = c.args.shared.now in
    (found_live _ _ _ _ _ shared.lock.now shared.book.now c.args.self.now c.args.place c.remove-by.result c.requires.accepting c.requires.there c.remove-by.ensures.value).amid_is.open_is

pub overflow_sub-from : goal.overflow_sub-from
overflow_sub-from g c =
    let shared = c.args.shared.now in
    let f = found_live _ _ _ _ _ shared.lock.now shared.book.now c.args.self.now c.args.place c.remove-by.result c.requires.accepting c.requires.there c.remove-by.ensures.value in
    let number = f.begun.number in
    let from = c.from.ensures in
    omega (arith, number, from)

pub put-requires : goal.put-requires
put-requires g c =
    let shared = c.args.shared.now in
    let f = found_live _ _ _ _ _ shared.lock.now shared.book.now c.args.self.now c.args.place c.remove-by.result c.requires.accepting c.requires.there c.remove-by.ensures.value in
    let number = f.begun.number in
    let from = c.from.ensures in
    number_left _ _ _ g.C.ReportTaker.taken g.C.ReportTaker.expects shared.lock.now shared.book.now c.args.self.now c.args.place (c.from.result - 1) c.remove-by.result f (omega (arith, number, from))

pub ended-requires-clause-expected : goal.ended-requires-clause-expected
ended-requires-clause-expected g c =
    let shared = c.args.shared.now in
    let f = found_live _ _ _ _ _ shared.lock.now shared.book.now c.args.self.now c.args.place c.remove-by.result c.requires.accepting c.requires.there c.remove-by.ensures.value in
    let ended = c.finish-report.ensures.ended in
    c.requires.accepting.expected _ (task_of c.remove-by.result).admitted c.finish-report.result f.begun.task.made ended.talked (ended.by ∙ f.begun.task.by)

pub returns-clause-accepting : goal.returns-clause-accepting
returns-clause-accepting g c =
    let shared = c.args.shared.now in
    let x = c.remove-by.result in
    let f = found_live _ _ _ _ _ shared.lock.now shared.book.now c.args.self.now c.args.place x c.requires.accepting c.requires.there c.remove-by.ensures.value in
    let done = c.finish-report.ensures in
    let given = c.ended.ensures in
    let number = f.begun.number in
    let from = c.from.ensures in
    let talked = TalksOver g.I.Source.half g.O.Sink.half g.T.Clock.given g.H.Worker.shown g.H.Worker.may g.H.Worker.moves shared.book.now in
    settled_accepting _ _ _ _ _ shared.lock.now shared.book.now c.args.self.now _ c.args.place (c.from.result - 1) x (Ended c.of.result) c.finish-report.result f
    c.requires.accepting done.root.0 done.root.1 done.root.2 done.grown
    (subst (λ r. IsEndOf talked (view_of c.finish-report.new.root.pass) (task_of x) r) (sym c.of.ensures) done.ended) refl (ap (λ r. r ∷ []) c.of.ensures)
    (omega (arith, number, from)) c.remove-by.ensures.items c.put.ensures refl given.reports given.ticks given.room given.expects given.events refl refl

pub returns-clause-links : goal.returns-clause-links
returns-clause-links g c =
    let shared = c.args.shared.now in
    let x = c.remove-by.result in
    let f = found_live _ _ _ _ _ shared.lock.now shared.book.now c.args.self.now c.args.place x c.requires.accepting c.requires.there c.remove-by.ensures.value in
    let number = f.begun.number in
    let from = c.from.ensures in
    settled_tasks _ _ _ g.C.ReportTaker.taken g.C.ReportTaker.expects shared.lock.now shared.book.now (λ s. shown_admitted g.I.Source.half g.O.Sink.half g.T.Clock.given (task_of s).admitted) c.args.self.now c.args.place (c.from.result - 1) x (Ended c.of.result) c.put.new.self f
    (omega (arith, number, from)) c.put.ensures refl

pub returns-clause-follows : goal.returns-clause-follows
returns-clause-follows g c = (begins_later (view_of c.args.self.now.root.pass) (view_of c.finish-report.new.root.pass) c.finish-report.ensures.grown.seen, refl)
