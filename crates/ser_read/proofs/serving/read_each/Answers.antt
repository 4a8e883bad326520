use Rattle.ser_read.specs.Wants.{wants_at, serve_to_close}
use Rattle.ser_read.proofs.InOrder.{close_reads, close_stops}
use Rattle.ser_read.proofs.Breaking.{want_raised, want_first, inside_first, inside_later}
use Rattle.ser_read.proofs.serving.read_each.Goals as goal

pub returns-clause-reads : goal.returns-clause-reads
returns-clause-reads g c =
    close_reads c.args.wants.now c.in_ok-answers.answers c.serve_all.new.reader.stand c.in_ok-graph.graph.nodes c.in_ok-graph.graph.items c.in_ok-reader.ensures.reads
    (rw c.in_ok-reader.ensures.stand at c.in_ok-answers.ensures.reads) (c.in_ok-graph.ensures.gives c.in_ok-answers.ensures.kept)

pub returns-in_err-reader-clause-stops : goal.returns-in_err-reader-clause-stops
unfolding wants_at
returns-in_err-reader-clause-stops g c = want_raised c.from_residual.result c.from_residual.ensures.1 (inside_first _ c.in_err-reader.ensures.stops)

pub returns-in_err-answers-clause-stops : goal.returns-in_err-answers-clause-stops
unfolding wants_at serve_to_close
returns-in_err-answers-clause-stops g c = want_raised c.from_residual-in_err-answers.result c.from_residual-in_err-answers.ensures.1 (inside_later _ c.in_ok-reader.ensures.reads (want_first _ (rw c.in_ok-reader.ensures.stand at c.in_err-answers.ensures.stops)))

pub returns-in_err-graph-clause-stops : goal.returns-in_err-graph-clause-stops
returns-in_err-graph-clause-stops g c =
    let left = c.in_err-graph.ensures.left c.in_ok-answers.ensures.kept in
    want_raised c.from_residual-in_err-graph.result c.from_residual-in_err-graph.ensures.1
    (close_stops c.args.wants.now c.in_ok-answers.answers c.serve_all.new.reader.stand c.in_err-graph.field-0.0 c.in_ok-reader.ensures.reads (rw c.in_ok-reader.ensures.stand at c.in_ok-answers.ensures.reads) left.0 left.1)
