use Rattle.std.proofs.Common.{◌≡◌, ◌∙◌, ◌*◌, arith, refl}
use Rattle.stream_grammar.specs.Reading.{short}
use Rattle.ser_read.proofs.Steps.{leads_start, leads_more, leads_done}
use Rattle.ser_read.proofs.Breaking.{raised, loop_stops, took}
use Rattle.ser_read.proofs.NumberRuns.{block_long, run_start, run_err, run_next, run_end}
use Rattle.ser_read.proofs.numbers.numbers.Goals as goal

pub loop-left-init : goal.loop-left-init
loop-left-init g c = record {
  lent = refl;
  leads = λ now. rw c.new-numbers.ensures (leads_start _ _ _ (λ end bs. run_start g.T.Number.read c.args.n now bs));
}

pub returns-in_err-block-clause-stops : goal.returns-in_err-block-clause-stops
returns-in_err-block-clause-stops g c = λ now. raised c.from_residual.result c.from_residual.ensures.1 (loop_stops (c.loop-left.invariant.leads now)
    (λ end bs f here is. run_err g.T.Number.read g.T.Number.WIDTH g.T.Number.value g.met.T.Number.spelled c.loop-left.numbers c.loop-left.left c.min-more.result now bs f (omega arith) (rw c.WIDTH.ensures at is)) c.in_err-block.ensures.stops)

pub returns-in_err-append_block-clause-stops : goal.returns-in_err-append_block-clause-stops
returns-in_err-append_block-clause-stops g c = λ now. raised c.from_residual-in_err-append_block.result c.from_residual-in_err-append_block.ensures.1 (loop_stops (c.loop-left.invariant.leads now)
    (λ end bs f here is. run_err g.T.Number.read g.T.Number.WIDTH g.T.Number.value g.met.T.Number.spelled c.loop-left.numbers c.loop-left.left c.min-more.result now bs f (omega arith) (rw c.WIDTH.ensures at is)) (took c.in_ok-block.ensures.reads))

pub append_block-requires-clause-long : goal.append_block-requires-clause-long
append_block-requires-clause-long g c =
    let long = block_long (c.min-more.result * c.WIDTH.result) c.in_ok-block.block c.in_ok-block.ensures.reads in
    rw c.as_slice.ensures (rw c.WIDTH.ensures at long)

pub loop-left-preserved : goal.loop-left-preserved
loop-left-preserved g c = record {
  lent = c.in_ok-block.ensures.lent ∙ c.loop-left.invariant.lent;
  leads = λ now. leads_more _ (c.loop-left.invariant.leads now) c.in_ok-block.ensures.reads
      (λ end bs rest here h. rw (c.in_ok-append_block.ensures, c.as_slice.ensures)
      (run_next g.T.Number.read g.T.Number.WIDTH g.T.Number.value g.met.T.Number.spelled c.loop-left.numbers c.loop-left.left c.min-more.result now bs c.in_ok-block.block rest (omega arith) (rw c.WIDTH.ensures at h)))
      (λ end bs here is. run_err g.T.Number.read g.T.Number.WIDTH g.T.Number.value g.met.T.Number.spelled c.loop-left.numbers c.loop-left.left c.min-more.result now bs short (omega arith) (rw c.WIDTH.ensures at is));
}

pub returns-clause-reads : goal.returns-clause-reads
returns-clause-reads g c = λ now.
    let no_more : c.loop-left.left ≡ 0 = omega (arith, c.loop-left-test.false) in
    leads_done (c.loop-left.invariant.leads now) (λ end bs. run_end g.T.Number.read c.loop-left.numbers c.loop-left.left now bs no_more)
