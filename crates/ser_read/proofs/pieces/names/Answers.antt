use Rattle.std.proofs.Common.{◌∙◌, refl}
use Rattle.stream_grammar.specs.Reading.{short, plain, short_at}
use Rattle.ser_read.proofs.Steps.{leads_start, leads_more, leads_done, plain_reads}
use Rattle.ser_read.proofs.Loop.{many_start, many_next, many_end}
use Rattle.ser_read.proofs.Values.{plain_stops}
use Rattle.ser_read.proofs.Breaking.{raised, loop_stops, took}
use Rattle.ser_read.proofs.Stopping.{many_err}
use Rattle.ser_read.proofs.pieces.names.Goals as goal

pub loop-init : goal.loop-init
loop-init g c = record {
  lent = refl;
  leads = λ now. rw c.new-names.ensures (leads_start _ _ _ (λ end bs. many_start (plain (short_at end)) c.args.n now bs));
}

pub returns-in_err-name-clause-stops : goal.returns-in_err-name-clause-stops
returns-in_err-name-clause-stops g c = λ now. raised c.from_residual.result c.from_residual.ensures.1 (loop_stops (c.loop.invariant.leads now)
    (λ end bs f here is. many_err (plain (short_at end)) c.loop.names c.args.n c.loop.counter now bs f c.loop-test.true is) (plain_stops now c.in_err-name.ensures.stops))

pub returns-in_err-push-clause-stops : goal.returns-in_err-push-clause-stops
returns-in_err-push-clause-stops g c = λ now. raised c.from_residual-in_err-push.result c.from_residual-in_err-push.ensures.1 (loop_stops (c.loop.invariant.leads now)
    (λ end bs f here is. many_err (plain (short_at end)) c.loop.names c.args.n c.loop.counter now bs f c.loop-test.true is) (took (plain_reads now c.in_ok-name.ensures.reads)))

pub loop-preserved : goal.loop-preserved
loop-preserved g c = record {
  lent = c.in_ok-name.ensures.lent ∙ c.loop.invariant.lent;
  leads = λ now. leads_more _ (c.loop.invariant.leads now) (plain_reads now c.in_ok-name.ensures.reads)
      (λ end bs rest here h. rw c.in_ok-push.ensures.ok (many_next (plain (short_at end)) c.loop.names c.args.n c.loop.counter now bs c.in_ok-name.name now rest c.loop-test.true h))
      (λ end bs here is. many_err (plain (short_at end)) c.loop.names c.args.n c.loop.counter now bs short c.loop-test.true is);
}

pub returns-clause-reads : goal.returns-clause-reads
returns-clause-reads g c = λ now. leads_done (c.loop.invariant.leads now) (λ end bs. many_end (plain (short_at end)) c.loop.names c.args.n c.loop.counter now bs c.loop-test.false)
