use Rattle.std.proofs.Common.{◌∙◌, refl}
use Rattle.stream_grammar.specs.Reading.{short}
use Rattle.ser_read.specs.Wants.{inside}
use Rattle.ser_read.proofs.Steps.{leads_start, leads_more, leads_done}
use Rattle.ser_read.proofs.InOrder.{serve_start, serve_next, serve_err, serve_end}
use Rattle.ser_read.proofs.Breaking.{want_raised, want_loop_stops, want_took}
use Rattle.ser_read.proofs.serving.serve_all.Goals as goal

pub loop-want-preserved : goal.loop-want-preserved
loop-want-preserved g c =
    record {
      lent = c.in_ok-answer.ensures.lent ∙ c.loop-want.invariant.lent;
      kept = c.in_ok-answer.ensures.kept;
      leads = leads_more _ c.loop-want.invariant.leads c.in_ok-answer.ensures.reads (λ end bs rest here h. rw c.in_ok-push.ensures.ok (serve_next end c.loop-want.answers c.args.wants.now c.loop-want.want-index _ c.loop-want.reader.stand bs c.in_ok-answer.answer c.serve_one.new.reader.stand rest c.loop-want-test.true h))
          (λ end bs here is. serve_err end c.loop-want.answers c.args.wants.now c.loop-want.want-index _ c.loop-want.reader.stand bs (inside short) c.loop-want-test.true is);
    }

pub returns-clause-reads : goal.returns-clause-reads
returns-clause-reads g c = leads_done c.loop-want.invariant.leads (λ end bs. serve_end end c.loop-want.answers c.args.wants.now c.loop-want.want-index c.loop-want.reader.stand bs c.loop-want-test.false)

pub returns-in_err-answer-clause-stops : goal.returns-in_err-answer-clause-stops
returns-in_err-answer-clause-stops g c = want_raised c.from_residual.result c.from_residual.ensures.1 (want_loop_stops c.loop-want.invariant.leads (λ end bs f here is. serve_err end c.loop-want.answers c.args.wants.now c.loop-want.want-index _ c.loop-want.reader.stand bs f c.loop-want-test.true is) c.in_err-answer.ensures.stops)

pub returns-in_err-push-clause-stops : goal.returns-in_err-push-clause-stops
returns-in_err-push-clause-stops g c = want_raised c.from_residual-in_err-push.result c.from_residual-in_err-push.ensures.1 (want_loop_stops c.loop-want.invariant.leads (λ end bs f here is. serve_err end c.loop-want.answers c.args.wants.now c.loop-want.want-index _ c.loop-want.reader.stand bs f c.loop-want-test.true is) (want_took c.in_ok-answer.ensures.reads))

pub loop-want-init : goal.loop-want-init
loop-want-init g c = record {
  lent = refl;
  kept = c.requires.kept;
  leads = rw c.new-answers.ensures (leads_start _ _ _ (λ end bs. serve_start end c.args.wants.now c.args.reader.now.stand bs));
}
