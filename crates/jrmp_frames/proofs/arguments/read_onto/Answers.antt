use Rattle.std.proofs.Common.{◌∙◌, refl}
use Rattle.ser_read.proofs.Breaking.{want_raised}
use Rattle.jrmp_frames.proofs.Each.{comes_first, comes_next, comes_whole, comes_short, comes_unkept}
use Rattle.jrmp_frames.proofs.arguments.read_onto.Goals as goal

pub loop-code-init : goal.loop-code-init
loop-code-init g c = record {
  lent = refl;
  kept = c.requires.kept;
  comes = rw (c.reserve.ensures, c.requires.empty) (comes_first _ c.args.params.now c.args.reader.now.stand);
}

pub loop-code-preserved : goal.loop-code-preserved
loop-code-preserved g c =
    record {
      lent = c.in_ok-arg.ensures.lent ∙ c.loop-code.invariant.lent;
      kept = c.in_ok-arg.ensures.kept;
      comes = rw c.in_ok-push.ensures.ok (comes_next c.args.params.now c.loop-code.code-index _ c.args.reader.now.stand c.loop-code.reader.stand c.read_arg.new.reader.stand c.loop-code.args c.in_ok-arg.arg c.loop-code-test.true c.loop-code.invariant.comes c.in_ok-arg.ensures.reads);
    }

pub returns-clause-reads : goal.returns-clause-reads
returns-clause-reads g c = comes_whole c.args.params.now c.loop-code.code-index c.args.reader.now.stand c.loop-code.reader.stand c.loop-code.args c.loop-code-test.false c.loop-code.invariant.comes

pub returns-in_err-arg-clause-stops : goal.returns-in_err-arg-clause-stops
returns-in_err-arg-clause-stops g c =
    want_raised c.from_residual-in_err-arg.result c.from_residual-in_err-arg.ensures.1
    (comes_short c.args.params.now c.loop-code.code-index _ c.args.reader.now.stand c.loop-code.reader.stand c.loop-code.args c.loop-code-test.true c.loop-code.invariant.comes c.in_err-arg.ensures.stops)

pub returns-in_err-push-clause-stops : goal.returns-in_err-push-clause-stops
returns-in_err-push-clause-stops g c =
    want_raised c.from_residual-in_err-push.result c.from_residual-in_err-push.ensures.1
    (comes_unkept c.args.params.now c.loop-code.code-index _ c.args.reader.now.stand c.loop-code.reader.stand c.read_arg.new.reader.stand c.loop-code.args c.in_ok-arg.arg c.loop-code-test.true c.loop-code.invariant.comes c.in_ok-arg.ensures.reads)
