use Rattle.std.proofs.Common.{◌++◌, ◌∙◌, ap, arith, take}
use Rattle.std.proofs.lemmas.List.{length-append, length-take}
use Rattle.wire_io.specs.Wire.{with_front, with_front-with_front}
use Rattle.wire_io.proofs.whole.take_whole.Goals as goal

pub returns-then-is_err-clause-err : goal.returns-then-is_err-clause-err
returns-then-is_err-clause-err g c = (
  c.loop-block.bytes ++ take c.in-Ok.n c.read.new.buf,
  omega (arith, c.loop-block-test.true, c.loop-block.invariant.2, c.in-Ok.ensures.0, length-append c.loop-block.bytes (take c.in-Ok.n c.read.new.buf), length-take c.in-Ok.n c.read.new.buf),
  c.loop-block.invariant.0 ∙ ap (with_front c.loop-block.bytes) c.in-Ok.ensures.1
      ∙ with_front-with_front c.loop-block.bytes (take c.in-Ok.n c.read.new.buf) (g.S.Source.half c.read.new.self).left,
)
