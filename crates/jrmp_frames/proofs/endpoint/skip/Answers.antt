use Rattle.std.proofs.Common.{◌++◌, ◌∷◌, [], arith, length-append, ◌∙◌}
use Rattle.wire_io.proofs.Pulling.{takes_more}
use Rattle.jrmp_frames.proofs.endpoint.skip.Goals as goal

pub loop-skipped-preserved : goal.loop-skipped-preserved
loop-skipped-preserved g c =
    let (bytes, count, takes) = c.loop-skipped.invariant.0 in
    let next = c.in_ok-byte.ensures.gives in (
      (bytes ++ c.in_ok-byte.field-0 ∷ [], omega (arith, length-append bytes (c.in_ok-byte.field-0 ∷ []), count), takes_more _ _ _ _ _ takes next.2),
      c.byte.ensures.lent ∙ c.loop-skipped.invariant.1,
    )
