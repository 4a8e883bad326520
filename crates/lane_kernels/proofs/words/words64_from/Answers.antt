use Rattle.std.proofs.Common.{◌∙◌, ◌*◌, ap, to_z, arith, w64}
use Rattle.std.proofs.lemmas.List.{length-set}
use Rattle.lane_kernels.proofs.WordLanes.{word64, pushed64}
use Rattle.lane_kernels.proofs.words.words64_from.Goals as goal

pub loop-i-preserved : goal.loop-i-preserved
loop-i-preserved c =
    let bs = c.args.bytes.now in
    let i = c.loop-i.i in (
      omega (arith, length-set c.loop-i.out i, c.loop-i.invariant.0),
      pushed64 bs c.loop-i.out i c.from_be_bytes.result (omega (arith, c.loop-i.invariant.0)) (omega (arith, c.requires.bytes)) c.loop-i.invariant.1
          (c.from_be_bytes.ensures ∙ ap (to_z w64) (word64 bs (8 * i) (omega (arith, c.requires.bytes)))) c.type_inv.bytes,
    )
