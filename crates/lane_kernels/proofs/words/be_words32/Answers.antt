use Rattle.std.proofs.Common.{◌+◌, ◌*◌, ◌∙◌, ◌≤◌, length, refl, ap, arith, w32}
use Rattle.std.proofs.lemmas.List.{take_rest}
use Rattle.std.proofs.lemmas.Simd.{length-put_chunk}
use Rattle.lane_kernels.specs.Kernels.{signed_words}
use Rattle.lane_kernels.proofs.WordLanes.{stored32}
use Rattle.lane_kernels.proofs.words.be_words32.Goals as goal

pub loop-out-init : goal.loop-out-init
unfolding signed_words
loop-out-init c = (omega arith, refl, refl)

pub loop-out-preserved : goal.loop-out-preserved
unfolding signed_words
loop-out-preserved c =
    let bs = c.args.bytes.now in
    let i = c.loop-out.read in
    let room : i + 4 ≤ length c.loop-out.out = omega (arith, c.loop-out-test.true, c.loop-out.invariant.0) in
    (omega (arith, length-put_chunk i c.loop-out.out), omega (arith, length-put_chunk i c.loop-out.out, c.loop-out.invariant.1), stored32 4 bs c.loop-out.out c.lanes32.result i room (omega (arith, c.requires, c.loop-out.invariant.1)) c.loop-out.invariant.2 (c.lanes32.ensures ∙ ap (signed_words w32 4) (take_rest bs (4 * i))) (ap length c.lanes32.ensures) c.type_inv.bytes)
