use Rattle.std.proofs.Common.{eqb, cond, leb, ap, ◌∙◌, arith, w64}
use Rattle.std.proofs.lemmas.Simd.{length-chunk, bitmask_splat, first_set_mask_l}
use lib.Count.{count_trailing_zeros}
use lib.Lanes.{chunk}
use Rattle.lane_kernels.proofs.due.later_in_lanes.Goals as goal

pub returns : goal.returns
returns c =
    let v = chunk c.args.at 8 c.args.deadlines.now in
    let long = length-chunk c.args.at 8 c.args.deadlines.now c.requires in
    let mask = bitmask_splat w64 leb v 8 c.args.now long (omega arith) in
    c.first_set.ensures ∙ ap (λ m. cond (eqb m 0) 8 (count_trailing_zeros 64 m)) mask ∙ first_set_mask_l (λ x. leb x c.args.now) v 8 long (omega arith)
