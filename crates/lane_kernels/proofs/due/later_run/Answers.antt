use Rattle.std.proofs.Common.{◌+◌, ◌≤◌, length, not, arith}
use Rattle.lane_kernels.specs.Kernels.{is_due}
use Rattle.lane_kernels.proofs.LongestRuns.{whole_chunk, stopped_chunk}
use Rattle.lane_kernels.proofs.due.later_run.Goals as goal

pub returns-then-run-lt-LANES : goal.returns-then-run-lt-LANES
returns-then-run-lt-LANES c =
    stopped_chunk (λ end. not (is_due c.args.now end)) c.args.deadlines.now c.loop-at.at 8 c.later_in_lanes-run.result c.loop-at.invariant.1 (omega (arith, c.loop-at-test.true, c.loop-at.invariant.0)) c.later_in_lanes-run.ensures c.if-run-lt-LANES.true

pub loop-at-preserved : goal.loop-at-preserved
loop-at-preserved c =
    let room : c.loop-at.at + 8 ≤ length c.args.deadlines.now = omega (arith, c.loop-at-test.true, c.loop-at.invariant.0) in
    (room, whole_chunk (λ end. not (is_due c.args.now end)) c.args.deadlines.now c.loop-at.at 8 c.later_in_lanes-run.result c.loop-at.invariant.1 room c.later_in_lanes-run.ensures (omega (arith, c.if-run-lt-LANES.false)))
