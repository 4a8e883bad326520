use Rattle.lane_kernels.proofs.WordLanes.{lanes64}
use Rattle.lane_kernels.proofs.words.lanes64.Goals as goal

pub returns : goal.returns
returns c = lanes64 c.args.bytes.now c.requires c.type_inv.bytes
