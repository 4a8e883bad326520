use Rattle.lane_kernels.proofs.WordLanes.{lanes32}
use Rattle.lane_kernels.proofs.words.lanes32.Goals as goal

pub returns : goal.returns
returns c = lanes32 c.args.bytes.now c.requires c.type_inv.bytes
