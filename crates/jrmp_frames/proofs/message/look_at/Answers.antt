use Rattle.std.proofs.Common.{arith}
use Rattle.jrmp_frames.proofs.Written.{all_bytes}
use Rattle.jrmp_frames.proofs.message.look_at.Goals as goal

pub returns : goal.returns
returns c = all_bytes c.args.bytes.now (λ i. let fits = c.type_inv.bytes i in omega arith)
