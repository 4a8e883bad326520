use Rattle.std.proofs.Common.{rules}
use Rattle.jrmp_frames.proofs.Written.{return_spelled}
use Rattle.jrmp_frames.proofs.message.return_bytes.Goals as goal

pub returns-clause-spelled : goal.returns-clause-spelled
returns-clause-spelled c = return_spelled c.args.normal c.args.uid c.args.body.now c.put_body.new.out (rw c.as_slice.ensures at c.look_at.ensures) (search rules) (rw c.return_front.ensures at c.in_ok-put_body.ensures.spelled)
