use Rattle.std.proofs.Common.{rules}
use Rattle.jrmp_frames.proofs.Written.{call_spelled}
use Rattle.jrmp_frames.proofs.message.call_bytes.Goals as goal

pub returns-clause-spelled : goal.returns-clause-spelled
returns-clause-spelled c = λ params answers fits same.
    call_spelled c.args.head c.args.arguments.now params answers c.write_items_after.new.out (rw c.as_slice.ensures at c.look_at.ensures) (search rules) fits same (rw c.to_bytes.ensures at c.in_ok-write_items_after.ensures.spelled)
