use Rattle.std.proofs.Common.{refl}
use Rattle.rmi_cli.proofs.Replaying.{no_end, no_event}
use Rattle.rmi_cli.proofs.outlines.read_line.Goals as goal

pub returns-in_default-clause-bad : goal.returns-in_default-clause-bad
returns-in_default-clause-bad c = no_end c.args.config.now c.args.lines.now c.in_default.ensures

pub returns-in-None-clause-bad : goal.returns-in-None-clause-bad
returns-in-None-clause-bad c =
    let found = rw c.in-None.is at c.in_ok-event.ensures in
    no_event c.args.config.now c.args.config.now.uid c.args.lines.now c.in-Some.line.now c.in-Some.more.now refl c.in-Some.ensures.0 c.in-Some.ensures.1 found
