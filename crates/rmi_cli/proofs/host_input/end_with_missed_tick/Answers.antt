use Rattle.std.proofs.Common.{ap, refl, sym, true, true≢false}
use Rattle.rmi_cli.specs.Hosted.{after_ticks}
use Rattle.rmi_cli.proofs.Hosting.{ticks_told}
use Rattle.rmi_cli.proofs.host_input.end_with_missed_tick.Goals as goal

pub returns-then-is_silent : goal.returns-then-is_silent
returns-then-is_silent c = sym (ap (after_ticks true) (c.if-is_silent.ensures.0 refl))

pub returns-else-is_silent : goal.returns-else-is_silent
returns-else-is_silent c = sym (ticks_told c.args.printed (λ same. true≢false (sym (c.if-is_silent.ensures.1 same))))
