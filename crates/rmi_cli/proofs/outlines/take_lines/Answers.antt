use Rattle.std.proofs.Common.{◌+◌, arith}
use Rattle.rmi_cli.proofs.Replaying.{goes_on}
use Rattle.rmi_cli.proofs.outlines.take_lines.Goals as goal

pub loop-rest-preserved : goal.loop-rest-preserved
loop-rest-preserved c =
    let h = c.loop-rest.invariant in (
      (λ stop h2 goes. h.0 stop h2 (goes_on c.args.config.now c.loop-rest.space.events c.take_line.new.space.events c.loop-rest.rest.now _ c.loop-rest.number (c.loop-rest.number + 1) stop h2 c.in_ok-rest.ensures.next goes)),
      c.in_ok-rest.ensures.config,
      omega (arith, h.2, c.in_ok-rest.ensures.fewer),
    )
