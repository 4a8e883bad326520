use Rattle.rmi_cli.proofs.Replaying.{turn_taken, turn_halts}
use Rattle.rmi_cli.proofs.outlines.make_turn.Goals as goal

pub returns-in-Ok-clause-ok : goal.returns-in-Ok-clause-ok
returns-in-Ok-clause-ok c = turn_taken c.args.space.now.configuration c.args.space.now.events c.turn.new.self.events c.args.event c.in-Ok._turn (rw c.in-Ok.is at c.turn.ensures.step)

pub returns-in-Err-clause-halts : goal.returns-in-Err-clause-halts
returns-in-Err-clause-halts c =
    rw c.fault_of.ensures (turn_halts c.args.space.now.configuration c.args.space.now.events c.turn.new.self.events c.args.event c.in-Err.refused (rw c.in-Err.is at c.turn.ensures.step))
