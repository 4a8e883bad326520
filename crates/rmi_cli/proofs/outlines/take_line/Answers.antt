use Rattle.std.proofs.Common.{rules}
use Rattle.std.proofs.lemmas.Result.{err_from_is_err_and}
use Rattle.rmi_cli.proofs.Replaying.{line_moment, takes_one, halts_here}
use Rattle.rmi_cli.proofs.outlines.take_line.Goals as goal

pub make_turn-requires : goal.make_turn-requires
make_turn-requires c = line_moment c.args.config.now c.args.lines.now c.in-Ok.more.now c.in-Ok.event c.in-Ok.ensures.line

pub returns-in_ok-make_turn-in-Ok-clause-next : goal.returns-in_ok-make_turn-in-Ok-clause-next
returns-in_ok-make_turn-in-Ok-clause-next c =
    takes_one c.args.config.now c.args.space.now.events c.make_turn.new.space.events c.args.lines.now c.in-Ok.more.now c.in-Ok.event c.args.number c.in-Ok.ensures.line
    (rw c.requires.space at c.in_ok-make_turn-in-Ok.ensures.ok)

pub returns-in_err-make_turn-in-Ok-clause-stops : goal.returns-in_err-make_turn-in-Ok-clause-stops
returns-in_err-make_turn-in-Ok-clause-stops c =
    let p = err_from_is_err_and c.from_residual.result c.from_residual.ensures.1 in
    rw (p.1, p.2)
    (halts_here c.args.config.now c.args.space.now.events c.make_turn.new.space.events c.args.lines.now c.in-Ok.more.now c.in-Ok.event c.args.number _ (search rules) c.in-Ok.ensures.line
    (rw c.requires.space at (c.in_err-make_turn-in-Ok.ensures {u = tt}).halts))
