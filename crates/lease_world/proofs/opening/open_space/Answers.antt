use Rattle.std.proofs.Common.{ap, ◌∙◌}
use Rattle.std.proofs.lemmas.Result.{err_from_is_err_and}
use Rattle.space.specs.Built.{SpaceHistory}
use Rattle.lease_world.proofs.Turning.{open-refused}
use Rattle.lease_world.proofs.opening.open_space.Goals as goal

pub returns-in_err-_turn-clause-err : goal.returns-in_err-_turn-clause-err
returns-in_err-_turn-clause-err c =
    let p = err_from_is_err_and c.from_residual.result c.from_residual.ensures.1 in
    rw (p.1, p.2)
    (open-refused c.args.lease_ms c.args.ack_ms c.fresh-space.result.configuration c.fresh-space.result.events c.turn.new.self.events c.in_err-_turn.field-0.0
    (ap (λ (s : SpaceHistory). s.configuration) c.fresh-space.ensures ∙ c.config_of.ensures) (ap (λ (s : SpaceHistory). s.events) c.fresh-space.ensures) c.in_err-_turn.ensures.step)
