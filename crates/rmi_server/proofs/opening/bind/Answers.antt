use Rattle.rmi_server.proofs.Beginning.{bound-effective, bound-idle}
use Rattle.rmi_server.proofs.opening.bind.Goals as goal

pub returns-in-Bound-clause-bound : goal.returns-in-Bound-clause-bound
returns-in-Bound-clause-bound c = bound-effective c.args.space.now c.turn.new.self.events c.in_ok-name_of.field-0 c.args.name.now c.args.object c.in-Ok.turn c.in_ok-name_of.ensures.ok c.in_ok-name_of.ensures.short c.in-Ok.ensures.step c.in-Bound.is

pub returns-in-Ok : goal.returns-in-Ok
returns-in-Ok c = record {
  binds = tt;
  bound = tt;
  config = c.in-Ok.ensures.config;
  causes = bound-idle c.args.space.now c.turn.new.self.events c.in_ok-name_of.field-0 c.args.name.now c.args.object c.in-Ok.turn c.in_ok-name_of.ensures.ok c.in-Ok.ensures.step c.in_default.not-Bound;
}
