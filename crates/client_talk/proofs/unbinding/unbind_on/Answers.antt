use Rattle.client_talk.proofs.Registry.{unbound_on, not_unbound_on}
use Rattle.client_talk.proofs.unbinding.unbind_on.Goals as goal

pub returns-in-Ok-clause-talks : goal.returns-in-Ok-clause-talks
returns-in-Ok-clause-talks g c s k links given given2 here stands = unbound_on s k links given given2 _ _ c.args.name.now here stands (c.in-Ok.ensures.asks c.requires)

pub returns-in-Err-clause-talks : goal.returns-in-Err-clause-talks
returns-in-Err-clause-talks g c s k links given given2 here stands = not_unbound_on s k links given given2 _ _ c.args.name.now c.in-Err.end here stands (c.in-Err.ensures.asks c.requires)
