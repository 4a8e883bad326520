use Rattle.client_talk.proofs.Registry.{bound_on, not_bound_on, unbindable_on}
use Rattle.client_talk.proofs.binding.bind_to.Goals as goal

pub returns-then-encoded_len-gt65535-clause-talks : goal.returns-then-encoded_len-gt65535-clause-talks
returns-then-encoded_len-gt65535-clause-talks g c s k links given given2 here stands = unbindable_on s _ k links given given2 _ here stands

pub returns-in-Ok-clause-talks : goal.returns-in-Ok-clause-talks
returns-in-Ok-clause-talks g c s k links given given2 here stands = bound_on s k links given given2 _ _ c.args.name.now c.args.reference.now here stands (c.in-Ok.ensures.asks c.requires)

pub returns-in-Err-clause-talks : goal.returns-in-Err-clause-talks
returns-in-Err-clause-talks g c s k links given given2 here stands =
    not_bound_on s k links given given2 _ _ c.args.name.now c.args.reference.now c.in-Err.end here stands (c.in-Err.ensures.asks c.requires)
