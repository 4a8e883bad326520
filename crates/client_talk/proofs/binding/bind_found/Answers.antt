use Rattle.client_talk.proofs.binding.bind_found.Goals as goal

pub returns-clause-talks : goal.returns-clause-talks
returns-clause-talks g c s k links given given2 here stands = c.bind_acknowledged.ensures.talks s k links given given2 here stands
