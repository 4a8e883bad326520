use Rattle.client_talk.proofs.calling.call_with.Goals as goal

pub returns-clause-talks : goal.returns-clause-talks
returns-clause-talks g c s b0 b1 given lessee keeps stands = c.call_leased.ensures.talks s b0 b1 given lessee keeps stands
