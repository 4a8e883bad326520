use Rattle.client_talk.proofs.calling.finish.Goals as goal

pub returns-in-Ok-clause-talks : goal.returns-in-Ok-clause-talks
returns-in-Ok-clause-talks g c s k links given lessee log keeps here stands = c.in-Ok.ensures.talks s k links given lessee log keeps here stands

pub returns-in-Err-clause-talks : goal.returns-in-Err-clause-talks
returns-in-Err-clause-talks g c s k links given lessee log keeps here stands = c.in-Err.ensures.talks s k links given lessee log keeps here stands
