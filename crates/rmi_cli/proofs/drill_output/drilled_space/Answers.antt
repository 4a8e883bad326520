use Rattle.std.proofs.Common.{◌∙◌, ap₂}
use Rattle.space.specs.Built.{space_of}
use Rattle.space.proofs.CollectLaws.{space-shown}
use Rattle.rmi_cli.proofs.Drilling.{takes_all, stops}
use Rattle.rmi_cli.proofs.drill_output.drilled_space.Goals as goal

pub returns-in-Ok-clause-space : goal.returns-in-Ok-clause-space
returns-in-Ok-clause-space c = space-shown c.in-Ok.space c.len-len.ensures.rows ∙ ap₂ space_of c.in-Ok.ensures.config c.in-Ok.ensures.events

pub returns-in-Ok-clause-all : goal.returns-in-Ok-clause-all
returns-in-Ok-clause-all c =
    takes_all c.args.seed c.args.rounds c.in-Ok.space.configuration c.in-Ok.space.events c.in-Ok.ensures.config c.in-Ok.ensures.events c.len-len.ensures.legal

pub returns-in-Err-clause-refused : goal.returns-in-Err-clause-refused
returns-in-Err-clause-refused c = stops c.args.seed c.args.rounds c.in-Err.refused c.in-Err.ensures.refused
