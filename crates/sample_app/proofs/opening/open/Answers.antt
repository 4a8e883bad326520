use Rattle.std.proofs.Common.{Ok, ◌∙◌, ap₂}
use Rattle.space.specs.Built.{open_event, space_of}
use Rattle.space.proofs.CollectLaws.{space-shown}
use Rattle.sample_app.proofs.FreeOpens.{steps_on}
use Rattle.sample_app.proofs.opening.open.Goals as goal

pub returns-in-Ok-clause-ok : goal.returns-in-Ok-clause-ok
returns-in-Ok-clause-ok c =
    space-shown c.turn-answer.new.self c.len-len.ensures.rows
    ∙ ap₂ space_of c.in-Ok.ensures.config (steps_on c.args.space.now.configuration c.args.space.now.events c.turn-answer.new.self.events (open_event c.args.kind) (Ok c.in-Ok._turn) c.requires.free c.in-Ok.ensures.step).0
