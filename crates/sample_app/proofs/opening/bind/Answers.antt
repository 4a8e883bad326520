use Rattle.std.proofs.Common.{ℤ, Ok, ◌∙◌, ap, ap₂, subst, w64, rules}
use Rattle.std.specs.Prelude.{FitsSigned}
use Rattle.std.proofs.lemmas.Int.{to_z-of_z}
use Rattle.history.specs.declared.asks.Ask.{Ask}
use Rattle.history.specs.Steps.{Step}
use Rattle.space.specs.Acts.{event_of}
use Rattle.space.specs.Built.{space_of}
use Rattle.space.proofs.CollectLaws.{space-shown}
use Rattle.sample_app.specs.Opened.{bind_event}
use Rattle.sample_app.proofs.FreeOpens.{steps_on}
use Rattle.sample_app.proofs.opening.bind.Goals as goal

pub returns-in-Ok-clause-ok : goal.returns-in-Ok-clause-ok
returns-in-Ok-clause-ok c =
    let fits : FitsSigned w64 c.args.number = search rules in
    let P : Ask → Type 0 = λ a. Step c.args.space.now.configuration c.args.space.now.events (event_of 0 0 a) (Ok c.in-Ok._turn) c.turn-answer.new.self.events in
    space-shown c.turn-answer.new.self c.len-len.ensures.rows
    ∙ ap₂ space_of c.in-Ok.ensures.config (steps_on c.args.space.now.configuration c.args.space.now.events c.turn-answer.new.self.events (bind_event c.args.config.now c.args.name.now c.args.number) (Ok c.in-Ok._turn) c.requires.free (subst P (c.in_ok-ask.ensures ∙ ap (λ (z : ℤ). (bind_event c.args.config.now c.args.name.now z).ask) (to_z-of_z w64 c.args.number fits)) c.in-Ok.ensures.step)).0
