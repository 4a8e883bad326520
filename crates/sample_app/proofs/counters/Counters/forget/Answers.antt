use Rattle.std.proofs.Common.{ap, ◌∙◌}
use Rattle.sample_app.specs.Counters.{without}
use Rattle.sample_app.proofs.Counting.{taken_out}
use Rattle.sample_app.proofs.counters.Counters.forget.Goals as goal

pub returns : goal.returns
returns c = c.shift_remove-old.ensures.entries ∙ taken_out c.self.inside.pairs.entries c.args.object.now ∙ ap (λ p. without p c.args.object.now) c.self.view_is
