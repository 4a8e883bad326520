use Rattle.std.proofs.Common.{ap, ◌∙◌, rules, w64, FitsSigned}
use Rattle.std.specs.Prelude.{pos, unwrap_or}
use Rattle.std.proofs.lemmas.Int.{to_z-of_z}
use Rattle.sample_app.specs.Counters.{count_of}
use Rattle.sample_app.proofs.Counting.{looked_up}
use Rattle.sample_app.proofs.counters.Counters.count.Goals as goal

pub returns : goal.returns
returns c =
    let fits : FitsSigned w64 c.count_or_zero.result = search rules in
    to_z-of_z w64 c.count_or_zero.result fits ∙ c.count_or_zero.ensures ∙ ap (λ v. unwrap_or v (pos 0)) c.get.ensures.value ∙ looked_up c.self.inside.pairs.entries c.args.object.now
    ∙ ap (λ p. count_of p c.args.object.now) c.self.view_is
