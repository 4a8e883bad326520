use Rattle.std.proofs.Common.{[], ◌∷◌, ◌++◌, ◌∙◌}
use Rattle.sample_app.specs.Kinds.{add_is, get_is, counter}
use Rattle.sample_app.proofs.kinds.counter.Goals as goal

pub method-requires : goal.method-requires
method-requires c = add_is

pub returns : goal.returns
unfolding counter
returns c = λ k. record {
  interface = c.in_ok-units_of_ascii.ensures.value k;
  methods = (c.in_ok-push-2.ensures.ok ∙ (λ i. (c.in_ok-push.ensures.ok ∙ (λ j. c.new-methods.ensures j ++ c.in_ok-method.ensures add_is j ∷ [])) i ++ c.in_ok-method-2.ensures get_is i ∷ [])) k;
}
