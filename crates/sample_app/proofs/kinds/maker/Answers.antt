use Rattle.std.proofs.Common.{[], ◌∷◌, ◌++◌, ◌∙◌}
use Rattle.sample_app.specs.Kinds.{make_is, maker}
use Rattle.sample_app.proofs.kinds.maker.Goals as goal

pub method-requires : goal.method-requires
method-requires c = make_is

pub returns : goal.returns
unfolding maker
returns c = λ k. record {
  interface = c.in_ok-units_of_ascii.ensures.value k;
  methods = (c.in_ok-push.ensures.ok ∙ (λ i. c.new-methods.ensures i ++ c.in_ok-method.ensures make_is i ∷ [])) k;
}
