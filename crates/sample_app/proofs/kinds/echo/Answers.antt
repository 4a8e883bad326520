use Rattle.std.proofs.Common.{[], ◌∷◌, ◌++◌, ◌∙◌}
use Rattle.sample_app.specs.Kinds.{echo_is, echo}
use Rattle.sample_app.proofs.kinds.echo.Goals as goal

pub method-requires : goal.method-requires
method-requires c = echo_is

pub returns : goal.returns
unfolding echo
returns c = λ k. record {
  interface = c.in_ok-units_of_ascii.ensures.value k;
  methods = (c.in_ok-push.ensures.ok ∙ (λ i. c.new-methods.ensures i ++ c.in_ok-method.ensures echo_is i ∷ [])) k;
}
