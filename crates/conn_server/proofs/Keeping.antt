-- What a taker keeps, from one call to the next.
use Rattle.std.proofs.Common.{◌∙◌, refl}
use Rattle.conn_server.specs.Taken.{Keeps}

module _ {C S : Type 0} (holds : C → Type 0) (stays : C → S) where
  pub keeps_self : (c : C) → Keeps holds stays c c
  keeps_self c = (λ held. held, refl)

  pub keeps_on : (a b c : C) → Keeps holds stays a b → Keeps holds stays b c → Keeps holds stays a c
  keeps_on a b c first then = (λ held. then.0 (first.0 held), then.1 ∙ first.1)
