use Rattle.std.proofs.Common.{◌∙◌, ◌+◌, ap, subst, ℕ}
use Rattle.std.specs.Prelude.{◌≡◌}
use Rattle.system_objects.specs.Terms.{terms_of}
use Rattle.conn_server.specs.Plans.{link_terms}
use Rattle.conn_server.proofs.admission.Acceptor.reserve_link.Goals as goal

pub returns-in-Ok-clause-ready : goal.returns-in-Ok-clause-ready
returns-in-Ok-clause-ready g c =
    let made = c.in-Ok.ensures in
    let link = c.args.link.now in
    record {
      told = made.calls;
      untold = made.untold;
      uncounted = made.uncounted;
      hand = made.number ∙ ap (λ n. n + 1) c.if-not-with_room.ensures.same.begun;
      terms = λ kinds. subst (λ (k : ℕ). terms_of kinds c.in-Ok.ready.setup ≡ link_terms kinds c.args.shared.now.plan.now k link.host link.port)
          (ap (λ n. n + 1) c.if-not-with_room.ensures.same.begun) (made.terms kinds);
      peer_host = made.peer_host;
      host = made.host;
      time = made.time;
      drawn = made.drawn;
    }
