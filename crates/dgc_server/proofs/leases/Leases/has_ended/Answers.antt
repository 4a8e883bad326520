use Rattle.std.proofs.Common.{◌≡◌, ap, sym, subst, ◌∙◌}
use Rattle.std.specs.Prelude.{max}
use Rattle.std.specs.List.{list_any}
use Rattle.dgc_server.specs.HolderIndex.{ends_between}
use Rattle.dgc_server.specs.StandsForCalls.{LeaseTable, StandsFor}
use Rattle.dgc_server.proofs.Ending.{ends-some, some-ends}
use Rattle.dgc_server.proofs.leases.Leases.has_ended.Goals as goal

pub returns : goal.returns
returns c lease moment calls s =
    let time : c.time.result ≡ max c.args.now moment = c.time.ensures.value ∙ ap (max c.args.now) s.is_moment in
    let before : c.self.inside.clients.moment ≡ moment = ap (λ (t : LeaseTable). t.moment) c.self.view_is ∙ s.is_moment in
    let is : c.has_ended.result ≡ list_any (ends_between moment c.time.result) c.self.inside.clients.entries =
    c.has_ended.ensures ∙ ap (λ k. list_any (ends_between k c.time.result) c.self.inside.clients.entries) before in
    let P : LeaseTable → Type 0 = λ t. StandsFor lease t moment calls in
    let stands = subst P (sym c.self.view_is) s in (
      λ h. ends-some lease moment c.time.result c.args.now _ calls stands c.self.invariant.0.ordered time (sym is ∙ h),
      λ some. is ∙ some-ends lease moment c.time.result c.args.now _ calls stands time some,
    )
