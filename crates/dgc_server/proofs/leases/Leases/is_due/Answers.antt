use Rattle.std.proofs.Common.{◌≡◌, ℕ, ◌<◌, ap, sym, subst, ◌∙◌, arith}
use Rattle.std.specs.Prelude.{max}
use Rattle.std.specs.List.{AllByRecursion}
use Rattle.dgc_server.specs.HolderIndex.{IsSettled}
use Rattle.dgc_server.specs.StandsForCalls.{LeaseTable, StandsFor}
use Rattle.dgc_server.proofs.Freeing.{held-still}
use Rattle.dgc_server.proofs.leases.Leases.is_due.Goals as goal

pub returns-then-time-next : goal.returns-then-time-next
returns-then-time-next c none lease moment calls s o held =
    let time : c.time-time.result ≡ max c.args.now moment = c.time-time.ensures.value ∙ ap (max c.args.now) s.is_moment in
    let before : c.self.inside.clients.moment ≡ moment = ap (λ (t : LeaseTable). t.moment) c.self.view_is ∙ s.is_moment in
    let quiet : c.time-time.result < c.self.inside.clients.next = (let test = c.if-time-next.true in let next = c.next.ensures in omega arith) in
    let P : LeaseTable → Type 0 = λ t. StandsFor lease t moment calls in
    let S : ℕ → Type 0 = λ k. AllByRecursion (IsSettled k c.self.inside.clients.next) c.self.inside.clients.entries in
    held-still lease moment c.self.inside.clients.next (max c.args.now moment) _ calls o (omega arith) (omega arith) (subst S before (c.self.invariant.1.settled (omega arith))) (subst P (sym c.self.view_is) s)
    c.self.invariant.0.ordered held
