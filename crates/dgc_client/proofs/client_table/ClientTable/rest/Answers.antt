use Rattle.std.proofs.Common.{◌≡◌, List, [], ap, sym, subst, ◌∙◌}
use Rattle.std.specs.Prelude.{filter}
use Rattle.dgc_client.specs.declared.client_ref.ClientRef.{ClientRef}
use Rattle.dgc_client.specs.Idle.{IsIdle}
use Rattle.dgc_client.specs.SentMap.{dirties_in}
use Rattle.dgc_client.specs.StandsForLog.{Parts, wants, is_over, renews}
use Rattle.dgc_client.proofs.Resting.{none-wants}
use Rattle.dgc_client.proofs.client_table.ClientTable.rest.Goals as goal

pub invariant_of-self : goal.invariant_of-self
invariant_of-self c =
    let t = c.args.self.now in
    let sent = dirties_in c.self.inside.sent.entries in
    let over = c.is_over-over.result in
    let none : filter (wants (is_over t c.args.now) t.sent) t.refs ≡ [] = none-wants (renews t c.args.now) (filter (wants (is_over t c.args.now) t.sent) t.refs) c.requires in
    let here : filter (wants over sent) c.self.inside.refs ≡ [] =
    ap (λ (v : Parts). filter (wants over v.sent) v.refs) c.self.view_is ∙ ap (λ b. filter (wants b t.sent) t.refs) c.is_over-over.ensures ∙ none in
    (c.self.invariant.0, subst (λ (l : List ClientRef). IsIdle c.known-self-inside.result sent l) (sym c.lapse_if.ensures) (c.known-self-inside.ensures sent c.self.inside.refs here))
