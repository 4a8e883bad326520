use Rattle.std.proofs.Common.{◌∙◌}
use Rattle.client_talk.proofs.Holding.{ids_from}
use Rattle.client_talk.proofs.leases.Leases.ids.Goals as goal

pub returns-in-Ok : goal.returns-in-Ok
returns-in-Ok c = ids_from c.args.self.now _ _ (λ client first log stands. c.as_slice.ensures ∙ c.in-Ok.ensures ∙ c.refs.ensures client first log stands) c.ids_of.ensures
