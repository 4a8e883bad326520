use Rattle.std.proofs.Common.{ap, ◌∙◌}
use Rattle.std.specs.Prelude.{filter}
use Rattle.dgc_client.specs.Log.{due_names}
use Rattle.dgc_client.specs.StandsForLog.{wants, ids_of, is_over}
use Rattle.dgc_client.proofs.client_table.ClientTable.objects_due.Goals as goal

pub returns-clause-value : goal.returns-clause-value
returns-clause-value c =
    let t = c.args.self.now in
    let r = c.renews-renews.result in
    c.due_names.ensures
    ∙ ap (due_names r) c.in_ok-ids.ensures
    ∙ ap (λ b. due_names r (ids_of (filter (wants b t.sent) t.refs))) c.is_over-over.ensures
    ∙ ap (λ b. due_names b (ids_of (filter (wants (is_over t c.args.now) t.sent) t.refs))) c.renews-renews.ensures.value
