use Rattle.std.proofs.Common.{ap, sym, ◌∙◌}
use Rattle.std.specs.Prelude.{filter}
use Rattle.dgc_client.specs.SentMap.{dirties_in}
use Rattle.dgc_client.specs.StandsForLog.{Parts, wants, ids_of}
use Rattle.dgc_client.proofs.Told.{if-ok}
use Rattle.dgc_client.proofs.client_table.ClientTable.objects_to_name.Goals as goal

pub returns-then-is_idle : goal.returns-then-is_idle
returns-then-is_idle c = c.new.ensures ∙ ap ids_of (sym (c.is_idle.ensures c.if-is_idle.true).0)

pub returns : goal.returns
returns c =
    if-ok c.objects_to_name.result (λ ids all. all (dirties_in c.self.inside.sent.entries) c.in_ok-asked.ensures ∙ ap (λ (v : Parts). ids_of (filter (wants c.args.over v.sent) v.refs)) c.self.view_is)
    c.objects_to_name.ensures
