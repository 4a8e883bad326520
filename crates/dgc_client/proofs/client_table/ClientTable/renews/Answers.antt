use Rattle.std.proofs.Common.{subst}
use Rattle.dgc_client.specs.SentMap.{AreOnce}
use Rattle.dgc_client.specs.StandsForLog.{Parts}
use Rattle.dgc_client.proofs.SentEntries.{dirties-once}
use Rattle.dgc_client.proofs.client_table.ClientTable.renews.Goals as goal

pub returns-then-self-now-clause-once : goal.returns-then-self-now-clause-once
returns-then-self-now-clause-once c = subst (λ (v : Parts). AreOnce v.sent) c.self.view_is (dirties-once c.self.inside.sent.entries c.len-under_way.ensures.unique)

pub returns-else-self-now-clause-once : goal.returns-else-self-now-clause-once
returns-else-self-now-clause-once c = subst (λ (v : Parts). AreOnce v.sent) c.self.view_is (dirties-once c.self.inside.sent.entries c.len-under_way.ensures.unique)
