use Rattle.std.proofs.Common.{None, ap, sym, ◌∙◌}
use Rattle.std.specs.Prelude.{option_map}
use Rattle.dgc_client.specs.SentMap.{dirty_at}
use Rattle.dgc_client.proofs.SentEntries.{found-dirty, found-updated}
use Rattle.dgc_client.proofs.sent_map.take.Goals as goal

pub returns-clause-was : goal.returns-clause-was
returns-clause-was c = ap (option_map (dirty_at c.args.number.now)) c.swap_remove.ensures.value ∙ sym (found-dirty c.args.number.now c.args.sent.now.entries)

pub returns-clause-rest : goal.returns-clause-rest
returns-clause-rest c = found-updated c.args.number.now None c.args.sent.now.entries c.swap_remove.new.self.entries c.swap_remove.ensures.updates.0
