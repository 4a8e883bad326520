use Rattle.std.proofs.Common.{rules}
use Rattle.dgc_client.proofs.RefEntries.{refs-lapsed}
use Rattle.dgc_client.proofs.ref_map.lapse.Goals as goal

pub returns : goal.returns
returns c = refs-lapsed _ _ (λ k v b w g call. search rules) c.args.refs.now.entries _ c.retain.ensures.filtered
