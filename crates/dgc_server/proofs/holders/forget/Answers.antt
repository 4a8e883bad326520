use Rattle.dgc_server.proofs.HolderLaws.{removed}
use Rattle.dgc_server.proofs.holders.forget.Goals as goal

pub returns : goal.returns
returns c = removed c.args.object.now c.args.counts.now c.swap_remove.new.self c.swap_remove.ensures.updates.0
