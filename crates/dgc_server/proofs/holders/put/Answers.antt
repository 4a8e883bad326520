use Rattle.std.proofs.Common.{◌≡◌, ap}
use Rattle.std.specs.Prelude.{false, is_some}
use Rattle.dgc_server.specs.HolderIndex.{has_count}
use Rattle.dgc_server.proofs.HolderLaws.{put-count, put-kept}
use Rattle.dgc_server.proofs.holders.put.Goals as goal

pub returns-in-Ok-clause-value : goal.returns-in-Ok-clause-value
returns-in-Ok-clause-value c = put-count c.args.object.now c.args.count c.args.counts.now c.insert.new.self c.in-Ok.ensures.updates.0

pub returns-in-Ok-clause-kept : goal.returns-in-Ok-clause-kept
returns-in-Ok-clause-kept c = put-kept c.args.object.now c.args.count c.args.counts.now c.insert.new.self c.in-Ok.ensures.updates.0

pub returns-in-Err-clause-value : goal.returns-in-Err-clause-value
returns-in-Err-clause-value c =
    let absent : has_count c.args.counts.now c.args.object.now ≡ false = ap is_some c.in-Err.ensures.absent in
    λ o. absurd (let there = c.requires in cc)
