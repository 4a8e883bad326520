use Rattle.std.proofs.Common.{◌≡◌, sym, ◌∙◌}
use Rattle.std.specs.Prelude.{false}
use Rattle.dgc_server.specs.HolderIndex.{has_count}
use Rattle.dgc_server.proofs.HolderLaws.{touched, put-kept}
use Rattle.dgc_server.proofs.holders.touch.Goals as goal

pub returns-in_ok-insert-clause-same : goal.returns-in_ok-insert-clause-same
returns-in_ok-insert-clause-same c =
    let absent : has_count c.args.counts.now c.args.object.now ≡ false = sym c.contains_key.ensures ∙ c.if-not-contains_key.true in
    touched c.args.object.now c.args.counts.now c.insert.new.self c.no_count.result c.no_count.ensures c.in_ok-insert.ensures.updates.0 absent

pub returns-in_ok-insert-clause-kept : goal.returns-in_ok-insert-clause-kept
returns-in_ok-insert-clause-kept c = put-kept c.args.object.now c.no_count.result c.args.counts.now c.insert.new.self c.in_ok-insert.ensures.updates.0
