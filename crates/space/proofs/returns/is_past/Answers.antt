use Rattle.std.proofs.Common.{sym, ◌∙◌, arith}
use Rattle.std.specs.Prelude.{not}
use Rattle.std.proofs.lemmas.Bool.{le-ltb}
use Rattle.history.specs.declared.limits.TheConstants.{MAX_AWAITING}
use Rattle.dgc_server.proofs.Fresh.{fresh-within}
use Rattle.export_table.specs.Waits.{is_waiting}
use Rattle.space.specs.Acts.{awaiting_after}
use Rattle.space.proofs.returns.is_past.Goals as goal

pub returns-else-most-waiting : goal.returns-else-most-waiting
returns-else-most-waiting c =
    let few = fresh-within (λ o. not (is_waiting c.args.now o c.args.uid.now c.args.tables.now.exports.waits)) c.args.live.now in
    let test = c.if-most-waiting.false in
    let now_waiting = c.waiting_count.ensures in let count = c.from.ensures in let most = c.from-most.ensures in
    le-ltb c.from-most.result _ (omega (arith, test))
    ∙ sym (le-ltb MAX_AWAITING (awaiting_after c.args.now c.args.uid.now c.args.made c.args.live.now c.args.tables.now.exports.waits) (omega (arith, few, test, now_waiting, count, most)))
