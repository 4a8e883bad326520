use Rattle.std.proofs.Common.{sym, ◌∙◌}
use Rattle.space.proofs.Doubting.{in-doubt-taken, nothing-over}
use Rattle.space.proofs.doubts.takes_time.Goals as goal

pub returns-else-is_due : goal.returns-else-is_due
returns-else-is_due c none taken =
    in-doubt-taken c.args.leases.now c.args.now c.args.exports.now.waits taken (c.is_due.ensures c.if-is_due.false) (nothing-over c.args.now c.args.exports.now.waits (sym c.has_ended.ensures ∙ none))
