use Rattle.std.proofs.Common.{length, ap, sym, ◌∙◌}
use Rattle.space.specs.Acts.{room_refusal, effective_by}
use Rattle.space.proofs.prepared.admit.Goals as goal

pub returns-in-Some-clause-refused : goal.returns-in-Some-clause-refused
returns-in-Some-clause-refused c =
    let effective = c.is_effective-effective.ensures ∙ ap (λ o. effective_by c.args.tables.now.exports.rows c.args.tables.now.runs.items o c.args.by c.args.ask.now) c.stood_for-stood.ensures in
    ap (λ b. room_refusal c.args.tables.now.config.stored c.args.tables.now.units (length c.args.tables.now.runs.items) (length c.args.tables.now.exports.rows) b c.args.ask.now) (sym effective)
    ∙ sym c.room_refusal.ensures ∙ c.in-Some.is
