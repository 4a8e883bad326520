use Rattle.std.proofs.Common.{◌≡◌, ◌≤◌, List, length, ap, sym, subst, ◌∙◌, false}
use Rattle.history.specs.declared.limits.TheConstants.{MAX_AWAITING}
use Rattle.export_table.specs.declared.waits.Wait.{Wait}
use Rattle.export_table.specs.Waits.{still_waiting, is_waiting, with_listed}
use Rattle.export_table.specs.Table.{IsSound}
use Rattle.export_table.proofs.Sound.{sound-listed}
use Rattle.export_table.proofs.exports.Exports.wait_for.Goals as goal

pub invariant_of-self-2 : goal.invariant_of-self-2
invariant_of-self-2 c =
    let before = c.self.inside.waits.waits in
    let P : List Wait → Type 0 = λ l. IsSound c.self.inside.space c.self.inside.ack c.self.inside.rows.added c.self.inside.rows.rows l in
    let Full : List Wait → Type 0 = λ l. (MAX_AWAITING ≤ length (still_waiting c.args.now l)) × (is_waiting c.args.now c.args.id c.args.uid l ≡ false) in
    let room : Full before → ⊥ = (λ h. (let this = c.is_full.ensures.1 h in let never = c.if-is_full.false in cc)) in
    subst P (sym (c.list.ensures.waits ∙ ap (with_listed c.self.inside.ack c.args.now c.args.id c.args.uid) c.reserve.ensures.waits))
    (sound-listed c.self.inside.space c.self.inside.ack c.self.inside.rows.added c.self.inside.rows.rows before c.args.now c.args.id c.args.uid room c.self.invariant)
