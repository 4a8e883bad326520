use Rattle.std.proofs.Common.{◌≡◌, ℕ, List, length, drop, map, max, ap, sym, subst, ◌∙◌, rules}
use Rattle.std.specs.Prelude.{vec_len}
use Rattle.std.proofs.lemmas.List.Prefix.{front_rest}
use Rattle.object_ids.specs.declared.ids.ObjId.{ObjId}
use Rattle.dgc_server.specs.Counts.{without_all}
use Rattle.dgc_server.specs.StandsForCalls.{StandsFor}
use Rattle.export_table.specs.ExportRows.{held_by, withdrawn_ids}
use Rattle.export_table.specs.Table.{ExportTable, IsSound}
use Rattle.export_table.specs.Slots.{RowsHeld}
use Rattle.export_table.specs.Waits.{goes_on}
use Rattle.export_table.proofs.Slices.{slice_from}
use Rattle.export_table.proofs.Sound.{sound-part, sound-filter}
use Rattle.export_table.proofs.exports.Exports.withdraw.Goals as goal

pub invariant_of-self : goal.invariant_of-self
invariant_of-self c =
    let P : ℕ → Type 0 = λ n. IsSound c.self.inside.space c.self.inside.ack n c.sift.new.rows.rows c.sift.new.waits.waits in
    subst P (sym (ap (λ (t : RowsHeld). t.added) c.sift.ensures.rest))
    (rw c.sift.ensures.waits
    (sound-filter c.self.inside.space c.self.inside.ack c.self.inside.rows.added c.sift.new.rows.rows c.self.inside.waits.waits (goes_on c.args.now)
    (sound-part c.self.inside.space c.self.inside.ack c.self.inside.rows.added c.self.inside.rows.rows c.sift.new.rows.rows c.self.inside.waits.waits c.sift.ensures.part c.self.invariant)))

pub returns-clause-dropped : goal.returns-clause-dropped
returns-clause-dropped c lease moment calls s =
    let Q : List ObjId → Type 0 = λ os. StandsFor lease c.drop_objects.new.self moment (map (without_all os) calls) in
    let held = held_by lease (max c.args.now moment) calls in
    let len : vec_len c.args.gone.now ≡ length c.args.gone.now.items = search rules in
    subst Q
    (slice_from c.len-before.result c.deref.result.now
    ∙ ap (λ (n : ℕ). drop n c.deref.result.now) (c.len-before.ensures ∙ len)
    ∙ front_rest c.deref.result.now c.args.gone.now.items _ (c.deref.ensures.value ∙ c.sift.ensures.gone lease moment calls s)
    ∙ ap (λ (t : ExportTable). withdrawn_ids c.args.now held t.waits t.rows) c.self.view_is)
    (c.drop_objects.ensures.stands lease moment calls s)
