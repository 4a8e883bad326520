use Rattle.std.proofs.Common.{◌≡◌, ◌++◌, ℕ, List, length, drop, map, max, ap, sym, subst, ◌∙◌, rules}
use Rattle.std.specs.Prelude.{vec_len, not, filter}
use Rattle.std.proofs.lemmas.List.Prefix.{front_rest}
use Rattle.object_ids.specs.declared.ids.ObjId.{ObjId}
use Rattle.dgc_server.specs.Counts.{without_all}
use Rattle.dgc_server.specs.StandsForCalls.{StandsFor}
use Rattle.export_table.specs.ExportRows.{ids, held_by, stays_among}
use Rattle.export_table.specs.Table.{ExportTable, IsSound}
use Rattle.export_table.specs.Slots.{RowsHeld}
use Rattle.export_table.specs.Waits.{goes_on}
use Rattle.export_table.proofs.Slices.{slice_from}
use Rattle.export_table.proofs.Sound.{sound-part, sound-filter}
use Rattle.export_table.proofs.exports.Exports.withdraw_among.Goals as goal

pub invariant_of-self : goal.invariant_of-self
invariant_of-self c =
    let P : ℕ → Type 0 = λ n. IsSound c.self.inside.space c.self.inside.ack n c.sift_among.new.rows.rows c.sift_among.new.waits.waits in
    subst P (sym (ap (λ (t : RowsHeld). t.added) c.sift_among.ensures.rest))
    (rw c.sift_among.ensures.waits
    (sound-filter c.self.inside.space c.self.inside.ack c.self.inside.rows.added c.sift_among.new.rows.rows c.self.inside.waits.waits (goes_on c.args.now)
    (sound-part c.self.inside.space c.self.inside.ack c.self.inside.rows.added c.self.inside.rows.rows c.sift_among.new.rows.rows c.self.inside.waits.waits c.sift_among.ensures.part c.self.invariant)))

pub returns-clause-gone : goal.returns-clause-gone
returns-clause-gone c lease moment calls s =
    let held = held_by lease (max c.args.now moment) calls in
    c.sift_among.ensures.gone lease moment calls s
    ∙ ap (λ (t : ExportTable). c.args.gone.now.items ++ ids (filter (λ x. not (stays_among c.args.doubtful.now c.args.now held t.waits x)) t.rows)) c.self.view_is

pub returns-clause-dropped : goal.returns-clause-dropped
returns-clause-dropped c lease moment calls s =
    let Q : List ObjId → Type 0 = λ os. StandsFor lease c.drop_objects.new.self moment (map (without_all os) calls) in
    let held = held_by lease (max c.args.now moment) calls in
    let len : vec_len c.args.gone.now ≡ length c.args.gone.now.items = search rules in
    subst Q
    (slice_from c.len-told.result c.deref.result.now
    ∙ ap (λ (n : ℕ). drop n c.deref.result.now) (c.len-told.ensures ∙ len)
    ∙ front_rest c.deref.result.now c.args.gone.now.items _ (c.deref.ensures.value ∙ c.sift_among.ensures.gone lease moment calls s)
    ∙ ap (λ (t : ExportTable). ids (filter (λ x. not (stays_among c.args.doubtful.now c.args.now held t.waits x)) t.rows)) c.self.view_is)
    (c.drop_objects.ensures.stands lease moment calls s)
