use Rattle.std.proofs.Common.{◌≡◌, ◌+◌, ◌≤◌, ap, sym, ◌∙◌, true}
use Rattle.std.specs.Prelude.{if◌then◌else◌}
use Rattle.object_ids.specs.declared.ids.ObjId.{ObjId}
use Rattle.object_ids.specs.Same.{same_id}
use Rattle.dgc_server.specs.declared.holders.Share.{Share}
use Rattle.dgc_server.specs.Numbers.{is_dirty_highest}
use Rattle.dgc_server.specs.Entry.{object_entries, dirty_in, has_object}
use Rattle.dgc_server.specs.HolderIndex.{Holding, Naming, counted_at, counts_in, share_by, one_if}
use Rattle.dgc_server.proofs.HolderLaws.{each-way}
use Rattle.dgc_server.proofs.MarkLaws.{shifted}
use Rattle.dgc_server.proofs.Shares.{named-shifted}
use Rattle.dgc_server.proofs.marks.note_one.Goals as goal

pub shift-requires-clause-enough : goal.shift-requires-clause-enough
shift-requires-clause-enough c =
    let es = object_entries c.args.objects.now.entries in
    let o = c.args.object.now in
    let before : c.is_dirty_highest.result ≡ dirty_in es o = c.is_dirty_highest.ensures ∙ ap is_dirty_highest c.numbers_of-before.ensures in
    let share : Share = record { holds = c.is_dirty_highest.result; names = c.names-names.result } in
    each-way (λ w. one_if (share_by w share) ≤ counted_at w c.args.counts.now o) (rw before (c.requires.enough Holding)) (rw c.names-names.ensures (c.requires.enough Naming))

pub returns-clause-counts : goal.returns-clause-counts
returns-clause-counts c =
    let es = object_entries c.args.objects.now.entries in
    let o = c.args.object.now in
    let old = c.args.counts.now in
    let next = c.shift.new.counts in
    let before : c.is_dirty_highest.result ≡ dirty_in es o = c.is_dirty_highest.ensures ∙ ap is_dirty_highest c.numbers_of-before.ensures in
    each-way (λ w. (p : ObjId) → counted_at w next p + one_if (counts_in w true es p) ≡ counted_at w old p + one_if (counts_in w true (object_entries c.put.new.objects.entries) p))
    (λ p. shifted o c.with_call_noted-after.result es (counted_at Holding old) (counted_at Holding next)
    (λ q. ap (λ b. counted_at Holding next q + (if b then one_if (same_id o q) else 0)) (sym before) ∙ c.shift.ensures.counts Holding q
    ∙ ap (λ b. counted_at Holding old q + (if b then one_if (same_id o q) else 0)) c.is_dirty_highest-2.ensures) p
    ∙ ap (λ l. counted_at Holding old p + one_if (dirty_in l p)) (sym c.put.ensures.objects))
    (λ p. named-shifted o c.with_call_noted-after.result es (counted_at Naming old) (counted_at Naming next)
    (λ q. ap (λ b. counted_at Naming next q + (if b then one_if (same_id o q) else 0)) (sym c.names-names.ensures) ∙ c.shift.ensures.counts Naming q) p
    ∙ ap (λ l. counted_at Naming old p + one_if (has_object l p)) (sym c.put.ensures.objects))
