use Rattle.std.proofs.Common.{◌≡◌, ◌+◌, ap, sym, subst, ◌∙◌, true, refl}
use Rattle.std.specs.Prelude.{◌&&◌, max, nat_lt, if◌then◌else◌}
use Rattle.std.specs.Box.{box_value}
use Rattle.history.specs.Leases.{is_dirty_kind}
use Rattle.dgc_server.specs.declared.entry.Kept.{Kept}
use Rattle.dgc_server.specs.Entry.{Entry, object_entries, objects_after, dirty_in}
use Rattle.dgc_server.specs.StandsForCalls.{each_once}
use Rattle.dgc_server.specs.HolderIndex.{counted_at, counts_in, is_counted, one_if}
use Rattle.dgc_server.proofs.HolderLaws.{each-way}
use Rattle.dgc_server.proofs.MarkLaws.{holds-after}
use Rattle.dgc_server.proofs.entry.ClientEntry.note.Goals as goal

pub returns-clause-counts : goal.returns-clause-counts
returns-clause-counts c = λ w o.
    let call = c.args.call.now in
    let e : Entry = record { client = (box_value c.self.inside.kept).client; until = c.self.inside.until; objects = object_entries (box_value c.self.inside.kept).objects.entries } in
    let until = if is_dirty_kind call.kind then max (call.time + c.args.lease) c.self.inside.until else c.self.inside.until in
    let after = objects_after (nat_lt call.time c.self.inside.until) call.kind call.number.now call.objects.now (object_entries (box_value c.self.inside.kept).objects.entries) in
    let P : Entry → Type 0 = λ x. each_once x.objects ≡ true in
    let before : c.make_room.new.objects.entries ≡ (box_value c.self.inside.kept).objects.entries = c.make_room.ensures.entries ∙ ap (λ (k : Kept). k.objects.entries) c.deref_mut-kept.ensures.value in
    let objects : object_entries c.note.new.objects.entries ≡ after =
    c.note.ensures.objects ∙ ap (λ l. objects_after (nat_lt call.time c.self.inside.until) call.kind call.number.now call.objects.now (object_entries l)) before in
    let holds : dirty_in (object_entries c.note.new.objects.entries) o ≡ (nat_lt c.args.from c.until_after-until.result && dirty_in (object_entries c.note.new.objects.entries) o) =
    ap (λ l. dirty_in l o) objects
    ∙ holds-after c.args.lease call.kind call.number.now call.objects.now call.time c.args.from e c.requires.later c.requires.some (subst P (sym c.self.view_is) c.requires.once) o
    ∙ sym (ap (λ u. nat_lt c.args.from u && dirty_in (object_entries c.note.new.objects.entries) o) c.until_after-until.ensures ∙ ap (λ l. nat_lt c.args.from until && dirty_in l o) objects) in
    let counts : counts_in w true (object_entries c.note.new.objects.entries) o ≡ counts_in w (nat_lt c.args.from c.until_after-until.result) (object_entries c.note.new.objects.entries) o =
    each-way (λ v. counts_in v true (object_entries c.note.new.objects.entries) o ≡ counts_in v (nat_lt c.args.from c.until_after-until.result) (object_entries c.note.new.objects.entries) o) holds refl w in
    ap (λ (x : Entry). counted_at w c.note.new.counts o + one_if (is_counted w c.args.from o x)) (sym c.self.view_is)
    ∙ ap (λ l. counted_at w c.note.new.counts o + one_if (counts_in w (nat_lt c.args.from c.self.inside.until) (object_entries l) o)) (sym before)
    ∙ c.note.ensures.counts w o
    ∙ ap (λ b. counted_at w c.args.counts.now o + one_if b) counts
