use Rattle.std.proofs.Common.{◌≡◌, ◌+◌, ◌≤◌, List, ap, sym, subst, ◌∙◌, Ok, Err}
use Rattle.std.specs.Prelude.{slice_set, slice_index_or, Result, OnOk, IfOk}
use Rattle.dgc_server.specs.Entry.{Entry}
use Rattle.dgc_server.specs.Table.{entry_of, with_entry}
use Rattle.dgc_server.specs.StandsForCalls.{entry_after}
use Rattle.object_ids.specs.declared.ids.ObjId.{ObjId}
use Rattle.dgc_server.specs.HolderIndex.{Way, counted_at, is_counted, one_if, IsNoted}
use Rattle.dgc_server.proofs.Chunked.{both_ok}
use Rattle.dgc_server.proofs.Ordered.{client-of}
use Rattle.dgc_server.proofs.table.note.Goals as goal

both_if : {T E Q : Type 0} {P : T → Type 0} {R : T → Type 0} (r : Result T E) → OnOk r Q → IfOk r P → (Q → (x : T) → P x → R x) → IfOk r R
both_if (Ok x) p q f = f p x q
both_if (Err e) p q f = tt

pub note_entry-requires-clause-enough : goal.note_entry-requires-clause-enough
note_entry-requires-clause-enough c = λ w o.
    let es = c.args.entries.now.items in
    let client = c.args.client.now in
    let own : entry_of es client ≡ c.index_mut.result.now =
    ap (λ l. entry_of l client) (sym c.deref.ensures.value) ∙ c.in-Ok.ensures.entry c.index_mut.result.now
    ∙ ap (λ l. slice_index_or l c.in-Ok.place c.index_mut.result.now) c.deref.ensures.value ∙ sym c.index_mut.ensures.value in
    subst (λ e. one_if (is_counted w c.args.from o e) ≤ counted_at w c.args.counts.now o) own (c.requires.enough w o)

pub returns-in-Ok-clause-ok : goal.returns-in-Ok-clause-ok
returns-in-Ok-clause-ok c =
    let es = c.args.entries.now.items in
    let client = c.args.client.now in
    let call = c.args.call.now in
    let own : entry_of es client ≡ c.index_mut.result.now =
    ap (λ l. entry_of l client) (sym c.deref.ensures.value) ∙ c.in-Ok.ensures.entry c.index_mut.result.now
    ∙ ap (λ l. slice_index_or l c.in-Ok.place c.index_mut.result.now) c.deref.ensures.value ∙ sym c.index_mut.ensures.value in
    let next : Entry = entry_after c.args.lease call.kind call.number.now call.objects.now call.time (entry_of es client) in
    let P : List Entry → Type 0 = λ l. with_entry next l ≡ slice_set l c.in-Ok.place next in
    let put : with_entry next es ≡ slice_set es c.in-Ok.place next = subst P c.deref.ensures.value (c.in-Ok.ensures.place next (client-of es client)) in
    both_ok c.note_entry.result c.note_entry.ensures.ok c.note_entry.ensures.ok (λ e same.
    ap (slice_set es c.in-Ok.place) (e ∙ ap (λ (x : Entry). entry_after c.args.lease call.kind call.number.now call.objects.now call.time x) (sym own)) ∙ sym put)

pub returns-in-Ok-clause-counts : goal.returns-in-Ok-clause-counts
returns-in-Ok-clause-counts c =
    let es = c.args.entries.now.items in
    let client = c.args.client.now in
    let call = c.args.call.now in
    let own : entry_of es client ≡ c.index_mut.result.now =
    ap (λ l. entry_of l client) (sym c.deref.ensures.value) ∙ c.in-Ok.ensures.entry c.index_mut.result.now
    ∙ ap (λ l. slice_index_or l c.in-Ok.place c.index_mut.result.now) c.deref.ensures.value ∙ sym c.index_mut.ensures.value in
    let P : Entry → Type 0 = λ e. (w : Way) (o : ObjId) → counted_at w c.note_entry.new.counts o + one_if (is_counted w c.args.from o e)
    ≡ counted_at w c.args.counts.now o + one_if (is_counted w c.args.from o (entry_after c.args.lease call.kind call.number.now call.objects.now call.time e)) in
    both_ok c.note_entry.result c.note_entry.ensures.ok c.note_entry.ensures.counts (λ made counts.
    subst P (sym own) (λ w o. counts w o ∙ ap (λ (e : Entry). counted_at w c.args.counts.now o + one_if (is_counted w c.args.from o e)) made))

pub returns-in-Ok-clause-noted : goal.returns-in-Ok-clause-noted
returns-in-Ok-clause-noted c =
    let es = c.args.entries.now.items in
    let client = c.args.client.now in
    let call = c.args.call.now in
    let own : entry_of es client ≡ c.index_mut.result.now =
    ap (λ l. entry_of l client) (sym c.deref.ensures.value) ∙ c.in-Ok.ensures.entry c.index_mut.result.now
    ∙ ap (λ l. slice_index_or l c.in-Ok.place c.index_mut.result.now) c.deref.ensures.value ∙ sym c.index_mut.ensures.value in
    both_if c.note_entry.result c.note_entry.ensures.ok c.note_entry.ensures.noted (λ made noted is.
    let P : Entry → Type 0 = λ e. IsNoted c.args.from e (entry_after c.args.lease call.kind call.number.now call.objects.now call.time e) noted in
    subst P (sym own) (subst (λ (e : Entry). IsNoted c.args.from c.index_mut.result.now e noted) made is))

pub returns-in_ok-noted-in-Err-clause-counts : goal.returns-in_ok-noted-in-Err-clause-counts
returns-in_ok-noted-in-Err-clause-counts c =
    let client = c.args.client.now in
    let call = c.args.call.now in
    let own : entry_of c.args.entries.now.items client ≡ c.in_ok-entry-in-Err.entry =
    ap (λ l. entry_of l client) (sym c.deref.ensures.value) ∙ c.in-Err.ensures.entry ∙ sym c.in_ok-entry-in-Err.ensures in
    let P : Entry → Type 0 = λ e. (w : Way) (o : ObjId) → counted_at w c.note_entry-in-Err.new.counts o + one_if (is_counted w c.args.from o e)
    ≡ counted_at w c.args.counts.now o + one_if (is_counted w c.args.from o (entry_after c.args.lease call.kind call.number.now call.objects.now call.time e)) in
    subst P (sym own) (λ w o. c.in_ok-noted-in-Err.ensures.counts w o ∙ ap (λ (e : Entry). counted_at w c.args.counts.now o + one_if (is_counted w c.args.from o e)) c.in_ok-noted-in-Err.ensures.ok)

pub returns-in_ok-noted-in-Err-clause-noted : goal.returns-in_ok-noted-in-Err-clause-noted
returns-in_ok-noted-in-Err-clause-noted c =
    let client = c.args.client.now in
    let call = c.args.call.now in
    let own : entry_of c.args.entries.now.items client ≡ c.in_ok-entry-in-Err.entry =
    ap (λ l. entry_of l client) (sym c.deref.ensures.value) ∙ c.in-Err.ensures.entry ∙ sym c.in_ok-entry-in-Err.ensures in
    let P : Entry → Type 0 = λ e. IsNoted c.args.from e (entry_after c.args.lease call.kind call.number.now call.objects.now call.time e) c.in_ok-noted-in-Err.noted in
    subst P (sym own) (subst (λ (e : Entry). IsNoted c.args.from c.in_ok-entry-in-Err.entry e c.in_ok-noted-in-Err.noted) c.in_ok-noted-in-Err.ensures.ok c.in_ok-noted-in-Err.ensures.noted)
