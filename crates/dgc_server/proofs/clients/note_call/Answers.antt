use Rattle.std.proofs.Common.{◌≡◌, ◌+◌, ◌≤◌, ap, sym, subst, ◌∙◌, arith, List}
use Rattle.object_ids.specs.declared.ids.ObjId.{ObjId}
use Rattle.dgc_server.specs.Entry.{Entry}
use Rattle.dgc_server.specs.Table.{entry_of, with_entry}
use Rattle.dgc_server.specs.StandsForCalls.{entry_after}
use Rattle.dgc_server.specs.HolderIndex.{Way, counted_at, is_counted, one_if}
use Rattle.dgc_server.specs.Chunks.{all_of}
use Rattle.dgc_server.proofs.IndexLaws.{none-is-counted, own-counted}
use Rattle.dgc_server.proofs.Chunked.{all-counted, both_ok, on_err}
use Rattle.dgc_server.proofs.Freeing.{if_ok}
use Rattle.dgc_server.proofs.Ordered.{client-of}
use Rattle.dgc_server.proofs.BoardLaws.{always_err}
use Rattle.dgc_server.proofs.clients.note_call.Goals as goal

pub note_own-requires-clause-enough : goal.note_own-requires-clause-enough
note_own-requires-clause-enough c = λ w o.
    let es = all_of c.args.board.now.chunks.items in
    let own = own-counted (is_counted w c.args.from o) (none-is-counted c.args.from o w) es c.args.client.now in
    let counted = c.requires.counted w o in
    let least : one_if (is_counted w c.args.from o (entry_of es c.args.client.now)) ≤ counted_at w c.args.counts.now o = omega arith in
    subst (λ l. one_if (is_counted w c.args.from o (entry_of l c.args.client.now)) ≤ counted_at w c.args.counts.now o) (sym (c.split_full.ensures.same)) least

pub returns-clause-counted : goal.returns-clause-counted
returns-clause-counted c = both_ok c.note_own.result c.note_own.ensures.ok c.note_own.ensures.counts (λ ok counts.
    let es = all_of c.args.board.now.chunks.items in
    let client = c.args.client.now in
    let call = c.args.call.now in
    let whole : all_of c.split_full.new.board.chunks.items ≡ es = c.split_full.ensures.same in
    let next : Entry = entry_after c.args.lease call.kind call.number.now call.objects.now call.time (entry_of es client) in
    let P : List Entry → Type 0 = λ l. (w : Way) (o : ObjId) → counted_at w c.note_own.new.counts o + one_if (is_counted w c.args.from o (entry_of l client))
    ≡ counted_at w c.args.counts.now o + one_if (is_counted w c.args.from o (entry_after c.args.lease call.kind call.number.now call.objects.now call.time (entry_of l client))) in
    let moved : P es = subst P whole counts in
    all-counted c.args.from es next (λ w o. counted_at w c.args.counts.now o) (λ w o. counted_at w c.note_own.new.counts o) (all_of c.note_own.new.board.chunks.items) c.requires.ordered c.requires.counted
    (ok ∙ ap (λ l. with_entry (entry_after c.args.lease call.kind call.number.now call.objects.now call.time (entry_of l client)) l) whole)
    (λ w o. ap (λ d. counted_at w c.note_own.new.counts o + one_if (is_counted w c.args.from o (entry_of es d))) (client-of es client) ∙ moved w o))

pub returns-clause-bounded : goal.returns-clause-bounded
returns-clause-bounded c = if_ok c.note_own.result c.note_own.ensures.bounded (λ noted w n small a. w n (c.split_full.ensures.bounded c.args.from n a))

pub returns-clause-still : goal.returns-clause-still
returns-clause-still c = on_err c.note_own.result c.note_own.ensures.still (λ w n a. w n (c.split_full.ensures.bounded c.args.from n a))

pub returns-then-is_empty-clause-bounded : goal.returns-then-is_empty-clause-bounded
returns-then-is_empty-clause-bounded c = if_ok c.note_first.result c.note_first.ensures.bounded (λ noted w n small a. w n small)

pub returns-in_err-split_full-clause-still : goal.returns-in_err-split_full-clause-still
returns-in_err-split_full-clause-still c = always_err c.from_residual.result (λ n a. c.split_full.ensures.bounded c.args.from n a)
