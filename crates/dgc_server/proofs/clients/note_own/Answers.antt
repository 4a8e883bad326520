use Rattle.std.proofs.Common.{◌≡◌, ℕ, ◌+◌, ◌≤◌, ◌<◌, List, length, get_or, ap, sym, subst, ◌∙◌, arith, true}
use Rattle.std.specs.List.{list_all, AllByRecursion}
use Rattle.std.proofs.lemmas.List.{get_or_default, length-set, length-map}
use Rattle.object_ids.specs.declared.ids.ObjId.{ObjId}
use Rattle.dgc_server.specs.declared.clients.Chunk.{Chunk}
use Rattle.dgc_server.specs.Entry.{Entry, each_has_number}
use Rattle.dgc_server.specs.Table.{entry_of, with_entry}
use Rattle.dgc_server.specs.StandsForCalls.{entry_after, is_in_order, each_once}
use Rattle.dgc_server.specs.HolderIndex.{Way, counted_at, is_counted, one_if, bound_of, IsNoted, IsSettled}
use Rattle.dgc_server.specs.Chunks.{all_of, is_filled, IsChunkOf, IsBounded}
use Rattle.dgc_server.proofs.Freeing.{if_ok}
use Rattle.dgc_server.proofs.MarkLaws.{all-at}
use Rattle.dgc_server.proofs.Ordered.{client-of}
use Rattle.dgc_server.proofs.Told.{on_ok}
use Rattle.dgc_server.proofs.Chunked.{all-part, order-chunk, set-none, set-test, on_err, noted-filled}
use Rattle.dgc_server.proofs.BoardLaws.{every-at, every-set, all-noted, noted-bounded, part-bounded, three_ok, two_err}
use Rattle.dgc_server.proofs.Skipping.{noted-end}
use Rattle.dgc_server.proofs.clients.note_own.Goals as goal

pub note_in-noted-requires-clause-numbered : goal.note_in-noted-requires-clause-numbered
note_in-noted-requires-clause-numbered c =
    ap (λ (x : Chunk). list_all (λ e. each_has_number e.objects) x.entries.items) c.index_mut.ensures.value
    ∙ all-part (λ e. each_has_number e.objects) c.args.board.now.chunks.items c.chunk_of-at_chunk.result c.index_mut.result.now (let bound = c.chunk_of-at_chunk.ensures.bound in let e = ap (λ (l : List Chunk). length l) c.deref.ensures.value in omega arith) c.requires.numbered

pub note_in-noted-requires-clause-ordered : goal.note_in-noted-requires-clause-ordered
note_in-noted-requires-clause-ordered c =
    ap (λ (x : Chunk). is_in_order x.entries.items) c.index_mut.ensures.value
    ∙ order-chunk c.args.board.now.chunks.items c.chunk_of-at_chunk.result c.index_mut.result.now (let bound = c.chunk_of-at_chunk.ensures.bound in let e = ap (λ (l : List Chunk). length l) c.deref.ensures.value in omega arith) c.requires.ordered

pub note_in-noted-requires-clause-once : goal.note_in-noted-requires-clause-once
note_in-noted-requires-clause-once c =
    ap (λ (x : Chunk). list_all (λ e. each_once e.objects) x.entries.items) c.index_mut.ensures.value
    ∙ all-part (λ e. each_once e.objects) c.args.board.now.chunks.items c.chunk_of-at_chunk.result c.index_mut.result.now (let bound = c.chunk_of-at_chunk.ensures.bound in let e = ap (λ (l : List Chunk). length l) c.deref.ensures.value in omega arith) c.requires.once

pub note_in-noted-requires-clause-enough : goal.note_in-noted-requires-clause-enough
note_in-noted-requires-clause-enough c = λ w o.
    let cs = c.args.board.now.chunks.items in
    let i = c.chunk_of-at_chunk.result in
    let x = c.index_mut.result.now in
    let client = c.args.client.now in
    let call = c.args.call.now in
    let own : entry_of (all_of cs) client ≡ entry_of x.entries.items client =
    ap (λ l. entry_of (all_of l) client) (sym c.deref.ensures.value) ∙ c.chunk_of-at_chunk.ensures.entry x ∙ ap (λ l. entry_of (get_or l i x).entries.items client) c.deref.ensures.value
    ∙ ap (λ (z : Chunk). entry_of z.entries.items client) (sym c.index_mut.ensures.value) in
    subst (λ e. one_if (is_counted w c.args.from o e) ≤ counted_at w c.args.counts.now o) own (c.requires.enough w o)

pub returns-clause-ok : goal.returns-clause-ok
returns-clause-ok c = on_ok c.note_in-noted.result c.note_in-noted.ensures.ok (λ e.
    let cs = c.args.board.now.chunks.items in
    let i = c.chunk_of-at_chunk.result in
    let x = c.index_mut.result.now in
    let client = c.args.client.now in
    let call = c.args.call.now in
    let own : entry_of (all_of cs) client ≡ entry_of x.entries.items client =
    ap (λ l. entry_of (all_of l) client) (sym c.deref.ensures.value) ∙ c.chunk_of-at_chunk.ensures.entry x ∙ ap (λ l. entry_of (get_or l i x).entries.items client) c.deref.ensures.value
    ∙ ap (λ (z : Chunk). entry_of z.entries.items client) (sym c.index_mut.ensures.value) in
    let y = c.note_in-noted.new.chunk in
    let bound : i < length cs = (let bound = c.chunk_of-at_chunk.ensures.bound in let e = ap (λ (l : List Chunk). length l) c.deref.ensures.value in omega arith) in
    let next : Entry = entry_after c.args.lease call.kind call.number.now call.objects.now call.time (entry_of (all_of cs) client) in
    let here : x ≡ get_or cs i y = c.index_mut.ensures.value ∙ get_or_default cs i x y bound in
    let put : y.entries.items ≡ with_entry next (get_or cs i y).entries.items =
    e ∙ ap (λ (d : Entry). with_entry (entry_after c.args.lease call.kind call.number.now call.objects.now call.time d) x.entries.items) (sym own) ∙ ap (λ (z : Chunk). with_entry next z.entries.items) here in
    let P : List Chunk → Type 0 = λ l. IsChunkOf l client i in
    ap all_of c.note_end.ensures.chunks ∙ sym (subst P c.deref.ensures.value c.chunk_of-at_chunk.ensures.place next y (client-of (all_of cs) client) put))

pub returns-clause-counts : goal.returns-clause-counts
returns-clause-counts c = on_ok c.note_in-noted.result c.note_in-noted.ensures.counts (λ counts.
    let cs = c.args.board.now.chunks.items in
    let i = c.chunk_of-at_chunk.result in
    let x = c.index_mut.result.now in
    let client = c.args.client.now in
    let call = c.args.call.now in
    let own : entry_of (all_of cs) client ≡ entry_of x.entries.items client =
    ap (λ l. entry_of (all_of l) client) (sym c.deref.ensures.value) ∙ c.chunk_of-at_chunk.ensures.entry x ∙ ap (λ l. entry_of (get_or l i x).entries.items client) c.deref.ensures.value
    ∙ ap (λ (z : Chunk). entry_of z.entries.items client) (sym c.index_mut.ensures.value) in
    let P : Entry → Type 0 = λ e. (w : Way) (o : ObjId) → counted_at w c.note_in-noted.new.counts o + one_if (is_counted w c.args.from o e)
    ≡ counted_at w c.args.counts.now o + one_if (is_counted w c.args.from o (entry_after c.args.lease call.kind call.number.now call.objects.now call.time e)) in
    subst P (sym own) counts)

pub returns-clause-noted : goal.returns-clause-noted
returns-clause-noted c = if_ok c.note_in-noted.result c.note_in-noted.ensures.noted (λ noted is.
    let cs = c.args.board.now.chunks.items in
    let i = c.chunk_of-at_chunk.result in
    let x = c.index_mut.result.now in
    let client = c.args.client.now in
    let call = c.args.call.now in
    let own : entry_of (all_of cs) client ≡ entry_of x.entries.items client =
    ap (λ l. entry_of (all_of l) client) (sym c.deref.ensures.value) ∙ c.chunk_of-at_chunk.ensures.entry x ∙ ap (λ l. entry_of (get_or l i x).entries.items client) c.deref.ensures.value
    ∙ ap (λ (z : Chunk). entry_of z.entries.items client) (sym c.index_mut.ensures.value) in
    let P : Entry → Type 0 = λ e. IsNoted c.args.from e (entry_after c.args.lease call.kind call.number.now call.objects.now call.time e) noted in
    subst P (sym own) is)

pub returns-clause-err : goal.returns-clause-err
returns-clause-err c = on_err c.note_in-noted.result c.note_in-noted.ensures.err (λ e.
    let y = c.note_in-noted.new.chunk in
    ap all_of c.note_end.ensures.chunks ∙ set-none c.args.board.now.chunks.items c.chunk_of-at_chunk.result y c.index_mut.result.now (let bound = c.chunk_of-at_chunk.ensures.bound in let e = ap (λ (l : List Chunk). length l) c.deref.ensures.value in omega arith)
    (e ∙ ap (λ (z : Chunk). z.entries.items) c.index_mut.ensures.value))

pub returns-clause-filled : goal.returns-clause-filled
returns-clause-filled c =
    let cs = c.args.board.now.chunks.items in
    let i = c.chunk_of-at_chunk.result in
    let x = c.index_mut.result.now in
    let y = c.note_in-noted.new.chunk in
    let bound : i < length cs = (let bound = c.chunk_of-at_chunk.ensures.bound in let e = ap (λ (l : List Chunk). length l) c.deref.ensures.value in omega arith) in
    let some : is_filled x ≡ true = ap is_filled c.index_mut.ensures.value ∙ all-at is_filled cs i x bound c.requires.filled in
    ap (list_all is_filled) c.note_end.ensures.chunks ∙ set-test is_filled cs i y bound c.requires.filled (noted-filled _ x.entries.items y.entries.items c.note_in-noted.result some c.note_in-noted.ensures.ok c.note_in-noted.ensures.err)

pub returns-clause-bounded : goal.returns-clause-bounded
returns-clause-bounded c = three_ok c.note_in-noted.result c.note_in-noted.ensures.noted c.note_in-noted.ensures.least c.note_in-noted.ensures.ok (λ noted is least ok n a.
    let cs = c.args.board.now.chunks.items in
    let i = c.chunk_of-at_chunk.result in
    let x = c.index_mut.result.now in
    let y = c.note_in-noted.new.chunk in
    let call = c.args.call.now in
    let next : Entry = entry_after c.args.lease call.kind call.number.now call.objects.now call.time (entry_of x.entries.items c.args.client.now) in
    let bound : i < length cs = (let bound = c.chunk_of-at_chunk.ensures.bound in let e = ap (λ (l : List Chunk). length l) c.deref.ensures.value in omega arith) in
    let own : IsBounded c.args.from n x = subst (IsBounded c.args.from n) (sym c.index_mut.ensures.value) (every-at (IsBounded c.args.from n) cs i x bound a) in
    subst (AllByRecursion (IsBounded c.args.from (bound_of call.time n noted.until))) (sym c.note_end.ensures.chunks)
    (all-noted c.args.from n call.time noted.until cs i y a (noted-bounded c.args.from n call.time noted.until next x y c.requires.later is.until own ok least)))

pub returns-clause-still : goal.returns-clause-still
returns-clause-still c = two_err c.note_in-noted.result c.note_in-noted.ensures.err c.note_in-noted.ensures.still (λ e least n a.
    let cs = c.args.board.now.chunks.items in
    let i = c.chunk_of-at_chunk.result in
    let x = c.index_mut.result.now in
    let y = c.note_in-noted.new.chunk in
    let bound : i < length cs = (let bound = c.chunk_of-at_chunk.ensures.bound in let e = ap (λ (l : List Chunk). length l) c.deref.ensures.value in omega arith) in
    let own : IsBounded c.args.from n x = subst (IsBounded c.args.from n) (sym c.index_mut.ensures.value) (every-at (IsBounded c.args.from n) cs i x bound a) in
    subst (AllByRecursion (IsBounded c.args.from n)) (sym c.note_end.ensures.chunks)
    (every-set (IsBounded c.args.from n) cs i y a (part-bounded c.args.from n x y (λ s. subst (AllByRecursion (IsSettled c.args.from x.least)) (sym e) s) least own)))

pub note_end-requires-clause-within : goal.note_end-requires-clause-within
note_end-requires-clause-within c =
    let cs = c.args.board.now.chunks.items in
    let i = c.chunk_of-at_chunk.result in
    let set = length-set cs i c.note_in-noted.new.chunk in
    let bound = c.chunk_of-at_chunk.ensures.bound in let e = ap (λ (l : List Chunk). length l) c.deref.ensures.value in omega arith

pub note_end-requires-clause-long : goal.note_end-requires-clause-long
note_end-requires-clause-long c =
    let cs = c.args.board.now.chunks.items in
    let set = length-set cs c.chunk_of-at_chunk.result c.note_in-noted.new.chunk in
    let same = ap (λ (l : List ℕ). length l) c.requires.ends in
    let ends = length-map cs (λ (x : Chunk). x.least) in omega arith

pub note_end-requires-clause-others : goal.note_end-requires-clause-others
note_end-requires-clause-others c = λ d.
    let cs = c.args.board.now.chunks.items in
    let i = c.chunk_of-at_chunk.result in
    let bound : i < length cs = (let bound = c.chunk_of-at_chunk.ensures.bound in let e = ap (λ (l : List Chunk). length l) c.deref.ensures.value in omega arith) in
    noted-end cs c.args.board.now.ends.items i d c.note_in-noted.new.chunk bound c.requires.ends
