use Rattle.std.proofs.Common.{◌≡◌, ◌+◌, ◌<◌, ◌++◌, List, length, refl, ap, sym, subst, ◌∙◌, arith, add-one}
use Rattle.std.specs.Prelude.{slice_set, insert}
use Rattle.std.specs.List.{list_all, AllByRecursion}
use Rattle.std.proofs.lemmas.Bool.{lt-ltb}
use Rattle.std.proofs.lemmas.List.{length-set}
use Rattle.std.proofs.lemmas.List.Edits.{length-insert}
use Rattle.dgc_server.specs.declared.clients.Chunk.{Chunk}
use Rattle.dgc_server.specs.Entry.{Entry}
use Rattle.dgc_server.specs.HolderIndex.{IsSettled}
use Rattle.dgc_server.specs.Chunks.{all_of, ends_of, is_filled, IsBounded}
use Rattle.dgc_server.proofs.Chunked.{split-all, split-test}
use Rattle.dgc_server.proofs.BoardLaws.{every-at, every-front, every-back, every-split, part-bounded}
use Rattle.dgc_server.proofs.Skipping.{same-end}
use Rattle.dgc_server.proofs.clients.split_full.Goals as goal

pub returns-clause-same : goal.returns-clause-same
returns-clause-same c =
    let e = c.reserve.ensures.chunks in
    let rs = c.reserve.new.self.chunks.items in
    let i = c.chunk_of-at_chunk.result in
    let x = c.index_mut-chunk.result.now in
    let y : Chunk = record { entries = c.split_into.new.entries; least = x.least } in
    let z : Chunk = record { entries = c.split_into.new.back; least = x.least } in
    let within : i < length rs = (let bound = c.chunk_of-at_chunk.ensures.bound in let d = ap (λ (l : List Chunk). length l) (c.deref.ensures.value ∙ sym e) in omega arith) in
    ap all_of c.insert.ensures.chunks ∙ ap (λ n. all_of (insert (slice_set rs i y) n z)) (add-one i)
    ∙ split-all rs i y z x within (ap (λ (v : Chunk). v.entries.items) (sym c.index_mut-chunk.ensures.value) ∙ c.split_into.ensures.parts) ∙ ap all_of e

pub returns-clause-filled : goal.returns-clause-filled
returns-clause-filled c =
    let e = c.reserve.ensures.chunks in
    let rs = c.reserve.new.self.chunks.items in
    let i = c.chunk_of-at_chunk.result in
    let x = c.index_mut-chunk.result.now in
    let y : Chunk = record { entries = c.split_into.new.entries; least = x.least } in
    let z : Chunk = record { entries = c.split_into.new.back; least = x.least } in
    let within : i < length rs = (let bound = c.chunk_of-at_chunk.ensures.bound in let d = ap (λ (l : List Chunk). length l) (c.deref.ensures.value ∙ sym e) in omega arith) in
    ap (list_all is_filled) (c.insert.ensures.chunks ∙ ap (λ n. insert (slice_set rs i y) n z) (add-one i))
    ∙ split-test is_filled rs i y z within (ap (list_all is_filled) e ∙ c.requires.filled) (lt-ltb 0 (length y.entries.items) c.split_into.ensures.front) (lt-ltb 0 (length z.entries.items) c.split_into.ensures.back)

pub returns-clause-some : goal.returns-clause-some
returns-clause-some c =
    let e = c.reserve.ensures.chunks in
    let rs = c.reserve.new.self.chunks.items in
    let i = c.chunk_of-at_chunk.result in
    let x = c.index_mut-chunk.result.now in
    let y : Chunk = record { entries = c.split_into.new.entries; least = x.least } in
    let z : Chunk = record { entries = c.split_into.new.back; least = x.least } in
    let within : i < length rs = (let bound = c.chunk_of-at_chunk.ensures.bound in let d = ap (λ (l : List Chunk). length l) (c.deref.ensures.value ∙ sym e) in omega arith) in
    let set = length-set rs i y in
    let more = length-insert (slice_set rs i y) (i + 1) z (omega arith) in
    let long = ap (λ (l : List Chunk). length l) c.insert.ensures.chunks in omega arith

pub returns-clause-bounded : goal.returns-clause-bounded
returns-clause-bounded c = λ m n a.
    let e = c.reserve.ensures.chunks in
    let rs = c.reserve.new.self.chunks.items in
    let i = c.chunk_of-at_chunk.result in
    let x = c.index_mut-chunk.result.now in
    let y : Chunk = record { entries = c.split_into.new.entries; least = x.least } in
    let z : Chunk = record { entries = c.split_into.new.back; least = x.least } in
    let P : List Chunk → Type 0 = AllByRecursion (IsBounded m n) in
    let S : List Entry → Type 0 = AllByRecursion (IsSettled m x.least) in
    let within : i < length rs = (let bound = c.chunk_of-at_chunk.ensures.bound in let d = ap (λ (l : List Chunk). length l) (c.deref.ensures.value ∙ sym e) in omega arith) in
    let all : P rs = subst P (sym e) a in
    let own : IsBounded m n x = subst (IsBounded m n) (sym c.index_mut-chunk.ensures.value) (every-at (IsBounded m n) rs i x within all) in
    let parts : x.entries.items ≡ y.entries.items ++ z.entries.items = c.split_into.ensures.parts in
    subst P (sym (c.insert.ensures.chunks ∙ ap (λ k. insert (slice_set rs i y) k z) (add-one i)))
    (every-split (IsBounded m n) rs i y z within all (part-bounded m n x y (λ s. every-front (IsSettled m x.least) y.entries.items z.entries.items (subst S parts s)) refl own)
    (part-bounded m n x z (λ s. every-back (IsSettled m x.least) y.entries.items z.entries.items (subst S parts s)) refl own))

pub insert-requires-clause-within : goal.insert-requires-clause-within
insert-requires-clause-within c =
    let rs = c.reserve.new.self.chunks.items in
    let i = c.chunk_of-at_chunk.result in
    let x = c.index_mut-chunk.result.now in
    let y : Chunk = record { entries = c.split_into.new.entries; least = x.least } in
    let bound = c.chunk_of-at_chunk.ensures.bound in let d = ap (λ (l : List Chunk). length l) (c.deref.ensures.value ∙ sym c.reserve.ensures.chunks) in
    let set = length-set rs i y in omega arith

pub insert-requires-clause-ends : goal.insert-requires-clause-ends
insert-requires-clause-ends c =
    let rs = c.reserve.new.self.chunks.items in
    let i = c.chunk_of-at_chunk.result in
    let x = c.index_mut-chunk.result.now in
    let y : Chunk = record { entries = c.split_into.new.entries; least = x.least } in
    c.reserve.ensures.ends ∙ c.requires.ends ∙ ap ends_of (sym c.reserve.ensures.chunks) ∙ sym (same-end rs i y x (ap (λ (z : Chunk). z.least) c.index_mut-chunk.ensures.value))
