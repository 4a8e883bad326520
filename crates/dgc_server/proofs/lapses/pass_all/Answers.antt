use Rattle.std.proofs.Common.{◌≡◌, ℕ, ◌+◌, ◌≤◌, ◌<◌, ◌++◌, ◌∷◌, [], length, map, take, drop, get_or, ap, sym, subst, ◌∙◌, arith, refl, List}
use Rattle.std.specs.Prelude.{slice_set}
use Rattle.std.specs.List.{list_all, AllByRecursion}
use Rattle.std.proofs.lemmas.List.{length-set, length-map, append-nil}
use Rattle.dgc_server.specs.declared.clients.Chunk.{Chunk}
use Rattle.dgc_server.specs.Entry.{entry_after_lapse, each_has_number}
use Rattle.dgc_server.specs.StandsForCalls.{each_once}
use Rattle.dgc_server.specs.HolderIndex.{Tally, tally_in, tally_at}
use Rattle.dgc_server.specs.Table.{after_lapse}
use Rattle.dgc_server.specs.Chunks.{all_of, ends_of, next_due, IsBounded}
use Rattle.dgc_server.proofs.Chunked.{all-append, all-part}
use Rattle.dgc_server.proofs.IndexLaws.{all-later, nothing-lapses}
use Rattle.dgc_server.proofs.Moving.{same-at, take-chunk, take-set-next, drop-set-next, take-end}
use Rattle.dgc_server.proofs.Passing.{tallying-first, tallying-skipped, chunk-enough, chunk-passed, chunks-tallies}
use Rattle.dgc_server.proofs.BoardLaws.{every-next, lapse-append, settled-tallies}
use Rattle.dgc_server.proofs.Skipping.{Skipped, skipped, over, ahead, next-ahead, every-from, drop-further, noted-end, all-least, least-late}
use Rattle.dgc_server.proofs.lapses.pass_all.Goals as goal

pub loop-i-init : goal.loop-i-init
loop-i-init c =
    let all = c.args.board.now.chunks.items in
    let j = c.next_due-i.result in
    let s : Skipped c.args.from c.args.to all 0 j = skipped c.args.from 0 c.args.to all 0 j c.requires.later (omega arith) c.requires.bounded c.next_due-i.ensures in
    let es = over c.args.to all in
    let still : after_lapse c.args.to es ≡ es = nothing-lapses c.args.to (c.args.to + 1) es (all-later c.args.from (c.args.to + 1) c.args.to es c.requires.later (omega arith) s.settled) in
    let first : Tally → ℕ = λ k. tally_at k c.args.counts.now c.args.sums in record {
      long = refl;
      within = s.within;
      ends = c.requires.ends;
      rest = refl;
      done = s.taken ∙ sym (ap (after_lapse c.args.to) s.taken ∙ still);
      bounded = s.bounded tt;
      tallying = tallying-skipped c.args.from c.args.to (all_of all) first first es (all_of all) (all_of (drop j all))
          (λ k. settled-tallies c.args.from (c.args.to + 1) c.args.to k es c.requires.later (omega arith) s.settled) s.left
          (tallying-first c.args.from c.args.to (all_of all) first c.requires.few);
    }

pub pass_chunk-so_far-requires-clause-once : goal.pass_chunk-so_far-requires-clause-once
pass_chunk-so_far-requires-clause-once c =
    let cs = c.loop-i.board.chunks.items in
    let all = c.args.board.now.chunks.items in
    let i = c.loop-i.i in
    let x = c.index_mut.result.now in
    let inv = c.loop-i.invariant in
    let test = c.loop-i-test.true in let len = c.len.ensures in let long = inv.long in
    let within : i < length all = omega arith in
    let own : get_or all i x ≡ x = sym (same-at cs all i x inv.rest) ∙ sym c.index_mut.ensures.value in
    ap (λ (y : Chunk). list_all (λ e. each_once e.objects) y.entries.items) (sym own) ∙ all-part (λ e. each_once e.objects) all i x within c.requires.once

pub pass_chunk-so_far-requires-clause-numbered : goal.pass_chunk-so_far-requires-clause-numbered
pass_chunk-so_far-requires-clause-numbered c =
    let cs = c.loop-i.board.chunks.items in
    let all = c.args.board.now.chunks.items in
    let i = c.loop-i.i in
    let x = c.index_mut.result.now in
    let inv = c.loop-i.invariant in
    let test = c.loop-i-test.true in let len = c.len.ensures in let long = inv.long in
    let within : i < length all = omega arith in
    let own : get_or all i x ≡ x = sym (same-at cs all i x inv.rest) ∙ sym c.index_mut.ensures.value in
    ap (λ (y : Chunk). list_all (λ e. each_has_number e.objects) y.entries.items) (sym own) ∙ all-part (λ e. each_has_number e.objects) all i x within c.requires.numbered

pub pass_chunk-so_far-requires-clause-enough : goal.pass_chunk-so_far-requires-clause-enough
pass_chunk-so_far-requires-clause-enough c =
    let cs = c.loop-i.board.chunks.items in
    let all = c.args.board.now.chunks.items in
    let i = c.loop-i.i in
    let x = c.index_mut.result.now in
    let inv = c.loop-i.invariant in
    let test = c.loop-i-test.true in let len = c.len.ensures in let long = inv.long in
    let within : i < length all = omega arith in
    let own : get_or all i x ≡ x = sym (same-at cs all i x inv.rest) ∙ sym c.index_mut.ensures.value in
    let first : Tally → ℕ = λ k. tally_at k c.args.counts.now c.args.sums in
    let tally : Tally → ℕ = λ k. tally_at k c.loop-i.counts c.loop-i.so_far in
    let P : Chunk → Type 0 = λ y. (k : Tally) → tally_in k c.args.from y.entries.items ≤ tally k in
    subst P own (chunk-enough c.args.from c.args.to all first tally i x within inv.tallying c.requires.tallies)

pub pass_chunk-so_far-requires-clause-few : goal.pass_chunk-so_far-requires-clause-few
pass_chunk-so_far-requires-clause-few c = c.loop-i.invariant.tallying.few

pub note_end-requires-clause-long : goal.note_end-requires-clause-long
note_end-requires-clause-long c =
    let cs = c.loop-i.board.chunks.items in
    let set = length-set cs c.loop-i.i c.pass_chunk-so_far.new.chunk in
    let same = ap (λ (l : List ℕ). length l) c.loop-i.invariant.ends in
    let map = length-map cs (λ (x : Chunk). x.least) in omega arith

pub note_end-requires-clause-others : goal.note_end-requires-clause-others
note_end-requires-clause-others c = λ d.
    let cs = c.loop-i.board.chunks.items in
    let test = c.loop-i-test.true in let len = c.len.ensures in
    noted-end cs c.loop-i.board.ends.items c.loop-i.i d c.pass_chunk-so_far.new.chunk (omega arith) c.loop-i.invariant.ends

pub loop-i-preserved : goal.loop-i-preserved
loop-i-preserved c =
    let cs = c.loop-i.board.chunks.items in
    let all = c.args.board.now.chunks.items in
    let i = c.loop-i.i in
    let j = c.next_due-i-in-loop-i.result in
    let x = c.index_mut.result.now in
    let y = c.pass_chunk-so_far.new.chunk in
    let ds = c.note_end.new.self.chunks.items in
    let inv = c.loop-i.invariant in
    let test = c.loop-i-test.true in let len = c.len.ensures in let long = inv.long in
    let within : i < length all = omega arith in
    let here : i < length cs = omega arith in
    let put : ds ≡ slice_set cs i y = c.note_end.ensures.chunks in
    let whole : length ds ≡ length all = ap (λ (l : List Chunk). length l) put ∙ length-set cs i y ∙ long in
    let own : get_or all i x ≡ x = sym (same-at cs all i x inv.rest) ∙ sym c.index_mut.ensures.value in
    let first : Tally → ℕ = λ k. tally_at k c.args.counts.now c.args.sums in
    let tally : Tally → ℕ = λ k. tally_at k c.loop-i.counts c.loop-i.so_far in
    let result : Tally → ℕ = λ k. tally_at k c.pass_chunk-so_far.new.counts c.pass_chunk-so_far.result in
    let behind : drop (i + 1) ds ≡ drop (i + 1) all = ap (drop (i + 1)) put ∙ drop-set-next cs all i y inv.rest in
    let bounds : AllByRecursion (IsBounded c.args.from 0) (drop (i + 1) all) = every-from (IsBounded c.args.from 0) all (i + 1) c.requires.bounded in
    let at : j ≡ next_due (ends_of all) (i + 1) c.args.to =
    c.next_due-i-in-loop-i.ensures ∙ next-ahead c.args.to ds (i + 1) ∙ ap (λ l. (i + 1) + ahead c.args.to l) behind ∙ sym (next-ahead c.args.to all (i + 1)) in
    let was : Skipped c.args.from c.args.to all (i + 1) j = skipped c.args.from 0 c.args.to all (i + 1) j c.requires.later (omega arith) bounds at in
    let is : Skipped c.args.from c.args.to ds (i + 1) j =
    skipped c.args.from 0 c.args.to ds (i + 1) j c.requires.later (omega arith) (subst (AllByRecursion (IsBounded c.args.from 0)) (sym behind) bounds) c.next_due-i-in-loop-i.ensures in
    let es = over c.args.to (drop (i + 1) all) in
    let still : after_lapse c.args.to es ≡ es = nothing-lapses c.args.to (c.args.to + 1) es (all-later c.args.from (c.args.to + 1) c.args.to es c.requires.later (omega arith) was.settled) in
    let took : take (i + 1) ds ≡ take i cs ++ y ∷ [] = ap (take (i + 1)) put ∙ take-set-next cs i y here in
    let passed : y.entries.items ≡ after_lapse c.args.to (get_or all i x).entries.items =
    c.pass_chunk-so_far.ensures.entries ∙ ap (λ (z : Chunk). after_lapse c.args.to z.entries.items) (sym own) in
    let P : Chunk → Type 0 = λ z. (k : Tally) → result k + tally_in k c.args.from z.entries.items ≡ tally k + tally_in k c.args.to (map (entry_after_lapse c.args.to) z.entries.items) in
    let front : all_of (take (i + 1) ds) ≡ after_lapse c.args.to (all_of (take (i + 1) all)) =
    ap all_of took ∙ all-append (take i cs) (y ∷ [])
    ∙ ap (λ l. l ++ (y.entries.items ++ [])) inv.done ∙ ap (λ l. after_lapse c.args.to (all_of (take i all)) ++ l) (append-nil y.entries.items ∙ passed)
    ∙ sym (lapse-append c.args.to (all_of (take i all)) (get_or all i x).entries.items) ∙ ap (after_lapse c.args.to) (sym (take-chunk all i x within)) in record {
      long = whole;
      within = is.within;
      ends = c.note_end.ensures.ends;
      rest = drop-further ds all (i + 1) j is.onward behind;
      done = is.taken ∙ ap (λ l. l ++ over c.args.to (drop (i + 1) ds)) front
          ∙ ap (λ l. after_lapse c.args.to (all_of (take (i + 1) all)) ++ l) (ap (over c.args.to) behind ∙ sym still)
          ∙ sym (lapse-append c.args.to (all_of (take (i + 1) all)) es) ∙ ap (after_lapse c.args.to) (sym was.taken);
      bounded = is.bounded (subst (λ l. AllByRecursion (IsBounded c.args.to (c.args.to + 1)) (take (i + 1) l)) (sym put)
          (every-next (IsBounded c.args.to (c.args.to + 1)) cs i y here inv.bounded c.pass_chunk-so_far.ensures.bounded));
      tallying = tallying-skipped c.args.from c.args.to (all_of all) first result es (all_of (drop (i + 1) all)) (all_of (drop j all))
          (λ k. settled-tallies c.args.from (c.args.to + 1) c.args.to k es c.requires.later (omega arith) was.settled) was.left
          (chunk-passed c.args.from c.args.to all first tally i x within inv.tallying result (subst P (sym own) c.pass_chunk-so_far.ensures.tallies) c.pass_chunk-so_far.ensures.few);
    }

pub returns-clause-entries : goal.returns-clause-entries
returns-clause-entries c =
    let cs = c.loop-i.board.chunks.items in
    let all = c.args.board.now.chunks.items in
    let stop = c.loop-i-test.false in let len = c.len.ensures in let long = c.loop-i.invariant.long in
    ap all_of (sym (take-end cs c.loop-i.i (omega arith))) ∙ c.loop-i.invariant.done ∙ ap (λ l. after_lapse c.args.to (all_of l)) (take-end all c.loop-i.i (omega arith))

pub returns-clause-tallies : goal.returns-clause-tallies
returns-clause-tallies c =
    let first : Tally → ℕ = λ k. tally_at k c.args.counts.now c.args.sums in
    let tally : Tally → ℕ = λ k. tally_at k c.loop-i.counts c.loop-i.so_far in
    let stop = c.loop-i-test.false in let len = c.len.ensures in let long = c.loop-i.invariant.long in
    chunks-tallies c.args.from c.args.to c.args.board.now.chunks.items first tally c.loop-i.i (omega arith) c.loop-i.invariant.tallying c.requires.tallies

pub returns-clause-later : goal.returns-clause-later
returns-clause-later c =
    let cs = c.loop-i.board.chunks.items in
    let stop = c.loop-i-test.false in let len = c.len.ensures in let early = c.requires.early in
    let all : AllByRecursion (IsBounded c.args.to (c.args.to + 1)) cs = subst (AllByRecursion (IsBounded c.args.to (c.args.to + 1))) (take-end cs c.loop-i.i (omega arith)) c.loop-i.invariant.bounded in
    let late = least-late c.args.to cs (omega arith) all in let least = c.least_end.ensures in omega arith

pub returns-clause-bounded : goal.returns-clause-bounded
returns-clause-bounded c =
    let cs = c.loop-i.board.chunks.items in
    let stop = c.loop-i-test.false in let len = c.len.ensures in
    let all : AllByRecursion (IsBounded c.args.to (c.args.to + 1)) cs = subst (AllByRecursion (IsBounded c.args.to (c.args.to + 1))) (take-end cs c.loop-i.i (omega arith)) c.loop-i.invariant.bounded in
    subst (λ n. AllByRecursion (IsBounded c.args.to n) cs) (sym c.least_end.ensures) (all-least c.args.to cs all)
