use Rattle.std.proofs.Common.{rules, ◌≡◌, ◌<◌, ◌++◌, ◌∷◌, [], length, filter, List, take, get_or, ap, sym, subst, ◌∙◌, arith}
use Rattle.std.specs.Prelude.{vec_len}
use Rattle.std.proofs.lemmas.List.{length-set, append-nil}
use Rattle.std.proofs.lemmas.List.Elements.{filter-append}
use Rattle.dgc_server.specs.declared.clients.Chunk.{Chunk}
use Rattle.std.specs.List.{AllByRecursion}
use Rattle.dgc_server.specs.Entry.{Entry, is_entry_kept}
use Rattle.dgc_server.specs.HolderIndex.{IsSettled}
use Rattle.dgc_server.specs.Chunks.{all_of, IsBounded, IsCalmChunk}
use Rattle.dgc_server.proofs.Chunked.{all-append}
use Rattle.dgc_server.proofs.Moving.{same-at, take-chunk, take-set-next, drop-set-next, take-end}
use Rattle.dgc_server.proofs.BoardLaws.{every-at, every-next, settled-of}
use Rattle.dgc_server.proofs.Skipping.{same-end}
use Rattle.dgc_server.proofs.drops.keep_each.Goals as goal

pub loop-i-preserved : goal.loop-i-preserved
loop-i-preserved c =
    let cs = c.loop-i.chunks.items in
    let all = c.args.chunks.now.items in
    let i = c.loop-i.i in
    let x = c.index_mut.result.now in
    let inv = c.loop-i.invariant in
    let test = c.loop-i-test.true in let len = c.len.ensures in let wide : vec_len c.loop-i.chunks ≡ length cs = search rules in let long = inv.long in
    let within : i < length all = omega arith in
    let own : get_or all i x ≡ x = sym (same-at cs all i x inv.rest) ∙ sym c.index_mut.ensures.value in
    let y : Chunk = record { entries = c.keep.new.entries; least = x.least } in
    let here : i < length cs = omega arith in
    let kept : y.entries.items ≡ filter (is_entry_kept c.args.now) (get_or all i x).entries.items =
    c.keep.ensures ∙ ap (λ (z : Chunk). filter (is_entry_kept c.args.now) z.entries.items) (sym own) in record {
      long = length-set cs i y ∙ long;
      rest = drop-set-next cs all i y inv.rest;
      ends = same-end cs i y x (ap (λ (z : Chunk). z.least) c.index_mut.ensures.value) ∙ inv.ends;
      bounded = λ n a. (let calm : IsCalmChunk c.args.now n x = subst (IsCalmChunk c.args.now n) own (every-at (IsCalmChunk c.args.now n) all i x within a) in
          let S : List Entry → Type 0 = AllByRecursion (IsSettled c.args.now x.least) in
          every-next (IsBounded c.args.now n) cs i y here (inv.bounded n a)
          (record { settled = λ h. subst S (sym c.keep.ensures) (settled-of c.args.now x.least x.entries.items (calm.calm h)); least = calm.least }));
      done = ap all_of (take-set-next cs i y here) ∙ all-append (take i cs) (y ∷ [])
          ∙ ap (λ l. l ++ (y.entries.items ++ [])) inv.done ∙ ap (λ l. filter (is_entry_kept c.args.now) (all_of (take i all)) ++ l) (append-nil y.entries.items ∙ kept)
          ∙ sym (filter-append (is_entry_kept c.args.now) (all_of (take i all)) (get_or all i x).entries.items) ∙ ap (filter (is_entry_kept c.args.now)) (sym (take-chunk all i x within));
    }

pub returns-clause-entries : goal.returns-clause-entries
returns-clause-entries c =
    let cs = c.loop-i.chunks.items in
    let all = c.args.chunks.now.items in
    let stop = c.loop-i-test.false in let len = c.len.ensures in let wide : vec_len c.loop-i.chunks ≡ length c.loop-i.chunks.items = search rules in let long = c.loop-i.invariant.long in
    ap all_of (sym (take-end cs c.loop-i.i (omega arith))) ∙ c.loop-i.invariant.done ∙ ap (λ l. filter (is_entry_kept c.args.now) (all_of l)) (take-end all c.loop-i.i (omega arith))

pub returns-clause-bounded : goal.returns-clause-bounded
returns-clause-bounded c = λ n a.
    let stop = c.loop-i-test.false in let len = c.len.ensures in let wide : vec_len c.loop-i.chunks ≡ length c.loop-i.chunks.items = search rules in
    subst (AllByRecursion (IsBounded c.args.now n)) (take-end c.loop-i.chunks.items c.loop-i.i (omega arith)) (c.loop-i.invariant.bounded n a)
