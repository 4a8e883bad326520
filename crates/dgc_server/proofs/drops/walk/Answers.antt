use Rattle.std.proofs.Common.{rules, ◌≡◌, ◌+◌, ◌<◌, ◌++◌, ◌∷◌, [], length, filter, take, ap, sym, subst, ◌∙◌, arith, refl}
use Rattle.std.specs.Prelude.{vec_len, slice_set}
use Rattle.std.specs.List.{list_all}
use Rattle.dgc_server.specs.declared.clients.Chunk.{Chunk}
use Rattle.dgc_server.specs.Entry.{is_entry_kept}
use Rattle.dgc_server.specs.HolderIndex.{entry_names}
use Rattle.dgc_server.specs.Chunks.{all_of, IsBounded}
use Rattle.dgc_server.proofs.Walking.{rest_of}
use Rattle.dgc_server.proofs.Chunked.{all-append, all-part, set-same, set-counts, set-all, part-fewer}
use Rattle.dgc_server.proofs.Moving.{many-append, rest-append, take-set-next, take-end}
use Rattle.std.proofs.lemmas.List.{append-nil}
use Rattle.dgc_server.proofs.BoardLaws.{every-at, every-set, part-bounded}
use Rattle.dgc_server.proofs.Skipping.{same-end}
use Rattle.dgc_server.proofs.drops.walk.Goals as goal

pub loop-i-init : goal.loop-i-init
loop-i-init c = record { same = refl; kept = c.requires.kept; counted = c.requires.counted; bounded = λ n a. a; ends = refl; first = λ z. z; front = λ z y. rw z refl }

pub walk-to_go-requires-clause-kept : goal.walk-to_go-requires-clause-kept
walk-to_go-requires-clause-kept c =
    let wide : vec_len c.loop-i.chunks ≡ length c.loop-i.chunks.items = search rules in let test = c.loop-i-test.true in let len = c.len.ensures in
    ap (λ (x : Chunk). list_all (is_entry_kept c.args.time) x.entries.items) c.index_mut.ensures.value
    ∙ all-part (is_entry_kept c.args.time) c.loop-i.chunks.items c.loop-i.i c.index_mut.result.now (omega arith) c.loop-i.invariant.kept

pub walk-to_go-requires-clause-enough : goal.walk-to_go-requires-clause-enough
walk-to_go-requires-clause-enough c =
    let wide : vec_len c.loop-i.chunks ≡ length c.loop-i.chunks.items = search rules in let test = c.loop-i-test.true in let len = c.len.ensures in
    let fewer = part-fewer (entry_names c.args.object.now) c.loop-i.chunks.items c.loop-i.i c.index_mut.result.now (omega arith) in
    let same = ap (λ (x : Chunk). length (filter (entry_names c.args.object.now) x.entries.items)) c.index_mut.ensures.value in
    let counted = c.loop-i.invariant.counted in omega arith

pub loop-i-preserved : goal.loop-i-preserved
loop-i-preserved c =
    let wide : vec_len c.loop-i.chunks ≡ length c.loop-i.chunks.items = search rules in let test = c.loop-i-test.true in let len = c.len.ensures in
    let cs = c.loop-i.chunks.items in
    let i = c.loop-i.i in
    let names = entry_names c.args.object.now in
    let x = c.index_mut.result.now in
    let y : Chunk = record { entries = c.walk-to_go.new.entries; least = x.least } in
    let here : i < length cs = omega arith in
    let set = set-counts (λ es. length (filter names es)) (many-append names) cs i y x here in
    let same = ap (λ (z : Chunk). length (filter names z.entries.items)) c.index_mut.ensures.value in
    let counted = c.loop-i.invariant.counted in
    let walked = c.walk-to_go.ensures.counted in
    let parted : length (filter names (all_of (take (i + 1) (slice_set cs i y)))) ≡ length (filter names (all_of (take i cs))) + length (filter names y.entries.items) =
    ap (λ l. length (filter names (all_of l))) (take-set-next cs i y here) ∙ ap (λ l. length (filter names l)) (all-append (take i cs) (y ∷ []))
    ∙ ap (λ l. length (filter names (all_of (take i cs) ++ l))) (append-nil y.entries.items) ∙ many-append names (all_of (take i cs)) y.entries.items in record {
      same = set-same (rest_of c.args.object.now c.args.time) (rest-append c.args.object.now c.args.time) cs i y x here
          (c.walk-to_go.ensures.same ∙ ap (λ (z : Chunk). rest_of c.args.object.now c.args.time z.entries.items) c.index_mut.ensures.value) ∙ c.loop-i.invariant.same;
      kept = set-all (is_entry_kept c.args.time) cs i y here c.loop-i.invariant.kept c.walk-to_go.ensures.kept;
      counted = omega (arith, set, same, counted, walked);
      bounded = λ n a. (let all = c.loop-i.invariant.bounded n a in
          let own : IsBounded c.args.time n x = subst (IsBounded c.args.time n) (sym c.index_mut.ensures.value) (every-at (IsBounded c.args.time n) cs i x here all) in
          every-set (IsBounded c.args.time n) cs i y all (part-bounded c.args.time n x y (λ s. c.walk-to_go.ensures.settled x.least s) refl own));
      ends = same-end cs i y x (ap (λ (z : Chunk). z.least) c.index_mut.ensures.value) ∙ c.loop-i.invariant.ends;
      first = λ z. refl;
      front = λ z y0. (let none : length (filter names y.entries.items) ≡ 0 = c.walk-to_go.ensures.all (c.loop-i.invariant.first y0) in
          let front = c.loop-i.invariant.front z y0 in omega (arith, parted, none, front));
    }

pub returns-clause-all : goal.returns-clause-all
returns-clause-all c = λ z y.
    let wide : vec_len c.loop-i.chunks ≡ length c.loop-i.chunks.items = search rules in let stop = c.loop-i-test.false in let len = c.len.ensures in
    c.loop-i.invariant.counted ∙ ap (λ l. length (filter (entry_names c.args.object.now) (all_of l))) (sym (take-end c.loop-i.chunks.items c.loop-i.i (omega arith))) ∙ c.loop-i.invariant.front z y
