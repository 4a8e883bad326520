use Rattle.std.proofs.Common.{rules, ◌≡◌, ◌+◌, ◌<◌, ◌++◌, ◌∷◌, [], length, map, take, get_or, refl, ap, sym, subst, ◌∙◌, arith}
use Rattle.std.specs.Prelude.{slice_set, vec_len}
use Rattle.std.proofs.lemmas.List.{append-nil, map-append}
use Rattle.dgc_server.specs.declared.clients.Chunk.{Chunk}
use Rattle.dgc_server.specs.HolderIndex.{is_named, with_only, objects_in}
use Rattle.dgc_server.specs.Chunks.{all_of, IsCalmChunk}
use Rattle.dgc_server.proofs.Chunked.{all-append, set-same, set-counts}
use Rattle.dgc_server.proofs.Moving.{objects-append, only-part, take-set-next, take-end}
use Rattle.dgc_server.proofs.Purging.{only-none, only-only}
use Rattle.dgc_server.proofs.BoardLaws.{every-at, every-set}
use Rattle.dgc_server.proofs.Skipping.{same-end}
use Rattle.dgc_server.proofs.drops.keep_named.Goals as goal

pub loop-i-init : goal.loop-i-init
loop-i-init c = record { same = refl; to_go = c.requires; calm = λ m n a. a; ends = refl; first = λ z. z; front = λ z y. rw z refl }

pub keep_named-to_go-requires : goal.keep_named-to_go-requires
keep_named-to_go-requires c =
    let cs = c.loop-i.chunks.items in
    let x = c.index_mut.result.now in
    let q = is_named c.args.counts.now in
    let wide : vec_len c.loop-i.chunks ≡ length cs = search rules in let test = c.loop-i-test.true in let len = c.len.ensures in
    let part = only-part q cs c.loop-i.i x (omega arith) in
    let all = c.loop-i.invariant.to_go in
    let own = ap (λ (z : Chunk). objects_in z.entries.items) c.index_mut.ensures.value in
    let only = ap (λ (z : Chunk). objects_in (map (with_only q) z.entries.items)) c.index_mut.ensures.value in omega arith

pub loop-i-preserved : goal.loop-i-preserved
loop-i-preserved c =
    let cs = c.loop-i.chunks.items in
    let i = c.loop-i.i in
    let x = c.index_mut.result.now in
    let y : Chunk = record { entries = c.keep_named-to_go.new.entries; least = x.least } in
    let q = is_named c.args.counts.now in
    let inv = c.loop-i.invariant in
    let wide : vec_len c.loop-i.chunks ≡ length cs = search rules in let test = c.loop-i-test.true in let len = c.len.ensures in
    let here : i < length cs = omega arith in
    let same : map (with_only q) y.entries.items ≡ map (with_only q) (get_or cs i x).entries.items =
    c.keep_named-to_go.ensures.same ∙ ap (λ (z : Chunk). map (with_only q) z.entries.items) c.index_mut.ensures.value in
    let whole : map (with_only q) (all_of (slice_set cs i y)) ≡ map (with_only q) (all_of cs) =
    set-same (map (with_only q)) (map-append (with_only q)) cs i y x here same in
    let counts = set-counts objects_in objects-append cs i y x here in
    let own = ap (λ (z : Chunk). objects_in z.entries.items) c.index_mut.ensures.value in
    let all = inv.to_go in
    let rest = c.keep_named-to_go.ensures.to_go in
    let objects = ap objects_in whole in record {
      same = whole ∙ inv.same;
      to_go = omega arith;
      calm = λ m n a. (let all = inv.calm m n a in
          let own : IsCalmChunk m n x = subst (IsCalmChunk m n) (sym c.index_mut.ensures.value) (every-at (IsCalmChunk m n) cs i x here all) in
          every-set (IsCalmChunk m n) cs i y all (record { calm = λ h. c.keep_named-to_go.ensures.calm m x.least (own.calm h); least = own.least }));
      ends = same-end cs i y x (ap (λ (z : Chunk). z.least) c.index_mut.ensures.value) ∙ inv.ends;
      first = λ z. refl;
      front = λ z y0.
          let done : y.entries.items ≡ map (with_only q) x.entries.items = c.keep_named-to_go.ensures.all (inv.first y0) in
          let again : map (with_only q) y.entries.items ≡ y.entries.items = ap (map (with_only q)) done ∙ only-only q x.entries.items ∙ sym done in
          let took : all_of (take (i + 1) (slice_set cs i y)) ≡ all_of (take i cs) ++ y.entries.items =
          ap all_of (take-set-next cs i y here) ∙ all-append (take i cs) (y ∷ []) ∙ ap (λ l. all_of (take i cs) ++ l) (append-nil y.entries.items) in
          ap (map (with_only q)) took ∙ map-append (with_only q) (all_of (take i cs)) y.entries.items
          ∙ ap (λ l. l ++ map (with_only q) y.entries.items) (inv.front z y0) ∙ ap (λ l. all_of (take i cs) ++ l) again ∙ sym took;
    }

pub returns-then-to_go-eq0-clause-all : goal.returns-then-to_go-eq0-clause-all
returns-then-to_go-eq0-clause-all c = λ z y.
    sym (only-none (is_named c.args.counts.now) (all_of c.loop-i.chunks.items) (let none = c.if-to_go-eq0.true in let all = c.loop-i.invariant.to_go in omega arith)) ∙ c.loop-i.invariant.same

pub returns-clause-all : goal.returns-clause-all
returns-clause-all c = λ z y.
    let q = is_named c.args.counts.now in
    let wide : vec_len c.loop-i.chunks ≡ length c.loop-i.chunks.items = search rules in let stop = c.loop-i-test.false in let len = c.len.ensures in
    let whole = take-end c.loop-i.chunks.items c.loop-i.i (omega arith) in
    ap all_of (sym whole) ∙ sym (c.loop-i.invariant.front z y) ∙ ap (λ l. map (with_only q) (all_of l)) whole ∙ c.loop-i.invariant.same
