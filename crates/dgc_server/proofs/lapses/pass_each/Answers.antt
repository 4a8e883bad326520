use Rattle.std.proofs.Common.{◌≡◌, ◌+◌, ◌≤◌, drop, get_or, refl, ap, sym, subst, ◌∙◌, arith, true, false}
use Rattle.std.specs.Prelude.{ℕ, min, nat_lt}
use Rattle.object_ids.specs.declared.ids.ObjId.{ObjId}
use Rattle.dgc_server.specs.Entry.{Entry, entry_after_lapse, has_time_left, remembered_of}
use Rattle.dgc_server.specs.HolderIndex.{Way, Tally, Counted, Leased, Pairs, counted_at, is_counted, one_if, tally_of, tally_at}
use Rattle.dgc_server.proofs.Over.{over_more, over_next}
use Rattle.dgc_server.proofs.Passing.{Passing, each-tally, passed_of, still-same, passing-first, passing-enough, passing-goes-on, passing-over, passed-tallies, passed-ends}
use Rattle.dgc_server.proofs.lapses.pass_each.Goals as goal

pub loop-entry-init : goal.loop-entry-init
loop-entry-init c = record {
  entries = refl;
  passing = passing-first c.args.from c.args.to c.args.entries.now (λ k. tally_at k c.args.counts.now c.args.sums) _ c.requires.few (let early = c.requires.early in omega arith);
}

pub loop-entry-preserved-then-has_time_left : goal.loop-entry-preserved-then-has_time_left
loop-entry-preserved-then-has_time_left c =
    let es = c.args.entries.now in
    let ys = c.loop-entry.entries in
    let i = c.loop-entry.entry-index in
    let d = c.entry-item.result in
    let inv = c.loop-entry.invariant in
    let first : Tally → ℕ = λ k. tally_at k c.args.counts.now c.args.sums in
    let tally : Tally → ℕ = λ k. tally_at k c.loop-entry.counts c.loop-entry.so_far in
    let at : get_or ys i d ≡ get_or es i d = over_next (entry_after_lapse c.args.to) es ys i d c.loop-entry-test.true inv.entries in
    let now : nat_lt c.args.to (get_or ys i d).until ≡ true = sym c.has_time_left.ensures ∙ c.if-has_time_left.true in
    let left : nat_lt c.args.to (get_or es i d).until ≡ true = ap (has_time_left c.args.to) (sym at) ∙ now in
    let least : c.min-least.result ≡ min c.loop-entry.least (get_or es i d).until = c.min-least.ensures ∙ ap (min c.loop-entry.least) (c.until.ensures ∙ ap (λ (e : Entry). e.until) at) in
    let P : ℕ → Type 0 = λ n. Passing c.args.from c.args.to es first tally n (drop (i + 1) es) in record {
      entries = over_more (entry_after_lapse c.args.to) es ys i d (get_or ys i d) c.loop-entry-test.true c.loop-entry.auto.entries inv.entries (sym (still-same c.args.to (get_or ys i d) now));
      passing = subst P (sym least) (passing-goes-on c.args.from c.args.to es first tally c.loop-entry.least i d c.loop-entry-test.true c.requires.later inv.passing left);
    }

pub end_tenure-so_far-requires-clause-enough : goal.end_tenure-so_far-requires-clause-enough
end_tenure-so_far-requires-clause-enough c =
    let es = c.args.entries.now in
    let ys = c.loop-entry.entries in
    let i = c.loop-entry.entry-index in
    let d = c.entry-item.result in
    let inv = c.loop-entry.invariant in
    let first : Tally → ℕ = λ k. tally_at k c.args.counts.now c.args.sums in
    let tally : Tally → ℕ = λ k. tally_at k c.loop-entry.counts c.loop-entry.so_far in
    let at : get_or ys i d ≡ get_or es i d = over_next (entry_after_lapse c.args.to) es ys i d c.loop-entry-test.true inv.entries in
    let P : Entry → Type 0 = λ e. (w : Way) (o : ObjId) → one_if (is_counted w c.args.from o e) ≤ counted_at w c.loop-entry.counts o in
    subst P (sym at) (λ w o. passing-enough c.args.from c.args.to es first tally c.loop-entry.least i d c.loop-entry-test.true c.requires.later inv.passing c.requires.enough (Counted w o))

pub end_tenure-so_far-requires-clause-leased : goal.end_tenure-so_far-requires-clause-leased
end_tenure-so_far-requires-clause-leased c =
    let es = c.args.entries.now in
    let ys = c.loop-entry.entries in
    let i = c.loop-entry.entry-index in
    let d = c.entry-item.result in
    let inv = c.loop-entry.invariant in
    let first : Tally → ℕ = λ k. tally_at k c.args.counts.now c.args.sums in
    let tally : Tally → ℕ = λ k. tally_at k c.loop-entry.counts c.loop-entry.so_far in
    let at : get_or ys i d ≡ get_or es i d = over_next (entry_after_lapse c.args.to) es ys i d c.loop-entry-test.true inv.entries in
    let P : Entry → Type 0 = λ e. one_if (has_time_left c.args.from e) ≤ c.loop-entry.so_far.leased in
    subst P (sym at) (passing-enough c.args.from c.args.to es first tally c.loop-entry.least i d c.loop-entry-test.true c.requires.later inv.passing c.requires.enough Leased)

pub end_tenure-so_far-requires-clause-pairs : goal.end_tenure-so_far-requires-clause-pairs
end_tenure-so_far-requires-clause-pairs c =
    let es = c.args.entries.now in
    let ys = c.loop-entry.entries in
    let i = c.loop-entry.entry-index in
    let d = c.entry-item.result in
    let inv = c.loop-entry.invariant in
    let first : Tally → ℕ = λ k. tally_at k c.args.counts.now c.args.sums in
    let tally : Tally → ℕ = λ k. tally_at k c.loop-entry.counts c.loop-entry.so_far in
    let at : get_or ys i d ≡ get_or es i d = over_next (entry_after_lapse c.args.to) es ys i d c.loop-entry-test.true inv.entries in
    let P : Entry → Type 0 = λ e. remembered_of c.args.from e ≤ c.loop-entry.so_far.pairs in
    subst P (sym at) (passing-enough c.args.from c.args.to es first tally c.loop-entry.least i d c.loop-entry-test.true c.requires.later inv.passing c.requires.enough Pairs)

pub end_tenure-so_far-requires-clause-few : goal.end_tenure-so_far-requires-clause-few
end_tenure-so_far-requires-clause-few c = c.loop-entry.invariant.passing.few

pub loop-entry-preserved : goal.loop-entry-preserved
loop-entry-preserved c =
    let es = c.args.entries.now in
    let ys = c.loop-entry.entries in
    let i = c.loop-entry.entry-index in
    let d = c.entry-item.result in
    let inv = c.loop-entry.invariant in
    let first : Tally → ℕ = λ k. tally_at k c.args.counts.now c.args.sums in
    let tally : Tally → ℕ = λ k. tally_at k c.loop-entry.counts c.loop-entry.so_far in
    let at : get_or ys i d ≡ get_or es i d = over_next (entry_after_lapse c.args.to) es ys i d c.loop-entry-test.true inv.entries in
    let over : nat_lt c.args.to (get_or es i d).until ≡ false = ap (has_time_left c.args.to) (sym at) ∙ sym c.has_time_left.ensures ∙ c.if-has_time_left.false in
    let result : Tally → ℕ = λ k. tally_at k c.end_tenure-so_far.new.counts c.end_tenure-so_far.result in
    let P : Entry → Type 0 = λ e. (k : Tally) → result k + tally_of k c.args.from e ≡ tally k + passed_of c.args.to k e in
    let moved : P (get_or ys i d) =
    each-tally (λ k. result k + tally_of k c.args.from (get_or ys i d) ≡ tally k + passed_of c.args.to k (get_or ys i d)) c.end_tenure-so_far.ensures.counts c.end_tenure-so_far.ensures.leased c.end_tenure-so_far.ensures.pairs in record {
      entries = over_more (entry_after_lapse c.args.to) es ys i d c.end_tenure-so_far.new.entry c.loop-entry-test.true c.loop-entry.auto.entries inv.entries c.end_tenure-so_far.ensures.entry;
      passing = passing-over c.args.from c.args.to es first tally c.loop-entry.least i d c.loop-entry-test.true c.requires.later inv.passing over result (subst P at moved);
    }

pub returns-clause-tallies : goal.returns-clause-tallies
returns-clause-tallies c =
    passed-tallies c.args.from c.args.to c.args.entries.now (λ k. tally_at k c.args.counts.now c.args.sums) (λ k. tally_at k c.loop-entry.counts c.loop-entry.so_far) c.loop-entry.least c.loop-entry.entry-index
    (let stop = c.loop-entry-test.false in omega arith) c.loop-entry.invariant.passing

pub returns-clause-few : goal.returns-clause-few
returns-clause-few c = c.loop-entry.invariant.passing.few

pub returns-clause-ends : goal.returns-clause-ends
returns-clause-ends c =
    passed-ends c.args.from c.args.to c.args.entries.now (λ k. tally_at k c.args.counts.now c.args.sums) (λ k. tally_at k c.loop-entry.counts c.loop-entry.so_far) c.loop-entry.least c.loop-entry.entry-index
    (let stop = c.loop-entry-test.false in omega arith) c.loop-entry.invariant.passing
