use Rattle.std.proofs.Common.{◌≡◌, ◌<◌, length, map, ap, sym, subst, ◌∙◌, arith}
use Rattle.std.specs.Prelude.{List}
use Rattle.std.specs.List.{AllByRecursion}
use Rattle.history.proofs.ListLemmas.{every-filter}
use Rattle.dgc_server.specs.Entry.{entry_after_lapse}
use Rattle.dgc_server.specs.Table.{ClientTable, after_lapse}
use Rattle.dgc_server.specs.HolderIndex.{Tally, tally_in, tally_at, sums_at, IsSettled, IsIndexed}
use Rattle.dgc_server.specs.Chunks.{all_of, is_filled, IsBounded}
use Rattle.dgc_server.proofs.BoardLaws.{all-bounded-lower, all-bounded-later, all-settled}
use Rattle.dgc_server.proofs.Chunked.{filled-all, all-filled}
use Rattle.dgc_server.proofs.IndexLaws.{all-later, nothing-lapses, same-counted, kept-counted}
use Rattle.dgc_server.proofs.Passing.{tallies-are, counts-are, sums-of, kept-sums}
use Rattle.dgc_server.proofs.SumLaws.{same-sums}
use Rattle.dgc_server.proofs.clients.Clients.pass.Goals as goal

pub invariant_of-self : goal.invariant_of-self
invariant_of-self c =
    let late = c.requires.later in let quiet = c.if-to-self.true in let moment = ap (λ (t : ClientTable). t.moment) c.self.view_is in record {
      filled = c.self.invariant.filled;
      bounded = all-bounded-later c.self.inside.moment c.self.inside.next c.args.to c.self.inside.board.chunks.items (omega arith) (omega arith) c.self.invariant.bounded;
      ends = c.self.invariant.ends;
    }

pub returns-then-to-self-clause-entries : goal.returns-then-to-self-clause-entries
returns-then-to-self-clause-entries c =
    let t = c.args.self.now in
    let later = c.requires.later in let test = c.if-to-self.true in let next = ap (λ (t : ClientTable). t.next) c.self.view_is in
    let quiet : c.args.to < t.next = omega arith in
    ap (λ (t : ClientTable). t.entries) c.self.view_is
    ∙ sym (nothing-lapses c.args.to t.next t.entries (all-later t.moment t.next c.args.to t.entries later quiet (c.requires.indexed.settled (omega arith))))

pub returns-then-to-self-clause-indexed : goal.returns-then-to-self-clause-indexed
returns-then-to-self-clause-indexed c =
    let t = c.args.self.now in
    let later = c.requires.later in let test = c.if-to-self.true in let next = ap (λ (t : ClientTable). t.next) c.self.view_is in
    let quiet : c.args.to < t.next = omega arith in
    let settled = c.requires.indexed.settled (omega arith) in
    let P : ClientTable → Type 0 = λ t. IsIndexed c.args.to t.next c.args.counts.now t.entries in
    subst P (sym c.self.view_is) record {
      settled = λ h. all-later t.moment t.next c.args.to t.entries later quiet settled;
      counted = λ w o. c.requires.indexed.counted w o ∙ sym (ap length (same-counted t.moment t.next c.args.to o w t.entries later quiet settled));
    }

pub returns-then-to-self-clause-sums : goal.returns-then-to-self-clause-sums
returns-then-to-self-clause-sums c =
    let t = c.args.self.now in
    let later = c.requires.later in let test = c.if-to-self.true in let next = ap (λ (t : ClientTable). t.next) c.self.view_is in
    let quiet : c.args.to < t.next = omega arith in
    c.requires.sums ∙ sym (same-sums t.moment t.next c.args.to t.entries later quiet (c.requires.indexed.settled (omega arith)))
    ∙ ap (λ (t : ClientTable). sums_at c.args.to t.entries) (sym c.self.view_is)

pub pass_all-passed-requires-clause-tallies : goal.pass_all-passed-requires-clause-tallies
pass_all-passed-requires-clause-tallies c =
    let t = c.args.self.now in
    let P : ClientTable → Type 0 = λ t. (k : Tally) → tally_at k c.args.counts.now c.args.sums ≡ tally_in k t.moment t.entries in
    subst P (sym c.self.view_is) (tallies-are t.moment c.args.counts.now c.args.sums t.entries c.requires.indexed.counted c.requires.sums)

pub pass_all-passed-requires-clause-bounded : goal.pass_all-passed-requires-clause-bounded
pass_all-passed-requires-clause-bounded c = all-bounded-lower c.self.inside.moment c.self.inside.next 0 c.self.inside.board.chunks.items (omega arith) c.self.invariant.bounded

pub invariant_of-self-2 : goal.invariant_of-self-2
invariant_of-self-2 c =
    let cs = c.pass_all-passed.new.board.chunks.items in
    let P : List _ → Type 0 = AllByRecursion (IsBounded c.args.to c.pass_all-passed.result.next) in record {
      filled = rw (c.keep_filled.ensures.chunks) (all-filled cs);
      bounded = subst P (sym c.keep_filled.ensures.chunks) (every-filter (IsBounded c.args.to c.pass_all-passed.result.next) is_filled cs c.pass_all-passed.ensures.bounded);
      ends = c.keep_filled.ensures.ends;
    }

pub returns-clause-entries : goal.returns-clause-entries
returns-clause-entries c =
    ap all_of c.keep_filled.ensures.chunks ∙ filled-all c.pass_all-passed.new.board.chunks.items ∙ c.pass_all-passed.ensures.entries
    ∙ ap (λ (t : ClientTable). after_lapse c.args.to t.entries) c.self.view_is

pub returns-clause-indexed : goal.returns-clause-indexed
returns-clause-indexed c =
    let es = all_of c.self.inside.board.chunks.items in
    let n = c.pass_all-passed.result.next in
    let cs = c.pass_all-passed.new.board.chunks.items in
    let kept : all_of c.keep_filled.new.self.chunks.items ≡ after_lapse c.args.to es = ap all_of c.keep_filled.ensures.chunks ∙ filled-all cs ∙ c.pass_all-passed.ensures.entries in
    let settled : AllByRecursion (IsSettled c.args.to n) (all_of cs) = all-settled c.args.to n cs c.pass_all-passed.ensures.later c.pass_all-passed.ensures.bounded in
    rw kept record {
      settled = λ h. subst (AllByRecursion (IsSettled c.args.to n)) c.pass_all-passed.ensures.entries settled;
      counted = λ w o. counts-are c.args.to c.pass_all-passed.new.counts c.pass_all-passed.result.sums (map (entry_after_lapse c.args.to) es) c.pass_all-passed.ensures.tallies w o
          ∙ sym (kept-counted c.args.to o w (map (entry_after_lapse c.args.to) es));
    }

pub returns-clause-sums : goal.returns-clause-sums
returns-clause-sums c =
    let es = all_of c.self.inside.board.chunks.items in
    let kept : all_of c.keep_filled.new.self.chunks.items ≡ after_lapse c.args.to es = ap all_of c.keep_filled.ensures.chunks ∙ filled-all c.pass_all-passed.new.board.chunks.items ∙ c.pass_all-passed.ensures.entries in
    sums-of c.args.to c.pass_all-passed.new.counts c.pass_all-passed.result.sums (map (entry_after_lapse c.args.to) es) c.pass_all-passed.ensures.tallies
    ∙ sym (kept-sums c.args.to (map (entry_after_lapse c.args.to) es)) ∙ ap (sums_at c.args.to) (sym kept)

pub keep_filled-requires : goal.keep_filled-requires
keep_filled-requires c = c.pass_all-passed.ensures.ends
