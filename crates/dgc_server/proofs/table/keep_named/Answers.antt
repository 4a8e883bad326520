use Rattle.std.proofs.Common.{rules, ◌≡◌, ◌-◌, ◌<◌, List, refl, ap, sym, ◌∙◌, arith, length, get_or}
use Rattle.std.specs.Prelude.{slice_set, vec_len}
use Rattle.std.proofs.lemmas.List.{length-set}
use Rattle.std.proofs.lemmas.List.Sums.{sum_by-set}
use Rattle.dgc_server.specs.Entry.{Entry}
use Rattle.dgc_server.specs.HolderIndex.{is_named, with_only, object_count, IsCalm}
use Rattle.dgc_server.proofs.Over.{over_more}
use Rattle.dgc_server.proofs.Purging.{any_entry, only-set, only-none, one-within, one-less}
use Rattle.dgc_server.proofs.BoardLaws.{every-at, every-set, calm-only}
use Rattle.dgc_server.proofs.table.keep_named.Goals as goal

pub loop-i-init : goal.loop-i-init
loop-i-init c = record { same = refl; to_go = refl; enough = c.requires; front = λ z. rw z refl; calm = λ m n a. a; long = refl }

pub loop-i-preserved : goal.loop-i-preserved
loop-i-preserved c =
    let q = is_named c.args.counts.now in
    let es = c.loop-i.entries.items in
    let i = c.loop-i.i in
    let inv = c.loop-i.invariant in
    let wide : vec_len c.loop-i.entries ≡ length es = search rules in let test = c.loop-i-test.true in let len = c.len.ensures in
    let within : i < length es = omega arith in
    let d = any_entry es i within in
    let new : c.keep_at-to_go.new.entries.items ≡ slice_set es i (with_only q (get_or es i d)) = c.keep_at-to_go.ensures.entries d in
    let gone = c.keep_at-to_go.ensures.gone d in
    let few = one-within q i d es c.loop-i.to_go c.keep_at-to_go.result within inv.enough gone in
    let one = sum_by-set object_count es i (with_only q (get_or es i d)) d within in
    rw new record {
      same = only-set q i d es within ∙ inv.same;
      to_go = (let all = inv.to_go in omega arith);
      enough = one-less q i d es c.loop-i.to_go c.keep_at-to_go.result (c.loop-i.to_go - c.keep_at-to_go.result) within inv.enough gone (omega arith);
      front = λ z. over_more (with_only q) c.args.entries.now.items es i d (with_only q (get_or es i d)) (let long = inv.long in omega arith) inv.long (inv.front z) refl;
      calm = λ m n a. (let all = inv.calm m n a in every-set (IsCalm m n) es i (with_only q (get_or es i d)) all (calm-only q m n (get_or es i d) (every-at (IsCalm m n) es i d within all)));
      long = length-set es i (with_only q (get_or es i d)) ∙ inv.long;
    }

pub loop-i-smaller : goal.loop-i-smaller
loop-i-smaller c =
    let q = is_named c.args.counts.now in
    let es = c.loop-i.entries.items in
    let i = c.loop-i.i in
    let wide : vec_len c.loop-i.entries ≡ length es = search rules in let test = c.loop-i-test.true in let len = c.len.ensures in
    let within : i < length es = omega arith in
    let d = any_entry es i within in
    let long : length c.keep_at-to_go.new.entries.items ≡ length es = ap (λ (l : List Entry). length l) (c.keep_at-to_go.ensures.entries d) ∙ length-set es i (with_only q (get_or es i d)) in omega arith

pub overflow_sub-to_go : goal.overflow_sub-to_go
overflow_sub-to_go c =
    let es = c.loop-i.entries.items in
    let wide : vec_len c.loop-i.entries ≡ length es = search rules in let test = c.loop-i-test.true in let len = c.len.ensures in
    let within : c.loop-i.i < length es = omega arith in
    let d = any_entry es c.loop-i.i within in
    one-within (is_named c.args.counts.now) c.loop-i.i d es c.loop-i.to_go c.keep_at-to_go.result within c.loop-i.invariant.enough (c.keep_at-to_go.ensures.gone d)

pub returns-then-to_go-eq0-clause-all : goal.returns-then-to_go-eq0-clause-all
returns-then-to_go-eq0-clause-all c = λ z.
    sym (only-none (is_named c.args.counts.now) c.loop-i.entries.items (let none = c.if-to_go-eq0.true in let enough = c.loop-i.invariant.enough in omega arith)) ∙ c.loop-i.invariant.same
