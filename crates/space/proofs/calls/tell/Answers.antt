use Rattle.std.proofs.Common.{◌≡◌, ℕ, ◌∷◌, ◌++◌, List, sym, subst, ap, arith, max, rules, w64, to_z, of_z, FitsSigned}
use Rattle.std.specs.Prelude.{ℤ, OnOk, filter}
use Rattle.std.proofs.lemmas.Int.{to_z-of_z}
use Rattle.history.specs.declared.calls.Call.{Call}
use Rattle.export_table.specs.ExportRows.{is_exported}
use Rattle.dgc_server.specs.StandsForCalls.{StandsFor}
use Rattle.dgc_server.specs.Counts.{dirty_call, clean_call}
use Rattle.space.specs.Acts.{Agrees, ForEachLogBy, call_refusal, lease_refusal}
use Rattle.space.proofs.Refusals.{no_call}
use Rattle.space.proofs.calls.tell.Goals as goal

pub returns-in-Dirty-clause-ok : goal.returns-in-Dirty-clause-ok
returns-in-Dirty-clause-ok c =
    let fits : FitsSigned w64 c.in-Dirty.number = search rules in
    let short : FitsSigned w64 c.in-Dirty.asked = search rules in
    let T : ℤ → ℤ → Type 0 = λ n a. OnOk c.tell_dirty.result (ForEachLogBy c.args.now c.args.leases.now (λ lease calls.
    StandsFor lease c.tell_dirty.new.leases c.args.now (dirty_call c.args.now c.in-Dirty.client n a (filter (is_exported c.args.exports.now.rows) c.in-Dirty.named) ∷ calls))) in
    let N : ℤ → Type 0 = λ n. T n (to_z w64 (of_z w64 c.in-Dirty.asked)) in
    let told = subst (T c.in-Dirty.number) (to_z-of_z w64 c.in-Dirty.asked short) (subst N (to_z-of_z w64 c.in-Dirty.number fits) c.tell_dirty.ensures.ok) in
    rw c.in-Dirty.is told

pub returns-in-Dirty-clause-refusal : goal.returns-in-Dirty-clause-refusal
returns-in-Dirty-clause-refusal c =
    let fits : FitsSigned w64 c.in-Dirty.number = search rules in
    let short : FitsSigned w64 c.in-Dirty.asked = search rules in
    let T : ℤ → ℤ → Type 0 = λ n a. ForEachLogBy c.args.now c.args.leases.now (λ lease calls.
    Agrees (call_refusal lease c.args.now calls (dirty_call c.args.now c.in-Dirty.client n a (filter (is_exported c.args.exports.now.rows) c.in-Dirty.named))) c.tell_dirty.result) in
    let N : ℤ → Type 0 = λ n. T n (to_z w64 (of_z w64 c.in-Dirty.asked)) in
    let told = subst (T c.in-Dirty.number) (to_z-of_z w64 c.in-Dirty.asked short) (subst N (to_z-of_z w64 c.in-Dirty.number fits) c.tell_dirty.ensures.refusal) in
    rw c.in-Dirty.is told

pub returns-in-Clean-clause-ok : goal.returns-in-Clean-clause-ok
returns-in-Clean-clause-ok c =
    let fits : FitsSigned w64 c.in-Clean.number = search rules in
    let N : ℤ → Type 0 = λ n. OnOk c.tell_clean.result (ForEachLogBy c.args.now c.args.leases.now (λ lease calls.
    StandsFor lease c.tell_clean.new.leases c.args.now (clean_call c.args.now c.in-Clean.client n (filter (is_exported c.args.exports.now.rows) c.in-Clean.named) c.in-Clean.strong ∷ calls))) in
    let told = subst N (to_z-of_z w64 c.in-Clean.number fits) c.tell_clean.ensures.ok in
    rw c.in-Clean.is told

pub returns-in-Clean-clause-refusal : goal.returns-in-Clean-clause-refusal
returns-in-Clean-clause-refusal c =
    let fits : FitsSigned w64 c.in-Clean.number = search rules in
    let N : ℤ → Type 0 = λ n. ForEachLogBy c.args.now c.args.leases.now (λ lease calls.
    Agrees (call_refusal lease c.args.now calls (clean_call c.args.now c.in-Clean.client n (filter (is_exported c.args.exports.now.rows) c.in-Clean.named) c.in-Clean.strong)) c.tell_clean.result) in
    let told = subst N (to_z-of_z w64 c.in-Clean.number fits) c.tell_clean.ensures.refusal in
    rw c.in-Clean.is told

pub returns-in_default : goal.returns-in_default
returns-in_default c =
    let none = no_call (is_exported c.args.exports.now.rows) c.args.now c.args.ask.now c.in_default.not-Dirty c.in_default.not-Clean in
    record {
      ok = λ lease moment calls s le. (
          let P : List Call → Type 0 = λ xs. StandsFor lease c.lapse.new.self c.args.now (xs ++ calls) in
          let Q : ℕ → Type 0 = λ n. StandsFor lease c.lapse.new.self n calls in
          let at_now : max c.args.now moment ≡ c.args.now = omega arith in
          subst P (sym none) (subst Q at_now (c.lapse.ensures.stands lease moment calls s)));
      refusal = λ lease moment calls s le. ap (lease_refusal lease c.args.now calls) none;
      err = tt;
    }
