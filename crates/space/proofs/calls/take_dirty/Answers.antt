use Rattle.std.proofs.Common.{◌≡◌, ℕ, ◌∷◌, ◌⊎◌, List, arith, max, sym, subst, rules, w64, to_z, of_z, FitsSigned, Option, Some, None}
use Rattle.std.specs.Prelude.{ℤ}
use Rattle.std.proofs.lemmas.Int.{to_z-of_z}
use Rattle.object_ids.specs.declared.ids.ObjId.{ObjId}
use Rattle.history.specs.declared.replies.Refused.{Refused}
use Rattle.history.specs.declared.replies.Refused.TheVariants.{OutOfMemory}
use Rattle.dgc_server.specs.Counts.{dirty_call}
use Rattle.dgc_server.specs.StandsForCalls.{StandsFor}
use Rattle.space.specs.Acts.{call_refusal}
use Rattle.space.specs.Faults.{refused_for}
use Rattle.space.proofs.Refusals.{dirty-taken, dirty-refused}
use Rattle.space.proofs.calls.take_dirty.Goals as goal

pub returns-in-Ok-clause-ok : goal.returns-in-Ok-clause-ok
returns-in-Ok-clause-ok c lease moment calls s le =
    let fits : FitsSigned w64 c.args.call.now.number = search rules in
    let short : FitsSigned w64 c.args.call.now.asked = search rules in
    let time : max c.args.call.now.moment moment ≡ c.args.call.now.moment = omega arith in
    let T : ℕ → ℤ → ℤ → List ObjId → Type 0 = λ t n a os. StandsFor lease c.dirty.new.self t (dirty_call t c.args.call.now.client.now n a os ∷ calls) in
    let P : ℤ → Type 0 = λ n. T (max c.args.call.now.moment moment) n (to_z w64 (of_z w64 c.args.call.now.asked)) c.args.live.now in
    let A : ℤ → Type 0 = λ a. T (max c.args.call.now.moment moment) c.args.call.now.number a c.args.live.now in
    let M : ℕ → Type 0 = λ t. T t c.args.call.now.number c.args.call.now.asked c.args.live.now in
    subst M time (subst A (to_z-of_z w64 c.args.call.now.asked short) (subst P (to_z-of_z w64 c.args.call.now.number fits) (c.in-Ok.ensures.ok lease moment calls s)))

pub returns-in-Ok-clause-refusal : goal.returns-in-Ok-clause-refusal
returns-in-Ok-clause-refusal c lease moment calls s le =
    let fits : FitsSigned w64 c.args.call.now.number = search rules in
    let short : FitsSigned w64 c.args.call.now.asked = search rules in
    let time : max c.args.call.now.moment moment ≡ c.args.call.now.moment = omega arith in
    let reported : ℕ → ℤ → ℤ → List ObjId → Option Refused = λ t n a os. call_refusal lease t calls (dirty_call t c.args.call.now.client.now n a os) in
    let P : ℤ → Type 0 = λ n. reported (max c.args.call.now.moment moment) n (to_z w64 (of_z w64 c.args.call.now.asked)) c.args.live.now ≡ None in
    let A : ℤ → Type 0 = λ a. reported (max c.args.call.now.moment moment) c.args.call.now.number a c.args.live.now ≡ None in
    let M : ℕ → Type 0 = λ t. reported t c.args.call.now.number c.args.call.now.asked c.args.live.now ≡ None in
    subst M time (subst A (to_z-of_z w64 c.args.call.now.asked short) (subst P (to_z-of_z w64 c.args.call.now.number fits)
    (dirty-taken _ _ _ (c.in-Ok.ensures.clients lease moment calls s) (c.in-Ok.ensures.pairs lease moment calls s))))

pub returns-in-Err-clause-refusal : goal.returns-in-Err-clause-refusal
returns-in-Err-clause-refusal c lease moment calls s le =
    let fits : FitsSigned w64 c.args.call.now.number = search rules in
    let short : FitsSigned w64 c.args.call.now.asked = search rules in
    let time : max c.args.call.now.moment moment ≡ c.args.call.now.moment = omega arith in
    let reported : ℕ → ℤ → ℤ → List ObjId → Option Refused = λ t n a os. call_refusal lease t calls (dirty_call t c.args.call.now.client.now n a os) in
    let E : ℕ → ℤ → ℤ → List ObjId → Refused → Type 0 = λ t n a os r. (reported t n a os ≡ Some r) ⊎ (r ≡ OutOfMemory) in
    let P : ℤ → Type 0 = λ n. E (max c.args.call.now.moment moment) n (to_z w64 (of_z w64 c.args.call.now.asked)) c.args.live.now (refused_for c.in-Err.fault) in
    let A : ℤ → Type 0 = λ a. E (max c.args.call.now.moment moment) c.args.call.now.number a c.args.live.now (refused_for c.in-Err.fault) in
    let M : ℕ → Type 0 = λ t. E t c.args.call.now.number c.args.call.now.asked c.args.live.now (refused_for c.in-Err.fault) in
    let R : Refused → Type 0 = λ r. E c.args.call.now.moment c.args.call.now.number c.args.call.now.asked c.args.live.now r in
    subst R (sym c.refused_for.ensures) (subst M time (subst A (to_z-of_z w64 c.args.call.now.asked short) (subst P (to_z-of_z w64 c.args.call.now.number fits)
    (dirty-refused _ _ c.in-Err.fault (c.in-Err.ensures.clients lease moment calls s) (c.in-Err.ensures.pairs lease moment calls s)))))
