use Rattle.std.proofs.Common.{◌≡◌, ℕ, ◌∷◌, ◌⊎◌, List, arith, max, sym, subst, rules, w64, FitsSigned, Option, Some, None}
use Rattle.std.specs.Prelude.{ℤ}
use Rattle.std.proofs.lemmas.Int.{to_z-of_z}
use Rattle.object_ids.specs.declared.ids.ObjId.{ObjId}
use Rattle.history.specs.declared.replies.Refused.{Refused}
use Rattle.history.specs.declared.replies.Refused.TheVariants.{OutOfMemory}
use Rattle.dgc_server.specs.Counts.{clean_call, clients_with_call}
use Rattle.dgc_server.specs.StandsForCalls.{StandsFor}
use Rattle.space.specs.Acts.{call_refusal}
use Rattle.space.specs.Faults.{refused_for}
use Rattle.space.proofs.Refusals.{clean-taken, clean-refused}
use Rattle.space.proofs.calls.take_clean.Goals as goal

pub returns-in-Ok-clause-ok : goal.returns-in-Ok-clause-ok
returns-in-Ok-clause-ok c lease moment calls s le =
    let fits : FitsSigned w64 c.args.call.now.number = search rules in
    let time : max c.args.call.now.moment moment ≡ c.args.call.now.moment = omega arith in
    let T : ℕ → ℤ → List ObjId → Type 0 = λ t n os. StandsFor lease c.clean.new.self t (clean_call t c.args.call.now.client.now n os c.args.call.now.strong ∷ calls) in
    let P : ℤ → Type 0 = λ n. T (max c.args.call.now.moment moment) n c.args.live.now in
    let M : ℕ → Type 0 = λ t. T t c.args.call.now.number c.args.live.now in
    subst M time (subst P (to_z-of_z w64 c.args.call.now.number fits) (c.in-Ok.ensures.ok lease moment calls s))

pub returns-in-Ok-clause-refusal : goal.returns-in-Ok-clause-refusal
returns-in-Ok-clause-refusal c lease moment calls s le =
    let fits : FitsSigned w64 c.args.call.now.number = search rules in
    let time : max c.args.call.now.moment moment ≡ c.args.call.now.moment = omega arith in
    let reported : ℕ → ℤ → List ObjId → Option Refused = λ t n os. call_refusal lease t calls (clean_call t c.args.call.now.client.now n os c.args.call.now.strong) in
    let P : ℤ → Type 0 = λ n. reported (max c.args.call.now.moment moment) n c.args.live.now ≡ None in
    let M : ℕ → Type 0 = λ t. reported t c.args.call.now.number c.args.live.now ≡ None in
    subst M time (subst P (to_z-of_z w64 c.args.call.now.number fits) (clean-taken c.args.call.now.strong (clients_with_call lease (max c.args.call.now.moment moment) calls c.args.call.now.client.now) _ _ (c.in-Ok.ensures.pairs lease moment calls s)))

pub returns-in-Err-clause-refusal : goal.returns-in-Err-clause-refusal
returns-in-Err-clause-refusal c lease moment calls s le =
    let fits : FitsSigned w64 c.args.call.now.number = search rules in
    let time : max c.args.call.now.moment moment ≡ c.args.call.now.moment = omega arith in
    let reported : ℕ → ℤ → List ObjId → Option Refused = λ t n os. call_refusal lease t calls (clean_call t c.args.call.now.client.now n os c.args.call.now.strong) in
    let A : ℕ → ℤ → List ObjId → Refused → Type 0 = λ t n os r. (reported t n os ≡ Some r) ⊎ (r ≡ OutOfMemory) in
    let P : ℤ → Type 0 = λ n. A (max c.args.call.now.moment moment) n c.args.live.now (refused_for c.in-Err.fault) in
    let M : ℕ → Type 0 = λ t. A t c.args.call.now.number c.args.live.now (refused_for c.in-Err.fault) in
    let R : Refused → Type 0 = λ r. A c.args.call.now.moment c.args.call.now.number c.args.live.now r in
    subst R (sym c.refused_for.ensures) (subst M time (subst P (to_z-of_z w64 c.args.call.now.number fits)
    (clean-refused c.args.call.now.strong (clients_with_call lease (max c.args.call.now.moment moment) calls c.args.call.now.client.now) _ c.in-Err.fault c.in-Err.ensures.clients (c.in-Err.ensures.pairs lease moment calls s))))
