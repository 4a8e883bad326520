-- A call that is begun and ended.
use Rattle.std.proofs.Common.{◌≡◌, ℕ, ◌+◌, true, false, List, [], ◌∷◌, ◌++◌, refl, ap, ◌∙◌, append-nil, arith}
use Rattle.std.specs.Prelude.{Result, Ok, Err, ◌&&◌}
use Rattle.object_ids.specs.declared.ids.ObjId.{ObjId}
use Rattle.object_ids.proofs.Exact.{same_id-self}
use Rattle.history.specs.declared.asks.Ask.TheVariants.{Begin}
use Rattle.history.specs.declared.replies.Refused.{Refused}
use Rattle.history.specs.declared.replies.Refused.TheVariants.{HistoryFull, Full, OutOfMemory}
use Rattle.history.specs.declared.replies.Turn.{Turn}
use Rattle.history.proofs.Partitions.{one_if}
use Rattle.ports.specs.Balance.{calls_begun, calls_ended}
use Rattle.space.specs.Entries.{entry_of}
use Rattle.ports.specs.Ports.{is_started, begins, ends, entries_of, Shows, abandoned_at}
use Rattle.space.specs.declared.asked.Asked.{Asked}
use Rattle.space.proofs.RunSteps.{count-last}
use Rattle.test_lock.specs.Started.{started_by, AllEnded}

none_of : one_if false ≡ 0
unfolding one_if
none_of = refl

one_of : one_if true ≡ 1
unfolding one_if
one_of = refl

begun_after : (entries : List Asked) (m : ℕ) (o : ObjId) (answer : Result Turn Refused) → calls_begun (entries ++ entries_of m (Begin o) answer) o ≡ calls_begun entries o + one_if (started_by answer)
begun_after entries m o (Ok turn) = count-last (begins o) entries (entry_of m (Begin o) (Ok turn)) ∙ ap (λ b. calls_begun entries o + one_if b) (ap (λ v. v && is_started turn.reply) (same_id-self o))
begun_after entries m o (Err HistoryFull) = count-last (begins o) entries (entry_of m (Begin o) (Err HistoryFull))
begun_after entries m o (Err (Full kind)) = count-last (begins o) entries (entry_of m (Begin o) (Err (Full kind)))
begun_after entries m o (Err OutOfMemory) = let same = ap (λ l. calls_begun l o) (append-nil entries) in let zero_if = none_of in omega (arith, same, zero_if)

ended_after : (entries : List Asked) (m : ℕ) (o : ObjId) (answer : Result Turn Refused) → calls_ended (entries ++ entries_of m (Begin o) answer) o ≡ calls_ended entries o
ended_after entries m o (Ok turn) = let one = count-last (ends o) entries (entry_of m (Begin o) (Ok turn)) in let zero_if = none_of in omega (arith, one, zero_if)
ended_after entries m o (Err HistoryFull) = let one = count-last (ends o) entries (entry_of m (Begin o) (Err HistoryFull)) in let zero_if = none_of in omega (arith, one, zero_if)
ended_after entries m o (Err (Full kind)) = let one = count-last (ends o) entries (entry_of m (Begin o) (Err (Full kind))) in let zero_if = none_of in omega (arith, one, zero_if)
ended_after entries m o (Err OutOfMemory) = ap (λ l. calls_ended l o) (append-nil entries)

pub shown : (entries entries2 : List Asked) (m : ℕ) (o : ObjId) (answer : Result Turn Refused) → entries2 ≡ entries ++ entries_of m (Begin o) answer → AllEnded entries o → started_by answer ≡ true → Shows entries2 o
shown entries entries2 m o answer is even started =
    let begun = begun_after entries m o answer in let ended = ended_after entries m o answer in let more = ap one_if started in let one = one_of in
    let b = ap (λ l. calls_begun l o) is in let e = ap (λ l. calls_ended l o) is in
    omega (arith, begun, ended, more, one, b, e, even)

pub ended_not_begun : (entries entries2 : List Asked) (m : ℕ) (o : ObjId) (answer : Result Turn Refused) → entries2 ≡ entries ++ entries_of m (Begin o) answer → AllEnded entries o → started_by answer ≡ false → AllEnded entries2 o
ended_not_begun entries entries2 m o answer is even started =
    let begun = begun_after entries m o answer in let ended = ended_after entries m o answer in let more = ap one_if started in let zero_if = none_of in
    let b = ap (λ l. calls_begun l o) is in let e = ap (λ l. calls_ended l o) is in
    omega (arith, begun, ended, more, zero_if, b, e, even)

pub ended_abandoned : (entries entries2 entries3 : List Asked) (m n place : ℕ) (o : ObjId) (answer : Result Turn Refused) → entries2 ≡ entries ++ entries_of m (Begin o) answer → entries3 ≡ entries2 ++ abandoned_at n o place ∷ []
    → AllEnded entries o → started_by answer ≡ true → AllEnded entries3 o
ended_abandoned entries entries2 entries3 m n place o answer is next even started =
    let begun = begun_after entries m o answer in let ended = ended_after entries m o answer in let more = ap one_if started in let one = one_of in let zero_if = none_of in
    let b = ap (λ l. calls_begun l o) is in let e = ap (λ l. calls_ended l o) is in
    let b3 = ap (λ l. calls_begun l o) next in let e3 = ap (λ l. calls_ended l o) next in
    let last_b = count-last (begins o) entries2 (abandoned_at n o place) in let last_e = count-last (ends o) entries2 (abandoned_at n o place) in
    let itself = ap one_if (same_id-self o) in
    omega (arith, begun, ended, more, one, zero_if, b, e, b3, e3, last_b, last_e, itself, even)
