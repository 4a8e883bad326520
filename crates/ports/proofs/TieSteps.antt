-- How one more turn leaves a port tied to its space.
use Rattle.std.proofs.Common.{◌≡◌, ◌≢◌, ℕ, ◌+◌, ◌<◌, ◌≤◌, List, [], ◌∷◌, ◌++◌, length, refl, ap, sym, subst, ◌∙◌, arith, inl, inr, Ok, Err, length-append, append-nil}
use Rattle.std.specs.Prelude.{Result, Bool, true, false, ◌⊎◌, ◌&&◌, filter, if◌then◌else◌}
use Rattle.std.proofs.lemmas.Bool.Decides.{Decides-eqb}
use Rattle.std.specs.List.{list_any}
use Rattle.object_ids.specs.declared.ids.ObjId.{ObjId}
use Rattle.object_ids.specs.Same.{same_id}
use Rattle.object_ids.proofs.Exact.{same_id-equal}
use Rattle.history.specs.declared.asks.SpaceConfig.{SpaceConfig}
use Rattle.history.specs.declared.asks.Event.{Event}
use Rattle.history.specs.declared.asks.Ask.{Ask}
use Rattle.history.specs.declared.asks.Ask.TheVariants.{Begin, Finish, Abandon}
use Rattle.history.specs.declared.replies.Refused.{Refused}
use Rattle.history.specs.declared.replies.Refused.TheVariants.{HistoryFull, Full, OutOfMemory}
use Rattle.history.specs.declared.replies.Reply.TheVariants.{Started, NoObject, Finished, NotRunning, Done}
use Rattle.history.specs.declared.replies.Turn.{Turn}
use Rattle.history.specs.Replies.{reply}
use Rattle.history.specs.Running.{is_begin_of, is_end_of, begins_call, ends_call, running_calls_by}
use Rattle.history.specs.Steps.{Step, turn_of}
use Rattle.history.specs.Table.{is_effective, place_of, places}
use Rattle.history.proofs.ListLemmas.{and_false, and_true}
use Rattle.history.proofs.Partitions.{one_if}
use Rattle.history.proofs.RunningLaws.{running_calls_by-push}
use Rattle.history.proofs.TableLaws.{places-push}
use Rattle.space.specs.declared.asked.Asked.{Asked}
use Rattle.space.specs.declared.asked.AskedEnd.TheVariants.{Turned, Refused as Denied}
use Rattle.space.specs.Acts.{event_of}
use Rattle.space.specs.Built.{SpaceHistory}
use Rattle.space.specs.Entries.{end_of, entry_of}
use Rattle.ports.specs.Ports.{is_started, is_finished, is_done, begins_with, begins, ends_with, ends, Shows, abandoned_at, entries_of, GoesBy}
use Rattle.space.specs.Runs.{without_first}
use Rattle.ports.specs.Ties.{is_call_of, IsTied, IsTiedTold, Leads}
use Rattle.space.proofs.AbandonLaws.{runs-effective}
use Rattle.space.proofs.NotedLaws.{taken-turn, refused-turn}
use Rattle.space.proofs.RunSteps.{count-without, count-last, some-counted, none-counted, length-without, without-none, without-shorter}

-- ---- the running calls

-- The objects of the running calls after an ask.
abbrev next_calls : Bool → Ask → List ObjId → List ObjId
next_calls true (Begin o) calls = calls ++ o ∷ []
next_calls true (Finish o made listed uid) calls = without_first (is_call_of o) calls
next_calls true (Abandon o) calls = without_first (is_call_of o) calls
next_calls _ _ calls = calls

there : (calls : List ObjId) (x : ObjId) → 0 < length (filter (is_call_of x) calls) → list_any (is_call_of x) calls ≡ true
there calls x h = some-counted (is_call_of x) calls h

-- How many of the calls are of an object before and after an ask that ends or begins one of it: at most one is gone, and none that still runs
-- is too many.
record Counted (before after : ℕ) (ended begun : Bool) : Type 0 where
  pub kept : before + one_if begun ≤ after + one_if ended
  pub within : (runs : ℕ) → before + one_if begun ≤ runs + one_if ended → after ≤ runs

ended-count : (calls : List ObjId) (x o : ObjId) → Counted (length (filter (is_call_of o) calls)) (length (filter (is_call_of o) (without_first (is_call_of x) calls))) (same_id x o) false
unfolding one_if
ended-count calls x o = go (list_any (is_call_of x) calls) refl
  where
    none : list_any (is_call_of x) calls ≡ false → (it : Bool) → same_id x o ≡ it → Counted (length (filter (is_call_of o) calls)) (length (filter (is_call_of o) calls)) it false
    none s true e =
        let zero : length (filter (is_call_of o) calls) ≡ 0 = ap (λ y. length (filter (is_call_of y) calls)) (sym (same_id-equal x o e)) ∙ none-counted (is_call_of x) calls s in
        record { kept = omega arith; within = λ runs h. omega (arith, zero) }
    none s false e = record { kept = omega arith; within = λ runs h. omega (arith, h) }

    go : (some : Bool) → list_any (is_call_of x) calls ≡ some → Counted (length (filter (is_call_of o) calls)) (length (filter (is_call_of o) (without_first (is_call_of x) calls))) (same_id x o) false
    go true s =
        let one = count-without (is_call_of x) (is_call_of o) (same_id x o) (λ r e. ap (λ y. same_id y o) (same_id-equal r x e)) calls s in
        record { kept = omega (arith, one); within = λ runs h. omega (arith, one, h) }
    go false s =
        let C : List ObjId → Type 0 = λ l. Counted (length (filter (is_call_of o) calls)) (length (filter (is_call_of o) l)) (same_id x o) false in
        subst C (sym (without-none (is_call_of x) calls s)) (none s (same_id x o) refl)

counted-next : (v : Bool) (a : Ask) (calls : List ObjId) (o : ObjId) → Counted (length (filter (is_call_of o) calls)) (length (filter (is_call_of o) (next_calls v a calls))) (v && is_end_of o a) (v && is_begin_of o a)
unfolding one_if
counted-next true (Begin x) calls o = let more = count-last (is_call_of o) calls x in record { kept = omega (arith, more); within = λ runs h. omega (arith, more, h) }
counted-next true (Finish x made listed uid) calls o = ended-count calls x o
counted-next true (Abandon x) calls o = ended-count calls x o
counted-next true _ calls o = record { kept = omega arith; within = λ runs h. omega (arith, h) }
counted-next false _ calls o = record { kept = omega arith; within = λ runs h. omega (arith, h) }

few-next : (v : Bool) (a : Ask) (calls : List ObjId) → length (next_calls v a calls) ≤ length calls + 1
few-next true (Begin x) calls = let long = length-append calls (x ∷ []) in omega (arith, long)
few-next true (Finish x made listed uid) calls = let less = without-shorter (is_call_of x) calls in omega (arith, less)
few-next true (Abandon x) calls = let less = without-shorter (is_call_of x) calls in omega (arith, less)
few-next true _ calls = omega arith
few-next false _ calls = omega arith

-- ---- what the entry of a turn shows

pub agree-begins : (config : SpaceConfig) (events : List Event) (by m : ℕ) (a : Ask) (o : ObjId) → begins_with o a (Turned (turn_of config events (event_of by m a))) ≡ (is_effective config (places config events) by a && is_begin_of o a)
unfolding reply place_of
agree-begins config events by m (Begin x) o = two (is_effective config (places config events) by (Begin x)) (same_id x o) _
  where
    two : (v s : Bool) (kind : ℕ) → (s && is_started (if v then Started kind else NoObject)) ≡ (v && s)
    two true true kind = refl
    two true false kind = refl
    two false true kind = refl
    two false false kind = refl
agree-begins config events by m a o = sym (and_false (is_effective config (places config events) by a))

pub agree-ends : (config : SpaceConfig) (events : List Event) (by m : ℕ) (a : Ask) (o : ObjId) → ends_with o a (Turned (turn_of config events (event_of by m a))) ≡ (is_effective config (places config events) by a && is_end_of o a)
unfolding reply place_of
agree-ends config events by m (Finish x made listed uid) o = two (is_effective config (places config events) by (Finish x made listed uid)) (same_id x o) _
  where
    two : (v s : Bool) (os : List ObjId) → (s && is_finished (if v then Finished os else NotRunning)) ≡ (v && s)
    two true true os = refl
    two true false os = refl
    two false true os = refl
    two false false os = refl
agree-ends config events by m (Abandon x) o = two (is_effective config (places config events) by (Abandon x)) (same_id x o)
  where
    two : (v s : Bool) → (s && is_done (if v then Done else NotRunning)) ≡ (v && s)
    two true true = refl
    two true false = refl
    two false true = refl
    two false false = refl
agree-ends config events by m a o = sym (and_false (is_effective config (places config events) by a))

pub own-begins : (config : SpaceConfig) (events : List Event) (by m : ℕ) (a : Ask) (o : ObjId) → begins_call by o (place_of config (places config events) (event_of by m a)) ≡ (is_effective config (places config events) by a && is_begin_of o a)
unfolding place_of
own-begins config events by m a o = ap (λ v. (is_effective config (places config events) by a && v) && is_begin_of o a) ((Decides-eqb by by).1 refl) ∙ ap (λ v. v && is_begin_of o a) (and_true (is_effective config (places config events) by a))

pub own-ends : (config : SpaceConfig) (events : List Event) (by m : ℕ) (a : Ask) (o : ObjId) → ends_call by o (place_of config (places config events) (event_of by m a)) ≡ (is_effective config (places config events) by a && is_end_of o a)
unfolding place_of
own-ends config events by m a o = ap (λ v. (is_effective config (places config events) by a && v) && is_end_of o a) ((Decides-eqb by by).1 refl) ∙ ap (λ v. v && is_end_of o a) (and_true (is_effective config (places config events) by a))

-- ---- the tie

-- After an event that was taken, where its entry shows what it did.
tied-next : (s s2 : SpaceHistory) (by m : ℕ) (a : Ask) (entries : List Asked) (entry : Asked) (room room2 : ℕ) (t : IsTied by s entries room) →
    ((o : ObjId) → begins o entry ≡ (is_effective s.configuration (places s.configuration s.events) by a && is_begin_of o a)) → ((o : ObjId) → ends o entry ≡ (is_effective s.configuration (places s.configuration s.events) by a && is_end_of o a)) →
    length entries + 1 + length (next_calls (is_effective s.configuration (places s.configuration s.events) by a) a t.calls) ≤ room2 →
    IsTied by (record s2 { configuration = s.configuration; events = s.events ++ event_of by m a ∷ [] }) (entries ++ entry ∷ []) room2
tied-next s s2 by m a entries entry room room2 t bs es fits =
    let config = s.configuration in let events = s.events in
    let v = is_effective config (places config events) by a in
    let e = event_of by m a in
    let longer = length-append entries (entry ∷ []) in
    record {
      calls = next_calls v a t.calls;
      run = λ o. (
          let before = t.run o in
          let push = running_calls_by-push config events e by o in
          let ended = ap one_if (own-ends config events by m a o) in let begun = ap one_if (own-begins config events by m a o) in
          let after = ap (λ g. running_calls_by g by o) (places-push config events e) in
          (counted-next v a t.calls o).within (running_calls_by (places config (events ++ event_of by m a ∷ [])) by o) (omega (arith, before, push, ended, begun, after)));
      shown = λ o. (
          let count = (counted-next v a t.calls o).kept in let before = t.shown o in
          let ended = count-last (ends o) entries entry in let begun = count-last (begins o) entries entry in
          let one = ap one_if (es o) in let other = ap one_if (bs o) in
          omega (arith, count, before, ended, begun, one, other));
      few = (let more = few-next v a t.calls in let few = t.few in omega (arith, more, few, longer));
      within = omega (arith, fits, longer);
    }

-- AFTER A TURN that was taken.
pub tied-turned : (by m : ℕ) (a : Ask) (s s2 : SpaceHistory) (entries : List Asked) (room room2 : ℕ) (turn : Turn) → IsTied by s entries room → Step s.configuration s.events (event_of by m a) (Ok turn) s2.events → s2.configuration ≡ s.configuration →
    length entries + (length entries + 2) ≤ room2 → IsTied by s2 (entries ++ record { moment = m; ask = a; end = Turned turn } ∷ []) room2
tied-turned by m a s s2 entries room room2 turn t step c big =
    let two = taken-turn s.configuration s.events s2.events (event_of by m a) turn step in
    let more = few-next (is_effective s.configuration (places s.configuration s.events) by a) a t.calls in let few = t.few in
    let P : Turn → Type 0 = λ x. IsTied by s2 (entries ++ record { moment = m; ask = a; end = Turned x } ∷ []) room2 in
    let C : SpaceConfig → Type 0 = λ g. IsTied by (record s2 { configuration = g }) (entries ++ record { moment = m; ask = a; end = Turned (turn_of s.configuration s.events (event_of by m a)) } ∷ []) room2 in
    let E : List Event → Type 0 = λ es. IsTied by (record s2 { configuration = s.configuration; events = es }) (entries ++ record { moment = m; ask = a; end = Turned (turn_of s.configuration s.events (event_of by m a)) } ∷ []) room2 in
    subst P (sym two.0) (subst C (sym c) (subst E (sym two.1)
    (tied-next s s2 by m a entries (record { moment = m; ask = a; end = Turned (turn_of s.configuration s.events (event_of by m a)) }) room room2 t
    (λ o. agree-begins s.configuration s.events by m a o) (λ o. agree-ends s.configuration s.events by m a o) (omega (arith, more, few, big)))))

pub none-of : one_if false ≡ 0
unfolding one_if
none-of = refl

pub no-begins : (refused : Refused) (a : Ask) (o : ObjId) → begins_with o a (Denied refused) ≡ false
no-begins refused (Begin x) o = refl
no-begins refused _ o = refl

pub no-ends : (refused : Refused) (a : Ask) (o : ObjId) → ends_with o a (Denied refused) ≡ false
no-ends refused (Finish x made listed uid) o = refl
no-ends refused (Abandon x) o = refl
no-ends refused _ o = refl

-- After one that was refused.
pub tied-refused : (by m : ℕ) (a : Ask) (s s2 : SpaceHistory) (entries : List Asked) (room room2 : ℕ) (refused : Refused) → IsTied by s entries room → Step s.configuration s.events (event_of by m a) (Err refused) s2.events → s2.configuration ≡ s.configuration →
    length entries + (length entries + 2) ≤ room2 → IsTied by s2 (entries ++ record { moment = m; ask = a; end = Denied refused } ∷ []) room2
tied-refused by m a s s2 entries room room2 refused t step c big =
    let same = (refused-turn s.configuration s.events s2.events (event_of by m a) refused step).1 in
    let entry : Asked = record { moment = m; ask = a; end = Denied refused } in
    let longer = length-append entries (entry ∷ []) in
    let few = t.few in
    record {
      calls = t.calls;
      run = λ o. (
          let before = t.run o in let config = ap (λ g. running_calls_by (places g s.events) by o) (sym c) in let events = ap (λ es. running_calls_by (places s2.configuration es) by o) (sym same) in
          omega (arith, before, config, events));
      shown = λ o. (
          let before = t.shown o in let ended = count-last (ends o) entries entry in let begun = count-last (begins o) entries entry in
          let one = ap one_if (no-ends refused a o) in let other = ap one_if (no-begins refused a o) in let zero_if = none-of in
          omega (arith, before, ended, begun, one, other, zero_if));
      few = omega (arith, few, longer);
      within = omega (arith, few, longer, big);
    }

-- A call that the entries show is one that runs.
pub shown-runs : (by : ℕ) (s : SpaceHistory) (entries : List Asked) (room : ℕ) (o : ObjId) → IsTied by s entries room → Shows entries o → 0 < running_calls_by (places s.configuration s.events) by o
shown-runs by s entries room o t h = let run = t.run o in let shown = t.shown o in omega (arith, run, shown, h)

-- There is room for its end.
pub end-fits : (by : ℕ) (s : SpaceHistory) (entries : List Asked) (room : ℕ) (o : ObjId) → IsTied by s entries room → Shows entries o → length entries < room
end-fits by s entries room o t h =
    let shown = t.shown o in let within = t.within in
    let some : 0 < length (filter (is_call_of o) t.calls) = omega (arith, shown, h) in
    let less = length-without (is_call_of o) t.calls (there t.calls o some) in
    omega (arith, within, less)

-- AFTER AN END without an answer.
pub tied-abandoned : (by m : ℕ) (o : ObjId) (s s2 : SpaceHistory) (entries : List Asked) (room : ℕ) (place : ℕ) → IsTied by s entries room → Shows entries o → s2.events ≡ s.events ++ event_of by m (Abandon o) ∷ [] → s2.configuration ≡ s.configuration →
    IsTied by s2 (entries ++ abandoned_at m o place ∷ []) room
tied-abandoned by m o s s2 entries room place t h e c =
    let eff : is_effective s.configuration (places s.configuration s.events) by (Abandon o) ≡ true = runs-effective s.configuration s.events by o (shown-runs by s entries room o t h) in
    let C : SpaceConfig → Type 0 = λ g. IsTied by (record s2 { configuration = g }) (entries ++ abandoned_at m o place ∷ []) room in
    let E : List Event → Type 0 = λ es. IsTied by (record s2 { configuration = s.configuration; events = es }) (entries ++ abandoned_at m o place ∷ []) room in
    subst C (sym c) (subst E (sym e)
    (tied-next s s2 by m (Abandon o) entries (abandoned_at m o place) room room t
    (λ x. sym (and_false (is_effective s.configuration (places s.configuration s.events) by (Abandon o)))) (λ x. ap (λ v. v && same_id o x) (sym eff)) (fits (is_effective s.configuration (places s.configuration s.events) by (Abandon o)) eff)))
  where
    fits : (v : Bool) → v ≡ true → length entries + 1 + length (next_calls v (Abandon o) t.calls) ≤ room
    fits true w =
        let shown = t.shown o in let within = t.within in
        let some : 0 < length (filter (is_call_of o) t.calls) = omega (arith, shown, h) in
        let less = length-without (is_call_of o) t.calls (there t.calls o some) in
        omega (arith, less, within)
    fits false w = absurd (cc)

-- ---- how it led on

-- What an event was answered for which there was memory.
pub goes-answered : (config : SpaceConfig) (by m : ℕ) (a : Ask) (h h2 : List Event) (answer : Result Turn Refused) → answer ≢ Err OutOfMemory → Step config h (event_of by m a) answer h2 → GoesBy config by h m a (end_of answer) h2
goes-answered config by m a h h2 (Ok turn) known step = step
goes-answered config by m a h h2 (Err refused) known step = let err : Refused → Result Turn Refused = λ r. Err r in ((λ same. known (ap err same)), step)

pub leads-one : (by : ℕ) (s s2 : SpaceHistory) (entries : List Asked) (entry : Asked) → s2.configuration ≡ s.configuration → GoesBy s.configuration by s.events entry.moment entry.ask entry.end s2.events → Leads by s entries s2 (entries ++ entry ∷ [])
leads-one by s s2 entries entry c g = record { same = c; more = entry ∷ []; longer = refl; went = (s2.events, g, refl) }

-- No entries.
pub tied-none : (by : ℕ) (s : SpaceHistory) (entries : List Asked) (room : ℕ) → entries ≡ [] → IsTied by s entries room
tied-none by s [] room e = record { calls = []; run = λ o. omega arith; shown = λ o. omega arith; few = omega arith; within = omega arith }
tied-none by s (x ∷ entries) room e = absurd (cc)

-- The same, of entries and room as they were left.
pub tied-as : (by : ℕ) (s : SpaceHistory) (xs ys : List Asked) (room room2 : ℕ) → ys ≡ xs → room ≤ room2 → IsTied by s xs room → IsTied by s ys room2
tied-as by s xs ys room room2 e more t =
    let within = t.within in
    subst (λ (l : List Asked). IsTied by s l room2) (sym e) (record { calls = t.calls; run = t.run; shown = t.shown; few = t.few; within = omega (arith, within, more) })

pub tied-answered : (by m : ℕ) (a : Ask) (s s2 : SpaceHistory) (entries : List Asked) (room room2 : ℕ) (answer : Result Turn Refused) → IsTied by s entries room → Step s.configuration s.events (event_of by m a) answer s2.events → s2.configuration ≡ s.configuration →
    length entries + (length entries + 2) ≤ room2 → IsTied by s2 (entries ++ entry_of m a answer ∷ []) room2
tied-answered by m a s s2 entries room room2 (Ok turn) t step c big = tied-turned by m a s s2 entries room room2 turn t step c big
tied-answered by m a s s2 entries room room2 (Err refused) t step c big = tied-refused by m a s s2 entries room room2 refused t step c big

-- ---- entries in proofs alone

-- Twice the entries are always room.
pub tied-told : (by : ℕ) (s : SpaceHistory) (entries : List Asked) (room : ℕ) → IsTied by s entries room → IsTiedTold by s entries
tied-told by s entries room t = let few = t.few in record { calls = t.calls; run = t.run; shown = t.shown; few = few; within = omega (arith, few) }

-- A turn has one entry, or none where there was no memory for it.
pub entries-or : (m : ℕ) (a : Ask) (answer : Result Turn Refused) → ((answer ≡ Err OutOfMemory) × (entries_of m a answer ≡ [])) ⊎ ((answer ≢ Err OutOfMemory) × (entries_of m a answer ≡ entry_of m a answer ∷ []))
entries-or m a (Ok turn) = inr ((λ same. cc), refl)
entries-or m a (Err OutOfMemory) = inl (refl, refl)
entries-or m a (Err HistoryFull) = inr ((λ same. cc), refl)
entries-or m a (Err (Full kind)) = inr ((λ same. cc), refl)

-- The space as it was.
tied-same : (by : ℕ) (s s2 : SpaceHistory) (entries : List Asked) (room : ℕ) → s2.configuration ≡ s.configuration → s2.events ≡ s.events → IsTied by s entries room → IsTied by s2 entries room
tied-same by s s2 entries room c e t = record {
  calls = t.calls;
  run = λ o. (
      let before = t.run o in let config = ap (λ g. running_calls_by (places g s.events) by o) (sym c) in let events = ap (λ es. running_calls_by (places s2.configuration es) by o) (sym e) in
      omega (arith, before, config, events));
  shown = t.shown;
  few = t.few;
  within = t.within;
}

-- After a turn, with its entry if it has one.
pub tied-told-turn : (by m : ℕ) (a : Ask) (s s2 : SpaceHistory) (entries : List Asked) (answer : Result Turn Refused) → IsTiedTold by s entries → Step s.configuration s.events (event_of by m a) answer s2.events → s2.configuration ≡ s.configuration →
    IsTiedTold by s2 (entries ++ entries_of m a answer)
tied-told-turn by m a s s2 entries answer t step c = go (entries-or m a answer)
  where
    go : ((answer ≡ Err OutOfMemory) × (entries_of m a answer ≡ [])) ⊎ ((answer ≢ Err OutOfMemory) × (entries_of m a answer ≡ entry_of m a answer ∷ [])) → IsTiedTold by s2 (entries ++ entries_of m a answer)
    go (inl x) =
        let same : s2.events ≡ s.events = (refused-turn s.configuration s.events s2.events (event_of by m a) OutOfMemory (subst (λ (x : Result Turn Refused). Step s.configuration s.events (event_of by m a) x s2.events) x.0 step)).1 in
        subst (λ (l : List Asked). IsTiedTold by s2 l) (sym (ap (λ l. entries ++ l) x.1 ∙ append-nil entries)) (tied-same by s s2 entries (length entries + length entries) c same t)
    go (inr x) =
        subst (λ (l : List Asked). IsTiedTold by s2 l) (sym (ap (λ l. entries ++ l) x.1))
        (tied-told by s2 (entries ++ entry_of m a answer ∷ []) (length entries + (length entries + 2)) (tied-answered by m a s s2 entries (length entries + length entries) (length entries + (length entries + 2)) answer t step c (omega arith)))

pub leads-told : (by m : ℕ) (a : Ask) (s s2 : SpaceHistory) (entries : List Asked) (answer : Result Turn Refused) → Step s.configuration s.events (event_of by m a) answer s2.events → s2.configuration ≡ s.configuration →
    Leads by s entries s2 (entries ++ entries_of m a answer)
leads-told by m a s s2 entries answer step c = go (entries-or m a answer)
  where
    go : ((answer ≡ Err OutOfMemory) × (entries_of m a answer ≡ [])) ⊎ ((answer ≢ Err OutOfMemory) × (entries_of m a answer ≡ entry_of m a answer ∷ [])) → Leads by s entries s2 (entries ++ entries_of m a answer)
    go (inl x) =
        let same : s2.events ≡ s.events = (refused-turn s.configuration s.events s2.events (event_of by m a) OutOfMemory (subst (λ (x : Result Turn Refused). Step s.configuration s.events (event_of by m a) x s2.events) x.0 step)).1 in
        record { same = c; more = []; longer = ap (λ l. entries ++ l) x.1; went = same }
    go (inr x) =
        subst (λ (l : List Asked). Leads by s entries s2 l) (sym (ap (λ l. entries ++ l) x.1))
        (leads-one by s s2 entries (entry_of m a answer) c (goes-answered s.configuration by m a s.events s2.events answer x.0 step))

-- After an end without an answer.
pub tied-told-end : (by m : ℕ) (o : ObjId) (s s2 : SpaceHistory) (entries : List Asked) (place : ℕ) → IsTiedTold by s entries → Shows entries o → s2.events ≡ s.events ++ event_of by m (Abandon o) ∷ [] → s2.configuration ≡ s.configuration →
    IsTiedTold by s2 (entries ++ abandoned_at m o place ∷ [])
tied-told-end by m o s s2 entries place t h e c = tied-told by s2 (entries ++ abandoned_at m o place ∷ []) (length entries + length entries) (tied-abandoned by m o s s2 entries (length entries + length entries) place t h e c)
