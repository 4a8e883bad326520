-- What an event is answered is one of its ask's row.
use Rattle.std.proofs.Common.{◌≡◌, ℕ, ◌+◌, ◌<◌, ◌≤◌, List, [], length, refl, sym, subst, ◌∙◌, max, arith, inl, inr, Option, Some, None, Ok, Err}
use Rattle.std.specs.Prelude.{Bool, true, false, ◌&&◌, ◌⊎◌, Result, nat_le, nat_lt, if◌then◌else◌}
use Rattle.std.specs.List.{AllByRecursion}
use Rattle.std.proofs.lemmas.Bool.{lt-ltb, ltb-true}
use Rattle.std.proofs.lemmas.List.{length-map}
use Rattle.object_ids.specs.declared.ids.FullKind.TheVariants.{Exports, Awaiting, Clients, Pairs, Names as FullNames}
use Rattle.object_ids.specs.declared.ids.ObjId.{ObjId}
use Rattle.object_ids.specs.declared.ids.Uid.{Uid}
use Rattle.history.specs.declared.asks.SpaceConfig.{SpaceConfig}
use Rattle.history.specs.declared.asks.Event.{Event}
use Rattle.history.specs.declared.asks.Ask.{Ask}
use Rattle.history.specs.declared.asks.Ask.TheVariants.{Open, Begin, Finish, Abandon, Dirty, Clean, Ack, Bind, Rebind, Unbind, Lookup, List as ListNames, Tick}
use Rattle.history.specs.declared.calls.Call.{Call}
use Rattle.history.specs.declared.calls.CallKind.TheVariants.{Weak, Strong}
use Rattle.history.specs.declared.limits.TheConstants.{MAX_EXPORTS, MAX_NAMES, MAX_NAME_UNITS, MAX_RUNNING_CALLS}
use Rattle.history.specs.declared.places.Exported.{Exported}
use Rattle.history.specs.declared.places.Withdrawal.{Withdrawal}
use Rattle.history.specs.declared.replies.Refused.{Refused}
use Rattle.history.specs.declared.replies.Refused.TheVariants.{HistoryFull, Full, OutOfMemory}
use Rattle.history.specs.declared.replies.Turn.{Turn}
use Rattle.history.specs.LeaseCalls.{call_with, lease_calls}
use Rattle.history.proofs.GrantLaws.{grant-within}
use Rattle.history.specs.Leases.{is_dirty_kind}
use Rattle.history.specs.Limits.{is_begin, is_end, limits, refusal, units_limit, units_of}
use Rattle.history.specs.Steps.{Step}
use Rattle.history.specs.declared.replies.Reply.{Reply}
use Rattle.history.specs.declared.replies.Reply.TheVariants.{Started, NoObject, Finished, NotRunning, Done, Bound, AlreadyBound, Unbound, NotBound}
use Rattle.history.specs.Places.{History, exported_from, has, kind_of, now, exported_count}
use Rattle.history.specs.Names.{names, stands_for}
use Rattle.history.specs.Replies.{ids, reply, reply_found}
use Rattle.history.specs.Running.{running_calls_by}
use Rattle.history.specs.Table.{exports, is_effective, table, place_of, places}
use Rattle.history.proofs.NumberLaws.{length-exported_from}
use Rattle.dgc_server.specs.StandsForCalls.{LeaseTable}
use Rattle.export_table.specs.declared.rows.Export.{Export}
use Rattle.export_table.specs.declared.waits.Wait.{Wait}
use Rattle.export_table.specs.Table.{ExportTable}
use Rattle.space.specs.declared.runs.Run.{Run}
use Rattle.space.specs.Acts.{opens, room_refusal, await_refusal, lease_refusal, told_refusal, first_of_two}
use Rattle.space.specs.Built.{SpaceHistory}
use Rattle.space.specs.Kept.{live_calls, HasDurations, Keeps}
use Rattle.space.proofs.Acting.{stood_for}
use Rattle.space.proofs.AbandonLaws.{rows-length}
use Rattle.space.proofs.Keeping.{refusal-kept}
use Rattle.space.proofs.NotedLaws.{taken-turn, refused-turn}
use Rattle.space.specs.TurnAnswers.{IsReplyTo, MayFill, IsRefusalOf, IsAnswerTo}

-- A reply is one of the ask's.
pub reply-row : (config : SpaceConfig) (h : History) (e : Event) → HasDurations config → length (names h) ≤ MAX_NAMES → AllByRecursion (λ n. length n ≤ MAX_NAME_UNITS) (names h) → IsReplyTo (λ o. 0 < running_calls_by h e.by o) e.ask (reply config h e)
unfolding reply place_of exports is_effective
reply-row config h e d few short = go e.ask
  where
    begun : (o : ObjId) (v : Bool) (kind : ℕ) → IsReplyTo (λ x. 0 < running_calls_by h e.by x) (Begin o) (if v then Started kind else NoObject)
    begun o true kind = tt
    begun o false kind = tt

    ended : (o : ObjId) (v : Bool) → nat_lt 0 (running_calls_by h e.by o) ≡ v → IsReplyTo (λ x. 0 < running_calls_by h e.by x) (Abandon o) (if v then Done else NotRunning)
    ended o true s = tt
    ended o false s = λ r. (let yes = lt-ltb 0 (running_calls_by h e.by o) r in cc)

    all-made : (made : List ℕ) → length (ids (exported_from config.uid (exported_count h) false made)) ≡ length made
    all-made made = length-map (exported_from config.uid (exported_count h) false made) (λ (x : Exported). x.id) ∙ length-exported_from config.uid (exported_count h) false made

    finished : (o : ObjId) (made : List ℕ) (listed : List ObjId) (uid : Uid) (v : Bool) → nat_lt 0 (running_calls_by h e.by o) ≡ v →
        IsReplyTo (λ x. 0 < running_calls_by h e.by x) (Finish o made listed uid) (if v then Finished (ids (if v then exported_from config.uid (exported_count h) false made else [])) else NotRunning)
    finished o made listed uid true s = all-made made
    finished o made listed uid false s = λ r. (let yes = lt-ltb 0 (running_calls_by h e.by o) r in cc)

    bound : (n : List ℕ) (o : ObjId) (v w : Bool) → IsReplyTo (λ x. 0 < running_calls_by h e.by x) (Bind n o) (if v then Bound else if w then AlreadyBound else NoObject)
    bound n o true w = tt
    bound n o false true = tt
    bound n o false false = tt

    rebound : (n : List ℕ) (o : ObjId) (v : Bool) → IsReplyTo (λ x. 0 < running_calls_by h e.by x) (Rebind n o) (if v then Bound else NoObject)
    rebound n o true = tt
    rebound n o false = tt

    unbound : (n : List ℕ) (v : Bool) → IsReplyTo (λ x. 0 < running_calls_by h e.by x) (Unbind n) (if v then Unbound else NotBound)
    unbound n true = tt
    unbound n false = tt

    found : (n : List ℕ) (u : Uid) (s : Option ObjId) → IsReplyTo (λ x. 0 < running_calls_by h e.by x) (Lookup n u) (reply_found (table config h) s)
    found n u None = tt
    found n u (Some o) = tt

    go : (a : Ask) → IsReplyTo (λ o. 0 < running_calls_by h e.by o) a (reply config h (record e { ask = a }))
    go (Open kind pinned) = tt
    go (Begin o) = begun o (is_effective config h e.by (Begin o)) (kind_of (table config h) o)
    go (Abandon o) = ended o (nat_lt 0 (running_calls_by h e.by o)) refl
    go (Dirty x y z w) = let within = grant-within config.lease_ms z in let short = d.short_lease in omega (arith, within, short)
    go (Clean x y z w) = tt
    go (Ack u) = tt
    go Tick = tt
    go (Finish x y z w) = finished x y z w (nat_lt 0 (running_calls_by h e.by x)) refl
    go (Bind n o) = bound n o (is_effective config h e.by (Bind n o)) (has (table config h) o)
    go (Rebind n o) = rebound n o (is_effective config h e.by (Rebind n o))
    go (Unbind n) = unbound n (is_effective config h e.by (Unbind n))
    go (Lookup n u) = found n u (stands_for h n)
    go ListNames = (few, short)

-- ---- refusals

fills : (a : Ask) (x z y : Bool) (rest : Option Refused) (refused : Refused) → (y ≡ true → MayFill a Exports) → (rest ≡ Some refused → IsRefusalOf a refused) →
    first_of_two (if x then Some HistoryFull else if z then Some HistoryFull else if y then Some (Full Exports) else None) rest ≡ Some refused → IsRefusalOf a refused
fills a true z y rest refused f g s = subst (λ (r : Refused). IsRefusalOf a r) (let same : HistoryFull ≡ refused = (cc) in same) tt
fills a false true y rest refused f g s = subst (λ (r : Refused). IsRefusalOf a r) (let same : HistoryFull ≡ refused = (cc) in same) tt
fills a false false true rest refused f g s = subst (λ (r : Refused). IsRefusalOf a r) (let same : Full Exports ≡ refused = (cc) in same) (f refl)
fills a false false false rest refused f g s = g s

-- The same of the refusal that there is no room.
room-fills : (stored : Bool) (used running exported : ℕ) (v : Bool) (a : Ask) (rest : Option Refused) (refused : Refused) → (nat_lt MAX_EXPORTS (exported + opens v a) ≡ true → MayFill a Exports) → (rest ≡ Some refused → IsRefusalOf a refused) →
    first_of_two (room_refusal stored used running exported v a) rest ≡ Some refused → IsRefusalOf a refused
room-fills stored used running exported v a rest refused f g s =
    fills a (nat_lt (units_limit stored + (if v && is_end a then 1 else 0)) (used + running + units_of a + (if v && is_begin a then 1 else 0))) ((v && is_begin a) && nat_le MAX_RUNNING_CALLS running)
    (nat_lt MAX_EXPORTS (exported + opens v a)) rest refused f g s

lease-fills : (a : Ask) (x y : Bool) (refused : Refused) → (x ≡ true → MayFill a Clients) → MayFill a Pairs → (if x then Some (Full Clients) else if y then Some (Full Pairs) else None) ≡ Some refused → IsRefusalOf a refused
lease-fills a true y refused f g s = subst (λ (r : Refused). IsRefusalOf a r) (let same : Full Clients ≡ refused = (cc) in same) (f refl)
lease-fills a false true refused f g s = subst (λ (r : Refused). IsRefusalOf a r) (let same : Full Pairs ≡ refused = (cc) in same) g
lease-fills a false false refused f g s = absurd (cc)

return-fills : (a : Ask) (v x : Bool) (refused : Refused) → MayFill a Awaiting → first_of_two (if v then (if x then Some (Full Awaiting) else None) else None) (first_of_two None None) ≡ Some refused → IsRefusalOf a refused
return-fills a true true refused g s = subst (λ (r : Refused). IsRefusalOf a r) (let same : Full Awaiting ≡ refused = (cc) in same) g
return-fills a true false refused g s = absurd (cc)
return-fills a false x refused g s = absurd (cc)

lookup-fills : (a : Ask) (x : Bool) (refused : Refused) → MayFill a Awaiting → first_of_two (if x then Some (Full Awaiting) else None) (first_of_two None None) ≡ Some refused → IsRefusalOf a refused
lookup-fills a true refused g s = subst (λ (r : Refused). IsRefusalOf a r) (let same : Full Awaiting ≡ refused = (cc) in same) g
lookup-fills a false refused g s = absurd (cc)

name-fills : (a : Ask) (x : Bool) (refused : Refused) → MayFill a FullNames → (if x then Some (Full FullNames) else None) ≡ Some refused → IsRefusalOf a refused
name-fills a true refused g s = subst (λ (r : Refused). IsRefusalOf a r) (let same : Full FullNames ≡ refused = (cc) in same) g
name-fills a false refused g s = absurd (cc)

no-dirty : (strong v : Bool) → (is_dirty_kind (if strong then Strong else Weak) && v) ≡ true → ⊥
no-dirty true v s = cc
no-dirty false v s = cc

exports-stay : (exported : ℕ) → exported ≤ MAX_EXPORTS → nat_lt MAX_EXPORTS (exported + 0) ≡ true → ⊥
exports-stay exported few s = let more = ltb-true MAX_EXPORTS (exported + 0) s in omega (arith, few, more)

-- A refusal and none after it.
ends : (o last : Option Refused) → last ≡ None → first_of_two o last ≡ o
ends None last e = e
ends (Some r) last e = refl

refused-row : (a : Ask) (stored : Bool) (used running exported : ℕ) (v : Bool) (lease n m count : ℕ) (before : List Call) (names_it : ObjId → Bool) (rows : List Export) (waits : List Wait) (stood : Option ObjId) (refused : Refused) → exported ≤ MAX_EXPORTS →
    first_of_two (room_refusal stored used running exported v a) (first_of_two (await_refusal n rows waits stood v a) (told_refusal lease n before (call_with names_it m a) count stood v a)) ≡ Some refused → IsRefusalOf a refused
refused-row (Begin o) stored used running exported v lease n m count before names_it rows waits stood refused few s =
    fills (Begin o) _ _ _ (first_of_two (await_refusal n rows waits stood v (Begin o)) (told_refusal lease n before (call_with names_it m (Begin o)) count stood v (Begin o))) refused (λ t. exports-stay exported few t) (λ t. absurd (cc)) s
refused-row (Abandon o) stored used running exported v lease n m count before names_it rows waits stood refused few s =
    fills (Abandon o) _ _ _ (first_of_two (await_refusal n rows waits stood v (Abandon o)) (told_refusal lease n before (call_with names_it m (Abandon o)) count stood v (Abandon o))) refused (λ t. exports-stay exported few t) (λ t. absurd (cc)) s
refused-row (Ack u) stored used running exported v lease n m count before names_it rows waits stood refused few s =
    fills (Ack u) _ _ _ (first_of_two (await_refusal n rows waits stood v (Ack u)) (told_refusal lease n before (call_with names_it m (Ack u)) count stood v (Ack u))) refused (λ t. exports-stay exported few t) (λ t. absurd (cc)) s
refused-row Tick stored used running exported v lease n m count before names_it rows waits stood refused few s =
    fills Tick _ _ _ (first_of_two (await_refusal n rows waits stood v Tick) (told_refusal lease n before (call_with names_it m Tick) count stood v Tick)) refused (λ t. exports-stay exported few t) (λ t. absurd (cc)) s
refused-row (Unbind x) stored used running exported v lease n m count before names_it rows waits stood refused few s =
    fills (Unbind x) _ _ _ (first_of_two (await_refusal n rows waits stood v (Unbind x)) (told_refusal lease n before (call_with names_it m (Unbind x)) count stood v (Unbind x))) refused (λ t. exports-stay exported few t) (λ t. absurd (cc)) s
refused-row ListNames stored used running exported v lease n m count before names_it rows waits stood refused few s =
    fills ListNames _ _ _ (first_of_two (await_refusal n rows waits stood v ListNames) (told_refusal lease n before (call_with names_it m ListNames) count stood v ListNames)) refused (λ t. exports-stay exported few t) (λ t. absurd (cc)) s
refused-row (Open kind pinned) stored used running exported v lease n m count before names_it rows waits stood refused few s =
    room-fills stored used running exported v (Open kind pinned) (first_of_two (await_refusal n rows waits stood v (Open kind pinned)) (told_refusal lease n before (call_with names_it m (Open kind pinned)) count stood v (Open kind pinned))) refused (λ t. tt) (λ t. absurd (cc)) s
refused-row (Dirty x y z w) stored used running exported v lease n m count before names_it rows waits stood refused few s =
    fills (Dirty x y z w) _ _ _ (first_of_two (await_refusal n rows waits stood v (Dirty x y z w)) (told_refusal lease n before (call_with names_it m (Dirty x y z w)) count stood v (Dirty x y z w))) refused (λ t. absurd (exports-stay exported few t))
    (λ t. lease-fills (Dirty x y z w) _ _ refused (λ u. tt) tt (sym (ends (lease_refusal lease n before (call_with names_it m (Dirty x y z w))) None refl) ∙ t)) s
refused-row (Clean x y z w) stored used running exported v lease n m count before names_it rows waits stood refused few s =
    fills (Clean x y z w) _ _ _ (first_of_two (await_refusal n rows waits stood v (Clean x y z w)) (told_refusal lease n before (call_with names_it m (Clean x y z w)) count stood v (Clean x y z w))) refused (λ t. absurd (exports-stay exported few t))
    (λ t. lease-fills (Clean x y z w) _ _ refused (λ u. absurd (no-dirty w _ u)) tt (sym (ends (lease_refusal lease n before (call_with names_it m (Clean x y z w))) None refl) ∙ t)) s
refused-row (Finish x y z w) stored used running exported v lease n m count before names_it rows waits stood refused few s =
    room-fills stored used running exported v (Finish x y z w) (first_of_two (await_refusal n rows waits stood v (Finish x y z w)) (told_refusal lease n before (call_with names_it m (Finish x y z w)) count stood v (Finish x y z w))) refused (λ t. tt)
    (λ t. return-fills (Finish x y z w) v _ refused tt t) s
refused-row (Lookup x y) stored used running exported v lease n m count before names_it rows waits stood refused few s =
    fills (Lookup x y) _ _ _ (first_of_two (await_refusal n rows waits stood v (Lookup x y)) (told_refusal lease n before (call_with names_it m (Lookup x y)) count stood v (Lookup x y))) refused (λ t. absurd (exports-stay exported few t))
    (λ t. lookup-fills (Lookup x y) _ refused tt t) s
refused-row (Bind x y) stored used running exported v lease n m count before names_it rows waits stood refused few s =
    fills (Bind x y) _ _ _ (first_of_two (await_refusal n rows waits stood v (Bind x y)) (told_refusal lease n before (call_with names_it m (Bind x y)) count stood v (Bind x y))) refused (λ t. absurd (exports-stay exported few t)) (λ t. name-fills (Bind x y) _ refused tt t) s
refused-row (Rebind x y) stored used running exported v lease n m count before names_it rows waits stood refused few s =
    fills (Rebind x y) _ _ _ (first_of_two (await_refusal n rows waits stood v (Rebind x y)) (told_refusal lease n before (call_with names_it m (Rebind x y)) count stood v (Rebind x y))) refused (λ t. absurd (exports-stay exported few t)) (λ t. name-fills (Rebind x y) _ refused tt t) s

-- WHAT AN EVENT IS ANSWERED is one of its ask's row.
pub answer-row : {shown : List Exported} (config : SpaceConfig) (events h2 : List Event) (e : Event) (leases : LeaseTable) (exports : ExportTable) (runs : List Run) (withdrawn : List Withdrawal) (reported opened used moment : ℕ) (s : SpaceHistory) (answer : Result Turn Refused) →
    Keeps config events leases exports runs withdrawn reported opened used moment → AllByRecursion (λ n. length n ≤ MAX_NAME_UNITS) (names (places config events)) → record { configuration = config; events = events; rows = shown } ≡ s → Step s.configuration s.events e answer h2 →
    IsAnswerTo (λ o. 0 < running_calls_by (places s.configuration s.events) e.by o) e.ask answer
answer-row config events h2 e leases exports runs withdrawn reported opened used moment s answer k short v t =
    let P : SpaceHistory → Type 0 = λ h. Step h.configuration h.events e answer h2 in
    let Q : SpaceHistory → Type 0 = λ h. IsAnswerTo (λ o. 0 < running_calls_by (places h.configuration h.events) e.by o) e.ask answer in
    subst Q v (go answer (subst P (sym v) t))
  where
    go : (r : Result Turn Refused) → Step config events e r h2 → IsAnswerTo (λ o. 0 < running_calls_by (places config events) e.by o) e.ask r
    go (Ok turn) t = subst (λ (x : Turn). IsReplyTo (λ o. 0 < running_calls_by (places config events) e.by o) e.ask x.reply) (sym (taken-turn config events h2 e turn t).0) (reply-row config (places config events) e k.durations k.stands.within.names short)
    go (Err refused) t = why refused (refused-turn config events h2 e refused t).0
      where
        why : (x : Refused) → (refusal (limits config) config (places config events) e ≡ Some x) ⊎ (x ≡ OutOfMemory) → IsRefusalOf e.ask x
        why x (inl r) = refused-row e.ask config.stored used (length runs) (length exports.rows) (is_effective config (places config events) e.by e.ask) config.lease_ms (max e.moment (now (places config events))) (max e.moment (now (places config events))) (length (names (places config events)))
            (live_calls (table config (places config events)) (lease_calls (places config events))) (has (table config (places config events))) exports.rows exports.waits (stood_for (places config events) e.ask) x (rows-length config events leases exports runs withdrawn reported opened used moment k) (sym (refusal-kept config events e leases exports runs withdrawn reported opened used moment k) ∙ r)
        why x (inr m) = subst (λ (y : Refused). IsRefusalOf e.ask y) (sym m) tt

-- What runs may be said in other words.
pub answer-as : (P Q : ObjId → Type 0) (a : Ask) (answer : Result Turn Refused) → ((o : ObjId) → Q o → P o) → IsAnswerTo P a answer → IsAnswerTo Q a answer
answer-as P Q a (Err refused) f r = r
answer-as P Q a (Ok turn) f r = go a turn.reply r
  where
    go : (a : Ask) (x : Reply) → IsReplyTo P a x → IsReplyTo Q a x
    go (Finish o made listed uid) NotRunning r = λ q. r (f o q)
    go (Abandon o) NotRunning r = λ q. r (f o q)
    go _ _ r = r
