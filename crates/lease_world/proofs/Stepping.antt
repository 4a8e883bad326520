-- The steps of a world, of its value and of the courses for which it stands.
use Rattle.std.proofs.Common.{◌≡◌, ℕ, ◌+◌, ◌^◌, ◌<◌, ◌≤◌, List, [], ◌∷◌, ◌++◌, length, set, refl, ap, sym, ◌∙◌, arith, subst, inl, inr, length-append}
use Rattle.std.specs.Prelude.{ℤ, pos, Bool, true, false, not, ◌||◌, find, Option, Some, None, option_map, ◌==◌, nat_lt, nat_le, int_le, Result, Ok, Err, OnOk, IfErr, OnErr, ◌⊎◌}
use Rattle.std.proofs.lemmas.Bool.{lt-ltb}
use Rattle.std.proofs.lemmas.Bool.Decides.{Decides-eqb, nat_tests}
use Rattle.history.specs.Places.{has}
use Rattle.history.specs.Replies.{reply}
use Rattle.history.specs.Table.{places, table}
use Rattle.history.specs.declared.asks.Ask.{Ask}
use Rattle.history.specs.declared.asks.Ask.TheVariants as asks
use Rattle.history.specs.declared.asks.Event.{Event}
use Rattle.history.specs.declared.asks.SpaceConfig.{SpaceConfig}
use Rattle.history.specs.declared.limits.TheConstants.{END_OF_TIME, MAX_DURATION_MS}
use Rattle.dgc_client.specs.Log.{ClientCall, Answers, Fails}
use Rattle.dgc_client.specs.StandsForLog.{Parts, StandsFor, Notes, plan_after}
use Rattle.dgc_client.specs.declared.plan.ClientFault.{ClientFault}
use Rattle.dgc_client.specs.declared.plan.Plan.{Plan}
use Rattle.dgc_client.specs.declared.plan.Plan.TheVariants as plans
use Rattle.space.specs.Built.{SpaceHistory}
use Rattle.lease_world.specs.Faults.{of_client as fault_of_client}
use Rattle.lease_world.specs.Letters.{Letter}
use Rattle.lease_world.specs.Tables.{IsNoted, IsNotNoted, call_cause}
use Rattle.lease_world.specs.Stands.{WorldParts, StandsAt, IsClientOf, StandsForCourse, ForEachCourse, granted_by, IsCause, IsTaken, IsStep, first_cause, refusal_at, IsTurned, IsAbandoned, IsReturned, with_letter, IsCalled, IsMemberCall, no_deeds, AreFresh}
use Rattle.lease_world.specs.World.{config_of, uid, World, Course, Delivery, client, of_client, nth, history, rows_of, last_delivery, granted_in, turned, turn_fault, fault_of, no_client, begin, begun, finish, world, world_after, after_step, called, answer_to, call_number, ask_of, event_now, bad_if, fresh, first_events, maker, KeepsPromise}
use Rattle.lease_world.specs.declared.fault.WorldFault.{WorldFault}
use Rattle.lease_world.specs.declared.fault.WorldFault.TheVariants.{BadStep, OutOfMemory}
use Rattle.lease_world.specs.declared.member.Member.{Member}
use Rattle.lease_world.specs.declared.sent_call.SentCall.{SentCall}
use Rattle.lease_world.specs.declared.step.Step.{Step}
use Rattle.lease_world.specs.declared.step.Step.TheVariants as steps
use Rattle.lease_world.proofs.Positions.{nth-none, nth-within, nth-map, nth-set-same, nth-set-other, are-apart, length-set, map-set-same, nth-either, set-here}
use Rattle.lease_world.proofs.Lists.{any-weaker, nth-every}
use Rattle.lease_world.proofs.Theorem.{Kept, IsSender, kept, theorem, pinned_maker}
use Rattle.lease_world.proofs.Standing.{goes-on, goes-on-cut, turned-stands, refusal-same, reply-same, called-stands}
use Rattle.std.proofs.lemmas.Bool.{and_parts}
use Rattle.object_ids.specs.Same.{same_id}
use Rattle.history.specs.Running.{running_calls_by}
use Rattle.history.specs.Table.{place_of, is_effective}
use Rattle.history.specs.declared.places.Exported.{Exported}
use Rattle.history.proofs.TableLaws.{places-push}
use Rattle.dgc_client.specs.Log.{number_of}

-- ---- refusals

-- A step that was refused before it changed anything.
pub refused-step : (v u : WorldParts) (step : Step) (fault : WorldFault) → u ≡ v → ((course : Course) → StandsForCourse v course → IsCause fault (first_cause (world course) step)) → IsStep v step (Err fault) u
refused-step v u step fault same f = inl (same, f)

pub no-memory : (v u : WorldParts) (step : Step) (fault : WorldFault) → u ≡ v → fault ≡ OutOfMemory → IsStep v step (Err fault) u
no-memory v u step fault same memory = inl (same, λ course a. inl memory)

-- ---- turns that are steps

pub turn-step : (v u : WorldParts) (by : ℕ) (ask : Ask) (step : Step) (granted : ℕ) → ((w : World) → fault_of w step ≡ turn_fault w by ask) → ((w : World) → after_step step w ≡ turned by ask w) →
    IsTurned v by ask granted u → IsStep v step (Ok tt) u
turn-step v u by ask step granted f g t = λ course a. record {
  allowed = f (world course) ∙ sym (refusal-same v (world course) by ask a) ∙ t.allowed;
  stands = goes-on u course step (subst (StandsAt u) (sym (g (world course))) (turned-stands v u (world course) by ask a t.config t.events t.rest));
}

pub turn-refused : (v u : WorldParts) (by : ℕ) (ask : Ask) (step : Step) (fault : WorldFault) → ((w : World) → first_cause w step ≡ turn_fault w by ask) → u ≡ v → IsCause fault (refusal_at v by ask) → IsStep v step (Err fault) u
turn-refused v u by ask step fault f same k = inl (same, λ course a. subst (IsCause fault) (refusal-same v (world course) by ask a ∙ sym (f (world course))) k)

pub tick-step : (v u : WorldParts) (granted : ℕ) → IsTurned v 0 asks.Tick granted u → IsStep v steps.Tick (Ok tt) u
unfolding fault_of
tick-step v u granted t = turn-step v u 0 asks.Tick steps.Tick granted (λ w. refl) (λ w. refl) t

pub tick-refused : (v u : WorldParts) (fault : WorldFault) → u ≡ v → IsCause fault (refusal_at v 0 asks.Tick) → IsStep v steps.Tick (Err fault) u
unfolding fault_of
tick-refused v u fault same k = turn-refused v u 0 asks.Tick steps.Tick fault (λ w. refl) same k

ack-fault : (w : World) (make : ℕ) → make < 2 ^ 63 → fault_of w (steps.Ack make) ≡ turn_fault w 0 (asks.Ack (uid make))
unfolding fault_of
ack-fault w make l = let no : nat_le (2 ^ 63) make ≡ false = grind (arith, nat_tests) in rw no refl

pub ack-step : (v u : WorldParts) (make granted : ℕ) → make < 2 ^ 63 → IsTurned v 0 (asks.Ack (uid make)) granted u → IsStep v (steps.Ack make) (Ok tt) u
ack-step v u make granted l t = turn-step v u 0 (asks.Ack (uid make)) (steps.Ack make) granted (λ w. ack-fault w make l) (λ w. refl) t

pub ack-refused : (v u : WorldParts) (make : ℕ) (fault : WorldFault) → make < 2 ^ 63 → u ≡ v → IsCause fault (refusal_at v 0 (asks.Ack (uid make))) → IsStep v (steps.Ack make) (Err fault) u
ack-refused v u make fault l same k = turn-refused v u 0 (asks.Ack (uid make)) (steps.Ack make) fault (λ w. ack-fault w make l) same k

pub ack-bad : (v : WorldParts) (make : ℕ) → 2 ^ 63 ≤ make → IsStep v (steps.Ack make) (Err BadStep) v
unfolding fault_of
ack-bad v make l = inl (refl, λ course a. let yes : nat_le (2 ^ 63) make ≡ true = grind (arith, nat_tests) in inr (rw yes refl))

-- ---- a return of a new object

made-few : (v : WorldParts) (course : Course) → StandsForCourse v course → length v.space.events < 2 ^ 64 → 2 ^ 63 ≤ v.made → ⊥
made-few v course a l g =
    let f = (kept course).few in
    let m = a.made_is in
    let e = ap (λ (es : List Event). length es) a.events_are in
    omega arith

pub make-spent : (v : WorldParts) (fault : WorldFault) → length v.space.events < 2 ^ 64 → 2 ^ 63 ≤ v.made → IsStep v steps.Make (Err fault) v
make-spent v fault l g = inl (refl, λ course a. absurd (made-few v course a l g))

pub make-refused : (v u : WorldParts) (fault : WorldFault) → u ≡ v → IsCause fault (refusal_at v 0 begin) → IsStep v steps.Make (Err fault) u
make-refused v u fault same k = turn-refused v u 0 begin steps.Make fault (λ w. refl) same k

make-fault : (w : World) → turn_fault w 0 begin ≡ None → turn_fault (begun w) 0 (finish w.made) ≡ None → fault_of w steps.Make ≡ None
unfolding fault_of
make-fault w a b = rw (a, b) refl

finish-same : (t : WorldParts) (w : World) → StandsAt t (begun w) → refusal_at t 0 (finish t.made) ≡ turn_fault (begun w) 0 (finish w.made)
finish-same t w a = ap (λ (m : ℕ). refusal_at t 0 (finish m)) a.made_is ∙ refusal-same t (begun w) 0 (finish w.made) a

counted : (t : WorldParts) (w : World) → StandsAt t w → StandsAt (record t { made = t.made + 1 }) (record w { made = w.made + 1 })
counted t w a = record {
  moment_is = a.moment_is;
  made_is = ap (λ (m : ℕ). m + 1) a.made_is;
  config_is = a.config_is;
  events_are = a.events_are;
  count_is = a.count_is;
  members_are = a.members_are;
  sent_are = a.sent_are;
  granted_are = a.granted_are;
}

-- The value after the Begin stands for the world that has begun.
begun-stands : (v t : WorldParts) (w : World) (granted : ℕ) → StandsAt v w → IsTurned v 0 begin granted t → StandsAt t (begun w)
begun-stands v t w granted a b = turned-stands v t w 0 begin a b.config b.events b.rest

pub make-step : (v t u : WorldParts) (granted : ℕ) → IsTurned v 0 begin granted t → IsReturned t (finish t.made) u → IsStep v steps.Make (Ok tt) u
make-step v t u granted b r = λ course a.
    let w = world course in
    let s = begun-stands v t w granted a b in
    let back : record t { space = u.space } ≡ record t { space = (record t { space = u.space }).space } = refl in
    let after_finish : StandsAt (record t { space = u.space }) (turned 0 (finish w.made) (begun w)) =
    subst (λ (m : ℕ). StandsAt (record t { space = u.space }) (turned 0 (finish m) (begun w))) s.made_is
    (turned-stands t (record t { space = u.space }) (begun w) 0 (finish t.made) s r.config r.events refl) in
    record {
      allowed = make-fault w (sym (refusal-same v w 0 begin a) ∙ b.allowed) (sym (finish-same t w s) ∙ r.allowed);
      stands = goes-on u course steps.Make (subst (λ (x : WorldParts). StandsAt x (after_step steps.Make w)) (sym r.rest) (counted (record t { space = u.space }) (turned 0 (finish w.made) (begun w)) after_finish));
    }

-- The call that was begun runs.
begun-runs : (w : World) → Kept w → 0 < running_calls_by (history (begun w)) 0 maker
unfolding running_calls_by place_of is_effective
begun-runs w k = rw (places-push w.config w.events (event_now w 0 begin)) (rw there (omega arith))
  where
    there : has (table w.config (history w)) maker ≡ true
    there = any-weaker pinned_maker (λ (x : Exported). same_id x.id maker) (λ x p. (and_parts x.pinned (same_id x.id maker) p).1) (table w.config (history w)) k.there

runs-at : (t : WorldParts) (w : World) → StandsAt t w → 0 < running_calls_by (history w) 0 maker → 0 < running_calls_by (places t.space.configuration t.space.events) 0 maker
runs-at t w a r = rw (a.config_is, a.events_are) r

pub make-cut : (v t u : WorldParts) (granted : ℕ) (fault : WorldFault) → IsTurned v 0 begin granted t → IsCause fault (refusal_at t 0 (finish t.made)) →
    (0 < running_calls_by (places t.space.configuration t.space.events) 0 maker → IsAbandoned t u) → IsStep v steps.Make (Err fault) u
make-cut v t u granted fault b k f = inr (
  refl,
  λ course a.
      let w = world course in
      let s = begun-stands v t w granted a b in
      let z = f (runs-at t (begun w) s (begun-runs w (kept course))) in
      record {
        began = sym (refusal-same v w 0 begin a) ∙ b.allowed;
        cause = subst (IsCause fault) (finish-same t w s) k;
        stands = goes-on-cut u course (turned-stands t u (begun w) 0 (asks.Abandon maker) s z.config z.events z.rest);
      },
)

-- ---- deliveries

sent-at : (v : WorldParts) (w : World) (k : ℕ) (x : Letter) → StandsAt v w → nth v.letters k ≡ Some x → nth w.sent k ≡ Some x.call
sent-at v w k x a h = ap (λ (ms : List SentCall). nth ms k) (sym a.sent_are) ∙ nth-map (λ (y : Letter). y.call) v.letters k ∙ ap (option_map (λ (y : Letter). y.call)) h

sent-none : (v : WorldParts) (w : World) (k : ℕ) → StandsAt v w → length v.letters ≤ k → nth w.sent k ≡ None
sent-none v w k a l = ap (λ (ms : List SentCall). nth ms k) (sym a.sent_are) ∙ nth-map (λ (y : Letter). y.call) v.letters k ∙ ap (option_map (λ (y : Letter). y.call)) (nth-none v.letters k l)

noted : (t : WorldParts) (w : World) (k g : ℕ) (x : Letter) → StandsAt t w → nth t.letters k ≡ Some x →
    StandsAt (record t { letters = set t.letters k (record x { granted = Some g }) }) (record w { deliveries = record { call = k; granted = g } ∷ w.deliveries })
noted t w k g x a h = record {
  moment_is = a.moment_is;
  made_is = a.made_is;
  config_is = a.config_is;
  events_are = a.events_are;
  count_is = a.count_is;
  members_are = a.members_are;
  sent_are = map-set-same (λ (y : Letter). y.call) t.letters k x q h refl ∙ a.sent_are;
  granted_are = λ j. go j (k == j) refl;
}
  where
    q : Letter
    q = record x { granted = Some g }

    go : (j : ℕ) (b : Bool) → (k == j) ≡ b → granted_by (nth (set t.letters k q) j) ≡ option_map (λ (d : Delivery). d.granted) (find (λ (d : Delivery). d.call == j) (record { call = k; granted = g } ∷ w.deliveries))
    go j true e = rw e (ap granted_by (subst (λ (i : ℕ). nth (set t.letters k q) i ≡ Some q) ((Decides-eqb k j).0 e) (nth-set-same t.letters k q (nth-within t.letters k x h))))
    go j false e = rw e (ap granted_by (nth-set-other t.letters k j q (are-apart k j e)) ∙ a.granted_are j)

deliver-fault : (w : World) (k : ℕ) (m : SentCall) → nth w.sent k ≡ Some m → fault_of w (steps.Deliver k) ≡ turn_fault w (m.client + 1) (ask_of m)
unfolding fault_of
deliver-fault w k m h = rw h refl

pub deliver-step : (v t u : WorldParts) (k : ℕ) (x : Letter) (g : ℕ) → nth v.letters k ≡ Some x → IsTurned v (x.call.client + 1) (ask_of x.call) g t →
    u ≡ record t { letters = set t.letters k (record x { granted = Some g }) } → IsStep v (steps.Deliver k) (Ok tt) u
deliver-step v t u k x g h b r = λ course a.
    let w = world course in
    let m = x.call in
    let at = sent-at v w k x a h in
    let there : nth t.letters k ≡ Some x = ap (λ (z : WorldParts). nth z.letters k) b.rest ∙ h in
    let s = noted t (turned (m.client + 1) (ask_of m) w) k g x (turned-stands v t w (m.client + 1) (ask_of m) a b.config b.events b.rest) there in
    let same : g ≡ granted_in (reply w.config (history w) (event_now w (m.client + 1) (ask_of m))) = b.granted_is ∙ reply-same v w (m.client + 1) (ask_of m) a in
    record {
      allowed = deliver-fault w k m at ∙ sym (refusal-same v w (m.client + 1) (ask_of m) a) ∙ b.allowed;
      stands = goes-on u course (steps.Deliver k) (subst (λ (z : WorldParts). StandsAt z (after_step (steps.Deliver k) w)) (sym r)
          (rw at (subst (λ (n : ℕ). StandsAt (record t { letters = set t.letters k (record x { granted = Some g }) }) (record (turned (m.client + 1) (ask_of m) w) { deliveries = record { call = k; granted = n } ∷ w.deliveries })) same s)));
    }

pub deliver-refused : (v u : WorldParts) (k : ℕ) (x : Letter) (fault : WorldFault) → nth v.letters k ≡ Some x → u ≡ v → IsCause fault (refusal_at v (x.call.client + 1) (ask_of x.call)) → IsStep v (steps.Deliver k) (Err fault) u
deliver-refused v u k x fault h same c = inl (
  same,
  λ course a.
      subst (IsCause fault) (refusal-same v (world course) (x.call.client + 1) (ask_of x.call) a ∙ sym (deliver-fault (world course) k x.call (sent-at v (world course) k x a h))) c,
)

pub deliver-bad : (v : WorldParts) (k : ℕ) → length v.letters ≤ k → IsStep v (steps.Deliver k) (Err BadStep) v
unfolding fault_of
deliver-bad v k l = inl (refl, λ course a. inr (rw (sent-none v (world course) k a l) refl))

-- ---- answers and failures

-- A call of a table that plans nothing and is never refused.
pub closing : (v u : WorldParts) (c : ℕ) (x : ClientCall) (was : Member) (table : Parts) → nth v.members c ≡ Some was →
    ((first : ℤ) (log : List ClientCall) → None ≡ plan_after first log x) → ((first : ℤ) (log : List ClientCall) → call_cause first log x ≡ None) →
    Notes was.table table x → u ≡ record v { members = set v.members c (record was { table = table }) } → IsCalled v c x u
closing v u c x was table h p q n r = record {
  was = was;
  table = table;
  plan = None;
  there = h;
  noted = record { notes = n; planned = λ vmid first log s. p first log; allowed = λ vmid first log s. q first log };
  new_is = r;
}

pub answer-called : (v u : WorldParts) (c now g : ℕ) (plan : Plan) (was : Member) (table : Parts) → nth v.members c ≡ Some was →
    Notes was.table table (answer_to now g plan) → u ≡ record v { members = set v.members c (record was { table = table }) } → IsCalled v c (answer_to now g plan) u
answer-called v u c now g (plans.Dirty number ids) was table h n r = closing v u c (Answers number g now) was table h (λ first log. refl) (λ first log. refl) n r
answer-called v u c now g (plans.Clean number ids strong) was table h n r = closing v u c (Fails number) was table h (λ first log. refl) (λ first log. refl) n r

pub answer-step : (v u : WorldParts) (k : ℕ) (x : Letter) (g : ℕ) → nth v.letters k ≡ Some x → x.granted ≡ Some g → IsCalled v x.call.client (answer_to v.moment g x.call.plan) u → IsStep v (steps.Answer k) (Ok tt) u
unfolding fault_of
answer-step v u k x g h e z = λ course a. go course a (last_delivery (world course) k) refl
  where
    go : (course : Course) → StandsForCourse v course → (d : Option Delivery) → last_delivery (world course) k ≡ d → IsTaken v (steps.Answer k) u course
    go course a None l =
        let none : granted_by (Some x) ≡ None = ap granted_by (sym h) ∙ a.granted_are k ∙ ap (option_map (λ (d : Delivery). d.granted)) l in
        absurd (let some : granted_by (Some x) ≡ Some g = e in cc)
    go course a (Some d) l =
        let w = world course in
        let some : Some x.granted ≡ Some (Some d.granted) = ap (λ (o : Option ℕ). Some o) (ap granted_by (sym h) ∙ a.granted_are k ∙ ap (option_map (λ (d : Delivery). d.granted)) l) in
        let same : g ≡ d.granted = cc in
        let s = called-stands v u w x.call.client (answer_to v.moment g x.call.plan) a z in
        let s2 = subst (λ (n : ℕ). StandsAt u (called x.call.client (answer_to n g x.call.plan) w)) a.moment_is s in
        let s3 = subst (λ (n : ℕ). StandsAt u (called x.call.client (answer_to w.moment n x.call.plan) w)) same s2 in
        record {
          allowed = rw l refl;
          stands = goes-on u course (steps.Answer k) (rw (sent-at v w k x a h, l) s3);
        }

pub answer-none : (v : WorldParts) (k : ℕ) → granted_by (nth v.letters k) ≡ None → IsStep v (steps.Answer k) (Err BadStep) v
unfolding fault_of
answer-none v k h = inl (refl, λ course a. go course a (last_delivery (world course) k) refl)
  where
    go : (course : Course) → StandsForCourse v course → (d : Option Delivery) → last_delivery (world course) k ≡ d → IsCause BadStep (first_cause (world course) (steps.Answer k))
    go course a None l = inr (rw l refl)
    go course a (Some d) l = absurd (let some = sym h ∙ a.granted_are k ∙ ap (option_map (λ (d : Delivery). d.granted)) l in cc)

-- The client of a sent call is one of the world's.
pub sender-there : (v : WorldParts) (k : ℕ) (x : Letter) (course : Course) → StandsForCourse v course → nth v.letters k ≡ Some x → length v.members ≤ x.call.client → ⊥
sender-there v k x course a h l =
    let s = nth-every (IsSender (world course).clients) (world course).sent k x.call (kept course).senders (sent-at v (world course) k x a h) in
    let e = a.count_is in
    omega arith

pub no-sender : (v : WorldParts) (step : Step) (k : ℕ) (x : Letter) (fault : WorldFault) → nth v.letters k ≡ Some x → length v.members ≤ x.call.client → IsStep v step (Err fault) v
no-sender v step k x fault h l = inl (refl, λ course a. absurd (sender-there v k x course a h l))

pub fail-step : (v u : WorldParts) (k : ℕ) (x : Letter) (was : Member) (table : Parts) → nth v.letters k ≡ Some x → nth v.members x.call.client ≡ Some was →
    Notes was.table table (Fails (call_number x.call)) → u ≡ record v { members = set v.members x.call.client (record was { table = table }) } → IsStep v (steps.Fail k) (Ok tt) u
unfolding fault_of
fail-step v u k x was table h there n r = λ course a.
    let w = world course in
    let z = closing v u x.call.client (Fails (call_number x.call)) was table there (λ first log. refl) (λ first log. refl) n r in
    record {
      allowed = rw (sent-at v w k x a h) refl;
      stands = goes-on u course (steps.Fail k) (rw (sent-at v w k x a h) (called-stands v u w x.call.client (Fails (call_number x.call)) a z));
    }

pub fail-bad : (v : WorldParts) (k : ℕ) → length v.letters ≤ k → IsStep v (steps.Fail k) (Err BadStep) v
unfolding fault_of
fail-bad v k l = inl (refl, λ course a. inr (rw (sent-none v (world course) k a l) refl))

-- ---- a later moment, and another duration

pub pass-step : (v u : WorldParts) (m : ℕ) → v.moment ≤ m → m < END_OF_TIME → u ≡ record v { moment = m } → IsStep v (steps.At m) (Ok tt) u
unfolding fault_of
pass-step v u m le early r = λ course a.
    let w = world course in
    let e = a.moment_is in
    let late : nat_lt m w.moment ≡ false = grind (arith, nat_tests) in
    let short : nat_le END_OF_TIME m ≡ false = grind (arith, nat_tests) in
    record {
      allowed = rw (late, short) refl;
      stands = goes-on u course (steps.At m) (subst (λ (x : WorldParts). StandsAt x (after_step (steps.At m) w)) (sym r) (record {
        moment_is = omega arith;
        made_is = a.made_is;
        config_is = a.config_is;
        events_are = a.events_are;
        count_is = a.count_is;
        members_are = a.members_are;
        sent_are = a.sent_are;
        granted_are = a.granted_are;
      }));
    }

pub pass-bad : (v : WorldParts) (m : ℕ) → (m < v.moment) ⊎ (END_OF_TIME ≤ m) → IsStep v (steps.At m) (Err BadStep) v
unfolding fault_of
pass-bad v m (inl l) = inl (refl, λ course a. let e = a.moment_is in let yes : nat_lt m (world course).moment ≡ true = grind (arith, nat_tests) in inr (rw yes refl))
pass-bad v m (inr l) = inl (refl, λ course a. let yes : nat_le END_OF_TIME m ≡ true = grind (arith, nat_tests) in inr (bad-late (nat_lt m (world course).moment) (nat_le END_OF_TIME m) yes))
  where
    bad-late : (b c : Bool) → c ≡ true → bad_if (b || c) None ≡ Some BadStep
    bad-late true c e = refl
    bad-late false true e = refl
    bad-late false false e = absurd (cc)

pub ask-step : (v u : WorldParts) (c : ℕ) (asked : ℤ) (was : Member) → nth v.members c ≡ Some was → int_le asked (pos MAX_DURATION_MS) ≡ true →
    u ≡ record v { members = set v.members c (record was { asked = asked }) } → IsStep v (steps.Ask c asked) (Ok tt) u
unfolding fault_of
ask-step v u c asked was there short r = λ course a.
    let w = world course in
    let e = a.count_is in
    let l = nth-within v.members c was there in
    let no : no_client w c ≡ false = grind (arith, nat_tests) in
    let yes : nat_lt c w.clients ≡ true = lt-ltb c w.clients (omega arith) in
    record {
      allowed = rw (no, short) refl;
      stands = goes-on u course (steps.Ask c asked) (subst (λ (x : WorldParts). StandsAt x (after_step (steps.Ask c asked) w)) (sym r) (rw yes (record {
        moment_is = a.moment_is;
        made_is = a.made_is;
        config_is = a.config_is;
        events_are = a.events_are;
        count_is = length-set v.members c (record was { asked = asked }) ∙ a.count_is;
        members_are = λ d y h. go w a d y (c == d) refl h;
        sent_are = a.sent_are;
        granted_are = a.granted_are;
      })));
    }
  where
    q : Member
    q = record was { asked = asked }

    go : (w : World) → StandsAt v w → (d : ℕ) (y : Member) (b : Bool) → (c == d) ≡ b → nth (set v.members c q) d ≡ Some y → IsClientOf (record w { settings = (c, asked) ∷ w.settings }) d y
    go w a d y true e h =
        let same : c ≡ d = (Decides-eqb c d).0 e in
        let it : q ≡ y = (let s = nth-set-same v.members c q (nth-within v.members c was there) in let t : nth (set v.members c q) c ≡ Some y = ap (nth (set v.members c q)) same ∙ h in cc) in
        subst (IsClientOf (record w { settings = (c, asked) ∷ w.settings }) d) it
        (subst (λ (i : ℕ). StandsFor (client i) (pos 0) was.table (of_client i w.calls)) same (a.members_are c was there).0, rw e refl)
    go w a d y false e h = let s = a.members_are d y (sym (nth-set-other v.members c d q (are-apart c d e)) ∙ h) in (s.0, rw e s.1)

pub ask-bad : (v : WorldParts) (c : ℕ) (asked : ℤ) → (length v.members ≤ c) ⊎ (int_le asked (pos MAX_DURATION_MS) ≡ false) → IsStep v (steps.Ask c asked) (Err BadStep) v
unfolding fault_of
ask-bad v c asked (inl l) = inl (refl, λ course a. let e = a.count_is in let yes : no_client (world course) c ≡ true = grind (arith, nat_tests) in inr (rw yes refl))
ask-bad v c asked (inr l) = inl (refl, λ course a. inr (bad-long (no_client (world course) c) (int_le asked (pos MAX_DURATION_MS)) l))
  where
    bad-long : (b c : Bool) → c ≡ false → bad_if (b || not c) None ≡ Some BadStep
    bad-long true c e = refl
    bad-long false false e = refl
    bad-long false true e = absurd (cc)

-- ---- the beginning, and the promise

pub fresh-stands : (lease ack clients : ℕ) (s : SpaceHistory) (members : List Member) → s.configuration ≡ config_of lease ack → s.events ≡ first_events → AreFresh lease clients members →
    StandsForCourse (record { moment = 0; made = 0; space = s; members = members; letters = [] }) (no_deeds lease ack clients)
unfolding world world_after fresh
fresh-stands lease ack clients s members c e f = record {
  moment_is = refl;
  made_is = refl;
  config_is = c;
  events_are = e;
  count_is = f.count;
  members_are = f.each;
  sent_are = refl;
  granted_are = λ k. refl;
}

-- The rows of a space that has its history's table.
abbrev pub HasTable : SpaceHistory → Type 0
HasTable s = s.rows ≡ table s.configuration (places s.configuration s.events)

pub rows-are : (v : WorldParts) → HasTable v.space → ForEachCourse v (λ course. v.space.rows ≡ rows_of (world course))
rows-are v r course a = r
    ∙ ap (λ (g : SpaceConfig). table g (places g v.space.events)) a.config_is
    ∙ ap (λ (es : List Event). table (world course).config (places (world course).config es)) a.events_are

pub promise-is : (v : WorldParts) → HasTable v.space → ForEachCourse v (λ course. KeepsPromise (world course) v.space.rows)
promise-is v r course a c o p = ap (λ (rows : List Exported). has rows o) (rows-are v r course a) ∙ theorem course c o p

-- ---- for the functions

-- A client's call that was noted.
pub called-by : (v u : WorldParts) (i c : ℕ) (x : ClientCall) (was : Member) (asked : ℤ) (plan : Option Plan) (table : Parts) (ls : List Letter) → i ≡ c → nth v.members i ≡ Some was → asked ≡ was.asked →
    IsNoted was.table x plan table → ls ≡ with_letter c asked plan v.letters → u ≡ record v { members = set v.members i (record was { table = table }); letters = ls } → IsCalled v c x u
called-by v u i c x was asked plan table ls e h q n l r = record {
  was = was;
  table = table;
  plan = plan;
  there = ap (nth v.members) (sym e) ∙ h;
  noted = n;
  new_is = r ∙ ap (λ (j : ℕ). record v { members = set v.members j (record was { table = table }); letters = ls }) e
      ∙ ap (λ (m : List Letter). record v { members = set v.members c (record was { table = table }); letters = m }) (l ∙ ap (λ (z : ℤ). with_letter c z plan v.letters) q);
}

-- One that was refused.
pub not-called : (v u : WorldParts) (i c : ℕ) (x : ClientCall) (r : ClientFault) (was : Member) (table : Parts) (ls : List Letter) (fault : WorldFault) → i ≡ c → nth v.members i ≡ Some was →
    IsNotNoted was.table x r table → ls ≡ v.letters → u ≡ record v { members = set v.members i (record was { table = table }); letters = ls } → fault ≡ fault_of_client r → IsMemberCall v c x (Err fault) u
not-called v u i c x r was table ls fault e h n l s f = (
  s ∙ ap (λ (t : Parts). record v { members = set v.members i (record was { table = t }); letters = ls }) n.same
      ∙ ap (λ (m : List Letter). record v { members = set v.members i was; letters = m }) l
      ∙ ap (λ (m : List Member). record v { members = m }) (set-here v.members i was h),
  inr (inr (r, f, record { was = was; there = ap (nth v.members) (sym e) ∙ h; cause = n.cause })),
)

pub answer-taken : (v u : WorldParts) (k i g now : ℕ) (x : Letter) (plan : Plan) (was : Member) (table : Parts) → nth v.letters k ≡ Some x → x.granted ≡ Some g → i ≡ x.call.client → now ≡ v.moment → plan ≡ x.call.plan →
    nth v.members i ≡ Some was → Notes was.table table (answer_to now g plan) → u ≡ record v { members = set v.members i (record was { table = table }) } → IsStep v (steps.Answer k) (Ok tt) u
answer-taken v u k i g now x plan was table a b e en ep h n r = answer-step v u k x g a b
    (subst (λ (j : ℕ). IsCalled v j (answer_to v.moment g x.call.plan) u) e
    (subst (λ (m : ℕ). IsCalled v i (answer_to m g x.call.plan) u) en
    (subst (λ (p : Plan). IsCalled v i (answer_to now g p) u) ep (answer-called v u i now g plan was table h n r))))

pub fail-taken : (v u : WorldParts) (k i : ℕ) (x : Letter) (plan : Plan) (was : Member) (table : Parts) → nth v.letters k ≡ Some x → i ≡ x.call.client → plan ≡ x.call.plan →
    nth v.members i ≡ Some was → Notes was.table table (Fails (number_of plan)) → u ≡ record v { members = set v.members i (record was { table = table }) } → IsStep v (steps.Fail k) (Ok tt) u
fail-taken v u k i x plan was table a e ep h n r = fail-step v u k x was table a (ap (nth v.members) (sym e) ∙ h)
    (subst (λ (p : Plan). Notes was.table table (Fails (number_of p))) ep n)
    (r ∙ ap (λ (j : ℕ). record v { members = set v.members j (record was { table = table }) }) e)

pub deliver-taken : (v t u : WorldParts) (k by g : ℕ) (ask : Ask) (x y : Letter) → nth v.letters k ≡ Some x → by ≡ x.call.client + 1 → ask ≡ ask_of x.call → IsTurned v by ask g t →
    nth t.letters k ≡ Some y → u ≡ record t { letters = set t.letters k (record y { granted = Some g }) } → IsStep v (steps.Deliver k) (Ok tt) u
deliver-taken v t u k by g ask x y h eb ea b there r =
    let at : nth t.letters k ≡ Some x = ap (λ (z : WorldParts). nth z.letters k) b.rest ∙ h in
    let same : y ≡ x = (let s = sym there ∙ at in cc) in
    deliver-step v t u k x g h
    (subst (λ (n : ℕ). IsTurned v n (ask_of x.call) g t) eb (subst (λ (a : Ask). IsTurned v by a g t) ea b))
    (r ∙ ap (λ (z : Letter). record t { letters = set t.letters k (record z { granted = Some g }) }) same)

pub deliver-not-taken : (v u : WorldParts) (k by : ℕ) (ask : Ask) (x : Letter) (fault : WorldFault) → nth v.letters k ≡ Some x → by ≡ x.call.client + 1 → ask ≡ ask_of x.call → u ≡ v →
    IsCause fault (refusal_at v by ask) → IsStep v (steps.Deliver k) (Err fault) u
deliver-not-taken v u k by ask x fault h eb ea same c = deliver-refused v u k x fault h same
    (subst (λ (n : ℕ). IsCause fault (refusal_at v n (ask_of x.call))) eb (subst (λ (a : Ask). IsCause fault (refusal_at v by a)) ea c))

-- The end of a `Make` that has begun.
pub make-end : (v t u : WorldParts) (granted : ℕ) (ask : Ask) (r : Result (Unit {0}) WorldFault) → IsTurned v 0 begin granted t → ask ≡ finish v.made → OnOk r (IsReturned t ask u) →
    IfErr r (λ fault. IsCause fault (refusal_at t 0 ask)) →
    OnErr r (0 < running_calls_by (places t.space.configuration t.space.events) 0 maker → IsAbandoned t u) → IsStep v steps.Make r u
make-end v t u granted ask r b e ok refused cut =
    let made : ask ≡ finish t.made = e ∙ ap (λ (z : WorldParts). finish z.made) (sym b.rest) in go r ok refused cut made
  where
    go : (r : Result (Unit {0}) WorldFault) → OnOk r (IsReturned t ask u) → IfErr r (λ fault. IsCause fault (refusal_at t 0 ask)) →
        OnErr r (0 < running_calls_by (places t.space.configuration t.space.events) 0 maker → IsAbandoned t u) → ask ≡ finish t.made → IsStep v steps.Make r u
    go (Ok done) ok refused cut made = make-step v t u granted b (subst (λ (a : Ask). IsReturned t a u) made ok)
    go (Err fault) ok refused cut made = make-cut v t u granted fault b (subst (λ (a : Ask). IsCause fault (refusal_at t 0 a)) made refused) cut

-- ---- the clauses of a step

make-cause : (w : World) (fault : WorldFault) → IsCause fault (turn_fault w 0 begin) → IsCause fault (fault_of w steps.Make)
unfolding fault_of
make-cause w fault (inl memory) = inl memory
make-cause w fault (inr e) = inr (rw e refl)

cut-cause : (w : World) (fault : WorldFault) → turn_fault w 0 begin ≡ None → IsCause fault (turn_fault (begun w) 0 (finish w.made)) → IsCause fault (fault_of w steps.Make)
unfolding fault_of
cut-cause w fault n (inl memory) = inl memory
cut-cause w fault n (inr e) = inr (rw (n, e) refl)

first-is-cause : (w : World) (step : Step) (fault : WorldFault) → IsCause fault (first_cause w step) → IsCause fault (fault_of w step)
first-is-cause w (steps.At m) fault k = k
first-is-cause w steps.Make fault k = make-cause w fault k
first-is-cause w (steps.Ack m) fault k = k
first-is-cause w (steps.Register c n) fault k = k
first-is-cause w (steps.Release c n) fault k = k
first-is-cause w (steps.Due c) fault k = k
first-is-cause w (steps.Deliver n) fault k = k
first-is-cause w (steps.Answer n) fault k = k
first-is-cause w (steps.Fail n) fault k = k
first-is-cause w steps.Tick fault k = k
first-is-cause w (steps.Ask c a) fault k = k

pub step-cause : (v u : WorldParts) (step : Step) (r : Result (Unit {0}) WorldFault) → IsStep v step r u → IfErr r (λ fault. ForEachCourse v (λ course. IsCause fault (fault_of (world course) step)))
step-cause v u step (Ok done) k = tt
step-cause v u step (Err fault) (inl k) = λ course a. first-is-cause (world course) step fault (k.1 course a)
step-cause v u step (Err fault) (inr k) = λ course a.
    let z = k.1 course a in
    subst (λ (s : Step). IsCause fault (fault_of (world course) s)) (sym k.0) (cut-cause (world course) fault z.began z.cause)

-- ---- the clients of a fresh world

pub fresh-none : (lease : ℕ) → AreFresh lease 0 []
fresh-none lease = record { count = refl; each = λ c x h. absurd (cc) }

pub fresh-more : (lease n : ℕ) (members : List Member) (y : Member) → AreFresh lease n members → StandsFor (client n) (pos 0) y.table [] → y.asked ≡ pos lease → AreFresh lease (n + 1) (members ++ y ∷ [])
fresh-more lease n members y f s e = record {
  count = length-append members (y ∷ []) ∙ ap (λ (k : ℕ). k + 1) f.count;
  each = λ c x h. elim (nth-either members y x c h) [
    | inl a ↦ f.each c x a
    | inr b ↦ subst (λ (z : Member). StandsFor (client c) (pos 0) z.table [] × (z.asked ≡ pos lease)) b.1
        (subst (λ (k : ℕ). StandsFor (client k) (pos 0) y.table []) (sym (b.0 ∙ f.count)) s, e)
  ];
}
