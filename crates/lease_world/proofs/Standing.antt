-- What a world's value stands for, one step further.
use Rattle.std.proofs.Common.{◌≡◌, ℕ, ◌<◌, ◌≤◌, List, [], ◌∷◌, length, map, set, refl, ap, sym, ◌∙◌, arith, subst, inl, inr}
use Rattle.std.specs.Prelude.{ℤ, pos, Bool, true, false, Option, Some, None, option_map, ◌==◌, if◌then◌else◌, nat_lt, Result, Ok, Err}
use Rattle.std.proofs.lemmas.Bool.{lt-ltb}
use Rattle.std.proofs.lemmas.Bool.Decides.{Decides-eqb, nat_tests}
use Rattle.std.proofs.lemmas.List.{map-append}
use Rattle.history.specs.Limits.{limits, refusal}
use Rattle.history.specs.Replies.{reply}
use Rattle.history.specs.Table.{places, with_event}
use Rattle.history.specs.declared.asks.Ask.{Ask}
use Rattle.history.specs.declared.asks.Ask.TheVariants as asks
use Rattle.history.specs.declared.asks.Event.{Event}
use Rattle.history.specs.declared.asks.SpaceConfig.{SpaceConfig}
use Rattle.dgc_client.specs.Log.{ClientCall, Registers, Drops, Dues}
use Rattle.dgc_client.specs.StandsForLog.{StandsFor}
use Rattle.dgc_client.specs.declared.plan.ClientFault.TheVariants as client_faults
use Rattle.dgc_client.specs.declared.plan.Plan.{Plan}
use Rattle.space.specs.Acts.{event_of}
use Rattle.space.specs.Built.{SpaceHistory}
use Rattle.lease_world.specs.Faults.{of_client as fault_of_client}
use Rattle.lease_world.specs.Letters.{Letter}
use Rattle.lease_world.specs.Tables.{IsClientCause, call_cause}
use Rattle.lease_world.specs.Stands.{WorldParts, StandsAt, IsClientOf, StandsForCourse, granted_by, IsCause, IsStep, first_cause, refusal_at, with_letter, IsCalled, IsNoCall, IsMemberCall, event_at}
use Rattle.lease_world.specs.World.{World, Course, Deed, Taken, CutMake, client, object, of_client, nth, asked_by, history, granted_in, turned, turn_fault, fault_of, spent_fault, no_client, begun, with_deed, with_sent, world, world_after, after, after_step, called, event_now, if_client, bad_if, if_fault, maker}
use Rattle.lease_world.specs.declared.fault.WorldFault.{WorldFault}
use Rattle.lease_world.specs.declared.fault.WorldFault.TheVariants.{BadStep, SpaceRefused, ClientRefused}
use Rattle.lease_world.specs.declared.member.Member.{Member}
use Rattle.lease_world.specs.declared.step.Step.{Step}
use Rattle.lease_world.specs.declared.step.Step.TheVariants as steps
use Rattle.lease_world.proofs.Positions.{nth-within, nth-set-same, nth-set-other, are-apart, length-set, nth-last-none}

-- ---- courses

world-more : (course : Course) (d : Deed) → world (with_deed d course) ≡ after d (world course)
unfolding world world_after
world-more course d = refl

after-taken : (step : Step) (w : World) → after (Taken step) w ≡ after_step step w
unfolding after
after-taken step w = refl

after-cut : (w : World) → after CutMake w ≡ turned 0 (asks.Abandon maker) (begun w)
unfolding after
after-cut w = refl

-- A course goes on by a step that was taken.
pub goes-on : (u : WorldParts) (course : Course) (step : Step) → StandsAt u (after_step step (world course)) → StandsForCourse u (with_deed (Taken step) course)
goes-on u course step s = subst (StandsAt u) (sym (world-more course (Taken step) ∙ after-taken step (world course))) s

pub goes-on-cut : (u : WorldParts) (course : Course) → StandsAt u (turned 0 (asks.Abandon maker) (begun (world course))) → StandsForCourse u (with_deed CutMake course)
goes-on-cut u course s = subst (StandsAt u) (sym (world-more course CutMake ∙ after-cut (world course))) s

-- ---- turns

-- The server's space has another history.
spaced : (v : WorldParts) (s : SpaceHistory) (w : World) (events : List Event) → StandsAt v w → s.configuration ≡ v.space.configuration → s.events ≡ events →
    StandsAt (record v { space = s }) (record w { events = events })
spaced v s w events a c e = record {
  moment_is = a.moment_is;
  made_is = a.made_is;
  config_is = c ∙ a.config_is;
  events_are = e;
  count_is = a.count_is;
  members_are = a.members_are;
  sent_are = a.sent_are;
  granted_are = a.granted_are;
}

event-same : (v : WorldParts) (w : World) (by : ℕ) (ask : Ask) → StandsAt v w → event_at v by ask ≡ event_now w by ask
event-same v w by ask a = ap (λ (m : ℕ). event_of by m ask) a.moment_is

events-same : (v : WorldParts) (w : World) (by : ℕ) (ask : Ask) → StandsAt v w → with_event v.space.events (event_at v by ask) ≡ with_event w.events (event_now w by ask)
events-same v w by ask a = ap (λ (es : List Event). with_event es (event_at v by ask)) a.events_are ∙ ap (with_event w.events) (event-same v w by ask a)

pub turned-stands : (v u : WorldParts) (w : World) (by : ℕ) (ask : Ask) → StandsAt v w → u.space.configuration ≡ v.space.configuration →
    u.space.events ≡ with_event v.space.events (event_at v by ask) → u ≡ record v { space = u.space } → StandsAt u (turned by ask w)
turned-stands v u w by ask a c e r =
    subst (λ (x : WorldParts). StandsAt x (turned by ask w)) (sym r) (spaced v u.space w (with_event w.events (event_now w by ask)) a c (e ∙ events-same v w by ask a))

pub refusal-same : (v : WorldParts) (w : World) (by : ℕ) (ask : Ask) → StandsAt v w → refusal_at v by ask ≡ turn_fault w by ask
refusal-same v w by ask a =
    ap (λ (c : SpaceConfig). option_map SpaceRefused (refusal (limits c) c (places c v.space.events) (event_at v by ask))) a.config_is
    ∙ ap (λ (es : List Event). option_map SpaceRefused (refusal (limits w.config) w.config (places w.config es) (event_at v by ask))) a.events_are
    ∙ ap (λ (e : Event). option_map SpaceRefused (refusal (limits w.config) w.config (history w) e)) (event-same v w by ask a)

pub reply-same : (v : WorldParts) (w : World) (by : ℕ) (ask : Ask) → StandsAt v w →
    granted_in (reply v.space.configuration (places v.space.configuration v.space.events) (event_at v by ask)) ≡ granted_in (reply w.config (history w) (event_now w by ask))
reply-same v w by ask a =
    ap (λ (c : SpaceConfig). granted_in (reply c (places c v.space.events) (event_at v by ask))) a.config_is
    ∙ ap (λ (es : List Event). granted_in (reply w.config (places w.config es) (event_at v by ask))) a.events_are
    ∙ ap (λ (e : Event). granted_in (reply w.config (history w) e)) (event-same v w by ask a)

-- ---- calls of clients' tables

letters-sent : (c : ℕ) (asked : ℤ) (p : Option Plan) (ls : List Letter) → map (λ (x : Letter). x.call) (with_letter c asked p ls) ≡ with_sent c asked p (map (λ (x : Letter). x.call) ls)
letters-sent c asked (Some y) ls = map-append (λ (x : Letter). x.call) ls (record { call = record { client = c; asked = asked; plan = y }; granted = None } ∷ [])
letters-sent c asked None ls = refl

letters-granted : (c : ℕ) (asked : ℤ) (p : Option Plan) (ls : List Letter) (k : ℕ) → granted_by (nth (with_letter c asked p ls) k) ≡ granted_by (nth ls k)
letters-granted c asked (Some y) ls k = nth-last-none granted_by ls (record { call = record { client = c; asked = asked; plan = y }; granted = None }) k refl refl
letters-granted c asked None ls k = refl

member-same : (w : World) (c : ℕ) (x : ClientCall) (q : Member) → StandsFor (client c) (pos 0) q.table (x ∷ of_client c w.calls) → q.asked ≡ asked_by c w → IsClientOf (called c x w) c q
member-same w c x q s e = (rw ((Decides-eqb c c).1 refl) s, e)

member-other : (w : World) (c d : ℕ) (x : ClientCall) (q : Member) → (c == d) ≡ false → IsClientOf w d q → IsClientOf (called c x w) d q
member-other w c d x q h s = (rw h s.0, s.1)

-- A client's call, of the value and of the world.
pub called-stands : (v u : WorldParts) (w : World) (c : ℕ) (x : ClientCall) → StandsAt v w → IsCalled v c x u → StandsAt u (called c x w)
called-stands v u w c x a k = subst (λ (z : WorldParts). StandsAt z (called c x w)) (sym k.new_is) (record {
  moment_is = a.moment_is;
  made_is = a.made_is;
  config_is = a.config_is;
  events_are = a.events_are;
  count_is = length-set v.members c q ∙ a.count_is;
  members_are = λ d y h. go d y (c == d) refl h;
  sent_are = letters-sent c k.was.asked k.plan v.letters ∙ ap (with_sent c k.was.asked k.plan) a.sent_are
      ∙ ap (λ (z : ℤ). with_sent c z k.plan w.sent) here.1 ∙ ap (λ (p : Option Plan). with_sent c (asked_by c w) p w.sent) (k.noted.planned (client c) (pos 0) (of_client c w.calls) here.0);
  granted_are = λ n. letters-granted c k.was.asked k.plan v.letters n ∙ a.granted_are n;
})
  where
    q : Member
    q = record k.was { table = k.table }

    here : IsClientOf w c k.was
    here = a.members_are c k.was k.there

    go : (d : ℕ) (y : Member) (b : Bool) → (c == d) ≡ b → nth (set v.members c q) d ≡ Some y → IsClientOf (called c x w) d y
    go d y true e h =
        let same : c ≡ d = (Decides-eqb c d).0 e in
        let there : nth (set v.members c q) c ≡ Some y = ap (nth (set v.members c q)) same ∙ h in
        let it : q ≡ y = (let s = nth-set-same v.members c q (nth-within v.members c k.was k.there) in cc) in
        subst (λ (d : ℕ). IsClientOf (called c x w) d y) same
        (subst (IsClientOf (called c x w) c) it (member-same w c x q (k.noted.notes (client c) (pos 0) (of_client c w.calls) here.0) here.1))
    go d y false e h = member-other w c d x y e (a.members_are d y (sym (nth-set-other v.members c d q (are-apart c d e)) ∙ h))

-- ---- why a client's call is refused

full-cause : (b : Bool) → if_fault b (ClientRefused client_faults.FullRefs) None ≡ option_map fault_of_client (if b then Some client_faults.FullRefs else None)
full-cause true = refl
full-cause false = refl

spent-cause : (b : Bool) → if_fault b (ClientRefused client_faults.NumbersSpent) None ≡ option_map fault_of_client (if b then Some client_faults.NumbersSpent else None)
spent-cause true = refl
spent-cause false = refl

-- The fault of a call of the client c.
abbrev pub member_fault : World → ℕ → ClientCall → Option WorldFault
member_fault w c x = bad_if (no_client w c) (option_map fault_of_client (call_cause (pos 0) (of_client c w.calls) x))

is-client : (v : WorldParts) (w : World) (c : ℕ) → StandsAt v w → c < length v.members → no_client w c ≡ false
is-client v w c a l = let e = a.count_is in grind (arith, nat_tests)

is-no-client : (v : WorldParts) (w : World) (c : ℕ) → StandsAt v w → length v.members ≤ c → no_client w c ≡ true
is-no-client v w c a l = let e = a.count_is in grind (arith, nat_tests)

bad-is : (b : Bool) (f : Option WorldFault) → b ≡ true → bad_if b f ≡ Some BadStep
bad-is true f e = refl
bad-is false f e = absurd (cc)

good-is-fault : (b : Bool) (f : Option WorldFault) → b ≡ false → bad_if b f ≡ f
good-is-fault true f e = absurd (cc)
good-is-fault false f e = refl

pub refused-member : (v : WorldParts) (w : World) (c : ℕ) (x : ClientCall) (fault : WorldFault) → StandsAt v w → IsNoCall v c x fault → IsCause fault (member_fault w c x)
refused-member v w c x fault a (inl gone) = inr (bad-is (no_client w c) (option_map fault_of_client (call_cause (pos 0) (of_client c w.calls) x)) (is-no-client v w c a gone.0) ∙ ap (λ (f : WorldFault). Some f) (sym gone.1))
refused-member v w c x fault a (inr (inl memory)) = inl memory
refused-member v w c x fault a (inr (inr r)) = go (r.2.cause (client c) (pos 0) (of_client c w.calls) (a.members_are c r.2.was r.2.there).0)
  where
    go : IsClientCause r.0 (call_cause (pos 0) (of_client c w.calls) x) → IsCause fault (member_fault w c x)
    go (inl memory) = inl (r.1 ∙ ap fault_of_client memory)
    go (inr cause) = inr (good-is-fault (no_client w c) (option_map fault_of_client (call_cause (pos 0) (of_client c w.calls) x)) (is-client v w c a (nth-within v.members c r.2.was r.2.there))
        ∙ ap (option_map fault_of_client) cause ∙ ap (λ (f : WorldFault). Some f) (sym r.1))

taken-member : (v u : WorldParts) (w : World) (c : ℕ) (x : ClientCall) → StandsAt v w → IsCalled v c x u → member_fault w c x ≡ None
taken-member v u w c x a k =
    good-is-fault (no_client w c) (option_map fault_of_client (call_cause (pos 0) (of_client c w.calls) x)) (is-client v w c a (nth-within v.members c k.was k.there))
    ∙ ap (option_map fault_of_client) (k.noted.allowed (client c) (pos 0) (of_client c w.calls) (a.members_are c k.was k.there).0)

if-client : (v : WorldParts) (w : World) (c : ℕ) (f : World → World) → StandsAt v w → c < length v.members → if_client c f w ≡ f w
if-client v w c f a l =
    let e = a.count_is in
    let yes : nat_lt c w.clients ≡ true = lt-ltb c w.clients (omega arith) in
    rw yes refl

-- A step that is a call of a client's table.
pub member-step : (v u : WorldParts) (c : ℕ) (x : ClientCall) (step : Step) →
    ((w : World) → StandsAt v w → fault_of w step ≡ member_fault w c x) →
    ((w : World) → first_cause w step ≡ fault_of w step) →
    ((w : World) → StandsAt v w → after_step step w ≡ if_client c (called c x) w) →
    (r : Result (Unit {0}) WorldFault) → IsMemberCall v c x r u → IsStep v step r u
member-step v u c x step f first g (Ok done) k = λ course a. record {
  allowed = f (world course) a ∙ taken-member v u (world course) c x a k;
  stands = goes-on u course step (subst (StandsAt u) (sym (g (world course) a ∙ if-client v (world course) c (called c x) a (nth-within v.members c k.was k.there))) (called-stands v u (world course) c x a k));
}
member-step v u c x step f first g (Err fault) k = inl (k.0, λ course a. subst (IsCause fault) (sym (first (world course) ∙ f (world course) a)) (refused-member v (world course) c x fault a k.1))

pub register-step : (v u : WorldParts) (c : ℕ) (number : ℤ) (r : Result (Unit {0}) WorldFault) → IsMemberCall v c (Registers (object number)) r u → IsStep v (steps.Register c number) r u
unfolding fault_of
register-step v u c number r k = member-step v u c (Registers (object number)) (steps.Register c number)
    (λ w a. ap (bad_if (no_client w c)) (full-cause _)) (λ w. refl) (λ w a. refl) r k

pub release-step : (v u : WorldParts) (c : ℕ) (number : ℤ) (r : Result (Unit {0}) WorldFault) → IsMemberCall v c (Drops (object number) v.moment) r u → IsStep v (steps.Release c number) r u
unfolding fault_of
release-step v u c number r k = member-step v u c (Drops (object number) v.moment) (steps.Release c number)
    (λ w a. ap (λ (m : ℕ). bad_if (no_client w c) (spent_fault w c (Drops (object number) m))) (sym a.moment_is) ∙ ap (bad_if (no_client w c)) (spent-cause _)) (λ w. refl)
    (λ w a. ap (λ (m : ℕ). if_client c (called c (Drops (object number) m)) w) (sym a.moment_is)) r k

pub due-step : (v u : WorldParts) (c : ℕ) (r : Result (Unit {0}) WorldFault) → IsMemberCall v c (Dues v.moment) r u → IsStep v (steps.Due c) r u
unfolding fault_of
due-step v u c r k = member-step v u c (Dues v.moment) (steps.Due c)
    (λ w a. ap (λ (m : ℕ). bad_if (no_client w c) (spent_fault w c (Dues m))) (sym a.moment_is) ∙ ap (bad_if (no_client w c)) (spent-cause _)) (λ w. refl)
    (λ w a. ap (λ (m : ℕ). if_client c (called c (Dues m)) w) (sym a.moment_is)) r k
