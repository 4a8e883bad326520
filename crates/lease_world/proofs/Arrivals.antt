-- What a lease call that arrives is in the history, and what that is for each client.
use Rattle.std.proofs.Common.{◌≡◌, ℕ, List, [], ◌∷◌, refl, ap, sym, ◌∙◌, subst}
use Rattle.std.specs.Prelude.{ℤ, pos, Bool, true, false, ◌&&◌, filter, if◌then◌else◌, Some, ◌==◌, ◌<ℤ◌}
use Rattle.std.specs.List.{list_any}
use Rattle.std.specs.Ordering.{int_eq}
use Rattle.std.proofs.lemmas.Bool.{and_parts}
use Rattle.std.proofs.lemmas.Bool.Decides.{Decides-eqb}
use Rattle.object_ids.specs.Same.{same_id, same_bytes, same_uid, same_client}
use Rattle.object_ids.specs.declared.ids.ObjId.{ObjId}
use Rattle.object_ids.proofs.Exact.{same_id-equal}
use Rattle.history.specs.LeaseCalls.{call_with}
use Rattle.history.specs.Leases.{is_dirty, is_dirty_kind, is_naming}
use Rattle.history.specs.Places.{has}
use Rattle.history.specs.declared.calls.Call.{Call}
use Rattle.history.specs.declared.calls.CallKind.TheVariants.{Dirty as DirtyCall, Weak, Strong}
use Rattle.history.specs.declared.places.Exported.{Exported}
use Rattle.history.proofs.ListLemmas.{every-weaker, list_any-filter}
use Rattle.dgc_client.specs.Log.{Note, Ref, number_of, next, refs}
use Rattle.dgc_client.specs.declared.plan.Plan.{Plan}
use Rattle.dgc_client.specs.declared.plan.Plan.TheVariants as plans
use Rattle.lease_world.specs.World.{client, uid, nth, ask_as, call_number}
use Rattle.lease_world.specs.declared.sent_call.SentCall.{SentCall}
use Rattle.lease_world.proofs.Lists.{any-weaker, any-then, nth-every}
use Rattle.lease_world.proofs.TableCalls.{is_of}
use Rattle.lease_world.proofs.Tenures.{CleanBelow}
use Rattle.lease_world.proofs.Kept.{Agrees, SentBelow, CleanSentBelow, AsksAs, OneAsked, SentCleaned, cleans}
use Rattle.lease_world.proofs.Turns.{Arrives}

-- ---- the call

-- The lease call of a plan that arrives at the moment t, with those of its objects that pass a test.
abbrev pub made_call : (ObjId → Bool) → ℕ → ℕ → ℤ → Plan → Call
made_call test t c asked (plans.Dirty number ids) = record { moment = t; client = client c; number = number; objects = filter test ids; kind = DirtyCall; asked = asked }
made_call test t c asked (plans.Clean number ids strong) = record { moment = t; client = client c; number = number; objects = filter test ids; kind = if strong then Strong else Weak; asked = pos 0 }

pub call-made : (test : ObjId → Bool) (t c : ℕ) (asked : ℤ) (p : Plan) → call_with test t (ask_as c asked p) ≡ made_call test t c asked p ∷ []
call-made test t c asked (plans.Dirty number ids) = refl
call-made test t c asked (plans.Clean number ids strong) = refl

pub moment-made : (test : ObjId → Bool) (t c : ℕ) (asked : ℤ) (p : Plan) → (made_call test t c asked p).moment ≡ t
moment-made test t c asked (plans.Dirty number ids) = refl
moment-made test t c asked (plans.Clean number ids strong) = refl

pub client-made : (test : ObjId → Bool) (t c : ℕ) (asked : ℤ) (p : Plan) → (made_call test t c asked p).client ≡ client c
client-made test t c asked (plans.Dirty number ids) = refl
client-made test t c asked (plans.Clean number ids strong) = refl

pub number-made : (test : ObjId → Bool) (t c : ℕ) (asked : ℤ) (p : Plan) → (made_call test t c asked p).number ≡ number_of p
number-made test t c asked (plans.Dirty number ids) = refl
number-made test t c asked (plans.Clean number ids strong) = refl

not-dirty : (strong : Bool) → is_dirty_kind (if strong then Strong else Weak) ≡ false
not-dirty true = refl
not-dirty false = refl

asked-made : (test : ObjId → Bool) (t c : ℕ) (asked : ℤ) (p : Plan) → is_dirty (made_call test t c asked p) ≡ true → (made_call test t c asked p).asked ≡ asked
asked-made test t c asked (plans.Dirty number ids) d = refl
asked-made test t c asked (plans.Clean number ids strong) d = absurd (let no = not-dirty strong in cc)

abbrev ids_in : Plan → List ObjId
ids_in (plans.Dirty number ids) = ids
ids_in (plans.Clean number ids strong) = ids

naming-made : (test : ObjId → Bool) (t c : ℕ) (asked : ℤ) (p : Plan) (o : ObjId) → is_naming o (made_call test t c asked p) ≡ list_any (λ y. test y && same_id y o) (ids_in p)
naming-made test t c asked (plans.Dirty number ids) o = list_any-filter (λ y. same_id y o) test ids
naming-made test t c asked (plans.Clean number ids strong) o = list_any-filter (λ y. same_id y o) test ids

-- It names only objects that pass the test.
named-test : (test : ObjId → Bool) (t c : ℕ) (asked : ℤ) (p : Plan) (o : ObjId) → is_naming o (made_call test t c asked p) ≡ true → test o ≡ true
named-test test t c asked p o h = any-then (λ y. test y && same_id y o) (test o ≡ true)
    (λ y a. let two = and_parts (test y) (same_id y o) a in ap test (sym (same_id-equal y o two.1)) ∙ two.0) (ids_in p) (sym (naming-made test t c asked p o) ∙ h)

-- A clean that names the object was sent so.
clean-made : (test : ObjId → Bool) (t c : ℕ) (asked : ℤ) (p : Plan) (o : ObjId) → is_dirty (made_call test t c asked p) ≡ false → is_naming o (made_call test t c asked p) ≡ true → cleans o p ≡ true
clean-made test t c asked (plans.Dirty number ids) o d h = absurd (cc)
clean-made test t c asked (plans.Clean number ids strong) o d h =
    any-weaker (λ y. test y && same_id y o) (λ y. same_id y o) (λ y a. (and_parts (test y) (same_id y o) a).1) ids (sym (list_any-filter (λ y. same_id y o) test ids) ∙ h)

-- ---- its client

same-client : (a c : ℕ) → same_client (client a) (client c) ≡ true → a ≡ c
same-client a c h = (Decides-eqb a c).0 (and_parts (a == c) true (and_parts (same_bytes (a ∷ []) (c ∷ [])) (same_uid (uid 0) (uid 0)) h).0).0

client-is : (test : ObjId → Bool) (t a c : ℕ) (asked : ℤ) (p : Plan) → is_of (client c) (made_call test t a asked p) ≡ true → a ≡ c
client-is test t a c asked p h = same-client a c (ap (λ v. same_client v (client c)) (sym (client-made test t a asked p)) ∙ h)

-- WHAT A SENT CALL is for each client, when it arrives.
pub arrives : (lease now seen : ℕ) (ns : List Note) (calls : List Call) (table : List Exported) (ms : List SentCall) (c t n : ℕ) (m : SentCall) → nth ms n ≡ Some m → Agrees lease now seen ns calls table ms c →
    Arrives c ns ms table (made_call (has table) t m.client m.asked m.plan)
arrives lease now seen ns calls table ms c t n m at a = record {
  low = λ i. subst (λ (z : ℤ). z <ℤ next (pos 0) ns) (sym number) (nth-every (SentBelow c (next (pos 0) ns)) ms n m a.sent_low at (who i));
  clean = every-weaker (SentCleaned c ms) (λ (r : Ref). CleanBelow (client c) r.id r.since x)
      (λ r f i q d. subst (λ (z : ℤ). z <ℤ r.since) (sym number) (nth-every (CleanSentBelow c r.id r.since) ms n m f at (who i) (clean-made (has table) t m.client m.asked m.plan r.id d q)))
      (refs (pos 0) ns) a.sent_cleaned;
  ask = λ d.
      let two = and_parts (is_dirty x) (is_of (client c) x) d in
      every-weaker (λ k. m.client ≡ c → AsksAs c (call_number m) m.asked k) (AsksAs c x.number x.asked)
      (λ k f i s. f (who two.1) i (subst (λ (z : ℤ). int_eq (call_number k) z ≡ true) number s) ∙ sym (asked-made (has table) t m.client m.asked m.plan two.0))
      ms (nth-every (OneAsked c ms) ms n m a.one_asked at);
  named = λ o h. named-test (has table) t m.client m.asked m.plan o h;
}
  where
    x : Call
    x = made_call (has table) t m.client m.asked m.plan

    number : x.number ≡ call_number m
    number = number-made (has table) t m.client m.asked m.plan

    who : is_of (client c) x ≡ true → m.client ≡ c
    who i = client-is (has table) t m.client c m.asked m.plan i
