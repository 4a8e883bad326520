-- What each step of a world keeps, for one client.
use Rattle.std.proofs.Common.{◌≡◌, ℕ, ◌+◌, ◌<◌, ◌≤◌, List, [], ◌∷◌}
use Rattle.std.specs.Prelude.{ℤ, pos, Bool, true, false, ◌<ℤ◌, ◌≤ℤ◌}
use Rattle.std.specs.List.{list_any, AllByRecursion}
use Rattle.std.specs.Ordering.{int_eq}
use Rattle.object_ids.specs.Client.{Client}
use Rattle.object_ids.specs.Same.{same_id}
use Rattle.object_ids.specs.declared.ids.ObjId.{ObjId}
use Rattle.history.specs.Leases.{grant, holds, calls_of}
use Rattle.history.specs.Places.{has}
use Rattle.history.specs.declared.calls.Call.{Call}
use Rattle.history.specs.declared.places.Exported.{Exported}
use Rattle.dgc_client.specs.Log.{Dirty, Note, Ref, next, refs, until, once_then, with_dirty}
use Rattle.dgc_client.specs.declared.plan.Plan.{Plan}
use Rattle.dgc_client.specs.declared.plan.Plan.TheVariants as plans
use Rattle.lease_world.specs.World.{client, call_number, confirms_by}
use Rattle.lease_world.specs.declared.sent_call.SentCall.{SentCall}
use Rattle.lease_world.proofs.TableCalls.{is_of, is_dirty_of, meets}
use Rattle.lease_world.proofs.Tenures.{CleanBelow, tenure_of, time_left}

-- All dirty calls that a log sent, the newest first.
unfoldable pub dirties : List Note → List Dirty
dirties [] = []
dirties (n ∷ ns) = with_dirty n.dirty (dirties ns)

-- ---- a delivered call

-- The client's call has a smaller number.
abbrev pub NumberBelow : ℕ → ℤ → Call → Type 0
NumberBelow c z x = is_of (client c) x ≡ true → x.number <ℤ z

-- The dirty call, if it has the delivered one's number, was sent no later than that was delivered.
abbrev pub SentBefore : Call → Dirty → Type 0
SentBefore x y = int_eq y.number x.number ≡ true → y.moment ≤ x.moment

abbrev pub DeliveredLater : ℕ → List Dirty → Call → Type 0
DeliveredLater c ys x = is_dirty_of (client c) x ≡ true → AllByRecursion (SentBefore x) ys

-- A delivery of the client's dirty call of this number is granted g.
abbrev pub Grants : ℕ → ℕ → ℤ → ℕ → Call → Type 0
Grants lease c number g x = is_dirty_of (client c) x ≡ true → int_eq x.number number ≡ true → grant lease x.asked ≡ g

-- ---- a sent call

abbrev pub SentBelow : ℕ → ℤ → SentCall → Type 0
SentBelow c z m = m.client ≡ c → call_number m <ℤ z

-- A clean call that names the object.
abbrev pub cleans : ObjId → Plan → Bool
cleans o (plans.Clean number ids strong) = list_any (λ x. same_id x o) ids
cleans o (plans.Dirty number ids) = false

abbrev pub CleanSentBelow : ℕ → ObjId → ℤ → SentCall → Type 0
CleanSentBelow c o z m = m.client ≡ c → cleans o m.plan ≡ true → call_number m <ℤ z

-- The client's call of this number asks for this duration.
abbrev pub AsksAs : ℕ → ℤ → ℤ → SentCall → Type 0
AsksAs c number asked m = m.client ≡ c → int_eq (call_number m) number ≡ true → m.asked ≡ asked

abbrev pub SameAsked : ℕ → List SentCall → Call → Type 0
SameAsked c ms x = is_dirty_of (client c) x ≡ true → AllByRecursion (AsksAs c x.number x.asked) ms

abbrev pub OneAsked : ℕ → List SentCall → SentCall → Type 0
OneAsked c ms m = AllByRecursion (λ k. m.client ≡ c → AsksAs c (call_number m) m.asked k) ms

-- ---- a reference

abbrev pub Cleaned : ℕ → List Call → Ref → Type 0
Cleaned c calls r = AllByRecursion (CleanBelow (client c) r.id r.since) calls

abbrev pub SentCleaned : ℕ → List SentCall → Ref → Type 0
SentCleaned c ms r = AllByRecursion (CleanSentBelow c r.id r.since) ms

-- An object that a dirty of the tenure names, with a number of at least the reference's `since`, is in the table while time is left.
abbrev pub Exports : ℕ → ℕ → ℕ → List Call → List Exported → Ref → Type 0
Exports lease seen c calls table r =
    (n : ℤ) → r.since ≤ℤ n → list_any (meets (client c) r.id n) (tenure_of lease calls (client c)) ≡ true → time_left lease seen calls (client c) ≡ true → has table r.id ≡ true

-- ---- a dirty call that was sent

-- One that was delivered and may still be answered well is in the tenure, where g is what its deliveries are granted.
abbrev pub InTenure : ℕ → ℕ → ℕ → List Call → Dirty → Type 0
InTenure lease t c calls y =
    (o : ObjId) (g : ℕ) → AllByRecursion (Grants lease c y.number g) calls → list_any (meets (client c) o y.number) calls ≡ true → t < y.moment + g →
    list_any (meets (client c) o y.number) (tenure_of lease calls (client c)) ≡ true

-- ---- all of it

-- lease: the lease. t: the world's moment. seen: the history's. ns: the client's log. calls: the history's lease calls. table: the history's table.
-- ms: the lease calls that were sent.
pub record Agrees (lease t seen : ℕ) (ns : List Note) (calls : List Call) (table : List Exported) (ms : List SentCall) (c : ℕ) : Type 0 where
  -- what was sent was sent before now
  pub past : AllByRecursion (λ (y : Dirty). y.moment ≤ t) (dirties ns)
  -- each delivered call of the client has a number that was given out
  pub low : AllByRecursion (NumberBelow c (next (pos 0) ns)) calls
  -- a dirty is delivered no earlier than it was sent
  pub later : AllByRecursion (DeliveredLater c (dirties ns)) calls
  -- the delivered cleans of a reference's object have numbers below its `since`
  pub cleaned : AllByRecursion (Cleaned c calls) (refs (pos 0) ns)
  -- the same two of what was sent
  pub sent_low : AllByRecursion (SentBelow c (next (pos 0) ns)) ms
  pub sent_cleaned : AllByRecursion (SentCleaned c ms) (refs (pos 0) ns)
  -- the server's time runs at least as long as the client's
  pub time : (u : ℕ) → u < until ns → time_left lease u calls (client c) ≡ true
  -- a dirty call asks the same at each delivery
  pub same_asked : AllByRecursion (SameAsked c ms) calls
  pub one_asked : AllByRecursion (OneAsked c ms) ms
  pub in_tenure : AllByRecursion (InTenure lease t c calls) (dirties ns)
  -- a dirty call that made a reference sure, and was delivered, is in the tenure while the client's time runs
  pub sure : (r : Ref) (n : ℤ) → once_then (confirms_by n r) (λ x. x.timely) ns ≡ true → list_any (meets (client c) r.id n) calls ≡ true → t < until ns →
      list_any (meets (client c) r.id n) (tenure_of lease calls (client c)) ≡ true
  pub exported : AllByRecursion (Exports lease seen c calls table) (refs (pos 0) ns)

-- What of the table a client holds stays in it.
abbrev pub Stays : ℕ → ℕ → List Call → List Exported → List Exported → Type 0
Stays lease seen calls before table = (o : ObjId) (v : Client) → has before o ≡ true → holds lease seen (calls_of v calls) o ≡ true → has table o ≡ true
