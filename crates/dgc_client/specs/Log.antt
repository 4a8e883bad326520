-- A client's table of references by the log of its calls, the newest first, each with what the calls before it decide (Java RMI Specification, section 9.1).
use Rattle.std.specs.Prelude.{ℕ, ℤ, pos, ◌+ℤ◌, ◌+◌, ◌/◌, max, Bool, true, false, not, if◌then◌else◌, List, [], ◌∷◌, ◌++◌, length, map, ◌&&◌, ◌||◌, nat_lt, nat_le, filter, find, int_le, Option, Some, None, is_some, is_none, option_map}
use Rattle.std.specs.List.{list_any}
use Rattle.std.specs.Ordering.{int_eq}
use Rattle.object_ids.specs.declared.ids.ObjId.{ObjId}
use Rattle.object_ids.specs.Same.{same_id}
use Rattle.dgc_client.specs.declared.plan.Plan.{Plan}
use Rattle.dgc_client.specs.declared.plan.Plan.TheVariants as plans
use Rattle.dgc_client.specs.declared.limits.TheConstants.{MAX_REFS, LAST_NUMBER}

-- A call of the table. A call that was refused is not in the log.
pub data ClientCall : Type 0 where
  -- a reference is registered
  Registers : ObjId → ClientCall
  -- a reference is dropped at a moment
  Drops : ObjId → ℕ → ClientCall
  -- what is due at a moment is asked for
  Dues : ℕ → ClientCall
  -- the sent call of this number was answered with this duration, at this moment
  Answers : ℤ → ℕ → ℕ → ClientCall
  -- the sent call of this number failed
  Fails : ℤ → ClientCall

-- A dirty call that was sent: its number, the objects that it names, and when it was sent.
pub record Dirty : Type 0 where
  pub number : ℤ
  pub objects : List ObjId
  pub moment : ℕ

-- A good answer: the dirty call that it answers, and for how long that was granted.
pub record Good : Type 0 where
  pub dirty : Dirty
  pub granted : ℕ

-- A call of the log: the plan that it gave, the dirty call that it sent, the good answer that it is, the dirty call that it says failed, the
-- reference that it registered, and whether it came before the end of the client's time as that stood just before it.
pub record Note : Type 0 where
  pub call : ClientCall
  pub plan : Option Plan
  pub dirty : Option Dirty
  pub good : Option Good
  pub failed : Option Dirty
  pub registered : Option ObjId
  pub timely : Bool

-- A reference: its object, and the number that was the next one when it was registered.
pub record Ref : Type 0 where
  pub id : ObjId
  pub since : ℤ

-- ---- numbers

abbrev pub number_of : Plan → ℤ
number_of (plans.Dirty number ids) = number
number_of (plans.Clean number ids strong) = number

abbrev pub with_number : Option Plan → List ℤ → List ℤ
with_number (Some plan) numbers = number_of plan ∷ numbers
with_number None numbers = numbers

-- The numbers of all calls that were sent, dirty and clean, the newest first.
unfoldable pub numbers_sent : List Note → List ℤ
numbers_sent [] = []
numbers_sent (n ∷ ns) = with_number n.plan (numbers_sent ns)

-- The number of the next call that is sent.
unfoldable pub next : ℤ → List Note → ℤ
next first [] = first
next first (n ∷ ns) = if is_some n.plan then next first ns +ℤ pos 1 else next first ns

-- ---- dirty calls under way

abbrev pub has_number : ℤ → Dirty → Bool
has_number number y = int_eq number y.number

abbrev pub without_number : ℤ → List Dirty → List Dirty
without_number number ys = filter (λ y. not (has_number number y)) ys

abbrev pub with_dirty : Option Dirty → List Dirty → List Dirty
with_dirty (Some y) ys = y ∷ ys
with_dirty None ys = ys

abbrev pub closed_by : ClientCall → List Dirty → List Dirty
closed_by (Answers number granted now) ys = without_number number ys
closed_by (Fails number) ys = without_number number ys
closed_by _ ys = ys

-- The dirty calls that were sent and are neither answered nor failed, the newest first.
unfoldable pub under_way : List Note → List Dirty
under_way [] = []
under_way (n ∷ ns) = with_dirty n.dirty (closed_by n.call (under_way ns))

-- The dirty call under way that has the number.
abbrev pub dirty_of : ℤ → List Note → Option Dirty
dirty_of number ns = find (has_number number) (under_way ns)

abbrev pub names : ObjId → Dirty → Bool
names o y = list_any (λ x. same_id x o) y.objects

-- It names the object, and its number is at least this one.
abbrev pub asks_for : ObjId → ℤ → Dirty → Bool
asks_for o since y = names o y && int_le since y.number

-- ---- references

abbrev pub has_ref : ObjId → List Ref → Bool
has_ref o rs = list_any (λ r. same_id r.id o) rs

abbrev pub refs_after : ℤ → ClientCall → List Ref → List Ref
refs_after number (Registers o) rs = if has_ref o rs then rs else rs ++ record { id = o; since = number } ∷ []
refs_after number (Drops o now) rs = filter (λ r. not (same_id r.id o)) rs
refs_after number _ rs = rs

-- The references, in the order of their registration.
unfoldable pub refs : ℤ → List Note → List Ref
refs first [] = []
refs first (n ∷ ns) = refs_after (next first ns) n.call (refs first ns)

-- ---- the client's time

abbrev pub end_of : Good → ℕ
end_of g = g.dirty.moment + g.granted

abbrev pub until_after : Bool → Option Good → ℕ → ℕ
until_after timely (Some g) u = if timely then max u (end_of g) else end_of g
until_after timely None u = u

-- The end of the client's time: a good answer that comes at or after it sets it, and an earlier one raises it.
unfoldable pub until : List Note → ℕ
until [] = 0
until (n ∷ ns) = until_after n.timely n.good (until ns)

abbrev pub renewal_after : Option Good → ℕ → ℕ
renewal_after (Some g) r = g.dirty.moment + g.granted / 2
renewal_after None r = r

-- From when on the lease is to be renewed: half of the granted duration after the last good answer's dirty call was sent.
unfoldable pub renew_at : List Note → ℕ
renew_at [] = 0
renew_at (n ∷ ns) = renewal_after n.good (renew_at ns)

-- ---- how a reference stands

-- There was one of the first kind, and all since are of the second.
abbrev pub once_then : (Note → Bool) → (Note → Bool) → List Note → Bool
once_then p q [] = false
once_then p q (n ∷ ns) = p n || (q n && once_then p q ns)

abbrev pub asks_in : Option Good → Ref → Bool
asks_in (Some g) r = asks_for r.id r.since g.dirty
asks_in None r = false

-- A good answer of a dirty call that names the reference, with a number of at least its `since`.
abbrev pub confirms : Ref → Note → Bool
confirms r n = asks_in n.good r

-- A reference is sure: such an answer came, and every later due and every later good answer came before the end of the client's time as that stood
-- just before it.
unfoldable pub is_sure : List Note → Ref → Bool
is_sure ns r = once_then (confirms r) (λ n. n.timely) ns

abbrev pub names_in : Option Dirty → ObjId → Bool
names_in (Some y) o = names o y
names_in None o = false

abbrev pub fails_for : ObjId → Note → Bool
fails_for o n = names_in n.failed o

abbrev pub is_id : Option ObjId → ObjId → Bool
is_id (Some x) o = same_id x o
is_id None o = false

abbrev pub registers : ObjId → Note → Bool
registers o n = is_id n.registered o

-- A reference is strong: since it was registered, a dirty call that names it failed.
unfoldable pub is_strong : List Note → ObjId → Bool
is_strong ns o = once_then (fails_for o) (λ n. not (registers o n)) ns

-- A reference is wanting at a moment: it is not sure, or the client's time is over, and no dirty call under way asks for it since its registration.
unfoldable pub is_wanting : ℕ → List Note → Ref → Bool
is_wanting now ns r = not (nat_lt now (until ns) && is_sure ns r) && not (list_any (asks_for r.id r.since) (under_way ns))

-- ---- what is due

-- There are references, the renewal is due, and no dirty call is under way.
abbrev pub is_renewing : ℤ → List Note → ℕ → Bool
is_renewing first ns now = nat_lt 0 (length (refs first ns)) && nat_le (renew_at ns) now && not (nat_lt 0 (length (under_way ns)))

-- The objects that a dirty call names, if one is due: those that are wanting; where there are none and the lease is to be renewed, none.
abbrev pub due_names : Bool → List ObjId → Option (List ObjId)
due_names renews (o ∷ os) = Some (o ∷ os)
due_names renews [] = if renews then Some [] else None

abbrev pub objects_due : ℤ → List Note → ℕ → Option (List ObjId)
objects_due first ns now = due_names (is_renewing first ns now) (map (λ (r : Ref). r.id) (filter (is_wanting now ns) (refs first ns)))

-- The plan that a call gives: a dirty call that is due, or the clean call of a reference that is dropped, which is strong where the reference is.
abbrev pub plan_of : ℤ → List Note → ClientCall → Option Plan
plan_of first ns (Drops o now) = if has_ref o (refs first ns) then Some (plans.Clean (next first ns) (o ∷ []) (is_strong ns o)) else None
plan_of first ns (Dues now) = option_map (plans.Dirty (next first ns)) (objects_due first ns now)
plan_of first ns _ = None

abbrev pub new_dirty : ℤ → ℕ → List ObjId → Dirty
new_dirty number now os = record { number = number; objects = os; moment = now }

abbrev pub dirty_sent : ℤ → List Note → ClientCall → Option Dirty
dirty_sent first ns (Dues now) = option_map (new_dirty (next first ns) now) (objects_due first ns now)
dirty_sent first ns _ = None

-- ---- the log

abbrev pub good_if : Option Dirty → ℕ → ℕ → Option Good
good_if (Some y) granted now = if nat_lt now (y.moment + granted) then Some (record { dirty = y; granted = granted }) else None
good_if None granted now = None

-- An answer is good where it is of a dirty call under way, and comes before what it grants has passed since the sending.
abbrev pub good_of : List Note → ClientCall → Option Good
good_of ns (Answers number granted now) = good_if (dirty_of number ns) granted now
good_of ns _ = None

abbrev pub failed_of : List Note → ClientCall → Option Dirty
failed_of ns (Fails number) = dirty_of number ns
failed_of ns _ = None

abbrev pub registered_of : ℤ → List Note → ClientCall → Option ObjId
registered_of first ns (Registers o) = if has_ref o (refs first ns) then None else Some o
registered_of first ns _ = None

abbrev pub is_timely : List Note → ClientCall → Bool
is_timely ns (Dues now) = nat_lt now (until ns)
is_timely ns (Answers number granted now) = is_none (good_of ns (Answers number granted now)) || nat_lt now (until ns)
is_timely ns _ = true

unfoldable pub note_of : ℤ → List Note → ClientCall → Note
note_of first ns call = record {
  call = call;
  plan = plan_of first ns call;
  dirty = dirty_sent first ns call;
  good = good_of ns call;
  failed = failed_of ns call;
  registered = registered_of first ns call;
  timely = is_timely ns call;
}

-- The log of these calls, which are given newest first, where this is the first number.
unfoldable pub notes : ℤ → List ClientCall → List Note
notes first [] = []
notes first (c ∷ cs) = note_of first (notes first cs) c ∷ notes first cs

-- ---- what a table answers

abbrev pub sure_if : List Note → Option Ref → Bool
sure_if ns (Some r) = is_sure ns r
sure_if ns None = false

-- The reference of an object is usable at a moment: it is there and sure, and the client's time is not over.
unfoldable pub is_usable : ℤ → List Note → ObjId → ℕ → Bool
is_usable first ns o now = sure_if ns (find (λ r. same_id r.id o) (refs first ns)) && nat_lt now (until ns)

-- As many references are there as can be.
abbrev pub is_full : ℤ → List Note → Bool
is_full first ns = nat_le MAX_REFS (length (refs first ns))

-- A call needs a number, and none is left.
abbrev pub is_spent : ℤ → List Note → ClientCall → Bool
is_spent first ns call = is_some (plan_of first ns call) && int_le LAST_NUMBER (next first ns)
