-- Which logs a client's table stands for.
use Rattle.std.specs.Prelude.{◌≡◌, ℕ, ℤ, pos, ◌+ℤ◌, ◌+◌, ◌/◌, max, Bool, not, ◌&&◌, if◌then◌else◌, List, ◌∷◌, length, map, filter, nat_lt, nat_le, find, is_some, Option, Some}
use Rattle.std.specs.List.{list_any}
use Rattle.std.specs.Ordering.{int_eq}
use Rattle.object_ids.specs.Client.{Client}
use Rattle.object_ids.specs.declared.ids.ObjId.{ObjId}
use Rattle.dgc_client.specs.declared.client_ref.ClientRef.{ClientRef}
use Rattle.dgc_client.specs.declared.plan.Plan.{Plan}
use Rattle.dgc_client.specs.declared.ref_map.Change.TheVariants.{Confirm}
use Rattle.dgc_client.specs.Log.{ClientCall, Dirty, Note, Ref, next, until, renew_at, refs, under_way, notes, is_sure, is_strong, asks_for, due_names, has_number, new_dirty, has_ref, plan_of, good_of, is_full, is_spent, is_usable}
use Rattle.dgc_client.specs.RefMap.{lapsed, changed_among}
use Rattle.dgc_client.specs.SentMap.{SameByNumber}

-- What a table keeps: its client, the next number, the end of the client's time, when the lease is to be renewed, the references in the order of
-- their registration, and the dirty calls under way.
pub record Parts : Type 0 where
  pub vmid : Client
  pub next : ℤ
  pub until : ℕ
  pub renew_at : ℕ
  pub refs : List ClientRef
  pub sent : List Dirty

-- A reference with what the whole log says of it.
abbrev pub as_told : List Note → Ref → ClientRef
as_told ns r = record { id = r.id; since = r.since; sure = is_sure ns r; strong = is_strong ns r.id }

-- The references of a log, in the order of their registration.
abbrev pub refs_told : ℤ → List ClientCall → List ClientRef
refs_told first calls = map (as_told (notes first calls)) (refs first (notes first calls))

-- A table stands for this log of a client's calls, the newest first, where this is the first number.
pub record StandsFor (client : Client) (first : ℤ) (table : Parts) (calls : List ClientCall) : Type 0 where
  pub vmid_is : table.vmid ≡ client
  pub next_is : table.next ≡ next first (notes first calls)
  pub until_is : table.until ≡ until (notes first calls)
  pub renew_is : table.renew_at ≡ renew_at (notes first calls)
  pub refs_are : table.refs ≡ refs_told first calls
  pub sent_are : SameByNumber table.sent (under_way (notes first calls))

-- ---- what a log says, by its first number and its calls

-- The reference of an object is there.
abbrev pub is_there : ℤ → List ClientCall → ObjId → Bool
is_there first calls o = has_ref o (refs first (notes first calls))

-- As many references are there as can be.
abbrev pub is_full_after : ℤ → List ClientCall → Bool
is_full_after first calls = is_full first (notes first calls)

-- The plan that one more call gives.
abbrev pub plan_after : ℤ → List ClientCall → ClientCall → Option Plan
plan_after first calls x = plan_of first (notes first calls) x

-- One more call needs a number, and none is left.
abbrev pub is_spent_after : ℤ → List ClientCall → ClientCall → Bool
is_spent_after first calls x = is_spent first (notes first calls) x

-- One more call is a good answer.
abbrev pub is_good_after : ℤ → List ClientCall → ClientCall → Bool
is_good_after first calls x = is_some (good_of (notes first calls) x)

-- The end of the client's time.
abbrev pub until_told : ℤ → List ClientCall → ℕ
until_told first calls = until (notes first calls)

-- The reference of an object is usable at a moment.
abbrev pub is_usable_after : ℤ → List ClientCall → ObjId → ℕ → Bool
is_usable_after first calls o now = is_usable first (notes first calls) o now

-- ---- for the clauses of a table

-- This holds for each log that the table stands for.
abbrev pub ForEachLog : Parts → (Client → ℤ → List ClientCall → Type 0) → Type 0
ForEachLog table P = (client : Client) (first : ℤ) (calls : List ClientCall) → StandsFor client first table calls → P client first calls

-- Each log that the table stood for has this call at its end now.
abbrev pub Notes : Parts → Parts → ClientCall → Type 0
Notes old new call = ForEachLog old (λ client first calls. StandsFor client first new (call ∷ calls))

-- ---- by what a table keeps

-- The client's time is over at a moment.
abbrev pub is_over : Parts → ℕ → Bool
is_over table now = not (nat_lt now table.until)

-- The references once that is noted.
abbrev pub lapsed_if : Bool → List ClientRef → List ClientRef
lapsed_if over rs = if over then map lapsed rs else rs

-- A reference has to be named, where the client's time is over or not, and these dirty calls are under way.
abbrev pub wants : Bool → List Dirty → ClientRef → Bool
wants over sent r = not (not over && r.sure) && not (list_any (asks_for r.id r.since) sent)

abbrev pub ids_of : List ClientRef → List ObjId
ids_of rs = map (λ (r : ClientRef). r.id) rs

abbrev pub renews : Parts → ℕ → Bool
renews table now = nat_lt 0 (length table.refs) && nat_le table.renew_at now && not (nat_lt 0 (length table.sent))

-- The objects that a dirty call names, if one is due.
abbrev pub due_of : Parts → ℕ → Option (List ObjId)
due_of table now = due_names (renews table now) (ids_of (filter (wants (is_over table now) table.sent) table.refs))

-- The table once a good answer of a dirty call came.
abbrev pub with_answer : Parts → Dirty → ℕ → ℕ → Parts
with_answer table y granted now = record table {
  until = if is_over table now then y.moment + granted else max table.until (y.moment + granted);
  renew_at = y.moment + granted / 2;
  refs = map (changed_among y.objects (Confirm y.number)) (lapsed_if (is_over table now) table.refs);
}

-- A dirty call that names these objects was sent: it is under way, with the next number, and where the client's time is over no reference is sure.
pub record IsSent (old new : Parts) (os : List ObjId) (now : ℕ) : Type 0 where
  pub vmid : new.vmid ≡ old.vmid
  pub next : new.next ≡ old.next +ℤ pos 1
  pub until : new.until ≡ old.until
  pub renew_at : new.renew_at ≡ old.renew_at
  pub refs : new.refs ≡ lapsed_if (is_over old now) old.refs
  pub sent : (n : ℤ) → find (has_number n) new.sent ≡ (if int_eq old.next n then Some (new_dirty old.next now os) else find (has_number n) old.sent)
