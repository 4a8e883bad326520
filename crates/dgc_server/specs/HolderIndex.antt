-- The index of a lease table: for each object how many clients hold it and how many name it, and before which moment nothing is due.
use Rattle.std.specs.Prelude.{◌≡◌, ℕ, ◌+◌, ◌≤◌, ◌<◌, ◌^◌, Bool, true, not, ◌&&◌, ◌||◌, List, [], ◌∷◌, length, filter, sum_by, nat_lt, nat_le, is_some, unwrap_or, min, if◌then◌else◌}
use Rattle.std.specs.List.{AllByRecursion}
use Rattle.object_ids.specs.declared.ids.ObjId.{ObjId}
use Rattle.object_ids.specs.Same.{same_id, same_key}
use Rattle.indexmap.specs.IndexMap.{IndexMap, get}
use Rattle.dgc_server.specs.declared.holders.Count.{Count}
use Rattle.dgc_server.specs.declared.holders.ClientHint.{ClientHint}
use Rattle.dgc_server.specs.declared.holders.Share.{Share}
use Rattle.dgc_server.specs.declared.numbers.Numbers.{Numbers}
use Rattle.dgc_server.specs.declared.table.Noted.{Noted}
use Rattle.dgc_server.specs.declared.table.Sums.{Sums}
use Rattle.dgc_server.specs.Numbers.{is_dirty_highest}
use Rattle.dgc_server.specs.Entry.{ObjectEntry, Entry, entry_after_lapse, is_entry_kept, has_time_left, remembered_of, has_object, numbers_of, dirty_in, dirty_objects}
use Rattle.dgc_server.specs.Table.{remembered_count}

-- An object is counted in two ways: by the clients that hold it, and by those of which a number of it is kept.
pub data Way : Type 0 where
  Holding : Way
  Naming : Way

-- The first place of all.
abbrev pub no_hint : ClientHint
no_hint = record { chunk = 0; index = 0 }

-- What is counted of an object that no client names.
abbrev pub no_count : Count
no_count = record { holders = 0; clients = 0; hint = no_hint }

abbrev pub count_by : Way → Count → ℕ
count_by Holding n = n.holders
count_by Naming n = n.clients

abbrev pub count_at : {S : Type 0} → IndexMap ObjId Count S → ObjId → Count
count_at counts o = unwrap_or (get same_key counts o) no_count

-- How many clients hold an object, or name it: 0 where it has no count.
abbrev pub counted_at : {S : Type 0} → Way → IndexMap ObjId Count S → ObjId → ℕ
counted_at w counts o = count_by w (count_at counts o)

abbrev pub has_count : {S : Type 0} → IndexMap ObjId Count S → ObjId → Bool
has_count counts o = is_some (get same_key counts o)

abbrev pub share_by : Way → Share → Bool
share_by Holding s = s.holds
share_by Naming s = s.names

-- Whether a client of which these objects are kept is counted for one of them. It says whether the client is counted as a holder at all.
abbrev pub counts_in : Way → Bool → List ObjectEntry → ObjId → Bool
counts_in Holding held es o = held && dirty_in es o
counts_in Naming held es o = has_object es o

-- Whether a client is counted for an object at the moment t.
abbrev pub is_counted : Way → ℕ → ObjId → Entry → Bool
is_counted w t o e = counts_in w (has_time_left t e) e.objects o

-- Whether numbers of an object are kept of a client.
abbrev pub entry_names : ObjId → Entry → Bool
entry_names o e = has_object e.objects o

-- Some client names the object, as the counts say.
abbrev pub is_named : {S : Type 0} → IndexMap ObjId Count S → ObjId → Bool
is_named counts o = nat_lt 0 (counted_at Naming counts o)

-- An entry with those of its objects alone that pass a test.
abbrev pub with_only : (ObjId → Bool) → Entry → Entry
with_only q e = record e { objects = filter (λ x. q x.object) e.objects }

abbrev pub object_count : Entry → ℕ
object_count e = length e.objects

-- How many objects the clients name, each counted for each client.
abbrev pub objects_in : List Entry → ℕ
objects_in es = sum_by object_count es

-- The sum of what is counted of these objects, of each once.
abbrev pub total_of : (ObjId → ℕ) → List ObjId → ℕ
total_of f [] = 0
total_of f (o ∷ os) = f o + total_of (λ p. if same_id o p then 0 else f p) os

-- What a client's share in the count of an object loses as its tenure is forgotten.
abbrev pub lost_share : Bool → Numbers → Share
lost_share held n = record { holds = held && is_dirty_highest n; names = not (is_some n.strong) }

abbrev pub loses : Way → Bool → Numbers → Bool
loses w held n = share_by w (lost_share held n)

-- The object is there, with numbers that pass a test.
abbrev pub has_with : (Numbers → Bool) → List ObjectEntry → ObjId → Bool
has_with test es o = has_object es o && test (numbers_of es o)

abbrev pub one_if : Bool → ℕ
one_if b = if b then 1 else 0

-- Whether the lease ends after the first moment and not after the second.
abbrev pub ends_between : ℕ → ℕ → Entry → Bool
ends_between from to e = nat_lt from e.until && not (nat_lt to e.until)

-- The objects that a client holds, if its lease ends after the first moment and not after the second.
abbrev pub freed_of : ℕ → ℕ → Entry → List ObjId
freed_of from to e = if ends_between from to e then dirty_objects e.objects else []

-- The lease, if it has time left at the moment m, ends no earlier than the moment n.
abbrev pub ends_later : ℕ → ℕ → Entry → Bool
ends_later m n e = not (nat_lt m e.until) || nat_le n e.until

-- What is kept of a client is settled at the moment m: nothing of it is to be forgotten, and its lease, if it goes on, ends no earlier than the
-- moment n.
pub record IsSettled (m n : ℕ) (e : Entry) : Type 0 where
  pub forgotten : entry_after_lapse m e ≡ e
  pub kept : is_entry_kept m e ≡ true
  pub later : nat_lt m e.until ≡ true → n ≤ e.until

-- Nothing of what is kept of a client is to be forgotten at the moment m, and its lease, if it goes on, ends no earlier than the moment n. It is
-- settled, or nothing is left of it.
pub record IsCalm (m n : ℕ) (e : Entry) : Type 0 where
  pub forgotten : entry_after_lapse m e ≡ e
  pub later : nat_lt m e.until ≡ true → n ≤ e.until

-- A moment before which no lease ends, where none ends before the moment n and one that ends at `until` was noted at the moment t; 0 where that one
-- has no time left.
abbrev pub bound_of : ℕ → ℕ → ℕ → ℕ
bound_of t n until = if nat_lt t until then min n until else 0

-- The index of a table at the moment m: so many clients hold or name each object, and no lease ends before the moment n, if that is later.
pub record IsIndexed {S : Type 0} (m n : ℕ) (counts : IndexMap ObjId Count S) (es : List Entry) : Type 0 where
  pub settled : m < n → AllByRecursion (IsSettled m n) es
  pub counted : (w : Way) (o : ObjId) → counted_at w counts o ≡ length (filter (is_counted w m o) es)

-- How many clients have time left at the moment t, and how many pairs are remembered.
abbrev pub sums_at : ℕ → List Entry → Sums
sums_at t es = record { leased = length (filter (has_time_left t) es); pairs = remembered_count t es }

-- What one entry adds to them.
abbrev pub entry_sums : ℕ → Entry → Sums
entry_sums t e = record { leased = one_if (has_time_left t e); pairs = remembered_of t e }

-- What is counted and summed over the clients: how many hold or name each object, how many have time left, and how many pairs are remembered.
pub data Tally : Type 0 where
  Counted : Way → ObjId → Tally
  Leased : Tally
  Pairs : Tally

-- What one client adds to it at the moment t.
abbrev pub tally_of : Tally → ℕ → Entry → ℕ
tally_of (Counted w o) t e = one_if (is_counted w t o e)
tally_of Leased t e = one_if (has_time_left t e)
tally_of Pairs t e = remembered_of t e

-- What these clients add to it.
abbrev pub tally_in : Tally → ℕ → List Entry → ℕ
tally_in k t es = sum_by (tally_of k t) es

-- What counts and sums say of it.
abbrev pub tally_at : {S : Type 0} → Tally → IndexMap ObjId Count S → Sums → ℕ
tally_at (Counted w o) counts sums = counted_at w counts o
tally_at Leased counts sums = sums.leased
tally_at Pairs counts sums = sums.pairs

-- What a noted call is answered with, where this was kept of the client and this is since.
pub record IsNoted (t : ℕ) (own next : Entry) (noted : Noted) : Type 0 where
  pub before : noted.before ≡ entry_sums t own
  pub after : noted.after ≡ entry_sums t next
  pub until : noted.until ≡ next.until
  pub small : (noted.after.leased ≤ 1) × (noted.after.pairs < 2 ^ 64)
