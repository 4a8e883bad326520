-- Which lease calls a lease table stands for.
use Rattle.std.specs.Prelude.{◌≡◌, ℕ, ℤ, ◌+◌, ◌≤◌, ◌<◌, max, Bool, true, not, ◌&&◌, IsTrue, List, [], ◌∷◌, length, filter, nat_lt, Option, None, if◌then◌else◌}
use Rattle.std.specs.List.{list_all}
use Rattle.std.specs.Ordering.{is_lt}
use Rattle.object_ids.specs.declared.ids.ObjId.{ObjId}
use Rattle.object_ids.specs.Client.{Client, client_cmp}
use Rattle.history.specs.declared.limits.TheConstants.{MAX_CLIENTS, MAX_PAIRS, END_OF_TIME, MAX_DURATION_MS}
use Rattle.history.specs.declared.calls.Call.{Call}
use Rattle.history.specs.declared.calls.CallKind.{CallKind}
use Rattle.history.specs.Leases.{is_dirty, is_dirty_kind, is_strong, is_naming, lease_end, tenure, calls_of}
use Rattle.dgc_server.specs.Numbers.{larger}
use Rattle.dgc_server.specs.Entry.{ObjectEntry, Entry, numbers_of, has_object, each_has_number, objects_after, has_time_left, is_needed}
use Rattle.dgc_server.specs.Table.{entry_of, with_entry, after_lapse, remembered_count}

-- The configured lease, the greatest moment so far, and what is kept of clients.
pub record LeaseTable : Type 0 where
  pub lease : ℕ
  pub moment : ℕ
  pub entries : List Entry

-- The clients are in order, each once.
abbrev pub is_in_order : List Entry → Bool
is_in_order [] = true
is_in_order (e ∷ es) = list_all (λ d. is_lt (client_cmp e.client d.client)) es && is_in_order es

-- Each object has one entry.
abbrev pub each_once : List ObjectEntry → Bool
each_once [] = true
each_once (e ∷ es) = not (has_object es e.object) && each_once es

-- What holds of each table: its configured lease is from 1 to 2^40 milliseconds, its moments are below 2^62, its clients are in order, each with
-- its objects once and some number of each, and few enough of them have time left and few enough pairs are remembered.
pub record IsSound (lease moment : ℕ) (entries : List Entry) : Type 0 where
  pub some : 1 ≤ lease
  pub short : lease ≤ MAX_DURATION_MS
  pub early : moment < END_OF_TIME
  pub ordered : IsTrue (is_in_order entries)
  pub few : length (filter (has_time_left moment) entries) ≤ MAX_CLIENTS
  pub once : IsTrue (list_all (λ e. each_once e.objects) entries)
  pub noted : IsTrue (list_all (λ e. each_has_number e.objects) entries)
  pub small : remembered_count moment entries ≤ MAX_PAIRS

-- Nothing is kept that time has taken: each client has time left at the greatest moment so far, or strong cleans of it are remembered, and
-- nothing else.
abbrev pub IsTrimmed : LeaseTable → Type 0
IsTrimmed table = IsTrue (list_all (is_needed table.moment) table.entries)

-- ---- after a call

-- What is kept of a client after a call, where a dirty is granted this duration. A dirty that is granted less than is left of the
-- lease leaves its end.
abbrev pub entry_after : ℕ → CallKind → ℤ → List ObjId → ℕ → Entry → Entry
entry_after granted kind n os now e = record e {
  until = if is_dirty_kind kind then max (now + granted) e.until else e.until;
  objects = objects_after (nat_lt now e.until) kind n os e.objects;
}

-- The table after a call, where a dirty is granted this duration.
abbrev pub table_after : ℕ → CallKind → Client → ℤ → List ObjId → ℕ → LeaseTable → LeaseTable
table_after granted kind c n os now table = record table {
  moment = now;
  entries = after_lapse now (with_entry (entry_after granted kind n os now (entry_of table.entries c)) table.entries);
}

-- ---- the calls

-- The greatest number of the calls that pass a test.
abbrev pub top : (Call → Bool) → List Call → Option ℤ
top p [] = None
top p (x ∷ calls) = if p x then larger x.number (top p calls) else top p calls

abbrev pub is_dirty_for : ObjId → Call → Bool
is_dirty_for o x = is_dirty x && is_naming o x

abbrev pub is_clean_for : ObjId → Call → Bool
is_clean_for o x = not (is_dirty x) && is_naming o x

abbrev pub is_strong_for : ObjId → Call → Bool
is_strong_for o x = is_strong x && is_naming o x

-- What is kept of a client at the greatest moment so far, for the client's own calls. It speaks of the tenure while there is time left.
pub record EntryStands (lease moment : ℕ) (e : Entry) (own : List Call) : Type 0 where
  pub ends : max moment e.until ≡ max moment (lease_end lease own)
  pub dirties : IsTrue (has_time_left moment e) → (o : ObjId) → (numbers_of e.objects o).dirty ≡ top (is_dirty_for o) (tenure lease own)
  pub cleans : IsTrue (has_time_left moment e) → (o : ObjId) → (numbers_of e.objects o).clean ≡ top (is_clean_for o) (tenure lease own)
  pub strongs : (o : ObjId) → (numbers_of e.objects o).strong ≡ top (is_strong_for o) own
  pub once : IsTrue (each_once e.objects)

-- A table stands for these calls, the newest first, where these are its configured lease and the greatest moment that it was told.
pub record StandsFor (lease : ℕ) (table : LeaseTable) (moment : ℕ) (calls : List Call) : Type 0 where
  pub is_lease : table.lease ≡ lease
  pub is_moment : table.moment ≡ moment
  pub each : (c : Client) → EntryStands lease moment (entry_of table.entries c) (calls_of c calls)

-- ---- for the clauses of a table

-- This holds for each configured lease, greatest moment and calls that the table stands for.
abbrev pub ForEachLog : LeaseTable → (ℕ → ℕ → List Call → Type 0) → Type 0
ForEachLog table P = (lease moment : ℕ) (calls : List Call) → StandsFor lease table moment calls → P lease moment calls

-- Some client's lease ends after the first moment, and no later than the second.
abbrev pub SomeLeaseEnds : ℕ → ℕ → ℕ → List Call → Type 0
SomeLeaseEnds lease from to calls =
    (c : Client) × ((from < lease_end lease (calls_of c calls)) × (lease_end lease (calls_of c calls) ≤ to))
