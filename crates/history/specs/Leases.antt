-- The leases of the collector's clients (Java RMI Specification, chapter 9: the interface DGC), over lists of lease calls with the
-- newest first: what follows a `∷` is what came before. Moments are in milliseconds and don't go back.
use Rattle.std.specs.Prelude.{ℕ, ℤ, pos, negsuc, ◌+◌, max, Bool, true, false, not, if◌then◌else◌, List, [], ◌∷◌, ◌++◌, map, ◌&&◌, ◌||◌, nat_lt, nat_le, filter, flat_map, int_lt}
use Rattle.std.specs.List.{list_any}
use Rattle.std.specs.Ordering.{int_eq}
use Rattle.object_ids.specs.declared.ids.ObjId.{ObjId}
use Rattle.object_ids.specs.Client.{Client, client_cmp}
use Rattle.object_ids.specs.Same.{same_id, same_client}
use Rattle.history.specs.Lists.{distinct, in_order}
use Rattle.history.specs.declared.calls.Call.{Call}
use Rattle.history.specs.declared.calls.LeaseRow.{LeaseRow}
use Rattle.history.specs.declared.calls.Pair.{Pair}
use Rattle.history.specs.declared.calls.CallKind.{CallKind}
use Rattle.history.specs.declared.calls.CallKind.TheVariants.{Dirty, Weak, Strong}

-- ---- one call

abbrev pub is_dirty_kind : CallKind → Bool
is_dirty_kind Dirty = true
is_dirty_kind Weak = false
is_dirty_kind Strong = false

abbrev pub is_strong_kind : CallKind → Bool
is_strong_kind Dirty = false
is_strong_kind Weak = false
is_strong_kind Strong = true

-- A dirty.
abbrev pub is_dirty : Call → Bool
is_dirty x = is_dirty_kind x.kind

-- A strong clean.
abbrev pub is_strong : Call → Bool
is_strong x = is_strong_kind x.kind

-- A call that names this object.
abbrev pub is_naming : ObjId → Call → Bool
is_naming o x = list_any (λ y. same_id y o) x.objects

-- ---- the duration of a lease

-- The duration that is granted where one is asked and the configured lease is `lease`: from 1 to the configured lease the one that is
-- asked, and the configured lease otherwise.
unfoldable pub grant : ℕ → ℤ → ℕ
grant lease (pos asked) = if nat_lt 0 asked && nat_le asked lease then asked else lease
grant lease (negsuc n) = lease

-- The moment at which what is granted to a dirty ends.
abbrev pub grant_end : ℕ → Call → ℕ
grant_end lease d = d.moment + grant lease d.asked

-- ---- the calls of one client: `own` has no others

-- The moment at which the lease ends: the greatest at which what was granted to a dirty ends, and 0 where there is no dirty. So a
-- dirty never shortens a lease. One without objects counts.
unfoldable pub lease_end : ℕ → List Call → ℕ
lease_end lease [] = 0
lease_end lease (x ∷ before) = if is_dirty x then max (grant_end lease x) (lease_end lease before) else lease_end lease before

-- The client has time left at the moment t where its lease ends later.
abbrev pub has_time_left : ℕ → ℕ → List Call → Bool
has_time_left lease t own = nat_lt t (lease_end lease own)

-- The tenure: the calls from the last dirty on that came while the client had no time left. That is its first dirty, or one that
-- came when its lease had ended. A clean that comes while the client has no time left is in no tenure.
unfoldable pub tenure : ℕ → List Call → List Call
tenure lease [] = []
tenure lease (x ∷ before) =
    if has_time_left lease x.moment before then x ∷ tenure lease before
    else if is_dirty x then x ∷ []
    else tenure lease before

-- The strong cleans. They count for good.
abbrev pub strong_cleans : List Call → List Call
strong_cleans own = filter is_strong own

-- The calls that count for an object: those of the tenure, and all strong cleans, that name it.
unfoldable pub counting_calls : ℕ → List Call → ObjId → List Call
counting_calls lease own o = filter (is_naming o) (tenure lease own ++ strong_cleans own)

-- Of two calls the one with the greater number is higher; of equal numbers a clean is above a dirty.
abbrev pub is_higher : Call → Call → Bool
is_higher x y = int_lt y.number x.number || (int_eq y.number x.number && is_dirty y && not (is_dirty x))

-- A call than which none of these is higher.
abbrev pub is_highest : List Call → Call → Bool
is_highest calls x = not (list_any (λ y. is_higher y x) calls)

-- The highest of some calls.
abbrev pub highest_calls : List Call → List Call
highest_calls calls = filter (is_highest calls) calls

-- The highest call is a dirty.
unfoldable pub highest_is_dirty : List Call → Bool
highest_is_dirty calls = list_any is_dirty (highest_calls calls)

-- The client holds an object at the moment t: it has time left, and the highest of the calls that count is a dirty.
unfoldable pub holds : ℕ → ℕ → List Call → ObjId → Bool
holds lease t own o = has_time_left lease t own && highest_is_dirty (counting_calls lease own o)

-- The client's pair with an object is remembered at the moment t while it has time left and a call of its tenure names the object,
-- and for good where a strong clean does.
unfoldable pub is_remembered : ℕ → ℕ → List Call → ObjId → Bool
is_remembered lease t own o =
    (has_time_left lease t own && list_any (is_naming o) (tenure lease own))
    || list_any (is_naming o) (strong_cleans own)

-- ---- the calls of all clients

-- The calls of a client.
unfoldable pub calls_of : Client → List Call → List Call
calls_of c calls = filter (λ x. same_client x.client c) calls

-- The clients that sent these calls, in order, each once.
unfoldable pub clients : List Call → List Client
clients calls = in_order client_cmp (map (λ x. x.client) calls)

-- The clients that have time left at the moment t.
unfoldable pub clients_with_time_left : ℕ → ℕ → List Call → List Client
clients_with_time_left lease t calls = filter (λ c. has_time_left lease t (calls_of c calls)) (clients calls)

-- Each client with time left at the moment t, with the end of its lease.
unfoldable pub lease_rows : ℕ → ℕ → List Call → List LeaseRow
lease_rows lease t calls = map (λ c. record { client = c; until = lease_end lease (calls_of c calls) }) (clients_with_time_left lease t calls)

-- The clients that hold an object at the moment t.
unfoldable pub holders : ℕ → ℕ → List Call → ObjId → List Client
holders lease t calls o = filter (λ c. holds lease t (calls_of c calls) o) (clients calls)

-- Some client holds an object at the moment t.
unfoldable pub is_held : ℕ → ℕ → List Call → ObjId → Bool
is_held lease t calls o = list_any (λ c. holds lease t (calls_of c calls) o) (clients calls)

abbrev pub same_pair : Pair → Pair → Bool
same_pair a b = same_client a.client b.client && same_id a.object b.object

-- A client with each of these objects.
abbrev pub pairs_of : Client → List ObjId → List Pair
pairs_of c objects = map (λ o. record { client = c; object = o }) objects

-- The remembered pairs with these objects.
unfoldable pub pairs_with : ℕ → ℕ → List Call → List ObjId → List Pair
pairs_with lease t calls objects = flat_map (λ c. pairs_of c (filter (is_remembered lease t (calls_of c calls)) objects)) (clients calls)

-- The objects that calls name, each once.
unfoldable pub objects_named : List Call → List ObjId
objects_named calls = distinct same_id (flat_map (λ x. x.objects) calls)

-- All remembered pairs.
unfoldable pub pairs : ℕ → ℕ → List Call → List Pair
pairs lease t calls = pairs_with lease t calls (objects_named calls)

-- The pairs that a call brings, whether they were remembered before or not. A weak clean that comes while its client has no time
-- left is forgotten, and brings none.
unfoldable pub new_pairs : ℕ → List Call → Call → List Pair
new_pairs lease before x =
    if is_dirty x || is_strong x || has_time_left lease x.moment (calls_of x.client before) then pairs_of x.client x.objects else []
