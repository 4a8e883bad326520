-- Worked rows of the leases, computed on the definitions.
use Rattle.std.specs.Prelude.{◌≡◌, ℕ, ℤ, pos, negsuc, true, false, List, [], ◌∷◌, refl}
use Rattle.object_ids.specs.declared.ids.ObjId.{ObjId}
use Rattle.object_ids.specs.Client.{Client}
use Rattle.history.specs.declared.calls.Call.{Call}
use Rattle.history.specs.declared.calls.CallKind.{CallKind}
use Rattle.history.specs.declared.calls.CallKind.TheVariants.{Dirty, Weak, Strong}
use Rattle.history.specs.Leases.{grant, lease_end, tenure, counting_calls, highest_is_dirty, holds, is_remembered, calls_of, clients, clients_with_time_left, is_held, pairs_with, objects_named, pairs, new_pairs}

abbrev object : ℕ → ObjId
object n = record { number = pos n; space = record { unique = pos 7; time = pos 9; count = pos 0 } }

abbrev at_address : List ℕ → ℤ → Client
at_address addr unique = record { addr = addr; uid = record { unique = unique; time = pos 4; count = pos 5 } }

abbrev one : Client
one = at_address (170 ∷ []) (pos 3)

abbrev call : CallKind → ℕ → ℤ → List ObjId → Call
call kind moment number objects = record { moment = moment; client = one; number = number; objects = objects; kind = kind; asked = pos 0 }

-- A weak clean's number is remembered: a dirty that was sent before it takes no hold.
abbrev late_dirty : List Call
late_dirty = call Dirty 14 (pos 6) (object 17 ∷ []) ∷ call Weak 13 (pos 7) (object 17 ∷ []) ∷ call Dirty 12 (pos 5) (object 17 ∷ []) ∷ []

late_dirty_takes_no_hold : is_held 600000 15 late_dirty (object 17) ≡ false
unfolding grant lease_end tenure counting_calls highest_is_dirty holds is_remembered calls_of clients is_held
late_dirty_takes_no_hold = refl

lease_of_late_dirty : lease_end 600000 (calls_of one late_dirty) ≡ 600014
unfolding grant lease_end calls_of
lease_of_late_dirty = refl

-- A strong clean above a dirty's number; a greater dirty after it; then of equal numbers the clean is higher, and a smaller one is not.
abbrev strong_then_dirty : List Call
strong_then_dirty = call Dirty 2 (pos 8) (object 16 ∷ []) ∷ call Strong 1 (pos 9) (object 16 ∷ []) ∷ []

strong_clean_is_higher : is_held 600000 2 strong_then_dirty (object 16) ≡ false
unfolding grant lease_end tenure counting_calls highest_is_dirty holds is_remembered calls_of clients is_held
strong_clean_is_higher = refl

abbrev greater_dirty : List Call
greater_dirty = call Dirty 3 (pos 10) (object 16 ∷ []) ∷ strong_then_dirty

greater_dirty_holds : is_held 600000 3 greater_dirty (object 16) ≡ true
unfolding grant lease_end tenure counting_calls highest_is_dirty holds is_remembered calls_of clients is_held
greater_dirty_holds = refl

equal_clean_is_higher : is_held 600000 4 (call Weak 4 (pos 10) (object 16 ∷ []) ∷ greater_dirty) (object 16) ≡ false
unfolding grant lease_end tenure counting_calls highest_is_dirty holds is_remembered calls_of clients is_held
equal_clean_is_higher = refl

smaller_clean_is_not : is_held 600000 4 (call Weak 4 (pos 7) (object 16 ∷ []) ∷ greater_dirty) (object 16) ≡ true
unfolding grant lease_end tenure counting_calls highest_is_dirty holds is_remembered calls_of clients is_held
smaller_clean_is_not = refl

-- Dirties that are the duration of a lease apart are a gap, and one less is none. A dirty without objects goes on with the tenure.
abbrev two_dirties : ℕ → List ObjId → List Call
two_dirties moment objects = call Dirty moment (pos 2) objects ∷ call Dirty 0 (pos 1) (object 17 ∷ []) ∷ []

gap_forgets : is_held 600000 600000 (two_dirties 600000 []) (object 17) ≡ false
unfolding grant lease_end tenure counting_calls highest_is_dirty holds is_remembered calls_of clients is_held
gap_forgets = refl

no_gap_goes_on : is_held 600000 599999 (two_dirties 599999 []) (object 17) ≡ true
unfolding grant lease_end tenure counting_calls highest_is_dirty holds is_remembered calls_of clients is_held
no_gap_goes_on = refl

lease_ends_at_its_moment : is_held 600000 600000 (two_dirties 0 []) (object 17) ≡ false
unfolding grant lease_end tenure counting_calls highest_is_dirty holds is_remembered calls_of clients is_held
lease_ends_at_its_moment = refl

-- What is granted: up to the configured lease what is asked.
record Grants : Type 0 where
  one : grant 600000 (pos 1) ≡ 1
  shorter : grant 600000 (pos 1000) ≡ 1000
  configured : grant 600000 (pos 600000) ≡ 600000
  longer : grant 600000 (pos 600001) ≡ 600000
  none : grant 600000 (pos 0) ≡ 600000
  negative : grant 600000 (negsuc 0) ≡ 600000

grants : Grants
unfolding grant
grants = record { one = refl; shorter = refl; configured = refl; longer = refl; none = refl; negative = refl }

-- A dirty that asks for less never shortens a lease, and goes on with its tenure. When the lease has ended it opens another.
abbrev shorter_dirty : ℕ → List Call
shorter_dirty moment =
    record (call Dirty moment (pos 2) []) { asked = pos 100 } ∷ record (call Dirty 0 (pos 1) (object 16 ∷ [])) { asked = pos 1000 } ∷ []

record ShorterDirty : Type 0 where
  ends_as_before : lease_end 600000 (shorter_dirty 500) ≡ 1000
  holds_till_then : is_held 600000 999 (shorter_dirty 500) (object 16) ≡ true
  ends_then : is_held 600000 1000 (shorter_dirty 500) (object 16) ≡ false
  ends_later : lease_end 600000 (shorter_dirty 950) ≡ 1050
  goes_on : is_held 600000 1049 (shorter_dirty 950) (object 16) ≡ true
  opens_another : lease_end 600000 (shorter_dirty 1000) ≡ 1100
  forgets : is_held 600000 1000 (shorter_dirty 1000) (object 16) ≡ false

a_shorter_dirty : ShorterDirty
unfolding grant lease_end tenure counting_calls highest_is_dirty holds is_remembered calls_of clients is_held
a_shorter_dirty = record { ends_as_before = refl; holds_till_then = refl; ends_then = refl; ends_later = refl; goes_on = refl; opens_another = refl; forgets = refl }

-- A weak clean that comes without time left is in no tenure and brings no pair. A strong one is remembered.
abbrev after_the_end : List Call
after_the_end = call Weak 20 (pos 9) (object 16 ∷ []) ∷ call Dirty 1 (pos 1) (object 17 ∷ []) ∷ []

clean_without_time : tenure 10 after_the_end ≡ call Dirty 1 (pos 1) (object 17 ∷ []) ∷ []
unfolding grant lease_end tenure
clean_without_time = refl

no_new_pair : new_pairs 10 (call Dirty 1 (pos 1) (object 17 ∷ []) ∷ []) (call Weak 20 (pos 9) (object 16 ∷ [])) ≡ []
unfolding grant lease_end calls_of new_pairs
no_new_pair = refl

pairs_end_with_the_lease : pairs 10 11 after_the_end ≡ []
unfolding grant lease_end tenure is_remembered calls_of clients pairs_with objects_named pairs
pairs_end_with_the_lease = refl

strong_pair_stays : pairs 10 30 (call Strong 20 (pos 9) (object 16 ∷ object 18 ∷ object 16 ∷ []) ∷ after_the_end)
    ≡ record { client = one; object = object 18 } ∷ record { client = one; object = object 16 } ∷ []
unfolding grant lease_end tenure is_remembered calls_of clients pairs_with objects_named pairs
strong_pair_stays = refl

-- Clients stand by address, the beginning of another first, bytes unsigned, and then by signed numbers.
abbrev from : Client → Call
from client = record { moment = 1; client = client; number = pos 1; objects = object 16 ∷ []; kind = Dirty; asked = pos 0 }

clients_in_order : clients_with_time_left 10 2 (
    from (at_address (255 ∷ []) (pos 0)) ∷ from (at_address (127 ∷ 0 ∷ []) (pos 1)) ∷ from (at_address (127 ∷ 0 ∷ []) (negsuc 0))
    ∷ from (at_address (127 ∷ []) (pos 9)) ∷ from (at_address (255 ∷ []) (pos 0)) ∷ from (at_address [] (pos 3)) ∷ [])
    ≡ at_address [] (pos 3) ∷ at_address (127 ∷ []) (pos 9) ∷ at_address (127 ∷ 0 ∷ []) (negsuc 0) ∷ at_address (127 ∷ 0 ∷ []) (pos 1)
    ∷ at_address (255 ∷ []) (pos 0) ∷ []
unfolding grant lease_end calls_of clients clients_with_time_left
clients_in_order = refl
