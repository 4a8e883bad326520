-- Worked histories, named by what they show. Each is told by its journal, which is in antt's words here.
use Rattle.std.specs.Prelude.{◌≡◌, ℕ, pos, negsuc, true, false, List, [], ◌∷◌, ◌++◌, refl, codes, flat_map}
use Rattle.std.specs.Fmt.{digits}
use Rattle.object_ids.specs.declared.ids.Uid.{Uid}
use Rattle.object_ids.specs.declared.ids.ObjId.{ObjId}
use Rattle.object_ids.specs.Client.{Client}
use Rattle.history.specs.declared.asks.SpaceConfig.{SpaceConfig}
use Rattle.history.specs.declared.asks.Event.{Event}
use Rattle.history.specs.declared.asks.Ask.{Ask}
use Rattle.history.specs.declared.asks.Ask.TheVariants.{Open, Begin, Finish, Abandon, Dirty, Clean, Ack, Bind, Rebind, Unbind, Lookup, Tick}
use Rattle.history.specs.Leases.{grant, lease_end, tenure, counting_calls, highest_is_dirty, holds, is_remembered, calls_of, clients, clients_with_time_left, lease_rows, holders, is_held, pairs_with}
use Rattle.history.specs.Places.{now, ever_exported, exported_count}
use Rattle.history.specs.Running.{running_calls_by, running_calls, is_running}
use Rattle.history.specs.Awaiting.{until_of, awaits, references, awaiting_references, awaiting_references_to, is_awaited}
use Rattle.history.specs.Names.{stands_for, names, names_of, is_named}
use Rattle.history.specs.LeaseCalls.{lease_calls}
use Rattle.history.specs.Table.{is_kept_locally, is_kept, table, is_effective, exports, returned_objects, place_of, places_back, places, withdrawn_objects, withdrawals}
use Rattle.history.specs.Limits.{units}
use Rattle.history.specs.Outline.{outline}

abbrev pub uid : ℕ → ℕ → ℕ → Uid
uid unique time count = record { unique = pos unique; time = pos time; count = pos count }

-- Identifiers of spaces: 7/9/0, -1/-5/0, and the least of all.
abbrev pub usual : Uid
usual = uid 7 9 0

abbrev pub negative : Uid
negative = record { unique = negsuc 0; time = negsuc 4; count = pos 0 }

abbrev pub least : Uid
least = record { unique = negsuc 2147483647; time = negsuc 9223372036854775807; count = pos 0 }

abbrev pub space : ℕ → ℕ → Uid → SpaceConfig
space lease ack id = record { lease_ms = lease; ack_ms = ack; uid = id; stored = true }

-- The space 600000 300000 7 9.
abbrev pub setup : SpaceConfig
setup = space 600000 300000 usual

-- An object of a space.
abbrev pub of : Uid → ℕ → ObjId
of id n = record { number = pos n; space = id }

abbrev pub object : ℕ → ObjId
object n = of usual n

abbrev pub at_address : List ℕ → Uid → Client
at_address addr id = record { addr = addr; uid = id }

-- The client aa@3/4/5.
abbrev pub aa : Client
aa = at_address (0xAA ∷ []) (uid 3 4 5)

abbrev pub event : ℕ → ℕ → Ask → Event
event by moment ask = record { by = by; moment = moment; ask = ask }

-- A text of these lines.
abbrev pub text : List (List ℕ) → List ℕ
text lines = flat_map (λ l. l ++ 10 ∷ []) lines

-- A weak clean's number is remembered: a dirty with a smaller one that comes later takes no hold.
abbrev pub late_dirty_takes_no_hold : List Event
late_dirty_takes_no_hold =
    event 0 0 (Open 2 true)
    ∷ event 1 10 (Begin (object 16))
    ∷ event 1 11 (Finish (object 16) (1 ∷ []) [] (uid 1 0 0))
    ∷ event 1 12 (Dirty aa (pos 5) (pos 600000) (object 17 ∷ []))
    ∷ event 1 13 (Clean aa (pos 7) (object 17 ∷ []) false)
    ∷ event 1 14 (Dirty aa (pos 6) (pos 600000) (object 17 ∷ []))
    ∷ event 1 15 (Ack (uid 1 0 0)) ∷ []

-- Dirties that are the duration of a lease apart are a gap. The second one names the object, and holds it.
abbrev pub dirty_at_the_end_holds_anew : List Event
dirty_at_the_end_holds_anew =
    event 0 0 (Open 2 true)
    ∷ event 1 0 (Begin (object 16))
    ∷ event 1 0 (Finish (object 16) (1 ∷ []) [] (uid 1 0 0))
    ∷ event 1 0 (Dirty aa (pos 1) (pos 600000) (object 17 ∷ []))
    ∷ event 1 1 (Ack (uid 1 0 0))
    ∷ event 1 600000 (Dirty aa (pos 2) (pos 600000) (object 17 ∷ [])) ∷ []

-- One millisecond less is no gap.
abbrev pub dirty_before_the_end_goes_on : List Event
dirty_before_the_end_goes_on =
    event 0 0 (Open 2 true)
    ∷ event 1 0 (Begin (object 16))
    ∷ event 1 0 (Finish (object 16) (1 ∷ []) [] (uid 1 0 0))
    ∷ event 1 0 (Dirty aa (pos 1) (pos 600000) (object 17 ∷ []))
    ∷ event 1 1 (Ack (uid 1 0 0))
    ∷ event 1 599999 (Dirty aa (pos 2) (pos 600000) (object 17 ∷ [])) ∷ []

-- After a gap what the earlier tenure named is not held.
abbrev pub gap_forgets_holds : List Event
gap_forgets_holds =
    event 0 0 (Open 2 true)
    ∷ event 1 0 (Begin (object 16))
    ∷ event 1 0 (Finish (object 16) (1 ∷ []) [] (uid 1 0 0))
    ∷ event 1 0 (Dirty aa (pos 1) (pos 600000) (object 17 ∷ []))
    ∷ event 1 1 (Ack (uid 1 0 0))
    ∷ event 1 600000 (Dirty aa (pos 2) (pos 600000) []) ∷ []

-- A dirty without objects before the gap keeps what the tenure holds.
abbrev pub dirty_without_objects_goes_on : List Event
dirty_without_objects_goes_on =
    event 0 0 (Open 2 true)
    ∷ event 1 0 (Begin (object 16))
    ∷ event 1 0 (Finish (object 16) (1 ∷ []) [] (uid 1 0 0))
    ∷ event 1 0 (Dirty aa (pos 1) (pos 600000) (object 17 ∷ []))
    ∷ event 1 1 (Ack (uid 1 0 0))
    ∷ event 1 599999 (Dirty aa (pos 2) (pos 600000) []) ∷ []

-- A strong clean gives no lease.
abbrev pub strong_clean_alone : List Event
strong_clean_alone =
    event 0 0 (Open 1 true)
    ∷ event 1 1 (Clean aa (pos 9) (object 16 ∷ []) true) ∷ []

-- A dirty below a strong clean's number takes no hold.
abbrev pub strong_clean_is_above_smaller_dirty : List Event
strong_clean_is_above_smaller_dirty =
    event 0 0 (Open 1 true)
    ∷ event 1 1 (Clean aa (pos 9) (object 16 ∷ []) true)
    ∷ event 1 2 (Dirty aa (pos 8) (pos 600000) (object 16 ∷ [])) ∷ []

-- A dirty above it does.
abbrev pub greater_dirty_holds : List Event
greater_dirty_holds =
    event 0 0 (Open 1 true)
    ∷ event 1 1 (Clean aa (pos 9) (object 16 ∷ []) true)
    ∷ event 1 2 (Dirty aa (pos 8) (pos 600000) (object 16 ∷ []))
    ∷ event 1 3 (Dirty aa (pos 10) (pos 600000) (object 16 ∷ [])) ∷ []

-- Of equal numbers the clean is higher.
abbrev pub equal_clean_is_above_dirty : List Event
equal_clean_is_above_dirty =
    event 0 0 (Open 1 true)
    ∷ event 1 1 (Clean aa (pos 9) (object 16 ∷ []) true)
    ∷ event 1 2 (Dirty aa (pos 8) (pos 600000) (object 16 ∷ []))
    ∷ event 1 3 (Dirty aa (pos 10) (pos 600000) (object 16 ∷ []))
    ∷ event 1 4 (Clean aa (pos 10) (object 16 ∷ []) false) ∷ []

-- A smaller clean takes nothing away.
abbrev pub smaller_clean_is_not : List Event
smaller_clean_is_not =
    event 0 0 (Open 1 true)
    ∷ event 1 1 (Clean aa (pos 9) (object 16 ∷ []) true)
    ∷ event 1 2 (Dirty aa (pos 8) (pos 600000) (object 16 ∷ []))
    ∷ event 1 3 (Dirty aa (pos 10) (pos 600000) (object 16 ∷ []))
    ∷ event 1 4 (Clean aa (pos 7) (object 16 ∷ []) false) ∷ []

-- A returned object awaits its acknowledgement until the time to acknowledge has passed.
abbrev pub returned_object_awaits : List Event
returned_object_awaits =
    event 0 0 (Open 2 true)
    ∷ event 1 0 (Begin (object 16))
    ∷ event 1 0 (Finish (object 16) (1 ∷ []) [] (uid 1 0 0))
    ∷ event 1 299999 Tick ∷ []

-- Then it is withdrawn.
abbrev pub unacknowledged_object_is_withdrawn : List Event
unacknowledged_object_is_withdrawn =
    event 0 0 (Open 2 true)
    ∷ event 1 0 (Begin (object 16))
    ∷ event 1 0 (Finish (object 16) (1 ∷ []) [] (uid 1 0 0))
    ∷ event 1 299999 Tick
    ∷ event 1 300000 Tick ∷ []

-- An Abandon of a call that the connection doesn't run is an event that does nothing.
abbrev pub abandon_of_no_call_is_an_event : List Event
abandon_of_no_call_is_an_event =
    event 0 0 (Open 2 true)
    ∷ event 1 0 (Begin (object 16))
    ∷ event 1 0 (Finish (object 16) (1 ∷ []) [] (uid 1 0 0))
    ∷ event 2 5 (Abandon (object 16)) ∷ []

-- So is a Finish of one.
abbrev pub finish_of_no_call_is_an_event : List Event
finish_of_no_call_is_an_event =
    event 0 0 (Open 2 true)
    ∷ event 1 0 (Begin (object 16))
    ∷ event 1 0 (Finish (object 16) (1 ∷ []) [] (uid 1 0 0))
    ∷ event 2 5 (Finish (object 16) [] [] (uid 1 0 1)) ∷ []

-- An object that is opened free is withdrawn at the end of that same turn.
abbrev pub free_open_is_withdrawn_at_once : List Event
free_open_is_withdrawn_at_once =
    event 0 0 (Open 1 false) ∷ []

-- A rebound name stands for the new object, an unbound one for nothing.
abbrev pub names_are_bound_and_unbound : List Event
names_are_bound_and_unbound =
    event 0 0 (Open 1 true)
    ∷ event 0 0 (Open 2 true)
    ∷ event 0 1 (Bind (97 ∷ []) (object 16))
    ∷ event 0 2 (Bind (98 ∷ []) (object 17))
    ∷ event 0 3 (Rebind (97 ∷ []) (object 17))
    ∷ event 0 4 (Unbind (98 ∷ [])) ∷ []

-- A name that is bound again after an Unbind stands last.
abbrev pub unbound_name_goes_to_the_end : List Event
unbound_name_goes_to_the_end =
    event 0 0 (Open 1 true)
    ∷ event 0 1 (Bind (97 ∷ []) (object 16))
    ∷ event 0 2 (Bind (98 ∷ []) (object 16))
    ∷ event 0 3 (Unbind (97 ∷ []))
    ∷ event 0 4 (Rebind (97 ∷ []) (object 16)) ∷ []

-- A name keeps a free object, and an Unbind lets it go.
abbrev pub named_free_object_is_kept : List Event
named_free_object_is_kept =
    event 0 0 (Open 2 true)
    ∷ event 1 0 (Begin (object 16))
    ∷ event 1 0 (Finish (object 16) (1 ∷ []) [] (uid 1 0 0))
    ∷ event 1 1 (Bind (97 ∷ []) (object 17))
    ∷ event 1 2 (Ack (uid 1 0 0))
    ∷ event 1 3 Tick
    ∷ event 1 4 (Unbind (97 ∷ [])) ∷ []

-- Both new objects of a Finish await; a call keeps the one that runs, and its return awaits anew.
abbrev pub return_of_a_call_awaits : List Event
return_of_a_call_awaits =
    event 0 0 (Open 1 true)
    ∷ event 2 0 (Begin (of negative 16))
    ∷ event 2 0 (Finish (of negative 16) (1 ∷ 1 ∷ []) [] (uid 1 0 0))
    ∷ event 2 105 (Begin (of negative 17))
    ∷ event 2 226 (Finish (of negative 17) [] (of negative 17 ∷ []) (uid 1 0 1)) ∷ []

-- An object of another space is not in the table.
abbrev pub object_of_another_space_is_not_here : List Event
object_of_another_space_is_not_here =
    event 0 0 (Open 2 true)
    ∷ event 3 54 (Begin (record { number = pos 16; space = uid 7 9 1 })) ∷ []

-- A clean below a dirty's number takes nothing away, be it strong.
abbrev pub clean_below_dirty_takes_nothing : List Event
clean_below_dirty_takes_nothing =
    event 1 12 (Open 2 true)
    ∷ event 1 1019 (Dirty (at_address (170 ∷ []) (uid 2 4 5)) (pos 9223372036854775807) (pos 9223372036854775807) (of negative 16 ∷ of negative 17 ∷ []))
    ∷ event 1 1019 (Clean (at_address (170 ∷ []) (uid 2 4 5)) (pos 9223372036854775806) (of negative 16 ∷ []) true) ∷ []

-- The listed objects of a Finish await too.
abbrev pub listed_objects_await : List Event
listed_objects_await =
    event 0 0 (Open 2 true)
    ∷ event 1 4 (Begin (object 16))
    ∷ event 1 4 (Finish (object 16) [] (object 16 ∷ []) (uid 1 0 0)) ∷ []

-- A Finish ends no call of another connection.
abbrev pub other_connections_call_runs_on : List Event
other_connections_call_runs_on =
    event 0 0 (Open 2 true)
    ∷ event 2 52 (Begin (object 16))
    ∷ event 1 82 (Finish (object 16) (2 ∷ []) [] (uid 1 0 0)) ∷ []

-- A lease of 2 that began at 3 has ended at 5.
abbrev pub lease_ends_at_its_moment : List Event
lease_ends_at_its_moment =
    event 2 3 (Dirty (at_address (170 ∷ []) (uid 3 4 7)) (pos 2) (pos 1) (object 18 ∷ []))
    ∷ event 4294967295 5 (Lookup (0 ∷ []) (uid 1 0 0)) ∷ []

-- A lease runs from the greatest moment so far, also where a clock went back.
abbrev pub lease_runs_from_the_greatest_moment : List Event
lease_runs_from_the_greatest_moment =
    event 3 353 Tick
    ∷ event 0 303 (Dirty (at_address [] (uid 3 4 5)) (pos 5) (pos 1) (object 16 ∷ [])) ∷ []

-- A free object that nobody holds is withdrawn once its return is acknowledged.
abbrev pub acknowledged_object_is_withdrawn : List Event
acknowledged_object_is_withdrawn =
    event 0 0 (Open 2 true)
    ∷ event 1 10 (Begin (of negative 16))
    ∷ event 1 10 (Finish (of negative 16) (1 ∷ []) [] (uid 1 0 0))
    ∷ event 1 11 (Ack (uid 1 0 0)) ∷ []

-- The number of a withdrawn object is not used again.
abbrev pub numbers_are_not_used_again : List Event
numbers_are_not_used_again =
    event 0 0 (Open 2 true)
    ∷ event 1 1 (Begin (of least 16))
    ∷ event 1 1 (Finish (of least 16) (1 ∷ 1 ∷ []) [] (uid 1 0 0))
    ∷ event 1 13 (Begin (of least 17))
    ∷ event 1 25 (Open 2 false) ∷ []

-- A rebound name keeps its place among the names.
abbrev pub rebound_name_keeps_its_place : List Event
rebound_name_keeps_its_place =
    event 0 0 (Open 1 true)
    ∷ event 4294967295 110 (Bind (55296 ∷ []) (of negative 16))
    ∷ event 4294967295 161 (Bind [] (of negative 16))
    ∷ event 3 370 (Rebind (55296 ∷ []) (of negative 16)) ∷ []

-- A strong clean counts after its client's lease has ended.
abbrev pub strong_clean_outlasts_the_lease : List Event
strong_clean_outlasts_the_lease =
    event 0 0 (Open 2 true)
    ∷ event 3 1 (Clean aa (negsuc 0) (of negative 16 ∷ []) true)
    ∷ event 0 9 (Dirty aa (pos 6) (pos 1) (of negative 16 ∷ []))
    ∷ event 3 18 (Dirty aa (negsuc 9223372036854775807) (pos 1) (of negative 16 ∷ of negative 17 ∷ of negative 16 ∷ [])) ∷ []

-- An object that is named twice counts as two units.
abbrev pub each_listed_object_is_a_unit : List Event
each_listed_object_is_a_unit =
    event 1 31 (Dirty (at_address [] (uid 0 0 0)) (pos 1) (pos 10) (of negative 16 ∷ of negative 16 ∷ [])) ∷ []

-- The outline of each.
record Outlines : Type 0 where
  outline-late_dirty_takes_no_hold : outline setup late_dirty_takes_no_hold ≡ text (
      codes "events 7 units 11 now 15"
      ∷ codes "object 16 kind 2 pinned running 0 awaiting 0 held 0 names 0"
      ∷ codes "lease aa@3/4/5 until 600014"
      ∷ codes "withdrawn 17 place 6" ∷ [])
  outline-dirty_at_the_end_holds_anew : outline setup dirty_at_the_end_holds_anew ≡ text (
      codes "events 6 units 9 now 600000"
      ∷ codes "object 16 kind 2 pinned running 0 awaiting 0 held 0 names 0"
      ∷ codes "object 17 kind 1 free running 0 awaiting 0 held 1 names 0"
      ∷ codes "lease aa@3/4/5 until 1200000" ∷ [])
  outline-dirty_before_the_end_goes_on : outline setup dirty_before_the_end_goes_on ≡ text (
      codes "events 6 units 9 now 599999"
      ∷ codes "object 16 kind 2 pinned running 0 awaiting 0 held 0 names 0"
      ∷ codes "object 17 kind 1 free running 0 awaiting 0 held 1 names 0"
      ∷ codes "lease aa@3/4/5 until 1199999" ∷ [])
  outline-gap_forgets_holds : outline setup gap_forgets_holds ≡ text (
      codes "events 6 units 8 now 600000"
      ∷ codes "object 16 kind 2 pinned running 0 awaiting 0 held 0 names 0"
      ∷ codes "lease aa@3/4/5 until 1200000"
      ∷ codes "withdrawn 17 place 5" ∷ [])
  outline-dirty_without_objects_goes_on : outline setup dirty_without_objects_goes_on ≡ text (
      codes "events 6 units 8 now 599999"
      ∷ codes "object 16 kind 2 pinned running 0 awaiting 0 held 0 names 0"
      ∷ codes "object 17 kind 1 free running 0 awaiting 0 held 1 names 0"
      ∷ codes "lease aa@3/4/5 until 1199999" ∷ [])
  outline-strong_clean_alone : outline setup strong_clean_alone ≡ text (
      codes "events 2 units 3 now 1"
      ∷ codes "object 16 kind 1 pinned running 0 awaiting 0 held 0 names 0" ∷ [])
  outline-strong_clean_is_above_smaller_dirty : outline setup strong_clean_is_above_smaller_dirty ≡ text (
      codes "events 3 units 5 now 2"
      ∷ codes "object 16 kind 1 pinned running 0 awaiting 0 held 0 names 0"
      ∷ codes "lease aa@3/4/5 until 600002" ∷ [])
  outline-greater_dirty_holds : outline setup greater_dirty_holds ≡ text (
      codes "events 4 units 7 now 3"
      ∷ codes "object 16 kind 1 pinned running 0 awaiting 0 held 1 names 0"
      ∷ codes "lease aa@3/4/5 until 600003" ∷ [])
  outline-equal_clean_is_above_dirty : outline setup equal_clean_is_above_dirty ≡ text (
      codes "events 5 units 9 now 4"
      ∷ codes "object 16 kind 1 pinned running 0 awaiting 0 held 0 names 0"
      ∷ codes "lease aa@3/4/5 until 600003" ∷ [])
  outline-smaller_clean_is_not : outline setup smaller_clean_is_not ≡ text (
      codes "events 5 units 9 now 4"
      ∷ codes "object 16 kind 1 pinned running 0 awaiting 0 held 1 names 0"
      ∷ codes "lease aa@3/4/5 until 600003" ∷ [])
  outline-returned_object_awaits : outline setup returned_object_awaits ≡ text (
      codes "events 4 units 5 now 299999"
      ∷ codes "object 16 kind 2 pinned running 0 awaiting 0 held 0 names 0"
      ∷ codes "object 17 kind 1 free running 0 awaiting 1 held 0 names 0" ∷ [])
  outline-unacknowledged_object_is_withdrawn : outline setup unacknowledged_object_is_withdrawn ≡ text (
      codes "events 5 units 6 now 300000"
      ∷ codes "object 16 kind 2 pinned running 0 awaiting 0 held 0 names 0"
      ∷ codes "withdrawn 17 place 4" ∷ [])
  outline-abandon_of_no_call_is_an_event : outline setup abandon_of_no_call_is_an_event ≡ text (
      codes "events 4 units 5 now 5"
      ∷ codes "object 16 kind 2 pinned running 0 awaiting 0 held 0 names 0"
      ∷ codes "object 17 kind 1 free running 0 awaiting 1 held 0 names 0" ∷ [])
  outline-finish_of_no_call_is_an_event : outline setup finish_of_no_call_is_an_event ≡ text (
      codes "events 4 units 5 now 5"
      ∷ codes "object 16 kind 2 pinned running 0 awaiting 0 held 0 names 0"
      ∷ codes "object 17 kind 1 free running 0 awaiting 1 held 0 names 0" ∷ [])
  outline-free_open_is_withdrawn_at_once : outline setup free_open_is_withdrawn_at_once ≡ text (
      codes "events 1 units 1 now 0"
      ∷ codes "withdrawn 16 place 0" ∷ [])
  outline-names_are_bound_and_unbound : outline setup names_are_bound_and_unbound ≡ text (
      codes "events 6 units 6 now 4"
      ∷ codes "object 16 kind 1 pinned running 0 awaiting 0 held 0 names 0"
      ∷ codes "object 17 kind 2 pinned running 0 awaiting 0 held 0 names 1"
      ∷ codes "name \"a\" 17" ∷ [])
  outline-unbound_name_goes_to_the_end : outline setup unbound_name_goes_to_the_end ≡ text (
      codes "events 5 units 5 now 4"
      ∷ codes "object 16 kind 1 pinned running 0 awaiting 0 held 0 names 2"
      ∷ codes "name \"b\" 16"
      ∷ codes "name \"a\" 16" ∷ [])
  outline-named_free_object_is_kept : outline setup named_free_object_is_kept ≡ text (
      codes "events 7 units 8 now 4"
      ∷ codes "object 16 kind 2 pinned running 0 awaiting 0 held 0 names 0"
      ∷ codes "withdrawn 17 place 6" ∷ [])
  outline-return_of_a_call_awaits : outline (space 5 100 negative) return_of_a_call_awaits ≡ text (
      codes "events 5 units 8 now 226"
      ∷ codes "object 16 kind 1 pinned running 0 awaiting 0 held 0 names 0"
      ∷ codes "object 17 kind 1 free running 0 awaiting 1 held 0 names 0"
      ∷ codes "withdrawn 18 place 3" ∷ [])
  outline-object_of_another_space_is_not_here : outline (space 50 5 usual) object_of_another_space_is_not_here ≡ text (
      codes "events 2 units 2 now 54"
      ∷ codes "object 16 kind 2 pinned running 0 awaiting 0 held 0 names 0" ∷ [])
  outline-clean_below_dirty_takes_nothing : outline (space 10 1000 negative) clean_below_dirty_takes_nothing ≡ text (
      codes "events 3 units 6 now 1019"
      ∷ codes "object 16 kind 2 pinned running 0 awaiting 0 held 1 names 0"
      ∷ codes "lease aa@2/4/5 until 1029" ∷ [])
  outline-listed_objects_await : outline (space 2 50 usual) listed_objects_await ≡ text (
      codes "events 3 units 4 now 4"
      ∷ codes "object 16 kind 2 pinned running 0 awaiting 1 held 0 names 0" ∷ [])
  outline-other_connections_call_runs_on : outline (space 10 2 usual) other_connections_call_runs_on ≡ text (
      codes "events 3 units 4 now 82"
      ∷ codes "object 16 kind 2 pinned running 1 awaiting 0 held 0 names 0" ∷ [])
  outline-lease_ends_at_its_moment : outline (space 2 1 usual) lease_ends_at_its_moment ≡ text (
      codes "events 2 units 3 now 5" ∷ [])
  outline-lease_runs_from_the_greatest_moment : outline (space 1 50 usual) lease_runs_from_the_greatest_moment ≡ text (
      codes "events 2 units 3 now 353"
      ∷ codes "lease -@3/4/5 until 354" ∷ [])
  outline-acknowledged_object_is_withdrawn : outline (space 10 5 negative) acknowledged_object_is_withdrawn ≡ text (
      codes "events 4 units 5 now 11"
      ∷ codes "object 16 kind 2 pinned running 0 awaiting 0 held 0 names 0"
      ∷ codes "withdrawn 17 place 3" ∷ [])
  outline-numbers_are_not_used_again : outline (space 2 10 least) numbers_are_not_used_again ≡ text (
      codes "events 5 units 7 now 25"
      ∷ codes "object 16 kind 2 pinned running 0 awaiting 0 held 0 names 0"
      ∷ codes "object 17 kind 1 free running 1 awaiting 0 held 0 names 0"
      ∷ codes "withdrawn 18 place 3"
      ∷ codes "withdrawn 19 place 4" ∷ [])
  outline-rebound_name_keeps_its_place : outline (space 20 30 negative) rebound_name_keeps_its_place ≡ text (
      codes "events 4 units 4 now 370"
      ∷ codes "object 16 kind 1 pinned running 0 awaiting 0 held 0 names 2"
      ∷ codes "name \"\\ud800\" 16"
      ∷ codes "name \"\" 16" ∷ [])
  outline-strong_clean_outlasts_the_lease : outline (space 1 5 negative) strong_clean_outlasts_the_lease ≡ text (
      codes "events 4 units 9 now 18"
      ∷ codes "object 16 kind 2 pinned running 0 awaiting 0 held 0 names 0"
      ∷ codes "lease aa@3/4/5 until 19" ∷ [])
  outline-each_listed_object_is_a_unit : outline (space 10 5 negative) each_listed_object_is_a_unit ≡ text (
      codes "events 1 units 3 now 31"
      ∷ codes "lease -@0/0/0 until 41" ∷ [])

outlines : Outlines
unfolding grant lease_end tenure counting_calls highest_is_dirty holds is_remembered calls_of clients clients_with_time_left lease_rows holders is_held pairs_with now ever_exported exported_count running_calls_by running_calls is_running until_of awaits references awaiting_references awaiting_references_to is_awaited stands_for names names_of is_named lease_calls is_kept_locally is_kept table is_effective exports returned_objects place_of places_back places withdrawn_objects withdrawals units outline digits
outlines = record {
  outline-late_dirty_takes_no_hold = refl;
  outline-dirty_at_the_end_holds_anew = refl;
  outline-dirty_before_the_end_goes_on = refl;
  outline-gap_forgets_holds = refl;
  outline-dirty_without_objects_goes_on = refl;
  outline-strong_clean_alone = refl;
  outline-strong_clean_is_above_smaller_dirty = refl;
  outline-greater_dirty_holds = refl;
  outline-equal_clean_is_above_dirty = refl;
  outline-smaller_clean_is_not = refl;
  outline-returned_object_awaits = refl;
  outline-unacknowledged_object_is_withdrawn = refl;
  outline-abandon_of_no_call_is_an_event = refl;
  outline-finish_of_no_call_is_an_event = refl;
  outline-free_open_is_withdrawn_at_once = refl;
  outline-names_are_bound_and_unbound = refl;
  outline-unbound_name_goes_to_the_end = refl;
  outline-named_free_object_is_kept = refl;
  outline-return_of_a_call_awaits = refl;
  outline-object_of_another_space_is_not_here = refl;
  outline-clean_below_dirty_takes_nothing = refl;
  outline-listed_objects_await = refl;
  outline-other_connections_call_runs_on = refl;
  outline-lease_ends_at_its_moment = refl;
  outline-lease_runs_from_the_greatest_moment = refl;
  outline-acknowledged_object_is_withdrawn = refl;
  outline-numbers_are_not_used_again = refl;
  outline-rebound_name_keeps_its_place = refl;
  outline-strong_clean_outlasts_the_lease = refl;
  outline-each_listed_object_is_a_unit = refl;
}
