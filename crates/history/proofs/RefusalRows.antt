-- Refusals after worked histories, at small limits.
use Rattle.std.specs.Prelude.{◌≡◌, pos, true, false, List, [], ◌∷◌, ◌++◌, ◌^◌, refl, Some, None}
use Rattle.object_ids.specs.declared.ids.FullKind.TheVariants.{Exports, Awaiting, Clients, Pairs, Names as NameEntries}
use Rattle.object_ids.specs.Client.{Client}
use Rattle.history.specs.declared.asks.SpaceConfig.{SpaceConfig}
use Rattle.history.specs.declared.asks.Event.{Event}
use Rattle.history.specs.declared.asks.Ask.TheVariants.{Open, Begin, Finish, Abandon, Dirty, Clean, Bind, Rebind, Tick}
use Rattle.history.specs.declared.replies.Refused.TheVariants.{HistoryFull, Full}
use Rattle.history.specs.Leases.{grant, lease_end, tenure, counting_calls, highest_is_dirty, holds, is_remembered, calls_of, clients, clients_with_time_left, is_held, pairs_with, new_pairs}
use Rattle.history.specs.Places.{now, ever_exported, exported_count}
use Rattle.history.specs.Running.{running_calls_by, running_calls, is_running}
use Rattle.history.specs.Awaiting.{until_of, awaits, references, awaiting_references, is_awaited}
use Rattle.history.specs.Names.{stands_for, names, is_named}
use Rattle.history.specs.LeaseCalls.{lease_calls}
use Rattle.history.specs.Table.{is_kept_locally, is_kept, table, is_effective, exports, returned_objects, place_of, places_back, places, withdrawn_objects, withdrawals}
use Rattle.history.specs.declared.limits.Limits.{Limits}
use Rattle.history.specs.Limits.{limits, units, reserved_units, exports_with_event, awaiting_with_event, clients_with_event, pairs_with_event, names_with_event, is_full, starts_too_many, refusal}
use Rattle.history.proofs.Examples.{uid, setup, object, aa, at_address, event}

abbrev roomy : Limits
roomy = record { exports = 100; awaiting = 100; clients = 100; pairs = 100; names = 100; units = 100; running = 100 }

-- A space whose events exist in proofs alone.
abbrev erased_setup : SpaceConfig
erased_setup = record setup { stored = false }

-- The client bb@3/4/5.
abbrev bb : Client
bb = at_address (0xBB ∷ []) (uid 3 4 5)

-- One object.
abbrev one_open : List Event
one_open =
    event 0 0 (Open 2 true) ∷ []

-- A call runs, and a reference to object 17 awaits until 300000.
abbrev one_returned : List Event
one_returned =
    event 0 0 (Open 2 true)
    ∷ event 1 0 (Begin (object 16))
    ∷ event 1 0 (Finish (object 16) (1 ∷ []) [] (uid 1 0 0))
    ∷ event 1 0 (Begin (object 16)) ∷ []

-- A call runs: two units are used, and one is reserved.
abbrev one_call : List Event
one_call =
    event 0 0 (Open 2 true)
    ∷ event 1 0 (Begin (object 16)) ∷ []

-- A client with time left until 600001, and one remembered pair.
abbrev one_client : List Event
one_client =
    event 0 0 (Open 2 true)
    ∷ event 0 0 (Open 2 true)
    ∷ event 1 1 (Dirty aa (pos 1) (pos 600000) (object 16 ∷ [])) ∷ []

-- One name.
abbrev one_name : List Event
one_name =
    event 0 0 (Open 2 true)
    ∷ event 0 1 (Bind (97 ∷ []) (object 16)) ∷ []

record Refusals : Type 0 where
  open_past_the_limit : refusal (record roomy { exports = 1 }) setup (places setup one_open) (event 0 0 (Open 1 false)) ≡ Some (Full Exports)
  open_up_to_the_limit : refusal (record roomy { exports = 2 }) setup (places setup one_open) (event 0 0 (Open 1 false)) ≡ None
  finish_past_the_limit : refusal (record roomy { exports = 3 }) setup (places setup one_returned) (event 1 0 (Finish (object 16) (1 ∷ 1 ∷ []) [] (uid 1 0 1))) ≡ Some (Full Exports)
  finish_of_no_call_adds_nothing : refusal (record roomy { exports = 3 }) setup (places setup one_returned) (event 2 0 (Finish (object 16) (1 ∷ 1 ∷ []) [] (uid 1 0 1))) ≡ None
  exports_before_the_moment : refusal (record roomy { exports = 2 }) setup (places setup one_returned) (event 0 300000 (Open 1 true)) ≡ Some (Full Exports)
  return_past_the_limit : refusal (record roomy { awaiting = 1 }) setup (places setup one_returned) (event 1 1 (Finish (object 16) [] (object 17 ∷ []) (uid 1 0 1))) ≡ Some (Full Awaiting)
  return_that_awaits_already : refusal (record roomy { awaiting = 1 }) setup (places setup one_returned) (event 1 1 (Finish (object 16) [] (object 17 ∷ object 17 ∷ []) (uid 1 0 0))) ≡ None
  awaiting_at_the_moment : refusal (record roomy { awaiting = 1 }) setup (places setup one_returned) (event 1 300000 (Finish (object 16) [] (object 17 ∷ []) (uid 1 0 1))) ≡ None
  unknown_object_is_not_returned : refusal (record roomy { awaiting = 1 }) setup (places setup one_returned) (event 1 1 (Finish (object 16) [] (object 99 ∷ []) (uid 1 0 1))) ≡ None
  client_past_the_limit : refusal (record roomy { clients = 1 }) setup (places setup one_client) (event 1 1 (Dirty bb (pos 1) (pos 600000) [])) ≡ Some (Full Clients)
  client_that_has_time_left : refusal (record roomy { clients = 1 }) setup (places setup one_client) (event 1 1 (Dirty aa (pos 1) (pos 600000) [])) ≡ None
  clients_at_the_moment : refusal (record roomy { clients = 1 }) setup (places setup one_client) (event 1 600001 (Dirty bb (pos 1) (pos 600000) [])) ≡ None
  clean_adds_no_client : refusal (record roomy { clients = 1 }) setup (places setup one_client) (event 1 1 (Clean bb (pos 1) [] true)) ≡ None
  pair_past_the_limit : refusal (record roomy { pairs = 1 }) setup (places setup one_client) (event 1 1 (Dirty aa (pos 2) (pos 600000) (object 16 ∷ object 17 ∷ []))) ≡ Some (Full Pairs)
  pair_with_unknown_object : refusal (record roomy { pairs = 1 }) setup (places setup one_client) (event 1 1 (Dirty aa (pos 2) (pos 600000) (object 16 ∷ object 99 ∷ []))) ≡ None
  weak_clean_adds_a_pair : refusal (record roomy { pairs = 1 }) setup (places setup one_client) (event 1 1 (Clean aa (pos 2) (object 17 ∷ []) false)) ≡ Some (Full Pairs)
  weak_clean_without_time_adds_none : refusal (record roomy { pairs = 1 }) setup (places setup one_client) (event 1 1 (Clean bb (pos 2) (object 16 ∷ []) false)) ≡ None
  strong_clean_adds_a_pair : refusal (record roomy { pairs = 1 }) setup (places setup one_client) (event 1 1 (Clean bb (pos 2) (object 16 ∷ []) true)) ≡ Some (Full Pairs)
  pairs_at_the_moment : refusal (record roomy { pairs = 1 }) setup (places setup one_client) (event 1 600001 (Dirty bb (pos 2) (pos 600000) (object 16 ∷ []))) ≡ None
  name_past_the_limit : refusal (record roomy { names = 1 }) setup (places setup one_name) (event 0 1 (Bind (98 ∷ []) (object 16))) ≡ Some (Full NameEntries)
  rebound_name_past_the_limit : refusal (record roomy { names = 1 }) setup (places setup one_name) (event 0 1 (Rebind (98 ∷ []) (object 16))) ≡ Some (Full NameEntries)
  name_that_is_there : refusal (record roomy { names = 1 }) setup (places setup one_name) (event 0 1 (Rebind (97 ∷ []) (object 16))) ≡ None
  name_of_unknown_object : refusal (record roomy { names = 1 }) setup (places setup one_name) (event 0 1 (Bind (98 ∷ []) (object 99))) ≡ None
  tick_past_the_limit : refusal (record roomy { units = 3 }) setup (places setup one_call) (event 0 0 Tick) ≡ Some HistoryFull
  tick_up_to_the_limit : refusal (record roomy { units = 4 }) setup (places setup one_call) (event 0 0 Tick) ≡ None
  call_that_starts_reserves_a_unit : refusal (record roomy { units = 4 }) setup (places setup one_call) (event 1 0 (Begin (object 16))) ≡ Some HistoryFull
  call_of_unknown_object_reserves_none : refusal (record roomy { units = 4 }) setup (places setup one_call) (event 1 0 (Begin (object 99))) ≡ None
  end_of_a_call_gives_its_unit_back : refusal (record roomy { units = 3 }) setup (places setup one_call) (event 1 0 (Abandon (object 16))) ≡ None
  end_of_no_call_gives_none_back : refusal (record roomy { units = 3 }) setup (places setup one_call) (event 2 0 (Abandon (object 16))) ≡ Some HistoryFull
  new_object_is_a_unit : refusal (record roomy { units = 3 }) setup (places setup one_call) (event 1 0 (Finish (object 16) (1 ∷ []) [] (uid 1 0 0))) ≡ Some HistoryFull
  call_past_the_limit : refusal (record roomy { running = 1 }) setup (places setup one_call) (event 1 0 (Begin (object 16))) ≡ Some HistoryFull
  call_of_another_connection_past_the_limit : refusal (record roomy { running = 1 }) setup (places setup one_call) (event 2 0 (Begin (object 16))) ≡ Some HistoryFull
  call_up_to_the_limit : refusal (record roomy { running = 2 }) setup (places setup one_call) (event 1 0 (Begin (object 16))) ≡ None
  call_of_unknown_object_is_no_call : refusal (record roomy { running = 1 }) setup (places setup one_call) (event 1 0 (Begin (object 99))) ≡ None
  end_of_a_call_at_the_limit : refusal (record roomy { running = 1 }) setup (places setup one_call) (event 1 0 (Abandon (object 16))) ≡ None
  call_after_an_end : refusal (record roomy { running = 1 }) setup (places setup (one_call ++ event 1 0 (Abandon (object 16)) ∷ [])) (event 1 0 (Begin (object 16))) ≡ None
  units_come_first : refusal (record roomy { units = 3; exports = 0 }) setup (places setup one_call) (event 0 0 (Open 1 true)) ≡ Some HistoryFull
  exports_before_awaiting : refusal (record roomy { exports = 1; awaiting = 0 }) setup (places setup one_call) (event 1 0 (Finish (object 16) (1 ∷ []) [] (uid 1 0 0))) ≡ Some (Full Exports)
  clients_before_pairs : refusal (record roomy { clients = 1; pairs = 1 }) setup (places setup one_client) (event 1 1 (Dirty bb (pos 1) (pos 600000) (object 16 ∷ []))) ≡ Some (Full Clients)
  stored_units : (limits setup).units ≡ 4194304
  erased_units : (limits erased_setup).units ≡ 2 ^ 61
  stored_calls : (limits setup).running ≡ 4194304
  erased_calls : (limits erased_setup).running ≡ 4194304
  far_below_the_limits : refusal (limits setup) setup (places setup one_client) (event 1 1 (Dirty bb (pos 1) (pos 600000) (object 16 ∷ object 17 ∷ []))) ≡ None

refusals : Refusals
unfolding grant lease_end tenure counting_calls highest_is_dirty holds is_remembered calls_of clients clients_with_time_left is_held pairs_with new_pairs now ever_exported exported_count running_calls_by running_calls is_running until_of awaits references awaiting_references is_awaited stands_for names is_named lease_calls is_kept_locally is_kept table is_effective exports returned_objects place_of places_back places withdrawn_objects withdrawals units reserved_units exports_with_event awaiting_with_event clients_with_event pairs_with_event names_with_event is_full starts_too_many refusal
refusals = record {
  open_past_the_limit = refl;
  open_up_to_the_limit = refl;
  finish_past_the_limit = refl;
  finish_of_no_call_adds_nothing = refl;
  exports_before_the_moment = refl;
  return_past_the_limit = refl;
  return_that_awaits_already = refl;
  awaiting_at_the_moment = refl;
  unknown_object_is_not_returned = refl;
  client_past_the_limit = refl;
  client_that_has_time_left = refl;
  clients_at_the_moment = refl;
  clean_adds_no_client = refl;
  pair_past_the_limit = refl;
  pair_with_unknown_object = refl;
  weak_clean_adds_a_pair = refl;
  weak_clean_without_time_adds_none = refl;
  strong_clean_adds_a_pair = refl;
  pairs_at_the_moment = refl;
  name_past_the_limit = refl;
  rebound_name_past_the_limit = refl;
  name_that_is_there = refl;
  name_of_unknown_object = refl;
  tick_past_the_limit = refl;
  tick_up_to_the_limit = refl;
  call_that_starts_reserves_a_unit = refl;
  call_of_unknown_object_reserves_none = refl;
  end_of_a_call_gives_its_unit_back = refl;
  end_of_no_call_gives_none_back = refl;
  new_object_is_a_unit = refl;
  call_past_the_limit = refl;
  call_of_another_connection_past_the_limit = refl;
  call_up_to_the_limit = refl;
  call_of_unknown_object_is_no_call = refl;
  end_of_a_call_at_the_limit = refl;
  call_after_an_end = refl;
  units_come_first = refl;
  exports_before_awaiting = refl;
  clients_before_pairs = refl;
  stored_units = refl;
  erased_units = refl;
  stored_calls = refl;
  erased_calls = refl;
  far_below_the_limits = refl;
}
