-- The turns of worked histories: each event's place, its reply, and what it tells as gone.
use Rattle.std.specs.Prelude.{◌≡◌, ℕ, true, false, List, [], ◌∷◌, ◌++◌, refl}
use Rattle.object_ids.specs.declared.ids.ObjId.{ObjId}
use Rattle.history.specs.declared.asks.SpaceConfig.{SpaceConfig}
use Rattle.history.specs.declared.asks.Event.{Event}
use Rattle.history.specs.declared.asks.Ask.TheVariants.{Open, Begin, Finish, Abandon, Bind, Rebind, Unbind, Lookup, List as ListNames, Tick}
use Rattle.history.specs.declared.replies.Turn.{Turn}
use Rattle.history.specs.declared.replies.Reply.{Reply}
use Rattle.history.specs.declared.replies.Reply.TheVariants.{Opened, Started, NoObject, Finished, NotRunning, Granted, Done, Bound, AlreadyBound, Unbound, NotBound, Found, Names}
use Rattle.history.specs.Leases.{grant, lease_end, tenure, counting_calls, highest_is_dirty, holds, calls_of, clients, is_held}
use Rattle.history.specs.Places.{now, ever_exported, exported_count}
use Rattle.history.specs.Running.{running_calls_by, running_calls, is_running}
use Rattle.history.specs.Awaiting.{until_of, awaits, references, awaiting_references, is_awaited}
use Rattle.history.specs.Names.{stands_for, names, is_named}
use Rattle.history.specs.LeaseCalls.{lease_calls}
use Rattle.history.specs.Table.{is_kept_locally, is_kept, table, is_effective, exports, returned_objects, place_of, places_back, places, withdrawn_objects, withdrawals}
use Rattle.history.specs.Replies.{reply, unreported_objects, gone_objects}
use Rattle.history.specs.Steps.{turn_of}
use Rattle.history.proofs.Examples.{uid, setup, object, event, late_dirty_takes_no_hold}

-- The turns of some events, one after another after the history h.
unfoldable turns : SpaceConfig → List Event → List Event → List Turn
turns config h [] = []
turns config h (e ∷ events) = turn_of config h e ∷ turns config (h ++ e ∷ []) events

abbrev turn : ℕ → Reply → List ObjId → Turn
turn place reply gone = record { place = place; reply = reply; gone = gone }

-- The replies of the registry: a Bind looks for the object before it looks for the name.
abbrev registry : List Event
registry =
    event 0 0 (Open 1 true)
    ∷ event 0 0 (Open 2 true)
    ∷ event 0 1 (Bind (97 ∷ []) (object 16))
    ∷ event 0 2 (Bind (98 ∷ []) (object 17))
    ∷ event 0 3 (Rebind (97 ∷ []) (object 17))
    ∷ event 0 4 (Unbind (98 ∷ []))
    ∷ event 0 4 (Bind (97 ∷ []) (object 16))
    ∷ event 0 4 (Bind (97 ∷ []) (object 99))
    ∷ event 0 4 (Rebind (99 ∷ []) (object 99))
    ∷ event 0 4 (Lookup (97 ∷ []) (uid 1 0 0))
    ∷ event 0 4 (Lookup (98 ∷ []) (uid 1 0 0))
    ∷ event 0 4 (Unbind (98 ∷ []))
    ∷ event 0 4 ListNames ∷ []

-- A call of an object that isn't there, and ends of calls that the connection doesn't run.
abbrev calls_of_two_connections : List Event
calls_of_two_connections =
    event 0 0 (Open 2 true)
    ∷ event 1 0 (Begin (object 17))
    ∷ event 1 0 (Begin (object 16))
    ∷ event 2 0 (Abandon (object 16))
    ∷ event 2 0 (Finish (object 16) (1 ∷ []) [] (uid 1 0 0))
    ∷ event 1 0 (Finish (object 16) (1 ∷ 2 ∷ []) [] (uid 1 0 0))
    ∷ event 1 0 (Finish (object 16) [] [] (uid 1 0 0)) ∷ []

-- What an Abandon withdraws is told by the next turn that is none, and then no more.
abbrev gone_after_an_abandon : List Event
gone_after_an_abandon =
    event 0 0 (Open 2 true)
    ∷ event 1 0 (Begin (object 16))
    ∷ event 1 0 (Begin (object 16))
    ∷ event 1 0 (Begin (object 16))
    ∷ event 1 0 (Finish (object 16) (1 ∷ []) [] (uid 1 0 0))
    ∷ event 1 300000 (Abandon (object 16))
    ∷ event 1 300000 (Abandon (object 16))
    ∷ event 0 300000 (Open 3 false)
    ∷ event 0 300000 Tick ∷ []

record Turns : Type 0 where
  turns-late_dirty_takes_no_hold : turns setup [] late_dirty_takes_no_hold ≡
      turn 0 (Opened (object 16)) []
      ∷ turn 1 (Started 2) []
      ∷ turn 2 (Finished (object 17 ∷ [])) []
      ∷ turn 3 (Granted 600000) []
      ∷ turn 4 Done []
      ∷ turn 5 (Granted 600000) []
      ∷ turn 6 Done (object 17 ∷ []) ∷ []
  turns-registry : turns setup [] registry ≡
      turn 0 (Opened (object 16)) []
      ∷ turn 1 (Opened (object 17)) []
      ∷ turn 2 Bound []
      ∷ turn 3 Bound []
      ∷ turn 4 Bound []
      ∷ turn 5 Unbound []
      ∷ turn 6 AlreadyBound []
      ∷ turn 7 NoObject []
      ∷ turn 8 NoObject []
      ∷ turn 9 (Found (object 17) 2) []
      ∷ turn 10 NotBound []
      ∷ turn 11 NotBound []
      ∷ turn 12 (Names ((97 ∷ []) ∷ [])) [] ∷ []
  turns-calls_of_two_connections : turns setup [] calls_of_two_connections ≡
      turn 0 (Opened (object 16)) []
      ∷ turn 1 NoObject []
      ∷ turn 2 (Started 2) []
      ∷ turn 3 NotRunning []
      ∷ turn 4 NotRunning []
      ∷ turn 5 (Finished (object 17 ∷ object 18 ∷ [])) []
      ∷ turn 6 NotRunning [] ∷ []
  turns-gone_after_an_abandon : turns setup [] gone_after_an_abandon ≡
      turn 0 (Opened (object 16)) []
      ∷ turn 1 (Started 2) []
      ∷ turn 2 (Started 2) []
      ∷ turn 3 (Started 2) []
      ∷ turn 4 (Finished (object 17 ∷ [])) []
      ∷ turn 5 Done (object 17 ∷ [])
      ∷ turn 6 Done (object 17 ∷ [])
      ∷ turn 7 (Opened (object 18)) (object 17 ∷ object 18 ∷ [])
      ∷ turn 8 Done [] ∷ []

the_turns : Turns
unfolding grant lease_end tenure counting_calls highest_is_dirty holds calls_of clients is_held now ever_exported exported_count running_calls_by running_calls is_running until_of awaits references awaiting_references is_awaited stands_for names is_named lease_calls is_kept_locally is_kept table is_effective exports returned_objects place_of places_back places withdrawn_objects withdrawals reply unreported_objects gone_objects turns
the_turns = record {
  turns-late_dirty_takes_no_hold = refl;
  turns-registry = refl;
  turns-calls_of_two_connections = refl;
  turns-gone_after_an_abandon = refl;
}
