-- Worked worlds, named by what they show. The promise's premise can be met, also where a call is lost and one arrives twice. Each of its parts is
-- needed: in `overdue`, `relearned` and `unmet` one part fails, the other two hold, and the object is withdrawn.
use Rattle.std.specs.Prelude.{◌≡◌, pos, true, false, List, [], ◌∷◌, refl}
use Rattle.object_ids.specs.declared.ids.ObjId.{ObjId}
use Rattle.history.specs.Awaiting.{until_of, awaits, references, awaiting_references, awaiting_references_to, is_awaited}
use Rattle.history.specs.LeaseCalls.{lease_calls}
use Rattle.history.specs.Leases.{grant, lease_end, tenure, counting_calls, highest_is_dirty, holds, is_remembered, calls_of, clients, holders, is_held}
use Rattle.history.specs.Names.{stands_for, names, names_of, is_named}
use Rattle.history.specs.Places.{now, ever_exported, exported_count, has}
use Rattle.history.specs.Replies.{reply}
use Rattle.history.specs.Running.{running_calls_by, running_calls, is_running}
use Rattle.history.specs.Table.{is_kept_locally, is_kept, table, is_effective, exports, returned_objects, place_of, places_back, places}
use Rattle.dgc_client.specs.Log.{next, under_way, refs, until, renew_at, is_sure, is_strong, is_wanting, note_of, notes, is_usable}
use Rattle.lease_world.specs.World.{Course, Deed, Taken, IsPromised, object, rows_of, after, fresh, world_after, world, made_sure, was_met, is_usable_now}
use Rattle.lease_world.specs.declared.step.Step.TheVariants.{At, Make, Register, Release, Due, Deliver, Answer, Fail, Tick}

-- The world 100 50 1 with these deeds, the newest first.
abbrev one_client : List Deed → Course
one_client deeds = record { lease_ms = 100; ack_ms = 50; clients = 1; deeds = deeds }

-- The first object that is returned.
abbrev returned : ObjId
returned = object (pos 17)

-- The return arrives, and its reference is registered by a dirty call that arrives at 10 and is answered at 20.
abbrev answered : List Deed
answered = Taken (Answer 0) ∷ Taken (At 20) ∷ Taken (Deliver 0) ∷ Taken (At 10) ∷ Taken (Due 0) ∷ Taken (Register 0 (pos 17)) ∷ Taken Make ∷ []

-- That world at 99, just before the end of the client's time.
abbrev kept : Course
kept = one_client (Taken Tick ∷ Taken (At 99) ∷ answered)

-- The first dirty call is lost. The client gives it up, and a second one arrives twice.
abbrev repeated : Course
repeated = one_client (Taken Tick ∷ Taken (Deliver 1) ∷ Taken (At 60) ∷ Taken (Answer 1) ∷ Taken (Deliver 1) ∷ Taken (At 10) ∷ Taken (Due 0) ∷ Taken (Fail 0) ∷ Taken (Due 0) ∷ Taken (Register 0 (pos 17)) ∷ Taken Make ∷ [])

-- At 100 the client's time is over.
abbrev lapsed : Course
lapsed = one_client (Taken Tick ∷ Taken (At 100) ∷ answered)

-- At 110 the server's time is over, too.
abbrev overdue : Course
overdue = one_client (Taken Tick ∷ Taken (At 110) ∷ answered)

-- The client's time is over when it sends a second dirty call. That arrives when the object is withdrawn, and makes the reference sure again.
abbrev relearned : Course
relearned = one_client (Taken (Answer 1) ∷ Taken (Deliver 1) ∷ Taken Tick ∷ Taken (At 110) ∷ Taken (Due 0) ∷ Taken (At 100) ∷ answered)

-- The client drops the reference, and the clean call arrives.
abbrev dropped : Course
dropped = one_client (Taken (Deliver 1) ∷ Taken (Release 0 (pos 17)) ∷ Taken (At 99) ∷ answered)

-- The dirty call arrives when the object is withdrawn.
abbrev unmet : Course
unmet = one_client (Taken (Answer 0) ∷ Taken (Deliver 0) ∷ Taken Tick ∷ Taken (At 50) ∷ Taken (Due 0) ∷ Taken (Register 0 (pos 17)) ∷ Taken Make ∷ [])

record Examples : Type 0 where
  kept-is_promised : IsPromised (world kept) 0 returned
  kept-is_exported : has (rows_of (world kept)) returned ≡ true
  repeated-is_promised : IsPromised (world repeated) 0 returned
  repeated-is_exported : has (rows_of (world repeated)) returned ≡ true
  lapsed-is_not_usable : is_usable_now (world lapsed) 0 returned ≡ false
  lapsed-is_exported_while_the_server_reckons_so : has (rows_of (world lapsed)) returned ≡ true
  overdue-is_not_usable : is_usable_now (world overdue) 0 returned ≡ false
  overdue-is_sure : made_sure (world overdue) 0 returned (pos 0) ≡ true
  overdue-is_met : was_met (world overdue) 0 returned (pos 0) ≡ true
  overdue-is_withdrawn : has (rows_of (world overdue)) returned ≡ false
  relearned-is_usable : is_usable_now (world relearned) 0 returned ≡ true
  relearned-is_not_sure_by_the_first_call : made_sure (world relearned) 0 returned (pos 0) ≡ false
  relearned-is_met_by_the_first_call : was_met (world relearned) 0 returned (pos 0) ≡ true
  relearned-is_withdrawn : has (rows_of (world relearned)) returned ≡ false
  dropped-is_not_usable : is_usable_now (world dropped) 0 returned ≡ false
  dropped-is_withdrawn : has (rows_of (world dropped)) returned ≡ false
  unmet-is_usable : is_usable_now (world unmet) 0 returned ≡ true
  unmet-is_sure : made_sure (world unmet) 0 returned (pos 0) ≡ true
  unmet-is_not_met : was_met (world unmet) 0 returned (pos 0) ≡ false
  unmet-is_withdrawn : has (rows_of (world unmet)) returned ≡ false

examples : Examples
unfolding grant lease_end tenure counting_calls highest_is_dirty holds is_remembered calls_of clients holders is_held now ever_exported exported_count running_calls_by running_calls is_running until_of awaits references awaiting_references awaiting_references_to is_awaited stands_for names names_of is_named lease_calls is_kept_locally is_kept table is_effective exports returned_objects place_of places_back places reply next under_way refs until renew_at is_sure is_strong is_wanting note_of notes is_usable after fresh world_after world made_sure was_met is_usable_now
examples = record {
  kept-is_promised = record { number = pos 0; usable = refl; sure = refl; met = refl };
  kept-is_exported = refl;
  repeated-is_promised = record { number = pos 1; usable = refl; sure = refl; met = refl };
  repeated-is_exported = refl;
  lapsed-is_not_usable = refl;
  lapsed-is_exported_while_the_server_reckons_so = refl;
  overdue-is_not_usable = refl;
  overdue-is_sure = refl;
  overdue-is_met = refl;
  overdue-is_withdrawn = refl;
  relearned-is_usable = refl;
  relearned-is_not_sure_by_the_first_call = refl;
  relearned-is_met_by_the_first_call = refl;
  relearned-is_withdrawn = refl;
  dropped-is_not_usable = refl;
  dropped-is_withdrawn = refl;
  unmet-is_usable = refl;
  unmet-is_sure = refl;
  unmet-is_not_met = refl;
  unmet-is_withdrawn = refl;
}
