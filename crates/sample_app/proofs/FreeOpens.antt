-- No limit is met where the sample space is opened.
use Rattle.std.proofs.Common.{◌≡◌, List, [], ◌∷◌, ◌++◌, None, Result, refl, sym, ◌∙◌, ap, subst, inl, inr}
use Rattle.std.specs.Prelude.{ℕ, Bool, true, false, OnOk, IfErr, codes, pos}
use Rattle.object_ids.specs.declared.ids.Uid.{Uid}
use Rattle.object_ids.proofs.Exact.{same_uid-self}
use Rattle.history.specs.declared.asks.SpaceConfig.{SpaceConfig}
use Rattle.history.specs.declared.asks.Event.{Event}
use Rattle.history.specs.declared.replies.Turn.{Turn}
use Rattle.history.specs.declared.replies.Refused.{Refused}
use Rattle.history.specs.declared.replies.Refused.TheVariants.{OutOfMemory}
use Rattle.history.specs.Awaiting.{until_of, awaits, references, awaiting_references, is_awaited}
use Rattle.history.specs.LeaseCalls.{lease_calls}
use Rattle.history.specs.Leases.{lease_end, tenure, counting_calls, highest_is_dirty, holds, is_remembered, calls_of, clients, clients_with_time_left, is_held, pairs_with, new_pairs}
use Rattle.history.specs.Limits.{units, reserved_units, exports_with_event, awaiting_with_event, clients_with_event, pairs_with_event, names_with_event, is_full, starts_too_many, limits, refusal}
use Rattle.history.specs.Names.{stands_for, names, is_named}
use Rattle.history.specs.Places.{now, ever_exported, exported_count}
use Rattle.history.specs.Running.{running_calls_by, running_calls, is_running}
use Rattle.history.specs.Steps.{Step, answer_with, history_with}
use Rattle.history.specs.Table.{is_kept_locally, is_kept, table, is_effective, exports, returned_objects, place_of, places_back, places, withdrawn_objects, withdrawals}
use Rattle.space.specs.Built.{open_event, SpaceHistory, space_of}
use Rattle.sample_app.specs.Opened.{bind_event}

-- No limit refuses the event.
abbrev pub IsFree : Event → SpaceHistory → Type 0
IsFree e s = refusal (limits s.configuration) s.configuration (places s.configuration s.events) e ≡ None

abbrev pub one_more : Event → SpaceHistory → SpaceHistory
one_more e s = space_of s.configuration (s.events ++ e ∷ [])

-- What holds of a space that is stored, and of one that isn't, holds of each.
by_kind : (P : SpaceConfig → Type 0) → ((lease ack : ℕ) (uid : Uid) → P (record { lease_ms = lease; ack_ms = ack; uid = uid; stored = true })) →
    ((lease ack : ℕ) (uid : Uid) → P (record { lease_ms = lease; ack_ms = ack; uid = uid; stored = false })) → (config : SpaceConfig) → P config
by_kind P stored erased config = go config.stored
  where
    go : (b : Bool) → P (record { lease_ms = config.lease_ms; ack_ms = config.ack_ms; uid = config.uid; stored = b })
    go true = stored config.lease_ms config.ack_ms config.uid
    go false = erased config.lease_ms config.ack_ms config.uid

pub first_is_free : (config : SpaceConfig) → refusal (limits config) config (places config []) (open_event 0) ≡ None
unfolding lease_end tenure counting_calls highest_is_dirty holds is_remembered calls_of clients clients_with_time_left is_held pairs_with new_pairs now ever_exported exported_count running_calls_by running_calls is_running until_of awaits references awaiting_references is_awaited stands_for names is_named lease_calls is_kept_locally is_kept table is_effective exports returned_objects place_of places_back places withdrawn_objects withdrawals units reserved_units exports_with_event awaiting_with_event clients_with_event pairs_with_event names_with_event is_full starts_too_many refusal
first_is_free config = by_kind (λ config. refusal (limits config) config (places config []) (open_event 0) ≡ None) (λ lease ack uid. refl) (λ lease ack uid. refl) config

pub second_is_free : (config : SpaceConfig) → refusal (limits config) config (places config (open_event 0 ∷ [])) (open_event 1) ≡ None
unfolding lease_end tenure counting_calls highest_is_dirty holds is_remembered calls_of clients clients_with_time_left is_held pairs_with new_pairs now ever_exported exported_count running_calls_by running_calls is_running until_of awaits references awaiting_references is_awaited stands_for names is_named lease_calls is_kept_locally is_kept table is_effective exports returned_objects place_of places_back places withdrawn_objects withdrawals units reserved_units exports_with_event awaiting_with_event clients_with_event pairs_with_event names_with_event is_full starts_too_many refusal
second_is_free config = by_kind (λ config. refusal (limits config) config (places config (open_event 0 ∷ [])) (open_event 1) ≡ None) (λ lease ack uid. refl) (λ lease ack uid. refl) config

pub third_is_free : (config : SpaceConfig) → refusal (limits config) config (places config (open_event 0 ∷ open_event 1 ∷ [])) (open_event 2) ≡ None
unfolding lease_end tenure counting_calls highest_is_dirty holds is_remembered calls_of clients clients_with_time_left is_held pairs_with new_pairs now ever_exported exported_count running_calls_by running_calls is_running until_of awaits references awaiting_references is_awaited stands_for names is_named lease_calls is_kept_locally is_kept table is_effective exports returned_objects place_of places_back places withdrawn_objects withdrawals units reserved_units exports_with_event awaiting_with_event clients_with_event pairs_with_event names_with_event is_full starts_too_many refusal
third_is_free config = by_kind (λ config. refusal (limits config) config (places config (open_event 0 ∷ open_event 1 ∷ [])) (open_event 2) ≡ None) (λ lease ack uid. refl) (λ lease ack uid. refl) config

pub first_name_is_free : (config : SpaceConfig) → refusal (limits config) config (places config (open_event 0 ∷ open_event 1 ∷ open_event 2 ∷ [])) (bind_event config (codes "echo") (pos 16)) ≡ None
unfolding lease_end tenure counting_calls highest_is_dirty holds is_remembered calls_of clients clients_with_time_left is_held pairs_with new_pairs now ever_exported exported_count running_calls_by running_calls is_running until_of awaits references awaiting_references is_awaited stands_for names is_named lease_calls is_kept_locally is_kept table is_effective exports returned_objects place_of places_back places withdrawn_objects withdrawals units reserved_units exports_with_event awaiting_with_event clients_with_event pairs_with_event names_with_event is_full starts_too_many refusal
first_name_is_free config = by_kind (λ config. refusal (limits config) config (places config (open_event 0 ∷ open_event 1 ∷ open_event 2 ∷ [])) (bind_event config (codes "echo") (pos 16)) ≡ None) (λ lease ack uid. rw (same_uid-self uid) refl) (λ lease ack uid. rw (same_uid-self uid) refl) config

pub second_name_is_free : (config : SpaceConfig) → refusal (limits config) config (places config (open_event 0 ∷ open_event 1 ∷ open_event 2 ∷ bind_event config (codes "echo") (pos 16) ∷ [])) (bind_event config (codes "counter") (pos 17)) ≡ None
unfolding lease_end tenure counting_calls highest_is_dirty holds is_remembered calls_of clients clients_with_time_left is_held pairs_with new_pairs now ever_exported exported_count running_calls_by running_calls is_running until_of awaits references awaiting_references is_awaited stands_for names is_named lease_calls is_kept_locally is_kept table is_effective exports returned_objects place_of places_back places withdrawn_objects withdrawals units reserved_units exports_with_event awaiting_with_event clients_with_event pairs_with_event names_with_event is_full starts_too_many refusal
second_name_is_free config = by_kind (λ config. refusal (limits config) config (places config (open_event 0 ∷ open_event 1 ∷ open_event 2 ∷ bind_event config (codes "echo") (pos 16) ∷ [])) (bind_event config (codes "counter") (pos 17)) ≡ None) (λ lease ack uid. rw (same_uid-self uid) refl) (λ lease ack uid. rw (same_uid-self uid) refl) config

pub third_name_is_free : (config : SpaceConfig) → refusal (limits config) config (places config (open_event 0 ∷ open_event 1 ∷ open_event 2 ∷ bind_event config (codes "echo") (pos 16) ∷ bind_event config (codes "counter") (pos 17) ∷ [])) (bind_event config (codes "maker") (pos 18)) ≡ None
unfolding lease_end tenure counting_calls highest_is_dirty holds is_remembered calls_of clients clients_with_time_left is_held pairs_with new_pairs now ever_exported exported_count running_calls_by running_calls is_running until_of awaits references awaiting_references is_awaited stands_for names is_named lease_calls is_kept_locally is_kept table is_effective exports returned_objects place_of places_back places withdrawn_objects withdrawals units reserved_units exports_with_event awaiting_with_event clients_with_event pairs_with_event names_with_event is_full starts_too_many refusal
third_name_is_free config = by_kind (λ config. refusal (limits config) config (places config (open_event 0 ∷ open_event 1 ∷ open_event 2 ∷ bind_event config (codes "echo") (pos 16) ∷ bind_event config (codes "counter") (pos 17) ∷ [])) (bind_event config (codes "maker") (pos 18)) ≡ None) (λ lease ack uid. rw (same_uid-self uid) refl) (λ lease ack uid. rw (same_uid-self uid) refl) config

-- A step that no limit refuses appends its event, or there was no memory.
pub steps_on : (config : SpaceConfig) (h h2 : List Event) (e : Event) (answer : Result Turn Refused) → refusal (limits config) config (places config h) e ≡ None → Step config h e answer h2
    → OnOk answer (h2 ≡ h ++ e ∷ []) × IfErr answer (λ refused. refused ≡ OutOfMemory)
steps_on config h h2 e answer free (inl (answered, after)) =
    let taken : h2 ≡ h ++ e ∷ [] = after ∙ ap (history_with h e) free in
    let P : Result Turn Refused → Type 0 = λ a. OnOk a (h2 ≡ h ++ e ∷ []) × IfErr a (λ refused. refused ≡ OutOfMemory) in
    subst P (sym (answered ∙ ap (answer_with config h e) free)) (taken, tt)
steps_on config h h2 e answer free (inr (wanting, after)) =
    let P : Result Turn Refused → Type 0 = λ a. OnOk a (h2 ≡ h ++ e ∷ []) × IfErr a (λ refused. refused ≡ OutOfMemory) in
    subst P (sym wanting) (tt, refl)
