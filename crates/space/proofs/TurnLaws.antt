-- A turn, by what its parts answered.
use Rattle.std.proofs.Common.{◌≡◌, ℕ, ◌+◌, ◌<◌, List, [], ◌∷◌, ◌++◌, length, inl, inr, refl, ap, sym, subst, ◌∙◌, arith, map, max, Option, Some, None, Ok, Err}
use Rattle.std.specs.Prelude.{Bool, true, Result, OnErr, drop}
use Rattle.history.specs.declared.places.Exported.{Exported}
use Rattle.history.specs.declared.asks.SpaceConfig.{SpaceConfig}
use Rattle.history.specs.declared.asks.Event.{Event}
use Rattle.history.specs.declared.places.Withdrawal.{Withdrawal}
use Rattle.history.specs.declared.replies.Refused.{Refused}
use Rattle.history.specs.declared.replies.Refused.TheVariants.{OutOfMemory}
use Rattle.history.specs.declared.replies.Reply.{Reply}
use Rattle.history.specs.declared.replies.Turn.{Turn}
use Rattle.object_ids.specs.declared.ids.ObjId.{ObjId}
use Rattle.history.specs.LeaseCalls.{call_with, lease_calls}
use Rattle.history.specs.Limits.{units_of, limits, refusal}
use Rattle.history.specs.Names.{names}
use Rattle.history.specs.Places.{has, now}
use Rattle.history.specs.Steps.{Step}
use Rattle.history.specs.Table.{is_effective, table, place_of, places}
use Rattle.dgc_server.specs.Counts.{without_all}
use Rattle.dgc_server.specs.StandsForCalls.{LeaseTable, StandsFor}
use Rattle.export_table.specs.ExportRows.{is_row_kept as row_kept, held_by, withdrawn_ids as rows_withdrawn, is_exported}
use Rattle.export_table.specs.Table.{ExportTable, Room}
use Rattle.export_table.specs.Waits.{still_waiting}
use Rattle.space.specs.declared.runs.Run.{Run}
use Rattle.space.specs.RunTable.{AreSame}
use Rattle.space.specs.Acts.{ForEachLogBy, effective_by, acted_exports, acted_runs, opens, reply_at, withdrawal_at, reported_after, room_refusal, await_refusal, told_refusal, first_of_two, Agrees}
use Rattle.space.specs.Built.{SpaceHistory}
use Rattle.space.specs.Kept.{live_calls, Keeps}
use Rattle.std.specs.Prelude.{false, filter}
use Rattle.std.proofs.Math.Seq.{drop-append_seam}
use Rattle.history.specs.declared.asks.Ask.{Ask}
use Rattle.history.specs.declared.asks.Ask.TheVariants.{Open, Begin, Finish, Abandon, Dirty, Clean, Ack, Bind, Rebind, Unbind, Lookup, List as ListNames, Tick}
use Rattle.history.specs.declared.calls.Call.{Call}
use Rattle.history.specs.declared.limits.TheConstants.{END_OF_TIME}
use Rattle.export_table.specs.declared.rows.Export.{Export}
use Rattle.export_table.specs.declared.waits.Wait.{Wait}
use Rattle.space.specs.Runs.{RunsStand, caller_of, object_of}
use Rattle.space.specs.Withdrawing.{HasWithdrawn}
use Rattle.export_table.specs.StandsForHistory.{WaitsStand, reference_of, end_of}
use Rattle.space.proofs.Acting.{rows-act, waits-act, runs-act, effective-is, stood_for}
use Rattle.space.proofs.RunLists.{stand-same}
use Rattle.space.proofs.Keeping.{IsActed, told_calls, going_now, left, withdrawn_then, keeps-push, call-alike, rows-has, refusal-kept, turn-is, step-refused, step-taken, step-agrees}

-- WHAT IS KNOWN of a turn before it acts: what is kept, and what its tests answered.
pub record IsAsked (config : SpaceConfig) (events : List Event) (e : Event) (leases : LeaseTable) (exports : ExportTable) (runs : List Run) (withdrawn : List Withdrawal) (reported opened used moment : ℕ) (effective : Bool) : Type 0 where
  pub keeps : Keeps config events leases exports runs withdrawn reported opened used moment
  pub tested : effective ≡ effective_by exports.rows runs (stood_for (places config events) e.ask) e.by e.ask

pub is-effective : (config : SpaceConfig) (events : List Event) (e : Event) (leases : LeaseTable) (exports : ExportTable) (runs : List Run) (withdrawn : List Withdrawal) (reported opened used moment : ℕ) (effective : Bool) →
    IsAsked config events e leases exports runs withdrawn reported opened used moment effective → effective ≡ is_effective config (places config events) e.by e.ask
is-effective config events e leases exports runs withdrawn reported opened used moment effective q =
    q.tested ∙ effective-is config events e.by e.ask exports.rows runs q.keeps.stands.rows_are q.keeps.stands.runs_stand

-- The refusal, by the tests.
refused-as : (config : SpaceConfig) (events : List Event) (e : Event) (leases : LeaseTable) (exports : ExportTable) (runs : List Run) (withdrawn : List Withdrawal) (reported opened used moment : ℕ) (effective : Bool) →
    IsAsked config events e leases exports runs withdrawn reported opened used moment effective →
    refusal (limits config) config (places config events) e
    ≡ first_of_two (room_refusal config.stored used (length runs) (length exports.rows) effective e.ask)
    (first_of_two (await_refusal (max e.moment moment) exports.rows exports.waits (stood_for (places config events) e.ask) effective e.ask)
    (told_refusal config.lease_ms (max e.moment moment) (live_calls (table config (places config events)) (lease_calls (places config events))) (call_with (is_exported exports.rows) (max e.moment moment) e.ask) (length (names (places config events))) (stood_for (places config events) e.ask) effective e.ask))
refused-as config events e leases exports runs withdrawn reported opened used moment effective q =
    refusal-kept config events e leases exports runs withdrawn reported opened used moment q.keeps
    ∙ three _ _ _ _ _ _ (sym (is-effective config events e leases exports runs withdrawn reported opened used moment effective q)) (ap (max e.moment) (sym q.keeps.stands.moment_is))
    (call-alike (has (table config (places config events))) (is_exported exports.rows) (λ o. sym (rows-has config events leases exports runs withdrawn reported opened used moment q.keeps o)) (max e.moment (now (places config events))) e.ask
    ∙ ap (λ n. call_with (is_exported exports.rows) n e.ask) (ap (max e.moment) (sym q.keeps.stands.moment_is)))
  where
    three : (a b : Bool) (n m : ℕ) (x y : List _) → a ≡ b → n ≡ m → x ≡ y →
        first_of_two (room_refusal config.stored used (length runs) (length exports.rows) a e.ask) (first_of_two (await_refusal n exports.rows exports.waits (stood_for (places config events) e.ask) a e.ask)
        (told_refusal config.lease_ms n (live_calls (table config (places config events)) (lease_calls (places config events))) x (length (names (places config events))) (stood_for (places config events) e.ask) a e.ask))
        ≡ first_of_two (room_refusal config.stored used (length runs) (length exports.rows) b e.ask) (first_of_two (await_refusal m exports.rows exports.waits (stood_for (places config events) e.ask) b e.ask)
        (told_refusal config.lease_ms m (live_calls (table config (places config events)) (lease_calls (places config events))) y (length (names (places config events))) (stood_for (places config events) e.ask) b e.ask))
    three a b n m x y p r s = rw (p, r, s) refl

-- There was no room.
pub room-step : (config : SpaceConfig) (events : List Event) (e : Event) (leases : LeaseTable) (exports : ExportTable) (runs : List Run) (withdrawn : List Withdrawal) (reported opened used moment : ℕ) (effective : Bool) (refused : Refused) →
    IsAsked config events e leases exports runs withdrawn reported opened used moment effective → room_refusal config.stored used (length runs) (length exports.rows) effective e.ask ≡ Some refused → Step config events e (Err refused) events
room-step config events e leases exports runs withdrawn reported opened used moment effective refused q r =
    step-refused config events e refused (
    refused-as config events e leases exports runs withdrawn reported opened used moment effective q
    ∙ ap (λ x. first_of_two x (first_of_two (await_refusal (max e.moment moment) exports.rows exports.waits (stood_for (places config events) e.ask) effective e.ask)
    (told_refusal config.lease_ms (max e.moment moment) (live_calls (table config (places config events)) (lease_calls (places config events))) (call_with (is_exported exports.rows) (max e.moment moment) e.ask) (length (names (places config events))) (stood_for (places config events) e.ask) effective e.ask))) r)

-- The refusal where there was room.
refused-then : (config : SpaceConfig) (events : List Event) (e : Event) (leases : LeaseTable) (exports : ExportTable) (runs : List Run) (withdrawn : List Withdrawal) (reported opened used moment : ℕ) (effective : Bool) →
    IsAsked config events e leases exports runs withdrawn reported opened used moment effective → room_refusal config.stored used (length runs) (length exports.rows) effective e.ask ≡ None →
    refusal (limits config) config (places config events) e
    ≡ first_of_two (await_refusal (max e.moment moment) exports.rows exports.waits (stood_for (places config events) e.ask) effective e.ask)
    (told_refusal config.lease_ms (max e.moment moment) (live_calls (table config (places config events)) (lease_calls (places config events))) (call_with (is_exported exports.rows) (max e.moment moment) e.ask) (length (names (places config events))) (stood_for (places config events) e.ask) effective e.ask)
refused-then config events e leases exports runs withdrawn reported opened used moment effective q none =
    refused-as config events e leases exports runs withdrawn reported opened used moment effective q
    ∙ ap (λ x. first_of_two x (first_of_two (await_refusal (max e.moment moment) exports.rows exports.waits (stood_for (places config events) e.ask) effective e.ask)
    (told_refusal config.lease_ms (max e.moment moment) (live_calls (table config (places config events)) (lease_calls (places config events))) (call_with (is_exported exports.rows) (max e.moment moment) e.ask) (length (names (places config events))) (stood_for (places config events) e.ask) effective e.ask))) none

-- There was room, and none for the references that are returned.
pub await-step : (config : SpaceConfig) (events : List Event) (e : Event) (leases : LeaseTable) (exports : ExportTable) (runs : List Run) (withdrawn : List Withdrawal) (reported opened used moment : ℕ) (effective : Bool) (refused : Refused) →
    IsAsked config events e leases exports runs withdrawn reported opened used moment effective → room_refusal config.stored used (length runs) (length exports.rows) effective e.ask ≡ None →
    Agrees {T = Unit {0}} (await_refusal (max e.moment moment) exports.rows exports.waits (stood_for (places config events) e.ask) effective e.ask) (Err refused) → Step config events e (Err refused) events
await-step config events e leases exports runs withdrawn reported opened used moment effective refused q none answer =
    let P : Option Refused → Type 0 = λ x. Agrees {T = Unit {0}} x (Err refused) in
    step-agrees config events e refused
    (subst P (sym (refused-then config events e leases exports runs withdrawn reported opened used moment effective q none))
    (first (await_refusal (max e.moment moment) exports.rows exports.waits (stood_for (places config events) e.ask) effective e.ask)
    (told_refusal config.lease_ms (max e.moment moment) (live_calls (table config (places config events)) (lease_calls (places config events))) (call_with (is_exported exports.rows) (max e.moment moment) e.ask) (length (names (places config events))) (stood_for (places config events) e.ask) effective e.ask) answer))
  where
    first : (o more : Option Refused) → Agrees {T = Unit {0}} o (Err refused) → Agrees {T = Unit {0}} (first_of_two o more) (Err refused)
    first o more (inl r) = inl (ap (λ x. first_of_two x more) r)
    first o more (inr r) = inr r

-- There was room for both, and the lease table refused.
pub reported-step : (config : SpaceConfig) (events : List Event) (e : Event) (leases : LeaseTable) (exports : ExportTable) (runs : List Run) (withdrawn : List Withdrawal) (reported opened used moment : ℕ) (effective : Bool) (refused : Refused) →
    IsAsked config events e leases exports runs withdrawn reported opened used moment effective → room_refusal config.stored used (length runs) (length exports.rows) effective e.ask ≡ None → await_refusal (max e.moment moment) exports.rows exports.waits (stood_for (places config events) e.ask) effective e.ask ≡ None →
    ForEachLogBy (max e.moment moment) leases (λ lease calls. Agrees {T = Unit {0}} (told_refusal lease (max e.moment moment) calls (call_with (is_exported exports.rows) (max e.moment moment) e.ask) (length (names (places config events))) (stood_for (places config events) e.ask) effective e.ask) (Err refused)) → Step config events e (Err refused) events
reported-step config events e leases exports runs withdrawn reported opened used moment effective refused q none fit answer =
    let P : Option Refused → Type 0 = λ x. Agrees {T = Unit {0}} x (Err refused) in
    step-agrees config events e refused
    (subst P (sym (refused-then config events e leases exports runs withdrawn reported opened used moment effective q none
    ∙ ap (λ x. first_of_two x (told_refusal config.lease_ms (max e.moment moment) (live_calls (table config (places config events)) (lease_calls (places config events))) (call_with (is_exported exports.rows) (max e.moment moment) e.ask) (length (names (places config events))) (stood_for (places config events) e.ask) effective e.ask)) fit))
    (answer config.lease_ms moment (live_calls (table config (places config events)) (lease_calls (places config events))) q.keeps.stands.leases_stand (omega arith)))

pub taken : (config : SpaceConfig) (events : List Event) (e : Event) (leases : LeaseTable) (exports : ExportTable) (runs : List Run) (withdrawn : List Withdrawal) (reported opened used moment : ℕ) (effective : Bool) →
    IsAsked config events e leases exports runs withdrawn reported opened used moment effective → room_refusal config.stored used (length runs) (length exports.rows) effective e.ask ≡ None → await_refusal (max e.moment moment) exports.rows exports.waits (stood_for (places config events) e.ask) effective e.ask ≡ None →
    ForEachLogBy (max e.moment moment) leases (λ lease calls. told_refusal lease (max e.moment moment) calls (call_with (is_exported exports.rows) (max e.moment moment) e.ask) (length (names (places config events))) (stood_for (places config events) e.ask) effective e.ask ≡ None) → refusal (limits config) config (places config events) e ≡ None
taken config events e leases exports runs withdrawn reported opened used moment effective q none fit answer =
    refused-then config events e leases exports runs withdrawn reported opened used moment effective q none
    ∙ ap (λ x. first_of_two x (told_refusal config.lease_ms (max e.moment moment) (live_calls (table config (places config events)) (lease_calls (places config events))) (call_with (is_exported exports.rows) (max e.moment moment) e.ask) (length (names (places config events))) (stood_for (places config events) e.ask) effective e.ask)) fit
    ∙ answer config.lease_ms moment (live_calls (table config (places config events)) (lease_calls (places config events))) q.keeps.stands.leases_stand (omega arith)

-- WHAT IS KNOWN once it has acted, and nothing is withdrawn yet.
pub record HasActed (config : SpaceConfig) (events : List Event) (e : Event) (leases leases1 : LeaseTable) (exports t : ExportTable) (runs : List Run) (withdrawn : List Withdrawal) (reported opened used moment : ℕ) (effective : Bool) : Type 0 where
  pub asked : IsAsked config events e leases exports runs withdrawn reported opened used moment effective
  pub early : e.moment < END_OF_TIME
  pub room : room_refusal config.stored used (length runs) (length exports.rows) effective e.ask ≡ None
  pub fit : await_refusal (max e.moment moment) exports.rows exports.waits (stood_for (places config events) e.ask) effective e.ask ≡ None
  pub unrefused : ForEachLogBy (max e.moment moment) leases (λ lease calls. told_refusal lease (max e.moment moment) calls (call_with (is_exported exports.rows) (max e.moment moment) e.ask) (length (names (places config events))) (stood_for (places config events) e.ask) effective e.ask ≡ None)
  pub told_leases : ForEachLogBy (max e.moment moment) leases (λ lease calls. StandsFor lease leases1 (max e.moment moment) (call_with (is_exported exports.rows) (max e.moment moment) e.ask ++ calls))
  pub act : t ≡ acted_exports (stood_for (places config events) e.ask) effective (max e.moment moment) e.ask exports

pub is-acted : (config : SpaceConfig) (events : List Event) (e : Event) (leases leases1 : LeaseTable) (exports t : ExportTable) (runs : List Run) (withdrawn : List Withdrawal) (reported opened used moment : ℕ) (effective : Bool) →
    HasActed config events e leases leases1 exports t runs withdrawn reported opened used moment effective → IsActed config events e leases1 t (acted_runs effective e.by e.ask runs)
is-acted config events e leases leases1 exports t runs withdrawn reported opened used moment effective a =
    let k = a.asked.keeps in
    let eff : effective ≡ is_effective config (places config events) e.by e.ask = is-effective config events e leases exports runs withdrawn reported opened used moment effective a.asked in
    let L : List _ → Type 0 = λ cs. StandsFor config.lease_ms leases1 (max e.moment moment) (cs ++ live_calls (table config (places config events)) (lease_calls (places config events))) in
    let T : ℕ → Type 0 = λ n. StandsFor config.lease_ms leases1 (max e.moment n) (call_with (has (table config (places config events))) (max e.moment n) e.ask ++ live_calls (table config (places config events)) (lease_calls (places config events))) in
    let W : ExportTable → Type 0 = λ x. WaitsStand reference_of end_of config.ack_ms (max e.moment (now (places config events))) (place_of config (places config events) e ∷ places config events) x.waits in
    let N : ℕ → Type 0 = λ n. WaitsStand reference_of end_of config.ack_ms n (places config events) exports.waits in
    let R : Bool → Type 0 = λ b. RunsStand caller_of object_of (place_of config (places config events) e ∷ places config events) (acted_runs b e.by e.ask runs) in
    record {
      leases_stand = subst T k.stands.moment_is
          (subst L (call-alike (is_exported exports.rows) (has (table config (places config events))) (rows-has config events leases exports runs withdrawn reported opened used moment k) (max e.moment moment) e.ask)
          (a.told_leases config.lease_ms moment (live_calls (table config (places config events)) (lease_calls (places config events))) k.stands.leases_stand (omega arith)));
      rows_are = ap (λ (x : ExportTable). x.rows) (a.act ∙ ap (λ b. acted_exports (stood_for (places config events) e.ask) b (max e.moment moment) e.ask exports) eff) ∙ rows-act config events e exports (max e.moment moment) k.stands.space_is (k.stands.added_is ∙ k.stands.opened_is) k.stands.rows_are;
      waits_stand = subst W (sym a.act) (waits-act config events e exports effective (max e.moment moment) (ap (max e.moment) k.stands.moment_is) eff k.stands.space_is k.stands.ack_is (k.stands.added_is ∙ k.stands.opened_is) k.stands.rows_are (subst N k.stands.moment_is k.stands.waits_stand));
      runs_stand = subst R (sym eff) (runs-act config events e runs k.stands.runs_stand);
    }

-- ---- what is withdrawn

-- What is kept does not depend on the room of the export table.
pub keeps-alike : (config : SpaceConfig) (events : List Event) (leases : LeaseTable) (x y : ExportTable) (runs : List Run) (withdrawn : List Withdrawal) (reported opened used moment : ℕ) →
    y.space ≡ x.space → y.ack ≡ x.ack → y.added ≡ x.added → y.rows ≡ x.rows → y.waits ≡ x.waits → Keeps config events leases x runs withdrawn reported opened used moment → Keeps config events leases y runs withdrawn reported opened used moment
keeps-alike config events leases x y runs withdrawn reported opened used moment s a c r w k =
    let W : List Wait → Type 0 = λ ws. WaitsStand reference_of end_of config.ack_ms moment (places config events) ws in
    record {
      durations = k.durations;
      stands = record {
        leases_stand = k.stands.leases_stand;
        space_is = s ∙ k.stands.space_is;
        ack_is = a ∙ k.stands.ack_is;
        added_is = c ∙ k.stands.added_is;
        opened_is = k.stands.opened_is;
        rows_are = r ∙ k.stands.rows_are;
        waits_stand = subst W (sym w) k.stands.waits_stand;
        runs_stand = k.stands.runs_stand;
        withdrawn_are = k.stands.withdrawn_are;
        reported_are = k.stands.reported_are;
        reported_within = k.stands.reported_within;
        used_is = k.stands.used_is;
        moment_is = k.stands.moment_is;
        within = k.stands.within;
      };
      early = k.early;
      few_events = k.few_events;
      few_opened = k.few_opened;
      legal = k.legal;
    }

-- Nor on the order of the running calls.
keeps-calls : (config : SpaceConfig) (events : List Event) (leases : LeaseTable) (exports : ExportTable) (runs runs' : List Run) (withdrawn : List Withdrawal) (reported opened used moment : ℕ) → AreSame runs' runs →
    Keeps config events leases exports runs withdrawn reported opened used moment → Keeps config events leases exports runs' withdrawn reported opened used moment
keeps-calls config events leases exports runs runs' withdrawn reported opened used moment same k = record {
  durations = k.durations;
  stands = record {
    leases_stand = k.stands.leases_stand;
    space_is = k.stands.space_is;
    ack_is = k.stands.ack_is;
    added_is = k.stands.added_is;
    opened_is = k.stands.opened_is;
    rows_are = k.stands.rows_are;
    waits_stand = k.stands.waits_stand;
    runs_stand = stand-same (places config events) runs' runs same k.stands.runs_stand;
    withdrawn_are = k.stands.withdrawn_are;
    reported_are = k.stands.reported_are;
    reported_within = k.stands.reported_within;
    used_is = k.stands.used_is;
    moment_is = k.stands.moment_is;
    within = k.stands.within;
  };
  early = k.early;
  few_events = k.few_events;
  few_opened = k.few_opened;
  legal = k.legal;
}

pub keeps-room : (config : SpaceConfig) (events : List Event) (leases : LeaseTable) (x y : ExportTable) (runs : List Run) (withdrawn : List Withdrawal) (reported opened used moment : ℕ) (room : Room) →
    y ≡ record x { room = room } → Keeps config events leases x runs withdrawn reported opened used moment → Keeps config events leases y runs withdrawn reported opened used moment
keeps-room config events leases x y runs withdrawn reported opened used moment room e k =
    keeps-alike config events leases x y runs withdrawn reported opened used moment (ap (λ (t : ExportTable). t.space) e) (ap (λ (t : ExportTable). t.ack) e) (ap (λ (t : ExportTable). t.added) e) (ap (λ (t : ExportTable). t.rows) e) (ap (λ (t : ExportTable). t.waits) e) k

-- An ask leaves the table's space and duration, and adds as many objects as it exports.
pub record ActsOn (effective : Bool) (a : Ask) (x t : ExportTable) : Type 0 where
  pub space : t.space ≡ x.space
  pub ack : t.ack ≡ x.ack
  pub added : t.added ≡ x.added + opens effective a

pub acts-on : (stood : Option ObjId) (effective : Bool) (at : ℕ) (a : Ask) (x : ExportTable) → ActsOn effective a x (acted_exports stood effective at a x)
acts-on stood effective at (Open kind pinned) x = record { space = refl; ack = refl; added = refl }
acts-on stood true at (Begin o) x = record { space = refl; ack = refl; added = omega arith }
acts-on stood false at (Begin o) x = record { space = refl; ack = refl; added = omega arith }
acts-on stood true at (Finish o made listed u) x = record { space = refl; ack = refl; added = refl }
acts-on stood false at (Finish o made listed u) x = record { space = refl; ack = refl; added = omega arith }
acts-on stood true at (Abandon o) x = record { space = refl; ack = refl; added = omega arith }
acts-on stood false at (Abandon o) x = record { space = refl; ack = refl; added = omega arith }
acts-on stood effective at (Ack u) x = record { space = refl; ack = refl; added = omega arith }
acts-on stood effective at (Dirty y z v w) x = record { space = refl; ack = refl; added = omega arith }
acts-on stood effective at (Clean y z v w) x = record { space = refl; ack = refl; added = omega arith }
acts-on stood effective at Tick x = record { space = refl; ack = refl; added = omega arith }
acts-on stood true at (Bind y z) x = record { space = refl; ack = refl; added = omega arith }
acts-on stood false at (Bind y z) x = record { space = refl; ack = refl; added = omega arith }
acts-on stood true at (Rebind y z) x = record { space = refl; ack = refl; added = omega arith }
acts-on stood false at (Rebind y z) x = record { space = refl; ack = refl; added = omega arith }
acts-on stood true at (Unbind y) x = record { space = refl; ack = refl; added = omega arith }
acts-on stood false at (Unbind y) x = record { space = refl; ack = refl; added = omega arith }
acts-on stood effective at (Lookup y z) x = record { space = refl; ack = refl; added = omega arith }
acts-on stood effective at ListNames x = record { space = refl; ack = refl; added = omega arith }

kept-alike : (lease n k : ℕ) (calls : List Call) (us ws : List Wait) (rs ss : List Export) → n ≡ k → us ≡ ws → rs ≡ ss →
    filter (row_kept n (held_by lease (max n k) calls) us) rs ≡ filter (row_kept k (held_by lease k calls) ws) ss
kept-alike lease n k calls us ws rs ss p q r =
    let P : ℕ → Type 0 = λ m. filter (row_kept m (held_by lease (max m k) calls) us) rs ≡ filter (row_kept k (held_by lease k calls) ws) ss in
    let same : max k k ≡ k = omega arith in
    subst P (sym p) (ap (λ m. filter (row_kept k (held_by lease m calls) us) rs) same ∙ ap (λ vs. filter (row_kept k (held_by lease k calls) vs) rs) q ∙ ap (filter (row_kept k (held_by lease k calls) ws)) r)

goes-alike : (lease n k : ℕ) (calls : List Call) (us ws : List Wait) (rs ss : List Export) → n ≡ k → us ≡ ws → rs ≡ ss →
    rows_withdrawn n (held_by lease (max n k) calls) us rs ≡ rows_withdrawn k (held_by lease k calls) ws ss
goes-alike lease n k calls us ws rs ss p q r =
    let P : ℕ → Type 0 = λ m. rows_withdrawn m (held_by lease (max m k) calls) us rs ≡ rows_withdrawn k (held_by lease k calls) ws ss in
    let same : max k k ≡ k = omega arith in
    subst P (sym p) (ap (λ m. rows_withdrawn k (held_by lease m calls) us rs) same ∙ ap (λ vs. rows_withdrawn k (held_by lease k calls) vs rs) q ∙ ap (rows_withdrawn k (held_by lease k calls) ws) r)

-- What goes, of a history.
pub goes-now : (config : SpaceConfig) (events : List Event) (e : Event) (leases leases1 leases2 : LeaseTable) (exports t x3 : ExportTable) (runs : List Run) (withdrawn : List Withdrawal) (reported opened used moment time : ℕ) (effective : Bool) (told_gone all_gone : List ObjId) →
    HasActed config events e leases leases1 exports t runs withdrawn reported opened used moment effective → time ≡ max e.moment moment → HasWithdrawn leases1 leases2 t x3 time told_gone all_gone → all_gone ≡ told_gone ++ going_now config events e t
goes-now config events e leases leases1 leases2 exports t x3 runs withdrawn reported opened used moment time effective told_gone all_gone a m w =
    let d = is-acted config events e leases leases1 exports t runs withdrawn reported opened used moment effective a in
    let same : time ≡ max e.moment (now (places config events)) = m ∙ ap (max e.moment) a.asked.keeps.stands.moment_is in
    w.gone config.lease_ms (max e.moment (now (places config events))) (told_calls config events e) d.leases_stand
    ∙ ap (λ l. told_gone ++ l) (goes-alike config.lease_ms time (max e.moment (now (places config events))) (told_calls config events e) t.waits t.waits t.rows t.rows same refl refl)

-- WHAT IS KEPT after a turn.
pub turn-keeps : (config : SpaceConfig) (events : List Event) (e : Event) (leases leases1 leases2 : LeaseTable) (exports t x3 : ExportTable) (runs : List Run) (withdrawn : List Withdrawal) (reported opened used moment time : ℕ) (effective : Bool) (told_gone all_gone : List ObjId) →
    HasActed config events e leases leases1 exports t runs withdrawn reported opened used moment effective → time ≡ max e.moment moment → HasWithdrawn leases1 leases2 t x3 time told_gone all_gone →
    (place reported' opened' used' : ℕ) (events' : List Event) (runs' : List Run) (withdrawn' : List Withdrawal) → place ≡ length events → events' ≡ events ++ e ∷ [] → AreSame runs' (acted_runs effective e.by e.ask runs) →
    withdrawn' ≡ withdrawn ++ map (withdrawal_at place) (drop (length told_gone) all_gone) → reported' ≡ reported_after reported (length withdrawn') e.ask → opened' ≡ opened + opens effective e.ask → used' ≡ used + units_of e.ask →
    Keeps config events' leases2 x3 runs' withdrawn' reported' opened' used' time
turn-keeps config events e leases leases1 leases2 exports t x3 runs withdrawn reported opened used moment time effective told_gone all_gone a m w place reported' opened' used' events' runs' withdrawn' at ev rn wd tl op us =
    let d = is-acted config events e leases leases1 exports t runs withdrawn reported opened used moment effective a in
    let k = a.asked.keeps in
    let same : time ≡ max e.moment (now (places config events)) = m ∙ ap (max e.moment) k.stands.moment_is in
    let kept = w.kept config.lease_ms (max e.moment (now (places config events))) (told_calls config events e) d.leases_stand in
    let on = acts-on (stood_for (places config events) e.ask) effective (max e.moment moment) e.ask exports in
    let goes = goes-alike config.lease_ms time (max e.moment (now (places config events))) (told_calls config events e) t.waits t.waits t.rows t.rows same refl refl in
    let L : List ObjId → Type 0 = λ os. StandsFor config.lease_ms leases2 (max e.moment (now (places config events))) (map (without_all os) (told_calls config events e)) in
    let rest : drop (length told_gone) all_gone ≡ going_now config events e t =
    ap (drop (length told_gone)) (goes-now config events e leases leases1 leases2 exports t x3 runs withdrawn reported opened used moment time effective told_gone all_gone a m w) ∙ drop-append_seam told_gone (going_now config events e t) in
    let all : withdrawn' ≡ withdrawn_then config events e t withdrawn = wd ∙ ap (λ n. withdrawn ++ map (withdrawal_at n) (drop (length told_gone) all_gone)) at ∙ ap (λ os. withdrawn ++ map (withdrawal_at (length events)) os) rest in
    let pushed : Keeps config (events ++ e ∷ []) leases2 (left config events e t) (acted_runs effective e.by e.ask runs) (withdrawn_then config events e t withdrawn)
    (reported_after reported (length (withdrawn_then config events e t withdrawn)) e.ask) (opened + opens effective e.ask) (used + units_of e.ask) (max e.moment (now (places config events))) =
    keeps-push config events e leases leases1 leases2 exports t runs (acted_runs effective e.by e.ask runs) withdrawn reported opened used moment effective (is-effective config events e leases exports runs withdrawn reported opened used moment effective a.asked) k a.early
    (taken config events e leases exports runs withdrawn reported opened used moment effective a.asked a.room a.fit a.unrefused) d
    (ap (λ (x : ExportTable). x.space) a.act ∙ on.space ∙ k.stands.space_is) (ap (λ (x : ExportTable). x.ack) a.act ∙ on.ack ∙ k.stands.ack_is)
    (ap (λ (x : ExportTable). x.added) a.act ∙ on.added ∙ ap (λ n. n + opens effective e.ask) k.stands.added_is)
    (subst L goes (w.dropped config.lease_ms (max e.moment (now (places config events))) (told_calls config events e) d.leases_stand)) in
    let now_kept = keeps-alike config (events ++ e ∷ []) leases2 (left config events e t) x3 (acted_runs effective e.by e.ask runs) (withdrawn_then config events e t withdrawn)
    (reported_after reported (length (withdrawn_then config events e t withdrawn)) e.ask) (opened + opens effective e.ask) (used + units_of e.ask) (max e.moment (now (places config events)))
    (ap (λ (x : ExportTable). x.space) kept) (ap (λ (x : ExportTable). x.ack) kept) (ap (λ (x : ExportTable). x.added) kept)
    (ap (λ (x : ExportTable). x.rows) kept ∙ kept-alike config.lease_ms time (max e.moment (now (places config events))) (told_calls config events e) t.waits t.waits t.rows t.rows same refl refl)
    (ap (λ (x : ExportTable). x.waits) kept ∙ ap (λ n. still_waiting n t.waits) same) pushed in
    let N : ℕ → Type 0 = λ n. Keeps config (events ++ e ∷ []) leases2 x3 (acted_runs effective e.by e.ask runs) (withdrawn_then config events e t withdrawn) (reported_after reported (length (withdrawn_then config events e t withdrawn)) e.ask) (opened + opens effective e.ask) (used + units_of e.ask) n in
    let U : ℕ → Type 0 = λ n. Keeps config (events ++ e ∷ []) leases2 x3 (acted_runs effective e.by e.ask runs) (withdrawn_then config events e t withdrawn) (reported_after reported (length (withdrawn_then config events e t withdrawn)) e.ask) (opened + opens effective e.ask) n time in
    let O : ℕ → Type 0 = λ n. Keeps config (events ++ e ∷ []) leases2 x3 (acted_runs effective e.by e.ask runs) (withdrawn_then config events e t withdrawn) (reported_after reported (length (withdrawn_then config events e t withdrawn)) e.ask) n used' time in
    let W : List Withdrawal → Type 0 = λ ws. Keeps config (events ++ e ∷ []) leases2 x3 (acted_runs effective e.by e.ask runs) ws (reported_after reported (length ws) e.ask) opened' used' time in
    let T : ℕ → Type 0 = λ n. Keeps config (events ++ e ∷ []) leases2 x3 (acted_runs effective e.by e.ask runs) withdrawn' n opened' used' time in
    let E : List Event → Type 0 = λ es. Keeps config es leases2 x3 runs' withdrawn' reported' opened' used' time in
    subst E (sym ev) (keeps-calls config (events ++ e ∷ []) leases2 x3 (acted_runs effective e.by e.ask runs) runs' withdrawn' reported' opened' used' time rn (subst T (sym tl) (subst W (sym all) (subst O (sym op) (subst U (sym us) (subst N (sym same) now_kept))))))

-- WHAT A TURN ANSWERS.
pub turn-step : (config : SpaceConfig) (events : List Event) (e : Event) (leases leases1 leases2 : LeaseTable) (exports t x3 : ExportTable) (runs : List Run) (withdrawn : List Withdrawal) (reported opened used moment time : ℕ) (effective : Bool) (told_gone all_gone : List ObjId) →
    HasActed config events e leases leases1 exports t runs withdrawn reported opened used moment effective → time ≡ max e.moment moment → HasWithdrawn leases1 leases2 t x3 time told_gone all_gone →
    (place : ℕ) (reply : Reply) (gone : List ObjId) (events' : List Event) → place ≡ length events → events' ≡ events ++ e ∷ [] → reply ≡ reply_at config opened exports.rows (names (places config events)) (stood_for (places config events) e.ask) effective e.ask → told_gone ≡ map (λ (w : Withdrawal). w.object) (drop reported withdrawn) →
    gone ≡ all_gone → Step config events e (Ok (record { place = place; reply = reply; gone = gone })) events'
turn-step config events e leases leases1 leases2 exports t x3 runs withdrawn reported opened used moment time effective told_gone all_gone a m w place reply gone events' at ev re tg go =
    let P : List Event → Type 0 = λ es. Step config events e (Ok (record { place = place; reply = reply; gone = gone })) es in
    subst P (sym ev) (step-taken config events e (record { place = place; reply = reply; gone = gone })
    (taken config events e leases exports runs withdrawn reported opened used moment effective a.asked a.room a.fit a.unrefused)
    (three place (length events) reply (reply_at config opened exports.rows (names (places config events)) (stood_for (places config events) e.ask) effective e.ask) gone (map (λ (w : Withdrawal). w.object) (drop reported withdrawn) ++ going_now config events e t) at re
    (go ∙ goes-now config events e leases leases1 leases2 exports t x3 runs withdrawn reported opened used moment time effective told_gone all_gone a m w ∙ ap (λ l. l ++ going_now config events e t) tg)
    ∙ sym (turn-is config events e leases leases1 exports t runs (acted_runs effective e.by e.ask runs) withdrawn reported opened used moment effective a.asked.keeps
    (is-effective config events e leases exports runs withdrawn reported opened used moment effective a.asked) (is-acted config events e leases leases1 exports t runs withdrawn reported opened used moment effective a))))
  where
    three : (p q : ℕ) (x y : Reply) (g h : List ObjId) → p ≡ q → x ≡ y → g ≡ h → ◌≡◌ {A = Turn} (record { place = p; reply = x; gone = g }) (record { place = q; reply = y; gone = h })
    three p q x y g h a b c = cc

-- What is said of the fields is said of the space.
pub step-viewed : {shown : List Exported} (config : SpaceConfig) (events events' : List Event) (e : Event) (answer : Result Turn Refused) (s : SpaceHistory) → record { configuration = config; events = events; rows = shown } ≡ s →
    Step config events e answer events' → Step s.configuration s.events e answer events'
step-viewed config events events' e answer s v t = let P : SpaceHistory → Type 0 = λ x. Step x.configuration x.events e answer events' in subst P v t

-- Where there is no memory.
pub memory-step : (config : SpaceConfig) (events events' : List Event) (e : Event) (refused : Refused) → refused ≡ OutOfMemory → events' ≡ events → Step config events e (Err refused) events'
memory-step config events events' e refused r s = inr (ap (λ x. Err x) r, s)

-- What holds in any case holds of a refusal.
pub whole-err : {T E A B C D : Type 0} (r : Result T E) → A → B → C → D → OnErr r (A × B × C × D)
whole-err (Ok x) a b d s = tt
whole-err (Err e) a b d s = (a, b, d, s)
