-- What a taker of reports and of events was given.
use Rattle.std.specs.Prelude.{◌≡◌, ◌≤◌, ℕ, List, []}
use Rattle.wire_io.specs.Links.{Accepted}
use Rattle.history.specs.declared.asks.Event.{Event}
use Rattle.space.specs.declared.asked.Asked.{Asked}

-- The reports, the entries and the events that a taker was given, each in the order of giving, and how many reports and entries it has room
-- for in all.
pub record Taken (R : Type 0) : Type 0 where
  pub reports : List R
  pub ticks : List Asked
  pub events : List Event
  pub report_limit : ℕ
  pub tick_limit : ℕ

-- A taker has the reports that it had, no less room for further ones, and may be given what it might be given.
pub record SameReports {C R : Type 0} (taken : C → Taken R) (expects : C → R → Type 0) (before after : C) : Type 0 where
  pub reports : (taken after).reports ≡ (taken before).reports
  pub room : (taken before).report_limit ≤ (taken after).report_limit
  pub still : (report : R) → expects before report → expects after report

-- A taker has all that it had, no less room, and may be given what it might be given.
pub record SameAll {C R : Type 0} (taken : C → Taken R) (expects : C → R → Type 0) (before after : C) : Type 0 where
  pub reports : SameReports taken expects before after
  pub ticks : (taken after).ticks ≡ (taken before).ticks
  pub tick_room : (taken before).tick_limit ≤ (taken after).tick_limit
  pub events : (taken after).events ≡ (taken before).events

-- What held of a taker between two calls holds of it still, and what no call changes is the same.
abbrev pub Keeps : {C S : Type 0} → (C → Type 0) → (C → S) → C → C → Type 0
Keeps holds stays before after = (holds before → holds after) × (stays after ≡ stays before)

-- It was given no report and no entry yet.
pub record IsEmpty {R : Type 0} (c : Taken R) : Type 0 where
  pub no_report : c.reports ≡ []
  pub no_tick : c.ticks ≡ []

-- It may be given the report of each link that is reported so.
abbrev pub ExpectsLinks : {C R : Type 0} → (ℕ → Accepted × Asked → R → Type 0) → (C → R → Type 0) → C → Type 0
ExpectsLinks {R = R} IsLink expects c = (k : ℕ) (p : Accepted × Asked) (report : R) → IsLink k p report → expects c report
