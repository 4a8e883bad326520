-- What `rmi replay` makes of a journal that `rmi host` printed.
use Rattle.std.specs.Prelude.{◌≡◌, ◌≤◌, ◌+◌, ℕ, true, List, ◌++◌}
use Rattle.std.specs.List.{AllByRecursion, flat_map}
use Rattle.wire_io.specs.Wire.{WriteHalf, with_end}
use Rattle.history.specs.declared.asks.Event.{Event}
use Rattle.history.specs.declared.asks.SpaceConfig.{SpaceConfig}
use Rattle.history.specs.declared.limits.TheConstants.{MAX_HISTORY_UNITS}
use Rattle.history.specs.Limits.{units, reserved_units}
use Rattle.history.specs.Outline.{withdrawal_line}
use Rattle.history.specs.Steps.{IsLegal}
use Rattle.history.specs.Table.{places, withdrawals}
use Rattle.journal.specs.Grammar.{IsUid}
use Rattle.journal.specs.Written.{ConfigFits, EventFits, journal_text}
use Rattle.space.specs.Standing.{standing}
use Rattle.rmi_words.specs.declared.host_words.HostWords.{HostWords}
use Rattle.rmi_cli.specs.Opening.{hosted_space}
use Rattle.rmi_cli.specs.Replay.{Outlines}

-- The same rules for a space that keeps its events. `replay` makes such a space; that of `host` doesn't keep them.
abbrev pub keeping : SpaceConfig → SpaceConfig
keeping config = record config { stored = true }

-- The units of a history, with those that are reserved for its running calls.
abbrev pub weight : SpaceConfig → List Event → ℕ
weight config events = units (places config events) + reserved_units (places config events)

-- These events can be read back: their numbers are within their types' ranges, and a history that is kept has room for them.
pub record CanBeRead (config : SpaceConfig) (events : List Event) : Type 0 where
  pub fit : AllByRecursion EventFits events
  pub room : weight config events ≤ MAX_HISTORY_UNITS

-- A line for each withdrawal, as an outline ends.
abbrev pub withdrawn_lines : SpaceConfig → List Event → List ℕ
withdrawn_lines config events = flat_map (withdrawal_line config) (withdrawals config (places config events))

-- The journal is one whose events are all taken, and what `replay` prints of it is what stands, and then the withdrawals.
abbrev pub ReplaysToStanding : SpaceConfig → List Event → Type 0
ReplaysToStanding config events = Outlines (journal_text config events) (standing config events ++ withdrawn_lines config events)

-- So does the journal of each legal history whose configuration and events can be read, whether or not its space keeps its events.
abbrev pub JournalsReplay : Type 0
JournalsReplay = (config : SpaceConfig) (events : List Event) → IsUid config.uid → ConfigFits (keeping config) → IsLegal config events → CanBeRead config events → ReplaysToStanding config events

-- The journal of a legal history of the space that the seed and the words give was printed, whole. Where its events can be read, it replays to what stands.
pub record PrintsJournal (seed : List ℕ) (host : HostWords) (old new : WriteHalf) : Type 0 where
  pub events : List Event
  pub legal : IsLegal (hosted_space seed host.options) events
  pub printed : new.held ≡ with_end old.held (journal_text (hosted_space seed host.options) events)
  pub replays : CanBeRead (hosted_space seed host.options) events → ReplaysToStanding (hosted_space seed host.options) events
