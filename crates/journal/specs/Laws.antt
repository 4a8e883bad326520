-- Laws of the journal's text.
use Rattle.std.specs.Prelude.{◌≡◌, ℕ, List, []}
use Rattle.std.specs.List.{AllByRecursion}
use Rattle.object_ids.specs.declared.ids.Uid.{Uid}
use Rattle.history.specs.declared.asks.SpaceConfig.{SpaceConfig}
use Rattle.history.specs.declared.asks.Event.{Event}
use Rattle.journal.specs.Grammar.{IsUid, SpellsEvent, SpellsConfig, SpellsFront, BeginsBadly, JournalText}
use Rattle.journal.specs.Written.{config_text, event_text, journal_text, EventFits, ConfigFits}

-- A line spells at most one event.
abbrev pub LinesSpellOneEvent : Type 0
LinesSpellOneEvent = (space : Uid) (line : List ℕ) (event other : Event) → SpellsEvent space event line → SpellsEvent space other line → other ≡ event

-- A line spells at most one configuration.
abbrev pub LinesSpellOneConfig : Type 0
LinesSpellOneConfig = (line : List ℕ) (config other : SpaceConfig) → SpellsConfig config line → SpellsConfig other line → other ≡ config

-- Bytes are the journal of at most one configuration and one list of events.
abbrev pub JournalsTellOneHistory : Type 0
JournalsTellOneHistory = (bytes : List ℕ) (config other : SpaceConfig) (events others : List Event)
    → JournalText bytes config events → JournalText bytes other others → (other ≡ config) × (others ≡ events)

-- Where lines spell events up to one that spells none, these events are the only ones before such a line, and the bytes are no lines of events.
abbrev pub FirstBadLinesAreAlone : Type 0
FirstBadLinesAreAlone = (space : Uid) (bytes rest : List ℕ) (events : List Event) → SpellsFront space events bytes rest → BeginsBadly space rest
    → ((others : List Event) (left : List ℕ) → SpellsFront space others bytes left → BeginsBadly space left → (others ≡ events) × (left ≡ rest))
    × ((all : List Event) → SpellsFront space all bytes [] → ⊥)

-- The text of an event whose numbers are within their ranges spells it.
abbrev pub EventTextsSpell : Type 0
EventTextsSpell = (space : Uid) (event : Event) → EventFits event → SpellsEvent space event (event_text space event)

-- The text of a configuration whose numbers are within their ranges spells it.
abbrev pub ConfigTextsSpell : Type 0
ConfigTextsSpell = (config : SpaceConfig) → IsUid config.uid → ConfigFits config → SpellsConfig config (config_text config)

-- The text of a configuration and of events whose numbers are within their ranges is their journal.
abbrev pub JournalTextsAreJournals : Type 0
JournalTextsAreJournals = (config : SpaceConfig) (events : List Event) → IsUid config.uid → ConfigFits config → AllByRecursion EventFits events
    → JournalText (journal_text config events) config events
