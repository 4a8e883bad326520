-- The written journal is one.
use Rattle.std.proofs.Common.{List, [], ◌∷◌, refl, append_assoc, flat_map}
use Rattle.std.specs.List.{AllByRecursion}
use Rattle.object_ids.specs.declared.ids.Uid.{Uid}
use Rattle.history.specs.declared.asks.SpaceConfig.{SpaceConfig}
use Rattle.history.specs.declared.asks.Event.{Event}
use Rattle.journal.specs.Grammar.{IsUid, SpellsConfig, SpellsEvents, JournalText}
use Rattle.journal.specs.Written.{event_text, event_line, config_text, journal_text, EventFits, ConfigFits}
use Rattle.journal.proofs.Written.{event_spelled, config_spelled}

-- The lines of events, one after another, spell them.
events_spelled : (space : Uid) (events : List Event) → AllByRecursion EventFits events → SpellsEvents space events (flat_map (event_line space) events)
events_spelled space [] fit = refl
events_spelled space (e ∷ events) fit = (
  event_text space e,
  flat_map (event_line space) events,
  event_spelled space e fit.0,
  events_spelled space events fit.1,
  append_assoc (event_text space e) (10 ∷ []) (flat_map (event_line space) events),
)

-- The same with a first line that spells the configuration.
pub journal_after : (config : SpaceConfig) (events : List Event) → SpellsConfig config (config_text config) → AllByRecursion EventFits events → JournalText (journal_text config events) config events
unfolding journal_text
journal_after config events first fit =
    (config_text config, flat_map (event_line config.uid) events, first, events_spelled config.uid events fit, append_assoc (config_text config) (10 ∷ []) (flat_map (event_line config.uid) events))

pub journal_spelled : (config : SpaceConfig) (events : List Event) → IsUid config.uid → ConfigFits config → AllByRecursion EventFits events → JournalText (journal_text config events) config events
journal_spelled config events ids fits fit = journal_after config events (config_spelled config ids.unique ids.time fits) fit
