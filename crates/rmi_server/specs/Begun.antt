-- What is known of a history in which a server opened objects and did nothing else.
use Rattle.std.specs.Prelude.{◌≡◌, ◌≤◌, ◌+◌, ℕ, List, [], ◌∷◌, ◌++◌, length}
use Rattle.std.specs.List.{AllByRecursion}
use Rattle.history.specs.declared.asks.Event.{Event}
use Rattle.history.specs.declared.asks.SpaceConfig.{SpaceConfig}
use Rattle.history.specs.declared.limits.TheConstants.{MAX_NAMES}
use Rattle.history.specs.Limits.{units, reserved_units}
use Rattle.history.specs.Names.{names}
use Rattle.history.specs.Places.{exported_count}
use Rattle.history.specs.Table.{places, table}
use Rattle.space.specs.Built.{SpaceHistory}
use Rattle.rmi_server.specs.declared.site.Named.{Named}
use Rattle.rmi_server.specs.Opens.{opened_events}
use Rattle.rmi_server.specs.declared.serving.ServeFault.{ServeFault}
use Rattle.rmi_server.specs.SiteFaults.{HasShortName, RefusesNamed, names_of}

-- So many objects were exported, so many units are taken, no call runs, and these are the names that stand for something.
pub record HasCounts (config : SpaceConfig) (objects taken : ℕ) (bound : List (List ℕ)) (h : List Event) : Type 0 where
  pub exported : exported_count (places config h) ≡ objects
  pub used : units (places config h) ≡ taken
  pub idle : reserved_units (places config h) ≡ 0
  pub rows : length (table config (places config h)) ≤ objects
  pub named : names (places config h) ≡ bound

-- These objects were opened, each under its name, and nothing else happened.
pub record IsBegun (config : SpaceConfig) (opened : List Named) (h : List Event) : Type 0 where
  pub events : h ≡ opened_events config.uid 0 opened
  pub counts : HasCounts config (length opened) (length opened + length opened) (names_of opened) h
  pub few : length opened ≤ MAX_NAMES
  pub short : AllByRecursion HasShortName opened

-- A further object was opened beside those that were opened in a space, whichever they are.
abbrev pub OpensFurther : SpaceHistory → Named → SpaceHistory → Type 0
OpensFurther old named new = (before : List Named) → IsBegun old.configuration before old.events → IsBegun old.configuration (before ++ named ∷ []) new.events

-- Why it is not opened beside these.
abbrev pub RefusesFurther : SpaceHistory → Named → ServeFault → Type 0
RefusesFurther old named fault = (before : List Named) → IsBegun old.configuration before old.events → RefusesNamed before named fault
