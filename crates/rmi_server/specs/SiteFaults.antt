-- Why a site is not served.
use Rattle.std.specs.Prelude.{◌≡◌, ◌≤◌, ◌<◌, ◌⊎◌, ℕ, true, false, List, length, map, All, Some, None}
use Rattle.std.specs.List.{list_any}
use Rattle.mod_utf.specs.Utf.{utf}
use Rattle.object_ids.specs.declared.ids.ObjId.{ObjId}
use Rattle.object_ids.specs.Same.{same_bytes}
use Rattle.history.specs.declared.asks.Event.{Event}
use Rattle.history.specs.declared.asks.Ask.TheVariants.{Bind}
use Rattle.history.specs.declared.limits.TheConstants.{MAX_NAMES, MAX_NAME_UNITS}
use Rattle.history.specs.declared.replies.Refused.{Refused}
use Rattle.history.specs.declared.replies.Refused.TheVariants as refusals
use Rattle.history.specs.Limits.{limits, refusal}
use Rattle.history.specs.Lists.{AllOnce}
use Rattle.history.specs.Table.{is_effective, places}
use Rattle.space.specs.Built.{SpaceHistory}
use Rattle.space.specs.TurnAnswers.{IsRefusalOf}
use Rattle.wire_io.specs.declared.limits.TheConstants.{MAX_HOST_BYTES}
use Rattle.rmi_server.specs.declared.serving.ServeFault.{ServeFault}
use Rattle.rmi_server.specs.declared.serving.ServeFault.TheVariants.{Kinds, NoKind, NameTooLong, NameTaken, TooManyNames, HostTooLong, NoSeed, ListenFault, OutOfMemory}
use Rattle.rmi_server.specs.declared.site.Named.{Named}
use Rattle.rmi_server.specs.declared.site.Site.{Site}
use Rattle.rmi_server.specs.Kinds.{RefusesKinds}
use Rattle.rmi_server.specs.Opens.{bind_event}

-- The object is of one of so many kinds.
abbrev pub HasKind : ℕ → Named → Type 0
HasKind count named = named.kind < count

-- Its name has at most 255 characters.
abbrev pub HasShortName : Named → Type 0
HasShortName named = length named.name.now ≤ MAX_NAME_UNITS

-- the names of objects
abbrev pub names_of : List Named → List (List ℕ)
names_of objects = map (λ named. named.name.now) objects

-- ---- the site

-- Why a site is refused: its kinds are; an object's kind is none of them; a name is too long; two objects have one name; there are more names than a
-- registry has; or the host is too long. There may be no memory.
abbrev pub RefusesSite : Site → ServeFault → Type 0
RefusesSite site (Kinds fault) = RefusesKinds site.kinds fault
RefusesSite site NoKind = ¬ All (HasKind (length site.kinds)) site.names.now
RefusesSite site NameTooLong = ¬ All HasShortName site.names.now
RefusesSite site NameTaken = ¬ AllOnce same_bytes (names_of site.names.now)
RefusesSite site TooManyNames = MAX_NAMES < length site.names.now
RefusesSite site HostTooLong = MAX_HOST_BYTES < length (utf site.host.now)
RefusesSite site NoSeed = ⊥
RefusesSite site ListenFault = ⊥
RefusesSite site OutOfMemory = Unit {0}

-- The address and port of a site can't be listened on, or the site is refused.
abbrev pub RefusesListening : Site → ServeFault → Type 0
RefusesListening site fault = (fault ≡ ListenFault) ⊎ RefusesSite site fault

-- Each name is short, no two objects have one name, and there are no more names than a registry has.
pub record AreSoundNames (objects : List Named) : Type 0 where
  pub short : All HasShortName objects
  pub once : AllOnce same_bytes (names_of objects)
  pub few : length objects ≤ MAX_NAMES

-- A site that is served has none of these faults in its names and its host: each object is of a kind, the names are sound, and the host is short.
pub record IsSound (site : Site) : Type 0 where
  pub kinds : All (HasKind (length site.kinds)) site.names.now
  pub names : AreSoundNames site.names.now
  pub host : length (utf site.host.now) ≤ MAX_HOST_BYTES

-- ---- its objects, one by one

-- the fault of a turn that a space refuses
abbrev pub fault_of_refused : Refused → ServeFault
fault_of_refused refusals.OutOfMemory = OutOfMemory
fault_of_refused _ = TooManyNames

-- Why an event of the server's own is refused: a limit of the space, or no memory.
abbrev pub RefusesEvent : SpaceHistory → Event → ServeFault → Type 0
RefusesEvent space event TooManyNames = (refused : Refused) × IsRefusalOf event.ask refused × (refusal (limits space.configuration) space.configuration (places space.configuration space.events) event ≡ Some refused)
RefusesEvent space event OutOfMemory = Unit {0}
RefusesEvent space event _ = ⊥

-- Why a name can't be bound to anything: it is too long. There may be no memory.
abbrev pub RefusesName : List ℕ → ServeFault → Type 0
RefusesName name NameTooLong = MAX_NAME_UNITS < length name
RefusesName name OutOfMemory = Unit {0}
RefusesName name _ = ⊥

-- A name was bound to an object after the events of a space: it is short, no limit refuses that, and it has an effect.
pub record IsBound (space : SpaceHistory) (name : List ℕ) (object : ObjId) : Type 0 where
  pub short : length name ≤ MAX_NAME_UNITS
  pub free : refusal (limits space.configuration) space.configuration (places space.configuration space.events) (bind_event name object) ≡ None
  pub effective : is_effective space.configuration (places space.configuration space.events) 0 (Bind name object) ≡ true

-- Why a name is not bound to an object: the name is too long, or the event has no effect, or it is refused.
abbrev pub RefusesBind : SpaceHistory → List ℕ → ObjId → ServeFault → Type 0
RefusesBind space name object NameTooLong = MAX_NAME_UNITS < length name
RefusesBind space name object NameTaken = is_effective space.configuration (places space.configuration space.events) 0 (Bind name object) ≡ false
RefusesBind space name object fault = RefusesEvent space (bind_event name object) fault

-- Why an object is not opened beside these: its name is too long, or is one of theirs, or they are as many as a registry has. There may be no memory.
abbrev pub RefusesNamed : List Named → Named → ServeFault → Type 0
RefusesNamed before named NameTooLong = MAX_NAME_UNITS < length named.name.now
RefusesNamed before named NameTaken = list_any (same_bytes named.name.now) (names_of before) ≡ true
RefusesNamed before named TooManyNames = MAX_NAMES ≤ length before
RefusesNamed before named OutOfMemory = Unit {0}
RefusesNamed before named _ = ⊥

-- The same of a list of objects that are opened one after another.
abbrev pub RefusesNames : List Named → ServeFault → Type 0
RefusesNames objects NameTooLong = ¬ All HasShortName objects
RefusesNames objects NameTaken = ¬ AllOnce same_bytes (names_of objects)
RefusesNames objects TooManyNames = MAX_NAMES < length objects
RefusesNames objects OutOfMemory = Unit {0}
RefusesNames objects _ = ⊥
