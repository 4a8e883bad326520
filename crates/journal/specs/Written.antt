-- The lines of a journal as texts, each without its LF: words that are separated by one space. An object of the space's own is written by its
-- number. What each text spells is the grammar's.
use Rattle.std.specs.Prelude.{true, ◌≡◌, ℕ, pos, ◌^◌, ◌<◌, ◌≤◌, Bool, if◌then◌else◌, List, [], ◌∷◌, ◌++◌, map, flat_map, codes, decimal, FitsSigned}
use Rattle.std.specs.Int.{w64}
use Rattle.std.specs.List.{AllByRecursion, join_with_byte}
use Rattle.std.specs.Fmt.{signed_decimal}
use Rattle.object_ids.specs.declared.ids.Uid.{Uid}
use Rattle.object_ids.specs.declared.ids.ObjId.{ObjId}
use Rattle.history.specs.declared.asks.SpaceConfig.{SpaceConfig}
use Rattle.history.specs.declared.asks.Event.{Event}
use Rattle.history.specs.declared.asks.Ask.{Ask}
use Rattle.history.specs.declared.asks.Ask.TheVariants.{Open, Begin, Finish, Abandon, Dirty, Clean, Ack, Bind, Rebind, Unbind, Lookup, Tick}
use Rattle.history.specs.declared.asks.Ask.TheVariants.{List as ListNames}
use Rattle.history.specs.declared.limits.TheConstants.{MAX_DURATION_MS, END_OF_TIME}
use Rattle.history.specs.Texts.{uid_text, client_text, object_text, name_text}
use Rattle.journal.specs.Grammar.{IsUid, IsClient, IsName}

-- ---- texts

-- A list: its items' texts, joined by commas. The empty one is `-`.
abbrev pub list_text : {X : Type 0} → (X → List ℕ) → List X → List ℕ
list_text text [] = codes "-"
list_text text (x ∷ xs) = join_with_byte 44 (map text (x ∷ xs))

-- An item that is not the first stands after a comma.
abbrev pub further_kind : ℕ → List ℕ
further_kind kind = 44 ∷ decimal kind

abbrev pub further_object : Uid → ObjId → List ℕ
further_object space object = 44 ∷ object_text space object

abbrev pub objects_text : Uid → List ObjId → List ℕ
objects_text space objects = list_text (object_text space) objects

abbrev pub pinned_text : Bool → List ℕ
pinned_text pinned = if pinned then codes "pinned" else codes "free"

abbrev pub strong_text : Bool → List ℕ
strong_text strong = if strong then codes "strong" else codes "weak"

-- The words of an ask.
abbrev pub ask_words : Uid → Ask → List (List ℕ)
ask_words space (Open kind pinned) = codes "open" ∷ decimal kind ∷ pinned_text pinned ∷ []
ask_words space (Begin object) = codes "begin" ∷ object_text space object ∷ []
ask_words space (Finish object made listed uid) =
    codes "finish" ∷ object_text space object ∷ list_text decimal made ∷ objects_text space listed ∷ uid_text uid ∷ []
ask_words space (Abandon object) = codes "abandon" ∷ object_text space object ∷ []
ask_words space (Dirty client number asked objects) =
    codes "dirty" ∷ client_text client ∷ signed_decimal number ∷ signed_decimal asked ∷ objects_text space objects ∷ []
ask_words space (Clean client number objects strong) =
    codes "clean" ∷ client_text client ∷ signed_decimal number ∷ strong_text strong ∷ objects_text space objects ∷ []
ask_words space (Ack uid) = codes "ack" ∷ uid_text uid ∷ []
ask_words space (Bind name object) = codes "bind" ∷ name_text name ∷ object_text space object ∷ []
ask_words space (Rebind name object) = codes "rebind" ∷ name_text name ∷ object_text space object ∷ []
ask_words space (Unbind name) = codes "unbind" ∷ name_text name ∷ []
ask_words space (Lookup name uid) = codes "lookup" ∷ name_text name ∷ uid_text uid ∷ []
ask_words space ListNames = codes "list" ∷ []
ask_words space Tick = codes "tick" ∷ []

-- The line of an event: BY MOMENT and the ask's words.
unfoldable pub event_text : Uid → Event → List ℕ
event_text space event = join_with_byte 32 (decimal event.by ∷ decimal event.moment ∷ ask_words space event.ask)

-- The first line: `space LEASE ACK UNIQUE TIME`.
unfoldable pub config_text : SpaceConfig → List ℕ
config_text config = join_with_byte 32 (
    codes "space" ∷ decimal config.lease_ms ∷ decimal config.ack_ms ∷ signed_decimal config.uid.unique ∷ signed_decimal config.uid.time ∷ [])

-- A line with its LF.
abbrev pub with_line_end : List ℕ → List ℕ
with_line_end text = text ++ 10 ∷ []

abbrev pub event_line : Uid → Event → List ℕ
event_line space event = with_line_end (event_text space event)

-- The journal of a configuration and of events.
unfoldable pub journal_text : SpaceConfig → List Event → List ℕ
journal_text config events = with_line_end (config_text config) ++ flat_map (event_line config.uid) events

-- ---- numbers that fit their types

pub record IsObject (object : ObjId) : Type 0 where
  pub number : FitsSigned w64 object.number
  pub space : IsUid object.space

abbrev pub AreObjects : List ObjId → Type 0
AreObjects objects = AllByRecursion IsObject objects

abbrev pub AreKinds : List ℕ → Type 0
AreKinds kinds = AllByRecursion (λ kind. kind < 2 ^ 32) kinds

abbrev pub AskFits : Ask → Type 0
AskFits (Open kind pinned) = kind < 2 ^ 32
AskFits (Begin object) = IsObject object
AskFits (Finish object made listed uid) = IsObject object × AreKinds made × AreObjects listed × IsUid uid
AskFits (Abandon object) = IsObject object
AskFits (Dirty client number asked objects) = IsClient client × FitsSigned w64 number × FitsSigned w64 asked × AreObjects objects
AskFits (Clean client number objects strong) = IsClient client × FitsSigned w64 number × AreObjects objects
AskFits (Ack uid) = IsUid uid
AskFits (Bind name object) = IsName name × IsObject object
AskFits (Rebind name object) = IsName name × IsObject object
AskFits (Unbind name) = IsName name
AskFits (Lookup name uid) = IsName name × IsUid uid
AskFits ListNames = Unit {0}
AskFits Tick = Unit {0}

-- The numbers of an event are within their types' ranges, its moment below the end of time, its client's address and its name no
-- longer than such may be.
pub record EventFits (event : Event) : Type 0 where
  pub by : event.by < 2 ^ 32
  pub moment : event.moment < END_OF_TIME
  pub ask : AskFits event.ask

-- The durations of a configuration are within their limits, the count of its identifier is 0, and its space keeps its events.
pub record ConfigFits (config : SpaceConfig) : Type 0 where
  pub some_lease : 1 ≤ config.lease_ms
  pub short_lease : config.lease_ms ≤ MAX_DURATION_MS
  pub some_ack : 1 ≤ config.ack_ms
  pub short_ack : config.ack_ms ≤ MAX_DURATION_MS
  pub count : config.uid.count ≡ pos 0
  pub stored : config.stored ≡ true
