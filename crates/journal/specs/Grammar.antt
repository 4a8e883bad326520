-- A journal: the text of a configuration and of the events of a history, as a relation between bytes and these. What it spells a
-- value by is history's `Texts`. A line is words that are separated by one space. Numbers are decimal, without needless zeros or signs.
use Rattle.std.specs.Prelude.{◌≡◌, ◌≢◌, ℕ, ℤ, pos, ◌^◌, ◌<◌, ◌≤◌, ◌⊎◌, Bool, true, if◌then◌else◌, List, [], ◌∷◌, ◌++◌, length, codes, decimal, FitsSigned}
use Rattle.std.specs.Int.{w16, w32, w64}
use Rattle.std.specs.List.{AllByRecursion, AllZip, join_with_byte}
use Rattle.std.specs.Fmt.{signed_decimal}
use mir.Syntax.{Width}
use Rattle.object_ids.specs.declared.ids.Uid.{Uid}
use Rattle.object_ids.specs.declared.ids.ObjId.{ObjId}
use Rattle.object_ids.specs.Client.{Client}
use Rattle.object_ids.specs.declared.limits.TheConstants.{MAX_ADDRESS_BYTES}
use Rattle.history.specs.declared.asks.SpaceConfig.{SpaceConfig}
use Rattle.history.specs.declared.asks.Event.{Event}
use Rattle.history.specs.declared.asks.Ask.{Ask}
use Rattle.history.specs.declared.asks.Ask.TheVariants.{Open, Begin, Finish, Abandon, Dirty, Clean, Ack, Bind, Rebind, Unbind, Lookup, Tick}
use Rattle.history.specs.declared.asks.Ask.TheVariants.{List as ListNames}
use Rattle.history.specs.declared.limits.TheConstants.{MAX_NAME_UNITS, MAX_DURATION_MS, END_OF_TIME}
use Rattle.history.specs.Texts.{uid_text, address_text, client_text, name_text}

-- ---- words

-- The word spells a number below a limit.
abbrev pub SpellsBelow : ℕ → ℕ → List ℕ → Type 0
SpellsBelow limit n word = (n < limit) × (word ≡ decimal n)

-- The word spells a signed number of a width.
abbrev pub SpellsSigned : Width → ℤ → List ℕ → Type 0
SpellsSigned w n word = FitsSigned w n × (word ≡ signed_decimal n)

-- A number of 32 bits.
abbrev pub SpellsNumber : ℕ → List ℕ → Type 0
SpellsNumber n word = SpellsBelow (2 ^ 32) n word

-- A moment.
abbrev pub SpellsMoment : ℕ → List ℕ → Type 0
SpellsMoment moment word = SpellsBelow END_OF_TIME moment word

-- A duration, from 1 on.
abbrev pub SpellsDuration : ℕ → List ℕ → Type 0
SpellsDuration duration word = (1 ≤ duration) × (duration ≤ MAX_DURATION_MS) × (word ≡ decimal duration)

-- The parts of an identifier fit their types.
pub record IsUid (uid : Uid) : Type 0 where
  pub unique : FitsSigned w32 uid.unique
  pub time : FitsSigned w64 uid.time
  pub count : FitsSigned w16 uid.count

-- An identifier U/T/C.
abbrev pub SpellsUid : Uid → List ℕ → Type 0
SpellsUid uid word = IsUid uid × (word ≡ uid_text uid)

-- An object N:U/T/C.
abbrev pub long_text : ObjId → List ℕ
long_text object = signed_decimal object.number ++ codes ":" ++ uid_text object.space

abbrev pub SpellsLong : ObjId → List ℕ → Type 0
SpellsLong object word = FitsSigned w64 object.number × IsUid object.space × (word ≡ long_text object)

-- An object: the number N of one of the space itself, or N:U/T/C.
abbrev pub SpellsObject : Uid → ObjId → List ℕ → Type 0
SpellsObject space object word = ((object.space ≡ space) × SpellsSigned w64 object.number word) ⊎ SpellsLong object word

-- An address has at most 255 bytes.
pub record IsAddress (addr : List ℕ) : Type 0 where
  pub bytes : AllByRecursion (λ b. b < 2 ^ 8) addr
  pub short : length addr ≤ MAX_ADDRESS_BYTES

-- An address in hexadecimal digits; the empty one is `-`.
abbrev pub SpellsAddress : List ℕ → List ℕ → Type 0
SpellsAddress addr word = IsAddress addr × (word ≡ address_text addr)

pub record IsClient (client : Client) : Type 0 where
  pub addr : IsAddress client.addr
  pub uid : IsUid client.uid

-- A client ADDR@U/T/C.
abbrev pub SpellsClient : Client → List ℕ → Type 0
SpellsClient client word = IsClient client × (word ≡ client_text client)

-- A name has at most 255 units of 16 bits.
pub record IsName (name : List ℕ) : Type 0 where
  pub units : AllByRecursion (λ u. u < 2 ^ 16) name
  pub short : length name ≤ MAX_NAME_UNITS

-- A name in quotation marks.
abbrev pub SpellsName : List ℕ → List ℕ → Type 0
SpellsName name word = IsName name × (word ≡ name_text name)

-- A list: its items, joined by commas. The empty one is `-`.
abbrev pub SpellsList : {X : Type 0} → (X → List ℕ → Type 0) → List X → List ℕ → Type 0
SpellsList Spells [] word = word ≡ codes "-"
SpellsList Spells (x ∷ xs) word = (items : List (List ℕ)) × AllZip Spells (x ∷ xs) items × (word ≡ join_with_byte 44 items)

abbrev pub SpellsKinds : List ℕ → List ℕ → Type 0
SpellsKinds kinds word = SpellsList SpellsNumber kinds word

abbrev pub SpellsObjects : Uid → List ObjId → List ℕ → Type 0
SpellsObjects space objects word = SpellsList (SpellsObject space) objects word

-- This very word.
abbrev pub Is : List ℕ → List ℕ → Type 0
Is text word = word ≡ text

-- Whether an object is opened pinned.
abbrev pub SpellsPinned : Bool → List ℕ → Type 0
SpellsPinned pinned word = word ≡ (if pinned then codes "pinned" else codes "free")

-- Whether a clean is strong.
abbrev pub SpellsStrong : Bool → List ℕ → Type 0
SpellsStrong strong word = word ≡ (if strong then codes "strong" else codes "weak")

-- ---- lines

-- The first of the words is so, and the others are so.
infixr 10 ◌▸◌
abbrev pub ◌▸◌ : (List ℕ → Type 0) → (List (List ℕ) → Type 0) → List (List ℕ) → Type 0
(First ▸ Others) [] = ⊥
(First ▸ Others) (word ∷ words) = First word × Others words

-- There are no further words.
abbrev pub End : List (List ℕ) → Type 0
End words = words ≡ []

-- The words spell an ask of this space.
abbrev pub SpellsAsk : Uid → Ask → List (List ℕ) → Type 0
SpellsAsk space (Open kind pinned) = Is (codes "open") ▸ SpellsNumber kind ▸ SpellsPinned pinned ▸ End
SpellsAsk space (Begin object) = Is (codes "begin") ▸ SpellsObject space object ▸ End
SpellsAsk space (Finish object made listed uid) =
    Is (codes "finish") ▸ SpellsObject space object ▸ SpellsKinds made ▸ SpellsObjects space listed ▸ SpellsUid uid ▸ End
SpellsAsk space (Abandon object) = Is (codes "abandon") ▸ SpellsObject space object ▸ End
SpellsAsk space (Dirty client number asked objects) =
    Is (codes "dirty") ▸ SpellsClient client ▸ SpellsSigned w64 number ▸ SpellsSigned w64 asked ▸ SpellsObjects space objects ▸ End
SpellsAsk space (Clean client number objects strong) =
    Is (codes "clean") ▸ SpellsClient client ▸ SpellsSigned w64 number ▸ SpellsStrong strong ▸ SpellsObjects space objects ▸ End
SpellsAsk space (Ack uid) = Is (codes "ack") ▸ SpellsUid uid ▸ End
SpellsAsk space (Bind name object) = Is (codes "bind") ▸ SpellsName name ▸ SpellsObject space object ▸ End
SpellsAsk space (Rebind name object) = Is (codes "rebind") ▸ SpellsName name ▸ SpellsObject space object ▸ End
SpellsAsk space (Unbind name) = Is (codes "unbind") ▸ SpellsName name ▸ End
SpellsAsk space (Lookup name uid) = Is (codes "lookup") ▸ SpellsName name ▸ SpellsUid uid ▸ End
SpellsAsk space ListNames = Is (codes "list") ▸ End
SpellsAsk space Tick = Is (codes "tick") ▸ End

-- The words spell an event of this space: BY MOMENT and the ask.
abbrev pub EventWords : Uid → Event → List (List ℕ) → Type 0
EventWords space event = SpellsNumber event.by ▸ SpellsMoment event.moment ▸ SpellsAsk space event.ask

-- The line, which stands here without its LF, spells an event.
abbrev pub SpellsEvent : Uid → Event → List ℕ → Type 0
SpellsEvent space event line = (words : List (List ℕ)) × EventWords space event words × (line ≡ join_with_byte 32 words)

-- The words spell a configuration: `space LEASE ACK UNIQUE TIME`. The space's identifier is UNIQUE/TIME/0, and it keeps its events.
abbrev pub ConfigWords : SpaceConfig → List (List ℕ) → Type 0
ConfigWords config words =
    (config.uid.count ≡ pos 0)
    × (config.stored ≡ true)
    × (Is (codes "space") ▸ SpellsDuration config.lease_ms ▸ SpellsDuration config.ack_ms
    ▸ SpellsSigned w32 config.uid.unique ▸ SpellsSigned w64 config.uid.time ▸ End) words

-- The line spells a configuration.
abbrev pub SpellsConfig : SpaceConfig → List ℕ → Type 0
SpellsConfig config line = (words : List (List ℕ)) × ConfigWords config words × (line ≡ join_with_byte 32 words)

-- ---- the journal

-- Lines that spell these events, one each, stand first in the bytes, and this rest after them. Each line ends with LF.
abbrev pub SpellsFront : Uid → List Event → List ℕ → List ℕ → Type 0
SpellsFront space [] bytes rest = bytes ≡ rest
SpellsFront space (event ∷ events) bytes rest =
    (line : List ℕ) × (others : List ℕ) × SpellsEvent space event line × SpellsFront space events others rest × (bytes ≡ line ++ 10 ∷ others)

-- The bytes are lines that spell these events.
abbrev pub SpellsEvents : Uid → List Event → List ℕ → Type 0
SpellsEvents space events bytes = SpellsFront space events bytes []

-- There are bytes, and no line that spells an event stands first in them.
pub record BeginsBadly (space : Uid) (bytes : List ℕ) : Type 0 where
  pub some : bytes ≢ []
  pub none : (event : Event) (line rest : List ℕ) → SpellsEvent space event line → bytes ≡ line ++ 10 ∷ rest → ⊥

-- The bytes are the journal of a configuration and these events.
abbrev pub JournalText : List ℕ → SpaceConfig → List Event → Type 0
JournalText bytes config events =
    (line : List ℕ) × (rest : List ℕ) × SpellsConfig config line × SpellsEvents config.uid events rest × (bytes ≡ line ++ 10 ∷ rest)
