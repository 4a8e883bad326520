-- Which calls a connection's entries begin and end, and what that says of the calls that it runs, where other connections' events
-- stand between its own.
use Rattle.std.specs.Prelude.{◌≡◌, ◌≢◌, ◌+◌, ℕ, Bool, false, List, [], ◌∷◌, ◌++◌, length, filter}
use Rattle.object_ids.specs.declared.ids.ObjId.{ObjId}
use Rattle.history.specs.declared.asks.SpaceConfig.{SpaceConfig}
use Rattle.history.specs.declared.asks.Event.{Event}
use Rattle.history.specs.Running.{running_calls_by}
use Rattle.history.specs.Table.{places}
use Rattle.space.specs.declared.asked.Asked.{Asked}
use Rattle.space.specs.declared.asked.AskedEnd.{AskedEnd}
use Rattle.space.specs.declared.asked.AskedEnd.TheVariants.{Turned}
use Rattle.ports.specs.Ports.{begins, ends, is_started, GoesBy, Went}

-- How many calls of an object the entries begin, and how many they end.
abbrev pub calls_begun : List Asked → ObjId → ℕ
calls_begun entries o = length (filter (begins o) entries)

abbrev pub calls_ended : List Asked → ObjId → ℕ
calls_ended entries o = length (filter (ends o) entries)

-- An entry that ends so began a call: it was answered Started, as none but a Begin is.
abbrev pub is_start : AskedEnd → Bool
is_start (Turned turn) = is_started turn.reply
is_start _ = false

-- How many calls the entries begin, of whatever objects.
abbrev pub calls_in : List Asked → ℕ
calls_in entries = length (filter (λ entry. is_start entry.end) entries)

-- The entries end as many calls of each object as they begin.
abbrev pub Balanced : List Asked → Type 0
Balanced entries = (o : ObjId) → calls_begun entries o ≡ calls_ended entries o

-- None of these events is the connection's.
abbrev pub AreOfOthers : ℕ → List Event → Type 0
AreOfOthers by [] = Unit {0}
AreOfOthers by (e ∷ es) = (e.by ≢ by) × AreOfOthers by es

-- A connection's entries lead from a history to another, one after the other. Events of other connections may come before each of them,
-- and after the last.
abbrev pub WentAmong : SpaceConfig → ℕ → List Event → List Asked → List Event → Type 0
WentAmong config by h [] last = (others : List Event) × AreOfOthers by others × (last ≡ h ++ others)
WentAmong config by h (entry ∷ more) last =
    (others : List Event) × (next : List Event) × AreOfOthers by others × GoesBy config by (h ++ others) entry.moment entry.ask entry.end next × WentAmong config by next more last

-- ---- laws

-- Entries between which no other event comes are among others too: there is none.
abbrev pub WentAlone : Type 0
WentAlone = (config : SpaceConfig) (by : ℕ) (h last : List Event) (entries : List Asked) → Went config by h entries last → WentAmong config by h entries last

-- The calls of an object that a connection runs after its entries, and those that they end, are as many as those that it ran before and those
-- that they begin.
abbrev pub CallsAddUp : Type 0
CallsAddUp = (config : SpaceConfig) (by : ℕ) (h last : List Event) (entries : List Asked) (o : ObjId) → WentAmong config by h entries last →
    running_calls_by (places config last) by o + calls_ended entries o ≡ running_calls_by (places config h) by o + calls_begun entries o

-- A connection that ran no call before its entries runs none after them, where they are balanced.
abbrev pub BalancedLeavesNone : Type 0
BalancedLeavesNone = (config : SpaceConfig) (by : ℕ) (h last : List Event) (entries : List Asked) → WentAmong config by h entries last → Balanced entries →
    ((o : ObjId) → running_calls_by (places config h) by o ≡ 0) → (o : ObjId) → running_calls_by (places config last) by o ≡ 0
