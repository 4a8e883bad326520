-- What a port's entries show, and how they follow one another.
use Rattle.std.specs.Prelude.{◌≡◌, ◌≢◌, ◌<◌, ℕ, Bool, true, false, ◌&&◌, List, [], ◌∷◌, length, filter, Result, Ok, Err}
use Rattle.object_ids.specs.declared.ids.ObjId.{ObjId}
use Rattle.object_ids.specs.Same.{same_id}
use Rattle.history.specs.declared.asks.SpaceConfig.{SpaceConfig}
use Rattle.history.specs.declared.asks.Event.{Event}
use Rattle.history.specs.declared.asks.Ask.{Ask}
use Rattle.history.specs.declared.asks.Ask.TheVariants.{Begin, Finish, Abandon}
use Rattle.history.specs.declared.replies.Reply.{Reply}
use Rattle.history.specs.declared.replies.Reply.TheVariants.{Started, Finished, Done}
use Rattle.history.specs.declared.replies.Turn.{Turn}
use Rattle.history.specs.declared.replies.Refused.{Refused}
use Rattle.history.specs.declared.replies.Refused.TheVariants.{OutOfMemory}
use Rattle.history.specs.Running.{running_calls_by}
use Rattle.history.specs.Steps.{Step, turn_of}
use Rattle.history.specs.Table.{places}
use Rattle.space.specs.declared.asked.Asked.{Asked}
use Rattle.space.specs.declared.asked.AskedEnd.{AskedEnd}
use Rattle.space.specs.declared.asked.AskedEnd.TheVariants.{Turned, Abandoned, Refused as Denied}
use Rattle.space.specs.Acts.{event_of}
use Rattle.space.specs.Entries.{entry_of}

-- ---- the entries

-- what a port shows: its entries since it was made, and how many more calls there is room for
pub record PortState : Type 0 where
  pub asked : List Asked
  pub room : ℕ

-- The entries of a turn: none where there was no memory.
abbrev pub entries_of : ℕ → Ask → Result Turn Refused → List Asked
entries_of moment ask (Err OutOfMemory) = []
entries_of moment ask answer = entry_of moment ask answer ∷ []

-- The entry of a call that was ended without an answer, at this place of the history.
abbrev pub abandoned_at : ℕ → ObjId → ℕ → Asked
abandoned_at moment object place = record { moment = moment; ask = Abandon object; end = Abandoned place }

-- ---- running calls

abbrev pub is_started : Reply → Bool
is_started (Started kind) = true
is_started _ = false

abbrev pub is_finished : Reply → Bool
is_finished (Finished objects) = true
is_finished _ = false

abbrev pub is_done : Reply → Bool
is_done Done = true
is_done _ = false

-- The entry is a Begin of the object that was answered Started.
abbrev pub begins_with : ObjId → Ask → AskedEnd → Bool
begins_with o (Begin object) (Turned turn) = same_id object o && is_started turn.reply
begins_with o _ _ = false

abbrev pub begins : ObjId → Asked → Bool
begins o entry = begins_with o entry.ask entry.end

-- The entry ends a call of the object. It is a Finish that was answered Finished, an Abandon that was answered Done, or the port's own
-- `abandon`, which has no answer.
abbrev pub ends_with : ObjId → Ask → AskedEnd → Bool
ends_with o (Finish object made listed uid) (Turned turn) = same_id object o && is_finished turn.reply
ends_with o (Abandon object) (Turned turn) = same_id object o && is_done turn.reply
ends_with o (Abandon object) (Abandoned place) = same_id object o
ends_with o _ _ = false

abbrev pub ends : ObjId → Asked → Bool
ends o entry = ends_with o entry.ask entry.end

-- The entries show a call of the object running: more of them begin one than end one.
abbrev pub Shows : List Asked → ObjId → Type 0
Shows entries o = length (filter (ends o) entries) < length (filter (begins o) entries)

-- ---- the history

-- The ask ends a call that a connection runs, without an answer.
abbrev pub EndsUnanswered : SpaceConfig → List Event → ℕ → Ask → Type 0
EndsUnanswered config h by (Abandon object) = 0 < running_calls_by (places config h) by object
EndsUnanswered config h by _ = ⊥

-- The entry is what a connection's event was answered after a history, and leaves a history. A turn for which there was no memory has no entry.
abbrev pub GoesBy : SpaceConfig → ℕ → List Event → ℕ → Ask → AskedEnd → List Event → Type 0
GoesBy config by h moment ask (Turned turn) next = Step config h (event_of by moment ask) (Ok turn) next
GoesBy config by h moment ask (Denied refused) next = (refused ≢ OutOfMemory) × Step config h (event_of by moment ask) (Err refused) next
GoesBy config by h moment ask (Abandoned place) next = EndsUnanswered config h by ask × (place ≡ length h) × Step config h (event_of by moment ask) (Ok (turn_of config h (event_of by moment ask))) next

-- A connection's entries lead from a history to another, one after the other, and no other event comes between.
abbrev pub Went : SpaceConfig → ℕ → List Event → List Asked → List Event → Type 0
Went config by h [] last = last ≡ h
Went config by h (entry ∷ more) last = (next : List Event) × GoesBy config by h entry.moment entry.ask entry.end next × Went config by next more last
