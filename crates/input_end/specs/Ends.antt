-- Inputs whose end is looked for without a wait, and listeners that are told to stop there.
use Rattle.std.specs.Prelude.{◌≡◌, ◌⊎◌, ◌+◌, ◌<◌, ◌≤◌, ◌||◌, ◌↔◌, Bool, true, false, if◌then◌else◌, IsSomeAnd, IsTrue, ℕ, List, [], length, Option, None, Some}
use Rattle.wire_io.specs.Links.{Listening}
use Rattle.wire_io.specs.Wire.{ReadHalf, with_front, next_count, NothingLeft, Rose}
use Rattle.mio.specs.Event.{is_readable, is_read_closed}
use Rattle.mio.specs.declared.event.event.Event.{Event}
use Rattle.input_end.specs.declared.drained.DrainedSource.{DrainedSource}
use Rattle.input_end.specs.declared.drained.PieceEnd.{PieceEnd}
use Rattle.input_end.specs.declared.drained.PieceEnd.TheVariants.{Dropped, Ended, Stopped}
use Rattle.input_end.specs.declared.drained.TheConstants.{MAX_PIECES}
use Rattle.input_end.specs.declared.watch.Readiness.{Readiness}
use Rattle.input_end.specs.declared.watch.Readiness.TheVariants.{WouldWait, WouldAnswer, HungUp}

-- what a listener shows that is told to stop at the end of an input too: what the listener inside shows, with its own count of faults
-- added, told where that end was seen, and closed and asked to accept a link as it was itself
abbrev pub listening_until : Bool → ℕ → Bool → ℕ → Listening → Listening
listening_until seen faults closed accepts inner = record {
  ports = inner.ports;
  accepted = inner.accepted;
  faults = inner.faults + faults;
  told = seen || inner.told;
  quiets = inner.quiets;
  closed = closed;
  accepts = accepts;
}

-- an end in memory: the index of the first look that sees it, if any does, how many looks there were, which is the index of the next one,
-- and whether it was seen
pub record EndState : Type 0 where
  pub first : Option ℕ
  pub looks : ℕ
  pub seen : Bool

-- One look was made at an end in memory, with this answer. The look of the index `first` and each later one see the end.
pub record LookedInMemory (old new : EndState) (answer : Bool) : Type 0 where
  pub ends : IsTrue answer ↔ IsSomeAnd old.first (λ first. first ≤ old.looks)
  pub count : new.looks ≡ next_count old.looks
  pub first : new.first ≡ old.first

-- whether the end of an input was seen that may be absent: it is never seen where there is none
abbrev pub seen_in : {E : Type 0} → (E → Bool) → Option E → Bool
seen_in seen None = false
seen_in seen (Some end) = seen end

-- One look was made at an input that may be absent, with this answer. Where there is none, the look sees no end.
abbrev pub LookedIn : {E : Type 0} → (E → E → Bool → Type 0) → Option E → Option E → Bool → Type 0
LookedIn looked None None answer = answer ≡ false
LookedIn looked (Some old) (Some new) answer = looked old new answer
LookedIn looked None (Some new) answer = ⊥
LookedIn looked (Some old) None answer = ⊥

-- a watch over a descriptor: whether the system watches it, and what it answered last
pub record WatchState : Type 0 where
  pub is_watched : Bool
  pub answered : Readiness

-- what an event of the system says of a read
abbrev pub readiness_of : Event → Readiness
readiness_of event = if is_readable event then WouldAnswer else (if is_read_closed event then HungUp else WouldWait)

-- These bytes were dropped from the front of what a source had left. It was not shut.
pub record Drops (old new : ReadHalf) (bytes : List ℕ) : Type 0 where
  pub front : old.left ≡ with_front bytes new.left
  pub faults : old.faults ≤ new.faults
  pub shut : new.shut ≡ old.shut

-- What one step of a look did to the input's source, by what the watch answered. Where a read would wait or the other end is gone, the
-- source is not asked. Else a piece of at least one byte was dropped, or nothing is left, or the read failed.
abbrev pub Steps : Readiness → ReadHalf → ReadHalf → PieceEnd → Type 0
Steps WouldWait old new end = (end ≡ Stopped) × (new ≡ old)
Steps HungUp old new end = (end ≡ Ended) × (new ≡ old)
Steps WouldAnswer old new Dropped = (bytes : List ℕ) × (0 < length bytes) × Drops old new bytes
Steps WouldAnswer old new Ended = NothingLeft new.left × Drops old new []
Steps WouldAnswer old new Stopped = Rose old.faults new.faults × Drops old new []

-- What a look found that dropped these bytes, by what the watch answered last: no end where a read would wait, and the end where the
-- other end is gone. Else it is the end where nothing is left, and none where a read failed or so many bytes came.
abbrev pub Finds : ℕ → Readiness → ReadHalf → ReadHalf → List ℕ → Bool → Type 0
Finds most WouldWait old new bytes found = found ≡ false
Finds most HungUp old new bytes found = found ≡ true
Finds most WouldAnswer old new bytes true = NothingLeft new.left
Finds most WouldAnswer old new bytes false = Rose old.faults new.faults ⊎ (most ≤ length bytes)

-- One look was made at a source that is drained, with this answer, by what its watch and its source show. Once the end was seen, a
-- look changes nothing. An input that can't be watched is not read, and its end is not seen.
pub record LookedAtSource {W S : Type 0} (answered : W → Readiness) (can_watch : W → Bool) (half : S → ReadHalf)
    (old new : DrainedSource W S) (answer : Bool) : Type 0 where
  pub again : old.is_seen ≡ true → new ≡ old
  pub finds : old.is_seen ≡ false → (bytes : List ℕ) × Drops (half old.source) (half new.source) bytes
      × Finds MAX_PIECES (answered new.watch) (half old.source) (half new.source) bytes answer
  pub watches : can_watch new.watch ≡ can_watch old.watch
  pub unwatched : can_watch old.watch ≡ false → (answer ≡ old.is_seen) × (new.source ≡ old.source)
