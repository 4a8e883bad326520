-- Ticks that a server makes in seconds without a link.
use Rattle.std.specs.Prelude.{◌≡◌, ◌⊎◌, ◌<◌, ◌≤◌, ◌+◌, ◌-◌, ◌^◌, min, ℕ, Bool, true, false, List, [], ◌∷◌, ◌++◌, length, Option, Some, None}
use Rattle.std.specs.List.{flat_map}
use Rattle.wire_io.specs.Wire.{Gave}
use Rattle.history.specs.declared.asks.Ask.TheVariants.{Tick}
use Rattle.space.specs.Built.{SpaceHistory}
use Rattle.space.specs.Idle.{SomethingEnds, TickChangesNothing, untold_of}
use Rattle.space.specs.declared.asked.Asked.{Asked}
use Rattle.call_dispatch.specs.Acts.{WorkerState, Call, States, TellsMore, LeadsStates}
use Rattle.call_dispatch.specs.Hands.{IsUntold, IsUncounted}
use Rattle.turn_lock.specs.Answers.{events_of}
use Rattle.turn_lock.specs.Rule.{Events, HasOwn, StartsWith}
use Rattle.conn_server.specs.Made.{IsTickEnd, told_of}

-- The entry is that of a Tick that was made: it was taken, or refused since the history is full.
abbrev pub IsTick : Asked → Type 0
IsTick entry = (entry.ask ≡ Tick) × IsTickEnd entry.end

-- The hand has number 0 and was given no invocation. It was told nothing before and had no numbers, and was then told what these entries withdrew,
-- each object once, and nothing else.
pub record HasTold {H : Type 0} (shown : H → WorkerState) (moves : States → Call → States → Type 0) (entries : List Asked) (hand : H) : Type 0 where
  pub number : (shown hand).number ≡ 0
  pub uninvoked : (shown hand).calls ≡ 0
  pub seen_before : Option (List Call)
  pub state_before : Option States
  pub untold : IsUntold seen_before
  pub uncounted : IsUncounted state_before
  pub seen : TellsMore seen_before (flat_map told_of entries) (shown hand).seen
  pub state : LeadsStates moves state_before (flat_map told_of entries) (shown hand).state

-- The same where there is a hand. Where there is none, there are no entries.
abbrev pub HaveTold : {H : Type 0} → (H → WorkerState) → (States → Call → States → Type 0) → List Asked → Option H → Type 0
HaveTold shown moves entries None = entries ≡ []
HaveTold shown moves entries (Some hand) = HasTold shown moves entries hand

-- ---- the course of a server's own turns

-- A Tick before a link; a Tick at a look at the clock; a look at this moment at which no Tick was due; or a look at this moment at which a Tick was due and was
-- missed, since there was no memory for the hand, for the entry or for the Tick.
pub data Step : Type 0 where
  link_tick : Asked → Step
  quiet_tick : Asked → Step
  without_tick : ℕ → Step
  missed_tick : ℕ → Step

-- The entry of a step before a link.
abbrev pub link_entry : Step → List Asked
link_entry (link_tick entry) = entry ∷ []
link_entry (quiet_tick entry) = []
link_entry (without_tick moment) = []
link_entry (missed_tick moment) = []

-- The entry of a step at a look.
abbrev pub look_entry : Step → List Asked
look_entry (link_tick entry) = []
look_entry (quiet_tick entry) = entry ∷ []
look_entry (without_tick moment) = []
look_entry (missed_tick moment) = []

-- The entry of a step, of either kind.
abbrev pub step_entry : Step → List Asked
step_entry (link_tick entry) = entry ∷ []
step_entry (quiet_tick entry) = entry ∷ []
step_entry (without_tick moment) = []
step_entry (missed_tick moment) = []

-- The moment of a look.
abbrev pub look_moment : Step → List ℕ
look_moment (link_tick entry) = []
look_moment (quiet_tick entry) = entry.moment ∷ []
look_moment (without_tick moment) = moment ∷ []
look_moment (missed_tick moment) = moment ∷ []

-- The moment of a look at which a Tick was missed.
abbrev pub missed_moment : Step → List ℕ
missed_moment (link_tick entry) = []
missed_moment (quiet_tick entry) = []
missed_moment (without_tick moment) = []
missed_moment (missed_tick moment) = moment ∷ []

-- What holds of each step, and of the entries of the server's own turns before it, the first of which are these.
abbrev pub EachBehind : (List Asked → Step → Type 0) → List Asked → List Step → Type 0
EachBehind P made [] = Unit {0}
EachBehind P made (step ∷ more) = P made step × EachBehind P (made ++ step_entry step) more

-- The history begins the later one and goes on from the opening. Of the server's own turns it has just those with these entries.
pub record WasSeen (opening : SpaceHistory) (events : Events) (made : List Asked) (seen : Events) : Type 0 where
  pub begins : StartsWith events seen
  pub own : HasOwn opening.events 0 (events_of 0 made) seen

-- Nothing had ended at the moment: by a history that had just these turns of the server, a Tick then changes nothing and tells nothing as gone.
abbrev pub WasIdle : SpaceHistory → Events → List Asked → ℕ → Type 0
WasIdle opening events made moment = (seen : Events) × WasSeen opening events made seen
    × TickChangesNothing opening.configuration seen moment × (untold_of opening.configuration seen ≡ [])

-- Something had ended at the moment: by a history that had just these turns of the server, a lease or a wait has ended, or objects are still to be told as gone.
abbrev pub WasDue : SpaceHistory → Events → List Asked → ℕ → Type 0
WasDue opening events made moment = (seen : Events) × WasSeen opening events made seen
    × (SomethingEnds opening.configuration seen moment ⊎ (0 < length (untold_of opening.configuration seen)))

-- A Tick at a look was made, or missed, only where something had ended. A look has neither only where nothing had.
abbrev pub IsStep : SpaceHistory → Events → List Asked → Step → Type 0
IsStep opening events made (link_tick entry) = Unit {0}
IsStep opening events made (quiet_tick entry) = IsTick entry × WasDue opening events made entry.moment
IsStep opening events made (without_tick moment) = WasIdle opening events made moment
IsStep opening events made (missed_tick moment) = WasDue opening events made moment

-- A server's own turns have these entries, in their order: those of the Ticks before its links, and those of its looks at a clock. The latter are Ticks at moments
-- of the clock at which something had ended. At the other moments that the clock gave no Tick was made: nothing had ended then, or something had and the Tick was
-- missed. The server counts each look at which one was missed, and no other. The server's own hand, if it has one, was told what the Ticks at looks withdrew. For each answer of the
-- listener that no link came, or that it was not told to stop, the clock was looked at: so often at least as the listener's count of these answers rose.
pub record TicksQuietly {H : Type 0} (shown : H → WorkerState) (moves : States → Call → States → Type 0) (opening : SpaceHistory) (events : Events) (missed : ℕ) (gave_first gave_last : Option (List ℕ)) (quiets_first quiets_last : ℕ) (before_links ticks : List Asked) (hand : Option H) : Type 0 where
  pub course : List Step
  pub links : flat_map link_entry course ≡ before_links
  pub made : flat_map step_entry course ≡ ticks
  pub each : EachBehind (IsStep opening events) [] course
  pub told : HaveTold shown moves (flat_map look_entry course) hand
  pub gave : Gave gave_first gave_last (flat_map look_moment course)
  pub asked : quiets_last ≤ quiets_first + length (flat_map look_moment course)
  pub missed_are : missed ≡ min (length (flat_map missed_moment course)) (2 ^ 64 - 1)

-- A Tick was made at this moment, with this entry, and the hand of number 0 was told what it withdrew; or none was made, and the hand was told nothing.
abbrev pub MakesTick : {H : Type 0} → (H → WorkerState) → (States → Call → States → Type 0) → ℕ → Bool → List Asked → List Asked → Option H → Option H → Type 0
MakesTick shown moves moment true ticks ticks_after own own_after =
    (entry : Asked) × IsTick entry × (entry.moment ≡ moment) × (ticks_after ≡ ticks ++ entry ∷ [])
    × ((entries : List Asked) → HaveTold shown moves entries own → HaveTold shown moves (entries ++ entry ∷ []) own_after)
MakesTick shown moves moment false ticks ticks_after own own_after =
    (ticks_after ≡ ticks) × ((entries : List Asked) → HaveTold shown moves entries own → HaveTold shown moves entries own_after)
