-- What `rmi host` does.
use Rattle.std.specs.Prelude.{◌≡◌, ◌≢◌, ◌≤◌, ℕ, Bool, true, false, pos, ◌⊎◌, List, [], ◌∷◌, ◌++◌, length, map, Option, Some, None, IfSome}
use Rattle.std.specs.List.{AllByRecursion}
use Rattle.mod_utf.specs.Utf.{utf}
use Rattle.wire_io.specs.Links.{Listening, with_next}
use Rattle.wire_io.specs.Wire.{ReadHalf, WriteHalf}
use Rattle.wire_io.specs.declared.limits.TheConstants.{MAX_HOST_BYTES}
use Rattle.history.specs.declared.asks.Event.{Event}
use Rattle.history.specs.declared.asks.SpaceConfig.{SpaceConfig}
use Rattle.journal.specs.Written.{config_text, event_line, journal_text, with_line_end}
use Rattle.space.specs.Built.{SpaceHistory}
use Rattle.space.specs.Standing.{standing}
use Rattle.turn_lock.specs.Handles.{IsFresh, keeps_events, opening_of}
use Rattle.call_dispatch.specs.Acts.{WorkerState}
use Rattle.sample_app.specs.Does.{Moves}
use Rattle.sample_app.specs.Kinds.{sample_kinds}
use Rattle.sample_app.specs.declared.crew.SampleHand.{SampleHand}
use Rattle.conn_server.specs.Hosts.{ClosedLast, HostsLinks}
use Rattle.conn_server.specs.Stops.{IsLostLink}
use Rattle.conn_server.specs.declared.link_task.LinkReport.{LinkReport}
use Rattle.conn_server.specs.declared.plan.TheConstants.{LAST_NUMBER}
use Rattle.conn_server.specs.declared.plan.ServePlan.{ServePlan}
use Rattle.conn_server.specs.declared.server.Hosted.{Hosted}
use Rattle.rmi_cli.specs.Desk.{IsTimed, taken_of, told_lines}
use Rattle.rmi_cli.specs.Line.{status_of_run}
use Rattle.rmi_cli.specs.LinkLine.{listening_line}
use Rattle.rmi_cli.specs.Opening.{hosted_opening, hosted_space}
use Rattle.rmi_cli.specs.ServedLinks.{IsSampleLink, ListensAt, Printed, end_after}
use Rattle.rmi_cli.specs.Sinks.{Goes, Wrote, joined}
use Rattle.rmi_cli.specs.Told.{Reported, Took, told_line}
use Rattle.rmi_cli.specs.declared.end.RunEnd.{RunEnd}
use Rattle.rmi_cli.specs.declared.end.RunEnd.TheVariants.{Done, ListenFault, WriteFault, OutOfMemory}
use Rattle.rmi_cli.specs.declared.host_desk.Given.{Given}
use Rattle.rmi_cli.specs.declared.host_parts.HostParts.{HostParts}
use Rattle.rmi_cli.specs.declared.sink_state.SinkState.{SinkState}
use Rattle.rmi_cli.specs.declared.sink_state.SinkState.TheVariants.{Whole, Failed, Lost}
use Rattle.rmi_words.specs.declared.host_words.HostWords.{HostWords}
use Rattle.rmi_words.specs.declared.host_words.Record.{Record}
use Rattle.rmi_words.specs.declared.host_words.Record.TheVariants.{Silent, Journal}

-- ---- what a run of `host` begins with

-- What the server is told, by the seed and the words: references name the host and the port that the words say.
abbrev pub host_plan : List ℕ → HostWords → ServePlan
host_plan seed host = record { count = LAST_NUMBER; host = host.host; port = pos host.port; binding = host.options.binding; seed = seed }

-- With what the output begins: the journal of the opening, where events are recorded.
abbrev pub first_text : Record → SpaceHistory → List ℕ
first_text Silent opening = []
first_text Journal opening = journal_text opening.configuration opening.events

-- Whether events are printed as they are made.
abbrev pub is_recorded : Record → Bool
is_recorded Silent = false
is_recorded Journal = true

-- The parts are those that the seed and the words give. The lock keeps events for the output exactly where they are printed.
pub record ArePartsOf {R : Type 0} (seed : List ℕ) (host : HostWords) (parts : HostParts R) : Type 0 where
  pub address : parts.address ≡ host.address
  pub port : parts.port ≡ host.port
  pub plan : parts.plan ≡ host_plan seed host
  pub opening : opening_of parts.lock ≡ hosted_opening seed host.options
  pub recording : parts.recording ≡ host.output
  pub space : parts.space ≡ (hosted_space seed host.options).uid
  pub first : parts.first ≡ first_text host.output (hosted_opening seed host.options)
  pub records : keeps_events parts.lock ≡ is_recorded host.output

-- The lock is fresh, the book is the sample's, and the plan's host is one that references can name.
pub record AreReady {R : Type 0} (parts : HostParts R) : Type 0 where
  pub fresh : IsFresh parts.lock parts.root
  pub book : parts.book ≡ sample_kinds
  pub short : length (utf parts.plan.host) ≤ MAX_HOST_BYTES

-- ---- what it does

-- What a run of `host` meets: what the listener shows, the moments that the clock gave, where it tells them, and the output.
pub record HostSide : Type 0 where
  pub listening : Listening
  pub given : Option (List ℕ)
  pub output : WriteHalf

abbrev pub host_side : Listening → Option (List ℕ) → WriteHalf → HostSide
host_side listening given output = record { listening = listening; given = given; output = output }

-- What was served where a desk is given the reports and the events.
abbrev pub HostServed : Type 0 → Type 0 → Type 0 → Type 0 → Type 0
HostServed I O T R = Hosted I O T (Given (LinkReport I O T (SampleHand R))) (SampleHand R)

-- what a hand of the sample tells
abbrev pub hand_shown : {R : Type 0} → SampleHand R → WorkerState
hand_shown hand = record { calls = hand.calls; seen = None; state = None; number = hand.by }

-- Links were served over the sample's space, from what the listener showed and the moments that the clock had given to what they show at the end,
-- by what the links' sources, sinks and clocks show.
abbrev pub HostsFrom : {I O T R : Type 0} → (I → ReadHalf) → (O → WriteHalf) → (T → Option (List ℕ)) → List ℕ → HostWords → Listening → Listening → Option (List ℕ) → Option (List ℕ) → HostServed I O T R → Type 0
HostsFrom read_half write_half given seed host before after gave_first gave_last served =
    HostsLinks (IsSampleLink read_half write_half given (host_plan seed host)) (IsLostLink read_half write_half given) hand_shown Moves taken_of
    (hosted_opening seed host.options) LAST_NUMBER before after gave_first gave_last served

-- A listener listens at the words' address and port, and nowhere else besides. It gave no link meanwhile, was not asked to, and did not fail.
pub record Listened (host : HostWords) (old heard : Listening) : Type 0 where
  pub ports : heard.ports ≡ with_next old.ports (host.address, host.port)
  pub accepted : heard.accepted ≡ old.accepted
  pub faults : heard.faults ≡ old.faults
  pub same_told : heard.told ≡ old.told
  pub quiets : heard.quiets ≡ old.quiets
  pub accepts : heard.accepts ≡ old.accepts

-- The same from one side to the other, once the listener listens.
abbrev pub HostsSample : {I O T R : Type 0} → (I → ReadHalf) → (O → WriteHalf) → (T → Option (List ℕ)) → List ℕ → HostWords → HostSide → HostSide → HostServed I O T R → Type 0
HostsSample read_half write_half given seed host old new served =
    (heard : Listening) × Listened host old.listening heard × HostsFrom read_half write_half given seed host heard new.listening old.given new.given served

-- The lines of a journal. Together they are `journal_text` (`lines_of_journal` in proofs/Hosting.antt).
abbrev pub journal_lines : SpaceConfig → List Event → List (List ℕ)
journal_lines config events = with_line_end (config_text config) ∷ map (event_line config.uid) events

-- How the output ends where events are recorded: all of the journal was written; or less, for the output failed, or for want of memory.
abbrev pub end_of_record : SinkState → Bool → RunEnd
end_of_record Whole true = Done
end_of_record Whole false = OutOfMemory
end_of_record Failed whole = WriteFault
end_of_record Lost whole = OutOfMemory

-- How the run ends by how its output does: where all was printed, and the server missed a Tick for want of memory, that want is told.
abbrev pub after_ticks : Bool → RunEnd → RunEnd
after_ticks true Done = OutOfMemory
after_ticks _ printed = printed

-- What was printed. Where events aren't recorded, it is what stands of the space that is left. Else it is the journal of the opening and of the events
-- that were handed on, which are all events of the one history where the server says so. Where the output failed, it is a front of that journal. Where
-- memory lacked, it is the lines before one.
abbrev pub HostPrinted : {I O T R : Type 0} → Record → SpaceHistory → WriteHalf → WriteHalf → HostServed I O T R → RunEnd → Type 0
HostPrinted Silent opening old new served printed =
    Printed old.held new.held old.faults new.faults (standing served.space.configuration served.space.events) printed
HostPrinted Journal opening old new served printed =
    (state : SinkState)
    × Wrote old.held new.held old.faults new.faults (journal_lines opening.configuration (opening.events ++ served.taker.events)) state
    × (printed ≡ end_of_record state served.whole)

-- How the run ends by what was served: where nothing was, the port could not be listened on, or there was no memory; nothing was written then.
-- Else it ends as printing, missed Ticks and the stop say.
abbrev pub HostEnds : {I O T R : Type 0} → Record → SpaceHistory → WriteHalf → WriteHalf → Option (HostServed I O T R) → RunEnd → Type 0
HostEnds recording opening old new None end = ((end ≡ ListenFault) ⊎ (end ≡ OutOfMemory)) × (new.held ≡ old.held)
HostEnds recording opening old new (Some served) end =
    (printed : RunEnd) × HostPrinted recording opening old new served printed × (end ≡ end_after served.stop (after_ticks served.tick_missed printed))

-- How the output is closed that is in this state: where events aren't recorded, what stands is printed; else nothing more is. The run ends as that,
-- missed Ticks and the stop say.
abbrev pub IsClosed : {I O T C H : Type 0} → Record → WriteHalf → WriteHalf → SinkState → Hosted I O T C H → RunEnd → Type 0
IsClosed Silent old new state served end =
    (printed : RunEnd) × Printed old.held new.held old.faults new.faults (standing served.space.configuration served.space.events) printed
    × (end ≡ end_after served.stop (after_ticks served.tick_missed printed))
IsClosed Journal old new state served end =
    (new ≡ old) × (end ≡ end_after served.stop (after_ticks served.tick_missed (end_of_record state served.whole)))

-- The time of each link that has ended is one between two moments.
abbrev pub AreHostTimed : {I O T R : Type 0} → (T → Option (List ℕ)) → HostServed I O T R → Type 0
AreHostTimed given served = AllByRecursion (IsTimed given served.taker.ticks) served.taker.reports

-- A run of `host` by its seed and words, from one side to the other, by what its links' sources, sinks and clocks show. Events were recorded exactly where they
-- are printed.
pub record Hosts {I O T : Type 0} (R : Type 0) (read_half : I → ReadHalf) (write_half : O → WriteHalf) (given : T → Option (List ℕ)) (seed : List ℕ) (host : HostWords) (old new : HostSide) (end : RunEnd) : Type 0 where
  pub served : Option (HostServed I O T R)
  pub alone : ListensAt host.address host.port old.listening new.listening served
  pub links : IfSome served (HostsSample read_half write_half given seed host old new)
  pub times : IfSome served (AreHostTimed given)
  pub recorded : IfSome served (λ s. s.recorded ≡ is_recorded host.output)
  pub ends : HostEnds host.output (hosted_opening seed host.options) old.output new.output served end

-- The listener was closed last, or was left as open as it was.
abbrev pub ClosesLast : {L : Type 0} → (L → Listening) → L → L → Type 0
ClosesLast listening old new = ((listening new).closed ≡ (listening old).closed) ⊎ ClosedLast listening (listening old) (listening new)

-- ---- what is told

-- The lines before the end's: where the port was listened on, that it was, and a line for each link that has ended, in the order in which the desk was
-- given their reports. A line says what the link's report says, and how many milliseconds the link took.
abbrev pub host_lines : {I O T R : Type 0} → HostWords → Option (HostServed I O T R) → List (List ℕ)
host_lines host None = []
host_lines host (Some served) = listening_line host.address host.port ∷ told_lines served.taker.reports

-- The same run, whose lines the errors' sink was given; it is in this state.
abbrev pub HostsTelling : {I O T : Type 0} → Type 0 → (I → ReadHalf) → (O → WriteHalf) → (T → Option (List ℕ)) → List ℕ → HostWords → HostSide → HostSide → WriteHalf → WriteHalf → SinkState → RunEnd → Type 0
HostsTelling R read_half write_half given seed host old new errors errors_after told end =
    (hosts : Hosts R read_half write_half given seed host old new end) × Goes errors errors_after (host_lines host hosts.served) Whole told

-- The status is the end's. The errors' sink took the lines and the end's line, or failed after a front of them.
abbrev pub TellsAll : Reported → List (List ℕ) → RunEnd → Type 0
TellsAll told lines end = (told.status ≡ status_of_run end) × Took told (joined lines ++ told_line end)

-- There was no memory for the end's line, which is not that all was done, or for one of the lines before it. The status and the last line tell that.
-- The errors' sink took the lines before the one that was lost, each as a whole, and the last line, or failed after a front of them.
pub record TellsWanting (told : Reported) (lines : List (List ℕ)) (end : RunEnd) : Type 0 where
  pub status : told.status ≡ status_of_run OutOfMemory
  pub written : List (List ℕ)
  pub lost : List (List ℕ)
  pub lines_are : lines ≡ written ++ lost
  pub took : Took told (joined written ++ told_line OutOfMemory)
  pub cause : (end ≢ Done) ⊎ (lost ≢ [])

-- So an end is told.
abbrev pub TellsHost : Reported → List (List ℕ) → RunEnd → Type 0
TellsHost told lines end = TellsAll told lines end ⊎ TellsWanting told lines end

-- A run of `host` to an end, which is told behind the lines of its links.
pub record Hosting {I O T : Type 0} (R : Type 0) (read_half : I → ReadHalf) (write_half : O → WriteHalf) (given : T → Option (List ℕ)) (seed : List ℕ) (host : HostWords) (old new : HostSide) (told : Reported) : Type 0 where
  pub end : RunEnd
  pub hosts : Hosts R read_half write_half given seed host old new end
  pub tells : TellsHost told (host_lines host hosts.served) end
