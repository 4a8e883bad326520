-- What the desk of `host` was given, and what it writes of that.
use Rattle.std.specs.Prelude.{◌≡◌, ◌+◌, ◌-◌, ◌^◌, ℕ, List, [], ◌∷◌, length, map, Contains, Option, None, Some, IfSome}
use Rattle.std.specs.List.{AllByRecursion}
use Rattle.std.specs.List.Sorted.{IsPermutation}
use Rattle.wire_io.specs.Wire.{ReadHalf, WriteHalf, Gave}
use Rattle.object_ids.specs.declared.ids.Uid.{Uid}
use Rattle.history.specs.declared.asks.Event.{Event}
use Rattle.journal.specs.Written.{event_line}
use Rattle.space.specs.declared.asked.Asked.{Asked}
use Rattle.conn_server.specs.Taken.{Taken}
use Rattle.conn_server.specs.declared.link_task.LinkReport.{LinkReport}
use Rattle.rmi_cli.specs.LinkLine.{link_line}
use Rattle.rmi_cli.specs.declared.host_desk.Given.{Given}
use Rattle.rmi_cli.specs.declared.host_desk.LinkStart.{LinkStart}
use Rattle.rmi_cli.specs.declared.host_desk.TimedReport.{TimedReport}
use Rattle.rmi_cli.specs.declared.link_line.EndedLink.{EndedLink}
use Rattle.rmi_cli.specs.declared.sink_state.SinkState.{SinkState}
use Rattle.rmi_words.specs.declared.host_words.Record.{Record}
use Rattle.rmi_words.specs.declared.host_words.Record.TheVariants.{Silent, Journal}

-- ---- what it was given

-- The reports, the entries and the events that it was given, of which it keeps none. There is room for any number.
abbrev pub taken_of : {R : Type 0} → Given R → Taken R
taken_of given = record {
  reports = map (λ t. t.report.value) given.reports;
  ticks = given.ticks;
  events = given.events;
  report_limit = length given.reports + 2 ^ 64;
  tick_limit = length given.ticks + 2 ^ 64;
}

-- ---- what it writes

-- The lines that are printed of events as they are made, in the journal of the space of this identifier, or none.
abbrev pub recorded_lines : Record → Uid → List Event → List (List ℕ)
recorded_lines Silent space events = []
recorded_lines Journal space events = map (event_line space) events

-- What is told of a link that has ended, by its report and the milliseconds that it took.
abbrev pub link_with : {I O T H : Type 0} → LinkReport I O T H → ℕ → EndedLink
link_with report taken = record {
  number = report.by;
  host = report.peer_host;
  port = report.peer_port;
  end = report.end;
  calls = report.calls;
  milliseconds = taken;
}

-- The milliseconds from one moment to another: 0 where the first isn't known, or is the later one.
abbrev pub milliseconds : Option ℕ → ℕ → ℕ
milliseconds None ended = 0
milliseconds (Some begun) ended = ended - begun

-- The same by its report and the moments of its time.
abbrev pub ended_link : {I O T H : Type 0} → TimedReport (LinkReport I O T H) → EndedLink
ended_link t = link_with t.report.value (milliseconds t.begun t.ended)

abbrev pub timed_line : {I O T H : Type 0} → TimedReport (LinkReport I O T H) → List ℕ
timed_line t = link_line (ended_link t)

-- A line for each link that has ended, in the order in which the reports were given.
abbrev pub told_lines : {I O T H : Type 0} → List (TimedReport (LinkReport I O T H)) → List (List ℕ)
told_lines reports = map timed_line reports

-- ---- the time of a link

-- The moment of one of these entries, which are those of the server's own turns.
abbrev pub IsOwnMoment : List Asked → ℕ → Type 0
IsOwnMoment ticks moment = (entry : Asked) × Contains ticks entry × (entry.moment ≡ moment)

-- The time of a link begins at the moment of one of the server's own turns, where that is known, and ends at the moment that its clock gave next behind
-- those of its report.
pub record IsTimed {I O T H : Type 0} (given : T → Option (List ℕ)) (ticks : List Asked) (t : TimedReport (LinkReport I O T H)) : Type 0 where
  pub begun : IfSome t.begun (IsOwnMoment ticks)
  pub ended : Gave (given t.report.value.clock) (given t.left.value.clock) (t.ended ∷ [])

-- So is each link that has ended, and so is each start that a desk keeps.
pub record AreTimed {I O T H : Type 0} (given : T → Option (List ℕ)) (last : Option ℕ) (starts : List LinkStart) (ticks : List Asked) (reports : List (TimedReport (LinkReport I O T H))) : Type 0 where
  pub last_is : IfSome last (IsOwnMoment ticks)
  pub starts_are : AllByRecursion (λ start. IsOwnMoment ticks start.moment) starts
  pub reports_are : AllByRecursion (IsTimed given ticks) reports

-- A start with this moment was taken out of a list, or none was.
abbrev pub TakesStart : List LinkStart → Option ℕ → List LinkStart → Type 0
TakesStart before None after = after ≡ before
TakesStart before (Some moment) after = (start : LinkStart) × (start.moment ≡ moment) × IsPermutation before (start ∷ after)

-- ---- what no call changes

-- What a desk writes of events, its sinks by the names of their borrows, and what these showed and how they stood when it was made.
pub record DeskStays : Type 0 where
  pub recording : Record
  pub space : Uid
  pub output : ℕ
  pub errors : ℕ
  pub first_output : WriteHalf
  pub first_errors : WriteHalf
  pub first_printed : SinkState
  pub first_told : SinkState
