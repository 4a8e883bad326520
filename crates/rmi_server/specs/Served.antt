-- What serving a service leaves.
use Rattle.std.specs.Prelude.{◌≡◌, ◌⊎◌, ◌+◌, ◌^◌, ℕ, Bool, false, [], List, length, Option, None, Result}
use Rattle.wire_io.specs.Links.{Accepted, Listening}
use Rattle.wire_io.specs.Wire.{ReadHalf, WriteHalf, Rose}
use Rattle.space.specs.Built.{SpaceHistory}
use Rattle.space.specs.EventLists.{CollectsEach}
use Rattle.space.specs.declared.asked.Asked.{Asked}
use Rattle.conn_server.specs.Hosts.{FailedSince, HostsLinks}
use Rattle.conn_server.specs.Reports.{IsLinkOf, ServesLinks}
use Rattle.conn_server.specs.Stops.{IsLostLink}
use Rattle.conn_server.specs.Taken.{Taken}
use Rattle.conn_server.specs.declared.accept_loop.Stop.TheVariants.{All, Told, AcceptFault, OutOfMemory}
use Rattle.conn_server.specs.declared.host_loop.TheConstants.{MAX_IDLE_TRIES}
use Rattle.conn_server.specs.declared.link_task.LinkReport.{LinkReport}
use Rattle.conn_server.specs.declared.plan.TheConstants.{LAST_NUMBER}
use Rattle.conn_server.specs.declared.server.Hosted.{Hosted}
use Rattle.conn_server.specs.declared.server.Report.{Report}
use Rattle.conn_server.specs.declared.taker.DropsReports.{DropsReports}
use Rattle.method_hash.specs.declared.method.Method.{Method}
use Rattle.call_dispatch.specs.Acts.{WorkerState, Call, States}
use Rattle.call_dispatch.specs.declared.outcome.Invocation.{Invocation}
use Rattle.rmi_server.specs.Fits.{May}
use Rattle.rmi_server.specs.Opens.{opened_events}
use Rattle.rmi_server.specs.Sites.{config_of, plan_of}
use Rattle.rmi_server.specs.declared.crew.ServiceHand.{ServiceHand}
use Rattle.rmi_server.specs.declared.fault.CallFault.{CallFault}
use Rattle.rmi_server.specs.declared.hosting.Door.{Door}
use Rattle.rmi_server.specs.declared.reply.Reply.{Reply}
use Rattle.rmi_server.specs.declared.site.Site.{Site}

-- What a hand of a service tells: its connection's number and how many calls it was given, and neither its calls nor what the service keeps.
abbrev pub shown_by : {R S : Type 0} → ServiceHand R S → WorkerState
shown_by = λ hand. record { calls = hand.calls; seen = None; state = None; number = hand.by }

-- A hand tells no state, so no call moves one.
abbrev pub MovesNone : States → Call → States → Type 0
MovesNone = λ before call after. before ≡ after

-- What a taker was given that drops all reports. It never lacks room.
abbrev pub dropped_by : {R : Type 0} → DropsReports R → Taken R
dropped_by = λ d. record { reports = d.reports; ticks = d.ticks; events = d.events; report_limit = length d.reports + 2 ^ 64; tick_limit = length d.ticks + 2 ^ 64 }

-- What is told of a link whose calls a hand of a service does, of a server of so many connections. Each outcome is that of an answer that the service may
-- give to its call.
abbrev pub IsServiceLink : {I O T R S : Type 0} → (Invocation → Method → Result Reply CallFault → Type 0) → (I → ReadHalf) → (O → WriteHalf) → (T → Option (List ℕ)) → Site → ℕ → ℕ → Accepted × Asked → LinkReport I O T (ServiceHand R S) → Type 0
IsServiceLink may_answer read_half write_half given site count = IsLinkOf read_half write_half given shown_by (May may_answer) MovesNone site.kinds (plan_of site count)

-- The space that a site's server begins with: it keeps to the site's rules, and exports the site's objects, numbered from 16 on in
-- their order, each bound to its name. It keeps all that happens or not.
abbrev pub IsOpening : Site → Bool → SpaceHistory → Type 0
IsOpening site stored opening = (opening.configuration ≡ config_of site.seed stored) × (opening.events ≡ opened_events opening.configuration.uid 0 site.names.now)

-- Links that a listener gave were served over the space that the site's server begins with, and this is the report of them.
abbrev pub IsServedBy : {I O T R S : Type 0} → (Invocation → Method → Result Reply CallFault → Type 0) → (I → ReadHalf) → (O → WriteHalf) → (T → Option (List ℕ)) → Site → Listening → Listening → Report I O T (ServiceHand R S) → Type 0
IsServedBy may_answer read_half write_half given site before after report =
    (opening : SpaceHistory) × IsOpening site site.stored opening
    × ServesLinks (IsServiceLink may_answer read_half write_half given site site.links) (IsLostLink read_half write_half given) opening site.links before.accepted after.accepted report

-- The report says that the listener was given up only where it failed.
abbrev pub GaveUp : {L I O T H : Type 0} → (L → Listening) → L → L → Report I O T H → Type 0
GaveUp listening before after report = report.stop ≡ AcceptFault → Rose (listening before).faults (listening after).faults

-- Where the listener did not fail, all links were served, or memory lacked.
abbrev pub ServedAll : {L I O T H : Type 0} → (L → Listening) → L → L → Report I O T H → Type 0
ServedAll listening before after report = ¬ Rose (listening before).faults (listening after).faults → (report.stop ≡ All) ⊎ (report.stop ≡ OutOfMemory)

-- What a door shows: what its listener does, and the moments that its clock gave, where it tells them.
pub record DoorShown : Type 0 where
  pub listening : Listening
  pub given : Option (List ℕ)

abbrev pub door_shown : {L Q : Type 0} → (L → Listening) → (Q → Option (List ℕ)) → Door L Q → DoorShown
door_shown listening given door = record { listening = listening door.listener; given = given door.ticks }

-- Links were hosted over the space that the site's server begins with, which does not keep what happens, and this is left: as many as there are numbers of
-- connections, or fewer. The door shows this before, and that after.
abbrev pub IsHostedBy : {I O T R S : Type 0} → (Invocation → Method → Result Reply CallFault → Type 0) → (I → ReadHalf) → (O → WriteHalf) → (T → Option (List ℕ)) → Site → DoorShown → DoorShown
    → Hosted I O T (DropsReports (LinkReport I O T (ServiceHand R S))) (ServiceHand R S) → Type 0
IsHostedBy may_answer read_half write_half given site before after hosted =
    (opening : SpaceHistory) × IsOpening site false opening
    × HostsLinks (IsServiceLink may_answer read_half write_half given site LAST_NUMBER) (IsLostLink read_half write_half given) shown_by MovesNone dropped_by
    opening LAST_NUMBER before.listening after.listening before.given after.given hosted

-- The listener was given up only where it failed more than MAX_IDLE_TRIES times since it last answered.
abbrev pub GaveUpLate : {L I O T C H : Type 0} → (L → Listening) → L → L → Hosted I O T C H → Type 0
GaveUpLate listening before after hosted = hosted.stop ≡ AcceptFault → FailedSince listening (MAX_IDLE_TRIES + 1) (listening before) (listening after)

-- Where the listener did not fail, it was told to stop, or all numbers of connections were used, or memory lacked.
abbrev pub RanToItsEnd : {L I O T C H : Type 0} → (L → Listening) → L → L → Hosted I O T C H → Type 0
RanToItsEnd listening before after hosted =
    ¬ Rose (listening before).faults (listening after).faults → (hosted.stop ≡ Told) ⊎ ((hosted.stop ≡ All) ⊎ (hosted.stop ≡ OutOfMemory))

-- ---- what is left of the objects

-- The space keeps to the site's rules.
abbrev pub KeepsTo : Site → Bool → SpaceHistory → Type 0
KeepsTo site stored space = space.configuration ≡ config_of site.seed stored

-- At each event of its history the collector kept what there was a reason to keep, and withdrew the rest.
abbrev pub CollectedEach : SpaceHistory → Type 0
CollectedEach space = CollectsEach space.configuration [] [] space.events space.events space.rows
