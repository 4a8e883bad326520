-- How the task of a link comes from the link that was accepted, and from the server's turn before it.
use Rattle.std.specs.Prelude.{◌≡◌, ℕ, List, [], ◌∷◌, ◌<◌, ◌≤◌, ℤ, pos, ◌<ℤ◌, length, map, Option}
use Rattle.mod_utf.specs.Utf.{utf}
use Rattle.wire_io.specs.Links.{Accepted, accepted_as}
use Rattle.wire_io.specs.Wire.{ReadHalf, WriteHalf, AreNewHalves, Gave}
use Rattle.wire_io.specs.declared.limits.TheConstants.{MAX_HOST_BYTES}
use Rattle.object_ids.specs.declared.ids.ObjId.{ObjId}
use Rattle.history.specs.declared.asks.Ask.TheVariants.{Tick}
use Rattle.history.specs.declared.replies.Refused.TheVariants.{HistoryFull}
use Rattle.space.specs.declared.asked.Asked.{Asked}
use Rattle.space.specs.declared.asked.AskedEnd.{AskedEnd}
use Rattle.space.specs.declared.asked.AskedEnd.TheVariants.{Turned, Abandoned, Refused as Denied}
use Rattle.call_dispatch.specs.Acts.{WorkerState, Call, unreferenced, States, TellsMore, LeadsStates}
use Rattle.system_objects.specs.Terms.{terms_of}
use Rattle.system_objects.specs.declared.book.Kind.{Kind}
use Rattle.system_objects.specs.declared.setup.TheConstants.{DRAWS_BEGIN_BELOW}
use Rattle.call_dispatch.specs.Hands.{IsUntold, IsUncounted}
use Rattle.conn_server.specs.Plans.{link_terms}
use Rattle.conn_server.specs.declared.admission.HandAndSetup.{HandAndSetup}
use Rattle.conn_server.specs.declared.link_task.AdmittedLink.{AdmittedLink}
use Rattle.conn_server.specs.declared.plan.ServePlan.{ServePlan}

-- The objects that an entry tells as withdrawn.
abbrev pub gone_with : AskedEnd → List ObjId
gone_with (Turned turn) = turn.gone
gone_with _ = []

-- The calls by which a hand is told of them.
abbrev pub told_of : Asked → List Call
told_of entry = map unreferenced (gone_with entry.end)

-- A hand that was told nothing before, and had no numbers, tells this, after it was told what an entry tells as withdrawn, and that once.
abbrev pub WasTold : (States → Call → States → Type 0) → Option (List Call) → Option States → Asked → Type 0
WasTold moves seen state entry = (seen_before : Option (List Call)) × (state_before : Option States) × IsUntold seen_before × IsUncounted state_before × TellsMore seen_before (told_of entry) seen × LeadsStates moves state_before (told_of entry) state

-- What a listener tells of a link that was admitted, and the entry of the server's turn before it.
abbrev pub shown_admitted : {I O T H : Type 0} → (I → ReadHalf) → (O → WriteHalf) → (T → Option (List ℕ)) → AdmittedLink I O T H → Accepted × Asked
shown_admitted read_half write_half given admitted = (accepted_as read_half write_half given admitted.first.value, admitted.tick.value)

-- The entry was taken at a place below this one, or not taken.
abbrev pub IsTakenBelow : ℕ → AskedEnd → Type 0
IsTakenBelow place (Turned turn) = turn.place < place
IsTakenBelow place (Abandoned at_place) = at_place < place
IsTakenBelow place (Denied refused) = Unit {0}

-- The entries were taken at this place or behind it, or not taken.
abbrev pub IsTakenFrom : ℕ → AskedEnd → Type 0
IsTakenFrom place (Turned turn) = place ≤ turn.place
IsTakenFrom place (Abandoned at_place) = place ≤ at_place
IsTakenFrom place (Denied refused) = Unit {0}

abbrev pub AreTakenFrom : ℕ → List Asked → Type 0
AreTakenFrom place [] = Unit {0}
AreTakenFrom place (entry ∷ more) = IsTakenFrom place entry.end × AreTakenFrom place more

-- The entry was taken at a place below those of all these entries, as far as they were taken.
abbrev pub ComesBefore : Asked → List Asked → Type 0
ComesBefore entry entries = (place : ℕ) × IsTakenBelow place entry.end × AreTakenFrom place entries

-- The entry is that of a Tick that was made: it was taken, or refused since the history is full.
abbrev pub IsTickEnd : AskedEnd → Type 0
IsTickEnd (Turned turn) = Unit {0}
IsTickEnd (Denied refused) = refused ≡ HistoryFull
IsTickEnd (Abandoned place) = ⊥

-- A link was admitted for connection k, as it was accepted: nothing was read or written on it yet, and no half of it failed or was shut; its setup
-- is the plan's; a Tick was made at a moment of its clock, which gave no other; and its hand is that of connection k, and was told what that Tick
-- withdrew, and nothing else.
pub record IsMadeFor {I O T H : Type 0} (read_half : I → ReadHalf) (write_half : O → WriteHalf) (given : T → Option (List ℕ)) (shown : H → WorkerState)
    (moves : States → Call → States → Type 0) (plan : ServePlan) (k : ℕ) (admitted : AdmittedLink I O T H) : Type 0 where
  pub left_is : (read_half admitted.source).left ≡ (read_half admitted.first.value.source).left
  pub held_is : (write_half admitted.sink).held ≡ (write_half admitted.first.value.sink).held
  pub halves : AreNewHalves (read_half admitted.source) (write_half admitted.sink)
  pub peer_host : admitted.peer.host ≡ admitted.first.value.host
  pub peer_port : admitted.peer.port ≡ admitted.first.value.port
  pub terms : (kinds : List Kind) → terms_of kinds admitted.setup ≡ link_terms kinds plan k admitted.first.value.host admitted.first.value.port
  pub tick_asked : admitted.tick.value.ask ≡ Tick
  pub tick_end : IsTickEnd admitted.tick.value.end
  pub ticked : Gave (given admitted.first.value.clock) (given admitted.clock) (admitted.tick.value.moment ∷ [])
  pub hand : (shown admitted.hand).number ≡ k
  pub told : WasTold moves (shown admitted.hand).seen (shown admitted.hand).state admitted.tick.value

-- A hand is that of connection k, was given no invocation yet and told nothing, and has no numbers; and its setup is the plan's for connection k,
-- whose peer has this host and port.
pub record IsHandFor {H : Type 0} (shown : H → WorkerState) (plan : ServePlan) (k : ℕ) (peer : List ℕ) (port : ℤ) (ready : HandAndSetup H) : Type 0 where
  pub told : (shown ready.hand).calls ≡ 0
  pub untold : IsUntold (shown ready.hand).seen
  pub uncounted : IsUncounted (shown ready.hand).state
  pub hand : (shown ready.hand).number ≡ k
  pub terms : (kinds : List Kind) → terms_of kinds ready.setup ≡ link_terms kinds plan k peer port
  pub peer_host : length (utf ready.setup.peer_host) ≤ MAX_HOST_BYTES
  pub host : length (utf ready.setup.host) ≤ MAX_HOST_BYTES
  pub time : ready.setup.draw.time <ℤ pos DRAWS_BEGIN_BELOW
  pub drawn : ready.setup.draw.drawn ≡ 0
