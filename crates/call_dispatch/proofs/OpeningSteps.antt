-- The opening of a dialogue, over plain lists.
use Rattle.std.proofs.Common.{◌≡◌, ◌≢◌, ℕ, suc, zero, ◌+◌, ◌<◌, ◌≤◌, List, [], ◌∷◌, ◌++◌, length, take, Option, Ok, Err, refl, ◌∙◌, ap, sym, inl, inr, arith, append-nil, zero-add, length-append, ℤ}
use Rattle.wire_io.specs.Wire.{with_front-nothing, with_end-nothing}
use Rattle.wire_io.specs.Pulled.{PullState, Takes}
use Rattle.wire_io.specs.declared.limits.TheConstants.{LAST_POSITION}
use Rattle.mod_utf.specs.Utf.{utf}
use Rattle.jrmp_frames.specs.declared.header.Protocol.TheVariants.{Stream, SingleOp}
use Rattle.jrmp_frames.specs.Frames.{header_start, header, IsInHeader, IsEndpoint, IsInEndpoint, protocol_ack, protocol_not_supported}
use Rattle.jrmp_frames.specs.Gives.{GivesHeader, GivesEndpoint}
use Rattle.jrmp_frames.specs.declared.fault.FrameFault.{FrameFault}
use Rattle.jrmp_frames.specs.declared.fault.FrameFault.TheVariants.{BadHeader, UnknownProtocol, BadMessage, BadKind}
use Rattle.jrmp_frames.specs.declared.fault.FrameFault.TheVariants as frames
use Rattle.call_dispatch.specs.declared.outcome.Invocation.{Invocation}
use Rattle.call_dispatch.specs.declared.outcome.Outcome.{Outcome}
use Rattle.call_dispatch.specs.declared.end.ConnEnd.{ConnEnd}
use Rattle.call_dispatch.specs.declared.end.ConnEnd.TheVariants as ends
use Rattle.system_objects.specs.Terms.{Terms}
use Rattle.call_dispatch.specs.Acts.{Call, States, Observed}
use Rattle.call_dispatch.specs.ConnectionState.{ConnectionState, bytes_exchanged, bytes_taken, LeadsFrom}
use Rattle.call_dispatch.specs.Dialogue.{nothing, greeted, opened, stream, single_op}
use Rattle.call_dispatch.specs.Progress.{StandsWhole, Talked, Writes, Refuses, end_from}
use Rattle.call_dispatch.proofs.Going.{goes_exchanged, goes_took, goes_on}
use Rattle.call_dispatch.proofs.Steps.{spot_at, transcript_is, talks_on, talks_took, talks_cut, stands_nothing, stands_on, talks_in}

-- What begins the header is short.
in_header_short : (part : List ℕ) → IsInHeader part → length part ≤ 6
in_header_short part (more, is) = omega (arith, ap length is, length-append part more)

-- An endpoint is short.
pub endpoint_short : (bytes : List ℕ) → IsEndpoint bytes → length bytes ≤ 65541
endpoint_short [] is = absurd is
endpoint_short (high ∷ []) is = absurd is
endpoint_short (high ∷ low ∷ more) is = omega (arith, is.0, is.1, is.2)

in_endpoint_short : (part : List ℕ) → IsInEndpoint part → length part ≤ 65541
in_endpoint_short part (more, some, is) = omega (arith, endpoint_short (part ++ more) is, length-append part more)

-- The acknowledgement is short.
pub ack_short : (host : List ℕ) (port : ℤ) → length (protocol_ack host port) ≡ length (utf host) + 7
unfolding protocol_ack
ack_short host port = simp (length-append) (omega arith)

-- The connection ends in the header.
pub header_ends : (may : Invocation → Outcome → Type 0) (moves : States → Call → States → Type 0) (terms : Terms) (old new : PullState) (held : Option (List ℕ)) (side : Observed) (drawn : ℕ) (fault : FrameFault)
    → old.at ≡ 0 → old.stop ≡ LAST_POSITION → ((byte : ℕ) → fault ≢ UnknownProtocol byte) → GivesHeader old new (Err fault)
    → Talked may moves terms (spot_at old held side drawn) (spot_at new held side drawn) (end_from fault)
header_ends may moves terms old new held side drawn (BadHeader at) first last told (k, bytes, place, breaks, takes) =
    let same : k ≡ at = omega (arith, place, first) in
    talks_took may moves terms _ _ _ old.at 0 nothing bytes (ends.BadHeader at) (stands_nothing may moves terms _ old.at first) takes.left refl refl refl
    (refl, (bytes, rw same at breaks, refl))
header_ends may moves terms old new held side drawn (UnknownProtocol byte) first last told h = absurd (told byte refl)
header_ends may moves terms old new held side drawn (BadMessage byte at) first last told h = absurd h
header_ends may moves terms old new held side drawn (BadKind byte at) first last told h = absurd h
header_ends may moves terms old new held side drawn (frames.Stream fault) first last told h =
    talks_in may moves terms _ old new held side drawn 0 nothing IsInHeader fault (stands_nothing may moves terms _ old.at first) h
    (λ part inside. omega (arith, in_header_short part inside, first, last)) (λ part inside. (λ at is. inside, inl inside))

-- The header of the stream protocol and its acknowledgement stand.
pub stands_greeted : (may : Invocation → Outcome → Type 0) (moves : States → Call → States → Type 0) (terms : Terms) (start before now : ConnectionState) (at sent : ℕ)
    → LeadsFrom may moves start before (bytes_taken (header Stream)) → at ≡ 7 → now.wires.left ≡ before.wires.left → now.side ≡ before.side → now.drawn ≡ before.drawn
    → Writes before.wires.held now.wires.held 0 (protocol_ack terms.peer_host terms.peer_port) (Ok sent) → StandsWhole may moves terms start now at sent greeted
stands_greeted may moves terms start before now at sent goes place left side drawn (written, sents) =
    let answer : List ℕ = protocol_ack terms.peer_host terms.peer_port in
    let more = goes_exchanged may moves before now [] answer (sym left ∙ sym (with_front-nothing now.wires.left)) written side drawn in
    record {
      whole = tt;
      goes = goes_on may moves start before now (bytes_taken (header Stream)) (bytes_exchanged [] answer) goes more;
      position = place;
      count = sents ∙ zero-add (length answer);
    }

-- The acknowledgement of the stream protocol was cut.
pub greeting_cut : (may : Invocation → Outcome → Type 0) (moves : States → Call → States → Type 0) (terms : Terms) (start before now : ConnectionState) (end : ConnEnd)
    → LeadsFrom may moves start before (bytes_taken (header Stream)) → now.wires.left ≡ before.wires.left → now.side ≡ before.side → now.drawn ≡ before.drawn
    → Writes before.wires.held now.wires.held 0 (protocol_ack terms.peer_host terms.peer_port) (Err end) → Talked may moves terms start now end
greeting_cut may moves terms start before now end goes left side drawn (part, less, is, written) =
    let answer : List ℕ = protocol_ack terms.peer_host terms.peer_port in
    let more = goes_exchanged may moves before now [] (take part answer) (sym left ∙ sym (with_front-nothing now.wires.left)) written side drawn in
    rw is (talks_cut may moves terms start start now 0 0 part nothing (bytes_exchanged (header Stream) answer) (stands_nothing may moves terms start 0 refl)
    (inl (refl, refl)) less (goes_on may moves start before now (bytes_taken (header Stream)) (bytes_exchanged [] (take part answer)) goes more))

-- The whole opening of the stream protocol stands.
pub stands_opened : (may : Invocation → Outcome → Type 0) (moves : States → Call → States → Type 0) (terms : Terms) (start : ConnectionState) (old new : PullState) (held : Option (List ℕ)) (side : Observed) (drawn sent : ℕ) (endpoint : List ℕ)
    → StandsWhole may moves terms start (spot_at old held side drawn) old.at sent greeted → Takes old new endpoint → IsEndpoint endpoint
    → StandsWhole may moves terms start (spot_at new held side drawn) new.at sent (opened (stream endpoint) [])
stands_opened may moves terms start old new held side drawn sent endpoint stands takes is =
    stands_on may moves terms start _ _ old.at sent new.at sent greeted (opened (stream endpoint) []) (bytes_taken endpoint) stands (is, tt, omega arith)
    (transcript_is _ _ _ _ _ _ _ _ (append-nil (header Stream ++ endpoint)) refl refl refl) (goes_took may moves _ _ endpoint takes.left refl refl refl) takes.at (omega arith)

-- The connection ends in the client's endpoint.
pub endpoint_ends : (may : Invocation → Outcome → Type 0) (moves : States → Call → States → Type 0) (terms : Terms) (start : ConnectionState) (old new : PullState) (held : Option (List ℕ)) (side : Observed) (drawn sent : ℕ) (fault : FrameFault)
    → StandsWhole may moves terms start (spot_at old held side drawn) old.at sent greeted → old.at + 65541 < old.stop
    → GivesEndpoint {A = Unit {0}} old new (Err fault) → Talked may moves terms start (spot_at new held side drawn) (end_from fault)
endpoint_ends may moves terms start old new held side drawn sent (BadHeader at) stands room h = absurd h
endpoint_ends may moves terms start old new held side drawn sent (UnknownProtocol byte) stands room h = absurd h
endpoint_ends may moves terms start old new held side drawn sent (BadMessage byte at) stands room h = absurd h
endpoint_ends may moves terms start old new held side drawn sent (BadKind byte at) stands room h = absurd h
endpoint_ends may moves terms start old new held side drawn sent (frames.Stream fault) stands room h =
    talks_in may moves terms start old new held side drawn sent greeted IsInEndpoint fault stands h
    (λ part inside. omega (arith, in_endpoint_short part inside, room)) (λ part inside. (λ at is. inside, inl inside))

-- No memory was there for the acknowledgement.
pub memory_ends : (may : Invocation → Outcome → Type 0) (moves : States → Call → States → Type 0) (terms : Terms) (start now : ConnectionState) → LeadsFrom may moves start now (bytes_taken (header Stream)) → Talked may moves terms start now ends.OutOfMemory
memory_ends may moves terms start now goes =
    talks_on may moves terms start start now 0 0 nothing (bytes_taken (header Stream)) ends.OutOfMemory (stands_nothing may moves terms start 0 refl) goes
    (inl (header Stream, refl, inr refl, refl))

-- The header of the single-op protocol stands.
pub stands_single : (may : Invocation → Outcome → Type 0) (moves : States → Call → States → Type 0) (terms : Terms) (old new : PullState) (held : Option (List ℕ)) (side : Observed) (drawn : ℕ) → old.at ≡ 0 → Takes old new (header SingleOp)
    → StandsWhole may moves terms (spot_at old held side drawn) (spot_at new held side drawn) new.at 0 (opened single_op [])
stands_single may moves terms old new held side drawn first takes =
    stands_on may moves terms _ _ _ old.at 0 new.at 0 nothing (opened single_op []) (bytes_taken (header SingleOp)) (stands_nothing may moves terms _ old.at first)
    (tt, tt, omega arith) refl (goes_took may moves _ _ (header SingleOp) takes.left refl refl refl) takes.at refl

-- The client could not be told of an unknown protocol.
pub refusal_cut : (byte : ℕ) (before after : Option (List ℕ)) (end : ConnEnd) → Writes before after 0 protocol_not_supported (Err end) → Refuses byte before after end
refusal_cut byte before after end (zero, less, is, written) = rw is (refl, written ∙ with_end-nothing before)
refusal_cut byte before after end (suc part, less, is, written) = absurd (omega arith)

-- The connection ends with an unknown protocol.
pub refusal_ends : (may : Invocation → Outcome → Type 0) (moves : States → Call → States → Type 0) (terms : Terms) (old new : PullState) (held now : Option (List ℕ)) (side : Observed) (drawn byte : ℕ) (end : ConnEnd)
    → old.at ≡ 0 → GivesHeader old new (Err (UnknownProtocol byte)) → Refuses byte held now end
    → Talked may moves terms (spot_at old held side drawn) (spot_at new now side drawn) end
refusal_ends may moves terms old new held now side drawn byte (ends.UnknownProtocol b) first (none, takes) (same, written) =
    rw same (talks_on may moves terms _ _ _ old.at 0 nothing (bytes_exchanged (header_start ++ byte ∷ []) protocol_not_supported) (ends.UnknownProtocol byte) (stands_nothing may moves terms _ old.at first)
    (goes_exchanged may moves _ _ (header_start ++ byte ∷ []) protocol_not_supported takes.left written refl refl) (refl, none, refl))
refusal_ends may moves terms old new held now side drawn byte (ends.WriteFault sent) first (none, takes) (same, written) =
    rw same (talks_cut may moves terms _ _ _ old.at 0 0 nothing (bytes_exchanged (header_start ++ byte ∷ []) protocol_not_supported) (stands_nothing may moves terms _ old.at first)
    (inr (inl (byte, (refl, none, refl)))) (omega arith)
    (goes_exchanged may moves _ _ (header_start ++ byte ∷ []) [] takes.left (written ∙ sym (with_end-nothing held)) refl refl))
refusal_ends may moves terms old new held now side drawn byte ends.Ended first gives refuses = absurd refuses
refusal_ends may moves terms old new held now side drawn byte (ends.BadHeader at) first gives refuses = absurd refuses
refusal_ends may moves terms old new held now side drawn byte (ends.BadMessage b at) first gives refuses = absurd refuses
refusal_ends may moves terms old new held now side drawn byte (ends.BadStream kind at) first gives refuses = absurd refuses
refusal_ends may moves terms old new held now side drawn byte (ends.TooLarge what at) first gives refuses = absurd refuses
refusal_ends may moves terms old new held now side drawn byte (ends.Truncated at) first gives refuses = absurd refuses
refusal_ends may moves terms old new held now side drawn byte (ends.NoSuchObject id) first gives refuses = absurd refuses
refusal_ends may moves terms old new held now side drawn byte (ends.NoSuchMethod operation hash) first gives refuses = absurd refuses
refusal_ends may moves terms old new held now side drawn byte ends.SpaceFull first gives refuses = absurd refuses
refusal_ends may moves terms old new held now side drawn byte ends.MessageLimit first gives refuses = absurd refuses
refusal_ends may moves terms old new held now side drawn byte ends.ReadFault first gives refuses = absurd refuses
refusal_ends may moves terms old new held now side drawn byte ends.OutOfMemory first gives refuses = absurd refuses

-- Refusing a protocol is no fault of reading.
pub refuses_unread : (byte : ℕ) (before after : Option (List ℕ)) (end : ConnEnd) → Refuses byte before after end → end ≢ ends.ReadFault
refuses_unread byte before after end refuses is = rw is at refuses
