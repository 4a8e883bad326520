-- Reading the opening of a connection: a function of the input alone.
use Rattle.std.proofs.Common.{◌≡◌, ◌≢◌, ℕ, suc, ◌+◌, ◌*◌, ◌<◌, ◌≤◌, inl, inr, List, [], ◌∷◌, ◌++◌, length, take, drop, slice_index, Some, cond, eqb, ltb, true, false, refl, ap, sym, subst, ◌∙◌, arith, append_assoc, append-nil, length-append, length-take-le, eq-eqb, add-zero, zero-add, drop-cons}
use Rattle.std.proofs.lemmas.List.{drop_at, take_at, take-append-drop}
use Rattle.std.proofs.lemmas.Bool.Decides.{eqb_tells, nat_tests}
use Rattle.jrmp_frames.specs.Frames.{header_start, IsInHeader, BreaksHeader, IsEndpoint, IsInEndpoint, protocol_ack, protocol_not_supported}
use Rattle.call_dispatch.specs.declared.end.ConnEnd.{ConnEnd}
use Rattle.call_dispatch.specs.declared.end.ConnEnd.TheVariants.{Ended, BadHeader, UnknownProtocol, BadMessage, BadStream, TooLarge, Truncated, NoSuchObject, NoSuchMethod, SpaceFull, MessageLimit, ReadFault, WriteFault, OutOfMemory}
use Rattle.call_dispatch.specs.End.{IsSettled}
use Rattle.system_objects.specs.Terms.{Terms}
use Rattle.call_dispatch.specs.ConnectionState.{Transcript, bytes_taken}
use Rattle.call_dispatch.specs.Dialogue.{Opening, stream, single_op, IsOpening, opening_taken, Completed, nothing, greeted, taken_in, written_in, Ends}

-- what reading the opening gives: an opening and the input after it; or an end, what is written, and the input that is left
pub data Start : Type 0 where
  opens : Opening → List ℕ → Start
  over : ConnEnd → List ℕ → List ℕ → Start

-- from the client's endpoint, where this was written
abbrev endpoint_next : List ℕ → List ℕ → Start
endpoint_next ack [] = over (Truncated 7) ack []
endpoint_next ack (high ∷ []) = over (Truncated 8) ack []
endpoint_next ack (high ∷ low ∷ xs) =
    cond (ltb (length xs) (256 * high + low + 4)) (over (Truncated (9 + length xs)) ack [])
    (opens (stream (high ∷ low ∷ take (256 * high + low + 4) xs)) (drop (256 * high + low + 4) xs))

-- from the header, of which this front is still wanted before the protocol
abbrev header_next : Terms → List ℕ → ℕ → List ℕ → Start
header_next terms [] at [] = over (Truncated at) [] []
header_next terms [] at (b ∷ xs) =
    cond (eqb b 0x4B) (endpoint_next (protocol_ack terms.peer_host terms.peer_port) xs)
    (cond (eqb b 0x4C) (opens single_op xs) (over (UnknownProtocol b) protocol_not_supported xs))
header_next terms (m ∷ ms) at [] = over (Truncated at) [] []
header_next terms (m ∷ ms) at (x ∷ xs) = cond (eqb x m) (header_next terms ms (at + 1) xs) (over (BadHeader at) [] xs)

-- from the first byte
abbrev pub reading : Terms → List ℕ → Start
reading terms input = header_next terms header_start 0 input

pub neq-eqb : (a b : ℕ) → a ≢ b → eqb a b ≡ false
neq-eqb a b other = elim (eqb_tells a b) [ inl is ↦ absurd (other is.1) | inr not ↦ not.0 ]

le-ltb : (a b : ℕ) → b ≤ a → ltb a b ≡ false
le-ltb a b most = grind (arith, nat_tests)

lt-ltb : (a b : ℕ) → a < b → ltb a b ≡ true
lt-ltb a b less = grind (arith, nat_tests)

-- A front that is wanted is passed.
header_front : (terms : Terms) (front wanted : List ℕ) (at : ℕ) (xs : List ℕ) → header_next terms (front ++ wanted) at (front ++ xs) ≡ header_next terms wanted (at + length front) xs
header_front terms [] wanted at xs = rw add-zero refl
header_front terms (m ∷ front) wanted at xs =
    let yes : eqb m m ≡ true = eq-eqb m m refl in
    let same : at + 1 + length front ≡ at + length (m ∷ front) = omega arith in
    rw yes (header_front terms front wanted (at + 1) xs ∙ ap (λ n. header_next terms wanted n xs) same)

-- The input ends in the header.
header_stops : (terms : Terms) (wanted : List ℕ) (at : ℕ) → header_next terms wanted at [] ≡ over (Truncated at) [] []
header_stops terms [] at = refl
header_stops terms (m ∷ wanted) at = refl

header_truncated : (terms : Terms) (part : List ℕ) → IsInHeader part → reading terms part ≡ over (Truncated (length part)) [] []
header_truncated terms part (more, is) =
    ap (λ wanted. header_next terms wanted 0 part) (sym is) ∙ ap (header_next terms (part ++ more) 0) (sym (append-nil part))
    ∙ header_front terms part more 0 [] ∙ header_stops terms more (0 + length part) ∙ ap (λ n. over (Truncated n) [] []) (zero-add (length part))

header_broken : (terms : Terms) (at : ℕ) (bytes rest : List ℕ) → BreaksHeader at bytes → reading terms (bytes ++ rest) ≡ over (BadHeader at) [] rest
header_broken terms at bytes rest (inside, (byte, other, is)) =
    let front : List ℕ = take at header_start in
    let long : length front ≡ at = length-take-le at header_start (omega (arith, inside)) in
    let wanted : front ++ (slice_index header_start at ∷ drop (suc at) header_start) ≡ header_start =
    ap (λ xs. front ++ xs) (sym (drop-cons header_start at 0 inside)) ∙ take-append-drop at header_start in
    let no : eqb byte (slice_index header_start at) ≡ false = neq-eqb byte (slice_index header_start at) other in
    let breaks : header_next terms (slice_index header_start at ∷ drop (suc at) header_start) (0 + length front) (byte ∷ rest) ≡ over (BadHeader at) [] rest =
    rw no (ap (λ n. over (BadHeader n) [] rest) (zero-add (length front) ∙ long)) in
    ap (λ xs. reading terms (xs ++ rest)) is ∙ ap (reading terms) (append_assoc front (byte ∷ []) rest)
    ∙ ap (λ ms. header_next terms ms 0 (front ++ (byte ∷ rest))) (sym wanted)
    ∙ header_front terms front (slice_index header_start at ∷ drop (suc at) header_start) 0 (byte ∷ rest) ∙ breaks

-- The input ends in the endpoint.
endpoint_truncated : (ack part : List ℕ) → IsInEndpoint part → endpoint_next ack part ≡ over (Truncated (7 + length part)) ack []
endpoint_truncated ack [] inside = refl
endpoint_truncated ack (high ∷ []) inside = refl
endpoint_truncated ack (high ∷ low ∷ part) (more, some, is) =
    let short : ltb (length part) (256 * high + low + 4) ≡ true = lt-ltb (length part) (256 * high + low + 4) (omega (arith, is.2, length-append part more, some)) in
    let place : 9 + length part ≡ 7 + length (high ∷ low ∷ part) = omega arith in
    rw short (ap (λ n. over (Truncated n) ack []) place)

-- An endpoint is passed.
endpoint_passed : (ack endpoint xs : List ℕ) → IsEndpoint endpoint → endpoint_next ack (endpoint ++ xs) ≡ opens (stream endpoint) xs
endpoint_passed ack [] xs is = absurd is
endpoint_passed ack (high ∷ []) xs is = absurd is
endpoint_passed ack (high ∷ low ∷ more) xs is =
    let n : ℕ = 256 * high + low + 4 in
    let all : ltb (length (more ++ xs)) n ≡ false = le-ltb (length (more ++ xs)) n (omega (arith, is.2, length-append more xs)) in
    let front : take n (more ++ xs) ≡ more = take_at more xs n is.2 in
    let past : drop n (more ++ xs) ≡ xs = drop_at more xs n is.2 in
    rw all (ap (λ l. opens (stream (high ∷ low ∷ l)) (drop n (more ++ xs))) front ∙ ap (opens (stream (high ∷ low ∷ more))) past)

-- An opening is passed.
pub opening_passed : (terms : Terms) (opening : Opening) (xs : List ℕ) → IsOpening opening → reading terms (opening_taken opening ++ xs) ≡ opens opening xs
opening_passed terms (stream endpoint) xs is = endpoint_passed (protocol_ack terms.peer_host terms.peer_port) endpoint xs is
opening_passed terms single_op xs is = refl

-- What a settled end in the opening says: reading gives it, and nothing was done beside taking and writing.
abbrev pub Reads : Terms → Completed → Transcript → List ℕ → ConnEnd → Type 0
Reads terms w tail rest end = (reading terms ((taken_in w ++ tail.taken) ++ rest) ≡ over end (written_in terms w ++ tail.written) rest)
    × (tail.acts ≡ []) × (tail.draws ≡ 0)

reads_is : (terms : Terms) (w : Completed) (tail other : Transcript) (rest : List ℕ) (end : ConnEnd) → tail ≡ other → Reads terms w other rest end → Reads terms w tail rest end
reads_is terms w tail other rest end same reads = let P : Transcript → Type 0 = λ c. Reads terms w c rest end in subst P (sym same) reads

pub nothing_reads : (terms : Terms) (drawn : ℕ) (tail : Transcript) (rest : List ℕ) (end : ConnEnd) → Ends terms drawn nothing tail (Some rest) end → IsSettled end → Reads terms nothing tail rest end
nothing_reads terms drawn tail rest Ended (inl (code, left), is) settled = absurd code
nothing_reads terms drawn tail rest Ended (inr done, is) settled = absurd done
nothing_reads terms drawn tail rest (BadHeader at) (none, (more, breaks, is)) settled =
    reads_is terms nothing tail (bytes_taken more) rest (BadHeader at) is (header_broken terms at more rest breaks, refl, refl)
nothing_reads terms drawn tail rest (UnknownProtocol byte) (none, other, is) settled =
    reads_is terms nothing tail _ rest (UnknownProtocol byte) is
    ((let many = neq-eqb byte 0x4B other.0 in let single = neq-eqb byte 0x4C other.1 in rw (many, single) refl), refl, refl)
nothing_reads terms drawn tail rest (BadMessage byte at) (code, none, place, is) settled = absurd code
nothing_reads terms drawn tail rest (BadStream kind at) (code, room, how) settled = absurd code
nothing_reads terms drawn tail rest (TooLarge what at) (code, room, how) settled = absurd code
nothing_reads terms drawn tail rest (Truncated at) (inr (code, room, how)) settled = absurd code
nothing_reads terms drawn tail rest (Truncated at) (inl (more, inside, left, place, is)) settled =
    reads_is terms nothing tail (bytes_taken more) rest (Truncated at) is (
      ap (λ xs. reading terms (more ++ xs)) left ∙ ap (reading terms) (append-nil more) ∙ header_truncated terms more inside
          ∙ ap (λ n. over (Truncated n) [] []) (sym place) ∙ ap (over (Truncated at) []) (sym left),
      refl,
      refl,
    )
nothing_reads terms drawn tail rest (NoSuchObject id) (closed, is) settled = absurd closed
nothing_reads terms drawn tail rest (NoSuchMethod operation hash) (closed, is) settled = absurd closed
nothing_reads terms drawn tail rest SpaceFull (closed, is) settled = absurd closed
nothing_reads terms drawn tail rest MessageLimit (code, full, known) settled = absurd code
nothing_reads terms drawn tail rest ReadFault ends settled = absurd settled
nothing_reads terms drawn tail rest (WriteFault sent) ends settled = absurd settled
nothing_reads terms drawn tail rest OutOfMemory ends settled = absurd settled

pub greeted_reads : (terms : Terms) (drawn : ℕ) (tail : Transcript) (rest : List ℕ) (end : ConnEnd) → Ends terms drawn greeted tail (Some rest) end → IsSettled end → Reads terms greeted tail rest end
greeted_reads terms drawn tail rest Ended (inl (code, left), is) settled = absurd code
greeted_reads terms drawn tail rest Ended (inr done, is) settled = absurd done
greeted_reads terms drawn tail rest (BadHeader at) (none, h) settled = absurd (cc)
greeted_reads terms drawn tail rest (UnknownProtocol byte) (none, other, is) settled = absurd (cc)
greeted_reads terms drawn tail rest (BadMessage byte at) (code, none, place, is) settled = absurd code
greeted_reads terms drawn tail rest (BadStream kind at) (code, room, how) settled = absurd code
greeted_reads terms drawn tail rest (TooLarge what at) (code, room, how) settled = absurd code
greeted_reads terms drawn tail rest (Truncated at) (inr (code, room, how)) settled = absurd code
greeted_reads terms drawn tail rest (Truncated at) (inl (more, inside, left, place, is)) settled =
    let ack : List ℕ = protocol_ack terms.peer_host terms.peer_port in
    let here : 7 + length more ≡ at = omega (arith, place) in
    reads_is terms greeted tail (bytes_taken more) rest (Truncated at) is (
      ap (λ xs. endpoint_next ack (more ++ xs)) left ∙ ap (endpoint_next ack) (append-nil more) ∙ endpoint_truncated ack more inside
          ∙ ap (λ n. over (Truncated n) ack []) here ∙ ap (over (Truncated at) ack) (sym left) ∙ ap (λ l. over (Truncated at) l rest) (sym (append-nil ack)),
      refl,
      refl,
    )
greeted_reads terms drawn tail rest (NoSuchObject id) (closed, is) settled = absurd closed
greeted_reads terms drawn tail rest (NoSuchMethod operation hash) (closed, is) settled = absurd closed
greeted_reads terms drawn tail rest SpaceFull (closed, is) settled = absurd closed
greeted_reads terms drawn tail rest MessageLimit (code, full, known) settled = absurd code
greeted_reads terms drawn tail rest ReadFault ends settled = absurd settled
greeted_reads terms drawn tail rest (WriteFault sent) ends settled = absurd settled
greeted_reads terms drawn tail rest OutOfMemory ends settled = absurd settled
