-- How the input stops inside a part of the protocol, over plain lists.
use Rattle.std.proofs.Common.{◌≡◌, ◌≢◌, refl, ℕ, ◌+◌, ◌-◌, ◌*◌, ◌<◌, List, [], ◌∷◌, ◌++◌, length, take, drop, Err, arith, length-append}
use Rattle.std.proofs.Math.ListN.{replicate}
use Rattle.std.proofs.lemmas.List.{length-replicate, take-append-drop}
use Rattle.wire_io.specs.Pulled.{PullState, Takes, GivesByte}
use Rattle.wire_io.specs.declared.pull.PullEnd.{PullEnd}
use Rattle.wire_io.proofs.Pulling.{takes_nothing, takes_more, byte_stops}
use Rattle.jrmp_frames.specs.Frames.{header_start, IsInHeader, IsInEndpoint}
use Rattle.wire_io.specs.declared.pull.PullEnd.TheVariants as ends
use Rattle.ser_read.specs.declared.fault.StreamFault.TheVariants.{Truncated}
use Rattle.ser_read.specs.Here.{fault_of}
use Rattle.jrmp_frames.specs.Gives.{StopsInside, StopsIn}

-- The first byte did not come.
pub stops_at_once : (P : List ℕ → Type 0) (old new : PullState) (e : PullEnd) → P [] → GivesByte old new (Err e) → StopsInside P old new e
stops_at_once P old new e nothing gives =
    let stops = byte_stops old new e gives in
    record { part = []; mid = old; inside = nothing; takes = takes_nothing old; stops = stops.1; memory = stops.0 }

-- Some bytes were taken, and then the input stopped.
pub stops_after : (P Q : List ℕ → Type 0) (old mid new : PullState) (e : PullEnd) (front : List ℕ) → Takes old mid front → StopsInside P mid new e
    → ((part : List ℕ) → P part → Q (front ++ part)) → StopsInside Q old new e
stops_after P Q old mid new e front takes stops whole = record {
  part = front ++ stops.part;
  mid = stops.mid;
  inside = whole stops.part stops.inside;
  takes = takes_more _ _ _ _ _ takes stops.takes;
  stops = stops.stops;
  memory = stops.memory;
}

-- A byte did not come after some were taken.
pub stops_next : (Q : List ℕ → Type 0) (old mid new : PullState) (e : PullEnd) (front : List ℕ) → Q front → Takes old mid front → GivesByte mid new (Err e) → StopsInside Q old new e
stops_next Q old mid new e front inside takes gives =
    let stops = byte_stops mid new e gives in
    record { part = front; mid = mid; inside = inside; takes = takes; stops = stops.1; memory = stops.0 }

-- How the input stops, as a stream's fault.
pub stops_in : (P : List ℕ → Type 0) (old new : PullState) (e : PullEnd) → StopsInside P old new e → StopsIn P old new (fault_of e)
stops_in P old new (ends.End at) stops = stops
stops_in P old new (ends.Limit at) stops = stops
stops_in P old new ends.ReadFault stops = stops
stops_in P old new ends.OutOfMemory stops = absurd (stops.memory refl)

pub not_truncated : (e : PullEnd) → ((at : ℕ) → e ≢ ends.End at) → (at : ℕ) → fault_of e ≢ Truncated at
not_truncated (ends.End at) other here = absurd (other at refl)
not_truncated (ends.Limit at) other here = λ same. cc
not_truncated ends.ReadFault other here = λ same. cc
not_truncated ends.OutOfMemory other here = λ same. cc

-- A front of the header's start begins the header.
pub front_in_header : (k : ℕ) → IsInHeader (take k header_start)
front_in_header k = (drop k header_start, take-append-drop k header_start)

-- What a length announces can be filled up.
filled : (high low : ℕ) (part : List ℕ) → high < 256 → low < 256 → length part < 256 * high + low + 4 → IsInEndpoint (high ∷ low ∷ part)
filled high low part high_byte low_byte short =
    let room : ℕ = 256 * high + low + 4 - length part in
    let zeros : List ℕ = replicate room 0 in
    let long : length zeros ≡ room = length-replicate room 0 in
    (zeros, omega (arith, long), (high_byte, low_byte, omega (arith, length-append part zeros, long)))

-- Nothing yet, and one byte, begin an endpoint.
pub nothing_in_endpoint : IsInEndpoint []
nothing_in_endpoint = (0 ∷ 0 ∷ 0 ∷ 0 ∷ 0 ∷ 0 ∷ [], omega arith, (omega arith, omega arith, omega arith))

pub byte_in_endpoint : (high : ℕ) → high < 256 → IsInEndpoint (high ∷ [])
byte_in_endpoint high high_byte =
    let rest = filled high 0 [] high_byte (omega arith) (omega arith) in
    (0 ∷ rest.0, omega arith, rest.2)

-- The length and less than what it announces begin an endpoint.
pub part_in_endpoint : (high low : ℕ) (part : List ℕ) → high < 256 → low < 256 → length part < high * 256 + low + 4 → IsInEndpoint (high ∷ low ∷ part)
part_in_endpoint high low part high_byte low_byte short = filled high low part high_byte low_byte (omega (arith, short))
