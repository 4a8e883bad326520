-- What reading the whole input as a stream answers.
use Rattle.std.proofs.Common.{◌≡◌, ℕ, ◌+◌, ◌-◌, ◌≤◌, ◌<◌, List, length, take, Option, Some, Result, Ok, Err, IfOk, refl, arith}
use Rattle.std.specs.Prelude.{IfErr, IsErrAnd}
use Rattle.wire_io.specs.Pulled.{PullState}
use Rattle.ser_values.specs.declared.graph.Graph.{Graph}
use Rattle.ser_read.specs.declared.fault.StreamFault.{StreamFault}
use Rattle.ser_read.specs.declared.fault.StreamFault.TheVariants.{TooLarge, Truncated}
use Rattle.ser_read.specs.declared.fault.Large.TheVariants.{Bytes}
use Rattle.ser_read.specs.Here.{Fails, Gives}
use Rattle.ser_read.specs.Whole.{stream_at, going_on, BreaksWhole, TakesStream}
use Rattle.ser_read.proofs.Streams.{from_start}
use Rattle.ser_read.proofs.ToEnd.{graph_parts}
use Rattle.ser_values.specs.declared.limits.TheConstants.{MESSAGE_BYTES}
use Rattle.rmi_cli.specs.Shown.{TakesGraph, IsFaultOf, StopsAt}

pub graph_taken : (p q : PullState) (result : Result Graph StreamFault) → p.at ≡ 0 → p.stop ≡ MESSAGE_BYTES → q.at ≤ q.stop
    → IfOk result (λ graph. TakesStream p q graph.nodes graph.items) → IfOk result (λ graph. TakesGraph p.left q.left graph.nodes graph.items)
graph_taken p q (Err e) start stop le t = tt
graph_taken p q (Ok graph) start stop le t =
    let all : q.at ≡ length t.taken = omega (arith, t.takes.at, start) in
    record {
      input = t.taken;
      left = t.takes.left;
      nothing = t.nothing;
      short = omega (arith, all, t.takes.stop, stop, le);
      stream = t.stream;
      parts = t.parts;
      read = rw (from_start t.taken) (rw all at t.read);
    }

pub fault_told : (left : Option (List ℕ)) (at stop : ℕ) (result : Result Graph StreamFault) → at ≡ 0 → stop ≡ MESSAGE_BYTES
    → ((bytes : List ℕ) → left ≡ Some bytes → length bytes ≤ stop - at → Gives (Truncated (at + length bytes)) graph_parts result (stream_at (at + length bytes) bytes))
    → ((bytes : List ℕ) → left ≡ Some bytes → stop - at < length bytes → IsErrAnd result (λ e. Fails (TooLarge Bytes stop) e (going_on (stream_at stop (take (stop - at) bytes)))))
    → IfErr result (IsFaultOf left)
fault_told left at stop (Ok graph) start s gives limited = tt
fault_told left at stop (Err e) start s gives limited = record {
  within = λ input told le.
      let all : at + length input ≡ length input = omega (arith, start) in
      rw (from_start input) (rw all at (gives input told (omega (arith, start, s))));
  past = λ input told more.
      let room : stop - at ≡ MESSAGE_BYTES = omega (arith, start, s) in
      rw (room, s) at (limited input told (omega (arith, start, s)));
}

pub stops_there : (p q : PullState) (result : Result Graph StreamFault) → p.at ≡ 0 → p.stop ≡ MESSAGE_BYTES → IfErr result (λ e. BreaksWhole p q e stream_at)
    → IfErr result (StopsAt p.left q.left)
stops_there p q (Ok graph) start stop breaks = tt
stops_there p q (Err e) start stop breaks = record { start = p; stop = q; before = refl; after = refl; first = start; limit = stop; is = breaks }
