-- What a function that reads nodes does where a call in it fails.
use Rattle.wire_io.specs.Wire.{ReadHalf}
use Rattle.std.proofs.Common.{◌≡◌, ℕ, ◌≤◌, List, length, Option, Result, Ok, Err, sym, subst}
use Rattle.std.specs.Prelude.{IsErrAnd}
use Rattle.wire_io.specs.Pulled.{pull_state}
use Rattle.wire_io.specs.declared.pull.Pull.{Pull}
use Rattle.stream_grammar.specs.Reading.{Step}
use Rattle.ser_read.specs.declared.fault.StreamFault.{StreamFault}
use Rattle.ser_read.specs.declared.table.Table.{Table}
use Rattle.ser_read.specs.Tables.{now_of}
use Rattle.ser_read.specs.Here.{Breaks}
use Rattle.ser_read.specs.NodeReading.{ReadsNodes}

-- The answer of a `?` hands on the fault.
pub fell : {S X : Type 0} {half : S → ReadHalf} {p q : Pull S} {old new : Table} {Fits : Result X StreamFault → Type 0} {read : ℕ → Step X} {e : StreamFault} (result : Result X StreamFault)
    → IsErrAnd result (λ f. f ≡ e) → ((f : StreamFault) → Fits (Err f)) → q.source.ghost_name ≡ p.source.ghost_name → length old.nodes.items ≤ length new.nodes.items
    → Breaks (pull_state half p) (pull_state half q) e (λ end. read end (now_of old)) → ReadsNodes half p q old new result Fits read
fell (Ok x) is fits lent grows h = absurd is
fell {S} {X} {half} {p} {q} {old} {new} {Fits} {read} (Err f) is fits lent grows h = record {
  lent = lent;
  grows = grows;
  unread = tt;
  some = fits f;
  reads = tt;
  stops = subst (λ g. Breaks (pull_state half p) (pull_state half q) g (λ end. read end (now_of old))) (sym is) h;
}
