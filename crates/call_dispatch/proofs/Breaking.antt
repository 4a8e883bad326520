-- What was taken where reading ends inside a Call.
use Rattle.std.proofs.Common.{◌≡◌, ℕ, ◌≤◌, List, [], ◌∷◌, ◌++◌, Result, refl, ap, sym, ◌∙◌, arith}
use Rattle.wire_io.specs.Wire.{with_front, with_front-with_front}
use Rattle.wire_io.specs.Pulled.{PullState}
use Rattle.ser_read.specs.declared.fault.StreamFault.TheVariants as faults
use Rattle.ser_read.specs.declared.fault.Large.TheVariants.{Bytes, Nodes, Depth}
use Rattle.ser_read.specs.Wants.{WantFault}
use Rattle.jrmp_frames.specs.declared.fault.FrameFault.{FrameFault}
use Rattle.jrmp_frames.specs.declared.fault.FrameFault.TheVariants.{BadHeader, UnknownProtocol, BadMessage, BadKind, Stream}
use Rattle.jrmp_frames.specs.Calls.{BreaksIn}
use Rattle.call_dispatch.specs.Progress.{end_from}
use Rattle.call_dispatch.specs.Inside.{BreaksAt}

-- Reading ended so, and the position is within the message's limit: some bytes were taken, and they are why.
pub breaks_at : {Y : Type 0} (read : ℕ → List ℕ → Result Y WantFault) (old new : PullState) (fault : FrameFault) → new.at ≤ new.stop → BreaksIn old new fault read
    → (more : List ℕ) × (old.left ≡ with_front more new.left) × BreaksAt read old.at old.stop more new.left (end_from fault)
breaks_at read old new (BadHeader at) within h = absurd h
breaks_at read old new (UnknownProtocol byte) within h = absurd h
breaks_at read old new (BadMessage byte at) within h = absurd h
breaks_at read old new (BadKind byte at) within h = absurd h
breaks_at read old new (Stream (faults.Bad kind p)) within h =
    let d = h.is in
    (d.taken, d.takes.left, ((λ r. rw d.takes.at at d.is r), d.least, omega (arith, within, d.takes.at, d.takes.stop)))
breaks_at read old new (Stream (faults.TooLarge Nodes p)) within h =
    let d = h.is in
    (d.taken, d.takes.left, ((λ r. rw d.takes.at at d.is r), d.least, omega (arith, within, d.takes.at, d.takes.stop)))
breaks_at read old new (Stream (faults.TooLarge Depth p)) within h =
    let d = h.is in
    (d.taken, d.takes.left, ((λ r. rw d.takes.at at d.is r), d.least, omega (arith, within, d.takes.at, d.takes.stop)))
breaks_at read old new (Stream (faults.TooLarge Bytes p)) within h =
    let (mid, f, passes) = h.is in (
      f.taken ++ passes.dropped ∷ [],
      f.takes.left ∙ ap (with_front f.taken) passes.left ∙ with_front-with_front f.taken (passes.dropped ∷ []) new.left,
      (f.taken, passes.dropped, refl, f.here ∙ f.takes.at, omega (arith, f.here, passes.at_stop, f.takes.stop, passes.at, passes.stop, within), rw (sym f.here) at f.is),
    )
breaks_at read old new (Stream (faults.Truncated p)) within h =
    let (f, left) = h.is in
    (f.taken, f.takes.left, (f.here ∙ f.takes.at, omega (arith, f.here, f.takes.stop, within), rw (sym f.here) at f.is, left))
breaks_at read old new (Stream faults.ReadFault) within h =
    let (f, rose) = h.is in
    (f.taken, f.takes.left, (rw f.takes.at at f.is, omega (arith, within, f.takes.at, f.takes.stop)))
breaks_at read old new (Stream faults.OutOfMemory) within h = (h.is.taken, h.is.takes.left, (h.is.least, omega (arith, within, h.is.takes.at, h.is.takes.stop)))
