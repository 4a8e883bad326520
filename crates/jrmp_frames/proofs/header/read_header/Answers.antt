use Rattle.std.proofs.Common.{◌≡◌, ◌≢◌, ◌++◌, ◌∷◌, [], length, take, slice_index, length-take-le, refl, arith}
use Rattle.std.proofs.lemmas.Result.{err_from_is_err_and}
use Rattle.wire_io.proofs.Pulling.{takes_more}
use Rattle.jrmp_frames.specs.Frames.{header_start, IsInHeader}
use Rattle.jrmp_frames.proofs.Reading.{stops_in, stops_next, front_in_header}
use Rattle.jrmp_frames.proofs.header.read_header.Goals as goal

pub returns-in_err-byte-clause-gives : goal.returns-in_err-byte-clause-gives
returns-in_err-byte-clause-gives g c =
    let p = err_from_is_err_and c.from_residual.result c.from_residual.ensures.1 in
    rw (p.1, p.2) (stops_in IsInHeader _ _ _ (stops_next IsInHeader _ _ _ _ _ (front_in_header c.loop-wanted.wanted-index) c.loop-wanted.invariant.0 c.in_err-byte.ensures.gives))

pub returns-then-branch-wanted-clause-gives : goal.returns-then-branch-wanted-clause-gives
returns-then-branch-wanted-clause-gives g c =
    let k = c.loop-wanted.wanted-index in
    let before = c.loop-wanted.invariant.0 in
    let long : length (take k header_start) ≡ k = length-take-le k header_start (omega (arith, c.loop-wanted-test.true)) in
    let other : c.in_ok-byte.field-0 ≢ slice_index header_start k = c.if-branch-wanted.true in (
      k,
      take k header_start ++ c.in_ok-byte.field-0 ∷ [],
      omega (arith, before.at, long),
      (c.loop-wanted-test.true, (c.in_ok-byte.field-0, other, refl)),
      takes_more _ _ _ _ _ before c.in_ok-byte.ensures.gives.2,
    )
