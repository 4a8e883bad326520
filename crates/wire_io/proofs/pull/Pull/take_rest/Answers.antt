use Rattle.std.proofs.Common.{arith, ◌∙◌, ◌≤◌, ◌<◌, ◌-◌, length, take}
use Rattle.std.proofs.lemmas.List.{length-take-le}
use Rattle.wire_io.specs.Pulled.{pull_state}
use Rattle.wire_io.proofs.Pulling.{front_more, part_length}
use Rattle.wire_io.proofs.pull.Pull.take_rest.Goals as goal

pub loop-done-preserved : goal.loop-done-preserved
loop-done-preserved g c =
    let part = part_length c.loop-done.buf c.fill_some.new.buf c.loop-done.done (length c.loop-done.buf - c.loop-done.done) (omega arith) c.fill_some.auto.buf in
    let given : c.in-Ok.count ≤ length c.fill_some.new.buf = c.in-Ok.ensures.gives.1 in (
      omega (arith, part.0, part.1, given),
      part.1 ∙ c.loop-done.invariant.1,
      λ p before. front_more _ _ _ c.loop-done.buf c.fill_some.new.buf _ c.loop-done.done c.in-Ok.count c.loop-done.invariant.0 given (c.loop-done.invariant.2 p before) c.in-Ok.ensures.gives.2,
      c.in-Ok.ensures.kept (λ same. cc) ∙ c.loop-done.invariant.3,
      c.in-Ok.ensures.lent ∙ c.loop-done.invariant.4,
    )

pub returns-in-Err-clause-gives : goal.returns-in-Err-clause-gives
returns-in-Err-clause-gives g c =
    let part = part_length c.loop-done.buf c.fill_some.new.buf c.loop-done.done (length c.loop-done.buf - c.loop-done.done) (omega arith) c.fill_some.auto.buf in
    let front = length-take-le c.loop-done.done c.loop-done.buf c.loop-done.invariant.0 in
    let short : length (take c.loop-done.done c.loop-done.buf) < length c.args.buf.now = omega (arith, front, c.loop-done.invariant.1, c.loop-done-test.true) in
    λ old before. (take c.loop-done.done c.loop-done.buf, pull_state g.S.Source.half c.loop-done.self, omega (arith, short), λ other. short, c.loop-done.invariant.2 old before, c.in-Err.ensures.gives.1)
