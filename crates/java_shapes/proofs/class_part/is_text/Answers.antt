use Rattle.std.proofs.Common.{◌≡◌, ◌∙◌, sym, arith}
use Rattle.java_shapes.specs.Objects.{same_text}
use Rattle.java_shapes.proofs.Same.{same_apart, same_step, same_ended}
use Rattle.java_shapes.proofs.class_part.is_text.Goals as goal

pub returns-then-units-bytes : goal.returns-then-units-bytes
returns-then-units-bytes c =
    let apart = same_apart c.as_slice-units.result.now c.as_bytes-bytes.result.now (omega arith) in
    let whole = rw (c.as_slice-units.ensures, c.as_bytes-bytes.ensures.value) at apart in
    sym whole

pub loop-at-preserved : goal.loop-at-preserved
loop-at-preserved c =
    let step = same_step c.loop-at.same c.as_slice-units.result.now c.as_bytes-bytes.result.now c.loop-at.at (omega arith) (omega arith) in
    record { within = omega arith; within_text = omega arith; rest = rw c.from.ensures (step ∙ c.loop-at.invariant.rest) }

pub returns-else-at-bytes : goal.returns-else-at-bytes
returns-else-at-bytes c =
    let ends = same_ended c.loop-at.same c.as_slice-units.result.now c.as_bytes-bytes.result.now c.loop-at.at (omega arith) (omega arith) in
    let whole : c.loop-at.same ≡ same_text c.as_slice-units.result.now c.as_bytes-bytes.result.now = sym ends ∙ c.loop-at.invariant.rest in
    rw (c.as_slice-units.ensures, c.as_bytes-bytes.ensures.value) at whole

pub returns-after-loop-at : goal.returns-after-loop-at
returns-after-loop-at c =
    let ends = same_ended c.loop-at.same c.as_slice-units.result.now c.as_bytes-bytes.result.now c.loop-at.at (omega arith) (omega arith) in
    let whole : c.loop-at.same ≡ same_text c.as_slice-units.result.now c.as_bytes-bytes.result.now = sym ends ∙ c.loop-at.invariant.rest in
    rw (c.as_slice-units.ensures, c.as_bytes-bytes.ensures.value) at whole
