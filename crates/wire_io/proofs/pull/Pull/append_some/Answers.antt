use Rattle.std.proofs.Common.{rules, arith, ◌≡◌, ◌+◌, ◌-◌, ◌++◌, ◌≤◌, ◌<◌, ℕ, length, replicate, take, drop, ◌∙◌, ap, length-append, length-drop}
use Rattle.std.proofs.lemmas.List.{length-take, length-replicate, take_at}
use Rattle.wire_io.proofs.Pulling.{front_read}
use Rattle.wire_io.proofs.pull.Pull.append_some.Goals as goal

pub returns-in-Ok-fill-clause-gives : goal.returns-in-Ok-fill-clause-gives
returns-in-Ok-fill-clause-gives g c =
    let before = c.args.bytes.now.items in
    let zeros : c.append_zeros.new.bytes.items ≡ before ++ replicate c.min-most.result 0 = search rules in
    let opened : c.deref_mut.result.now ≡ before ++ replicate c.min-most.result 0 = c.deref_mut.ensures.value ∙ zeros in
    let start : length before ≡ c.len-start.result = omega (arith, c.args.bytes.now.ok.0, c.len-start.ensures) in
    let long : length c.deref_mut.result.now ≡ c.len-start.result + c.min-most.result =
    ap length opened ∙ omega (arith, start, length-append before (replicate c.min-most.result 0), length-replicate {A = ℕ} c.min-most.result 0) in
    let room : length c.fill.new.buf ≡ c.min-most.result =
    omega (arith, c.fill.auto.buf, long, length-take (length c.deref_mut.result.now - c.len-start.result) (drop c.len-start.result c.deref_mut.result.now), length-drop c.len-start.result c.deref_mut.result.now) in
    let given : c.in-Ok-fill.count ≤ length c.fill.new.buf = c.in-Ok-fill.ensures.gives.1 in
    let some : 0 < c.in-Ok-fill.count = c.in-Ok-fill.ensures.gives.0 in
    let taken : length (take c.in-Ok-fill.count c.fill.new.buf) ≡ c.in-Ok-fill.count = omega (arith, length-take c.in-Ok-fill.count c.fill.new.buf) in
    let kept : take c.len-start.result c.deref_mut.result.now ≡ before = rw opened (take_at before (replicate c.min-most.result 0) c.len-start.result start) in (
      take c.in-Ok-fill.count c.fill.new.buf,
      c.truncate.ensures.items ∙ front_read c.deref_mut.result.now c.fill.new.buf _ _ c.len-start.result c.in-Ok-fill.count c.append_zeros.new.bytes.len (omega arith) given
          (omega (arith, c.append_zeros.new.bytes.ok.0, ap length c.deref_mut.ensures.value))
          ∙ ap (λ xs. xs ++ take c.in-Ok-fill.count c.fill.new.buf) kept,
      omega arith,
      omega (arith, c.min-most.ensures, c.min.ensures),
      c.in-Ok-fill.ensures.gives.2,
    )
