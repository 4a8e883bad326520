use Rattle.std.proofs.Common.{arith, ◌+◌, drop, Ok, Err}
use Rattle.client_talk.specs.Calling.{holds_each}
use Rattle.client_talk.proofs.Holding.{holds_next, holds_end}
use Rattle.client_talk.proofs.Leasing.{notes_again}
use Rattle.client_talk.proofs.Stepping.{stands_same}
use Rattle.client_talk.proofs.Talking.{now_at}
use Rattle.client_talk.proofs.leases.hold_each.Goals as goal

pub loop-object-init : goal.loop-object-init
loop-object-init g c = record {
  still = c.requires;
  notes = λ s k links given lessee log next keeps here stands. (log, keeps, stands_same s _ k links _ given _ here stands);
}

pub loop-object-preserved : goal.loop-object-preserved
loop-object-preserved g c = record {
  still = c.in-Ok.ensures.open;
  notes = λ s k links given lessee log next keeps here stands.
      let (log2, keeps2, stands2) = c.loop-object.invariant.notes s k links given lessee log next keeps here stands in
      notes_again {A = Unit {0}} s k links _ _ given _ lessee _ (λ log3. holds_each k lessee (drop (c.loop-object.object-index + 1) c.args.objects.now) log3 next) (Ok tt)
      (c.in-Ok.ensures.notes s k _ given lessee log2 (λ log3. holds_each k lessee (drop (c.loop-object.object-index + 1) c.args.objects.now) log3 next) keeps2 (now_at k _ _ links here)
      (holds_next s _ given _ k lessee c.args.objects.now c.loop-object.object-index _ log2 next c.loop-object-test.true stands2));
}

pub returns-in-Err-clause-notes : goal.returns-in-Err-clause-notes
returns-in-Err-clause-notes g c s k links given lessee log next keeps here stands =
    let (log2, keeps2, stands2) = c.loop-object.invariant.notes s k links given lessee log next keeps here stands in
    notes_again {A = Unit {0}} s k links _ _ given _ lessee c.hold.new.leases (λ log3. holds_each k lessee (drop (c.loop-object.object-index + 1) c.args.objects.now) log3 next) (Err c.in-Err.end)
    (c.in-Err.ensures.notes s k _ given lessee log2 (λ log3. holds_each k lessee (drop (c.loop-object.object-index + 1) c.args.objects.now) log3 next) keeps2 (now_at k _ _ links here)
    (holds_next s _ given _ k lessee c.args.objects.now c.loop-object.object-index _ log2 next c.loop-object-test.true stands2))

pub returns-clause-notes : goal.returns-clause-notes
returns-clause-notes g c s k links given lessee log next keeps here stands =
    let (log2, keeps2, stands2) = c.loop-object.invariant.notes s k links given lessee log next keeps here stands in
    (log2, keeps2, holds_end s _ given _ k lessee c.args.objects.now c.loop-object.object-index log2 next (omega (arith, c.loop-object-test.false)) stands2)
