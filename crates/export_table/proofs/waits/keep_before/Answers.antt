use Rattle.std.proofs.Common.{◌≡◌, ◌<◌, ℕ, drop, subst, sym, ◌∙◌, arith}
use Rattle.std.specs.Prelude.{filter}
use Rattle.export_table.specs.WaitIndex.{stays}
use Rattle.export_table.proofs.Moved.{back-start, back-yes}
use Rattle.export_table.proofs.waits.keep_before.Goals as goal

pub loop-place-init : goal.loop-place-init
loop-place-init c = record {
  moved = back-start (stays c.args.which.now) c.args.waits.now _ c.requires.within c.requires.after;
  from = omega arith;
}

pub loop-place-preserved-then-has : goal.loop-place-preserved-then-has
loop-place-preserved-then-has c =
    let from = c.loop-place.invariant.from in
    let more : c.args.gone < c.loop-place.place = c.loop-place-test.true in record {
      moved = back-yes (stays c.args.which.now) c.args.waits.now c.loop-place.waits c.loop-place.kept c.loop-place.place _ (omega arith) c.loop-place.invariant.moved (sym c.has.ensures ∙ c.if-has.true);
      from = omega arith;
    }

pub returns-clause-kept : goal.returns-clause-kept
returns-clause-kept c =
    let from = c.loop-place.invariant.from in
    let over = c.loop-place-test.false in
    let same : c.loop-place.place ≡ c.args.gone = omega arith in
    let P : ℕ → Type 0 = λ n. drop c.loop-place.kept c.loop-place.waits ≡ filter (stays c.args.which.now) (drop n c.args.waits.now) in
    subst P same c.loop-place.invariant.moved.back
