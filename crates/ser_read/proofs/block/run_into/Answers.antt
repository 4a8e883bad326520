use Rattle.std.proofs.Common.{◌≡◌, ◌+◌, ◌-◌, ◌≤◌, ◌∙◌, ap, arith, [], length, take, refl, sym}
use Rattle.ser_read.specs.Wants.{inside, run_at}
use Rattle.stream_grammar.specs.Reading.{short}
use Rattle.ser_read.proofs.Steps.{leads_start, leads_more, leads_done}
use Rattle.ser_read.proofs.Runs.{behind, behind_none, opened_some, run_opens, run_unopened, run_end}
use Rattle.wire_io.proofs.Pulling.{part_length}
use Rattle.ser_read.proofs.IntoBuffers.{part_is, whole_front, into_next_by, into_err}
use Rattle.ser_read.proofs.Breaking.{want_raised, want_loop_stops, inside_loop_stops}
use Rattle.ser_read.proofs.block.run_into.Goals as goal

pub loop-done-init : goal.loop-done-init
loop-done-init g c = record {
  lent = refl;
  within = omega arith;
  long = refl;
  leads =
      let all : length c.args.buf.now - 0 ≡ length c.args.buf.now = omega arith in
      leads_start _ _ _ (λ end bs. ap (λ n. run_at end n c.args.block.now bs) (sym all) ∙ sym (behind_none (run_at end (length c.args.buf.now - 0) c.args.block.now bs)));
}

pub loop-done-smaller : goal.loop-done-smaller
loop-done-smaller g c =
    let w = c.loop-done in
    let n = w.done + c.min-more.result - w.done in
    let some = opened_some _ _ _ _ _ (c.in_ok-present.ensures.reads.is []) in
    let part = part_length w.buf c.fill.new.buf w.done n (omega (arith, c.min-more.ensures, c.loop-done-test.true)) c.fill.auto.buf in
    omega (arith, part.1, some, c.min-more.ensures, c.loop-done-test.true)

pub loop-done-preserved : goal.loop-done-preserved
loop-done-preserved g c =
    let w = c.loop-done in
    let n = w.done + c.min-more.result - w.done in
    let few : n ≡ c.min-more.result = omega arith in
    let within : w.done + n ≤ length w.buf = omega (arith, c.min-more.ensures, c.loop-done-test.true) in
    let less : n ≤ c.in_ok-present.present = omega (arith, c.min-more.ensures) in
    let part = part_length w.buf c.fill.new.buf w.done n within c.fill.auto.buf in
    record {
      lent = c.in_ok-fill.ensures.lent ∙ c.in_ok-present.ensures.lent ∙ w.invariant.lent;
      within = omega (arith, part.1, within, few);
      long = part.1 ∙ w.invariant.long;
      leads =
          let opens = leads_more (λ end bs. behind (take w.done w.buf) (run_at end (length w.buf - w.done) c.in_ok-present.present bs)) w.invariant.leads c.in_ok-present.ensures.reads
          (λ end bs rest here h. ap (behind (take w.done w.buf)) (run_opens end (length w.buf - w.done) w.block bs c.in_ok-present.present rest (omega (arith, c.loop-done-test.true)) h))
          (λ end bs here is. run_unopened (take w.done w.buf) end (length w.buf - w.done) w.block bs (inside short) (omega (arith, c.loop-done-test.true)) is) in
          leads_more _ opens c.in_ok-fill.ensures.reads
          (λ end bs rest here h. into_next_by w.buf end w.done n c.min-more.result c.in_ok-present.present bs c.fill.new.buf rest few within less part.0 (rw (part_is w.buf w.done n within) at h))
          (λ end bs here is. into_err w.buf end w.done n c.in_ok-present.present bs short within less (rw (part_is w.buf w.done n within) at is));
    }

pub returns-clause-reads : goal.returns-clause-reads
returns-clause-reads g c =
    let w = c.loop-done in
    let none : length w.buf - w.done ≡ 0 = omega (arith, c.loop-done-test.false) in
    let all : take w.done w.buf ≡ w.buf = whole_front w.buf w.done (omega (arith, c.loop-done-test.false, w.invariant.within)) in
    leads_done w.invariant.leads (λ end bs. rw (none, all) (run_end w.buf end w.block bs))

pub returns-in_err-present-clause-stops : goal.returns-in_err-present-clause-stops
returns-in_err-present-clause-stops g c =
    let w = c.loop-done in
    want_raised c.from_residual.result c.from_residual.ensures.1 (want_loop_stops w.invariant.leads (λ end bs f here is. run_unopened (take w.done w.buf) end (length w.buf - w.done) w.block bs f (omega (arith, c.loop-done-test.true)) is) c.in_err-present.ensures.stops)

pub returns-in_err-fill-clause-stops : goal.returns-in_err-fill-clause-stops
returns-in_err-fill-clause-stops g c =
    let w = c.loop-done in
    let n = w.done + c.min-more.result - w.done in
    let within : w.done + n ≤ length w.buf = omega (arith, c.min-more.ensures, c.loop-done-test.true) in
    let less : n ≤ c.in_ok-present.present = omega (arith, c.min-more.ensures) in
    let more = leads_more (λ end bs. behind (take w.done w.buf) (run_at end (length w.buf - w.done) c.in_ok-present.present bs)) w.invariant.leads c.in_ok-present.ensures.reads
    (λ end bs rest here h. ap (behind (take w.done w.buf)) (run_opens end (length w.buf - w.done) w.block bs c.in_ok-present.present rest (omega (arith, c.loop-done-test.true)) h))
    (λ end bs here is. run_unopened (take w.done w.buf) end (length w.buf - w.done) w.block bs (inside short) (omega (arith, c.loop-done-test.true)) is) in
    want_raised c.from_residual-in_err-fill.result c.from_residual-in_err-fill.ensures.1 (inside_loop_stops more
    (λ end bs f here is. into_err w.buf end w.done n c.in_ok-present.present bs f within less is) (rw (part_is w.buf w.done n within) at c.in_err-fill.ensures.stops))
