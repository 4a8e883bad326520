use Rattle.std.proofs.Common.{◌≡◌, ◌∙◌, ap, arith, []}
use Rattle.ser_read.specs.Wants.{inside, run_at}
use Rattle.stream_grammar.specs.Reading.{short}
use Rattle.ser_read.proofs.Steps.{leads_more, leads_done}
use Rattle.ser_read.proofs.Runs.{behind, opened_some, run_opens, run_unopened, piece_next, piece_err, run_end}
use Rattle.ser_read.proofs.Breaking.{want_raised, want_loop_stops, inside_loop_stops, took}
use Rattle.ser_read.proofs.block.run_onto.Goals as goal

pub loop-left-smaller : goal.loop-left-smaller
loop-left-smaller g c =
    let some = opened_some _ _ _ _ _ (c.in_ok-present.ensures.reads.is []) in
    omega (arith, c.min-more.ensures, c.loop-left-test.true)

pub loop-left-preserved : goal.loop-left-preserved
loop-left-preserved g c =
    record {
      lent = c.in_ok-piece.ensures.lent ∙ c.in_ok-present.ensures.lent ∙ c.loop-left.invariant.lent;
      leads =
          let opens = leads_more (λ end bs. behind c.loop-left.bytes (run_at end c.loop-left.left c.in_ok-present.present bs)) c.loop-left.invariant.leads c.in_ok-present.ensures.reads (λ end bs rest here h. ap (behind c.loop-left.bytes) (run_opens end c.loop-left.left c.loop-left.block bs c.in_ok-present.present rest c.loop-left-test.true h)) (λ end bs here is. run_unopened c.loop-left.bytes end c.loop-left.left c.loop-left.block bs (inside short) c.loop-left-test.true is) in
          leads_more _ opens c.in_ok-piece.ensures.reads (λ end bs rest here h. rw c.in_ok-add_piece.ensures
          (piece_next c.loop-left.bytes end c.min-more.result c.loop-left.left c.in_ok-present.present bs c.in_ok-piece.piece rest (omega (arith, c.min-more.ensures)) (omega (arith, c.min-more.ensures)) (rw c.from.ensures at h)))
          (λ end bs here is. piece_err c.loop-left.bytes end c.min-more.result c.loop-left.left c.in_ok-present.present bs short (omega (arith, c.min-more.ensures)) (omega (arith, c.min-more.ensures)) (rw c.from.ensures at is));
    }

pub returns-clause-reads : goal.returns-clause-reads
returns-clause-reads g c =
    let none : c.loop-left.left ≡ 0 = omega (arith, c.loop-left-test.false) in
    leads_done c.loop-left.invariant.leads (λ end bs. ap (λ n. behind c.loop-left.bytes (run_at end n c.loop-left.block bs)) none ∙ run_end c.loop-left.bytes end c.loop-left.block bs)

pub returns-in_err-present-clause-stops : goal.returns-in_err-present-clause-stops
returns-in_err-present-clause-stops g c = want_raised c.from_residual.result c.from_residual.ensures.1 (want_loop_stops c.loop-left.invariant.leads (λ end bs f here is. run_unopened c.loop-left.bytes end c.loop-left.left c.loop-left.block bs f c.loop-left-test.true is) c.in_err-present.ensures.stops)

pub returns-in_err-piece-clause-stops : goal.returns-in_err-piece-clause-stops
returns-in_err-piece-clause-stops g c =
    let more = leads_more (λ end bs. behind c.loop-left.bytes (run_at end c.loop-left.left c.in_ok-present.present bs)) c.loop-left.invariant.leads c.in_ok-present.ensures.reads (λ end bs rest here h. ap (behind c.loop-left.bytes) (run_opens end c.loop-left.left c.loop-left.block bs c.in_ok-present.present rest c.loop-left-test.true h)) (λ end bs here is. run_unopened c.loop-left.bytes end c.loop-left.left c.loop-left.block bs (inside short) c.loop-left-test.true is) in
    want_raised c.from_residual-in_err-piece.result c.from_residual-in_err-piece.ensures.1 (inside_loop_stops more
    (λ end bs f here is. piece_err c.loop-left.bytes end c.min-more.result c.loop-left.left c.in_ok-present.present bs f (omega (arith, c.min-more.ensures)) (omega (arith, c.min-more.ensures)) is) (rw c.from.ensures at c.in_err-piece.ensures.stops))

pub returns-in_err-add_piece-clause-stops : goal.returns-in_err-add_piece-clause-stops
returns-in_err-add_piece-clause-stops g c =
    let more = leads_more (λ end bs. behind c.loop-left.bytes (run_at end c.loop-left.left c.in_ok-present.present bs)) c.loop-left.invariant.leads c.in_ok-present.ensures.reads (λ end bs rest here h. ap (behind c.loop-left.bytes) (run_opens end c.loop-left.left c.loop-left.block bs c.in_ok-present.present rest c.loop-left-test.true h)) (λ end bs here is. run_unopened c.loop-left.bytes end c.loop-left.left c.loop-left.block bs (inside short) c.loop-left-test.true is) in
    want_raised c.from_residual-in_err-add_piece.result c.from_residual-in_err-add_piece.ensures.1 (inside_loop_stops more
    (λ end bs f here is. piece_err c.loop-left.bytes end c.min-more.result c.loop-left.left c.in_ok-present.present bs f (omega (arith, c.min-more.ensures)) (omega (arith, c.min-more.ensures)) is) (took (rw c.from.ensures at c.in_ok-piece.ensures.reads)))
