use Rattle.std.proofs.Common.{◌≡◌, ◌∙◌, ap, arith}
use Rattle.stream_grammar.specs.Spelled.{writers}
use Rattle.ser_write.proofs.Cuts.{up_none, up_zero}
use Rattle.ser_write.proofs.pieces.writers_up.Goals as goal

pub returns-in-None : goal.returns-in-None
returns-in-None c =
    let none = up_none c.args.nodes.now c.loop-left.left c.loop-left.slot c.loop-left-test.true c.in-None.ensures in
    rw none at c.loop-left.invariant

pub returns : goal.returns
returns c =
    let none : c.loop-left.left ≡ 0 = omega (arith, c.loop-left-test.false) in
    let e = ap (λ n. writers c.args.nodes.now n c.loop-left.slot) none ∙ up_zero c.args.nodes.now c.loop-left.slot in
    rw e at c.loop-left.invariant
