use Rattle.std.proofs.Common.{◌<◌, ◌-◌, sym, ◌∙◌, length, arith, None, Some}
use Rattle.ser_values.proofs.Shapes.{chain_next}
use Rattle.ser_values.proofs.Lists.{slice_get-or}
use Rattle.ser_values.proofs.loose.Loose.fits_chain.Goals as goal

pub loop-i-preserved : goal.loop-i-preserved
loop-i-preserved c =
    let le = c.loop-i.invariant.within in
    let some = c.loop-i-test.true in
    let lt : c.loop-i.i - 1 < length c.args.parts.now = omega arith in
    let part = slice_get-or c.args.parts.now (c.loop-i.i - 1) c.index-parts-i.result lt c.index-parts-i.is in
    let next = chain_next c.args.self.now.nodes.now c.args.parts.now c.loop-i.i c.index-parts-i.result c.loop-i.slot (Some c.in-Some.parent) some part c.in-Some.ensures in
    record { within = omega arith; told = sym next ∙ c.loop-i.invariant.told }

pub returns-in-None : goal.returns-in-None
returns-in-None c =
    let le = c.loop-i.invariant.within in
    let some = c.loop-i-test.true in
    let lt : c.loop-i.i - 1 < length c.args.parts.now = omega arith in
    let part = slice_get-or c.args.parts.now (c.loop-i.i - 1) c.index-parts-i.result lt c.index-parts-i.is in
    let next = chain_next c.args.self.now.nodes.now c.args.parts.now c.loop-i.i c.index-parts-i.result c.loop-i.slot None some part c.in-None.ensures in
    sym next ∙ c.loop-i.invariant.told
