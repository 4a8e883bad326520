use Rattle.std.proofs.Common.{◌≡◌, ◌<◌, ◌∙◌, sym, rules, length}
use Rattle.ser_write.proofs.Begins.{begins_more}
use Rattle.ser_write.proofs.Cuts.{blocks_next, blocks_none, blocks_less}
use Rattle.ser_write.proofs.pieces.put_blocks.Goals as goal

pub loop-rest-preserved : goal.loop-rest-preserved
loop-rest-preserved c =
    let some : 0 < length c.loop-rest.rest.now = search rules in
    record {
      written = blocks_next c.loop-rest.out c.put_block.new.out c.loop-rest.rest.now c.cut.result.0.now c.cut.result.1.now some c.in_ok-put_block.ensures.written c.cut.ensures.front c.cut.ensures.back ∙ c.loop-rest.invariant.written;
      kept = begins_more c.args.out.now c.loop-rest.out c.put_block.new.out _ c.loop-rest.invariant.kept c.in_ok-put_block.ensures.written;
    }

pub returns-clause-written : goal.returns-clause-written
returns-clause-written c =
    let none : length c.loop-rest.rest.now ≡ 0 = search rules in
    sym (blocks_none c.loop-rest.out c.loop-rest.rest.now none) ∙ c.loop-rest.invariant.written

pub loop-rest-smaller : goal.loop-rest-smaller
loop-rest-smaller c =
    let some : 0 < length c.loop-rest.rest.now = search rules in
    blocks_less c.loop-rest.rest.now c.cut.result.1.now some c.cut.ensures.back
