use Rattle.std.proofs.Common.{rules, w64}
use Rattle.ser_read.proofs.NumberRuns.{words_put}
use Rattle.ser_read.proofs.numbers.I64Number.append_block.Goals as goal

pub returns : goal.returns
returns c = words_put w64 c.args.count c.args.bytes.now c.args.numbers.now c.be_words64.new.out c.append.new.self _ c.be_words64.ensures c.in_ok-append.ensures.ok (search rules)
