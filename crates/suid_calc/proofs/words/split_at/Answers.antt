use Rattle.std.proofs.Common.{arith, sym, ◌+◌}
use Rattle.std.proofs.lemmas.List.{take_rest}
use Rattle.suid_calc.proofs.Loops.{split_found, split_nowhere}
use Rattle.suid_calc.proofs.words.split_at.Goals as goal

pub returns-then-b-byte : goal.returns-then-b-byte
returns-then-b-byte c =
    rw (take_rest c.args.text.now (c.loop-i.i + 1)) (sym (split_found c.args.byte c.loop-i.i c.args.text.now (omega arith) c.loop-i.invariant c.if-b-byte.true))

pub returns : goal.returns
returns c = sym (split_nowhere c.args.byte c.args.text.now (λ k below. c.loop-i.invariant k (omega arith)))
