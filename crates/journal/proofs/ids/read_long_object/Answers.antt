use Rattle.std.proofs.Common.{w64}
use Rattle.std.proofs.lemmas.Int.{to_z-of_z}
use Rattle.std.proofs.lemmas.Result.{err_from_is_err_and}
use Rattle.journal.proofs.Joined.{long_to_parts, long_from_parts}
use Rattle.journal.proofs.ids.read_long_object.Goals as goal

pub returns-in_err-number : goal.returns-in_err-number
returns-in_err-number c = let p = err_from_is_err_and c.from_residual.result c.from_residual.ensures.1 in
    rw (p.1, p.2) (λ is object spells. c.in_err-number.ensures {u = tt} is (object.number, object.space)
    (rw c.new.ensures (long_to_parts object c.args.word.now spells)))

pub returns : goal.returns
returns c =
    let known = long_from_parts (record { number = c.in_ok-number.number; space = c.in_ok-number.space }) c.args.word.now
    (rw c.new.ensures at (c.in_ok-number.ensures {u = tt})) in
    rw (to_z-of_z w64 c.in_ok-number.number known.0) known
