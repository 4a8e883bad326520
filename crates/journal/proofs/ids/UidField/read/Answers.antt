use Rattle.std.proofs.Common.{w32, w64}
use Rattle.std.specs.Int.{w16}
use Rattle.std.proofs.lemmas.Int.{to_z-of_z}
use Rattle.std.proofs.lemmas.Result.{err_from_is_err_and}
use Rattle.journal.proofs.Joined.{uid_to_parts, uid_from_parts}
use Rattle.journal.proofs.ids.UidField.read.Goals as goal

pub returns-in_err-unique : goal.returns-in_err-unique
returns-in_err-unique c = let p = err_from_is_err_and c.from_residual.result c.from_residual.ensures.1 in
    rw (p.1, p.2) (λ is uid spells. c.in_err-unique.ensures {u = tt} is (uid.unique, uid.time, uid.count)
    (rw c.new.ensures (uid_to_parts uid c.args.word.now spells)))

pub returns : goal.returns
returns c =
    let known = uid_from_parts (record { unique = c.in_ok-unique.unique; time = c.in_ok-unique.time; count = c.in_ok-unique.count }) c.args.word.now
    (rw c.new.ensures at (c.in_ok-unique.ensures {u = tt})) in
    rw (to_z-of_z w32 c.in_ok-unique.unique known.0.unique, to_z-of_z w64 c.in_ok-unique.time known.0.time, to_z-of_z w16 c.in_ok-unique.count known.0.count) known
