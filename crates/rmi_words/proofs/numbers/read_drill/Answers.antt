use Rattle.std.proofs.Common.{ℕ, arith, subst}
use Rattle.journal.proofs.Decimals.{same_number}
use Rattle.rmi_words.specs.Command.{AreInRange}
use Rattle.rmi_words.proofs.numbers.read_drill.Goals as goal

pub returns-else-are_in_range-clause-none : goal.returns-else-are_in_range-clause-none
returns-else-are_in_range-clause-none c a b in_range is_seed is_rounds =
    let spelled = c.in_ok-first.ensures {u = tt} in
    let spelled2 = c.in_ok-second.ensures {u = tt} in
    let first = same_number c.args.seed.now a c.in_ok-first.first (omega (arith, in_range.seed_fits)) (omega (arith, spelled.0)) is_seed spelled.1 in
    let second = same_number c.args.rounds.now b c.in_ok-second.second (omega (arith, in_range.most)) (omega (arith, spelled2.0)) is_rounds spelled2.1 in
    let P : ℕ → Type 0 = λ n. AreInRange n b in
    let Q : ℕ → Type 0 = λ n. AreInRange c.in_ok-first.first n in
    let holds = c.are_in_range.ensures.1 (subst Q second (subst P first in_range)) in cc
