use Rattle.std.proofs.Common.{◌+◌, ◌++◌, ◌∷◌, List, ℕ, take, ap, sym, ◌∙◌}
use Rattle.std.proofs.lemmas.List.{take_rest}
use Rattle.journal.proofs.Splitting.{lacks_nowhere, searched_at}
use Rattle.journal.proofs.lines.split_line.Goals as goal

pub returns-in_err-at : goal.returns-in_err-at
returns-in_err-at c = rw c.from_residual.ensures (lacks_nowhere 10 c.args.bytes.now (c.in_err-at.ensures {u = tt}))

pub returns : goal.returns
returns c =
    let found = c.in_ok-at.ensures {u = tt} in
    let at_lf = searched_at 10 c.args.bytes.now c.in_ok-at.at found.0 found.1 in
    (at_lf.0, at_lf.1 ∙ ap (λ (xs : List ℕ). take c.in_ok-at.at c.args.bytes.now ++ 10 ∷ xs) (sym (take_rest c.args.bytes.now (c.in_ok-at.at + 1))))
