use Rattle.std.proofs.Common.{◌+◌, ◌∷◌, take, sym, ap, ◌∙◌, List, ℕ}
use Rattle.std.proofs.lemmas.List.{take_rest}
use Rattle.journal.specs.Parts.{parts}
use Rattle.journal.proofs.Splitting.{parts_at, parts_last}
use Rattle.lease_world.proofs.words.split_word.Goals as goal

pub returns-in-Some : goal.returns-in-Some
returns-in-Some c =
    let bytes = c.args.text.now in
    parts_at 32 bytes c.in-Some.at (sym c.find_space.ensures ∙ c.in-Some.is)
    ∙ ap (λ (xs : List ℕ). take c.in-Some.at bytes ∷ parts 32 xs) (sym (take_rest bytes (c.in-Some.at + 1)))

pub returns-in-None : goal.returns-in-None
returns-in-None c = parts_last 32 c.args.text.now (sym c.find_space.ensures ∙ c.in-None.is)
