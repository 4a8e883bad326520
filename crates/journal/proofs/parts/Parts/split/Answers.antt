use Rattle.std.proofs.Common.{◌+◌, ◌∷◌, take, sym, ap, ◌∙◌, List, ℕ}
use Rattle.std.proofs.lemmas.List.{take_rest}
use Rattle.journal.specs.Parts.{parts, parts_left}
use Rattle.journal.proofs.Splitting.{parts_at, parts_last}
use Rattle.journal.proofs.parts.Parts.split.Goals as goal

pub returns-in-Some : goal.returns-in-Some
returns-in-Some c =
    let bytes = c.in_ok-rest.rest.now in
    let separator = c.self.inside.separator in
    sym c.self.view_is ∙ ap (parts_left separator) (c.in_ok-rest.was {u = tt})
    ∙ parts_at separator bytes c.in-Some.at (sym (c.in-Some.ensures {u = tt}))
    ∙ ap (λ (xs : List ℕ). take c.in-Some.at bytes ∷ parts separator xs) (sym (take_rest bytes (c.in-Some.at + 1)))

pub returns-in-None : goal.returns-in-None
returns-in-None c =
    sym c.self.view_is ∙ ap (parts_left c.self.inside.separator) (c.in_ok-rest.was {u = tt})
    ∙ parts_last c.self.inside.separator c.in_ok-rest.rest.now (sym (c.in-None.ensures {u = tt}))
