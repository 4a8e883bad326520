-- The second line of a summary.
use Rattle.std.specs.Prelude.{ℕ, List, [], ◌∷◌, codes, decimal}
use Rattle.history.specs.Texts.{line}
use Rattle.space.specs.declared.journal_text.Counts.{Counts}

abbrev pub counts_text : Counts → List ℕ
counts_text counts = line (
    codes "objects" ∷ decimal counts.objects ∷ codes "clients" ∷ decimal counts.clients ∷ codes "pairs" ∷ decimal counts.pairs
    ∷ codes "awaiting" ∷ decimal counts.awaiting ∷ codes "names" ∷ decimal counts.names ∷ codes "withdrawn" ∷ decimal counts.withdrawn ∷ [])
