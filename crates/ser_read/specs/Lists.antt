-- One step for each thing of a list, one after the other.
use Rattle.std.specs.Prelude.{List, [], ◌∷◌, Ok}
use Rattle.stream_grammar.specs.Reading.{◌>>=◌, Step}

unfoldable pub all_at : {A B : Type 0} → (B → Step A) → List B → Step (List A)
all_at step [] now bs = Ok ([], now, bs)
all_at step (b ∷ rest) now bs = step b now bs >>= λ x. all_at step rest x.1 x.2 >>= λ xs. Ok (x.0 ∷ xs.0, xs.1, xs.2)
