-- One command after another is declared.
use Rattle.std.proofs.Common.{◌≡◌, ◌<◌, ◌≤◌, ◌+◌, ℕ, zero, suc, ◌∷◌, [], List, fold, map, drop, length, get_or, refl, ap, arith}
use Rattle.clap.specs.Words.{App}
use Rattle.rmi_words.specs.Entries.{entry_of}
use Rattle.rmi_words.specs.Program.{with_command}
use Rattle.rmi_words.specs.declared.table.CommandEntry.{CommandEntry}

more : (a b : App) (xs : List CommandEntry) (i : ℕ) (d : CommandEntry) → i < length xs → b ≡ with_command a (entry_of (get_or xs i d))
    → fold with_command b (map entry_of (drop (suc i) xs)) ≡ fold with_command a (map entry_of (drop i xs))
more a b [] i d less is = absurd (omega arith)
more a b (x ∷ xs) zero d less is = ap (λ (y : App). fold with_command y (map entry_of xs)) is
more a b (x ∷ xs) (suc i) d less is = more a b xs i d (omega arith) is

pub one_more : (a b : App) (xs : List CommandEntry) (i : ℕ) (d : CommandEntry) → i < length xs → b ≡ with_command a (entry_of (get_or xs i d))
    → fold with_command b (map entry_of (drop (i + 1) xs)) ≡ fold with_command a (map entry_of (drop i xs))
one_more a b xs i d less is =
    let next : i + 1 ≡ suc i = omega arith in
    rw next (more a b xs i d less is)

pub no_more : (a : App) (xs : List CommandEntry) (i : ℕ) → length xs ≤ i → fold with_command a (map entry_of (drop i xs)) ≡ a
no_more a [] zero less = refl
no_more a [] (suc i) less = refl
no_more a (x ∷ xs) zero less = absurd (omega (arith, less))
no_more a (x ∷ xs) (suc i) less = no_more a xs i (omega (arith, less))
