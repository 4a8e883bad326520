-- What `clap` found as a command, by what its matches answer.
use Rattle.std.proofs.Common.{◌≡◌, ap, ap₂, codes, ℕ, List, [], Option, Some, None, Result, Ok, Err, sym, subst}
use Rattle.std.specs.Prelude.{option_map, unwrap_or}
use Rattle.clap.proofs.WalkLemmas.{first_value-rows, raw_values-rows}
use Rattle.clap.specs.Words.{Row, all_of, Text, first_of, found_of, rows_of, subcommand_name_of, subcommand_rows_of}
use Rattle.clap.specs.declared.ArgMatches.{ArgMatches}
use Rattle.rmi_words.specs.Clients.{Reads}
use Rattle.rmi_words.specs.Values.{Given, IsCommandIn, IsCommandOf, Values, arguments_of, given_in, given_of, values_of}
use Rattle.rmi_words.specs.declared.command.Command.{Command}
use Rattle.rmi_words.specs.declared.command.WordsFault.{WordsFault}

some_same : {A : Type 0} (a b : A) → Some a ≡ Some b → a ≡ b
some_same a b e = cc

some_never : {A : Type 0} (a : A) → Some a ≡ None → ⊥
some_never a e = cc

pair_is : {B R : Type 0} (f : B → Text) (g : B → R) (o : Option B) (n : Text) (rows : R) → Some n ≡ option_map f o → Some rows ≡ option_map {T = Text × R} (λ p. p.1) (option_map {T = B} {U = Text × R} (λ b. (f b, g b)) o)
    → option_map {T = B} {U = Text × R} (λ b. (f b, g b)) o ≡ Some (n, rows)
pair_is f g None n rows e d = absurd (some_never _ e)
pair_is f g (Some b) n rows e d =
    let name : n ≡ f b = some_same _ _ e in
    let found : rows ≡ g b = some_same _ _ d in
    ap₂ (λ x y. Some (x, y)) (sym name) (sym found)

values_are : (m : ArgMatches) → values_of m ≡ (λ name. first_of name (rows_of (found_of m)))
values_are m i name = first_value-rows (found_of m) name i

arguments_are : (m : ArgMatches) → arguments_of m ≡ unwrap_or (all_of (codes "ARG") (rows_of (found_of m))) []
arguments_are m = ap (λ (o : Option (List Text)). unwrap_or o []) (raw_values-rows (found_of m) (codes "ARG"))

abbrev given_by : Values → List (List ℕ) → Given
given_by value arguments = record { value = value; arguments = arguments }

given_is : (m : ArgMatches) → given_of m ≡ given_in (rows_of (found_of m))
given_is m = ap₂ given_by (values_are m) (arguments_are m)

in_some : (name : Text) (rows : List Row) (result : Result Command WordsFault) → Reads (IsCommandOf name) result (given_in rows) → Reads IsCommandIn result (Some (name, rows))
in_some name rows (Ok c) finds = finds
in_some name rows (Err fault) finds = finds

-- What is found by the name and the values is found in the matches.
pub found_in_matches : (m values : ArgMatches) (name : Text) (result : Result Command WordsFault) → Some name ≡ subcommand_name_of m → Some (rows_of (found_of values)) ≡ option_map {T = Text × List Row} (λ p. p.1) (subcommand_rows_of m)
    → Reads (IsCommandOf name) result (given_of values) → Reads IsCommandIn result (subcommand_rows_of m)
found_in_matches m values name result is rows_are finds =
    let rows = rows_of (found_of values) in
    let sub : subcommand_rows_of m ≡ Some (name, rows) = pair_is _ _ _ name rows is rows_are in
    subst (λ (o : Option (Text × List Row)). Reads IsCommandIn result o) (sym sub)
    (in_some name rows result (subst (λ (g : Given). Reads (IsCommandOf name) result g) (given_is values) finds))
