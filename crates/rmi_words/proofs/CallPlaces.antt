-- How many words `call` takes, and what is found at their places: the fifth place takes all words from there on.
use Rattle.std.proofs.Common.{◌≡◌, ◌∙◌, ◌≤◌, true≢false, false, ℕ, ◌∷◌, ◌++◌, [], List, length, codes, drop, Some, None, refl, ap, sym, subst, arith}
use Rattle.std.specs.Prelude.{slice_get}
use Rattle.std.proofs.lemmas.List.{append_assoc}
use Rattle.clap.specs.Facts.{parser_of_value}
use Rattle.clap.specs.Faults.{defaults_fault}
use Rattle.clap.specs.Kinds.{Kinds}
use Rattle.clap.specs.Simple.{Shape}
use Rattle.clap.specs.Values.{reading_of}
use Rattle.clap.specs.Walk.{Row, Rule, Text, Walk, finished, positional}
use Rattle.clap.specs.declared.builder.value_parser.ValueParser.TheVariants as parsers
use Rattle.clap.specs.declared.parser.matches.ValueSource.TheVariants.{CommandLine}
use Rattle.method_hash.specs.declared.method.Method.{Method}
use Rattle.rmi_words.proofs.Levels.{is_right, level_with}
use Rattle.rmi_words.proofs.Places.{leaf, level_of, rows_of}
use Rattle.rmi_words.proofs.Walking.{fed, fed_all, fed_fault}
use Rattle.rmi_words.specs.CallWords.{AreArguments, IsCall, IsMethodOf}
use Rattle.rmi_words.specs.Clients.{ClientWords, IsNamedIn, IsTextIn, placed_words}
use Rattle.rmi_words.specs.Entries.{call_entry}
use Rattle.rmi_words.specs.Options.{IsSmallOf}
use Rattle.rmi_words.specs.Values.{Given, IsCallOf, given_in}
use Rattle.rmi_words.specs.declared.call_words.CallWords.{CallWords}
use Rattle.rmi_words.specs.declared.client.ServerAddress.{ServerAddress}

-- ---- where the walk stands between two arguments

abbrev shape : Shape
shape = leaf call_entry

abbrev rules : List Rule
rules = shape.rules

-- what is found at a place
abbrev row : Text → List Text → Row
row id values = record {
  id = id;
  values = values;
  count = None;
  source = Some CommandLine;
  reading = reading_of (parser_of_value (Some parsers.String));
}

abbrev argument_rows : List Text → List Row
argument_rows [] = []
argument_rows (v ∷ vs) = row (codes "ARG") (v ∷ vs) ∷ []

-- What is found in four words and arguments.
abbrev rows_with : Text → Text → Text → Text → List Text → List Row
rows_with a b c d arguments = row (codes "HOST") (a ∷ []) ∷ row (codes "PORT") (b ∷ []) ∷ row (codes "NAME") (c ∷ []) ∷ row (codes "METHOD") (d ∷ []) ∷ argument_rows arguments

-- The walk after four words, arguments that are done, and one that is pending.
abbrev standing : Text → Text → Text → Text → List Text → Text → Walk
standing a b c d done last = record {
  held = record { rows = rows_with a b c d done; pending = Some (codes "ARG", last ∷ []); skip = 0 };
  waiting = positional;
  position = 5;
  is_trailing = false;
  stopped = None;
}

module _ (a b c d : Text) where
  one_fed : (done : List Text) (last x : Text) → fed rules x (standing a b c d done last) ≡ standing a b c d (done ++ last ∷ []) x
  one_fed [] last x = refl
  one_fed (y ∷ ys) last x = refl

  -- The walk stands behind these arguments.
  record Ends (at : Walk) (arguments : List Text) : Type 0 where
    done : List Text
    last : Text
    is : at ≡ standing a b c d done last
    are : done ++ last ∷ [] ≡ arguments

  ends : (done : List Text) (last : Text) (xs : List Text) → Ends (fed_all rules (standing a b c d done last) xs) (done ++ last ∷ xs)
  ends done last [] = record { done = done; last = last; is = refl; are = refl }
  ends done last (x ∷ xs) =
      let rest = ends (done ++ last ∷ []) x xs in record {
        done = rest.done;
        last = rest.last;
        is = ap (λ (at : Walk). fed_all rules at xs) (one_fed done last x) ∙ rest.is;
        are = rest.are ∙ append_assoc done (last ∷ []) (x ∷ xs);
      }

  -- No argument is wrong.
  no_fault : (done : List Text) (last : Text) (xs : List Text) → fed_fault shape (standing a b c d done last) xs ≡ []
  no_fault done last [] = refl
  no_fault done last (x ∷ xs) = ap (λ (at : Walk). fed_fault shape at xs) (one_fed done last x) ∙ no_fault (done ++ last ∷ []) x xs

  ended : (done : List Text) (last : Text) → level_with shape [] [] false (standing a b c d done last).held ≡ []
  unfolding defaults_fault
  ended [] last = refl
  ended (y ∷ ys) last = refl

  level_is : (w : Text) (xs : List Text) → level_of call_entry (a ∷ b ∷ c ∷ d ∷ w ∷ xs) ≡ []
  unfolding level_of
  level_is w xs =
      let e = ends [] w xs in
      ap (λ (k : Kinds). level_with shape k [] false (fed_all rules (standing a b c d [] w) xs).held) (no_fault [] w xs)
      ∙ ap (λ (at : Walk). level_with shape [] [] false at.held) e.is
      ∙ ended e.done e.last

  found_at_end : (done : List Text) (last : Text) → finished rules (standing a b c d done last).held ≡ rows_with a b c d (done ++ last ∷ [])
  found_at_end [] last = refl
  found_at_end (y ∷ ys) last = refl

  rows_are : (ws : List Text) → rows_of call_entry (a ∷ b ∷ c ∷ d ∷ ws) ≡ rows_with a b c d ws
  unfolding rows_of
  rows_are [] = refl
  rows_are (w ∷ xs) =
      let e = ends [] w xs in
      ap (λ (at : Walk). finished rules at.held) e.is ∙ found_at_end e.done e.last ∙ ap (rows_with a b c d) e.are

-- ---- the words

pub call_fits : (ws : List Text) → level_of call_entry ws ≡ [] → 4 ≤ length ws
unfolding level_of defaults_fault
call_fits [] ok = absurd (true≢false (ap is_right (sym ok)))
call_fits (a ∷ []) ok = absurd (true≢false (ap is_right (sym ok)))
call_fits (a ∷ b ∷ []) ok = absurd (true≢false (ap is_right (sym ok)))
call_fits (a ∷ b ∷ c ∷ []) ok = absurd (true≢false (ap is_right (sym ok)))
call_fits (a ∷ b ∷ c ∷ d ∷ ws) ok = omega arith

four_pass : (a b c d : Text) → level_of call_entry (a ∷ b ∷ c ∷ d ∷ []) ≡ []
unfolding level_of defaults_fault
four_pass a b c d = refl

pub call_passes : (ws : List Text) → 4 ≤ length ws → level_of call_entry ws ≡ []
call_passes [] some = absurd (omega (arith, some))
call_passes (a ∷ []) some = absurd (omega (arith, some))
call_passes (a ∷ b ∷ []) some = absurd (omega (arith, some))
call_passes (a ∷ b ∷ c ∷ []) some = absurd (omega (arith, some))
call_passes (a ∷ b ∷ c ∷ d ∷ []) some = four_pass a b c d
call_passes (a ∷ b ∷ c ∷ d ∷ w ∷ xs) some = level_is a b c d w xs

-- What is given is at the places of these words.
record IsAtPlaces (given : Given) (ws : List Text) : Type 0 where
  host : given.value (codes "HOST") ≡ slice_get ws 0
  port : given.value (codes "PORT") ≡ slice_get ws 1
  name : given.value (codes "NAME") ≡ slice_get ws 2
  method : given.value (codes "METHOD") ≡ slice_get ws 3
  arguments : given.arguments ≡ drop 4 ws

with_arguments : (a b c d : Text) (ws : List Text) → IsAtPlaces (given_in (rows_with a b c d ws)) (a ∷ b ∷ c ∷ d ∷ ws)
with_arguments a b c d [] = record { host = refl; port = refl; name = refl; method = refl; arguments = refl }
with_arguments a b c d (w ∷ ws) = record { host = refl; port = refl; name = refl; method = refl; arguments = refl }

at_places : (ws : List Text) → 4 ≤ length ws → IsAtPlaces (given_in (rows_of call_entry ws)) ws
at_places [] some = absurd (omega (arith, some))
at_places (a ∷ []) some = absurd (omega (arith, some))
at_places (a ∷ b ∷ []) some = absurd (omega (arith, some))
at_places (a ∷ b ∷ c ∷ []) some = absurd (omega (arith, some))
at_places (a ∷ b ∷ c ∷ d ∷ ws) some =
    subst (λ (rows : List Row). IsAtPlaces (given_in rows) (a ∷ b ∷ c ∷ d ∷ ws)) (sym (rows_are a b c d ws)) (with_arguments a b c d ws)

-- ---- what `call` is told

same_named : (server : ServerAddress) (name : List ℕ) (x y : ClientWords) → x.host ≡ y.host → x.port ≡ y.port → x.name ≡ y.name → IsNamedIn server name x → IsNamedIn server name y
same_named server name x y h p n told = record {
  server_is = record { host_is = subst (IsTextIn server.host) h told.server_is.host_is; port_is = subst (IsSmallOf server.port) p told.server_is.port_is };
  name_is = subst (IsTextIn name) n told.name_is;
}

pub call_to : (call : CallWords) (ws : List Text) → 4 ≤ length ws → IsCallOf call (given_in (rows_of call_entry ws))
    → IsNamedIn call.server call.name (placed_words ws) × IsMethodOf call.method (slice_get ws 3) × AreArguments call.method.params call.arguments (drop 4 ws)
call_to call ws some told =
    let at = at_places ws some in (
      same_named call.server call.name _ _ at.host at.port at.name told.name_is,
      subst (IsMethodOf call.method) at.method told.method_is,
      subst (AreArguments call.method.params call.arguments) at.arguments told.arguments_are,
    )

-- The word METHOD is the fourth, and there.
pub four_words : (method : Method) (ws : List Text) → IsMethodOf method (slice_get ws 3) → 4 ≤ length ws
four_words method [] is = absurd is
four_words method (a ∷ []) is = absurd is
four_words method (a ∷ b ∷ []) is = absurd is
four_words method (a ∷ b ∷ c ∷ []) is = absurd is
four_words method (a ∷ b ∷ c ∷ d ∷ ws) is = omega arith

pub call_from : (call : CallWords) (words : List (List ℕ)) (asked : IsCall call words) → IsCallOf call (given_in (rows_of call_entry asked.rest))
call_from call words asked =
    let at = at_places asked.rest (four_words call.method asked.rest asked.method_is) in record {
      name_is = same_named call.server call.name _ _ (sym at.host) (sym at.port) (sym at.name) asked.name_is;
      method_is = subst (IsMethodOf call.method) (sym at.method) asked.method_is;
      arguments_are = subst (AreArguments call.method.params call.arguments) (sym at.arguments) asked.arguments_are;
    }
