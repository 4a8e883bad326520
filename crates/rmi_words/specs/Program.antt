-- What `clap` reads of the program's commands.
use Rattle.std.specs.Prelude.{◌≡◌, ◌==◌, ℕ, Bool, Option, Some, List, [], ◌∷◌, fold, true, false, codes}
use Rattle.clap.specs.Kinds.{Kinds}
use Rattle.clap.specs.Walk.{Row, Rule, Text}
use Rattle.clap.specs.Simple.{App, new_app, new_shape, new_rule, subcommand_of, subcommand_rows_of, with_subcommand, with_rule}
use Rattle.clap.specs.Faults.{fault_of}
use Rattle.clap.specs.declared.ArgMatches.{ArgMatches}
use Rattle.clap.specs.declared.builder.action.ArgAction.{ArgAction}
use Rattle.clap.specs.declared.builder.action.ArgAction.TheVariants.{Set, Append}
use Rattle.rmi_words.specs.Entries.{Word, Entry, entries}

-- At a place stands one word, or any number of them.
abbrev pub action_of_word : Bool → ArgAction
action_of_word true = Append
action_of_word false = Set

-- A word stands at a place of its own, and nowhere else.
abbrev pub rule_of_word : Word → Rule
rule_of_word word = record (new_rule word.name) {
  required = word.required;
  action = Some (action_of_word word.several);
}

-- One word more.
abbrev pub with_word : App → Word → App
with_word a word = with_rule a (rule_of_word word)

-- A command with its words.
abbrev pub app_of_entry : Entry → App
app_of_entry entry = fold with_word (new_app entry.name) entry.words

-- One command more.
abbrev pub with_command : App → Entry → App
with_command a entry = with_subcommand a (app_of_entry entry).top

-- The program without commands: its first word is no program's name, a command has to be there, and there is no help of clap's own.
abbrev pub bare_program : App
bare_program = record {
  top = record (new_shape (codes "rmi")) { no_binary_name = true; disable_help_flag = true; disable_help_subcommand = true; subcommand_required = true };
  subs = [];
}

-- The program with these commands.
abbrev pub app_of_entries : List Entry → App
app_of_entries entries = fold with_command bare_program entries

-- The program with its commands.
abbrev pub program : App
program = app_of_entries entries

-- What `clap` finds wrong in the words.
unfoldable pub faults_in : List (List ℕ) → Kinds
faults_in words = fault_of program words

-- The command that it finds in them, by its name and what stands at its places.
unfoldable pub found_in : List (List ℕ) → Option (Text × List Row)
found_in words = subcommand_of program words

-- `clap` takes the words, and this is the command that it finds.
abbrev pub AreTaken : List (List ℕ) → ArgMatches → Type 0
AreTaken words matches = (faults_in words ≡ []) × (subcommand_rows_of matches ≡ found_in words)

-- The word begins with `-`.
abbrev pub is_option : List ℕ → Bool
is_option [] = false
is_option (x ∷ xs) = x == 45
