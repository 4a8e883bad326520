-- What `help` prints.
use Rattle.std.specs.Prelude.{◌≡◌, ℕ, Bool, true, false, List, [], ◌∷◌, ◌++◌, codes, String, string_bytes}
use Rattle.std.specs.List.{flat_map}
use Rattle.rmi_words.specs.Entries.{Word, Entry, entries, answer_entry, serve_entry, host_entry, list_entry, lookup_entry, bind_entry, unbind_entry, call_entry, replay_entry, show_entry, drill_entry, journal_entry, world_entry, suid_entry, suidtext_entry, describe_entry, help_entry}
use Rattle.rmi_words.specs.declared.command.HelpTopic.{HelpTopic}
use Rattle.rmi_words.specs.declared.command.HelpTopic.TheVariants as topics

-- The text is longer by these bytes.
abbrev pub Appends : {Z : Type 0} → String Z → String Z → List ℕ → Type 0
Appends old new bytes = string_bytes new ≡ string_bytes old ++ bytes

-- The commands that are explained.
abbrev pub entries_of : HelpTopic → List Entry
entries_of topics.All = entries
entries_of topics.Answer = answer_entry ∷ []
entries_of topics.Serve = serve_entry ∷ []
entries_of topics.Host = host_entry ∷ []
entries_of topics.List = list_entry ∷ []
entries_of topics.Lookup = lookup_entry ∷ []
entries_of topics.Bind = bind_entry ∷ []
entries_of topics.Unbind = unbind_entry ∷ []
entries_of topics.Call = call_entry ∷ []
entries_of topics.Replay = replay_entry ∷ []
entries_of topics.Show = show_entry ∷ []
entries_of topics.Drill = drill_entry ∷ []
entries_of topics.Journal = journal_entry ∷ []
entries_of topics.World = world_entry ∷ []
entries_of topics.Suid = suid_entry ∷ []
entries_of topics.SuidText = suidtext_entry ∷ []
entries_of topics.Describe = describe_entry ∷ []
entries_of topics.Help = help_entry ∷ []

-- A word in the first line of its command: in brackets where it may be left out, with dots where any number of words may stand.
abbrev pub word_usage : Bool → Bool → List ℕ → List ℕ
word_usage true several name = codes " " ++ name
word_usage false false name = codes " [" ++ name ++ codes "]"
word_usage false true name = codes " [" ++ name ++ codes " ..]"

abbrev pub usage_of : Word → List ℕ
usage_of word = word_usage word.required word.several word.name

-- A word's own line.
abbrev pub text_of_line : List ℕ → List ℕ → List ℕ
text_of_line name says = codes "    " ++ name ++ codes ": " ++ says ++ 10 ∷ []

abbrev pub line_of : Word → List ℕ
line_of word = text_of_line word.name word.says

-- A command: its words, what it does, a line for each word, and an example.
abbrev pub head_of : Entry → List ℕ
head_of entry = (10 ∷ []) ++ entry.name ++ flat_map usage_of entry.words ++ 10 ∷ []

abbrev pub body_of : Entry → List ℕ
body_of entry = codes "    " ++ entry.does ++ (10 ∷ []) ++ flat_map line_of entry.words

abbrev pub text_of_example : List ℕ → List ℕ
text_of_example example = codes "    example: " ++ example ++ 10 ∷ []

abbrev pub text_of_entry : Entry → List ℕ
text_of_entry entry = head_of entry ++ body_of entry ++ text_of_example entry.example

-- The version, and each command that is explained.
abbrev pub help_text : HelpTopic → List ℕ
help_text topic = codes "rmi 0.1.0" ++ (10 ∷ []) ++ flat_map text_of_entry (entries_of topic)
