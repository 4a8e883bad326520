use Rattle.std.proofs.Common.{◌≡◌, ◌++◌, map, drop, string_bytes}
use Rattle.std.specs.List.{flat_map}
use Rattle.rmi_words.specs.Entries.{word_of}
use Rattle.rmi_words.specs.HelpText.{line_of}
use Rattle.rmi_words.proofs.help.push_lines.Given as goal

abbrev pub invariant-loop-word : goal.invariant-loop-word
invariant-loop-word l =
    string_bytes l.text ++ flat_map line_of (map word_of (drop l.word-index l.words)) ≡ string_bytes l.initial.text ++ flat_map line_of (map word_of l.words)
