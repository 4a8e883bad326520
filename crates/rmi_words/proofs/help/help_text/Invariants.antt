use Rattle.std.proofs.Common.{◌≡◌, ◌++◌, map, drop, string_bytes}
use Rattle.std.specs.List.{flat_map}
use Rattle.rmi_words.specs.Entries.{entry_of}
use Rattle.rmi_words.specs.HelpText.{text_of_entry}
use Rattle.rmi_words.proofs.help.help_text.Given as goal

abbrev pub invariant-loop-entry : goal.invariant-loop-entry
invariant-loop-entry l =
    string_bytes l.text ++ flat_map text_of_entry (map entry_of (drop l.entry-index l.entry-items)) ≡ string_bytes l.initial.text ++ flat_map text_of_entry (map entry_of l.entry-items)
