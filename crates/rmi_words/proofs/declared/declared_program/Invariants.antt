use Rattle.std.proofs.Common.{◌≡◌, fold, map, drop}
use Rattle.clap.specs.Words.{app_of}
use Rattle.rmi_words.specs.Entries.{entry_of}
use Rattle.rmi_words.specs.Program.{with_command}
use Rattle.rmi_words.proofs.declared.declared_program.Given as goal

abbrev pub invariant-loop-entry : goal.invariant-loop-entry
invariant-loop-entry l = fold with_command (app_of l.declared) (map entry_of (drop l.entry-index l.entry-items)) ≡ fold with_command (app_of l.initial.declared) (map entry_of l.entry-items)
