use Rattle.std.proofs.Common.{◌≡◌, false, fold, map, drop}
use Rattle.clap.specs.Words.{app_of}
use Rattle.clap.specs.declared.builder.command.Command.TheViews.{out-Command as fields_of}
use Rattle.rmi_words.specs.Entries.{word_of}
use Rattle.rmi_words.specs.Program.{with_word}
use Rattle.rmi_words.proofs.declared.declared_command.Given as goal

abbrev pub invariant-loop-word : goal.invariant-loop-word
invariant-loop-word l = record {
  app : fold with_word (app_of l.command) (map word_of (drop l.word-index l.word-items)) ≡ fold with_word (app_of l.initial.command) (map word_of l.word-items);
  local : (fields_of l.command).has_globals ≡ false;
}
