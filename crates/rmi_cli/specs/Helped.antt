-- What `rmi help` writes.
use Rattle.std.specs.Prelude.{◌≡◌, ℕ}
use Rattle.wire_io.specs.Wire.{Wires}
use Rattle.rmi_words.specs.HelpText.{help_text}
use Rattle.rmi_words.specs.declared.command.HelpTopic.{HelpTopic}
use Rattle.rmi_cli.specs.ServedLinks.{Printed}
use Rattle.rmi_cli.specs.Told.{Reported, TellsEnd}
use Rattle.rmi_cli.specs.declared.end.RunEnd.{RunEnd}

-- The text that explains these commands was printed to an end, which is told, where the output had failed so often before and after. Nothing was read.
pub record Helps (topic : HelpTopic) (old new : Wires) (faults faults_after : ℕ) (told : Reported) : Type 0 where
  pub end : RunEnd
  pub printed : Printed old.held new.held faults faults_after (help_text topic) end
  pub tells : TellsEnd told end
  pub unread : new.left ≡ old.left
