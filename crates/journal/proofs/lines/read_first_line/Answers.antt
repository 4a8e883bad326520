use Rattle.journal.specs.Grammar.{SpellsConfig, ConfigWords}
use Rattle.journal.proofs.Refusing.{finds_same}
use Rattle.journal.proofs.EventLines.{config_to_parts, config_from_parts}
use Rattle.journal.proofs.lines.read_first_line.Goals as goal

pub returns : goal.returns
returns c = finds_same ConfigWords SpellsConfig c.config_of.result _ c.args.line.now (λ config. config_from_parts config c.args.line.now) (λ config. config_to_parts config c.args.line.now)
    (rw c.new.ensures at c.config_of.ensures)
