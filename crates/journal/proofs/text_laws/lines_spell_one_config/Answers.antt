use Rattle.journal.proofs.Laws.{config_once}
use Rattle.journal.proofs.text_laws.lines_spell_one_config.Goals as goal

pub returns : goal.returns
returns c line config other of_config of_other = config_once other config line of_other of_config
