use Rattle.journal.proofs.Written.{config_spelled}
use Rattle.journal.proofs.text_laws.config_texts_spell.Goals as goal

pub returns : goal.returns
returns c config ids fits = config_spelled config ids.unique ids.time fits
