use Rattle.journal.proofs.Written.{event_spelled}
use Rattle.journal.proofs.text_laws.event_texts_spell.Goals as goal

pub returns : goal.returns
returns c space event fits = event_spelled space event fits
