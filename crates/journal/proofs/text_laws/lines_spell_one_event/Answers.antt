use Rattle.journal.proofs.Laws.{event_once}
use Rattle.journal.proofs.text_laws.lines_spell_one_event.Goals as goal

pub returns : goal.returns
returns c space line event other of_event of_other = event_once space other event line of_other of_event
