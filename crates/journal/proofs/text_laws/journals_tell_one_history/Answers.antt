use Rattle.journal.proofs.Laws.{journal_once}
use Rattle.journal.proofs.text_laws.journals_tell_one_history.Goals as goal

pub returns : goal.returns
returns c bytes config other events others of_events of_others = journal_once bytes other config others events of_others of_events
