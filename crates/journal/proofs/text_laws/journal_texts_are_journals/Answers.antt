use Rattle.journal.proofs.Ended.{journal_spelled}
use Rattle.journal.proofs.text_laws.journal_texts_are_journals.Goals as goal

pub returns : goal.returns
returns c config events ids fits fit = journal_spelled config events ids fits fit
