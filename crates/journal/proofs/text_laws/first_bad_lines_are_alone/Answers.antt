use Rattle.journal.proofs.Laws.{bad_once, bad_is_no_journal}
use Rattle.journal.proofs.text_laws.first_bad_lines_are_alone.Goals as goal

pub returns : goal.returns
returns c space bytes rest events front bad =
    (λ others left front2 bad2. bad_once space others events bytes left rest front2 bad2 front bad, λ all of_all. bad_is_no_journal space events bytes rest front bad all of_all)
