use Rattle.history.proofs.GoneLaws.{gone-since}
use Rattle.history.proofs.laws.what_is_gone_was_withdrawn_since_the_last_turn.Goals as goal

pub returns : goal.returns
returns c = gone-since
