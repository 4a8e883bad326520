use Rattle.journal.proofs.OnlyAsks.{no_ask}
use Rattle.journal.proofs.asks.read_ask.Goals as goal

pub returns-in_default-keyword_of : goal.returns-in_default-keyword_of
returns-in_default-keyword_of c is ask spells =
    no_ask c.args.space c.in-Some.word.now c.in-Some.words (c.in_default-keyword_of.ensures {u = tt}) ask (rw (c.in-Some.ensures {u = tt}) at spells)
