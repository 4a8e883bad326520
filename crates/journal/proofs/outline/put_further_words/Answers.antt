use Rattle.journal.specs.Rows.{further_text}
use Rattle.journal.proofs.Fronts.{on_err, front_within}
use Rattle.journal.proofs.outline.put_further_words.Goals as goal

pub returns-in_err-put_further_word-clause-err : goal.returns-in_err-put_further_word-clause-err
returns-in_err-put_further_word-clause-err c = on_err c.from_residual.result
    (front_within further_text c.args.out.now c.args.words.now c.loop-word.word-index c.loop-word.out c.put_further_word.new.out c.word-item.result
    c.loop-word-test.true c.loop-word.invariant.0 c.word-item.is (c.in_err-put_further_word.ensures {u = tt}).err)
