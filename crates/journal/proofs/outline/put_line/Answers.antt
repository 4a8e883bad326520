use Rattle.std.proofs.Common.{◌∷◌, [], map, refl}
use Rattle.std.specs.List.{join_with_byte}
use Rattle.history.specs.Texts.{line}
use Rattle.journal.specs.Rows.{word_text}
use Rattle.journal.proofs.Fronts.{on_err, front_first}
use Rattle.journal.proofs.outline.put_line.Goals as goal

pub returns-in_err-put_words-clause-err : goal.returns-in_err-put_words-clause-err
returns-in_err-put_words-clause-err c =
    let words = map word_text c.args.words.now in
    on_err c.from_residual.result (front_first c.args.out.now (join_with_byte 32 words) (10 ∷ []) c.put_words.new.out (line words) refl (c.in_err-put_words.ensures {u = tt}).err)
