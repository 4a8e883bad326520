use Rattle.std.proofs.Common.{w64, SFits}
use Rattle.std.proofs.lemmas.Int.{to_z-of_z}
use Rattle.std.proofs.Math.Facts.{sfits_widen}
use Rattle.rmi_words.proofs.SignedNumbers.{same_signed}
use Rattle.rmi_words.proofs.signed.read_short.Goals as goal

pub returns-in-Err : goal.returns-in-Err
returns-in-Err c n spells =
    let spelled = c.in_ok-read_long.ensures {u = tt} in
    let wide : SFits w64 n = sfits_widen tt spells.0 in
    let same = same_signed c.args.word.now c.in_ok-read_long.field-0 n spelled.0 wide spelled.1 spells.1 in
    c.in-Err.ensures {u = tt} (rw (to_z-of_z w64 c.in_ok-read_long.field-0 spelled.0, same) spells.0)
