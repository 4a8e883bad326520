use Rattle.std.proofs.Common.{w8, w64, FitsSigned, SFits}
use Rattle.std.specs.Int.{cast_signed}
use Rattle.std.proofs.lemmas.Int.{to_z-of_z}
use Rattle.std.proofs.Math.Facts.{sfits_widen}
use Rattle.rmi_words.proofs.SignedNumbers.{byte_fits, same_signed}
use Rattle.rmi_words.proofs.signed.read_byte.Goals as goal

pub returns-in-Err : goal.returns-in-Err
returns-in-Err c bits spells =
    let spelled = c.in_ok-read_long.ensures {u = tt} in
    let small : FitsSigned w8 (cast_signed w8 bits) = byte_fits bits spells.0 in
    let wide : SFits w64 (cast_signed w8 bits) = sfits_widen tt small in
    let same = same_signed c.args.word.now c.in_ok-read_long.field-0 (cast_signed w8 bits) spelled.0 wide spelled.1 spells.1 in
    c.in-Err.ensures {u = tt} (rw (to_z-of_z w64 c.in_ok-read_long.field-0 spelled.0, same) small)
