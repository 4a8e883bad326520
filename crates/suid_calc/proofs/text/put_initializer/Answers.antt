use Rattle.suid_calc.proofs.TextLaws.{three}
use Rattle.suid_calc.proofs.text.put_initializer.Goals as goal

pub returns : goal.returns
returns c = three _ _ _ _ _ _ _ c.in_ok-put_utf.ensures c.in_ok-put_word.ensures c.in_ok-put_utf-2.ensures
