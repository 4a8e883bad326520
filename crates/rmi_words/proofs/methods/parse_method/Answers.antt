use Rattle.std.proofs.Common.{◌∙◌, sym}
use Rattle.rmi_words.proofs.MethodTexts.{not_called}
use Rattle.rmi_words.proofs.methods.parse_method.Goals as goal

pub returns-else-can_be_called : goal.returns-else-can_be_called
returns-else-can_be_called c usage other told =
    not_called c.in-Ok.method c.args.text.now c.in-Ok.ensures.text (sym c.can_be_called.ensures ∙ c.if-can_be_called.false) other told
