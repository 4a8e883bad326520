use Rattle.std.proofs.Common.{sym, ap, ℕ, ◌∙◌, ◌++◌}
use Rattle.suid_calc.specs.Text.{is_private, word}
use Rattle.suid_calc.proofs.TextLaws.{three, shown}
use Rattle.suid_calc.proofs.text.put_constructor.Goals as goal

pub returns : goal.returns
returns c =
    shown (is_private c.args.modifiers) _ _ _ (sym c.has_bit.ensures ∙ c.if-has_bit.false)
    (three _ _ _ _ _ _ _ c.in_ok-put_utf.ensures (c.in_ok-put_word.ensures ∙ ap (λ (n : ℕ). c.put_utf.new.out ++ word n) c.from.ensures) c.in_ok-put_descriptor.ensures)
