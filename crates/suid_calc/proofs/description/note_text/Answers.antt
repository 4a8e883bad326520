use Rattle.std.proofs.Common.{◌≡◌, ◌∙◌, sym, ap, true}
use Rattle.suid_calc.specs.Description.{with_text, texts_in, type_of, is_reference_field}
use Rattle.suid_calc.proofs.TextSetLaws.{inserted}
use Rattle.suid_calc.proofs.description.note_text.Goals as goal

pub returns-in_ok-insert : goal.returns-in_ok-insert
returns-in_ok-insert c =
    let is : is_reference_field c.args.member.now ≡ true = sym c.is_reference_field.ensures ∙ c.if-is_reference_field.true in
    let same : c.in_ok-text.text.items ≡ type_of c.args.member.now = c.in_ok-text.ensures.items ∙ c.type_of.ensures in
    rw (c.in_ok-insert.ensures.keys, is) (inserted c.in_ok-text.text c.args.texts.now.keys ∙ ap (with_text (texts_in c.args.texts.now.keys)) same)
