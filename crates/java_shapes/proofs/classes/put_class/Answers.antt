use Rattle.std.proofs.Common.{◌∙◌, ap, List}
use Rattle.class_desc.specs.KnownClass.{parts_of}
use Rattle.class_desc.specs.declared.slot.Slot.{Slot}
use Rattle.class_desc.specs.declared.known_class.ClassParts.{ClassParts}
use Rattle.java_shapes.specs.Put.{desc_with}
use Rattle.java_shapes.proofs.Growth.{puts_class}
use Rattle.java_shapes.proofs.classes.put_class.Goals as goal

pub returns : goal.returns
returns c =
    let texts = c.in_ok-texts.ensures in
    puts_class c.args.b.now c.put_types.new.b c.put_desc.new.b c.args.which c.args.parent c.as_slice.result.now c.in_ok-texts.texts c.in_ok-desc.desc c.put_desc.result
    (c.as_slice.ensures ∙ ap (λ (p : ClassParts). p.fields) c.in_ok-parts.ensures) texts.0 texts.1
    (c.in_ok-desc.ensures ∙ ap (λ (l : List Slot). desc_with (parts_of c.args.which) l c.args.parent) c.as_slice-2.ensures) c.put_desc.ensures
