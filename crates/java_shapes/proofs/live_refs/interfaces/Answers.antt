use Rattle.std.proofs.Common.{◌≡◌, ◌∙◌, [], ◌∷◌, false, codes, refl, sym}
use Rattle.java_shapes.specs.Objects.{same_text}
use Rattle.java_shapes.proofs.live_refs.interfaces.Goals as goal

pub returns : goal.returns
returns c =
    let test : same_text c.args.interface.now (codes "java.rmi.Remote") ≡ false = sym c.is_text.ensures ∙ c.if-is_text.false in
    let two : c.push-3.new.self ≡ codes "java.rmi.Remote" ∷ c.args.interface.now ∷ [] = c.in_ok-push-3.ensures.ok ∙ rw (c.in_ok-push-2.ensures.ok, c.in_ok-units_of_ascii.ensures.value, c.in_ok-copy_text-2.ensures, c.new-names.ensures) refl in
    rw test two
