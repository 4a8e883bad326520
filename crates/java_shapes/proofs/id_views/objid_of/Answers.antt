use Rattle.std.specs.Prelude.{FitsSigned}
use Rattle.std.specs.Int.{w64}
use Rattle.std.proofs.lemmas.Int.{to_z-of_z}
use Rattle.std.proofs.Common.{rules, ◌≡◌, ◌∙◌, refl, sym, ℤ, List, Some, codes}
use Rattle.class_desc.specs.declared.slot.Slot.{Slot}
use Rattle.class_desc.specs.declared.field.TypeCode.TheVariants as types
use Rattle.object_ids.specs.declared.ids.Uid.{Uid}
use Rattle.ser_values.specs.declared.node.Node.{Node}
use Rattle.java_shapes.specs.Objects.{Held, as_long, as_slot, value_of}
use Rattle.java_shapes.specs.Ids.{uid_at, objid_of}
use Rattle.java_shapes.proofs.id_views.objid_of.Goals as goal

objid_is : (nodes : List Node) (held : Held) (number : ℤ) (slot : Slot) (space : Uid) → as_long (value_of held types.Long (codes "objNum")) ≡ Some number → as_slot (value_of held types.Object (codes "space")) ≡ Some slot
    → uid_at nodes slot ≡ Some space → objid_of nodes held ≡ Some (record { number = number; space = space })
unfolding objid_of
objid_is nodes held number slot space a b c = rw (a, b, c) refl

pub returns : goal.returns
returns c =
    let is = objid_is c.args.nodes.now _ c.in_ok-number.number c.in_ok-slot.slot c.in_ok-space.space (sym c.long.ensures ∙ c.in_ok-number.was) (sym c.slot.ensures ∙ c.in_ok-slot.was) (sym c.uid_at.ensures ∙ c.in_ok-space.was) in
    let fits : FitsSigned w64 c.in_ok-number.number = search rules in
    rw (to_z-of_z w64 c.in_ok-number.number fits) (sym is)
