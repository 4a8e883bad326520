use Rattle.std.proofs.Common.{◌≡◌, ◌∙◌, List, Some, ap, arith}
use Rattle.ser_values.specs.declared.value.Part.{Part}
use Rattle.ser_values.specs.declared.node.Node.TheVariants.{Object}
use Rattle.ser_values.specs.Builder.{number_of}
use Rattle.java_shapes.specs.Objects.{node_at}
use Rattle.java_shapes.specs.Shapes.{ObjIdAt}
use Rattle.java_shapes.proofs.Growth.{puts_after, puts_map, node_grown}
use Rattle.java_shapes.proofs.id_lists.put_objid.Goals as goal

pub returns : goal.returns
returns c =
    let space = c.in_ok-space.ensures in
    let ic = c.args.id_class in
    let uc = c.args.uid_class in
    puts_after (λ loose s. ObjIdAt loose ic uc c.args.id.now s) 1 2 c.put_object-2.new.b c.put_object-2.result space.0
    (puts_map (λ loose s. node_at loose s ≡ Some (Object (number_of ic) c.in_ok-parts.parts)) (λ loose s. ObjIdAt loose ic uc c.args.id.now s) 1 c.put_object.new.b c.put_object-2.new.b c.put_object-2.result c.put_object-2.ensures
    (λ s grown is. record {
      space = c.in_ok-space.space;
      space_is = node_grown grown c.in_ok-space.space _ space.1 ∙ ap (λ (l : List Part). Some (Object (number_of uc) l)) c.in_ok-uid.ensures;
      is = is ∙ ap (λ (l : List Part). Some (Object (number_of ic) l)) c.in_ok-parts.ensures;
    }))
    (omega arith)
