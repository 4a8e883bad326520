use Rattle.std.proofs.Common.{◌≡◌, ◌∙◌, List, Some, ap, arith}
use Rattle.ser_values.specs.declared.value.Part.{Part}
use Rattle.ser_values.specs.declared.node.Node.TheVariants.{Object}
use Rattle.ser_values.specs.Builder.{number_of}
use Rattle.java_shapes.specs.Objects.{node_at}
use Rattle.java_shapes.specs.Shapes.{UidAt}
use Rattle.java_shapes.proofs.Growth.{puts_after, puts_map, class_grown}
use Rattle.java_shapes.proofs.leases.put_uid.Goals as goal

pub returns : goal.returns
returns c =
    let own = c.in_ok-class.ensures in
    let class = c.in_ok-class.class in
    puts_after (λ loose s. UidAt loose c.args.uid.now s) 1 5 c.put_object.new.b c.put_object.result own.0
    (puts_map (λ loose s. node_at loose s ≡ Some (Object (number_of class) c.in_ok-parts.parts)) (λ loose s. UidAt loose c.args.uid.now s) 1 c.put_class.new.b c.put_object.new.b c.put_object.result c.put_object.ensures
    (λ s grown is. record { class = class; own = class_grown grown own.1; is = is ∙ ap (λ (l : List Part). Some (Object (number_of class) l)) c.in_ok-parts.ensures }))
    (omega arith)
