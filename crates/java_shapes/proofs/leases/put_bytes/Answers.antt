use Rattle.std.proofs.Common.{◌≡◌, Some, arith}
use Rattle.ser_values.specs.declared.value.Values.TheVariants as kinds
use Rattle.ser_values.specs.declared.node.Node.TheVariants.{Array}
use Rattle.ser_values.specs.Builder.{number_of}
use Rattle.java_shapes.specs.Objects.{node_at}
use Rattle.java_shapes.specs.Shapes.{BytesAt}
use Rattle.java_shapes.proofs.Growth.{puts_after, puts_map, class_grown}
use Rattle.java_shapes.proofs.leases.put_bytes.Goals as goal

pub returns : goal.returns
returns c =
    let own = c.in_ok-class.ensures in
    let class = c.in_ok-class.class in
    puts_after (λ loose s. BytesAt loose c.args.bytes s) 1 2 c.put_array.new.b c.put_array.result own.0
    (puts_map (λ loose s. node_at loose s ≡ Some (Array (number_of class) (kinds.Bytes c.args.bytes))) (λ loose s. BytesAt loose c.args.bytes s) 1 c.put_class.new.b c.put_array.new.b c.put_array.result c.put_array.ensures
    (λ s grown is. record { class = class; own = class_grown grown own.1; is = is }))
    (omega arith)
