use Rattle.std.proofs.Common.{◌≡◌, ◌∙◌, List, Some, ap, arith}
use Rattle.ser_values.specs.declared.value.Part.{Part}
use Rattle.ser_values.specs.declared.node.Node.TheVariants.{Object}
use Rattle.ser_values.specs.Builder.{number_of}
use Rattle.java_shapes.specs.Objects.{node_at}
use Rattle.java_shapes.specs.Put.{Grows}
use Rattle.java_shapes.specs.Shapes.{LeaseAt}
use Rattle.java_shapes.proofs.Growth.{grows_then, puts_after, puts_map, class_grown}
use Rattle.java_shapes.proofs.Built.{vmid_grown}
use Rattle.java_shapes.proofs.leases.put_some_lease.Goals as goal

pub returns-clause-puts : goal.returns-clause-puts
returns-clause-puts c =
    let new = c.put_object.new.b in
    let client = c.in_ok-client.ensures.puts in
    let own = c.in_ok-class.ensures in
    let class = c.in_ok-class.class in
    let up2 : Grows 14 c.args.b.now c.put_class.new.b = grows_then client.0 own.0 (omega arith) in
    puts_after (λ loose s. LeaseAt loose c.args.value.now c.args.vmid.now s) 1 16 new c.put_object.result up2
    (puts_map (λ loose s. node_at loose s ≡ Some (Object (number_of class) c.in_ok-parts.parts)) (λ loose s. LeaseAt loose c.args.value.now c.args.vmid.now s) 1 c.put_class.new.b new c.put_object.result c.put_object.ensures
    (λ s grown is.
    let down : Grows 4 c.put_some_vmid.new.b new = grows_then own.0 grown (omega arith) in
    record {
      class = class;
      client = c.in_ok-client.client;
      own = class_grown grown own.1;
      client_is = vmid_grown down c.args.vmid.now c.in_ok-client.client client.1;
      is = is ∙ ap (λ (l : List Part). Some (Object (number_of class) l)) c.in_ok-parts.ensures;
    }))
    (omega arith)
