use Rattle.std.proofs.Common.{◌≡◌, ◌∙◌, List, Some, ap, arith}
use Rattle.ser_values.specs.declared.value.Part.{Part}
use Rattle.ser_values.specs.declared.node.Node.TheVariants.{Object}
use Rattle.ser_values.specs.Builder.{number_of}
use Rattle.java_shapes.specs.Objects.{node_at}
use Rattle.java_shapes.specs.Put.{Grows}
use Rattle.java_shapes.specs.Shapes.{VmidAt}
use Rattle.java_shapes.proofs.Growth.{grows_then, puts_after, puts_map, class_grown}
use Rattle.java_shapes.proofs.Built.{bytes_grown, uid_grown}
use Rattle.java_shapes.proofs.leases.put_client.Goals as goal

pub returns : goal.returns
returns c =
    let new = c.put_object.new.b in
    let addr = c.in_ok-addr.ensures in
    let uid = c.in_ok-uid.ensures in
    let own = c.in_ok-class.ensures in
    let class = c.in_ok-class.class in
    let up2 : Grows 7 c.args.b.now c.put_uid.new.b = grows_then addr.0 uid.0 (omega arith) in
    let up3 : Grows 10 c.args.b.now c.put_class.new.b = grows_then up2 own.0 (omega arith) in
    puts_after (λ loose s. VmidAt loose (record { addr = c.args.addr; uid = c.args.uid.now }) s) 1 11 new c.put_object.result up3
    (puts_map (λ loose s. node_at loose s ≡ Some (Object (number_of class) c.in_ok-parts.parts)) (λ loose s. VmidAt loose (record { addr = c.args.addr; uid = c.args.uid.now }) s) 1 c.put_class.new.b new c.put_object.result c.put_object.ensures
    (λ s grown is.
    let down2 : Grows 4 c.put_uid.new.b new = grows_then own.0 grown (omega arith) in
    let down1 : Grows 9 c.put_bytes.new.b new = grows_then uid.0 down2 (omega arith) in
    record {
      class = class;
      addr = c.in_ok-addr.addr;
      uid = c.in_ok-uid.uid;
      own = class_grown grown own.1;
      addr_is = bytes_grown down1 c.args.addr c.in_ok-addr.addr addr.1;
      uid_is = uid_grown down2 c.args.uid.now c.in_ok-uid.uid uid.1;
      is = is ∙ ap (λ (l : List Part). Some (Object (number_of class) l)) c.in_ok-parts.ensures;
    }))
    (omega arith)
