use Rattle.std.proofs.Common.{arith}
use Rattle.class_desc.specs.declared.known_class.KnownClass.TheVariants as known
use Rattle.java_shapes.specs.Put.{Grows, IsClassAt}
use Rattle.java_shapes.specs.Fault.{FaultClassAt}
use Rattle.java_shapes.proofs.Growth.{grows_then, puts_after, puts_map, class_grown}
use Rattle.java_shapes.proofs.faults.put_classes.Goals as goal

pub returns : goal.returns
returns c =
    let new = c.put_class-4.new.b in
    let throwable = c.in_ok-throwable.ensures in
    let exception = c.in_ok-exception.ensures in
    let io = c.in_ok-io_exception.ensures in
    let io_class = c.in_ok-io_exception.io_exception in
    let up2 : Grows 3 c.args.b.now c.put_class-2.new.b = grows_then throwable.0 exception.0 (omega arith) in
    let up3 : Grows 4 c.args.b.now c.put_class-3.new.b = grows_then up2 io.0 (omega arith) in
    puts_after (λ nodes s. FaultClassAt nodes s) 2 6 new c.put_class-4.result up3
    (puts_map (λ nodes s. IsClassAt nodes known.RemoteException io_class s) (λ nodes s. FaultClassAt nodes s) 2 c.put_class-3.new.b new c.put_class-4.result c.put_class-4.ensures
    (λ s grown own.
    let down2 : Grows 3 c.put_class-2.new.b new = grows_then io.0 grown (omega arith) in
    let down1 : Grows 4 c.put_class.new.b new = grows_then exception.0 down2 (omega arith) in
    record {
      throwable = c.in_ok-throwable.throwable;
      exception = c.in_ok-exception.exception;
      io_exception = io_class;
      highest = class_grown down1 throwable.1;
      second = class_grown down2 exception.1;
      third = class_grown grown io.1;
      own = own;
    }))
    (omega arith)
