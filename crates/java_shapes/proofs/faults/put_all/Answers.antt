use Rattle.std.proofs.Common.{◌≡◌, ◌∙◌, List, Some, ap, arith}
use Rattle.ser_values.specs.declared.value.Part.{Part}
use Rattle.ser_values.specs.declared.node.Node.TheVariants.{Object}
use Rattle.ser_values.specs.Builder.{number_of}
use Rattle.java_shapes.specs.Objects.{node_at}
use Rattle.java_shapes.specs.Put.{Grows}
use Rattle.java_shapes.specs.Fault.{FaultAt}
use Rattle.java_shapes.proofs.Growth.{grows_then, puts_after, puts_map, class_grown, text_grown}
use Rattle.java_shapes.proofs.faults.put_all.Goals as goal

pub returns : goal.returns
returns c =
    let new = c.put_object.new.b in
    let told = c.in_ok-text.ensures in
    let text = c.in_ok-text.text in
    let classes = c.in_ok-class.ensures in
    let class = c.in_ok-class.class in
    let up : Grows 7 c.args.b.now c.put_classes.new.b = grows_then told.0 classes.0 (omega arith) in
    puts_after (λ loose s. FaultAt loose c.args.message s) 1 16 new c.put_object.result up
    (puts_map (λ loose s. node_at loose s ≡ Some (Object (number_of class) c.in_ok-parts.parts)) (λ loose s. FaultAt loose c.args.message s) 1 c.put_classes.new.b new c.put_object.result c.put_object.ensures
    (λ s grown is.
    let down : Grows 7 c.put_text.new.b new = grows_then classes.0 grown (omega arith) in
    record {
      throwable = classes.1.throwable;
      exception = classes.1.exception;
      io_exception = classes.1.io_exception;
      remote_exception = class;
      text = text;
      highest = class_grown grown classes.1.highest;
      second = class_grown grown classes.1.second;
      third = class_grown grown classes.1.third;
      own = class_grown grown classes.1.own;
      told = text_grown down text c.args.message told.1;
      is = is ∙ ap (λ (l : List Part). Some (Object (number_of class) l)) c.in_ok-parts.ensures;
    }))
    (omega arith)
