use Rattle.std.proofs.Common.{arith}
use Rattle.java_shapes.specs.Shapes.{ObjIdsAt}
use Rattle.java_shapes.proofs.BuiltIds.{grows_not, puts_refused, puts_ids}
use Rattle.java_shapes.proofs.id_lists.put_some_objids.Goals as goal

pub returns : goal.returns
returns c =
    let classes = c.in_ok-classes.ensures in
    let objects = c.in_ok-objects.ensures in
    puts_ids c.args.b.now c.put_classes.new.b c.put_each.new.b c.put_array.new.b c.args.ids.now c.in_ok-objects.objects c.in_ok-classes.classes c.put_array.result classes.0 classes.1 objects.0 objects.1 c.put_array.ensures

pub returns-in_err-classes : goal.returns-in_err-classes
returns-in_err-classes c = puts_refused (λ nodes s. ObjIdsAt nodes c.args.ids.now s) _ _ c.from_residual.result c.from_residual.ensures.1 (grows_not c.args.b.now) c.in_err-classes.ensures (omega arith)

pub returns-in_err-objects : goal.returns-in_err-objects
returns-in_err-objects c = puts_refused (λ nodes s. ObjIdsAt nodes c.args.ids.now s) _ _ c.from_residual-in_err-objects.result c.from_residual-in_err-objects.ensures.1 c.in_ok-classes.ensures.0 c.in_err-objects.ensures (omega arith)
