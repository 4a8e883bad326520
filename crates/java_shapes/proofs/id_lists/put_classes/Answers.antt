use Rattle.std.proofs.Common.{arith}
use Rattle.java_shapes.specs.ListClasses.{AreListClasses}
use Rattle.java_shapes.specs.Put.{Grows}
use Rattle.java_shapes.proofs.Growth.{grows_then}
use Rattle.java_shapes.proofs.BuiltIds.{grows_not, puts_refused, puts_list_classes}
use Rattle.java_shapes.proofs.id_lists.put_classes.Goals as goal

pub returns : goal.returns
returns c =
    let list = c.in_ok-list.ensures in
    let id = c.in_ok-id.ensures in
    let uid = c.in_ok-uid.ensures in
    puts_list_classes _ list.0 list.1 id.0 id.1 uid.0 uid.1

pub returns-in_err-list : goal.returns-in_err-list
returns-in_err-list c = puts_refused AreListClasses 8 _ c.from_residual.result c.from_residual.ensures.1 (grows_not c.args.b.now) c.in_err-list.ensures (omega arith)

pub returns-in_err-id : goal.returns-in_err-id
returns-in_err-id c = puts_refused AreListClasses 8 _ c.from_residual-in_err-id.result c.from_residual-in_err-id.ensures.1 c.in_ok-list.ensures.0 c.in_err-id.ensures (omega arith)

pub returns-in_err-uid : goal.returns-in_err-uid
returns-in_err-uid c =
    let up : Grows 4 c.args.b.now c.put_class-2.new.b = grows_then c.in_ok-list.ensures.0 c.in_ok-id.ensures.0 (omega arith) in
    puts_refused AreListClasses 8 _ c.from_residual-in_err-uid.result c.from_residual-in_err-uid.ensures.1 up c.in_err-uid.ensures (omega arith)
