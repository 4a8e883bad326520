use Rattle.java_shapes.proofs.ProxyView.{puts_handler}
use Rattle.java_shapes.proofs.live_refs.put_handler.Goals as goal

pub returns : goal.returns
returns c =
    let above = c.in_ok-remote_object.ensures in
    let own = c.in_ok-class.ensures in
    puts_handler c.args.b.now c.put_class.new.b c.put_class-2.new.b c.put_object.new.b c.args.bytes c.in_ok-remote_object.remote_object c.in_ok-class.class c.in_ok-parts.parts c.put_object.result above.0 above.1 own.0 own.1
    c.in_ok-parts.ensures c.put_object.ensures
