use Rattle.java_shapes.proofs.ProxyView.{puts_proxy}
use Rattle.java_shapes.proofs.live_refs.put_all.Goals as goal

pub returns : goal.returns
returns c =
    let handler = c.in_ok-handler.ensures in
    let own = c.in_ok-class.ensures in
    puts_proxy c.args.b.now c.put_handler.new.b c.put_proxy_class.new.b c.put_object.new.b c.args.interface.now c.args.bytes c.in_ok-handler.handler c.in_ok-class.class c.in_ok-parts.parts c.put_object.result handler.0 handler.1 own.0 own.1
    c.in_ok-parts.ensures c.put_object.ensures
