use Rattle.java_shapes.proofs.ProxyView.{puts_proxy_class}
use Rattle.java_shapes.proofs.live_refs.put_proxy_class.Goals as goal

pub returns : goal.returns
returns c =
    let above = c.in_ok-proxy.ensures in
    puts_proxy_class c.args.b.now c.put_class.new.b c.put_proxy.new.b c.args.interface.now c.in_ok-proxy.proxy c.in_ok-desc.desc c.put_proxy.result above.0 above.1 c.in_ok-desc.ensures c.put_proxy.ensures
