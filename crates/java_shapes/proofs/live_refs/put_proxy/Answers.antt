use Rattle.java_shapes.proofs.Growth.{puts_node}
use Rattle.java_shapes.proofs.live_refs.put_proxy.Goals as goal

pub returns : goal.returns
returns c = puts_node c.args.b.now c.proxy.new.self _ c.proxy.result c.proxy.ensures
