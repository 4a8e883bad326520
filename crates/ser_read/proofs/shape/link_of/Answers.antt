use Rattle.ser_read.proofs.Links.{desc_link, proxy_link}
use Rattle.ser_read.proofs.shape.link_of.Goals as goal

pub returns-in_ok-codes-in-Desc : goal.returns-in_ok-codes-in-Desc
returns-in_ok-codes-in-Desc c = λ above. desc_link above c.in-Desc.desc c.args.node.now _ _ _ c.in-Desc.is (rw c.as_slice.ensures at c.in_ok-codes-in-Desc.ensures) c.has_flag-note.ensures c.has_flag-is_serial.ensures

pub returns-in-Proxy : goal.returns-in-Proxy
returns-in-Proxy c = λ above. proxy_link above c.in-Proxy.proxy c.args.node.now c.new.result c.in-Proxy.is c.new.ensures
