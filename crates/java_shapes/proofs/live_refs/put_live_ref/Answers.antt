use Rattle.std.proofs.Common.{◌∙◌}
use Rattle.java_shapes.proofs.ProxyView.{proxy_seen}
use Rattle.java_shapes.proofs.live_refs.put_live_ref.Goals as goal

pub returns-in-Ok-clause-viewed : goal.returns-in-Ok-clause-viewed
returns-in-Ok-clause-viewed c = proxy_seen c.put_all.new.b c.args.interface.now c.in_ok-note.note c.in-Ok.slot c.in-Ok.ensures.1 ∙ c.in_ok-note.ensures.viewed
