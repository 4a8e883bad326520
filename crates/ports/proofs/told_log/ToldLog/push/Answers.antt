use Rattle.std.proofs.Common.{◌∙◌}
use Rattle.ports.proofs.ToldLaws.{bit_is, calls_more}
use Rattle.ports.proofs.told_log.ToldLog.push.Goals as goal

pub invariant_of-self : goal.invariant_of-self
invariant_of-self c few =
    calls_more c.self.inside.entries c.args.told c.push.new.self c.self.inside.calls c.saturating_add-self-inside.result c.from.result c.args.begins c.push.ensures c.requires c.self.invariant
    c.saturating_add-self-inside.ensures (c.from.ensures ∙ bit_is c.args.begins) few
