use Rattle.std.proofs.Common.{sym, ◌∙◌}
use Rattle.dgc_server.proofs.Walking.{walked-all}
use Rattle.dgc_server.proofs.clients.Clients.drop_object.Goals as goal

pub invariant_of-self : goal.invariant_of-self
invariant_of-self c = record { filled = c.drop_object.ensures.filled; bounded = c.drop_object.ensures.bounded c.self.inside.next c.self.invariant.bounded; ends = c.drop_object.ensures.ends }

pub returns-then-clients-eq0-clause-entries : goal.returns-then-clients-eq0-clause-entries
returns-then-clients-eq0-clause-entries c =
    let t = c.args.self.now in
    sym (walked-all c.args.object.now t.moment t.entries (sym c.requires.counted ∙ c.if-clients-eq0.true) c.requires.kept)
