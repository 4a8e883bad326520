use Rattle.std.proofs.Common.{ap, sym, ◌∙◌, arith}
use Rattle.std.specs.Prelude.{filter}
use Rattle.dgc_server.specs.Entry.{is_entry_kept}
use Rattle.dgc_server.specs.HolderIndex.{is_named}
use Rattle.dgc_server.proofs.Purging.{only-none, kept-whole}
use Rattle.dgc_server.proofs.clients.Clients.drop_objects.Goals as goal

pub invariant_of-self : goal.invariant_of-self
invariant_of-self c = record { filled = c.drop_objects.ensures.filled; bounded = c.drop_objects.ensures.bounded c.self.inside.next c.self.invariant.bounded; ends = c.drop_objects.ensures.ends }

pub returns-then-pairs-eq0-clause-entries : goal.returns-then-pairs-eq0-clause-entries
returns-then-pairs-eq0-clause-entries c =
    let es = c.args.self.now.entries in
    let same = only-none (is_named c.args.counts.now) es (let none = c.if-pairs-eq0.true in let pairs = c.requires.pairs in omega arith) in
    sym (ap (filter (is_entry_kept c.args.self.now.moment)) same ∙ kept-whole c.args.self.now.moment es c.requires.kept)
