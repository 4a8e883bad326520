use Rattle.std.proofs.Common.{◌∙◌, sym, rules, w32}
use Rattle.std.specs.Prelude.{FitsSigned}
use Rattle.std.proofs.lemmas.Int.{to_z-of_z}
use Rattle.system_objects.proofs.SystemNames.{collector_by_hash, collector_by_number}
use Rattle.system_objects.proofs.book.collector_method.Goals as goal

pub returns-then-is_by_hash : goal.returns-then-is_by_hash
returns-then-is_by_hash c = c.collector_hashed.ensures ∙ sym (collector_by_hash c.args.head.now.operation c.args.head.now.hash (sym c.is_by_hash.ensures ∙ c.if-is_by_hash.true))

pub returns-else-is_by_hash : goal.returns-else-is_by_hash
returns-else-is_by_hash c =
    let fits : FitsSigned w32 c.args.head.now.operation = search rules in
    (rw (to_z-of_z w32 c.args.head.now.operation fits) at c.collector_numbered.ensures) ∙ sym (collector_by_number c.args.head.now.operation c.args.head.now.hash (sym c.is_by_hash.ensures ∙ c.if-is_by_hash.false))
