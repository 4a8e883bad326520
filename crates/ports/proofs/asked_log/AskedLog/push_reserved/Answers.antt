use Rattle.std.proofs.Common.{List, length, sym, subst}
use Rattle.std.specs.List.{AllByRecursion}
use Rattle.ports.specs.AskedRows.{IsKnownRow}
use Rattle.ports.specs.declared.asked_rows.AskedRow.{AskedRow}
use Rattle.ports.proofs.AskedRowLaws.{one-known}
use Rattle.ports.proofs.asked_log.AskedLog.push_reserved.Goals as goal

pub invariant_of-self : goal.invariant_of-self
invariant_of-self c =
    let n = length c.self.inside.wholes.items in (
      subst (λ (rows : List AskedRow). AllByRecursion (IsKnownRow n) rows) (sym c.push_reserved.ensures.items)
          (one-known n c.self.inside.rows.items c.plain_row-row.result c.self.invariant.0 (c.plain_row-row.ensures.known n)),
      c.self.invariant.1,
    )
