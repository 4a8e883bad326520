use Rattle.std.proofs.Common.{◌++◌, ap, sym, ◌∙◌}
use Rattle.dgc_client.specs.RefMap.{refs_in}
use Rattle.dgc_client.proofs.RefEntries.{list-step}
use Rattle.dgc_client.proofs.ref_map.list.Goals as goal

pub loop-object-preserved : goal.loop-object-preserved
loop-object-preserved c =
    ap (λ l. l ++ refs_in c.next.new.self) c.in_ok-put_shown.ensures
    ∙ list-step c.loop-object.list (c.in-Some.object.now, c.in-Some.kept.now) c.next.new.self
    ∙ ap (λ l. c.loop-object.list ++ refs_in l) (sym c.in-Some.ensures.steps)
    ∙ c.loop-object.invariant
