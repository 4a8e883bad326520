use Rattle.std.proofs.Common.{sym, ◌∙◌}
use Rattle.dgc_client.proofs.Settled.{settled-next}
use Rattle.dgc_client.proofs.ref_map.settle.Goals as goal

pub loop-object-preserved : goal.loop-object-preserved
loop-object-preserved c =
    settled-next c.loop-object.count c.as_slice-entries.result (c.in-Some._object.now, c.in-Some.kept.now) c.loop-object.invariant (sym c.in-Some.ensures.entry)
    (sym c.rests.ensures ∙ c.if-not-rests.false)
