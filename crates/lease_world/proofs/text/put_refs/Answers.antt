use Rattle.std.proofs.Common.{◌++◌, List, flat_map, ap, ◌∙◌}
use Rattle.std.proofs.lemmas.List.{take_all}
use Rattle.dgc_client.specs.StandsForLog.{is_usable_after}
use Rattle.dgc_client.specs.declared.client_ref.ClientRef.{ClientRef}
use Rattle.lease_world.specs.Script.{ref_line}
use Rattle.lease_world.proofs.Scripts.{one_more_text}
use Rattle.lease_world.proofs.text.put_refs.Goals as goal

pub loop-reference-preserved : goal.loop-reference-preserved
loop-reference-preserved c client first calls stands =
    one_more_text (λ (r : ClientRef). ref_line c.args.client r (is_usable_after first calls r.id c.args.now)) c.args.text.now c.loop-reference.text c.put_ref.new.text
    c.args.refs.now c.loop-reference.reference-index _ c.loop-reference-test.true (c.loop-reference.invariant client first calls stands)
    (rw (c.usable.ensures client first calls stands) at (c.in_ok-put_ref.ensures {u = tt}))

pub returns : goal.returns
returns c client first calls stands =
    c.loop-reference.invariant client first calls stands
    ∙ ap (λ (rs : List ClientRef). c.args.text.now ++ flat_map (λ (r : ClientRef). ref_line c.args.client r (is_usable_after first calls r.id c.args.now)) rs)
    (take_all c.loop-reference.reference-index c.args.refs.now c.loop-reference-test.false)
