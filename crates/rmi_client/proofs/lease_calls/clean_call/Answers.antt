use Rattle.std.proofs.Common.{◌∙◌, ap, List, [], ◌∷◌, ◌++◌}
use Rattle.class_desc.specs.declared.slot.Item.{Item}
use Rattle.class_desc.specs.declared.slot.Item.TheVariants as items
use Rattle.java_shapes.specs.RefNotes.{truth_byte}
use Rattle.rmi_client.proofs.Leasing.{objids_grown, clean_built}
use Rattle.rmi_client.proofs.lease_calls.clean_call.Goals as goal

pub returns : goal.returns
returns c =
    clean_built c.put_vmid.new.b c.args.vmid.now c.args.ids.now c.args.number.now c.args.strong c.in_ok-objects.objects c.in_ok-client.client _ _ c.built_call.result c.collector_head.ensures
    (c.in_ok-put_truth.ensures ∙ ap (λ (l : List Item). l ++ items.Bytes (truth_byte c.args.strong ∷ []) ∷ []) c.in_ok-arguments.ensures)
    (objids_grown c.in_ok-client.ensures.grown c.args.ids.now c.in_ok-objects.objects c.in_ok-objects.ensures.ok) c.in_ok-client.ensures.ok c.built_call.ensures
