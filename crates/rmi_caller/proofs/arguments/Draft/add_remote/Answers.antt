use Rattle.std.proofs.Common.{refl}
use Rattle.java_shapes.specs.RefNotes.{ref_note}
use Rattle.rmi_client.specs.Requests.{sent_ref}
use Rattle.rmi_caller.specs.Arguments.{IsProxyItem}
use Rattle.mod_utf.specs.Texts.{units_of}
use Rattle.rmi_caller.proofs.Putting.{add_ref}
use Rattle.rmi_caller.proofs.arguments.Draft.add_remote.Goals as goal

pub returns-clause-added : goal.returns-clause-added
returns-clause-added c =
    add_ref c.args.self.now c.add_slot.new.self c.in_ok-slot.slot (IsProxyItem c.add_slot.new.self.builder (units_of c.args.interface.now) (ref_note (sent_ref c.args.reference.now)))
    (c.in_ok-slot.slot, refl, rw (c.add_slot.ensures.builder) c.in_ok-slot.ensures.put) c.in_ok-add_slot.ensures.items
