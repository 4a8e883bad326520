use Rattle.std.proofs.Common.{ap, ◌∙◌, subst, w64}
use Rattle.std.proofs.lemmas.Int.{to_z-of_z}
use Rattle.object_ids.specs.declared.ids.ObjId.{ObjId}
use Rattle.dgc_client.specs.Log.{Registers}
use Rattle.lease_world.specs.Stands.{IsMemberCall}
use Rattle.lease_world.specs.World.{object}
use Rattle.lease_world.proofs.Standing.{register-step}
use Rattle.lease_world.proofs.world.World.register.Goals as goal

pub returns : goal.returns
returns c = register-step c.args.self.now c.call_member.new.self c.args.client c.args.number c.call_member.result
    (subst (λ (o : ObjId). IsMemberCall c.args.self.now c.args.client (Registers o) c.call_member.result c.call_member.new.self) (c.object_of.ensures ∙ ap object (to_z-of_z w64 c.args.number c.ranges.number)) c.call_member.ensures)
