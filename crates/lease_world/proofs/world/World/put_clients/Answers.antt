use Rattle.std.proofs.Common.{◌≡◌, ◌<◌, arith, ap, length}
use Rattle.std.specs.Prelude.{Some}
use Rattle.lease_world.specs.Stands.{WorldParts}
use Rattle.lease_world.specs.World.{nth, world}
use Rattle.lease_world.proofs.Positions.{at-index}
use Rattle.lease_world.proofs.Scripts.{one_more_client, client_there}
use Rattle.lease_world.proofs.world.World.put_clients.Goals as goal

pub loop-number-preserved : goal.loop-number-preserved
loop-number-preserved c =
    let within : c.loop-number.number < length c.self.inside.members.items = omega (arith, c.loop-number-test.true, c.len.ensures) in
    let is = ap (λ (v : WorldParts). v.members) c.self.view_is in
    let there : nth c.args.self.now.members c.loop-number.number ≡ Some c.index.result.now =
    at-index c.self.inside.members.items c.args.self.now.members c.loop-number.number c.index.result.now is within c.index.ensures in (
      (λ course stands. one_more_client (world course) c.args.text.now c.loop-number.text c.put_client.new.text c.loop-number.number
          (c.loop-number.invariant.0 course stands)
          (client_there c.args.self.now (world course) c.loop-number.number c.index.result.now c.loop-number.text c.put_client.new.text stands there
          (rw (ap (λ (v : WorldParts). v.moment) c.self.view_is) at (c.in_ok-put_client.ensures {u = tt})))),
      omega (arith, within, ap length is),
    )
