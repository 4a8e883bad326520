use Rattle.std.proofs.Common.{[], pos, rules, subst}
use Rattle.object_ids.specs.Client.{Client}
use Rattle.dgc_client.specs.StandsForLog.{StandsFor}
use Rattle.lease_world.specs.World.{client}
use Rattle.lease_world.proofs.Stepping.{fresh-more}
use Rattle.lease_world.proofs.opening.members_of.Goals as goal

pub loop-number-preserved : goal.loop-number-preserved
loop-number-preserved c =
    let stands : StandsFor (client c.loop-number.number) (pos 0) c.new-table.result [] =
    subst (λ (v : Client). StandsFor v (pos 0) c.new-table.result []) (c.in_ok-client_of.ensures {u = tt}) c.new-table.ensures in
    rw c.in_ok-push.ensures.items (fresh-more c.args.lease_ms c.loop-number.number c.loop-number.members.items _ c.loop-number.invariant stands (search rules))
