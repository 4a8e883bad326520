use Rattle.std.proofs.Common.{List, sym, subst}
use Rattle.lease_world.specs.Letters.{Letter}
use Rattle.lease_world.specs.Stands.{WorldParts, StandsForCourse, no_deeds}
use Rattle.lease_world.proofs.Stepping.{fresh-stands, rows-are}
use Rattle.lease_world.proofs.world.World.fresh.Goals as goal

pub returns-clause-ok : goal.returns-clause-ok
returns-clause-ok c =
    let with_letters : List Letter → WorldParts = λ ls. record { moment = 0; made = 0; space = c.in_ok-space.space; members = c.in_ok-members.members.items; letters = ls } in
    subst (λ (ls : List Letter). StandsForCourse (with_letters ls) (no_deeds c.args.lease_ms c.args.ack_ms c.args.clients)) (sym c.new.ensures.items)
    (fresh-stands c.args.lease_ms c.args.ack_ms c.args.clients c.in_ok-space.space c.in_ok-members.members.items (c.in_ok-space.ensures {u = tt}).config (c.in_ok-space.ensures {u = tt}).events
    (c.in_ok-members.ensures {u = tt}))

pub returns-clause-table : goal.returns-clause-table
returns-clause-table c =
    rows-are (record { moment = 0; made = 0; space = c.in_ok-space.space; members = c.in_ok-members.members.items; letters = c.new.result.items }) (c.in_ok-space.ensures {u = tt}).rows
