use Rattle.std.proofs.Common.{ap, arith, inl, inr}
use Rattle.lease_world.specs.Stands.{WorldParts}
use Rattle.lease_world.proofs.Stepping.{pass-step, pass-bad}
use Rattle.lease_world.proofs.world.World.pass.Goals as goal

pub returns-then-moment-self : goal.returns-then-moment-self
returns-then-moment-self c =
    let e = ap (λ (v : WorldParts). v.moment) c.self.view_is in
    pass-bad c.args.self.now c.args.moment (inl (omega (arith, c.if-moment-self.true, e)))

pub returns-then-moment-ge-END_OF_TIME : goal.returns-then-moment-ge-END_OF_TIME
returns-then-moment-ge-END_OF_TIME c = pass-bad c.args.self.now c.args.moment (inr (omega (arith, c.if-moment-ge-END_OF_TIME.true)))

pub returns : goal.returns
returns c =
    let e = ap (λ (v : WorldParts). v.moment) c.self.view_is in
    pass-step c.args.self.now _ c.args.moment (omega (arith, c.if-moment-self.false, e)) (omega (arith, c.if-moment-ge-END_OF_TIME.false))
    (ap (λ (v : WorldParts). record v { moment = c.args.moment }) c.self.view_is)
