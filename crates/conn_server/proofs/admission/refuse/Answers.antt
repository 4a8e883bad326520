use Rattle.std.proofs.Common.{arith, subst, sym}
use Rattle.std.specs.Prelude.{[]}
use Rattle.wire_io.specs.Wire.{Gave, Gave-nothing}
use Rattle.conn_server.proofs.Losing.{lost_link}
use Rattle.conn_server.proofs.admission.refuse.Goals as goal

pub returns : goal.returns
returns g c =
    let given = g.T.Clock.given in
    let s = c.shut_link.ensures in
    lost_link g.I.Source.half g.O.Sink.half given c.args.link c.shut_link.result [] c.requires s.source s.sink (omega arith)
    (subst (λ t. Gave (given c.args.link.clock) (given t) []) (sym s.clock) (Gave-nothing (given c.args.link.clock)))
