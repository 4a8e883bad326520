use Rattle.std.proofs.Common.{◌∙◌, rules, w32}
use Rattle.std.specs.Prelude.{FitsSigned}
use Rattle.std.proofs.lemmas.Int.{to_z-of_z}
use Rattle.rmi_client.specs.Sessions.{link_of}
use Rattle.rmi_caller.proofs.Telling.{if_ok}
use Rattle.rmi_caller.proofs.remote.Remote.lookup.Goals as goal

pub returns-in-Ok-clause-found : goal.returns-in-Ok-clause-found
returns-in-Ok-clause-found g c =
    let fits : FitsSigned w32 c.number_of_port-port.result = search rules in
    if_ok c.hold_found.result _ _ (λ remote h. (
      g.D.Dialer.dialing c.connect.new.dialer,
      link_of g.D.In.Source.half g.D.Out.Sink.half c.in_ok-session.session,
      link_of g.D.In.Source.half g.D.Out.Sink.half c.lookup.new.self,
      link_of g.D.In.Source.half g.D.Out.Sink.half c.hold_found.new.session,
      c.in-Ok.uid,
      c.in-Ok.reference,
      rw (c.in_ok-host.ensures, to_z-of_z w32 c.number_of_port-port.result fits ∙ c.number_of_port-port.ensures) at c.in_ok-session.ensures.connects,
      rw (c.in_ok-name.ensures.name) at c.in-Ok.ensures.asks c.in_ok-session.ensures.open,
      h.0,
      h.1,
    )) c.hold_found.ensures.held
