use Rattle.rmi_client.specs.Sessions.{link_of}
use Rattle.rmi_caller.proofs.remote.Remote.hold.Goals as goal

pub returns-clause-held : goal.returns-clause-held
returns-clause-held g c = (
  c.args.vmid,
  link_of g.D.In.Source.half g.D.Out.Sink.half c.in_ok-session.session,
  c.in_ok-session.ensures.connects,
  c.register.ensures.object,
  c.in_ok-register.ensures.leases c.args.vmid _ c.new.ensures,
)
