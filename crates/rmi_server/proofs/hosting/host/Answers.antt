use Rattle.std.proofs.Common.{◌∙◌, List, subst}
use Rattle.turn_lock.specs.Handles.{opening_of}
use Rattle.system_objects.specs.declared.book.Kind.{Kind}
use Rattle.conn_server.specs.Hosts.{HostsLinks}
use Rattle.conn_server.specs.Reports.{IsLinkOf}
use Rattle.conn_server.specs.Stops.{IsLostLink}
use Rattle.conn_server.specs.declared.plan.ServePlan.{ServePlan}
use Rattle.conn_server.specs.declared.plan.TheConstants.{LAST_NUMBER}
use Rattle.rmi_server.specs.Fits.{May}
use Rattle.rmi_server.specs.Served.{MovesNone, dropped_by, shown_by}
use Rattle.rmi_server.specs.Sites.{plan_of}
use Rattle.rmi_server.proofs.hosting.host.Goals as goal

-- The server's kinds and plan are those of the site.
pub returns-clause-hosts : goal.returns-clause-hosts
returns-clause-hosts g c =
    let by_plan = subst (Hosts c.book.result.now) c.in_ok-crew.ensures.plan c.host.ensures.hosts in (
      opening_of c.in_ok-crew.field-0.lock,
      c.in_ok-crew.ensures.opening,
      subst (λ (kinds : List Kind). Hosts kinds (plan_of c.args.site.now LAST_NUMBER)) (c.book.ensures ∙ c.in_ok-crew.ensures.book)
          by_plan,
    )
  where
    Hosts : List Kind → ServePlan → Type 0
    Hosts kinds plan = HostsLinks
        (IsLinkOf g.L.In.Source.half g.L.Out.Sink.half g.L.Ticks.Clock.given shown_by (May g.S.Service.may_answer) MovesNone kinds plan)
        (IsLostLink g.L.In.Source.half g.L.Out.Sink.half g.L.Ticks.Clock.given) shown_by MovesNone dropped_by
        (opening_of c.in_ok-crew.field-0.lock) plan.count
        (g.L.Listener.listening c.args.door.now.listener) (g.L.Listener.listening c.host.new.listener)
        (g.Q.Clock.given c.args.door.now.ticks) (g.Q.Clock.given c.host.new.ticks) c.host.result
