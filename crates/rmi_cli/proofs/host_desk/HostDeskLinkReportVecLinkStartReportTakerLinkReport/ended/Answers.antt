use Rattle.std.proofs.Common.{refl}
use Rattle.rmi_cli.proofs.Recording.{tells_more, times_end}
use Rattle.rmi_cli.proofs.host_desk.HostDeskLinkReportVecLinkStartReportTakerLinkReport.ended.Goals as goal

pub returns-clause-keeps : goal.returns-clause-keeps
returns-clause-keeps g c = (
  λ held. (
    held.0,
    tells_more _ _ _ _ _ _ _ _ _ _ _ c.push.ensures c.time_link-link.ensures.link c.line.ensures held.1 c.write_made-self.ensures,
    times_end _ _ _ _ _ _ _ _ c.time_link-link.result.1 c.args.report c.take_start-begun.ensures c.push.ensures c.time_link-link.ensures.report c.time_link-link.ensures.begun
        c.time_link-link.ensures.gave held.2,
  ),
  refl,
)
