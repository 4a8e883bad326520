use Rattle.std.proofs.Common.{refl}
use Rattle.rmi_cli.proofs.Recording.{times_tick}
use Rattle.rmi_cli.proofs.host_desk.HostDeskLinkReportVecLinkStartReportTakerLinkReport.ticked.Goals as goal

pub returns-clause-keeps : goal.returns-clause-keeps
returns-clause-keeps g c = (λ held. (held.0, held.1, times_tick _ _ _ _ _ _ _ c.push.ensures held.2), refl)
