use Rattle.std.proofs.Common.{refl}
use Rattle.rmi_cli.proofs.Recording.{times_same}
use Rattle.rmi_cli.proofs.host_desk.HostDeskLinkReportVecLinkStartReportTakerLinkReport.reserve.Goals as goal

pub returns-clause-keeps : goal.returns-clause-keeps
returns-clause-keeps g c = (λ held. (held.0, held.1, times_same _ _ _ _ _ _ c.reserve.ensures.items held.2), refl)
