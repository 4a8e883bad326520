use Rattle.std.proofs.Common.{refl}
use Rattle.rmi_cli.proofs.Recording.{times_begin}
use Rattle.rmi_cli.proofs.host_desk.HostDeskLinkReportVecLinkStartReportTakerLinkReport.began.Goals as goal

pub returns-in-Some-clause-keeps : goal.returns-in-Some-clause-keeps
returns-in-Some-clause-keeps g c = (λ held. (held.0, held.1, times_begin _ _ _ _ _ _ _ c.in-Some.is c.note_start.ensures held.2), refl)
