use Rattle.std.proofs.Common.{refl}
use Rattle.rmi_cli.proofs.Recording.{records_more, records_none}
use Rattle.rmi_cli.proofs.host_desk.HostDeskLinkReportVecLinkStartReportTakerLinkReport.record.Goals as goal

pub returns-in-Silent-clause-keeps : goal.returns-in-Silent-clause-keeps
returns-in-Silent-clause-keeps g c = (λ held. (records_none _ _ _ _ c.args.self.now.given.events _ _ _ c.in-Silent.is held.0, held.1, held.2), refl)

pub returns-in-Journal-clause-keeps : goal.returns-in-Journal-clause-keeps
returns-in-Journal-clause-keeps g c = (
  λ held. (
    records_more _ _ _ _ _ c.args.self.now.given.events _ c.args.part.now _ _ _ c.in-Journal.is c.note_events.ensures held.0 c.write_events-self.ensures,
    held.1,
    held.2,
  ),
  refl,
)
