use Rattle.rmi_cli.proofs.Journals.{journal_replays}
use Rattle.rmi_cli.proofs.laws.journals_replay.Goals as goal

pub returns : goal.returns
returns c config events ids fits legal read = journal_replays config events ids fits legal read
