use Rattle.call_dispatch.proofs.OneReading as readings
use Rattle.call_dispatch.proofs.laws.one_dialogue.Goals as goal

pub returns : goal.returns
returns c = readings.one_dialogue
