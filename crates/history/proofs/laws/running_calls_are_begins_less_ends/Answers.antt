use Rattle.history.proofs.RunningLaws.{running_calls_by-counted, running_calls-difference, running-summed, running-some}
use Rattle.history.proofs.laws.running_calls_are_begins_less_ends.Goals as goal

pub returns : goal.returns
returns c = record { one = running_calls_by-counted; all = running_calls-difference; sum = running-summed; some = running-some }
