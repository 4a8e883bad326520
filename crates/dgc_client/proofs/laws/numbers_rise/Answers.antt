use Rattle.dgc_client.proofs.Logs.{numbers-rise}
use Rattle.dgc_client.proofs.laws.numbers_rise.Goals as goal

pub returns : goal.returns
returns c = numbers-rise
