use Rattle.std.proofs.Common.{refl, ap}
use Rattle.std.proofs.Math.Facts.{to_z-of_z}
use Rattle.dgc_client.specs.SentMap.{dirties_in}
use Rattle.dgc_client.proofs.Told.{stands-fresh}
use Rattle.dgc_client.proofs.client_table.ClientTable.new.Goals as goal

pub returns : goal.returns
returns c = stands-fresh c.args.vmid c.args.first _ refl (to_z-of_z c.ranges.first) refl refl c.new.ensures (ap dirties_in c.new-2.ensures.empty)
