use Rattle.dgc_server.specs.HolderIndex.{Holding, Naming}
use Rattle.dgc_server.proofs.HolderLaws.{each-way}
use Rattle.dgc_server.proofs.holders.lower_count.Goals as goal

pub less-holders-requires : goal.less-holders-requires
less-holders-requires c = c.requires Holding

pub less-clients-requires : goal.less-clients-requires
less-clients-requires c = c.requires Naming

pub returns : goal.returns
returns c = each-way _ c.less-holders.ensures c.less-clients.ensures
