use Rattle.dgc_server.specs.HolderIndex.{Holding, Naming}
use Rattle.dgc_server.proofs.HolderLaws.{each-way}
use Rattle.dgc_server.proofs.holders.raise_count.Goals as goal

pub more-holders-requires : goal.more-holders-requires
more-holders-requires c = c.requires Holding

pub more-clients-requires : goal.more-clients-requires
more-clients-requires c = c.requires Naming

pub returns : goal.returns
returns c = each-way _ c.more-holders.ensures c.more-clients.ensures
