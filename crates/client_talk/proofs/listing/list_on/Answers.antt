use Rattle.client_talk.proofs.Registry.{listed_on, unlisted_on}
use Rattle.client_talk.proofs.listing.list_on.Goals as goal

pub returns-in-Ok-clause-talks : goal.returns-in-Ok-clause-talks
returns-in-Ok-clause-talks g c s k links given given2 here stands = listed_on s k links given given2 _ _ c.in-Ok.names here stands (c.in-Ok.ensures.asks c.requires)

pub returns-in-Err-clause-talks : goal.returns-in-Err-clause-talks
returns-in-Err-clause-talks g c s k links given given2 here stands = unlisted_on s k links given given2 _ _ c.in-Err.end here stands (c.in-Err.ensures.asks c.requires)
