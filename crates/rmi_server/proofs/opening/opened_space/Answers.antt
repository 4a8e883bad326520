use Rattle.rmi_server.proofs.Beginning.{begun-sound, refuses-site}
use Rattle.rmi_server.proofs.opening.opened_space.Goals as goal

pub returns-in-Ok-clause-names : goal.returns-in-Ok-clause-names
returns-in-Ok-clause-names c = begun-sound _ c.args.site.now.names.now _ c.in-Ok.ensures.opens

pub returns-in-Err-clause-causes : goal.returns-in-Err-clause-causes
returns-in-Err-clause-causes c = refuses-site c.args.site.now c.in-Err.fault c.in-Err.ensures.causes
