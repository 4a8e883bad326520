use Rattle.std.proofs.Common.{codes, refl, rules}
use Rattle.rmi_words.specs.Clients.{IsAddressIn}
use Rattle.rmi_words.specs.Values.{IsCommandOf}
use Rattle.rmi_words.proofs.Lacking.{list_server, lacks}
use Rattle.rmi_words.proofs.client.read_list.Goals as goal

pub returns-in_err-server : goal.returns-in_err-server
returns-in_err-server c =
    lacks (IsCommandOf (codes "list")) IsAddressIn c.in_err-server.field-0.0 c.from_residual.result c.read_server.result _ _ _ (search rules) (search rules) refl c.read_server.ensures (list_server _)
