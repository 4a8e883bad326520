use Rattle.std.proofs.Common.{codes, refl, rules}
use Rattle.rmi_words.specs.Clients.{IsAddressIn, IsTextIn}
use Rattle.rmi_words.specs.Values.{IsCommandOf}
use Rattle.rmi_words.proofs.Lacking.{unbind_name, unbind_server, lacks}
use Rattle.rmi_words.proofs.client.read_unbind.Goals as goal

pub returns-in_err-server : goal.returns-in_err-server
returns-in_err-server c =
    lacks (IsCommandOf (codes "unbind")) IsAddressIn c.in_err-server.field-0.0 c.from_residual.result c.read_server.result _ _ _ (search rules) (search rules) refl c.read_server.ensures (unbind_server _)

pub returns-in_err-name : goal.returns-in_err-name
returns-in_err-name c =
    lacks (IsCommandOf (codes "unbind")) IsTextIn c.in_err-name.field-0.0 c.from_residual-in_err-name.result c.read_name.result _ _ _ (search rules) (search rules) c.get_str.ensures c.read_name.ensures (unbind_name _)
