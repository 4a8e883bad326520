use Rattle.std.proofs.Common.{rules, subst, sym}
use Rattle.rmi_words.specs.Clients.{IsAddressIn, IsTextIn}
use Rattle.rmi_words.specs.Options.{IsSmallOf}
use Rattle.rmi_words.proofs.Lacking.{lacks}
use Rattle.rmi_words.proofs.client.read_server.Goals as goal

pub returns-in_err-host : goal.returns-in_err-host
returns-in_err-host c =
    lacks IsAddressIn IsTextIn c.in_err-host.field-0.0 c.from_residual.result c.read_text.result _ _ _ (search rules) (search rules) c.get_str.ensures c.read_text.ensures.text (λ server told. (server.host, told.host_is))

pub returns-in-None : goal.returns-in-None
returns-in-None c usage server told = c.in-None.ensures server.port (subst (IsSmallOf server.port) (sym c.get_str-2.ensures) told.port_is)
