use Rattle.std.proofs.Common.{rules}
use Rattle.rmi_words.specs.Options.{IsBindingOf, IsDurationOf}
use Rattle.rmi_words.specs.Values.{AreOptionsOf}
use Rattle.rmi_words.proofs.NotFound.{not_found}
use Rattle.rmi_words.proofs.options.read_lease_options.Goals as goal

pub returns-in_err-binding : goal.returns-in_err-binding
returns-in_err-binding c =
    not_found AreOptionsOf IsBindingOf c.from_residual.result c.read_binding.result (λ options. options.binding) _ _ _ (search rules) (search rules) c.get_str.ensures c.read_binding.ensures (λ options given. given.binding)

pub returns-in_err-lease_ms : goal.returns-in_err-lease_ms
returns-in_err-lease_ms c =
    not_found AreOptionsOf (IsDurationOf 600000) c.from_residual-in_err-lease_ms.result c.read_duration_or.result (λ options. options.lease_ms) _ _ _ (search rules) (search rules) c.get_str-2.ensures c.read_duration_or.ensures (λ options given. given.lease)

pub returns-in_err-ack_ms : goal.returns-in_err-ack_ms
returns-in_err-ack_ms c =
    not_found AreOptionsOf (IsDurationOf 300000) c.from_residual-in_err-ack_ms.result c.read_duration_or-2.result (λ options. options.ack_ms) _ _ _ (search rules) (search rules) c.get_str-3.ensures c.read_duration_or-2.ensures (λ options given. given.ack)
