use Rattle.std.proofs.Common.{rules, refl}
use Rattle.rmi_words.specs.Options.{IsSmallOf}
use Rattle.rmi_words.specs.Values.{AreOptionsOf, IsServeOf}
use Rattle.rmi_words.proofs.NotFound.{not_found}
use Rattle.rmi_words.proofs.options.read_serve.Goals as goal

pub returns-in_err-port : goal.returns-in_err-port
returns-in_err-port c =
    not_found IsServeOf IsSmallOf c.from_residual.result c.read_small_of.result (λ serve. serve.port) _ _ _ (search rules) (search rules) c.get_str.ensures c.read_small_of.ensures (λ serve given. given.port)

pub returns-in_err-count : goal.returns-in_err-count
returns-in_err-count c =
    not_found IsServeOf IsSmallOf c.from_residual-in_err-count.result c.read_small_of-2.result (λ serve. serve.count) _ _ _ (search rules) (search rules) c.get_str-2.ensures c.read_small_of-2.ensures (λ serve given. given.count)

pub returns-in_err-options : goal.returns-in_err-options
returns-in_err-options c =
    not_found IsServeOf AreOptionsOf c.from_residual-in_err-options.result c.read_lease_options.result (λ serve. serve.options) _ _ _ (search rules) (search rules) refl c.read_lease_options.ensures (λ serve given. given.options)
