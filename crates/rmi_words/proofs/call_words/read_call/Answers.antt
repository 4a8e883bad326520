use Rattle.std.proofs.Common.{codes, refl, rules, subst}
use Rattle.rmi_words.specs.CallWords.{AreArguments, IsMethodOf}
use Rattle.rmi_words.specs.Clients.{IsAddressIn, IsTextIn, Reads}
use Rattle.rmi_words.specs.Values.{IsCommandOf, given_of}
use Rattle.rmi_words.proofs.Lacking.{call_arguments, call_method, call_name, call_server, lacks}
use Rattle.rmi_words.proofs.call_words.read_call.Goals as goal

pub returns-in_err-server : goal.returns-in_err-server
returns-in_err-server c =
    lacks (IsCommandOf (codes "call")) IsAddressIn c.in_err-server.field-0.0 c.from_residual.result c.read_server.result _ _ _ (search rules) (search rules) refl c.read_server.ensures (call_server _)

pub returns-in_err-name : goal.returns-in_err-name
returns-in_err-name c =
    lacks (IsCommandOf (codes "call")) IsTextIn c.in_err-name.field-0.0 c.from_residual-in_err-name.result c.read_name.result _ _ _ (search rules) (search rules) c.get_str.ensures c.read_name.ensures (call_name _)

pub returns-in_err-method : goal.returns-in_err-method
returns-in_err-method c =
    lacks (IsCommandOf (codes "call")) IsMethodOf c.in_err-method.field-0.0 c.from_residual-in_err-method.result c.read_method.result _ _ _ (search rules) (search rules) c.get_str-2.ensures c.read_method.ensures (call_method _)

pub returns-in_err-arguments : goal.returns-in_err-arguments
returns-in_err-arguments c =
    let method = c.in_ok-method.method in
    let given = given_of c.args.values.now in
    let is : IsMethodOf method (given.value (codes "METHOD")) = subst (IsMethodOf method) c.get_str-2.ensures c.in_ok-method.ensures in
    lacks (IsCommandOf (codes "call")) (AreArguments method.params) c.in_err-arguments.field-0.0 c.from_residual-in_err-arguments.result c.read_argument_words.result _ _ _ (search rules) (search rules) refl
    (subst (λ types. Reads (AreArguments types) c.read_argument_words.result given.arguments) c.as_slice.ensures c.read_argument_words.ensures) (call_arguments given method is)
