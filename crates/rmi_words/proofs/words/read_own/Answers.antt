use Rattle.std.proofs.Common.{◌≡◌, codes, rules}
use Rattle.rmi_words.proofs.OneName.{answer_lacks, serve_lacks}
use Rattle.rmi_words.proofs.words.read_own.Goals as goal

pub returns-in_err-read_lease_options-in-answer : goal.returns-in_err-read_lease_options-in-answer
returns-in_err-read_lease_options-in-answer c =
    let is : c.args.name.now ≡ codes "answer" = search rules in
    answer_lacks _ _ c.from_residual.result c.read_lease_options.result (search rules) (search rules) is c.read_lease_options.ensures

pub returns-in_err-read_serve-in-serve : goal.returns-in_err-read_serve-in-serve
returns-in_err-read_serve-in-serve c =
    let is : c.args.name.now ≡ codes "serve" = search rules in
    serve_lacks _ _ c.from_residual-in_err-read_serve-in-serve.result c.read_serve.result (search rules) (search rules) is c.read_serve.ensures
