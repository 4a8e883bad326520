use Rattle.std.proofs.Common.{◌∙◌, ap, map, string_bytes, rules, sym}
use Rattle.rmi_words.proofs.Asking.{any_map, asked_by, option_refused, refused_by, taken_asked, wrong_refused}
use Rattle.rmi_words.proofs.words.Words.command.Goals as goal

pub returns-then-has_option-clause-refused : goal.returns-then-has_option-clause-refused
returns-then-has_option-clause-refused c usage =
    option_refused c.args.self.now (map string_bytes c.as_slice-words.result.now) c.has_option.result (sym c.self.view_is ∙ ap (λ xs. map string_bytes xs) (sym c.as_slice-words.ensures.value))
    (c.has_option.ensures ∙ any_map string_bytes c.as_slice-words.result.now) c.if-has_option.true

pub returns-in_err-matches-clause-refused : goal.returns-in_err-matches-clause-refused
returns-in_err-matches-clause-refused c usage =
    wrong_refused c.args.self.now (map string_bytes c.as_slice-words.result.now) (sym c.self.view_is ∙ ap (λ xs. map string_bytes xs) (sym c.as_slice-words.ensures.value))
    (c.in_err-matches.ensures.refused (search rules))

pub returns-clause-asked : goal.returns-clause-asked
returns-clause-asked c =
    asked_by c.args.self.now c.command_of.result
    (taken_asked c.args.self.now (map string_bytes c.as_slice-words.result.now) c.has_option.result c.command_of.result _ (sym c.self.view_is ∙ ap (λ xs. map string_bytes xs) (sym c.as_slice-words.ensures.value))
    (c.has_option.ensures ∙ any_map string_bytes c.as_slice-words.result.now) c.if-has_option.false c.in_ok-matches.ensures.taken.0 c.in_ok-matches.ensures.taken.1 c.command_of.ensures)

pub returns-clause-refused : goal.returns-clause-refused
returns-clause-refused c usage =
    refused_by c.args.self.now c.command_of.result
    (taken_asked c.args.self.now (map string_bytes c.as_slice-words.result.now) c.has_option.result c.command_of.result _ (sym c.self.view_is ∙ ap (λ xs. map string_bytes xs) (sym c.as_slice-words.ensures.value))
    (c.has_option.ensures ∙ any_map string_bytes c.as_slice-words.result.now) c.if-has_option.false c.in_ok-matches.ensures.taken.0 c.in_ok-matches.ensures.taken.1 c.command_of.ensures) usage
