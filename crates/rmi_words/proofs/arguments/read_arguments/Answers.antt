use Rattle.std.proofs.Common.{◌∙◌, ◌≤◌, ◌≡◌, [], List, arith, length, map, refl, rules, subst}
use Rattle.std.proofs.lemmas.List.{append-nil, length-map}
use Rattle.rmi_words.specs.CallWords.{AreArguments}
use Rattle.rmi_words.specs.declared.call_words.Argument.{Argument}
use Rattle.rmi_words.proofs.ArgumentWords.{none_left, same_length, told_at}
use Rattle.rmi_words.proofs.Lacking.{lacks}
use Rattle.rmi_words.proofs.arguments.read_arguments.Goals as goal

pub returns-then-codes-words : goal.returns-then-codes-words
returns-then-codes-words c usage x told =
    let same = same_length c.args.codes.now x _ told ∙ length-map c.args.words.now (λ word. word.now) in
    c.if-codes-words.true same

pub returns-in_err-argument : goal.returns-in_err-argument
returns-in_err-argument c =
    lacks (AreArguments c.args.codes.now) _ c.in_err-argument.field-0.0 c.from_residual.result c.read_argument.result _ _ _ (search rules) (search rules) refl c.read_argument.ensures
    (λ x told. told_at c.args.codes.now x c.args.words.now c.loop-at.at _ _ (omega (arith, c.loop-at-test.true)) told)

pub returns : goal.returns
returns c =
    let equal : length c.args.codes.now ≡ length c.args.words.now = search rules in
    let last : length c.args.codes.now ≤ c.loop-at.at = omega (arith, c.loop-at-test.false) in
    let last2 : length c.args.words.now ≤ c.loop-at.at = omega (arith, equal, last) in
    subst (λ (xs : List Argument). AreArguments c.args.codes.now xs (map (λ word. word.now) c.args.words.now)) (append-nil c.loop-at.arguments)
    (c.loop-at.invariant.told [] (none_left c.args.codes.now c.args.words.now c.loop-at.at last last2))
