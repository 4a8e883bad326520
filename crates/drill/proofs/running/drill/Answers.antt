use Rattle.std.proofs.Common.{rules, [], ◌∷◌, ◌++◌}
use Rattle.std.proofs.lemmas.Result.{err_from_is_err_and}
use Rattle.drill.specs.Rounds.{drill_config, opening, start, events_from}
use Rattle.drill.specs.Runs.{EndsIn}
use Rattle.drill.proofs.Coming.{first_ends, later_ends}
use Rattle.drill.proofs.running.drill.Goals as goal

pub returns-in_err-take_all-clause-refused : goal.returns-in_err-take_all-clause-refused
returns-in_err-take_all-clause-refused c =
    let p = err_from_is_err_and c.from_residual-in_err-take_all.result c.from_residual-in_err-take_all.ensures.1 in
    let ends : EndsIn drill_config [] (opening ∷ []) c.in_err-take_all.field-0.0 = search rules in
    rw (p.1, p.2) (first_ends drill_config [] (opening ∷ []) (events_from 0 (start c.args.seed) c.args.rounds) c.in_err-take_all.field-0.0 ends)

pub returns-in_err-go_on-clause-refused : goal.returns-in_err-go_on-clause-refused
returns-in_err-go_on-clause-refused c =
    let p = err_from_is_err_and c.from_residual-in_err-go_on.result c.from_residual-in_err-go_on.ensures.1 in
    let ends : EndsIn drill_config ([] ++ opening ∷ []) (events_from 0 (start c.args.seed) c.args.rounds) c.in_err-go_on.field-0.0 = search rules in
    rw (p.1, p.2) (later_ends drill_config [] (opening ∷ []) (events_from 0 (start c.args.seed) c.args.rounds) c.in_err-go_on.field-0.0 ends)
