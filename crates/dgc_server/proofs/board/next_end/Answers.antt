use Rattle.std.proofs.Common.{drop, ap, ◌∙◌, arith}
use Rattle.std.proofs.lemmas.List.{length-drop, take_rest}
use Rattle.std.specs.List.{position}
use Rattle.lane_kernels.specs.Kernels.{is_due}
use Rattle.dgc_server.proofs.Skipping.{none-found}
use Rattle.dgc_server.proofs.board.next_end.Goals as goal

pub returns-in-None : goal.returns-in-None
returns-in-None c =
    let all = none-found (is_due c.args.to) (drop c.args.from c.args.ends.now)
    (c.in-None.ensures ∙ ap (position (is_due c.args.to)) (take_rest c.args.ends.now c.args.from)) in
    let long = length-drop c.args.from c.args.ends.now in let within = c.requires in omega arith
