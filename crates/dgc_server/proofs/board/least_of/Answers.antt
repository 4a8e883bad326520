use Rattle.std.proofs.Common.{◌≡◌, [], drop, ap, arith}
use Rattle.std.specs.Prelude.{min}
use Rattle.std.proofs.lemmas.List.{drop_all}
use Rattle.dgc_server.specs.Chunks.{least_end}
use Rattle.dgc_server.proofs.Skipping.{least-most}
use Rattle.dgc_server.proofs.board.least_of.Goals as goal

pub loop-end-init : goal.loop-end-init
loop-end-init c = let most = least-most c.args.ends.now in record { most = omega arith; rest = omega arith }

pub returns : goal.returns
returns c =
    let stop = c.loop-end-test.false in
    let least = c.loop-end.least in
    let gone : drop c.loop-end.end-index c.args.ends.now ≡ [] = drop_all c.loop-end.end-index c.args.ends.now (omega arith) in
    let last : min least (least_end (drop c.loop-end.end-index c.args.ends.now)) ≡ min least 0xFFFFFFFFFFFFFFFF = ap (λ l. min least (least_end l)) gone in
    let most = c.loop-end.invariant.most in
    let rest = c.loop-end.invariant.rest in omega arith
