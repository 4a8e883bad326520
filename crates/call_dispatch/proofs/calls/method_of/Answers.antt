use Rattle.std.proofs.Common.{sym, rules}
use Rattle.std.specs.Prelude.{FitsSigned}
use Rattle.std.specs.Int.{w32, w64}
use Rattle.std.proofs.lemmas.Int.{to_z-of_z}
use Rattle.call_dispatch.proofs.Returning.{found_method, found_none}
use Rattle.call_dispatch.proofs.calls.method_of.Goals as goal

pub returns-clause-some : goal.returns-clause-some
returns-clause-some c =
    let fits_o : FitsSigned w32 c.args.head.now.operation = search rules in
    let fits_h : FitsSigned w64 c.args.head.now.hash = search rules in
    let some = rw (to_z-of_z w64 c.args.head.now.hash fits_h) at c.find.ensures in
    found_method c.args.book.now c.args.kind c.args.head.now c.find.result (rw c.if-head.false at (sym (to_z-of_z w32 c.args.head.now.operation fits_o))) some

pub returns-clause-none : goal.returns-clause-none
returns-clause-none c =
    let fits_h : FitsSigned w64 c.args.head.now.hash = search rules in
    found_none c.args.book.now c.args.kind c.args.head.now c.find.result (rw (to_z-of_z w64 c.args.head.now.hash fits_h) at c.find.ensures)
