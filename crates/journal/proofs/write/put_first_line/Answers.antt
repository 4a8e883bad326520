use Rattle.std.proofs.Common.{w16, w32, w64, pos, rules, subst, sym}
use Rattle.std.specs.Prelude.{FitsSigned}
use Rattle.journal.proofs.write.put_first_line.Goals as goal

pub returns-clause-fits : goal.returns-clause-fits
returns-clause-fits c none =
    let unique : FitsSigned w32 c.args.config.now.uid.unique = search rules in
    let time : FitsSigned w64 c.args.config.now.uid.time = search rules in
    let zero : FitsSigned w16 (pos 0) = search rules in
    record { unique = unique; time = time; count = subst (FitsSigned w16) (sym none) zero }
