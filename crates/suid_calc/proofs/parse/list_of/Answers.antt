use Rattle.std.proofs.Common.{◌≡◌, ℕ, rules, Vec, Global}
use Rattle.std.specs.BTreeMap.{values}
use Rattle.suid_calc.proofs.KeptLaws.{kept_in_order, kept_are_good}
use Rattle.suid_calc.proofs.parse.list_of.Goals as goal

pub returns-clause-ordered : goal.returns-clause-ordered
returns-clause-ordered c =
    let e : c.put_all.new.members ≡ values c.args.kept = search rules in
    rw e (kept_in_order (λ (k : Vec ℕ Global). k.items) c.args.kept.entries c.requires c.len.ensures.ordered)

pub returns-clause-good : goal.returns-clause-good
returns-clause-good c =
    let e : c.put_all.new.members ≡ values c.args.kept = search rules in
    rw e (kept_are_good (λ (k : Vec ℕ Global). k.items) c.args.kept.entries c.requires)
