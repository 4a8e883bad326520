use Rattle.std.proofs.Common.{length, filter, ap, sym}
use Rattle.space.proofs.RunLists.{found, lowered, none-run, positive-there, some-run}
use Rattle.space.proofs.RunSteps.{without-none}
use Rattle.space.specs.Runs.{is_run}
use Rattle.space.specs.RunTable.{all_calls}
use Rattle.space.proofs.runs.lower.Goals as goal

pub returns-in-Some-clause-ended : goal.returns-in-Some-clause-ended
returns-in-Some-clause-ended c =
    let it = found c.args.run.now c.args.counts.now.entries c.in-Some.at c.get_index_of.ensures.unique (sym c.in-Some.ensures.index) in
    sym (some-run c.args.run.now c.args.counts.now.entries _ it.count (positive-there c.args.counts.now.entries c.in-Some.at it.entry it.there c.requires))

pub returns-in-Some-clause-rest : goal.returns-in-Some-clause-rest
returns-in-Some-clause-rest c =
    let it = found c.args.run.now c.args.counts.now.entries c.in-Some.at c.get_index_of.ensures.unique (sym c.in-Some.ensures.index) in
    lowered c.args.run.now it.entry c.args.counts.now.entries c.lower_at.new.counts.entries it.key
    (some-run c.args.run.now c.args.counts.now.entries _ it.count (positive-there c.args.counts.now.entries c.in-Some.at it.entry it.there c.requires)) (c.lower_at.ensures.rest it.entry it.there)

pub returns-in-None-clause-ended : goal.returns-in-None-clause-ended
returns-in-None-clause-ended c = sym (none-run c.args.run.now c.args.counts.now.entries c.get_index_of.ensures.unique (sym c.in-None.ensures.found))

pub returns-in-None-clause-rest : goal.returns-in-None-clause-rest
returns-in-None-clause-rest c test =
    ap (λ l. length (filter test l))
    (sym (without-none (is_run c.args.run.now.by c.args.run.now.object) (all_calls c.args.counts.now) (none-run c.args.run.now c.args.counts.now.entries c.get_index_of.ensures.unique (sym c.in-None.ensures.found))))
