use Rattle.std.proofs.Common.{length, ap, ◌∙◌}
use Rattle.std.specs.Prelude.{nat_lt}
use Rattle.dgc_server.proofs.MarkLists.{there-at}
use Rattle.dgc_server.proofs.few_marks.is_there.Goals as goal

pub returns : goal.returns
returns c = ap (λ n. nat_lt n (length c.args.marks.now)) c.place_of.ensures ∙ there-at c.args.object.now c.args.marks.now
