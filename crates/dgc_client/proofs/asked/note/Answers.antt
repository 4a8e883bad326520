use Rattle.std.proofs.Common.{ap, ◌∙◌, rules, to_z, of_z, w64, SFits}
use Rattle.std.specs.Prelude.{int_le}
use Rattle.std.proofs.Math.Facts.{to_z-of_z}
use Rattle.dgc_client.proofs.SentEntries.{asked-noted}
use Rattle.dgc_client.proofs.asked.note.Goals as goal

pub returns : goal.returns
returns c =
    let n = c.greatest_of-greatest.result in
    let fits : SFits w64 n = search rules in
    asked-noted c.args.object.now c.args.number.now (to_z w64 (of_z w64 n)) c.args.asked.now c.insert.new.self
    (λ since. ap (int_le since) (to_z-of_z fits) ∙ c.greatest_of-greatest.ensures since) c.in_ok-insert.ensures.updates.0
