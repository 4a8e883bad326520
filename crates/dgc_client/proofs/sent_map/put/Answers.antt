use Rattle.std.proofs.Common.{◌≡◌, Some, subst, rules, to_z, of_z, w64, SFits}
use Rattle.std.specs.Prelude.{ℤ, find, if◌then◌else◌}
use Rattle.std.specs.Ordering.{int_eq}
use Rattle.std.proofs.Math.Facts.{to_z-of_z}
use Rattle.dgc_client.specs.Log.{has_number}
use Rattle.dgc_client.specs.SentMap.{dirty_at, dirties_in}
use Rattle.dgc_client.proofs.SentEntries.{found-updated}
use Rattle.dgc_client.proofs.sent_map.put.Goals as goal

pub returns-clause-ok : goal.returns-clause-ok
returns-clause-ok c =
    let fits : SFits w64 c.args.number.now = search rules in
    let old = c.args.sent.now.entries in
    let new = c.insert.new.self.entries in
    let P : ℤ → Type 0 = λ m. (n : ℤ) → find (has_number n) (dirties_in new) ≡ (if int_eq m n then Some (dirty_at m c.args.call) else find (has_number n) (dirties_in old)) in
    subst P (to_z-of_z fits) (found-updated (to_z w64 (of_z w64 c.args.number.now)) (Some c.args.call) old new c.in_ok-insert.ensures.updates.0)
