use Rattle.std.proofs.Common.{refl, None, Some, subst, to_z, of_z, w64, ◌∷◌}
use Rattle.std.specs.Prelude.{ℤ}
use Rattle.std.proofs.Math.Facts.{to_z-of_z}
use Rattle.dgc_client.specs.Log.{Fails}
use Rattle.dgc_client.specs.SentMap.{dirty_at}
use Rattle.dgc_client.specs.StandsForLog.{StandsFor}
use Rattle.dgc_client.proofs.Told.{failed-stands}
use Rattle.dgc_client.proofs.client_table.ClientTable.failed.Goals as goal

pub returns-in-Some : goal.returns-in-Some
returns-in-Some c client first calls s =
    let z = to_z w64 (of_z w64 c.args.number) in
    let P : ℤ → Type 0 = λ n. StandsFor client first c.strengthen.new.self (Fails n ∷ calls) in
    subst P (to_z-of_z c.ranges.number)
    (failed-stands client first c.args.self.now c.take.new.self c.strengthen.new.self z (Some (dirty_at z c.in-Some.call)) calls s
    c.in-Some.ensures.was c.in-Some.ensures.same c.in-Some.ensures.closed c.strengthen.ensures)

pub returns-in-None : goal.returns-in-None
returns-in-None c client first calls s =
    let z = to_z w64 (of_z w64 c.args.number) in
    let P : ℤ → Type 0 = λ n. StandsFor client first c.take.new.self (Fails n ∷ calls) in
    subst P (to_z-of_z c.ranges.number)
    (failed-stands client first c.args.self.now c.take.new.self c.take.new.self z None calls s
    c.in-None.ensures.was c.in-None.ensures.same c.in-None.ensures.closed refl)
