use Rattle.std.proofs.Common.{◌≡◌, subst, to_z, of_z, w64, ◌∷◌}
use Rattle.std.specs.Prelude.{ℤ, is_some, false}
use Rattle.std.proofs.Math.Facts.{to_z-of_z}
use Rattle.dgc_client.specs.Log.{Answers, notes, good_of}
use Rattle.dgc_client.specs.SentMap.{dirty_at}
use Rattle.dgc_client.specs.StandsForLog.{StandsFor}
use Rattle.dgc_client.proofs.Told.{answered-stands, unanswered-stands, answer-is, no-answer}
use Rattle.dgc_client.proofs.client_table.ClientTable.answered.Goals as goal

pub returns-in-Some-clause-stands : goal.returns-in-Some-clause-stands
returns-in-Some-clause-stands c client first calls s =
    let P : ℤ → Type 0 = λ n. StandsFor client first c.confirm.new.self (Answers n c.args.granted c.args.now ∷ calls) in
    subst P (to_z-of_z c.ranges.number)
    (answered-stands client first c.args.self.now c.take.new.self c.confirm.new.self (dirty_at (to_z w64 (of_z w64 c.args.number)) c.in-Some.call) c.args.granted c.args.now c.confirm.result calls s
    c.in-Some.ensures.was c.in-Some.ensures.same c.in-Some.ensures.closed c.confirm.ensures.answer c.confirm.ensures.table)

pub returns-in-Some-clause-answer : goal.returns-in-Some-clause-answer
returns-in-Some-clause-answer c client first calls s =
    let P : ℤ → Type 0 = λ n. c.confirm.result ≡ is_some (good_of (notes first calls) (Answers n c.args.granted c.args.now)) in
    subst P (to_z-of_z c.ranges.number)
    (answer-is client first c.args.self.now (dirty_at (to_z w64 (of_z w64 c.args.number)) c.in-Some.call) c.args.granted c.args.now c.confirm.result calls s c.in-Some.ensures.was c.confirm.ensures.answer)

pub returns-in-None-clause-stands : goal.returns-in-None-clause-stands
returns-in-None-clause-stands c client first calls s =
    let P : ℤ → Type 0 = λ n. StandsFor client first c.take.new.self (Answers n c.args.granted c.args.now ∷ calls) in
    subst P (to_z-of_z c.ranges.number)
    (unanswered-stands client first c.args.self.now c.take.new.self (to_z w64 (of_z w64 c.args.number)) c.args.granted c.args.now calls s c.in-None.ensures.was c.in-None.ensures.same c.in-None.ensures.closed)

pub returns-in-None-clause-answer : goal.returns-in-None-clause-answer
returns-in-None-clause-answer c client first calls s =
    let P : ℤ → Type 0 = λ n. false ≡ is_some (good_of (notes first calls) (Answers n c.args.granted c.args.now)) in
    subst P (to_z-of_z c.ranges.number) (no-answer client first c.args.self.now (to_z w64 (of_z w64 c.args.number)) c.args.granted c.args.now calls s c.in-None.ensures.was)
