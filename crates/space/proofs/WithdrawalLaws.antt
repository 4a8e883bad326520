-- Withdrawals by their objects and their places.
use Rattle.std.proofs.Common.{◌≡◌, ℕ, zero, suc, ◌≤◌, List, [], ◌∷◌, ◌++◌, length, drop, map, max, replicate, refl, ap, sym, ◌∙◌, arith, Some, slice_get, length-append, append_assoc, ◌-◌}
use Rattle.std.proofs.Math.Seq.{drop-append_seam}
use Rattle.std.proofs.lemmas.List.{length-replicate}
use Rattle.std.proofs.lemmas.Option.{none-some, same_Some}
use Rattle.object_ids.specs.declared.ids.ObjId.{ObjId}
use Rattle.history.specs.declared.places.Withdrawal.{Withdrawal}
use Rattle.dgc_server.specs.StandsForCalls.{LeaseTable}
use Rattle.export_table.specs.ExportRows.{held_by, withdrawn_ids}
use Rattle.export_table.specs.Table.{ExportTable}
use Rattle.space.specs.Acts.{withdrawal_at}
use Rattle.space.specs.Doubts.{HasLog}
use Rattle.space.specs.Withdrawing.{HasWithdrawn}
use Rattle.space.specs.Withdrawals.{paired_withdrawals}
use Rattle.space.proofs.AskLaws.{gone-few}

pub paired-length : (os : List ObjId) (ps : List ℕ) → length os ≡ length ps → length (paired_withdrawals os ps) ≡ length os
paired-length [] ps e = refl
paired-length (o ∷ os) [] e = absurd (omega (arith, e))
paired-length (o ∷ os) (p ∷ ps) e = ap suc (paired-length os ps (omega (arith, e)))

-- Their objects, from a place of the list on.
pub paired-objects : (k : ℕ) (os : List ObjId) (ps : List ℕ) → length os ≡ length ps → map (λ (w : Withdrawal). w.object) (drop k (paired_withdrawals os ps)) ≡ drop k os
paired-objects zero [] ps e = refl
paired-objects (suc k) [] ps e = refl
paired-objects k (o ∷ os) [] e = absurd (omega (arith, e))
paired-objects zero (o ∷ os) (p ∷ ps) e = ap (λ l. o ∷ l) (paired-objects zero os ps (omega (arith, e)))
paired-objects (suc k) (o ∷ os) (p ∷ ps) e = paired-objects k os ps (omega (arith, e))

pub paired-get : (k : ℕ) (os : List ObjId) (ps : List ℕ) (o : ObjId) (p : ℕ) → slice_get os k ≡ Some o → slice_get ps k ≡ Some p → slice_get (paired_withdrawals os ps) k ≡ Some (withdrawal_at p o)
paired-get k [] ps o p e f = absurd (none-some o e)
paired-get k (x ∷ os) [] o p e f = absurd (none-some p f)
paired-get zero (x ∷ os) (y ∷ ps) o p e f = ap (λ (z : ObjId). Some (withdrawal_at y z)) (same_Some x o e) ∙ ap (λ (z : ℕ). Some (withdrawal_at z o)) (same_Some y p f)
paired-get (suc k) (x ∷ os) (y ∷ ps) o p e f = paired-get k os ps o p e f

paired-one : (gone : List ObjId) (place : ℕ) → paired_withdrawals gone (replicate (length gone) place) ≡ map (withdrawal_at place) gone
paired-one [] place = refl
paired-one (o ∷ gone) place = ap (λ l. withdrawal_at place o ∷ l) (paired-one gone place)

-- More of them, all at one place.
pub paired-more : (os gone : List ObjId) (ps : List ℕ) (place : ℕ) → length os ≡ length ps → paired_withdrawals (os ++ gone) (ps ++ replicate (length gone) place) ≡ paired_withdrawals os ps ++ map (withdrawal_at place) gone
paired-more [] gone [] place e = paired-one gone place
paired-more [] gone (p ∷ ps) place e = absurd (omega (arith, e))
paired-more (o ∷ os) gone [] place e = absurd (omega (arith, e))
paired-more (o ∷ os) gone (p ∷ ps) place e = ap (λ l. withdrawal_at p o ∷ l) (paired-more os gone ps place (omega (arith, e)))

pub replicate-last : {X : Type 0} (n : ℕ) (x : X) → replicate n x ++ x ∷ [] ≡ replicate (suc n) x
replicate-last zero x = refl
replicate-last (suc n) x = ap (λ l. x ∷ l) (replicate-last n x)

-- Objects that are noted at a place, with the place as often.
pub noted : (os all gone : List ObjId) (ps places : List ℕ) (place count : ℕ) → length os ≡ length ps → all ≡ os ++ gone → places ≡ ps ++ replicate count place → count ≡ length gone →
    paired_withdrawals all places ≡ paired_withdrawals os ps ++ map (withdrawal_at place) gone
noted os all gone ps places place count e objects more many =
    ap (λ l. paired_withdrawals l places) objects ∙ ap (paired_withdrawals (os ++ gone)) (more ∙ ap (λ n. ps ++ replicate n place) many) ∙ paired-more os gone ps place e

pub noted-even : (os all gone : List ObjId) (ps places : List ℕ) (place count : ℕ) → length os ≡ length ps → all ≡ os ++ gone → places ≡ ps ++ replicate count place → count ≡ length gone → length all ≡ length places
noted-even os all gone ps places place count e objects more many =
    let a = ap length objects in let b = length-append os gone in let c = ap length more in let d = length-append ps (replicate count place) in let n = length-replicate {A = ℕ} count place in
    omega (arith, a, b, c, d, n, e, many)

-- ---- after those that are kept no longer

pub none-in : {X : Type 0} (xs : List X) → length xs ≡ 0 → xs ≡ []
none-in [] none = refl
none-in (x ∷ xs) none = absurd (omega (arith, none))

pub drop-past : {X : Type 0} (k : ℕ) (xs ys : List X) → length xs ≤ k → drop k (xs ++ ys) ≡ drop (k - length xs) ys
drop-past k [] ys le = let same : k ≡ k - 0 = omega arith in ap (λ n. drop n ys) same
drop-past zero (x ∷ xs) ys le = absurd (omega (arith, le))
drop-past (suc k) (x ∷ xs) ys le =
    let same : k - length xs ≡ suc k - length (x ∷ xs) = omega arith in drop-past k xs ys (omega (arith, le)) ∙ ap (λ n. drop n ys) same

pub told-noted : (told before all more : List Withdrawal) → all ≡ before ++ more → told ++ all ≡ (told ++ before) ++ more
told-noted told before all more is = ap (λ l. told ++ l) is ∙ sym (append_assoc told before more)

-- ---- what goes, after others

-- The rest of the list is what went.
pub gone-is : {leases1 leases2 : LeaseTable} {x y : ExportTable} {t : ℕ} {before after : List ObjId} → HasWithdrawn leases1 leases2 x y t before after → HasWithdrawn leases1 leases2 x y t [] (drop (length before) after)
gone-is {leases1} {leases2} {x} {y} {t} {before} {after} w = record {
  kept = w.kept;
  gone = λ lease m calls s. ap (drop (length before)) (w.gone lease m calls s) ∙ drop-append_seam before (withdrawn_ids t (held_by lease (max t m) calls) x.waits x.rows);
  dropped = w.dropped;
}

pub gone-after : {leases1 leases2 : LeaseTable} {x y : ExportTable} {t : ℕ} {before after : List ObjId} → HasLog leases1 → HasWithdrawn leases1 leases2 x y t before after → after ≡ before ++ drop (length before) after
gone-after {leases1} {leases2} {x} {y} {t} {before} {after} log w =
    w.gone log.lease log.moment log.calls log.stands ∙ ap (λ l. before ++ l) (sym ((gone-is w).gone log.lease log.moment log.calls log.stands))

pub gone-within : {leases1 leases2 : LeaseTable} {x y : ExportTable} {t : ℕ} {before after : List ObjId} → HasLog leases1 → HasWithdrawn leases1 leases2 x y t before after → length (drop (length before) after) ≤ length x.rows
gone-within {leases1} {leases2} {x} {y} {t} {before} {after} log w =
    let same = ap length ((gone-is w).gone log.lease log.moment log.calls log.stands) in
    let few = gone-few t (held_by log.lease (max t log.moment) log.calls) x.waits x.rows in omega (arith, same, few)
