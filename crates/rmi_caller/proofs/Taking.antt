-- The first lease of a remote.
use Rattle.std.proofs.Common.{◌≡◌, ℕ, Bool, true, false, [], ◌∷◌, Option, Some, Result, Ok, Err, inl, inr, refl, subst, arith}
use Rattle.std.proofs.lemmas.Bool.{le-ltb}
use Rattle.std.specs.Prelude.{ℤ}
use Rattle.object_ids.specs.Client.{Client}
use Rattle.object_ids.specs.declared.ids.ObjId.{ObjId}
use Rattle.object_ids.specs.declared.ids.Uid.{Uid}
use Rattle.dgc_client.specs.declared.plan.Plan.{Plan}
use Rattle.dgc_client.specs.declared.plan.Plan.TheVariants.{Dirty}
use Rattle.dgc_client.specs.Log.{Registers, Dues, notes, note_of, next, refs, until, under_way, is_wanting}
use Rattle.dgc_client.specs.StandsForLog.{Parts, StandsFor, plan_after}
use Rattle.rmi_client.specs.declared.end.ClientEnd.{ClientEnd}
use Rattle.rmi_client.specs.declared.end.ClientEnd.TheVariants as ends
use Rattle.rmi_client.specs.Sessions.{LinkState, IsDgcAck, Tells}
use Rattle.rmi_caller.specs.Finding.{AcksIf, AcksNot, TakesLease}
use Rattle.rmi_caller.specs.Leasing.{Leases, LeasesAfter, LeasesPlan}

-- The one reference that is registered is wanting.
pub first_plan : (first : ℤ) (o : ObjId) (now : ℕ) → plan_after first (Registers o ∷ []) (Dues now) ≡ Some (Dirty first (o ∷ []))
unfolding notes note_of next refs until under_way is_wanting
first_plan first o now = rw (le-ltb now 0 (omega arith)) refl

of_plan : (client : Client) (first : ℤ) (o : ObjId) (now : ℕ) (table : Parts) (old new : LinkState)
    → Leases client first (Dues now ∷ Registers o ∷ []) (Dirty first (o ∷ [])) table false old new (Ok tt) → TakesLease client o table old new
of_plan client first o now table old new (Ok granted, sends, (later, stands), told) = record {
  first = first;
  sent = now;
  granted = granted;
  heard = later;
  asks = sends.asks refl;
  stands = stands;
}
of_plan client first o now table old new (Err end, sends, stands, (error, told, is)) = absurd cc

pub lease_taken : (client : Client) (first : ℤ) (o : ObjId) (now : ℕ) (before table : Parts) (over : Bool) (old new : LinkState) → over ≡ false
    → StandsFor client first before (Registers o ∷ []) → LeasesAfter (Dues now) before table over old new (Ok tt) → TakesLease client o table old new
lease_taken client first o now before table over old new is_open stands (inl each) =
    of_plan client first o now table old new
    (subst (λ (b : Bool). Leases client first (Dues now ∷ Registers o ∷ []) (Dirty first (o ∷ [])) table b old new (Ok tt)) is_open
    (subst (λ (plan : Option Plan). LeasesPlan client first (Dues now ∷ Registers o ∷ []) plan table over old new (Ok tt)) (first_plan first o now) (each client first (Registers o ∷ []) stands)))
lease_taken client first o now before table over old new is_open stands (inr (fault, told, rest, same)) = absurd cc

-- ---- acknowledgements

pub acked : (over : Bool) (uid : Uid) (old new : LinkState) (r : Result (Unit {0}) ClientEnd) → r ≡ Ok tt → (over ≡ true → (r ≡ Err ends.Over) × (new ≡ old)) → (over ≡ false → Tells (IsDgcAck uid) old new r) → AcksIf true uid old new
acked true uid old new r is is_over is_open = let bad : r ≡ Err ends.Over = (is_over refl).0 in absurd cc
acked false uid old new r is is_over is_open = subst (λ (x : Result (Unit {0}) ClientEnd). Tells (IsDgcAck uid) old new x) is (is_open refl)

pub not_acked : (over : Bool) (uid : Uid) (old new : LinkState) (r : Result (Unit {0}) ClientEnd) (end : ClientEnd) → r ≡ Err end → (over ≡ true → (r ≡ Err ends.Over) × (new ≡ old)) → (over ≡ false → Tells (IsDgcAck uid) old new r) → AcksNot uid old new
not_acked true uid old new r end is is_over is_open = inl (is_over refl).1
not_acked false uid old new r end is is_over is_open = inr (end, subst (λ (x : Result (Unit {0}) ClientEnd). Tells (IsDgcAck uid) old new x) is (is_open refl))
