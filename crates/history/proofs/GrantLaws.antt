-- What is granted to a dirty, and what becomes of the lease.
use Rattle.std.proofs.Common.{◌≡◌, ℕ, ◌≤◌, List, ◌∷◌, refl, arith}
use Rattle.std.specs.Prelude.{ℤ, pos, negsuc, max, Bool, true, false, ◌&&◌, nat_lt, nat_le, if◌then◌else◌}
use Rattle.std.proofs.lemmas.Bool.{ltb-true}
use Rattle.history.specs.declared.calls.Call.{Call}
use Rattle.history.specs.Leases.{is_dirty, grant, grant_end, lease_end}
use Rattle.history.specs.Laws.{LeaseNeverFalls, LeaseLastsAsGranted, GrantIsWithin, ConfiguredIsGranted}

-- ---- what is granted

-- The one that is asked, where the test says so, and the configured lease otherwise.
pub grant-within : GrantIsWithin
unfolding grant
grant-within lease (pos asked) = go (nat_lt 0 asked) (nat_le asked lease) refl
  where
    go : (a b : Bool) → nat_le asked lease ≡ b → (if a && b then asked else lease) ≤ lease
    go true true e = grind (arith, e)
    go true false e = omega arith
    go false b e = omega arith
grant-within lease (negsuc n) = omega arith

pub grant-some : (lease : ℕ) (asked : ℤ) → 1 ≤ lease → 1 ≤ grant lease asked
unfolding grant
grant-some lease (pos asked) h = go (nat_lt 0 asked) (nat_le asked lease) refl
  where
    go : (a b : Bool) → nat_lt 0 asked ≡ a → 1 ≤ (if a && b then asked else lease)
    go true true e = let l = ltb-true 0 asked e in omega arith
    go true false e = h
    go false b e = h
grant-some lease (negsuc n) h = h

pub grant-configured : ConfiguredIsGranted
unfolding grant
grant-configured lease = go (nat_lt 0 lease && nat_le lease lease)
  where
    go : (b : Bool) → (if b then lease else lease) ≡ lease
    go true = refl
    go false = refl

-- A call that asks for nothing is granted the configured lease.
pub grant-none : (lease : ℕ) → grant lease (pos 0) ≡ lease
unfolding grant
grant-none lease = refl

-- ---- the lease

pub lease_end-dirty : (lease : ℕ) (x : Call) (own : List Call) → is_dirty x ≡ true → lease_end lease (x ∷ own) ≡ max (grant_end lease x) (lease_end lease own)
unfolding lease_end
lease_end-dirty lease x own d = rw d refl

pub never-falls : LeaseNeverFalls
unfolding lease_end
never-falls lease x own = go (is_dirty x)
  where
    go : (b : Bool) → lease_end lease own ≤ (if b then max (grant_end lease x) (lease_end lease own) else lease_end lease own)
    go true = omega arith
    go false = omega arith

pub lasts-as-granted : LeaseLastsAsGranted
lasts-as-granted lease x own d = let e = lease_end-dirty lease x own d in omega arith
