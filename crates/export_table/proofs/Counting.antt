-- One count of an index, after it is set or taken out.
use Rattle.std.proofs.Common.{◌≡◌, ℕ, ◌+◌, ◌∙◌, ap, refl, arith, cond, Some, None}
use Rattle.std.specs.Prelude.{Bool, true, false, unwrap_or, if◌then◌else◌}
use Rattle.object_ids.specs.declared.ids.ObjId.{ObjId}
use Rattle.object_ids.specs.Same.{same_id, same_key}
use Rattle.object_ids.proofs.Exact.{same_id-equal, same_key-same}
use Rattle.indexmap.specs.IndexMap.{IndexMap, get}
use Rattle.dgc_server.specs.HolderIndex.{one_if}
use Rattle.export_table.specs.WaitIndex.{count_at}

-- n has w at the key of k, and elsewhere what m has
pub put-count : {S : Type 0} (k : ObjId) (w : ℕ) (m n : IndexMap ObjId ℕ S) → ((q : ObjId) → get same_key n q ≡ cond (same_key k q) (Some w) (get same_key m q)) →
    (o : ObjId) → count_at n o ≡ (if same_id k o then w else count_at m o)
put-count k w m n h o = ap (λ v. unwrap_or v 0) (h o) ∙ ap (λ b. unwrap_or (cond b (Some w) (get same_key m o)) 0) (same_key-same k o) ∙ go (same_id k o)
  where
    go : (b : Bool) → unwrap_or (cond b (Some w) (get same_key m o)) 0 ≡ (if b then w else count_at m o)
    go true = refl
    go false = refl

-- n has nothing at the key of k, and elsewhere what m has
pub removed : {S : Type 0} (k : ObjId) (m n : IndexMap ObjId ℕ S) → ((q : ObjId) → get same_key n q ≡ cond (same_key k q) None (get same_key m q)) →
    (o : ObjId) → count_at n o ≡ (if same_id k o then 0 else count_at m o)
removed k m n h o = ap (λ v. unwrap_or v 0) (h o) ∙ ap (λ b. unwrap_or (cond b None (get same_key m o)) 0) (same_key-same k o) ∙ go (same_id k o)
  where
    go : (b : Bool) → unwrap_or (cond b None (get same_key m o)) 0 ≡ (if b then 0 else count_at m o)
    go true = refl
    go false = refl

-- a set count, as one more or one fewer
pub raised : {S : Type 0} (k : ObjId) (m n : IndexMap ObjId ℕ S) → ((o : ObjId) → count_at n o ≡ (if same_id k o then count_at m k + 1 else count_at m o)) →
    (o : ObjId) → count_at n o ≡ count_at m o + one_if (same_id k o)
raised k m n h o = h o ∙ go (same_id k o) refl
  where
    go : (b : Bool) → same_id k o ≡ b → (if b then count_at m k + 1 else count_at m o) ≡ count_at m o + one_if b
    go true e = ap (λ p. count_at m p + 1) (same_id-equal k o e)
    go false e = omega arith

pub lowered : {S : Type 0} (k : ObjId) (w : ℕ) (m n : IndexMap ObjId ℕ S) → w + 1 ≡ count_at m k → ((o : ObjId) → count_at n o ≡ (if same_id k o then w else count_at m o)) →
    (o : ObjId) → count_at n o + one_if (same_id k o) ≡ count_at m o
lowered k w m n less h o = ap (λ v. v + one_if (same_id k o)) (h o) ∙ go (same_id k o) refl
  where
    go : (b : Bool) → same_id k o ≡ b → (if b then w else count_at m o) + one_if b ≡ count_at m o
    go true e = less ∙ ap (count_at m) (same_id-equal k o e)
    go false e = omega arith
