-- Objects of which nothing is counted any more, one after another.
use Rattle.std.proofs.Common.{◌≡◌, ℕ, ◌+◌, ◌≤◌, ◌<◌, List, [], ◌∷◌, refl, ap, sym, ◌∙◌, length, drop, get_or}
use Rattle.std.specs.Prelude.{Bool, true, false, ◌||◌, if◌then◌else◌}
use Rattle.sequence.proofs.Lists.{drop-at}
use Rattle.object_ids.specs.declared.ids.ObjId.{ObjId}
use Rattle.object_ids.specs.Same.{same_id}
use Rattle.dgc_server.specs.Entry.{is_in}
use Rattle.dgc_server.specs.HolderIndex.{total_of}
use Rattle.dgc_server.proofs.HolderLaws.{drop-gone}

total-same : (f g : ObjId → ℕ) → ((p : ObjId) → f p ≡ g p) → (os : List ObjId) → total_of f os ≡ total_of g os
total-same f g h [] = refl
total-same f g h (o ∷ os) =
    ap (λ n. n + total_of (λ p. if same_id o p then 0 else f p) os) (h o)
    ∙ ap (λ n. g o + n) (total-same (λ p. if same_id o p then 0 else f p) (λ p. if same_id o p then 0 else g p) (λ p. ap (λ n. if same_id o p then 0 else n) (h p)) os)

module _ (os : List ObjId) (i : ℕ) (d : ObjId) (within : i < length os) (f g : ObjId → ℕ) (step : (p : ObjId) → g p ≡ (if same_id (get_or os i d) p then 0 else f p)) where
  pub cleared-next : (p : ObjId) → (if is_in p (drop (i + 1) os) then 0 else g p) ≡ (if is_in p (drop i os) then 0 else f p)
  cleared-next p =
      ap (λ n. if is_in p (drop (i + 1) os) then 0 else n) (step p) ∙ go (same_id (get_or os i d) p) (is_in p (drop (i + 1) os)) (f p)
      ∙ sym (ap (λ l. if is_in p l then 0 else f p) (drop-at os i d within))
    where
      go : (a b : Bool) (n : ℕ) → (if b then 0 else (if a then 0 else n)) ≡ (if a || b then 0 else n)
      go true true n = refl
      go true false n = refl
      go false true n = refl
      go false false n = refl

  pub total-next : f (get_or os i d) + total_of g (drop (i + 1) os) ≡ total_of f (drop i os)
  total-next =
      ap (λ n. f (get_or os i d) + n) (total-same g (λ p. if same_id (get_or os i d) p then 0 else f p) step (drop (i + 1) os))
      ∙ sym (ap (total_of f) (drop-at os i d within))

pub cleared-last : (os : List ObjId) (i n : ℕ) (p : ObjId) → length os ≤ i → (if is_in p (drop i os) then 0 else n) ≡ n
cleared-last os i n p long = ap (λ l. if is_in p l then 0 else n) (drop-gone os i long)

pub total-last : (os : List ObjId) (i : ℕ) (f : ObjId → ℕ) → length os ≤ i → total_of f (drop i os) ≡ 0
total-last os i f long = ap (total_of f) (drop-gone os i long)
