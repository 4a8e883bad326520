-- How many clients have time left: later, and after one more call.
use Rattle.std.proofs.Common.{◌≡◌, ℕ, ◌≤◌, ◌⊎◌, inl, inr, List, [], ◌∷◌, ◌++◌, length, refl, ap, sym, ◌∙◌, cond, map}
use Rattle.std.specs.Prelude.{Bool, true, false, ◌&&◌, ◌||◌, filter, nat_lt}
use Rattle.std.specs.List.{list_any}
use Rattle.std.proofs.lemmas.Bool.{or_left, or_right}
use Rattle.std.proofs.lemmas.List.Folds.{list_any-append}
use Rattle.object_ids.specs.declared.ids.ObjId.{ObjId}
use Rattle.object_ids.specs.Client.{Client}
use Rattle.object_ids.specs.Same.{same_client}
use Rattle.history.specs.declared.asks.Ask.{Ask}
use Rattle.history.specs.declared.asks.Ask.TheVariants.{Dirty, Clean}
use Rattle.history.specs.declared.calls.Call.{Call}
use Rattle.history.specs.Lists.{distinct}
use Rattle.history.specs.LeaseCalls.{call_with}
use Rattle.history.specs.Leases.{is_dirty, lease_end, has_time_left, calls_of, clients, clients_with_time_left}
use Rattle.history.proofs.LeaseLaws.{list_any-clients}
use Rattle.history.proofs.ListLemmas.{IsEquality, AllOnce-distinct, length-fewer, and_false, any-filtered, same-turned, any-distinct}
use Rattle.history.proofs.Equalities.{client-equality}
use Rattle.history.proofs.PairLaws.{lease_end-clean}
use Rattle.dgc_server.proofs.Outputs.{time-called}
use Rattle.dgc_server.proofs.Steps.{earlier}

-- ---- how many items a list has, each counted once

-- Items that all stand in another list are no more than those.
pub distinct-fewer : {X : Type 0} (same : X → X → Bool) → IsEquality same → (xs ys : List X) → ((k : X) → list_any (same k) xs ≡ true → list_any (same k) ys ≡ true) →
    length (distinct same xs) ≤ length (distinct same ys)
distinct-fewer same e xs ys f =
    length-fewer same e (distinct same xs) (distinct same ys) (AllOnce-distinct same e xs)
    (λ k h. any-distinct e k ys ∙ f k (sym (any-distinct e k xs) ∙ h))

-- ---- clients with time left

-- A client is among those with time left exactly where it has time left.
pub any-left : (lease t : ℕ) (calls : List Call) (k : Client) → list_any (same_client k) (clients_with_time_left lease t calls) ≡ has_time_left lease t (calls_of k calls)
unfolding clients_with_time_left
any-left lease t calls k =
    any-filtered client-equality (λ c. has_time_left lease t (calls_of c calls)) k (clients calls)
    ∙ ap (λ v. v && has_time_left lease t (calls_of k calls)) (list_any-clients (same_client k) calls)
    ∙ both (has_time_left lease t (calls_of k calls)) refl
  where
    both : (b : Bool) → has_time_left lease t (calls_of k calls) ≡ b → (list_any (λ x. same_client k x.client) calls && b) ≡ b
    both true h = ap (λ v. v && true) (time-called lease t k calls h)
    both false h = and_false (list_any (λ x. same_client k x.client) calls)

-- Later no more have time left.
pub left-earlier : (lease t u : ℕ) (calls : List Call) → t ≤ u → (k : Client) → list_any (same_client k) (clients_with_time_left lease u calls) ≡ true →
    list_any (same_client k) (clients_with_time_left lease t calls) ≡ true
left-earlier lease t u calls le k h =
    any-left lease t calls k ∙ earlier t u (lease_end lease (calls_of k calls)) le (sym (any-left lease u calls k) ∙ h)

pub fewer-left : (lease t u : ℕ) (calls : List Call) → t ≤ u →
    length (distinct same_client (clients_with_time_left lease u calls)) ≤ length (distinct same_client (clients_with_time_left lease t calls))
fewer-left lease t u calls le =
    distinct-fewer same_client client-equality (clients_with_time_left lease u calls) (clients_with_time_left lease t calls) (left-earlier lease t u calls le)

-- ---- one more call

-- The calls of a client, with one more call.
pub own-more : (x : Call) (calls : List Call) (k : Client) (b : Bool) → same_client x.client k ≡ b → calls_of k (x ∷ calls) ≡ cond b (x ∷ calls_of k calls) (calls_of k calls)
unfolding calls_of
own-more x calls k b e = rw e refl

-- After a call only its client may have time left that had none.
left-after : (lease t : ℕ) (x : Call) (calls : List Call) (k : Client) → has_time_left lease t (calls_of k (x ∷ calls)) ≡ true →
    (list_any (same_client k) (map (λ y. y.client) (filter is_dirty (x ∷ []))) ≡ true) ⊎ (has_time_left lease t (calls_of k calls) ≡ true)
left-after lease t x calls k h = go (same_client x.client k) (is_dirty x) refl refl
  where
    go : (b d : Bool) → same_client x.client k ≡ b → is_dirty x ≡ d →
        (list_any (same_client k) (map (λ y. y.client) (cond d (x ∷ []) [])) ≡ true) ⊎ (has_time_left lease t (calls_of k calls) ≡ true)
    go false d e f = inr (ap (has_time_left lease t) (sym (own-more x calls k false e)) ∙ h)
    go true true e f = inl (or_left (same_client k x.client) false (same-turned client-equality k x.client ∙ e))
    go true false e f =
        inr (ap (λ n. nat_lt t n) (sym (lease_end-clean lease x (calls_of k calls) f)) ∙ ap (has_time_left lease t) (sym (own-more x calls k true e)) ∙ h)

-- The clients with time left after the call of an ask are those before it, and the sender of a dirty.
pub left-more : (lease t : ℕ) (names others : ObjId → Bool) (a : Ask) (calls : List Call) (k : Client) →
    list_any (same_client k) (clients_with_time_left lease t (call_with names t a ++ calls)) ≡ true →
    list_any (same_client k) (clients_with_time_left lease t calls ++ map (λ x. x.client) (filter is_dirty (call_with others t a))) ≡ true
left-more lease t names others a calls k h =
    list_any-append (same_client k) (clients_with_time_left lease t calls) (map (λ x. x.client) (filter is_dirty (call_with others t a)))
    ∙ go a (sym (any-left lease t (call_with names t a ++ calls) k) ∙ h)
  where
    senders : Ask → Bool
    senders b = list_any (same_client k) (map (λ x. x.client) (filter is_dirty (call_with others t b)))

    join : (b : Bool) → (b ≡ true) ⊎ (has_time_left lease t (calls_of k calls) ≡ true) → (list_any (same_client k) (clients_with_time_left lease t calls) || b) ≡ true
    join b (inl s) = or_right (list_any (same_client k) (clients_with_time_left lease t calls)) b s
    join b (inr s) = or_left (list_any (same_client k) (clients_with_time_left lease t calls)) b (any-left lease t calls k ∙ s)

    go : (b : Ask) → has_time_left lease t (calls_of k (call_with names t b ++ calls)) ≡ true →
        (list_any (same_client k) (clients_with_time_left lease t calls) || list_any (same_client k) (map (λ x. x.client) (filter is_dirty (call_with others t b)))) ≡ true
    go (Dirty client number asked objects) h = join _ (left-after lease t _ calls k h)
    go (Clean client number objects true) h = join _ (left-after lease t _ calls k h)
    go (Clean client number objects false) h = join _ (left-after lease t _ calls k h)
    go _ h = join _ (inr h)
