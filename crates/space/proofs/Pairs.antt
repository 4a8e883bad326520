-- Which pairs of a client and an object are remembered: later, and after one more call.
use Rattle.std.proofs.Common.{◌≡◌, ℕ, ◌≤◌, ◌⊎◌, inl, inr, List, [], ◌∷◌, refl, ap, sym, ◌∙◌, cond}
use Rattle.std.specs.Prelude.{Bool, true, false, ◌&&◌, ◌||◌, nat_lt, if◌then◌else◌}
use Rattle.std.specs.List.{list_any}
use Rattle.std.proofs.lemmas.Bool.{or_left, or_right, or_cases, and_parts, and_from}
use Rattle.object_ids.specs.declared.ids.ObjId.{ObjId}
use Rattle.object_ids.specs.Same.{same_client, same_id}
use Rattle.object_ids.proofs.Exact.{same_client-equal}
use Rattle.history.specs.declared.calls.Call.{Call}
use Rattle.history.specs.declared.calls.Pair.{Pair}
use Rattle.history.specs.Leases.{is_dirty, is_strong, is_naming, lease_end, has_time_left, tenure, strong_cleans, calls_of, is_remembered, same_pair, pairs_of, new_pairs}
use Rattle.history.proofs.ListLemmas.{list_any-same, or_false, same-turned}
use Rattle.history.proofs.Equalities.{object-equality, client-equality}
use Rattle.history.proofs.PairLaws.{any-pairs_of, lease_end-clean}
use Rattle.dgc_server.proofs.Steps.{earlier}
use Rattle.space.proofs.Clients.{own-more}

-- ---- later

pub remembered-earlier : (lease t u : ℕ) (own : List Call) (o : ObjId) → t ≤ u → is_remembered lease u own o ≡ true → is_remembered lease t own o ≡ true
unfolding is_remembered
remembered-earlier lease t u own o le h = elim (or_cases (has_time_left lease u own && list_any (is_naming o) (tenure lease own)) (list_any (is_naming o) (strong_cleans own)) h) [
  | inl x ↦ (let two = and_parts (has_time_left lease u own) (list_any (is_naming o) (tenure lease own)) x in
      or_left (has_time_left lease t own && list_any (is_naming o) (tenure lease own)) (list_any (is_naming o) (strong_cleans own))
      (and_from (has_time_left lease t own) (list_any (is_naming o) (tenure lease own)) (earlier t u (lease_end lease own) le two.0) two.1))
  | inr y ↦ or_right (has_time_left lease t own && list_any (is_naming o) (tenure lease own)) (list_any (is_naming o) (strong_cleans own)) y
]

-- ---- one more call

-- The call brings pairs: it is no weak clean of a client without time left.
abbrev pub brings : ℕ → List Call → Call → Bool
brings lease own x = is_dirty x || is_strong x || has_time_left lease x.moment own

-- After a call an object is remembered that was so before, or that the call brings.
pub remembered-after : (lease : ℕ) (x : Call) (own : List Call) (o : ObjId) → is_remembered lease x.moment (x ∷ own) o ≡ true →
    (is_remembered lease x.moment own o ≡ true) ⊎ ((brings lease own x ≡ true) × (is_naming o x ≡ true))
unfolding is_remembered tenure
remembered-after lease x own o h =
    elim (or_cases (has_time_left lease x.moment (x ∷ own) && list_any (is_naming o) (tenure lease (x ∷ own))) (list_any (is_naming o) (strong_cleans (x ∷ own))) h) [
      | inl l ↦ (let two = and_parts (has_time_left lease x.moment (x ∷ own)) (list_any (is_naming o) (tenure lease (x ∷ own))) l in
          in_tenure (has_time_left lease x.moment own) (is_dirty x) (is_naming o x) refl refl refl two.0 two.1)
      | inr s ↦ in_strong (is_strong x) (is_naming o x) refl refl s
    ]
  where
    Result : Type 0
    Result = (is_remembered lease x.moment own o ≡ true) ⊎ ((brings lease own x ≡ true) × (is_naming o x ≡ true))

    or_middle : (a b c : Bool) → b ≡ true → (a || b || c) ≡ true
    or_middle true true c e = refl
    or_middle false true c e = refl
    or_middle a false c e = absurd (cc)

    or_last : (a b c : Bool) → c ≡ true → (a || b || c) ≡ true
    or_last true true true e = refl
    or_last true false true e = refl
    or_last false true true e = refl
    or_last false false true e = refl
    or_last a b false e = absurd (cc)

    or_first : (a b c : Bool) → a ≡ true → (a || b || c) ≡ true
    or_first true true c e = refl
    or_first true false c e = refl
    or_first false b c e = absurd (cc)

    in_strong : (s n : Bool) → is_strong x ≡ s → is_naming o x ≡ n → list_any (is_naming o) (cond s (x ∷ strong_cleans own) (strong_cleans own)) ≡ true → Result
    in_strong true true e f g = inr (or_middle (is_dirty x) (is_strong x) (has_time_left lease x.moment own) e, f)
    in_strong true false e f g =
        inl (or_right (has_time_left lease x.moment own && list_any (is_naming o) (tenure lease own)) (list_any (is_naming o) (strong_cleans own)) (ap (λ v. v || list_any (is_naming o) (strong_cleans own)) (sym f) ∙ g))
    in_strong false n e f g = inl (or_right (has_time_left lease x.moment own && list_any (is_naming o) (tenure lease own)) (list_any (is_naming o) (strong_cleans own)) g)

    in_tenure : (l d n : Bool) → has_time_left lease x.moment own ≡ l → is_dirty x ≡ d → is_naming o x ≡ n → has_time_left lease x.moment (x ∷ own) ≡ true →
        list_any (is_naming o) (if l then x ∷ tenure lease own else if d then x ∷ [] else tenure lease own) ≡ true → Result
    in_tenure true d true e f g left named = inr (or_last (is_dirty x) (is_strong x) (has_time_left lease x.moment own) e, g)
    in_tenure true d false e f g left named =
        inl (or_left (has_time_left lease x.moment own && list_any (is_naming o) (tenure lease own)) (list_any (is_naming o) (strong_cleans own))
        (and_from (has_time_left lease x.moment own) (list_any (is_naming o) (tenure lease own)) e (ap (λ v. v || list_any (is_naming o) (tenure lease own)) (sym g) ∙ named)))
    in_tenure false true n e f g left named = inr (or_first (is_dirty x) (is_strong x) (has_time_left lease x.moment own) f, sym (or_false (is_naming o x)) ∙ named)
    in_tenure false false n e f g left named = absurd (let same = ap (λ k. nat_lt x.moment k) (lease_end-clean lease x own f) in let never = sym left ∙ same ∙ e in cc)

-- A pair that is remembered after a call was so before, or is among those that the call brings.
pub pair-after : (lease : ℕ) (x : Call) (calls : List Call) (p : Pair) → is_remembered lease x.moment (calls_of p.client (x ∷ calls)) p.object ≡ true →
    (is_remembered lease x.moment (calls_of p.client calls) p.object ≡ true) ⊎ (list_any (same_pair p) (new_pairs lease calls x) ≡ true)
unfolding new_pairs
pair-after lease x calls p h = go (same_client x.client p.client) refl
  where
    brought : same_client x.client p.client ≡ true → (brings lease (calls_of p.client calls) x ≡ true) × (is_naming p.object x ≡ true) →
        list_any (same_pair p) (if is_dirty x || is_strong x || has_time_left lease x.moment (calls_of x.client calls) then pairs_of x.client x.objects else []) ≡ true
    brought e two =
        let same = same_client-equal x.client p.client e in
        let some : brings lease (calls_of x.client calls) x ≡ true = ap (λ c. brings lease (calls_of c calls) x) same ∙ two.0 in
        rw some (any-pairs_of p x.client x.objects
        ∙ and_from (same_client p.client x.client) (list_any (same_id p.object) x.objects) (same-turned client-equality p.client x.client ∙ e)
        (list_any-same (same_id p.object) (λ y. same_id y p.object) (λ y. same-turned object-equality p.object y) x.objects ∙ two.1))

    go : (b : Bool) → same_client x.client p.client ≡ b →
        (is_remembered lease x.moment (calls_of p.client calls) p.object ≡ true)
        ⊎ (list_any (same_pair p) (if is_dirty x || is_strong x || has_time_left lease x.moment (calls_of x.client calls) then pairs_of x.client x.objects else []) ≡ true)
    go false e = inl (ap (λ own. is_remembered lease x.moment own p.object) (sym (own-more x calls p.client false e)) ∙ h)
    go true e = elim (remembered-after lease x (calls_of p.client calls) p.object (ap (λ own. is_remembered lease x.moment own p.object) (sym (own-more x calls p.client true e)) ∙ h)) [
      | inl old ↦ inl old
      | inr new ↦ inr (brought e new)
    ]
