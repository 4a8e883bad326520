-- The first entries of the map in which references are found, which want no call while the client's time lasts.
use Rattle.std.proofs.Common.{◌≡◌, ℕ, zero, suc, ◌+◌, ◌-◌, ◌≤◌, List, [], ◌∷◌, ◌++◌, refl, ap, sym, subst, ◌∙◌, arith, cond, Some, length, slice_get, drop, true≢false}
use Rattle.std.specs.Prelude.{ℤ, Bool, true, false, ◌||◌, ◌&&◌, not, IsTrue, filter, int_le, if◌then◌else◌}
use Rattle.std.specs.List.{list_any}
use Rattle.std.specs.Map.{lookup, remove_entry, set_value}
use Rattle.object_ids.specs.declared.ids.ObjId.{ObjId}
use Rattle.dgc_client.specs.declared.client_ref.ClientRef.{ClientRef}
use Rattle.dgc_client.specs.declared.ref_map.Kept.{Kept}
use Rattle.dgc_client.specs.declared.ref_map.Change.{Change}
use Rattle.dgc_client.specs.declared.ref_map.Change.TheVariants.{Confirm, Strengthen}
use Rattle.dgc_client.specs.Log.{Dirty, asks_for}
use Rattle.dgc_client.specs.RefMap.{ref_at, refs_in, changed, rests, AreSettled}
use Rattle.dgc_client.specs.StandsForLog.{wants}
use Rattle.dgc_client.proofs.RefEntries.{Entries}

-- ---- an entry

-- A change leaves what wants no call as that.
pub rests-changed : (o : ObjId) (ch : Change) (k w : Kept) → w.gone ≡ k.gone → ref_at o w ≡ changed ch (ref_at o k) → IsTrue (rests k) → IsTrue (rests w)
rests-changed o (Confirm number) k w gone value h = ap (λ b. b || w.sure) gone ∙ ap (λ (r : ClientRef). k.gone || r.sure) value ∙ go k.gone k.sure (ref_at o k).since h
  where
    go : (g s : Bool) (since : ℤ) → (g || s) ≡ true → (g || (int_le since number || s)) ≡ true
    go true s since h = refl
    go false s since h = ap (λ b. int_le since number || b) h ∙ or-true (int_le since number)
      where
        or-true : (b : Bool) → (b || true) ≡ true
        or-true true = refl
        or-true false = refl
rests-changed o Strengthen k w gone value h = ap (λ b. b || w.sure) gone ∙ ap (λ (r : ClientRef). k.gone || r.sure) value ∙ h

-- ---- the first entries

pub settled-few : (n : ℕ) (es : Entries) → AreSettled n es → n ≤ length es
settled-few zero es h = omega arith
settled-few (suc n) [] h = absurd (true≢false (sym h))
settled-few (suc n) (e ∷ es) h = let few = settled-few n es h.1 in omega arith

-- One more of them wants no call.
settled-one : (n : ℕ) (es : Entries) (e : ObjId × Kept) → AreSettled n es → slice_get es n ≡ Some e → IsTrue (rests e.1) → AreSettled (suc n) es
settled-one zero [] e h at r = absurd (cc)
settled-one zero (x ∷ es) e h at r = let same : x ≡ e = cc in (subst (λ (y : ObjId × Kept). IsTrue (rests y.1)) (sym same) r, tt)
settled-one (suc n) [] e h at r = absurd (cc)
settled-one (suc n) (x ∷ es) e h at r = (h.0, settled-one n es e h.1 at r)

pub settled-next : (n : ℕ) (es : Entries) (e : ObjId × Kept) → AreSettled n es → slice_get es n ≡ Some e → IsTrue (rests e.1) → AreSettled (n + 1) es
settled-next n es e h at r = let same : suc n ≡ n + 1 = omega arith in subst (λ m. AreSettled m es) same (settled-one n es e h at r)

-- The first of them do not depend on those behind.
pub settled-more : (n : ℕ) (es fs : Entries) → AreSettled n es → AreSettled n (es ++ fs)
settled-more zero es fs h = tt
settled-more (suc n) [] fs h = absurd (true≢false (sym h))
settled-more (suc n) (e ∷ es) fs h = (h.0, settled-more n es fs h.1)

-- One less is known of them.
settled-less : (n : ℕ) (es : Entries) → AreSettled (suc n) es → AreSettled n es
settled-less zero es h = tt
settled-less (suc n) [] h = h
settled-less (suc n) (e ∷ es) h = (h.0, settled-less n es h.1)

one-out : (t : ObjId → Bool) (n : ℕ) (es : Entries) → AreSettled (suc n) es → AreSettled n (remove_entry t es)
one-out t n [] h = absurd (true≢false (sym h))
one-out t n (e ∷ es) h = go (t e.0) n h.1 (λ m. one-out t m es)
  where
    go : (b : Bool) (n : ℕ) → AreSettled n es → ((m : ℕ) → AreSettled (suc m) es → AreSettled m (remove_entry t es)) → AreSettled n (cond b es (e ∷ remove_entry t es))
    go true n rest out = rest
    go false zero rest out = tt
    go false (suc n) rest out = (h.0, out n rest)

-- One that is taken out is one less of them.
pub settled-removed : (t : ObjId → Bool) (n : ℕ) (es : Entries) → AreSettled n es → AreSettled (n - 1) (remove_entry t es)
settled-removed t zero es h = let none : zero ≡ zero - 1 = omega arith in subst (λ m. AreSettled m (remove_entry t es)) none tt
settled-removed t (suc n) es h = let less : n ≡ suc n - 1 = omega arith in subst (λ m. AreSettled m (remove_entry t es)) less (one-out t n es h)

-- A value is put in the place of one, and wants no call if that did not.
pub settled-set : (t : ObjId → Bool) (k w : Kept) → (IsTrue (rests k) → IsTrue (rests w)) → (es : Entries) → lookup t es ≡ Some k → (n : ℕ) → AreSettled n es → AreSettled n (set_value t es w)
settled-set t k w keeps es found zero h = tt
settled-set t k w keeps [] found (suc n) h = h
settled-set t k w keeps (e ∷ es) found (suc n) h = go (t e.0) found (λ f. settled-set t k w keeps es f n h.1)
  where
    go : (b : Bool) → cond b (Some e.1) (lookup t es) ≡ Some k → (lookup t es ≡ Some k → AreSettled n (set_value t es w)) → AreSettled (suc n) (cond b ((e.0, w) ∷ es) (e ∷ set_value t es w))
    go true f rest = let same : e.1 ≡ k = cc in (keeps (subst (λ (x : Kept). IsTrue (rests x)) same h.0), h.1)
    go false f rest = (h.0, rest f)

-- ---- the references that are wanting

-- While the client's time lasts, none of the first ones wants a call.
pub wants-behind : (ys : List Dirty) (n : ℕ) (es : Entries) → AreSettled n es → filter (wants false ys) (refs_in (drop n es)) ≡ filter (wants false ys) (refs_in es)
wants-behind ys zero es h = refl
wants-behind ys (suc n) [] h = absurd (true≢false (sym h))
wants-behind ys (suc n) (e ∷ es) h = wants-behind ys n es h.1 ∙ go e.1.gone e.1.sure refl h.0
  where
    go : (g s : Bool) → e.1.sure ≡ s → (g || s) ≡ true → filter (wants false ys) (refs_in es) ≡ filter (wants false ys) (if g then refs_in es else ref_at e.0 e.1 ∷ refs_in es)
    go true s q r = refl
    go false true q r =
        ap (λ b. cond (not b && not (list_any (asks_for e.0 e.1.since) ys)) (ref_at e.0 e.1 ∷ filter (wants false ys) (refs_in es)) (filter (wants false ys) (refs_in es))) (sym q)
    go false false q r = absurd (true≢false (sym r))
