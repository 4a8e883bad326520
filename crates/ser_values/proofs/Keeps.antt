-- Marks as nodes get handles.
use Rattle.std.proofs.Common.{◌≡◌, ◌≢◌, ◌||◌, ℕ, zero, suc, ◌<◌, Bool, true, false, eqb, List, [], ◌∷◌, ◌++◌, length, Some, slice_get, slice_set, refl, sym, ap, ◌∙◌, arith, inl, inr, replicate}
use Rattle.std.proofs.lemmas.Bool.{eqb-true, eqb-false, cases_eq}
use Rattle.std.proofs.lemmas.List.{length-set}
use Rattle.ser_values.specs.declared.seen.Mark.{Mark}
use Rattle.ser_values.specs.declared.seen.Mark.TheVariants.{New, Unread, Done}
use Rattle.ser_values.specs.Node.{has}
use Rattle.ser_values.specs.Seen.{mark_of, Once, Kept}
use Rattle.ser_values.specs.Walk.{front}
use Rattle.ser_values.proofs.Lists.{slice_get-set_other, has-append_other, has-append_no}

pub has-push_last : (xs : List ℕ) (n : ℕ) → has (xs ++ n ∷ []) n ≡ true
unfolding has
has-push_last [] n = grind arith
has-push_last (x ∷ xs) n = let e = has-push_last xs n in grind (arith, e)

pub has-push_other : (xs : List ℕ) (n k : ℕ) → k ≢ n → has (xs ++ n ∷ []) k ≡ has xs k
has-push_other xs n k ne = go (has xs k) refl
  where
    go : (b : Bool) → has xs k ≡ b → has (xs ++ n ∷ []) k ≡ b
    go false e = has-append_other xs n k e ne
    go true e = back (has (xs ++ n ∷ []) k) refl
      where
        back : (c : Bool) → has (xs ++ n ∷ []) k ≡ c → c ≡ true
        back true f = refl
        back false f = sym (has-append_no xs n k f).0 ∙ e

pub set_here : {X : Type 0} (xs : List X) (n : ℕ) (y : X) → n < length xs → slice_get (slice_set xs n y) n ≡ Some y
set_here [] n y h = absurd (omega arith)
set_here (x ∷ xs) zero y h = refl
set_here (x ∷ xs) (suc n) y h = set_here xs n y (omega arith)

other : (x : ℕ) (xs : List ℕ) (j : ℕ) (b : Bool) → eqb x j ≡ b → x ≢ j → has xs j ≡ false → (eqb x j || has xs j) ≡ false
other x xs j true e ne f = absurd (ne (eqb-true x j e))
other x xs j false e ne f = rw (e, f) refl

pub Once-push : (xs : List ℕ) (j : ℕ) → Once xs → has xs j ≡ false → Once (xs ++ j ∷ [])
unfolding Once has
Once-push [] j o h = (refl, tt)
Once-push (x ∷ xs) j o h = go (λ f. Once-push xs j o.1 f) (eqb x j) refl
  where
    go : (has xs j ≡ false → Once (xs ++ j ∷ [])) → (b : Bool) → eqb x j ≡ b → Once (x ∷ (xs ++ j ∷ []))
    go more true e = absurd (let f : (true || has xs j) ≡ false = rw e at h in cc)
    go more false e =
        let f : has xs j ≡ false = rw e at h in
        (has-append_other xs j x o.0 (λ same. eqb-false x j e same), more f)

-- and back
pub Once-front : (xs : List ℕ) (j : ℕ) → Once (xs ++ j ∷ []) → Once xs × (has xs j ≡ false)
unfolding Once has
Once-front [] j o = (tt, refl)
Once-front (x ∷ xs) j o =
    let p = has-append_no xs j x o.0 in
    let r = Once-front xs j o.1 in
    ((p.0, r.0), other x xs j (eqb x j) refl p.1 r.1)

among_no : (marks : List Mark) (order unread : List ℕ) (j : ℕ) → Kept marks order unread → has order j ≡ false → has unread j ≡ false
among_no marks order unread j k h = go (has unread j) refl
  where
    go : (b : Bool) → has unread j ≡ b → b ≡ false
    go false e = refl
    go true e = absurd (let t = k.among j e in cc)

abbrev at : List Mark → List ℕ → List ℕ → ℕ → Type 0
at marks order unread k = slice_get marks k ≡ Some (mark_of (has unread k) (has order k))

pub kept_number : (marks : List Mark) (order unread : List ℕ) (j : ℕ) → Kept marks order unread → j < length marks → has order j ≡ false → Kept (slice_set marks j Done) (order ++ j ∷ []) unread
kept_number marks order unread j kept lt free = record {
  marked = marked;
  among = λ k h. elim (cases_eq k j) [
    | inl e ↦ rw e (has-push_last order j)
    | inr ne ↦ has-push_other order j k ne ∙ kept.among k h
  ];
  within = λ k h. elim (cases_eq k j) [
    | inl e ↦ rw length-set (rw e lt)
    | inr ne ↦ rw length-set (kept.within k (sym (has-push_other order j k ne) ∙ h))
  ];
  once = kept.once;
}
  where
    marked : (k : ℕ) → k < length (slice_set marks j Done) → at (slice_set marks j Done) (order ++ j ∷ []) unread k
    marked k k_lt = elim (cases_eq k j) [
      | inl e ↦ rw e (set_here marks j Done lt ∙ rw (among_no marks order unread j kept free, has-push_last order j) refl)
      | inr ne ↦ slice_get-set_other marks j k Done ne ∙ (rw (has-push_other order j k ne) (kept.marked k (rw length-set at k_lt)))
    ]

pub kept_open : (marks : List Mark) (order unread : List ℕ) (j : ℕ) → Kept marks order unread → j < length marks → has order j ≡ false → Kept (slice_set marks j Unread) (order ++ j ∷ []) (unread ++ j ∷ [])
kept_open marks order unread j kept lt free = record {
  marked = marked;
  among = λ k h. elim (cases_eq k j) [
    | inl e ↦ rw e (has-push_last order j)
    | inr ne ↦ has-push_other order j k ne ∙ kept.among k (sym (has-push_other unread j k ne) ∙ h)
  ];
  within = λ k h. elim (cases_eq k j) [
    | inl e ↦ rw length-set (rw e lt)
    | inr ne ↦ rw length-set (kept.within k (sym (has-push_other order j k ne) ∙ h))
  ];
  once = Once-push unread j kept.once (among_no marks order unread j kept free);
}
  where
    marked : (k : ℕ) → k < length (slice_set marks j Unread) → at (slice_set marks j Unread) (order ++ j ∷ []) (unread ++ j ∷ []) k
    marked k k_lt = elim (cases_eq k j) [
      | inl e ↦ rw e (set_here marks j Unread lt ∙ rw (has-push_last unread j) refl)
      | inr ne ↦ slice_get-set_other marks j k Unread ne ∙ (rw (has-push_other order j k ne, has-push_other unread j k ne) (kept.marked k (rw length-set at k_lt)))
    ]

pub kept_close : (marks : List Mark) (order unread : List ℕ) (j : ℕ) → Kept marks order (unread ++ j ∷ []) → Kept (slice_set marks j Done) order unread
kept_close marks order unread j kept =
    let p = Once-front unread j kept.once in
    let in_order = kept.among j (has-push_last unread j) in
    let lt = kept.within j in_order in
    record {
      marked = λ k k_lt. elim (cases_eq k j) [
        | inl e ↦ rw e (set_here marks j Done lt ∙ rw (p.1, in_order) refl)
        | inr ne ↦ slice_get-set_other marks j k Done ne ∙ (kept.marked k (rw length-set at k_lt) ∙ rw (has-push_other unread j k ne) refl)
      ];
      among = λ k h. elim (cases_eq k j) [
        | inl e ↦ rw e in_order
        | inr ne ↦ kept.among k (has-push_other unread j k ne ∙ h)
      ];
      within = λ k h. rw length-set (kept.within k h);
      once = p.0;
    }

pub kept_new : (marks : List Mark) → ((j : ℕ) → j < length marks → slice_get marks j ≡ Some New) → Kept marks [] []
unfolding Once has
kept_new marks h = record { marked = h; among = λ j e. absurd cc; within = λ j e. absurd cc; once = tt }

pub all_new : (n j : ℕ) → j < length (replicate n New) → slice_get (replicate n New) j ≡ Some New
all_new zero j h = absurd (omega arith)
all_new (suc n) zero h = refl
all_new (suc n) (suc j) h = all_new n j (omega arith)

pub front_push : (xs : List ℕ) (j : ℕ) → front (xs ++ j ∷ []) ≡ xs
front_push [] j = refl
front_push (x ∷ []) j = refl
front_push (x ∷ y ∷ xs) j = ap (λ (l : List ℕ). x ∷ l) (front_push (y ∷ xs) j)
