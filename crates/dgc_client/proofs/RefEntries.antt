-- The entries of the map in which references are found.
use Rattle.std.proofs.Common.{◌≡◌, ℕ, ◌+◌, ◌<◌, List, [], ◌∷◌, ◌++◌, refl, ap, sym, subst, ◌∙◌, arith, cond, length, suc, Some, None, true≢false, get_or, drop, Ok, Err}
use Rattle.std.specs.Prelude.{Bool, true, false, ◌||◌, not, is_some, int_le, filter, find, map, Result, OnErr, if◌then◌else◌}
use Rattle.std.specs.List.{list_any, AllByRecursion, IsDistinct}
use Rattle.std.specs.Map.{keys_of, lookup, remove_entry, set_value}
use Rattle.std.specs.Map.Calls.{RetainsPairs}
use Rattle.sequence.proofs.Lists.{drop-at}
use Rattle.object_ids.specs.declared.ids.ObjId.{ObjId}
use Rattle.object_ids.specs.Same.{same_id, same_key}
use Rattle.object_ids.proofs.Exact.{same_id-equal, same_id-true, same_key-same}
use Rattle.dgc_client.specs.declared.client_ref.ClientRef.{ClientRef}
use Rattle.dgc_client.specs.declared.ref_map.Kept.{Kept}
use Rattle.dgc_client.specs.declared.ref_map.Change.{Change}
use Rattle.dgc_client.specs.declared.ref_map.Change.TheVariants.{Confirm, Strengthen}
use Rattle.dgc_client.specs.RefMap.{ref_at, shown, refs_in, has_id, changed, changed_among, lapsed}

pub same_id-turned : (a b : ObjId) → same_id a b ≡ same_id b a
same_id-turned a b = go (same_id a b) (same_id b a) refl refl
  where
    go : (x y : Bool) → same_id a b ≡ x → same_id b a ≡ y → x ≡ y
    go true true p q = refl
    go false false p q = refl
    go true false p q = absurd (true≢false (sym (same_id-true b a (sym (same_id-equal a b p))) ∙ q))
    go false true p q = absurd (true≢false (sym (same_id-true a b (sym (same_id-equal b a q))) ∙ p))

pub id-is-key : (a b : ObjId) → same_id b a ≡ same_key a b
id-is-key a b = sym (same_key-same a b ∙ same_id-turned a b)

abbrev pub Entries : Type 0
Entries = List (ObjId × Kept)

-- A fact that holds whatever is answered.
pub on-err : {T E P : Type 0} (r : Result T E) → P → OnErr r P
on-err (Ok x) p = tt
on-err (Err e) p = p

-- ---- one reference

pub no-gap : (o : ObjId) (k : Kept) → is_some (shown o k) ≡ true → k.gone ≡ false
no-gap o k h = go k.gone h
  where
    go : (g : Bool) → is_some (if g then None else Some (ref_at o k)) ≡ true → g ≡ false
    go true f = absurd (true≢false (sym f))
    go false f = refl

none-others : (o : ObjId) (es : Entries) → AllByRecursion (λ y. same_key o y ≡ false) (keys_of es) → find (has_id o) (refs_in es) ≡ None
none-others o [] h = refl
none-others o (e ∷ es) h = go e.1.gone (none-others o es h.1)
  where
    go : (g : Bool) → find (has_id o) (refs_in es) ≡ None → find (has_id o) (if g then refs_in es else ref_at e.0 e.1 ∷ refs_in es) ≡ None
    go true rest = rest
    go false rest = ap (λ b. cond b (Some (ref_at e.0 e.1)) (find (has_id o) (refs_in es))) (id-is-key o e.0 ∙ h.0) ∙ rest

pub find-shown : (o : ObjId) (k : Kept) (es : Entries) → IsDistinct same_key (keys_of es) → lookup (same_key o) es ≡ Some k → find (has_id o) (refs_in es) ≡ shown o k
unfolding IsDistinct
find-shown o k [] once h = absurd (cc)
find-shown o k (e ∷ es) once h = go (same_key o e.0) refl e.1.gone refl h (find-shown o k es once.1)
  where
    go : (b : Bool) → same_key o e.0 ≡ b → (g : Bool) → e.1.gone ≡ g → cond b (Some e.1) (lookup (same_key o) es) ≡ Some k →
        (lookup (same_key o) es ≡ Some k → find (has_id o) (refs_in es) ≡ shown o k) →
        find (has_id o) (if g then refs_in es else ref_at e.0 e.1 ∷ refs_in es) ≡ shown o k
    go true p true q f rest =
        let own : e.0 ≡ o = same_id-equal e.0 o (id-is-key o e.0 ∙ p) in
        let kept : e.1 ≡ k = cc in
        let gone : k.gone ≡ true = ap (λ (x : Kept). x.gone) (sym kept) ∙ q in
        subst (λ (x : ObjId). find (has_id x) (refs_in es) ≡ None) own (none-others e.0 es once.0) ∙ ap (λ b. if b then None else Some (ref_at o k)) (sym gone)
    go true p false q f rest =
        let own : e.0 ≡ o = same_id-equal e.0 o (id-is-key o e.0 ∙ p) in
        let kept : e.1 ≡ k = cc in
        let gone : k.gone ≡ false = ap (λ (x : Kept). x.gone) (sym kept) ∙ q in
        ap (λ b. cond b (Some (ref_at e.0 e.1)) (find (has_id o) (refs_in es))) (id-is-key o e.0 ∙ p)
        ∙ ap (λ (x : ObjId). Some (ref_at x e.1)) own ∙ ap (λ (x : Kept). Some (ref_at o x)) kept ∙ ap (λ b. if b then None else Some (ref_at o k)) (sym gone)
    go false p true q f rest = rest f
    go false p false q f rest = ap (λ b. cond b (Some (ref_at e.0 e.1)) (find (has_id o) (refs_in es))) (id-is-key o e.0 ∙ p) ∙ rest f

pub find-none : (o : ObjId) (es : Entries) → lookup (same_key o) es ≡ None → find (has_id o) (refs_in es) ≡ None
find-none o [] h = refl
find-none o (e ∷ es) h = go (same_key o e.0) refl e.1.gone h (find-none o es)
  where
    go : (b : Bool) → same_key o e.0 ≡ b → (g : Bool) → cond b (Some e.1) (lookup (same_key o) es) ≡ None → (lookup (same_key o) es ≡ None → find (has_id o) (refs_in es) ≡ None) →
        find (has_id o) (if g then refs_in es else ref_at e.0 e.1 ∷ refs_in es) ≡ None
    go true p g f rest = absurd (cc)
    go false p true f rest = rest f
    go false p false f rest = ap (λ b. cond b (Some (ref_at e.0 e.1)) (find (has_id o) (refs_in es))) (id-is-key o e.0 ∙ p) ∙ rest f

-- ---- a new reference

pub refs-more : (es fs : Entries) → refs_in (es ++ fs) ≡ refs_in es ++ refs_in fs
refs-more [] fs = refl
refs-more (e ∷ es) fs = go e.1.gone (refs-more es fs)
  where
    go : (g : Bool) → refs_in (es ++ fs) ≡ refs_in es ++ refs_in fs →
        (if g then refs_in (es ++ fs) else ref_at e.0 e.1 ∷ refs_in (es ++ fs)) ≡ (if g then refs_in es else ref_at e.0 e.1 ∷ refs_in es) ++ refs_in fs
    go true rest = rest
    go false rest = ap (λ l. ref_at e.0 e.1 ∷ l) rest

pub more-listed : {X : Type 0} (xs ys zs : List X) → (xs ++ ys) ++ zs ≡ xs ++ (ys ++ zs)
more-listed [] ys zs = refl
more-listed (x ∷ xs) ys zs = ap (λ l. x ∷ l) (more-listed xs ys zs)

-- The references are listed entry by entry.
pub list-step : (xs : List ClientRef) (e : ObjId × Kept) (es : Entries) → (xs ++ refs_in (e ∷ [])) ++ refs_in es ≡ xs ++ refs_in (e ∷ es)
list-step xs e es = more-listed xs (refs_in (e ∷ [])) (refs_in es) ∙ ap (λ l. xs ++ l) (sym (refs-more (e ∷ []) es))

-- What is taken out of an object that has no reference is a gap.
pub gap-removed : (o : ObjId) (es : Entries) → find (has_id o) (refs_in es) ≡ None → refs_in (remove_entry (same_key o) es) ≡ refs_in es
gap-removed o [] h = refl
gap-removed o (e ∷ es) h = go (same_key o e.0) refl e.1.gone refl h (gap-removed o es)
  where
    go : (b : Bool) → same_key o e.0 ≡ b → (g : Bool) → e.1.gone ≡ g → find (has_id o) (if g then refs_in es else ref_at e.0 e.1 ∷ refs_in es) ≡ None →
        (find (has_id o) (refs_in es) ≡ None → refs_in (remove_entry (same_key o) es) ≡ refs_in es) →
        refs_in (cond b es (e ∷ remove_entry (same_key o) es)) ≡ (if g then refs_in es else ref_at e.0 e.1 ∷ refs_in es)
    go true p true q f rest = refl
    go true p false q f rest =
        let here : Some (ref_at e.0 e.1) ≡ None = ap (λ b. cond b (Some (ref_at e.0 e.1)) (find (has_id o) (refs_in es))) (sym (id-is-key o e.0 ∙ p)) ∙ f in
        absurd (true≢false (ap is_some here))
    go false p true q f rest = ap (λ g. if g then refs_in (remove_entry (same_key o) es) else ref_at e.0 e.1 ∷ refs_in (remove_entry (same_key o) es)) q ∙ rest f
    go false p false q f rest =
        let other : find (has_id o) (refs_in es) ≡ None = ap (λ b. cond b (Some (ref_at e.0 e.1)) (find (has_id o) (refs_in es))) (sym (id-is-key o e.0 ∙ p)) ∙ f in
        ap (λ g. if g then refs_in (remove_entry (same_key o) es) else ref_at e.0 e.1 ∷ refs_in (remove_entry (same_key o) es)) q ∙ ap (λ l. ref_at e.0 e.1 ∷ l) (rest other)

-- ---- a reference that goes

pub others-all : (o : ObjId) (rs : List ClientRef) → find (has_id o) rs ≡ None → filter (λ r. not (has_id o r)) rs ≡ rs
others-all o [] h = refl
others-all o (r ∷ rs) h = go (has_id o r) h (others-all o rs)
  where
    go : (b : Bool) → cond b (Some r) (find (has_id o) rs) ≡ None → (find (has_id o) rs ≡ None → filter (λ r. not (has_id o r)) rs ≡ rs) →
        cond (not b) (r ∷ filter (λ r. not (has_id o r)) rs) (filter (λ r. not (has_id o r)) rs) ≡ r ∷ rs
    go true f rest = absurd (cc)
    go false f rest = ap (λ l. r ∷ l) (rest f)

-- A gap is put where an object is kept.
pub refs-gapped : (o : ObjId) (k w : Kept) (es : Entries) → w.gone ≡ true → IsDistinct same_key (keys_of es) → lookup (same_key o) es ≡ Some k →
    refs_in (set_value (same_key o) es w) ≡ filter (λ r. not (has_id o r)) (refs_in es)
unfolding IsDistinct
refs-gapped o k w [] gone once h = absurd (cc)
refs-gapped o k w (e ∷ es) gone once h = go (same_key o e.0) refl e.1.gone refl h (refs-gapped o k w es gone once.1)
  where
    others : List ClientRef
    others = filter (λ r. not (has_id o r)) (refs_in es)

    go : (b : Bool) → same_key o e.0 ≡ b → (g : Bool) → e.1.gone ≡ g → cond b (Some e.1) (lookup (same_key o) es) ≡ Some k →
        (lookup (same_key o) es ≡ Some k → refs_in (set_value (same_key o) es w) ≡ others) →
        refs_in (cond b ((e.0, w) ∷ es) (e ∷ set_value (same_key o) es w)) ≡ filter (λ r. not (has_id o r)) (if g then refs_in es else ref_at e.0 e.1 ∷ refs_in es)
    go true p g q f rest =
        let own : e.0 ≡ o = same_id-equal e.0 o (id-is-key o e.0 ∙ p) in
        let rest_of : others ≡ refs_in es = others-all o (refs_in es) (subst (λ (x : ObjId). find (has_id x) (refs_in es) ≡ None) own (none-others e.0 es once.0)) in
        ap (λ b. if b then refs_in es else ref_at e.0 w ∷ refs_in es) gone ∙ sym rest_of ∙ without g
      where
        without : (g : Bool) → others ≡ filter (λ r. not (has_id o r)) (if g then refs_in es else ref_at e.0 e.1 ∷ refs_in es)
        without true = refl
        without false = ap (λ b. cond (not b) (ref_at e.0 e.1 ∷ others) others) (sym (id-is-key o e.0 ∙ p))
    go false p true q f rest = ap (λ g. if g then refs_in (set_value (same_key o) es w) else ref_at e.0 e.1 ∷ refs_in (set_value (same_key o) es w)) q ∙ rest f
    go false p false q f rest =
        ap (λ g. if g then refs_in (set_value (same_key o) es w) else ref_at e.0 e.1 ∷ refs_in (set_value (same_key o) es w)) q ∙ ap (λ l. ref_at e.0 e.1 ∷ l) (rest f)
        ∙ ap (λ b. cond (not b) (ref_at e.0 e.1 ∷ others) others) (sym (id-is-key o e.0 ∙ p))

pub count-gapped : (o : ObjId) (k w : Kept) (es : Entries) → w.gone ≡ true → k.gone ≡ false → lookup (same_key o) es ≡ Some k →
    length (refs_in (set_value (same_key o) es w)) + 1 ≡ length (refs_in es)
count-gapped o k w [] gone here h = absurd (cc)
count-gapped o k w (e ∷ es) gone here h = go (same_key o e.0) e.1.gone refl h (count-gapped o k w es gone here)
  where
    go : (b : Bool) (g : Bool) → e.1.gone ≡ g → cond b (Some e.1) (lookup (same_key o) es) ≡ Some k →
        (lookup (same_key o) es ≡ Some k → length (refs_in (set_value (same_key o) es w)) + 1 ≡ length (refs_in es)) →
        length (refs_in (cond b ((e.0, w) ∷ es) (e ∷ set_value (same_key o) es w))) + 1 ≡ length (if g then refs_in es else ref_at e.0 e.1 ∷ refs_in es)
    go true true q f rest = let kept : e.1 ≡ k = cc in absurd (true≢false (sym q ∙ ap (λ (x : Kept). x.gone) kept ∙ here))
    go true false q f rest = ap (λ b. length (if b then refs_in es else ref_at e.0 w ∷ refs_in es) + 1) gone ∙ one (length (refs_in es))
      where
        one : (n : ℕ) → n + 1 ≡ suc n
        one n = omega arith
    go false true q f rest = ap (λ g. length (if g then refs_in (set_value (same_key o) es w) else ref_at e.0 e.1 ∷ refs_in (set_value (same_key o) es w)) + 1) q ∙ rest f
    go false false q f rest =
        ap (λ g. length (if g then refs_in (set_value (same_key o) es w) else ref_at e.0 e.1 ∷ refs_in (set_value (same_key o) es w)) + 1) q
        ∙ more (length (refs_in (set_value (same_key o) es w))) (length (refs_in es)) (rest f)
      where
        more : (m n : ℕ) → m + 1 ≡ n → suc m + 1 ≡ suc n
        more m n e = omega arith

-- ---- a change

pub unchanged : (o : ObjId) (ch : Change) (rs : List ClientRef) → find (has_id o) rs ≡ None → map (changed_among (o ∷ []) ch) rs ≡ rs
unchanged o ch [] h = refl
unchanged o ch (r ∷ rs) h = go (same_id r.id o) refl h (unchanged o ch rs)
  where
    go : (b : Bool) → same_id r.id o ≡ b → cond b (Some r) (find (has_id o) rs) ≡ None → (find (has_id o) rs ≡ None → map (changed_among (o ∷ []) ch) rs ≡ rs) →
        changed_among (o ∷ []) ch r ∷ map (changed_among (o ∷ []) ch) rs ≡ r ∷ rs
    go true p f rest = absurd (cc)
    go false p f rest = ap (λ b. (if b || false then changed ch r else r) ∷ map (changed_among (o ∷ []) ch) rs) (same_id-turned o r.id ∙ p) ∙ ap (λ l. r ∷ l) (rest f)

pub refs-changed : (o : ObjId) (ch : Change) (k w : Kept) (es : Entries) → w.gone ≡ k.gone → ((x : ObjId) → ref_at x w ≡ changed ch (ref_at x k)) →
    IsDistinct same_key (keys_of es) → lookup (same_key o) es ≡ Some k →
    refs_in (set_value (same_key o) es w) ≡ map (changed_among (o ∷ []) ch) (refs_in es)
unfolding IsDistinct
refs-changed o ch k w [] gone value once h = absurd (cc)
refs-changed o ch k w (e ∷ es) gone value once h = go (same_key o e.0) refl e.1.gone refl h (refs-changed o ch k w es gone value once.1)
  where
    f : ClientRef → ClientRef
    f = changed_among (o ∷ []) ch

    go : (b : Bool) → same_key o e.0 ≡ b → (g : Bool) → e.1.gone ≡ g → cond b (Some e.1) (lookup (same_key o) es) ≡ Some k →
        (lookup (same_key o) es ≡ Some k → refs_in (set_value (same_key o) es w) ≡ map f (refs_in es)) →
        refs_in (cond b ((e.0, w) ∷ es) (e ∷ set_value (same_key o) es w)) ≡ map f (if g then refs_in es else ref_at e.0 e.1 ∷ refs_in es)
    go true p g q h rest =
        let own : e.0 ≡ o = same_id-equal e.0 o (id-is-key o e.0 ∙ p) in
        let kept : e.1 ≡ k = cc in
        let same : w.gone ≡ g = gone ∙ ap (λ (x : Kept). x.gone) (sym kept) ∙ q in
        let others : map f (refs_in es) ≡ refs_in es = unchanged o ch (refs_in es) (subst (λ (x : ObjId). find (has_id x) (refs_in es) ≡ None) own (none-others e.0 es once.0)) in
        let first : ref_at e.0 w ≡ f (ref_at e.0 e.1) = value e.0 ∙ ap (λ (x : Kept). changed ch (ref_at e.0 x)) (sym kept)
        ∙ ap (λ b. if b || false then changed ch (ref_at e.0 e.1) else ref_at e.0 e.1) (sym (same_id-turned o e.0 ∙ id-is-key o e.0 ∙ p)) in
        ap (λ b. if b then refs_in es else ref_at e.0 w ∷ refs_in es) same ∙ both g others first
      where
        both : (g : Bool) → map f (refs_in es) ≡ refs_in es → ref_at e.0 w ≡ f (ref_at e.0 e.1) →
            (if g then refs_in es else ref_at e.0 w ∷ refs_in es) ≡ map f (if g then refs_in es else ref_at e.0 e.1 ∷ refs_in es)
        both true others first = sym others
        both false others first = ap (λ r. r ∷ refs_in es) first ∙ ap (λ l. f (ref_at e.0 e.1) ∷ l) (sym others)
    go false p true q h rest = ap (λ g. if g then refs_in (set_value (same_key o) es w) else ref_at e.0 e.1 ∷ refs_in (set_value (same_key o) es w)) q ∙ rest h
    go false p false q h rest =
        ap (λ g. if g then refs_in (set_value (same_key o) es w) else ref_at e.0 e.1 ∷ refs_in (set_value (same_key o) es w)) q ∙ ap (λ l. ref_at e.0 e.1 ∷ l) (rest h)
        ∙ ap (λ b. (if b || false then changed ch (ref_at e.0 e.1) else ref_at e.0 e.1) ∷ map f (refs_in es)) (sym (same_id-turned o e.0 ∙ id-is-key o e.0 ∙ p))

changed-id : (ch : Change) (r : ClientRef) → (changed ch r).id ≡ r.id
changed-id (Confirm number) r = refl
changed-id Strengthen r = refl

changed-twice : (ch : Change) (r : ClientRef) → changed ch (changed ch r) ≡ changed ch r
changed-twice (Confirm number) r = go (int_le r.since number)
  where
    go : (b : Bool) → record r { sure = b || (b || r.sure) } ≡ record r { sure = b || r.sure }
    go true = refl
    go false = refl
changed-twice Strengthen r = refl

changed-next : (x : ObjId) (xs : List ObjId) (ch : Change) (r : ClientRef) → changed_among (x ∷ xs) ch r ≡ changed_among xs ch (changed_among (x ∷ []) ch r)
changed-next x xs ch r = go (same_id x r.id)
  where
    twice : (b : Bool) → changed ch r ≡ (if b then changed ch (changed ch r) else changed ch r)
    twice true = sym (changed-twice ch r)
    twice false = refl

    go : (s : Bool) → (if s || list_any (λ y. same_id y r.id) xs then changed ch r else r) ≡ changed_among xs ch (if s || false then changed ch r else r)
    go true = twice (list_any (λ y. same_id y r.id) xs) ∙ ap (λ (i : ObjId). if list_any (λ y. same_id y i) xs then changed ch (changed ch r) else changed ch r) (sym (changed-id ch r))
    go false = refl

changed-list : (x : ObjId) (xs : List ObjId) (ch : Change) (rs : List ClientRef) → map (changed_among (x ∷ xs) ch) rs ≡ map (changed_among xs ch) (map (changed_among (x ∷ []) ch) rs)
changed-list x xs ch [] = refl
changed-list x xs ch (r ∷ rs) = ap (λ l. changed_among (x ∷ xs) ch r ∷ l) (changed-list x xs ch rs) ∙ ap (λ y. y ∷ map (changed_among xs ch) (map (changed_among (x ∷ []) ch) rs)) (changed-next x xs ch r)

pub changed-step : (os : List ObjId) (i : ℕ) (d : ObjId) (ch : Change) (rs : List ClientRef) → i < length os →
    map (changed_among (drop (i + 1) os) ch) (map (changed_among (get_or os i d ∷ []) ch) rs) ≡ map (changed_among (drop i os) ch) rs
changed-step os i d ch rs h =
    sym (changed-list (get_or os i d) (drop (i + 1) os) ch rs) ∙ ap (λ (l : List ObjId). map (changed_among l ch) rs) (sym (drop-at os i d h))

pub changed-none : (ch : Change) (rs : List ClientRef) → map (changed_among [] ch) rs ≡ rs
changed-none ch [] = refl
changed-none ch (r ∷ rs) = ap (λ l. r ∷ l) (changed-none ch rs)

-- ---- all references

pub refs-swept : (es : Entries) → refs_in (filter (λ e. not e.1.gone) es) ≡ refs_in es
refs-swept [] = refl
refs-swept (e ∷ es) = go e.1.gone refl (refs-swept es)
  where
    go : (g : Bool) → e.1.gone ≡ g → refs_in (filter (λ e. not e.1.gone) es) ≡ refs_in es →
        refs_in (cond (not g) (e ∷ filter (λ e. not e.1.gone) es) (filter (λ e. not e.1.gone) es)) ≡ (if g then refs_in es else ref_at e.0 e.1 ∷ refs_in es)
    go true q rest = rest
    go false q rest = ap (λ g. if g then refs_in (filter (λ e. not e.1.gone) es) else ref_at e.0 e.1 ∷ refs_in (filter (λ e. not e.1.gone) es)) q ∙ ap (λ l. ref_at e.0 e.1 ∷ l) rest

-- What `retain` leaves where the closure keeps what is no gap, and makes no reference sure.
module _ {F : Type 0} (T : F → ObjId → Kept → Bool → Kept → F → Type 0) (f : F)
    (says : (k : ObjId) (v : Kept) (b : Bool) (w : Kept) (g : F) → T f k v b w g → (b ≡ not v.gone) × (w ≡ record v { sure = false }) × (g ≡ f)) where
  pub refs-lapsed : (es kept : Entries) → RetainsPairs T f es kept → refs_in kept ≡ map lapsed (refs_in es)
  refs-lapsed [] kept h = ap refs_in h
  refs-lapsed (e ∷ es) kept h =
      let s = says e.0 e.1 h.0 h.1 h.2 h.4 in
      let rest = refs-lapsed es h.3 (let P : F → Type 0 = λ g. RetainsPairs T g es h.3 in subst P s.2 h.5) in
      ap refs_in h.6 ∙ ap (λ b. refs_in (cond b ((e.0, h.1) ∷ h.3) h.3)) s.0 ∙ ap (λ (w : Kept). refs_in (cond (not e.1.gone) ((e.0, w) ∷ h.3) h.3)) s.1 ∙ go e.1.gone refl h.3 rest
    where
      go : (g : Bool) → e.1.gone ≡ g → (l : Entries) → refs_in l ≡ map lapsed (refs_in es) →
          refs_in (cond (not g) ((e.0, record e.1 { sure = false }) ∷ l) l) ≡ map lapsed (if g then refs_in es else ref_at e.0 e.1 ∷ refs_in es)
      go true q l r = r
      go false q l r = ap (λ g. if g then refs_in l else ref_at e.0 (record e.1 { sure = false }) ∷ refs_in l) q ∙ ap (λ x. lapsed (ref_at e.0 e.1) ∷ x) r
