-- The entries of the map in which dirty calls under way are found, and of the one of the objects for which they ask.
use Rattle.std.proofs.Common.{◌≡◌, ℕ, ◌+◌, ◌<◌, List, [], ◌∷◌, ◌++◌, refl, ap, sym, subst, ◌∙◌, arith, cond, Some, None, Option, true≢false, drop, get_or, length, suc}
use Rattle.std.specs.Prelude.{ℤ, Bool, true, false, ◌&&◌, ◌||◌, not, int_lt, int_le, filter, find, nat_lt, is_some, option_map, if◌then◌else◌}
use Rattle.std.specs.List.{list_any, AllByRecursion, IsDistinct}
use Rattle.std.specs.Ordering.{int_eq}
use Rattle.std.specs.Map.{keys_of, lookup}
use Rattle.std.proofs.lemmas.Int.{ints}
use Rattle.sequence.proofs.Lists.{drop-at}
use Rattle.indexmap.specs.IndexMap.{IndexMap, get}
use Rattle.object_ids.specs.declared.ids.ObjId.{ObjId}
use Rattle.object_ids.specs.Same.{same_id, same_key}
use Rattle.object_ids.proofs.Exact.{same_id-equal, same_key-same}
use Rattle.dgc_client.specs.declared.client_ref.ClientRef.{ClientRef}
use Rattle.dgc_client.specs.declared.ref_map.Kept.{Kept}
use Rattle.dgc_client.specs.declared.sent_map.Sent.{Sent}
use Rattle.dgc_client.specs.Log.{Dirty, has_number, asks_for}
use Rattle.dgc_client.specs.RefMap.{ref_at, refs_in}
use Rattle.dgc_client.specs.SentMap.{dirty_at, dirties_in, AreOnce, SameByNumber, reaches, is_asked}
use Rattle.dgc_client.specs.StandsForLog.{wants, ids_of}
use Rattle.dgc_client.proofs.Logs.{same-number, number-self}
use Rattle.dgc_client.proofs.RefEntries.{more-listed}

-- ---- the calls by number

pub found-dirty : (n : ℤ) (es : List (ℤ × Sent)) → find (has_number n) (dirties_in es) ≡ option_map (dirty_at n) (lookup (int_eq n) es)
found-dirty n [] = refl
found-dirty n (e ∷ es) = go (int_eq n e.0) refl (found-dirty n es)
  where
    go : (b : Bool) → int_eq n e.0 ≡ b → find (has_number n) (dirties_in es) ≡ option_map (dirty_at n) (lookup (int_eq n) es) →
        cond b (Some (dirty_at e.0 e.1)) (find (has_number n) (dirties_in es)) ≡ option_map (dirty_at n) (cond b (Some e.1) (lookup (int_eq n) es))
    go true p rest = ap (λ (m : ℤ). Some (dirty_at m e.1)) (sym (same-number n e.0 p))
    go false p rest = rest

-- What is found once the value under a number is another, or none.
pub found-updated : (number : ℤ) (v : Option Sent) (old new : List (ℤ × Sent)) → ((q : ℤ) → lookup (int_eq q) new ≡ cond (int_eq number q) v (lookup (int_eq q) old)) →
    (n : ℤ) → find (has_number n) (dirties_in new) ≡ (if int_eq number n then option_map (dirty_at number) v else find (has_number n) (dirties_in old))
found-updated number v old new h n = found-dirty n new ∙ ap (option_map (dirty_at n)) (h n) ∙ go (int_eq number n) refl
  where
    go : (b : Bool) → int_eq number n ≡ b → option_map (dirty_at n) (cond b v (lookup (int_eq n) old)) ≡ (if b then option_map (dirty_at number) v else find (has_number n) (dirties_in old))
    go true p = ap (λ (m : ℤ). option_map (dirty_at m) v) (sym (same-number number n p))
    go false p = sym (found-dirty n old)

none-there : (n : ℤ) (es : List (ℤ × Sent)) → AllByRecursion (λ m. int_eq n m ≡ false) (keys_of es) → find (has_number n) (dirties_in es) ≡ None
none-there n [] h = refl
none-there n (e ∷ es) h = ap (λ b. cond b (Some (dirty_at e.0 e.1)) (find (has_number n) (dirties_in es))) h.0 ∙ none-there n es h.1

pub dirties-once : (es : List (ℤ × Sent)) → IsDistinct int_eq (keys_of es) → AreOnce (dirties_in es)
unfolding IsDistinct
dirties-once [] h = tt
dirties-once (e ∷ es) h = (none-there e.0 es h.0, dirties-once es h.1)

-- ---- the same calls in another order

-- Where some call passes, it is the one that is found under its number.
pub any-found : (p : Dirty → Bool) (xs : List Dirty) → AreOnce xs → list_any p xs ≡ true → (y : Dirty) × (find (has_number y.number) xs ≡ Some y) × (p y ≡ true)
any-found p [] once h = absurd (true≢false (sym h))
any-found p (x ∷ xs) once h = go (p x) refl h (any-found p xs once.1)
  where
    here : (y : Dirty) → find (has_number y.number) xs ≡ Some y → (b : Bool) → int_eq y.number x.number ≡ b → cond b (Some x) (find (has_number y.number) xs) ≡ Some y
    here y some true q =
        let none : find (has_number y.number) xs ≡ None = subst (λ (n : ℤ). find (has_number n) xs ≡ None) (sym (same-number y.number x.number q)) once.0 in
        absurd (true≢false (ap is_some (sym some ∙ none)))
    here y some false q = some

    go : (b : Bool) → p x ≡ b → (b || list_any p xs) ≡ true → (list_any p xs ≡ true → (y : Dirty) × (find (has_number y.number) xs ≡ Some y) × (p y ≡ true)) →
        (y : Dirty) × (find (has_number y.number) (x ∷ xs) ≡ Some y) × (p y ≡ true)
    go true e h rest = (x, ap (λ b. cond b (Some x) (find (has_number x.number) xs)) (number-self x.number), e)
    go false e h rest = let r = rest h in (r.0, here r.0 r.1 (int_eq r.0.number x.number) refl, r.2)

pub found-any : (p q : Dirty → Bool) (ys : List Dirty) (y : Dirty) → find q ys ≡ Some y → p y ≡ true → list_any p ys ≡ true
found-any p q [] y h t = absurd (cc)
found-any p q (x ∷ xs) y h t = go (q x) h (found-any p q xs y)
  where
    or-true : (b : Bool) → (b || true) ≡ true
    or-true true = refl
    or-true false = refl

    go : (b : Bool) → cond b (Some x) (find q xs) ≡ Some y → (find q xs ≡ Some y → p y ≡ true → list_any p xs ≡ true) → (p x || list_any p xs) ≡ true
    go true h rest = let same : x ≡ y = cc in ap (λ b. b || list_any p xs) (ap p same ∙ t)
    go false h rest = ap (λ b. p x || b) (rest h t) ∙ or-true (p x)

half : (p : Dirty → Bool) (xs ys : List Dirty) → AreOnce xs → SameByNumber xs ys → list_any p xs ≡ true → list_any p ys ≡ true
half p xs ys once same h = let r = any-found p xs once h in found-any p (has_number r.0.number) ys r.0 (sym (same r.0.number) ∙ r.1) r.2

-- Lists that have the same calls under each number pass each test together.
pub any-same : (p : Dirty → Bool) (xs ys : List Dirty) → AreOnce xs → AreOnce ys → SameByNumber xs ys → list_any p xs ≡ list_any p ys
any-same p xs ys a b same = go (list_any p xs) refl (list_any p ys) refl
  where
    go : (s : Bool) → list_any p xs ≡ s → (t : Bool) → list_any p ys ≡ t → s ≡ t
    go true e true f = refl
    go false e false f = refl
    go true e false f = absurd (true≢false (sym (half p xs ys a same e) ∙ f))
    go false e true f = absurd (true≢false (sym (half p ys xs b (λ n. sym (same n)) f) ∙ e))

pub any-some : (xs : List Dirty) → list_any (λ y. true) xs ≡ nat_lt 0 (length xs)
any-some [] = refl
any-some (x ∷ xs) = sym (one (length xs))
  where
    one : (n : ℕ) → nat_lt 0 (suc n) ≡ true
    one n = grind arith

-- ---- the objects for which calls ask

pub le-larger : (s a b : ℤ) → int_lt a b ≡ true → int_le s b ≡ (int_le s b || int_le s a)
le-larger s a b h = grind (arith, ints)

pub le-smaller : (s a b : ℤ) → int_lt a b ≡ false → int_le s a ≡ (int_le s b || int_le s a)
le-smaller s a b h = grind (arith, ints)

pub asked-noted : {S : Type 0} (o : ObjId) (number n : ℤ) (old new : IndexMap ObjId ℤ S) → ((since : ℤ) → int_le since n ≡ (int_le since number || is_asked old o since)) →
    ((q : ObjId) → get same_key new q ≡ cond (same_key o q) (Some n) (get same_key old q)) →
    (q : ObjId) (since : ℤ) → is_asked new q since ≡ ((same_id o q && int_le since number) || is_asked old q since)
asked-noted o number n old new greatest h q since =
    ap (reaches since) (h q) ∙ ap (λ b. reaches since (cond b (Some n) (get same_key old q))) (same_key-same o q) ∙ go (same_id o q) refl
  where
    go : (b : Bool) → same_id o q ≡ b → reaches since (cond b (Some n) (get same_key old q)) ≡ ((b && int_le since number) || is_asked old q since)
    go true p = greatest since ∙ ap (λ (x : ObjId). int_le since number || is_asked old x since) (same_id-equal o q p)
    go false p = refl

regroup : (s a l k : Bool) → ((a && l) || ((s && l) || k)) ≡ (((s || a) && l) || k)
regroup true true true k = refl
regroup true true false k = refl
regroup true false true k = refl
regroup true false false k = refl
regroup false true true k = refl
regroup false true false k = refl
regroup false false l k = refl

-- The objects are noted one by one.
pub asked-step : (os : List ObjId) (i : ℕ) (d : ObjId) (q : ObjId) (l old new : Bool) → i < length os → new ≡ ((same_id (get_or os i d) q && l) || old) →
    ((list_any (λ x. same_id x q) (drop (i + 1) os) && l) || new) ≡ ((list_any (λ x. same_id x q) (drop i os) && l) || old)
asked-step os i d q l old new h e =
    ap (λ b. (list_any (λ x. same_id x q) (drop (i + 1) os) && l) || b) e
    ∙ regroup (same_id (get_or os i d) q) (list_any (λ x. same_id x q) (drop (i + 1) os)) l old
    ∙ ap (λ (xs : List ObjId). (list_any (λ x. same_id x q) xs && l) || old) (sym (drop-at os i d h))

pub or-moved : (a r k : Bool) → (r || (a || k)) ≡ ((a || r) || k)
or-moved true true k = refl
or-moved true false k = refl
or-moved false r k = refl

-- ---- the references that are wanting

-- What wants to be named of an entry.
abbrev pub entry_wants : Bool → List Dirty → ObjId × Kept → Bool
entry_wants over ys e = not e.1.gone && not (not over && e.1.sure) && not (list_any (asks_for e.0 e.1.since) ys)

pub wants-first : (over : Bool) (ys : List Dirty) (e : ObjId × Kept) (es : List (ObjId × Kept)) →
    ids_of (filter (wants over ys) (refs_in (e ∷ es))) ≡ (if entry_wants over ys e then e.0 ∷ ids_of (filter (wants over ys) (refs_in es)) else ids_of (filter (wants over ys) (refs_in es)))
wants-first over ys e es = go e.1.gone
  where
    rest : List ClientRef
    rest = filter (wants over ys) (refs_in es)

    one : (w : Bool) → ids_of (cond w (ref_at e.0 e.1 ∷ rest) rest) ≡ (if w then e.0 ∷ ids_of rest else ids_of rest)
    one true = refl
    one false = refl

    go : (g : Bool) → ids_of (filter (wants over ys) (if g then refs_in es else ref_at e.0 e.1 ∷ refs_in es))
        ≡ (if not g && not (not over && e.1.sure) && not (list_any (asks_for e.0 e.1.since) ys) then e.0 ∷ ids_of rest else ids_of rest)
    go true = refl
    go false = one (not (not over && e.1.sure) && not (list_any (asks_for e.0 e.1.since) ys))

-- The objects are named entry by entry.
pub wants-step : (over : Bool) (ys : List Dirty) (ids : List ObjId) (w : Bool) (e : ObjId × Kept) (es : List (ObjId × Kept)) → w ≡ entry_wants over ys e →
    (ids ++ (if w then e.0 ∷ [] else [])) ++ ids_of (filter (wants over ys) (refs_in es)) ≡ ids ++ ids_of (filter (wants over ys) (refs_in (e ∷ es)))
wants-step over ys ids w e es same =
    more-listed ids (if w then e.0 ∷ [] else []) rest ∙ ap (λ l. ids ++ l) (go w ∙ ap (λ b. if b then e.0 ∷ rest else rest) same ∙ sym (wants-first over ys e es))
  where
    rest : List ObjId
    rest = ids_of (filter (wants over ys) (refs_in es))

    go : (w : Bool) → (if w then e.0 ∷ [] else []) ++ rest ≡ (if w then e.0 ∷ rest else rest)
    go true = refl
    go false = refl
