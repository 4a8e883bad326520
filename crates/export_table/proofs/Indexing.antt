-- The index of the references that await, as they are listed and go.
use Rattle.std.proofs.Common.{◌≡◌, ℕ, ◌+◌, ◌<◌, ◌≤◌, List, [], ◌∷◌, ◌++◌, length, take, drop, get_or, refl, ap, sym, subst, ◌∙◌, arith, cond, suc, add-one, append-nil, append_assoc, take-append-drop}
use Rattle.std.specs.Prelude.{Bool, true, false, ◌&&◌, ◌||◌, not, filter, nat_lt, min, if◌then◌else◌}
use Rattle.std.specs.List.{list_any}
use Rattle.std.proofs.Math.Seq.{drop-cons}
use Rattle.std.proofs.lemmas.Bool.{and_parts, and_from, lt-ltb, not-true, or_parts}
use Rattle.std.proofs.lemmas.List.{take_more}
use Rattle.std.proofs.lemmas.List.Elements.{filter-append}
use Rattle.object_ids.specs.declared.ids.Uid.{Uid}
use Rattle.object_ids.specs.declared.ids.ObjId.{ObjId}
use Rattle.object_ids.specs.Same.{same_id, same_uid, same_key}
use Rattle.object_ids.proofs.Exact.{same_id-self, same_id-equal, same_uid-self, same_uid-equal, same_key-same, same_uid_key-same}
use Rattle.indexmap.specs.IndexMap.{IndexMap}
use Rattle.indexmap.specs.IndexSet.{IndexSet, contains}
use Rattle.dgc_server.proofs.HolderLaws.{no_id}
use Rattle.dgc_server.specs.HolderIndex.{one_if}
use Rattle.export_table.specs.declared.counts.Reference.{Reference}
use Rattle.export_table.specs.declared.waits.Wait.{Wait}
use Rattle.history.proofs.ListLemmas.{list_any-filter, list_any-same, filter-same, every-always}
use Rattle.export_table.specs.declared.rows.Export.{Export}
use Rattle.export_table.specs.ExportRows.{ids, is_pinned, is_row_kept, withdrawn_ids}
use Rattle.export_table.specs.Waits.{is_wait_of, goes_on, still_waiting, is_awaited, end_of_wait, of_return, each_once}
use Rattle.export_table.specs.WaitIndex.{same_reference, count_at, returned_at, has_reference, is_reference, of_object, IsIndexOf, EndsNoEarlier}

-- ---- where none ends

on : (t n u : ℕ) → t < n → n ≤ u → nat_lt t u ≡ true
on t n u early later = lt-ltb t u (omega arith)

pub all-on : (t n : ℕ) (ws : List Wait) → t < n → EndsNoEarlier n ws → filter (goes_on t) ws ≡ ws
all-on t n [] early later = refl
all-on t n (w ∷ ws) early later = rw (on t n w.until early later.0) (ap (λ l. w ∷ l) (all-on t n ws early later.1))

-- There are some exactly where there is one.
pub some-any : (p : Wait → Bool) (ws : List Wait) → nat_lt 0 (length (filter p ws)) ≡ list_any p ws
some-any p [] = refl
some-any p (w ∷ ws) = go (p w) (some-any p ws)
  where
    go : (b : Bool) → nat_lt 0 (length (filter p ws)) ≡ list_any p ws → nat_lt 0 (length (cond b (w ∷ filter p ws) (filter p ws))) ≡ (b || list_any p ws)
    go true h = lt-ltb 0 (suc (length (filter p ws))) (omega arith)
    go false h = h

pub later-filter : (n : ℕ) (p : Wait → Bool) (ws : List Wait) → EndsNoEarlier n ws → EndsNoEarlier n (filter p ws)
later-filter n p [] later = later
later-filter n p (w ∷ ws) later = go (p w) (later-filter n p ws later.1)
  where
    go : (b : Bool) → EndsNoEarlier n (filter p ws) → EndsNoEarlier n (cond b (w ∷ filter p ws) (filter p ws))
    go true h = (later.0, h)
    go false h = h

pub later-push : (n : ℕ) (w : Wait) (ws : List Wait) → EndsNoEarlier n ws → EndsNoEarlier (min n w.until) (ws ++ w ∷ [])
later-push n w [] later = (omega arith, later)
later-push n w (v ∷ ws) later = (let first = later.0 in omega arith, later-push n w ws later.1)

-- ---- one wait among others

pub count-split : (p : Wait → Bool) (xs : List Wait) (w : Wait) (ys : List Wait) → length (filter p (xs ++ w ∷ ys)) ≡ length (filter p (xs ++ ys)) + one_if (p w)
count-split p [] w ys = go (p w)
  where
    go : (b : Bool) → length (cond b (w ∷ filter p ys) (filter p ys)) ≡ length (filter p ys) + one_if b
    go true = omega arith
    go false = omega arith
count-split p (x ∷ xs) w ys = go (p x) (count-split p xs w ys)
  where
    go : (b : Bool) → length (filter p (xs ++ w ∷ ys)) ≡ length (filter p (xs ++ ys)) + one_if (p w) →
        length (cond b (x ∷ filter p (xs ++ w ∷ ys)) (filter p (xs ++ w ∷ ys))) ≡ length (cond b (x ∷ filter p (xs ++ ys)) (filter p (xs ++ ys))) + one_if (p w)
    go true h = omega arith
    go false h = h

pub any-split : (p : Wait → Bool) (xs : List Wait) (w : Wait) (ys : List Wait) → list_any p (xs ++ w ∷ ys) ≡ (p w || list_any p (xs ++ ys))
any-split p [] w ys = refl
any-split p (x ∷ xs) w ys = ap (λ b. p x || b) (any-split p xs w ys) ∙ go (p x) (p w) (list_any p (xs ++ ys))
  where
    go : (a b c : Bool) → (a || (b || c)) ≡ (b || (a || c))
    go true true c = refl
    go true false c = refl
    go false true c = refl
    go false false c = refl

turned : (v w : Wait) → is_wait_of v.object v.uid w ≡ false → is_wait_of w.object w.uid v ≡ false
turned v w e = go (is_wait_of w.object w.uid v) refl
  where
    go : (b : Bool) → is_wait_of w.object w.uid v ≡ b → b ≡ false
    go false f = refl
    go true f = absurd (
        let two = and_parts (same_id v.object w.object) (same_uid v.uid w.uid) f in
        let here : is_wait_of v.object v.uid w ≡ true = ap (λ x. same_id w.object x && same_uid w.uid v.uid) (same_id-equal v.object w.object two.0) ∙ ap (λ x. same_id w.object w.object && same_uid w.uid x) (same_uid-equal v.uid w.uid two.1)
        ∙ and_from (same_id w.object w.object) (same_uid w.uid w.uid) (same_id-self w.object) (same_uid-self w.uid) in cc)

-- What is listed once is not among the others.
once-apart : (xs : List Wait) (w : Wait) (ys : List Wait) → each_once (xs ++ w ∷ ys) ≡ true → list_any (is_wait_of w.object w.uid) (xs ++ ys) ≡ false
once-apart [] w ys h = not-true (list_any (is_wait_of w.object w.uid) ys) (and_parts (not (list_any (is_wait_of w.object w.uid) ys)) (each_once ys) h).0
once-apart (x ∷ xs) w ys h =
    let two = and_parts (not (list_any (is_wait_of x.object x.uid) (xs ++ w ∷ ys))) (each_once (xs ++ w ∷ ys)) h in
    let none = not-true (list_any (is_wait_of x.object x.uid) (xs ++ w ∷ ys)) two.0 in
    let parts = or_parts (is_wait_of x.object x.uid w) (list_any (is_wait_of x.object x.uid) (xs ++ ys)) (sym (any-split (is_wait_of x.object x.uid) xs w ys) ∙ none) in
    rw (turned x w parts.0) (once-apart xs w ys two.1)

pub once-without : (xs : List Wait) (w : Wait) (ys : List Wait) → each_once (xs ++ w ∷ ys) ≡ true → each_once (xs ++ ys) ≡ true
once-without [] w ys h = (and_parts (not (list_any (is_wait_of w.object w.uid) ys)) (each_once ys) h).1
once-without (x ∷ xs) w ys h =
    let two = and_parts (not (list_any (is_wait_of x.object x.uid) (xs ++ w ∷ ys))) (each_once (xs ++ w ∷ ys)) h in
    let none = not-true (list_any (is_wait_of x.object x.uid) (xs ++ w ∷ ys)) two.0 in
    let parts = or_parts (is_wait_of x.object x.uid w) (list_any (is_wait_of x.object x.uid) (xs ++ ys)) (sym (any-split (is_wait_of x.object x.uid) xs w ys) ∙ none) in
    rw (parts.1, once-without xs w ys two.1) refl

-- ---- the index, as one is listed and as one goes

-- n counts one more reference to this object than m.
abbrev pub Raises : {S : Type 0} → ObjId → IndexMap ObjId ℕ S → IndexMap ObjId ℕ S → Type 0
Raises k m n = (o : ObjId) → count_at n o ≡ count_at m o + one_if (same_id k o)

abbrev pub Notes : {S : Type 0} → ObjId → Uid → IndexSet Reference S → IndexSet Reference S → Type 0
Notes k v r s = (o : ObjId) (u : Uid) → has_reference s o u ≡ (is_reference k v o u || has_reference r o u)

abbrev pub Unnotes : {S : Type 0} → ObjId → Uid → IndexSet Reference S → IndexSet Reference S → Type 0
Unnotes k v r s = (o : ObjId) (u : Uid) → has_reference s o u ≡ (if is_reference k v o u then false else has_reference r o u)

-- f counts one more reference of this return than g.
abbrev pub RaisesReturn : {S : Type 0} → Uid → IndexMap Uid ℕ S → IndexMap Uid ℕ S → Type 0
RaisesReturn v f g = (u : Uid) → returned_at g u ≡ returned_at f u + one_if (same_uid v u)

pub index-added : {S T U : Type 0} (m n : IndexMap ObjId ℕ S) (r s : IndexSet Reference T) (f g : IndexMap Uid ℕ U) (w : Wait) → Raises w.object m n → Notes w.object w.uid r s → RaisesReturn w.uid f g →
    (ws : List Wait) → IsIndexOf m r f ws → IsIndexOf n s g (ws ++ w ∷ [])
index-added m n r s f g w raises notes more ws i = record {
  counted = λ o. (raises o ∙ ap (λ c. c + one_if (same_id w.object o)) (i.counted o ∙ ap (λ l. length (of_object o l)) (sym (append-nil ws))) ∙ sym (count-split (λ v. same_id v.object o) ws w []));
  listed = λ o u. (notes o u ∙ ap (λ b. is_wait_of o u w || b) (i.listed o u ∙ ap (list_any (is_wait_of o u)) (sym (append-nil ws))) ∙ sym (any-split (is_wait_of o u) ws w []));
  returned = λ u. (more u ∙ ap (λ c. c + one_if (same_uid w.uid u)) (i.returned u ∙ ap (λ l. length (of_return u l)) (sym (append-nil ws))) ∙ sym (count-split (λ v. same_uid v.uid u) ws w []));
}

pub index-removed : {S T U : Type 0} (m n : IndexMap ObjId ℕ S) (r s : IndexSet Reference T) (f g : IndexMap Uid ℕ U) (w : Wait) → Raises w.object n m → Unnotes w.object w.uid r s → RaisesReturn w.uid g f →
    (xs ys : List Wait) → each_once (xs ++ w ∷ ys) ≡ true → IsIndexOf m r f (xs ++ w ∷ ys) → IsIndexOf n s g (xs ++ ys)
index-removed m n r s f g w raises unnotes fewer xs ys once i = record {
  counted = λ o. less (count_at n o) (one_if (same_id w.object o)) (count_at m o) (length (of_object o (xs ++ w ∷ ys))) (length (of_object o (xs ++ ys))) (raises o) (i.counted o) (count-split (λ v. same_id v.object o) xs w ys);
  listed = λ o u. (unnotes o u ∙ go o u (is_wait_of o u w) refl);
  returned = λ u. less (returned_at g u) (one_if (same_uid w.uid u)) (returned_at f u) (length (of_return u (xs ++ w ∷ ys))) (length (of_return u (xs ++ ys))) (fewer u) (i.returned u) (count-split (λ v. same_uid v.uid u) xs w ys);
}
  where
    less : (a b c d e : ℕ) → c ≡ a + b → c ≡ d → d ≡ e + b → a ≡ e
    less a b c d e p q r = omega arith

    go : (o : ObjId) (u : Uid) (b : Bool) → is_wait_of o u w ≡ b → (if b then false else has_reference r o u) ≡ list_any (is_wait_of o u) (xs ++ ys)
    go o u true e =
        let two = and_parts (same_id w.object o) (same_uid w.uid u) e in
        sym (ap (λ v. list_any (is_wait_of o v) (xs ++ ys)) (sym (same_uid-equal w.uid u two.1)) ∙ ap (λ p. list_any (is_wait_of p w.uid) (xs ++ ys)) (sym (same_id-equal w.object o two.0)) ∙ once-apart xs w ys once)
    go o u false e = i.listed o u ∙ any-split (is_wait_of o u) xs w ys ∙ ap (λ b. b || list_any (is_wait_of o u) (xs ++ ys)) e

-- What is listed is counted.
pub counted-some : {S T U : Type 0} (m : IndexMap ObjId ℕ S) (r : IndexSet Reference T) (f : IndexMap Uid ℕ U) (xs : List Wait) (w : Wait) (ys : List Wait) → IsIndexOf m r f (xs ++ w ∷ ys) → 1 ≤ count_at m w.object
counted-some m r f xs w ys i =
    let all = i.counted w.object in
    let split = count-split (λ v. same_id v.object w.object) xs w ys ∙ ap (λ b. length (of_object w.object (xs ++ ys)) + one_if b) (same_id-self w.object) in omega arith

pub returned-some : {S T U : Type 0} (m : IndexMap ObjId ℕ S) (r : IndexSet Reference T) (f : IndexMap Uid ℕ U) (xs : List Wait) (w : Wait) (ys : List Wait) → IsIndexOf m r f (xs ++ w ∷ ys) → 1 ≤ returned_at f w.uid
returned-some m r f xs w ys i =
    let all = i.returned w.uid in
    let split = count-split (λ v. same_uid v.uid w.uid) xs w ys ∙ ap (λ b. length (of_return w.uid (xs ++ ys)) + one_if b) (same_uid-self w.uid) in omega arith

-- ---- the waits that stay, one after another

pub kept-step : (s : Wait → Bool) (ws : List Wait) (i : ℕ) (d : Wait) → i < length ws → filter s (take (i + 1) ws) ++ drop (i + 1) ws
    ≡ (if s (get_or ws i d) then filter s (take i ws) ++ get_or ws i d ∷ drop (i + 1) ws else filter s (take i ws) ++ drop (i + 1) ws)
kept-step s ws i d within =
    ap (λ l. filter s l ++ drop (i + 1) ws) (take_more ws i d within)
    ∙ ap (λ l. l ++ drop (i + 1) ws) (filter-append s (take i ws) (get_or ws i d ∷ []))
    ∙ go (s (get_or ws i d))
  where
    go : (b : Bool) → (filter s (take i ws) ++ cond b (get_or ws i d ∷ []) []) ++ drop (i + 1) ws ≡ (if b then filter s (take i ws) ++ get_or ws i d ∷ drop (i + 1) ws else filter s (take i ws) ++ drop (i + 1) ws)
    go true = append_assoc (filter s (take i ws)) (get_or ws i d ∷ []) (drop (i + 1) ws)
    go false = ap (λ l. l ++ drop (i + 1) ws) (append-nil (filter s (take i ws)))

pub kept-now : (s : Wait → Bool) (ws : List Wait) (i : ℕ) (d : Wait) → i < length ws → filter s (take i ws) ++ drop i ws ≡ filter s (take i ws) ++ get_or ws i d ∷ drop (i + 1) ws
kept-now s ws i d within = ap (λ l. filter s (take i ws) ++ l) (rw add-one (drop-cons ws i d within))

pub once-step : (b : Bool) (xs : List Wait) (w : Wait) (ys : List Wait) → each_once (xs ++ w ∷ ys) ≡ true → each_once (if b then xs ++ w ∷ ys else xs ++ ys) ≡ true
once-step true xs w ys h = h
once-step false xs w ys h = once-without xs w ys h

-- ---- keys

reference-same : (o : ObjId) (u : Uid) (p : ObjId) (v : Uid) → same_reference (record { object = o; uid = u }) (record { object = p; uid = v }) ≡ is_reference o u p v
reference-same o u p v =
    ap (λ b. same_key o p && b) (same_uid_key-same u v)
    ∙ ap (λ b. b && same_uid u v) (same_key-same o p)

pub noted : {S : Type 0} (k : ObjId) (v : Uid) (r s : IndexSet Reference S) → ((q : Reference) → contains same_reference s q ≡ cond (same_reference (record { object = k; uid = v }) q) true (contains same_reference r q)) → Notes k v r s
noted k v r s h o u = h (record { object = o; uid = u }) ∙ ap (λ b. cond b true (has_reference r o u)) (reference-same k v o u) ∙ go (is_reference k v o u) (has_reference r o u)
  where
    go : (b x : Bool) → cond b true x ≡ (b || x)
    go true x = refl
    go false x = refl

pub unnoted : {S : Type 0} (k : ObjId) (v : Uid) (r s : IndexSet Reference S) → ((q : Reference) → contains same_reference s q ≡ cond (same_reference (record { object = k; uid = v }) q) false (contains same_reference r q)) → Unnotes k v r s
unnoted k v r s h o u = h (record { object = o; uid = u }) ∙ ap (λ b. cond b false (has_reference r o u)) (reference-same k v o u)

-- ---- the loop over the waits

-- A wait to name where a list has none.
abbrev pub no_wait : Wait
no_wait = record { object = no_id; uid = no_id.space; until = 0 }

abbrev pub kept_so_far : (Wait → Bool) → List Wait → ℕ → List Wait
kept_so_far s ws i = filter s (take i ws) ++ drop i ws

pub next-counted : {S T U : Type 0} (s : Wait → Bool) (ws : List Wait) (i : ℕ) (d : Wait) (m : IndexMap ObjId ℕ S) (r : IndexSet Reference T) (f : IndexMap Uid ℕ U) → i < length ws → IsIndexOf m r f (kept_so_far s ws i) →
    1 ≤ count_at m (get_or ws i d).object
next-counted s ws i d m r f within index =
    let P : List Wait → Type 0 = λ l. IsIndexOf m r f l in
    counted-some m r f (filter s (take i ws)) (get_or ws i d) (drop (i + 1) ws) (subst P (kept-now s ws i d within) index)

pub next-returned : {S T U : Type 0} (s : Wait → Bool) (ws : List Wait) (i : ℕ) (d : Wait) (m : IndexMap ObjId ℕ S) (r : IndexSet Reference T) (f : IndexMap Uid ℕ U) → i < length ws → IsIndexOf m r f (kept_so_far s ws i) →
    1 ≤ returned_at f (get_or ws i d).uid
next-returned s ws i d m r f within index =
    let P : List Wait → Type 0 = λ l. IsIndexOf m r f l in
    returned-some m r f (filter s (take i ws)) (get_or ws i d) (drop (i + 1) ws) (subst P (kept-now s ws i d within) index)

pub next-once : (s : Wait → Bool) (ws : List Wait) (i : ℕ) → i < length ws → each_once (kept_so_far s ws i) ≡ true → each_once (kept_so_far s ws (i + 1)) ≡ true
next-once s ws i within once =
    ap each_once (kept-step s ws i no_wait within)
    ∙ once-step (s (get_or ws i no_wait)) (filter s (take i ws)) (get_or ws i no_wait) (drop (i + 1) ws) (sym (ap each_once (kept-now s ws i no_wait within)) ∙ once)

pub next-index : {S T U : Type 0} (s : Wait → Bool) (ws : List Wait) (i : ℕ) (d : Wait) (m n : IndexMap ObjId ℕ S) (r t : IndexSet Reference T) (f g : IndexMap Uid ℕ U) → i < length ws → each_once (kept_so_far s ws i) ≡ true →
    ((xs ys : List Wait) → each_once (xs ++ get_or ws i d ∷ ys) ≡ true → IsIndexOf m r f (xs ++ get_or ws i d ∷ ys) → IsIndexOf n t g (if s (get_or ws i d) then xs ++ get_or ws i d ∷ ys else xs ++ ys)) →
    IsIndexOf m r f (kept_so_far s ws i) → IsIndexOf n t g (kept_so_far s ws (i + 1))
next-index s ws i d m n r t f g within once step index =
    let P : List Wait → Type 0 = λ l. IsIndexOf m r f l in
    let Q : List Wait → Type 0 = λ l. IsIndexOf n t g l in
    subst Q (sym (kept-step s ws i d within))
    (step (filter s (take i ws)) (drop (i + 1) ws) (sym (ap each_once (kept-now s ws i d within)) ∙ once) (subst P (kept-now s ws i d within) index))

-- Where all before the first place stay, these and all from there on are the whole list.
pub so-far-first : (s : Wait → Bool) (ws : List Wait) (i : ℕ) → filter s (take i ws) ≡ take i ws → kept_so_far s ws i ≡ ws
so-far-first s ws i h = ap (λ l. l ++ drop i ws) h ∙ take-append-drop i ws

-- Where all from the last place on stay, these and those that stay of the others are what stays of all.
pub so-far-last : (s : Wait → Bool) (ws : List Wait) (i : ℕ) → filter s (drop i ws) ≡ drop i ws → kept_so_far s ws i ≡ filter s ws
so-far-last s ws i h =
    ap (λ l. filter s (take i ws) ++ l) (sym h)
    ∙ sym (filter-append s (take i ws) (drop i ws))
    ∙ ap (filter s) (take-append-drop i ws)

-- ---- where a reference is not listed

pub until-none : (o : ObjId) (u : Uid) (ws : List Wait) → list_any (is_wait_of o u) ws ≡ false → end_of_wait o u ws ≡ 0
until-none o u [] h = refl
until-none o u (w ∷ ws) h =
    let parts = or_parts (is_wait_of o u w) (list_any (is_wait_of o u) ws) h in
    rw parts.0 (until-none o u ws parts.1)

pub none-dropped : (p : Wait → Bool) (ws : List Wait) → list_any p ws ≡ false → filter (λ w. not (p w)) ws ≡ ws
none-dropped p [] h = refl
none-dropped p (w ∷ ws) h =
    let parts = or_parts (p w) (list_any p ws) h in
    rw parts.0 (ap (λ l. w ∷ l) (none-dropped p ws parts.1))

-- ---- where those that ended are forgotten

twice : (a b : Bool) → (a && (a && b)) ≡ (a && b)
twice true b = refl
twice false b = refl

awaited-forgotten : (t : ℕ) (o : ObjId) (ws : List Wait) → is_awaited t o (still_waiting t ws) ≡ is_awaited t o ws
awaited-forgotten t o ws =
    list_any-filter (λ w. goes_on t w && same_id w.object o) (goes_on t) ws
    ∙ list_any-same (λ w. goes_on t w && (goes_on t w && same_id w.object o)) (λ w. goes_on t w && same_id w.object o) (λ w. twice (goes_on t w) (same_id w.object o)) ws

pub kept-forgotten : (t : ℕ) (held : ObjId → Bool) (ws : List Wait) (x : Export) → is_row_kept t held (still_waiting t ws) x ≡ is_row_kept t held ws x
kept-forgotten t held ws x = ap (λ b. is_pinned x || b || held x.id) (awaited-forgotten t x.id ws)

pub rows-forgotten : (t : ℕ) (held : ObjId → Bool) (ws : List Wait) (rows : List Export) → filter (is_row_kept t held (still_waiting t ws)) rows ≡ filter (is_row_kept t held ws) rows
rows-forgotten t held ws rows = filter-same (is_row_kept t held (still_waiting t ws)) (is_row_kept t held ws) rows (every-always (λ x. is_row_kept t held (still_waiting t ws) x ≡ is_row_kept t held ws x) (kept-forgotten t held ws) rows)

pub withdrawn-forgotten : (t : ℕ) (held : ObjId → Bool) (ws : List Wait) (rows : List Export) → withdrawn_ids t held (still_waiting t ws) rows ≡ withdrawn_ids t held ws rows
withdrawn-forgotten t held ws rows =
    ap ids (filter-same (λ x. not (is_row_kept t held (still_waiting t ws) x)) (λ x. not (is_row_kept t held ws x)) rows
    (every-always (λ x. not (is_row_kept t held (still_waiting t ws) x) ≡ not (is_row_kept t held ws x)) (λ x. ap not (kept-forgotten t held ws x)) rows))
