-- The numbers of the objects that a space exports rise, and none is given twice.
use Rattle.std.proofs.Common.{◌≡◌, ℕ, suc, ◌+◌, ◌<◌, ◌≤◌, List, [], ◌∷◌, ◌++◌, length, refl, ap, sym, subst, ◌∙◌, arith, cond, length-append}
use Rattle.std.specs.Prelude.{zero, pos, Some, None, slice_get, Bool, true, false, ◌||◌, filter, if◌then◌else◌, reverse}
use Rattle.std.specs.List.{AllByRecursion}
use Rattle.std.specs.Ordering.{int_eq}
use Rattle.std.proofs.lemmas.Bool.Decides.{Decides-int_eq}
use Rattle.object_ids.specs.declared.ids.Uid.{Uid}
use Rattle.object_ids.specs.declared.ids.ObjId.{ObjId}
use Rattle.object_ids.specs.Same.{same_id}
use Rattle.object_ids.proofs.Exact.{same_id-equal, same_id-self}
use Rattle.history.specs.declared.asks.SpaceConfig.{SpaceConfig}
use Rattle.history.specs.declared.asks.Event.{Event}
use Rattle.history.specs.declared.asks.Ask.{Ask}
use Rattle.history.specs.declared.asks.Ask.TheVariants.{Open, Finish}
use Rattle.history.specs.declared.places.Exported.{Exported}
use Rattle.history.specs.Places.{History, has, kind_of, ever_exported, exported_count, id_at, exported_from}
use Rattle.history.specs.Table.{is_kept, table, exports, place_of, places_back, places}
use Rattle.history.specs.Laws.{NextIsCounted, IdsAreInOrder}
use Rattle.std.proofs.lemmas.List.Folds.{list_any-append}
use Rattle.history.proofs.ListLemmas.{every-weaker, or_true}
use Rattle.history.specs.declared.places.Place.{Place}

-- The objects of a list are a space's k-th and those that follow.
abbrev pub NumberedFrom : Uid → ℕ → List Exported → Type 0
NumberedFrom space k [] = Unit {0}
NumberedFrom space k (x ∷ xs) = (x.id ≡ id_at space k) × NumberedFrom space (k + 1) xs

pub NumberedFrom-append : (space : Uid) (k : ℕ) (xs ys : List Exported) → NumberedFrom space k xs → NumberedFrom space (k + length xs) ys → NumberedFrom space k (xs ++ ys)
NumberedFrom-append space k [] ys a b = let P : ℕ → Type 0 = λ n. NumberedFrom space n ys in let none : k + 0 ≡ k = omega arith in subst P none b
NumberedFrom-append space k (x ∷ xs) ys a b =
    let P : ℕ → Type 0 = λ n. NumberedFrom space n ys in
    let moved : k + suc (length xs) ≡ k + 1 + length xs = omega arith in
    (a.0, NumberedFrom-append space (k + 1) xs ys a.1 (subst P moved b))

pub exported_from-numbered : (space : Uid) (k : ℕ) (pinned : Bool) (kinds : List ℕ) → NumberedFrom space k (exported_from space k pinned kinds)
exported_from-numbered space k pinned [] = tt
exported_from-numbered space k pinned (kind ∷ kinds) = (refl, exported_from-numbered space (k + 1) pinned kinds)

pub length-exported_from : (space : Uid) (k : ℕ) (pinned : Bool) (kinds : List ℕ) → length (exported_from space k pinned kinds) ≡ length kinds
length-exported_from space k pinned [] = refl
length-exported_from space k pinned (kind ∷ kinds) = ap suc (length-exported_from space (k + 1) pinned kinds)

pub next-push : (p : Place) (h : History) → exported_count (p ∷ h) ≡ exported_count h + length p.exported_here
unfolding exported_count
next-push p h = refl

-- THE NEXT OBJECT has the number of those that were exported before it.
pub exported_count-length : (h : History) → NextIsCounted h
unfolding exported_count ever_exported
exported_count-length [] = refl
exported_count-length (p ∷ h) = ap (λ n. n + length p.exported_here) (exported_count-length h) ∙ sym (length-append (ever_exported h) p.exported_here)

exports-numbered : (config : SpaceConfig) (h : History) (a : Ask) → NumberedFrom config.uid (exported_count h) (exports config h a)
unfolding exports
exports-numbered config h (Open kind pinned) = exported_from-numbered config.uid (exported_count h) pinned (kind ∷ [])
exports-numbered config h (Finish object made listed uid) = exported_from-numbered config.uid (exported_count h) false made
exports-numbered config h _ = tt

-- What an event exports goes on where the history ended.
pub adds-next : (config : SpaceConfig) (h : History) (e : Event) → NumberedFrom config.uid (exported_count h) (place_of config h e).exported_here
unfolding place_of
adds-next config h e = go (place_of config h e).effective (exports-numbered config h e.ask)
  where
    go : (b : Bool) → NumberedFrom config.uid (exported_count h) (exports config h e.ask) → NumberedFrom config.uid (exported_count h) (if b then exports config h e.ask else [])
    go true n = n
    go false n = tt

pub adds-numbered : (config : SpaceConfig) (h : History) (e : Event) → NumberedFrom config.uid (length (ever_exported h)) (place_of config h e).exported_here
adds-numbered config h e = let P : ℕ → Type 0 = λ n. NumberedFrom config.uid n (place_of config h e).exported_here in subst P (exported_count-length h) (adds-next config h e)

-- ALL OBJECTS that a history exported have the numbers from 16 on, in order.
pub ever_exported_back-numbered : (config : SpaceConfig) (es : List Event) → NumberedFrom config.uid 0 (ever_exported (places_back config es))
unfolding ever_exported places_back
ever_exported_back-numbered config [] = tt
ever_exported_back-numbered config (e ∷ es) =
    NumberedFrom-append config.uid 0 (ever_exported (places_back config es)) (place_of config (places_back config es) e).exported_here (ever_exported_back-numbered config es)
    (let P : ℕ → Type 0 = λ n. NumberedFrom config.uid n (place_of config (places_back config es) e).exported_here in
    let none : length (ever_exported (places_back config es)) ≡ 0 + length (ever_exported (places_back config es)) = omega arith in
    subst P none (adds-numbered config (places_back config es) e))

pub ever_exported-numbered : (config : SpaceConfig) (h : List Event) → NumberedFrom config.uid 0 (ever_exported (places config h))
unfolding places
ever_exported-numbered config h = ever_exported_back-numbered config (reverse h)

numbered-get : (space : Uid) (k : ℕ) (xs : List Exported) → NumberedFrom space k xs → (i : ℕ) (x : Exported) → slice_get xs i ≡ Some x → x.id ≡ id_at space (k + i)
numbered-get space k [] n i x is = let never : None ≡ Some x = is in absurd cc
numbered-get space k (y ∷ ys) n zero x is = let there : Some y ≡ Some x = is in let same : y ≡ x = cc in let none : k + 0 ≡ k = omega arith in ap (λ (z : Exported). z.id) (sym same) ∙ n.0 ∙ ap (id_at space) (sym none)
numbered-get space k (y ∷ ys) n (suc i) x is = let moved : k + 1 + i ≡ k + suc i = omega arith in numbered-get space (k + 1) ys n.1 i x is ∙ ap (id_at space) moved

-- THE K-TH OBJECT has the identifier of this number.
pub ids-in-order : (config : SpaceConfig) (events : List Event) → IdsAreInOrder config events
ids-in-order config events k x is =
    let none : 0 + k ≡ k = omega arith in
    numbered-get config.uid 0 (ever_exported (places config events)) (ever_exported-numbered config events) k x is ∙ ap (id_at config.uid) none

-- ---- no number twice

int_eq-apart : (m n : ℕ) → m < n → int_eq (pos (16 + n)) (pos (16 + m)) ≡ false
int_eq-apart m n h = go (int_eq (pos (16 + n)) (pos (16 + m))) refl
  where
    go : (b : Bool) → int_eq (pos (16 + n)) (pos (16 + m)) ≡ b → b ≡ false
    go true e = let same : pos (16 + n) ≡ pos (16 + m) = (Decides-int_eq (pos (16 + n)) (pos (16 + m))).0 e in let eq : 16 + n ≡ 16 + m = cc in absurd (omega arith)
    go false e = refl

pub same_id-apart : (space : Uid) (m n : ℕ) → m < n → same_id (id_at space n) (id_at space m) ≡ false
same_id-apart space m n h = rw (int_eq-apart m n h) refl

-- An object with a smaller number is not among them.
pub has-smaller : (space : Uid) (k j : ℕ) (xs : List Exported) → NumberedFrom space j xs → k < j → has xs (id_at space k) ≡ false
has-smaller space k j [] n h = refl
has-smaller space k j (x ∷ xs) n h = rw (n.0, same_id-apart space k j h) (has-smaller space k (j + 1) xs n.1 (omega arith))

-- Nor is one with a greater number.
pub has-greater : (space : Uid) (k j : ℕ) (xs : List Exported) → NumberedFrom space j xs → j + length xs ≤ k → has xs (id_at space k) ≡ false
has-greater space k j [] n h = refl
has-greater space k j (x ∷ xs) n h = rw (n.0, apart (omega arith)) (has-greater space k (j + 1) xs n.1 (omega arith))
  where
    apart : j < k → same_id (id_at space j) (id_at space k) ≡ false
    apart l = go (same_id (id_at space j) (id_at space k)) refl
      where
        go : (b : Bool) → same_id (id_at space j) (id_at space k) ≡ b → b ≡ false
        go true e =
            let same : id_at space j ≡ id_at space k = same_id-equal (id_at space j) (id_at space k) e in
            let P : ObjId → Type 0 = λ o. same_id (id_at space k) o ≡ true in
            let self : same_id (id_at space k) (id_at space j) ≡ true = subst P (sym same) (same_id-self (id_at space k)) in
            let never = same_id-apart space j k l in absurd (cc)
        go false e = refl

-- No object of a list stands there again.
abbrev pub AllApart : List Exported → Type 0
AllApart [] = Unit {0}
AllApart (x ∷ xs) = (has xs x.id ≡ false) × AllApart xs

pub NumberedFrom-apart : (space : Uid) (k : ℕ) (xs : List Exported) → NumberedFrom space k xs → AllApart xs
NumberedFrom-apart space k [] n = tt
NumberedFrom-apart space k (x ∷ xs) n = (rw n.0 (has-smaller space k (k + 1) xs n.1 (omega arith)), NumberedFrom-apart space (k + 1) xs n.1)

pub has-filter : (test : Exported → Bool) (xs : List Exported) (o : ObjId) → has xs o ≡ false → has (filter test xs) o ≡ false
has-filter test [] o h = refl
has-filter test (x ∷ xs) o h = go (same_id x.id o) (has xs o) refl refl h (has-filter test xs o)
  where
    go : (a b : Bool) → same_id x.id o ≡ a → has xs o ≡ b → (a || b) ≡ false → (has xs o ≡ false → has (filter test xs) o ≡ false) → has (filter test (x ∷ xs)) o ≡ false
    go false false p q r rest = kept (test x) (rest q)
      where
        kept : (c : Bool) → has (filter test xs) o ≡ false → has (cond c (x ∷ filter test xs) (filter test xs)) o ≡ false
        kept true s = rw (p, s) refl
        kept false s = s
    go true b p q r rest = absurd (cc)
    go false true p q r rest = absurd (cc)

pub AllApart-filter : (test : Exported → Bool) (xs : List Exported) → AllApart xs → AllApart (filter test xs)
AllApart-filter test [] a = tt
AllApart-filter test (x ∷ xs) a = go (test x) (AllApart-filter test xs a.1)
  where
    go : (b : Bool) → AllApart (filter test xs) → AllApart (cond b (x ∷ filter test xs) (filter test xs))
    go true r = (has-filter test xs x.id a.0, r)
    go false r = r

-- WHAT IS IN THE TABLE was exported.
pub table-exported : (config : SpaceConfig) (h : History) (o : ObjId) → has (table config h) o ≡ true → has (ever_exported h) o ≡ true
unfolding table ever_exported
table-exported config [] o t = t
table-exported config (p ∷ h) o t =
    list_any-append (λ (x : Exported). same_id x.id o) (ever_exported h) p.exported_here ∙ go (table-exported config h o) (has (table config h ++ p.exported_here) o) refl
  where
    wider : (a b c : Bool) → (a || c) ≡ true → (a ≡ true → b ≡ true) → (b || c) ≡ true
    wider true b c e f = ap (λ v. v || c) (f refl)
    wider false true c e f = refl
    wider false false c e f = e

    go : (has (table config h) o ≡ true → has (ever_exported h) o ≡ true) → (b : Bool) → has (table config h ++ p.exported_here) o ≡ b → (has (ever_exported h) o || has p.exported_here o) ≡ true
    go ih true e = wider (has (table config h) o) (has (ever_exported h) o) (has p.exported_here o) (sym (list_any-append (λ (x : Exported). same_id x.id o) (table config h) p.exported_here) ∙ e) ih
    go ih false e = absurd (let never = has-filter (is_kept config (p ∷ h)) (table config h ++ p.exported_here) o e in cc)

-- Each object of a list is among its objects, and has its kind there.
pub has-self : (xs : List Exported) → AllByRecursion (λ (x : Exported). has xs x.id ≡ true) xs
has-self [] = tt
has-self (a ∷ xs) = (rw (same_id-self a.id) refl, every-weaker (λ (x : Exported). has xs x.id ≡ true) (λ (x : Exported). (same_id a.id x.id || has xs x.id) ≡ true) (λ x e. rw e (or_true (same_id a.id x.id))) xs (has-self xs))

pub kind_of-self : (xs : List Exported) → AllApart xs → AllByRecursion (λ (x : Exported). kind_of xs x.id ≡ x.kind) xs
kind_of-self [] a = tt
kind_of-self (y ∷ ys) a = (rw (same_id-self y.id) refl, others ys (kind_of-self ys a.1) a.0)
  where
    others : (zs : List Exported) → AllByRecursion (λ (x : Exported). kind_of ys x.id ≡ x.kind) zs → has zs y.id ≡ false → AllByRecursion (λ (x : Exported). kind_of (y ∷ ys) x.id ≡ x.kind) zs
    others [] r h = tt
    others (z ∷ zs) r h = go (same_id z.id y.id) (has zs y.id) refl refl h (others zs r.1)
      where
        apart : same_id z.id y.id ≡ false → same_id y.id z.id ≡ false
        apart e = turned (same_id y.id z.id) refl
          where
            turned : (b : Bool) → same_id y.id z.id ≡ b → b ≡ false
            turned true f =
                let same : y.id ≡ z.id = same_id-equal y.id z.id f in
                let P : ObjId → Type 0 = λ o. same_id z.id o ≡ true in
                let self : same_id z.id y.id ≡ true = subst P (sym same) (same_id-self z.id) in absurd (cc)
            turned false f = refl

        go : (b c : Bool) → same_id z.id y.id ≡ b → has zs y.id ≡ c → (b || c) ≡ false → (has zs y.id ≡ false → AllByRecursion (λ (x : Exported). kind_of (y ∷ ys) x.id ≡ x.kind) zs) →
            AllByRecursion (λ (x : Exported). kind_of (y ∷ ys) x.id ≡ x.kind) (z ∷ zs)
        go false false p q s rest = (rw (apart p) r.0, rest q)
        go true c p q s rest = absurd (cc)
        go false true p q s rest = absurd (cc)
