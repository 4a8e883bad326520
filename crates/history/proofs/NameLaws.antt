-- Laws of the names: what one more event does to them.
use Rattle.std.proofs.Common.{◌≡◌, ℕ, ◌+◌, ◌<◌, ◌≤◌, List, [], ◌∷◌, ◌++◌, length, refl, ap, sym, subst, ◌∙◌, arith, cond, Option, Some, None, append-nil}
use Rattle.std.specs.Prelude.{Bool, true, false, ◌&&◌, ◌||◌, not, filter, find, filter_map, reverse, is_none, is_some, option_and_then, option_to_list, if◌then◌else◌}
use Rattle.std.specs.List.{list_any, cons_option, AllByRecursion}
use Rattle.std.proofs.lemmas.Bool.{lt-ltb, le-ltb}
use Rattle.std.proofs.lemmas.List.Folds.{list_any-append}
use Rattle.std.proofs.lemmas.List.Elements.{filter-append, filter_map-append}
use Rattle.sequence.proofs.Lists.{all_stay}
use Rattle.object_ids.specs.declared.ids.ObjId.{ObjId}
use Rattle.object_ids.specs.Same.{same_bytes}
use Rattle.object_ids.proofs.Exact.{same_bytes-equal, same_bytes-self}
use Rattle.history.specs.Lists.{option_any, AllOnce}
use Rattle.history.specs.declared.asks.SpaceConfig.{SpaceConfig}
use Rattle.history.specs.declared.asks.Event.{Event}
use Rattle.history.specs.declared.asks.Ask.{Ask}
use Rattle.history.specs.declared.asks.Ask.TheVariants.{Bind, Rebind, Unbind, Lookup}
use Rattle.history.specs.declared.places.Place.{Place}
pub use Rattle.history.specs.Names.{unbinds, name_begun}
use Rattle.history.specs.Names.{name_in, name_bound, object_bound, is_bind_of, is_unbind_of, changes_name, stands_for, names}
use Rattle.history.specs.Laws.{is_unbound_after, begins_name, StandsForLast, NamesInOrder}
use Rattle.history.proofs.ListLemmas.{every-weaker, every-reverse, reverse-cons, filter-same, filter-filter, list_any-filter, IsEquality, AllOnce-filter, AllOnce-push, and_false, same-turned}
use Rattle.history.specs.Table.{place_of, places_back, places}
use Rattle.history.specs.Places.{History}
use Rattle.history.proofs.TableLaws.{IsNumbered, index-place_of, places_back-numbered, places-numbered}

-- ---- one more place

-- After a place that changes a name it stands for what that place says, and after any other for what it stood for before.
pub stands_for-push : (p : Place) (h : History) (n : List ℕ) →
    stands_for (p ∷ h) n ≡ (if changes_name n p then object_bound p.event.ask else stands_for h n)
unfolding stands_for
stands_for-push p h n = refl

pub stands_for-none : (n : List ℕ) → stands_for [] n ≡ None
unfolding stands_for
stands_for-none n = refl

-- THE NAMES after one more event are those that it doesn't unbind, and the one that it begins.
pub names-push : (p : Place) (h : History) → IsNumbered (p ∷ h) →
    names (p ∷ h) ≡ filter (λ n. not (unbinds p n)) (names h) ++ name_begun p
unfolding names
names-push p h i = refl

pub names-none : names [] ≡ []
unfolding names
names-none = refl

-- A NAME STANDS for the object of its last change.
pub stands-for-last : (h : History) → StandsForLast h
stands-for-last [] n = stands_for-none n
stands-for-last (p ∷ h) n = stands_for-push p h n ∙ go (stands-for-last h n) (changes_name n p)
  where
    go : stands_for h n ≡ option_and_then (λ (q : Place). object_bound q.event.ask) (find (changes_name n) h) → (b : Bool) → (if b then object_bound p.event.ask else stands_for h n) ≡ option_and_then (λ (q : Place). object_bound q.event.ask) (cond b (Some p) (find (changes_name n) h))
    go ih true = refl
    go ih false = ih

-- ---- the order of names

-- Every place of a history stands below its length.
places-below : (h : History) → IsNumbered h → AllByRecursion (λ (q : Place). q.index < length h) h
places-below [] n = tt
places-below (p ∷ h) n =
    ((let b = n.0 in omega arith), every-weaker (λ (q : Place). q.index < length h) (λ (q : Place). q.index < length (p ∷ h)) (λ q a. omega arith) h (places-below h n.1))

-- No place stands after the newest one.
none_after : (n : List ℕ) (h : History) (p : Place) → IsNumbered h → length h ≤ p.index + 1 → is_unbound_after h n p ≡ false
none_after n [] p i a = refl
none_after n (q ∷ h) p i a = rw (le-ltb p.index q.index (let b = i.0 in omega arith)) (none_after n h p i.1 (omega arith))

begins-before : (p : Place) (h : History) (q : Place) → q.index < p.index →
    begins_name (p ∷ h) q ≡ (option_any (λ n. not (unbinds p n)) (name_bound q.event.ask) && begins_name h q)
begins-before p h q l = rw (lt-ltb q.index p.index l) (go (q.effective && is_none q.name_stood_for) (name_bound q.event.ask))
  where
    go : (e : Bool) (o : Option (List ℕ)) →
        (e && option_any (λ n. not ((p.effective && is_unbind_of n p.event.ask) || is_unbound_after h n q)) o)
        ≡ (option_any (λ n. not (p.effective && is_unbind_of n p.event.ask)) o && (e && option_any (λ n. not (is_unbound_after h n q)) o))
    go true None = refl
    go false None = refl
    go e (Some n) = both e (p.effective && is_unbind_of n p.event.ask) (is_unbound_after h n q)
      where
        both : (e a b : Bool) → (e && not (a || b)) ≡ (not a && (e && not b))
        both true true b = refl
        both true false b = refl
        both false true b = refl
        both false false b = refl

-- A filter by what a mapping gives.
filter_map-filter : {X Y : Type 0} (f : X → Option Y) (test : Y → Bool) (xs : List X) → filter_map f (filter (λ x. option_any test (f x)) xs) ≡ filter test (filter_map f xs)
filter_map-filter f test [] = refl
filter_map-filter {X} {Y} f test (x ∷ xs) = go (f x) refl (filter_map-filter f test xs)
  where
    go : (o : Option Y) → f x ≡ o → filter_map f (filter (λ y. option_any test (f y)) xs) ≡ filter test (filter_map f xs) →
        filter_map f (cond (option_any test o) (x ∷ filter (λ y. option_any test (f y)) xs) (filter (λ y. option_any test (f y)) xs)) ≡ filter test (cons_option o (filter_map f xs))
    go None e ih = ih
    go (Some y) e ih = kept (test y)
      where
        kept : (b : Bool) → filter_map f (cond b (x ∷ filter (λ z. option_any test (f z)) xs) (filter (λ z. option_any test (f z)) xs)) ≡ cond b (y ∷ filter test (filter_map f xs)) (filter test (filter_map f xs))
        kept true = rw e (ap (λ l. y ∷ l) ih)
        kept false = ih

begins-here : (p : Place) (h : History) → IsNumbered (p ∷ h) →
    filter_map (λ (q : Place). name_bound q.event.ask) (filter (begins_name (p ∷ h)) (p ∷ [])) ≡ name_begun p
begins-here p h i = go (p.effective && is_none p.name_stood_for) (name_bound p.event.ask) refl
  where
    go : (b : Bool) (o : Option (List ℕ)) → name_bound p.event.ask ≡ o →
        filter_map (λ (q : Place). name_bound q.event.ask) (cond (b && option_any (λ n. not (is_unbound_after (p ∷ h) n p)) o) (p ∷ []) []) ≡ (if b then option_to_list o else [])
    go true None e = refl
    go false None e = refl
    go true (Some n) e = rw (none_after n (p ∷ h) p i (let b = i.0 in omega arith), e) refl
    go false (Some n) e = refl

-- The names in the order of the places that begin them.
abbrev begun_in_order : History → List (List ℕ)
begun_in_order h = filter_map (λ (p : Place). name_bound p.event.ask) (filter (begins_name h) (reverse h))

in_order-push : (p : Place) (h : History) → IsNumbered (p ∷ h) →
    begun_in_order (p ∷ h) ≡ filter (λ n. not (unbinds p n)) (begun_in_order h) ++ name_begun p
in_order-push p h i =
    ap (λ l. filter_map (λ (q : Place). name_bound q.event.ask) (filter (begins_name (p ∷ h)) l)) (reverse-cons p h)
    ∙ ap (filter_map (λ (q : Place). name_bound q.event.ask)) (filter-append (begins_name (p ∷ h)) (reverse h) (p ∷ []))
    ∙ filter_map-append (λ (q : Place). name_bound q.event.ask) (filter (begins_name (p ∷ h)) (reverse h)) (filter (begins_name (p ∷ h)) (p ∷ []))
    ∙ ap (λ l. l ++ filter_map (λ (q : Place). name_bound q.event.ask) (filter (begins_name (p ∷ h)) (p ∷ []))) (
    ap (filter_map (λ (q : Place). name_bound q.event.ask))
    (filter-same (begins_name (p ∷ h)) (λ q. option_any (λ n. not (unbinds p n)) (name_bound q.event.ask) && begins_name h q) (reverse h)
    (every-weaker (λ (q : Place). q.index < length h) (λ q. begins_name (p ∷ h) q ≡ (option_any (λ n. not (unbinds p n)) (name_bound q.event.ask) && begins_name h q))
    (λ q l. begins-before p h q (let b = i.0 in omega arith)) (reverse h) (every-reverse (λ (q : Place). q.index < length h) h (places-below h i.1)))
    ∙ sym (filter-filter (λ q. option_any (λ n. not (unbinds p n)) (name_bound q.event.ask)) (begins_name h) (reverse h)))
    ∙ filter_map-filter (λ (q : Place). name_bound q.event.ask) (λ n. not (unbinds p n)) (filter (begins_name h) (reverse h)))
    ∙ ap (λ l. filter (λ n. not (unbinds p n)) (filter_map (λ (q : Place). name_bound q.event.ask) (filter (begins_name h) (reverse h))) ++ l) (begins-here p h i)

names-begun : (h : History) → IsNumbered h → names h ≡ begun_in_order h
names-begun [] i = names-none
names-begun (p ∷ h) i = names-push p h i ∙ ap (λ l. filter (λ n. not (unbinds p n)) l ++ name_begun p) (names-begun h i.1) ∙ sym (in_order-push p h i)

-- THE NAMES stand in the order of the places that begin them.
pub names-in-order : (config : SpaceConfig) (events : List Event) → NamesInOrder config events
names-in-order config events = names-begun (places config events) (places-numbered config events)

-- ---- the names that stand for something

pub bytes-equality : IsEquality same_bytes
bytes-equality = record { self = same_bytes-self; equal = same_bytes-equal }

pub same_bytes-turned : (a b : List ℕ) → same_bytes a b ≡ same_bytes b a
same_bytes-turned a b = same-turned bytes-equality a b

-- The names of a history and the name that its next event, which is effective or not, begins or unbinds.
unfoldable pub after_ask : Bool → Option ObjId → Ask → List (List ℕ) → List (List ℕ)
after_ask effective stood a ns =
    filter (λ n. not (effective && is_unbind_of n a)) ns ++ (if effective && is_none stood then option_to_list (name_bound a) else [])

-- What a name stands for after it.
unfoldable pub stands_after : Bool → Ask → List ℕ → Option ObjId → Option ObjId
stands_after effective a n before = if effective && (is_bind_of n a || is_unbind_of n a) then object_bound a else before

-- Membership goes with what the name stands for.
member-after : (effective : Bool) (a : Ask) (ns : List (List ℕ)) (n : List ℕ) (stands : List ℕ → Option ObjId) →
    ((m : List ℕ) → list_any (same_bytes m) ns ≡ is_some (stands m)) →
    list_any (same_bytes n) (after_ask effective (option_and_then stands (name_in a)) a ns) ≡ is_some (stands_after effective a n (stands n))
unfolding after_ask stands_after
member-after effective a ns n stands ih = go effective a
  where
    same_stay : (xs : List (List ℕ)) → xs ≡ ns → list_any (same_bytes n) (xs ++ []) ≡ is_some (stands n)
    same_stay xs e = rw append-nil (ap (list_any (same_bytes n)) e ∙ ih n)

    -- one more name
    bound : (m : List ℕ) (o : ObjId) (xs : List (List ℕ)) → xs ≡ ns → list_any (same_bytes n) (xs ++ m ∷ []) ≡ is_some (if same_bytes m n || false then Some o else stands n)
    bound m o xs e =
        list_any-append (same_bytes n) xs (m ∷ []) ∙ ap (λ l. list_any (same_bytes n) l || (same_bytes n m || false)) e
        ∙ ap (λ b. b || (same_bytes n m || false)) (ih n) ∙ ap (λ b. is_some (stands n) || (b || false)) (same_bytes-turned n m) ∙ both (same_bytes m n) (stands n)
      where
        both : (b : Bool) (before : Option ObjId) → (is_some before || (b || false)) ≡ is_some (if b || false then Some o else before)
        both true None = refl
        both true (Some x) = refl
        both false None = refl
        both false (Some x) = refl

    -- a name that stands for something already
    bound_again : (m : List ℕ) (o : ObjId) (xs : List (List ℕ)) → xs ≡ ns → is_some (stands m) ≡ true → list_any (same_bytes n) (xs ++ []) ≡ is_some (if same_bytes m n || false then Some o else stands n)
    bound_again m o xs e some = same_stay xs e ∙ both (same_bytes m n) refl
      where
        both : (b : Bool) → same_bytes m n ≡ b → is_some (stands n) ≡ is_some (if b || false then Some o else stands n)
        both true q = let P : List ℕ → Type 0 = λ z. is_some (stands z) ≡ true in subst P (same_bytes-equal m n q) some
        both false q = refl

    begun : (m : List ℕ) (o : ObjId) (before : Option ObjId) → stands m ≡ before →
        list_any (same_bytes n) (filter (λ k. not false) ns ++ (if is_none before then m ∷ [] else [])) ≡ is_some (if same_bytes m n || false then Some o else stands n)
    begun m o None e = bound m o (filter (λ k. not false) ns) (all_stay ns)
    begun m o (Some x) e = bound_again m o (filter (λ k. not false) ns) (all_stay ns) (ap is_some e)

    unbound : (m : List ℕ) (rest : List (List ℕ)) → rest ≡ [] → list_any (same_bytes n) (filter (λ k. not (same_bytes m k)) ns ++ rest) ≡ is_some (if false || same_bytes m n then None else stands n)
    unbound m rest e =
        ap (λ l. list_any (same_bytes n) (filter (λ k. not (same_bytes m k)) ns ++ l)) e
        ∙ rw append-nil (list_any-filter (same_bytes n) (λ k. not (same_bytes m k)) ns ∙ apart (same_bytes m n) refl)
      where
        none : (xs : List (List ℕ)) → m ≡ n → list_any (λ k. not (same_bytes m k) && same_bytes n k) xs ≡ false
        none [] e = refl
        none (x ∷ xs) e = rw (none xs e) (one (same_bytes n x) refl)
          where
            one : (b : Bool) → same_bytes n x ≡ b → ((not (same_bytes m x) && b) || false) ≡ false
            one true q = let P : List ℕ → Type 0 = λ z. same_bytes z x ≡ true in let here : same_bytes m x ≡ true = subst P (sym e) q in rw here refl
            one false q = rw (and_false (not (same_bytes m x))) refl

        some : (xs : List (List ℕ)) → same_bytes m n ≡ false → list_any (λ k. not (same_bytes m k) && same_bytes n k) xs ≡ list_any (same_bytes n) xs
        some [] e = refl
        some (x ∷ xs) e = rw (some xs e) (ap (λ b. b || list_any (same_bytes n) xs) (one (same_bytes n x) refl))
          where
            one : (b : Bool) → same_bytes n x ≡ b → (not (same_bytes m x) && b) ≡ b
            one true q = let P : List ℕ → Type 0 = λ z. same_bytes m z ≡ false in let away : same_bytes m x ≡ false = subst P (same_bytes-equal n x q) e in rw away refl
            one false q = and_false (not (same_bytes m x))

        apart : (b : Bool) → same_bytes m n ≡ b → list_any (λ k. not (same_bytes m k) && same_bytes n k) ns ≡ is_some (if false || b then None else stands n)
        apart true q = none ns (same_bytes-equal m n q)
        apart false q = some ns q ∙ ih n

    nothing : (b : Bool) → list_any (same_bytes n) (filter (λ k. not false) ns ++ (if b then [] else [])) ≡ is_some (stands n)
    nothing true = same_stay (filter (λ k. not false) ns) (all_stay ns)
    nothing false = same_stay (filter (λ k. not false) ns) (all_stay ns)

    go : (e : Bool) (a : Ask) → list_any (same_bytes n) (filter (λ k. not (e && is_unbind_of k a)) ns ++ (if e && is_none (option_and_then stands (name_in a)) then option_to_list (name_bound a) else []))
        ≡ is_some (if e && (is_bind_of n a || is_unbind_of n a) then object_bound a else stands n)
    go true (Bind m o) = begun m o (stands m) refl
    go true (Rebind m o) = begun m o (stands m) refl
    go true (Unbind m) = unbound m (if is_none (stands m) then [] else []) (same_if (is_none (stands m)))
      where
        none_at_all : List (List ℕ)
        none_at_all = []

        same_if : (b : Bool) → (if b then none_at_all else []) ≡ none_at_all
        same_if true = refl
        same_if false = refl
    go true (Lookup m u) = nothing (is_none (stands m))
    go true _ = nothing true
    go false _ = same_stay (filter (λ k. not false) ns) (all_stay ns)

pub names-after : (config : SpaceConfig) (e : Event) (h : History) → IsNumbered h →
    names (place_of config h e ∷ h) ≡ after_ask (place_of config h e).effective (option_and_then (stands_for h) (name_in e.ask)) e.ask (names h)
unfolding after_ask place_of
names-after config e h i = names-push (place_of config h e) h (index-place_of config h e, i)

pub stands-after : (config : SpaceConfig) (e : Event) (h : History) (n : List ℕ) →
    stands_for (place_of config h e ∷ h) n ≡ stands_after (place_of config h e).effective e.ask n (stands_for h n)
unfolding stands_after place_of
stands-after config e h n = stands_for-push (place_of config h e) h n

member_back : (config : SpaceConfig) (es : List Event) (n : List ℕ) → list_any (same_bytes n) (names (places_back config es)) ≡ is_some (stands_for (places_back config es) n)
unfolding places_back
member_back config [] n = ap (list_any (same_bytes n)) names-none ∙ ap is_some (sym (stands_for-none n))
member_back config (e ∷ es) n =
    ap (list_any (same_bytes n)) (names-after config e (places_back config es) (places_back-numbered config es))
    ∙ member-after (place_of config (places_back config es) e).effective e.ask (names (places_back config es)) n (stands_for (places_back config es)) (member_back config es)
    ∙ ap is_some (sym (stands-after config e (places_back config es) n))

-- THE NAMES of a history are those that stand for something.
pub names-member : (config : SpaceConfig) (h : List Event) (n : List ℕ) → list_any (same_bytes n) (names (places config h)) ≡ is_some (stands_for (places config h) n)
unfolding places
names-member config h n = member_back config (reverse h) n

-- No name stands there twice.
once-after : (effective : Bool) (a : Ask) (ns : List (List ℕ)) (stands : List ℕ → Option ObjId) →
    ((m : List ℕ) → list_any (same_bytes m) ns ≡ is_some (stands m)) → AllOnce same_bytes ns →
    AllOnce same_bytes (after_ask effective (option_and_then stands (name_in a)) a ns)
unfolding after_ask
once-after effective a ns stands member once = go effective a
  where
    kept : (test : List ℕ → Bool) → AllOnce same_bytes (filter test ns ++ [])
    kept test = rw append-nil (AllOnce-filter same_bytes test ns once)

    begun : (m : List ℕ) (before : Option ObjId) → stands m ≡ before → AllOnce same_bytes (filter (λ k. not false) ns ++ (if is_none before then m ∷ [] else []))
    begun m None e =
        AllOnce-push same_bytes bytes-equality (filter (λ k. not false) ns) m (AllOnce-filter same_bytes (λ k. not false) ns once)
        (ap (list_any (same_bytes m)) (all_stay ns) ∙ member m ∙ ap is_some e)
    begun m (Some x) e = kept (λ k. not false)

    nothing : (b : Bool) (test : List ℕ → Bool) → AllOnce same_bytes (filter test ns ++ (if b then [] else []))
    nothing true test = kept test
    nothing false test = kept test

    go : (e : Bool) (a : Ask) → AllOnce same_bytes (filter (λ k. not (e && is_unbind_of k a)) ns ++ (if e && is_none (option_and_then stands (name_in a)) then option_to_list (name_bound a) else []))
    go true (Bind m o) = begun m (stands m) refl
    go true (Rebind m o) = begun m (stands m) refl
    go true (Unbind m) = nothing (is_none (stands m)) (λ k. not (same_bytes m k))
    go true (Lookup m u) = nothing (is_none (stands m)) (λ k. not false)
    go true _ = nothing true (λ k. not false)
    go false _ = kept (λ k. not false)

once_back : (config : SpaceConfig) (es : List Event) → AllOnce same_bytes (names (places_back config es))
unfolding places_back
once_back config [] = rw names-none tt
once_back config (e ∷ es) =
    let step = names-after config e (places_back config es) (places_back-numbered config es) in
    let once = once-after (place_of config (places_back config es) e).effective e.ask (names (places_back config es)) (stands_for (places_back config es)) (member_back config es) (once_back config es) in
    let P : List (List ℕ) → Type 0 = λ ns. AllOnce same_bytes ns in
    subst P (sym step) once

pub names-once : (config : SpaceConfig) (h : List Event) → AllOnce same_bytes (names (places config h))
unfolding places
names-once config h = once_back config (reverse h)
