-- How many names stand for an object, from one event to the next.
use Rattle.std.proofs.Common.{◌≡◌, ℕ, ◌+◌, List, [], ◌∷◌, ◌++◌, length, refl, ap, sym, subst, ◌∙◌, arith, cond, Option, Some, None, append-nil, length-append}
use Rattle.std.specs.Prelude.{Bool, true, false, ◌&&◌, ◌||◌, not, filter, is_none, is_some, option_and_then, if◌then◌else◌}
use Rattle.std.specs.List.{list_any}
use Rattle.std.proofs.lemmas.List.Elements.{filter-append}
use Rattle.sequence.proofs.Lists.{all_stay}
use Rattle.object_ids.specs.declared.ids.ObjId.{ObjId}
use Rattle.object_ids.specs.Same.{same_id, same_bytes}
use Rattle.history.specs.Lists.{AllOnce, option_any}
use Rattle.history.specs.declared.asks.SpaceConfig.{SpaceConfig}
use Rattle.history.specs.declared.asks.Event.{Event}
use Rattle.history.specs.declared.asks.Ask.{Ask}
use Rattle.history.specs.declared.asks.Ask.TheVariants.{Bind, Rebind, Unbind, Lookup}
use Rattle.history.specs.Names.{name_in, object_bound, is_name_change, is_name_of, names, names_of, stands_for}
use Rattle.history.specs.Table.{is_effective, place_of, places}
use Rattle.history.proofs.ListLemmas.{IsEquality, every-always, filter-same, filter-filter, and_true, and_false}
use Rattle.history.proofs.NameLaws.{after_ask, stands_after, names-after, stands-after, names-member, names-once, bytes-equality}
use Rattle.history.proofs.Partitions.{one_if}
use Rattle.history.proofs.TableLaws.{places-numbered}

-- ---- an ask's names

-- This is the object.
abbrev pub is_object : ObjId → Option ObjId → Bool
is_object o s = option_any (λ x. same_id x o) s

-- One more name stands for the object after the ask.
abbrev pub names_more : Bool → Ask → ObjId → Bool
names_more effective a o = effective && is_object o (object_bound a)

-- One name less stands for it: the ask's name, which stood for this.
abbrev pub names_less : Bool → Option ObjId → Ask → ObjId → Bool
names_less effective stood a o = effective && (is_name_change a && is_object o stood)

-- ---- lists

-- Two tests that agree but for one item, on a list where no item stands twice.
pub count-but : {X : Type 0} (same : X → X → Bool) → IsEquality same → (m : X) (p q : X → Bool) → ((x : X) → same m x ≡ false → q x ≡ p x) → (xs : List X) → AllOnce same xs →
    length (filter q xs) + one_if (list_any (same m) xs && p m) ≡ length (filter p xs) + one_if (list_any (same m) xs && q m)
unfolding one_if
count-but same e m p q f [] once = refl
count-but {X} same e m p q f (x ∷ xs) once = go (same m x) refl (list_any (same m) xs) refl (count-but same e m p q f xs once.1)
  where
    counted : (test : X → Bool) (b : Bool) → length (cond b (x ∷ filter test xs) (filter test xs)) ≡ length (filter test xs) + one_if b
    counted test true = omega arith
    counted test false = omega arith

    go : (a : Bool) → same m x ≡ a → (b : Bool) → list_any (same m) xs ≡ b → length (filter q xs) + one_if (b && p m) ≡ length (filter p xs) + one_if (b && q m) →
        length (cond (q x) (x ∷ filter q xs) (filter q xs)) + one_if ((a || b) && p m) ≡ length (cond (p x) (x ∷ filter p xs) (filter p xs)) + one_if ((a || b) && q m)
    go true s true t ih = absurd (let P : X → Type 0 = λ z. list_any (same z) xs ≡ false in let away : list_any (same m) xs ≡ false = subst P (sym (e.equal m x s)) once.0 in cc)
    go true s false t ih =
        let a = counted q (q x) in let b = counted p (p x) in
        let c : one_if (q x) ≡ one_if (q m) = ap (λ z. one_if (q z)) (sym (e.equal m x s)) in
        let d : one_if (p x) ≡ one_if (p m) = ap (λ z. one_if (p z)) (sym (e.equal m x s)) in
        omega (arith, a, b, c, d, ih)
    go false s true t ih =
        let a = counted q (q x) in let b = counted p (p x) in let c : one_if (q x) ≡ one_if (p x) = ap one_if (f x s) in omega (arith, a, b, c, ih)
    go false s false t ih =
        let a = counted q (q x) in let b = counted p (p x) in let c : one_if (q x) ≡ one_if (p x) = ap one_if (f x s) in omega (arith, a, b, c, ih)

-- ---- one more event

counted-after : (effective : Bool) (a : Ask) (ns : List (List ℕ)) (stands : List ℕ → Option ObjId) (o : ObjId) → AllOnce same_bytes ns → ((m : List ℕ) → list_any (same_bytes m) ns ≡ is_some (stands m)) →
    length (filter (λ n. is_object o (stands_after effective a n (stands n))) (after_ask effective (option_and_then stands (name_in a)) a ns)) + one_if (names_less effective (option_and_then stands (name_in a)) a o)
    ≡ length (filter (λ n. is_object o (stands n)) ns) + one_if (names_more effective a o)
unfolding after_ask stands_after one_if
counted-after effective a ns stands o once member = go effective a
  where
    before : List ℕ → Bool
    before n = is_object o (stands n)

    -- nothing changes
    still : (rest : List (List ℕ)) → rest ≡ [] → length (filter before (filter (λ n. not false) ns ++ rest)) + 0 ≡ length (filter before ns) + 0
    still rest e = ap (λ l. length (filter before l) + 0) (ap (λ l. filter (λ n. not false) ns ++ l) e ∙ whole (filter (λ n. not false) ns) ∙ all_stay ns)
      where
        whole : (xs : List (List ℕ)) → xs ++ [] ≡ xs
        whole xs = rw append-nil refl

    if_none : (b : Bool) → ◌≡◌ {A = List (List ℕ)} (if b then [] else []) []
    if_none true = refl
    if_none false = refl

    -- the name stands for x then
    now_for : List ℕ → ObjId → List ℕ → Bool
    now_for m x n = is_object o (if same_bytes m n || false then Some x else stands n)

    other : (m : List ℕ) (x : ObjId) (n : List ℕ) → same_bytes m n ≡ false → now_for m x n ≡ before n
    other m x n d = ap (λ b. is_object o (if b || false then Some x else stands n)) d

    own : (m : List ℕ) (x : ObjId) → now_for m x m ≡ same_id x o
    own m x = ap (λ b. is_object o (if b || false then Some x else stands m)) (bytes-equality.self m)

    bound : (m : List ℕ) (x : ObjId) (s : Option ObjId) → stands m ≡ s →
        length (filter (now_for m x) (filter (λ n. not false) ns ++ (if is_none s then m ∷ [] else []))) + one_if (is_object o s) ≡ length (filter before ns) + one_if (same_id x o)
    bound m x None e =
        let but = count-but same_bytes bytes-equality m before (now_for m x) (other m x) ns once in
        let away : list_any (same_bytes m) ns ≡ false = member m ∙ ap is_some e in
        let c : one_if (list_any (same_bytes m) ns && before m) ≡ 0 = ap (λ b. one_if (b && before m)) away in
        let d : one_if (list_any (same_bytes m) ns && now_for m x m) ≡ 0 = ap (λ b. one_if (b && now_for m x m)) away in
        let split = filter-append (now_for m x) (filter (λ n. not false) ns) (m ∷ []) in
        let long = length-append (filter (now_for m x) (filter (λ n. not false) ns)) (filter (now_for m x) (m ∷ [])) in
        let stay = ap (λ l. length (filter (now_for m x) l)) (all_stay ns) in
        let last : length (filter (now_for m x) (m ∷ [])) ≡ one_if (same_id x o) = single (now_for m x m) ∙ ap one_if (own m x) in
        let whole = ap length split in
        omega (arith, but, c, d, long, stay, last, whole)
      where
        single : (b : Bool) → length (cond b (m ∷ []) []) ≡ one_if b
        single true = refl
        single false = refl
    bound m x (Some y) e =
        let but = count-but same_bytes bytes-equality m before (now_for m x) (other m x) ns once in
        let there : list_any (same_bytes m) ns ≡ true = member m ∙ ap is_some e in
        let c : one_if (list_any (same_bytes m) ns && before m) ≡ one_if (same_id y o) = ap (λ b. one_if (b && before m)) there ∙ ap (λ t. one_if (is_object o t)) e in
        let d : one_if (list_any (same_bytes m) ns && now_for m x m) ≡ one_if (same_id x o) = ap (λ b. one_if (b && now_for m x m)) there ∙ ap one_if (own m x) in
        let stay = ap (λ l. length (filter (now_for m x) l)) (whole (filter (λ n. not false) ns) ∙ all_stay ns) in
        omega (arith, but, c, d, stay)
      where
        whole : (xs : List (List ℕ)) → xs ++ [] ≡ xs
        whole xs = rw append-nil refl

    -- the name stands for nothing then
    left : List ℕ → List ℕ → Bool
    left m n = is_object o (if false || same_bytes m n then None else stands n)

    staying : List ℕ → List ℕ → Bool
    staying m n = left m n && not (same_bytes m n)

    other_left : (m n : List ℕ) → same_bytes m n ≡ false → staying m n ≡ before n
    other_left m n d = ap (λ b. is_object o (if false || b then None else stands n) && not b) d ∙ and_true (before n)

    own_left : (m : List ℕ) → staying m m ≡ false
    own_left m = ap (λ b. left m m && not b) (bytes-equality.self m) ∙ and_false (left m m)

    unbound : (m : List ℕ) (s : Option ObjId) → stands m ≡ s →
        length (filter (left m) (filter (λ n. not (same_bytes m n)) ns ++ (if is_none s then [] else []))) + one_if (is_object o s) ≡ length (filter before ns) + 0
    unbound m s e =
        let but = count-but same_bytes bytes-equality m before (staying m) (other_left m) ns once in
        let c : one_if (list_any (same_bytes m) ns && before m) ≡ one_if (is_object o s) = ap (λ b. one_if (b && before m)) (member m ∙ ap is_some e) ∙ ap (λ t. one_if (is_some s && is_object o t)) e ∙ same s in
        let d : one_if (list_any (same_bytes m) ns && staying m m) ≡ 0 = ap (λ b. one_if (list_any (same_bytes m) ns && b)) (own_left m) ∙ ap one_if (and_false (list_any (same_bytes m) ns)) in
        let stay = ap (λ l. length (filter (left m) l)) (ap (λ l. filter (λ n. not (same_bytes m n)) ns ++ l) (if_none (is_none s)) ∙ whole (filter (λ n. not (same_bytes m n)) ns)) in
        let both = ap length (filter-filter (left m) (λ n. not (same_bytes m n)) ns) in
        omega (arith, but, c, d, stay, both)
      where
        whole : (xs : List (List ℕ)) → xs ++ [] ≡ xs
        whole xs = rw append-nil refl

        same : (t : Option ObjId) → one_if (is_some t && is_object o t) ≡ one_if (is_object o t)
        same None = refl
        same (Some y) = refl

    go : (v : Bool) (a : Ask) →
        length (filter (λ n. is_object o (stands_after v a n (stands n))) (after_ask v (option_and_then stands (name_in a)) a ns)) + one_if (names_less v (option_and_then stands (name_in a)) a o)
        ≡ length (filter (λ n. is_object o (stands n)) ns) + one_if (names_more v a o)
    go true (Bind m x) = bound m x (stands m) refl
    go true (Rebind m x) = bound m x (stands m) refl
    go true (Unbind m) = unbound m (stands m) refl
    go true (Lookup m u) = still (if is_none (stands m) then [] else []) (if_none (is_none (stands m)))
    go true _ = still [] refl
    go false _ = still [] refl

-- HOW MANY NAMES stand for an object after one more event.
pub names-counted : (config : SpaceConfig) (events : List Event) (e : Event) (o : ObjId) →
    length (names_of (place_of config (places config events) e ∷ places config events) o)
    + one_if (names_less (is_effective config (places config events) e.by e.ask) (option_and_then (stands_for (places config events)) (name_in e.ask)) e.ask o)
    ≡ length (names_of (places config events) o) + one_if (names_more (is_effective config (places config events) e.by e.ask) e.ask o)
unfolding names_of place_of
names-counted config events e o =
    ap (λ l. length (filter (is_name_of (place_of config (places config events) e ∷ places config events) o) l) + one_if less) (names-after config e (places config events) (places-numbered config events))
    ∙ ap (λ l. length l + one_if less) (filter-same (is_name_of (place_of config (places config events) e ∷ places config events) o)
    (λ n. is_object o (stands_after (is_effective config (places config events) e.by e.ask) e.ask n (stands_for (places config events) n)))
    (after_ask (is_effective config (places config events) e.by e.ask) (option_and_then (stands_for (places config events)) (name_in e.ask)) e.ask (names (places config events)))
    (every-always _ (λ n. ap (is_object o) (stands-after config e (places config events) n))
    (after_ask (is_effective config (places config events) e.by e.ask) (option_and_then (stands_for (places config events)) (name_in e.ask)) e.ask (names (places config events)))))
    ∙ counted-after (is_effective config (places config events) e.by e.ask) e.ask (names (places config events)) (stands_for (places config events)) o (names-once config events) (names-member config events)
  where
    less : Bool
    less = names_less (is_effective config (places config events) e.by e.ask) (option_and_then (stands_for (places config events)) (name_in e.ask)) e.ask o

-- Other asks leave it.
pub names-still : (config : SpaceConfig) (events : List Event) (e : Event) → is_name_change e.ask ≡ false → (o : ObjId) →
    length (names_of (place_of config (places config events) e ∷ places config events) o) ≡ length (names_of (places config events) o)
unfolding one_if
names-still config events e still o =
    let step = names-counted config events e o in
    let less : one_if (names_less (is_effective config (places config events) e.by e.ask) (option_and_then (stands_for (places config events)) (name_in e.ask)) e.ask o) ≡ 0 =
    ap (λ b. one_if (is_effective config (places config events) e.by e.ask && (b && is_object o (option_and_then (stands_for (places config events)) (name_in e.ask))))) still ∙ ap one_if (and_false (is_effective config (places config events) e.by e.ask)) in
    let more : one_if (names_more (is_effective config (places config events) e.by e.ask) e.ask o) ≡ 0 =
    ap (λ s. one_if (is_effective config (places config events) e.by e.ask && is_object o s)) (unbound e.ask still) ∙ ap one_if (and_false (is_effective config (places config events) e.by e.ask)) in
    omega (arith, step, less, more)
  where
    unbound : (a : Ask) → is_name_change a ≡ false → object_bound a ≡ None
    unbound (Bind n x) h = absurd (cc)
    unbound (Rebind n x) h = absurd (cc)
    unbound _ h = refl
