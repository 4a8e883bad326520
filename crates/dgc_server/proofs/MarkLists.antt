-- Few objects in a list: what stands at the place of one, and what is left as some go.
use Rattle.std.proofs.Common.{◌≡◌, ℕ, ◌+◌, ◌<◌, ◌≤◌, List, [], ◌∷◌, ◌++◌, refl, ap, sym, subst, ◌∙◌, arith, cond, length, map, take, drop, get_or, set, suc, zero, one-add, Some}
use Rattle.std.specs.Prelude.{Bool, true, false, ◌||◌, not, is_some, filter, nat_lt, if◌then◌else◌}
use Rattle.std.specs.List.{position_or_len}
use Rattle.std.specs.Map.{lookup}
use Rattle.std.specs.List.Retain.{RetainsInTurn}
use Rattle.std.proofs.lemmas.Bool.{and_parts}
use Rattle.sequence.proofs.Lists.{drop-at}
use Rattle.indexmap.specs.IndexMap.{insert_entry, shift_remove_entry}
use Rattle.object_ids.specs.declared.ids.ObjId.{ObjId}
use Rattle.object_ids.specs.Same.{same_id, same_key}
use Rattle.object_ids.proofs.Exact.{same_id-equal, same_key-same}
use Rattle.dgc_server.specs.declared.numbers.Numbers.{Numbers}
use Rattle.dgc_server.specs.Numbers.{strong_part}
use Rattle.dgc_server.specs.Entry.{ObjectEntry, object_entry, object_entries, numbers_of, has_object, with_numbers, has_strong, strong_only, tenure_forgotten}
use Rattle.dgc_server.specs.StandsForCalls.{each_once}
use Rattle.dgc_server.proofs.MarkLaws.{key-turned, has-looked_up, others-all}

-- ---- the place of an object

-- The place of an object in a list, and where it is not there the length.
abbrev pub place_of : ObjId → List (ObjId × Numbers) → ℕ
place_of o ps = position_or_len (λ (p : ObjId × Numbers). same_id p.0 o) ps

numbers-place : (o : ObjId) (ps : List (ObjId × Numbers)) (d : ObjId × Numbers) → place_of o ps < length ps → (get_or ps (place_of o ps) d).1 ≡ numbers_of (object_entries ps) o
numbers-place o [] d h = absurd (omega arith)
numbers-place o (p ∷ ps) d h = go (same_id p.0 o) h (numbers-place o ps d)
  where
    go : (b : Bool) → cond (not b) (1 + place_of o ps) 0 < suc (length ps) → (place_of o ps < length ps → (get_or ps (place_of o ps) d).1 ≡ numbers_of (object_entries ps) o) →
        (get_or (p ∷ ps) (cond (not b) (1 + place_of o ps) 0) d).1 ≡ (if b then p.1 else numbers_of (object_entries ps) o)
    go true l rest = refl
    go false l rest = ap (λ n. (get_or (p ∷ ps) n d).1) (one-add (place_of o ps)) ∙ rest (omega arith)

pub numbers-at : (o : ObjId) (ps : List (ObjId × Numbers)) (i : ℕ) (d : ObjId × Numbers) → i ≡ place_of o ps → i < length ps → (get_or ps i d).1 ≡ numbers_of (object_entries ps) o
numbers-at o ps i d e h = ap (λ n. (get_or ps n d).1) e ∙ numbers-place o ps d (omega arith)

pub none-at : (o : ObjId) (ps : List (ObjId × Numbers)) → length ps ≤ place_of o ps → has_object (object_entries ps) o ≡ false
none-at o [] h = refl
none-at o (p ∷ ps) h = go (same_id p.0 o) h (none-at o ps)
  where
    go : (b : Bool) → suc (length ps) ≤ cond (not b) (1 + place_of o ps) 0 → (length ps ≤ place_of o ps → has_object (object_entries ps) o ≡ false) → (b || has_object (object_entries ps) o) ≡ false
    go true l rest = absurd (omega arith)
    go false l rest = rest (omega arith)

-- An object that is there has a place in the list.
pub within-there : (o : ObjId) (ps : List (ObjId × Numbers)) → has_object (object_entries ps) o ≡ true → place_of o ps < length ps
within-there o [] h = absurd (cc)
within-there o (p ∷ ps) h = go (same_id p.0 o) h (within-there o ps)
  where
    go : (b : Bool) → (b || has_object (object_entries ps) o) ≡ true → (has_object (object_entries ps) o ≡ true → place_of o ps < length ps) → cond (not b) (1 + place_of o ps) 0 < suc (length ps)
    go true f rest = omega arith
    go false f rest = (let l = rest f in omega arith)

some-lt : (n : ℕ) → nat_lt 0 (suc n) ≡ true
some-lt n = grind arith

next-lt : (a b : ℕ) → nat_lt (suc a) (suc b) ≡ nat_lt a b
next-lt a b = grind arith

pub there-at : (o : ObjId) (ps : List (ObjId × Numbers)) → nat_lt (place_of o ps) (length ps) ≡ has_object (object_entries ps) o
there-at o [] = refl
there-at o (p ∷ ps) = go (same_id p.0 o) (there-at o ps)
  where
    go : (b : Bool) → nat_lt (place_of o ps) (length ps) ≡ has_object (object_entries ps) o → nat_lt (cond (not b) (1 + place_of o ps) 0) (suc (length ps)) ≡ (b || has_object (object_entries ps) o)
    go true rest = some-lt (length ps)
    go false rest = ap (λ n. nat_lt n (suc (length ps))) (one-add (place_of o ps)) ∙ next-lt (place_of o ps) (length ps) ∙ rest

replaced-place : (o : ObjId) (numbers : Numbers) (ps : List (ObjId × Numbers)) → place_of o ps < length ps →
    object_entries (set ps (place_of o ps) (o, numbers)) ≡ with_numbers o numbers (object_entries ps)
replaced-place o numbers [] h = absurd (omega arith)
replaced-place o numbers (p ∷ ps) h = go (same_id p.0 o) refl h (replaced-place o numbers ps)
  where
    go : (b : Bool) → same_id p.0 o ≡ b → cond (not b) (1 + place_of o ps) 0 < suc (length ps) →
        (place_of o ps < length ps → object_entries (set ps (place_of o ps) (o, numbers)) ≡ with_numbers o numbers (object_entries ps)) →
        object_entries (set (p ∷ ps) (cond (not b) (1 + place_of o ps) 0) (o, numbers))
        ≡ (if b then record { object = p.0; numbers = numbers } ∷ object_entries ps else object_entry p ∷ with_numbers o numbers (object_entries ps))
    go true same l rest = ap (λ (q : ObjId). record { object = q; numbers = numbers } ∷ object_entries ps) (sym (same_id-equal p.0 o same))
    go false same l rest = ap (λ n. object_entries (set (p ∷ ps) n (o, numbers))) (one-add (place_of o ps)) ∙ ap (λ l. object_entry p ∷ l) (rest (omega arith))

pub replaced-at : (o : ObjId) (numbers : Numbers) (ps : List (ObjId × Numbers)) (i : ℕ) → i ≡ place_of o ps → i < length ps →
    object_entries (set ps i (o, numbers)) ≡ with_numbers o numbers (object_entries ps)
replaced-at o numbers ps i e h = ap (λ n. object_entries (set ps n (o, numbers))) e ∙ replaced-place o numbers ps (omega arith)

pub appended : (o : ObjId) (numbers : Numbers) (ps : List (ObjId × Numbers)) → has_object (object_entries ps) o ≡ false →
    object_entries (ps ++ (o, numbers) ∷ []) ≡ with_numbers o numbers (object_entries ps)
appended o numbers [] h = refl
appended o numbers (p ∷ ps) h = go (same_id p.0 o) h (appended o numbers ps)
  where
    go : (b : Bool) → (b || has_object (object_entries ps) o) ≡ false →
        (has_object (object_entries ps) o ≡ false → object_entries (ps ++ (o, numbers) ∷ []) ≡ with_numbers o numbers (object_entries ps)) →
        object_entry p ∷ object_entries (ps ++ (o, numbers) ∷ []) ≡ (if b then record { object = p.0; numbers = numbers } ∷ object_entries ps else object_entry p ∷ with_numbers o numbers (object_entries ps))
    go true f rest = absurd (cc)
    go false f rest = ap (λ l. object_entry p ∷ l) (rest f)

-- The place of an object behind those that were looked at.
pub place-next : (o : ObjId) (ps : List (ObjId × Numbers)) (i : ℕ) (d : ObjId × Numbers) → i < length ps → same_id (get_or ps i d).0 o ≡ false →
    i + place_of o (drop i ps) ≡ i + 1 + place_of o (drop (i + 1) ps)
place-next o ps i d h f =
    let one : drop i ps ≡ get_or ps i d ∷ drop (i + 1) ps = drop-at ps i d h in
    let other : place_of o (drop i ps) ≡ 1 + place_of o (drop (i + 1) ps) = ap (place_of o) one ∙ ap (λ b. cond (not b) (1 + place_of o (drop (i + 1) ps)) 0) f in
    omega (arith, other)

pub place-here : (o : ObjId) (ps : List (ObjId × Numbers)) (i : ℕ) (d : ObjId × Numbers) → i < length ps → same_id (get_or ps i d).0 o ≡ true → place_of o (drop i ps) ≡ 0
place-here o ps i d h f = ap (place_of o) (drop-at ps i d h) ∙ ap (λ b. cond (not b) (1 + place_of o (drop (i + 1) ps)) 0) f

-- ---- all objects

pub counted-entries : (q : Numbers → Bool) (ps : List (ObjId × Numbers)) → length (filter (λ (p : ObjId × Numbers). q p.1) ps) ≡ length (filter (λ (e : ObjectEntry). q e.numbers) (object_entries ps))
counted-entries q [] = refl
counted-entries q (p ∷ ps) = go (q p.1) (counted-entries q ps)
  where
    go : (b : Bool) → length (filter (λ (p : ObjId × Numbers). q p.1) ps) ≡ length (filter (λ (e : ObjectEntry). q e.numbers) (object_entries ps)) →
        length (cond b (p ∷ filter (λ (p : ObjId × Numbers). q p.1) ps) (filter (λ (p : ObjId × Numbers). q p.1) ps))
        ≡ length (cond b (object_entry p ∷ filter (λ (e : ObjectEntry). q e.numbers) (object_entries ps)) (filter (λ (e : ObjectEntry). q e.numbers) (object_entries ps)))
    go true rest = ap suc rest
    go false rest = rest

-- What `retain_mut` leaves where the closure keeps the objects of strong cleans, and of them the strong cleans' numbers.
module _ {F : Type 0} (T : F → ObjId × Numbers → Bool → F → ObjId × Numbers → Type 0) (f : F)
    (says : (p : ObjId × Numbers) (b : Bool) (g : F) (q : ObjId × Numbers) → T f p b g q → (b ≡ is_some p.1.strong) × (g ≡ f) × (q ≡ (p.0, strong_part p.1))) where
  pub tenure-in-turn : (ps kept : List (ObjId × Numbers)) → RetainsInTurn T f ps kept → object_entries kept ≡ tenure_forgotten (object_entries ps)
  tenure-in-turn [] kept h = ap object_entries h
  tenure-in-turn (p ∷ ps) kept h =
      let s = says p h.0 h.1 h.2 h.3 in
      let rest = tenure-in-turn ps h.4 (let P : F → Type 0 = λ g. RetainsInTurn T g ps h.4 in subst P s.1 h.5) in
      ap object_entries h.6 ∙ ap (λ b. object_entries (cond b (h.2 ∷ h.4) h.4)) s.0 ∙ ap (λ q. object_entries (cond (is_some p.1.strong) (q ∷ h.4) h.4)) s.2 ∙ go (is_some p.1.strong) h.4 rest
    where
      go : (b : Bool) (l : List (ObjId × Numbers)) → object_entries l ≡ tenure_forgotten (object_entries ps) →
          object_entries (cond b ((p.0, strong_part p.1) ∷ l) l) ≡ map strong_only (cond b (object_entry p ∷ filter has_strong (object_entries ps)) (filter has_strong (object_entries ps)))
      go true l r = ap (λ l. record { object = p.0; numbers = strong_part p.1 } ∷ l) r
      go false l r = r

-- ---- a map that lets an object go

-- What is left where the object is taken out once, if it is gone then.
pub taken-out : (o : ObjId) (ps : List (ObjId × Numbers)) → is_some (lookup (same_key o) (shift_remove_entry (same_key o) ps)) ≡ false →
    object_entries (shift_remove_entry (same_key o) ps) ≡ filter (λ (e : ObjectEntry). not (same_id e.object o)) (object_entries ps)
taken-out o [] h = refl
taken-out o (p ∷ ps) h = go (same_key o p.0) refl h (taken-out o ps)
  where
    others : List ObjectEntry
    others = filter (λ (e : ObjectEntry). not (same_id e.object o)) (object_entries ps)

    rest : List (ObjId × Numbers)
    rest = shift_remove_entry (same_key o) ps

    as_test : (b : Bool) → same_key o p.0 ≡ b → cond (not b) (object_entry p ∷ others) others ≡ cond (not (same_id p.0 o)) (object_entry p ∷ others) others
    as_test b same = ap (λ t. cond (not t) (object_entry p ∷ others) others) (sym same ∙ key-turned o p.0)

    go : (b : Bool) → same_key o p.0 ≡ b → is_some (lookup (same_key o) (cond b ps (p ∷ rest))) ≡ false → (is_some (lookup (same_key o) rest) ≡ false → object_entries rest ≡ others) →
        object_entries (cond b ps (p ∷ rest)) ≡ cond (not (same_id p.0 o)) (object_entry p ∷ others) others
    go true same f left = sym (others-all o (object_entries ps) (sym (has-looked_up ps o) ∙ f)) ∙ as_test true same
    go false same f left = ap (λ l. object_entry p ∷ l) (left (ap (λ b. is_some (cond b (Some p.1) (lookup (same_key o) rest))) (sym same) ∙ f)) ∙ as_test false same

-- ---- a map that takes in a list

other-at : (o : ObjId) (ps : List (ObjId × Numbers)) (i : ℕ) (d : ObjId × Numbers) → i < length ps → has_object (object_entries ps) o ≡ false → same_id (get_or ps i d).0 o ≡ false
other-at o [] i d l h = absurd (omega arith)
other-at o (p ∷ ps) zero d l h = go (same_id p.0 o) h
  where
    go : (b : Bool) → (b || has_object (object_entries ps) o) ≡ false → b ≡ false
    go true f = absurd (cc)
    go false f = refl
other-at o (p ∷ ps) (suc i) d l h = other-at o ps i d (omega arith) (go (same_id p.0 o) h)
  where
    go : (b : Bool) → (b || has_object (object_entries ps) o) ≡ false → has_object (object_entries ps) o ≡ false
    go true f = absurd (cc)
    go false f = f

-- The next object of a list is new to a map of those before it.
pub inserted-next : (ps : List (ObjId × Numbers)) (i : ℕ) (d : ObjId × Numbers) → i < length ps → each_once (object_entries ps) ≡ true →
    insert_entry same_key (take i ps) (get_or ps i d).0 (get_or ps i d).1 ≡ take (suc i) ps
inserted-next [] i d l h = absurd (omega arith)
inserted-next (p ∷ ps) zero d l h = refl
inserted-next (p ∷ ps) (suc i) d l h =
    let x = get_or ps i d in
    ap (λ b. if b then (p.0, x.1) ∷ take i ps else p ∷ insert_entry same_key (take i ps) x.0 x.1) (same_key-same x.0 p.0 ∙ other-at p.0 ps i d (omega arith) (absent (has_object (object_entries ps) p.0) two.0))
    ∙ ap (λ l. p ∷ l) (inserted-next ps i d (omega arith) two.1)
  where
    absent : (b : Bool) → not b ≡ true → b ≡ false
    absent true f = absurd (cc)
    absent false f = refl

    two : (not (has_object (object_entries ps) p.0) ≡ true) × (each_once (object_entries ps) ≡ true)
    two = let parts = and_parts (not (has_object (object_entries ps) p.0)) (each_once (object_entries ps)) h in (parts.0, parts.1)
