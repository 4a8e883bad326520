-- Laws of bindings: what binding, rebinding and unbinding a name do to what names stand for, to the names in their order, and to how many stand for
-- an object.
use Rattle.std.proofs.Common.{◌≡◌, ℕ, ◌+◌, ◌≤◌, ◌<◌, List, [], ◌∷◌, ◌++◌, refl, ap, sym, subst, ◌∙◌, arith, cond, Option, Some, None, length, suc}
use Rattle.std.specs.Prelude.{Bool, true, false, not, ◌||◌, filter, is_some, if◌then◌else◌}
use Rattle.std.specs.Prelude.{Result, OnErr}
use Rattle.std.specs.Option.{ok_or}
use Rattle.std.specs.List.{list_any}
use Rattle.object_ids.specs.declared.ids.ObjId.{ObjId}
use Rattle.object_ids.specs.Same.{same_id, same_bytes}
use Rattle.history.specs.declared.limits.TheConstants.{MAX_NAMES, MAX_NAME_UNITS}
use Rattle.std.specs.List.{AllByRecursion}
use Rattle.sequence.proofs.Lists.{filter-shorter}
use Rattle.history.specs.Lists.{AllOnce}
use Rattle.history.proofs.ListLemmas.{every-append, every-filter, AllOnce-filter, AllOnce-push}
use Rattle.history.proofs.NameLaws.{bytes-equality, same_bytes-turned}
use Rattle.rmi_registry.specs.declared.binding.Binding.{Binding}
use Rattle.rmi_registry.specs.Bindings.{object_of, is_bound, names_in, count_of, with_binding, without_name, IsRegistry}

-- ---- names

-- A name is bound exactly where it is among the names.
pub bound-named : (bs : List Binding) (n : List ℕ) → is_bound bs n ≡ list_any (same_bytes n) (names_in bs)
bound-named [] n = refl
bound-named (b ∷ bs) n = rw (same_bytes-turned b.name n) (go (same_bytes n b.name) (bound-named bs n))
  where
    go : (s : Bool) → is_bound bs n ≡ list_any (same_bytes n) (names_in bs) →
        is_some (if s then Some b.object else object_of bs n) ≡ (s || list_any (same_bytes n) (names_in bs))
    go true ih = refl
    go false ih = ih

-- What is not bound stands in no binding.
pub without-absent : (bs : List Binding) (n : List ℕ) → is_bound bs n ≡ false → without_name bs n ≡ bs
without-absent [] n h = refl
without-absent (b ∷ bs) n h = go (same_bytes b.name n) h (without-absent bs n)
  where
    go : (s : Bool) → is_some (if s then Some b.object else object_of bs n) ≡ false → (is_bound bs n ≡ false → without_name bs n ≡ bs) → cond (not s) (b ∷ without_name bs n) (without_name bs n) ≡ b ∷ bs
    go true h f = absurd (cc)
    go false h f = ap (λ l. b ∷ l) (f h)

-- A name that stands before others once is not among them.
pub without-rest : (bs : List Binding) (k n : List ℕ) → same_bytes k n ≡ true → list_any (same_bytes k) (names_in bs) ≡ false → without_name bs n ≡ bs
without-rest bs k n h absent =
    let P : List ℕ → Type 0 = λ l. list_any (same_bytes l) (names_in bs) ≡ false in
    without-absent bs n (bound-named bs n ∙ subst P (bytes-equality.equal k n h) absent)

pub names-without : (bs : List Binding) (n : List ℕ) → names_in (without_name bs n) ≡ filter (λ k. not (same_bytes k n)) (names_in bs)
names-without [] n = refl
names-without (b ∷ bs) n = go (not (same_bytes b.name n)) (names-without bs n)
  where
    go : (s : Bool) → names_in (without_name bs n) ≡ filter (λ k. not (same_bytes k n)) (names_in bs) →
        names_in (cond s (b ∷ without_name bs n) (without_name bs n)) ≡ cond s (b.name ∷ filter (λ k. not (same_bytes k n)) (names_in bs)) (filter (λ k. not (same_bytes k n)) (names_in bs))
    go true ih = ap (λ l. b.name ∷ l) ih
    go false ih = ih

pub names-added : (bs cs : List Binding) → names_in (bs ++ cs) ≡ names_in bs ++ names_in cs
names-added [] cs = refl
names-added (b ∷ bs) cs = ap (λ l. b.name ∷ l) (names-added bs cs)

-- REBINDING a name that is there keeps the names.
pub names-rebound : (bs : List Binding) (n : List ℕ) (o : ObjId) → is_bound bs n ≡ true → names_in (with_binding bs n o) ≡ names_in bs
names-rebound [] n o h = absurd (cc)
names-rebound (b ∷ bs) n o h = go (same_bytes b.name n) h (names-rebound bs n o)
  where
    go : (s : Bool) → is_some (if s then Some b.object else object_of bs n) ≡ true → (is_bound bs n ≡ true → names_in (with_binding bs n o) ≡ names_in bs) →
        names_in (if s then record { name = b.name; object = o } ∷ bs else b ∷ with_binding bs n o) ≡ b.name ∷ names_in bs
    go true h f = refl
    go false h f = ap (λ l. b.name ∷ l) (f h)

-- Rebinding a new name binds it.
pub rebound-new : (bs : List Binding) (n : List ℕ) (o : ObjId) → is_bound bs n ≡ false → with_binding bs n o ≡ bs ++ record { name = n; object = o } ∷ []
rebound-new [] n o h = refl
rebound-new (b ∷ bs) n o h = go (same_bytes b.name n) h (rebound-new bs n o)
  where
    go : (s : Bool) → is_some (if s then Some b.object else object_of bs n) ≡ false → (is_bound bs n ≡ false → with_binding bs n o ≡ bs ++ record { name = n; object = o } ∷ []) →
        (if s then record { name = b.name; object = o } ∷ bs else b ∷ with_binding bs n o) ≡ b ∷ (bs ++ record { name = n; object = o } ∷ [])
    go true h f = absurd (cc)
    go false h f = ap (λ l. b ∷ l) (f h)

-- ---- what each registry keeps

pub fresh-registry : IsRegistry []
fresh-registry = record { once = tt; short = tt; few = omega arith }

one_more : (bs : List Binding) (b : Binding) → length (bs ++ b ∷ []) ≡ length bs + 1
one_more [] b = refl
one_more (c ∷ bs) b = let more = one_more bs b in omega arith

-- Binding a name that is not bound, where there is room.
pub registry-added : (bs : List Binding) (n : List ℕ) (o : ObjId) → IsRegistry bs → is_bound bs n ≡ false → length n ≤ MAX_NAME_UNITS → length bs < MAX_NAMES →
    IsRegistry (bs ++ record { name = n; object = o } ∷ [])
registry-added bs n o r absent units room =
    let b : Binding = record { name = n; object = o } in
    let names : names_in (bs ++ b ∷ []) ≡ names_in bs ++ n ∷ [] = names-added bs (b ∷ []) in
    let P : List (List ℕ) → Type 0 = λ l. AllOnce same_bytes l in
    let Q : List (List ℕ) → Type 0 = λ l. AllByRecursion (λ k. length k ≤ MAX_NAME_UNITS) l in
    let more = one_more bs b in record {
      once = subst P (sym names) (AllOnce-push same_bytes bytes-equality (names_in bs) n r.once (sym (bound-named bs n) ∙ absent));
      short = subst Q (sym names) (every-append (λ k. length k ≤ MAX_NAME_UNITS) (names_in bs) (n ∷ []) r.short (units, tt));
      few = omega arith;
    }

length-rebound : (bs : List Binding) (n : List ℕ) (o : ObjId) → is_bound bs n ≡ true → length (with_binding bs n o) ≡ length bs
length-rebound [] n o h = absurd (cc)
length-rebound (b ∷ bs) n o h = go (same_bytes b.name n) h (length-rebound bs n o)
  where
    go : (s : Bool) → is_some (if s then Some b.object else object_of bs n) ≡ true → (is_bound bs n ≡ true → length (with_binding bs n o) ≡ length bs) →
        length (if s then record { name = b.name; object = o } ∷ bs else b ∷ with_binding bs n o) ≡ suc (length bs)
    go true h f = refl
    go false h f = ap suc (f h)

-- Rebinding a name that is bound.
pub registry-rebound : (bs : List Binding) (n : List ℕ) (o : ObjId) → IsRegistry bs → is_bound bs n ≡ true → IsRegistry (with_binding bs n o)
registry-rebound bs n o r bound =
    let names = names-rebound bs n o bound in
    let P : List (List ℕ) → Type 0 = λ l. AllOnce same_bytes l in
    let Q : List (List ℕ) → Type 0 = λ l. AllByRecursion (λ k. length k ≤ MAX_NAME_UNITS) l in
    let same = length-rebound bs n o bound in let few = r.few in record {
      once = subst P (sym names) r.once;
      short = subst Q (sym names) r.short;
      few = omega arith;
    }

-- Rebinding, if a name is bound.
pub registry-replaced : (bs : List Binding) (n : List ℕ) (o : ObjId) → IsRegistry bs → IsRegistry (if is_bound bs n then with_binding bs n o else bs)
registry-replaced bs n o r = go (is_bound bs n) refl
  where
    go : (s : Bool) → is_bound bs n ≡ s → IsRegistry (if s then with_binding bs n o else bs)
    go true h = registry-rebound bs n o r h
    go false h = r

-- Unbinding a name.
pub registry-without : (bs : List Binding) (n : List ℕ) → IsRegistry bs → IsRegistry (without_name bs n)
registry-without bs n r =
    let names = names-without bs n in
    let P : List (List ℕ) → Type 0 = λ l. AllOnce same_bytes l in
    let Q : List (List ℕ) → Type 0 = λ l. AllByRecursion (λ k. length k ≤ MAX_NAME_UNITS) l in
    let fewer = filter-shorter (λ (b : Binding). not (same_bytes b.name n)) bs in let few = r.few in record {
      once = subst P (sym names) (AllOnce-filter same_bytes (λ k. not (same_bytes k n)) (names_in bs) r.once);
      short = subst Q (sym names) (every-filter (λ k. length k ≤ MAX_NAME_UNITS) (λ k. not (same_bytes k n)) (names_in bs) r.short);
      few = omega arith;
    }

pub count-few : (bs : List Binding) (o : ObjId) → IsRegistry bs → count_of bs o ≤ MAX_NAMES
count-few bs o r = let fewer = filter-shorter (λ (b : Binding). same_id b.object o) bs in let few = r.few in omega arith

-- What holds where nothing was found holds at the refusal.
pub missing : {X E P : Type 0} (o : Option X) (e : E) (r : Result X E) → r ≡ ok_or o e → (o ≡ None → P) → OnErr r P
missing {X} {E} {P} None e r h f = subst (λ (q : Result X E). OnErr q P) (sym h) (f refl)
missing {X} {E} {P} (Some x) e r h f = subst (λ (q : Result X E). OnErr q P) (sym h) tt
