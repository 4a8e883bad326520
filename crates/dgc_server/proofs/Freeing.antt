-- The objects that clients hold whose leases end as time passes.
use Rattle.std.proofs.Common.{◌≡◌, ℕ, ◌≤◌, ◌<◌, List, [], ◌∷◌, ◌++◌, refl, ap, sym, ◌∙◌, cond, map, flat_map, arith, Ok, Err}
use Rattle.std.specs.Prelude.{Bool, true, false, ◌&&◌, ◌||◌, not, filter, nat_lt, Result, IfOk, if◌then◌else◌}
use Rattle.std.specs.List.{list_any, list_all, AllByRecursion}
use Rattle.std.proofs.lemmas.Bool.{and_parts, not-true}
use Rattle.std.proofs.lemmas.List.Folds.{list_any-append}
use Rattle.object_ids.specs.declared.ids.ObjId.{ObjId}
use Rattle.object_ids.specs.Same.{same_id}
use Rattle.object_ids.proofs.Exact.{same_id-equal}
use Rattle.history.specs.declared.calls.Call.{Call}
use Rattle.history.specs.Leases.{is_held}
use Rattle.history.proofs.Equalities.{same_id-turned}
use Rattle.dgc_server.specs.Numbers.{is_dirty_highest}
use Rattle.dgc_server.specs.Entry.{ObjectEntry, Entry, numbers_of, has_object, dirty_in, dirty_objects, entry_holds}
use Rattle.dgc_server.specs.StandsForCalls.{LeaseTable, StandsFor, each_once, is_in_order}
use Rattle.dgc_server.specs.HolderIndex.{ends_between, freed_of, IsSettled}
use Rattle.dgc_server.proofs.Objects.{no_object}
use Rattle.dgc_server.proofs.IndexLaws.{same-lt}
use Rattle.dgc_server.proofs.Outputs.{held-entries}

-- ---- an object is among them

among-dirty : (es : List ObjectEntry) (o : ObjId) → each_once es ≡ true → list_any (same_id o) (dirty_objects es) ≡ dirty_in es o
among-dirty [] o h = refl
among-dirty (e ∷ es) o h = go (is_dirty_highest e.numbers) (same_id e.object o) refl refl (among-dirty es o two.1)
  where
    two : (not (has_object es e.object) ≡ true) × (each_once es ≡ true)
    two = let parts = and_parts (not (has_object es e.object)) (each_once es) h in (parts.0, parts.1)

    go : (a b : Bool) → is_dirty_highest e.numbers ≡ a → same_id e.object o ≡ b → list_any (same_id o) (dirty_objects es) ≡ dirty_in es o →
        list_any (same_id o) (map (λ (x : ObjectEntry). x.object) (cond a (e ∷ filter (λ x. is_dirty_highest x.numbers) es) (filter (λ x. is_dirty_highest x.numbers) es)))
        ≡ is_dirty_highest (if b then e.numbers else numbers_of es o)
    go true true p q rest = ap (λ b. b || list_any (same_id o) (dirty_objects es)) (same_id-turned o e.object ∙ q) ∙ sym p
    go true false p q rest = ap (λ b. b || list_any (same_id o) (dirty_objects es)) (same_id-turned o e.object ∙ q) ∙ rest
    go false true p q rest =
        rest ∙ ap is_dirty_highest (ap (numbers_of es) (sym (same_id-equal e.object o q)) ∙ no_object es e.object (not-true (has_object es e.object) two.0)) ∙ sym p
    go false false p q rest = rest

among-one : (from to : ℕ) (e : Entry) (o : ObjId) → each_once e.objects ≡ true → list_any (same_id o) (freed_of from to e) ≡ (ends_between from to e && dirty_in e.objects o)
among-one from to e o h = go (ends_between from to e)
  where
    go : (b : Bool) → list_any (same_id o) (if b then dirty_objects e.objects else []) ≡ (b && dirty_in e.objects o)
    go true = among-dirty e.objects o h
    go false = refl

-- Some client holds the object whose lease ends.
abbrev some_ends : ℕ → ℕ → ObjId → List Entry → Bool
some_ends from to o es = list_any (λ e. ends_between from to e && dirty_in e.objects o) es

among-all : (from to : ℕ) (es : List Entry) (o : ObjId) → list_all (λ e. each_once e.objects) es ≡ true → list_any (same_id o) (flat_map (freed_of from to) es) ≡ some_ends from to o es
among-all from to [] o h = refl
among-all from to (e ∷ es) o h =
    let two = and_parts (each_once e.objects) (list_all (λ e. each_once e.objects) es) h in
    list_any-append (same_id o) (freed_of from to e) (flat_map (freed_of from to) es)
    ∙ ap (λ b. b || list_any (same_id o) (flat_map (freed_of from to) es)) (among-one from to e o two.0)
    ∙ ap (λ b. (ends_between from to e && dirty_in e.objects o) || b) (among-all from to es o two.1)

-- ---- who held it and holds it no more

ended-whole : (m t : ℕ) (es : List Entry) (o : ObjId) → list_any (entry_holds m o) es ≡ true → list_any (entry_holds t o) es ≡ false → some_ends m t o es ≡ true
ended-whole m t [] o h n = absurd (cc)
ended-whole m t (e ∷ es) o h n = go (nat_lt m e.until) (nat_lt t e.until) (dirty_in e.objects o) h n (ended-whole m t es o)
  where
    go : (a b c : Bool) → ((a && c) || list_any (entry_holds m o) es) ≡ true → ((b && c) || list_any (entry_holds t o) es) ≡ false →
        (list_any (entry_holds m o) es ≡ true → list_any (entry_holds t o) es ≡ false → some_ends m t o es ≡ true) → (((a && not b) && c) || some_ends m t o es) ≡ true
    go true true true p q rest = absurd (cc)
    go true true false p q rest = rest p q
    go true false true p q rest = refl
    go true false false p q rest = rest p q
    go false true true p q rest = absurd (cc)
    go false true false p q rest = rest p q
    go false false c p q rest = rest p q

ended-held : (m t : ℕ) (es : List Entry) (o : ObjId) → some_ends m t o es ≡ true → list_any (entry_holds m o) es ≡ true
ended-held m t [] o h = h
ended-held m t (e ∷ es) o h = go (nat_lt m e.until) (nat_lt t e.until) (dirty_in e.objects o) h (ended-held m t es o)
  where
    go : (a b c : Bool) → (((a && not b) && c) || some_ends m t o es) ≡ true → (some_ends m t o es ≡ true → list_any (entry_holds m o) es ≡ true) →
        ((a && c) || list_any (entry_holds m o) es) ≡ true
    go true b true p rest = refl
    go true true false p rest = rest p
    go true false false p rest = rest p
    go false b c p rest = rest p

-- ---- where nothing is due

pub none-freed : (m n t : ℕ) (es : List Entry) → m ≤ t → t < n → AllByRecursion (IsSettled m n) es → flat_map (freed_of m t) es ≡ []
none-freed m n t [] le lt a = refl
none-freed m n t (e ∷ es) le lt a =
    ap (λ b. (if nat_lt m e.until && not b then dirty_objects e.objects else []) ++ flat_map (freed_of m t) es) (same-lt m n t e.until le lt a.0.later)
    ∙ go (nat_lt m e.until) (none-freed m n t es le lt a.1)
  where
    go : (b : Bool) → flat_map (freed_of m t) es ≡ [] → ((if b && not b then dirty_objects e.objects else []) ++ flat_map (freed_of m t) es) ≡ []
    go true rest = rest
    go false rest = rest

-- ---- for the calls that a table stands for

pub if_ok : {T E : Type 0} {P Q : T → Type 0} (r : Result T E) → IfOk r P → ((x : T) → P x → Q x) → IfOk r Q
if_ok (Ok x) h f = f x h
if_ok (Err e) h f = tt

pub freed-whole : (lease m t : ℕ) (table : LeaseTable) (calls : List Call) (os : List ObjId) → m ≤ t → StandsFor lease table m calls → is_in_order table.entries ≡ true →
    list_all (λ e. each_once e.objects) table.entries ≡ true → os ≡ flat_map (freed_of m t) table.entries → (o : ObjId) →
    is_held lease m calls o ≡ true → is_held lease t calls o ≡ false → list_any (same_id o) os ≡ true
freed-whole lease m t table calls os le s order once e o before after =
    ap (list_any (same_id o)) e ∙ among-all m t table.entries o once
    ∙ ended-whole m t table.entries o (held-entries lease m m table calls o (omega arith) s order ∙ before) (held-entries lease m t table calls o le s order ∙ after)

pub freed-held : (lease m t : ℕ) (table : LeaseTable) (calls : List Call) (os : List ObjId) → StandsFor lease table m calls → is_in_order table.entries ≡ true →
    list_all (λ e. each_once e.objects) table.entries ≡ true → os ≡ flat_map (freed_of m t) table.entries → (o : ObjId) →
    list_any (same_id o) os ≡ true → is_held lease m calls o ≡ true
freed-held lease m t table calls os s order once e o there =
    sym (held-entries lease m m table calls o (omega arith) s order)
    ∙ ended-held m t table.entries o (sym (ap (list_any (same_id o)) e ∙ among-all m t table.entries o once) ∙ there)

-- Where nothing is due, who holds an object holds it on.
still-holds : (m n t : ℕ) (o : ObjId) (es : List Entry) → m ≤ t → t < n → AllByRecursion (IsSettled m n) es → list_any (entry_holds t o) es ≡ list_any (entry_holds m o) es
still-holds m n t o [] le lt a = refl
still-holds m n t o (e ∷ es) le lt a =
    ap (λ b. (b && dirty_in e.objects o) || list_any (entry_holds t o) es) (same-lt m n t e.until le lt a.0.later)
    ∙ ap (λ b. entry_holds m o e || b) (still-holds m n t o es le lt a.1)

pub held-still : (lease m n t : ℕ) (table : LeaseTable) (calls : List Call) (o : ObjId) → m ≤ t → t < n → AllByRecursion (IsSettled m n) table.entries → StandsFor lease table m calls →
    is_in_order table.entries ≡ true → is_held lease m calls o ≡ true → is_held lease t calls o ≡ true
held-still lease m n t table calls o le lt a s order h =
    sym (held-entries lease m t table calls o le s order) ∙ still-holds m n t o table.entries le lt a ∙ held-entries lease m m table calls o (omega arith) s order ∙ h
