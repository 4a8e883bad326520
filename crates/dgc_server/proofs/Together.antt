-- Objects that are forgotten at once: what is kept is what is left as one after another is forgotten.
use Rattle.std.proofs.Common.{◌≡◌, ℕ, ◌+◌, ◌≤◌, ◌<◌, List, [], ◌∷◌, refl, ap, sym, subst, ◌∙◌, arith, cond, length, map}
use Rattle.std.specs.Prelude.{Bool, true, false, not, ◌&&◌, ◌||◌, filter, nat_lt, if◌then◌else◌}
use Rattle.std.specs.List.{list_any, list_all, AllByRecursion}
use Rattle.std.proofs.lemmas.Bool.{and_parts, and_from, lt-ltb}
use Rattle.std.proofs.lemmas.List.Sums.{sum_by-cons}
use Rattle.object_ids.specs.declared.ids.ObjId.{ObjId}
use Rattle.object_ids.specs.Same.{same_id}
use Rattle.object_ids.proofs.Exact.{same_id-self}
use Rattle.indexmap.specs.IndexMap.{IndexMap}
use Rattle.history.specs.declared.calls.Call.{Call}
use Rattle.history.specs.Leases.{calls_of}
use Rattle.history.proofs.ListLemmas.{filter-filter, filter-same, every-always, or_true}
use Rattle.history.proofs.Equalities.{same_id-turned}
use Rattle.dgc_server.specs.declared.holders.Count.{Count}
use Rattle.dgc_server.specs.Counts.{without, without_all}
use Rattle.dgc_server.specs.Entry.{ObjectEntry, Entry, is_in, is_empty, is_entry_kept, has_object, has_time_left, remembered_of, each_has_number, entry_without}
use Rattle.dgc_server.specs.Table.{entry_of, remembered_count}
use Rattle.dgc_server.specs.StandsForCalls.{LeaseTable, IsSound, EntryStands, StandsFor}
use Rattle.dgc_server.specs.HolderIndex.{Way, Naming, IsSettled, counted_at, is_counted, is_named, entry_names, with_only, object_count, objects_in, total_of}
use Rattle.dgc_server.proofs.Few.{few-lapse, few-without}
use Rattle.dgc_server.proofs.Kept.{numbered-lapse, numbered-without, once-lapse, once-without, remembered-lapse, remembered-without}
use Rattle.dgc_server.proofs.Tables.{order-lapse, order-without}
use Rattle.dgc_server.proofs.IndexLaws.{forgotten, kept-counted}
use Rattle.dgc_server.proofs.Dropping.{dropped-lapses, settled-dropped, fewer-dropped, table-dropped}
use Rattle.dgc_server.proofs.Walking.{rest_of, whole, all-kept, leased-dropped, pairs-dropped}
use Rattle.dgc_server.proofs.OneByOne.{none-out}

-- An object is not among these.
abbrev pub others : List ObjId → ObjId → Bool
others os o = not (is_in o os)

-- ---- the calls

both : (a b : Bool) → (not b && not a) ≡ not (a || b)
both true true = refl
both true false = refl
both false true = refl
both false false = refl

first-out : (o : ObjId) (os : List ObjId) (calls : List Call) → map (without_all os) (map (without o) calls) ≡ map (without_all (o ∷ os)) calls
first-out o os [] = refl
first-out o os (x ∷ calls) = ap (λ y. y ∷ map (without_all os) (map (without o) calls)) one ∙ ap (λ l. without_all (o ∷ os) x ∷ l) (first-out o os calls)
  where
    one : without_all os (without o x) ≡ without_all (o ∷ os) x
    one =
        ap (λ (ys : List ObjId). record x { objects = ys })
        (filter-filter (λ y. not (list_any (λ p. same_id y p) os)) (λ y. not (same_id y o)) x.objects
        ∙ filter-same (λ y. not (list_any (λ p. same_id y p) os) && not (same_id y o)) (λ y. not (list_any (λ p. same_id y p) (o ∷ os))) x.objects
        (every-always (λ y. (not (list_any (λ p. same_id y p) os) && not (same_id y o)) ≡ not (list_any (λ p. same_id y p) (o ∷ os))) (λ y. both (same_id y o) (list_any (λ p. same_id y p) os)) x.objects))

-- ---- one test for another

same-only : (q r : ObjId → Bool) (e : Entry) → ((o : ObjId) → has_object e.objects o ≡ true → q o ≡ r o) → with_only q e ≡ with_only r e
same-only q r e h = ap (λ (os : List ObjectEntry). record e { objects = os }) (go e.objects h)
  where
    go : (os : List ObjectEntry) → ((o : ObjId) → has_object os o ≡ true → q o ≡ r o) → filter (λ (x : ObjectEntry). q x.object) os ≡ filter (λ (x : ObjectEntry). r x.object) os
    go [] k = refl
    go (x ∷ os) k =
        ap (λ b. cond b (x ∷ filter (λ (y : ObjectEntry). q y.object) os) (filter (λ (y : ObjectEntry). q y.object) os)) (k x.object (ap (λ b. b || has_object os x.object) (same_id-self x.object)))
        ∙ ap (λ l. cond (r x.object) (x ∷ l) l) (go os (λ o there. k o (ap (λ b. same_id x.object o || b) there ∙ or_true (same_id x.object o))))

same-map : (q r : ObjId → Bool) (f : ObjId → ℕ) → ((o : ObjId) → 0 < f o → q o ≡ r o) → (es : List Entry) → ((o : ObjId) → length (filter (entry_names o) es) ≤ f o) →
    map (with_only q) es ≡ map (with_only r) es
same-map q r f h [] le = refl
same-map q r f h (e ∷ es) le =
    ap (λ x. x ∷ map (with_only q) es) (same-only q r e (λ o there. h o (own o there))) ∙ ap (λ l. with_only r e ∷ l) (same-map q r f h es rest)
  where
    own : (o : ObjId) → has_object e.objects o ≡ true → 0 < f o
    own o there = let few = le o in let one = ap (λ b. length (cond b (e ∷ filter (entry_names o) es) (filter (entry_names o) es))) there in omega arith

    rest : (o : ObjId) → length (filter (entry_names o) es) ≤ f o
    rest o = go (has_object e.objects o) (le o)
      where
        go : (b : Bool) → length (cond b (e ∷ filter (entry_names o) es) (filter (entry_names o) es)) ≤ f o → length (filter (entry_names o) es) ≤ f o
        go true k = omega arith
        go false k = k

-- What is named once these objects are forgotten are the others that were.
pub named-others : {S : Type 0} (counts : IndexMap ObjId Count S) (os : List ObjId) (es : List Entry) (f : ObjId → ℕ) → ((o : ObjId) → counted_at Naming counts o ≡ (if is_in o os then 0 else f o)) →
    ((o : ObjId) → f o ≡ length (filter (entry_names o) es)) → map (with_only (is_named counts)) es ≡ map (with_only (others os)) es
named-others counts os es f h k =
    same-map (is_named counts) (others os) f (λ o some. ap (nat_lt 0) (h o) ∙ go (is_in o os) (f o) some) es (λ o. (let e = k o in omega arith))
  where
    go : (b : Bool) (n : ℕ) → 0 < n → nat_lt 0 (if b then 0 else n) ≡ not b
    go true n x = refl
    go false n x = lt-ltb 0 n x

all-pass : {X : Type 0} (p : X → Bool) (xs : List X) → list_all p (filter p xs) ≡ true
all-pass p [] = refl
all-pass p (x ∷ xs) = go (p x) refl (all-pass p xs)
  where
    go : (b : Bool) → p x ≡ b → list_all p (filter p xs) ≡ true → list_all p (cond b (x ∷ filter p xs) (filter p xs)) ≡ true
    go true y h = and_from (p x) (list_all p (filter p xs)) y h
    go false y h = h

only-out : (o : ObjId) (os : List ObjId) (e : Entry) → with_only (others os) (entry_without o e) ≡ with_only (others (o ∷ os)) e
only-out o os e =
    ap (λ (l : List ObjectEntry). record e { objects = l })
    (filter-filter (λ x. others os x.object) (λ x. not (same_id x.object o)) e.objects
    ∙ filter-same (λ x. others os x.object && not (same_id x.object o)) (λ x. others (o ∷ os) x.object) e.objects
    (every-always (λ (x : ObjectEntry). (others os x.object && not (same_id x.object o)) ≡ others (o ∷ os) x.object)
    (λ x. ap (λ b. others os x.object && not b) (same_id-turned x.object o) ∙ both (same_id o x.object) (is_in x.object os)) e.objects))

module _ (m : ℕ) where
  -- The clients as one object after another is forgotten.
  abbrev pub each_dropped : List ObjId → List Entry → List Entry
  each_dropped [] es = es
  each_dropped (o ∷ os) es = each_dropped os (rest_of o m es)

  nothing-left : (e : Entry) → is_entry_kept m e ≡ false → length e.objects ≡ 0
  nothing-left e h = go (nat_lt m e.until) e.objects h
    where
      go : (b : Bool) (os : List ObjectEntry) → (b || not (is_empty os)) ≡ false → length os ≡ 0
      go b [] k = refl
      go true (x ∷ os) k = absurd (cc)
      go false (x ∷ os) k = absurd (cc)

  still-nothing : (q : ObjId → Bool) (e : Entry) → is_entry_kept m e ≡ false → is_entry_kept m (with_only q e) ≡ false
  still-nothing q e h = go (nat_lt m e.until) e.objects h
    where
      go : (b : Bool) (os : List ObjectEntry) → (b || not (is_empty os)) ≡ false → (b || not (is_empty (filter (λ x. q x.object) os))) ≡ false
      go true os k = absurd (cc)
      go false [] k = refl
      go false (x ∷ os) k = absurd (cc)

  -- ---- what is left

  stays : (es : List Entry) → list_all (is_entry_kept m) es ≡ true → filter (is_entry_kept m) (map (with_only (others [])) es) ≡ es
  stays [] k = refl
  stays (e ∷ es) k =
      let two = and_parts (is_entry_kept m e) (list_all (is_entry_kept m) es) k in
      let rest = filter (is_entry_kept m) (map (with_only (others [])) es) in
      ap (λ x. cond (is_entry_kept m x) (x ∷ rest) rest) (ap (λ (l : List ObjectEntry). record e { objects = l }) (all-stay e.objects))
      ∙ ap (λ b. cond b (e ∷ rest) rest) two.0 ∙ ap (λ l. e ∷ l) (stays es two.1)
    where
      all-stay : (os : List ObjectEntry) → filter (λ x. others [] x.object) os ≡ os
      all-stay [] = refl
      all-stay (x ∷ os) = ap (λ l. x ∷ l) (all-stay os)

  one-first : (o : ObjId) (os : List ObjId) (es : List Entry) →
      filter (is_entry_kept m) (map (with_only (others os)) (rest_of o m es)) ≡ filter (is_entry_kept m) (map (with_only (others (o ∷ os))) es)
  one-first o os [] = refl
  one-first o os (e ∷ es) = go (is_entry_kept m (entry_without o e)) refl (one-first o os es)
    where
      kept_of : List Entry → List Entry
      kept_of l = filter (is_entry_kept m) (map (with_only (others os)) l)

      all : List Entry
      all = filter (is_entry_kept m) (map (with_only (others (o ∷ os))) es)

      x : Entry
      x = with_only (others (o ∷ os)) e

      go : (b : Bool) → is_entry_kept m (entry_without o e) ≡ b → kept_of (rest_of o m es) ≡ all →
          kept_of (cond b (entry_without o e ∷ rest_of o m es) (rest_of o m es)) ≡ cond (is_entry_kept m x) (x ∷ all) all
      go true y h =
          ap (λ d. cond (is_entry_kept m d) (d ∷ kept_of (rest_of o m es)) (kept_of (rest_of o m es))) (only-out o os e) ∙ ap (λ l. cond (is_entry_kept m x) (x ∷ l) l) h
      go false y h =
          h ∙ sym (ap (λ b. cond b (x ∷ all) all) (ap (is_entry_kept m) (sym (only-out o os e)) ∙ still-nothing (others os) (entry_without o e) y))

  only-left : (os : List ObjId) (es : List Entry) → list_all (is_entry_kept m) es ≡ true → each_dropped os es ≡ filter (is_entry_kept m) (map (with_only (others os)) es)
  only-left [] es k = sym (stays es k)
  only-left (o ∷ os) es k = only-left os (rest_of o m es) (all-pass (is_entry_kept m) (map (entry_without o) es)) ∙ one-first o os es

  -- ---- what holds of it

  pub sound-dropped : (n lease : ℕ) (o : ObjId) (es : List Entry) → AllByRecursion (IsSettled m n) es → IsSound lease m es → IsSound lease m (rest_of o m es)
  sound-dropped n lease o es settled s =
      let rest = map (entry_without o) es in
      let P : List Entry → Type 0 = λ l. IsSound lease m l in
      subst P (sym (dropped-lapses m n o es settled)) record {
        some = s.some;
        short = s.short;
        early = s.early;
        ordered = order-lapse m rest (order-without o es s.ordered);
        few = few-lapse m m rest _ (omega arith) (few-without m o es _ s.few);
        once = once-lapse m rest (once-without o es s.once);
        noted = numbered-lapse m rest (numbered-without o es s.noted);
        small = (let small = s.small in let fewer = remembered-without m o es in let kept = remembered-lapse m m rest (omega arith) in omega arith);
      }

  pub each-settled : (n : ℕ) (os : List ObjId) (es : List Entry) → AllByRecursion (IsSettled m n) es → AllByRecursion (IsSettled m n) (each_dropped os es)
  each-settled n [] es a = a
  each-settled n (o ∷ os) es a = each-settled n os (rest_of o m es) (settled-dropped m n o es a)

  pub each-sound : (n lease : ℕ) (os : List ObjId) (es : List Entry) → AllByRecursion (IsSettled m n) es → IsSound lease m es → IsSound lease m (each_dropped os es)
  each-sound n lease [] es a s = s
  each-sound n lease (o ∷ os) es a s = each-sound n lease os (rest_of o m es) (settled-dropped m n o es a) (sound-dropped n lease o es a s)

  pub each-fewer : (os : List ObjId) (es : List Entry) → length (each_dropped os es) ≤ length es
  each-fewer [] es = omega arith
  each-fewer (o ∷ os) es = let one = fewer-dropped m o es in let rest = each-fewer os (rest_of o m es) in omega arith

  pub each-leased : (os : List ObjId) (es : List Entry) → length (filter (has_time_left m) (each_dropped os es)) ≡ length (filter (has_time_left m) es)
  each-leased [] es = refl
  each-leased (o ∷ os) es = each-leased os (rest_of o m es) ∙ leased-dropped o m es

  counted-dropped : (w : Way) (o : ObjId) (es : List Entry) (p : ObjId) →
      length (filter (is_counted w m p) (rest_of o m es)) ≡ (if same_id o p then 0 else length (filter (is_counted w m p) es))
  counted-dropped w o es p =
      kept-counted m p w (map (entry_without o) es)
      ∙ sym (forgotten m o w es (λ q. length (filter (is_counted w m q) es)) (λ q. if same_id o q then 0 else length (filter (is_counted w m q) es)) (λ q. refl) (λ q. refl) p)

  pub each-counted : (w : Way) (os : List ObjId) (es : List Entry) (p : ObjId) →
      length (filter (is_counted w m p) (each_dropped os es)) ≡ (if is_in p os then 0 else length (filter (is_counted w m p) es))
  each-counted w [] es p = refl
  each-counted w (o ∷ os) es p =
      each-counted w os (rest_of o m es) p ∙ ap (λ n. if is_in p os then 0 else n) (counted-dropped w o es p) ∙ go (same_id o p) (is_in p os) (length (filter (is_counted w m p) es))
    where
      go : (a b : Bool) (n : ℕ) → (if b then 0 else (if a then 0 else n)) ≡ (if a || b then 0 else n)
      go true true n = refl
      go true false n = refl
      go false true n = refl
      go false false n = refl

  -- As many pairs go as are counted.
  pub each-pairs : (n lease : ℕ) (os : List ObjId) (es : List Entry) (f : ObjId → ℕ) → ((o : ObjId) → f o ≡ length (filter (entry_names o) es)) → AllByRecursion (IsSettled m n) es → IsSound lease m es →
      remembered_count m (each_dropped os es) + total_of f os ≡ remembered_count m es
  each-pairs n lease [] es f h a s = omega arith
  each-pairs n lease (o ∷ os) es f h a s =
      let own = pairs-dropped o m n es a s.noted s.once in let named = h o in
      let rest = each-pairs n lease os (rest_of o m es) (λ p. if same_id o p then 0 else f p) (λ p. ap (λ k. if same_id o p then 0 else k) (h p) ∙ sym (counted-dropped Naming o es p))
      (settled-dropped m n o es a) (sound-dropped n lease o es a s) in omega arith

  objects-remembered : (n : ℕ) (es : List Entry) → AllByRecursion (IsSettled m n) es → list_all (λ e. each_has_number e.objects) es ≡ true → remembered_count m es ≡ objects_in es
  objects-remembered n [] a h = refl
  objects-remembered n (e ∷ es) a h =
      let two = and_parts (each_has_number e.objects) (list_all (λ e. each_has_number e.objects) es) h in
      let own = whole m e a.0.forgotten two.0 in let rest = objects-remembered n es a.1 two.1 in
      let x = sum_by-cons (remembered_of m) e es in let y = sum_by-cons object_count e es in omega arith

  objects-kept : (es : List Entry) → objects_in (filter (is_entry_kept m) es) ≡ objects_in es
  objects-kept [] = refl
  objects-kept (e ∷ es) = go (is_entry_kept m e) refl (objects-kept es) (sum_by-cons object_count e es)
    where
      go : (b : Bool) → is_entry_kept m e ≡ b → objects_in (filter (is_entry_kept m) es) ≡ objects_in es → objects_in (e ∷ es) ≡ length e.objects + objects_in es →
          objects_in (cond b (e ∷ filter (is_entry_kept m) es) (filter (is_entry_kept m) es)) ≡ objects_in (e ∷ es)
      go true y h k = let x = sum_by-cons object_count e (filter (is_entry_kept m) es) in omega arith
      go false y h k = let none = nothing-left e y in omega arith

  -- ---- with the counts, in which the objects are forgotten

  pub together-left : {S : Type 0} (counts : IndexMap ObjId Count S) (n : ℕ) (os : List ObjId) (es : List Entry) (f : ObjId → ℕ) →
      ((o : ObjId) → counted_at Naming counts o ≡ (if is_in o os then 0 else f o)) → ((o : ObjId) → f o ≡ length (filter (entry_names o) es)) → AllByRecursion (IsSettled m n) es →
      filter (is_entry_kept m) (map (with_only (is_named counts)) es) ≡ each_dropped os es
  together-left counts n os es f h k a = ap (filter (is_entry_kept m)) (named-others counts os es f h k) ∙ sym (only-left os es (all-kept m n es a))

  pub together-pairs : {S : Type 0} (counts : IndexMap ObjId Count S) (n lease : ℕ) (os : List ObjId) (es : List Entry) (f : ObjId → ℕ) →
      ((o : ObjId) → counted_at Naming counts o ≡ (if is_in o os then 0 else f o)) → ((o : ObjId) → f o ≡ length (filter (entry_names o) es)) → AllByRecursion (IsSettled m n) es → IsSound lease m es →
      total_of f os + objects_in (map (with_only (is_named counts)) es) ≡ objects_in es
  together-pairs counts n lease os es f h k a s =
      let sound = each-sound n lease os es a s in
      let before = objects-remembered n es a s.noted in
      let after = objects-remembered n (each_dropped os es) (each-settled n os es a) sound.noted in
      let less = each-pairs n lease os es f k a s in
      let left = ap objects_in (sym (together-left counts n os es f h k a)) ∙ objects-kept (map (with_only (is_named counts)) es) in omega arith

  -- ---- the calls that it stands for

  moved : (lease : ℕ) (t u : LeaseTable) (calls : List Call) → StandsFor lease t m calls → u.lease ≡ t.lease → u.moment ≡ t.moment → u.entries ≡ t.entries → StandsFor lease u m calls
  moved lease t u calls s a b e = record {
    is_lease = a ∙ s.is_lease;
    is_moment = b ∙ s.is_moment;
    each = λ c. (let P : List Entry → Type 0 = λ es. EntryStands lease m (entry_of es c) (calls_of c calls) in subst P (sym e) (s.each c));
  }

  pub each-stands : (n l lease : ℕ) (os : List ObjId) (t u : LeaseTable) (calls : List Call) → StandsFor lease t m calls → AllByRecursion (IsSettled m n) t.entries → IsSound l m t.entries →
      u.lease ≡ t.lease → u.moment ≡ t.moment → u.entries ≡ each_dropped os t.entries → StandsFor lease u m (map (without_all os) calls)
  each-stands n l lease [] t u calls s d sound a b e =
      let P : List Call → Type 0 = λ cs. StandsFor lease u m cs in subst P (sym (none-out calls)) (moved lease t u calls s a b e)
  each-stands n l lease (o ∷ os) t u calls s d sound a b e =
      let between : LeaseTable = record { lease = t.lease; moment = t.moment; entries = rest_of o m t.entries } in
      let P : List Call → Type 0 = λ cs. StandsFor lease u m cs in
      subst P (first-out o os calls)
      (each-stands n l lease os between u (map (without o) calls) (table-dropped o lease m t between calls s sound.ordered refl refl (dropped-lapses m n o t.entries d))
      (settled-dropped m n o t.entries d) (sound-dropped n l o t.entries d sound) a b e)

-- THE TABLE THEN stands for the calls as if none had named the objects.
pub table-together : (m n l : ℕ) (es : List Entry) (os : List ObjId) (t u : LeaseTable) (calls : List Call) (lease moment : ℕ) → StandsFor lease t moment calls → m ≡ moment →
    record { lease = l; moment = m; entries = es } ≡ t → IsSound l m es → AllByRecursion (IsSettled m n) es →
    u.lease ≡ l → u.moment ≡ m → u.entries ≡ each_dropped m os es → StandsFor lease u moment (map (without_all os) calls)
table-together m n l es os t u calls lease moment s k v sound settled a b e =
    let inside : LeaseTable = record { lease = l; moment = m; entries = es } in
    let P : LeaseTable → Type 0 = λ x. StandsFor lease x moment calls in
    let Q : ℕ → Type 0 = λ x. StandsFor lease inside x calls in
    let R : ℕ → Type 0 = λ x. StandsFor lease u x (map (without_all os) calls) in
    subst R k (each-stands m n l lease os inside u calls (subst Q (sym k) (subst P (sym v) s)) settled sound a b e)
