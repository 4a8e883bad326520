-- The index of a lease table: what is counted when an entry is replaced, where nothing is due, and after time has passed.
use Rattle.std.proofs.Common.{◌≡◌, ℕ, ◌+◌, ◌≤◌, ◌<◌, List, [], ◌∷◌, refl, ap, sym, ◌∙◌, arith, cond, length, map, drop, get_or}
use Rattle.std.specs.Prelude.{min, Bool, true, false, ◌&&◌, ◌||◌, not, filter, nat_lt, nat_le, if◌then◌else◌}
use Rattle.std.specs.List.{list_any, list_all, AllByRecursion}
use Rattle.std.proofs.lemmas.Bool.{and_parts, and_from, lt-ltb, ltb-true, ltb-false, leb-true, le-leb}
use Rattle.std.specs.Ordering.{is_lt, is_eq}
use Rattle.std.specs.declared.cmp.Ordering.{Ordering}
use Rattle.std.specs.declared.cmp.Ordering.TheVariants.{Less, Equal, Greater}
use Rattle.sequence.proofs.Lists.{drop-at}
use Rattle.object_ids.specs.declared.ids.ObjId.{ObjId}
use Rattle.object_ids.specs.Client.{Client, client_cmp}
use Rattle.object_ids.specs.Same.{same_id, same_client}
use Rattle.dgc_server.specs.Numbers.{no_numbers, is_dirty_highest}
use Rattle.dgc_server.specs.Entry.{ObjectEntry, Entry, entry_after_lapse, is_entry_kept, is_empty, has_time_left, entry_holds, entry_without, numbers_of, has_object, tenure_forgotten, strong_only, has_strong, dirty_in}
use Rattle.dgc_server.specs.Table.{no_entry, entry_of, with_entry, after_lapse}
use Rattle.dgc_server.specs.StandsForCalls.{is_in_order}
use Rattle.dgc_server.specs.HolderIndex.{Way, Holding, Naming, is_counted, counts_in, entry_names, one_if, ends_later, IsSettled}
use Rattle.object_ids.proofs.Exact.{same_client-true, same_id-equal}
use Rattle.history.proofs.ListLemmas.{and_false, no_time}
use Rattle.history.proofs.Equalities.{same_id-turned}
use Rattle.dgc_server.proofs.Ordered.{entry-with}
use Rattle.dgc_server.proofs.Few.{few-with}
use Rattle.dgc_server.proofs.Without.{numbers-without}
use Rattle.dgc_server.proofs.HolderLaws.{holding, drop-gone}

-- ---- an entry in place of another

-- A client that has no entry holds nothing.
pub none-holds : (t : ℕ) (o : ObjId) (c : Client) → entry_holds t o (no_entry c) ≡ false
none-holds t o c = ap (λ v. v && is_dirty_highest (numbers_of [] o)) (no_time t)

pub none-is-counted : (t : ℕ) (o : ObjId) (w : Way) (c : Client) → is_counted w t o (no_entry c) ≡ false
none-is-counted t o Holding c = none-holds t o c
none-is-counted t o Naming c = refl

module _ (p : Entry → Bool) (none : (c : Client) → p (no_entry c) ≡ false) where
  -- The client's entry is one of them.
  pub own-counted : (es : List Entry) (c : Client) → one_if (p (entry_of es c)) ≤ length (filter p es)
  own-counted [] c = rw (none c) (omega arith)
  own-counted (e ∷ es) c = go (same_client e.client c) (p e) refl (own-counted es c)
    where
      go : (a b : Bool) → p e ≡ b → one_if (p (entry_of es c)) ≤ length (filter p es) → one_if (p (if a then e else entry_of es c)) ≤ length (cond b (e ∷ filter p es) (filter p es))
      go true true q h = rw q (omega arith)
      go true false q h = rw q (omega arith)
      go false true q h = omega arith
      go false false q h = h

  pub replaced : (e : Entry) (es : List Entry) (before after : ℕ) → is_in_order es ≡ true → before ≡ length (filter p es) →
      after + one_if (p (entry_of es e.client)) ≡ before + one_if (p e) → after ≡ length (filter p (with_entry e es))
  replaced e es before after order x y =
      sums (length (filter p (with_entry e es))) (length (filter p es)) (one_if (p (entry_of es e.client))) (one_if (p e)) before after (few-with p none e es order) x y
    where
      sums : (new all old one before after : ℕ) → new + old ≡ all + one → before ≡ all → after + old ≡ before + one → after ≡ new
      sums new all old one before after w p q = omega arith

-- A client's entry is the one that was put.
pub own-with : (e : Entry) (es : List Entry) (c : Client) → e.client ≡ c → entry_of (with_entry e es) c ≡ e
own-with e es c same = entry-with e es c ∙ ap (λ b. if b then e else entry_of es c) (same_client-true e.client c same)

-- ---- where nothing is due

pub same-lt : (m n t u : ℕ) → m ≤ t → t < n → (nat_lt m u ≡ true → n ≤ u) → nat_lt t u ≡ nat_lt m u
same-lt m n t u le lt later = go (nat_lt t u) (nat_lt m u) refl refl
  where
    go : (a b : Bool) → nat_lt t u ≡ a → nat_lt m u ≡ b → a ≡ b
    go true true p q = refl
    go false false p q = refl
    go true false p q = absurd (let x = ltb-true t u p in let y = ltb-false m u q in omega arith)
    go false true p q = absurd (let x = ltb-false t u p in let y = later q in omega arith)

pub settled-later : (m n t : ℕ) (e : Entry) → m ≤ t → t < n → IsSettled m n e → IsSettled t n e
settled-later m n t e le lt s =
    let same : nat_lt t e.until ≡ nat_lt m e.until = same-lt m n t e.until le lt s.later in record {
      forgotten = ap (λ b. if b then e else record e { objects = tenure_forgotten e.objects }) same ∙ s.forgotten;
      kept = ap (λ b. b || not (is_empty e.objects)) same ∙ s.kept;
      later = λ h. s.later (sym same ∙ h);
    }

pub all-later : (m n t : ℕ) (es : List Entry) → m ≤ t → t < n → AllByRecursion (IsSettled m n) es → AllByRecursion (IsSettled t n) es
all-later m n t [] le lt a = a
all-later m n t (e ∷ es) le lt a = (settled-later m n t e le lt a.0, all-later m n t es le lt a.1)

-- Nothing is to be forgotten.
pub nothing-lapses : (m n : ℕ) (es : List Entry) → AllByRecursion (IsSettled m n) es → after_lapse m es ≡ es
nothing-lapses m n [] a = refl
nothing-lapses m n (e ∷ es) a =
    ap (λ x. cond (is_entry_kept m x) (x ∷ after_lapse m es) (after_lapse m es)) a.0.forgotten
    ∙ ap (λ b. cond b (e ∷ after_lapse m es) (after_lapse m es)) a.0.kept
    ∙ ap (λ l. e ∷ l) (nothing-lapses m n es a.1)

pub same-holders : (m n t : ℕ) (o : ObjId) (es : List Entry) → m ≤ t → t < n → AllByRecursion (IsSettled m n) es → filter (entry_holds t o) es ≡ filter (entry_holds m o) es
same-holders m n t o [] le lt a = refl
same-holders m n t o (e ∷ es) le lt a =
    ap (λ b. cond (b && dirty_in e.objects o) (e ∷ filter (entry_holds t o) es) (filter (entry_holds t o) es)) (same-lt m n t e.until le lt a.0.later)
    ∙ ap (λ l. cond (entry_holds m o e) (e ∷ l) l) (same-holders m n t o es le lt a.1)

pub same-counted : (m n t : ℕ) (o : ObjId) (w : Way) (es : List Entry) → m ≤ t → t < n → AllByRecursion (IsSettled m n) es → filter (is_counted w t o) es ≡ filter (is_counted w m o) es
same-counted m n t o Holding es le lt a = same-holders m n t o es le lt a
same-counted m n t o Naming es le lt a = refl

-- ---- after time has passed

strong-again : (es : List ObjectEntry) → tenure_forgotten (tenure_forgotten es) ≡ tenure_forgotten es
strong-again [] = refl
strong-again (e ∷ es) = go (has_strong e) refl (strong-again es)
  where
    go : (b : Bool) → has_strong e ≡ b → tenure_forgotten (tenure_forgotten es) ≡ tenure_forgotten es →
        tenure_forgotten (map strong_only (cond b (e ∷ filter has_strong es) (filter has_strong es))) ≡ map strong_only (cond b (e ∷ filter has_strong es) (filter has_strong es))
    go true q h = rw q (ap (λ l. strong_only e ∷ l) h)
    go false q h = h

lapsed-again : (t : ℕ) (e : Entry) → entry_after_lapse t (entry_after_lapse t e) ≡ entry_after_lapse t e
lapsed-again t e = go (nat_lt t e.until) refl
  where
    go : (b : Bool) → nat_lt t e.until ≡ b → entry_after_lapse t (if b then e else record e { objects = tenure_forgotten e.objects }) ≡ (if b then e else record e { objects = tenure_forgotten e.objects })
    go true q = rw q refl
    go false q = rw q (ap (λ os. record e { objects = os }) (strong-again e.objects))

later-is : (m n : ℕ) (e : Entry) → ends_later m n e ≡ true → nat_lt m e.until ≡ true → n ≤ e.until
later-is m n e h l = go (nat_le n e.until) refl (sym (ap (λ b. not b || nat_le n e.until) l) ∙ h)
  where
    go : (b : Bool) → nat_le n e.until ≡ b → b ≡ true → n ≤ e.until
    go true p q = leb-true n e.until p
    go false p q = absurd (cc)

-- Each entry that is kept is settled.
pub settled-after : (t n : ℕ) (es : List Entry) → list_all (ends_later t n) (after_lapse t es) ≡ true → AllByRecursion (IsSettled t n) (after_lapse t es)
settled-after t n [] h = tt
settled-after t n (e ∷ es) h = go (is_entry_kept t (entry_after_lapse t e)) refl h (settled-after t n es)
  where
    go : (b : Bool) → is_entry_kept t (entry_after_lapse t e) ≡ b → list_all (ends_later t n) (cond b (entry_after_lapse t e ∷ after_lapse t es) (after_lapse t es)) ≡ true →
        (list_all (ends_later t n) (after_lapse t es) ≡ true → AllByRecursion (IsSettled t n) (after_lapse t es)) → AllByRecursion (IsSettled t n) (cond b (entry_after_lapse t e ∷ after_lapse t es) (after_lapse t es))
    go true q k rest =
        let two = and_parts (ends_later t n (entry_after_lapse t e)) (list_all (ends_later t n) (after_lapse t es)) k in
        (record { forgotten = lapsed-again t e; kept = q; later = later-is t n (entry_after_lapse t e) two.0 }, rest two.1)
    go false q k rest = rest k

-- Of whom nothing is left is not counted.
nothing-counted : (t : ℕ) (o : ObjId) (w : Way) (e : Entry) → is_entry_kept t e ≡ false → is_counted w t o e ≡ false
nothing-counted t o w e h = go w (nat_lt t e.until) e.objects h
  where
    go : (w : Way) (b : Bool) (os : List ObjectEntry) → (b || not (is_empty os)) ≡ false → counts_in w b os o ≡ false
    go w true os k = absurd (cc)
    go Holding false os k = refl
    go Naming false [] k = refl
    go Naming false (x ∷ os) k = absurd (cc)

pub kept-counted : (t : ℕ) (o : ObjId) (w : Way) (es : List Entry) → length (filter (is_counted w t o) (filter (is_entry_kept t) es)) ≡ length (filter (is_counted w t o) es)
kept-counted t o w [] = refl
kept-counted t o w (e ∷ es) = go (is_entry_kept t e) (is_counted w t o e) refl refl (kept-counted t o w es)
  where
    go : (a b : Bool) → is_entry_kept t e ≡ a → is_counted w t o e ≡ b → length (filter (is_counted w t o) (filter (is_entry_kept t) es)) ≡ length (filter (is_counted w t o) es) →
        length (filter (is_counted w t o) (cond a (e ∷ filter (is_entry_kept t) es) (filter (is_entry_kept t) es))) ≡ length (cond b (e ∷ filter (is_counted w t o) es) (filter (is_counted w t o) es))
    go true true x y h = rw y (omega arith)
    go true false x y h = rw y h
    go false true x y h = absurd (let n = nothing-counted t o w e x in cc)
    go false false x y h = h

-- Some client holds an object exactly where it is counted.
pub some-holds : (t : ℕ) (o : ObjId) (es : List Entry) → nat_lt 0 (holding t es o) ≡ list_any (entry_holds t o) es
some-holds t o [] = refl
some-holds t o (e ∷ es) = go (entry_holds t o e) (some-holds t o es)
  where
    go : (b : Bool) → nat_lt 0 (holding t es o) ≡ list_any (entry_holds t o) es → nat_lt 0 (length (cond b (e ∷ filter (entry_holds t o) es) (filter (entry_holds t o) es))) ≡ (b || list_any (entry_holds t o) es)
    go true h = lt-ltb 0 (length (e ∷ filter (entry_holds t o) es)) (omega arith)
    go false h = h

-- ---- an object that is dropped

pub names-without : (o p : ObjId) (es : List ObjectEntry) → has_object (filter (λ x. not (same_id x.object o)) es) p ≡ (not (same_id p o) && has_object es p)
names-without o p [] = sym (and_false (not (same_id p o)))
names-without o p (e ∷ es) = go (same_id e.object o) (same_id e.object p) (same_id p o) refl refl refl (names-without o p es)
  where
    go : (a b s : Bool) → same_id e.object o ≡ a → same_id e.object p ≡ b → same_id p o ≡ s → has_object (filter (λ x. not (same_id x.object o)) es) p ≡ (not s && has_object es p) →
        has_object (cond (not a) (e ∷ filter (λ x. not (same_id x.object o)) es) (filter (λ x. not (same_id x.object o)) es)) p ≡ (not s && (b || has_object es p))
    go true true true x y z h = h
    go true true false x y z h = absurd (let w : same_id p o ≡ true = ap (λ q. same_id q o) (sym (same_id-equal e.object p y)) ∙ x in cc)
    go true false s x y z h = h
    go false true true x y z h = absurd (let w : same_id e.object o ≡ true = ap (λ q. same_id q o) (same_id-equal e.object p y) ∙ z in cc)
    go false true false x y z h = rw y refl
    go false false s x y z h = rw y h

pub holding-without : (t : ℕ) (o p : ObjId) (es : List Entry) → holding t (map (entry_without o) es) p ≡ (if same_id p o then 0 else holding t es p)
holding-without t o p [] = go (same_id p o)
  where
    go : (b : Bool) → ◌≡◌ {A = ℕ} 0 (if b then 0 else 0)
    go true = refl
    go false = refl
holding-without t o p (e ∷ es) =
    ap (λ n. length (cond (nat_lt t e.until && is_dirty_highest n) (entry_without o e ∷ filter (entry_holds t p) (map (entry_without o) es)) (filter (entry_holds t p) (map (entry_without o) es)))) (numbers-without o p e.objects)
    ∙ go (same_id p o) (holding-without t o p es)
  where
    none : (b : Bool) → holding t (map (entry_without o) es) p ≡ 0 → length (cond (b && false) (entry_without o e ∷ filter (entry_holds t p) (map (entry_without o) es)) (filter (entry_holds t p) (map (entry_without o) es))) ≡ 0
    none true h = h
    none false h = h

    same : (b : Bool) → holding t (map (entry_without o) es) p ≡ holding t es p → length (cond b (entry_without o e ∷ filter (entry_holds t p) (map (entry_without o) es)) (filter (entry_holds t p) (map (entry_without o) es))) ≡ length (cond b (e ∷ filter (entry_holds t p) es) (filter (entry_holds t p) es))
    same true h = omega arith
    same false h = h

    go : (s : Bool) → holding t (map (entry_without o) es) p ≡ (if s then 0 else holding t es p) →
        length (cond (nat_lt t e.until && is_dirty_highest (if s then no_numbers else numbers_of e.objects p)) (entry_without o e ∷ filter (entry_holds t p) (map (entry_without o) es)) (filter (entry_holds t p) (map (entry_without o) es)))
        ≡ (if s then 0 else holding t (e ∷ es) p)
    go true h = none (nat_lt t e.until) h
    go false h = same (entry_holds t p e) h

naming-without : (t : ℕ) (o p : ObjId) (es : List Entry) → length (filter (entry_names p) (map (entry_without o) es)) ≡ (if same_id p o then 0 else length (filter (entry_names p) es))
naming-without t o p [] = go (same_id p o)
  where
    go : (b : Bool) → ◌≡◌ {A = ℕ} 0 (if b then 0 else 0)
    go true = refl
    go false = refl
naming-without t o p (e ∷ es) =
    ap (λ b. length (cond b (entry_without o e ∷ filter (entry_names p) (map (entry_without o) es)) (filter (entry_names p) (map (entry_without o) es)))) (names-without o p e.objects)
    ∙ go (same_id p o) (has_object e.objects p) (naming-without t o p es)
  where
    go : (s b : Bool) → length (filter (entry_names p) (map (entry_without o) es)) ≡ (if s then 0 else length (filter (entry_names p) es)) →
        length (cond (not s && b) (entry_without o e ∷ filter (entry_names p) (map (entry_without o) es)) (filter (entry_names p) (map (entry_without o) es)))
        ≡ (if s then 0 else length (cond b (e ∷ filter (entry_names p) es) (filter (entry_names p) es)))
    go true b h = h
    go false true h = omega arith
    go false false h = h

counting-without : (t : ℕ) (o p : ObjId) (w : Way) (es : List Entry) → length (filter (is_counted w t p) (map (entry_without o) es)) ≡ (if same_id p o then 0 else length (filter (is_counted w t p) es))
counting-without t o p Holding es = holding-without t o p es
counting-without t o p Naming es = naming-without t o p es

-- The counts with none for one object.
pub forgotten : (t : ℕ) (o : ObjId) (w : Way) (es : List Entry) (f g : ObjId → ℕ) → ((p : ObjId) → f p ≡ length (filter (is_counted w t p) es)) →
    ((p : ObjId) → g p ≡ (if same_id o p then 0 else f p)) → (p : ObjId) → g p ≡ length (filter (is_counted w t p) (map (entry_without o) es))
forgotten t o w es f g h k p =
    k p ∙ ap (λ b. if b then 0 else f p) (same_id-turned o p) ∙ ap (λ n. if same_id p o then 0 else n) (h p) ∙ sym (counting-without t o p w es)

-- ---- a loop over the ends of leases

ends-earlier : (m n k : ℕ) (e : Entry) → n ≤ k → ends_later m k e ≡ true → ends_later m n e ≡ true
ends-earlier m n k e le h = go (nat_lt m e.until) refl h
  where
    go : (b : Bool) → nat_lt m e.until ≡ b → (not b || nat_le k e.until) ≡ true → (not b || nat_le n e.until) ≡ true
    go true p q = le-leb n e.until (let l = leb-true k e.until q in omega arith)
    go false p q = refl

pub all-earlier : (m n k : ℕ) (es : List Entry) → n ≤ k → list_all (ends_later m k) es ≡ true → list_all (ends_later m n) es ≡ true
all-earlier m n k [] le h = refl
all-earlier m n k (e ∷ es) le h =
    let two = and_parts (ends_later m k e) (list_all (ends_later m k) es) h in
    and_from (ends_later m n e) (list_all (ends_later m n) es) (ends-earlier m n k e le two.0) (all-earlier m n k es le two.1)

-- What holds of the ends to come, with a bound that is no later, holds of all.
abbrev pub Bounds : ℕ → List Entry → ℕ → List Entry → Type 0
Bounds m es least rest = (n : ℕ) → n ≤ least → list_all (ends_later m n) rest ≡ true → list_all (ends_later m n) es ≡ true

pub bounds-step : (m : ℕ) (es : List Entry) (least next : ℕ) (i : ℕ) (d : Entry) → i < length es → Bounds m es least (drop i es) → next ≤ least → ends_later m next (get_or es i d) ≡ true → Bounds m es next (drop (i + 1) es)
bounds-step m es least next i d within inv le ends n h rest =
    inv n (omega arith) (ap (list_all (ends_later m n)) (drop-at es i d within) ∙ and_from (ends_later m n (get_or es i d)) (list_all (ends_later m n) (drop (i + 1) es)) (ends-earlier m n next (get_or es i d) h ends) rest)

pub bounds-last : (m : ℕ) (es : List Entry) (least n : ℕ) → length es ≤ n → Bounds m es least (drop n es) → list_all (ends_later m least) es ≡ true
bounds-last m es least n long inv = inv least (omega arith) (ap (list_all (ends_later m least)) (drop-gone es n long))

-- ---- an entry in place of another, where the lease has time left

pub all-lower : (m n k : ℕ) (es : List Entry) → k ≤ n → AllByRecursion (IsSettled m n) es → AllByRecursion (IsSettled m k) es
all-lower m n k [] le a = a
all-lower m n k (e ∷ es) le a = (record { forgotten = a.0.forgotten; kept = a.0.kept; later = λ h. (let l = a.0.later h in omega arith) }, all-lower m n k es le a.1)

all-with : (P : Entry → Type 0) (e : Entry) (es : List Entry) → P e → AllByRecursion P es → AllByRecursion P (with_entry e es)
all-with P e [] p a = (p, tt)
all-with P e (d ∷ es) p a = go (client_cmp e.client d.client) (all-with P e es p a.1)
  where
    go : (o : Ordering) → AllByRecursion P (with_entry e es) → AllByRecursion P (if is_lt o then e ∷ d ∷ es else if is_eq o then e ∷ es else d ∷ with_entry e es)
    go Less rest = (p, a)
    go Equal rest = (p, a.1)
    go Greater rest = (a.0, rest)

pub settled-with : (m n time : ℕ) (e : Entry) (es : List Entry) → m ≤ time → (m < n → AllByRecursion (IsSettled m n) es) →
    m < (if has_time_left time e then min n e.until else 0) → AllByRecursion (IsSettled m (if has_time_left time e then min n e.until else 0)) (with_entry e es)
settled-with m n time e es le inv = go (nat_lt time e.until) refl
  where
    go : (b : Bool) → nat_lt time e.until ≡ b → m < (if b then min n e.until else 0) → AllByRecursion (IsSettled m (if b then min n e.until else 0)) (with_entry e es)
    go true l h =
        let left : nat_lt m e.until ≡ true = lt-ltb m e.until (let x = ltb-true time e.until l in omega arith) in
        all-with (IsSettled m (min n e.until)) e es
        (record { forgotten = ap (λ b. if b then e else record e { objects = tenure_forgotten e.objects }) left; kept = ap (λ b. b || not (is_empty e.objects)) left; later = λ k. omega arith })
        (all-lower m n (min n e.until) es (omega arith) (inv (omega arith)))
    go false l h = absurd (omega arith)
