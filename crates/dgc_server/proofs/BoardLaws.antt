-- The board of a table: what holds of each chunk as one of them changes, as time passes, and as clients go.
use Rattle.std.proofs.Common.{◌≡◌, ℕ, ◌+◌, ◌≤◌, ◌<◌, List, [], ◌∷◌, ◌++◌, refl, ap, sym, ◌∙◌, arith, cond, length, map, take, drop, get_or, suc, zero, add-one, Ok, Err}
use Rattle.std.specs.Prelude.{Bool, true, false, not, ◌||◌, ◌&&◌, filter, nat_lt, nat_le, min, slice_set, insert, remove, Result, OnOk, OnErr, IfOk, if◌then◌else◌}
use Rattle.std.specs.List.{list_all, AllByRecursion}
use Rattle.std.proofs.lemmas.Bool.{le-leb}
use Rattle.std.proofs.lemmas.List.{map-append}
use Rattle.std.proofs.lemmas.List.Elements.{filter-append}
use Rattle.std.proofs.lemmas.List.Sums.{sum_by-cons}
use Rattle.history.proofs.ListLemmas.{every-weaker, every-append, test-AllByRecursion}
use Rattle.object_ids.specs.declared.ids.ObjId.{ObjId}
use Rattle.dgc_server.specs.declared.clients.Chunk.{Chunk}
use Rattle.dgc_server.specs.Numbers.{is_remembered}
use Rattle.dgc_server.specs.Entry.{ObjectEntry, Entry, has_time_left, dirty_in, entry_after_lapse, is_entry_kept, entry_without, tenure_forgotten}
use Rattle.dgc_server.specs.Table.{with_entry, after_lapse}
use Rattle.dgc_server.specs.HolderIndex.{Way, Holding, Naming, Tally, tally_of, tally_in, is_counted, one_if, ends_later, with_only, bound_of, IsSettled, IsCalm}
use Rattle.dgc_server.specs.Chunks.{all_of, IsBounded, IsCalmChunk}
use Rattle.dgc_server.proofs.Dropping.{forgotten-filter, lapsed-without}
use Rattle.dgc_server.proofs.IndexLaws.{all-later, all-lower, settled-later, settled-with, same-lt}
use Rattle.dgc_server.proofs.Passing.{each-tally}
use Rattle.dgc_server.proofs.Chunked.{all-three}
use Rattle.dgc_server.proofs.Moving.{many-append}

-- ---- each element

pub every-at : {X : Type 0} (P : X → Type 0) (xs : List X) (i : ℕ) (d : X) → i < length xs → AllByRecursion P xs → P (get_or xs i d)
every-at P [] i d h a = absurd (omega arith)
every-at P (x ∷ xs) zero d h a = a.0
every-at P (x ∷ xs) (suc i) d h a = every-at P xs i d (omega arith) a.1

pub every-set : {X : Type 0} (P : X → Type 0) (xs : List X) (i : ℕ) (y : X) → AllByRecursion P xs → P y → AllByRecursion P (slice_set xs i y)
every-set P [] i y a p = a
every-set P (x ∷ xs) zero y a p = (p, a.1)
every-set P (x ∷ xs) (suc i) y a p = (a.0, every-set P xs i y a.1 p)

pub every-removed : {X : Type 0} (P : X → Type 0) (xs : List X) (i : ℕ) → AllByRecursion P xs → AllByRecursion P (remove xs i)
every-removed P [] zero a = a
every-removed P [] (suc i) a = a
every-removed P (x ∷ xs) zero a = a.1
every-removed P (x ∷ xs) (suc i) a = (a.0, every-removed P xs i a.1)

pub every-front : {X : Type 0} (P : X → Type 0) (xs ys : List X) → AllByRecursion P (xs ++ ys) → AllByRecursion P xs
every-front P [] ys a = tt
every-front P (x ∷ xs) ys a = (a.0, every-front P xs ys a.1)

pub every-back : {X : Type 0} (P : X → Type 0) (xs ys : List X) → AllByRecursion P (xs ++ ys) → AllByRecursion P ys
every-back P [] ys a = a
every-back P (x ∷ xs) ys a = every-back P xs ys a.1

-- An element in the place of another, and one behind it.
pub every-split : {X : Type 0} (P : X → Type 0) (xs : List X) (i : ℕ) (a b : X) → i < length xs → AllByRecursion P xs → P a → P b → AllByRecursion P (insert (slice_set xs i a) (suc i) b)
every-split P [] i a b h all p q = absurd (omega arith)
every-split P (x ∷ xs) zero a b h all p q = (p, (q, all.1))
every-split P (x ∷ xs) (suc i) a b h all p q = (all.0, every-split P xs i a b (omega arith) all.1 p q)

every-put : {X : Type 0} (P : X → Type 0) (xs : List X) (i : ℕ) (y : X) → i < length xs → AllByRecursion P (take i xs) → P y → AllByRecursion P (take (suc i) (slice_set xs i y))
every-put P [] i y h a p = absurd (omega arith)
every-put P (x ∷ xs) zero y h a p = (p, tt)
every-put P (x ∷ xs) (suc i) y h a p = (a.0, every-put P xs i y (omega arith) a.1 p)

-- Those before one that is set, and this one.
pub every-next : {X : Type 0} (P : X → Type 0) (xs : List X) (i : ℕ) (y : X) → i < length xs → AllByRecursion P (take i xs) → P y → AllByRecursion P (take (i + 1) (slice_set xs i y))
every-next P xs i y h a p = rw add-one (every-put P xs i y h a p)

-- ---- what is kept of a client

settled-without : (m n : ℕ) (o : ObjId) (e : Entry) → IsSettled m n e → is_entry_kept m (entry_without o e) ≡ true → IsSettled m n (entry_without o e)
settled-without m n o e s k = record { forgotten = lapsed-without m n o e s; kept = k; later = s.later }

-- An object is forgotten of one client, and the client with it if nothing is left.
pub settled-at : (m n : ℕ) (o : ObjId) (es : List Entry) (i : ℕ) (d : Entry) → i < length es → AllByRecursion (IsSettled m n) es → let next = entry_without o (get_or es i d) in
    AllByRecursion (IsSettled m n) (if is_entry_kept m next then slice_set es i next else remove es i)
settled-at m n o es i d within a = go (is_entry_kept m (entry_without o (get_or es i d))) refl
  where
    go : (b : Bool) → is_entry_kept m (entry_without o (get_or es i d)) ≡ b → AllByRecursion (IsSettled m n) (if b then slice_set es i (entry_without o (get_or es i d)) else remove es i)
    go true k = every-set (IsSettled m n) es i (entry_without o (get_or es i d)) a (settled-without m n o (get_or es i d) (every-at (IsSettled m n) es i d within a) k)
    go false k = every-removed (IsSettled m n) es i a

pub calm-only : (q : ObjId → Bool) (m n : ℕ) (e : Entry) → IsCalm m n e → IsCalm m n (with_only q e)
calm-only q m n e s = record { forgotten = go (nat_lt m e.until) s.forgotten; later = s.later }
  where
    p : ObjectEntry → Bool
    p x = q x.object

    go : (b : Bool) → (if b then e else record e { objects = tenure_forgotten e.objects }) ≡ e →
        (if b then with_only q e else record e { objects = tenure_forgotten (filter p e.objects) }) ≡ with_only q e
    go true h = refl
    go false h = ap (λ os. record e { objects = os }) (forgotten-filter p (λ x. refl) e.objects ∙ ap (λ (x : Entry). filter p x.objects) h)

pub calm-of : (m n : ℕ) (es : List Entry) → AllByRecursion (IsSettled m n) es → AllByRecursion (IsCalm m n) es
calm-of m n es a = every-weaker (IsSettled m n) (IsCalm m n) (λ e s. record { forgotten = s.forgotten; later = s.later }) es a

pub settled-of : (m n : ℕ) (es : List Entry) → AllByRecursion (IsCalm m n) es → AllByRecursion (IsSettled m n) (filter (is_entry_kept m) es)
settled-of m n [] a = tt
settled-of m n (e ∷ es) a = go (is_entry_kept m e) refl (settled-of m n es a.1)
  where
    go : (b : Bool) → is_entry_kept m e ≡ b → AllByRecursion (IsSettled m n) (filter (is_entry_kept m) es) → AllByRecursion (IsSettled m n) (cond b (e ∷ filter (is_entry_kept m) es) (filter (is_entry_kept m) es))
    go true k rest = (record { forgotten = a.0.forgotten; kept = k; later = a.0.later }, rest)
    go false k rest = rest

pub lapse-append : (t : ℕ) (xs ys : List Entry) → after_lapse t (xs ++ ys) ≡ after_lapse t xs ++ after_lapse t ys
lapse-append t xs ys = ap (filter (is_entry_kept t)) (map-append (entry_after_lapse t) xs ys) ∙ filter-append (is_entry_kept t) (map (entry_after_lapse t) xs) (map (entry_after_lapse t) ys)

-- What a client adds to a tally stays, where nothing is due.
settled-tally : (m n t : ℕ) (k : Tally) (e : Entry) → m ≤ t → t < n → IsSettled m n e → tally_of k m e ≡ tally_of k t (entry_after_lapse t e)
settled-tally m n t k e le lt s =
    each-tally (λ k. tally_of k m e ≡ tally_of k t e) (λ w o. ap one_if (counted w o)) (ap one_if same) (ap (λ b. length (filter (λ o. is_remembered b o.numbers) e.objects)) same) k
    ∙ ap (tally_of k t) (sym (settled-later m n t e le lt s).forgotten)
  where
    same : has_time_left m e ≡ has_time_left t e
    same = sym (same-lt m n t e.until le lt s.later)

    counted : (w : Way) (o : ObjId) → is_counted w m o e ≡ is_counted w t o e
    counted Holding o = ap (λ b. b && dirty_in e.objects o) same
    counted Naming o = refl

pub settled-tallies : (m n t : ℕ) (k : Tally) (es : List Entry) → m ≤ t → t < n → AllByRecursion (IsSettled m n) es → tally_in k m es ≡ tally_in k t (map (entry_after_lapse t) es)
settled-tallies m n t k [] le lt a = refl
settled-tallies m n t k (e ∷ es) le lt a =
    sum_by-cons (tally_of k m) e es ∙ ap (λ x. x + tally_in k m es) (settled-tally m n t k e le lt a.0) ∙ ap (λ x. tally_of k t (entry_after_lapse t e) + x) (settled-tallies m n t k es le lt a.1)
    ∙ sym (sum_by-cons (tally_of k t) (entry_after_lapse t e) (map (entry_after_lapse t) es))

pub settled-ends : (m n k : ℕ) (es : List Entry) → k ≤ n → AllByRecursion (IsSettled m n) es → list_all (ends_later m k) es ≡ true
settled-ends m n k es le a = test-AllByRecursion (IsSettled m n) (ends_later m k) one es a
  where
    one : (e : Entry) → IsSettled m n e → ends_later m k e ≡ true
    one e s = go (nat_lt m e.until) s.later
      where
        go : (b : Bool) → (b ≡ true → n ≤ e.until) → (not b || nat_le k e.until) ≡ true
        go true h = le-leb k e.until (let l = h refl in omega arith)
        go false h = refl

-- ---- chunks

pub bounded-lower : (m n k : ℕ) (c : Chunk) → k ≤ n → IsBounded m n c → IsBounded m k c
bounded-lower m n k c le w = record { settled = w.settled; least = (let l = w.least in omega arith) }

pub all-bounded-lower : (m n k : ℕ) (cs : List Chunk) → k ≤ n → AllByRecursion (IsBounded m n) cs → AllByRecursion (IsBounded m k) cs
all-bounded-lower m n k cs le a = every-weaker (IsBounded m n) (IsBounded m k) (λ c w. bounded-lower m n k c le w) cs a

-- Time passes, and nothing is due.
pub all-bounded-later : (m n t : ℕ) (cs : List Chunk) → m ≤ t → t < n → AllByRecursion (IsBounded m n) cs → AllByRecursion (IsBounded t n) cs
all-bounded-later m n t cs le lt a = every-weaker (IsBounded m n) (IsBounded t n) later cs a
  where
    later : (c : Chunk) → IsBounded m n c → IsBounded t n c
    later c w = record { settled = λ h. all-later m c.least t c.entries.items le h (w.settled (omega arith)); least = w.least }

pub all-calm-of : (m n : ℕ) (cs : List Chunk) → AllByRecursion (IsBounded m n) cs → AllByRecursion (IsCalmChunk m n) cs
all-calm-of m n cs a = every-weaker (IsBounded m n) (IsCalmChunk m n) (λ (c : Chunk) w. record { calm = λ h. calm-of m c.least c.entries.items (w.settled h); least = w.least }) cs a

-- Those with time left of a chunk and of the chunks before it are some of all.
pub front-leased : (t : ℕ) (cs : List Chunk) (i : ℕ) (d : Chunk) → i < length cs →
    length (filter (has_time_left t) (all_of (take i cs))) + length (filter (has_time_left t) (get_or cs i d).entries.items) ≤ length (filter (has_time_left t) (all_of cs))
front-leased t cs i d h =
    let p = has_time_left t in
    let own = (get_or cs i d).entries.items in
    let whole = ap (λ l. length (filter p l)) (all-three cs i d h) ∙ many-append p (all_of (take i cs)) (own ++ all_of (drop (suc i) cs)) in
    let rest = many-append p own (all_of (drop (suc i) cs)) in omega (arith, whole, rest)

-- What is kept of all clients is settled.
pub all-settled : (m n : ℕ) (cs : List Chunk) → m < n → AllByRecursion (IsBounded m n) cs → AllByRecursion (IsSettled m n) (all_of cs)
all-settled m n [] lt a = tt
all-settled m n (c ∷ cs) lt a =
    let least = a.0.least in
    every-append (IsSettled m n) c.entries.items (all_of cs) (all-lower m c.least n c.entries.items least (a.0.settled (omega arith))) (all-settled m n cs lt a.1)

-- A call is noted in a chunk: no lease that goes on ends before the earlier of two moments.
bound-lower : (t n u : ℕ) → bound_of t n u ≤ n
bound-lower t n u = go (nat_lt t u)
  where
    go : (b : Bool) → (if b then min n u else 0) ≤ n
    go true = omega arith
    go false = omega arith

bound-rises : (t n k u : ℕ) → n ≤ k → bound_of t n u ≤ bound_of t k u
bound-rises t n k u le = go (nat_lt t u)
  where
    go : (b : Bool) → (if b then min n u else 0) ≤ (if b then min k u else 0)
    go true = omega arith
    go false = omega arith

-- The chunk in which a call was noted at the moment t.
pub noted-bounded : (m n t until : ℕ) (e : Entry) (x y : Chunk) → m ≤ t → until ≡ e.until → IsBounded m n x → y.entries.items ≡ with_entry e x.entries.items → y.least ≡ bound_of t x.least until →
    IsBounded m (bound_of t n until) y
noted-bounded m n t until e x y le same w items least =
    let is : y.least ≡ bound_of t x.least e.until = least ∙ ap (bound_of t x.least) same in record {
      settled = (let all = settled-with m x.least t e x.entries.items le w.settled in
          λ h. (let now : m < bound_of t x.least e.until = omega arith in
          ap-two y items is (all now)));
      least = (let up = bound-rises t n x.least until w.least in omega arith);
    }
  where
    ap-two : (y : Chunk) → y.entries.items ≡ with_entry e x.entries.items → y.least ≡ bound_of t x.least e.until →
        AllByRecursion (IsSettled m (bound_of t x.least e.until)) (with_entry e x.entries.items) → AllByRecursion (IsSettled m y.least) y.entries.items
    ap-two y p q a = rw (p, q) a

pub all-noted : (m n t until : ℕ) (cs : List Chunk) (i : ℕ) (y : Chunk) → AllByRecursion (IsBounded m n) cs → IsBounded m (bound_of t n until) y → AllByRecursion (IsBounded m (bound_of t n until)) (slice_set cs i y)
all-noted m n t until cs i y a w =
    every-set (IsBounded m (bound_of t n until)) cs i y (all-bounded-lower m n (bound_of t n until) cs (bound-lower t n until) a) w

-- The clients of a chunk are some of those of another one, with the same moment.
pub part-bounded : (m n : ℕ) (x y : Chunk) → (AllByRecursion (IsSettled m x.least) x.entries.items → AllByRecursion (IsSettled m x.least) y.entries.items) → y.least ≡ x.least → IsBounded m n x → IsBounded m n y
part-bounded m n x y part same w = record {
  settled = λ h. (let now : m < x.least = omega arith in rw same (part (w.settled now)));
  least = (let l = w.least in omega arith);
}

-- ---- what is answered

pub three_ok : {T E R : Type 0} {P Q S : T → Type 0} (r : Result T E) → IfOk r P → IfOk r Q → OnOk r R → ((x : T) → P x → Q x → R → S x) → IfOk r S
three_ok (Ok x) p q r f = f x p q r
three_ok (Err e) p q r f = tt

pub always_err : {T E P : Type 0} (r : Result T E) → P → OnErr r P
always_err (Ok x) p = tt
always_err (Err e) p = p

pub two_err : {T E P Q R : Type 0} (r : Result T E) → OnErr r P → OnErr r Q → (P → Q → R) → OnErr r R
two_err (Ok x) p q f = tt
two_err (Err e) p q f = f p q
