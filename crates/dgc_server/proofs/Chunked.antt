-- The list of clients in chunks: the whole list when a chunk changes, and the chunk of a client.
use Rattle.std.proofs.Common.{◌≡◌, ℕ, ◌+◌, ◌≤◌, ◌<◌, List, [], ◌∷◌, ◌++◌, refl, ap, sym, ◌∙◌, arith, cond, length, take, drop, get_or, suc, zero, Ok, Err}
use Rattle.std.specs.Prelude.{Bool, true, false, ◌&&◌, filter, nat_lt, slice_set, insert, Result, OnOk, OnErr, if◌then◌else◌}
use Rattle.std.specs.List.{list_all}
use Rattle.std.specs.Ordering.{is_lt, is_eq, is_gt}
use Rattle.std.specs.declared.cmp.Ordering.{Ordering}
use Rattle.std.specs.declared.cmp.Ordering.TheVariants.{Less, Equal, Greater}
use Rattle.std.proofs.lemmas.Bool.{and_parts, and_from, lt-ltb, ltb-false}
use Rattle.std.proofs.lemmas.List.{append_assoc, length-append}
use Rattle.std.proofs.lemmas.List.Elements.{filter-append}
use Rattle.std.proofs.lemmas.List.Folds.{list_all-append}
use Rattle.object_ids.specs.Client.{Client, client_cmp}
use Rattle.object_ids.specs.Same.{same_client}
use Rattle.object_ids.proofs.Order.{client_cmp_total, client_cmp-equal}
use Rattle.dgc_server.specs.declared.clients.Chunk.{Chunk}
use Rattle.dgc_server.specs.Entry.{Entry}
use Rattle.dgc_server.specs.Table.{entry_of, with_entry}
use Rattle.dgc_server.specs.StandsForCalls.{is_in_order}
use Rattle.dgc_server.specs.Chunks.{all_of, is_filled, IsChunkOf}
use Rattle.object_ids.specs.declared.ids.ObjId.{ObjId}
use Rattle.dgc_server.specs.HolderIndex.{Way, is_counted, one_if}
use Rattle.dgc_server.proofs.IndexLaws.{none-is-counted, replaced}
use Rattle.dgc_server.proofs.Ordered.{less-is, all_after, absent, after-absent, after-earlier}
use Rattle.dgc_server.proofs.Search.{all_before, turned-less, turned-greater, greater-is, other-client, with-front}

-- ---- the whole list

pub all-append : (xs ys : List Chunk) → all_of (xs ++ ys) ≡ all_of xs ++ all_of ys
all-append [] ys = refl
all-append (c ∷ xs) ys = ap (λ l. c.entries.items ++ l) (all-append xs ys) ∙ sym (append_assoc c.entries.items (all_of xs) (all_of ys))

-- The chunks before one, its own clients, and the chunks behind it.
pub all-three : (cs : List Chunk) (i : ℕ) (d : Chunk) → i < length cs → all_of cs ≡ all_of (take i cs) ++ ((get_or cs i d).entries.items ++ all_of (drop (suc i) cs))
all-three [] i d h = absurd (omega arith)
all-three (c ∷ cs) zero d h = refl
all-three (c ∷ cs) (suc i) d h =
    ap (λ l. c.entries.items ++ l) (all-three cs i d (omega arith))
    ∙ sym (append_assoc c.entries.items (all_of (take i cs)) ((get_or cs i d).entries.items ++ all_of (drop (suc i) cs)))

pub all-set : (cs : List Chunk) (i : ℕ) (x : Chunk) → i < length cs → all_of (slice_set cs i x) ≡ all_of (take i cs) ++ (x.entries.items ++ all_of (drop (suc i) cs))
all-set [] i x h = absurd (omega arith)
all-set (c ∷ cs) zero x h = refl
all-set (c ∷ cs) (suc i) x h =
    ap (λ l. c.entries.items ++ l) (all-set cs i x (omega arith))
    ∙ sym (append_assoc c.entries.items (all_of (take i cs)) (x.entries.items ++ all_of (drop (suc i) cs)))

-- ---- a chunk in the place of another

pub set-same : {B : Type 0} (f : List Entry → List B) → ((xs ys : List Entry) → f (xs ++ ys) ≡ f xs ++ f ys) → (cs : List Chunk) (i : ℕ) (x d : Chunk) → i < length cs →
    f x.entries.items ≡ f (get_or cs i d).entries.items → f (all_of (slice_set cs i x)) ≡ f (all_of cs)
set-same f app cs i x d h e =
    let front = all_of (take i cs) in
    let back = all_of (drop (suc i) cs) in
    let own = (get_or cs i d).entries.items in
    ap f (all-set cs i x h) ∙ app front (x.entries.items ++ back)
    ∙ ap (λ l. f front ++ l) (app x.entries.items back ∙ ap (λ l. l ++ f back) e ∙ sym (app own back))
    ∙ sym (app front (own ++ back)) ∙ ap f (sym (all-three cs i d h))

-- A chunk that has the clients of the one in its place.
pub set-none : (cs : List Chunk) (i : ℕ) (x d : Chunk) → i < length cs → x.entries.items ≡ (get_or cs i d).entries.items → all_of (slice_set cs i x) ≡ all_of cs
set-none cs i x d h e = set-same (λ l. l) (λ xs ys. refl) cs i x d h e

pub set-counts : (n : List Entry → ℕ) → ((xs ys : List Entry) → n (xs ++ ys) ≡ n xs + n ys) → (cs : List Chunk) (i : ℕ) (x d : Chunk) → i < length cs →
    n (all_of (slice_set cs i x)) + n (get_or cs i d).entries.items ≡ n (all_of cs) + n x.entries.items
set-counts n app cs i x d h =
    let front = all_of (take i cs) in
    let back = all_of (drop (suc i) cs) in
    let own = (get_or cs i d).entries.items in
    sums (n (all_of (slice_set cs i x))) (n (all_of cs)) (n front) (n (x.entries.items ++ back)) (n (own ++ back)) (n x.entries.items) (n own) (n back)
    (ap n (all-set cs i x h) ∙ app front (x.entries.items ++ back)) (app x.entries.items back) (ap n (all-three cs i d h) ∙ app front (own ++ back)) (app own back)
  where
    sums : (s a f xb ob x o b : ℕ) → s ≡ f + xb → xb ≡ x + b → a ≡ f + ob → ob ≡ o + b → s + o ≡ a + x
    sums s a f xb ob x o b p q r t = omega arith

pub all-part : (p : Entry → Bool) (cs : List Chunk) (i : ℕ) (d : Chunk) → i < length cs → list_all p (all_of cs) ≡ true → list_all p (get_or cs i d).entries.items ≡ true
all-part p [] i d h a = absurd (omega arith)
all-part p (c ∷ cs) zero d h a = (and_parts (list_all p c.entries.items) (list_all p (all_of cs)) (sym (list_all-append p c.entries.items (all_of cs)) ∙ a)).0
all-part p (c ∷ cs) (suc i) d h a = all-part p cs i d (omega arith) (and_parts (list_all p c.entries.items) (list_all p (all_of cs)) (sym (list_all-append p c.entries.items (all_of cs)) ∙ a)).1

pub set-all : (p : Entry → Bool) (cs : List Chunk) (i : ℕ) (x : Chunk) → i < length cs → list_all p (all_of cs) ≡ true → list_all p x.entries.items ≡ true → list_all p (all_of (slice_set cs i x)) ≡ true
set-all p [] i x h a b = absurd (omega arith)
set-all p (c ∷ cs) zero x h a b =
    let two = and_parts (list_all p c.entries.items) (list_all p (all_of cs)) (sym (list_all-append p c.entries.items (all_of cs)) ∙ a) in
    list_all-append p x.entries.items (all_of cs) ∙ and_from (list_all p x.entries.items) (list_all p (all_of cs)) b two.1
set-all p (c ∷ cs) (suc i) x h a b =
    let two = and_parts (list_all p c.entries.items) (list_all p (all_of cs)) (sym (list_all-append p c.entries.items (all_of cs)) ∙ a) in
    list_all-append p c.entries.items (all_of (slice_set cs i x))
    ∙ and_from (list_all p c.entries.items) (list_all p (all_of (slice_set cs i x))) two.0 (set-all p cs i x (omega arith) two.1 b)

pub set-test : (q : Chunk → Bool) (cs : List Chunk) (i : ℕ) (x : Chunk) → i < length cs → list_all q cs ≡ true → q x ≡ true → list_all q (slice_set cs i x) ≡ true
set-test q [] i x h a p = absurd (omega arith)
set-test q (c ∷ cs) zero x h a p = and_from (q x) (list_all q cs) p (and_parts (q c) (list_all q cs) a).1
set-test q (c ∷ cs) (suc i) x h a p = let two = and_parts (q c) (list_all q cs) a in and_from (q c) (list_all q (slice_set cs i x)) two.0 (set-test q cs i x (omega arith) two.1 p)

-- ---- a chunk that is split

pub split-all : (cs : List Chunk) (i : ℕ) (a b d : Chunk) → i < length cs → (get_or cs i d).entries.items ≡ a.entries.items ++ b.entries.items → all_of (insert (slice_set cs i a) (suc i) b) ≡ all_of cs
split-all [] i a b d h e = absurd (omega arith)
split-all (c ∷ cs) zero a b d h e = sym (append_assoc a.entries.items b.entries.items (all_of cs)) ∙ ap (λ l. l ++ all_of cs) (sym e)
split-all (c ∷ cs) (suc i) a b d h e = ap (λ l. c.entries.items ++ l) (split-all cs i a b d (omega arith) e)

pub split-test : (t : Chunk → Bool) (cs : List Chunk) (i : ℕ) (a b : Chunk) → i < length cs → list_all t cs ≡ true → t a ≡ true → t b ≡ true → list_all t (insert (slice_set cs i a) (suc i) b) ≡ true
split-test t [] i a b h all p q = absurd (omega arith)
split-test t (c ∷ cs) zero a b h all p q =
    and_from (t a) (t b && list_all t cs) p (and_from (t b) (list_all t cs) q (and_parts (t c) (list_all t cs) all).1)
split-test t (c ∷ cs) (suc i) a b h all p q =
    let two = and_parts (t c) (list_all t cs) all in and_from (t c) (list_all t (insert (slice_set cs i a) (suc i) b)) two.0 (split-test t cs i a b (omega arith) two.1 p q)

-- ---- the order

pub order-back : (xs ys : List Entry) → is_in_order (xs ++ ys) ≡ true → is_in_order ys ≡ true
order-back [] ys h = h
order-back (e ∷ xs) ys h = order-back xs ys (and_parts (all_after e.client (xs ++ ys)) (is_in_order (xs ++ ys)) h).1

pub order-front : (xs ys : List Entry) → is_in_order (xs ++ ys) ≡ true → is_in_order xs ≡ true
order-front [] ys h = refl
order-front (e ∷ xs) ys h =
    let two = and_parts (all_after e.client (xs ++ ys)) (is_in_order (xs ++ ys)) h in
    and_from (all_after e.client xs) (is_in_order xs)
    (and_parts (all_after e.client xs) (all_after e.client ys) (sym (list_all-append (λ d. is_lt (client_cmp e.client d.client)) xs ys) ∙ two.0)).0 (order-front xs ys two.1)

pub order-chunk : (cs : List Chunk) (i : ℕ) (d : Chunk) → i < length cs → is_in_order (all_of cs) ≡ true → is_in_order (get_or cs i d).entries.items ≡ true
order-chunk [] i d h o = absurd (omega arith)
order-chunk (c ∷ cs) zero d h o = order-front c.entries.items (all_of cs) o
order-chunk (c ∷ cs) (suc i) d h o = order-chunk cs i d (omega arith) (order-back c.entries.items (all_of cs) o)

-- ---- the search

-- Where a client comes before the first of a chunk, it comes before all from there on.
pub chunk-after : (c : Client) (cs : List Chunk) (i : ℕ) (d : Chunk) (e : Entry) → is_in_order (all_of cs) ≡ true → i < length cs → is_filled (get_or cs i d) ≡ true →
    is_lt (client_cmp c (get_or (get_or cs i d).entries.items 0 e).client) ≡ true → all_after c (all_of (drop i cs)) ≡ true
chunk-after c [] i d e o h f l = absurd (omega arith)
chunk-after c (x ∷ cs) (suc i) d e o h f l = chunk-after c cs i d e (order-back x.entries.items (all_of cs) o) (omega arith) f l
chunk-after c (x ∷ cs) zero d e o h f l = go x.entries.items f o l
  where
    go : (es : List Entry) → nat_lt 0 (length es) ≡ true → is_in_order (es ++ all_of cs) ≡ true → is_lt (client_cmp c (get_or es 0 e).client) ≡ true → all_after c (es ++ all_of cs) ≡ true
    go [] f o l = absurd (cc)
    go (y ∷ es) f o l =
        let two = and_parts (all_after y.client (es ++ all_of cs)) (is_in_order (es ++ all_of cs)) o in
        and_from (is_lt (client_cmp c y.client)) (all_after c (es ++ all_of cs)) l (after-earlier c y.client (es ++ all_of cs) (less-is (client_cmp c y.client) l) two.0)

under : (b f c : Client) → client_cmp b f ≡ Less → is_lt (client_cmp c f) ≡ false → client_cmp c b ≡ Greater
under b f c l n = go (client_cmp c f) refl n
  where
    go : (o : Ordering) → client_cmp c f ≡ o → is_lt o ≡ false → client_cmp c b ≡ Greater
    go Less e n = absurd (cc)
    go Equal e n = turned-less b c (ap (client_cmp b) (client_cmp-equal c f e) ∙ l)
    go Greater e n = turned-less b c (client_cmp_total.trans b f c l (turned-greater c f e))

first-of : (p : Entry → Bool) (es : List Entry) (e : Entry) → nat_lt 0 (length es) ≡ true → list_all p es ≡ true → p (get_or es 0 e) ≡ true
first-of p [] e f a = absurd (cc)
first-of p (x ∷ es) e f a = (and_parts (p x) (list_all p es) a).0

-- Where a client does not come before the first of a chunk, it comes after all that stand before the chunk.
pub chunk-before : (c : Client) (cs : List Chunk) (i : ℕ) (d : Chunk) (e : Entry) → is_in_order (all_of cs) ≡ true → i < length cs → is_filled (get_or cs i d) ≡ true →
    is_lt (client_cmp c (get_or (get_or cs i d).entries.items 0 e).client) ≡ false → all_before c (all_of (take i cs)) ≡ true
chunk-before c [] i d e o h f n = absurd (omega arith)
chunk-before c (x ∷ cs) zero d e o h f n = refl
chunk-before c (x ∷ cs) (suc i) d e o h f n =
    list_all-append (λ b. is_gt (client_cmp c b.client)) x.entries.items (all_of (take i cs))
    ∙ and_from (all_before c x.entries.items) (all_before c (all_of (take i cs))) (go x.entries.items o)
    (chunk-before c cs i d e (order-back x.entries.items (all_of cs) o) (omega arith) f n)
  where
    go : (es : List Entry) → is_in_order (es ++ all_of cs) ≡ true → all_before c es ≡ true
    go [] o = refl
    go (y ∷ es) o =
        let two = and_parts (all_after y.client (es ++ all_of cs)) (is_in_order (es ++ all_of cs)) o in
        let behind = and_parts (all_after y.client es) (all_after y.client (all_of cs)) (sym (list_all-append (λ b. is_lt (client_cmp y.client b.client)) es (all_of cs)) ∙ two.0) in
        let first : is_lt (client_cmp y.client (get_or (get_or cs i d).entries.items 0 e).client) ≡ true =
        first-of (λ b. is_lt (client_cmp y.client b.client)) (get_or cs i d).entries.items e f (all-part (λ b. is_lt (client_cmp y.client b.client)) cs i d (omega arith) behind.1) in
        and_from (is_gt (client_cmp c y.client)) (all_before c es)
        (ap is_gt (under y.client (get_or (get_or cs i d).entries.items 0 e).client c (less-is (client_cmp y.client (get_or (get_or cs i d).entries.items 0 e).client) first) n))
        (go es two.1)

with-before : (e : Entry) (xs ys : List Entry) → all_before e.client xs ≡ true → with_entry e (xs ++ ys) ≡ xs ++ with_entry e ys
with-before e [] ys h = refl
with-before e (d ∷ xs) ys h =
    let two = and_parts (is_gt (client_cmp e.client d.client)) (all_before e.client xs) h in
    rw (greater-is (client_cmp e.client d.client) two.0) (ap (λ l. d ∷ l) (with-before e xs ys two.1))

with-after : (e : Entry) (xs ys : List Entry) → all_after e.client ys ≡ true → with_entry e (xs ++ ys) ≡ with_entry e xs ++ ys
with-after e [] ys h = with-front e ys h
with-after e (d ∷ xs) ys h = go (client_cmp e.client d.client) (with-after e xs ys h)
  where
    go : (o : Ordering) → with_entry e (xs ++ ys) ≡ with_entry e xs ++ ys →
        (if is_lt o then e ∷ d ∷ (xs ++ ys) else if is_eq o then e ∷ (xs ++ ys) else d ∷ with_entry e (xs ++ ys))
        ≡ (if is_lt o then e ∷ d ∷ xs else if is_eq o then e ∷ xs else d ∷ with_entry e xs) ++ ys
    go Less r = refl
    go Equal r = refl
    go Greater r = ap (λ l. d ∷ l) r

entry-before : (c : Client) (xs ys : List Entry) → all_before c xs ≡ true → entry_of (xs ++ ys) c ≡ entry_of ys c
entry-before c [] ys h = refl
entry-before c (d ∷ xs) ys h =
    let two = and_parts (is_gt (client_cmp c d.client)) (all_before c xs) h in
    rw (other-client c d.client (greater-is (client_cmp c d.client) two.0)) (entry-before c xs ys two.1)

entry-after : (c : Client) (xs ys : List Entry) → all_after c ys ≡ true → entry_of (xs ++ ys) c ≡ entry_of xs c
entry-after c [] ys h = absent ys c (after-absent c ys h)
entry-after c (d ∷ xs) ys h = ap (λ v. if same_client d.client c then d else v) (entry-after c xs ys h)

-- A client stands in the chunk that is between those before it and those after it.
pub chunk-here : (c : Client) (cs : List Chunk) (i : ℕ) → i < length cs → all_before c (all_of (take i cs)) ≡ true → all_after c (all_of (drop (suc i) cs)) ≡ true → IsChunkOf cs c i
chunk-here c cs i h before after e x same is =
    let front = all_of (take i cs) in
    let back = all_of (drop (suc i) cs) in
    let own = (get_or cs i x).entries.items in
    ap (with_entry e) (all-three cs i x h)
    ∙ with-before e front (own ++ back) (ap (λ d. all_before d front) same ∙ before)
    ∙ ap (λ l. front ++ l) (with-after e own back (ap (λ d. all_after d back) same ∙ after) ∙ ap (λ l. l ++ back) (sym is))
    ∙ sym (all-set cs i x h)

pub entry-there : (c : Client) (cs : List Chunk) (i : ℕ) → i < length cs → all_before c (all_of (take i cs)) ≡ true → all_after c (all_of (drop (suc i) cs)) ≡ true →
    (d : Chunk) → entry_of (all_of cs) c ≡ entry_of (get_or cs i d).entries.items c
entry-there c cs i h before after d =
    let front = all_of (take i cs) in
    let back = all_of (drop (suc i) cs) in
    let own = (get_or cs i d).entries.items in
    ap (λ l. entry_of l c) (all-three cs i d h) ∙ entry-before c front (own ++ back) before ∙ entry-after c own back after

-- What comes after a client from a chunk on comes after it from the next on.
pub after-next : (c : Client) (cs : List Chunk) → all_after c (all_of cs) ≡ true → all_after c (all_of (drop 1 cs)) ≡ true
after-next c [] h = refl
after-next c (x ∷ cs) h =
    (and_parts (all_after c x.entries.items) (all_after c (all_of cs)) (sym (list_all-append (λ b. is_lt (client_cmp c b.client)) x.entries.items (all_of cs)) ∙ h)).1

-- ---- the chunks in which there is a client

none-left : (es : List Entry) → nat_lt 0 (length es) ≡ false → es ≡ []
none-left [] h = refl
none-left (x ∷ es) h = absurd (let z = ltb-false 0 (length (x ∷ es)) h in omega arith)

pub filled-all : (cs : List Chunk) → all_of (filter is_filled cs) ≡ all_of cs
filled-all [] = refl
filled-all (c ∷ cs) = go (is_filled c) refl (filled-all cs)
  where
    go : (b : Bool) → is_filled c ≡ b → all_of (filter is_filled cs) ≡ all_of cs → all_of (cond b (c ∷ filter is_filled cs) (filter is_filled cs)) ≡ c.entries.items ++ all_of cs
    go true e r = ap (λ l. c.entries.items ++ l) r
    go false e r = r ∙ ap (λ l. l ++ all_of cs) (sym (none-left c.entries.items e))

pub all-filled : (cs : List Chunk) → list_all is_filled (filter is_filled cs) ≡ true
all-filled [] = refl
all-filled (c ∷ cs) = go (is_filled c) refl (all-filled cs)
  where
    go : (b : Bool) → is_filled c ≡ b → list_all is_filled (filter is_filled cs) ≡ true → list_all is_filled (cond b (c ∷ filter is_filled cs) (filter is_filled cs)) ≡ true
    go true e r = and_from (is_filled c) (list_all is_filled (filter is_filled cs)) e r
    go false e r = r

-- ---- a call

-- The counts once an entry is in the place of the client's own.
pub all-counted : (t : ℕ) (es : List Entry) (next : Entry) (before after : Way → ObjId → ℕ) (entries : List Entry) → is_in_order es ≡ true → ((w : Way) (o : ObjId) → before w o ≡ length (filter (is_counted w t o) es)) →
    entries ≡ with_entry next es → ((w : Way) (o : ObjId) → after w o + one_if (is_counted w t o (entry_of es next.client)) ≡ before w o + one_if (is_counted w t o next)) →
    (w : Way) (o : ObjId) → after w o ≡ length (filter (is_counted w t o) entries)
all-counted t es next before after entries order counted e moved w o =
    replaced (is_counted w t o) (none-is-counted t o w) next es (before w o) (after w o) order (counted w o) (moved w o)
    ∙ ap (λ l. length (filter (is_counted w t o) l)) (sym e)

pub both_ok : {T E P Q R : Type 0} (r : Result T E) → OnOk r P → OnOk r Q → (P → Q → R) → OnOk r R
both_ok (Ok x) p q f = f p q
both_ok (Err e) p q f = tt

-- ---- a part of those that are counted

pub part-fewer : (p : Entry → Bool) (cs : List Chunk) (i : ℕ) (d : Chunk) → i < length cs → length (filter p (get_or cs i d).entries.items) ≤ length (filter p (all_of cs))
part-fewer p [] i d h = absurd (omega arith)
part-fewer p (c ∷ cs) zero d h = let parted = ap (λ l. length l) (filter-append p c.entries.items (all_of cs)) ∙ length-append (filter p c.entries.items) (filter p (all_of cs)) in omega arith
part-fewer p (c ∷ cs) (suc i) d h =
    let parted = ap (λ l. length l) (filter-append p c.entries.items (all_of cs)) ∙ length-append (filter p c.entries.items) (filter p (all_of cs)) in
    let rest = part-fewer p cs i d (omega arith) in omega arith

pub on_err : {T E P Q : Type 0} (r : Result T E) → OnErr r P → (P → Q) → OnErr r Q
on_err (Ok x) h f = tt
on_err (Err e) h f = f h

-- The clients with one more entry are some.
pub with-filled : (e : Entry) (es : List Entry) → nat_lt 0 (length (with_entry e es)) ≡ true
with-filled e [] = refl
with-filled e (d ∷ es) = go (client_cmp e.client d.client)
  where
    go : (o : Ordering) → nat_lt 0 (length (if is_lt o then e ∷ d ∷ es else if is_eq o then e ∷ es else d ∷ with_entry e es)) ≡ true
    go Less = lt-ltb 0 (length (e ∷ d ∷ es)) (omega arith)
    go Equal = lt-ltb 0 (length (e ∷ es)) (omega arith)
    go Greater = lt-ltb 0 (length (d ∷ with_entry e es)) (omega arith)

-- So are those of a chunk in which a call was noted, or refused.
pub noted-filled : {T E : Type 0} (e : Entry) (es entries : List Entry) (r : Result T E) → nat_lt 0 (length es) ≡ true → OnOk r (entries ≡ with_entry e es) → OnErr r (entries ≡ es) → nat_lt 0 (length entries) ≡ true
noted-filled e es entries (Ok x) some ok err = ap (λ (l : List Entry). nat_lt 0 (length l)) ok ∙ with-filled e es
noted-filled e es entries (Err x) some ok err = ap (λ (l : List Entry). nat_lt 0 (length l)) err ∙ some
