-- The list of clients in chunks, as a loop goes from one to the next.
use Rattle.std.proofs.Common.{◌≡◌, ℕ, ◌+◌, ◌≤◌, ◌<◌, List, [], ◌∷◌, ◌++◌, refl, ap, sym, ◌∙◌, arith, length, map, take, drop, get_or, suc, zero, add-one, flat_map}
use Rattle.std.specs.Prelude.{Bool, filter, slice_set, sum_by}
use Rattle.std.proofs.lemmas.List.{append_assoc, map-append, append-nil, length-append}
use Rattle.std.proofs.lemmas.List.Elements.{filter-append}
use Rattle.std.proofs.lemmas.List.Sums.{sum_by-append}
use Rattle.object_ids.specs.declared.ids.ObjId.{ObjId}
use Rattle.dgc_server.specs.declared.clients.Chunk.{Chunk}
use Rattle.dgc_server.specs.Entry.{Entry, is_entry_kept, entry_without}
use Rattle.dgc_server.specs.HolderIndex.{with_only, object_count, objects_in}
use Rattle.dgc_server.specs.Chunks.{all_of}
use Rattle.dgc_server.proofs.Chunked.{all-three}
use Rattle.dgc_server.proofs.Purging.{only-fewer}

-- ---- where a chunk stands

drop-next : (cs : List Chunk) (i : ℕ) (d : Chunk) → i < length cs → all_of (drop i cs) ≡ (get_or cs i d).entries.items ++ all_of (drop (suc i) cs)
drop-next [] i d h = absurd (omega arith)
drop-next (c ∷ cs) zero d h = refl
drop-next (c ∷ cs) (suc i) d h = drop-next cs i d (omega arith)

pub drop-chunk : (cs : List Chunk) (i : ℕ) (d : Chunk) → i < length cs → all_of (drop i cs) ≡ (get_or cs i d).entries.items ++ all_of (drop (i + 1) cs)
drop-chunk cs i d h = rw add-one (drop-next cs i d h)

take-next : (cs : List Chunk) (i : ℕ) (d : Chunk) → i < length cs → all_of (take (suc i) cs) ≡ all_of (take i cs) ++ (get_or cs i d).entries.items
take-next [] i d h = absurd (omega arith)
take-next (c ∷ cs) zero d h = append-nil c.entries.items
take-next (c ∷ cs) (suc i) d h = ap (λ l. c.entries.items ++ l) (take-next cs i d (omega arith)) ∙ sym (append_assoc c.entries.items (all_of (take i cs)) (get_or cs i d).entries.items)

pub take-chunk : (cs : List Chunk) (i : ℕ) (d : Chunk) → i < length cs → all_of (take (i + 1) cs) ≡ all_of (take i cs) ++ (get_or cs i d).entries.items
take-chunk cs i d h = rw add-one (take-next cs i d h)

take-put : (cs : List Chunk) (i : ℕ) (x : Chunk) → i < length cs → take (suc i) (slice_set cs i x) ≡ take i cs ++ x ∷ []
take-put [] i x h = absurd (omega arith)
take-put (c ∷ cs) zero x h = refl
take-put (c ∷ cs) (suc i) x h = ap (λ l. c ∷ l) (take-put cs i x (omega arith))

pub take-set-next : (cs : List Chunk) (i : ℕ) (x : Chunk) → i < length cs → take (i + 1) (slice_set cs i x) ≡ take i cs ++ x ∷ []
take-set-next cs i x h = rw add-one (take-put cs i x h)

drop-put : (cs : List Chunk) (i : ℕ) (x : Chunk) → drop (suc i) (slice_set cs i x) ≡ drop (suc i) cs
drop-put [] i x = refl
drop-put (c ∷ cs) zero x = refl
drop-put (c ∷ cs) (suc i) x = drop-put cs i x

drop-same : (cs ds : List Chunk) (i : ℕ) → drop i cs ≡ drop i ds → drop (suc i) cs ≡ drop (suc i) ds
drop-same cs ds i e = sym (drop-one cs i) ∙ ap (drop 1) e ∙ drop-one ds i
  where
    drop-one : (l : List Chunk) (i : ℕ) → drop 1 (drop i l) ≡ drop (suc i) l
    drop-one l zero = refl
    drop-one [] (suc i) = refl
    drop-one (c ∷ l) (suc i) = drop-one l i

-- What stands behind a chunk that was put stays.
pub drop-set-next : (cs ds : List Chunk) (i : ℕ) (x : Chunk) → drop i cs ≡ drop i ds → drop (i + 1) (slice_set cs i x) ≡ drop (i + 1) ds
drop-set-next cs ds i x e = rw add-one (drop-put cs i x ∙ drop-same cs ds i e)

head-of : (cs : List Chunk) (i : ℕ) (d : Chunk) → get_or (drop i cs) 0 d ≡ get_or cs i d
head-of [] zero d = refl
head-of [] (suc i) d = refl
head-of (c ∷ cs) zero d = refl
head-of (c ∷ cs) (suc i) d = head-of cs i d

pub same-at : (cs ds : List Chunk) (i : ℕ) (d : Chunk) → drop i cs ≡ drop i ds → get_or cs i d ≡ get_or ds i d
same-at cs ds i d e = sym (head-of cs i d) ∙ ap (λ l. get_or l 0 d) e ∙ head-of ds i d

pub take-end : (cs : List Chunk) (n : ℕ) → length cs ≤ n → take n cs ≡ cs
take-end [] zero h = refl
take-end [] (suc n) h = refl
take-end (c ∷ cs) zero h = absurd (omega arith)
take-end (c ∷ cs) (suc n) h = ap (λ l. c ∷ l) (take-end cs n (omega arith))

pub drop-end : (cs : List Chunk) (n : ℕ) → length cs ≤ n → all_of (drop n cs) ≡ []
drop-end [] zero h = refl
drop-end [] (suc n) h = refl
drop-end (c ∷ cs) zero h = absurd (omega arith)
drop-end (c ∷ cs) (suc n) h = drop-end cs n (omega arith)

-- ---- what is counted

pub many-append : (p : Entry → Bool) (xs ys : List Entry) → length (filter p (xs ++ ys)) ≡ length (filter p xs) + length (filter p ys)
many-append p xs ys = ap (λ l. length l) (filter-append p xs ys) ∙ length-append (filter p xs) (filter p ys)

pub rest-append : (o : ObjId) (t : ℕ) (xs ys : List Entry) →
    filter (is_entry_kept t) (map (entry_without o) (xs ++ ys)) ≡ filter (is_entry_kept t) (map (entry_without o) xs) ++ filter (is_entry_kept t) (map (entry_without o) ys)
rest-append o t xs ys = ap (filter (is_entry_kept t)) (map-append (entry_without o) xs ys) ∙ filter-append (is_entry_kept t) (map (entry_without o) xs) (map (entry_without o) ys)

-- What was summed of the chunks before one, with its own, is among all.
pub sum-front : (f : Entry → ℕ) (cs : List Chunk) (i : ℕ) (d : Chunk) → i < length cs → sum_by f (all_of (take i cs)) + sum_by f (get_or cs i d).entries.items ≤ sum_by f (all_of cs)
sum-front f cs i d h =
    let front = all_of (take i cs) in
    let own = (get_or cs i d).entries.items in
    let back = all_of (drop (suc i) cs) in
    let all = ap (sum_by f) (all-three cs i d h) ∙ sum_by-append f front (own ++ back) in
    let rest = sum_by-append f own back in omega arith

-- ---- lists of each

pub flat-append : {X : Type 0} (f : Entry → List X) (xs ys : List Entry) → flat_map f (xs ++ ys) ≡ flat_map f xs ++ flat_map f ys
flat-append f [] ys = refl
flat-append f (e ∷ xs) ys = ap (λ l. f e ++ l) (flat-append f xs ys) ∙ sym (append_assoc (f e) (flat_map f xs) (flat_map f ys))

-- ---- objects

pub objects-append : (xs ys : List Entry) → objects_in (xs ++ ys) ≡ objects_in xs + objects_in ys
objects-append xs ys = sum_by-append object_count xs ys

-- What is to go from a chunk is among what is to go from all.
pub only-part : (q : ObjId → Bool) (cs : List Chunk) (i : ℕ) (d : Chunk) → i < length cs →
    objects_in (get_or cs i d).entries.items + objects_in (map (with_only q) (all_of cs)) ≤ objects_in (all_of cs) + objects_in (map (with_only q) (get_or cs i d).entries.items)
only-part q [] i d h = absurd (omega arith)
only-part q (c ∷ cs) zero d h =
    let all = objects-append c.entries.items (all_of cs) in
    let only = ap objects_in (map-append (with_only q) c.entries.items (all_of cs)) ∙ objects-append (map (with_only q) c.entries.items) (map (with_only q) (all_of cs)) in
    let fewer = only-fewer q (all_of cs) in omega arith
only-part q (c ∷ cs) (suc i) d h =
    let all = objects-append c.entries.items (all_of cs) in
    let only = ap objects_in (map-append (with_only q) c.entries.items (all_of cs)) ∙ objects-append (map (with_only q) c.entries.items) (map (with_only q) (all_of cs)) in
    let fewer = only-fewer q c.entries.items in
    let rest = only-part q cs i d (omega arith) in omega arith
