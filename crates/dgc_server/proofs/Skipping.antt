-- The search of the chunks' moments: what it passes over, and the moments as chunks change.
use Rattle.std.proofs.Common.{◌≡◌, ℕ, ◌+◌, ◌-◌, ◌^◌, ◌≤◌, ◌<◌, List, [], ◌∷◌, ◌++◌, refl, ap, sym, subst, ◌∙◌, arith, cond, length, take, drop, get_or, zero, suc, Some, None}
use Rattle.std.specs.Prelude.{Bool, true, false, not, filter, nat_lt, slice_set, insert}
use Rattle.std.specs.List.{prefix_len, position, AllByRecursion}
use Rattle.std.proofs.Math.Seq.{take-add, map-set_same}
use Rattle.std.proofs.lemmas.Bool.{not-true, leb-false, ltb-false}
use Rattle.std.proofs.lemmas.List.{take-append-drop, drop-drop, drop-map, length-map, map-set}
use Rattle.std.proofs.lemmas.List.Sums.{prefix_len-le-length}
use Rattle.lane_kernels.specs.Kernels.{is_due}
use Rattle.history.proofs.ListLemmas.{every-weaker, every-append}
use Rattle.dgc_server.specs.declared.clients.Chunk.{Chunk}
use Rattle.dgc_server.specs.Entry.{Entry}
use Rattle.dgc_server.specs.HolderIndex.{IsSettled}
use Rattle.dgc_server.specs.Chunks.{all_of, ends_of, next_due, least_end, is_filled, IsBounded}
use Rattle.dgc_server.proofs.IndexLaws.{all-later, all-lower}
use Rattle.dgc_server.proofs.Chunked.{all-append}
use Rattle.dgc_server.proofs.BoardLaws.{every-back}

-- ---- the search

-- The index that is found, and that none is.
pub found-at : (p : ℕ → Bool) (xs : List ℕ) (i : ℕ) → Some i ≡ position p xs → i ≡ prefix_len (λ x. not (p x)) xs
found-at p xs i e = go (nat_lt (prefix_len (λ x. not (p x)) xs) (length xs)) e
  where
    go : (b : Bool) → Some i ≡ cond b (Some (prefix_len (λ x. not (p x)) xs)) None → i ≡ prefix_len (λ x. not (p x)) xs
    go true q = cc
    go false q = absurd (cc)

pub none-found : (p : ℕ → Bool) (xs : List ℕ) → None ≡ position p xs → prefix_len (λ x. not (p x)) xs ≡ length xs
none-found p xs e = go (nat_lt (prefix_len (λ x. not (p x)) xs) (length xs)) refl e
  where
    go : (b : Bool) → nat_lt (prefix_len (λ x. not (p x)) xs) (length xs) ≡ b → None ≡ cond b (Some (prefix_len (λ x. not (p x)) xs)) None → prefix_len (λ x. not (p x)) xs ≡ length xs
    go true h q = absurd (cc)
    go false h q = let least = ltb-false (prefix_len (λ x. not (p x)) xs) (length xs) h in let most = prefix_len-le-length (λ x. not (p x)) xs in omega arith

-- ---- what a search passes over

-- A moment is later than another one.
abbrev is_quiet : ℕ → ℕ → Bool
is_quiet to end = not (is_due to end)

-- How many of these chunks, from the first on, have later moments.
abbrev pub ahead : ℕ → List Chunk → ℕ
ahead to cs = prefix_len (is_quiet to) (ends_of cs)

-- Their clients.
abbrev pub over : ℕ → List Chunk → List Entry
over to cs = all_of (take (ahead to cs) cs)

later-than : (to end : ℕ) → is_quiet to end ≡ true → to < end
later-than to end q = let least = leb-false end to (not-true (is_due to end) q) in omega arith

after-one : (n : ℕ) → suc n ≡ 1 + n
after-one n = omega arith

over-settled : (from n to : ℕ) (cs : List Chunk) → from ≤ to → AllByRecursion (IsBounded from n) cs → AllByRecursion (IsSettled from (to + 1)) (over to cs)
over-settled from n to [] le a = tt
over-settled from n to (c ∷ cs) le a =
    subst (λ k. AllByRecursion (IsSettled from (to + 1)) (all_of (take (cond (is_quiet to c.least) k 0) (c ∷ cs)))) (after-one (ahead to cs)) (go (is_quiet to c.least) refl (over-settled from n to cs le a.1))
  where
    go : (b : Bool) → is_quiet to c.least ≡ b → AllByRecursion (IsSettled from (to + 1)) (over to cs) → AllByRecursion (IsSettled from (to + 1)) (all_of (take (cond b (suc (ahead to cs)) 0) (c ∷ cs)))
    go true q rest =
        let late = later-than to c.least q in
        every-append (IsSettled from (to + 1)) c.entries.items (over to cs) (all-lower from c.least (to + 1) c.entries.items (omega arith) (a.0.settled (omega arith))) rest
    go false q rest = tt

over-bounded : (from n to : ℕ) (cs : List Chunk) → from ≤ to → AllByRecursion (IsBounded from n) cs → AllByRecursion (IsBounded to (to + 1)) (take (ahead to cs) cs)
over-bounded from n to [] le a = tt
over-bounded from n to (c ∷ cs) le a =
    subst (λ k. AllByRecursion (IsBounded to (to + 1)) (take (cond (is_quiet to c.least) k 0) (c ∷ cs))) (after-one (ahead to cs)) (go (is_quiet to c.least) refl (over-bounded from n to cs le a.1))
  where
    go : (b : Bool) → is_quiet to c.least ≡ b → AllByRecursion (IsBounded to (to + 1)) (take (ahead to cs) cs) → AllByRecursion (IsBounded to (to + 1)) (take (cond b (suc (ahead to cs)) 0) (c ∷ cs))
    go true q rest =
        let late = later-than to c.least q in
        (record { settled = λ h. all-later from c.least to c.entries.items le h (a.0.settled (omega arith)); least = omega arith }, rest)
    go false q rest = tt

pub next-ahead : (to : ℕ) (cs : List Chunk) (i : ℕ) → next_due (ends_of cs) i to ≡ i + ahead to (drop i cs)
next-ahead to cs i = ap (λ l. i + prefix_len (is_quiet to) l) (drop-map (λ (c : Chunk). c.least) i cs)

ahead-within : (to : ℕ) (cs : List Chunk) → ahead to cs ≤ length cs
ahead-within to cs = let most = prefix_len-le-length (is_quiet to) (ends_of cs) in let long = length-map cs (λ (c : Chunk). c.least) in omega arith

-- A search from the chunk i on passes over those before the chunk j.
pub record Skipped (from to : ℕ) (cs : List Chunk) (i j : ℕ) : Type 0 where
  pub onward : i ≤ j
  pub within : j ≤ length cs
  pub taken : all_of (take j cs) ≡ all_of (take i cs) ++ over to (drop i cs)
  pub left : all_of (drop i cs) ≡ over to (drop i cs) ++ all_of (drop j cs)
  pub settled : AllByRecursion (IsSettled from (to + 1)) (over to (drop i cs))
  pub bounded : AllByRecursion (IsBounded to (to + 1)) (take i cs) → AllByRecursion (IsBounded to (to + 1)) (take j cs)

pub skipped : (from n to : ℕ) (cs : List Chunk) (i j : ℕ) → from ≤ to → i ≤ length cs → AllByRecursion (IsBounded from n) (drop i cs) → j ≡ next_due (ends_of cs) i to → Skipped from to cs i j
skipped from n to cs i j le in_list a next =
    let rest = drop i cs in
    let k = ahead to rest in
    let at : j ≡ i + k = next ∙ next-ahead to cs i in
    let long : length rest + i ≡ length cs = rest-length cs i in_list in
    let most = ahead-within to rest in
    let front : take j cs ≡ take i cs ++ take k rest = ap (λ m. take m cs) at ∙ take-add i k cs in
    let back : drop k rest ≡ drop j cs = drop-drop k i cs ∙ ap (λ m. drop m cs) (sym at) in record {
      onward = omega arith;
      within = omega arith;
      taken = ap all_of front ∙ all-append (take i cs) (take k rest);
      left = ap all_of (sym (take-append-drop k rest)) ∙ all-append (take k rest) (drop k rest) ∙ ap (λ l. over to rest ++ all_of l) back;
      settled = over-settled from n to rest le a;
      bounded = λ b. subst (AllByRecursion (IsBounded to (to + 1))) (sym front) (every-append (IsBounded to (to + 1)) (take i cs) (take k rest) b (over-bounded from n to rest le a));
    }
  where
    rest-length : (l : List Chunk) (i : ℕ) → i ≤ length l → length (drop i l) + i ≡ length l
    rest-length l zero h = omega arith
    rest-length [] (suc i) h = absurd (omega arith)
    rest-length (x ∷ l) (suc i) h = let e = rest-length l i (omega arith) in omega arith

-- What holds of each chunk holds of each from an index on.
pub every-from : {X : Type 0} (P : X → Type 0) (xs : List X) (i : ℕ) → AllByRecursion P xs → AllByRecursion P (drop i xs)
every-from P xs i a = every-back P (take i xs) (drop i xs) (subst (AllByRecursion P) (sym (take-append-drop i xs)) a)

-- The chunk of an index.
pub chunk-at : (cs : List Chunk) (i : ℕ) → i < length cs → Chunk
chunk-at [] i h = absurd (omega arith)
chunk-at (c ∷ cs) zero h = c
chunk-at (c ∷ cs) (suc i) h = chunk-at cs i (omega arith)

-- ---- the least moment

least-lower : (m n : ℕ) (cs : List Chunk) → AllByRecursion (IsBounded m n) cs → AllByRecursion (IsBounded m (least_end (ends_of cs))) cs
least-lower m n [] a = tt
least-lower m n (c ∷ cs) a = (
  record { settled = a.0.settled; least = omega arith },
  every-weaker (IsBounded m (least_end (ends_of cs))) (IsBounded m (least_end (c.least ∷ ends_of cs))) (λ d w. record { settled = w.settled; least = (let l = w.least in omega arith) }) cs
      (least-lower m n cs a.1),
)

pub all-least : (m : ℕ) (cs : List Chunk) → AllByRecursion (IsBounded m (m + 1)) cs → AllByRecursion (IsBounded m (least_end (ends_of cs))) cs
all-least m cs a = least-lower m (m + 1) cs a

pub least-late : (m : ℕ) (cs : List Chunk) → m < 2 ^ 63 → AllByRecursion (IsBounded m (m + 1)) cs → m < least_end (ends_of cs)
least-late m [] small a = omega arith
least-late m (c ∷ cs) small a = let late = least-late m cs small a.1 in let own = a.0.least in omega arith

pub least-most : (ends : List ℕ) → least_end ends ≤ 0xFFFFFFFFFFFFFFFF
least-most [] = omega arith
least-most (end ∷ ends) = let rest = least-most ends in omega arith

-- ---- the moments as chunks change

pub insert-end : (cs : List Chunk) (i : ℕ) (x : Chunk) → ends_of (insert cs i x) ≡ insert (ends_of cs) i x.least
insert-end [] zero x = refl
insert-end [] (suc i) x = refl
insert-end (c ∷ cs) zero x = refl
insert-end (c ∷ cs) (suc i) x = ap (λ l. c.least ∷ l) (insert-end cs i x)

pub same-end : (cs : List Chunk) (i : ℕ) (x d : Chunk) → x.least ≡ (get_or cs i d).least → ends_of (slice_set cs i x) ≡ ends_of cs
same-end cs i x d same = map-set_same (λ (c : Chunk). c.least) cs i x d same

-- The moment of a chunk is noted.
pub noted-end : (cs : List Chunk) (ends : List ℕ) (i : ℕ) (x y : Chunk) → i < length cs → ends ≡ ends_of cs → slice_set ends i (get_or (slice_set cs i y) i x).least ≡ ends_of (slice_set cs i y)
noted-end cs ends i x y within same =
    ap (λ l. slice_set l i (get_or (slice_set cs i y) i x).least) same
    ∙ ap (λ (c : Chunk). slice_set (ends_of cs) i c.least) (there cs i within) ∙ sym (map-set (λ (c : Chunk). c.least) cs i y)
  where
    there : (l : List Chunk) (i : ℕ) → i < length l → get_or (slice_set l i y) i x ≡ y
    there [] i h = absurd (omega arith)
    there (c ∷ l) zero h = refl
    there (c ∷ l) (suc i) h = there l i (omega arith)

-- What stands behind an index stands behind a later one.
pub drop-further : (cs ds : List Chunk) (i j : ℕ) → i ≤ j → drop i cs ≡ drop i ds → drop j cs ≡ drop j ds
drop-further cs ds i j le same =
    let at : j ≡ i + (j - i) = omega arith in
    ap (λ m. drop m cs) at ∙ sym (drop-drop (j - i) i cs) ∙ ap (drop (j - i)) same ∙ drop-drop (j - i) i ds ∙ ap (λ m. drop m ds) (sym at)

pub fewer-filled : (cs : List Chunk) → length (filter is_filled cs) ≤ length cs
fewer-filled [] = omega arith
fewer-filled (c ∷ cs) = go (is_filled c) (fewer-filled cs)
  where
    go : (b : Bool) → length (filter is_filled cs) ≤ length cs → length (cond b (c ∷ filter is_filled cs) (filter is_filled cs)) ≤ length (c ∷ cs)
    go true m = omega arith
    go false m = omega arith

-- Where as many chunks are filled as there are, all are.
pub filled-same : (cs : List Chunk) → length cs ≤ length (filter is_filled cs) → filter is_filled cs ≡ cs
filled-same [] h = refl
filled-same (c ∷ cs) h = go (is_filled c) h (filled-same cs) (fewer-filled cs)
  where
    go : (b : Bool) → length (c ∷ cs) ≤ length (cond b (c ∷ filter is_filled cs) (filter is_filled cs)) → (length cs ≤ length (filter is_filled cs) → filter is_filled cs ≡ cs) → length (filter is_filled cs) ≤ length cs →
        cond b (c ∷ filter is_filled cs) (filter is_filled cs) ≡ c ∷ cs
    go true k same m = ap (λ l. c ∷ l) (same (omega arith))
    go false k same m = absurd (omega arith)
