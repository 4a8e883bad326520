-- Signed numbers from bytes, the highest byte first.
use Rattle.std.proofs.Common.{◌≡◌, ℕ, zero, suc, ◌+◌, ◌*◌, ◌≤◌, ◌<◌, ◌^◌, List, [], ◌∷◌, ◌++◌, length, take, drop, get_or, map, Fits, ℤ, refl, sym, ap, ap₂, set, of_z, ◌∙◌, subst, arith, to_z, w8, w32, w64}
use Rattle.std.specs.Int.{Width, byte_len, from_be_bytes}
use Rattle.std.specs.List.{range_with_len}
use Rattle.std.proofs.lemmas.List.{drop-drop, get_or-take, get_or-drop, length-drop, length-map, take_more_set}
use Rattle.std.proofs.lemmas.Int.{of_z-to_z}
use Rattle.std.proofs.lemmas.Simd.{length-chunk, chunk-drop, get_or-chunk, take_more_put_chunk, pick_l_whole, pick_l_left, get_or_wider}
use lib.Lanes.{Each1, chunk, pick_l, number_l, digits_l, all_below, put_chunk}
use lib.Dec.{T}
use Rattle.lane_kernels.specs.Kernels.{signed_word, signed_words}

-- ---- one after the other

pub words_more : (w : Width) (n m : ℕ) (bs : List ℕ) → signed_words w (n + m) bs ≡ signed_words w n bs ++ signed_words w m (drop (n * byte_len w) bs)
unfolding signed_words
words_more w zero m bs = let k : zero * byte_len w ≡ 0 = omega arith in let j : zero + m ≡ m = omega arith in rw (k, j) refl
words_more w (suc n) m bs =
    let k : suc n + m ≡ suc (n + m) = omega arith in
    let j : suc n * byte_len w ≡ byte_len w + n * byte_len w = omega arith in
    rw (k, j, ← drop-drop (n * byte_len w) (byte_len w) bs) (ap (λ xs. signed_word w (take (byte_len w) bs) ∷ xs) (words_more w n m (drop (byte_len w) bs)))

turned4 : (a b c d : ℕ) → number_l 256 (d ∷ c ∷ b ∷ a ∷ []) ≡ from_be_bytes w32 (a ∷ b ∷ c ∷ d ∷ [])
turned4 a b c d = omega arith

turned8 : (a b c d e f g h : ℕ) → number_l 256 (h ∷ g ∷ f ∷ e ∷ d ∷ c ∷ b ∷ a ∷ []) ≡ from_be_bytes w64 (a ∷ b ∷ c ∷ d ∷ e ∷ f ∷ g ∷ h ∷ [])
turned8 a b c d e f g h = omega arith

-- ---- sixteen bytes at once

-- ---- each number is signed

below32 : (bs : List ℕ) → ((k : ℕ) → k < 4 → get_or bs k 0 < 256) → from_be_bytes w32 bs < 2 ^ 32
below32 bs fits = omega (arith, fits 0 (omega arith), fits 1 (omega arith), fits 2 (omega arith), fits 3 (omega arith))

-- the bytes from an index on
pub word32 : (bs : List ℕ) (at : ℕ) → at + 4 ≤ length bs → from_be_bytes w32 (get_or bs at 0 ∷ get_or bs (at + 1) 0 ∷ get_or bs (at + 2) 0 ∷ get_or bs (at + 3) 0 ∷ []) ≡ from_be_bytes w32 (take 4 (drop at bs))
word32 bs at room =
    let first : get_or (take 4 (drop at bs)) 0 0 ≡ get_or bs at 0 = get_or-chunk at 4 bs 0 0 (omega arith) ∙ ap (λ n. get_or bs n 0) (omega arith) in
    omega (arith, first, get_or-chunk at 4 bs 1 0 (omega arith), get_or-chunk at 4 bs 2 0 (omega arith), get_or-chunk at 4 bs 3 0 (omega arith))

-- One number more was read.
pub pushed32 : (bs : List ℕ) (old : List ℤ) (i : ℕ) (x : ℤ) → i < length old → 4 * i + 4 ≤ length bs → take i old ≡ signed_words w32 i bs
    → x ≡ signed_word w32 (take 4 (drop (4 * i) bs)) → ((k : ℕ) → Fits w8 (get_or bs k 0))
    → take (i + 1) (set old i (to_z w32 (of_z w32 x))) ≡ signed_words w32 (i + 1) bs
unfolding signed_words
pushed32 bs old i x here room before is fits =
    let small : from_be_bytes w32 (take 4 (drop (4 * i) bs)) < 2 ^ 32 = below32 (take 4 (drop (4 * i) bs)) (λ k lt. subst (λ b. b < 256) (sym (get_or-chunk (4 * i) 4 bs k 0 lt)) (fits (4 * i + k)).fits) in
    let kept : to_z w32 (of_z w32 x) ≡ signed_word w32 (take 4 (drop (4 * i) bs)) = ap (λ z. to_z w32 (of_z w32 z)) is ∙ ap (to_z w32) (of_z-to_z w32 _ small) in
    let j : i * 4 ≡ 4 * i = omega arith in
    take_more_set old i (to_z w32 (of_z w32 x)) here ∙ ap₂ (λ xs y. xs ++ y ∷ []) before kept ∙ ap (λ n. signed_words w32 i bs ++ signed_word w32 (take 4 (drop n bs)) ∷ []) (sym j) ∙ sym (words_more w32 i 1 bs)

kept32 : (n : ℕ) (bs : List ℕ) → n * 4 ≤ length bs → ((k : ℕ) → Fits w8 (get_or bs k 0)) → map (to_z w32) (map (of_z w32) (signed_words w32 n bs)) ≡ signed_words w32 n bs
unfolding signed_words
kept32 zero bs room fits = refl
kept32 (suc n) bs room fits =
    let small : from_be_bytes w32 (take 4 bs) < 2 ^ 32 = below32 (take 4 bs) (λ k lt. subst (λ b. b < 256) (sym (get_or-take 4 bs k 0 lt)) (fits k).fits) in
    let behind : (k : ℕ) → Fits w8 (get_or (drop 4 bs) k 0) = λ k. subst (λ b. Fits w8 b) (sym (get_or-drop 4 bs k 0)) (fits (4 + k)) in
    ap₂ (λ (x : ℤ) (xs : List ℤ). x ∷ xs) (ap (to_z w32) (of_z-to_z w32 _ small)) (kept32 n (drop 4 bs) (omega (arith, length-drop 4 bs)) behind)

-- Several numbers more were read.
pub stored32 : (n : ℕ) (bs : List ℕ) (old xs : List ℤ) (i : ℕ) → i + n ≤ length old → 4 * i + n * 4 ≤ length bs → take i old ≡ signed_words w32 i bs
    → xs ≡ signed_words w32 n (drop (4 * i) bs) → length xs ≡ n → ((k : ℕ) → Fits w8 (get_or bs k 0))
    → take (i + n) (put_chunk i old (map (to_z w32) (map (of_z w32) xs))) ≡ signed_words w32 (i + n) bs
stored32 n bs old xs i here room before is long fits =
    let ys = map (to_z w32) (map (of_z w32) xs) in
    let len : i + n ≡ i + length ys = omega (arith, length-map (map (of_z w32) xs) (to_z w32), length-map xs (of_z w32)) in
    let behind : (k : ℕ) → Fits w8 (get_or (drop (4 * i) bs) k 0) = λ k. subst (λ b. Fits w8 b) (sym (get_or-drop (4 * i) bs k 0)) (fits (4 * i + k)) in
    let same : ys ≡ signed_words w32 n (drop (4 * i) bs) = ap (λ zs. map (to_z w32) (map (of_z w32) zs)) is ∙ kept32 n (drop (4 * i) bs) (omega (arith, length-drop (4 * i) bs)) behind in
    let j : 4 * i ≡ i * 4 = omega arith in
    take_more_put_chunk i old ys (i + n) len here ∙ ap₂ (λ (a b : List ℤ). a ++ b) before same ∙ ap (λ m. signed_words w32 i bs ++ signed_words w32 n (drop m bs)) j ∙ sym (words_more w32 i n bs)

below64 : (bs : List ℕ) → ((k : ℕ) → k < 8 → get_or bs k 0 < 256) → from_be_bytes w64 bs < 2 ^ 64
below64 bs fits = omega (arith, fits 0 (omega arith), fits 1 (omega arith), fits 2 (omega arith), fits 3 (omega arith), fits 4 (omega arith), fits 5 (omega arith), fits 6 (omega arith), fits 7 (omega arith))

-- the bytes from an index on
pub word64 : (bs : List ℕ) (at : ℕ) → at + 8 ≤ length bs → from_be_bytes w64 (get_or bs at 0 ∷ get_or bs (at + 1) 0 ∷ get_or bs (at + 2) 0 ∷ get_or bs (at + 3) 0 ∷ get_or bs (at + 4) 0 ∷ get_or bs (at + 5) 0 ∷ get_or bs (at + 6) 0 ∷ get_or bs (at + 7) 0 ∷ []) ≡ from_be_bytes w64 (take 8 (drop at bs))
word64 bs at room =
    let first : get_or (take 8 (drop at bs)) 0 0 ≡ get_or bs at 0 = get_or-chunk at 8 bs 0 0 (omega arith) ∙ ap (λ n. get_or bs n 0) (omega arith) in
    omega (arith, first, get_or-chunk at 8 bs 1 0 (omega arith), get_or-chunk at 8 bs 2 0 (omega arith), get_or-chunk at 8 bs 3 0 (omega arith), get_or-chunk at 8 bs 4 0 (omega arith), get_or-chunk at 8 bs 5 0 (omega arith), get_or-chunk at 8 bs 6 0 (omega arith), get_or-chunk at 8 bs 7 0 (omega arith))

-- One number more was read.
pub pushed64 : (bs : List ℕ) (old : List ℤ) (i : ℕ) (x : ℤ) → i < length old → 8 * i + 8 ≤ length bs → take i old ≡ signed_words w64 i bs
    → x ≡ signed_word w64 (take 8 (drop (8 * i) bs)) → ((k : ℕ) → Fits w8 (get_or bs k 0))
    → take (i + 1) (set old i (to_z w64 (of_z w64 x))) ≡ signed_words w64 (i + 1) bs
unfolding signed_words
pushed64 bs old i x here room before is fits =
    let small : from_be_bytes w64 (take 8 (drop (8 * i) bs)) < 2 ^ 64 = below64 (take 8 (drop (8 * i) bs)) (λ k lt. subst (λ b. b < 256) (sym (get_or-chunk (8 * i) 8 bs k 0 lt)) (fits (8 * i + k)).fits) in
    let kept : to_z w64 (of_z w64 x) ≡ signed_word w64 (take 8 (drop (8 * i) bs)) = ap (λ z. to_z w64 (of_z w64 z)) is ∙ ap (to_z w64) (of_z-to_z w64 _ small) in
    let j : i * 8 ≡ 8 * i = omega arith in
    take_more_set old i (to_z w64 (of_z w64 x)) here ∙ ap₂ (λ xs y. xs ++ y ∷ []) before kept ∙ ap (λ n. signed_words w64 i bs ++ signed_word w64 (take 8 (drop n bs)) ∷ []) (sym j) ∙ sym (words_more w64 i 1 bs)

kept64 : (n : ℕ) (bs : List ℕ) → n * 8 ≤ length bs → ((k : ℕ) → Fits w8 (get_or bs k 0)) → map (to_z w64) (map (of_z w64) (signed_words w64 n bs)) ≡ signed_words w64 n bs
unfolding signed_words
kept64 zero bs room fits = refl
kept64 (suc n) bs room fits =
    let small : from_be_bytes w64 (take 8 bs) < 2 ^ 64 = below64 (take 8 bs) (λ k lt. subst (λ b. b < 256) (sym (get_or-take 8 bs k 0 lt)) (fits k).fits) in
    let behind : (k : ℕ) → Fits w8 (get_or (drop 8 bs) k 0) = λ k. subst (λ b. Fits w8 b) (sym (get_or-drop 8 bs k 0)) (fits (8 + k)) in
    ap₂ (λ (x : ℤ) (xs : List ℤ). x ∷ xs) (ap (to_z w64) (of_z-to_z w64 _ small)) (kept64 n (drop 8 bs) (omega (arith, length-drop 8 bs)) behind)

-- Several numbers more were read.
pub stored64 : (n : ℕ) (bs : List ℕ) (old xs : List ℤ) (i : ℕ) → i + n ≤ length old → 8 * i + n * 8 ≤ length bs → take i old ≡ signed_words w64 i bs
    → xs ≡ signed_words w64 n (drop (8 * i) bs) → length xs ≡ n → ((k : ℕ) → Fits w8 (get_or bs k 0))
    → take (i + n) (put_chunk i old (map (to_z w64) (map (of_z w64) xs))) ≡ signed_words w64 (i + n) bs
stored64 n bs old xs i here room before is long fits =
    let ys = map (to_z w64) (map (of_z w64) xs) in
    let len : i + n ≡ i + length ys = omega (arith, length-map (map (of_z w64) xs) (to_z w64), length-map xs (of_z w64)) in
    let behind : (k : ℕ) → Fits w8 (get_or (drop (8 * i) bs) k 0) = λ k. subst (λ b. Fits w8 b) (sym (get_or-drop (8 * i) bs k 0)) (fits (8 * i + k)) in
    let same : ys ≡ signed_words w64 n (drop (8 * i) bs) = ap (λ zs. map (to_z w64) (map (of_z w64) zs)) is ∙ kept64 n (drop (8 * i) bs) (omega (arith, length-drop (8 * i) bs)) behind in
    let j : 8 * i ≡ i * 8 = omega arith in
    take_more_put_chunk i old ys (i + n) len here ∙ ap₂ (λ (a b : List ℤ). a ++ b) before same ∙ ap (λ m. signed_words w64 i bs ++ signed_words w64 n (drop m bs)) j ∙ sym (words_more w64 i n bs)

each_picked : (bs ks : List ℕ) → ((k : ℕ) → Fits w8 (get_or bs k 0)) → Each1 (λ x. x < 256) (pick_l 0 bs ks)
each_picked bs [] fits = tt
each_picked bs (k ∷ ks) fits = ((fits k).fits, each_picked bs ks fits)

-- what is picked of the front is picked of the whole
picked_front : (bs ks : List ℕ) → 16 ≤ length bs → T (all_below 16 ks) → pick_l 0 (take 16 bs) ks ≡ pick_l 0 bs ks
picked_front bs ks room below =
    let long = length-chunk 0 16 bs room in
    sym (pick_l_left 0 (take 16 bs) (drop 16 bs) 16 ks long below) ∙ ap (λ xs. pick_l 0 xs ks) (sym (chunk-drop 0 16 bs))

-- the first sixteen, one by one
listed : (bs : List ℕ) → 16 ≤ length bs → bs ≡ pick_l 0 bs (range_with_len 0 16) ++ drop 16 bs
listed bs room =
    let long = length-chunk 0 16 bs room in
    chunk-drop 0 16 bs ∙ ap (λ xs. xs ++ drop 16 bs) (sym (pick_l_whole 0 (take 16 bs) 16 long) ∙ picked_front bs (range_with_len 0 16) room tt)

abbrev pub order32 : List ℕ
order32 = 3 ∷ 2 ∷ 1 ∷ 0 ∷ 7 ∷ 6 ∷ 5 ∷ 4 ∷ 11 ∷ 10 ∷ 9 ∷ 8 ∷ 15 ∷ 14 ∷ 13 ∷ 12 ∷ []

same4 : (f : ℕ → ℤ) (x0 x1 x2 x3 y0 y1 y2 y3 : ℕ) → x0 ≡ y0 → x1 ≡ y1 → x2 ≡ y2 → x3 ≡ y3 → f x0 ∷ f x1 ∷ f x2 ∷ f x3 ∷ [] ≡ f y0 ∷ f y1 ∷ f y2 ∷ f y3 ∷ []
same4 f x0 x1 x2 x3 y0 y1 y2 y3 e0 e1 e2 e3 = rw (e0, e1, e2, e3) refl

pub lanes32 : (bs : List ℕ) → 16 ≤ length bs → ((k : ℕ) → Fits w8 (get_or bs k 0))
    → map (to_z w32) (digits_l (2 ^ 32) 4 (number_l 256 (pick_l 0 (take 16 bs ++ take 16 bs) order32))) ≡ signed_words w32 4 bs
unfolding signed_words
lanes32 bs room fits =
    let long = length-chunk 0 16 bs room in
    let v = take 16 bs in
    let t = pick_l 0 bs order32 in
    let turned : pick_l 0 (v ++ v) order32 ≡ t = pick_l_left 0 v v 16 order32 long tt ∙ picked_front bs order32 room tt in
    let each = each_picked bs order32 fits in
    let g : ℕ → ℕ = λ k. get_or bs k 0 in
    let word : (j : ℕ) → j < 4 → get_or (digits_l (2 ^ 32) 4 (number_l 256 t)) j 0 ≡ number_l 256 (chunk (4 * j) 4 t) = λ j lt. get_or_wider 256 4 (2 ^ 32) 4 t j refl each lt in
    ap (λ xs. map (to_z w32) (digits_l (2 ^ 32) 4 (number_l 256 xs))) turned
    ∙ same4 (to_z w32) _ _ _ _ _ _ _ _ (word 0 (omega arith) ∙ turned4 (g 0) (g 1) (g 2) (g 3)) (word 1 (omega arith) ∙ turned4 (g 4) (g 5) (g 6) (g 7)) (word 2 (omega arith) ∙ turned4 (g 8) (g 9) (g 10) (g 11)) (word 3 (omega arith) ∙ turned4 (g 12) (g 13) (g 14) (g 15))
    ∙ ap (signed_words w32 4) (sym (listed bs room))

abbrev pub order64 : List ℕ
order64 = 7 ∷ 6 ∷ 5 ∷ 4 ∷ 3 ∷ 2 ∷ 1 ∷ 0 ∷ 15 ∷ 14 ∷ 13 ∷ 12 ∷ 11 ∷ 10 ∷ 9 ∷ 8 ∷ []

same2 : (f : ℕ → ℤ) (x0 x1 y0 y1 : ℕ) → x0 ≡ y0 → x1 ≡ y1 → f x0 ∷ f x1 ∷ [] ≡ f y0 ∷ f y1 ∷ []
same2 f x0 x1 y0 y1 e0 e1 = rw (e0, e1) refl

pub lanes64 : (bs : List ℕ) → 16 ≤ length bs → ((k : ℕ) → Fits w8 (get_or bs k 0))
    → map (to_z w64) (digits_l (2 ^ 64) 2 (number_l 256 (pick_l 0 (take 16 bs ++ take 16 bs) order64))) ≡ signed_words w64 2 bs
unfolding signed_words
lanes64 bs room fits =
    let long = length-chunk 0 16 bs room in
    let v = take 16 bs in
    let t = pick_l 0 bs order64 in
    let turned : pick_l 0 (v ++ v) order64 ≡ t = pick_l_left 0 v v 16 order64 long tt ∙ picked_front bs order64 room tt in
    let each = each_picked bs order64 fits in
    let g : ℕ → ℕ = λ k. get_or bs k 0 in
    let word : (j : ℕ) → j < 2 → get_or (digits_l (2 ^ 64) 2 (number_l 256 t)) j 0 ≡ number_l 256 (chunk (8 * j) 8 t) = λ j lt. get_or_wider 256 8 (2 ^ 64) 2 t j refl each lt in
    ap (λ xs. map (to_z w64) (digits_l (2 ^ 64) 2 (number_l 256 xs))) turned
    ∙ same2 (to_z w64) _ _ _ _ (word 0 (omega arith) ∙ turned8 (g 0) (g 1) (g 2) (g 3) (g 4) (g 5) (g 6) (g 7)) (word 1 (omega arith) ∙ turned8 (g 8) (g 9) (g 10) (g 11) (g 12) (g 13) (g 14) (g 15))
    ∙ ap (signed_words w64 2) (sym (listed bs room))
