-- What is given of bytes that were read ahead.
use Rattle.std.proofs.Common.{◌≡◌, ℕ, ◌+◌, ◌-◌, ◌≤◌, List, [], ◌++◌, take, drop, slice_range, Option, sym, ap, ◌∙◌, arith, take-append-drop, drop-drop}
use Rattle.std.proofs.lemmas.List.{drop-take}
use Rattle.std.proofs.KnownBytes.{prepend_known-nil}
use Rattle.std.specs.Io.KnownBytes.{prepend_known}

-- A part of a list is its first n items, and then its others.
pub part_front : (items : List ℕ) (start end n : ℕ) → n ≤ end - start
    → slice_range items start end ≡ take n (slice_range items start end) ++ slice_range items (start + n) end
part_front items start end n within =
    let part : List ℕ = slice_range items start end in
    let whole : n + (end - (start + n)) ≡ end - start = omega arith in
    sym (take-append-drop n part) ∙ ap (λ xs. take n part ++ xs)
    (ap (λ k. drop n (take k (drop start items))) (sym whole) ∙ drop-take n (end - (start + n)) (drop start items) ∙ ap (take (end - (start + n))) (drop-drop n start items))

-- Where none was read ahead, what is left is what the reader has left.
pub none_ahead : (items : List ℕ) (start end : ℕ) (left : Option (List ℕ)) → end ≤ start → prepend_known (slice_range items start end) left ≡ left
none_ahead items start end left given =
    let none : slice_range items start end ≡ [] = ap (λ n. take n (drop start items)) {y = 0} (omega arith) in
    ap (λ bytes. prepend_known bytes left) none ∙ prepend_known-nil left
