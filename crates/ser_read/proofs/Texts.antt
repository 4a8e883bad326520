-- Texts by runs: a plain run, and what lies between it and the next.
use Rattle.std.proofs.Common.{◌≡◌, ℕ, suc, ◌+◌, ◌<◌, ◌&&◌, leb, cond, not, Bool, true, false, List, [], ◌∷◌, ◌++◌, length, take, drop, inl, refl, sym, ap, subst, ◌∙◌, arith, append_assoc}
use Rattle.std.specs.List.{prefix_len}
use Rattle.std.proofs.lemmas.Bool.{leb-true}
use Rattle.std.proofs.lemmas.List.{take_all}
use Rattle.std.proofs.Math.Seq.{take-add}
use Rattle.lane_kernels.specs.Kernels.{is_plain}
use Rattle.mod_utf.specs.Utf.{Utf}

-- Two texts, and their bytes one after the other.
pub joined : (us vs front bs : List ℕ) → Utf us front → Utf vs bs → Utf (us ++ vs) (front ++ bs)
joined [] vs front bs is more = rw is more
joined (u ∷ us) vs front bs (first, rest, one, h, is) more = (first, rest ++ bs, one, joined us vs rest bs h more, ap (λ xs. xs ++ bs) is ∙ append_assoc first rest bs)

both : (a b : Bool) → a && b ≡ true → (a ≡ true) × (b ≡ true)
both true true e = (refl, refl)
both true false e = (refl, e)
both false b e = (e, absurd (cc))

-- A plain run is a text of the same numbers.
pub plain_text : (bs : List ℕ) → Utf (take (prefix_len is_plain bs) bs) (take (prefix_len is_plain bs) bs)
plain_text [] = refl
plain_text (b ∷ bs) = go (is_plain b) refl (plain_text bs)
  where
    go : (t : Bool) → is_plain b ≡ t → Utf (take (prefix_len is_plain bs) bs) (take (prefix_len is_plain bs) bs)
        → Utf (take (cond t (1 + prefix_len is_plain bs) 0) (b ∷ bs)) (take (cond t (1 + prefix_len is_plain bs) 0) (b ∷ bs))
    go true is rest =
        let k : 1 + prefix_len is_plain bs ≡ suc (prefix_len is_plain bs) = omega arith in
        let low = both (leb 1 b) (leb b 127) is in
        rw k (b ∷ [], take (prefix_len is_plain bs) bs, inl (record { above = leb-true 1 b low.0; below = omega (arith, leb-true b 127 low.1); spelled = refl }), rest, refl)
    go false is rest = refl

pub all_plain : (bs : List ℕ) → prefix_len is_plain bs ≡ length bs → Utf bs bs
all_plain bs whole = subst (λ (xs : List ℕ). Utf xs xs) (ap (λ n. take n bs) whole ∙ take_all (length bs) bs (omega arith)) (plain_text bs)

-- A plain run and the run of others behind it are not both empty.
pub some_run : (bs : List ℕ) → 0 < length bs → 0 < prefix_len is_plain bs + prefix_len (λ b. not (is_plain b)) (drop (prefix_len is_plain bs) bs)
some_run [] h = absurd (omega arith)
some_run (b ∷ bs) h = go (is_plain b) refl
  where
    go : (t : Bool) → is_plain b ≡ t → 0 < cond t (1 + prefix_len is_plain bs) 0 + prefix_len (λ b. not (is_plain b)) (drop (cond t (1 + prefix_len is_plain bs) 0) (b ∷ bs))
    go true is = omega arith
    go false is = rw is (omega arith)

-- A plain run, and a text behind it.
pub run_text : (bs old mid new text : List ℕ) (n m : ℕ) → n ≡ prefix_len is_plain bs → mid ≡ old ++ take n bs → Utf text (take m (drop n bs)) → new ≡ mid ++ text
    → (text : List ℕ) × Utf text (take (n + m) bs) × (new ≡ old ++ text)
run_text bs old mid new text n m is plain more so = (
  take n bs ++ text,
  subst (λ (xs : List ℕ). Utf (take n bs ++ text) xs) (sym (take-add n m bs)) (joined (take n bs) text (take n bs) (take m (drop n bs)) (subst (λ k. Utf (take k bs) (take k bs)) (sym is) (plain_text bs)) more),
  so ∙ ap (λ (xs : List ℕ). xs ++ text) plain ∙ append_assoc old (take n bs) text,
)

-- A text, and one more behind it.
pub more_text : (bs old mid new text more : List ℕ) (n m : ℕ) → Utf text (take n bs) → mid ≡ old ++ text → Utf more (take m (drop n bs)) → new ≡ mid ++ more
    → (text : List ℕ) × Utf text (take (n + m) bs) × (new ≡ old ++ text)
more_text bs old mid new text more n m one is two so = (
  text ++ more,
  subst (λ (xs : List ℕ). Utf (text ++ more) xs) (sym (take-add n m bs)) (joined text more (take n bs) (take m (drop n bs)) one two),
  so ∙ ap (λ (xs : List ℕ). xs ++ more) is ∙ append_assoc old text more,
)
