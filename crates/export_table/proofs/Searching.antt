-- A search by number among rows whose numbers rise.
use Rattle.std.proofs.Common.{◌≡◌, ℕ, ◌<◌, List, [], ◌∷◌, length, take, drop, get_or, refl, ap, sym, ◌∙◌, arith, cond, suc, zero}
use Rattle.std.specs.Prelude.{ℤ, Bool, true, false, not, int_lt}
use Rattle.std.specs.List.{list_all}
use Rattle.std.specs.Ordering.{int_cmp}
use Rattle.std.specs.declared.cmp.Ordering.TheVariants.{Less, Equal, Greater}
use Rattle.std.proofs.lemmas.Bool.{and_parts, and_from, not-true}
use Rattle.std.proofs.lemmas.Cmp.{int_cmp_total}
use Rattle.object_ids.specs.declared.ids.ObjId.{ObjId}
use Rattle.object_ids.proofs.Exact.{same_id-equal}
use Rattle.dgc_server.proofs.HolderLaws.{no_id}
use Rattle.export_table.specs.declared.rows.Export.{Export}
use Rattle.export_table.specs.ExportRows.{is_of, is_exported, ids, is_rising}
use Rattle.export_table.proofs.Places.{not_below}

lt-less : (a b : ℤ) → int_lt a b ≡ true → int_cmp a b ≡ Less
lt-less a b e = ap (λ v. cond v Less (cond (int_lt b a) Greater Equal)) e

less-lt : (a b : ℤ) → int_cmp a b ≡ Less → int_lt a b ≡ true
less-lt a b h = go (int_lt a b) (int_lt b a) h
  where
    go : (x y : Bool) → cond x Less (cond y Greater Equal) ≡ Less → x ≡ true
    go true y e = refl
    go false true e = absurd (cc)
    go false false e = absurd (cc)

-- What is below what is below.
lt-trans : (a b c : ℤ) → int_lt a b ≡ true → int_lt b c ≡ true → int_lt a c ≡ true
lt-trans a b c p q = less-lt a c (int_cmp_total.trans a b c (lt-less a b p) (lt-less b c q))

-- The numbers of these rows are below this one, or none is.
abbrev pub all_below : ℤ → List Export → Bool
all_below n rows = list_all (λ o. int_lt o.number n) (ids rows)

abbrev pub none_below : ℤ → List Export → Bool
none_below n rows = list_all (λ o. not (int_lt o.number n)) (ids rows)

rising-at : (x : Export) (rows : List Export) (i : ℕ) (d : Export) → list_all (λ p. int_lt x.id.number p.number) (ids rows) ≡ true → i < length rows → int_lt x.id.number (get_or rows i d).id.number ≡ true
rising-at x [] i d h w = absurd (omega arith)
rising-at x (y ∷ rows) zero d h w = (and_parts (int_lt x.id.number y.id.number) (list_all (λ p. int_lt x.id.number p.number) (ids rows)) h).0
rising-at x (y ∷ rows) (suc i) d h w = rising-at x rows i d (and_parts (int_lt x.id.number y.id.number) (list_all (λ p. int_lt x.id.number p.number) (ids rows)) h).1 (omega arith)

-- Up to a row that is below all are.
pub below-to : (n : ℤ) (rows : List Export) (i : ℕ) (d : Export) → is_rising (ids rows) ≡ true → i < length rows → int_lt (get_or rows i d).id.number n ≡ true → all_below n (take (suc i) rows) ≡ true
below-to n [] i d r w b = absurd (omega arith)
below-to n (x ∷ rows) zero d r w b = rw b refl
below-to n (x ∷ rows) (suc i) d r w b =
    let two = and_parts (list_all (λ p. int_lt x.id.number p.number) (ids rows)) (is_rising (ids rows)) r in
    and_from (int_lt x.id.number n) (all_below n (take (suc i) rows))
    (lt-trans x.id.number (get_or rows i d).id.number n (rising-at x rows i d two.0 (omega arith)) b) (below-to n rows i d two.1 (omega arith) b)

above : (n : ℤ) (x : Export) (rows : List Export) → int_lt x.id.number n ≡ false → list_all (λ p. int_lt x.id.number p.number) (ids rows) ≡ true → none_below n rows ≡ true
above n x [] f h = refl
above n x (y ∷ rows) f h =
    let two = and_parts (int_lt x.id.number y.id.number) (list_all (λ p. int_lt x.id.number p.number) (ids rows)) h in
    and_from (not (int_lt y.id.number n)) (none_below n rows) (go (int_lt y.id.number n) refl two.0) (above n x rows f two.1)
  where
    go : (b : Bool) → int_lt y.id.number n ≡ b → int_lt x.id.number y.id.number ≡ true → not b ≡ true
    go false e l = refl
    go true e l = absurd (let never = lt-trans x.id.number y.id.number n l e in cc)

-- From a row that is not below on none is.
pub above-from : (n : ℤ) (rows : List Export) (i : ℕ) (d : Export) → is_rising (ids rows) ≡ true → i < length rows → int_lt (get_or rows i d).id.number n ≡ false → none_below n (drop i rows) ≡ true
above-from n [] i d r w f = absurd (omega arith)
above-from n (x ∷ rows) zero d r w f =
    let two = and_parts (list_all (λ p. int_lt x.id.number p.number) (ids rows)) (is_rising (ids rows)) r in
    and_from (not (int_lt x.id.number n)) (none_below n rows) (ap not f) (above n x rows f two.0)
above-from n (x ∷ rows) (suc i) d r w f =
    above-from n rows i d (and_parts (list_all (λ p. int_lt x.id.number p.number) (ids rows)) (is_rising (ids rows)) r).1 (omega arith) f

-- A row with a number below an object's is not its row.
other-below : (o : ObjId) (x : Export) → int_lt x.id.number o.number ≡ true → is_of o x ≡ false
other-below o x l = go (is_of o x) refl
  where
    go : (b : Bool) → is_of o x ≡ b → b ≡ false
    go false e = refl
    go true e = absurd (
        let less : int_lt o.number o.number ≡ true = sym (ap (λ (p : ObjId). int_lt p.number o.number) (same_id-equal x.id o e)) ∙ l in
        let never = not_below o.number in cc)

pub below-none : (o : ObjId) (rows : List Export) → all_below o.number rows ≡ true → is_exported rows o ≡ false
below-none o [] h = refl
below-none o (x ∷ rows) h =
    let two = and_parts (int_lt x.id.number o.number) (all_below o.number rows) h in
    rw (other-below o x two.0) (below-none o rows two.1)

-- A row that comes after one that is not below an object is not its row.
after-none : (o : ObjId) (x : Export) (rows : List Export) → int_lt x.id.number o.number ≡ false → list_all (λ p. int_lt x.id.number p.number) (ids rows) ≡ true → is_exported rows o ≡ false
after-none o x [] f h = refl
after-none o x (y ∷ rows) f h =
    let two = and_parts (int_lt x.id.number y.id.number) (list_all (λ p. int_lt x.id.number p.number) (ids rows)) h in
    rw (go (is_of o y) refl two.0) (after-none o x rows f two.1)
  where
    go : (b : Bool) → is_of o y ≡ b → int_lt x.id.number y.id.number ≡ true → b ≡ false
    go false e l = refl
    go true e l = absurd (let less : int_lt x.id.number o.number ≡ true = sym (ap (λ (p : ObjId). int_lt x.id.number p.number) (same_id-equal y.id o e)) ∙ l in cc)

-- A row to name where a list has none.
abbrev pub no_row : Export
no_row = record { id = no_id; kind = 0; pinned = false; running = 0; pins = 0 }

-- Where the first row that is not below is not the object's, none is.
pub missing : (o : ObjId) (rows : List Export) (i : ℕ) (d : Export) → is_rising (ids rows) ≡ true → all_below o.number (take i rows) ≡ true → none_below o.number (drop i rows) ≡ true →
    (i < length rows → is_of o (get_or rows i d) ≡ false) → is_exported rows o ≡ false
missing o [] i d r b a n = refl
missing o (x ∷ rows) zero d r b a n =
    let two = and_parts (list_all (λ p. int_lt x.id.number p.number) (ids rows)) (is_rising (ids rows)) r in
    let from = and_parts (not (int_lt x.id.number o.number)) (none_below o.number rows) a in
    rw (n (omega arith)) (after-none o x rows (not-true (int_lt x.id.number o.number) from.0) two.0)
missing o (x ∷ rows) (suc i) d r b a n =
    let two = and_parts (int_lt x.id.number o.number) (all_below o.number (take i rows)) b in
    rw (other-below o x two.0)
    (missing o rows i d (and_parts (list_all (λ p. int_lt x.id.number p.number) (ids rows)) (is_rising (ids rows)) r).1 two.1 a (λ w. n (omega arith)))
