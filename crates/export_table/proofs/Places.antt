-- Numbers of rows that rise, and rows without an object.
use Rattle.std.proofs.Common.{◌≡◌, List, [], ◌∷◌, refl, ap, sym, ◌∙◌, cond, Some, None}
use Rattle.std.specs.Prelude.{ℤ, Bool, true, false, ◌||◌, int_lt, if◌then◌else◌}
use Rattle.std.specs.List.{list_all}
use Rattle.std.specs.Ordering.{int_cmp}
use Rattle.std.specs.declared.cmp.Ordering.TheVariants.{Less, Equal, Greater}
use Rattle.std.proofs.lemmas.Bool.{and_parts}
use Rattle.std.proofs.lemmas.Cmp.{int_cmp_total, tied_itself}
use Rattle.object_ids.specs.declared.ids.ObjId.{ObjId}
use Rattle.object_ids.proofs.Exact.{same_id-equal}
use Rattle.export_table.specs.declared.rows.Export.{Export}
use Rattle.export_table.specs.ExportRows.{is_of, is_exported, row_of, ids, with_row_changed}

-- ---- numbers

-- No number is below itself.
pub not_below : (n : ℤ) → int_lt n n ≡ false
not_below n = go (int_lt n n) refl
  where
    go : (b : Bool) → int_lt n n ≡ b → b ≡ false
    go false e = refl
    go true e = absurd (
        let less : int_cmp n n ≡ Less = ap (λ b. cond b Less (cond b Greater Equal)) e in
        let same : int_cmp n n ≡ Equal = tied_itself int_cmp_total n in cc)

-- An object that comes after another is another.
pub apart : (o : ObjId) (x : Export) (y : Export) → is_of o x ≡ true → int_lt x.id.number y.id.number ≡ true → is_of o y ≡ false
apart o x y h l = go (is_of o y) refl
  where
    go : (b : Bool) → is_of o y ≡ b → b ≡ false
    go false e = refl
    go true e = absurd (
        let same : x.id ≡ y.id = same_id-equal x.id o h ∙ sym (same_id-equal y.id o e) in
        let less : int_lt x.id.number x.id.number ≡ true = ap (λ (p : ObjId). int_lt x.id.number p.number) same ∙ l in
        let never = not_below x.id.number in cc)

-- ---- lists without the object, or after it

pub row-none : (o : ObjId) (xs : List Export) → is_exported xs o ≡ false → row_of xs o ≡ None
row-none o [] h = refl
row-none o (x ∷ xs) h = go (is_of o x) h (row-none o xs)
  where
    go : (b : Bool) → (b || is_exported xs o) ≡ false → (is_exported xs o ≡ false → row_of xs o ≡ None) → cond b (Some x) (row_of xs o) ≡ None
    go true f rest = absurd (cc)
    go false f rest = rest f

-- Rows of which none is the object's stay.
pub changed-none : (f : Export → Export) (o : ObjId) (xs : List Export) → is_exported xs o ≡ false → with_row_changed f o xs ≡ xs
changed-none f o [] h = refl
changed-none f o (x ∷ xs) h = go (is_of o x) h (changed-none f o xs)
  where
    go : (b : Bool) → (b || is_exported xs o) ≡ false → (is_exported xs o ≡ false → with_row_changed f o xs ≡ xs) → (if b then f x else x) ∷ with_row_changed f o xs ≡ x ∷ xs
    go true h rest = absurd (cc)
    go false h rest = ap (λ l. x ∷ l) (rest h)

pub later-apart : (o : ObjId) (d : Export) (ys : List Export) → is_of o d ≡ true → list_all (λ p. int_lt d.id.number p.number) (ids ys) ≡ true → is_exported ys o ≡ false
later-apart o d [] e h = refl
later-apart o d (y ∷ ys) e h =
    let two = and_parts (int_lt d.id.number y.id.number) (list_all (λ p. int_lt d.id.number p.number) (ids ys)) h in
    rw (apart o d y e two.0) (later-apart o d ys e two.1)

-- No change where the object isn't.
pub absent-changed : (rows given : List Export) (o : ObjId) (f : Export → Export) → given ≡ rows → is_exported given o ≡ false → rows ≡ with_row_changed f o rows
absent-changed rows given o f e none = sym (changed-none f o rows (ap (λ l. is_exported l o) (sym e) ∙ none))
