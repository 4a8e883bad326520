-- Steps of loops over what a return brings, from the front.
use Rattle.std.proofs.Common.{◌≡◌, ℕ, ◌+◌, ◌<◌, ◌≤◌, List, [], ◌∷◌, ◌++◌, length, drop, get_or, refl, ap, sym, ◌∙◌, arith, append_assoc, append-nil}
use Rattle.std.specs.Prelude.{Bool, true, false, not, ◌&&◌, ◌||◌, filter, if◌then◌else◌}
use Rattle.std.specs.List.{list_any, AllByRecursion}
use Rattle.std.proofs.lemmas.Bool.{or_left, or_right}
use Rattle.std.proofs.lemmas.List.{drop_all}
use Rattle.std.proofs.lemmas.List.Folds.{list_any-append}
use Rattle.sequence.proofs.Lists.{drop-at}
use Rattle.object_ids.specs.declared.ids.Uid.{Uid}
use Rattle.object_ids.specs.declared.ids.ObjId.{ObjId}
use Rattle.object_ids.specs.Same.{same_id}
use Rattle.object_ids.proofs.Exact.{same_id-self}
use Rattle.history.specs.Lists.{distinct}
use Rattle.history.specs.Places.{id_at}
use Rattle.history.proofs.ListLemmas.{every-append, every-weaker}
use Rattle.export_table.specs.declared.rows.Export.{Export}
use Rattle.export_table.specs.ExportRows.{is_of, is_exported, new_row, with_row_changed, with_call_ended}
use Rattle.export_table.proofs.RowLaws.{exported-changed}
use Rattle.space.proofs.Named.{passing}
use Rattle.space.specs.Acts.{new_ids, new_rows}

pub drop-none : {X : Type 0} (xs : List X) → drop 0 xs ≡ xs
drop-none xs = refl

next : (k i : ℕ) → k + i + 1 ≡ k + (i + 1)
next k i = omega arith

pub ids-more : (space : Uid) (k i : ℕ) (kinds : List ℕ) (ids all : List ObjId) → i < length kinds → ids ++ new_ids space (k + i) (drop i kinds) ≡ all → (ids ++ id_at space (k + i) ∷ []) ++ new_ids space (k + (i + 1)) (drop (i + 1) kinds) ≡ all
ids-more space k i kinds ids all h e =
    append_assoc ids (id_at space (k + i) ∷ []) (new_ids space (k + (i + 1)) (drop (i + 1) kinds))
    ∙ ap (λ n. ids ++ id_at space (k + i) ∷ new_ids space n (drop (i + 1) kinds)) (sym (next k i))
    ∙ ap (λ l. ids ++ new_ids space (k + i) l) (sym (drop-at kinds i 0 h)) ∙ e

pub ids-all : (space : Uid) (k i : ℕ) (kinds : List ℕ) (ids all : List ObjId) → length kinds ≤ i → ids ++ new_ids space (k + i) (drop i kinds) ≡ all → ids ≡ all
ids-all space k i kinds ids all h e = none ids ∙ ap (λ l. ids ++ new_ids space (k + i) l) (sym (drop_all i kinds h)) ∙ e
  where
    none : (xs : List ObjId) → xs ≡ xs ++ []
    none xs = rw append-nil refl

pub rows-more : (space : Uid) (k i : ℕ) (kinds : List ℕ) (rows all : List Export) (kind : ℕ) → i < length kinds → kind ≡ get_or kinds i 0 → rows ++ new_rows space (k + i) (drop i kinds) ≡ all →
    (rows ++ new_row (id_at space (k + i)) kind false ∷ []) ++ new_rows space (k + (i + 1)) (drop (i + 1) kinds) ≡ all
rows-more space k i kinds rows all kind h g e =
    append_assoc rows (new_row (id_at space (k + i)) kind false ∷ []) (new_rows space (k + (i + 1)) (drop (i + 1) kinds))
    ∙ ap (λ n. rows ++ new_row (id_at space (k + i)) kind false ∷ new_rows space n (drop (i + 1) kinds)) (sym (next k i))
    ∙ ap (λ x. rows ++ new_row (id_at space (k + i)) x false ∷ new_rows space (k + i + 1) (drop (i + 1) kinds)) g
    ∙ ap (λ l. rows ++ new_rows space (k + i) l) (sym (drop-at kinds i 0 h)) ∙ e

pub rows-all : (space : Uid) (k i : ℕ) (kinds : List ℕ) (rows all : List Export) → length kinds ≤ i → rows ++ new_rows space (k + i) (drop i kinds) ≡ all → rows ≡ all
rows-all space k i kinds rows all h e = none rows ∙ ap (λ l. rows ++ new_rows space (k + i) l) (sym (drop_all i kinds h)) ∙ e
  where
    none : (xs : List Export) → xs ≡ xs ++ []
    none xs = rw append-nil refl

-- One object more is counted where it is none of those after it and passes.
pub counted-more : (p : ObjId → Bool) (o : ObjId) (os : List ObjId) (b : Bool) → b ≡ (not (list_any (same_id o) os) && p o) →
    length (filter p (distinct same_id (o ∷ os))) ≡ (if b then 1 else 0) + length (filter p (distinct same_id os))
counted-more p o os b e = go (list_any (same_id o) os) (p o) refl refl ∙ ap (λ v. (if v then 1 else 0) + length (filter p (distinct same_id os))) (sym e)
  where
    go : (v w : Bool) → list_any (same_id o) os ≡ v → p o ≡ w →
        length (filter p (if v then distinct same_id os else o ∷ distinct same_id os)) ≡ (if not v && w then 1 else 0) + length (filter p (distinct same_id os))
    go true w f g = omega arith
    go false true f g = rw g (omega arith)
    go false false f g = rw g (omega arith)

pub counted-next : (p : ObjId → Bool) (os : List ObjId) (i count all : ℕ) (o : ObjId) (b : Bool) → i < length os → o ≡ get_or os i o → b ≡ (not (list_any (same_id o) (drop (i + 1) os)) && p o) →
    count + length (filter p (distinct same_id (drop i os))) ≡ all → count + (if b then 1 else 0) + length (filter p (distinct same_id (drop (i + 1) os))) ≡ all
counted-next p os i count all o b h g e s =
    let first : drop i os ≡ o ∷ drop (i + 1) os = drop-at os i o h ∙ ap (λ x. x ∷ drop (i + 1) os) (sym g) in
    let one = ap (λ l. length (filter p (distinct same_id l))) first ∙ counted-more p o (drop (i + 1) os) b e in
    omega (arith, one, s)

pub counted-all : (p : ObjId → Bool) (os : List ObjId) (i count all : ℕ) → length os ≤ i → count + length (filter p (distinct same_id (drop i os))) ≡ all → count ≡ all
counted-all p os i count all h s = (let none = ap (λ l. length (filter p (distinct same_id l))) (drop_all i os h) in omega (arith, none, s))

-- ---- the objects of a return are exported once those made are added

end-same : (o x : ObjId) (rows more : List Export) → is_exported (with_row_changed with_call_ended x rows ++ more) o ≡ is_exported (rows ++ more) o
end-same o x rows more =
    list_any-append (is_of o) (with_row_changed with_call_ended x rows) more ∙ ap (λ v. v || is_exported more o) (exported-changed with_call_ended x o (λ r. refl) rows) ∙ sym (list_any-append (is_of o) rows more)

pub there-after : (x : ObjId) (rows more all : List Export) (os : List ObjId) → all ≡ with_row_changed with_call_ended x rows ++ more → AllByRecursion (λ o. is_exported (rows ++ more) o ≡ true) os → AllByRecursion (λ o. is_exported all o ≡ true) os
there-after x rows more all os e = every-weaker (λ o. is_exported (rows ++ more) o ≡ true) (λ o. is_exported all o ≡ true) (λ o h. ap (λ l. is_exported l o) e ∙ end-same o x rows more ∙ h) os

new-there : (space : Uid) (k : ℕ) (made : List ℕ) → AllByRecursion (λ o. is_exported (new_rows space k made) o ≡ true) (new_ids space k made)
new-there space k [] = tt
new-there space k (kind ∷ made) = (
  or_left (same_id (id_at space k) (id_at space k)) (is_exported (new_rows space (k + 1) made) (id_at space k)) (same_id-self (id_at space k)),
  every-weaker (λ o. is_exported (new_rows space (k + 1) made) o ≡ true) (λ o. is_exported (new_rows space k (kind ∷ made)) o ≡ true)
      (λ o h. or_right (same_id (id_at space k) o) (is_exported (new_rows space (k + 1) made) o) h) (new_ids space (k + 1) made) (new-there space (k + 1) made),
)

pub all-there : (space : Uid) (k : ℕ) (rows : List Export) (made : List ℕ) (listed : List ObjId) → AllByRecursion (λ o. is_exported (rows ++ new_rows space k made) o ≡ true) (new_ids space k made ++ filter (is_exported rows) listed)
all-there space k rows made listed =
    every-append (λ o. is_exported (rows ++ new_rows space k made) o ≡ true) (new_ids space k made) (filter (is_exported rows) listed)
    (every-weaker (λ o. is_exported (new_rows space k made) o ≡ true) (λ o. is_exported (rows ++ new_rows space k made) o ≡ true)
    (λ o h. list_any-append (is_of o) rows (new_rows space k made) ∙ or_right (is_exported rows o) (is_exported (new_rows space k made) o) h) (new_ids space k made) (new-there space k made))
    (every-weaker (λ o. is_exported rows o ≡ true) (λ o. is_exported (rows ++ new_rows space k made) o ≡ true)
    (λ o h. list_any-append (is_of o) rows (new_rows space k made) ∙ or_left (is_exported rows o) (is_exported (new_rows space k made) o) h) (filter (is_exported rows) listed) (passing (is_exported rows) listed))
