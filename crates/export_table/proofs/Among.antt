-- Objects that are looked at alone: where each object that isn't kept is among them, the rows that stay are those that are kept, and the others go.
use Rattle.std.proofs.Common.{◌≡◌, ℕ, List, [], ◌∷◌, refl, ap}
use Rattle.std.specs.Prelude.{Bool, true, false, not, ◌||◌, filter}
use Rattle.std.proofs.lemmas.Bool.{and_parts}
use Rattle.object_ids.specs.declared.ids.ObjId.{ObjId}
use Rattle.export_table.specs.declared.rows.Export.{Export}
use Rattle.export_table.specs.declared.waits.Wait.{Wait}
use Rattle.export_table.specs.ExportRows.{ids, is_among, is_row_kept, is_settled_but, stays_among, withdrawn_ids}
use Rattle.export_table.specs.Waits.{still_waiting}
use Rattle.export_table.proofs.Indexing.{kept-forgotten}

-- A row stays exactly where it is kept.
stays-settled : (os : List ObjId) (t : ℕ) (held : ObjId → Bool) (ws : List Wait) (x : Export) → (is_among os x || is_row_kept t held ws x) ≡ true → stays_among os t held ws x ≡ is_row_kept t held ws x
stays-settled os t held ws x = go (is_among os x) (is_row_kept t held ws x)
  where
    go : (m k : Bool) → (m || k) ≡ true → (not m || k) ≡ k
    go true k e = refl
    go false true e = refl
    go false false e = absurd (cc)

-- THE ROWS THAT STAY.
pub rows-among : (os : List ObjId) (t : ℕ) (held : ObjId → Bool) (ws : List Wait) (rows : List Export) →
    is_settled_but os t held ws rows ≡ true → filter (stays_among os t held ws) rows ≡ filter (is_row_kept t held ws) rows
rows-among os t held ws [] s = refl
rows-among os t held ws (x ∷ rows) s =
    let two = and_parts (is_among os x || is_row_kept t held ws x) (is_settled_but os t held ws rows) s in
    rw (stays-settled os t held ws x two.0, rows-among os t held ws rows two.1) refl

others-among : (os : List ObjId) (t : ℕ) (held : ObjId → Bool) (ws : List Wait) (rows : List Export) →
    is_settled_but os t held ws rows ≡ true → filter (λ x. not (stays_among os t held ws x)) rows ≡ filter (λ x. not (is_row_kept t held ws x)) rows
others-among os t held ws [] s = refl
others-among os t held ws (x ∷ rows) s =
    let two = and_parts (is_among os x || is_row_kept t held ws x) (is_settled_but os t held ws rows) s in
    rw (stays-settled os t held ws x two.0, others-among os t held ws rows two.1) refl

-- THE OBJECTS THAT GO.
pub gone-among : (os : List ObjId) (t : ℕ) (held : ObjId → Bool) (ws : List Wait) (rows : List Export) →
    is_settled_but os t held ws rows ≡ true → ids (filter (λ x. not (stays_among os t held ws x)) rows) ≡ withdrawn_ids t held ws rows
gone-among os t held ws rows s = ap ids (others-among os t held ws rows s)

-- The waits that ended keep none.
stays-forgotten : (os : List ObjId) (t : ℕ) (held : ObjId → Bool) (ws : List Wait) (x : Export) → stays_among os t held (still_waiting t ws) x ≡ stays_among os t held ws x
stays-forgotten os t held ws x = ap (λ b. not (is_among os x) || b) (kept-forgotten t held ws x)

pub staying-forgotten : (os : List ObjId) (t : ℕ) (held : ObjId → Bool) (ws : List Wait) (rows : List Export) → filter (stays_among os t held (still_waiting t ws)) rows ≡ filter (stays_among os t held ws) rows
staying-forgotten os t held ws [] = refl
staying-forgotten os t held ws (x ∷ rows) = rw (stays-forgotten os t held ws x, staying-forgotten os t held ws rows) refl

others-forgotten : (os : List ObjId) (t : ℕ) (held : ObjId → Bool) (ws : List Wait) (rows : List Export) →
    filter (λ x. not (stays_among os t held (still_waiting t ws) x)) rows ≡ filter (λ x. not (stays_among os t held ws x)) rows
others-forgotten os t held ws [] = refl
others-forgotten os t held ws (x ∷ rows) = rw (stays-forgotten os t held ws x, others-forgotten os t held ws rows) refl

pub gone-forgotten : (os : List ObjId) (t : ℕ) (held : ObjId → Bool) (ws : List Wait) (rows : List Export) →
    ids (filter (λ x. not (stays_among os t held (still_waiting t ws) x)) rows) ≡ ids (filter (λ x. not (stays_among os t held ws x)) rows)
gone-forgotten os t held ws rows = ap ids (others-forgotten os t held ws rows)
