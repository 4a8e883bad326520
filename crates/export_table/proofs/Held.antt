-- Tables of exported objects, of which some rows go and gaps are closed.
use Rattle.std.proofs.Common.{◌≡◌, ℕ, List, [], ◌∷◌, ◌++◌, ◌+◌, ap, sym, ◌∙◌}
use Rattle.export_table.specs.declared.rows.Export.{Export}
use Rattle.export_table.specs.Slots.{RowsHeld}

-- Rows go, and then room is made: only rows and room differ.
pub held-closed : (a b c : RowsHeld) → b ≡ record a { rows = b.rows } → c ≡ record b { room = c.room } → c ≡ record a { rows = c.rows; room = c.room }
held-closed a b c e f =
    let rows : b.rows ≡ c.rows = sym (ap (λ (t : RowsHeld). t.rows) f) in
    f ∙ ap (λ (t : RowsHeld). record t { room = c.room }) e ∙ ap (λ (l : List Export). record a { rows = l; room = c.room }) rows

abbrev pub held : List Export → ℕ → ℕ → RowsHeld
held rows added room = record { rows = rows; added = added; room = room }

-- The rows are the same.
pub held-same : (after before : List Export) (added room r : ℕ) (t : RowsHeld) → after ≡ before → held before added room ≡ t → held after added r ≡ record t { room = r }
held-same after before added room r t e v = ap (λ (l : List Export). held l added r) e ∙ ap (λ (u : RowsHeld). record u { room = r }) v

-- There is one row more.
pub held-added : (after before : List Export) (added room r : ℕ) (x : Export) (t : RowsHeld) → after ≡ before ++ x ∷ [] → held before added room ≡ t →
    held after (added + 1) r ≡ record t { rows = t.rows ++ x ∷ []; added = t.added + 1; room = r }
held-added after before added room r x t e v = ap (λ (l : List Export). held l (added + 1) r) e ∙ ap (λ (u : RowsHeld). record u { rows = u.rows ++ x ∷ []; added = u.added + 1; room = r }) v
