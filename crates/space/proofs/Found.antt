-- Objects found among the rows of an export table.
use Rattle.std.proofs.Common.{◌≡◌, List, [], ◌∷◌, refl, cond, Some}
use Rattle.std.specs.Prelude.{Bool, true, false, find, is_some, option_map, ◌||◌}
use Rattle.object_ids.specs.declared.ids.ObjId.{ObjId}
use Rattle.export_table.specs.declared.rows.Export.{Export}
use Rattle.export_table.specs.ExportRows.{is_of, is_exported, kind_of}

pub exported-kind : (rows : List Export) (o : ObjId) → is_some (kind_of rows o) ≡ is_exported rows o
exported-kind [] o = refl
exported-kind (x ∷ rows) o = go (is_of o x) (exported-kind rows o)
  where
    go : (b : Bool) → is_some (kind_of rows o) ≡ is_exported rows o → is_some (option_map (λ (y : Export). y.kind) (cond b (Some x) (find (is_of o) rows))) ≡ (b || is_exported rows o)
    go true e = refl
    go false e = e
