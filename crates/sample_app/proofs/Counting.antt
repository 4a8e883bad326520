-- The map from objects to their numbers, as the list of its pairs.
use Rattle.std.proofs.Common.{◌≡◌, [], ◌∷◌, refl, ap, ◌∙◌, cond, Some}
use Rattle.std.specs.Prelude.{ℤ, pos, Bool, true, false, unwrap_or, if◌then◌else◌}
use Rattle.std.specs.Map.{lookup}
use Rattle.indexmap.specs.IndexMap.{insert_entry, shift_remove_entry}
use Rattle.object_ids.specs.declared.ids.ObjId.{ObjId}
use Rattle.object_ids.specs.Same.{same_id, same_key}
use Rattle.object_ids.proofs.Exact.{same_key-same}
use Rattle.call_dispatch.specs.Acts.{States}
use Rattle.sample_app.specs.Counters.{count_of, with_count, without}

pub looked_up : (pairs : States) (object : ObjId) → unwrap_or (lookup (same_key object) pairs) (pos 0) ≡ count_of pairs object
looked_up [] object = refl
looked_up (pair ∷ more) object = ap (λ b. unwrap_or (cond b (Some pair.1) (lookup (same_key object) more)) (pos 0)) (same_key-same object pair.0) ∙ go (same_id object pair.0) (looked_up more object)
  where
    go : (b : Bool) → unwrap_or (lookup (same_key object) more) (pos 0) ≡ count_of more object →
        unwrap_or (cond b (Some pair.1) (lookup (same_key object) more)) (pos 0) ≡ (if b then pair.1 else count_of more object)
    go true rest = refl
    go false rest = rest

pub put_in : (pairs : States) (object : ObjId) (count : ℤ) → insert_entry same_key pairs object count ≡ with_count pairs object count
put_in [] object count = refl
put_in (pair ∷ more) object count = ap (λ b. if b then (pair.0, count) ∷ more else pair ∷ insert_entry same_key more object count) (same_key-same object pair.0)
    ∙ ap (λ l. if same_id object pair.0 then (pair.0, count) ∷ more else pair ∷ l) (put_in more object count)

pub taken_out : (pairs : States) (object : ObjId) → shift_remove_entry (same_key object) pairs ≡ without pairs object
taken_out [] object = refl
taken_out (pair ∷ more) object = ap (λ b. cond b more (pair ∷ shift_remove_entry (same_key object) more)) (same_key-same object pair.0)
    ∙ ap (λ l. cond (same_id object pair.0) more (pair ∷ l)) (taken_out more object)
