-- The index of the references that await: how many there are of each object and of each return, which there are, and before which moment none of them ends.
use Rattle.std.specs.Prelude.{◌≡◌, ℕ, ◌≤◌, Bool, not, ◌&&◌, List, [], ◌∷◌, length, filter, unwrap_or}
use Rattle.std.specs.List.{list_any, AllByRecursion}
use Rattle.object_ids.specs.declared.ids.Uid.{Uid}
use Rattle.object_ids.specs.declared.ids.ObjId.{ObjId}
use Rattle.object_ids.specs.Same.{same_id, same_uid, same_key, same_uid_key}
use Rattle.indexmap.specs.IndexMap.{IndexMap, get}
use Rattle.indexmap.specs.IndexSet.{IndexSet, contains}
use Rattle.export_table.specs.declared.counts.Reference.{Reference}
use Rattle.export_table.specs.declared.waits.Wait.{Wait}
use Rattle.export_table.specs.declared.waits.Stays.{Stays}
use Rattle.export_table.specs.declared.waits.Stays.TheVariants.{After, OtherReferences, OtherReturns}
use Rattle.export_table.specs.Waits.{is_wait_of, goes_on, of_return}

-- Two references that are equal field by field, as keys are compared.
abbrev pub same_reference : Reference → Reference → Bool
same_reference a b = same_key a.object b.object && same_uid_key a.uid b.uid

-- The first reference is the second one.
abbrev pub is_reference : ObjId → Uid → ObjId → Uid → Bool
is_reference o u p v = same_id o p && same_uid u v

-- How many references to an object there are, 0 where it has no count.
abbrev pub count_at : {S : Type 0} → IndexMap ObjId ℕ S → ObjId → ℕ
count_at counts o = unwrap_or (get same_key counts o) 0

abbrev pub has_reference : {S : Type 0} → IndexSet Reference S → ObjId → Uid → Bool
has_reference references o u = contains same_reference references (record { object = o; uid = u })

-- How many references of a return there are, 0 where it has no count.
abbrev pub returned_at : {S : Type 0} → IndexMap Uid ℕ S → Uid → ℕ
returned_at returns u = unwrap_or (get same_uid_key returns u) 0

-- The references to an object.
abbrev pub of_object : ObjId → List Wait → List Wait
of_object o waits = filter (λ w. same_id w.object o) waits

-- The counts, the references and the counts of returns are those of these waits.
pub record IsIndexOf {S T U : Type 0} (counts : IndexMap ObjId ℕ S) (references : IndexSet Reference T) (returns : IndexMap Uid ℕ U) (waits : List Wait) : Type 0 where
  pub counted : (o : ObjId) → count_at counts o ≡ length (of_object o waits)
  pub listed : (o : ObjId) (u : Uid) → has_reference references o u ≡ list_any (is_wait_of o u) waits
  pub returned : (u : Uid) → returned_at returns u ≡ length (of_return u waits)

-- None of these waits ends before this moment.
abbrev pub EndsNoEarlier : ℕ → List Wait → Type 0
EndsNoEarlier next waits = AllByRecursion (λ w. next ≤ w.until) waits

-- None of these waits ends before one that was listed earlier.
abbrev pub EndsRise : List Wait → Type 0
EndsRise [] = Unit {0}
EndsRise (w ∷ waits) = EndsNoEarlier w.until waits × EndsRise waits

-- The waits that stay: those that go on after a moment, those of other references, or those of other returns.
abbrev pub stays : Stays → Wait → Bool
stays (After t) w = goes_on t w
stays (OtherReferences o u) w = not (is_wait_of o u w)
stays (OtherReturns u) w = not (same_uid w.uid u)
