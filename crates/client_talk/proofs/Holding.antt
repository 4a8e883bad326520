-- Going over references one by one.
use Rattle.std.proofs.Common.{arith, ◌≡◌, ◌≤◌, ℕ, ◌+◌, ◌<◌, List, [], ◌∷◌, map, length, drop, get_or, length-drop, Option, Result, Ok, Err, refl, subst, sym, ◌∙◌, ap}
use Rattle.std.specs.Prelude.{IfOk}
use Rattle.std.specs.declared.alloc.AllocError.{AllocError}
use Rattle.std.proofs.lemmas.List.{nil_from_length, at_drop_more}
use Rattle.object_ids.specs.declared.ids.ObjId.{ObjId}
use Rattle.dgc_client.specs.Log.{ClientCall, Note, Ref, notes, refs}
use Rattle.dgc_client.specs.StandsForLog.{ForEachLog, as_told, refs_told}
use Rattle.dgc_client.specs.declared.client_ref.ClientRef.{ClientRef}
use Rattle.client_talk.specs.declared.leases.Leases.{Leases}
use Rattle.client_talk.specs.Calling.{Lessee, Keeps, holds, holds_each, ids_there, releases, releases_each}
use Rattle.client_talk.specs.Contents.{CallAnswer}
use Rattle.client_talk.specs.Rmi.{rmi}
use Rattle.client_talk.specs.Scripts.{Script}
use Rattle.client_talk.specs.Steps.{Stands}
use Rattle.client_talk.specs.Talk.{Linked}

drop_end : (xs : List ObjId) (i : ℕ) → length xs ≤ i → drop i xs ≡ []
drop_end xs i past = nil_from_length (drop i xs) (omega (arith, length-drop i xs))

pub holds_next : (s : Script rmi CallAnswer) (links : List Linked) (given given2 : Option (List ℕ)) (k : ℕ) (lessee : Lessee) (xs : List ObjId) (i : ℕ) (d : ObjId) (log : List ClientCall) (next : List ClientCall → Script rmi CallAnswer)
    → i < length xs → Stands s links given given2 (holds_each k lessee (drop i xs) log next)
    → Stands s links given given2 (holds k lessee (get_or xs i d) log (λ log2. holds_each k lessee (drop (i + 1) xs) log2 next))
holds_next s links given given2 k lessee xs i d log next less stands = subst (Stands s links given given2) (at_drop_more (λ ys. holds_each k lessee ys log next) xs i d less) stands

pub holds_end : (s : Script rmi CallAnswer) (links : List Linked) (given given2 : Option (List ℕ)) (k : ℕ) (lessee : Lessee) (xs : List ObjId) (i : ℕ) (log : List ClientCall) (next : List ClientCall → Script rmi CallAnswer)
    → length xs ≤ i → Stands s links given given2 (holds_each k lessee (drop i xs) log next) → Stands s links given given2 (next log)
holds_end s links given given2 k lessee xs i log next past stands = subst (λ ys. Stands s links given given2 (holds_each k lessee ys log next)) (drop_end xs i past) stands

pub releases_next : (s : Script rmi CallAnswer) (links : List Linked) (given given2 : Option (List ℕ)) (k : ℕ) (lessee : Lessee) (xs : List ObjId) (i : ℕ) (d : ObjId) (log : List ClientCall) (next : List ClientCall → Script rmi CallAnswer)
    → i < length xs → Stands s links given given2 (releases_each k lessee (drop i xs) log next)
    → Stands s links given given2 (releases k lessee (get_or xs i d) log (λ log2. releases_each k lessee (drop (i + 1) xs) log2 next))
releases_next s links given given2 k lessee xs i d log next less stands = subst (Stands s links given given2) (at_drop_more (λ ys. releases_each k lessee ys log next) xs i d less) stands

pub releases_end : (s : Script rmi CallAnswer) (links : List Linked) (given given2 : Option (List ℕ)) (k : ℕ) (lessee : Lessee) (xs : List ObjId) (i : ℕ) (log : List ClientCall) (next : List ClientCall → Script rmi CallAnswer)
    → length xs ≤ i → Stands s links given given2 (releases_each k lessee (drop i xs) log next) → Stands s links given given2 (next log)
releases_end s links given given2 k lessee xs i log next past stands = subst (λ ys. Stands s links given given2 (releases_each k lessee ys log next)) (drop_end xs i past) stands

pub releases_as : (s : Script rmi CallAnswer) (links : List Linked) (given given2 : Option (List ℕ)) (k : ℕ) (lessee : Lessee) (xs ys : List ObjId) (log : List ClientCall) (next : List ClientCall → Script rmi CallAnswer)
    → ys ≡ xs → Stands s links given given2 (releases_each k lessee xs log next) → Stands s links given given2 (releases_each k lessee ys log next)
releases_as s links given given2 k lessee xs ys log next same stands = subst (λ zs. Stands s links given given2 (releases_each k lessee zs log next)) (sym same) stands

pub holds_as : (s : Script rmi CallAnswer) (links : List Linked) (given given2 : Option (List ℕ)) (k : ℕ) (lessee : Lessee) (xs ys : List ObjId) (log : List ClientCall) (next : List ClientCall → Script rmi CallAnswer)
    → ys ≡ xs → Stands s links given given2 (holds_each k lessee xs log next) → Stands s links given given2 (holds_each k lessee ys log next)
holds_as s links given given2 k lessee xs ys log next same stands = subst (λ zs. Stands s links given given2 (holds_each k lessee zs log next)) (sym same) stands

-- ---- the objects of a table's references

ids_told : (ns : List Note) (rs : List Ref) → map (λ (r : ClientRef). r.id) (map (as_told ns) rs) ≡ map (λ (r : Ref). r.id) rs
ids_told ns [] = refl
ids_told ns (r ∷ rs) = ap (λ os. r.id ∷ os) (ids_told ns rs)

pub ids_from : (leases : Leases) (listed : List ClientRef) (result : Result (List ObjId) AllocError)
    → ForEachLog leases.table (λ client first log. listed ≡ refs_told first log) → IfOk result (λ ids. ids ≡ map (λ (r : ClientRef). r.id) listed)
    → IfOk result (λ ids. (lessee : Lessee) (log : List ClientCall) → Keeps lessee leases log → ids ≡ ids_there lessee log)
ids_from leases listed (Ok ids) told is = λ lessee log keeps.
    is ∙ ap (map (λ (r : ClientRef). r.id)) (told lessee.client lessee.first log keeps.stands) ∙ ids_told (notes lessee.first log) (refs lessee.first (notes lessee.first log))
ids_from leases listed (Err fault) told is = tt
