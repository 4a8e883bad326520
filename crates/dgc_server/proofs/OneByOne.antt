-- Calls as if they had named none of some objects, one object after another.
use Rattle.std.proofs.Common.{◌≡◌, ℕ, ◌+◌, ◌<◌, ◌≤◌, List, [], ◌∷◌, ◌++◌, length, map, take, get_or, refl, ap, sym, subst, ◌∙◌}
use Rattle.std.specs.Prelude.{Bool, true, false, ◌&&◌, ◌||◌, not, filter}
use Rattle.std.specs.List.{list_any}
use Rattle.std.proofs.lemmas.List.{take_more, take_all}
use Rattle.std.proofs.lemmas.List.Folds.{list_any-append}
use Rattle.object_ids.specs.declared.ids.ObjId.{ObjId}
use Rattle.object_ids.specs.Same.{same_id}
use Rattle.history.specs.declared.calls.Call.{Call}
use Rattle.history.proofs.ListLemmas.{filter-filter, filter-same, every-always}
use Rattle.dgc_server.specs.Counts.{without, without_all}
use Rattle.dgc_server.specs.StandsForCalls.{LeaseTable, StandsFor}

keeps_all : (ys : List ObjId) → filter (λ y. not (list_any (λ o. same_id y o) [])) ys ≡ ys
keeps_all [] = refl
keeps_all (y ∷ ys) = ap (λ l. y ∷ l) (keeps_all ys)

pub none-out : (calls : List Call) → map (without_all []) calls ≡ calls
none-out [] = refl
none-out (x ∷ calls) = ap (λ (ys : List ObjId). record x { objects = ys } ∷ map (without_all []) calls) (keeps_all x.objects) ∙ ap (λ l. x ∷ l) (none-out calls)

one-out : (os : List ObjId) (o : ObjId) (x : Call) → without o (without_all os x) ≡ without_all (os ++ o ∷ []) x
one-out os o x =
    ap (λ (ys : List ObjId). record x { objects = ys })
    (filter-filter (λ y. not (same_id y o)) (λ y. not (list_any (λ p. same_id y p) os)) x.objects
    ∙ filter-same (λ y. not (same_id y o) && not (list_any (λ p. same_id y p) os)) (λ y. not (list_any (λ p. same_id y p) (os ++ o ∷ []))) x.objects
    (every-always (λ y. (not (same_id y o) && not (list_any (λ p. same_id y p) os)) ≡ not (list_any (λ p. same_id y p) (os ++ o ∷ []))) each x.objects))
  where
    both : (a b : Bool) → (not a && not b) ≡ not (b || (a || false))
    both true true = refl
    both true false = refl
    both false true = refl
    both false false = refl

    each : (y : ObjId) → (not (same_id y o) && not (list_any (λ p. same_id y p) os)) ≡ not (list_any (λ p. same_id y p) (os ++ o ∷ []))
    each y = both (same_id y o) (list_any (λ p. same_id y p) os) ∙ ap not (sym (list_any-append (λ p. same_id y p) os (o ∷ [])))

more-out : (os : List ObjId) (o : ObjId) (calls : List Call) → map (without o) (map (without_all os) calls) ≡ map (without_all (os ++ o ∷ [])) calls
more-out os o [] = refl
more-out os o (x ∷ calls) = ap (λ y. y ∷ map (without o) (map (without_all os) calls)) (one-out os o x) ∙ ap (λ l. without_all (os ++ o ∷ []) x ∷ l) (more-out os o calls)

pub dropped-none : (lease moment : ℕ) (t : LeaseTable) (calls : List Call) → StandsFor lease t moment calls → StandsFor lease t moment (map (without_all []) calls)
dropped-none lease moment t calls s = let P : List Call → Type 0 = λ l. StandsFor lease t moment l in subst P (sym (none-out calls)) s

pub dropped-more : (lease moment : ℕ) (t : LeaseTable) (calls : List Call) (os : List ObjId) (i : ℕ) (d : ObjId) → i < length os →
    StandsFor lease t moment (map (without (get_or os i d)) (map (without_all (take i os)) calls)) → StandsFor lease t moment (map (without_all (take (i + 1) os)) calls)
dropped-more lease moment t calls os i d h s =
    let P : List Call → Type 0 = λ l. StandsFor lease t moment l in
    let Q : List ObjId → Type 0 = λ l. StandsFor lease t moment (map (without_all l) calls) in
    subst Q (sym (take_more os i d h)) (subst P (more-out (take i os) (get_or os i d) calls) s)

pub dropped-all : (lease moment : ℕ) (t : LeaseTable) (calls : List Call) (os : List ObjId) (i : ℕ) → length os ≤ i → StandsFor lease t moment (map (without_all (take i os)) calls) → StandsFor lease t moment (map (without_all os) calls)
dropped-all lease moment t calls os i h s = let Q : List ObjId → Type 0 = λ l. StandsFor lease t moment (map (without_all l) calls) in subst Q (take_all i os h) s
