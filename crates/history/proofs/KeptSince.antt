-- The table has what was kept ever since its export, and no object twice.
use Rattle.std.proofs.Common.{◌≡◌, ℕ, ◌+◌, ◌≤◌, List, [], ◌∷◌, ◌++◌, length, refl, ap, sym, subst, ◌∙◌, arith}
use Rattle.std.specs.Prelude.{Bool, true, false, ◌&&◌, ◌||◌, filter, reverse}
use Rattle.std.specs.List.{AllByRecursion}
use Rattle.std.proofs.lemmas.List.Elements.{filter-append}
use Rattle.std.proofs.lemmas.List.Folds.{list_any-append}
use Rattle.object_ids.specs.declared.ids.Uid.{Uid}
use Rattle.object_ids.specs.Same.{same_id}
use Rattle.history.specs.declared.asks.SpaceConfig.{SpaceConfig}
use Rattle.history.specs.declared.asks.Event.{Event}
use Rattle.history.specs.declared.places.Place.{Place}
use Rattle.history.specs.declared.places.Exported.{Exported}
use Rattle.history.specs.Places.{History, has, ever_exported}
use Rattle.history.specs.Table.{is_kept, table, place_of, places_back, places}
use Rattle.history.specs.Laws.{is_kept_since_export, TableIsKept}
use Rattle.history.proofs.ListLemmas.{every-weaker, every-two, filter-same, filter-filter, and_true}
use Rattle.history.proofs.TableLaws.{table-place, table-none}
use Rattle.history.proofs.NumberLaws.{NumberedFrom, NumberedFrom-apart, AllApart, AllApart-filter, has-greater, has-self, adds-numbered, ever_exported_back-numbered, ever_exported-numbered}

-- What a place exports was never exported before.
new-apart : (space : Uid) (k : ℕ) (old new : List Exported) → NumberedFrom space 0 old → NumberedFrom space k new → length old ≤ k →
    AllByRecursion (λ (x : Exported). has old x.id ≡ false) new
new-apart space k old [] before n le = tt
new-apart space k old (x ∷ new) before n le = (rw n.0 (has-greater space k 0 old before (omega arith)), new-apart space (k + 1) old new before n.1 (omega arith))

-- Among what was exported up to a place is an object where it was before or is exported there.
has-ever_exported : (p : Place) (h : History) (x : Exported) → has (ever_exported (p ∷ h)) x.id ≡ (has (ever_exported h) x.id || has p.exported_here x.id)
unfolding ever_exported
has-ever_exported p h x = list_any-append (λ (y : Exported). same_id y.id x.id) (ever_exported h) p.exported_here

-- An object that no prefix has exported has no prefix at which it has to be kept.
later : (kept : History → Exported → Bool) (h : History) (x : Exported) → has (ever_exported h) x.id ≡ false → is_kept_since_export kept h x ≡ true
later kept [] x never = refl
later kept (p ∷ h) x never = rw (never, later kept h x (left (has (ever_exported h) x.id) (has p.exported_here x.id) (sym (has-ever_exported p h x) ∙ never))) refl
  where
    left : (a b : Bool) → (a || b) ≡ false → a ≡ false
    left false b e = refl
    left true b e = e

-- One that was exported has to be kept now, and as it had to before.
earlier : (kept : History → Exported → Bool) (p : Place) (h : History) (x : Exported) → has (ever_exported h) x.id ≡ true →
    is_kept_since_export kept (p ∷ h) x ≡ (kept (p ∷ h) x && is_kept_since_export kept h x)
earlier kept p h x was = rw (has-ever_exported p h x, was) refl

now_exported : (kept : History → Exported → Bool) (p : Place) (h : History) (x : Exported) → has p.exported_here x.id ≡ true → has (ever_exported h) x.id ≡ false →
    is_kept_since_export kept (p ∷ h) x ≡ kept (p ∷ h) x
now_exported kept p h x here never = rw (has-ever_exported p h x, never, here, later kept h x never) (and_true (kept (p ∷ h) x))

-- The objects that are kept ever since their export, after one more place, whatever keeps them.
survivors-push : (kept : History → Exported → Bool) (p : Place) (h : History) → AllByRecursion (λ (x : Exported). has (ever_exported h) x.id ≡ false) p.exported_here →
    filter (is_kept_since_export kept (p ∷ h)) (ever_exported h ++ p.exported_here) ≡ filter (kept (p ∷ h)) (filter (is_kept_since_export kept h) (ever_exported h) ++ p.exported_here)
survivors-push kept p h new =
    filter-append (is_kept_since_export kept (p ∷ h)) (ever_exported h) p.exported_here
    ∙ ap (λ l. l ++ filter (is_kept_since_export kept (p ∷ h)) p.exported_here)
    (filter-same (is_kept_since_export kept (p ∷ h)) (λ x. kept (p ∷ h) x && is_kept_since_export kept h x) (ever_exported h)
    (every-weaker (λ (x : Exported). has (ever_exported h) x.id ≡ true) (λ x. is_kept_since_export kept (p ∷ h) x ≡ (kept (p ∷ h) x && is_kept_since_export kept h x)) (λ x was. earlier kept p h x was) (ever_exported h) (has-self (ever_exported h)))
    ∙ sym (filter-filter (kept (p ∷ h)) (is_kept_since_export kept h) (ever_exported h)))
    ∙ ap (λ l. filter (kept (p ∷ h)) (filter (is_kept_since_export kept h) (ever_exported h)) ++ l)
    (filter-same (is_kept_since_export kept (p ∷ h)) (kept (p ∷ h)) p.exported_here
    (every-two (λ (x : Exported). has p.exported_here x.id ≡ true) (λ (x : Exported). has (ever_exported h) x.id ≡ false) (λ x. is_kept_since_export kept (p ∷ h) x ≡ kept (p ∷ h) x)
    (λ x here never. now_exported kept p h x here never) p.exported_here (has-self p.exported_here) new))
    ∙ sym (filter-append (kept (p ∷ h)) (filter (is_kept_since_export kept h) (ever_exported h)) p.exported_here)

table_back : (config : SpaceConfig) (es : List Event) →
    table config (places_back config es) ≡ filter (is_kept_since_export (is_kept config) (places_back config es)) (ever_exported (places_back config es))
unfolding places_back ever_exported
table_back config [] = table-none config
table_back config (e ∷ es) =
    let h = places_back config es in
    let new = new-apart config.uid (length (ever_exported h)) (ever_exported h) (place_of config h e).exported_here (ever_exported_back-numbered config es) (adds-numbered config h e) (omega arith) in
    table-place config h e
    ∙ ap (λ l. filter (is_kept config (place_of config h e ∷ h)) (l ++ (place_of config h e).exported_here)) (table_back config es)
    ∙ sym (survivors-push (is_kept config) (place_of config h e) h new)

-- THE TABLE has what was kept at every prefix that had exported it.
pub table-is-kept : (config : SpaceConfig) (events : List Event) → TableIsKept config events
unfolding places
table-is-kept config events = table_back config (reverse events)

-- NO OBJECT of the table stands there twice.
pub table-apart : (config : SpaceConfig) (h : List Event) → AllApart (table config (places config h))
table-apart config h =
    let P : List Exported → Type 0 = λ l. AllApart l in
    subst P (sym (table-is-kept config h))
    (AllApart-filter (is_kept_since_export (is_kept config) (places config h)) (ever_exported (places config h)) (NumberedFrom-apart config.uid 0 (ever_exported (places config h)) (ever_exported-numbered config h)))
