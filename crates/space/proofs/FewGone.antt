-- What goes where a withdrawal looks at the objects in doubt alone: each that isn't kept is among these, and no more go than these are.
use Rattle.std.proofs.Common.{◌≡◌, ℕ, ◌+◌, ◌≤◌, inl, inr, List, [], ◌∷◌, ◌++◌, length, refl, ap, sym, subst, cond, map, max, arith, append-nil, length-append, ◌∙◌}
use Rattle.std.specs.Prelude.{Bool, true, false, ◌||◌, not, filter, if◌then◌else◌}
use Rattle.std.specs.List.{list_any}
use Rattle.std.proofs.lemmas.Bool.{and_parts}
use Rattle.object_ids.specs.declared.ids.ObjId.{ObjId}
use Rattle.object_ids.specs.Same.{same_id}
use Rattle.object_ids.proofs.Exact.{same_id-equal}
use Rattle.history.proofs.ListLemmas.{length-fewer}
use Rattle.history.proofs.Equalities.{object-equality}
use Rattle.dgc_server.specs.Counts.{without_all}
use Rattle.dgc_server.specs.StandsForCalls.{LeaseTable, StandsFor, ForEachLog}
use Rattle.dgc_server.proofs.OneByOne.{dropped-none}
use Rattle.export_table.specs.declared.rows.Export.{Export}
use Rattle.export_table.specs.declared.waits.Wait.{Wait}
use Rattle.export_table.specs.ExportRows.{ids, is_rising, is_among, is_row_kept, is_settled_but, held_by, stays_among, withdrawn_ids, IsPart}
use Rattle.export_table.specs.Table.{ExportTable}
use Rattle.export_table.specs.Waits.{goes_on, still_waiting}
use Rattle.export_table.proofs.Among.{rows-among, gone-among}
use Rattle.export_table.proofs.Parts.{part-map, part-rising}
use Rattle.export_table.proofs.RowLaws.{rising-once}
use Rattle.space.specs.declared.doubts.Doubt.{Doubt}
use Rattle.space.specs.Doubts.{HasLog}
use Rattle.space.specs.Withdrawing.{GoesAmong, HasWithdrawn, most_gone}
use Rattle.space.proofs.AskLaws.{gone-few}

part-filter : (q : Export → Bool) (rows : List Export) → IsPart (filter q rows) rows
part-filter q [] = refl
part-filter q (x ∷ rows) = go (q x) (part-filter q rows)
  where
    go : (b : Bool) → IsPart (filter q rows) rows → IsPart (cond b (x ∷ filter q rows) (filter q rows)) (x ∷ rows)
    go true p = inr (filter q rows, refl, p)
    go false p = inl p

-- Each that goes is in doubt.
goes-doubtful : (os : List ObjId) (t : ℕ) (held : ObjId → Bool) (waits : List Wait) (rows : List Export) → is_settled_but os t held waits rows ≡ true →
    (k : ObjId) → list_any (same_id k) (withdrawn_ids t held waits rows) ≡ true → list_any (same_id k) os ≡ true
goes-doubtful os t held waits [] s k h = absurd (cc)
goes-doubtful os t held waits (x ∷ rows) s k h =
    let two = and_parts (is_among os x || is_row_kept t held waits x) (is_settled_but os t held waits rows) s in
    go (is_row_kept t held waits x) two.0 h (goes-doubtful os t held waits rows two.1 k)
  where
    others : List Export
    others = filter (λ y. not (is_row_kept t held waits y)) rows

    alone : (a : Bool) → (a || false) ≡ true → a ≡ true
    alone true e = refl
    alone false e = e

    here : (a : Bool) → same_id k x.id ≡ a → (a || list_any (same_id k) (ids others)) ≡ true → is_among os x ≡ true → (list_any (same_id k) (ids others) ≡ true → list_any (same_id k) os ≡ true) →
        list_any (same_id k) os ≡ true
    here true e p q f = let P : ObjId → Type 0 = λ o. list_any (same_id o) os ≡ true in subst P (sym (same_id-equal k x.id e)) q
    here false e p q f = f p

    go : (b : Bool) → (is_among os x || b) ≡ true → list_any (same_id k) (ids (cond (not b) (x ∷ others) others)) ≡ true → (list_any (same_id k) (ids others) ≡ true → list_any (same_id k) os ≡ true) →
        list_any (same_id k) os ≡ true
    go true p g f = f g
    go false p g f = here (same_id k x.id) refl g (alone (is_among os x) p) f

doubtful-few : (os : List ObjId) (t : ℕ) (held : ObjId → Bool) (waits : List Wait) (rows : List Export) → is_rising (ids rows) ≡ true → is_settled_but os t held waits rows ≡ true →
    length (withdrawn_ids t held waits rows) ≤ length os
doubtful-few os t held waits rows r s =
    let others = filter (λ (y : Export). not (is_row_kept t held waits y)) rows in
    length-fewer same_id object-equality (withdrawn_ids t held waits rows) os
    (rising-once (ids others) (part-rising (ids others) (ids rows) (part-map (λ (y : Export). y.id) others rows (part-filter (λ y. not (is_row_kept t held waits y)) rows)) r))
    (goes-doubtful os t held waits rows s)

-- WHAT GOES, after others.
pub few-go : {leases1 leases2 : LeaseTable} {x y : ExportTable} {t : ℕ} {before after : List ObjId} (os : List ObjId) → HasLog leases1 → is_rising (ids x.rows) ≡ true → GoesAmong leases1 x t os → HasWithdrawn leases1 leases2 x y t before after →
    length after ≤ length before + length os
few-go {leases1} {leases2} {x} {y} {t} {before} {after} os log r among w =
    let same = ap length (w.gone log.lease log.moment log.calls log.stands) in
    let both = length-append before (withdrawn_ids t held x.waits x.rows) in
    let few = doubtful-few os t held x.waits x.rows r (among log.lease log.moment log.calls log.stands) in omega (arith, same, both, few)
  where
    held : ObjId → Bool
    held = held_by log.lease (max t log.moment) log.calls

-- No more than are exported.
pub all-go : {leases1 leases2 : LeaseTable} {x y : ExportTable} {t : ℕ} {before after : List ObjId} → HasLog leases1 → HasWithdrawn leases1 leases2 x y t before after → length after ≤ length before + length x.rows
all-go {leases1} {leases2} {x} {y} {t} {before} {after} log w =
    let same = ap length (w.gone log.lease log.moment log.calls log.stands) in
    let both = length-append before (withdrawn_ids t held x.waits x.rows) in
    let few = gone-few t held x.waits x.rows in omega (arith, same, both, few)
  where
    held : ObjId → Bool
    held = held_by log.lease (max t log.moment) log.calls

-- ---- by what is in doubt

pub most-all : (doubt : Doubt) (x : ExportTable) → doubt.all ≡ true → most_gone doubt x ≡ length x.rows
most-all doubt x e = ap (λ b. if b then length x.rows else length doubt.objects.now) e

pub most-some : (doubt : Doubt) (x : ExportTable) → doubt.all ≡ false → most_gone doubt x ≡ length doubt.objects.now
most-some doubt x e = ap (λ b. if b then length x.rows else length doubt.objects.now) e

pub most-within : (doubt : Doubt) (x : ExportTable) → length doubt.objects.now ≤ length x.rows → most_gone doubt x ≤ length x.rows
most-within doubt x few = go doubt.all
  where
    go : (b : Bool) → (if b then length x.rows else length doubt.objects.now) ≤ length x.rows
    go true = omega arith
    go false = few

-- A withdrawal that looks at these alone, where nothing else has to go.
pub withdrawn-among : {leases1 leases2 : LeaseTable} {x y : ExportTable} {t : ℕ} {before after : List ObjId} (os : List ObjId) → GoesAmong leases1 x t os →
    ForEachLog leases1 (λ lease m calls. y ≡ record x { rows = filter (stays_among os t (held_by lease (max t m) calls) x.waits) x.rows; waits = still_waiting t x.waits; room = y.room }) →
    ForEachLog leases1 (λ lease m calls. after ≡ before ++ ids (filter (λ r. not (stays_among os t (held_by lease (max t m) calls) x.waits r)) x.rows)) →
    ForEachLog leases1 (λ lease m calls. StandsFor lease leases2 m (map (without_all (ids (filter (λ r. not (stays_among os t (held_by lease (max t m) calls) x.waits r)) x.rows))) calls)) →
    HasWithdrawn leases1 leases2 x y t before after
withdrawn-among {leases1} {leases2} {x} {y} {t} {before} {after} os among kept gone dropped = record {
  kept = λ lease m calls s. (
      let P : List Export → Type 0 = λ rows. y ≡ record x { rows = rows; waits = still_waiting t x.waits; room = y.room } in
      subst P (rows-among os t (held_by lease (max t m) calls) x.waits x.rows (among lease m calls s)) (kept lease m calls s));
  gone = λ lease m calls s. gone lease m calls s ∙ ap (λ l. before ++ l) (gone-among os t (held_by lease (max t m) calls) x.waits x.rows (among lease m calls s));
  dropped = λ lease m calls s. (
      let P : List ObjId → Type 0 = λ l. StandsFor lease leases2 m (map (without_all l) calls) in
      subst P (gone-among os t (held_by lease (max t m) calls) x.waits x.rows (among lease m calls s)) (dropped lease m calls s));
}

-- ---- where there is nothing to do

still-all : (t : ℕ) (ws : List Wait) → list_any (λ w. not (goes_on t w)) ws ≡ false → still_waiting t ws ≡ ws
still-all t [] h = refl
still-all t (w ∷ ws) h = go (goes_on t w) h (still-all t ws)
  where
    go : (b : Bool) → (not b || list_any (λ v. not (goes_on t v)) ws) ≡ false → (list_any (λ v. not (goes_on t v)) ws ≡ false → still_waiting t ws ≡ ws) → cond b (w ∷ still_waiting t ws) (still_waiting t ws) ≡ w ∷ ws
    go true h f = ap (λ l. w ∷ l) (f h)
    go false h f = absurd (cc)

all-stay : (t : ℕ) (held : ObjId → Bool) (waits : List Wait) (rows : List Export) → filter (stays_among [] t held waits) rows ≡ rows
all-stay t held waits [] = refl
all-stay t held waits (x ∷ rows) = ap (λ l. x ∷ l) (all-stay t held waits rows)

none-goes : (t : ℕ) (held : ObjId → Bool) (waits : List Wait) (rows : List Export) → ids (filter (λ x. not (stays_among [] t held waits x)) rows) ≡ []
none-goes t held waits [] = refl
none-goes t held waits (x ∷ rows) = none-goes t held waits rows

-- A withdrawal that looks at no object, where no wait has ended.
pub nothing-withdrawn : {leases : LeaseTable} {x : ExportTable} {t : ℕ} {gone : List ObjId} (os : List ObjId) → os ≡ [] → list_any (λ w. not (goes_on t w)) x.waits ≡ false → GoesAmong leases x t os →
    HasWithdrawn leases leases x x t gone gone
nothing-withdrawn {leases} {x} {t} {gone} os none over among =
    let G : List ObjId → Type 0 = λ l. GoesAmong leases x t l in
    withdrawn-among [] (subst G none among)
    (λ lease m calls s. ap (λ (rows : List Export). record x { rows = rows }) (sym (all-stay t (held_by lease (max t m) calls) x.waits x.rows))
    ∙ ap (λ (ws : List Wait). record x { rows = filter (stays_among [] t (held_by lease (max t m) calls) x.waits) x.rows; waits = ws }) (sym (still-all t x.waits over)))
    (λ lease m calls s. sym (append-nil gone) ∙ ap (λ l. gone ++ l) (sym (none-goes t (held_by lease (max t m) calls) x.waits x.rows)))
    (λ lease m calls s.
    let P : List ObjId → Type 0 = λ l. StandsFor lease leases m (map (without_all l) calls) in
    subst P (sym (none-goes t (held_by lease (max t m) calls) x.waits x.rows)) (dropped-none lease m leases calls s))
