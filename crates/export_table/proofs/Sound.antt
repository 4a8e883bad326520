-- What holds of each table stays as rows and waits change.
use Rattle.std.proofs.Common.{◌≡◌, inl, inr, ℕ, ◌+◌, ◌<◌, ◌≤◌, List, [], ◌∷◌, ◌++◌, length, refl, ap, sym, subst, ◌∙◌, arith, cond, suc, length-append}
use Rattle.std.specs.Prelude.{ℤ, pos, negsuc, max, Bool, true, false, ◌&&◌, ◌||◌, not, filter, int_lt, if◌then◌else◌}
use Rattle.std.specs.List.{list_any, list_all}
use Rattle.std.proofs.lemmas.Bool.{and_parts, and_from, lt-ltb, ltb-true, not-true}
use Rattle.std.proofs.lemmas.List.{map-append, length-map}
use Rattle.std.proofs.str.Laws.{order}
use Rattle.sequence.proofs.Lists.{filter-shorter}
use Rattle.object_ids.specs.declared.ids.Uid.{Uid}
use Rattle.object_ids.specs.declared.ids.ObjId.{ObjId}
use Rattle.object_ids.specs.Same.{same_id, same_uid}
use Rattle.object_ids.proofs.Exact.{same_id-equal, same_id-self, same_uid-equal, same_uid-self}
use Rattle.history.specs.declared.limits.TheConstants.{MAX_EXPORTS, MAX_AWAITING, END_OF_OBJECT_COUNT}
use Rattle.history.specs.Places.{id_at}
use Rattle.history.proofs.ListLemmas.{list_any-filter}
use Rattle.export_table.specs.declared.rows.Export.{Export}
use Rattle.export_table.specs.declared.waits.Wait.{Wait}
use Rattle.export_table.specs.ExportRows.{is_of, ids, is_rising, is_given, new_row, with_row_changed, IsPart}
use Rattle.export_table.specs.Waits.{is_wait_of, goes_on, still_waiting, is_waiting, end_of_wait, with_listed, each_once}
use Rattle.export_table.specs.Table.{IsSound}
use Rattle.export_table.proofs.Parts.{part-map, part-length, part-all, part-rising}

-- ---- a change to one row

ids-changed : (f : Export → Export) (o : ObjId) → ((x : Export) → (f x).id ≡ x.id) → (rows : List Export) → ids (with_row_changed f o rows) ≡ ids rows
ids-changed f o k [] = refl
ids-changed f o k (x ∷ rows) = ap (λ p. p ∷ ids (with_row_changed f o rows)) (one (is_of o x)) ∙ ap (λ l. x.id ∷ l) (ids-changed f o k rows)
  where
    one : (b : Bool) → (if b then f x else x).id ≡ x.id
    one true = k x
    one false = refl

pub sound-changed : (space : Uid) (ack k : ℕ) (rows : List Export) (waits : List Wait) (f : Export → Export) (o : ObjId) → ((x : Export) → (f x).id ≡ x.id) →
    IsSound space ack k rows waits → IsSound space ack k (with_row_changed f o rows) waits
sound-changed space ack k rows waits f o same s =
    let few = s.few in let long = length-map rows (λ x. if is_of o x then f x else x) in record {
      some = s.some;
      short = s.short;
      countable = s.countable;
      rising = ap is_rising (ids-changed f o same rows) ∙ s.rising;
      given = ap (list_all (is_given space k)) (ids-changed f o same rows) ∙ s.given;
      few = (let P : ℕ → Type 0 = λ n. n ≤ MAX_EXPORTS in subst P (sym long) s.few);
      few_waits = s.few_waits;
      once = s.once;
    }

-- ---- one more row

pub below-next : (n : ℤ) (k : ℕ) → int_lt n (pos (16 + k)) ≡ true → int_lt n (pos (16 + (k + 1))) ≡ true
below-next (pos m) k h = lt-ltb m (16 + (k + 1)) (let less = ltb-true m (16 + k) h in omega arith)
below-next (negsuc m) k h = refl

pub new-below : (k : ℕ) → int_lt (pos (16 + k)) (pos (16 + (k + 1))) ≡ true
new-below k = lt-ltb (16 + k) (16 + (k + 1)) (omega arith)

given-next : (space : Uid) (k : ℕ) (os : List ObjId) → list_all (is_given space k) os ≡ true → list_all (is_given space (k + 1)) os ≡ true
given-next space k [] h = refl
given-next space k (o ∷ os) h =
    let two = and_parts (is_given space k o) (list_all (is_given space k) os) h in
    let own = and_parts (same_uid o.space space) (int_lt o.number (pos (16 + k))) two.0 in
    and_from (is_given space (k + 1) o) (list_all (is_given space (k + 1)) os) (and_from (same_uid o.space space) (int_lt o.number (pos (16 + (k + 1)))) own.0 (below-next o.number k own.1)) (given-next space k os two.1)

all-push : {X : Type 0} (p : X → Bool) (xs : List X) (x : X) → list_all p xs ≡ true → p x ≡ true → list_all p (xs ++ x ∷ []) ≡ true
all-push p [] x h e = and_from (p x) true e refl
all-push p (y ∷ xs) x h e = let two = and_parts (p y) (list_all p xs) h in and_from (p y) (list_all p (xs ++ x ∷ [])) two.0 (all-push p xs x two.1 e)

rising-push : (space : Uid) (k : ℕ) (os : List ObjId) → list_all (is_given space k) os ≡ true → is_rising os ≡ true → is_rising (os ++ id_at space k ∷ []) ≡ true
rising-push space k [] g r = refl
rising-push space k (o ∷ os) g r =
    let two = and_parts (list_all (λ p. int_lt o.number p.number) os) (is_rising os) r in
    let own = and_parts (is_given space k o) (list_all (is_given space k) os) g in
    and_from (list_all (λ p. int_lt o.number p.number) (os ++ id_at space k ∷ [])) (is_rising (os ++ id_at space k ∷ []))
    (all-push (λ p. int_lt o.number p.number) os (id_at space k) two.0 (and_parts (same_uid o.space space) (int_lt o.number (pos (16 + k))) own.0).1) (rising-push space k os own.1 two.1)

pub sound-added : (space : Uid) (ack k : ℕ) (rows : List Export) (waits : List Wait) (kind : ℕ) (pinned : Bool) → k < END_OF_OBJECT_COUNT → length rows < MAX_EXPORTS →
    IsSound space ack k rows waits → IsSound space ack (k + 1) (rows ++ new_row (id_at space k) kind pinned ∷ []) waits
sound-added space ack k rows waits kind pinned early room s =
    let x = new_row (id_at space k) kind pinned in
    let names : ids (rows ++ x ∷ []) ≡ ids rows ++ id_at space k ∷ [] = map-append (λ (y : Export). y.id) rows (x ∷ []) in
    let long = length-append rows (x ∷ []) in record {
      some = s.some;
      short = s.short;
      countable = omega arith;
      rising = ap is_rising names ∙ rising-push space k (ids rows) s.given s.rising;
      given = ap (list_all (is_given space (k + 1))) names
          ∙ all-push (is_given space (k + 1)) (ids rows) (id_at space k) (given-next space k (ids rows) s.given) (and_from (same_uid space space) (int_lt (pos (16 + k)) (pos (16 + (k + 1)))) (same_uid-self space) (new-below k));
      few = omega arith;
      few_waits = s.few_waits;
      once = s.once;
    }

-- ---- fewer rows

pub sound-part : (space : Uid) (ack k : ℕ) (rows part : List Export) (waits : List Wait) → IsPart part rows → IsSound space ack k rows waits → IsSound space ack k part waits
sound-part space ack k rows part waits p s =
    let few = s.few in let fewer = part-length part rows p in let names = part-map (λ (y : Export). y.id) part rows p in record {
      some = s.some;
      short = s.short;
      countable = s.countable;
      rising = part-rising (ids part) (ids rows) names s.rising;
      given = part-all (is_given space k) (ids part) (ids rows) names s.given;
      few = omega arith;
      few_waits = s.few_waits;
      once = s.once;
    }

-- ---- waits

absent-filter : (q p : Wait → Bool) (waits : List Wait) → list_any q waits ≡ false → list_any q (filter p waits) ≡ false
absent-filter q p [] h = refl
absent-filter q p (w ∷ waits) h = go (p w) (q w) refl h (absent-filter q p waits)
  where
    go : (a b : Bool) → q w ≡ b → (b || list_any q waits) ≡ false → (list_any q waits ≡ false → list_any q (filter p waits) ≡ false) → list_any q (cond a (w ∷ filter p waits) (filter p waits)) ≡ false
    go a true e f rest = absurd (cc)
    go true false e f rest = rw e (rest f)
    go false false e f rest = rest f

pub once-filter : (p : Wait → Bool) (waits : List Wait) → each_once waits ≡ true → each_once (filter p waits) ≡ true
once-filter p [] h = refl
once-filter p (w ∷ waits) h =
    let two = and_parts (not (list_any (is_wait_of w.object w.uid) waits)) (each_once waits) h in
    go (p w) (absent-filter (is_wait_of w.object w.uid) p waits (not-true (list_any (is_wait_of w.object w.uid) waits) two.0)) (once-filter p waits two.1)
  where
    go : (a : Bool) → list_any (is_wait_of w.object w.uid) (filter p waits) ≡ false → each_once (filter p waits) ≡ true → each_once (cond a (w ∷ filter p waits) (filter p waits)) ≡ true
    go true x rest = rw (x, rest) refl
    go false x rest = rest

pub sound-filter : (space : Uid) (ack k : ℕ) (rows : List Export) (waits : List Wait) (p : Wait → Bool) → IsSound space ack k rows waits → IsSound space ack k rows (filter p waits)
sound-filter space ack k rows waits p s =
    let few = s.few_waits in let fewer = filter-shorter p waits in record {
      some = s.some;
      short = s.short;
      countable = s.countable;
      rising = s.rising;
      given = s.given;
      few = s.few;
      few_waits = omega arith;
      once = once-filter p waits s.once;
    }

-- One that passes is left out.
shorter : (p : Wait → Bool) (waits : List Wait) → list_any p waits ≡ true → length (filter (λ w. not (p w)) waits) < length waits
shorter p [] h = absurd (cc)
shorter p (w ∷ waits) h = go (p w) h (shorter p waits) (filter-shorter (λ v. not (p v)) waits)
  where
    go : (a : Bool) → (a || list_any p waits) ≡ true → (list_any p waits ≡ true → length (filter (λ v. not (p v)) waits) < length waits) → length (filter (λ v. not (p v)) waits) ≤ length waits →
        length (cond (not a) (w ∷ filter (λ v. not (p v)) waits) (filter (λ v. not (p v)) waits)) < suc (length waits)
    go true e rest fewer = omega arith
    go false e rest fewer = let r = rest e in omega arith

same-wait : (o : ObjId) (u : Uid) (w : Wait) → is_wait_of o u w ≡ true → (w.object ≡ o) × (w.uid ≡ u)
same-wait o u w h = let two = and_parts (same_id w.object o) (same_uid w.uid u) h in (same_id-equal w.object o two.0, same_uid-equal w.uid u two.1)

pub once-push : (waits : List Wait) (v : Wait) → each_once waits ≡ true → list_any (is_wait_of v.object v.uid) waits ≡ false → each_once (waits ++ v ∷ []) ≡ true
once-push [] v o h = refl
once-push (w ∷ waits) v o h =
    let two = and_parts (not (list_any (is_wait_of w.object w.uid) waits)) (each_once waits) o in
    let parts = apart_both (is_wait_of v.object v.uid w) (list_any (is_wait_of v.object v.uid) waits) h in
    rw (absent (list_any (is_wait_of w.object w.uid) (waits ++ v ∷ [])) (push waits (not-true (list_any (is_wait_of w.object w.uid) waits) two.0) (turned parts.0)), once-push waits v two.1 parts.1) refl
  where
    apart_both : (a b : Bool) → (a || b) ≡ false → (a ≡ false) × (b ≡ false)
    apart_both true b e = absurd (cc)
    apart_both false b e = (refl, e)

    absent : (b : Bool) → b ≡ false → b ≡ false
    absent b e = e

    turned : is_wait_of v.object v.uid w ≡ false → is_wait_of w.object w.uid v ≡ false
    turned e = go (is_wait_of w.object w.uid v) refl
      where
        go : (b : Bool) → is_wait_of w.object w.uid v ≡ b → b ≡ false
        go false f = refl
        go true f = absurd (
            let same = same-wait w.object w.uid v f in
            let here : is_wait_of v.object v.uid w ≡ true = ap (λ x. same_id w.object x && same_uid w.uid v.uid) same.0 ∙ ap (λ x. same_id w.object w.object && same_uid w.uid x) same.1
            ∙ and_from (same_id w.object w.object) (same_uid w.uid w.uid) (same_id-self w.object) (same_uid-self w.uid) in cc)

    push : (xs : List Wait) → list_any (is_wait_of w.object w.uid) xs ≡ false → is_wait_of w.object w.uid v ≡ false → list_any (is_wait_of w.object w.uid) (xs ++ v ∷ []) ≡ false
    push [] a b = rw b refl
    push (x ∷ xs) a b = let two = apart_both (is_wait_of w.object w.uid x) (list_any (is_wait_of w.object w.uid) xs) a in rw two.0 (push xs two.1 b)

pub gone-filter : (p : Wait → Bool) (waits : List Wait) → list_any p (filter (λ w. not (p w)) waits) ≡ false
gone-filter p [] = refl
gone-filter p (w ∷ waits) = go (p w) refl (gone-filter p waits)
  where
    go : (a : Bool) → p w ≡ a → list_any p (filter (λ v. not (p v)) waits) ≡ false → list_any p (cond (not a) (w ∷ filter (λ v. not (p v)) waits) (filter (λ v. not (p v)) waits)) ≡ false
    go true e rest = rest
    go false e rest = rw e rest

-- One more wait, where there is a place for it.
fewer-listed : (t : ℕ) (o : ObjId) (u : Uid) (waits : List Wait) (most : ℕ) → length waits ≤ most → ((most ≤ length (still_waiting t waits)) × (is_waiting t o u waits ≡ false) → ⊥) →
    length (filter (λ w. not (is_wait_of o u w)) (still_waiting t waits)) < most
fewer-listed t o u waits most few room = go (is_waiting t o u waits) refl
  where
    go : (b : Bool) → is_waiting t o u waits ≡ b → length (filter (λ w. not (is_wait_of o u w)) (still_waiting t waits)) < most
    go true e =
        let one = shorter (is_wait_of o u) (still_waiting t waits) (list_any-filter (is_wait_of o u) (goes_on t) waits ∙ e) in
        let fewer = filter-shorter (goes_on t) waits in omega arith
    go false e =
        let one = filter-shorter (λ w. not (is_wait_of o u w)) (still_waiting t waits) in
        elim (order most (length (still_waiting t waits))) [
          | inl less ↦ absurd (room (omega arith, e))
          | inr more ↦ tight more one
        ]
      where
        tight : length (still_waiting t waits) ≤ most → length (filter (λ w. not (is_wait_of o u w)) (still_waiting t waits)) ≤ length (still_waiting t waits) → length (filter (λ w. not (is_wait_of o u w)) (still_waiting t waits)) < most
        tight a b = elim (order (length (still_waiting t waits)) most) [
          | inl less ↦ omega arith
          | inr same ↦ absurd (room (same, e))
        ]

pub sound-listed : (space : Uid) (ack k : ℕ) (rows : List Export) (waits : List Wait) (t : ℕ) (o : ObjId) (u : Uid) → ((MAX_AWAITING ≤ length (still_waiting t waits)) × (is_waiting t o u waits ≡ false) → ⊥) →
    IsSound space ack k rows waits → IsSound space ack k rows (with_listed ack t o u waits)
sound-listed space ack k rows waits t o u room s =
    let others = filter (λ w. not (is_wait_of o u w)) (still_waiting t waits) in
    let w : Wait = record { object = o; uid = u; until = max (t + ack) (end_of_wait o u waits) } in
    let fewer = fewer-listed t o u waits MAX_AWAITING s.few_waits room in let long = length-append others (w ∷ []) in record {
      some = s.some;
      short = s.short;
      countable = s.countable;
      rising = s.rising;
      given = s.given;
      few = s.few;
      few_waits = omega arith;
      once = once-push others w (once-filter (λ v. not (is_wait_of o u v)) (still_waiting t waits) (once-filter (goes_on t) waits s.once)) (gone-filter (is_wait_of o u) (still_waiting t waits));
    }
