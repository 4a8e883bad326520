-- Laws of the export table: of one object after each change, of the objects that a withdrawal leaves, and of the references that await.
use Rattle.std.proofs.Common.{◌≡◌, ℕ, ◌+◌, ◌≤◌, List, [], ◌∷◌, refl, ap, sym, ◌∙◌, arith, cond, Option, Some, None}
use Rattle.std.specs.Prelude.{pos, max, Bool, true, false, ◌&&◌, ◌||◌, not, filter, int_lt, nat_lt, option_map, if◌then◌else◌}
use Rattle.std.specs.List.{list_any, list_all}
use Rattle.std.proofs.lemmas.Bool.{and_parts, lt-ltb, ltb-true}
use Rattle.std.proofs.lemmas.List.Folds.{list_any-append}
use Rattle.object_ids.specs.declared.ids.Uid.{Uid}
use Rattle.object_ids.specs.declared.ids.ObjId.{ObjId}
use Rattle.object_ids.specs.Same.{same_id, same_uid}
use Rattle.object_ids.proofs.Exact.{same_id-equal, same_uid-equal}
use Rattle.history.specs.Places.{id_at}
use Rattle.history.specs.Lists.{AllOnce}
use Rattle.history.proofs.ListLemmas.{list_any-filter, or_false, and_false}
use Rattle.export_table.specs.declared.rows.Export.{Export}
use Rattle.export_table.specs.declared.waits.Wait.{Wait}
use Rattle.export_table.specs.ExportRows.{is_of, row_of, is_exported, kind_of, ids, is_rising, is_given, with_row_changed, is_row_kept, withdrawn_ids}
use Rattle.export_table.specs.Waits.{is_wait_of, goes_on, still_waiting, is_waiting, end_of_wait, with_listed, without_acknowledged}
use Rattle.export_table.proofs.Places.{row-none, not_below}

-- ---- the order of the objects

-- EACH OBJECT IS EXPORTED ONCE.
later-others : (o : ObjId) (os : List ObjId) → list_all (λ p. int_lt o.number p.number) os ≡ true → list_any (same_id o) os ≡ false
later-others o [] h = refl
later-others o (p ∷ os) h =
    let two = and_parts (int_lt o.number p.number) (list_all (λ q. int_lt o.number q.number) os) h in
    rw (other (same_id o p) refl two.0) (later-others o os two.1)
  where
    other : (b : Bool) → same_id o p ≡ b → int_lt o.number p.number ≡ true → b ≡ false
    other false e l = refl
    other true e l = absurd (let less = ap (λ (q : ObjId). int_lt o.number q.number) (same_id-equal o p e) ∙ l in let never = not_below o.number in cc)

pub rising-once : (os : List ObjId) → is_rising os ≡ true → AllOnce same_id os
rising-once [] h = tt
rising-once (o ∷ os) h =
    let two = and_parts (list_all (λ p. int_lt o.number p.number) os) (is_rising os) h in (later-others o os two.0, rising-once os two.1)

-- AN OBJECT THAT ISN'T EXPORTED isn't found.
pub kind-none : (rows : List Export) (o : ObjId) → is_exported rows o ≡ false → kind_of rows o ≡ None
kind-none rows o h = ap (λ (r : Option Export). option_map (λ x. x.kind) r) (row-none o rows h)

-- An object that is found is exported.
pub found-exported : (rows : List Export) (o : ObjId) (x : Export) → row_of rows o ≡ Some x → is_exported rows o ≡ true
found-exported [] o x h = absurd (cc)
found-exported (y ∷ rows) o x h = go (is_of o y) h (found-exported rows o x)
  where
    go : (b : Bool) → cond b (Some y) (row_of rows o) ≡ Some x → (row_of rows o ≡ Some x → is_exported rows o ≡ true) → (b || is_exported rows o) ≡ true
    go true e rest = refl
    go false e rest = rest e

-- An object whose kind is found is exported.
pub kind-exported : (rows : List Export) (o : ObjId) (k : ℕ) → kind_of rows o ≡ Some k → is_exported rows o ≡ true
kind-exported rows o k h = go (row_of rows o) refl h
  where
    go : (r : Option Export) → row_of rows o ≡ r → option_map (λ (x : Export). x.kind) r ≡ Some k → is_exported rows o ≡ true
    go None e f = absurd (cc)
    go (Some x) e f = found-exported rows o x e

-- THE NEXT NUMBER was never given: the object to be added isn't exported.
pub next-absent : (space : Uid) (k : ℕ) (rows : List Export) → list_all (is_given space k) (ids rows) ≡ true → is_exported rows (id_at space k) ≡ false
next-absent space k [] h = refl
next-absent space k (x ∷ rows) h =
    let two = and_parts (is_given space k x.id) (list_all (is_given space k) (ids rows)) h in
    let own = and_parts (same_uid x.id.space space) (int_lt x.id.number (pos (16 + k))) two.0 in
    rw (other (is_of (id_at space k) x) refl own.1) (next-absent space k rows two.1)
  where
    other : (b : Bool) → is_of (id_at space k) x ≡ b → int_lt x.id.number (pos (16 + k)) ≡ true → b ≡ false
    other false e l = refl
    other true e l = absurd (let less = ap (λ (q : ObjId). int_lt q.number (pos (16 + k))) (sym (same_id-equal x.id (id_at space k) e)) ∙ l in let never = not_below (pos (16 + k)) in cc)

-- ---- one object after a change

-- THE ROW of any object after a change to that of one.
pub row-changed : (f : Export → Export) (o p : ObjId) → ((x : Export) → (f x).id ≡ x.id) → (rows : List Export) →
    row_of (with_row_changed f o rows) p ≡ option_map (λ x. if is_of o x then f x else x) (row_of rows p)
row-changed f o p k [] = refl
row-changed f o p k (x ∷ rows) = rw (one (is_of o x)) (go (is_of p x) (row-changed f o p k rows))
  where
    one : (b : Bool) → is_of p (if b then f x else x) ≡ is_of p x
    one true = ap (λ (q : ObjId). same_id q p) (k x)
    one false = refl

    go : (b : Bool) → row_of (with_row_changed f o rows) p ≡ option_map (λ y. if is_of o y then f y else y) (row_of rows p) →
        cond b (Some (if is_of o x then f x else x)) (row_of (with_row_changed f o rows) p) ≡ option_map (λ y. if is_of o y then f y else y) (cond b (Some x) (row_of rows p))
    go true rest = refl
    go false rest = rest

pub exported-changed : (f : Export → Export) (o p : ObjId) → ((x : Export) → (f x).id ≡ x.id) → (rows : List Export) → is_exported (with_row_changed f o rows) p ≡ is_exported rows p
exported-changed f o p k [] = refl
exported-changed f o p k (x ∷ rows) = rw (one (is_of o x), exported-changed f o p k rows) refl
  where
    one : (b : Bool) → is_of p (if b then f x else x) ≡ is_of p x
    one true = ap (λ (q : ObjId). same_id q p) (k x)
    one false = refl

-- The other objects' rows stay.
pub other-changed : (f : Export → Export) (o p : ObjId) → ((x : Export) → (f x).id ≡ x.id) → same_id p o ≡ false → (rows : List Export) → row_of (with_row_changed f o rows) p ≡ row_of rows p
other-changed f o p k apart [] = refl
other-changed f o p k apart (x ∷ rows) = go (is_of o x) (is_of p x) refl refl (other-changed f o p k apart rows)
  where
    go : (a b : Bool) → is_of o x ≡ a → is_of p x ≡ b → row_of (with_row_changed f o rows) p ≡ row_of rows p →
        row_of ((if a then f x else x) ∷ with_row_changed f o rows) p ≡ cond b (Some x) (row_of rows p)
    go false true e g rest = rw g refl
    go false false e g rest = rw g rest
    go true false e g rest = rw (ap (λ (q : ObjId). same_id q p) (k x) ∙ g) rest
    go true true e g rest = absurd (let both = ap (λ (q : ObjId). same_id q o) (sym (same_id-equal x.id p g)) ∙ e in cc)

-- ---- what a withdrawal leaves

-- AN OBJECT IS EXPORTED after a withdrawal exactly where some row of it is kept.
pub exported-kept : (t : ℕ) (held : ObjId → Bool) (waits : List Wait) (rows : List Export) (o : ObjId) →
    is_exported (filter (is_row_kept t held waits) rows) o ≡ list_any (λ x. is_row_kept t held waits x && is_of o x) rows
exported-kept t held waits rows o = list_any-filter (is_of o) (is_row_kept t held waits) rows

any-ids : (o : ObjId) (rows : List Export) → list_any (λ p. same_id p o) (ids rows) ≡ is_exported rows o
any-ids o [] = refl
any-ids o (x ∷ rows) = ap (λ v. is_of o x || v) (any-ids o rows)

-- AN OBJECT IS WITHDRAWN exactly where some row of it isn't kept.
pub among-withdrawn : (t : ℕ) (held : ObjId → Bool) (waits : List Wait) (rows : List Export) (o : ObjId) →
    list_any (λ p. same_id p o) (withdrawn_ids t held waits rows) ≡ list_any (λ x. not (is_row_kept t held waits x) && is_of o x) rows
among-withdrawn t held waits rows o =
    any-ids o (filter (λ x. not (is_row_kept t held waits x)) rows) ∙ list_any-filter (is_of o) (λ x. not (is_row_kept t held waits x)) rows

-- ---- references that await

longer : (t k : ℕ) (w : Wait) → t ≤ k → goes_on k w ≡ true → goes_on t w ≡ true
longer t k w le h = lt-ltb t w.until (let less = ltb-true k w.until h in omega arith)

-- Forgetting what has ended changes nothing later.
pub waiting-forgotten : (t k : ℕ) (o : ObjId) (u : Uid) (waits : List Wait) → t ≤ k → is_waiting k o u (still_waiting t waits) ≡ is_waiting k o u waits
waiting-forgotten t k o u [] le = refl
waiting-forgotten t k o u (w ∷ waits) le = go (goes_on t w) (goes_on k w) refl refl (waiting-forgotten t k o u waits le)
  where
    go : (a b : Bool) → goes_on t w ≡ a → goes_on k w ≡ b → is_waiting k o u (still_waiting t waits) ≡ is_waiting k o u waits →
        is_waiting k o u (cond a (w ∷ still_waiting t waits) (still_waiting t waits)) ≡ ((b && is_wait_of o u w) || is_waiting k o u waits)
    go true b x y rest = rw (y, rest) refl
    go false false x y rest = rest
    go false true x y rest = absurd (let z = longer t k w le y in cc)

-- AN ACKNOWLEDGEMENT ends the waits of its return, and no others.
pub waiting-acknowledged : (k : ℕ) (o : ObjId) (u v : Uid) (waits : List Wait) → is_waiting k o u (without_acknowledged v waits) ≡ (not (same_uid u v) && is_waiting k o u waits)
waiting-acknowledged k o u v [] = sym (and_false (not (same_uid u v)))
waiting-acknowledged k o u v (w ∷ waits) = go (same_uid w.uid v) (same_uid w.uid u) refl refl (waiting-acknowledged k o u v waits)
  where
    left_out : (n a b c : Bool) → n ≡ false → (n && c) ≡ (n && ((a && b) || c))
    left_out true a b c e = absurd (cc)
    left_out false a b c e = refl

    kept : (n a b c : Bool) → n ≡ true → ((a && b) || (n && c)) ≡ (n && ((a && b) || c))
    kept true a b c e = refl
    kept false a b c e = absurd (cc)

    passed : (n a b c : Bool) → ((a && (b && false)) || (n && c)) ≡ (n && ((a && (b && false)) || c))
    passed n true true c = refl
    passed n true false c = refl
    passed n false b c = refl

    go : (a b : Bool) → same_uid w.uid v ≡ a → same_uid w.uid u ≡ b → is_waiting k o u (without_acknowledged v waits) ≡ (not (same_uid u v) && is_waiting k o u waits) →
        is_waiting k o u (cond (not a) (w ∷ without_acknowledged v waits) (without_acknowledged v waits)) ≡ (not (same_uid u v) && ((goes_on k w && (same_id w.object o && b)) || is_waiting k o u waits))
    go true true x y rest =
        rest ∙ left_out (not (same_uid u v)) (goes_on k w) (same_id w.object o && true) (is_waiting k o u waits) (ap (λ (z : Uid). not (same_uid z v)) (sym (same_uid-equal w.uid u y)) ∙ ap not x)
    go true false x y rest = rest ∙ sym (unlisted (not (same_uid u v)) (goes_on k w) (same_id w.object o) (is_waiting k o u waits))
      where
        unlisted : (n a b c : Bool) → (n && ((a && (b && false)) || c)) ≡ (n && c)
        unlisted n true true c = refl
        unlisted n true false c = refl
        unlisted n false b c = refl
    go false true x y rest =
        rw (y, rest) (kept (not (same_uid u v)) (goes_on k w) (same_id w.object o && true) (is_waiting k o u waits) (ap (λ (z : Uid). not (same_uid z v)) (sym (same_uid-equal w.uid u y)) ∙ ap not x))
    go false false x y rest = rw (y, rest) (passed (not (same_uid u v)) (goes_on k w) (same_id w.object o) (is_waiting k o u waits))

-- A REFERENCE THAT IS LISTED waits until its new end; the others wait as before.
pub waiting-listed : (ack t k : ℕ) (o p : ObjId) (u v : Uid) (waits : List Wait) → t ≤ k →
    is_waiting k p v (with_listed ack t o u waits)
    ≡ (if same_id o p && same_uid u v then nat_lt k (max (t + ack) (end_of_wait o u waits)) else is_waiting k p v waits)
waiting-listed ack t k o p u v waits le =
    list_any-append (λ w. goes_on k w && is_wait_of p v w) (filter (λ w. not (is_wait_of o u w)) (still_waiting t waits)) (record { object = o; uid = u; until = max (t + ack) (end_of_wait o u waits) } ∷ [])
    ∙ ap (λ b. is_waiting k p v (filter (λ w. not (is_wait_of o u w)) (still_waiting t waits)) || b) (or_false (nat_lt k (max (t + ack) (end_of_wait o u waits)) && (same_id o p && same_uid u v)))
    ∙ go (same_id o p && same_uid u v) refl
  where
    out : (b : Bool) → (same_id o p && same_uid u v) ≡ b → (ws : List Wait) → is_waiting k p v (filter (λ w. not (is_wait_of o u w)) ws) ≡ (not b && is_waiting k p v ws)
    out b e [] = sym (and_false (not b))
    out true e (w ∷ ws) = one (is_wait_of o u w) refl (out true e ws)
      where
        same : (o ≡ p) × (u ≡ v)
        same = let two = and_parts (same_id o p) (same_uid u v) e in (same_id-equal o p two.0, same_uid-equal u v two.1)

        one : (a : Bool) → is_wait_of o u w ≡ a → is_waiting k p v (filter (λ x. not (is_wait_of o u x)) ws) ≡ false →
            is_waiting k p v (cond (not a) (w ∷ filter (λ x. not (is_wait_of o u x)) ws) (filter (λ x. not (is_wait_of o u x)) ws)) ≡ false
        one true x rest = rest
        one false x rest =
            let gone : is_wait_of p v w ≡ false = ap (λ (z : ObjId). same_id w.object z && same_uid w.uid v) (sym same.0) ∙ ap (λ (z : Uid). same_id w.object o && same_uid w.uid z) (sym same.1) ∙ x in
            rw (gone, rest) (ap (λ b. b || false) (and_false (goes_on k w)))
    out false e (w ∷ ws) = one (is_wait_of o u w) refl (out false e ws)
      where
        one : (a : Bool) → is_wait_of o u w ≡ a → is_waiting k p v (filter (λ x. not (is_wait_of o u x)) ws) ≡ is_waiting k p v ws →
            is_waiting k p v (cond (not a) (w ∷ filter (λ x. not (is_wait_of o u x)) ws) (filter (λ x. not (is_wait_of o u x)) ws)) ≡ ((goes_on k w && is_wait_of p v w) || is_waiting k p v ws)
        one false x rest = ap (λ b. (goes_on k w && is_wait_of p v w) || b) rest
        one true x rest =
            let two = and_parts (same_id w.object o) (same_uid w.uid u) x in
            let other : is_wait_of p v w ≡ false = ap (λ (z : ObjId). same_id z p && same_uid w.uid v) (same_id-equal w.object o two.0) ∙ ap (λ (z : Uid). same_id o p && same_uid z v) (same_uid-equal w.uid u two.1) ∙ e in
            rest ∙ sym (rw other (ap (λ b. b || is_waiting k p v ws) (and_false (goes_on k w))))

    now_same : (a : Bool) → (false || (a && true)) ≡ a
    now_same true = refl
    now_same false = refl

    now_other : (a b : Bool) → (a || (b && false)) ≡ a
    now_other true b = refl
    now_other false true = refl
    now_other false false = refl

    go : (b : Bool) → (same_id o p && same_uid u v) ≡ b →
        (is_waiting k p v (filter (λ w. not (is_wait_of o u w)) (still_waiting t waits)) || (nat_lt k (max (t + ack) (end_of_wait o u waits)) && b))
        ≡ (if b then nat_lt k (max (t + ack) (end_of_wait o u waits)) else is_waiting k p v waits)
    go true e = ap (λ x. x || (nat_lt k (max (t + ack) (end_of_wait o u waits)) && true)) (out true e (still_waiting t waits)) ∙ now_same (nat_lt k (max (t + ack) (end_of_wait o u waits)))
    go false e =
        ap (λ x. x || (nat_lt k (max (t + ack) (end_of_wait o u waits)) && false)) (out false e (still_waiting t waits) ∙ waiting-forgotten t k p v waits le)
        ∙ now_other (is_waiting k p v waits) (nat_lt k (max (t + ack) (end_of_wait o u waits)))
