-- Waits by their ends: those that have ended, and lists whose ends rise.
use Rattle.std.proofs.Common.{◌≡◌, ℕ, ◌+◌, ◌-◌, ◌<◌, ◌≤◌, List, [], ◌∷◌, ◌++◌, length, take, drop, get_or, refl, ap, sym, subst, ◌∙◌, arith, cond, suc, zero, append-nil, add-one, take-append-drop}
use Rattle.std.specs.Prelude.{Bool, true, false, ◌&&◌, ◌||◌, not, filter}
use Rattle.std.specs.List.{list_any}
use Rattle.std.proofs.Math.Dec.{leb}
use Rattle.std.proofs.Math.Seq.{drop-cons}
use Rattle.std.proofs.lemmas.Bool.{and_parts, ltb-true, leb-true, not-true}
use Rattle.std.proofs.lemmas.List.Elements.{filter-append}
use Rattle.object_ids.specs.declared.ids.Uid.{Uid}
use Rattle.object_ids.specs.declared.ids.ObjId.{ObjId}
use Rattle.object_ids.specs.Same.{same_id, same_uid}
use Rattle.object_ids.proofs.Exact.{same_id-equal, same_uid-equal}
use Rattle.history.proofs.ListLemmas.{and_false}
use Rattle.export_table.specs.declared.waits.Wait.{Wait}
use Rattle.export_table.specs.Waits.{is_wait_of, goes_on, still_waiting, ended_waits, is_waiting, each_once}
use Rattle.export_table.specs.WaitIndex.{EndsNoEarlier, EndsRise}
use Rattle.export_table.proofs.Indexing.{all-on, later-filter}

-- ---- those that go on, and those that have ended

-- Where all go on, none has ended.
on-none : (t : ℕ) (ws : List Wait) → still_waiting t ws ≡ ws → ended_waits t ws ≡ []
on-none t ws h = ap (ended_waits t) (sym h) ∙ passes ws
  where
    passes : (xs : List Wait) → ended_waits t (still_waiting t xs) ≡ []
    passes [] = refl
    passes (w ∷ xs) = go (goes_on t w) refl (passes xs)
      where
        go : (b : Bool) → goes_on t w ≡ b → ended_waits t (still_waiting t xs) ≡ [] → ended_waits t (cond b (w ∷ still_waiting t xs) (still_waiting t xs)) ≡ []
        go true p h = rw p h
        go false p h = h

-- Where all go on from a place on, those that have ended are before it.
pub over-front : (t n : ℕ) (ws : List Wait) → still_waiting t (drop n ws) ≡ drop n ws → ended_waits t (take n ws) ≡ ended_waits t ws
over-front t n ws h =
    sym (append-nil (ended_waits t (take n ws)))
    ∙ ap (λ l. ended_waits t (take n ws) ++ l) (sym (on-none t (drop n ws) h))
    ∙ sym (filter-append (λ w. not (goes_on t w)) (take n ws) (drop n ws))
    ∙ ap (ended_waits t) (take-append-drop n ws)

-- What goes on goes on.
pub waiting-twice : (t : ℕ) (ws : List Wait) → still_waiting t (still_waiting t ws) ≡ still_waiting t ws
waiting-twice t [] = refl
waiting-twice t (w ∷ ws) = go (goes_on t w) refl (waiting-twice t ws)
  where
    go : (b : Bool) → goes_on t w ≡ b → still_waiting t (still_waiting t ws) ≡ still_waiting t ws → still_waiting t (cond b (w ∷ still_waiting t ws) (still_waiting t ws)) ≡ cond b (w ∷ still_waiting t ws) (still_waiting t ws)
    go true p h = rw p (ap (λ l. w ∷ l) h)
    go false p h = h

pub rest-waits : (t n : ℕ) (ws : List Wait) → still_waiting t ws ≡ drop n ws → still_waiting t (drop n ws) ≡ drop n ws
rest-waits t n ws h = ap (still_waiting t) (sym h) ∙ waiting-twice t ws ∙ h

-- Those of some kind go on or have ended.
pub count-on-over : (t : ℕ) (p : Wait → Bool) (ws : List Wait) →
    length (filter (λ w. goes_on t w && p w) ws) + length (filter (λ w. not (goes_on t w) && p w) ws) ≡ length (filter p ws)
count-on-over t p [] = refl
count-on-over t p (w ∷ ws) = go (goes_on t w) (p w) (count-on-over t p ws)
  where
    on : List Wait
    on = filter (λ v. goes_on t v && p v) ws

    out : List Wait
    out = filter (λ v. not (goes_on t v) && p v) ws

    go : (a b : Bool) → length on + length out ≡ length (filter p ws) →
        length (cond (a && b) (w ∷ on) on) + length (cond (not a && b) (w ∷ out) out) ≡ length (cond b (w ∷ filter p ws) (filter p ws))
    go true true h = omega arith
    go true false h = h
    go false true h = omega arith
    go false false h = h

pub count-waiting : (t : ℕ) (ws : List Wait) → length (still_waiting t ws) + length (ended_waits t ws) ≡ length ws
count-waiting t [] = refl
count-waiting t (w ∷ ws) = go (goes_on t w) (count-waiting t ws)
  where
    go : (a : Bool) → length (still_waiting t ws) + length (ended_waits t ws) ≡ length ws →
        length (cond a (w ∷ still_waiting t ws) (still_waiting t ws)) + length (cond (not a) (w ∷ ended_waits t ws) (ended_waits t ws)) ≡ suc (length ws)
    go true h = omega arith
    go false h = omega arith

-- Those of some kind that have ended, by those that have ended.
pub over-of : (t : ℕ) (p : Wait → Bool) (ws : List Wait) → filter (λ w. not (goes_on t w) && p w) ws ≡ filter p (ended_waits t ws)
over-of t p [] = refl
over-of t p (w ∷ ws) = go (goes_on t w) (p w) refl (over-of t p ws)
  where
    go : (a b : Bool) → p w ≡ b → filter (λ v. not (goes_on t v) && p v) ws ≡ filter p (ended_waits t ws) →
        cond (not a && b) (w ∷ filter (λ v. not (goes_on t v) && p v) ws) (filter (λ v. not (goes_on t v) && p v) ws) ≡ filter p (cond (not a) (w ∷ ended_waits t ws) (ended_waits t ws))
    go true b e h = h
    go false true e h = rw e (ap (λ l. w ∷ l) h)
    go false false e h = rw e h

pub any-over-of : (t : ℕ) (p : Wait → Bool) (ws : List Wait) → list_any (λ w. not (goes_on t w) && p w) ws ≡ list_any p (ended_waits t ws)
any-over-of t p [] = refl
any-over-of t p (w ∷ ws) = go (goes_on t w) (any-over-of t p ws)
  where
    go : (a : Bool) → list_any (λ v. not (goes_on t v) && p v) ws ≡ list_any p (ended_waits t ws) →
        ((not a && p w) || list_any (λ v. not (goes_on t v) && p v) ws) ≡ list_any p (cond (not a) (w ∷ ended_waits t ws) (ended_waits t ws))
    go true h = h
    go false h = ap (λ b. p w || b) h

none-of : (o : ObjId) (u : Uid) (w : Wait) (ws : List Wait) → is_wait_of o u w ≡ true → list_any (is_wait_of w.object w.uid) ws ≡ false → list_any (is_wait_of o u) ws ≡ false
none-of o u w ws e h =
    let two = and_parts (same_id w.object o) (same_uid w.uid u) e in
    ap (λ v. list_any (is_wait_of o v) ws) (sym (same_uid-equal w.uid u two.1)) ∙ ap (λ p. list_any (is_wait_of p w.uid) ws) (sym (same_id-equal w.object o two.0)) ∙ h

less-any : (p q : Wait → Bool) (ws : List Wait) → list_any q ws ≡ false → list_any (λ w. p w && q w) ws ≡ false
less-any p q [] h = refl
less-any p q (w ∷ ws) h = go (q w) refl h (less-any p q ws)
  where
    go : (b : Bool) → q w ≡ b → (b || list_any q ws) ≡ false → (list_any q ws ≡ false → list_any (λ v. p v && q v) ws ≡ false) → list_any (λ v. p v && q v) (w ∷ ws) ≡ false
    go true e f rest = absurd (cc)
    go false e f rest = rw (e, and_false (p w)) (rest f)

-- A reference that is listed once waits exactly where its wait has not ended.
pub waits-not-over : (t : ℕ) (o : ObjId) (u : Uid) (ws : List Wait) → each_once ws ≡ true →
    is_waiting t o u ws ≡ (list_any (is_wait_of o u) ws && not (list_any (λ w. not (goes_on t w) && is_wait_of o u w) ws))
waits-not-over t o u [] once = refl
waits-not-over t o u (w ∷ ws) once =
    let two = and_parts (not (list_any (is_wait_of w.object w.uid) ws)) (each_once ws) once in
    go (is_wait_of o u w) refl two.0 (waits-not-over t o u ws two.1)
  where
    whole : (a : Bool) → (a || false) ≡ (true && not (not a || false))
    whole true = refl
    whole false = refl

    same-and : (a : Bool) → (a && true) ≡ a
    same-and true = refl
    same-and false = refl

    go : (b : Bool) → is_wait_of o u w ≡ b → not (list_any (is_wait_of w.object w.uid) ws) ≡ true →
        is_waiting t o u ws ≡ (list_any (is_wait_of o u) ws && not (list_any (λ v. not (goes_on t v) && is_wait_of o u v) ws)) →
        ((goes_on t w && b) || is_waiting t o u ws) ≡ ((b || list_any (is_wait_of o u) ws) && not ((not (goes_on t w) && b) || list_any (λ v. not (goes_on t v) && is_wait_of o u v) ws))
    go true e h ih =
        let none : list_any (is_wait_of o u) ws ≡ false = none-of o u w ws e (not-true (list_any (is_wait_of w.object w.uid) ws) h) in
        rw (less-any (goes_on t) (is_wait_of o u) ws none, less-any (λ v. not (goes_on t v)) (is_wait_of o u) ws none, same-and (goes_on t w), same-and (not (goes_on t w))) (whole (goes_on t w))
    go false e h ih = rw (and_false (goes_on t w), and_false (not (goes_on t w))) ih

-- ---- where the ends rise

pub rise-drop : (n : ℕ) (ws : List Wait) → EndsRise ws → EndsRise (drop n ws)
rise-drop zero ws rise = rise
rise-drop (suc n) [] rise = rise
rise-drop (suc n) (w ∷ ws) rise = rise-drop n ws rise.1

pub rise-filter : (p : Wait → Bool) (ws : List Wait) → EndsRise ws → EndsRise (filter p ws)
rise-filter p [] rise = rise
rise-filter p (w ∷ ws) rise = go (p w) (rise-filter p ws rise.1)
  where
    go : (b : Bool) → EndsRise (filter p ws) → EndsRise (cond b (w ∷ filter p ws) (filter p ws))
    go true h = (later-filter w.until p ws rise.0, h)
    go false h = h

-- Each ends no earlier than the one before it, and the first no earlier than a moment.
abbrev pub RiseFrom : ℕ → List Wait → Type 0
RiseFrom m [] = Unit {0}
RiseFrom m (w ∷ ws) = (m ≤ w.until) × RiseFrom w.until ws

from-below : (m : ℕ) (ws : List Wait) (n : ℕ) → n ≤ m → RiseFrom m ws → EndsNoEarlier n ws
from-below m [] n le rise = tt
from-below m (w ∷ ws) n le rise = let first = rise.0 in (omega arith, from-below w.until ws n (omega arith) rise.1)

pub from-rise : (m : ℕ) (ws : List Wait) → RiseFrom m ws → EndsRise ws
from-rise m [] rise = tt
from-rise m (w ∷ ws) rise = (from-below w.until ws w.until (omega arith) rise.1, from-rise w.until ws rise.1)

-- Where the first goes on, all do.
pub rise-on : (t : ℕ) (w : Wait) (ws : List Wait) → EndsRise (w ∷ ws) → goes_on t w ≡ true → still_waiting t (w ∷ ws) ≡ w ∷ ws
rise-on t w ws rise e = rw e (ap (λ l. w ∷ l) (all-on t w.until ws (ltb-true t w.until e) rise.0))

-- What goes on from a place on, where the wait there has ended, and where it goes on.
pub due-more : (t : ℕ) (ws : List Wait) (i : ℕ) (d : Wait) → i < length ws → goes_on t (get_or ws i d) ≡ false → still_waiting t (drop i ws) ≡ still_waiting t (drop (i + 1) ws)
due-more t ws i d h e = let here : drop i ws ≡ get_or ws i d ∷ drop (i + 1) ws = rw add-one (drop-cons ws i d h) in rw here (rw e refl)

pub due-rest : (t : ℕ) (ws : List Wait) (i : ℕ) (d : Wait) → i < length ws → EndsRise ws → goes_on t (get_or ws i d) ≡ true → still_waiting t (drop i ws) ≡ drop i ws
due-rest t ws i d h rise e =
    let here : drop i ws ≡ get_or ws i d ∷ drop (i + 1) ws = rw add-one (drop-cons ws i d h) in
    ap (still_waiting t) here ∙ rise-on t (get_or ws i d) (drop (i + 1) ws) (subst EndsRise here (rise-drop i ws rise)) e ∙ sym here

-- A wait that ends no earlier than the last one.
last-push : (v : Wait) (w : Wait) (ws : List Wait) → EndsNoEarlier v.until ws → v.until ≤ w.until → EndsNoEarlier v.until (ws ++ w ∷ [])
last-push v w [] later le = (le, later)
last-push v w (x ∷ ws) later le = (later.0, last-push v w ws later.1 le)

last-above : (v d : Wait) (ws : List Wait) (n : ℕ) → EndsNoEarlier v.until ws → n < length ws → v.until ≤ (get_or ws n d).until
last-above v d (x ∷ ws) zero later h = later.0
last-above v d (x ∷ ws) (suc n) later h = last-above v d ws n later.1 (omega arith)
last-above v d [] n later h = absurd (omega arith)

rise-push : (w d : Wait) (ws : List Wait) (n : ℕ) → EndsRise ws → suc n ≡ length ws → (get_or ws n d).until ≤ w.until → EndsRise (ws ++ w ∷ [])
rise-push w d [] n rise e le = absurd (omega arith)
rise-push w d (v ∷ []) zero rise e le = ((le, tt), (tt, tt))
rise-push w d (v ∷ []) (suc n) rise e le = absurd (omega arith)
rise-push w d (v ∷ x ∷ ws) zero rise e le = absurd (omega arith)
rise-push w d (v ∷ x ∷ ws) (suc n) rise e le =
    (last-push v w (x ∷ ws) rise.0 (let above = last-above v d (x ∷ ws) n rise.0 (omega arith) in omega arith), rise-push w d (x ∷ ws) n rise.1 (omega arith) le)

-- One more, no earlier than the last.
pub rise-last : (w d : Wait) (ws : List Wait) → EndsRise ws → leb (get_or ws (length ws - 1) d).until w.until ≡ true → EndsRise (ws ++ w ∷ [])
rise-last w d [] rise h = (tt, tt)
rise-last w d (v ∷ ws) rise h = rise-push w d (v ∷ ws) (length (v ∷ ws) - 1) rise (omega arith) (leb-true (get_or (v ∷ ws) (length (v ∷ ws) - 1) d).until w.until h)
