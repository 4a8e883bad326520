-- How many references of a return are listed, and where the first of them stands.
use Rattle.std.proofs.Common.{◌≡◌, ℕ, ◌+◌, ◌-◌, ◌<◌, ◌≤◌, List, [], ◌∷◌, ◌++◌, length, take, drop, get_or, map, refl, ap, sym, ◌∙◌, arith, cond, Some, None, suc, zero, add-one, append-nil, take-append-drop}
use Rattle.std.specs.Prelude.{Bool, true, false, not, unwrap_or, filter, if◌then◌else◌}
use Rattle.std.proofs.Math.Seq.{drop-cons}
use Rattle.std.proofs.lemmas.List.{drop-drop}
use Rattle.std.proofs.lemmas.List.Elements.{filter-append}
use Rattle.std.proofs.lemmas.List.Filters.{length-filter_more}
use Rattle.object_ids.specs.declared.ids.Uid.{Uid}
use Rattle.object_ids.specs.declared.ids.ObjId.{ObjId}
use Rattle.object_ids.specs.Same.{same_id, same_uid, same_uid_key}
use Rattle.object_ids.proofs.Exact.{same_uid-equal, same_uid_key-same}
use Rattle.indexmap.specs.IndexMap.{IndexMap, get}
use Rattle.dgc_server.specs.HolderIndex.{one_if}
use Rattle.export_table.specs.declared.waits.Wait.{Wait}
use Rattle.history.proofs.ListLemmas.{filter-same, every-always, and_false}
use Rattle.export_table.specs.declared.waits.Stays.TheVariants.{OtherReturns}
use Rattle.export_table.specs.Waits.{is_wait_of, end_of_wait, of_return, objects}
use Rattle.export_table.specs.WaitIndex.{returned_at, stays}

-- ---- one count

-- n has w at the key of v, and elsewhere what m has
pub put-returned : {S : Type 0} (v : Uid) (w : ℕ) (m n : IndexMap Uid ℕ S) → ((u : Uid) → get same_uid_key n u ≡ cond (same_uid_key v u) (Some w) (get same_uid_key m u)) →
    (u : Uid) → returned_at n u ≡ (if same_uid v u then w else returned_at m u)
put-returned v w m n h u = ap (λ x. unwrap_or x 0) (h u) ∙ ap (λ b. unwrap_or (cond b (Some w) (get same_uid_key m u)) 0) (same_uid_key-same v u) ∙ go (same_uid v u)
  where
    go : (b : Bool) → unwrap_or (cond b (Some w) (get same_uid_key m u)) 0 ≡ (if b then w else returned_at m u)
    go true = refl
    go false = refl

-- n has nothing at the key of v, and elsewhere what m has
pub removed-returned : {S : Type 0} (v : Uid) (m n : IndexMap Uid ℕ S) → ((u : Uid) → get same_uid_key n u ≡ cond (same_uid_key v u) None (get same_uid_key m u)) →
    (u : Uid) → returned_at n u ≡ (if same_uid v u then 0 else returned_at m u)
removed-returned v m n h u = ap (λ x. unwrap_or x 0) (h u) ∙ ap (λ b. unwrap_or (cond b None (get same_uid_key m u)) 0) (same_uid_key-same v u) ∙ go (same_uid v u)
  where
    go : (b : Bool) → unwrap_or (cond b None (get same_uid_key m u)) 0 ≡ (if b then 0 else returned_at m u)
    go true = refl
    go false = refl

-- a set count, as one more or one fewer
pub raised-returned : {S : Type 0} (v : Uid) (m n : IndexMap Uid ℕ S) → ((u : Uid) → returned_at n u ≡ (if same_uid v u then returned_at m v + 1 else returned_at m u)) → (u : Uid) → returned_at n u ≡ returned_at m u + one_if (same_uid v u)
raised-returned v m n h u = h u ∙ go (same_uid v u) refl
  where
    go : (b : Bool) → same_uid v u ≡ b → (if b then returned_at m v + 1 else returned_at m u) ≡ returned_at m u + one_if b
    go true e = ap (λ p. returned_at m p + 1) (same_uid-equal v u e)
    go false e = omega arith

pub lowered-returned : {S : Type 0} (v : Uid) (w : ℕ) (m n : IndexMap Uid ℕ S) → w + 1 ≡ returned_at m v → ((u : Uid) → returned_at n u ≡ (if same_uid v u then w else returned_at m u)) → (u : Uid) → returned_at n u + one_if (same_uid v u) ≡ returned_at m u
lowered-returned v w m n less h u = ap (λ x. x + one_if (same_uid v u)) (h u) ∙ go (same_uid v u) refl
  where
    go : (b : Bool) → same_uid v u ≡ b → (if b then w else returned_at m u) + one_if b ≡ returned_at m u
    go true e = less ∙ ap (returned_at m) (same_uid-equal v u e)
    go false e = omega arith

-- ---- where none of a return stands

-- Those of other returns are all.
pub others-stay : (u : Uid) (ws : List Wait) → of_return u ws ≡ [] → filter (λ w. not (same_uid w.uid u)) ws ≡ ws
others-stay u [] h = refl
others-stay u (w ∷ ws) h = go (same_uid w.uid u) h (others-stay u ws)
  where
    go : (b : Bool) → cond b (w ∷ of_return u ws) (of_return u ws) ≡ [] → (of_return u ws ≡ [] → filter (λ v. not (same_uid v.uid u)) ws ≡ ws) →
        cond (not b) (w ∷ filter (λ v. not (same_uid v.uid u)) ws) (filter (λ v. not (same_uid v.uid u)) ws) ≡ w ∷ ws
    go true f rest = absurd (cc)
    go false f rest = ap (λ l. w ∷ l) (rest f)

-- Where none stands before a place, all of a return stand from there on.
pub of-return-rest : (u : Uid) (ws : List Wait) (n : ℕ) → of_return u (take n ws) ≡ [] → of_return u (drop n ws) ≡ of_return u ws
of-return-rest u ws n h =
    ap (λ l. l ++ of_return u (drop n ws)) (sym h)
    ∙ sym (filter-append (λ w. same_uid w.uid u) (take n ws) (drop n ws))
    ∙ ap (of_return u) (take-append-drop n ws)

twice-not : (b : Bool) → not (not b) ≡ b
twice-not true = refl
twice-not false = refl

-- Where none stands before a place and none from another on, all of a return stand between them.
of-return-part : (u : Uid) (ws : List Wait) (m n : ℕ) → m ≤ n → of_return u (take m ws) ≡ [] → of_return u (drop n ws) ≡ [] → of_return u (take (n - m) (drop m ws)) ≡ of_return u ws
of-return-part u ws m n order before after =
    let whole : m + (n - m) ≡ n = omega arith in
    let none : of_return u (drop (n - m) (drop m ws)) ≡ [] = ap (of_return u) (drop-drop (n - m) m ws ∙ ap (λ k. drop k ws) whole) ∙ after in
    sym (append-nil (of_return u (take (n - m) (drop m ws))))
    ∙ ap (λ l. of_return u (take (n - m) (drop m ws)) ++ l) (sym none)
    ∙ sym (filter-append (λ w. same_uid w.uid u) (take (n - m) (drop m ws)) (drop (n - m) (drop m ws)))
    ∙ ap (of_return u) (take-append-drop (n - m) (drop m ws))
    ∙ of-return-rest u ws m before

-- The objects of a return, by the waits between.
pub objects-between : (u : Uid) (ws : List Wait) (m n : ℕ) → m ≤ n → of_return u (take m ws) ≡ [] → of_return u (drop n ws) ≡ [] →
    map (λ (w : Wait). w.object) (filter (λ w. not (stays (OtherReturns u) w)) (take (n - m) (drop m ws))) ≡ objects (of_return u ws)
objects-between u ws m n order before after =
    let part = take (n - m) (drop m ws) in
    ap objects
    (filter-same (λ w. not (stays (OtherReturns u) w)) (λ w. same_uid w.uid u) part (every-always (λ w. not (stays (OtherReturns u) w) ≡ same_uid w.uid u) (λ w. twice-not (same_uid w.uid u)) part)
    ∙ of-return-part u ws m n order before after)

-- How many of a return there are, with one wait more at the front or at the end.
here-more : (u : Uid) (ws : List Wait) (i : ℕ) (d : Wait) → i < length ws → length (of_return u (drop (i + 1) ws)) + one_if (same_uid (get_or ws i d).uid u) ≡ length (of_return u (drop i ws))
here-more u ws i d h =
    let split : drop i ws ≡ get_or ws i d ∷ drop (i + 1) ws = rw add-one (drop-cons ws i d h) in
    go (same_uid (get_or ws i d).uid u) ∙ sym (ap (λ l. length (of_return u l)) split)
  where
    go : (b : Bool) → length (of_return u (drop (i + 1) ws)) + one_if b ≡ length (cond b (get_or ws i d ∷ of_return u (drop (i + 1) ws)) (of_return u (drop (i + 1) ws)))
    go true = omega arith
    go false = omega arith

last-more : (u : Uid) (ws : List Wait) (i : ℕ) (d : Wait) → i < length ws → length (of_return u (take i ws)) + one_if (same_uid (get_or ws i d).uid u) ≡ length (of_return u (take (i + 1) ws))
last-more u ws i d h = go (same_uid (get_or ws i d).uid u) ∙ sym (length-filter_more (λ w. same_uid w.uid u) ws i d h)
  where
    go : (b : Bool) → length (of_return u (take i ws)) + one_if b ≡ length (of_return u (take i ws)) + cond b 1 0
    go true = refl
    go false = refl

pub here-less : (u : Uid) (ws : List Wait) (i : ℕ) (d : Wait) (left all : ℕ) → i < length ws → left + one_if (same_uid (get_or ws i d).uid u) ≡ all → all ≡ length (of_return u (drop i ws)) → left ≡ length (of_return u (drop (i + 1) ws))
here-less u ws i d left all h e f = go (one_if (same_uid (get_or ws i d).uid u)) e (here-more u ws i d h)
  where
    go : (k : ℕ) → left + k ≡ all → length (of_return u (drop (i + 1) ws)) + k ≡ length (of_return u (drop i ws)) → left ≡ length (of_return u (drop (i + 1) ws))
    go k e g = omega arith

pub last-less : (u : Uid) (ws : List Wait) (looked : ℕ) (d : Wait) (left all : ℕ) → looked < length ws → left + one_if (same_uid (get_or ws (length ws - (looked + 1)) d).uid u) ≡ all →
    all ≡ length (of_return u (take (length ws - looked) ws)) → left ≡ length (of_return u (take (length ws - (looked + 1)) ws))
last-less u ws looked d left all h e f =
    let i = length ws - (looked + 1) in
    let one : i + 1 ≡ length ws - looked = omega arith in
    go (one_if (same_uid (get_or ws i d).uid u)) e (last-more u ws i d (omega arith) ∙ ap (λ n. length (of_return u (take n ws))) one)
  where
    go : (k : ℕ) → left + k ≡ all → length (of_return u (take (length ws - (looked + 1)) ws)) + k ≡ length (of_return u (take (length ws - looked) ws)) → left ≡ length (of_return u (take (length ws - (looked + 1)) ws))
    go k e g = omega arith

-- Where some stand from a place on, the place is in the list.
pub some-left : (u : Uid) (ws : List Wait) (i : ℕ) → 0 < length (of_return u (drop i ws)) → i < length ws
some-left u [] zero h = absurd (omega arith)
some-left u [] (suc i) h = absurd (omega arith)
some-left u (w ∷ ws) zero h = omega arith
some-left u (w ∷ ws) (suc i) h = let there = some-left u ws i h in omega arith

pub none-of-count : (u : Uid) (ws : List Wait) → length (of_return u ws) ≡ 0 → of_return u ws ≡ []
none-of-count u ws h = go (of_return u ws) h
  where
    go : (xs : List Wait) → length xs ≡ 0 → xs ≡ []
    go [] e = refl
    go (x ∷ xs) e = absurd (omega arith)

-- The moment until which a reference waits, by the waits from that place on.
pub until-rest : (o : ObjId) (u : Uid) (ws : List Wait) (n : ℕ) → of_return u (take n ws) ≡ [] → end_of_wait o u (drop n ws) ≡ end_of_wait o u ws
until-rest o u ws zero h = refl
until-rest o u [] (suc n) h = refl
until-rest o u (w ∷ ws) (suc n) h = go (same_uid w.uid u) refl h (until-rest o u ws n)
  where
    go : (b : Bool) → same_uid w.uid u ≡ b → cond b (w ∷ of_return u (take n ws)) (of_return u (take n ws)) ≡ [] → (of_return u (take n ws) ≡ [] → end_of_wait o u (drop n ws) ≡ end_of_wait o u ws) →
        end_of_wait o u (drop n ws) ≡ end_of_wait o u (w ∷ ws)
    go true e f rest = absurd (cc)
    go false e f rest = rest f ∙ sym (rw (e, and_false (same_id w.object o)) refl)

-- Where none of a return stands, no reference of it does.
pub references-stay : (o : ObjId) (u : Uid) (ws : List Wait) → of_return u ws ≡ [] → filter (λ w. not (is_wait_of o u w)) ws ≡ ws
references-stay o u [] h = refl
references-stay o u (w ∷ ws) h = go (same_uid w.uid u) refl h (references-stay o u ws)
  where
    go : (b : Bool) → same_uid w.uid u ≡ b → cond b (w ∷ of_return u ws) (of_return u ws) ≡ [] → (of_return u ws ≡ [] → filter (λ v. not (is_wait_of o u v)) ws ≡ ws) →
        filter (λ v. not (is_wait_of o u v)) (w ∷ ws) ≡ w ∷ ws
    go true e f rest = absurd (cc)
    go false e f rest = rw (e, and_false (same_id w.object o)) (ap (λ l. w ∷ l) (rest f))
