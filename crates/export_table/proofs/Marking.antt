-- Slots of which some are marked as about to go, and then swept: what of the rows stays, and what goes.
use Rattle.std.proofs.Common.{◌≡◌, ℕ, ◌+◌, ◌<◌, ◌≤◌, inl, inr, ◌⊎◌, List, [], ◌∷◌, ◌++◌, length, map, take, drop, get_or, refl, ap, sym, subst, ◌∙◌, arith, cond, suc, zero, append-nil}
use Rattle.std.specs.Prelude.{Bool, true, false, ◌&&◌, ◌||◌, not, filter, slice_set, if◌then◌else◌}
use Rattle.std.specs.List.{list_any}
use Rattle.std.proofs.lemmas.List.{take_more, take_all, set-get_or}
use Rattle.std.proofs.lemmas.List.Folds.{list_any-append}
use Rattle.std.proofs.lemmas.Bool.{or_parts}
use Rattle.object_ids.specs.declared.ids.ObjId.{ObjId}
use Rattle.export_table.specs.declared.rows.Export.{Export}
use Rattle.export_table.specs.declared.waits.Wait.{Wait}
use Rattle.export_table.specs.declared.slots.Slot.{Slot}
use Rattle.export_table.specs.ExportRows.{is_of, is_exported, ids, is_rising, is_among, is_row_kept, stays_among, IsPart}
use Rattle.export_table.specs.Slots.{is_here, is_leaving, is_gap, all_rows, rows_here, as_leaving, as_marked, none_leaving, AreMarked, IsSlotOf}
use Rattle.export_table.proofs.Slotted.{map-at, stays-here}

-- ---- what marks leave, whatever they are

pub marks-none : (slots : List Slot) → AreMarked slots slots
marks-none [] = refl
marks-none (s ∷ slots) = (s, slots, refl, inl refl, marks-none slots)

pub marks-at : (slots : List Slot) (i : ℕ) (d : Slot) → i < length slots → is_here (get_or slots i d) ≡ true → AreMarked slots (slice_set slots i (as_leaving (get_or slots i d)))
marks-at [] i d w h = absurd (omega arith)
marks-at (s ∷ slots) zero d w h = (as_leaving s, slots, refl, inr (h, refl), marks-none slots)
marks-at (s ∷ slots) (suc i) d w h = (s, slice_set slots i (as_leaving (get_or slots i d)), refl, inl refl, marks-at slots i d (omega arith) h)

pub marks-both : (a b c : List Slot) → AreMarked a b → AreMarked b c → AreMarked a c
marks-both [] b c m n = let P : List Slot → Type 0 = λ l. AreMarked l c in subst P m n
marks-both (s ∷ a) b c m n =
    let P : List Slot → Type 0 = λ l. AreMarked l c in
    let next : AreMarked (m.0 ∷ m.1) c = subst P m.2 n in
    (next.0, next.1, next.2, one s m.0 next.0 m.3 next.3, marks-both a m.1 next.1 m.4 next.4)
  where
    one : (r t u : Slot) → (t ≡ r) ⊎ ((is_here r ≡ true) × (t ≡ as_leaving r)) → (u ≡ t) ⊎ ((is_here t ≡ true) × (u ≡ as_leaving t)) → (u ≡ r) ⊎ ((is_here r ≡ true) × (u ≡ as_leaving r))
    one r t u (inl p) (inl q) = inl (q ∙ p)
    one r t u (inl p) (inr q) = inr (ap is_here (sym p) ∙ q.0, q.1 ∙ ap as_leaving p)
    one r t u (inr p) (inl q) = inr (p.0, q ∙ p.1)
    one r t u (inr p) (inr q) = absurd (let here : is_here t ≡ false = ap is_here p.1 in let there = q.0 in cc)

pub marked-rows : (a b : List Slot) → AreMarked a b → all_rows b ≡ all_rows a
marked-rows [] b m = ap all_rows m
marked-rows (s ∷ a) b m = ap all_rows m.2 ∙ ap (λ x. x ∷ all_rows m.1) (same m.0 m.3) ∙ ap (λ l. s.row ∷ l) (marked-rows a m.1 m.4)
  where
    same : (t : Slot) → (t ≡ s) ⊎ ((is_here s ≡ true) × (t ≡ as_leaving s)) → t.row ≡ s.row
    same t (inl p) = ap (λ (u : Slot). u.row) p
    same t (inr p) = ap (λ (u : Slot). u.row) p.1

pub marked-gaps : (a b : List Slot) → AreMarked a b → length (filter is_gap b) ≡ length (filter is_gap a)
marked-gaps [] b m = ap (λ (l : List Slot). length (filter is_gap l)) m
marked-gaps (s ∷ a) b m = ap (λ (l : List Slot). length (filter is_gap l)) m.2 ∙ one m.0 m.3 (marked-gaps a m.1 m.4)
  where
    go : (t : Slot) (b : Bool) → is_gap t ≡ b → is_gap s ≡ b → length (filter is_gap m.1) ≡ length (filter is_gap a) → length (filter is_gap (t ∷ m.1)) ≡ length (filter is_gap (s ∷ a))
    go t true e f h = rw e (rw f (ap suc h))
    go t false e f h = rw e (rw f h)

    one : (t : Slot) → (t ≡ s) ⊎ ((is_here s ≡ true) × (t ≡ as_leaving s)) → length (filter is_gap m.1) ≡ length (filter is_gap a) → length (filter is_gap (t ∷ m.1)) ≡ length (filter is_gap (s ∷ a))
    one t (inl p) h = go t (is_gap s) (ap is_gap p) refl h
    one t (inr p) h = go t false (ap is_gap p.1) (stays-here s.standing p.0).1 h

pub marked-part : (a b : List Slot) → AreMarked a b → IsPart (rows_here b) (rows_here a)
marked-part [] b m = ap rows_here m
marked-part (s ∷ a) b m = let P : List Slot → Type 0 = λ l. IsPart (rows_here l) (rows_here (s ∷ a)) in subst P (sym m.2) (one m.0 m.3 (marked-part a m.1 m.4))
  where
    go : (h : Bool) → IsPart (rows_here m.1) (rows_here a) →
        IsPart (map (λ (t : Slot). t.row) (cond h (s ∷ filter is_here m.1) (filter is_here m.1))) (map (λ (t : Slot). t.row) (cond h (s ∷ filter is_here a) (filter is_here a)))
    go true p = inr (rows_here m.1, refl, p)
    go false p = p

    one : (t : Slot) → (t ≡ s) ⊎ ((is_here s ≡ true) × (t ≡ as_leaving s)) → IsPart (rows_here m.1) (rows_here a) → IsPart (rows_here (t ∷ m.1)) (rows_here (s ∷ a))
    one t (inl p) h = let P : Slot → Type 0 = λ u. IsPart (rows_here (u ∷ m.1)) (rows_here (s ∷ a)) in subst P (sym p) (go (is_here s) h)
    one t (inr p) h = let P : Slot → Type 0 = λ u. IsPart (rows_here (u ∷ m.1)) (rows_here (s ∷ a)) in subst P (sym p.1) (rw p.0 (inl h))

-- No more are about to go than were exported.
pub marked-few : (a b : List Slot) → AreMarked a b → none_leaving a → length (filter is_leaving b) ≤ length (rows_here a)
marked-few [] b m n = let none = ap (λ (l : List Slot). length (filter is_leaving l)) m in omega (arith, none)
marked-few (s ∷ a) b m n = let same = ap (λ (l : List Slot). length (filter is_leaving l)) m.2 in let few = one m.0 m.3 (marked-few a m.1 m.4 (or_parts (is_leaving s) (list_any is_leaving a) n).1) in omega (arith, same, few)
  where
    kept : (v : Bool) → length (filter is_leaving m.1) ≤ length (rows_here a) → length (filter is_leaving m.1) ≤ length (map (λ (t : Slot). t.row) (cond v (s ∷ filter is_here a) (filter is_here a)))
    kept true h = omega (arith, h)
    kept false h = h

    same-slot : length (filter is_leaving m.1) ≤ length (rows_here a) → length (filter is_leaving (s ∷ m.1)) ≤ length (rows_here (s ∷ a))
    same-slot h = rw (or_parts (is_leaving s) (list_any is_leaving a) n).0 (kept (is_here s) h)

    one : (t : Slot) → (t ≡ s) ⊎ ((is_here s ≡ true) × (t ≡ as_leaving s)) → length (filter is_leaving m.1) ≤ length (rows_here a) → length (filter is_leaving (t ∷ m.1)) ≤ length (rows_here (s ∷ a))
    one t (inl p) h = let P : Slot → Type 0 = λ u. length (filter is_leaving (u ∷ m.1)) ≤ length (rows_here (s ∷ a)) in subst P (sym p) (same-slot h)
    one t (inr p) h = let P : Slot → Type 0 = λ u. length (filter is_leaving (u ∷ m.1)) ≤ length (rows_here (s ∷ a)) in subst P (sym p.1) (rw p.0 (omega (arith, h)))

-- A mark is one more.
pub one-more : (slots : List Slot) (i : ℕ) (d : Slot) → length (filter is_leaving (slice_set slots i (as_leaving (get_or slots i d)))) ≤ length (filter is_leaving slots) + 1
one-more [] i d = omega arith
one-more (s ∷ slots) zero d = go (is_leaving s)
  where
    go : (b : Bool) → suc (length (filter is_leaving slots)) ≤ length (cond b (s ∷ filter is_leaving slots) (filter is_leaving slots)) + 1
    go true = omega arith
    go false = omega arith
one-more (s ∷ slots) (suc i) d = go (is_leaving s) (one-more slots i d)
  where
    go : (b : Bool) → length (filter is_leaving (slice_set slots i (as_leaving (get_or slots i d)))) ≤ length (filter is_leaving slots) + 1 →
        length (cond b (s ∷ filter is_leaving (slice_set slots i (as_leaving (get_or slots i d)))) (filter is_leaving (slice_set slots i (as_leaving (get_or slots i d))))) ≤ length (cond b (s ∷ filter is_leaving slots) (filter is_leaving slots)) + 1
    go true h = omega (arith, h)
    go false h = h

-- ---- between which places they are

pub front-marked : (slots : List Slot) (n m p : ℕ) (t : Slot) → none_leaving (take n slots) → m ≤ n → m ≤ p → none_leaving (take m (slice_set slots p t))
front-marked [] n m p t h a b = none m
  where
    none : (k : ℕ) → list_any is_leaving (take k []) ≡ false
    none zero = refl
    none (suc k) = refl
front-marked (s ∷ slots) n zero p t h a b = refl
front-marked (s ∷ slots) zero (suc m) p t h a b = absurd (omega arith)
front-marked (s ∷ slots) (suc n) (suc m) zero t h a b = absurd (omega arith)
front-marked (s ∷ slots) (suc n) (suc m) (suc p) t h a b =
    let two = or_parts (is_leaving s) (list_any is_leaving (take n slots)) h in rw two.0 (front-marked slots n m p t two.1 (omega arith) (omega arith))

pub back-less : (slots : List Slot) (n m : ℕ) → none_leaving (drop n slots) → n ≤ m → none_leaving (drop m slots)
back-less [] n m h a = none m
  where
    none : (k : ℕ) → list_any is_leaving (drop k []) ≡ false
    none zero = refl
    none (suc k) = refl
back-less (s ∷ slots) n zero h a = let same : n ≡ 0 = omega arith in let P : ℕ → Type 0 = λ k. none_leaving (drop k (s ∷ slots)) in subst P same h
back-less (s ∷ slots) zero (suc m) h a = back-less slots 0 m (or_parts (is_leaving s) (list_any is_leaving slots) h).1 (omega arith)
back-less (s ∷ slots) (suc n) (suc m) h a = back-less slots n m h (omega arith)

pub back-marked : (slots : List Slot) (n m p : ℕ) (t : Slot) → none_leaving (drop n slots) → n ≤ m → p < m → none_leaving (drop m (slice_set slots p t))
back-marked [] n m p t h a b = back-less [] 0 m refl (omega arith)
back-marked (s ∷ slots) n zero p t h a b = absurd (omega arith)
back-marked (s ∷ slots) n (suc m) zero t h a b = back-less (s ∷ slots) n (suc m) h a
back-marked (s ∷ slots) zero (suc m) (suc p) t h a b = back-marked slots 0 m p t (or_parts (is_leaving s) (list_any is_leaving slots) h).1 (omega arith) (omega arith)
back-marked (s ∷ slots) (suc n) (suc m) (suc p) t h a b = back-marked slots n m p t h (omega arith) (omega arith)

-- ---- marks by a test of rows

pub stays-marked : (keeps : Export → Bool) (s : Slot) → keeps s.row ≡ true → as_marked keeps s ≡ s
stays-marked keeps s e = rw e (go (is_here s))
  where
    go : (b : Bool) → (if b && false then as_leaving s else s) ≡ s
    go true = refl
    go false = refl

pub away-marked : (keeps : Export → Bool) (s : Slot) → is_here s ≡ false → as_marked keeps s ≡ s
away-marked keeps s e = rw e refl

pub goes-marked : (keeps : Export → Bool) (s : Slot) → is_here s ≡ true → keeps s.row ≡ false → as_marked keeps s ≡ as_leaving s
goes-marked keeps s e f = rw e (rw f refl)

-- One test after another.
marked-twice : (p q r : Export → Bool) → ((x : Export) → r x ≡ (p x && q x)) → (s : Slot) → as_marked q (as_marked p s) ≡ as_marked r s
marked-twice p q r k s = go (is_here s) (p s.row) (q s.row) refl refl refl
  where
    go : (h a c : Bool) → is_here s ≡ h → p s.row ≡ a → q s.row ≡ c → as_marked q (as_marked p s) ≡ as_marked r s
    go false a c e f g = ap (as_marked q) (away-marked p s e) ∙ away-marked q s e ∙ sym (away-marked r s e)
    go true false c e f g = ap (as_marked q) (goes-marked p s e f) ∙ away-marked q (as_leaving s) refl ∙ sym (goes-marked r s e (k s.row ∙ ap (λ b. b && q s.row) f))
    go true true true e f g = ap (as_marked q) (stays-marked p s f) ∙ stays-marked q s g ∙ sym (stays-marked r s (k s.row ∙ ap (λ b. b && q s.row) f ∙ g))
    go true true false e f g = ap (as_marked q) (stays-marked p s f) ∙ goes-marked q s e g ∙ sym (goes-marked r s e (k s.row ∙ ap (λ b. b && q s.row) f ∙ g))

map-twice : (p q r : Export → Bool) → ((x : Export) → r x ≡ (p x && q x)) → (slots : List Slot) → map (as_marked q) (map (as_marked p) slots) ≡ map (as_marked r) slots
map-twice p q r k [] = refl
map-twice p q r k (s ∷ slots) = ap (λ t. t ∷ map (as_marked q) (map (as_marked p) slots)) (marked-twice p q r k s) ∙ ap (λ l. as_marked r s ∷ l) (map-twice p q r k slots)

-- One object more.
stays-more : (os : List ObjId) (o : ObjId) (t : ℕ) (held : ObjId → Bool) (ws : List Wait) (x : Export) → stays_among (os ++ o ∷ []) t held ws x ≡ (stays_among os t held ws x && stays_among (o ∷ []) t held ws x)
stays-more os o t held ws x = go (is_among os x) (is_among (o ∷ []) x) (is_among (os ++ o ∷ []) x) (is_row_kept t held ws x) (list_any-append _ os (o ∷ []))
  where
    go : (m n b k : Bool) → b ≡ (m || n) → (not b || k) ≡ ((not m || k) && (not n || k))
    go true true b true e = rw e refl
    go true true b false e = rw e refl
    go true false b true e = rw e refl
    go true false b false e = rw e refl
    go false n b k e = rw e refl

pub marks-more : (os : List ObjId) (i : ℕ) (d : ObjId) (t : ℕ) (held : ObjId → Bool) (ws : List Wait) (before slots after : List Slot) → i < length os →
    slots ≡ map (as_marked (stays_among (take i os) t held ws)) before → after ≡ map (as_marked (stays_among (get_or os i d ∷ []) t held ws)) slots →
    after ≡ map (as_marked (stays_among (take (i + 1) os) t held ws)) before
marks-more os i d t held ws before slots after w a b =
    b ∙ ap (map (as_marked (stays_among (get_or os i d ∷ []) t held ws))) a
    ∙ map-twice (stays_among (take i os) t held ws) (stays_among (get_or os i d ∷ []) t held ws) (stays_among (take i os ++ get_or os i d ∷ []) t held ws) (stays-more (take i os) (get_or os i d) t held ws) before
    ∙ ap (λ (l : List ObjId). map (as_marked (stays_among l t held ws)) before) (sym (take_more os i d w))

pub marks-start : (t : ℕ) (held : ObjId → Bool) (ws : List Wait) (slots : List Slot) → slots ≡ map (as_marked (stays_among [] t held ws)) slots
marks-start t held ws [] = refl
marks-start t held ws (s ∷ slots) = ap (λ l. s ∷ l) (marks-start t held ws slots) ∙ ap (λ u. u ∷ map (as_marked (stays_among [] t held ws)) slots) (sym (stays-marked (stays_among [] t held ws) s refl))

-- A row of another object stays.
other-stays : (o : ObjId) (t : ℕ) (held : ObjId → Bool) (ws : List Wait) (x : Export) → is_of o x ≡ false → stays_among (o ∷ []) t held ws x ≡ true
other-stays o t held ws x e = go (is_of o x) e
  where
    go : (b : Bool) → b ≡ false → (not (b || false) || is_row_kept t held ws x) ≡ true
    go true e = absurd (cc)
    go false e = refl

its-stays : (o : ObjId) (t : ℕ) (held : ObjId → Bool) (ws : List Wait) (x : Export) → is_of o x ≡ true → stays_among (o ∷ []) t held ws x ≡ is_row_kept t held ws x
its-stays o t held ws x e = go (is_of o x) e
  where
    go : (b : Bool) → b ≡ true → (not (b || false) || is_row_kept t held ws x) ≡ is_row_kept t held ws x
    go true e = refl
    go false e = absurd (cc)

-- AN OBJECT THAT ISN'T KEPT is marked at its place.
pub marks-one : (slots : List Slot) (o : ObjId) (i : ℕ) (x : Slot) (t : ℕ) (held : ObjId → Bool) (ws : List Wait) → is_rising (ids (all_rows slots)) ≡ true → IsSlotOf slots o i → x ≡ get_or slots i x →
    is_row_kept t held ws x.row ≡ false → slice_set slots i (as_leaving x) ≡ map (as_marked (stays_among (o ∷ []) t held ws)) slots
marks-one slots o i x t held ws r p at k =
    let its : is_of o x.row ≡ true = ap (λ (s : Slot). is_of o s.row) at ∙ p.its x in
    let here : is_here x ≡ true = ap is_here at ∙ p.stands x in
    ap (slice_set slots i) (sym (goes-marked (stays_among (o ∷ []) t held ws) x here (its-stays o t held ws x.row its ∙ k)) ∙ ap (as_marked (stays_among (o ∷ []) t held ws)) at)
    ∙ map-at (as_marked (stays_among (o ∷ []) t held ws)) o slots i x r p.within (p.its x) (λ s e. stays-marked (stays_among (o ∷ []) t held ws) s (other-stays o t held ws s.row e))

-- One that is kept isn't.
pub marks-kept : (slots : List Slot) (o : ObjId) (i : ℕ) (x : Slot) (t : ℕ) (held : ObjId → Bool) (ws : List Wait) → is_rising (ids (all_rows slots)) ≡ true → IsSlotOf slots o i → x ≡ get_or slots i x →
    is_row_kept t held ws x.row ≡ true → slots ≡ map (as_marked (stays_among (o ∷ []) t held ws)) slots
marks-kept slots o i x t held ws r p at k =
    let its : is_of o x.row ≡ true = ap (λ (s : Slot). is_of o s.row) at ∙ p.its x in
    sym (set-same slots i x at)
    ∙ ap (slice_set slots i) (sym (stays-marked (stays_among (o ∷ []) t held ws) x (its-stays o t held ws x.row its ∙ k)) ∙ ap (as_marked (stays_among (o ∷ []) t held ws)) at)
    ∙ map-at (as_marked (stays_among (o ∷ []) t held ws)) o slots i x r p.within (p.its x) (λ s e. stays-marked (stays_among (o ∷ []) t held ws) s (other-stays o t held ws s.row e))
  where
    set-same : (l : List Slot) (n : ℕ) (y : Slot) → y ≡ get_or l n y → slice_set l n y ≡ l
    set-same l n y e = ap (slice_set l n) e ∙ set-get_or l n y

-- Nor is one that isn't there.
pub marks-absent : (slots : List Slot) (o : ObjId) (t : ℕ) (held : ObjId → Bool) (ws : List Wait) → is_exported (rows_here slots) o ≡ false → slots ≡ map (as_marked (stays_among (o ∷ []) t held ws)) slots
marks-absent [] o t held ws h = refl
marks-absent (s ∷ slots) o t held ws h = go (is_here s) refl h (marks-absent slots o t held ws)
  where
    go : (b : Bool) → is_here s ≡ b → is_exported (map (λ (u : Slot). u.row) (cond b (s ∷ filter is_here slots) (filter is_here slots))) o ≡ false → (is_exported (rows_here slots) o ≡ false → slots ≡ map (as_marked (stays_among (o ∷ []) t held ws)) slots) → s ∷ slots ≡ map (as_marked (stays_among (o ∷ []) t held ws)) (s ∷ slots)
    go true e f rest =
        let two = or_parts (is_of o s.row) (is_exported (rows_here slots) o) f in
        ap (λ u. u ∷ slots) (sym (stays-marked (stays_among (o ∷ []) t held ws) s (other-stays o t held ws s.row two.0)))
        ∙ ap (λ l. as_marked (stays_among (o ∷ []) t held ws) s ∷ l) (rest two.1)
    go false e f rest = ap (λ u. u ∷ slots) (sym (away-marked (stays_among (o ∷ []) t held ws) s e)) ∙ ap (λ l. as_marked (stays_among (o ∷ []) t held ws) s ∷ l) (rest f)

pub marks-set : (slots : List Slot) (i : ℕ) (d t : Slot) → i < length slots → (t ≡ get_or slots i d) ⊎ ((is_here (get_or slots i d) ≡ true) × (t ≡ as_leaving (get_or slots i d))) → AreMarked slots (slice_set slots i t)
marks-set slots i d t w (inl e) = let P : List Slot → Type 0 = λ l. AreMarked slots l in subst P (sym (ap (slice_set slots i) e ∙ set-get_or slots i d)) (marks-none slots)
marks-set slots i d t w (inr p) = let P : List Slot → Type 0 = λ l. AreMarked slots l in subst P (sym (ap (slice_set slots i) p.1)) (marks-at slots i d w p.0)

pub marks-next : (slots : List Slot) (i : ℕ) (x t : Slot) → i < length slots → x ≡ get_or slots i x → (t ≡ x) ⊎ ((is_here x ≡ true) × (t ≡ as_leaving x)) → AreMarked slots (slice_set slots i t)
marks-next slots i x t w at (inl e) = marks-set slots i x t w (inl (e ∙ at))
marks-next slots i x t w at (inr p) = marks-set slots i x t w (inr (ap is_here (sym at) ∙ p.0, p.1 ∙ ap as_leaving at))

pub marks-end : (keeps : Export → Bool) (before slots : List Slot) (i : ℕ) → length before ≤ i → slots ≡ map (as_marked keeps) (take i before) ++ drop i before → slots ≡ map (as_marked keeps) before
marks-end keeps before slots i far e =
    e ∙ ap (λ (l : List Slot). map (as_marked keeps) (take i before) ++ l) (drop-all i before far) ∙ append-nil (map (as_marked keeps) (take i before)) ∙ ap (map (as_marked keeps)) (take_all i before far)
  where
    drop-all : (n : ℕ) (l : List Slot) → length l ≤ n → drop n l ≡ []
    drop-all zero [] h = refl
    drop-all (suc n) [] h = refl
    drop-all zero (s ∷ l) h = absurd (omega arith)
    drop-all (suc n) (s ∷ l) h = drop-all n l (omega arith)
