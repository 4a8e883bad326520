-- Slots of exported objects: where an object's is, and what a change there makes of the rows.
use Rattle.std.proofs.Common.{◌≡◌, ℕ, ◌+◌, ◌<◌, ◌≤◌, inl, inr, List, [], ◌∷◌, ◌++◌, length, map, take, drop, get_or, refl, ap, sym, subst, ◌∙◌, arith, cond, Some, None, suc, zero, append-nil, add-one}
use Rattle.std.specs.Prelude.{ℤ, pos, Bool, true, false, ◌||◌, filter, int_lt, slice_set, Option, option_map, unwrap_or, if◌then◌else◌}
use Rattle.std.specs.List.{list_all, list_any}
use Rattle.std.proofs.lemmas.Bool.{and_parts, and_from, or_parts}
use Rattle.std.proofs.lemmas.List.{map-append, get_or_default, take_more}
use Rattle.std.proofs.Math.ListN.{get_or-map}
use Rattle.object_ids.specs.declared.ids.ObjId.{ObjId}
use Rattle.export_table.specs.declared.rows.Export.{Export}
use Rattle.export_table.specs.declared.slots.Slot.{Slot}
use Rattle.export_table.specs.declared.slots.Standing.{Standing}
use Rattle.export_table.specs.declared.slots.Standing.TheVariants.{Here, Leaving, Gap}
use Rattle.export_table.specs.ExportRows.{is_of, is_exported, row_of, kind_of, running_of, pins_of, ids, is_rising, with_row_changed, IsPart}
use Rattle.export_table.specs.Slots.{stands_here, stands_leaving, stands_empty, is_here, is_leaving, is_gap, all_rows, rows_here, slot_of, with_slot_changed, none_leaving, AreSlots, IsSlotOf}
use Rattle.export_table.proofs.Parts.{part-map, part-all, part-rising}
use Rattle.export_table.proofs.Places.{apart, later-apart, changed-none}
use Rattle.export_table.proofs.RowLaws.{found-exported, kind-none}
use Rattle.export_table.proofs.Searching.{all_below, none_below, below-to, above-from, missing, no_row}
use Rattle.export_table.proofs.Sound.{below-next, new-below}

-- An object that comes before another is another.
earlier-apart : (o : ObjId) (x y : Export) → is_of o y ≡ true → int_lt x.id.number y.id.number ≡ true → is_of o x ≡ false
earlier-apart o x y h l = go (is_of o x) refl
  where
    go : (b : Bool) → is_of o x ≡ b → b ≡ false
    go false e = refl
    go true e = absurd (let other = apart o x y e l in cc)

slot-above : (x : Export) (slots : List Slot) (i : ℕ) (d : Slot) → list_all (λ p. int_lt x.id.number p.number) (ids (all_rows slots)) ≡ true → i < length slots →
    int_lt x.id.number (get_or slots i d).row.id.number ≡ true
slot-above x [] i d h w = absurd (omega arith)
slot-above x (s ∷ slots) zero d h w = (and_parts (int_lt x.id.number s.row.id.number) (list_all (λ p. int_lt x.id.number p.number) (ids (all_rows slots))) h).0
slot-above x (s ∷ slots) (suc i) d h w =
    slot-above x slots i d (and_parts (int_lt x.id.number s.row.id.number) (list_all (λ p. int_lt x.id.number p.number) (ids (all_rows slots))) h).1 (omega arith)

-- ---- a change at an object's slot

map-none : (f : Slot → Slot) (o : ObjId) (slots : List Slot) → is_exported (all_rows slots) o ≡ false → ((s : Slot) → is_of o s.row ≡ false → f s ≡ s) → map f slots ≡ slots
map-none f o [] h k = refl
map-none f o (s ∷ slots) h k =
    let two = or_parts (is_of o s.row) (is_exported (all_rows slots) o) h in
    ap (λ t. t ∷ map f slots) (k s two.0) ∙ ap (λ l. s ∷ l) (map-none f o slots two.1 k)

-- A CHANGE that leaves all other slots is one at the object's place.
pub map-at : (f : Slot → Slot) (o : ObjId) (slots : List Slot) (i : ℕ) (d : Slot) → is_rising (ids (all_rows slots)) ≡ true → i < length slots → is_of o (get_or slots i d).row ≡ true →
    ((s : Slot) → is_of o s.row ≡ false → f s ≡ s) → slice_set slots i (f (get_or slots i d)) ≡ map f slots
map-at f o [] i d r w h k = absurd (omega arith)
map-at f o (s ∷ slots) zero d r w h k =
    let two = and_parts (list_all (λ p. int_lt s.row.id.number p.number) (ids (all_rows slots))) (is_rising (ids (all_rows slots))) r in
    ap (λ l. f s ∷ l) (sym (map-none f o slots (later-apart o s.row (all_rows slots) h two.0) k))
map-at f o (s ∷ slots) (suc i) d r w h k =
    let two = and_parts (list_all (λ p. int_lt s.row.id.number p.number) (ids (all_rows slots))) (is_rising (ids (all_rows slots))) r in
    let other = k s (earlier-apart o s.row (get_or slots i d).row h (slot-above s.row slots i d two.0 (omega arith))) in
    ap (λ l. s ∷ l) (map-at f o slots i d two.1 (omega arith) h k) ∙ ap (λ t. t ∷ map f slots) (sym other)

pub altered-other : (f : Export → Export) (o : ObjId) (s : Slot) → is_of o s.row ≡ false → with_slot_changed f o s ≡ s
altered-other f o s e = rw e refl

pub altered-its : (f : Export → Export) (o : ObjId) (s : Slot) → is_of o s.row ≡ true → with_slot_changed f o s ≡ record s { row = f s.row }
altered-its f o s e = rw e refl

-- At the object's place the change is to its row.
pub altered-at : (f : Export → Export) (slots : List Slot) (o : ObjId) (i : ℕ) (x : Slot) → is_rising (ids (all_rows slots)) ≡ true → IsSlotOf slots o i → x ≡ get_or slots i x →
    slice_set slots i (record x { row = f x.row }) ≡ map (with_slot_changed f o) slots
altered-at f slots o i x r p at =
    let here : is_of o x.row ≡ true = ap (λ (s : Slot). is_of o s.row) at ∙ p.its x in
    ap (slice_set slots i) (sym (altered-its f o x here) ∙ ap (with_slot_changed f o) at)
    ∙ map-at (with_slot_changed f o) o slots i x r p.within (p.its x) (altered-other f o)

-- THE ROWS then are those with the change.
pub altered-rows : (f : Export → Export) (o : ObjId) (slots : List Slot) → rows_here (map (with_slot_changed f o) slots) ≡ with_row_changed f o (rows_here slots)
altered-rows f o [] = refl
altered-rows f o (s ∷ slots) = go (is_of o s.row) refl (altered-rows f o slots)
  where
    its : (h : Bool) → f s.row ≡ (if is_of o s.row then f s.row else s.row) → rows_here (map (with_slot_changed f o) slots) ≡ with_row_changed f o (rows_here slots) →
        map (λ (t : Slot). t.row) (cond h (record s { row = f s.row } ∷ filter is_here (map (with_slot_changed f o) slots)) (filter is_here (map (with_slot_changed f o) slots)))
        ≡ with_row_changed f o (map (λ (t : Slot). t.row) (cond h (s ∷ filter is_here slots) (filter is_here slots)))
    its true e rest = ap (λ x. x ∷ rows_here (map (with_slot_changed f o) slots)) e ∙ ap (λ l. (if is_of o s.row then f s.row else s.row) ∷ l) rest
    its false e rest = rest

    others : (h : Bool) → s.row ≡ (if is_of o s.row then f s.row else s.row) → rows_here (map (with_slot_changed f o) slots) ≡ with_row_changed f o (rows_here slots) →
        map (λ (t : Slot). t.row) (cond h (s ∷ filter is_here (map (with_slot_changed f o) slots)) (filter is_here (map (with_slot_changed f o) slots)))
        ≡ with_row_changed f o (map (λ (t : Slot). t.row) (cond h (s ∷ filter is_here slots) (filter is_here slots)))
    others true e rest = ap (λ x. x ∷ rows_here (map (with_slot_changed f o) slots)) e ∙ ap (λ l. (if is_of o s.row then f s.row else s.row) ∷ l) rest
    others false e rest = rest

    go : (b : Bool) → is_of o s.row ≡ b → rows_here (map (with_slot_changed f o) slots) ≡ with_row_changed f o (rows_here slots) → rows_here (with_slot_changed f o s ∷ map (with_slot_changed f o) slots) ≡ with_row_changed f o (rows_here (s ∷ slots))
    go true e rest = ap (λ (t : Slot). rows_here (t ∷ map (with_slot_changed f o) slots)) (altered-its f o s e) ∙ its (is_here s) (ap (λ b. if b then f s.row else s.row) (sym e)) rest
    go false e rest = ap (λ (t : Slot). rows_here (t ∷ map (with_slot_changed f o) slots)) (altered-other f o s e) ∙ others (is_here s) (ap (λ b. if b then f s.row else s.row) (sym e)) rest

altered-ids : (f : Export → Export) (o : ObjId) → ((x : Export) → (f x).id ≡ x.id) → (slots : List Slot) → ids (all_rows (map (with_slot_changed f o) slots)) ≡ ids (all_rows slots)
altered-ids f o k [] = refl
altered-ids f o k (s ∷ slots) = ap (λ p. p ∷ ids (all_rows (map (with_slot_changed f o) slots))) (one (is_of o s.row)) ∙ ap (λ l. s.row.id ∷ l) (altered-ids f o k slots)
  where
    one : (b : Bool) → (if b then record s { row = f s.row } else s).row.id ≡ s.row.id
    one true = k s.row
    one false = refl

altered-leaving : (f : Export → Export) (o : ObjId) (slots : List Slot) → list_any is_leaving (map (with_slot_changed f o) slots) ≡ list_any is_leaving slots
altered-leaving f o [] = refl
altered-leaving f o (s ∷ slots) = ap (λ b. b || list_any is_leaving (map (with_slot_changed f o) slots)) (one (is_of o s.row)) ∙ ap (λ b. is_leaving s || b) (altered-leaving f o slots)
  where
    one : (b : Bool) → is_leaving (if b then record s { row = f s.row } else s) ≡ is_leaving s
    one true = refl
    one false = refl

count-same : (a b : Bool) (s t : Slot) (xs ys : List Slot) → a ≡ b → length xs ≡ length ys → length (cond a (s ∷ xs) xs) ≡ length (cond b (t ∷ ys) ys)
count-same true true s t xs ys e h = ap suc h
count-same false false s t xs ys e h = h
count-same true false s t xs ys e h = absurd (cc)
count-same false true s t xs ys e h = absurd (cc)

altered-gaps : (f : Export → Export) (o : ObjId) (slots : List Slot) → length (filter is_gap (map (with_slot_changed f o) slots)) ≡ length (filter is_gap slots)
altered-gaps f o [] = refl
altered-gaps f o (s ∷ slots) =
    count-same (is_gap (with_slot_changed f o s)) (is_gap s) (with_slot_changed f o s) s (filter is_gap (map (with_slot_changed f o) slots)) (filter is_gap slots) (one (is_of o s.row)) (altered-gaps f o slots)
  where
    one : (b : Bool) → is_gap (if b then record s { row = f s.row } else s) ≡ is_gap s
    one true = refl
    one false = refl

-- They are slots as before.
pub slots-altered : (f : Export → Export) (o : ObjId) (slots : List Slot) (added gaps : ℕ) → ((x : Export) → (f x).id ≡ x.id) → AreSlots slots added gaps → AreSlots (map (with_slot_changed f o) slots) added gaps
slots-altered f o slots added gaps k s = record {
  rising = ap is_rising (altered-ids f o k slots) ∙ s.rising;
  given = ap (list_all (λ p. int_lt p.number (pos (16 + added)))) (altered-ids f o k slots) ∙ s.given;
  settled = altered-leaving f o slots ∙ s.settled;
  counted = altered-gaps f o slots ∙ s.counted;
}

-- ---- an object's row

row-first : (o : ObjId) (s : Slot) (slots : List Slot) → is_of o s.row ≡ true → is_here s ≡ true → row_of (rows_here (s ∷ slots)) o ≡ Some s.row
row-first o s slots h k = rw (k, h) refl

-- THE ROW of the object whose slot it is.
pub row-here : (o : ObjId) (slots : List Slot) (i : ℕ) (d : Slot) → is_rising (ids (all_rows slots)) ≡ true → i < length slots → is_of o (get_or slots i d).row ≡ true → is_here (get_or slots i d) ≡ true →
    row_of (rows_here slots) o ≡ Some (get_or slots i d).row
row-here o [] i d r w h k = absurd (omega arith)
row-here o (s ∷ slots) zero d r w h k = row-first o s slots h k
row-here o (s ∷ slots) (suc i) d r w h k =
    let two = and_parts (list_all (λ p. int_lt s.row.id.number p.number) (ids (all_rows slots))) (is_rising (ids (all_rows slots))) r in
    go (is_here s) (earlier-apart o s.row (get_or slots i d).row h (slot-above s.row slots i d two.0 (omega arith))) (row-here o slots i d two.1 (omega arith) h k)
  where
    go : (b : Bool) → is_of o s.row ≡ false → row_of (rows_here slots) o ≡ Some (get_or slots i d).row →
        row_of (map (λ (t : Slot). t.row) (cond b (s ∷ filter is_here slots) (filter is_here slots))) o ≡ Some (get_or slots i d).row
    go true e f = rw e f
    go false e f = f

-- No slot is an object's: it isn't exported.
pub absent-here : (o : ObjId) (slots : List Slot) → is_exported (all_rows slots) o ≡ false → is_exported (rows_here slots) o ≡ false
absent-here o [] h = refl
absent-here o (s ∷ slots) h =
    let two = or_parts (is_of o s.row) (is_exported (all_rows slots) o) h in
    go (is_here s) two.0 (absent-here o slots two.1)
  where
    go : (b : Bool) → is_of o s.row ≡ false → is_exported (rows_here slots) o ≡ false → is_exported (map (λ (t : Slot). t.row) (cond b (s ∷ filter is_here slots) (filter is_here slots))) o ≡ false
    go true e f = rw e f
    go false e f = f

away-first : (o : ObjId) (s : Slot) (slots : List Slot) → is_here s ≡ false → is_exported (rows_here slots) o ≡ false → is_exported (rows_here (s ∷ slots)) o ≡ false
away-first o s slots k h = rw k h

-- Its slot is a gap, or it is about to go: it isn't exported.
pub gone-here : (o : ObjId) (slots : List Slot) (i : ℕ) (d : Slot) → is_rising (ids (all_rows slots)) ≡ true → i < length slots → is_of o (get_or slots i d).row ≡ true → is_here (get_or slots i d) ≡ false →
    is_exported (rows_here slots) o ≡ false
gone-here o [] i d r w h k = absurd (omega arith)
gone-here o (s ∷ slots) zero d r w h k =
    let two = and_parts (list_all (λ p. int_lt s.row.id.number p.number) (ids (all_rows slots))) (is_rising (ids (all_rows slots))) r in
    away-first o s slots k (absent-here o slots (later-apart o s.row (all_rows slots) h two.0))
gone-here o (s ∷ slots) (suc i) d r w h k =
    let two = and_parts (list_all (λ p. int_lt s.row.id.number p.number) (ids (all_rows slots))) (is_rising (ids (all_rows slots))) r in
    go (is_here s) (earlier-apart o s.row (get_or slots i d).row h (slot-above s.row slots i d two.0 (omega arith))) (gone-here o slots i d two.1 (omega arith) h k)
  where
    go : (b : Bool) → is_of o s.row ≡ false → is_exported (rows_here slots) o ≡ false → is_exported (map (λ (t : Slot). t.row) (cond b (s ∷ filter is_here slots) (filter is_here slots))) o ≡ false
    go true e f = rw e f
    go false e f = f

-- ---- one more slot

filter-last : (p : Slot → Bool) (slots : List Slot) (s : Slot) → filter p (slots ++ s ∷ []) ≡ filter p slots ++ cond (p s) (s ∷ []) []
filter-last p [] s = go (p s)
  where
    go : (b : Bool) → cond b (s ∷ []) [] ≡ [] ++ cond b (s ∷ []) []
    go true = refl
    go false = refl
filter-last p (t ∷ slots) s = rw (filter-last p slots s) (go (p t))
  where
    go : (b : Bool) → cond b (t ∷ filter p slots ++ cond (p s) (s ∷ []) []) (filter p slots ++ cond (p s) (s ∷ []) []) ≡ cond b (t ∷ filter p slots) (filter p slots) ++ cond (p s) (s ∷ []) []
    go true = refl
    go false = refl

pub added-rows-here : (slots : List Slot) (x : Export) → rows_here (slots ++ slot_of x ∷ []) ≡ rows_here slots ++ x ∷ []
added-rows-here slots x = ap (map (λ (t : Slot). t.row)) (filter-last is_here slots (slot_of x)) ∙ map-append (λ (t : Slot). t.row) (filter is_here slots) (slot_of x ∷ [])

all-with : (p : ObjId → Bool) (os : List ObjId) (o : ObjId) → list_all p os ≡ true → p o ≡ true → list_all p (os ++ o ∷ []) ≡ true
all-with p [] o h e = rw e refl
all-with p (q ∷ os) o h e = let two = and_parts (p q) (list_all p os) h in and_from (p q) (list_all p (os ++ o ∷ [])) two.0 (all-with p os o two.1 e)

rising-last : (os : List ObjId) (o : ObjId) → is_rising os ≡ true → list_all (λ p. int_lt p.number o.number) os ≡ true → is_rising (os ++ o ∷ []) ≡ true
rising-last [] o r h = refl
rising-last (p ∷ os) o r h =
    let two = and_parts (list_all (λ q. int_lt p.number q.number) os) (is_rising os) r in
    let below = and_parts (int_lt p.number o.number) (list_all (λ q. int_lt q.number o.number) os) h in
    and_from (list_all (λ q. int_lt p.number q.number) (os ++ o ∷ [])) (is_rising (os ++ o ∷ [])) (all-with (λ q. int_lt p.number q.number) os o two.0 below.0) (rising-last os o two.1 below.1)

all-next : (k : ℕ) (os : List ObjId) → list_all (λ p. int_lt p.number (pos (16 + k))) os ≡ true → list_all (λ p. int_lt p.number (pos (16 + (k + 1)))) os ≡ true
all-next k [] h = refl
all-next k (p ∷ os) h =
    let two = and_parts (int_lt p.number (pos (16 + k))) (list_all (λ q. int_lt q.number (pos (16 + k))) os) h in
    and_from (int_lt p.number (pos (16 + (k + 1)))) (list_all (λ q. int_lt q.number (pos (16 + (k + 1)))) os) (below-next p.number k two.0) (all-next k os two.1)

-- They are slots with the next object's.
pub slots-added : (slots : List Slot) (added gaps : ℕ) (x : Export) → x.id.number ≡ pos (16 + added) → AreSlots slots added gaps → AreSlots (slots ++ slot_of x ∷ []) (added + 1) gaps
slots-added slots added gaps x e s = record {
  rising = ap is_rising same ∙ rising-last (ids (all_rows slots)) x.id s.rising (ap (λ (n : ℤ). list_all (λ p. int_lt p.number n) (ids (all_rows slots))) e ∙ s.given);
  given = ap (list_all (λ p. int_lt p.number (pos (16 + (added + 1))))) same
      ∙ all-with (λ p. int_lt p.number (pos (16 + (added + 1)))) (ids (all_rows slots)) x.id (all-next added (ids (all_rows slots)) s.given)
      (ap (λ (n : ℤ). int_lt n (pos (16 + (added + 1)))) e ∙ new-below added);
  settled = any-last slots s.settled;
  counted = ap length (filter-last is_gap slots (slot_of x) ∙ append-nil (filter is_gap slots)) ∙ s.counted;
}
  where
    same : ids (all_rows (slots ++ slot_of x ∷ [])) ≡ ids (all_rows slots) ++ x.id ∷ []
    same = ap ids (map-append (λ (t : Slot). t.row) slots (slot_of x ∷ [])) ∙ map-append (λ (y : Export). y.id) (all_rows slots) (x ∷ [])

    any-last : (l : List Slot) → none_leaving l → none_leaving (l ++ slot_of x ∷ [])
    any-last [] h = refl
    any-last (t ∷ l) h = let two = or_parts (is_leaving t) (list_any is_leaving l) h in rw two.0 (any-last l two.1)

-- ---- how many

split-counts : (slots : List Slot) → length (rows_here slots) + length (filter is_leaving slots) + length (filter is_gap slots) ≡ length slots
split-counts [] = refl
split-counts (s ∷ slots) = go s.standing (split-counts slots)
  where
    go : (v : Standing) → length (rows_here slots) + length (filter is_leaving slots) + length (filter is_gap slots) ≡ length slots →
        length (map (λ (t : Slot). t.row) (cond (stands_here v) (s ∷ filter is_here slots) (filter is_here slots))) + length (cond (stands_leaving v) (s ∷ filter is_leaving slots) (filter is_leaving slots))
        + length (cond (stands_empty v) (s ∷ filter is_gap slots) (filter is_gap slots))
        ≡ suc (length slots)
    go Here e = omega (arith, e)
    go Leaving e = omega (arith, e)
    go Gap e = omega (arith, e)

pub nothing-passes : (p : Slot → Bool) (slots : List Slot) → list_any p slots ≡ false → filter p slots ≡ []
nothing-passes p [] h = refl
nothing-passes p (s ∷ slots) h = let two = or_parts (p s) (list_any p slots) h in rw two.0 (nothing-passes p slots two.1)

-- ALL BUT THE GAPS are rows.
pub rows-counted : (slots : List Slot) (added gaps : ℕ) → AreSlots slots added gaps → length (rows_here slots) + gaps ≡ length slots
rows-counted slots added gaps s =
    let all = split-counts slots in let none = ap length (nothing-passes is_leaving slots s.settled) in let counted = s.counted in
    omega (arith, all, none, counted)

-- ---- the gaps closed

part-filter : (p : Slot → Bool) (slots : List Slot) → IsPart (filter p slots) slots
part-filter p [] = refl
part-filter p (s ∷ slots) = go (p s) (part-filter p slots)
  where
    go : (b : Bool) → IsPart (filter p slots) slots → IsPart (cond b (s ∷ filter p slots) (filter p slots)) (s ∷ slots)
    go true h = inr (filter p slots, refl, h)
    go false h = inl h

-- Of slots with an exported object none has another standing.
none-else : (q : Slot → Bool) → ((s : Slot) → is_here s ≡ true → q s ≡ false) → (slots : List Slot) → list_any q (filter is_here slots) ≡ false
none-else q k [] = refl
none-else q k (s ∷ slots) = go (is_here s) refl (none-else q k slots)
  where
    go : (b : Bool) → is_here s ≡ b → list_any q (filter is_here slots) ≡ false → list_any q (cond b (s ∷ filter is_here slots) (filter is_here slots)) ≡ false
    go true e h = rw (k s e) h
    go false e h = h

here-twice : (slots : List Slot) → filter is_here (filter is_here slots) ≡ filter is_here slots
here-twice [] = refl
here-twice (s ∷ slots) = go (is_here s) refl (here-twice slots)
  where
    go : (b : Bool) → is_here s ≡ b → filter is_here (filter is_here slots) ≡ filter is_here slots → filter is_here (cond b (s ∷ filter is_here slots) (filter is_here slots)) ≡ cond b (s ∷ filter is_here slots) (filter is_here slots)
    go true e h = rw e (ap (λ l. s ∷ l) h)
    go false e h = h

pub stays-here : (v : Standing) → stands_here v ≡ true → (stands_leaving v ≡ false) × (stands_empty v ≡ false)
stays-here Here e = (refl, refl)
stays-here Leaving e = absurd (cc)
stays-here Gap e = absurd (cc)

pub closed-rows : (slots : List Slot) → rows_here (filter is_here slots) ≡ rows_here slots
closed-rows slots = ap (map (λ (t : Slot). t.row)) (here-twice slots)

pub slots-closed : (slots : List Slot) (added gaps : ℕ) → AreSlots slots added gaps → AreSlots (filter is_here slots) added 0
slots-closed slots added gaps s =
    let part = part-map (λ (y : Export). y.id) (all_rows (filter is_here slots)) (all_rows slots) (part-map (λ (t : Slot). t.row) (filter is_here slots) slots (part-filter is_here slots)) in record {
      rising = part-rising (ids (all_rows (filter is_here slots))) (ids (all_rows slots)) part s.rising;
      given = part-all (λ p. int_lt p.number (pos (16 + added))) (ids (all_rows (filter is_here slots))) (ids (all_rows slots)) part s.given;
      settled = none-else is_leaving (λ t e. (stays-here t.standing e).0) slots;
      counted = ap length (nothing-passes is_gap (filter is_here slots) (none-else is_gap (λ t e. (stays-here t.standing e).1) slots));
    }

pub slots-none : (added : ℕ) → AreSlots [] added 0
slots-none added = record { rising = refl; given = refl; settled = refl; counted = refl }

-- ---- a search among slots

pub all-length : (slots : List Slot) → length (all_rows slots) ≡ length slots
all-length [] = refl
all-length (s ∷ slots) = ap suc (all-length slots)

pub all-at : (slots : List Slot) (i : ℕ) (d : Slot) → get_or (all_rows slots) i d.row ≡ (get_or slots i d).row
all-at slots i d = get_or-map (λ (s : Slot). s.row) slots i d

pub all-behind : (slots : List Slot) (i : ℕ) → length slots ≤ i → drop i (all_rows slots) ≡ []
all-behind [] i h = go i
  where
    go : (n : ℕ) → drop {A = Export} n [] ≡ []
    go zero = refl
    go (suc n) = refl
all-behind (s ∷ slots) zero h = absurd (omega arith)
all-behind (s ∷ slots) (suc i) h = all-behind slots i (omega arith)

pub below-slot : (n : ℤ) (slots : List Slot) (i : ℕ) (d : Slot) → is_rising (ids (all_rows slots)) ≡ true → i < length slots → int_lt (get_or slots i d).row.id.number n ≡ true → all_below n (take (i + 1) (all_rows slots)) ≡ true
below-slot n slots i d r w b =
    let long = all-length slots in
    ap (λ k. all_below n (take k (all_rows slots))) (add-one i)
    ∙ below-to n (all_rows slots) i d.row r (omega (arith, long)) (ap (λ (x : Export). int_lt x.id.number n) (all-at slots i d) ∙ b)

pub above-slot : (n : ℤ) (slots : List Slot) (i : ℕ) (d : Slot) → is_rising (ids (all_rows slots)) ≡ true → i < length slots → int_lt (get_or slots i d).row.id.number n ≡ false → none_below n (drop i (all_rows slots)) ≡ true
above-slot n slots i d r w b =
    let long = all-length slots in above-from n (all_rows slots) i d.row r (omega (arith, long)) (ap (λ (x : Export). int_lt x.id.number n) (all-at slots i d) ∙ b)

-- Where the first slot whose number is not below isn't the object's, none is.
pub no-slot : (o : ObjId) (slots : List Slot) (i : ℕ) → is_rising (ids (all_rows slots)) ≡ true → all_below o.number (take i (all_rows slots)) ≡ true → none_below o.number (drop i (all_rows slots)) ≡ true → length slots ≤ i →
    is_exported (rows_here slots) o ≡ false
no-slot o slots i r b a far = let long = all-length slots in absent-here o slots (missing o (all_rows slots) i no_row r b a (λ w. absurd (omega (arith, long))))

pub other-slot : (o : ObjId) (slots : List Slot) (i : ℕ) (d : Slot) → is_rising (ids (all_rows slots)) ≡ true → all_below o.number (take i (all_rows slots)) ≡ true → none_below o.number (drop i (all_rows slots)) ≡ true →
    is_of o (get_or slots i d).row ≡ false → is_exported (rows_here slots) o ≡ false
other-slot o slots i d r b a e = absent-here o slots (missing o (all_rows slots) i d.row r b a (λ w. ap (is_of o) (all-at slots i d) ∙ e))

pub slot-found : (o : ObjId) (slots : List Slot) (i : ℕ) (d : Slot) → i < length slots → is_of o (get_or slots i d).row ≡ true → is_here (get_or slots i d) ≡ true → IsSlotOf slots o i
slot-found o slots i d w e h = record {
  within = w;
  its = λ x. ap (λ (s : Slot). is_of o s.row) (get_or_default slots i x d w) ∙ e;
  stands = λ x. ap is_here (get_or_default slots i x d w) ∙ h;
}

-- THE ROW of the object whose slot it is.
pub slot-row : (slots given : List Slot) (o : ObjId) (i : ℕ) (d : Slot) → given ≡ slots → is_rising (ids (all_rows slots)) ≡ true → IsSlotOf given o i → row_of (rows_here slots) o ≡ Some (get_or slots i d).row
slot-row slots given o i d e r p =
    let P : List Slot → Type 0 = λ l. IsSlotOf l o i in let q = subst P e p in row-here o slots i d r q.within (q.its d) (q.stands d)

pub slot-changed : (f : Export → Export) (slots given : List Slot) (o : ObjId) (i : ℕ) (x : Slot) → given ≡ slots → is_rising (ids (all_rows slots)) ≡ true → IsSlotOf given o i → x ≡ get_or slots i x →
    slice_set slots i (record x { row = f x.row }) ≡ map (with_slot_changed f o) slots
slot-changed f slots given o i x e r p at = let P : List Slot → Type 0 = λ l. IsSlotOf l o i in altered-at f slots o i x r (subst P e p) at

no_slot : Slot
no_slot = record { row = no_row; standing = Gap }

pub slot-there : (slots given : List Slot) (o : ObjId) (i : ℕ) → given ≡ slots → is_rising (ids (all_rows slots)) ≡ true → IsSlotOf given o i → is_exported (rows_here slots) o ≡ true
slot-there slots given o i e r p = found-exported (rows_here slots) o (get_or slots i no_slot).row (slot-row slots given o i no_slot e r p)

pub slot-running : (slots given : List Slot) (o : ObjId) (i : ℕ) (x : Slot) → given ≡ slots → is_rising (ids (all_rows slots)) ≡ true → IsSlotOf given o i → x ≡ get_or slots i x → running_of (rows_here slots) o ≡ x.row.running
slot-running slots given o i x e r p at =
    ap (λ (y : Option Export). unwrap_or (option_map (λ z. z.running) y) 0) (slot-row slots given o i x e r p) ∙ ap (λ (s : Slot). s.row.running) (sym at)

pub slot-pins : (slots given : List Slot) (o : ObjId) (i : ℕ) (x : Slot) → given ≡ slots → is_rising (ids (all_rows slots)) ≡ true → IsSlotOf given o i → x ≡ get_or slots i x → pins_of (rows_here slots) o ≡ x.row.pins
slot-pins slots given o i x e r p at =
    ap (λ (y : Option Export). unwrap_or (option_map (λ z. z.pins) y) 0) (slot-row slots given o i x e r p) ∙ ap (λ (s : Slot). s.row.pins) (sym at)

pub slot-kind : (slots given : List Slot) (o : ObjId) (i : ℕ) (x : Slot) → given ≡ slots → is_rising (ids (all_rows slots)) ≡ true → IsSlotOf given o i → x ≡ get_or slots i x → kind_of (rows_here slots) o ≡ Some x.row.kind
slot-kind slots given o i x e r p at =
    ap (λ (y : Option Export). option_map (λ z. z.kind) y) (slot-row slots given o i x e r p) ∙ ap (λ (s : Slot). Some s.row.kind) (sym at)

-- THE ROWS with a change at the object's slot.
pub slot-rows : (f : Export → Export) (slots given after : List Slot) (o : ObjId) (i : ℕ) (x : Slot) → given ≡ slots → is_rising (ids (all_rows slots)) ≡ true → IsSlotOf given o i → x ≡ get_or slots i x →
    after ≡ slice_set slots i (record x { row = f x.row }) → rows_here after ≡ with_row_changed f o (rows_here slots)
slot-rows f slots given after o i x e r p at a = ap rows_here (a ∙ slot-changed f slots given o i x e r p at) ∙ altered-rows f o slots

pub slot-slots : (f : Export → Export) (slots given : List Slot) (o : ObjId) (i : ℕ) (x : Slot) (added gaps : ℕ) → ((y : Export) → (f y).id ≡ y.id) → given ≡ slots → AreSlots slots added gaps → IsSlotOf given o i → x ≡ get_or slots i x →
    AreSlots (slice_set slots i (record x { row = f x.row })) added gaps
slot-slots f slots given o i x added gaps k e s p at =
    let P : List Slot → Type 0 = λ l. AreSlots l added gaps in subst P (sym (slot-changed f slots given o i x e s.rising p at)) (slots-altered f o slots added gaps k s)

pub absent-slots : (slots given : List Slot) (o : ObjId) (f : Export → Export) → given ≡ slots → is_exported (rows_here given) o ≡ false → rows_here slots ≡ with_row_changed f o (rows_here slots)
absent-slots slots given o f e none = sym (changed-none f o (rows_here slots) (ap (λ (l : List Slot). is_exported (rows_here l) o) (sym e) ∙ none))

pub no-kind : (slots given : List Slot) (o : ObjId) → given ≡ slots → is_exported (rows_here given) o ≡ false → kind_of (rows_here slots) o ≡ None
no-kind slots given o e none = kind-none (rows_here slots) o (ap (λ (l : List Slot). is_exported (rows_here l) o) (sym e) ∙ none)

-- One slot more of a list that is shown.
pub rows-next : {Y : Type 0} (f : Export → Y) (slots : List Slot) (i : ℕ) (d : Slot) (xs ys : List Y) → i < length slots → xs ≡ map f (rows_here (take i slots)) → ys ≡ xs ++ map f (rows_here (get_or slots i d ∷ [])) →
    ys ≡ map f (rows_here (take (i + 1) slots))
rows-next {Y} f slots i d xs ys w a b =
    b ∙ ap (λ (l : List Y). l ++ map f (rows_here (get_or slots i d ∷ []))) a
    ∙ sym (map-append f (rows_here (take i slots)) (rows_here (get_or slots i d ∷ [])))
    ∙ ap (map f) (sym (here-joined (take i slots) (get_or slots i d ∷ [])))
    ∙ ap (λ (l : List Slot). map f (rows_here l)) (sym (take_more slots i d w))
  where
    here-joined : (us vs : List Slot) → rows_here (us ++ vs) ≡ rows_here us ++ rows_here vs
    here-joined [] vs = refl
    here-joined (u ∷ us) vs = go (is_here u) (here-joined us vs)
      where
        go : (b : Bool) → rows_here (us ++ vs) ≡ rows_here us ++ rows_here vs →
            map (λ (t : Slot). t.row) (cond b (u ∷ filter is_here (us ++ vs)) (filter is_here (us ++ vs))) ≡ map (λ (t : Slot). t.row) (cond b (u ∷ filter is_here us) (filter is_here us)) ++ rows_here vs
        go true e = ap (λ l. u.row ∷ l) e
        go false e = e

-- A slot that is read and written at one place.
pub read-once : (slots : List Slot) (i : ℕ) (x y : Slot) → i < length slots → x ≡ get_or slots i x → y ≡ get_or slots i y → x ≡ y
read-once slots i x y w a b = a ∙ get_or_default slots i x y w ∙ sym b
