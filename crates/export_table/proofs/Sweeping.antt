-- Slots that are swept: those about to go become gaps, and their identifiers are noted, by rising number.
use Rattle.std.proofs.Common.{◌≡◌, ℕ, ◌+◌, ◌<◌, ◌≤◌, List, [], ◌∷◌, ◌++◌, length, map, take, drop, get_or, refl, ap, sym, subst, ◌∙◌, arith, cond, suc, append-nil, append_assoc, add-one}
use Rattle.std.specs.Prelude.{pos, int_lt, Bool, true, false, ◌||◌, not, filter, slice_set, if◌then◌else◌}
use Rattle.std.specs.List.{list_any, list_all}
use Rattle.std.proofs.lemmas.List.{take_more, take_more_set, drop-set-lt, length-set, take-append-drop}
use Rattle.std.proofs.lemmas.List.Folds.{list_any-append}
use Rattle.std.proofs.Math.Seq.{drop-cons, map-set_same}
use Rattle.std.proofs.lemmas.Bool.{or_parts}
use Rattle.object_ids.specs.declared.ids.ObjId.{ObjId}
use Rattle.export_table.specs.declared.rows.Export.{Export}
use Rattle.export_table.specs.declared.slots.Slot.{Slot}
use Rattle.export_table.specs.declared.slots.Standing.{Standing}
use Rattle.export_table.specs.declared.slots.Standing.TheVariants.{Here, Leaving, Gap}
use Rattle.export_table.specs.ExportRows.{ids, is_rising, IsPart}
use Rattle.export_table.specs.Slots.{stands_here, stands_leaving, is_here, is_leaving, is_gap, all_rows, rows_here, rows_leaving, as_marked, as_swept, none_leaving, AreMarked, AreSlots}
use Rattle.export_table.proofs.Slotted.{nothing-passes}
use Rattle.export_table.proofs.Marking.{back-less, back-marked, marked-rows, marked-gaps, marked-part, stays-marked, away-marked, goes-marked}

-- ---- one slot

swept-other : (s : Slot) → is_leaving s ≡ false → as_swept s ≡ s
swept-other s e = rw e refl

swept-leaving : (s : Slot) → is_leaving s ≡ true → as_swept s ≡ record s { standing = Gap }
swept-leaving s e = rw e refl

swept-away : (s : Slot) → is_leaving (as_swept s) ≡ false
swept-away s = go (is_leaving s) refl
  where
    go : (b : Bool) → is_leaving s ≡ b → is_leaving (as_swept s) ≡ false
    go true e = ap is_leaving (swept-leaving s e)
    go false e = ap is_leaving (swept-other s e) ∙ e

pub swept-none : (slots : List Slot) → none_leaving slots → map as_swept slots ≡ slots
swept-none [] h = refl
swept-none (s ∷ slots) h = let two = or_parts (is_leaving s) (list_any is_leaving slots) h in ap (λ t. t ∷ map as_swept slots) (swept-other s two.0) ∙ ap (λ l. s ∷ l) (swept-none slots two.1)

-- ---- the loop

-- What holds of the slots before a place, and of what is noted so far.
pub record Sweeping (before slots : List Slot) (i end_ : ℕ) (given gone : List ObjId) : Type 0 where
  pub same : map as_swept slots ≡ map as_swept before
  pub front : none_leaving (take i slots)
  pub back : none_leaving (drop end_ slots)
  pub told : gone ++ ids (rows_leaving (drop i slots)) ≡ given ++ ids (rows_leaving before)
  pub long : length slots ≡ length before

none-joined : (xs ys : List Slot) → none_leaving xs → none_leaving ys → none_leaving (xs ++ ys)
none-joined xs ys a b = list_any-append is_leaving xs ys ∙ ap (λ c. c || list_any is_leaving ys) a ∙ b

rows-after : (xs ys : List Slot) → none_leaving xs → rows_leaving (xs ++ ys) ≡ rows_leaving ys
rows-after [] ys h = refl
rows-after (s ∷ xs) ys h = let two = or_parts (is_leaving s) (list_any is_leaving xs) h in rw two.0 (rows-after xs ys two.1)

count-after : (xs ys : List Slot) → none_leaving xs → length (filter is_leaving (xs ++ ys)) ≡ length (filter is_leaving ys)
count-after [] ys h = refl
count-after (s ∷ xs) ys h = let two = or_parts (is_leaving s) (list_any is_leaving xs) h in rw two.0 (count-after xs ys two.1)

pub sweep-start : (slots : List Slot) (first end_ : ℕ) (given : List ObjId) → none_leaving (take first slots) → none_leaving (drop end_ slots) → Sweeping slots slots first end_ given given
sweep-start slots first end_ given a b = record {
  same = refl;
  front = a;
  back = b;
  told = ap (λ (l : List Export). given ++ ids l) (sym (ap rows_leaving (sym (take-append-drop first slots)) ∙ rows-after (take first slots) (drop first slots) a));
  long = refl;
}

pub count-start : (slots : List Slot) (first : ℕ) → none_leaving (take first slots) → length (filter is_leaving (drop first slots)) ≡ length (filter is_leaving slots)
count-start slots first a = sym (ap (λ (l : List Slot). length (filter is_leaving l)) (sym (take-append-drop first slots)) ∙ count-after (take first slots) (drop first slots) a)

from-here : (slots : List Slot) (i : ℕ) (x : Slot) → i < length slots → x ≡ get_or slots i x → drop i slots ≡ x ∷ drop (i + 1) slots
from-here slots i x w at = rw add-one (drop-cons slots i x w ∙ ap (λ t. t ∷ drop (suc i) slots) (sym at))

-- How many are left to note.
pub count-skip : (slots : List Slot) (i : ℕ) (x : Slot) → i < length slots → x ≡ get_or slots i x → is_leaving x ≡ false → length (filter is_leaving (drop i slots)) ≡ length (filter is_leaving (drop (i + 1) slots))
count-skip slots i x w at e = ap (λ (l : List Slot). length (filter is_leaving l)) (from-here slots i x w at) ∙ other
  where
    other : length (filter is_leaving (x ∷ drop (i + 1) slots)) ≡ length (filter is_leaving (drop (i + 1) slots))
    other = rw e refl

pub count-take : (slots : List Slot) (i : ℕ) (x t : Slot) → i < length slots → x ≡ get_or slots i x → is_leaving x ≡ true →
    length (filter is_leaving (drop i slots)) ≡ length (filter is_leaving (drop (i + 1) (slice_set slots i t))) + 1
count-take slots i x t w at e =
    ap (λ (l : List Slot). length (filter is_leaving l)) (from-here slots i x w at) ∙ first
    ∙ ap (λ (l : List Slot). length (filter is_leaving l) + 1) (sym (drop-set-lt (i + 1) slots i t (omega arith)))
  where
    first : length (filter is_leaving (x ∷ drop (i + 1) slots)) ≡ length (filter is_leaving (drop (i + 1) slots)) + 1
    first = rw e (omega arith)

pub sweep-skip : (before slots : List Slot) (i end_ : ℕ) (given gone : List ObjId) (x : Slot) → Sweeping before slots i end_ given gone → i < length slots → x ≡ get_or slots i x → is_leaving x ≡ false →
    Sweeping before slots (i + 1) end_ given gone
sweep-skip before slots i end_ given gone x s w at e = record {
  same = s.same;
  front = ap (list_any is_leaving) (take_more slots i x w) ∙ none-joined (take i slots) (get_or slots i x ∷ []) s.front (ap (λ (t : Slot). is_leaving t || false) (sym at) ∙ ap (λ b. b || false) e);
  back = s.back;
  told = ap (λ (l : List Export). gone ++ ids l) (sym (ap rows_leaving (from-here slots i x w at) ∙ rows-after (x ∷ []) (drop (i + 1) slots) (ap (λ b. b || false) e))) ∙ s.told;
  long = s.long;
}

pub sweep-take : (before slots : List Slot) (i end_ : ℕ) (given gone : List ObjId) (x : Slot) → Sweeping before slots i end_ given gone → i < length slots → i < end_ → x ≡ get_or slots i x → is_leaving x ≡ true →
    Sweeping before (slice_set slots i (record x { standing = Gap })) (i + 1) end_ given (gone ++ x.row.id ∷ [])
sweep-take before slots i end_ given gone x s w near at e = record {
  same = map-set_same as_swept slots i (record x { standing = Gap }) x (sym (swept-leaving x e) ∙ ap as_swept at) ∙ s.same;
  front = ap (list_any is_leaving) (take_more_set slots i (record x { standing = Gap }) w) ∙ none-joined (take i slots) (record x { standing = Gap } ∷ []) s.front refl;
  back = back-marked slots end_ end_ i (record x { standing = Gap }) s.back (omega arith) near;
  told = append_assoc gone (x.row.id ∷ []) (ids (rows_leaving (drop (i + 1) (slice_set slots i (record x { standing = Gap })))))
      ∙ ap (λ (l : List Slot). gone ++ x.row.id ∷ ids (rows_leaving l)) (drop-set-lt (i + 1) slots i (record x { standing = Gap }) (omega arith))
      ∙ ap (λ (l : List Export). gone ++ ids l) (sym (ap rows_leaving (from-here slots i x w at) ∙ first))
      ∙ s.told;
  long = length-set slots i (record x { standing = Gap }) ∙ s.long;
}
  where
    first : rows_leaving (x ∷ drop (i + 1) slots) ≡ x.row ∷ rows_leaving (drop (i + 1) slots)
    first = rw e refl

-- It is written as it was read.
pub sweep-write : (before slots : List Slot) (i end_ : ℕ) (given gone : List ObjId) (x y : Slot) → Sweeping before slots i end_ given gone → i < length slots → i < end_ → x ≡ get_or slots i x → is_leaving x ≡ true → y ≡ x →
    Sweeping before (slice_set slots i (record y { standing = Gap })) (i + 1) end_ given (gone ++ x.row.id ∷ [])
sweep-write before slots i end_ given gone x y s w near at e same =
    let P : Slot → Type 0 = λ t. Sweeping before (slice_set slots i (record t { standing = Gap })) (i + 1) end_ given (gone ++ x.row.id ∷ []) in
    subst P (sym same) (sweep-take before slots i end_ given gone x s w near at e)

-- At the end all are swept.
pub sweep-slots : (before slots : List Slot) (i end_ : ℕ) (given gone : List ObjId) → Sweeping before slots i end_ given gone → end_ ≤ i → slots ≡ map as_swept before
sweep-slots before slots i end_ given gone s far =
    sym (swept-none slots (ap (list_any is_leaving) (sym (take-append-drop i slots)) ∙ none-joined (take i slots) (drop i slots) s.front (back-less slots end_ i s.back far))) ∙ s.same

pub sweep-gone : (before slots : List Slot) (i end_ : ℕ) (given gone : List ObjId) → Sweeping before slots i end_ given gone → end_ ≤ i → gone ≡ given ++ ids (rows_leaving before)
sweep-gone before slots i end_ given gone s far =
    sym (ap (λ (l : List Slot). gone ++ ids (map (λ (t : Slot). t.row) l)) (nothing-passes is_leaving (drop i slots) (back-less slots end_ i s.back far)) ∙ append-nil gone) ∙ s.told

pub count-end : (slots : List Slot) (i end_ : ℕ) → none_leaving (drop end_ slots) → end_ ≤ i → length (filter is_leaving (drop i slots)) ≡ 0
count-end slots i end_ h far = ap length (nothing-passes is_leaving (drop i slots) (back-less slots end_ i h far))

-- ---- what stays, and what goes

pub swept-rows : (slots : List Slot) → rows_here (map as_swept slots) ≡ rows_here slots
swept-rows [] = refl
swept-rows (s ∷ slots) = go (is_leaving s) refl (swept-rows slots)
  where
    keep : (b : Bool) → rows_here (map as_swept slots) ≡ rows_here slots →
        map (λ (t : Slot). t.row) (cond b (s ∷ filter is_here (map as_swept slots)) (filter is_here (map as_swept slots))) ≡ map (λ (t : Slot). t.row) (cond b (s ∷ filter is_here slots) (filter is_here slots))
    keep true rest = ap (λ l. s.row ∷ l) rest
    keep false rest = rest

    away : (v : Standing) → stands_leaving v ≡ true → stands_here v ≡ false
    away Here e = absurd (cc)
    away Leaving e = refl
    away Gap e = absurd (cc)

    go : (b : Bool) → is_leaving s ≡ b → rows_here (map as_swept slots) ≡ rows_here slots → rows_here (as_swept s ∷ map as_swept slots) ≡ rows_here (s ∷ slots)
    go true e rest = rw (swept-leaving s e, away s.standing e) rest
    go false e rest = rw (swept-other s e) (keep (is_here s) rest)

swept-all : (slots : List Slot) → all_rows (map as_swept slots) ≡ all_rows slots
swept-all [] = refl
swept-all (s ∷ slots) = ap (λ x. x ∷ all_rows (map as_swept slots)) (go (is_leaving s)) ∙ ap (λ l. s.row ∷ l) (swept-all slots)
  where
    go : (b : Bool) → (if b then record s { standing = Gap } else s).row ≡ s.row
    go true = refl
    go false = refl

swept-settled : (slots : List Slot) → none_leaving (map as_swept slots)
swept-settled [] = refl
swept-settled (s ∷ slots) = rw (swept-away s) (swept-settled slots)

swept-gaps : (slots : List Slot) → length (filter is_gap (map as_swept slots)) ≡ length (filter is_gap slots) + length (filter is_leaving slots)
swept-gaps [] = refl
swept-gaps (s ∷ slots) = go s.standing refl (swept-gaps slots)
  where
    go : (v : Standing) → s.standing ≡ v → length (filter is_gap (map as_swept slots)) ≡ length (filter is_gap slots) + length (filter is_leaving slots) →
        length (filter is_gap (as_swept s ∷ map as_swept slots)) ≡ length (filter is_gap (s ∷ slots)) + length (filter is_leaving (s ∷ slots))
    go Here e h = rw e h
    go Leaving e h = rw e (omega (arith, h))
    go Gap e h = rw e (omega (arith, h))

abbrev AreRows : List Export → ℕ → Type 0
AreRows rows added = (is_rising (ids rows) ≡ true) × (list_all (λ o. int_lt o.number (pos (16 + added))) (ids rows) ≡ true)

-- They are slots with so many more gaps.
pub slots-swept : (before b : List Slot) (added gaps : ℕ) → AreSlots before added gaps → AreMarked before b → AreSlots (map as_swept b) added (gaps + length (filter is_leaving b))
slots-swept before b added gaps s m =
    let rows = swept-all b ∙ marked-rows before b m in
    let P : List Export → Type 0 = λ l. AreRows l added in
    let kept : AreRows (all_rows (map as_swept b)) added = subst P (sym rows) (s.rising, s.given) in record {
      rising = kept.0;
      given = kept.1;
      settled = swept-settled b;
      counted = (let more = swept-gaps b in let same = marked-gaps before b m in let counted = s.counted in omega (arith, more, same, counted));
    }

-- THE ROWS THAT STAY are those that are to.
pub marked-stay : (keeps : Export → Bool) (slots : List Slot) → rows_here (map (as_marked keeps) slots) ≡ filter keeps (rows_here slots)
marked-stay keeps [] = refl
marked-stay keeps (s ∷ slots) = go (is_here s) (keeps s.row) refl refl (marked-stay keeps slots)
  where
    go : (h k : Bool) → is_here s ≡ h → keeps s.row ≡ k → rows_here (map (as_marked keeps) slots) ≡ filter keeps (rows_here slots) → rows_here (as_marked keeps s ∷ map (as_marked keeps) slots) ≡ filter keeps (rows_here (s ∷ slots))
    go false k e f rest = rw (away-marked keeps s e) (rw e rest)
    go true true e f rest = rw (stays-marked keeps s f) (rw e (rw f (ap (λ l. s.row ∷ l) rest)))
    go true false e f rest = rw (goes-marked keeps s e f) (rw e (rw f rest))

-- THE ROWS THAT GO are the others.
pub marked-go : (keeps : Export → Bool) (slots : List Slot) → none_leaving slots → rows_leaving (map (as_marked keeps) slots) ≡ filter (λ x. not (keeps x)) (rows_here slots)
marked-go keeps [] n = refl
marked-go keeps (s ∷ slots) n = go (is_here s) (keeps s.row) refl refl (marked-go keeps slots (or_parts (is_leaving s) (list_any is_leaving slots) n).1)
  where
    away : is_leaving s ≡ false
    away = (or_parts (is_leaving s) (list_any is_leaving slots) n).0

    go : (h k : Bool) → is_here s ≡ h → keeps s.row ≡ k → rows_leaving (map (as_marked keeps) slots) ≡ filter (λ x. not (keeps x)) (rows_here slots) →
        rows_leaving (as_marked keeps s ∷ map (as_marked keeps) slots) ≡ filter (λ x. not (keeps x)) (rows_here (s ∷ slots))
    go false k e f rest = rw (away-marked keeps s e) (rw away (rw e rest))
    go true true e f rest = rw (stays-marked keeps s f) (rw away (rw e (rw f rest)))
    go true false e f rest = rw (goes-marked keeps s e f) (rw e (rw f (ap (λ l. s.row ∷ l) rest)))

-- AFTER THE SWEEP by marks of a test.
pub kept-rows : (keeps : Export → Bool) (before b after : List Slot) → b ≡ map (as_marked keeps) before → after ≡ map as_swept b → rows_here after ≡ filter keeps (rows_here before)
kept-rows keeps before b after m s = ap rows_here s ∙ swept-rows b ∙ ap rows_here m ∙ marked-stay keeps before

pub kept-gone : (keeps : Export → Bool) (before b : List Slot) → none_leaving before → b ≡ map (as_marked keeps) before → ids (rows_leaving b) ≡ ids (filter (λ x. not (keeps x)) (rows_here before))
kept-gone keeps before b n m = ap (λ (l : List Slot). ids (rows_leaving l)) m ∙ ap ids (marked-go keeps before n)

pub kept-part : (before b after : List Slot) → AreMarked before b → after ≡ map as_swept b → IsPart (rows_here after) (rows_here before)
kept-part before b after m s = let P : List Export → Type 0 = λ l. IsPart l (rows_here before) in subst P (sym (ap rows_here s ∙ swept-rows b)) (marked-part before b m)

pub kept-slots : (before b after : List Slot) (added gaps more : ℕ) → AreSlots before added gaps → AreMarked before b → after ≡ map as_swept b → more ≡ length (filter is_leaving b) → AreSlots after added (gaps + more)
kept-slots before b after added gaps more a m s e =
    let P : List Slot → Type 0 = λ l. AreSlots l added (gaps + more) in let Q : ℕ → Type 0 = λ n. AreSlots (map as_swept b) added (gaps + n) in
    subst P (sym s) (subst Q (sym e) (slots-swept before b added gaps a m))
