-- Blocks and references one after the other, up to the end of an annotation.
use Rattle.std.proofs.Common.{◌≡◌, ℕ, if◌then◌else◌, ◌^◌, suc, ◌+◌, ◌-◌, nat_lt, Bool, true, false, ◌&&◌, nat_eq, List, [], ◌∷◌, ◌++◌, length, Result, Ok, Err, refl, sym, ap, ◌∙◌, append_assoc, length-append, arith}
use Rattle.class_desc.specs.declared.slot.Slot.{Slot}
use Rattle.class_desc.specs.declared.slot.Item.{Item}
use Rattle.class_desc.specs.declared.slot.Item.TheVariants as items
use Rattle.wire_io.specs.Pulled.{PullState, Takes}
use Rattle.stream_grammar.specs.Reading.{◌>>=◌, Fault, short, too_many, Progress, add_parts, counting, Plain, Step, take_at, size_at, byte_at, blocks_at, items_at}
use Rattle.stream_grammar.specs.Spelled.{joined}
use Rattle.std.proofs.lemmas.List.{append-nil}
use Rattle.std.specs.Int.{w32}
use Rattle.wire_io.proofs.Pulling.{takes_nothing, takes_more}
use Rattle.ser_read.specs.Here.{NeedsAll, Reads}
use Rattle.stream_grammar.specs.Faults.{AreBytes}
use Rattle.ser_read.proofs.Steps.{Goes, goes_two, Leads, leads_two, leads_read, no_next, least_two, bytes_more}
use Rattle.ser_read.proofs.Bytes.{ok_is}
use Rattle.ser_read.specs.Whole.{going_on}
use Rattle.ser_read.specs.Named.{item_at, added}
use Rattle.ser_read.proofs.Joins.{added_is}

abbrev fault_in : {Y : Type 0} → Fault → Result Y Fault
fault_in f = Err f

abbrev pub Items : Type 0
Items = Result (List Item × Progress × List ℕ) Fault

-- items behind those that were read before
unfoldable pub added_all : List Item → List Item → List Item
added_all before [] = before
added_all before (i ∷ is) = added_all (added before i) is

abbrev pub after_all : List Item → Items → Items
after_all before read = read >>= λ x. Ok (added_all before x.0, x.1, x.2)

-- Items up to the end of the bytes are no end where the bytes go on.
abbrev pub until : {Y : Type 0} → Bool → Result Y Fault → Result Y Fault
until true r = r
until false r = going_on r

pub until_err : {Y : Type 0} (within : Bool) (r : Result Y Fault) (f : Fault) → r ≡ Err f → until within r ≡ Err f
until_err true r f h = h
until_err false r f h = rw h refl

until_same : {Y : Type 0} (within : Bool) (r s : Result Y Fault) → r ≡ s → until within r ≡ until within s
until_same {Y} within r s h = ap (λ (r : Result Y Fault). until within r) h

-- Bytes were taken, and what reads the items after those that were read, reads all. Each item took a byte at least.
pub record Slack (p q : PullState) (inner : ℕ → Step Slot) (within : Bool) (first now : Progress) (is : List Item) : Type 0 where
  pub taken : List ℕ
  pub bytes : AreBytes taken
  pub takes : Takes p q taken
  pub spare : ℕ
  pub reads : (rest : List ℕ) → items_at (q.at + length rest) (inner (q.at + length rest)) within first (taken ++ rest) ≡ after_all is (blocks_at (q.at + length rest) (inner (q.at + length rest)) within (suc (spare + length rest)) now rest)
  pub least : NeedsAll short p.at taken (λ end bs. until within (items_at end (inner end) within first bs))

added_joined : (xs ys : List Item) → added_all (joined xs) ys ≡ joined (xs ++ ys)
unfolding added_all
added_joined xs [] = ap joined (sym (append-nil xs))
added_joined xs (i ∷ is) = ap (λ (b : List Item). added_all b is) (added_is xs i) ∙ added_joined (xs ++ i ∷ []) is ∙ ap joined (append_assoc xs (i ∷ []) is)

pub slack_start : (p : PullState) (inner : ℕ → Step Slot) (within : Bool) (first : Progress) → Slack p p inner within first first []
unfolding items_at
slack_start p inner within first = record {
  taken = [];
  bytes = tt;
  takes = takes_nothing p;
  spare = 0;
  reads = λ rest. let k : 0 + length rest ≡ length rest = omega arith in rw k (go (blocks_at (p.at + length rest) (inner (p.at + length rest)) within (suc (length rest)) first rest));
  least = λ front one others e. absurd (no_next front one others e);
}
  where
    go : (r : Items) → ◌>>=◌ {B = List Item × Progress × List ℕ} r (λ x. Ok (joined x.0, x.1, x.2)) ≡ after_all [] r
    go (Ok x) = ap (λ (is : List Item). Ok (is, x.1, x.2)) (sym (added_joined [] x.0))
    go (Err e) = refl

regroup : (is : List Item) (i : Item) (r : Items) → after_all is (r >>= λ x. Ok (i ∷ x.0, x.1, x.2)) ≡ after_all (added is i) r
unfolding added_all
regroup is i (Ok x) = refl
regroup is i (Err e) = refl

abbrev OneItem : Type 0
OneItem = Result (Item × Progress × List ℕ) Fault

abbrev typed : OneItem → OneItem
typed r = r

-- the same item, nodes and bytes
ends_as : (is : List Item) (end : ℕ) (inner : Step Slot) (within : Bool) (most : ℕ) (i j : Item) (now later : Progress) (bs rest : List ℕ) → typed (Ok (i, now, bs)) ≡ Ok (j, later, rest)
    → after_all (added is i) (blocks_at end inner within most now bs) ≡ after_all (added is j) (blocks_at end inner within most later rest)
ends_as is end inner within most i j now later bs rest e =
    let t : (i, now, bs) ≡ (j, later, rest) = ok_is (i, now, bs) (j, later, rest) (typed (Ok (i, now, bs))) refl e in
    ap (λ (x : Item × Progress × List ℕ). after_all (added is x.0) (blocks_at end inner within most x.1 x.2)) t

abbrev block_item : Progress → Plain (List ℕ) → OneItem
block_item now r = r >>= λ p. Ok (items.Bytes p.0, now, p.1)

abbrev sized_item : Progress → Plain ℕ → OneItem
sized_item now r = r >>= λ n. block_item now (take_at n.0 n.1)

abbrev ref_item : ℕ → Result (Slot × Progress × List ℕ) Fault → OneItem
ref_item at r = r >>= λ s. counting 1 at s.1 (λ next. Ok (items.Ref s.0, next, s.2))

-- a reference, where it has room as a part
abbrev counted_item : ℕ → Slot × Progress × List ℕ → Bool → OneItem
counted_item at s many = if many then Err (too_many at) else Ok (items.Ref s.0, add_parts 1 s.1, s.2)

abbrev cons : Item → Items → Items
cons i r = r >>= λ x. Ok (i ∷ x.0, x.1, x.2)

abbrev block_more : (Progress → List ℕ → Items) → Progress → Plain (List ℕ) → Items
block_more more now r = r >>= λ p. cons (items.Bytes p.0) (more now p.1)

abbrev sized_more : (Progress → List ℕ → Items) → Progress → Plain ℕ → Items
sized_more more now r = r >>= λ n. block_more more now (take_at n.0 n.1)

abbrev counted_more : ℕ → (Progress → List ℕ → Items) → Slot × Progress × List ℕ → Bool → Items
counted_more at more s many = if many then Err (too_many at) else cons (items.Ref s.0) (more (add_parts 1 s.1) s.2)

abbrev ref_more : ℕ → (Progress → List ℕ → Items) → Result (Slot × Progress × List ℕ) Fault → Items
ref_more at more r = r >>= λ s. counting 1 at s.1 (λ next. cons (items.Ref s.0) (more next s.2))

item_is : (end at : ℕ) (ref : Step Slot) (c : ℕ) (now : Progress) (bs : List ℕ) → item_at end at ref c now bs ≡ (if nat_eq c 0x77 then sized_item now (byte_at bs) else (if nat_eq c 0x7A then sized_item now (size_at end w32 (2 ^ 31) bs) else ref_item at (ref now bs)))
unfolding item_at
item_is end at ref c now bs = refl

blocks_is : (end : ℕ) (inner : Step Slot) (within : Bool) (most c : ℕ) (now : Progress) (bs : List ℕ) → (within && nat_eq c 0x78) ≡ false → blocks_at end inner within (suc most) now (c ∷ bs)
    ≡ (if nat_eq c 0x77 then sized_more (blocks_at end inner within most) now (byte_at bs) else (if nat_eq c 0x7A then sized_more (blocks_at end inner within most) now (size_at end w32 (2 ^ 31) bs) else ref_more (end - suc (length bs)) (blocks_at end inner within most) (inner now (c ∷ bs))))
unfolding blocks_at
blocks_is end inner within most c now bs other = rw other refl

-- one item more, behind its code
pub block_step : (end at : ℕ) (inner : Step Slot) (within : Bool) (most c : ℕ) (is : List Item) (now : Progress) (bs : List ℕ) (ref : Step Slot) (i : Item) (later : Progress) (rest : List ℕ)
    → end - suc (length bs) ≡ at → (within && nat_eq c 0x78) ≡ false → inner now (c ∷ bs) ≡ ref now bs → item_at end at ref c now bs ≡ Ok (i, later, rest)
    → after_all is (blocks_at end inner within (suc most) now (c ∷ bs)) ≡ after_all (added is i) (blocks_at end inner within most later rest)
block_step end at inner within most c is now bs ref i later rest place other same h =
    ap (after_all is) (blocks_is end inner within most c now bs other ∙ ap (λ (r : Result (Slot × Progress × List ℕ) Fault). if nat_eq c 0x77 then sized_more more now (byte_at bs) else (if nat_eq c 0x7A then sized_more more now (size_at end w32 (2 ^ 31) bs) else ref_more (end - suc (length bs)) more r)) same)
    ∙ ap (λ k. after_all is (if nat_eq c 0x77 then sized_more more now (byte_at bs) else (if nat_eq c 0x7A then sized_more more now (size_at end w32 (2 ^ 31) bs) else ref_more k more (ref now bs)))) place
    ∙ go (nat_eq c 0x77) (nat_eq c 0x7A) (sym (item_is end at ref c now bs) ∙ h)
  where
    more : Progress → List ℕ → Items
    more = blocks_at end inner within most

    block : (r : Plain (List ℕ)) → block_item now r ≡ Ok (i, later, rest) → after_all is (block_more more now r) ≡ after_all (added is i) (more later rest)
    block (Ok p) e = regroup is (items.Bytes p.0) (more now p.1) ∙ ends_as is end inner within most _ _ _ _ _ _ e
    block (Err f) e = absurd cc

    two : (r : Plain ℕ) → sized_item now r ≡ Ok (i, later, rest) → after_all is (sized_more more now r) ≡ after_all (added is i) (more later rest)
    two (Ok n) e = block (take_at n.0 n.1) e
    two (Err f) e = absurd cc

    counted : (s : Slot × Progress × List ℕ) (b : Bool) → counted_item at s b ≡ Ok (i, later, rest) → after_all is (counted_more at more s b) ≡ after_all (added is i) (more later rest)
    counted s true e = absurd cc
    counted s false e = regroup is (items.Ref s.0) (more (add_parts 1 s.1) s.2) ∙ ends_as is end inner within most _ _ _ _ _ _ e

    one : (r : Result (Slot × Progress × List ℕ) Fault) → ref_item at r ≡ Ok (i, later, rest) → after_all is (ref_more at more r) ≡ after_all (added is i) (more later rest)
    one (Ok s) e = counted s (nat_lt 1048576 (s.1.parts + 1)) e
    one (Err f) e = absurd cc

    go : (a b : Bool) → (if a then sized_item now (byte_at bs) else (if b then sized_item now (size_at end w32 (2 ^ 31) bs) else ref_item at (ref now bs))) ≡ Ok (i, later, rest)
        → after_all is (if a then sized_more more now (byte_at bs) else (if b then sized_more more now (size_at end w32 (2 ^ 31) bs) else ref_more at more (ref now bs))) ≡ after_all (added is i) (more later rest)
    go true b e = two (byte_at bs) e
    go false true e = two (size_at end w32 (2 ^ 31) bs) e
    go false false e = one (ref now bs) e

-- ---- where an item or a code is wanting

err_as : {X Y : Type 0} (g f : Fault) (r : Result X Fault) → r ≡ Err g → r ≡ Err f → fault_in {Y = Y} g ≡ fault_in f
err_as {X} {Y} g f r a b = let s : g ≡ f = cc in ap (λ (x : Fault). fault_in {Y = Y} x) s

pub item_err : (end at : ℕ) (inner : Step Slot) (within : Bool) (most c : ℕ) (is : List Item) (now : Progress) (bs : List ℕ) (ref : Step Slot) (f : Fault)
    → end - suc (length bs) ≡ at → (within && nat_eq c 0x78) ≡ false → inner now (c ∷ bs) ≡ ref now bs → item_at end at ref c now bs ≡ Err f → after_all is (blocks_at end inner within (suc most) now (c ∷ bs)) ≡ Err f
item_err end at inner within most c is now bs ref f place other same h =
    ap (after_all is) (blocks_is end inner within most c now bs other ∙ ap (λ (r : Result (Slot × Progress × List ℕ) Fault). if nat_eq c 0x77 then sized_more more now (byte_at bs) else (if nat_eq c 0x7A then sized_more more now (size_at end w32 (2 ^ 31) bs) else ref_more (end - suc (length bs)) more r)) same)
    ∙ ap (λ k. after_all is (if nat_eq c 0x77 then sized_more more now (byte_at bs) else (if nat_eq c 0x7A then sized_more more now (size_at end w32 (2 ^ 31) bs) else ref_more k more (ref now bs)))) place
    ∙ go (nat_eq c 0x77) (nat_eq c 0x7A) (sym (item_is end at ref c now bs) ∙ h)
  where
    more : Progress → List ℕ → Items
    more = blocks_at end inner within most

    block : (r : Plain (List ℕ)) → block_item now r ≡ Err f → after_all is (block_more more now r) ≡ Err f
    block (Ok p) e = absurd cc
    block (Err g) e = err_as g f (block_item now (Err g)) refl e

    two : (r : Plain ℕ) → sized_item now r ≡ Err f → after_all is (sized_more more now r) ≡ Err f
    two (Ok n) e = block (take_at n.0 n.1) e
    two (Err g) e = err_as g f (sized_item now (Err g)) refl e

    counted : (s : Slot × Progress × List ℕ) (b : Bool) → counted_item at s b ≡ Err f → after_all is (counted_more at more s b) ≡ Err f
    counted s true e = err_as (too_many at) f (counted_item at s true) refl e
    counted s false e = absurd cc

    one : (r : Result (Slot × Progress × List ℕ) Fault) → ref_item at r ≡ Err f → after_all is (ref_more at more r) ≡ Err f
    one (Ok s) e = counted s (nat_lt 1048576 (s.1.parts + 1)) e
    one (Err g) e = err_as g f (ref_item at (Err g)) refl e

    go : (a b : Bool) → (if a then sized_item now (byte_at bs) else (if b then sized_item now (size_at end w32 (2 ^ 31) bs) else ref_item at (ref now bs))) ≡ Err f
        → after_all is (if a then sized_more more now (byte_at bs) else (if b then sized_more more now (size_at end w32 (2 ^ 31) bs) else ref_more at more (ref now bs))) ≡ Err f
    go true b e = two (byte_at bs) e
    go false true e = two (size_at end w32 (2 ^ 31) bs) e
    go false false e = one (ref now bs) e

pub code_err : (end : ℕ) (inner : Step Slot) (most : ℕ) (now : Progress) (is : List Item) (bs : List ℕ) (f : Fault) → byte_at bs ≡ Err f → after_all is (blocks_at end inner true (suc most) now bs) ≡ Err f
unfolding blocks_at
code_err end inner most now is [] f h = err_as short f (byte_at []) refl h
code_err end inner most now is (b ∷ bs) f h = absurd cc

first_err : (end : ℕ) (inner : Step Slot) (within : Bool) (most : ℕ) (now : Progress) (is : List Item) (bs : List ℕ) → byte_at bs ≡ Err short → until within (after_all is (blocks_at end inner within (suc most) now bs)) ≡ Err short
unfolding blocks_at
first_err end inner true most now is [] h = refl
first_err end inner false most now is [] h = refl
first_err end inner within most now is (b ∷ bs) h = absurd cc

pub byte_cons : (bs : List ℕ) (c : ℕ) (rest : List ℕ) → byte_at bs ≡ Ok (c, rest) → bs ≡ c ∷ rest
byte_cons [] c rest h = absurd cc
byte_cons (b ∷ bs) c rest h =
    let e : (b, bs) ≡ (c, rest) = ok_is _ _ (byte_at (b ∷ bs)) refl h in
    ap (λ (x : ℕ × List ℕ). x.0 ∷ x.1) e

-- ---- the loop

pub one_byte : (taken : List ℕ) (c : ℕ) → ((rest : List ℕ) → byte_at (taken ++ rest) ≡ Ok (c, rest)) → taken ≡ c ∷ []
one_byte [] c h = absurd (let e = h [] in cc)
one_byte (b ∷ taken) c h =
    let e : (b, taken ++ []) ≡ (c, []) = ok_is _ _ (byte_at ((b ∷ taken) ++ [])) refl (h []) in
    let head : b ≡ c = ap (λ (x : ℕ × List ℕ). x.0) e in
    let tail : taken ++ [] ≡ [] = ap (λ (x : ℕ × List ℕ). x.1) e in
    rw (head, sym (append-nil taken) ∙ tail) refl

pub slack_goes : {p q : PullState} {inner : ℕ → Step Slot} {within : Bool} {first now : Progress} {is : List Item} (s : Slack p q inner within first now is)
    → Goes p q (λ end. items_at end (inner end) within first) (λ end bs. after_all is (blocks_at end (inner end) within (suc (s.spare + length bs)) now bs))
slack_goes s = record { taken = s.taken; bytes = s.bytes; takes = s.takes; is = s.reads }

pub slack_leads : {p q : PullState} {inner : ℕ → Step Slot} {within : Bool} {first now : Progress} {is : List Item} (s : Slack p q inner within first now is)
    → Leads short p q (λ end bs. until within (items_at end (inner end) within first bs)) (λ end bs. until within (after_all is (blocks_at end (inner end) within (suc (s.spare + length bs)) now bs)))
slack_leads {within = within} s = record { taken = s.taken; bytes = s.bytes; takes = s.takes; is = λ rest. until_same within _ _ (s.reads rest); least = s.least }

-- and then a code was read
byte_leads : {q m : PullState} (inner : ℕ → Step Slot) (within : Bool) (spare : ℕ) (now : Progress) (is : List Item) (c : ℕ) → Reads short q m (λ end. byte_at) (λ rest. (c, rest))
    → Leads short q m (λ end bs. until within (after_all is (blocks_at end (inner end) within (suc (spare + length bs)) now bs))) (λ end bs. until within (after_all is (blocks_at end (inner end) within (suc (spare + suc (length bs))) now (c ∷ bs))))
byte_leads inner within spare now is c a = leads_read (λ end bs. until within (after_all is (blocks_at end (inner end) within (suc (spare + suc (length bs))) now (c ∷ bs)))) a
    (λ end bs rest here h. ap (λ (l : List ℕ). until within (after_all is (blocks_at end (inner end) within (suc (spare + length l)) now l))) (byte_cons bs c rest h))
    (λ end bs here h. first_err end (inner end) within (spare + length bs) now is bs h)

pub slack_byte : {p q m : PullState} {inner : ℕ → Step Slot} {within : Bool} {first now : Progress} {is : List Item} {c : ℕ} (s : Slack p q inner within first now is) → Reads short q m (λ end. byte_at) (λ rest. (c, rest))
    → Leads short p m (λ end bs. until within (items_at end (inner end) within first bs)) (λ end bs. until within (after_all is (blocks_at end (inner end) within (suc (s.spare + suc (length bs))) now (c ∷ bs))))
slack_byte {inner = inner} {within = within} {now = now} {is = is} {c = c} s a = leads_two (slack_leads s) (byte_leads inner within s.spare now is c a)

pub byte_goes : {p q m : PullState} {inner : ℕ → Step Slot} {within : Bool} {first now : Progress} {is : List Item} {c : ℕ} (s : Slack p q inner within first now is) → Reads short q m (λ end. byte_at) (λ rest. (c, rest))
    → Goes p m (λ end. items_at end (inner end) within first) (λ end bs. after_all is (blocks_at end (inner end) within (suc (s.spare + suc (length bs))) now (c ∷ bs)))
byte_goes {p} {q} {m} {inner} {within} {first} {now} {is} {c} s a = goes_two (slack_goes s) (record {
  taken = a.taken;
  bytes = a.bytes;
  takes = a.takes;
  is = λ rest. ap (λ (l : List ℕ). after_all is (blocks_at (m.at + length rest) (inner (m.at + length rest)) within (suc (s.spare + length l)) now l)) (byte_cons (a.taken ++ rest) c rest (a.is rest));
})

pub slack_next : {p q m r : PullState} {inner : ℕ → Step Slot} {within : Bool} (ref : ℕ → Step Slot) {first now later : Progress} {is : List Item} {c : ℕ} {i : Item}
    → Slack p q inner within first now is → Reads short q m (λ end. byte_at) (λ rest. (c, rest)) → Reads short m r (λ end. item_at end q.at (ref end) c now) (λ rest. (i, later, rest))
    → (within && nat_eq c 0x78) ≡ false → ((end : ℕ) (bs : List ℕ) → end ≡ q.at + suc (length bs) → inner end now (c ∷ bs) ≡ ref end now bs) → Slack p r inner within first later (added is i)
unfolding byte_leads slack_leads leads_read
slack_next {p} {q} {m} {r} {inner} {within} ref {first} {now} {later} {is} {c} {i} s a b other same =
    let one : a.taken ≡ c ∷ [] = one_byte a.taken c a.is in
    let len : length a.taken ≡ 1 = ap (λ (x : List ℕ). length x) one in
    record {
      taken = s.taken ++ (a.taken ++ b.taken);
      bytes = bytes_more s.taken (a.taken ++ b.taken) s.bytes (bytes_more a.taken b.taken a.bytes b.bytes);
      takes = takes_more p q r s.taken (a.taken ++ b.taken) s.takes (takes_more q m r a.taken b.taken a.takes b.takes);
      spare = s.spare + length b.taken;
      least = least_two (slack_leads s) (a.taken ++ b.taken) (least_two (byte_leads inner within s.spare now is c a) b.taken (λ front next others e.
          let here : m.at + length front ≡ q.at + suc (length front) = omega (arith, len, a.takes.at) in
          until_err within _ short (item_err (m.at + length front) q.at (inner (m.at + length front)) within (s.spare + suc (length front)) c is now front (ref (m.at + length front)) short (omega arith) other (same (m.at + length front) front here) (b.least front next others e))));
      reads = λ rest.
          let end = r.at + length rest in
          let whole : (s.taken ++ (a.taken ++ b.taken)) ++ rest ≡ s.taken ++ (c ∷ (b.taken ++ rest)) =
          append_assoc s.taken (a.taken ++ b.taken) rest ∙ ap (λ (x : List ℕ). s.taken ++ x) (append_assoc a.taken b.taken rest ∙ ap (λ (x : List ℕ). x ++ (b.taken ++ rest)) one) in
          let ends : r.at + length rest ≡ q.at + length (c ∷ (b.taken ++ rest)) = omega (arith, len, a.takes.at, b.takes.at, length-append b.taken rest) in
          let here : r.at + length rest ≡ q.at + suc (length (b.taken ++ rest)) = ends in
          let first_is = rw (← ends) at (s.reads (c ∷ (b.taken ++ rest))) in
          let mid : r.at + length rest ≡ m.at + length (b.taken ++ rest) = omega (arith, b.takes.at, length-append b.taken rest) in
          let most : s.spare + length (c ∷ (b.taken ++ rest)) ≡ suc (s.spare + length b.taken + length rest) = omega (arith, length-append b.taken rest) in
          rw whole (first_is ∙ block_step end q.at (inner end) within (s.spare + length (c ∷ (b.taken ++ rest))) c is now (b.taken ++ rest) (ref end) i later rest (omega arith) other (same end (b.taken ++ rest) here) (b.is rest) ∙ ap (λ n. after_all (added is i) (blocks_at end (inner end) within n later rest)) most);
    }

pub slack_more : {p q m r : PullState} {inner : ℕ → Step Slot} (ref : ℕ → Step Slot) {first now later : Progress} {is : List Item} {c : ℕ} {i : Item}
    → Slack p q inner true first now is → Reads short q m (λ end. byte_at) (λ rest. (c, rest)) → Reads short m r (λ end. item_at end q.at (ref end) c now) (λ rest. (i, later, rest))
    → nat_eq c 0x78 ≡ false → ((end : ℕ) (bs : List ℕ) → end ≡ q.at + suc (length bs) → inner end now (c ∷ bs) ≡ ref end now bs) → Slack p r inner true first later (added is i)
slack_more ref s a b other same = slack_next {within = true} ref s a b other same

pub slack_end : {p q m : PullState} {inner : ℕ → Step Slot} {first now : Progress} {is : List Item} {c : ℕ}
    → Slack p q inner true first now is → Reads short q m (λ end. byte_at) (λ rest. (c, rest)) → c ≡ 0x78 → Reads short p m (λ end. items_at end (inner end) true first) (λ rest. (is, now, rest))
unfolding blocks_at added_all slack_leads
slack_end {p} {q} {m} {inner} {first} {now} {is} {c} s a h =
    let one : a.taken ≡ c ∷ [] = one_byte a.taken c a.is in
    let len : length a.taken ≡ 1 = ap (λ (x : List ℕ). length x) one in
    record {
      taken = s.taken ++ a.taken;
      bytes = bytes_more s.taken a.taken s.bytes a.bytes;
      takes = takes_more p q m s.taken a.taken s.takes a.takes;
      is = λ rest.
          let ends : m.at + length rest ≡ q.at + length (c ∷ rest) = omega (arith, len, a.takes.at) in
          let whole : (s.taken ++ a.taken) ++ rest ≡ s.taken ++ (c ∷ rest) = append_assoc s.taken a.taken rest ∙ ap (λ (x : List ℕ). s.taken ++ (x ++ rest)) one in
          let first_is = rw (← ends) at (s.reads (c ∷ rest)) in
          rw whole (first_is ∙ rw h refl);
      least = least_two (slack_leads s) a.taken (λ front next others e. first_err (q.at + length front) (inner (q.at + length front)) true (s.spare + length front) now is front (a.least front next others e));
    }
