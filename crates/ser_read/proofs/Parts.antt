-- Objects by the types of their fields alone, and constructs by their classes.
use Rattle.std.proofs.Common.{◌≡◌, ℕ, suc, arith, ◌+◌, if◌then◌else◌, Bool, true, false, nat_lt, List, [], ◌∷◌, length, Option, None, Some, Result, Ok, Err, slice_get, refl, ap, ◌∙◌}
use Rattle.std.proofs.lemmas.List.{length-map}
use Rattle.class_desc.specs.declared.slot.Slot.{Slot}
use Rattle.class_desc.specs.declared.slot.Slot.TheVariants as slots
use Rattle.class_desc.specs.declared.slot.Item.{Item}
use Rattle.class_desc.specs.declared.field.FieldDesc.{FieldDesc}
use Rattle.ser_values.specs.declared.value.Value.{Value}
use Rattle.ser_values.specs.declared.value.Part.{Part}
use Rattle.ser_values.specs.declared.node.SlotPlace.TheVariants as places
use Rattle.stream_grammar.specs.Reading.{◌>>=◌, Fault, FaultKind, bad, too_many, Progress, Step, Slots, Row, part, unless, value_at, values_at, note_at, parts_at, chain_of, rows_of, sizes_of, class_fault, object_after, object_at, with_class, on_class}
use Rattle.ser_read.specs.declared.row.ClassRow.{ClassRow}
use Rattle.ser_read.specs.Codes.{codes_of}
use Rattle.ser_read.specs.Lists.{all_at}
use Rattle.ser_read.specs.ObjectRows.{class_rows, values_by, part_by, parts_by, sizes_by, object_by}
use Rattle.ser_read.specs.Named.{only_class, class_named}

values_same : (inner : Step Slot) (fs : List FieldDesc) (now : Progress) (bs : List ℕ) → values_by inner (codes_of fs) now bs ≡ values_at inner fs now bs
unfolding values_by values_at all_at
values_same inner [] now bs = refl
values_same inner (f ∷ fs) now bs = go (λ n b. values_same inner fs n b) (value_at inner f.code now bs)
  where
    go : ((n : Progress) (b : List ℕ) → all_at (value_at inner) (codes_of fs) n b ≡ values_at inner fs n b) → (r : Result (Value × Progress × List ℕ) Fault) → ◌>>=◌ {B = List Value × Progress × List ℕ} r (λ v. ◌>>=◌ {B = List Value × Progress × List ℕ} (all_at (value_at inner) (codes_of fs) v.1 v.2) (λ vs. Ok (v.0 ∷ vs.0, vs.1, vs.2))) ≡ ◌>>=◌ {B = List Value × Progress × List ℕ} r (λ v. ◌>>=◌ {B = List Value × Progress × List ℕ} (values_at inner fs v.1 v.2) (λ vs. Ok (v.0 ∷ vs.0, vs.1, vs.2)))
    go same (Err e) = refl
    go same (Ok v) = ap (λ (r : Result (List Value × Progress × List ℕ) Fault). ◌>>=◌ {B = List Value × Progress × List ℕ} r (λ vs. Ok (v.0 ∷ vs.0, vs.1, vs.2))) (same v.1 v.2)

abbrev Parts : Type 0
Parts = Result (List Part × Progress × List ℕ) Fault

pub parts_same : (end : ℕ) (inner : Step Slot) (rs : List Row) (now : Progress) (bs : List ℕ) → parts_by end inner (class_rows rs) now bs ≡ parts_at end inner rs now bs
unfolding parts_by parts_at part_by all_at
parts_same end inner [] now bs = refl
parts_same end inner (r ∷ rs) now bs = rw (values_same inner r.0 now bs) (go (λ n b. parts_same end inner rs n b) (values_at inner r.0 now bs))
  where
    later : List Value → List Item × Progress × List ℕ → Parts
    later vs is = parts_at end inner rs is.1 is.2 >>= λ ps. Ok (part vs is.0 ∷ ps.0, ps.1, ps.2)

    inside : ((n : Progress) (b : List ℕ) → all_at (part_by end inner) (class_rows rs) n b ≡ parts_at end inner rs n b) → (vs : List Value) (n : Result (List Item × Progress × List ℕ) Fault) → ◌>>=◌ {B = List Part × Progress × List ℕ} (◌>>=◌ {B = Part × Progress × List ℕ} n (λ is. Ok (part vs is.0, is.1, is.2))) (λ x. ◌>>=◌ {B = List Part × Progress × List ℕ} (all_at (part_by end inner) (class_rows rs) x.1 x.2) (λ xs. Ok (x.0 ∷ xs.0, xs.1, xs.2))) ≡ ◌>>=◌ {B = List Part × Progress × List ℕ} n (later vs)
    inside same vs (Err e) = refl
    inside same vs (Ok is) = ap (λ (p : Parts). ◌>>=◌ {B = List Part × Progress × List ℕ} p (λ ps. Ok (part vs is.0 ∷ ps.0, ps.1, ps.2))) (same is.1 is.2)

    go : ((n : Progress) (b : List ℕ) → all_at (part_by end inner) (class_rows rs) n b ≡ parts_at end inner rs n b) → (v : Result (List Value × Progress × List ℕ) Fault) → ◌>>=◌ {B = List Part × Progress × List ℕ} (◌>>=◌ {B = Part × Progress × List ℕ} v (λ vs. note_at end inner r.1 vs.1 vs.2 >>= λ is. Ok (part vs.0 is.0, is.1, is.2))) (λ x. ◌>>=◌ {B = List Part × Progress × List ℕ} (all_at (part_by end inner) (class_rows rs) x.1 x.2) (λ xs. Ok (x.0 ∷ xs.0, xs.1, xs.2))) ≡ ◌>>=◌ {B = List Part × Progress × List ℕ} v (λ vs. note_at end inner r.1 vs.1 vs.2 >>= later vs.0)
    go same (Err e) = refl
    go same (Ok vs) = inside same vs.0 (note_at end inner r.1 vs.1 vs.2)

sizes_same : (rs : List Row) → sizes_by (class_rows rs) ≡ sizes_of rs
unfolding sizes_by sizes_of
sizes_same [] = refl
sizes_same (r ∷ rs) = let k : length (codes_of r.0) ≡ length r.0 = simp length-map refl in let h = sizes_same rs in omega arith

object_same : (end : ℕ) (inner : Step Slot) (class : ℕ) (rs : List Row) (now : Progress) (bs : List ℕ) → object_after end inner class rs now bs ≡ object_by end inner class (class_rows rs) now bs
unfolding object_after object_by
object_same end inner class rs now bs =
    let k = sizes_same rs in
    rw (k, parts_same end inner rs) refl

-- an object, by the rows and the fault of its class
pub object_is : (end at : ℕ) (inner : Step Slot) (class : ℕ) (rows : List ClassRow) (now : Progress) (bs : List ℕ)
    → rows ≡ class_rows (rows_of (slice_get now.nodes class) (chain_of 1048576 now.nodes (slots.Node class)).0)
    → object_at end at inner class now bs ≡ (if nat_lt 1048576 (now.parts + sizes_by rows) then Err (too_many at) else unless (class_fault (slice_get now.nodes class) (chain_of 1048576 now.nodes (slots.Node class)).1) at (object_by end inner class rows now bs))
unfolding object_at
object_is end at inner class rows now bs h =
    let k : sizes_by rows ≡ sizes_of (rows_of (slice_get now.nodes class) (chain_of 1048576 now.nodes (slots.Node class)).0) = ap sizes_by h ∙ sizes_same _ in
    rw (k, h, ← object_same end inner class) refl

abbrev Read : Type 0
Read = Result (Slot × Progress × List ℕ) Fault

-- where the parts have room and the class has objects
pub object_here : (end at : ℕ) (inner : Step Slot) (class : ℕ) (rows : List ClassRow) (now : Progress) (bs : List ℕ)
    → rows ≡ class_rows (rows_of (slice_get now.nodes class) (chain_of 1048576 now.nodes (slots.Node class)).0)
    → nat_lt 1048576 (now.parts + sizes_by rows) ≡ false
    → class_fault (slice_get now.nodes class) (chain_of 1048576 now.nodes (slots.Node class)).1 ≡ None
    → object_at end at inner class now bs ≡ object_by end inner class rows now bs
object_here end at inner class rows now bs h few good =
    let read : Read = object_by end inner class rows now bs in
    object_is end at inner class rows now bs h
    ∙ ap (λ (b : Bool). if b then Err (too_many at) else unless (class_fault (slice_get now.nodes class) (chain_of 1048576 now.nodes (slots.Node class)).1) at read) few
    ∙ ap (λ (f : Option FaultKind). unless f at read) good

-- where the class has no objects
pub object_bad : (end at : ℕ) (inner : Step Slot) (class : ℕ) (rows : List ClassRow) (now : Progress) (bs : List ℕ) (kind : FaultKind)
    → rows ≡ class_rows (rows_of (slice_get now.nodes class) (chain_of 1048576 now.nodes (slots.Node class)).0)
    → nat_lt 1048576 (now.parts + sizes_by rows) ≡ false
    → class_fault (slice_get now.nodes class) (chain_of 1048576 now.nodes (slots.Node class)).1 ≡ Some kind
    → object_at end at inner class now bs ≡ Err (bad kind at)
object_bad end at inner class rows now bs kind h few wrong =
    let read : Read = object_by end inner class rows now bs in
    object_is end at inner class rows now bs h
    ∙ ap (λ (b : Bool). if b then Err (too_many at) else unless (class_fault (slice_get now.nodes class) (chain_of 1048576 now.nodes (slots.Node class)).1) at read) few
    ∙ ap (λ (f : Option FaultKind). unless f at read) wrong

-- a construct that begins with its class
pub with_class_is : (inner : Slots) (unread : List ℕ) (at : ℕ) (f : ℕ → Step Slot) (now : Progress) (bs : List ℕ) → with_class inner unread at f now bs ≡ (class_named inner unread at now bs >>= λ x. f x.0 x.1 x.2)
unfolding with_class class_named
with_class_is inner unread at f now bs = go (inner places.Class unread now bs)
  where
    room : (b : Bool) (k : ℕ) (n : Progress) (rest : List ℕ) → (if b then f k n rest else Err (too_many at)) ≡ ◌>>=◌ {A = ℕ × Progress × List ℕ} {B = Slot × Progress × List ℕ} (if b then Ok (k, n, rest) else Err (too_many at)) (λ x. f x.0 x.1 x.2)
    room true k n rest = refl
    room false k n rest = refl

    go : (r : Result (Slot × Progress × List ℕ) Fault) → ◌>>=◌ {B = Slot × Progress × List ℕ} r (on_class at f) ≡ ◌>>=◌ {B = Slot × Progress × List ℕ} (◌>>=◌ {B = ℕ × Progress × List ℕ} r (only_class at)) (λ x. f x.0 x.1 x.2)
    go (Err e) = refl
    go (Ok (slots.Null, n, rest)) = refl
    go (Ok (slots.Node k, n, rest)) = room (nat_lt (length n.nodes) 65536) k n rest
