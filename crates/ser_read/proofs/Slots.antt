-- References, and what is read in one way whatever stands inside.
use Rattle.std.proofs.Common.{◌≡◌, if◌then◌else◌, ℕ, zero, suc, ◌+◌, ◌-◌, ◌^◌, ◌<◌, eqb, nat_lt, not, Bool, true, false, List, [], ◌∷◌, ◌++◌, length, Result, Ok, Err, IfOk, refl, ap, ◌∙◌, arith}
use Rattle.class_desc.specs.declared.slot.Slot.{Slot}
use Rattle.class_desc.specs.declared.slot.Slot.TheVariants as slots
use Rattle.class_desc.specs.declared.field.TypeCode.{TypeCode}
use Rattle.class_desc.specs.declared.field.TypeCode.TheVariants as codes
use Rattle.class_desc.specs.TypeCode.{is_primitive}
use Rattle.ser_values.specs.declared.node.Node.{Node}
use Rattle.ser_values.specs.declared.node.SlotPlace.{SlotPlace}
use Rattle.wire_io.specs.Pulled.{PullState}
use Rattle.stream_grammar.specs.Reading.{◌>>=◌, Fault, short, Progress, Step, Slots, fill, byte_at, take_at, size_at, value_at, elements_at, null_at, coded, slot_at, bad, too_many, too_deep, admits_code, code_fault}
use Rattle.ser_read.specs.declared.fault.StreamFault.{StreamFault}
use Rattle.ser_read.specs.declared.fault.StreamFault.TheVariants as faults
use Rattle.ser_read.specs.declared.fault.Large.TheVariants as larges
use Rattle.std.specs.Prelude.{IfErr}
use Rattle.ser_read.specs.Here.{Caused, Gives, Reads, Breaks}
use Rattle.std.specs.Int.{w32}
use Rattle.class_desc.specs.declared.slot.Item.TheVariants as items
use Rattle.ser_read.specs.Wants.{Stand, ◌▸◌, reference_at, slot_next}
use Rattle.ser_read.specs.Named.{item_at}
use Rattle.ser_read.proofs.Steps.{done, said}
use Rattle.ser_read.proofs.Breaking.{breaks_as, bad_here, many_here, deep_here, no_memory}

pub slot_is : (end left : ℕ) (p : SlotPlace) (unread : List ℕ) (now : Progress) (bs : List ℕ) → slot_at end left p unread now bs ≡ (byte_at bs >>= λ c. coded end left (slot_at end (left - 1)) p unread (end - length bs) c.0 now c.1)
unfolding slot_at coded
slot_is end zero p unread now bs = refl
slot_is end (suc d) p unread now bs = let e : suc d - 1 ≡ d = omega arith in rw e refl

pub slot_here : (end left : ℕ) (p : SlotPlace) (unread : List ℕ) (now : Progress) (bs : List ℕ) (at : ℕ) → end ≡ at + length bs → slot_at end left p unread now bs ≡ (byte_at bs >>= λ c. coded end left (slot_at end (left - 1)) p unread at c.0 now c.1)
slot_here end left p unread now bs at e = let h : end - length bs ≡ at = omega arith in slot_is end left p unread now bs ∙ ap (λ a. byte_at bs >>= λ c. coded end left (slot_at end (left - 1)) p unread a c.0 now c.1) h

pub slot_gives : (end left : ℕ) (p : SlotPlace) (unread : List ℕ) (now : Progress) (bs : List ℕ) (at code : ℕ) (rest : List ℕ) → end ≡ at + length bs → byte_at bs ≡ Ok (code, rest)
    → slot_at end left p unread now bs ≡ coded end left (slot_at end (left - 1)) p unread at code now rest
slot_gives end left p unread now bs at code rest e h = slot_here end left p unread now bs at e ∙ rw h refl

-- a node that was written over
pub made : (k n : ℕ) (now later : Progress) (i : Node) (bs : List ℕ) (r : Result (Slot × Progress × List ℕ) Fault) → r ≡ Ok (slots.Node k, fill now k i, bs) → n ≡ k → later ≡ fill now n i → r ≡ Ok (slots.Node n, later, bs)
made k n now later i bs r e h g = rw (g, h) e

-- null
coded_null : (end left : ℕ) (inner : Slots) (p : SlotPlace) (unread : List ℕ) (at code : ℕ) (now : Progress) (bs : List ℕ) → code ≡ 0x70 → coded end left inner p unread at code now bs ≡ null_at p at now bs
unfolding coded
coded_null end left inner p unread at code now bs h = rw h refl

pub null_reads : (q : PullState) (left : ℕ) (inner : ℕ → Slots) (p : SlotPlace) (unread : List ℕ) (at code : ℕ) (now : Progress) (result : Result Slot StreamFault) → code ≡ 0x70
    → ((after : StreamFault) (now : Progress) (bs : List ℕ) → Gives {Y = Slot × Progress × List ℕ} after (λ slot. (slot, now, bs)) result (null_at p at now bs)) → IfOk result (λ x. Reads {Y = Slot × Progress × List ℕ} short q q (λ end. coded end left (inner end) p unread at code now) (λ rest. (x, now, rest)))
null_reads q left inner p unread at code now (Ok x) h g = done (λ end bs. coded_null end left (inner end) p unread at code now bs h ∙ g faults.ReadFault now bs)
null_reads q left inner p unread at code now (Err e) h g = tt

pub null_stops : (q : PullState) (left : ℕ) (inner : ℕ → Slots) (p : SlotPlace) (unread : List ℕ) (at code : ℕ) (now : Progress) (result : Result Slot StreamFault) → code ≡ 0x70
    → ((after : StreamFault) (now : Progress) (bs : List ℕ) → Gives {Y = Slot × Progress × List ℕ} after (λ slot. (slot, now, bs)) result (null_at p at now bs)) → ((n : ℕ) → Caused n n result) → IfErr result (λ e. Breaks {Y = Slot × Progress × List ℕ} q q e (λ end. coded end left (inner end) p unread at code now))
null_stops q left inner p unread at code now (Ok x) h g cause = tt
null_stops q left inner p unread at code now (Err (faults.Bad kind a)) h g cause = bad_here kind a (g faults.ReadFault now []).1 (λ end bs here. coded_null end left (inner end) p unread at code now bs h ∙ (g faults.ReadFault now bs).0)
null_stops q left inner p unread at code now (Err (faults.TooLarge larges.Nodes a)) h g cause = many_here a (λ end bs here. coded_null end left (inner end) p unread at code now bs h ∙ g faults.ReadFault now bs)
null_stops q left inner p unread at code now (Err (faults.TooLarge larges.Depth a)) h g cause = deep_here a (λ end bs here. coded_null end left (inner end) p unread at code now bs h ∙ g faults.ReadFault now bs)
null_stops q left inner p unread at code now (Err (faults.TooLarge larges.Bytes a)) h g cause = absurd (let e = (g faults.ReadFault now []).1 in cc)
null_stops q left inner p unread at code now (Err (faults.Truncated a)) h g cause = absurd (let e = (g faults.ReadFault now []).1 in cc)
null_stops q left inner p unread at code now (Err faults.ReadFault) h g cause = absurd (let least = (cause 0).1 in omega (arith, least))
null_stops q left inner p unread at code now (Err faults.OutOfMemory) h g cause = no_memory

-- values and elements of primitive types have no references
pub value_any : (code : TypeCode) (a b : Step Slot) (now : Progress) (bs : List ℕ) → is_primitive code ≡ true → value_at a code now bs ≡ value_at b code now bs
unfolding value_at
value_any codes.Byte a b now bs h = refl
value_any codes.Char a b now bs h = refl
value_any codes.Double a b now bs h = refl
value_any codes.Float a b now bs h = refl
value_any codes.Int a b now bs h = refl
value_any codes.Long a b now bs h = refl
value_any codes.Short a b now bs h = refl
value_any codes.Boolean a b now bs h = refl
value_any codes.Array a b now bs h = absurd cc
value_any codes.Object a b now bs h = absurd cc

pub elements_any : (code : TypeCode) (n : ℕ) (a b : Step Slot) (now : Progress) (bs : List ℕ) → is_primitive code ≡ true → elements_at a code n now bs ≡ elements_at b code n now bs
unfolding elements_at
elements_any codes.Byte n a b now bs h = refl
elements_any codes.Char n a b now bs h = refl
elements_any codes.Double n a b now bs h = refl
elements_any codes.Float n a b now bs h = refl
elements_any codes.Int n a b now bs h = refl
elements_any codes.Long n a b now bs h = refl
elements_any codes.Short n a b now bs h = refl
elements_any codes.Boolean n a b now bs h = refl
elements_any codes.Array n a b now bs h = absurd cc
elements_any codes.Object n a b now bs h = absurd cc

pub item_block : (end at : ℕ) (ref : Step Slot) (code : ℕ) (now : Progress) (bs : List ℕ) → code ≡ 0x77 → item_at end at ref code now bs ≡ (byte_at bs >>= λ n. take_at n.0 n.1 >>= λ p. Ok (items.Bytes p.0, now, p.1))
unfolding item_at
item_block end at ref code now bs h = rw h refl

pub item_long : (end at : ℕ) (ref : Step Slot) (code : ℕ) (now : Progress) (bs : List ℕ) → code ≡ 0x7A → item_at end at ref code now bs ≡ (size_at end w32 (2 ^ 31) bs >>= λ n. take_at n.0 n.1 >>= λ p. Ok (items.Bytes p.0, now, p.1))
unfolding item_at
item_long end at ref code now bs h = rw h refl

-- the branch that is taken
pub when : {Y : Type 0} {p q : PullState} {b : Bool} {x : ℕ → List ℕ → Result Y Fault} (y : ℕ → List ℕ → Result Y Fault) {out : List ℕ → Y} → b ≡ true → Reads short p q x out → Reads short p q (λ end bs. if b then x end bs else y end bs) out
when y h r = said (λ end bs here. rw h refl) r

pub otherwise : {Y : Type 0} {p q : PullState} {b : Bool} (x : ℕ → List ℕ → Result Y Fault) {y : ℕ → List ℕ → Result Y Fault} {out : List ℕ → Y} → b ≡ false → Reads short p q y out → Reads short p q (λ end bs. if b then x end bs else y end bs) out
otherwise x h r = said (λ end bs here. rw h refl) r

pub stops_when : {Y : Type 0} {p q : PullState} {e : StreamFault} {b : Bool} {x : ℕ → List ℕ → Result Y Fault} (y : ℕ → List ℕ → Result Y Fault) → b ≡ true → Breaks p q e x → Breaks p q e (λ end bs. if b then x end bs else y end bs)
stops_when y h r = breaks_as (λ end bs f here is. rw h is) r

pub stops_otherwise : {Y : Type 0} {p q : PullState} {e : StreamFault} {b : Bool} (x : ℕ → List ℕ → Result Y Fault) {y : ℕ → List ℕ → Result Y Fault} → b ≡ false → Breaks p q e y → Breaks p q e (λ end bs. if b then x end bs else y end bs)
stops_otherwise x h r = breaks_as (λ end bs f here is. rw h is) r

-- a reference where block data is left, and where none is
pub slot_none : (end : ℕ) (s : Stand) (bs : List ℕ) → s.block ≡ 0 → slot_next end s bs ≡ (reference_at end s.progress bs ▸ λ x. Ok (x.0, record { progress = x.1; items = s.items ++ items.Ref x.0 ∷ []; block = 0 }, x.2))
unfolding slot_next
slot_none end s bs h = rw h refl

-- codes that begin nothing here

pub coded_none : (end left : ℕ) (inner : Slots) (p : SlotPlace) (unread : List ℕ) (at code : ℕ) (now : Progress) (bs : List ℕ) → eqb code 0x70 ≡ false → eqb code 0x71 ≡ false → admits_code p code ≡ false
    → coded end left inner p unread at code now bs ≡ Err (bad (code_fault code) at)
unfolding coded
coded_none end left inner p unread at code now bs a b c = rw (a, b, c) refl

pub coded_deep : (end left : ℕ) (inner : Slots) (p : SlotPlace) (unread : List ℕ) (at code : ℕ) (now : Progress) (bs : List ℕ) → eqb code 0x70 ≡ false → eqb code 0x71 ≡ false → admits_code p code ≡ true → left ≡ 0
    → coded end left inner p unread at code now bs ≡ Err (too_deep at)
unfolding coded
coded_deep end left inner p unread at code now bs a b c none = rw (a, b, c, none) refl

pub coded_full : (end left : ℕ) (inner : Slots) (p : SlotPlace) (unread : List ℕ) (at code : ℕ) (now : Progress) (bs : List ℕ) → eqb code 0x70 ≡ false → eqb code 0x71 ≡ false → admits_code p code ≡ true → 0 < left
    → not (nat_lt (length now.nodes) 65536) ≡ true → coded end left inner p unread at code now bs ≡ Err (too_many at)
unfolding coded
coded_full end zero inner p unread at code now bs a b c some full = absurd (omega arith)
coded_full end (suc left) inner p unread at code now bs a b c some full = let none : nat_lt (length now.nodes) 65536 ≡ false = not_true (nat_lt (length now.nodes) 65536) full in rw (a, b, c, none) refl
  where
    not_true : (b : Bool) → not b ≡ true → b ≡ false
    not_true true h = absurd cc
    not_true false h = refl
