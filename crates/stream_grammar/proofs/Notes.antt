-- Annotations, elements and parts that are spelled are read.
use Rattle.std.proofs.Common.{◌≡◌, ◌&&◌, ℕ, zero, suc, ◌+◌, ◌-◌, ◌<◌, ◌≤◌, ◌^◌, ℤ, FitsSigned, Bool, true, false, eqb, List, [], ◌∷◌, ◌++◌, map, length, All, Some, Ok, refl, sym, ap, subst, ◌∙◌, arith, inl, inr}
use Rattle.std.proofs.Math.Dec.{eqb-suc-zero}
use Rattle.std.specs.Int.{Width, w16, w32, w64, to_be_bytes, cast_unsigned, cast_signed}
use Rattle.class_desc.specs.declared.slot.Slot.{Slot}
use Rattle.class_desc.specs.declared.slot.Item.{Item}
use Rattle.class_desc.specs.declared.slot.Item.TheVariants as items
use Rattle.class_desc.specs.declared.field.TypeCode.{TypeCode}
use Rattle.class_desc.specs.declared.field.TypeCode.TheVariants as codes
use Rattle.ser_values.specs.declared.value.Values.{Values}
use Rattle.ser_values.specs.declared.value.Values.TheVariants as kinds
use Rattle.ser_values.specs.declared.value.Part.{Part}
use Rattle.ser_values.specs.declared.node.Node.{Node}
use Rattle.ser_values.specs.declared.node.SlotPlace.TheVariants as places
use Rattle.ser_values.specs.Node.{Want, item_wants}
use Rattle.ser_values.specs.Shape.{count_of, refs_in, notes_in}
use Rattle.stream_grammar.specs.Spelled.{Token, raw, truth, note, number, reference, value_token, element_tokens, part_tokens, IsBlock, joined, One, SpellsBlocks, SpellsItems, SpellsAll, Spelling}
use Rattle.ser_values.specs.Ranges.{ElementsFit, PartFits}
use Rattle.stream_grammar.specs.Reading.{◌>>=◌, byte_at, number_at, Progress, add_parts, counting, Step, Slots, plain, map_step, many_at, blocks_at, items_at, is_true, elements_at, note_at, part, parts_at, values_at}
use Rattle.stream_grammar.proofs.Apart.{below_16, below_32, below_64}
use Rattle.stream_grammar.proofs.Varieties.{ElementsOf}
use Rattle.stream_grammar.proofs.Leading.{all_rest}
use Rattle.stream_grammar.proofs.Parted.{Row, Fitted, writes}
use Rattle.stream_grammar.proofs.SameTokens.{AllBegin}
use Rattle.stream_grammar.proofs.Shrinks.{Shrinks, block_len}
use Rattle.stream_grammar.proofs.Spelling.{joined_wants}
use Rattle.stream_grammar.proofs.Mirror.{total, Ready, ready_add, ReadsBy, Reads, reads_done, reads_sum, reads_counting}
use Rattle.stream_grammar.proofs.Plains.{take_back, number_back_16, number_back_32, number_back_64, size_back}
use Rattle.stream_grammar.proofs.Steps.{IsComplete, spells_split, spells_one, moved, plain_reads, reads_map, StepReads, many_reads, map_flat, signed, values_reads}

-- ---- blocks

-- what stands at the end: 78 and the rest, or nothing
abbrev pub Ends : Bool → List ℕ → List ℕ → Type 0
Ends true x rest = x ≡ 0x78 ∷ rest
Ends false x rest = (x ≡ []) × (rest ≡ [])

and_none : (b : Bool) → (b && false) ≡ false
and_none true = refl
and_none false = refl

-- a reference begins here
blocks_ref : (end : ℕ) (inner : Step Slot) (within : Bool) (most : ℕ) (now : Progress) (c : ℕ) (bs : List ℕ) → eqb c 0x78 ≡ false → eqb c 0x77 ≡ false → eqb c 0x7A ≡ false
    → blocks_at end inner within (suc most) now (c ∷ bs) ≡ (inner now (c ∷ bs) >>= λ s. counting 1 (end - length (c ∷ bs)) s.1 (λ next. blocks_at end inner within most next s.2 >>= λ is. Ok (items.Ref s.0 ∷ is.0, is.1, is.2)))
unfolding blocks_at
blocks_ref end inner within most now c bs a b d = rw a (rw (and_none within) (rw b (rw d refl)))

-- a block of either form
blocks_short : (end : ℕ) (inner : Step Slot) (within : Bool) (most : ℕ) (now : Progress) (p b : List ℕ)
    → blocks_at end inner within (suc most) now (0x77 ∷ (length p ∷ (p ++ b))) ≡ (blocks_at end inner within most now b >>= λ is. Ok (items.Bytes p ∷ is.0, is.1, is.2))
unfolding blocks_at
blocks_short end inner true most now p b = rw (take_back p b) refl
blocks_short end inner false most now p b = rw (take_back p b) refl

blocks_long : (end : ℕ) (inner : Step Slot) (within : Bool) (most : ℕ) (now : Progress) (p b : List ℕ) → length p < 2 ^ 31
    → blocks_at end inner within (suc most) now (0x7A ∷ ((to_be_bytes w32 (length p) ++ p) ++ b)) ≡ (blocks_at end inner within most now b >>= λ is. Ok (items.Bytes p ∷ is.0, is.1, is.2))
unfolding blocks_at
blocks_long end inner true most now p b few = rw (size_back end w32 (2 ^ 31) (length p) ((to_be_bytes w32 (length p) ++ p) ++ b) (p ++ b) (number_back_32 (length p) ((to_be_bytes w32 (length p) ++ p) ++ b) (p ++ b) (omega arith) refl) few) (rw (take_back p b) refl)
blocks_long end inner false most now p b few = rw (size_back end w32 (2 ^ 31) (length p) ((to_be_bytes w32 (length p) ++ p) ++ b) (p ++ b) (number_back_32 (length p) ((to_be_bytes w32 (length p) ++ p) ++ b) (p ++ b) (omega arith) refl) few) (rw (take_back p b) refl)

block_reads : (end : ℕ) (inner : Step Slot) (within : Bool) (most : ℕ) (now : Progress) (p block bs b : List ℕ) → IsBlock p block → bs ≡ block ++ b
    → blocks_at end inner within (suc most) now bs ≡ (blocks_at end inner within most now b >>= λ is. Ok (items.Bytes p ∷ is.0, is.1, is.2))
block_reads end inner within most now p block bs b (inl (few, e)) h = ap (blocks_at end inner within (suc most) now) (h ∙ ap (λ (l : List ℕ). l ++ b) e) ∙ blocks_short end inner within most now p b
block_reads end inner within most now p block bs b (inr (few, e)) h = ap (blocks_at end inner within (suc most) now) (h ∙ ap (λ (l : List ℕ). l ++ b) e) ∙ blocks_long end inner within most now p b few

blocks_end : (F : List Node) (unread : List ℕ) (end : ℕ) (inner : Step Slot) (within : Bool) (most : ℕ) (now : Progress) (x rest : List ℕ) (m : ℕ) → Ends within x rest → m ≡ length now.nodes → Ready F unread now → Reads F unread now [] rest m (blocks_at end inner within (suc most) now x)
unfolding blocks_at
blocks_end F unread end inner true most now x rest m e len ready = rw e (reads_done F unread now [] rest m len ready)
blocks_end F unread end inner false most now x rest m e len ready = rw (e.0, e.1) (reads_done F unread now [] [] m len ready)

pub blocks_reads : (F : List Node) (S : Spelling) (inner : Slots) → IsComplete F S inner → AllBegin S → (unread : List ℕ) → Shrinks (S unread) → (end : ℕ) (within : Bool) (most : ℕ) (is : List Item) (now : Progress) (bs x rest : List ℕ) (m : ℕ) → length bs < most
    → SpellsBlocks (S unread) is (length now.nodes) bs x m → Ends within x rest → Ready F unread now → total F now + refs_in is ≤ 1048576 → ReadsBy (refs_in is) F unread now is rest m (blocks_at end (inner places.Reference unread) within most now bs)
unfolding item_wants
blocks_reads F S inner complete begin unread sh end within zero is now bs x rest m room h ends ready few = absurd (omega arith)
blocks_reads F S inner complete begin unread sh end within (suc most) [] now bs x rest m room h ends ready few =
    subst (λ (l : List ℕ). Reads F unread now [] rest m (blocks_at end (inner places.Reference unread) within (suc most) now l)) (sym h.0) (blocks_end F unread end (inner places.Reference unread) within most now x rest m ends h.1 ready)
blocks_reads F S inner complete begin unread sh end within (suc most) (items.Bytes p ∷ is) now bs x rest m room h ends ready few =
    let less = block_len p h.0 bs h.1 h.2 h.3 in
    let more = blocks_reads F S inner complete begin unread sh end within most is now h.1 x rest m (omega arith) h.4 ends ready few in
    let e = block_reads end (inner places.Reference unread) within most now p h.0 bs h.1 h.2 h.3 in
    rw e (reads_map F unread now (λ l. items.Bytes p ∷ l) is rest m (blocks_at end (inner places.Reference unread) within most now h.1) more)
blocks_reads F S inner complete begin unread sh end within (suc most) (items.Ref s ∷ is) now bs x rest m room h ends ready few =
    let less = sh (places.Reference, s) (length now.nodes) bs h.0 h.1 h.2 in
    let b = begin unread (places.Reference, s) (length now.nodes) bs h.0 h.1 h.2 in
    let first = (complete unread places.Reference s now bs h.0 h.1 h.2 ready).reads in
    let spelled : SpellsBlocks (S unread) is (length first.later.nodes) h.0 x m = subst (λ j. SpellsBlocks (S unread) is j h.0 x m) (sym first.len) h.3 in
    let step = first.after.sum in
    let room_one : total F first.later + 1 ≤ 1048576 = omega arith in
    let next = add_parts 1 first.later in
    let ready_next = ready_add F unread first.later 1 room_one first.after.ready in
    let more = blocks_reads F S inner complete begin unread sh end within most is next h.0 x rest m (omega arith) spelled ends ready_next (omega arith) in
    let at = end - length bs in
    let one : ReadsBy (suc (refs_in is)) F unread first.later (items.Ref s ∷ is) rest m (counting 1 at first.later (λ next. blocks_at end (inner places.Reference unread) within most next h.0 >>= λ is. Ok (items.Ref s ∷ is.0, is.1, is.2))) =
    reads_counting (suc (refs_in is)) 1 at (omega arith) F unread first.later (λ next. blocks_at end (inner places.Reference unread) within most next h.0 >>= λ is. Ok (items.Ref s ∷ is.0, is.1, is.2)) (items.Ref s ∷ is) rest m room_one first.after.ready
    (reads_map F unread next (λ l. items.Ref s ∷ l) is rest m (blocks_at end (inner places.Reference unread) within most next h.0) more) in
    let e : blocks_at end (inner places.Reference unread) within (suc most) now bs ≡ (inner places.Reference unread now bs >>= λ s. counting 1 (end - length bs) s.1 (λ next. blocks_at end (inner places.Reference unread) within most next s.2 >>= λ is. Ok (items.Ref s.0 ∷ is.0, is.1, is.2))) =
    subst (λ (l : List ℕ). blocks_at end (inner places.Reference unread) within (suc most) now l ≡ (inner places.Reference unread now l >>= λ s. counting 1 (end - length l) s.1 (λ next. blocks_at end (inner places.Reference unread) within most next s.2 >>= λ is. Ok (items.Ref s.0 ∷ is.0, is.1, is.2))))
    (sym b.is) (blocks_ref end (inner places.Reference unread) within most now b.code b.after b.not_end b.not_block b.not_long_block) in
    rw e (reads_sum (suc (refs_in is)) (omega arith) F unread now s h.0 h.1 (inner places.Reference unread now bs) _ (items.Ref s ∷ is) rest m first one)

pub items_reads : (F : List Node) (S : Spelling) (inner : Slots) → IsComplete F S inner → AllBegin S → (unread : List ℕ) → Shrinks (S unread) → (end : ℕ) (within : Bool) (is : List Item) (now : Progress) (bs x rest : List ℕ) (m : ℕ)
    → SpellsItems (S unread) is (length now.nodes) bs x m → Ends within x rest → Ready F unread now → total F now + refs_in is ≤ 1048576 → ReadsBy (refs_in is) F unread now is rest m (items_at end (inner places.Reference unread) within now bs)
unfolding items_at
items_reads F S inner complete begin unread sh end within is now bs x rest m h ends ready few =
    let refs : refs_in is ≡ refs_in h.0 = ap refs_in h.2 ∙ ap (λ (l : List Want). length l) (joined_wants h.0) in
    let read = reads_map F unread now joined h.0 rest m (blocks_at end (inner places.Reference unread) within (suc (length bs)) now bs)
    (blocks_reads F S inner complete begin unread sh end within (suc (length bs)) h.0 now bs x rest m (omega arith) h.1 ends ready (omega arith)) in
    subst (λ k. ReadsBy k F unread now is rest m (items_at end (inner places.Reference unread) within now bs)) (sym refs)
    (subst (λ (l : List Item). ReadsBy (refs_in h.0) F unread now l rest m (items_at end (inner places.Reference unread) within now bs)) (sym h.2) read)

-- ---- elements

truth_step : (F : List Node) (S : One) (unread : List ℕ) → StepReads F S unread (map_step is_true (plain byte_at)) (λ b. truth b ∷ []) (λ b. Unit {0})
truth_step F S unread true now bs rest m p h ready =
    let t = spells_one S (truth true) (length now.nodes) bs rest m h in
    let yes : is_true (suc t.0) ≡ true = rw (eqb-suc-zero t.0) refl in
    subst (λ (z : Bool). Reads F unread now z rest m (plain byte_at now bs >>= λ b. Ok (is_true b.0, b.1, b.2))) yes
    (reads_map F unread now is_true (suc t.0) rest m (plain byte_at now bs) (plain_reads F unread now byte_at (suc t.0) bs rest m (ap byte_at t.1) t.2 ready))
truth_step F S unread false now bs rest m p h ready =
    let t = spells_one S (truth false) (length now.nodes) bs rest m h in
    reads_map F unread now is_true 0 rest m (plain byte_at now bs) (plain_reads F unread now byte_at 0 bs rest m (ap byte_at t.0) t.1 ready)

byte_step : (F : List Node) (S : One) (unread : List ℕ) → StepReads F S unread (plain byte_at) (λ x. raw (x ∷ []) ∷ []) (λ x. x < 2 ^ 8)
byte_step F S unread x now bs rest m p h ready = let t = spells_one S (raw (x ∷ [])) (length now.nodes) bs rest m h in plain_reads F unread now byte_at x bs rest m (ap byte_at t.0) t.1 ready

step_16 : (F : List Node) (S : One) (unread : List ℕ) → StepReads F S unread (plain (number_at w16)) (λ x. number w16 x ∷ []) (λ x. x < 2 ^ 16)
step_16 F S unread x now bs rest m p h ready = let t = spells_one S (number w16 x) (length now.nodes) bs rest m h in plain_reads F unread now (number_at w16) x bs rest m (number_back_16 x bs rest p t.0) t.1 ready

step_32 : (F : List Node) (S : One) (unread : List ℕ) → StepReads F S unread (plain (number_at w32)) (λ x. number w32 x ∷ []) (λ x. x < 2 ^ 32)
step_32 F S unread x now bs rest m p h ready = let t = spells_one S (number w32 x) (length now.nodes) bs rest m h in plain_reads F unread now (number_at w32) x bs rest m (number_back_32 x bs rest p t.0) t.1 ready

step_64 : (F : List Node) (S : One) (unread : List ℕ) → StepReads F S unread (plain (number_at w64)) (λ x. number w64 x ∷ []) (λ x. x < 2 ^ 64)
step_64 F S unread x now bs rest m p h ready = let t = spells_one S (number w64 x) (length now.nodes) bs rest m h in plain_reads F unread now (number_at w64) x bs rest m (number_back_64 x bs rest p t.0) t.1 ready

-- a signed number, from one that is read
signed_step : (F : List Node) (S : One) (unread : List ℕ) (w : Width) (below : (z : ℤ) → FitsSigned w z → cast_unsigned w z < 2 ^ 64) (P : ℕ → Type 0) → ((z : ℤ) → FitsSigned w z → P (cast_unsigned w z)) → StepReads F S unread (plain (number_at w)) (λ x. number w x ∷ []) P
    → StepReads F S unread (map_step (λ k. cast_signed w k) (plain (number_at w))) (λ z. number w (cast_unsigned w z) ∷ []) (FitsSigned w)
signed_step F S unread w below P fits step z now bs rest m p h ready =
    let r = reads_map F unread now (λ k. cast_signed w k) (cast_unsigned w z) rest m (plain (number_at w) now bs) (step (cast_unsigned w z) now bs rest m (fits z p) h ready) in
    subst (λ (y : ℤ). Reads F unread now y rest m (plain (number_at w) now bs >>= λ k. Ok (cast_signed w k.0, k.1, k.2))) (signed w z p) r

slot_step : (F : List Node) (S : Spelling) (inner : Slots) → IsComplete F S inner → (unread : List ℕ) → StepReads F (S unread) unread (inner places.Reference unread) (λ s. reference s ∷ []) (λ s. Unit {0})
slot_step F S inner complete unread s now bs rest m p h ready = (complete unread places.Reference s now bs rest m (spells_one (S unread) (reference s) (length now.nodes) bs rest m h) ready).reads

-- elements of one kind
of_kind : {X : Type 0} (F : List Node) (S : One) (unread : List ℕ) (step : Step X) (f : X → Token) (P : X → Type 0) (kind : List X → Values) → StepReads F S unread step (λ x. f x ∷ []) P
    → (xs : List X) (now : Progress) (bs rest : List ℕ) (m : ℕ) → All P xs → SpellsAll S (map f xs) (length now.nodes) bs rest m → Ready F unread now → Reads F unread now (kind xs) rest m (map_step kind (many_at step (length xs)) now bs)
of_kind F S unread step f P kind one xs now bs rest m p h ready =
    reads_map F unread now kind xs rest m (many_at step (length xs) now bs)
    (many_reads F S unread step (λ x. f x ∷ []) P one xs now bs rest m p (subst (λ (ts : List Token). SpellsAll S ts (length now.nodes) bs rest m) (map_flat f xs) h) ready)

pub elements_reads : (F : List Node) (S : Spelling) (inner : Slots) → IsComplete F S inner → (unread : List ℕ) (code : TypeCode) (v : Values) (now : Progress) (bs rest : List ℕ) (m : ℕ) → ElementsOf (Some code) v → ElementsFit v
    → SpellsAll (S unread) (element_tokens v) (length now.nodes) bs rest m → Ready F unread now → Reads F unread now v rest m (elements_at (inner places.Reference unread) code (count_of v) now bs)
unfolding elements_at
elements_reads F S inner complete unread codes.Byte v now bs rest m (x, e) fits h ready = rw e (of_kind F (S unread) unread (plain byte_at) (λ x. raw (x ∷ [])) (λ x. x < 2 ^ 8) kinds.Bytes (byte_step F (S unread) unread) x now bs rest m (rw e at fits) (rw e at h) ready)
elements_reads F S inner complete unread codes.Char v now bs rest m (x, e) fits h ready = rw e (of_kind F (S unread) unread (plain (number_at w16)) (λ x. number w16 x) (λ x. x < 2 ^ 16) kinds.Chars (step_16 F (S unread) unread) x now bs rest m (rw e at fits) (rw e at h) ready)
elements_reads F S inner complete unread codes.Double v now bs rest m (x, e) fits h ready = rw e (of_kind F (S unread) unread (plain (number_at w64)) (λ x. number w64 x) (λ x. x < 2 ^ 64) kinds.Doubles (step_64 F (S unread) unread) x now bs rest m (rw e at fits) (rw e at h) ready)
elements_reads F S inner complete unread codes.Float v now bs rest m (x, e) fits h ready = rw e (of_kind F (S unread) unread (plain (number_at w32)) (λ x. number w32 x) (λ x. x < 2 ^ 32) kinds.Floats (step_32 F (S unread) unread) x now bs rest m (rw e at fits) (rw e at h) ready)
elements_reads F S inner complete unread codes.Int v now bs rest m (x, e) fits h ready =
    rw e (of_kind F (S unread) unread (map_step (λ k. cast_signed w32 k) (plain (number_at w32))) (λ z. number w32 (cast_unsigned w32 z)) (FitsSigned w32) kinds.Ints (signed_step F (S unread) unread w32 (λ z p. let b = below_32 z p in omega arith) (λ x. x < 2 ^ 32) below_32 (step_32 F (S unread) unread)) x now bs rest m (rw e at fits) (rw e at h) ready)
elements_reads F S inner complete unread codes.Long v now bs rest m (x, e) fits h ready =
    rw e (of_kind F (S unread) unread (map_step (λ k. cast_signed w64 k) (plain (number_at w64))) (λ z. number w64 (cast_unsigned w64 z)) (FitsSigned w64) kinds.Longs (signed_step F (S unread) unread w64 below_64 (λ x. x < 2 ^ 64) below_64 (step_64 F (S unread) unread)) x now bs rest m (rw e at fits) (rw e at h) ready)
elements_reads F S inner complete unread codes.Short v now bs rest m (x, e) fits h ready =
    rw e (of_kind F (S unread) unread (map_step (λ k. cast_signed w16 k) (plain (number_at w16))) (λ z. number w16 (cast_unsigned w16 z)) (FitsSigned w16) kinds.Shorts (signed_step F (S unread) unread w16 (λ z p. let b = below_16 z p in omega arith) (λ x. x < 2 ^ 16) below_16 (step_16 F (S unread) unread)) x now bs rest m (rw e at fits) (rw e at h) ready)
elements_reads F S inner complete unread codes.Boolean v now bs rest m (x, e) fits h ready = rw e (of_kind F (S unread) unread (map_step is_true (plain byte_at)) (λ x. truth x) (λ x. Unit {0}) kinds.Bools (truth_step F (S unread) unread) x now bs rest m (λ k d lt. tt) (rw e at h) ready)
elements_reads F S inner complete unread codes.Array v now bs rest m (x, e) fits h ready = rw e (of_kind F (S unread) unread (inner places.Reference unread) (λ s. reference s) (λ s. Unit {0}) kinds.Refs (slot_step F S inner complete unread) x now bs rest m (λ k d lt. tt) (rw e at h) ready)
elements_reads F S inner complete unread codes.Object v now bs rest m (x, e) fits h ready = rw e (of_kind F (S unread) unread (inner places.Reference unread) (λ s. reference s) (λ s. Unit {0}) kinds.Refs (slot_step F S inner complete unread) x now bs rest m (λ k d lt. tt) (rw e at h) ready)

-- ---- parts

pub parts_reads : (F : List Node) (S : Spelling) (inner : Slots) → IsComplete F S inner → AllBegin S → (unread : List ℕ) → Shrinks (S unread) → (end : ℕ) (rs : List Row) (ps : List Part) (now : Progress) (bs rest : List ℕ) (m : ℕ) → Fitted rs ps → All PartFits ps
    → SpellsAll (S unread) (part_tokens (writes rs) ps) (length now.nodes) bs rest m → Ready F unread now → total F now + notes_in ps ≤ 1048576 → ReadsBy (notes_in ps) F unread now ps rest m (parts_at end (inner places.Reference unread) rs now bs)
unfolding parts_at part_tokens note_at notes_in item_wants
parts_reads F S inner complete begin unread sh end [] [] now bs rest m fit p h ready few = rw h.0 (reads_done F unread now [] rest m h.1 ready)
parts_reads F S inner complete begin unread sh end ((fs, true) ∷ rs) (x ∷ ps) now bs rest m fit p h ready few =
    let s = spells_split (S unread) (map value_token x.values) (note x.note ∷ part_tokens (writes rs) ps) (length now.nodes) bs rest m h in
    let t = s.3 in
    let vs = values_reads F S inner complete unread fs x.values now bs s.0 s.1 fit.0 (p zero x (omega arith)).0 s.2 ready in
    let noted : SpellsItems (S unread) x.note (length vs.later.nodes) s.0 (0x78 ∷ t.0) t.1 = subst (λ j. SpellsItems (S unread) x.note j s.0 (0x78 ∷ t.0) t.1) (sym vs.len) t.2 in
    let sum = vs.after.sum in
    let is = items_reads F S inner complete begin unread sh end true x.note vs.later s.0 (0x78 ∷ t.0) t.0 t.1 noted refl vs.after.ready (omega arith) in
    let sum_two = is.after.sum in
    let more = parts_reads F S inner complete begin unread sh end rs ps is.later t.0 rest m fit.2 (all_rest PartFits x ps p) (moved (S unread) (part_tokens (writes rs) ps) (length is.later.nodes) t.1 t.0 rest m is.len t.3) is.after.ready (omega arith) in
    reads_sum {o = 0} {p = notes_in (x ∷ ps)} (notes_in (x ∷ ps)) (omega arith) F unread now x.values s.0 s.1 (values_at (inner places.Reference unread) fs now bs) _ (x ∷ ps) rest m vs
    (reads_sum {o = refs_in x.note} {p = notes_in ps} (notes_in (x ∷ ps)) refl F unread vs.later x.note t.0 t.1 (items_at end (inner places.Reference unread) true vs.later s.0) _ (x ∷ ps) rest m is
    (reads_map F unread is.later (λ l. x ∷ l) ps rest m (parts_at end (inner places.Reference unread) rs is.later t.0) more))
parts_reads F S inner complete begin unread sh end ((fs, false) ∷ rs) (x ∷ ps) now bs rest m fit p h ready few =
    let s = spells_split (S unread) (map value_token x.values) (part_tokens (writes rs) ps) (length now.nodes) bs rest m h in
    let vs = values_reads F S inner complete unread fs x.values now bs s.0 s.1 fit.0 (p zero x (omega arith)).0 s.2 ready in
    let sum = vs.after.sum in
    let none : refs_in x.note ≡ 0 = ap refs_in (fit.1 refl) in
    let more = parts_reads F S inner complete begin unread sh end rs ps vs.later s.0 rest m fit.2 (all_rest PartFits x ps p) (moved (S unread) (part_tokens (writes rs) ps) (length vs.later.nodes) s.1 s.0 rest m vs.len s.3) vs.after.ready (omega arith) in
    let same : part x.values [] ≡ x = ap (λ (is : List Item). part x.values is) (sym (fit.1 refl)) in
    reads_sum {o = 0} {p = notes_in ps} (notes_in (x ∷ ps)) (omega arith) F unread now x.values s.0 s.1 (values_at (inner places.Reference unread) fs now bs) _ (x ∷ ps) rest m vs
    (rw same (reads_map F unread vs.later (λ l. x ∷ l) ps rest m (parts_at end (inner places.Reference unread) rs vs.later s.0) more))
parts_reads F S inner complete begin unread sh end [] (x ∷ ps) now bs rest m fit p h ready few = absurd fit
parts_reads F S inner complete begin unread sh end (r ∷ rs) [] now bs rest m fit p h ready few = absurd fit
