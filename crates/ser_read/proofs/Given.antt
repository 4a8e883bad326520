-- What is spelled is read by lists of wants.
use Rattle.std.proofs.Common.{◌≡◌, ℕ, suc, ◌+◌, ◌-◌, ◌≤◌, ◌^◌, false, eqb, List, [], ◌∷◌, ◌++◌, length, Result, Ok, refl, sym, ap, subst, ◌∙◌, append_assoc, append-nil, arith, inl, inr}
use Rattle.std.proofs.Math.Dec.{eqb-suc-zero}
use Rattle.std.specs.Int.{w32, to_be_bytes}
use Rattle.class_desc.specs.declared.slot.Slot.{Slot}
use Rattle.class_desc.specs.declared.slot.Item.{Item}
use Rattle.class_desc.specs.declared.slot.Item.TheVariants as items
use Rattle.ser_values.specs.declared.node.Node.{Node}
use Rattle.ser_values.specs.declared.node.SlotPlace.TheVariants as places
use Rattle.ser_values.specs.Node as node
use Rattle.ser_values.specs.Node.{has, item_wants}
use Rattle.ser_values.specs.Shape.{refs_in, parts_in}
use Rattle.stream_grammar.specs.Spelled.{joined, One, IsBlock, Spells, SpellsBlocks, IsStream}
use Rattle.stream_grammar.specs.Reading.{◌>>=◌, Fault, Progress, add_parts, counting, slot_at, coded}
use Rattle.stream_grammar.proofs.Mirror.{total, Ready, AfterBy, after_none, after_sum, after_add, counting_is}
use Rattle.stream_grammar.proofs.Plains.{size_back, number_back_32}
use Rattle.stream_grammar.proofs.SameTokens.{spells_begin}
use Rattle.stream_grammar.proofs.OneReading.{same_list}
use Rattle.stream_grammar.proofs.Spelling.{joined_wants}
use Rattle.stream_grammar.proofs.Shrinks.{stream_few}
use Rattle.stream_grammar.proofs.Complete.{Given, slots_complete}
use Rattle.ser_read.specs.declared.block.Head.{Head}
use Rattle.ser_read.specs.declared.block.Head.TheVariants.{Block, Code}
use Rattle.ser_read.specs.Heads.{one_head, any_head, head_at}
use Rattle.ser_read.specs.Named.{add_bytes}
use Rattle.ser_read.specs.declared.serving.Want.{Want}
use Rattle.ser_read.specs.declared.serving.Want.TheVariants as wanted
use Rattle.ser_read.specs.Wants.{◌▸◌, lift_fault, Stand, nothing_read, opened_at, run_at, only_slot, reference_at, bytes_at, slot_next, close_at, want_at, serve, serve_to_close}
use Rattle.ser_read.specs.SpelledWants.{Fits, EndsFull, SpellsWants}
use Rattle.ser_read.proofs.Heads.{head_goes, head_stops}
use Rattle.ser_read.proofs.Slots.{slot_is}
use Rattle.ser_read.proofs.Empties.{Header}
use Rattle.ser_read.proofs.Runs.{Run}
use Rattle.ser_read.proofs.Flat.{Piece, a_byte, a_slot, bytes_of, flat, flat_by}
use Rattle.ser_read.proofs.SpelledWants.{serve_items}
use Rattle.ser_read.proofs.Behind.{blocks_front, spells_front}

-- ---- heads

pub header_of : (p block bs b : List ℕ) → IsBlock p block → bs ≡ block ++ b → Header (length p) bs (p ++ b)
header_of p block bs b (inl x) e = inl (x.0, e ∙ ap (λ (l : List ℕ). l ++ b) x.1)
header_of p block bs b (inr x) e = inr (x.0, e ∙ ap (λ (l : List ℕ). l ++ b) x.1 ∙ ap (λ (l : List ℕ). 0x7A ∷ l) (append_assoc (to_be_bytes w32 (length p)) p b))

block_back : (end k : ℕ) (bs rest : List ℕ) → Header k bs rest → any_head end bs ≡ Ok (Block k, rest)
unfolding any_head one_head
block_back end k bs rest (inl h) = rw h.1 refl
block_back end k bs rest (inr h) = let few = h.0 in rw h.1 (rw (size_back end w32 (2 ^ 31) k (to_be_bytes w32 k ++ rest) rest (number_back_32 k (to_be_bytes w32 k ++ rest) rest (omega arith) refl) h.0) refl)

empty_head : (end : ℕ) (bs b : List ℕ) → Header 0 bs b → head_at end bs ≡ head_at end b
empty_head end bs b h = head_goes end bs (Block 0) b (block_back end 0 bs b h) refl

full_head : (end k : ℕ) (bs b : List ℕ) → Header (suc k) bs b → head_at end bs ≡ Ok (Block (suc k), b)
full_head end k bs b h = head_stops end bs (Block (suc k)) b (block_back end (suc k) bs b h) refl

code_head : (end code : ℕ) (after : List ℕ) → eqb code 0x77 ≡ false → eqb code 0x7A ≡ false → head_at end (code ∷ after) ≡ Ok (Code code (end - length (code ∷ after)), after)
unfolding any_head one_head
code_head end code after a b = head_stops end (code ∷ after) (Code code (end - length (code ∷ after))) after (rw (a, b) refl) refl

-- ---- block data

abbrev pub cons : ℕ → Run → Run
cons c read = read ▸ λ r. Ok (c ∷ r.0, r.1, r.2)

pub run_skips : (end n : ℕ) (bs b : List ℕ) → Header 0 bs b → run_at end (suc n) 0 bs ≡ run_at end (suc n) 0 b
unfolding run_at opened_at
run_skips end n bs b h = rw (empty_head end bs b h) refl

run_goes : (end n k c : ℕ) (b : List ℕ) → run_at end (suc n) (suc k) (c ∷ b) ≡ cons c (run_at end n k b)
unfolding run_at opened_at
run_goes end n k c b = let less : suc k - 1 ≡ k = omega arith in let some : eqb (suc k) 0 ≡ false = eqb-suc-zero k in rw some (rw less refl)

pub run_begins : (end n k c : ℕ) (bs b : List ℕ) → Header (suc k) bs (c ∷ b) → run_at end (suc n) 0 bs ≡ cons c (run_at end n k b)
unfolding run_at opened_at
run_begins end n k c bs b h = let less : suc k - 1 ≡ k = omega arith in rw (full_head end k bs (c ∷ b) h) (rw less refl)

full_rest : (i : Item) (is : List Item) → EndsFull (i ∷ is) → EndsFull is
full_rest i [] h = tt
full_rest i (j ∷ is) h = h

record RunBack (S : One) (end : ℕ) (p : List ℕ) (k : ℕ) (bs : List ℕ) (n : ℕ) (rest : List ℕ) (m : ℕ) (tail : List Piece) : Type 0 where
  left : List ℕ
  mid : List ℕ
  blocks : List Item
  full : EndsFull blocks
  same : bytes_of left ++ flat blocks ≡ tail
  spelled : SpellsBlocks S blocks n mid rest m
  is : run_at end (length p) k bs ≡ Ok (p, length left, left ++ mid)

run_more : (S : One) (end : ℕ) (p : List ℕ) (k j : ℕ) (bs cs : List ℕ) (n : ℕ) (rest : List ℕ) (m : ℕ) (tail : List Piece) (c d : ℕ) → d ≡ c → run_at end (suc (length p)) k bs ≡ cons d (run_at end (length p) j cs) → RunBack S end p j cs n rest m tail → RunBack S end (c ∷ p) k bs n rest m tail
run_more S end p k j bs cs n rest m tail c d same e r = record {
  left = r.left;
  mid = r.mid;
  blocks = r.blocks;
  full = r.full;
  same = r.same;
  spelled = r.spelled;
  is = e ∙ ap (cons d) r.is ∙ ap (λ (c : ℕ). run_ok (c ∷ p, length r.left, r.left ++ r.mid)) same;
}
  where
    run_ok : List ℕ × ℕ × List ℕ → Run
    run_ok x = Ok x

byte_first : (d c : ℕ) (xs ys : List Piece) → a_byte d ∷ xs ≡ a_byte c ∷ ys → (d ≡ c) × (xs ≡ ys)
byte_first d c xs ys e = (cc, cc)

run_back : (S : One) (end n : ℕ) (rest : List ℕ) (m : ℕ) (tail : List Piece) (p front mid : List ℕ) (is : List Item) → SpellsBlocks S is n mid rest m → EndsFull is → bytes_of front ++ flat is ≡ bytes_of p ++ tail → RunBack S end p (length front) (front ++ mid) n rest m tail
unfolding run_at
run_back S end n rest m tail [] front mid is h full e = record { left = front; mid = mid; blocks = is; full = full; same = e; spelled = h; is = refl }
run_back S end n rest m tail (c ∷ p) (d ∷ front) mid is h full e =
    let s = byte_first d c (bytes_of front ++ flat is) (bytes_of p ++ tail) e in
    run_more S end p (suc (length front)) (length front) (d ∷ (front ++ mid)) (front ++ mid) n rest m tail c d s.0 (run_goes end (length p) (length front) d (front ++ mid)) (run_back S end n rest m tail p front mid is h full s.1)
run_back S end n rest m tail (c ∷ p) [] mid is h full e = go (λ front mid is h full e. run_back S end n rest m tail p front mid is h full e) is mid h full e
  where
    go : ((front mid : List ℕ) (is : List Item) → SpellsBlocks S is n mid rest m → EndsFull is → bytes_of front ++ flat is ≡ bytes_of p ++ tail → RunBack S end p (length front) (front ++ mid) n rest m tail)
        → (is : List Item) (mid : List ℕ) → SpellsBlocks S is n mid rest m → EndsFull is → flat is ≡ a_byte c ∷ (bytes_of p ++ tail) → RunBack S end (c ∷ p) 0 mid n rest m tail
    go rec [] mid h full e = absurd cc
    go rec (items.Ref s ∷ is) mid h full e = absurd cc
    go rec (items.Bytes [] ∷ is) mid h full e =
        let r = go rec is h.1 h.4 (full_rest (items.Bytes []) is full) e in
        record { left = r.left; mid = r.mid; blocks = r.blocks; full = r.full; same = r.same; spelled = r.spelled; is = run_skips end (length p) mid h.1 (header_of [] h.0 mid h.1 h.2 h.3) ∙ r.is }
    go rec (items.Bytes (d ∷ q) ∷ is) mid h full e =
        let s = byte_first d c (bytes_of q ++ flat is) (bytes_of p ++ tail) e in
        run_more S end p 0 (length q) mid (q ++ h.1) n rest m tail c d s.0 (run_begins end (length p) (length q) d mid (q ++ h.1) (header_of (d ∷ q) h.0 mid h.1 h.2 h.3)) (rec q h.1 is h.4 (full_rest (items.Bytes (d ∷ q)) is full) s.1)

-- ---- references

record RefBack (F : List Node) (end : ℕ) (now : Progress) (s : Slot) (bs rest : List ℕ) (m : ℕ) (tail : List Piece) : Type 0 where
  later : Progress
  mid : List ℕ
  blocks : List Item
  full : EndsFull blocks
  same : flat blocks ≡ tail
  spelled : SpellsBlocks (Spells F 200 []) blocks (length later.nodes) mid rest m
  is : reference_at end now bs ≡ Ok (s, later, mid)
  after : AfterBy 1 F [] now later

slot_first : (s t : Slot) (xs ys : List Piece) → a_slot s ∷ xs ≡ a_slot t ∷ ys → (s ≡ t) × (xs ≡ ys)
slot_first s t xs ys e = (cc, cc)

reference_back : (F : List Node) → Given F → (end : ℕ) (now : Progress) (s : Slot) (rest : List ℕ) (m : ℕ) (tail : List Piece) (is : List Item) (bs : List ℕ) → SpellsBlocks (Spells F 200 []) is (length now.nodes) bs rest m → EndsFull is → flat is ≡ a_slot s ∷ tail → Ready F [] now → total F now + 1 ≤ 1048576 → RefBack F end now s bs rest m tail
unfolding reference_at
reference_back F given end now s rest m tail [] bs h full e ready room = absurd cc
reference_back F given end now s rest m tail (items.Bytes (b ∷ p) ∷ is) bs h full e ready room = absurd cc
reference_back F given end now s rest m tail (items.Bytes [] ∷ is) bs h full e ready room =
    let r = reference_back F given end now s rest m tail is h.1 h.4 (full_rest (items.Bytes []) is full) e ready room in
    record { later = r.later; mid = r.mid; blocks = r.blocks; full = r.full; same = r.same; spelled = r.spelled; is = ap (λ (x : Result (Head × List ℕ) Fault). lift_fault x ▸ only_slot end now) (empty_head end bs h.1 (header_of [] h.0 bs h.1 h.2 h.3)) ∙ r.is; after = r.after }
reference_back F given end now s rest m tail (items.Ref t ∷ is) bs h full e ready room =
    let same = slot_first t s (flat is) tail e in
    let b = spells_begin F 200 [] (places.Reference, t) (length now.nodes) bs h.0 h.1 h.2 in
    let r = (slots_complete F given end 200 [] places.Reference t now bs h.0 h.1 h.2 ready).reads in
    let code_at : slot_at end 200 places.Reference [] now (b.code ∷ b.after) ≡ coded end 200 (slot_at end 199) places.Reference [] (end - length (b.code ∷ b.after)) b.code now b.after = slot_is end 200 places.Reference [] now (b.code ∷ b.after) in
    let read : slot_at end 200 places.Reference [] now (b.code ∷ b.after) ≡ Ok (t, r.later, h.0) = ap (slot_at end 200 places.Reference [] now) (sym b.is) ∙ r.is in
    let sum = r.after.sum in
    let one : total F r.later + 1 ≤ 1048576 = omega arith in
    let next = add_parts 1 r.later in
    let at = end - length (b.code ∷ b.after) in
    let whole : (lift_fault (head_at end (b.code ∷ b.after)) ▸ only_slot end now) ≡ Ok (t, next, h.0) =
    ap (λ (x : Result (Head × List ℕ) Fault). lift_fault x ▸ only_slot end now) (code_head end b.code b.after b.not_block b.not_long_block) ∙ (ap (λ (x : Result (Slot × Progress × List ℕ) Fault). lift_fault (x >>= λ s. counting 1 at s.1 (λ later. Ok (s.0, later, s.2)))) (sym code_at ∙ read)
    ∙ ap (λ (x : Result (Slot × Progress × List ℕ) Fault). lift_fault x) (counting_is F 1 at r.later (λ later. Ok (t, later, h.0)) one)) in
    record {
      later = next;
      mid = h.0;
      blocks = is;
      full = full_rest (items.Ref t) is full;
      same = same.1;
      spelled = subst (λ j. SpellsBlocks (Spells F 200 []) is j h.0 rest m) (sym r.len) h.3;
      is = ap (λ (l : List ℕ). lift_fault (head_at end l) ▸ only_slot end now) b.is ∙ whole ∙ ap (λ (s : Slot). Ok (s, next, h.0)) same.0;
      after = after_sum 1 (omega arith) F [] now r.later next r.after (after_add F [] r.later 1 one r.after.ready);
    }

-- ---- wants, one after the other

record ServeBack (F : List Node) (end : ℕ) (ws : List Want) (s : Stand) (answers : List Item) (bs rest : List ℕ) (m : ℕ) : Type 0 where
  last : Stand
  is : serve end ws s bs ≡ Ok (answers, last, rest)
  closed : last.block ≡ 0
  len : length last.progress.nodes ≡ m
  after : AfterBy (refs_in answers) F [] s.progress last.progress

none_left : (is : List Item) → EndsFull is → flat is ≡ [] → is ≡ []
none_left [] full e = refl
none_left (items.Ref s ∷ is) full e = absurd cc
none_left (items.Bytes (b ∷ p) ∷ is) full e = absurd cc
none_left (items.Bytes [] ∷ []) full e = absurd full
none_left (items.Bytes [] ∷ j ∷ is) full e = absurd (let none = none_left (j ∷ is) full e in cc)

serve_back : (F : List Node) → Given F → (end : ℕ) (rest : List ℕ) (m : ℕ) (ws : List Want) (answers : List Item) (s : Stand) (front mid : List ℕ) (is : List Item) → Fits ws answers → s.block ≡ length front → SpellsBlocks (Spells F 200 []) is (length s.progress.nodes) mid rest m → EndsFull is
    → bytes_of front ++ flat is ≡ flat answers → Ready F [] s.progress → total F s.progress + refs_in answers ≤ 1048576 → ServeBack F end ws s answers (front ++ mid) rest m
unfolding serve want_at bytes_at slot_next item_wants
serve_back F given end rest m [] (i ∷ is) s front mid bl fits k h full e ready few = absurd fits
serve_back F given end rest m (wanted.Bytes n ∷ ws) [] s front mid bl fits k h full e ready few = absurd fits
serve_back F given end rest m (wanted.Bytes n ∷ ws) (items.Ref t ∷ is) s front mid bl fits k h full e ready few = absurd fits
serve_back F given end rest m (wanted.Slot ∷ ws) [] s front mid bl fits k h full e ready few = absurd fits
serve_back F given end rest m (wanted.Slot ∷ ws) (items.Bytes p ∷ is) s front mid bl fits k h full e ready few = absurd fits
serve_back F given end rest m [] [] s (b ∷ front) mid bl fits k h full e ready few = absurd cc
serve_back F given end rest m [] [] s [] mid bl fits k h full e ready few =
    let none = none_left bl full e in
    let g : SpellsBlocks (Spells F 200 []) [] (length s.progress.nodes) mid rest m = subst (λ (l : List Item). SpellsBlocks (Spells F 200 []) l (length s.progress.nodes) mid rest m) none h in
    record { last = s; is = ap (λ (r : List ℕ). Ok ([], s, r)) g.0; closed = k; len = sym g.1; after = after_none F [] s.progress ready }
serve_back F given end rest m (wanted.Bytes n ∷ ws) (items.Bytes p ∷ is) s front mid bl fits k h full e ready few =
    let r = run_back (Spells F 200 []) end (length s.progress.nodes) rest m (flat is) p front mid bl h full e in
    let now : Stand = record { progress = s.progress; items = add_bytes s.items p; block = length r.left } in
    let more = serve_back F given end rest m ws is now r.left r.mid r.blocks fits.1 refl r.spelled r.full r.same ready few in
    let run : run_at end n s.block (front ++ mid) ≡ Ok (p, length r.left, r.left ++ r.mid) = ap (λ j. run_at end j s.block (front ++ mid)) (sym fits.0) ∙ ap (λ j. run_at end (length p) j (front ++ mid)) k ∙ r.is in
    record { last = more.last; is = rw run (rw more.is refl); closed = more.closed; len = more.len; after = more.after }
serve_back F given end rest m (wanted.Slot ∷ ws) (items.Ref t ∷ is) s (b ∷ front) mid bl fits k h full e ready few = absurd cc
serve_back F given end rest m (wanted.Slot ∷ ws) (items.Ref t ∷ is) s [] mid bl fits k h full e ready few =
    let r = reference_back F given end s.progress t rest m (flat is) bl mid h full e ready (omega arith) in
    let sum = r.after.sum in
    let now : Stand = record { progress = r.later; items = s.items ++ items.Ref t ∷ []; block = 0 } in
    let more = serve_back F given end rest m ws is now [] r.mid r.blocks fits refl r.spelled r.full r.same r.after.ready (omega arith) in
    record { last = more.last; is = rw k (rw r.is (rw more.is refl)); closed = more.closed; len = more.len; after = after_sum (refs_in (items.Ref t ∷ is)) (omega arith) F [] s.progress r.later more.last.progress r.after more.after }

-- ---- the law, in the other direction

pub asked_stream : (ws : List Want) (answers : List Item) (F : List Node) (bs : List ℕ) → SpellsWants ws answers F bs → IsStream F (joined answers) (0xAC ∷ 0xED ∷ 0x00 ∷ 0x05 ∷ bs)
asked_stream ws answers F bs h = let limit = h.few_parts in let refs = ap (λ (l : List node.Want). length l) (joined_wants answers) in record { contents = bs; headed = refl; spelled = (h.blocks, h.spelled, h.same); numbers = h.numbers; units = h.units; few_parts = omega arith; are_bytes = (omega arith, (omega arith, (omega arith, (omega arith, h.are_bytes)))) }

given_of : (ws : List Want) (answers : List Item) (F : List Node) (bs : List ℕ) → SpellsWants ws answers F bs → Given F
given_of ws answers F bs h = let limit = h.few_parts in record { few = stream_few F (joined answers) (0xAC ∷ 0xED ∷ 0x00 ∷ 0x05 ∷ bs) (asked_stream ws answers F bs h); parts = omega arith; numbers = h.numbers; units = h.units }

-- What is spelled is what the list of wants answers, whatever stands behind it.
pub asked_complete : (end : ℕ) (ws : List Want) (answers : List Item) (F : List Node) (bs rest : List ℕ) → SpellsWants ws answers F bs → serve_to_close end ws nothing_read (bs ++ rest) ≡ Ok (answers, F, joined answers, rest)
unfolding serve_to_close close_at has parts_in
asked_complete end ws answers F bs rest h =
    let given = given_of ws answers F bs h in
    let limit = h.few_parts in
    let f = blocks_front (Spells F 200 []) (spells_front F 200 []) h.blocks 0 bs [] (length F) h.spelled in
    let front : f.front ≡ bs = sym (f.is ∙ append-nil f.front) in
    let spelled : SpellsBlocks (Spells F 200 []) h.blocks 0 (bs ++ rest) rest (length F) = subst (λ (l : List ℕ). SpellsBlocks (Spells F 200 []) h.blocks 0 (l ++ rest) rest (length F)) front (f.other rest) in
    let ready : Ready F [] (record { nodes = []; parts = 0 }) = record { few = omega arith; below = λ k e. absurd cc; known = λ k i lt e is d. absurd (omega arith); texts = λ k i lt is t. absurd (omega arith) } in
    let r = serve_back F given end rest (length F) ws answers nothing_read [] (bs ++ rest) h.blocks h.fits refl spelled h.full (sym (flat_by answers h.blocks h.same)) ready (omega arith) in
    let nodes : F ≡ r.last.progress.nodes = same_list F r.last.progress.nodes (sym r.len) (λ k lt. r.after.agrees k (omega arith) (let e : length r.last.progress.nodes ≡ length F = r.len in omega arith)) in
    let its : r.last.items ≡ joined answers = serve_items end ws nothing_read (bs ++ rest) (answers, r.last, rest) r.is [] refl in
    rw r.is (rw r.closed (rw (sym nodes, its) refl))
