-- What lists of wants read is spelled.
use Rattle.std.proofs.Common.{◌≡◌, ℕ, zero, suc, ◌-◌, ◌<◌, true, eqb, List, [], ◌∷◌, ◌++◌, length, Result, Ok, refl, sym, ap, subst, ◌∙◌, append_assoc, append-nil, arith, inl, inr}
use Rattle.std.proofs.lemmas.Bool.{eqb-true}
use Rattle.std.specs.Int.{w32, to_be_bytes}
use Rattle.class_desc.specs.declared.slot.Slot.{Slot}
use Rattle.class_desc.specs.declared.slot.Item.{Item}
use Rattle.class_desc.specs.declared.slot.Item.TheVariants as items
use Rattle.ser_values.specs.declared.node.Node.{Node}
use Rattle.ser_values.specs.Node.{has, item_wants}
use Rattle.ser_values.specs.Shape.{refs_in, parts_in}
use Rattle.stream_grammar.specs.Spelled.{joined, One, IsBlock, Spells, SpellsBlocks}
use Rattle.stream_grammar.specs.Reading.{Progress, byte_at}
use Rattle.std.proofs.lemmas.List.Elements.{All-nil}
use Rattle.ser_values.specs.Ranges.{InRange}
use Rattle.ser_values.proofs.Ranged.{numbers_of, units_of}
use Rattle.stream_grammar.specs.Faults as faults
use Rattle.stream_grammar.proofs.PlainSound.{AreBytes, chosen, byte_sound}
use Rattle.stream_grammar.proofs.Solid.{Solid, GotBy, got_none, got_map, got_sum}
use Rattle.ser_read.specs.declared.block.Head.{Head}
use Rattle.ser_read.specs.declared.block.Head.TheVariants.{Block, Code}
use Rattle.ser_read.specs.Heads.{head_at}
use Rattle.ser_read.specs.Named.{add_bytes, added}
use Rattle.ser_read.specs.declared.serving.Want.{Want}
use Rattle.ser_read.specs.declared.serving.Want.TheVariants as wanted
use Rattle.ser_read.specs.Wants.{WantFault, ◌▸◌, lift_fault, Stand, nothing_read, only_block, opened_at, run_at, reference_at, bytes_at, slot_next, close_at, want_at, serve, serve_to_close}
use Rattle.ser_read.specs.SpelledWants.{Fits, IsSome, EndsFull, SpellsWants}
use Rattle.ser_read.proofs.Behind.{blocks_front, spells_front}
use Rattle.ser_read.proofs.Joins.{added_is}
use Rattle.ser_read.proofs.Runs.{opened_here, opened_some}
use Rattle.ser_read.proofs.Empties.{Header, Empties, found}
use Rattle.ser_read.proofs.Served.{want_ok, lifted_ok, given_is, reference_sound}
use Rattle.ser_read.proofs.Flat.{Piece, a_byte, a_slot, bytes_of, flat, joined_by}

-- ---- empty blocks in front

abbrev pub empties : ℕ → List Item → List Item
empties zero is = is
empties (suc e) is = items.Bytes [] ∷ empties e is

-- a header and as many bytes
pub block_is : (p bs rest : List ℕ) → Header (length p) bs (p ++ rest) → (block : List ℕ) × IsBlock p block × (bs ≡ block ++ rest)
block_is p bs rest (inl h) = (0x77 ∷ length p ∷ p, inl (h.0, refl), h.1)
block_is p bs rest (inr h) = (0x7A ∷ (to_be_bytes w32 (length p) ++ p), inr (h.0, refl), h.1 ∙ ap (λ (l : List ℕ). 0x7A ∷ l) (sym (append_assoc (to_be_bytes w32 (length p)) p rest)))

spells_block : (S : One) (p bs b : List ℕ) (is : List Item) (n : ℕ) (rest : List ℕ) (m : ℕ) → Header (length p) bs (p ++ b) → SpellsBlocks S is n b rest m → SpellsBlocks S (items.Bytes p ∷ is) n bs rest m
spells_block S p bs b is n rest m h more = let x = block_is p bs b h in (x.0, b, x.1, x.2, more)

spells_empties : (S : One) (e : ℕ) (bs mid : List ℕ) (is : List Item) (n : ℕ) (rest : List ℕ) (m : ℕ) → Empties e bs mid → SpellsBlocks S is n mid rest m → SpellsBlocks S (empties e is) n bs rest m
spells_empties S zero bs mid is n rest m h more = subst (λ (l : List ℕ). SpellsBlocks S is n l rest m) (sym h) more
spells_empties S (suc e) bs mid is n rest m h more = spells_block S [] bs h.0 (empties e is) n rest m h.1 (spells_empties S e h.0 mid is n rest m h.2 more)

flat_empties : (e : ℕ) (is : List Item) → flat (empties e is) ≡ flat is
flat_empties zero is = refl
flat_empties (suc e) is = flat_empties e is

full_before : (i : Item) (is : List Item) → IsSome i → EndsFull is → EndsFull (i ∷ is)
full_before i [] some full = some
full_before i (j ∷ is) some full = full

full_empties : (e : ℕ) (i : Item) (is : List Item) → EndsFull (i ∷ is) → EndsFull (empties e (i ∷ is))
full_empties zero i is full = full
full_empties (suc zero) i is full = full
full_empties (suc (suc e)) i is full = full_empties (suc e) i is full

-- ---- block data

-- what stands before some bytes of the present block, blocks and references
record Before (k : ℕ) (bs p front b : List ℕ) (is : List Item) : Type 1 where
  left : List ℕ
  len : length left ≡ k
  mid : List ℕ
  parts : bs ≡ left ++ mid
  blocks : List Item
  full : EndsFull blocks
  same : bytes_of left ++ flat blocks ≡ bytes_of p ++ (bytes_of front ++ flat is)
  spelled : (S : One) (n : ℕ) (rest : List ℕ) (m : ℕ) → SpellsBlocks S is n b rest m → SpellsBlocks S blocks n mid rest m

record RunSound (k : ℕ) (bs p : List ℕ) (k2 : ℕ) (b2 : List ℕ) : Type 1 where
  bytes : AreBytes b2
  back : (front b : List ℕ) (is : List Item) → length front ≡ k2 → b2 ≡ front ++ b → EndsFull is → Before k bs p front b is

abbrev pub RunOk : Type 0
RunOk = List ℕ × ℕ × List ℕ

abbrev SoundAs : ℕ → List ℕ → RunOk → Type 1
SoundAs k bs y = RunSound k bs y.0 y.1 y.2

-- a byte more
byte_before : (k : ℕ) (bs : List ℕ) (c : ℕ) (rest : List ℕ) (y : RunOk) → bs ≡ c ∷ rest → SoundAs k rest y → RunSound (suc k) bs (c ∷ y.0) y.1 y.2
byte_before k bs c rest y e h = record {
  bytes = h.bytes;
  back = λ front b is len parts full. (let w = h.back front b is len parts full in
      record {
        left = c ∷ w.left;
        len = ap suc w.len;
        mid = w.mid;
        parts = e ∙ ap (λ (l : List ℕ). c ∷ l) w.parts;
        blocks = w.blocks;
        full = w.full;
        same = ap (λ (l : List Piece). a_byte c ∷ l) w.same;
        spelled = w.spelled;
      });
}

-- a block that is opened for its first byte
opened_before : (e : ℕ) (bs mid : List ℕ) (k : ℕ) (c : ℕ) (rest : List ℕ) (y : RunOk) → Empties e bs mid → Header (suc k) mid (c ∷ rest) → SoundAs k rest y → RunSound 0 bs (c ∷ y.0) y.1 y.2
opened_before e bs mid k c rest y em head h = record {
  bytes = h.bytes;
  back = λ front b is len parts full. (let w = h.back front b is len parts full in
      let one : suc k ≡ length (c ∷ w.left) = ap suc (sym w.len) in
      let whole : Header (length (c ∷ w.left)) mid ((c ∷ w.left) ++ w.mid) = subst (λ j. Header j mid ((c ∷ w.left) ++ w.mid)) one (subst (λ (l : List ℕ). Header (suc k) mid (c ∷ l)) w.parts head) in
      record {
        left = [];
        len = refl;
        mid = bs;
        parts = refl;
        blocks = empties e (items.Bytes (c ∷ w.left) ∷ w.blocks);
        full = full_empties e (items.Bytes (c ∷ w.left)) w.blocks (full_before (items.Bytes (c ∷ w.left)) w.blocks tt w.full);
        same = flat_empties e (items.Bytes (c ∷ w.left) ∷ w.blocks) ∙ ap (λ (l : List Piece). a_byte c ∷ l) w.same;
        spelled = λ S n r m g. spells_empties S e bs mid (items.Bytes (c ∷ w.left) ∷ w.blocks) n r m em (spells_block S (c ∷ w.left) mid w.mid w.blocks n r m whole (w.spelled S n r m g));
      });
}

abbrev pub more_of : ℕ → ℕ → ℕ × List ℕ → Result RunOk WantFault
more_of end n o = lift_fault (byte_at o.1) ▸ λ b. run_at end n (o.0 - 1) b.1 ▸ λ r. Ok (b.0 ∷ r.0, r.1, r.2)

run_sound : (end n k : ℕ) (bs : List ℕ) (y : RunOk) → run_at end n k bs ≡ Ok y → AreBytes bs → SoundAs k bs y
unfolding run_at opened_at
run_sound end zero k bs y e bytes = subst (SoundAs k bs) (given_is ([], k, bs) y e) (record {
  bytes = bytes;
  back = λ front b is len parts full. record { left = front; len = len; mid = b; parts = parts; blocks = is; full = full; same = refl; spelled = λ S n r m g. g };
})
run_sound end (suc n) k bs y e bytes =
    let o = want_ok (opened_at end k bs) (more_of end n) y e in
    let c = lifted_ok (byte_at o.0.1) (λ b. run_at end n (o.0.0 - 1) b.1 ▸ λ r. Ok (b.0 ∷ r.0, r.1, r.2)) y o.2 in
    let r = want_ok (run_at end n (o.0.0 - 1) c.0.1) (λ r. Ok (c.0.0 ∷ r.0, r.1, r.2)) y c.2 in
    subst (SoundAs k bs) (given_is (c.0.0 ∷ r.0.0, r.0.1, r.0.2) y r.2) (go k o.0 o.1 c.0 c.1 r.0 (λ left. run_sound end n (o.0.0 - 1) c.0.1 r.0 r.1 left))
  where
    found_block : (o : ℕ × List ℕ) → (lift_fault (head_at end bs) ▸ only_block) ≡ Ok o → head_at end bs ≡ Ok (Block o.0, o.1)
    found_block o h =
        let a = lifted_ok (head_at end bs) only_block o h in
        by a.0 a.1 a.2
      where
        by : (x : Head × List ℕ) → head_at end bs ≡ Ok x → only_block x ≡ Ok o → head_at end bs ≡ Ok (Block o.0, o.1)
        by (Block j, rest) is h = let s : (j, rest) ≡ o = given_is (j, rest) o h in is ∙ ap (λ (x : ℕ × List ℕ). Ok (Block x.0, x.1)) s
        by (Code code at, rest) is h = absurd cc

    go : (k : ℕ) (o : ℕ × List ℕ) → opened_at end k bs ≡ Ok o → (c : ℕ × List ℕ) → byte_at o.1 ≡ Ok c → (r : RunOk) → (AreBytes c.1 → SoundAs (o.0 - 1) c.1 r) → SoundAs k bs (c.0 ∷ r.0, r.1, r.2)
    go (suc j) o is c read r rec =
        let same : (suc j, bs) ≡ o = given_is (suc j, bs) o (sym (opened_here end (suc j) bs (omega arith)) ∙ is) in
        let begins : bs ≡ c.0 ∷ c.1 = ap (λ (x : ℕ × List ℕ). x.1) same ∙ byte_sound o.1 c read in
        let left : AreBytes c.1 = (subst AreBytes begins bytes).1 in
        let less : o.0 - 1 ≡ j = let s : suc j ≡ o.0 = ap (λ (x : ℕ × List ℕ). x.0) same in omega arith in
        byte_before j bs c.0 c.1 r begins (subst (λ i. SoundAs i c.1 r) less (rec left))
    go zero o is c read r rec =
        let f = found end (suc (length bs)) bs (Block o.0, o.1) (found_block o is) bytes in
        let some : 0 < o.0 = opened_some end 0 bs o.0 o.1 is in
        let begins : o.1 ≡ c.0 ∷ c.1 = byte_sound o.1 c read in
        let left : AreBytes c.1 = (subst AreBytes begins f.left).1 in
        let more : o.0 ≡ suc (o.0 - 1) = omega arith in
        opened_before f.count bs f.mid (o.0 - 1) c.0 c.1 r f.empties (subst (λ j. Header j f.mid (c.0 ∷ c.1)) more (subst (λ (l : List ℕ). Header o.0 f.mid l) begins f.is)) (rec left)

-- ---- wants, one after the other

pub record Spelt (s s2 : Stand) (bs rest : List ℕ) (answers : List Item) : Type 0 where
  left : List ℕ
  len : length left ≡ s.block
  mid : List ℕ
  parts : bs ≡ left ++ mid
  blocks : List Item
  full : EndsFull blocks
  same : bytes_of left ++ flat blocks ≡ flat answers
  got : GotBy (refs_in answers) [] s.progress s2.progress rest (λ F. SpellsBlocks (Spells F 200 []) blocks (length s.progress.nodes) mid rest (length s2.progress.nodes))

abbrev pub ServeOk : Type 0
ServeOk = List Item × Stand × List ℕ

pub serve_sound : (end : ℕ) (ws : List Want) (s : Stand) (bs : List ℕ) (y : ServeOk) → serve end ws s bs ≡ Ok y → y.1.block ≡ 0 → Solid [] s.progress → AreBytes bs → Spelt s y.1 bs y.2 y.0
unfolding serve want_at bytes_at slot_next item_wants
serve_sound end [] s bs y e closed solid bytes =
    let same : ([], s, bs) ≡ y = given_is ([], s, bs) y e in
    let none : s.block ≡ 0 = ap (λ (x : ServeOk). x.1.block) same ∙ closed in
    subst (λ (y : ServeOk). Spelt s y.1 bs y.2 y.0) same (record { left = []; len = sym none; mid = bs; parts = refl; blocks = []; full = tt; same = refl; got = got_none [] s.progress bs _ solid bytes (λ F sees. (refl, refl)) })
serve_sound end (wanted.Bytes n ∷ ws) s bs y e closed solid bytes =
    let a = want_ok (want_at end (wanted.Bytes n) s bs) (λ x. serve end ws x.1 x.2 ▸ λ xs. Ok (x.0 ∷ xs.0, xs.1, xs.2)) y e in
    let b = want_ok (serve end ws a.0.1 a.0.2) (λ xs. Ok (a.0.0 ∷ xs.0, xs.1, xs.2)) y a.2 in
    let d = want_ok (bytes_at end n s bs) (λ x. Ok (items.Bytes x.0, x.1, x.2)) a.0 a.1 in
    let r = want_ok (run_at end n s.block bs) (λ r. Ok (r.0, record { progress = s.progress; items = add_bytes s.items r.0; block = r.1 }, r.2)) d.0 d.1 in
    let now : Stand = record { progress = s.progress; items = add_bytes s.items r.0.0; block = r.0.1 } in
    let one : (r.0.0, now, r.0.2) ≡ d.0 = given_is (r.0.0, now, r.0.2) d.0 r.2 in
    let two : (items.Bytes r.0.0, now, r.0.2) ≡ a.0 = ap (λ (x : List ℕ × Stand × List ℕ). (items.Bytes x.0, x.1, x.2)) one ∙ given_is (items.Bytes d.0.0, d.0.1, d.0.2) a.0 d.2 in
    let last : (a.0.0 ∷ b.0.0, b.0.1, b.0.2) ≡ y = given_is (a.0.0 ∷ b.0.0, b.0.1, b.0.2) y b.2 in
    let run = run_sound end n s.block bs r.0 r.1 bytes in
    let more : serve end ws now r.0.2 ≡ Ok b.0 = ap (λ (x : Item × Stand × List ℕ). serve end ws x.1 x.2) two ∙ b.1 in
    let h = serve_sound end ws now r.0.2 b.0 more (ap (λ (x : ServeOk). x.1.block) last ∙ closed) solid run.bytes in
    let w = run.back h.left h.mid h.blocks h.len h.parts h.full in
    let mine : Spelt s b.0.1 bs b.0.2 (items.Bytes r.0.0 ∷ b.0.0) = record {
      left = w.left;
      len = w.len;
      mid = w.mid;
      parts = w.parts;
      blocks = w.blocks;
      full = w.full;
      same = w.same ∙ ap (λ (l : List Piece). bytes_of r.0.0 ++ l) h.same;
      got = got_map [] s.progress b.0.1.progress b.0.2 _ _ h.got (λ F sees g. w.spelled (Spells F 200 []) (length s.progress.nodes) b.0.2 (length b.0.1.progress.nodes) g);
    } in
    subst (λ (y : ServeOk). Spelt s y.1 bs y.2 y.0) last (subst (λ (i : Item). Spelt s b.0.1 bs b.0.2 (i ∷ b.0.0)) (ap (λ (x : Item × Stand × List ℕ). x.0) two) mine)
serve_sound end (wanted.Slot ∷ ws) s bs y e closed solid bytes =
    let a = want_ok (want_at end wanted.Slot s bs) (λ x. serve end ws x.1 x.2 ▸ λ xs. Ok (x.0 ∷ xs.0, xs.1, xs.2)) y e in
    let b = want_ok (serve end ws a.0.1 a.0.2) (λ xs. Ok (a.0.0 ∷ xs.0, xs.1, xs.2)) y a.2 in
    let d = want_ok (slot_next end s bs) (λ x. Ok (items.Ref x.0, x.1, x.2)) a.0 a.1 in
    let last : (a.0.0 ∷ b.0.0, b.0.1, b.0.2) ≡ y = given_is (a.0.0 ∷ b.0.0, b.0.1, b.0.2) y b.2 in
    elim (chosen (eqb s.block 0) _ _ _ d.1) [
      | inr p ↦ absurd (let f = p.1 in cc)
      | inl p ↦ (
          let r = want_ok (reference_at end s.progress bs) _ d.0 p.1 in
          let now : Stand = record { progress = r.0.1; items = s.items ++ items.Ref r.0.0 ∷ []; block = 0 } in
          let one : (r.0.0, now, r.0.2) ≡ d.0 = given_is (r.0.0, now, r.0.2) d.0 r.2 in
          let two : (items.Ref r.0.0, now, r.0.2) ≡ a.0 = ap (λ (x : Slot × Stand × List ℕ). (items.Ref x.0, x.1, x.2)) one ∙ given_is (items.Ref d.0.0, d.0.1, d.0.2) a.0 d.2 in
          let ref = reference_sound end s.progress bs r.0 r.1 solid bytes in
          let more : serve end ws now r.0.2 ≡ Ok b.0 = ap (λ (x : Item × Stand × List ℕ). serve end ws x.1 x.2) two ∙ b.1 in
          let h = serve_sound end ws now r.0.2 b.0 more (ap (λ (x : ServeOk). x.1.block) last ∙ closed) ref.got.solid ref.got.left in
          let none : h.left ≡ [] = nil_of h.left h.len in
          let mid : r.0.2 ≡ h.mid = h.parts ∙ ap (λ (l : List ℕ). l ++ h.mid) none in
          let same : flat h.blocks ≡ flat b.0.0 = ap (λ (l : List ℕ). bytes_of l ++ flat h.blocks) (sym none) ∙ h.same in
          let mine : Spelt s b.0.1 bs b.0.2 (items.Ref r.0.0 ∷ b.0.0) = record {
            left = [];
            len = sym (eqb_zero s.block p.0);
            mid = bs;
            parts = refl;
            blocks = empties ref.count (items.Ref r.0.0 ∷ h.blocks);
            full = full_empties ref.count (items.Ref r.0.0) h.blocks (full_before (items.Ref r.0.0) h.blocks tt h.full);
            same = flat_empties ref.count (items.Ref r.0.0 ∷ h.blocks) ∙ ap (λ (l : List Piece). a_slot r.0.0 ∷ l) same;
            got = got_sum (refs_in (items.Ref r.0.0 ∷ b.0.0)) (omega arith) [] s.progress r.0.1 b.0.1.progress r.0.2 b.0.2 _ _ _ ref.got h.got (λ F sees f g.
                spells_empties (Spells F 200 []) ref.count bs ref.mid (items.Ref r.0.0 ∷ h.blocks) (length s.progress.nodes) b.0.2 (length b.0.1.progress.nodes) ref.empties
                (r.0.2, length r.0.1.nodes, f, subst (λ (l : List ℕ). SpellsBlocks (Spells F 200 []) h.blocks (length r.0.1.nodes) l b.0.2 (length b.0.1.progress.nodes)) (sym mid) g));
          } in
          subst (λ (y : ServeOk). Spelt s y.1 bs y.2 y.0) last (subst (λ (i : Item). Spelt s b.0.1 bs b.0.2 (i ∷ b.0.0)) (ap (λ (x : Item × Stand × List ℕ). x.0) two) mine))
    ]
  where
    nil_of : (l : List ℕ) → length l ≡ 0 → l ≡ []
    nil_of [] e = refl
    nil_of (b ∷ l) e = absurd (omega arith)

    eqb_zero : (k : ℕ) → eqb k 0 ≡ true → k ≡ 0
    eqb_zero k e = eqb-true k 0 e

-- ---- what they gave

abbrev pub FitsOne : Want → Item → Type 0
FitsOne (wanted.Bytes n) (items.Bytes p) = length p ≡ n
FitsOne wanted.Slot (items.Ref s) = Unit {0}
FitsOne _ _ = ⊥

pub run_length : (end n k : ℕ) (bs : List ℕ) (y : RunOk) → run_at end n k bs ≡ Ok y → length y.0 ≡ n
unfolding run_at
run_length end zero k bs y e = ap (λ (x : RunOk). length x.0) (sym (given_is ([], k, bs) y e))
run_length end (suc n) k bs y e =
    let o = want_ok (opened_at end k bs) (more_of end n) y e in
    let c = lifted_ok (byte_at o.0.1) (λ b. run_at end n (o.0.0 - 1) b.1 ▸ λ r. Ok (b.0 ∷ r.0, r.1, r.2)) y o.2 in
    let r = want_ok (run_at end n (o.0.0 - 1) c.0.1) (λ r. Ok (c.0.0 ∷ r.0, r.1, r.2)) y c.2 in
    ap (λ (x : RunOk). length x.0) (sym (given_is (c.0.0 ∷ r.0.0, r.0.1, r.0.2) y r.2)) ∙ ap suc (run_length end n (o.0.0 - 1) c.0.1 r.0 r.1)

abbrev WantOk : Type 0
WantOk = Item × Stand × List ℕ

want_step : (end : ℕ) (w : Want) (s : Stand) (bs : List ℕ) (y : WantOk) → want_at end w s bs ≡ Ok y → FitsOne w y.0 × (y.1.items ≡ added s.items y.0)
unfolding want_at bytes_at slot_next
want_step end (wanted.Bytes n) s bs y e =
    let d = want_ok (bytes_at end n s bs) (λ x. Ok (items.Bytes x.0, x.1, x.2)) y e in
    let r = want_ok (run_at end n s.block bs) (λ r. Ok (r.0, record { progress = s.progress; items = add_bytes s.items r.0; block = r.1 }, r.2)) d.0 d.1 in
    let now : Stand = record { progress = s.progress; items = add_bytes s.items r.0.0; block = r.0.1 } in
    let one : (r.0.0, now, r.0.2) ≡ d.0 = given_is (r.0.0, now, r.0.2) d.0 r.2 in
    let two : (items.Bytes r.0.0, now, r.0.2) ≡ y = ap (λ (x : List ℕ × Stand × List ℕ). (items.Bytes x.0, x.1, x.2)) one ∙ given_is (items.Bytes d.0.0, d.0.1, d.0.2) y d.2 in
    subst (λ (y : WantOk). FitsOne (wanted.Bytes n) y.0 × (y.1.items ≡ added s.items y.0)) two (run_length end n s.block bs r.0 r.1, refl)
want_step end wanted.Slot s bs y e =
    let d = want_ok (slot_next end s bs) (λ x. Ok (items.Ref x.0, x.1, x.2)) y e in
    elim (chosen (eqb s.block 0) _ _ _ d.1) [
      | inr p ↦ absurd (let f = p.1 in cc)
      | inl p ↦ (
          let r = want_ok (reference_at end s.progress bs) _ d.0 p.1 in
          let now : Stand = record { progress = r.0.1; items = s.items ++ items.Ref r.0.0 ∷ []; block = 0 } in
          let one : (r.0.0, now, r.0.2) ≡ d.0 = given_is (r.0.0, now, r.0.2) d.0 r.2 in
          let two : (items.Ref r.0.0, now, r.0.2) ≡ y = ap (λ (x : Slot × Stand × List ℕ). (items.Ref x.0, x.1, x.2)) one ∙ given_is (items.Ref d.0.0, d.0.1, d.0.2) y d.2 in
          subst (λ (y : WantOk). FitsOne wanted.Slot y.0 × (y.1.items ≡ added s.items y.0)) two (tt, refl))
    ]

fits_more : (w : Want) (i : Item) (ws : List Want) (is : List Item) → FitsOne w i → Fits ws is → Fits (w ∷ ws) (i ∷ is)
fits_more (wanted.Bytes n) (items.Bytes p) ws is one more = (one, more)
fits_more (wanted.Bytes n) (items.Ref s) ws is one more = absurd one
fits_more wanted.Slot (items.Bytes p) ws is one more = absurd one
fits_more wanted.Slot (items.Ref s) ws is one more = more

pub serve_fits : (end : ℕ) (ws : List Want) (s : Stand) (bs : List ℕ) (y : ServeOk) → serve end ws s bs ≡ Ok y → Fits ws y.0
unfolding serve
serve_fits end [] s bs y e = subst (λ (y : ServeOk). Fits [] y.0) (given_is ([], s, bs) y e) tt
serve_fits end (w ∷ ws) s bs y e =
    let a = want_ok (want_at end w s bs) (λ x. serve end ws x.1 x.2 ▸ λ xs. Ok (x.0 ∷ xs.0, xs.1, xs.2)) y e in
    let b = want_ok (serve end ws a.0.1 a.0.2) (λ xs. Ok (a.0.0 ∷ xs.0, xs.1, xs.2)) y a.2 in
    subst (λ (y : ServeOk). Fits (w ∷ ws) y.0) (given_is (a.0.0 ∷ b.0.0, b.0.1, b.0.2) y b.2) (fits_more w a.0.0 ws b.0.0 (want_step end w s bs a.0 a.1).0 (serve_fits end ws a.0.1 a.0.2 b.0 b.1))

pub serve_items : (end : ℕ) (ws : List Want) (s : Stand) (bs : List ℕ) (y : ServeOk) → serve end ws s bs ≡ Ok y → (raw : List Item) → s.items ≡ joined raw → y.1.items ≡ joined (raw ++ y.0)
unfolding serve
serve_items end [] s bs y e raw same = subst (λ (y : ServeOk). y.1.items ≡ joined (raw ++ y.0)) (given_is ([], s, bs) y e) (same ∙ ap joined (sym (append-nil raw)))
serve_items end (w ∷ ws) s bs y e raw same =
    let a = want_ok (want_at end w s bs) (λ x. serve end ws x.1 x.2 ▸ λ xs. Ok (x.0 ∷ xs.0, xs.1, xs.2)) y e in
    let b = want_ok (serve end ws a.0.1 a.0.2) (λ xs. Ok (a.0.0 ∷ xs.0, xs.1, xs.2)) y a.2 in
    let one : a.0.1.items ≡ joined (raw ++ a.0.0 ∷ []) = (want_step end w s bs a.0 a.1).1 ∙ ap (λ (l : List Item). added l a.0.0) same ∙ added_is raw a.0.0 in
    let more = serve_items end ws a.0.1 a.0.2 b.0 b.1 (raw ++ a.0.0 ∷ []) one in
    subst (λ (y : ServeOk). y.1.items ≡ joined (raw ++ y.0)) (given_is (a.0.0 ∷ b.0.0, b.0.1, b.0.2) y b.2) (more ∙ ap joined (append_assoc raw (a.0.0 ∷ []) b.0.0))

-- ---- the law, in one direction

abbrev pub AllOk : Type 0
AllOk = List Item × List Node × List Item × List ℕ

abbrev start : Progress
start = record { nodes = []; parts = 0 }

pub bytes_front : (xs ys : List ℕ) → AreBytes (xs ++ ys) → faults.AreBytes xs
bytes_front [] ys h = tt
bytes_front (b ∷ xs) ys h = (h.0, bytes_front xs ys h.1)

-- A front of the bytes spells what was answered.
pub record AskedFront (ws : List Want) (bs : List ℕ) (y : AllOk) : Type 0 where
  pub front : List ℕ
  pub is : bs ≡ front ++ y.3
  pub asked : SpellsWants ws y.0 y.1 front
  pub contents : y.2 ≡ joined y.0

-- What lists of wants answer is spelled, and the items are what they gave, joined.
pub asked_sound : (end : ℕ) (ws : List Want) (bs : List ℕ) (y : AllOk) → serve_to_close end ws nothing_read bs ≡ Ok y → AreBytes bs → AskedFront ws bs y
unfolding serve_to_close close_at has parts_in
asked_sound end ws bs y e bytes =
    let a = want_ok (serve end ws nothing_read bs) (λ x. close_at (end - length x.2) x.1 ▸ λ g. Ok (x.0, g.0, g.1, x.2)) y e in
    let c = want_ok (close_at (end - length a.0.2) a.0.1) (λ g. Ok (a.0.0, g.0, g.1, a.0.2)) y a.2 in
    elim (chosen (eqb a.0.1.block 0) _ _ _ c.1) [
      | inr p ↦ absurd (let f = p.1 in cc)
      | inl p ↦ (
          let now = a.0.1 in
          let N = now.progress.nodes in
          let one : (N, now.items) ≡ c.0 = given_is (N, now.items) c.0 p.1 in
          let two : (a.0.0, N, now.items, a.0.2) ≡ y = ap (λ (g : List Node × List Item). (a.0.0, g.0, g.1, a.0.2)) one ∙ given_is (a.0.0, c.0.0, c.0.1, a.0.2) y c.2 in
          let solid : Solid [] start = record { above = λ k i gone is desc. absurd cc; good = λ k i gone is. absurd cc; below = λ k h. absurd cc; few = omega arith; ranged = All-nil InRange } in
          let h = serve_sound end ws nothing_read bs a.0 a.1 (eqb-true now.block 0 p.0) solid bytes in
          let none : h.left ≡ [] = nil_of h.left h.len in
          let mid : bs ≡ h.mid = h.parts ∙ ap (λ (l : List ℕ). l ++ h.mid) none in
          let flats : flat h.blocks ≡ flat a.0.0 = ap (λ (l : List ℕ). bytes_of l ++ flat h.blocks) (sym none) ∙ h.same in
          let spelled = h.got.spelled N (record { descs = λ k i gone is desc. is; texts = λ k i is t. is; long = omega arith }) (λ k low lt. refl) in
          let all : parts_in N ≡ parts_in h.got.added = ap parts_in h.got.grown in
          let q = h.got.parts in
          let most = h.got.solid.few in
          let f = blocks_front (Spells N 200 []) (spells_front N 200 []) h.blocks 0 h.mid a.0.2 (length N) spelled in
          let parts : bs ≡ f.front ++ a.0.2 = mid ∙ f.is in
          subst (λ (y : AllOk). AskedFront ws bs y) two (record {
            front = f.front;
            is = parts;
            asked = record {
              are_bytes = bytes_front f.front a.0.2 (subst AreBytes parts bytes);
              fits = serve_fits end ws nothing_read bs a.0 a.1;
              blocks = h.blocks;
              spelled = subst (λ (l : List ℕ). SpellsBlocks (Spells N 200 []) h.blocks 0 l [] (length N)) (append-nil f.front) (f.other []);
              full = h.full;
              same = joined_by a.0.0 h.blocks (sym flats);
              numbers = numbers_of N h.got.solid.ranged;
              units = units_of N h.got.solid.ranged;
              few_parts = omega arith;
            };
            contents = serve_items end ws nothing_read bs a.0 a.1 [] refl;
          }))
    ]
  where
    nil_of : (l : List ℕ) → length l ≡ 0 → l ≡ []
    nil_of [] e = refl
    nil_of (b ∷ l) e = absurd (omega arith)
