-- Where bytes of block data are taken in front of a stream.
use Rattle.std.specs.Prelude.{◌⊎◌}
use Rattle.std.specs.List.{concat}
use Rattle.std.proofs.Common.{◌≡◌, ℕ, zero, suc, ◌+◌, ◌-◌, ◌<◌, List, [], ◌∷◌, ◌++◌, length, length-append, Result, Ok, Err, refl, sym, ap, subst, ◌∙◌, append_assoc, append-nil, arith, inl, inr}
use Rattle.std.specs.Int.{w32, to_be_bytes}
use Rattle.class_desc.specs.declared.slot.Item.{Item}
use Rattle.class_desc.specs.declared.slot.Item.TheVariants as items
use Rattle.ser_values.specs.declared.node.Node.{Node}
use Rattle.stream_grammar.specs.Spelled.{joined}
use Rattle.wire_io.specs.Pulled.{PullState}
use Rattle.stream_grammar.specs.Reading.{short, byte_at}
use Rattle.stream_grammar.proofs.PlainSound.{AreBytes, byte_sound}
use Rattle.ser_read.specs.declared.block.Head.{Head}
use Rattle.ser_read.specs.declared.block.Head.TheVariants.{Block, Code}
use Rattle.ser_read.specs.Heads.{head_at}
use Rattle.ser_read.specs.Here.{Reads}
use Rattle.ser_read.specs.Named.{add_bytes}
use Rattle.ser_read.specs.declared.serving.Want.{Want}
use Rattle.ser_read.specs.declared.serving.Want.TheVariants as wanted
use Rattle.ser_read.specs.Wants.{WantFault, inside, ◌▸◌, lift_fault, Stand, nothing_read, only_block, opened_at, run_at, bytes_at, close_at, want_at, serve, serve_to_close}
use Rattle.ser_read.specs.SpelledWants.{SpellsWants}
use Rattle.ser_read.specs.Heading.{IsBlockHeader, AreBlocks, EndsInBlock, inside_block}
use Rattle.ser_read.specs.WantLaws.{HeadEndsInBlock, HeadGoesOn, SpelledIsHeaded}
use Rattle.ser_read.proofs.Steps.{bytes_more}
use Rattle.ser_read.proofs.Empties.{Header, Empties, found}
use Rattle.ser_read.proofs.Runs.{Run, behind, behind_none, behind_two, opened_here, opened_some, run_piece}
use Rattle.ser_read.proofs.Served.{want_ok, lifted_ok, given_is, are}
use Rattle.ser_read.proofs.SpelledWants.{RunOk, ServeOk, AllOk, more_of, block_is, run_length, bytes_front, asked_sound}
use Rattle.ser_read.proofs.Given.{cons, header_of, run_skips, run_begins, asked_complete}
use Rattle.ser_read.proofs.InOrder.{Serving}
use Rattle.ser_read.proofs.WantLaws.{served}

-- ---- one byte

-- The next byte of a run, of the present block or of one that was opened, and the run behind it.
record Step (end n k : ℕ) (bs : List ℕ) (y : RunOk) : Type 0 where
  byte : ℕ
  block : ℕ
  others : List ℕ
  later : RunOk
  from : ((k ≡ suc block) × (bs ≡ byte ∷ others)) ⊎ ((k ≡ 0) × (count : ℕ) × (mid : List ℕ) × Empties count bs mid × Header (suc block) mid (byte ∷ others))
  run : run_at end n block others ≡ Ok later
  is : (byte ∷ later.0, later.1, later.2) ≡ y
  bytes : AreBytes others

run_step : (end n k : ℕ) (bs : List ℕ) (y : RunOk) → run_at end (suc n) k bs ≡ Ok y → AreBytes bs → Step end n k bs y
unfolding run_at opened_at
run_step end n k bs y e bytes =
    let o = want_ok (opened_at end k bs) (more_of end n) y e in
    let c = lifted_ok (byte_at o.0.1) (λ b. run_at end n (o.0.0 - 1) b.1 ▸ λ r. Ok (b.0 ∷ r.0, r.1, r.2)) y o.2 in
    let r = want_ok (run_at end n (o.0.0 - 1) c.0.1) (λ r. Ok (c.0.0 ∷ r.0, r.1, r.2)) y c.2 in
    go k o.0 o.1 c.0 c.1 r.0 r.1 (given_is (c.0.0 ∷ r.0.0, r.0.1, r.0.2) y r.2)
  where
    found_block : (o : ℕ × List ℕ) → (lift_fault (head_at end bs) ▸ only_block) ≡ Ok o → head_at end bs ≡ Ok (Block o.0, o.1)
    found_block o h =
        let a = lifted_ok (head_at end bs) only_block o h in
        by a.0 a.1 a.2
      where
        by : (x : Head × List ℕ) → head_at end bs ≡ Ok x → only_block x ≡ Ok o → head_at end bs ≡ Ok (Block o.0, o.1)
        by (Block j, rest) is h = let s : (j, rest) ≡ o = given_is (j, rest) o h in is ∙ ap (λ (x : ℕ × List ℕ). Ok (Block x.0, x.1)) s
        by (Code code at, rest) is h = absurd cc

    go : (k : ℕ) (o : ℕ × List ℕ) → opened_at end k bs ≡ Ok o → (c : ℕ × List ℕ) → byte_at o.1 ≡ Ok c → (r : RunOk) → run_at end n (o.0 - 1) c.1 ≡ Ok r → (c.0 ∷ r.0, r.1, r.2) ≡ y → Step end n k bs y
    go (suc j) o is c read r run same =
        let s : (suc j, bs) ≡ o = given_is (suc j, bs) o (sym (opened_here end (suc j) bs (omega arith)) ∙ is) in
        let begins : bs ≡ c.0 ∷ c.1 = ap (λ (x : ℕ × List ℕ). x.1) s ∙ byte_sound o.1 c read in
        let less : o.0 - 1 ≡ j = let t : suc j ≡ o.0 = ap (λ (x : ℕ × List ℕ). x.0) s in omega arith in
        record { byte = c.0; block = j; others = c.1; later = r; from = inl (refl, begins); run = subst (λ i. run_at end n i c.1 ≡ Ok r) less run; is = same; bytes = (subst AreBytes begins bytes).1 }
    go zero o is c read r run same =
        let f = found end (suc (length bs)) bs (Block o.0, o.1) (found_block o is) bytes in
        let some : 0 < o.0 = opened_some end 0 bs o.0 o.1 is in
        let begins : o.1 ≡ c.0 ∷ c.1 = byte_sound o.1 c read in
        let more : o.0 ≡ suc (o.0 - 1) = omega arith in
        let head : Header (suc (o.0 - 1)) f.mid (c.0 ∷ c.1) = subst (λ j. Header j f.mid (c.0 ∷ c.1)) more (subst (λ (l : List ℕ). Header o.0 f.mid l) begins f.is) in
        record { byte = c.0; block = o.0 - 1; others = c.1; later = r; from = inr (refl, f.count, f.mid, f.empties, head); run = run; is = same; bytes = (subst AreBytes begins f.left).1 }

-- ---- where a run ends

-- in a block that was opened behind the rest of the present one
record Opened (k : ℕ) (bs p : List ℕ) (left : ℕ) (rest : List ℕ) : Type 0 where
  present : List ℕ
  len : length present ≡ k
  payloads : List (List ℕ)
  blocks : List ℕ
  whole : AreBlocks payloads blocks
  front : List ℕ
  some : 0 < length front
  header : List ℕ
  head : IsBlockHeader (length front + left) header
  parts : bs ≡ present ++ (blocks ++ (header ++ (front ++ rest)))
  is : p ≡ present ++ (concat payloads ++ front)

-- in the present block, or in one that was opened
abbrev Ends : ℕ → List ℕ → List ℕ → ℕ → List ℕ → Type 0
Ends k bs p left rest = ((bs ≡ p ++ rest) × (k ≡ length p + left)) ⊎ Opened k bs p left rest

byte_more : (k j : ℕ) (bs : List ℕ) (c : ℕ) (b p : List ℕ) (left : ℕ) (rest : List ℕ) → k ≡ suc j → bs ≡ c ∷ b → Ends j b p left rest → Ends k bs (c ∷ p) left rest
byte_more k j bs c b p left rest e begins (inl h) = let len = h.1 in inl (begins ∙ ap (λ (l : List ℕ). c ∷ l) h.0, omega (arith, e, len))
byte_more k j bs c b p left rest e begins (inr o) = inr (record {
  present = c ∷ o.present;
  len = ap suc o.len ∙ sym e;
  payloads = o.payloads;
  blocks = o.blocks;
  whole = o.whole;
  front = o.front;
  some = o.some;
  header = o.header;
  head = o.head;
  parts = begins ∙ ap (λ (l : List ℕ). c ∷ l) o.parts;
  is = ap (λ (l : List ℕ). c ∷ l) o.is;
})

-- so many empty blocks in front
abbrev nils : ℕ → List (List ℕ) → List (List ℕ)
nils zero ps = ps
nils (suc e) ps = [] ∷ nils e ps

concat_nils : (e : ℕ) (ps : List (List ℕ)) → concat (nils e ps) ≡ concat ps
concat_nils zero ps = refl
concat_nils (suc e) ps = concat_nils e ps

with_empties : (e : ℕ) (bs mid : List ℕ) (ps : List (List ℕ)) (blocks tail : List ℕ) → Empties e bs mid → AreBlocks ps blocks → mid ≡ blocks ++ tail → (all : List ℕ) × AreBlocks (nils e ps) all × (bs ≡ all ++ tail)
with_empties zero bs mid ps blocks tail em whole is = (blocks, whole, em ∙ is)
with_empties (suc e) bs mid ps blocks tail em whole is =
    let r = with_empties e em.0 mid ps blocks tail em.2 whole is in
    let x = block_is [] bs em.0 em.1 in
    (x.0 ++ r.0, (x.0, r.0, x.1, refl, r.1), x.2 ∙ ap (λ (l : List ℕ). x.0 ++ l) r.2 ∙ sym (append_assoc x.0 r.0 tail))

pub header_is : (k : ℕ) (bs rest : List ℕ) → Header k bs rest → (header : List ℕ) × IsBlockHeader k header × (bs ≡ header ++ rest)
header_is k bs rest (inl h) = (0x77 ∷ k ∷ [], inl (h.0, refl), h.1)
header_is k bs rest (inr h) = (0x7A ∷ to_be_bytes w32 k, inr (h.0, refl), h.1)

opened_more : (j : ℕ) (bs : List ℕ) (c : ℕ) (b p : List ℕ) (left : ℕ) (rest : List ℕ) (e : ℕ) (mid : List ℕ) → Empties e bs mid → Header (suc j) mid (c ∷ b) → Ends j b p left rest → Opened 0 bs (c ∷ p) left rest
opened_more j bs c b p left rest e mid em head (inl h) =
    let d = header_is (suc j) mid (c ∷ b) head in
    let w = with_empties e bs mid [] [] mid em refl refl in
    let long : suc j ≡ length (c ∷ p) + left = (let len = h.1 in omega (arith, len)) in
    record {
      present = [];
      len = refl;
      payloads = nils e [];
      blocks = w.0;
      whole = w.1;
      front = c ∷ p;
      some = omega arith;
      header = d.0;
      head = subst (λ k. IsBlockHeader k d.0) long d.1;
      parts = w.2 ∙ ap (λ (l : List ℕ). w.0 ++ l) (d.2 ∙ ap (λ (l : List ℕ). d.0 ++ (c ∷ l)) h.0);
      is = sym (ap (λ (l : List ℕ). l ++ (c ∷ p)) (concat_nils e []));
    }
opened_more j bs c b p left rest e mid em head (inr o) =
    let tail : List ℕ = o.header ++ (o.front ++ rest) in
    let payload : List ℕ = c ∷ o.present in
    let whole : Header (length payload) mid (payload ++ (o.blocks ++ tail)) = subst (λ k. Header k mid (payload ++ (o.blocks ++ tail))) (ap suc (sym o.len)) (subst (λ (l : List ℕ). Header (suc j) mid (c ∷ l)) o.parts head) in
    let x = block_is payload mid (o.blocks ++ tail) whole in
    let w = with_empties e bs mid (payload ∷ o.payloads) (x.0 ++ o.blocks) tail em (x.0, o.blocks, x.1, refl, o.whole) (x.2 ∙ sym (append_assoc x.0 o.blocks tail)) in
    record {
      present = [];
      len = refl;
      payloads = nils e (payload ∷ o.payloads);
      blocks = w.0;
      whole = w.1;
      front = o.front;
      some = o.some;
      header = o.header;
      head = o.head;
      parts = w.2;
      is = ap (λ (l : List ℕ). c ∷ l) o.is ∙ sym (append_assoc payload (concat o.payloads) o.front) ∙ sym (ap (λ (l : List ℕ). l ++ o.front) (concat_nils e (payload ∷ o.payloads)));
    }

abbrev EndsAs : ℕ → List ℕ → RunOk → Type 0
EndsAs k bs y = Ends k bs y.0 y.1 y.2

run_ends : (end n k : ℕ) (bs : List ℕ) (y : RunOk) → run_at end n k bs ≡ Ok y → AreBytes bs → EndsAs k bs y
unfolding run_at
run_ends end zero k bs y e bytes = subst (EndsAs k bs) (given_is ([], k, bs) y e) (inl (refl, omega arith))
run_ends end (suc n) k bs y e bytes =
    let s = run_step end n k bs y e bytes in
    let more = run_ends end n s.block s.others s.later s.run s.bytes in
    subst (EndsAs k bs) s.is (go k s.block bs s.byte s.others s.later.0 s.later.1 s.later.2 s.from more)
  where
    go : (k j : ℕ) (bs : List ℕ) (c : ℕ) (b p : List ℕ) (left : ℕ) (rest : List ℕ) → ((k ≡ suc j) × (bs ≡ c ∷ b)) ⊎ ((k ≡ 0) × (count : ℕ) × (mid : List ℕ) × Empties count bs mid × Header (suc j) mid (c ∷ b)) → Ends j b p left rest → Ends k bs (c ∷ p) left rest
    go k j bs c b p left rest (inl h) more = byte_more k j bs c b p left rest h.0 h.1 more
    go k j bs c b p left rest (inr h) more = inr (subst (λ k. Opened k bs (c ∷ p) left rest) (sym h.0) (opened_more j bs c b p left rest h.1 h.2 h.3 h.4 more))

nil_of : (l : List ℕ) → length l ≡ 0 → l ≡ []
nil_of [] e = refl
nil_of (b ∷ l) e = absurd (omega arith)

-- from the first byte of a stream on
record HeadOf (n : ℕ) (bs : List ℕ) (y : RunOk) : Type 0 where
  head : List ℕ
  parts : bs ≡ head ++ y.2
  ends : EndsInBlock n head y.0 y.1

head_of : (n : ℕ) (bs : List ℕ) (y : RunOk) → AreBytes bs → 0 < n → length y.0 ≡ n → EndsAs 0 bs y → HeadOf n bs y
head_of n bs y bytes lt long (inl h) = absurd (let len = h.1 in omega (arith, lt, long, len))
head_of n bs y bytes lt long (inr o) =
    let none = nil_of o.present o.len in
    let taken : List ℕ = o.blocks ++ (o.header ++ o.front) in
    let parts : bs ≡ taken ++ y.2 = o.parts ∙ ap (λ (l : List ℕ). l ++ (o.blocks ++ (o.header ++ (o.front ++ y.2)))) none
    ∙ sym (append_assoc o.blocks (o.header ++ o.front) y.2 ∙ ap (λ (l : List ℕ). o.blocks ++ l) (append_assoc o.header o.front y.2)) in
    record {
      head = taken;
      parts = parts;
      ends = record {
        are_bytes = bytes_front taken y.2 (subst AreBytes parts bytes);
        wanted = long;
        payloads = o.payloads;
        blocks = o.blocks;
        whole = o.whole;
        front = o.front;
        some = o.some;
        header = o.header;
        head = o.head;
        taken_is = refl;
        bytes_are = o.is ∙ ap (λ (l : List ℕ). l ++ (concat o.payloads ++ o.front)) none;
      };
    }

-- ---- the bytes are read

cons_behind : (c : ℕ) (p : List ℕ) (r : Run) → cons c (behind p r) ≡ behind (c ∷ p) r
cons_behind c p (Ok x) = refl
cons_behind c p (Err f) = refl

header_at : (k : ℕ) (header rest : List ℕ) → IsBlockHeader k header → Header k (header ++ rest) rest
header_at k header rest (inl h) = inl (h.0, ap (λ (l : List ℕ). l ++ rest) h.1)
header_at k header rest (inr h) = inr (h.0, ap (λ (l : List ℕ). l ++ rest) h.1)

whole_runs : (end : ℕ) (ps : List (List ℕ)) (blocks tail : List ℕ) (m : ℕ) → AreBlocks ps blocks → run_at end (suc (length (concat ps) + m)) 0 (blocks ++ tail) ≡ behind (concat ps) (run_at end (suc m) 0 tail)
whole_runs end [] blocks tail m h =
    let none : length (concat []) + m ≡ m = omega arith in
    ap (λ (l : List ℕ). run_at end (suc (length (concat []) + m)) 0 (l ++ tail)) h ∙ ap (λ n. run_at end (suc n) 0 tail) none ∙ sym (behind_none (run_at end (suc m) 0 tail))
whole_runs end ([] ∷ ps) blocks tail m h =
    let parts : blocks ++ tail ≡ h.0 ++ (h.1 ++ tail) = ap (λ (l : List ℕ). l ++ tail) h.3 ∙ append_assoc h.0 h.1 tail in
    run_skips end (length (concat ps) + m) (blocks ++ tail) (h.1 ++ tail) (header_of [] h.0 (blocks ++ tail) (h.1 ++ tail) h.2 parts) ∙ whole_runs end ps h.1 tail m h.4
whole_runs end ((c ∷ q) ∷ ps) blocks tail m h =
    let parts : blocks ++ tail ≡ h.0 ++ (h.1 ++ tail) = ap (λ (l : List ℕ). l ++ tail) h.3 ∙ append_assoc h.0 h.1 tail in
    let more = suc (length (concat ps) + m) in
    let long : length ((c ∷ q) ++ concat ps) + m ≡ length q + more = omega (arith, length-append q (concat ps)) in
    let all : length q ≡ length q + 0 = omega arith in
    run_begins end (length ((c ∷ q) ++ concat ps) + m) (length q) c (blocks ++ tail) (q ++ (h.1 ++ tail)) (header_of (c ∷ q) h.0 (blocks ++ tail) (h.1 ++ tail) h.2 parts)
    ∙ ap (λ n. cons c (run_at end n (length q) (q ++ (h.1 ++ tail)))) long ∙ ap (λ k. cons c (run_at end (length q + more) k (q ++ (h.1 ++ tail)))) all
    ∙ ap (cons c) (run_piece end q (h.1 ++ tail) more 0 ∙ ap (behind q) (whole_runs end ps h.1 tail m h.4) ∙ behind_two q (concat ps) (run_at end (suc m) 0 tail))
    ∙ cons_behind c (q ++ concat ps) (run_at end (suc m) 0 tail)

abbrev run_ok : RunOk → Run
run_ok y = Ok y

last_runs : (end : ℕ) (front header rest : List ℕ) (left : ℕ) → IsBlockHeader (length front + left) header → 0 < length front → run_at end (length front) 0 (header ++ (front ++ rest)) ≡ Ok (front, left, rest)
unfolding run_at
last_runs end [] header rest left h lt = absurd (omega arith)
last_runs end (c ∷ q) header rest left h lt =
    let more : length (c ∷ q) + left ≡ suc (length q + left) = omega arith in
    let all : length q ≡ length q + 0 = omega arith in
    let head : Header (suc (length q + left)) (header ++ (c ∷ (q ++ rest))) (c ∷ (q ++ rest)) = subst (λ k. Header k (header ++ (c ∷ (q ++ rest))) (c ∷ (q ++ rest))) more (header_at (length (c ∷ q) + left) header (c ∷ (q ++ rest)) h) in
    run_begins end (length q) (length q + left) c (header ++ (c ∷ (q ++ rest))) (q ++ rest) head
    ∙ ap (λ n. cons c (run_at end n (length q + left) (q ++ rest))) all ∙ ap (cons c) (run_piece end q rest 0 left) ∙ ap (λ (l : List ℕ). run_ok (c ∷ l, left, rest)) (append-nil q)

pub head_runs : (end n : ℕ) (head bytes : List ℕ) (left : ℕ) (rest : List ℕ) → EndsInBlock n head bytes left → run_at end n 0 (head ++ rest) ≡ Ok (bytes, left, rest)
head_runs end n head bytes left rest h =
    let m = length h.front - 1 in
    let front : suc m ≡ length h.front = omega (arith, h.some) in
    let long : n ≡ suc (length (concat h.payloads) + m) = omega (arith, h.some, h.wanted, ap (λ (l : List ℕ). length l) h.bytes_are, length-append (concat h.payloads) h.front) in
    let parts : head ++ rest ≡ h.blocks ++ (h.header ++ (h.front ++ rest)) =
    ap (λ (l : List ℕ). l ++ rest) h.taken_is ∙ append_assoc h.blocks (h.header ++ h.front) rest ∙ ap (λ (l : List ℕ). h.blocks ++ l) (append_assoc h.header h.front rest) in
    ap (λ k. run_at end k 0 (head ++ rest)) long ∙ ap (λ (l : List ℕ). run_at end (suc (length (concat h.payloads) + m)) 0 l) parts
    ∙ whole_runs end h.payloads h.blocks (h.header ++ (h.front ++ rest)) m h.whole
    ∙ ap (behind (concat h.payloads)) (ap (λ k. run_at end k 0 (h.header ++ (h.front ++ rest))) front ∙ last_runs end h.front h.header rest left h.head h.some)
    ∙ ap (λ (l : List ℕ). run_ok (l, left, rest)) (sym h.bytes_are)

pub added_some : (p : List ℕ) → 0 < length p → add_bytes [] p ≡ items.Bytes p ∷ []
unfolding add_bytes
added_some [] lt = absurd (omega arith)
added_some (b ∷ p) lt = refl

pub some_wanted : (n : ℕ) (head bytes : List ℕ) (left : ℕ) → EndsInBlock n head bytes left → 0 < length bytes
some_wanted n head bytes left h = omega (arith, h.some, ap (λ (l : List ℕ). length l) h.bytes_are, length-append (concat h.payloads) h.front)

-- The bytes in front were taken, and the other wants are served.
head_serves : (end n : ℕ) (head bytes : List ℕ) (left : ℕ) (more : List ℕ) (ws : List Want) → EndsInBlock n head bytes left
    → serve end (wanted.Bytes n ∷ ws) nothing_read (head ++ more) ≡ served (items.Bytes bytes) (serve end ws (inside_block bytes left) more)
unfolding serve want_at bytes_at
head_serves end n head bytes left more ws h =
    rw (head_runs end n head bytes left more h, added_some bytes (some_wanted n head bytes left h)) refl

-- ---- what was read of the bytes in front

record Begun (end n : ℕ) (ws : List Want) (bs : List ℕ) (y : ServeOk) : Type 0 where
  run : RunOk
  read : run_at end n 0 bs ≡ Ok run
  later : ServeOk
  is : (items.Bytes run.0 ∷ later.0, later.1, later.2) ≡ y

begun : (end n : ℕ) (ws : List Want) (bs : List ℕ) (y : ServeOk) → serve end (wanted.Bytes n ∷ ws) nothing_read bs ≡ Ok y → Begun end n ws bs y
unfolding serve want_at bytes_at
begun end n ws bs y e =
    let a = want_ok (want_at end (wanted.Bytes n) nothing_read bs) (λ x. serve end ws x.1 x.2 ▸ λ xs. Ok (x.0 ∷ xs.0, xs.1, xs.2)) y e in
    let b = want_ok (serve end ws a.0.1 a.0.2) (λ xs. Ok (a.0.0 ∷ xs.0, xs.1, xs.2)) y a.2 in
    let d = want_ok (bytes_at end n nothing_read bs) (λ x. Ok (items.Bytes x.0, x.1, x.2)) a.0 a.1 in
    let r = want_ok (run_at end n 0 bs) (λ r. Ok (r.0, record { progress = nothing_read.progress; items = add_bytes [] r.0; block = r.1 }, r.2)) d.0 d.1 in
    let now : Stand = record { progress = nothing_read.progress; items = add_bytes [] r.0.0; block = r.0.1 } in
    let one : (r.0.0, now, r.0.2) ≡ d.0 = given_is (r.0.0, now, r.0.2) d.0 r.2 in
    let two : (items.Bytes r.0.0, now, r.0.2) ≡ a.0 = ap (λ (x : List ℕ × Stand × List ℕ). (items.Bytes x.0, x.1, x.2)) one ∙ given_is (items.Bytes d.0.0, d.0.1, d.0.2) a.0 d.2 in
    let last : (a.0.0 ∷ b.0.0, b.0.1, b.0.2) ≡ y = given_is (a.0.0 ∷ b.0.0, b.0.1, b.0.2) y b.2 in
    record { run = r.0; read = r.1; later = b.0; is = ap (λ (x : Item × Stand × List ℕ). (x.0 ∷ b.0.0, b.0.1, b.0.2)) two ∙ last }

abbrev first_bytes : List Item → List ℕ
first_bytes (items.Bytes p ∷ is) = p
first_bytes _ = []

abbrev behind_first : List Item → List Item
behind_first [] = []
behind_first (i ∷ is) = is

-- what was read, said of the run
record HeadRun (n : ℕ) (bs : List ℕ) : Type 0 where
  bytes : List ℕ
  left : ℕ
  rest : List ℕ
  head : List ℕ
  parts : bs ≡ head ++ rest
  ends : EndsInBlock n head bytes left

headed_run : (end n : ℕ) (ws : List Want) (bs : List ℕ) (y : ServeOk) → 0 < n → serve end (wanted.Bytes n ∷ ws) nothing_read bs ≡ Ok y → AreBytes bs → HeadRun n bs
headed_run end n ws bs y lt e bytes =
    let b = begun end n ws bs y e in
    let h = head_of n bs b.run bytes lt (run_length end n 0 bs b.run b.read) (run_ends end n 0 bs b.run b.read bytes) in
    record { bytes = b.run.0; left = b.run.1; rest = b.run.2; head = h.head; parts = h.parts; ends = h.ends }

pub head_ends : HeadEndsInBlock
unfolding serve
head_ends end n taken bytes left lt all = (to, from)
  where
    to : serve end (wanted.Bytes n ∷ []) nothing_read taken ≡ Ok (items.Bytes bytes ∷ [], inside_block bytes left, []) → EndsInBlock n taken bytes left
    to e =
        let h = headed_run end n [] taken (items.Bytes bytes ∷ [], inside_block bytes left, []) lt e (are taken all) in
        let read : serve end (wanted.Bytes n ∷ []) nothing_read (h.head ++ h.rest) ≡ Ok (items.Bytes h.bytes ∷ [], inside_block h.bytes h.left, h.rest) = head_serves end n h.head h.bytes h.left h.rest [] h.ends in
        let same : (items.Bytes h.bytes ∷ [], inside_block h.bytes h.left, h.rest) ≡ (items.Bytes bytes ∷ [], inside_block bytes left, []) =
        given_is (items.Bytes h.bytes ∷ [], inside_block h.bytes h.left, h.rest) (items.Bytes bytes ∷ [], inside_block bytes left, []) (sym read ∙ ap (λ (l : List ℕ). serve end (wanted.Bytes n ∷ []) nothing_read l) (sym h.parts) ∙ e) in
        let none : h.rest ≡ [] = ap (λ (t : ServeOk). t.2) same in
        let head : h.head ≡ taken = sym (h.parts ∙ ap (λ (l : List ℕ). h.head ++ l) none ∙ append-nil h.head) in
        subst (λ (l : List ℕ). EndsInBlock n l bytes left) head (subst (λ (k : ℕ). EndsInBlock n h.head bytes k) (ap (λ (t : ServeOk). t.1.block) same)
        (subst (λ (p : List ℕ). EndsInBlock n h.head p h.left) (ap (λ (t : ServeOk). first_bytes t.0) same) h.ends))

    from : EndsInBlock n taken bytes left → serve end (wanted.Bytes n ∷ []) nothing_read taken ≡ Ok (items.Bytes bytes ∷ [], inside_block bytes left, [])
    from h = ap (λ (l : List ℕ). serve end (wanted.Bytes n ∷ []) nothing_read l) (sym (append-nil taken)) ∙ head_serves end n taken bytes left [] [] h

-- ---- and then the end

abbrev Closing : Type 0
Closing = Result AllOk WantFault

abbrev closes : ℕ → Serving → Closing
closes end r = r ▸ λ x. close_at (end - length x.2) x.1 ▸ λ g. Ok (x.0, g.0, g.1, x.2)

abbrev closed_with : Item → Closing → Closing
closed_with i r = r ▸ λ z. Ok (i ∷ z.0, z.1, z.2, z.3)

closes_served : (end : ℕ) (i : Item) (r : Serving) → closes end (served i r) ≡ closed_with i (closes end r)
closes_served end i (Err e) = refl
closes_served end i (Ok x) = go (close_at (end - length x.2) x.1)
  where
    go : (r : Result (List Node × List Item) WantFault) → ◌▸◌ {B = AllOk} r (λ g. Ok (i ∷ x.0, g.0, g.1, x.2)) ≡ closed_with i (r ▸ λ g. Ok (x.0, g.0, g.1, x.2))
    go (Ok g) = refl
    go (Err e) = refl

head_closes : (end n : ℕ) (head bytes : List ℕ) (left : ℕ) (more : List ℕ) (ws : List Want) → EndsInBlock n head bytes left
    → serve_to_close end (wanted.Bytes n ∷ ws) nothing_read (head ++ more) ≡ closed_with (items.Bytes bytes) (serve_to_close end ws (inside_block bytes left) more)
unfolding serve_to_close
head_closes end n head bytes left more ws h = ap (closes end) (head_serves end n head bytes left more ws h) ∙ closes_served end (items.Bytes bytes) (serve end ws (inside_block bytes left) more)

pub head_goes_on : HeadGoesOn
head_goes_on end n head bytes left ws answers nodes contents more h all e =
    let y : AllOk = (items.Bytes bytes ∷ answers, nodes, contents, []) in
    let read : serve_to_close end (wanted.Bytes n ∷ ws) nothing_read (head ++ more) ≡ Ok y = head_closes end n head bytes left more ws h ∙ ap (closed_with (items.Bytes bytes)) e in
    let s = asked_sound end (wanted.Bytes n ∷ ws) (head ++ more) y read (are (head ++ more) (bytes_more head more h.are_bytes all)) in
    let whole : s.front ≡ head ++ more = sym (s.is ∙ append-nil s.front) in
    (subst (λ (l : List ℕ). SpellsWants (wanted.Bytes n ∷ ws) (items.Bytes bytes ∷ answers) nodes l) whole s.asked, s.contents)

-- the same, from what calls took
pub goes_on_taken : {p q : PullState} (n : ℕ) (head bytes : List ℕ) (left : ℕ) (ws : List Want) (answers : List Item) (nodes : List Node) (contents : List Item) → EndsInBlock n head bytes left
    → (r : Reads (inside short) p q (λ end. serve_to_close end ws (inside_block bytes left)) (λ rest. (answers, nodes, contents, rest))) → SpellsWants (wanted.Bytes n ∷ ws) (items.Bytes bytes ∷ answers) nodes (head ++ r.taken) × (contents ≡ joined (items.Bytes bytes ∷ answers))
goes_on_taken {p} {q} n head bytes left ws answers nodes contents h r =
    head_goes_on (q.at + 0) n head bytes left ws answers nodes contents r.taken h r.bytes (ap (λ (l : List ℕ). serve_to_close (q.at + 0) ws (inside_block bytes left) l) (sym (append-nil r.taken)) ∙ r.is [])

abbrev stand_with : List Item → ℕ → Stand
stand_with is k = record { progress = nothing_read.progress; items = is; block = k }

-- the bytes in front, from what a call took
pub head_taken : {p q : PullState} (n : ℕ) (bytes : List ℕ) (later : Stand) → 0 < n → (r : Reads (inside short) p q (λ end. bytes_at end n nothing_read) (λ rest. (bytes, later, rest)))
    → EndsInBlock n r.taken bytes later.block × (later ≡ inside_block bytes later.block)
unfolding bytes_at
head_taken {p} {q} n bytes later lt r =
    let end = q.at + 0 in
    let one : bytes_at end n nothing_read r.taken ≡ Ok (bytes, later, []) = ap (λ (l : List ℕ). bytes_at end n nothing_read l) (sym (append-nil r.taken)) ∙ r.is [] in
    let a = want_ok (run_at end n 0 r.taken) (λ r. Ok (r.0, record { progress = nothing_read.progress; items = add_bytes [] r.0; block = r.1 }, r.2)) (bytes, later, []) one in
    let now : Stand = record { progress = nothing_read.progress; items = add_bytes [] a.0.0; block = a.0.1 } in
    let same : (a.0.0, now, a.0.2) ≡ (bytes, later, []) = given_is (a.0.0, now, a.0.2) (bytes, later, []) a.2 in
    let front : a.0.0 ≡ bytes = ap (λ (t : List ℕ × Stand × List ℕ). t.0) same in
    let stand : now ≡ later = ap (λ (t : List ℕ × Stand × List ℕ). t.1) same in
    let left : a.0.1 ≡ later.block = ap (λ (s : Stand). s.block) stand in
    let none : a.0.2 ≡ [] = ap (λ (t : List ℕ × Stand × List ℕ). t.2) same in
    let h = head_of n r.taken a.0 (are r.taken r.bytes) lt (run_length end n 0 r.taken a.0 a.1) (run_ends end n 0 r.taken a.0 a.1 (are r.taken r.bytes)) in
    let whole : h.head ≡ r.taken = sym (h.parts ∙ ap (λ (l : List ℕ). h.head ++ l) none ∙ append-nil h.head) in
    let its : add_bytes [] a.0.0 ≡ items.Bytes bytes ∷ [] = added_some a.0.0 (some_wanted n h.head a.0.0 a.0.1 h.ends) ∙ ap (λ (p : List ℕ). items.Bytes p ∷ []) front in (
      subst (λ (p : List ℕ). EndsInBlock n r.taken p later.block) front (subst (λ (k : ℕ). EndsInBlock n r.taken a.0.0 k) left (subst (λ (l : List ℕ). EndsInBlock n l a.0.0 a.0.1) whole h.ends)),
      sym stand ∙ ap (λ (l : List Item). stand_with l a.0.1) its ∙ ap (λ (k : ℕ). inside_block bytes k) left,
    )

abbrev all_ok : AllOk → Closing
all_ok t = Ok t

pub spelled_is_headed : SpelledIsHeaded
unfolding serve_to_close
spelled_is_headed end n whole bytes ws answers nodes lt h =
    let y : AllOk = (items.Bytes bytes ∷ answers, nodes, joined (items.Bytes bytes ∷ answers), []) in
    let all : serve_to_close end (wanted.Bytes n ∷ ws) nothing_read whole ≡ Ok y = ap (λ (l : List ℕ). serve_to_close end (wanted.Bytes n ∷ ws) nothing_read l) (sym (append-nil whole)) ∙ asked_complete end (wanted.Bytes n ∷ ws) (items.Bytes bytes ∷ answers) nodes whole [] h in
    let a = want_ok (serve end (wanted.Bytes n ∷ ws) nothing_read whole) (λ x. close_at (end - length x.2) x.1 ▸ λ g. Ok (x.0, g.0, g.1, x.2)) y all in
    let r = headed_run end n ws whole a.0 lt a.1 (are whole h.are_bytes) in
    let read : closed_with (items.Bytes r.bytes) (serve_to_close end ws (inside_block r.bytes r.left) r.rest) ≡ Ok y =
    sym (head_closes end n r.head r.bytes r.left r.rest ws r.ends) ∙ ap (λ (l : List ℕ). serve_to_close end (wanted.Bytes n ∷ ws) nothing_read l) (sym r.parts) ∙ all in
    let z = want_ok (serve_to_close end ws (inside_block r.bytes r.left) r.rest) (λ z. Ok (items.Bytes r.bytes ∷ z.0, z.1, z.2, z.3)) y read in
    let same : (items.Bytes r.bytes ∷ z.0.0, z.0.1, z.0.2, z.0.3) ≡ y = given_is (items.Bytes r.bytes ∷ z.0.0, z.0.1, z.0.2, z.0.3) y z.2 in
    let front : r.bytes ≡ bytes = ap (λ (t : AllOk). first_bytes t.0) same in
    let behind : z.0 ≡ (answers, nodes, joined (items.Bytes bytes ∷ answers), []) = ap (λ (t : AllOk). (behind_first t.0, t.1, t.2, t.3)) same in
    record {
      head = r.head;
      left = r.left;
      more = r.rest;
      is = r.parts;
      ends = subst (λ (p : List ℕ). EndsInBlock n r.head p r.left) front r.ends;
      read = subst (λ (p : List ℕ). serve_to_close end ws (inside_block p r.left) r.rest ≡ Ok (answers, nodes, joined (items.Bytes bytes ∷ answers), [])) front (z.1 ∙ ap all_ok behind);
    }
