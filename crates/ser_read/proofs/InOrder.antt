-- Wants in their order.
use Rattle.std.proofs.Common.{◌≡◌, ◌≢◌, false, ℕ, ◌+◌, ◌-◌, ◌<◌, ◌≤◌, cond, eqb, List, [], ◌∷◌, ◌++◌, length, drop, get_or, Result, Ok, Err, IfOk, refl, sym, ap, subst, ◌∙◌, append_assoc, arith, drop-cons, add-one, length-drop}
use Rattle.std.proofs.lemmas.List.{append-nil, nil_from_length}
use Rattle.std.proofs.lemmas.Bool.{eqb-true, ne_eqb}
use Rattle.wire_io.specs.Pulled.{PullState, Takes}
use Rattle.class_desc.specs.declared.slot.Item.{Item}
use Rattle.ser_values.specs.declared.node.Node.{Node}
use Rattle.ser_values.specs.declared.graph.Graph.{Graph}
use Rattle.stream_grammar.specs.Spelled.{joined}
use Rattle.stream_grammar.specs.Reading.{short, bad, bad_magic, byte_at, magic_at}
use Rattle.stream_grammar.proofs.PlainSound as plain
use Rattle.stream_grammar.proofs.PlainSound.{bind_ok, passed, ok_is, byte_sound}
use Rattle.ser_read.specs.declared.fault.StreamFault.{StreamFault}
use Rattle.ser_read.specs.declared.serving.Want.{Want}
use Rattle.ser_read.specs.declared.fault.StreamFault.TheVariants as faults
use Rattle.ser_read.specs.declared.fault.StreamKind.TheVariants as kinds
use Rattle.ser_read.proofs.Breaking.{inside_later, want_later, want_here}
use Rattle.ser_read.specs.Here.{Reads}
use Rattle.ser_read.specs.Wants.{WantFault, inside, block_left, WantBreaks, ◌▸◌, Stand, nothing_read, close_at, want_at, serve, serve_to_close, wants_at, WantIsBad, WantGives}
use Rattle.ser_read.specs.SpelledWants.{SpellsWants, TakesWants, AnswersWants}
use Rattle.ser_read.proofs.Steps.{fails_outside}
use Rattle.ser_read.proofs.Wants.{want_then}
use Rattle.ser_read.proofs.Served.{lifted_ok, given_is, are}
use Rattle.ser_read.proofs.SpelledWants.{asked_sound}
use Rattle.ser_read.proofs.Given.{asked_complete}

abbrev pub Serving : Type 0
Serving = Result (List Item × Stand × List ℕ) WantFault

-- what was given before, and what is still given
abbrev pub given_before : List Item → Serving → Serving
given_before front read = read ▸ λ x. Ok (front ++ x.0, x.1, x.2)

regroup : (front : List Item) (x : Item) (read : Serving) → given_before front (read ▸ λ xs. Ok (x ∷ xs.0, xs.1, xs.2)) ≡ given_before (front ++ x ∷ []) read
regroup front x (Ok y) = ap (λ (xs : List Item). Ok (xs, y.1, y.2)) (sym (append_assoc front (x ∷ []) y.0))
regroup front x (Err f) = refl

pub serve_next : (end : ℕ) (front : List Item) (ws : List Want) (i : ℕ) (d : Want) (s : Stand) (bs : List ℕ) (x : Item) (later : Stand) (rest : List ℕ) → i < length ws → want_at end (get_or ws i d) s bs ≡ Ok (x, later, rest)
    → given_before front (serve end (drop i ws) s bs) ≡ given_before (front ++ x ∷ []) (serve end (drop (i + 1) ws) later rest)
unfolding serve
serve_next end front ws i d s bs x later rest lt h =
    let k : drop i ws ≡ get_or ws i d ∷ drop (i + 1) ws = rw (add-one, drop-cons ws i d) refl in
    rw (k, h) (regroup front x (serve end (drop (i + 1) ws) later rest))

pub serve_err : (end : ℕ) (front : List Item) (ws : List Want) (i : ℕ) (d : Want) (s : Stand) (bs : List ℕ) (f : WantFault) → i < length ws → want_at end (get_or ws i d) s bs ≡ Err f → given_before front (serve end (drop i ws) s bs) ≡ Err f
unfolding serve
serve_err end front ws i d s bs f lt h =
    let k : drop i ws ≡ get_or ws i d ∷ drop (i + 1) ws = rw (add-one, drop-cons ws i d) refl in
    rw (k, h) refl

pub serve_start : (end : ℕ) (ws : List Want) (s : Stand) (bs : List ℕ) → serve end ws s bs ≡ given_before [] (serve end (drop 0 ws) s bs)
serve_start end ws s bs = same (serve end ws s bs)
  where
    same : (r : Serving) → r ≡ given_before [] r
    same (Ok x) = refl
    same (Err f) = refl

pub serve_end : (end : ℕ) (front : List Item) (ws : List Want) (i : ℕ) (s : Stand) (bs : List ℕ) → length ws ≤ i → given_before front (serve end (drop i ws) s bs) ≡ Ok (front, s, bs)
unfolding serve
serve_end end front ws i s bs le = let k : drop i ws ≡ [] = nil_from_length (drop i ws) (omega (arith, length-drop i ws)) in rw k (ap (λ (xs : List Item). Ok (xs, s, bs)) (append-nil front))

-- ---- the whole stream

pub closed_reads : {q r : PullState} (ws : List Want) (answers : List Item) (s later : Stand) (nodes : List Node) (is : List Item) → Reads (inside short) q r (λ end. serve end ws s) (λ rest. (answers, later, rest)) → close_at r.at later ≡ Ok (nodes, is)
    → Reads (inside short) q r (λ end. serve_to_close end ws s) (λ rest. (answers, nodes, is, rest))
unfolding serve_to_close
closed_reads {q} {r} ws answers s later nodes is b closed = record {
  taken = b.taken;
  bytes = b.bytes;
  takes = b.takes;
  is = λ rest. let k : r.at + length rest - length rest ≡ r.at = omega arith in rw (b.is rest) (rw k (rw closed refl));
  least = λ front next others e. rw (b.least front next others e) refl;
}

pub close_reads : {p q r : PullState} (ws : List Want) (answers : List Item) (s : Stand) (nodes : List Node) (is : List Item)
    → Reads short p q (λ end bs. magic_at end (0xAC ∷ 0xED ∷ 0x00 ∷ 0x05 ∷ []) bs) (λ rest. rest) → Reads (inside short) q r (λ end. serve end ws nothing_read) (λ rest. (answers, s, rest)) → close_at r.at s ≡ Ok (nodes, is)
    → Reads (inside short) p r (λ end. wants_at end ws) (λ rest. (answers, nodes, is, rest))
unfolding wants_at
close_reads {p} {q} {r} ws answers s nodes is a b closed = want_then (λ end. serve_to_close end ws nothing_read) a (closed_reads ws answers nothing_read s nodes is b closed)

-- a block is left where the end is wanted
pub close_stops : {p q r : PullState} (ws : List Want) (answers : List Item) (s : Stand) (e : StreamFault) → Reads short p q (λ end bs. magic_at end (0xAC ∷ 0xED ∷ 0x00 ∷ 0x05 ∷ []) bs) (λ rest. rest)
    → Reads (inside short) q r (λ end. serve end ws nothing_read) (λ rest. (answers, s, rest)) → e ≡ faults.Bad kinds.BlockLeft r.at → s.block ≢ 0 → WantBreaks p r e (λ end. wants_at end ws)
unfolding wants_at serve_to_close close_at
close_stops {p} {q} {r} ws answers s e a b is some =
    let open_block : eqb s.block 0 ≡ false = ne_eqb s.block 0 some in
    rw is (inside_later (λ end. serve_to_close end ws nothing_read) a (want_later _ b (want_here kinds.BlockLeft r.at (λ end bs here.
    let k : end - length bs ≡ r.at = omega (arith, here) in rw open_block (ap (λ n. Err (block_left n)) k)))))

pub magic_is : (end : ℕ) (ws bs rest : List ℕ) → magic_at end ws bs ≡ Ok rest → bs ≡ ws ++ rest
unfolding magic_at
magic_is end [] bs rest e = ok_is bs rest e
magic_is end (w ∷ ws) bs rest e =
    let a = bind_ok (byte_at bs) (λ b. cond (eqb b.0 w) (magic_at end ws b.1) (Err (bad bad_magic (end - length bs)))) rest e in
    let p = passed (eqb a.0.0 w) (magic_at end ws a.0.1) (bad bad_magic (end - length bs)) rest a.2 in
    byte_sound bs a.0 a.1 ∙ (ap (λ z. z ∷ a.0.1) (eqb-true a.0.0 w p.0) ∙ ap (λ (l : List ℕ). w ∷ l) (magic_is end ws a.0.1 rest p.1))

-- what was read is what was asked
pub takes_asked : {p q : PullState} (ws : List Want) (answers : List Item) (nodes : List Node) (is : List Item) → Reads (inside short) p q (λ end. wants_at end ws) (λ rest. (answers, nodes, is, rest)) → TakesWants p q ws answers nodes is
unfolding wants_at
takes_asked {p} {q} ws answers nodes is r =
    let end = q.at + 0 in
    let head : List ℕ = 0xAC ∷ 0xED ∷ 0x00 ∷ 0x05 ∷ [] in
    let one : wants_at end ws r.taken ≡ Ok (answers, nodes, is, []) = ap (λ (l : List ℕ). wants_at end ws l) (sym (append-nil r.taken)) ∙ r.is [] in
    let a = lifted_ok (magic_at end head r.taken) (serve_to_close end ws nothing_read) (answers, nodes, is, []) one in
    let m = magic_is end head r.taken a.0 a.1 in
    let left = plain.bytes_left r.taken head a.0 m (are r.taken r.bytes) in
    let s = asked_sound end ws a.0 (answers, nodes, is, []) a.2 left in
    let all : s.front ≡ a.0 = sym (s.is ∙ append-nil s.front) in
    record { bytes = a.0; takes = subst (λ (l : List ℕ). Takes p q l) m r.takes; asked = subst (λ (l : List ℕ). SpellsWants ws answers nodes l) all s.asked; contents_are = s.contents }

abbrev pub Whole : Type 0
Whole = List Item × List Node × List Item × List ℕ

-- what is asked is read, unless the outside fails
pub gives_asked : (after : StreamFault) (end : ℕ) (ws : List Want) (answers : List Item) (nodes : List Node) (bytes rest now coming : List ℕ) (result : Result (List Item × Graph) StreamFault)
    → WantGives {Y = Whole} after (λ x. (x.0, x.1.nodes, x.1.items, now)) result (wants_at end ws coming) → coming ≡ 0xAC ∷ 0xED ∷ 0x00 ∷ 0x05 ∷ (bytes ++ rest) → SpellsWants ws answers nodes bytes → AnswersWants answers nodes rest now result
unfolding wants_at magic_at
gives_asked after end ws answers nodes bytes rest now coming result h here asked =
    let read : wants_at end ws coming ≡ Ok (answers, nodes, joined answers, rest) = ap (λ (l : List ℕ). wants_at end ws l) here ∙ asked_complete end ws answers nodes bytes rest asked in
    go result h read
  where
    go : (result : Result (List Item × Graph) StreamFault) → WantGives {Y = Whole} after (λ x. (x.0, x.1.nodes, x.1.items, now)) result (wants_at end ws coming) → wants_at end ws coming ≡ Ok (answers, nodes, joined answers, rest) → AnswersWants answers nodes rest now result
    go (Ok x) h read =
        let same = given_is (x.0, x.1.nodes, x.1.items, now) (answers, nodes, joined answers, rest) (sym h ∙ read) in
        (ap (λ (t : Whole). t.0) same, ap (λ (t : Whole). t.1) same, ap (λ (t : Whole). t.2) same, ap (λ (t : Whole). t.3) same)
    go (Err e) h read = fails_outside inside WantIsBad after e (wants_at end ws coming) (answers, nodes, joined answers, rest) read (λ kind at is. absurd (let same = sym is ∙ read in cc)) h

pub taken_asked : (p q : PullState) (ws : List Want) (result : Result (List Item × Graph) StreamFault) → IfOk result (λ x. Reads {Y = Whole} (inside short) p q (λ end. wants_at end ws) (λ rest. (x.0, x.1.nodes, x.1.items, rest)))
    → IfOk result (λ x. TakesWants p q ws x.0 x.1.nodes x.1.items)
taken_asked p q ws (Ok x) h = takes_asked ws x.0 x.1.nodes x.1.items h
taken_asked p q ws (Err e) h = tt
