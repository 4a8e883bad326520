-- Reading lists of wants answers a fault exactly where the bytes show it.
use Rattle.std.proofs.Common.{◌≡◌, ◌≢◌, ◌⊎◌, ◌<◌, ◌≤◌, ◌+◌, ◌-◌, ◌^◌, ◌&&◌, ℕ, zero, suc, true, false, eqb, ltb, leb, List, [], ◌∷◌, ◌++◌, length, Result, Ok, Err, refl, sym, ap, subst, ◌∙◌, append_assoc, append-nil, arith, inl, inr}
use Rattle.std.proofs.lemmas.Bool.{cases_Bool, eqb-true, eqb-false, ne_eqb, ltb-true, lt-ltb, leb-true, le-leb, cases_lt, and_parts, true≢false}
use Rattle.std.proofs.lemmas.List.Elements.{All-nil}
use Rattle.std.specs.Int.{w32}
use Rattle.class_desc.specs.declared.slot.Slot.{Slot}
use Rattle.class_desc.specs.declared.slot.Item.{Item}
use Rattle.class_desc.specs.declared.slot.Item.TheVariants as items
use Rattle.ser_values.specs.declared.node.Node.{Node}
use Rattle.ser_values.specs.declared.node.SlotPlace.TheVariants as places
use Rattle.ser_values.specs.declared.limits.TheConstants.{LEVELS, PARTS}
use Rattle.ser_values.specs.Node.{has, item_wants}
use Rattle.ser_values.specs.Shape.{refs_in, parts_in}
use Rattle.ser_values.specs.Ranges.{InRange}
use Rattle.stream_grammar.specs.Spelled.{joined}
use Rattle.stream_grammar.specs.Reading.{bad_magic, bad_code, negative_length, Fault, short, bad, too_many, byte_at, Progress, add_parts, coded, slot_at, magic_at}
use Rattle.stream_grammar.proofs.PlainSound as plain
use Rattle.stream_grammar.proofs.PlainSound.{bind_ok, chosen, ok_is, byte_sound}
use Rattle.stream_grammar.proofs.Solid.{Solid, GotBy, got_none, got_sum, got_map}
use Rattle.ser_values.proofs.FrontLaws.{eqb_same}
use Rattle.ser_read.specs.Heads.{head_at}
use Rattle.ser_read.specs.Named.{add_bytes}
use Rattle.ser_read.specs.declared.serving.Want.{Want}
use Rattle.ser_read.specs.declared.serving.Want.TheVariants as wanted
use Rattle.ser_read.specs.Wants.{WantFault, inside, missing_block, block_left, ◌▸◌, lift_fault, Stand, nothing_read, no_block, only_block, opened_at, run_at, reference_at, bytes_at, slot_next, close_at, want_at, serve, serve_to_close, counted_at, only_slot}
use Rattle.ser_read.specs.SpelledWants.{SpellsWants}
use Rattle.ser_read.specs.WantLaws.{AreEmptyBlocks, BeginsNoBlock}
use Rattle.ser_read.proofs.Empties.{Empties}
use Rattle.ser_read.proofs.Missing.{empties_are, want_err}
use Rattle.ser_read.proofs.Heading.{header_is}
use Rattle.ser_read.proofs.Slots.{slot_is}
use Rattle.ser_read.proofs.Runs.{opened_here}
use Rattle.ser_read.proofs.Served.{want_ok, lifted_ok, lifted_is, given_is, are, reference_sound}
use Rattle.ser_read.proofs.SpelledWants.{ServeOk, AllOk, asked_sound}
use Rattle.ser_read.proofs.Given.{asked_complete}
use Rattle.ser_read.proofs.WantLaws.{served_after}
use Rattle.stream_laws.specs.Reads.{BeginsReference}
use Rattle.stream_laws.specs.WantFails.{Opens, Runs, HasReference, Serves, Behind, ReferenceWanted, BytesWanted, LeftInBlock, so_far, WantFails, of_reference, of_part, of_length, of_reset, of_exception, of_code, of_no_block, of_next_block, of_block, of_last_block, DiffersAt}
use Rattle.stream_laws.proofs.Aheads.{Ahead, of_block, of_code, ahead_at, within_ahead, as_block, as_slot, is_none, same_block, same_slot, found, ahead_fault, ahead_passed, full_here, code_here, long_here}
use Rattle.stream_laws.proofs.Reading.{ok_first, room_of, with_room, byte_has, has_byte}
use Rattle.stream_laws.proofs.Giving.{same_references}
use Rattle.stream_laws.proofs.Failing.{err_is, bind_err, err_first, byte_firm, size_fault, size_faulty, levels}

-- ---- steps that failed

abbrev pub missed : {A : Type 0} → WantFault → Result A WantFault
missed f = Err f

pub miss_is : {A : Type 0} (f g : WantFault) → missed {A = A} f ≡ missed {A = A} g → f ≡ g
miss_is f g e = cc

pub inside_is : (f g : Fault) → inside f ≡ inside g → f ≡ g
inside_is f g e = cc

pub bind_miss : {A B : Type 0} (r : Result A WantFault) (k : A → Result B WantFault) (e : WantFault) → (r ▸ k) ≡ Err e → (r ≡ Err e) ⊎ ((x : A) × (r ≡ Ok x) × (k x ≡ Err e))
bind_miss (Ok x) k e h = inr (x, refl, h)
bind_miss (Err g) k e h = let same : g ≡ e = cc in inl (ap (λ x. Err x) same)

pub miss_first : {A B : Type 0} (r : Result A WantFault) (k : A → Result B WantFault) (e : WantFault) → r ≡ Err e → (r ▸ k) ≡ Err e
miss_first (Ok x) k e h = absurd cc
miss_first (Err g) k e h = let same : g ≡ e = cc in ap (λ x. Err x) same

pub met_first : {A B : Type 0} (r : Result A WantFault) (k : A → Result B WantFault) (x : A) (y : Result B WantFault) → r ≡ Ok x → k x ≡ y → (r ▸ k) ≡ y
met_first r k x y e h = ap (λ z. z ▸ k) e ∙ h

pub lifted_miss : {A : Type 0} (r : Result A Fault) (e : WantFault) → lift_fault r ≡ Err e → (f : Fault) × (r ≡ Err f) × (inside f ≡ e)
lifted_miss (Ok x) e h = absurd cc
lifted_miss (Err f) e h = (f, refl, miss_is (inside f) e h)

pub lift_err : {A : Type 0} (r : Result A Fault) (f : Fault) → r ≡ Err f → lift_fault r ≡ Err (inside f)
lift_err r f h = ap lift_fault h

pub lift_ok : {A : Type 0} (r : Result A Fault) (x : A) → r ≡ Ok x → lift_fault r ≡ Ok x
lift_ok r x h = ap lift_fault h

-- a fault of what is read inside is none of bytes that end
pub firm_inside : (f : Fault) (e : WantFault) → e ≢ inside short → inside f ≡ e → f ≢ short
firm_inside f e firm same is = firm (sym same ∙ ap inside is)

-- ---- the magic number and the version

magic_differs : (end : ℕ) (bytes ws seen bs : List ℕ) (f : Fault) → f ≢ short → 0xAC ∷ 0xED ∷ 0x00 ∷ 0x05 ∷ [] ≡ seen ++ ws → bytes ≡ seen ++ bs → magic_at end ws bs ≡ Err f → (at : ℕ) × DiffersAt end bytes at × (f ≡ bad bad_magic at)
unfolding magic_at
magic_differs end bytes [] seen bs f firm head parts e = absurd cc
magic_differs end bytes (w ∷ ws) seen [] f firm head parts e = absurd (firm (sym (err_is short f e)))
magic_differs end bytes (w ∷ ws) seen (b ∷ bs) f firm head parts e = elim (chosen (eqb b w) _ _ _ e) [
  | inl p ↦ magic_differs end bytes ws (seen ++ w ∷ []) bs f firm (head ∙ sym (append_assoc seen (w ∷ []) ws)) (parts ∙ (ap (λ k. seen ++ k ∷ bs) (eqb-true b w p.0) ∙ sym (append_assoc seen (w ∷ []) bs))) p.1
  | inr p ↦ (end - length (b ∷ bs), record { front = seen; here = b ∷ bs; parts = parts; differs = record { byte = b; rest = bs; is = refl; wanted = w; others = ws; head = head; differs = eqb-false b w p.0 }; place = refl }, sym (err_is _ f p.1))
]

differs_fails : (end : ℕ) (ws bs front others here : List ℕ) (w b : ℕ) (rest : List ℕ) → ws ≡ front ++ w ∷ others → bs ≡ front ++ here → here ≡ b ∷ rest → b ≢ w → magic_at end ws bs ≡ Err (bad bad_magic (end - length here))
unfolding magic_at
differs_fails end ws bs [] others here w b rest head parts is ne = rw (head, parts, is) (rw (ne_eqb b w ne) refl)
differs_fails end ws bs (x ∷ front) others here w b rest head parts is ne = rw (head, parts) (rw (eqb_same x) (differs_fails end (front ++ w ∷ others) (front ++ here) front others here w b rest refl refl is ne))

pub magic_fails : (end : ℕ) (bytes : List ℕ) (at : ℕ) → DiffersAt end bytes at → magic_at end (0xAC ∷ 0xED ∷ 0x00 ∷ 0x05 ∷ []) bytes ≡ Err (bad bad_magic at)
magic_fails end bytes at d = differs_fails end _ bytes d.front d.differs.others d.here d.differs.wanted d.differs.byte d.differs.rest d.differs.head d.parts d.differs.is d.differs.differs ∙ ap (λ k. Err (bad bad_magic k)) (sym d.place)

pub magic_stops : (end : ℕ) (bytes : List ℕ) (f : Fault) → f ≢ short → magic_at end (0xAC ∷ 0xED ∷ 0x00 ∷ 0x05 ∷ []) bytes ≡ Err f → (at : ℕ) × DiffersAt end bytes at × (f ≡ bad bad_magic at)
magic_stops end bytes f firm e = magic_differs end bytes (0xAC ∷ 0xED ∷ 0x00 ∷ 0x05 ∷ []) [] bytes f firm refl refl e

-- ---- runs of bytes

abbrev one_of : ℕ → ℕ → ℕ × List ℕ → Result (List ℕ × ℕ × List ℕ) WantFault
one_of end n o = lift_fault (byte_at o.1) ▸ λ b. run_at end n (o.0 - 1) b.1 ▸ λ r. Ok (b.0 ∷ r.0, r.1, r.2)

-- fewer bytes were there, up to the end of a block
record RunStops (end n block : ℕ) (bs : List ℕ) (e : WantFault) : Type 0 where
  count : ℕ
  fewer : count < n
  given : List ℕ
  rest : List ℕ
  read : run_at end count block bs ≡ Ok (given, 0, rest)
  left : plain.AreBytes rest
  fails : (lift_fault (ahead_at end rest) ▸ as_block) ≡ Err e

opened_bytes : (end block : ℕ) (bs : List ℕ) (o : ℕ × List ℕ) → opened_at end block bs ≡ Ok o → plain.AreBytes bs → plain.AreBytes o.1
unfolding opened_at
opened_bytes end block bs o e bytes = elim (chosen (eqb block 0) _ _ _ e) [
  | inr p ↦ subst (λ (x : ℕ × List ℕ). plain.AreBytes x.1) (given_is (block, bs) o p.1) bytes
  | inl p ↦ (let h = lifted_ok (ahead_at end bs) as_block o (sym (same_block end (suc (length bs)) bs) ∙ p.1) in by h.0 h.1 h.2)
]
  where
    by : (h : Ahead × List ℕ) → ahead_at end bs ≡ Ok h → as_block h ≡ Ok o → plain.AreBytes o.1
    by (of_block n, rest) is e = let f = found end (suc (length bs)) bs (of_block n, rest) is bytes in subst (λ (x : ℕ × List ℕ). plain.AreBytes x.1) (given_is (n, rest) o e) f.left
    by (of_code code at, rest) is e = absurd cc

run_stops : (end n block : ℕ) (bs : List ℕ) (e : WantFault) → e ≢ inside short → run_at end n block bs ≡ Err e → plain.AreBytes bs → RunStops end n block bs e
unfolding run_at opened_at
run_stops end zero block bs e firm h bytes = absurd cc
run_stops end (suc n) block bs e firm h bytes = elim (bind_miss (opened_at end block bs) (one_of end n) e h) [
  | inl g ↦ elim (chosen (eqb block 0) _ _ _ g) [
    | inr p ↦ absurd (let q = p.1 in cc)
    | inl p ↦ (
        let none : block ≡ 0 = eqb-true block 0 p.0 in
        record { count = 0; fewer = omega arith; given = []; rest = bs; read = ap (λ k. Ok ([], k, bs)) none; left = bytes; fails = sym (same_block end (suc (length bs)) bs) ∙ p.1 })
  ]
  | inr o ↦ elim (bind_miss (lift_fault (byte_at o.0.1)) (λ b. run_at end n (o.0.0 - 1) b.1 ▸ λ r. Ok (b.0 ∷ r.0, r.1, r.2)) e o.2) [
    | inl g ↦ (let l = lifted_miss (byte_at o.0.1) e g in absurd (byte_firm end l.0 (firm_inside l.0 e firm l.2) o.0.1 l.1))
    | inr c ↦ (
        let b = lifted_ok (byte_at o.0.1) (λ x. Ok x) c.0 (ap (λ z. z ▸ λ x. Ok x) c.1) in
        let read : byte_at o.0.1 ≡ Ok b.0 = b.1 in
        let same : b.0 ≡ c.0 = given_is b.0 c.0 b.2 in
        let byte : byte_at o.0.1 ≡ Ok c.0 = read ∙ ap (λ (x : ℕ × List ℕ). Ok x) same in
        let left : plain.AreBytes (c.0.0 ∷ c.0.1) = subst plain.AreBytes (byte_sound o.0.1 c.0 byte) (opened_bytes end block bs o.0 o.1 bytes) in
        let r = run_stops end n (o.0.0 - 1) c.0.1 e firm (want_err (run_at end n (o.0.0 - 1) c.0.1) (λ r. (c.0.0 ∷ r.0, r.1, r.2)) e c.2) left.1 in
        record {
          count = suc r.count;
          fewer = omega (arith, r.fewer);
          given = c.0.0 ∷ r.given;
          rest = r.rest;
          read = met_first (opened_at end block bs) (one_of end r.count) o.0 _ o.1 (met_first (lift_fault (byte_at o.0.1)) _ c.0 _ c.1 (met_first (run_at end r.count (o.0.0 - 1) c.0.1) _ (r.given, 0, r.rest) _ r.read refl));
          left = r.left;
          fails = r.fails;
        })
  ]
]

run_fails : (end n count block : ℕ) (bs given rest : List ℕ) (e : WantFault) → count < n → run_at end count block bs ≡ Ok (given, 0, rest) → (lift_fault (ahead_at end rest) ▸ as_block) ≡ Err e → run_at end n block bs ≡ Err e
unfolding run_at opened_at
run_fails end zero count block bs given rest e lt h g = absurd (omega arith)
run_fails end (suc n) zero block bs given rest e lt h g =
    let same : ([], block, bs) ≡ (given, 0, rest) = given_is {A = List ℕ × ℕ × List ℕ} ([], block, bs) (given, 0, rest) h in
    let none : block ≡ 0 = ap (λ (x : List ℕ × ℕ × List ℕ). x.1) same in
    let here : bs ≡ rest = ap (λ (x : List ℕ × ℕ × List ℕ). x.2) same in
    rw (none, here) (miss_first (lift_fault (head_at end rest) ▸ only_block) (one_of end n) e (same_block end (suc (length rest)) rest ∙ g))
run_fails end (suc n) (suc count) block bs given rest e lt h g =
    let o = want_ok (opened_at end block bs) (one_of end count) _ h in
    let c = want_ok (lift_fault (byte_at o.0.1)) (λ b. run_at end count (o.0.0 - 1) b.1 ▸ λ r. Ok (b.0 ∷ r.0, r.1, r.2)) _ o.2 in
    let r = want_ok (run_at end count (o.0.0 - 1) c.0.1) (λ r. Ok (c.0.0 ∷ r.0, r.1, r.2)) _ c.2 in
    let same : (c.0.0 ∷ r.0.0, r.0.1, r.0.2) ≡ (given, 0, rest) = given_is {A = List ℕ × ℕ × List ℕ} (c.0.0 ∷ r.0.0, r.0.1, r.0.2) (given, 0, rest) r.2 in
    let read : run_at end count (o.0.0 - 1) c.0.1 ≡ Ok (r.0.0, 0, rest) = r.1 ∙ ap (λ (x : List ℕ × ℕ × List ℕ). Ok (r.0.0, x.1, x.2)) same in
    met_first (opened_at end block bs) (one_of end n) o.0 _ o.1 (met_first (lift_fault (byte_at o.0.1)) _ c.0 _ c.1 (miss_first (run_at end n (o.0.0 - 1) c.0.1) _ e (run_fails end n count (o.0.0 - 1) c.0.1 r.0.0 rest e (omega arith) read g)))

-- ---- wants, one after the other

abbrev WantOk : Type 0
WantOk = Item × Stand × List ℕ

record ServeStops (end : ℕ) (ws : List Want) (s : Stand) (bs : List ℕ) (e : WantFault) : Type 0 where
  before : List Want
  want : Want
  later : List Want
  parts : ws ≡ before ++ want ∷ later
  x : ServeOk
  read : serve end before s bs ≡ Ok x
  fails : want_at end want x.1 x.2 ≡ Err e

serve_stops : (end : ℕ) (ws : List Want) (s : Stand) (bs : List ℕ) (e : WantFault) → serve end ws s bs ≡ Err e → ServeStops end ws s bs e
unfolding serve
serve_stops end [] s bs e h = absurd cc
serve_stops end (w ∷ ws) s bs e h = elim (bind_miss (want_at end w s bs) (λ x. serve end ws x.1 x.2 ▸ λ xs. Ok (x.0 ∷ xs.0, xs.1, xs.2)) e h) [
  | inl g ↦ record { before = []; want = w; later = ws; parts = refl; x = ([], s, bs); read = refl; fails = g }
  | inr a ↦ (
      let r = serve_stops end ws a.0.1 a.0.2 e (want_err (serve end ws a.0.1 a.0.2) (λ xs. (a.0.0 ∷ xs.0, xs.1, xs.2)) e a.2) in
      record {
        before = w ∷ r.before;
        want = r.want;
        later = r.later;
        parts = ap (λ (l : List Want). w ∷ l) r.parts;
        x = (a.0.0 ∷ r.x.0, r.x.1, r.x.2);
        read = met_first (want_at end w s bs) _ a.0 _ a.1 (met_first (serve end r.before a.0.1 a.0.2) _ r.x _ r.read refl);
        fails = r.fails;
      })
]

serve_fails : (end : ℕ) (before : List Want) (w : Want) (later : List Want) (s : Stand) (bs : List ℕ) (x : ServeOk) (e : WantFault) → serve end before s bs ≡ Ok x → want_at end w x.1 x.2 ≡ Err e → serve end (before ++ w ∷ later) s bs ≡ Err e
unfolding serve
serve_fails end [] w later s bs x e h g =
    let same : ([], s, bs) ≡ x = given_is {A = ServeOk} ([], s, bs) x h in
    miss_first (want_at end w s bs) _ e (subst (λ (y : ServeOk). want_at end w y.1 y.2 ≡ Err e) (sym same) g)
serve_fails end (v ∷ before) w later s bs x e h g =
    let a = want_ok (want_at end v s bs) (λ x. serve end before x.1 x.2 ▸ λ xs. Ok (x.0 ∷ xs.0, xs.1, xs.2)) x h in
    let b = want_ok (serve end before a.0.1 a.0.2) (λ xs. Ok (a.0.0 ∷ xs.0, xs.1, xs.2)) x a.2 in
    let same : (a.0.0 ∷ b.0.0, b.0.1, b.0.2) ≡ x = given_is {A = ServeOk} (a.0.0 ∷ b.0.0, b.0.1, b.0.2) x b.2 in
    let more = serve_fails end before w later a.0.1 a.0.2 b.0 e b.1 (subst (λ (y : ServeOk). want_at end w y.1 y.2 ≡ Err e) (sym same) g) in
    met_first (want_at end v s bs) _ a.0 _ a.1 (miss_first (serve end (before ++ w ∷ later) a.0.1 a.0.2) _ e more)

-- ---- wants that end with a block or a reference are spelled

abbrev with_parts : List Node → ℕ → Progress
with_parts nodes k = record { nodes = nodes; parts = k }

record Closed (ws : List Want) (contents : List ℕ) (x : ServeOk) : Type 0 where
  front : List ℕ
  is : contents ≡ front ++ x.2
  spelled : SpellsWants ws x.0 x.1.progress.nodes front
  progress : x.1.progress ≡ so_far x.1.progress.nodes x.0
  left : plain.AreBytes x.2

run_left : (end n block : ℕ) (bs : List ℕ) (y : List ℕ × ℕ × List ℕ) → run_at end n block bs ≡ Ok y → plain.AreBytes bs → plain.AreBytes y.2
unfolding run_at
run_left end zero block bs y h bytes = subst (λ (x : List ℕ × ℕ × List ℕ). plain.AreBytes x.2) (given_is {A = List ℕ × ℕ × List ℕ} ([], block, bs) y h) bytes
run_left end (suc n) block bs y h bytes =
    let o = want_ok (opened_at end block bs) (one_of end n) y h in
    let b = lifted_ok (byte_at o.0.1) (λ b. run_at end n (o.0.0 - 1) b.1 ▸ λ r. Ok (b.0 ∷ r.0, r.1, r.2)) y o.2 in
    let r = want_ok (run_at end n (o.0.0 - 1) b.0.1) (λ r. Ok (b.0.0 ∷ r.0, r.1, r.2)) y b.2 in
    let left : plain.AreBytes (b.0.0 ∷ b.0.1) = subst plain.AreBytes (byte_sound o.0.1 b.0 b.1) (opened_bytes end block bs o.0 o.1 bytes) in
    subst (λ (x : List ℕ × ℕ × List ℕ). plain.AreBytes x.2) (given_is {A = List ℕ × ℕ × List ℕ} (b.0.0 ∷ r.0.0, r.0.1, r.0.2) y r.2) (run_left end n (o.0.0 - 1) b.0.1 r.0 r.1 left.1)

-- what wants add to the nodes and the parts
abbrev Adds : Stand → ServeOk → Type 0
Adds s x = GotBy (refs_in x.0) [] s.progress x.1.progress x.2 (λ F. Unit {0})

abbrev AddsOne : Stand → WantOk → Type 0
AddsOne s x = GotBy (refs_in (x.0 ∷ [])) [] s.progress x.1.progress x.2 (λ F. Unit {0})

refs_more : (i : Item) (is : List Item) → refs_in (i ∷ is) ≡ refs_in (i ∷ []) + refs_in is
unfolding item_wants
refs_more (items.Bytes p) is = omega arith
refs_more (items.Ref s) is = omega arith

want_adds : (end : ℕ) (w : Want) (s : Stand) (bs : List ℕ) (x : WantOk) → want_at end w s bs ≡ Ok x → Solid [] s.progress → plain.AreBytes bs → AddsOne s x
unfolding want_at bytes_at slot_next item_wants
want_adds end (wanted.Bytes n) s bs x e solid bytes =
    let d = want_ok (bytes_at end n s bs) (λ x. Ok (items.Bytes x.0, x.1, x.2)) x e in
    let r = want_ok (run_at end n s.block bs) (λ r. Ok (r.0, record { progress = s.progress; items = add_bytes s.items r.0; block = r.1 }, r.2)) d.0 d.1 in
    let now : Stand = record { progress = s.progress; items = add_bytes s.items r.0.0; block = r.0.1 } in
    let one : (r.0.0, now, r.0.2) ≡ d.0 = given_is (r.0.0, now, r.0.2) d.0 r.2 in
    let two : (items.Bytes r.0.0, now, r.0.2) ≡ x = ap (λ (x : List ℕ × Stand × List ℕ). (items.Bytes x.0, x.1, x.2)) one ∙ given_is (items.Bytes d.0.0, d.0.1, d.0.2) x d.2 in
    subst (λ (x : WantOk). AddsOne s x) two (got_none [] s.progress r.0.2 (λ F. Unit {0}) solid (run_left end n s.block bs r.0 r.1 bytes) (λ F sees. tt))
want_adds end wanted.Slot s bs x e solid bytes =
    let d = want_ok (slot_next end s bs) (λ x. Ok (items.Ref x.0, x.1, x.2)) x e in
    elim (chosen (eqb s.block 0) _ _ _ d.1) [
      | inr p ↦ absurd (let q = p.1 in cc)
      | inl p ↦ (
          let r = want_ok (reference_at end s.progress bs) _ d.0 p.1 in
          let now : Stand = record { progress = r.0.1; items = s.items ++ items.Ref r.0.0 ∷ []; block = 0 } in
          let one : (r.0.0, now, r.0.2) ≡ d.0 = given_is (r.0.0, now, r.0.2) d.0 r.2 in
          let two : (items.Ref r.0.0, now, r.0.2) ≡ x = ap (λ (x : Slot × Stand × List ℕ). (items.Ref x.0, x.1, x.2)) one ∙ given_is (items.Ref d.0.0, d.0.1, d.0.2) x d.2 in
          let g = (reference_sound end s.progress bs r.0 r.1 solid bytes).got in
          subst (λ (x : WantOk). AddsOne s x) two (got_map [] s.progress r.0.1 r.0.2 _ (λ F. Unit {0}) g (λ F sees h. tt)))
    ]

adds : (end : ℕ) (ws : List Want) (s : Stand) (bs : List ℕ) (x : ServeOk) → serve end ws s bs ≡ Ok x → Solid [] s.progress → plain.AreBytes bs → Adds s x
unfolding serve item_wants
adds end [] s bs x e solid bytes = subst (λ (x : ServeOk). Adds s x) (given_is {A = ServeOk} ([], s, bs) x e) (got_none [] s.progress bs (λ F. Unit {0}) solid bytes (λ F sees. tt))
adds end (w ∷ ws) s bs x e solid bytes =
    let a = want_ok (want_at end w s bs) (λ x. serve end ws x.1 x.2 ▸ λ xs. Ok (x.0 ∷ xs.0, xs.1, xs.2)) x e in
    let b = want_ok (serve end ws a.0.1 a.0.2) (λ xs. Ok (a.0.0 ∷ xs.0, xs.1, xs.2)) x a.2 in
    let g = want_adds end w s bs a.0 a.1 solid bytes in
    let h = adds end ws a.0.1 a.0.2 b.0 b.1 g.solid g.left in
    subst (λ (x : ServeOk). Adds s x) (given_is {A = ServeOk} (a.0.0 ∷ b.0.0, b.0.1, b.0.2) x b.2) (got_sum (refs_in (a.0.0 ∷ b.0.0)) (refs_more a.0.0 b.0.0) [] s.progress a.0.1.progress b.0.1.progress a.0.2 b.0.2 (λ F. Unit {0}) (λ F. Unit {0}) (λ F. Unit {0}) g h (λ F sees p q. tt))

start_solid : Solid [] (record { nodes = []; parts = 0 })
unfolding has
start_solid = record { above = λ k i gone is desc. absurd cc; good = λ k i gone is. absurd cc; below = λ k h. absurd cc; few = omega arith; ranged = All-nil InRange }

progress_of : (end : ℕ) (ws : List Want) (contents : List ℕ) (x : ServeOk) → serve end ws nothing_read contents ≡ Ok x → plain.AreBytes contents → (x.1.progress ≡ so_far x.1.progress.nodes x.0) × plain.AreBytes x.2
unfolding has parts_in
progress_of end ws contents x e bytes =
    let solid : Solid [] (record { nodes = []; parts = 0 }) = record { above = λ k i gone is desc. absurd cc; good = λ k i gone is. absurd cc; below = λ k h. absurd cc; few = omega arith; ranged = All-nil InRange } in
    let g = adds end ws nothing_read contents x e solid bytes in
    let all : parts_in x.1.progress.nodes ≡ parts_in g.added = ap parts_in g.grown in
    let sum = g.parts in
    let same : x.1.progress.parts ≡ parts_in x.1.progress.nodes + refs_in x.0 = omega arith in
    (ap (λ k. with_parts x.1.progress.nodes k) same, g.left)

closed : (end : ℕ) (ws : List Want) (contents : List ℕ) (x : ServeOk) → serve end ws nothing_read contents ≡ Ok x → x.1.block ≡ 0 → plain.AreBytes contents → Closed ws contents x
unfolding serve_to_close close_at
closed end ws contents x e none bytes =
    let y : AllOk = (x.0, x.1.progress.nodes, x.1.items, x.2) in
    let whole : serve_to_close end ws nothing_read contents ≡ Ok y = met_first (serve end ws nothing_read contents) _ x _ e (rw none refl) in
    let a = asked_sound end ws contents y whole bytes in
    let p = progress_of end ws contents x e bytes in
    record { front = a.front; is = a.is; spelled = a.asked; progress = p.0; left = p.1 }

-- what is spelled was read
record Read (end : ℕ) (ws : List Want) (answers : List Item) (nodes : List Node) (bs rest : List ℕ) : Type 0 where
  stand : Stand
  read : serve end ws nothing_read bs ≡ Ok (answers, stand, rest)
  none : stand.block ≡ 0
  progress : stand.progress ≡ so_far nodes answers

reads : (end : ℕ) (ws : List Want) (answers : List Item) (nodes : List Node) (front rest : List ℕ) → SpellsWants ws answers nodes front → plain.AreBytes (front ++ rest) → Read end ws answers nodes (front ++ rest) rest
unfolding serve_to_close close_at
reads end ws answers nodes front rest spelled bytes =
    let whole = asked_complete end ws answers nodes front rest spelled in
    let a = want_ok (serve end ws nothing_read (front ++ rest)) (λ x. close_at (end - length x.2) x.1 ▸ λ g. Ok (x.0, g.0, g.1, x.2)) _ whole in
    let c = want_ok (close_at (end - length a.0.2) a.0.1) (λ g. Ok (a.0.0, g.0, g.1, a.0.2)) _ a.2 in
    let last : (a.0.0, c.0.0, c.0.1, a.0.2) ≡ (answers, nodes, joined answers, rest) = given_is {A = AllOk} (a.0.0, c.0.0, c.0.1, a.0.2) (answers, nodes, joined answers, rest) c.2 in
    elim (chosen (eqb a.0.1.block 0) _ _ _ c.1) [
      | inr p ↦ absurd (let q = p.1 in cc)
      | inl p ↦ (
          let none : a.0.1.block ≡ 0 = eqb-true a.0.1.block 0 p.0 in
          let one : (a.0.1.progress.nodes, a.0.1.items) ≡ c.0 = given_is {A = List Node × List Item} (a.0.1.progress.nodes, a.0.1.items) c.0 p.1 in
          let same : a.0.1.progress.nodes ≡ nodes = ap (λ (g : List Node × List Item). g.0) one ∙ ap (λ (y : AllOk). y.1) last in
          let g = progress_of end ws (front ++ rest) a.0 a.1 bytes in
          record {
            stand = a.0.1;
            read = a.1 ∙ ap (λ (y : AllOk). Ok (y.0, a.0.1, y.3)) last;
            none = none;
            progress = g.0 ∙ (ap (λ (l : List Node). so_far l a.0.0) same ∙ ap (λ (y : AllOk). so_far nodes y.0) last);
          })
    ]

-- What was read where wants are spelled is sound.
pub solid_behind : (ws : List Want) (answers : List Item) (nodes : List Node) (front : List ℕ) → SpellsWants ws answers nodes front → Solid [] (so_far nodes answers)
solid_behind ws answers nodes front spelled =
    let bytes : plain.AreBytes (front ++ []) = subst plain.AreBytes (sym (append-nil front)) (are front spelled.are_bytes) in
    let r = reads 0 ws answers nodes front [] spelled bytes in
    subst (λ (p : Progress). Solid [] p) r.progress (adds 0 ws nothing_read (front ++ []) (answers, r.stand, []) r.read start_solid bytes).solid

-- ---- wanted references

-- a reference's first byte, which begins no block
begins_here : (code : ℕ) (there : List ℕ) → code ≢ 0x77 → code ≢ 0x7A → BeginsReference false (code ∷ there)
begins_here code there a b = record { code = code; rest = there; is = refl; goes_on = λ e. absurd cc; no_block = a; no_long_block = b }

slot_coded : (end : ℕ) (now : Progress) (code : ℕ) (there : List ℕ) → slot_at end LEVELS places.Reference [] now (code ∷ there) ≡ coded end LEVELS (slot_at end (LEVELS - 1)) places.Reference [] (end - length (code ∷ there)) code now there
slot_coded end now code there = slot_is end LEVELS places.Reference [] now (code ∷ there)

abbrev SlotOk : Type 0
SlotOk = Slot × Progress × List ℕ

-- a reference that is read at its code, where so much was read
read_here : (end at code : ℕ) (now later : Progress) (rest : List ℕ) (y : Result SlotOk Fault) → at ≡ end - length (code ∷ rest) → now ≡ later → coded end LEVELS (slot_at end (LEVELS - 1)) places.Reference [] at code now rest ≡ y → slot_at end LEVELS places.Reference [] later (code ∷ rest) ≡ y
read_here end at code now later rest y here same h =
    slot_coded end later code rest ∙ (ap (λ k. coded end LEVELS (slot_at end (LEVELS - 1)) places.Reference [] k code later rest) (sym here) ∙ (ap (λ p. coded end LEVELS (slot_at end (LEVELS - 1)) places.Reference [] at code p rest) (sym same) ∙ h))

-- behind what was read, and empty blocks
behind_of : {ws : List Want} {contents : List ℕ} {x : ServeOk} (c : Closed ws contents x) (count : ℕ) (mid : List ℕ) → Empties count x.2 mid → (there : List ℕ) → mid ≡ there → Behind ws contents there
behind_of {ws} {contents} {x} c count mid empties there same =
    let b = empties_are count x.2 mid empties in
    record {
      answers = x.0;
      nodes = x.1.progress.nodes;
      front = c.front;
      spelled = c.spelled;
      count = count;
      blocks = b.0;
      empty = b.1;
      parts = c.is ∙ ap (λ (l : List ℕ). c.front ++ l) (b.2 ∙ ap (λ (l : List ℕ). b.0 ++ l) same);
    }

some_bytes : (n : ℕ) → is_none (of_block n) ≡ false → 0 < n
some_bytes zero h = absurd cc
some_bytes (suc n) h = omega arith

reference_stops : (end : ℕ) (wants before later : List Want) (contents : List ℕ) (x : ServeOk) (e : WantFault) → e ≢ inside short → wants ≡ before ++ wanted.Slot ∷ later → Closed before contents x → reference_at end x.1.progress x.2 ≡ Err e → WantFails end wants contents e
unfolding reference_at behind_of
reference_stops end wants before later contents x e firm are c h = elim (bind_miss (lift_fault (ahead_at end x.2)) (as_slot end x.1.progress) e (sym (same_slot end (suc (length x.2)) x.1.progress x.2) ∙ h)) [
  | inl g ↦ (
      let l = lifted_miss (ahead_at end x.2) e g in
      let f = ahead_fault end (suc (length x.2)) x.2 l.0 (firm_inside l.0 e firm l.2) l.1 c.left in
      let n = size_fault end l.0 (firm_inside l.0 e firm l.2) w32 (2 ^ 31) f.rest f.fails in
      let w : ReferenceWanted wants contents (0x7A ∷ f.rest) = record { before = before; later = later; are = are; behind = behind_of c f.count f.mid f.empties (0x7A ∷ f.rest) f.begins } in
      subst (λ z. WantFails end wants contents z) (ap inside (sym n.3) ∙ l.2) (of_length f.rest n.0 (inl w) n.1 n.2))
  | inr y ↦ (let a = lifted_ok (ahead_at end x.2) (λ z. Ok z) y.0 (ap (λ z. z ▸ λ z. Ok z) y.1) in by a.0 a.1 (subst (λ z. as_slot end x.1.progress z ≡ Err e) (sym (given_is a.0 y.0 a.2)) y.2))
]
  where
    by : (y : Ahead × List ℕ) → ahead_at end x.2 ≡ Ok y → as_slot end x.1.progress y ≡ Err e → WantFails end wants contents e
    by (of_block n, rest) is g =
        let f = found end (suc (length x.2)) x.2 (of_block n, rest) is c.left in
        let k = header_is n f.mid rest f.is in
        let w : ReferenceWanted wants contents (k.0 ++ rest) = record { before = before; later = later; are = are; behind = behind_of c f.count f.mid f.empties (k.0 ++ rest) k.2 } in
        subst (λ z. WantFails end wants contents z) (miss_is _ e g) (of_next_block n k.0 rest w (some_bytes n f.some) k.1)
    by (of_code code at, rest) is g =
        let f = found end (suc (length x.2)) x.2 (of_code code at, rest) is c.left in
        let l = lifted_miss (counted_at end at code x.1.progress rest) e g in
        let firm_f = firm_inside l.0 e firm l.2 in
        let here : at ≡ end - length (code ∷ rest) = f.is.3 ∙ ap (λ (l : List ℕ). end - length l) f.is.0 in
        let w : ReferenceWanted wants contents (code ∷ rest) = record { before = before; later = later; are = are; behind = behind_of c f.count f.mid f.empties (code ∷ rest) f.is.0 } in
        let now = so_far x.1.progress.nodes x.0 in
        let begins = begins_here code rest f.is.1 f.is.2 in
        elim (bind_err (coded end LEVELS (slot_at end (LEVELS - 1)) places.Reference [] at code x.1.progress rest) _ l.0 l.1) [
          | inl h ↦ (
              let fails = (levels end l.0 firm_f LEVELS).down places.Reference [] now (code ∷ rest) (read_here end at code x.1.progress now rest (Err l.0) here c.progress h) in
              subst (λ z. WantFails end wants contents z) l.2 (of_reference l.0 (code ∷ rest) w begins fails))
          | inr y ↦ elim (chosen (ltb PARTS (y.0.1.parts + 1)) _ _ _ y.2) [
            | inr p ↦ absurd (let q = p.1 in cc)
            | inl p ↦ (
                let read = ((same_references end LEVELS).at places.Reference []).to now (code ∷ rest) y.0 (read_here end at code x.1.progress now rest (Ok y.0) here c.progress y.1) in
                let why : too_many at ≡ l.0 = err_is {A = SlotOk} (too_many at) l.0 p.1 in
                subst (λ z. WantFails end wants contents z) (ap (λ k. inside (too_many k)) (sym here) ∙ (ap inside why ∙ l.2)) (of_part (code ∷ rest) y.0 w begins read (ltb-true PARTS (y.0.1.parts + 1) p.0)))
          ]
        ]

-- ---- what wants ask for, by the bytes

first_byte : (a b : ℕ) (xs ys : List ℕ) → a ∷ xs ≡ b ∷ ys → a ≡ b
first_byte a b xs ys e = cc

abbrev opened_so : ℕ × List ℕ → Result (ℕ × List ℕ) WantFault
opened_so o = Ok o

abbrev ran_so : List ℕ × ℕ × List ℕ → Result (List ℕ × ℕ × List ℕ) WantFault
ran_so y = Ok y

opens_to : (end left : ℕ) (bs : List ℕ) (o : ℕ × List ℕ) → opened_at end left bs ≡ Ok o → plain.AreBytes bs → Opens left bs o
unfolding opened_at
opens_to end (suc left) bs o e bytes = sym (given_is (suc left, bs) o (sym (opened_here end (suc left) bs (omega arith)) ∙ e))
opens_to end zero bs o e bytes =
    let h = lifted_ok (ahead_at end bs) as_block o (sym (same_block end (suc (length bs)) bs) ∙ e) in
    by h.0 h.1 h.2
  where
    by : (h : Ahead × List ℕ) → ahead_at end bs ≡ Ok h → as_block h ≡ Ok o → Opens 0 bs o
    by (of_block n, rest) is e =
        let f = found end (suc (length bs)) bs (of_block n, rest) is bytes in
        let k = header_is n f.mid rest f.is in
        let b = empties_are f.count bs f.mid f.empties in
        subst (λ (x : ℕ × List ℕ). Opens 0 bs x) (given_is (n, rest) o e) (some_bytes n f.some, f.count, b.0, k.0, b.1, k.1, b.2 ∙ ap (λ (l : List ℕ). b.0 ++ l) k.2)
    by (of_code code at, rest) is e = absurd cc

opens_from : (end left : ℕ) (bs : List ℕ) (o : ℕ × List ℕ) → Opens left bs o → opened_at end left bs ≡ Ok o
unfolding opened_at
opens_from end (suc left) bs o same = opened_here end (suc left) bs (omega arith) ∙ ap (λ z. opened_so z) (sym same)
opens_from end zero bs o (some, count, blocks, header, empty, is, parts) =
    let there : ahead_at end bs ≡ Ok (of_block o.0, o.1) = ap (ahead_at end) parts ∙ ahead_passed end count blocks (header ++ o.1) (Ok (of_block o.0, o.1)) empty (λ most. full_here end o.0 most header o.1 some is) in
    same_block end (suc (length bs)) bs ∙ ap (λ z. lift_fault z ▸ as_block) there

runs_to : (end n left : ℕ) (bs : List ℕ) (y : List ℕ × ℕ × List ℕ) → run_at end n left bs ≡ Ok y → plain.AreBytes bs → Runs n left bs y
unfolding run_at
runs_to end zero left bs y e bytes = sym (given_is {A = List ℕ × ℕ × List ℕ} ([], left, bs) y e)
runs_to end (suc n) left bs y e bytes =
    let o = want_ok (opened_at end left bs) (one_of end n) y e in
    let b = lifted_ok (byte_at o.0.1) (λ b. run_at end n (o.0.0 - 1) b.1 ▸ λ r. Ok (b.0 ∷ r.0, r.1, r.2)) y o.2 in
    let r = want_ok (run_at end n (o.0.0 - 1) b.0.1) (λ r. Ok (b.0.0 ∷ r.0, r.1, r.2)) y b.2 in
    let more : plain.AreBytes (b.0.0 ∷ b.0.1) = subst plain.AreBytes (byte_sound o.0.1 b.0 b.1) (opened_bytes end left bs o.0 o.1 bytes) in
    (o.0, opens_to end left bs o.0 o.1 bytes, b.0, byte_has o.0.1 b.0 b.1, r.0, runs_to end n (o.0.0 - 1) b.0.1 r.0 r.1 more.1, sym (given_is {A = List ℕ × ℕ × List ℕ} (b.0.0 ∷ r.0.0, r.0.1, r.0.2) y r.2))

runs_from : (end n left : ℕ) (bs : List ℕ) (y : List ℕ × ℕ × List ℕ) → Runs n left bs y → run_at end n left bs ≡ Ok y
unfolding run_at
runs_from end zero left bs y same = ap (λ z. ran_so z) (sym same)
runs_from end (suc n) left bs y (o, opens, b, byte, r, more, same) =
    met_first (opened_at end left bs) (one_of end n) o _ (opens_from end left bs o opens) (met_first (lift_fault (byte_at o.1)) _ b _ (lift_ok (byte_at o.1) b (has_byte o.1 b byte))
    (met_first (run_at end n (o.0 - 1) b.1) _ r _ (runs_from end n (o.0 - 1) b.1 r more) (ap (λ z. ran_so z) (sym same))))

reference_to : (end : ℕ) (now : Progress) (bs : List ℕ) (y : Slot × Progress × List ℕ) → reference_at end now bs ≡ Ok y → plain.AreBytes bs → HasReference now bs y.1 y.2
unfolding reference_at
reference_to end now bs y e bytes =
    let h = lifted_ok (ahead_at end bs) (as_slot end now) y (sym (same_slot end (suc (length bs)) now bs) ∙ e) in
    by h.0 h.1 h.2
  where
    by : (h : Ahead × List ℕ) → ahead_at end bs ≡ Ok h → as_slot end now h ≡ Ok y → HasReference now bs y.1 y.2
    by (of_block n, rest) is e = absurd cc
    by (of_code code at, rest) is e =
        let f = found end (suc (length bs)) bs (of_code code at, rest) is bytes in
        let b = empties_are f.count bs f.mid f.empties in
        let here : at ≡ end - length (code ∷ rest) = f.is.3 ∙ ap (λ (l : List ℕ). end - length l) f.is.0 in
        let x = bind_ok (coded end LEVELS (slot_at end (LEVELS - 1)) places.Reference [] at code now rest) _ y (lifted_is (counted_at end at code now rest) y e) in
        let k = room_of 1 at x.0.1 (Ok (x.0.0, add_parts 1 x.0.1, x.0.2)) y x.2 in
        let read = read_here end at code now now rest (Ok x.0) here refl x.1 in
        subst (λ (y : SlotOk). HasReference now bs y.1 y.2) (ok_is {A = SlotOk} (x.0.0, add_parts 1 x.0.1, x.0.2) y k.1) (record {
          count = f.count;
          blocks = b.0;
          empty = b.1;
          there = code ∷ rest;
          parts = b.2 ∙ ap (λ (l : List ℕ). b.0 ++ l) f.is.0;
          begins = begins_here code rest f.is.1 f.is.2;
          slot = x.0.0;
          mid = x.0.1;
          read = ((same_references end LEVELS).at places.Reference []).to now (code ∷ rest) x.0 read;
          few = k.0;
          same = refl;
        })

abbrev slot_so : Slot → Progress → List ℕ → Result SlotOk Fault
slot_so s now rest = Ok (s, now, rest)

reference_from : (end : ℕ) (now : Progress) (bs : List ℕ) (later : Progress) (rest : List ℕ) (h : HasReference now bs later rest) → reference_at end now bs ≡ Ok (h.slot, later, rest)
unfolding reference_at
reference_from end now bs later rest h = by h.begins.code h.begins.rest h.begins.is
  where
    by : (code : ℕ) (more : List ℕ) → h.there ≡ code ∷ more → (lift_fault (head_at end bs) ▸ only_slot end now) ≡ Ok (h.slot, later, rest)
    by code more is =
        let no_short : code ≢ 0x77 = λ same. h.begins.no_block (first_byte h.begins.code code h.begins.rest more (sym h.begins.is ∙ is) ∙ same) in
        let no_long : code ≢ 0x7A = λ same. h.begins.no_long_block (first_byte h.begins.code code h.begins.rest more (sym h.begins.is ∙ is) ∙ same) in
        let there : ahead_at end bs ≡ Ok (of_code code (end - length (code ∷ more)), more) =
        ap (ahead_at end) h.parts ∙ ahead_passed end h.count h.blocks h.there (Ok (of_code code (end - length (code ∷ more)), more)) h.empty (λ most. ap (within_ahead end (suc most)) is ∙ code_here end code most more no_short no_long) in
        let at = end - length (code ∷ more) in
        let read : slot_at end LEVELS places.Reference [] now (code ∷ more) ≡ Ok (h.slot, h.mid, rest) =
        ap (slot_at end LEVELS places.Reference [] now) (sym is) ∙ ((same_references end LEVELS).at places.Reference []).from now h.there (h.slot, h.mid, rest) h.read in
        let all : counted_at end at code now more ≡ Ok (h.slot, later, rest) =
        ok_first (coded end LEVELS (slot_at end (LEVELS - 1)) places.Reference [] at code now more) _ (h.slot, h.mid, rest) _ (sym (slot_coded end now code more) ∙ read) (with_room 1 at h.mid (Ok (h.slot, add_parts 1 h.mid, rest)) (Ok (h.slot, later, rest)) h.few (ap (λ p. slot_so h.slot p rest) (sym h.same))) in
        same_slot end (suc (length bs)) now bs ∙ (ap (λ z. lift_fault z ▸ as_slot end now) there ∙ lift_ok (counted_at end at code now more) (h.slot, later, rest) all)

abbrev served_so : Stand → List ℕ → Result ServeOk WantFault
served_so s rest = Ok ([], s, rest)

serves_to : (end : ℕ) (ws : List Want) (s : Stand) (bs : List ℕ) (x : ServeOk) → serve end ws s bs ≡ Ok x → Solid [] s.progress → plain.AreBytes bs → Serves ws s.progress s.block bs (x.1.progress, x.1.block, x.2)
unfolding serve want_at bytes_at slot_next
serves_to end [] s bs x e solid bytes = ap (λ (x : ServeOk). (x.1.progress, x.1.block, x.2)) (sym (given_is {A = ServeOk} ([], s, bs) x e))
serves_to end (wanted.Bytes n ∷ ws) s bs x e solid bytes =
    let a = want_ok (want_at end (wanted.Bytes n) s bs) (λ x. serve end ws x.1 x.2 ▸ λ xs. Ok (x.0 ∷ xs.0, xs.1, xs.2)) x e in
    let b = want_ok (serve end ws a.0.1 a.0.2) (λ xs. Ok (a.0.0 ∷ xs.0, xs.1, xs.2)) x a.2 in
    let d = want_ok (bytes_at end n s bs) (λ x. Ok (items.Bytes x.0, x.1, x.2)) a.0 a.1 in
    let r = want_ok (run_at end n s.block bs) (λ r. Ok (r.0, record { progress = s.progress; items = add_bytes s.items r.0; block = r.1 }, r.2)) d.0 d.1 in
    let now : Stand = record { progress = s.progress; items = add_bytes s.items r.0.0; block = r.0.1 } in
    let one : (r.0.0, now, r.0.2) ≡ d.0 = given_is (r.0.0, now, r.0.2) d.0 r.2 in
    let two : (items.Bytes r.0.0, now, r.0.2) ≡ a.0 = ap (λ (x : List ℕ × Stand × List ℕ). (items.Bytes x.0, x.1, x.2)) one ∙ given_is (items.Bytes d.0.0, d.0.1, d.0.2) a.0 d.2 in
    let last : (a.0.0 ∷ b.0.0, b.0.1, b.0.2) ≡ x = given_is {A = ServeOk} (a.0.0 ∷ b.0.0, b.0.1, b.0.2) x b.2 in
    let more : serve end ws now r.0.2 ≡ Ok b.0 = ap (λ (x : WantOk). serve end ws x.1 x.2) two ∙ b.1 in
    (r.0, runs_to end n s.block bs r.0 r.1 bytes, subst (λ (x : ServeOk). Serves ws s.progress r.0.1 r.0.2 (x.1.progress, x.1.block, x.2)) last (serves_to end ws now r.0.2 b.0 more solid (run_left end n s.block bs r.0 r.1 bytes)))
serves_to end (wanted.Slot ∷ ws) s bs x e solid bytes =
    let a = want_ok (want_at end wanted.Slot s bs) (λ x. serve end ws x.1 x.2 ▸ λ xs. Ok (x.0 ∷ xs.0, xs.1, xs.2)) x e in
    let b = want_ok (serve end ws a.0.1 a.0.2) (λ xs. Ok (a.0.0 ∷ xs.0, xs.1, xs.2)) x a.2 in
    let d = want_ok (slot_next end s bs) (λ x. Ok (items.Ref x.0, x.1, x.2)) a.0 a.1 in
    let last : (a.0.0 ∷ b.0.0, b.0.1, b.0.2) ≡ x = given_is {A = ServeOk} (a.0.0 ∷ b.0.0, b.0.1, b.0.2) x b.2 in
    elim (chosen (eqb s.block 0) _ _ _ d.1) [
      | inr p ↦ absurd (let q = p.1 in cc)
      | inl p ↦ (
          let r = want_ok (reference_at end s.progress bs) _ d.0 p.1 in
          let now : Stand = record { progress = r.0.1; items = s.items ++ items.Ref r.0.0 ∷ []; block = 0 } in
          let one : (r.0.0, now, r.0.2) ≡ d.0 = given_is (r.0.0, now, r.0.2) d.0 r.2 in
          let two : (items.Ref r.0.0, now, r.0.2) ≡ a.0 = ap (λ (x : Slot × Stand × List ℕ). (items.Ref x.0, x.1, x.2)) one ∙ given_is (items.Ref d.0.0, d.0.1, d.0.2) a.0 d.2 in
          let more : serve end ws now r.0.2 ≡ Ok b.0 = ap (λ (x : WantOk). serve end ws x.1 x.2) two ∙ b.1 in
          let g = (reference_sound end s.progress bs r.0 r.1 solid bytes).got in
          (eqb-true s.block 0 p.0, r.0.1, r.0.2, reference_to end s.progress bs r.0 r.1 bytes, subst (λ (x : ServeOk). Serves ws r.0.1 0 r.0.2 (x.1.progress, x.1.block, x.2)) last (serves_to end ws now r.0.2 b.0 more g.solid g.left)))
    ]

-- what the wants ask for is read, and leaves this
record ServedAs (end : ℕ) (ws : List Want) (s : Stand) (bs : List ℕ) (left : ℕ) (there : List ℕ) : Type 0 where
  answers : List Item
  stand : Stand
  read : serve end ws s bs ≡ Ok (answers, stand, there)
  same : stand.block ≡ left

serves_from : (end : ℕ) (ws : List Want) (s : Stand) (bs : List ℕ) (y : Progress × ℕ × List ℕ) → Serves ws s.progress s.block bs y → ServedAs end ws s bs y.1 y.2
unfolding serve want_at bytes_at slot_next
serves_from end [] s bs y same = record { answers = []; stand = s; read = ap (λ (z : Progress × ℕ × List ℕ). served_so s z.2) (sym same); same = ap (λ (z : Progress × ℕ × List ℕ). z.1) (sym same) }
serves_from end (wanted.Bytes n ∷ ws) s bs y (r, runs, more) =
    let now : Stand = record { progress = s.progress; items = add_bytes s.items r.0; block = r.1 } in
    let h = serves_from end ws now r.2 y more in
    record {
      answers = items.Bytes r.0 ∷ h.answers;
      stand = h.stand;
      same = h.same;
      read = met_first (want_at end (wanted.Bytes n) s bs) _ (items.Bytes r.0, now, r.2) _ (met_first (bytes_at end n s bs) _ (r.0, now, r.2) _ (met_first (run_at end n s.block bs) _ r _ (runs_from end n s.block bs r runs) refl) refl)
          (met_first (serve end ws now r.2) _ (h.answers, h.stand, y.2) _ h.read refl);
    }
serves_from end (wanted.Slot ∷ ws) s bs y (none, later, rest, reference, more) =
    let now : Stand = record { progress = later; items = s.items ++ items.Ref reference.slot ∷ []; block = 0 } in
    let h = serves_from end ws now rest y more in
    record {
      answers = items.Ref reference.slot ∷ h.answers;
      stand = h.stand;
      same = h.same;
      read = met_first (want_at end wanted.Slot s bs) _ (items.Ref reference.slot, now, rest) _
          (met_first (slot_next end s bs) _ (reference.slot, now, rest) _ (rw none (met_first (reference_at end s.progress bs) _ (reference.slot, later, rest) _ (reference_from end s.progress bs later rest reference) refl)) refl)
          (met_first (serve end ws now rest) _ (h.answers, h.stand, y.2) _ h.read refl);
    }

left_of : (end : ℕ) (ws : List Want) (contents : List ℕ) (x : ServeOk) → serve end ws nothing_read contents ≡ Ok x → plain.AreBytes contents → eqb x.1.block 0 ≡ false → LeftInBlock ws contents x.2
left_of end ws contents x read bytes p = let ne = eqb-false x.1.block 0 p in record { later = x.1.progress; left = x.1.block; serves = serves_to end ws nothing_read contents x read start_solid bytes; some = omega (arith, ne) }

slot_stops : (end : ℕ) (wants before later : List Want) (contents : List ℕ) (x : ServeOk) (e : WantFault) → e ≢ inside short → plain.AreBytes contents → wants ≡ before ++ wanted.Slot ∷ later → serve end before nothing_read contents ≡ Ok x → slot_next end x.1 x.2 ≡ Err e → WantFails end wants contents e
unfolding slot_next
slot_stops end wants before later contents x e firm bytes are read h = elim (chosen (eqb x.1.block 0) _ _ _ h) [
  | inl p ↦ reference_stops end wants before later contents x e firm are (closed end before contents x read (eqb-true x.1.block 0 p.0) bytes) (want_err (reference_at end x.1.progress x.2) _ e p.1)
  | inr p ↦ subst (λ z. WantFails end wants contents z) (miss_is _ e p.1) (of_block before later x.2 are (left_of end before contents x read bytes p.0))
]

-- ---- wanted bytes

outside : (code : ℕ) → (leb 0x70 code && leb code 0x7E) ≡ false → (code < 0x70) ⊎ (0x7E < code)
outside code h = elim (cases_lt code 0x70) [
  | inl lt ↦ inl lt
  | inr low ↦ elim (cases_lt 0x7E code) [
    | inl lt ↦ inr lt
    | inr high ↦ absurd (let both_are : (leb 0x70 code && leb code 0x7E) ≡ true = rw (le-leb 0x70 code low, le-leb code 0x7E high) refl in true≢false (sym both_are ∙ h))
  ]
]

-- why a code begins no block
no_block_stops : (end : ℕ) (wants : List Want) (contents : List ℕ) (code : ℕ) (there : List ℕ) (e : WantFault) → BytesWanted wants contents (code ∷ there) → code ≢ 0x77 → code ≢ 0x7A → no_block code (end - length (code ∷ there)) ≡ e → WantFails end wants contents e
unfolding no_block
no_block_stops end wants contents code there e w no_short no_long h = elim (chosen (eqb code 0x79) _ _ _ h) [
  | inl p ↦ subst (λ z. WantFails end wants contents z) p.1 (of_reset there (subst (λ k. BytesWanted wants contents (k ∷ there)) (eqb-true code 0x79 p.0) w))
  | inr p ↦ elim (chosen (eqb code 0x7B) _ _ _ p.1) [
    | inl q ↦ subst (λ z. WantFails end wants contents z) q.1 (of_exception there (subst (λ k. BytesWanted wants contents (k ∷ there)) (eqb-true code 0x7B q.0) w))
    | inr q ↦ elim (chosen (leb 0x70 code && leb code 0x7E) _ _ _ q.1) [
      | inl r ↦ (
          let b = and_parts (leb 0x70 code) (leb code 0x7E) r.0 in
          subst (λ z. WantFails end wants contents z) r.1 (of_no_block code there w (leb-true 0x70 code b.0, leb-true code 0x7E b.1, no_short, eqb-false code 0x79 p.0, no_long, eqb-false code 0x7B q.0)))
      | inr r ↦ subst (λ z. WantFails end wants contents z) r.1 (of_code code there w (outside code r.0))
    ]
  ]
]

bytes_stops : (end : ℕ) (wants before later : List Want) (n : ℕ) (contents : List ℕ) (x : ServeOk) (e : WantFault) → e ≢ inside short → plain.AreBytes contents → wants ≡ before ++ wanted.Bytes n ∷ later → serve end before nothing_read contents ≡ Ok x → plain.AreBytes x.2
    → run_at end n x.1.block x.2 ≡ Err e → WantFails end wants contents e
unfolding serve want_at bytes_at
bytes_stops end wants before later n contents x e firm bytes are read left h = elim (bind_miss (lift_fault (ahead_at end r.rest)) as_block e r.fails) [
  | inl g ↦ (
      let l = lifted_miss (ahead_at end r.rest) e g in
      let f = ahead_fault end (suc (length r.rest)) r.rest l.0 (firm_inside l.0 e firm l.2) l.1 r.left in
      let k = size_fault end l.0 (firm_inside l.0 e firm l.2) w32 (2 ^ 31) f.rest f.fails in
      subst (λ z. WantFails end wants contents z) (ap inside (sym k.3) ∙ l.2) (of_length f.rest k.0 (inr (bytes_wanted f.count f.mid f.empties (0x7A ∷ f.rest) f.begins)) k.1 k.2))
  | inr y ↦ (let a = lifted_ok (ahead_at end r.rest) (λ z. Ok z) y.0 (ap (λ z. z ▸ λ z. Ok z) y.1) in by a.0 a.1 (subst (λ z. as_block z ≡ Err e) (sym (given_is a.0 y.0 a.2)) y.2))
]
  where
    r : RunStops end n x.1.block x.2 e
    r = run_stops end n x.1.block x.2 e firm h left

    z : ServeOk
    z = (x.0 ++ items.Bytes r.given ∷ [], record { progress = x.1.progress; items = add_bytes x.1.items r.given; block = 0 }, r.rest)

    more : serve end (before ++ wanted.Bytes r.count ∷ []) nothing_read contents ≡ Ok z
    more =
        served_after end before (wanted.Bytes r.count ∷ []) nothing_read contents
        ∙ met_first (serve end before nothing_read contents) _ x _ read (met_first (serve end (wanted.Bytes r.count ∷ []) x.1 x.2) _ (items.Bytes r.given ∷ [], z.1, r.rest) _
        (met_first (want_at end (wanted.Bytes r.count) x.1 x.2) _ (items.Bytes r.given, z.1, r.rest) _ (met_first (bytes_at end r.count x.1 x.2) _ (r.given, z.1, r.rest) _ (met_first (run_at end r.count x.1.block x.2) _ (r.given, 0, r.rest) _ r.read refl) refl) refl) refl)

    bytes_wanted : (count : ℕ) (mid : List ℕ) → Empties count r.rest mid → (there : List ℕ) → mid ≡ there → BytesWanted wants contents there
    bytes_wanted count mid empties there same = record { before = before; later = later; n = n; are = are; count = r.count; fewer = r.fewer; behind = behind_of (closed end (before ++ wanted.Bytes r.count ∷ []) contents z more refl bytes) count mid empties there same }

    by : (y : Ahead × List ℕ) → ahead_at end r.rest ≡ Ok y → as_block y ≡ Err e → WantFails end wants contents e
    by (of_block n, rest) is g = absurd cc
    by (of_code code at, rest) is g =
        let f = found end (suc (length r.rest)) r.rest (of_code code at, rest) is r.left in
        let here : at ≡ end - length (code ∷ rest) = f.is.3 ∙ ap (λ (l : List ℕ). end - length l) f.is.0 in
        no_block_stops end wants contents code rest e (bytes_wanted f.count f.mid f.empties (code ∷ rest) f.is.0) f.is.1 f.is.2 (ap (no_block code) (sym here) ∙ miss_is (no_block code at) e g)

pub wants_stop : (end : ℕ) (wants : List Want) (contents : List ℕ) (e : WantFault) → e ≢ inside short → plain.AreBytes contents → serve_to_close end wants nothing_read contents ≡ Err e → WantFails end wants contents e
unfolding serve_to_close close_at want_at bytes_at
wants_stop end wants contents e firm bytes h = elim (bind_miss (serve end wants nothing_read contents) (λ x. close_at (end - length x.2) x.1 ▸ λ g. Ok (x.0, g.0, g.1, x.2)) e h) [
  | inl g ↦ (let r = serve_stops end wants nothing_read contents e g in by r.before r.want r.later r.parts r.x r.read r.fails)
  | inr x ↦ elim (chosen (eqb x.0.1.block 0) _ _ _ (want_err (close_at (end - length x.0.2) x.0.1) (λ g. (x.0.0, g.0, g.1, x.0.2)) e x.2)) [
    | inl p ↦ absurd (let q = p.1 in cc)
    | inr p ↦ subst (λ z. WantFails end wants contents z) (miss_is _ e p.1) (of_last_block x.0.2 (left_of end wants contents x.0 x.1 bytes p.0))
  ]
]
  where
    by : (before : List Want) (w : Want) (later : List Want) → wants ≡ before ++ w ∷ later → (x : ServeOk) → serve end before nothing_read contents ≡ Ok x → want_at end w x.1 x.2 ≡ Err e → WantFails end wants contents e
    by before (wanted.Bytes n) later parts x read g =
        bytes_stops end wants before later n contents x e firm bytes parts read (progress_of end before contents x read bytes).1
        (want_err (run_at end n x.1.block x.2) _ e (want_err (bytes_at end n x.1 x.2) _ e g))
    by before wanted.Slot later parts x read g = slot_stops end wants before later contents x e firm bytes parts read (want_err (slot_next end x.1 x.2) _ e g)

-- ---- what is shown is answered

want_fails : (end : ℕ) (wants before : List Want) (w : Want) (later : List Want) (contents : List ℕ) (x : ServeOk) (e : WantFault) → wants ≡ before ++ w ∷ later → serve end before nothing_read contents ≡ Ok x → want_at end w x.1 x.2 ≡ Err e → serve_to_close end wants nothing_read contents ≡ Err e
unfolding serve_to_close
want_fails end wants before w later contents x e parts read g =
    miss_first (serve end wants nothing_read contents) _ e (ap (λ (l : List Want). serve end l nothing_read contents) parts ∙ serve_fails end before w later nothing_read contents x e read g)

abbrev run_done : List ℕ → ℕ → List ℕ → Result (List ℕ × ℕ × List ℕ) WantFault
run_done given block rest = Ok (given, block, rest)

-- behind what is spelled, and empty blocks, these bytes come: reading has come there
record At (end : ℕ) (wants : List Want) (contents there : List ℕ) (nodes : List Node) (answers : List Item) : Type 0 where
  stand : Stand
  rest : List ℕ
  read : serve end wants nothing_read contents ≡ Ok (answers, stand, rest)
  none : stand.block ≡ 0
  progress : stand.progress ≡ so_far nodes answers
  count : ℕ
  blocks : List ℕ
  empty : AreEmptyBlocks count blocks
  is : rest ≡ blocks ++ there

at_behind : (end : ℕ) (wants : List Want) (contents there : List ℕ) (b : Behind wants contents there) → plain.AreBytes contents → At end wants contents there b.nodes b.answers
at_behind end wants contents there b bytes =
    let r = reads end wants b.answers b.nodes b.front (b.blocks ++ there) b.spelled (subst plain.AreBytes b.parts bytes) in
    record {
      stand = r.stand;
      rest = b.blocks ++ there;
      read = ap (λ (l : List ℕ). serve end wants nothing_read l) b.parts ∙ r.read;
      none = r.none;
      progress = r.progress;
      count = b.count;
      blocks = b.blocks;
      empty = b.empty;
      is = refl;
    }

-- a wanted reference is answered as what comes there
reference_at_behind : (end : ℕ) (wants : List Want) (contents there : List ℕ) (w : ReferenceWanted wants contents there) → plain.AreBytes contents → (e : WantFault) (y : Result (Ahead × List ℕ) Fault) → ((most : ℕ) → within_ahead end (suc most) there ≡ y)
    → (lift_fault y ▸ as_slot end (so_far w.behind.nodes w.behind.answers)) ≡ Err e → serve_to_close end wants nothing_read contents ≡ Err e
unfolding want_at slot_next reference_at
reference_at_behind end wants contents there w bytes e y goes h =
    let a = at_behind end w.before contents there w.behind bytes in
    let found_so : ahead_at end a.rest ≡ y = ap (ahead_at end) a.is ∙ ahead_passed end a.count a.blocks there y a.empty goes in
    let read : reference_at end a.stand.progress a.rest ≡ Err e =
    same_slot end (suc (length a.rest)) a.stand.progress a.rest ∙ (ap (λ z. lift_fault z ▸ as_slot end a.stand.progress) found_so ∙ (ap (λ p. lift_fault y ▸ as_slot end p) a.progress ∙ h)) in
    want_fails end wants w.before wanted.Slot w.later contents (w.behind.answers, a.stand, a.rest) e w.are a.read
    (miss_first (slot_next end a.stand a.rest) _ e (rw a.none (miss_first (reference_at end a.stand.progress a.rest) _ e read)))

bytes_at_behind : (end : ℕ) (wants : List Want) (contents there : List ℕ) → BytesWanted wants contents there → plain.AreBytes contents → (e : WantFault) (y : Result (Ahead × List ℕ) Fault) → ((most : ℕ) → within_ahead end (suc most) there ≡ y)
    → (lift_fault y ▸ as_block) ≡ Err e → serve_to_close end wants nothing_read contents ≡ Err e
unfolding serve want_at bytes_at
bytes_at_behind end wants contents there w bytes e y goes h =
    let a = at_behind end (w.before ++ wanted.Bytes w.count ∷ []) contents there w.behind bytes in
    let both : (serve end w.before nothing_read contents ▸ λ x. serve end (wanted.Bytes w.count ∷ []) x.1 x.2 ▸ λ y. Ok (x.0 ++ y.0, y.1, y.2)) ≡ Ok (w.behind.answers, a.stand, a.rest) =
    sym (served_after end w.before (wanted.Bytes w.count ∷ []) nothing_read contents) ∙ a.read in
    let x = want_ok (serve end w.before nothing_read contents) _ _ both in
    let z = want_ok (serve end (wanted.Bytes w.count ∷ []) x.0.1 x.0.2) _ _ x.2 in
    let v = want_ok (want_at end (wanted.Bytes w.count) x.0.1 x.0.2) _ z.0 z.1 in
    let d = want_ok (bytes_at end w.count x.0.1 x.0.2) (λ x. Ok (items.Bytes x.0, x.1, x.2)) v.0 v.1 in
    let r = want_ok (run_at end w.count x.0.1.block x.0.2) (λ r. Ok (r.0, record { progress = x.0.1.progress; items = add_bytes x.0.1.items r.0; block = r.1 }, r.2)) d.0 d.1 in
    let now : Stand = record { progress = x.0.1.progress; items = add_bytes x.0.1.items r.0.0; block = r.0.1 } in
    let one : (r.0.0, now, r.0.2) ≡ d.0 = given_is {A = List ℕ × Stand × List ℕ} (r.0.0, now, r.0.2) d.0 r.2 in
    let two : (items.Bytes d.0.0, d.0.1, d.0.2) ≡ v.0 = given_is {A = WantOk} (items.Bytes d.0.0, d.0.1, d.0.2) v.0 d.2 in
    let three : (v.0.0 ∷ [], v.0.1, v.0.2) ≡ z.0 = given_is {A = ServeOk} (v.0.0 ∷ [], v.0.1, v.0.2) z.0 v.2 in
    let four : (x.0.0 ++ z.0.0, z.0.1, z.0.2) ≡ (w.behind.answers, a.stand, a.rest) = given_is {A = ServeOk} (x.0.0 ++ z.0.0, z.0.1, z.0.2) (w.behind.answers, a.stand, a.rest) z.2 in
    let block : r.0.1 ≡ 0 = ap (λ (y : List ℕ × Stand × List ℕ). y.1.block) one ∙ (ap (λ (y : WantOk). y.1.block) two ∙ (ap (λ (y : ServeOk). y.1.block) three ∙ (ap (λ (y : ServeOk). y.1.block) four ∙ a.none))) in
    let rest : r.0.2 ≡ a.rest = ap (λ (y : List ℕ × Stand × List ℕ). y.2) one ∙ (ap (λ (y : WantOk). y.2) two ∙ (ap (λ (y : ServeOk). y.2) three ∙ ap (λ (y : ServeOk). y.2) four)) in
    let run : run_at end w.count x.0.1.block x.0.2 ≡ Ok (r.0.0, 0, a.rest) = r.1 ∙ (ap (λ k. run_done r.0.0 k r.0.2) block ∙ ap (λ (l : List ℕ). run_done r.0.0 0 l) rest) in
    let found_so : ahead_at end a.rest ≡ y = ap (ahead_at end) a.is ∙ ahead_passed end a.count a.blocks there y a.empty goes in
    let fails : run_at end w.n x.0.1.block x.0.2 ≡ Err e = run_fails end w.n w.count x.0.1.block x.0.2 r.0.0 a.rest e w.fewer run (ap (λ z. lift_fault z ▸ as_block) found_so ∙ h) in
    want_fails end wants w.before (wanted.Bytes w.n) w.later contents x.0 e w.are x.1 (miss_first (bytes_at end w.n x.0.1 x.0.2) _ e (miss_first (run_at end w.n x.0.1.block x.0.2) _ e fails))

code_fails : (end : ℕ) (wants : List Want) (contents : List ℕ) (code : ℕ) (there : List ℕ) (e : WantFault) → BytesWanted wants contents (code ∷ there) → plain.AreBytes contents → code ≢ 0x77 → code ≢ 0x7A → no_block code (end - length (code ∷ there)) ≡ e → serve_to_close end wants nothing_read contents ≡ Err e
code_fails end wants contents code there e w bytes no_short no_long is =
    bytes_at_behind end wants contents (code ∷ there) w bytes e (Ok (of_code code (end - length (code ∷ there)), there)) (λ most. code_here end code most there no_short no_long) (ap (λ z. missed z) is)

left_fails : (end : ℕ) (at : ℕ) (s : Stand) (bs : List ℕ) → 0 < s.block → slot_next end s bs ≡ Err (block_left (end - length bs))
unfolding slot_next
left_fails end at s bs some = let no : eqb s.block 0 ≡ false = ne_eqb s.block 0 (λ same. omega arith) in rw no refl

block_codes : (code at : ℕ) → (code < 0x70) ⊎ (0x7E < code) → no_block code at ≡ inside (bad bad_code at)
unfolding no_block
block_codes code at out =
    let a : code ≢ 0x79 = λ is. (elim out [ inl lt ↦ absurd (omega arith) | inr lt ↦ absurd (omega arith) ]) in
    let b : code ≢ 0x7B = λ is. (elim out [ inl lt ↦ absurd (omega arith) | inr lt ↦ absurd (omega arith) ]) in
    let c : (leb 0x70 code && leb code 0x7E) ≡ false = no_range code out in
    rw (ne_eqb code 0x79 a, ne_eqb code 0x7B b, c) refl
  where
    no_range : (code : ℕ) → (code < 0x70) ⊎ (0x7E < code) → (leb 0x70 code && leb code 0x7E) ≡ false
    no_range code out = elim (cases_Bool (leb 0x70 code && leb code 0x7E)) [
      | inr p ↦ p
      | inl p ↦ (
          let b = and_parts (leb 0x70 code) (leb code 0x7E) p in
          let low : 0x70 ≤ code = leb-true 0x70 code b.0 in
          let high : code ≤ 0x7E = leb-true code 0x7E b.1 in
          elim out [ inl lt ↦ absurd (omega arith) | inr lt ↦ absurd (omega arith) ])
    ]

missing_codes : (code at : ℕ) → BeginsNoBlock code → no_block code at ≡ missing_block at
unfolding no_block
missing_codes code at (low, high, a, b, c, d) = rw (ne_eqb code 0x79 b, ne_eqb code 0x7B d, le-leb 0x70 code low, le-leb code 0x7E high) refl

beyond : (code c : ℕ) → (code < 0x70) ⊎ (0x7E < code) → 0x70 ≤ c → c ≤ 0x7E → code ≢ c
beyond code c (inl lt) low high = λ same. omega arith
beyond code c (inr lt) low high = λ same. omega arith

last_fails : (end : ℕ) (wants : List Want) (contents : List ℕ) (answers : List Item) (s : Stand) (there : List ℕ) → serve end wants nothing_read contents ≡ Ok (answers, s, there) → 0 < s.block → serve_to_close end wants nothing_read contents ≡ Err (block_left (end - length there))
unfolding serve_to_close close_at
last_fails end wants contents answers s there read some =
    let no : eqb s.block 0 ≡ false = ne_eqb s.block 0 (λ same. omega arith) in
    met_first (serve end wants nothing_read contents) _ (answers, s, there) _ read (rw no refl)

-- a reference begins there, and what counts it answers a fault
begun_fails : (end : ℕ) (wants : List Want) (contents there : List ℕ) (w : ReferenceWanted wants contents there) → BeginsReference false there → plain.AreBytes contents → (f : Fault) (code : ℕ) (rest : List ℕ) → there ≡ code ∷ rest
    → counted_at end (end - length (code ∷ rest)) code (so_far w.behind.nodes w.behind.answers) rest ≡ Err f → serve_to_close end wants nothing_read contents ≡ Err (inside f)
begun_fails end wants contents there w begins bytes f code rest is h =
    let no_short : code ≢ 0x77 = λ same. begins.no_block (first_byte begins.code code begins.rest rest (sym begins.is ∙ is) ∙ same) in
    let no_long : code ≢ 0x7A = λ same. begins.no_long_block (first_byte begins.code code begins.rest rest (sym begins.is ∙ is) ∙ same) in
    reference_at_behind end wants contents there w bytes (inside f) (Ok (of_code code (end - length (code ∷ rest)), rest)) (λ most. ap (within_ahead end (suc most)) is ∙ code_here end code most rest no_short no_long) (lift_err _ f h)

pub shown_fails : (end : ℕ) (wants : List Want) (contents : List ℕ) (e : WantFault) → e ≢ inside short → plain.AreBytes contents → WantFails end wants contents e → serve_to_close end wants nothing_read contents ≡ Err e
unfolding want_at no_block
shown_fails end wants contents e firm bytes (of_reference f there w begins h) = reference_fails begins.code begins.rest begins.is
  where
    firm_f : f ≢ short
    firm_f = firm_inside f (inside f) firm refl

    reference_fails : (code : ℕ) (rest : List ℕ) → there ≡ code ∷ rest → serve_to_close end wants nothing_read contents ≡ Err (inside f)
    reference_fails code rest is =
        let now = so_far w.behind.nodes w.behind.answers in
        let at = end - length (code ∷ rest) in
        let read : slot_at end LEVELS places.Reference [] now (code ∷ rest) ≡ Err f = ap (slot_at end LEVELS places.Reference [] now) (sym is) ∙ (levels end f firm_f LEVELS).up places.Reference [] now there h in
        let coded_so : coded end LEVELS (slot_at end (LEVELS - 1)) places.Reference [] at code now rest ≡ Err f = sym (slot_coded end now code rest) ∙ read in
        begun_fails end wants contents there w begins bytes f code rest is (err_first (coded end LEVELS (slot_at end (LEVELS - 1)) places.Reference [] at code now rest) _ f coded_so)
shown_fails end wants contents e firm bytes (of_part there x w begins h many) = part_fails begins.code begins.rest begins.is
  where
    part_fails : (code : ℕ) (rest : List ℕ) → there ≡ code ∷ rest → serve_to_close end wants nothing_read contents ≡ Err (inside (too_many (end - length there)))
    part_fails code rest is =
        let now = so_far w.behind.nodes w.behind.answers in
        let at = end - length (code ∷ rest) in
        let f = too_many (end - length there) in
        let read : slot_at end LEVELS places.Reference [] now (code ∷ rest) ≡ Ok x = ap (slot_at end LEVELS places.Reference [] now) (sym is) ∙ ((same_references end LEVELS).at places.Reference []).from now there x h in
        let coded_so : coded end LEVELS (slot_at end (LEVELS - 1)) places.Reference [] at code now rest ≡ Ok x = sym (slot_coded end now code rest) ∙ read in
        begun_fails end wants contents there w begins bytes f code rest is
        (ok_first (coded end LEVELS (slot_at end (LEVELS - 1)) places.Reference [] at code now rest) _ x _ coded_so (rw (lt-ltb PARTS (x.1.parts + 1) many) (ap (λ (l : List ℕ). Err (too_many (end - length l))) (sym is))))
shown_fails end wants contents e firm bytes (of_length there n (inl w) read high) =
    let f = bad negative_length (end - length there) in
    reference_at_behind end wants contents (0x7A ∷ there) w bytes (inside f) (Err f) (λ most. long_here end most there f (size_faulty end f (λ same. cc) w32 (2 ^ 31) there (n, read, high, refl))) refl
shown_fails end wants contents e firm bytes (of_length there n (inr w) read high) =
    let f = bad negative_length (end - length there) in
    bytes_at_behind end wants contents (0x7A ∷ there) w bytes (inside f) (Err f) (λ most. long_here end most there f (size_faulty end f (λ same. cc) w32 (2 ^ 31) there (n, read, high, refl))) refl
shown_fails end wants contents e firm bytes (of_reset there w) = code_fails end wants contents 0x79 there _ w bytes (eqb-false 0x79 0x77 refl) (eqb-false 0x79 0x7A refl) refl
shown_fails end wants contents e firm bytes (of_exception there w) = code_fails end wants contents 0x7B there _ w bytes (eqb-false 0x7B 0x77 refl) (eqb-false 0x7B 0x7A refl) refl
shown_fails end wants contents e firm bytes (of_code code there w out) = code_fails end wants contents code there _ w bytes (beyond code 0x77 out (omega arith) (omega arith)) (beyond code 0x7A out (omega arith) (omega arith)) (block_codes code (end - length (code ∷ there)) out)
shown_fails end wants contents e firm bytes (of_no_block code there w b) = code_fails end wants contents code there _ w bytes b.2 b.4 (missing_codes code (end - length (code ∷ there)) b)
shown_fails end wants contents e firm bytes (of_next_block n header there w some is) =
    reference_at_behind end wants contents (header ++ there) w bytes (block_left (end - length there)) (Ok (of_block n, there)) (λ most. full_here end n most header there some is) refl
shown_fails end wants contents e firm bytes (of_block before later there are l) =
    let r = serves_from end before nothing_read contents (l.later, l.left, there) l.serves in
    want_fails end wants before wanted.Slot later contents (r.answers, r.stand, there) (block_left (end - length there)) are r.read (miss_first (slot_next end r.stand there) _ _ (left_fails end 0 r.stand there (subst (λ k. 0 < k) (sym r.same) l.some)))
shown_fails end wants contents e firm bytes (of_last_block there l) =
    let r = serves_from end wants nothing_read contents (l.later, l.left, there) l.serves in
    last_fails end wants contents r.answers r.stand there r.read (subst (λ k. 0 < k) (sym r.same) l.some)
