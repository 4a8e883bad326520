-- Laws of returns.
use Rattle.std.proofs.Common.{◌≡◌, ℕ, ◌+◌, Bool, true, false, cond, List, [], ◌∷◌, ◌++◌, length, map, drop, Option, Some, None, Result, Ok, Err, IfOk, refl, sym, ap, subst, ◌∙◌, append_assoc, append-nil, arith}
use Rattle.wire_io.specs.Pulled.{PullState}
use Rattle.object_ids.specs.declared.ids.Uid.{Uid}
use Rattle.object_ids.specs.Bytes.{bytes_of_uid}
use Rattle.class_desc.specs.declared.field.TypeCode.{TypeCode}
use Rattle.class_desc.specs.declared.slot.Item.{Item}
use Rattle.class_desc.specs.declared.slot.Item.TheVariants as items
use Rattle.ser_values.specs.declared.node.Node.{Node}
use Rattle.stream_grammar.specs.Spelled.{joined}
use Rattle.stream_grammar.specs.Reading.{magic_at}
use Rattle.stream_grammar.proofs.PlainSound as plain
use Rattle.ser_read.specs.declared.serving.Want.{Want}
use Rattle.ser_read.specs.declared.serving.Want.TheVariants as wanted
use Rattle.stream_grammar.specs.Faults.{AreBytes}
use Rattle.ser_read.specs.Wants.{WantFault, ◌▸◌, Stand, nothing_read, bytes_at, run_at, serve_to_close, wants_at}
use Rattle.ser_read.specs.SpelledWants.{SpellsWants}
use Rattle.ser_read.proofs.Served.{want_ok, lifted_ok, given_is, are}
use Rattle.ser_read.proofs.SpelledWants.{asked_sound}
use Rattle.ser_read.proofs.Given.{asked_complete}
use Rattle.ser_read.proofs.InOrder.{Whole, magic_is}
use Rattle.ser_read.proofs.WantLaws.{spelled_is_one}
use Rattle.ser_read.proofs.Heading.{spelled_is_headed, head_runs}
use Rattle.jrmp_frames.specs.declared.message.Body.{Body}
use Rattle.jrmp_frames.specs.declared.message.Body.TheVariants.{Void, Prim, Tree}
use Rattle.jrmp_frames.specs.Messages.{return_front, want_for, items_of, nodes_of}
use Rattle.jrmp_frames.specs.Returns.{carried_type, wants_carried, Carries, kind_of_byte, ReturnRead, no_kind, of_kind, kind_at, contents_at, by_kind, behind_kind, first_byte, return_at, ReturnOf, TakesReturn, ReadsReturn}
use Rattle.jrmp_frames.specs.MessageLaws.{ReturnInFront, ReturnsAreRead, SameBody, ReturnIsOne, HasType, WrittenIsReturn}
use Rattle.jrmp_frames.proofs.Heads.{front_is}
use Rattle.ser_values.specs.Node.{item_wants}
use Rattle.ser_values.proofs.FrontLaws.{put_both}
use Rattle.jrmp_frames.proofs.Calls.{headed, front_then}
use Rattle.jrmp_frames.proofs.ReturnReading.{Answered, kind_known, split_contents}

-- ---- the kind and the identifier, apart and together

pub together : (ws : List Want) (k : ℕ) (b : List ℕ) (answers : List Item) (nodes : List Node) (bytes : List ℕ) → SpellsWants (wanted.Bytes 1 ∷ wanted.Bytes 14 ∷ ws) (items.Bytes (k ∷ []) ∷ items.Bytes b ∷ answers) nodes bytes
    → SpellsWants (wanted.Bytes 15 ∷ ws) (items.Bytes (k ∷ b) ∷ answers) nodes bytes
unfolding item_wants
together ws k b answers nodes bytes h = record {
  are_bytes = h.are_bytes;
  fits = (omega (arith, h.fits.1.0), h.fits.1.1);
  blocks = h.blocks;
  spelled = h.spelled;
  full = h.full;
  same = put_both (k ∷ []) b (joined answers) ∙ h.same;
  numbers = h.numbers;
  units = h.units;
  few_parts = h.few_parts;
}

pub apart : (ws : List Want) (k : ℕ) (b : List ℕ) (answers : List Item) (nodes : List Node) (bytes : List ℕ) → length b ≡ 14 → SpellsWants (wanted.Bytes 15 ∷ ws) (items.Bytes (k ∷ b) ∷ answers) nodes bytes
    → SpellsWants (wanted.Bytes 1 ∷ wanted.Bytes 14 ∷ ws) (items.Bytes (k ∷ []) ∷ items.Bytes b ∷ answers) nodes bytes
unfolding item_wants
apart ws k b answers nodes bytes long h = record {
  are_bytes = h.are_bytes;
  fits = (refl, (long, h.fits.1));
  blocks = h.blocks;
  spelled = h.spelled;
  full = h.full;
  same = sym (put_both (k ∷ []) b (joined answers)) ∙ h.same;
  numbers = h.numbers;
  units = h.units;
  few_parts = h.few_parts;
}

-- ---- what was read is spelled

single : (b : List ℕ) → length b ≡ 1 → b ≡ first_byte b ∷ []
single [] e = absurd (omega arith)
single (x ∷ []) e = refl
single (x ∷ y ∷ b) e = absurd (omega arith)

abbrev parts_of : ReturnRead × List ℕ → Whole
parts_of (of_kind normal answers nodes whole, rest) = (answers, nodes, whole, rest)
parts_of (no_kind byte at, rest) = ([], [], [], rest)

abbrev kind_in : ReturnRead × List ℕ → Bool
kind_in (of_kind normal answers nodes whole, rest) = normal
kind_in (no_kind byte at, rest) = false

abbrev seen_in : ReturnRead × List ℕ → Bool
seen_in (of_kind normal answers nodes whole, rest) = true
seen_in (no_kind byte at, rest) = false

by_kind_is : (result_type : Option TypeCode) (byte : ℕ) (o : Option Bool) (end : ℕ) (s : Stand) (bs : List ℕ) (normal : Bool) (y : Whole) → by_kind result_type byte o end s bs ≡ Ok (of_kind normal y.0 y.1 y.2, y.3)
    → (o ≡ Some normal) × (contents_at (carried_type result_type normal) end s bs ≡ Ok y)
by_kind_is result_type byte None end s bs normal y e = absurd (let seen : false ≡ true = ap seen_in (given_is {A = ReturnRead × List ℕ} _ _ e) in cc)
by_kind_is result_type byte (Some m) end s bs normal y e =
    let a = want_ok (contents_at (carried_type result_type m) end s bs) (λ x. Ok (of_kind m x.0 x.1 x.2, x.3)) (of_kind normal y.0 y.1 y.2, y.3) e in
    let same = given_is (of_kind m a.0.0 a.0.1 a.0.2, a.0.3) (of_kind normal y.0 y.1 y.2, y.3) a.2 in
    let kind : m ≡ normal = ap kind_in same in
    let whole : a.0 ≡ y = ap parts_of same in
    (ap (λ (n : Bool). Some n) kind, subst (λ (n : Bool). contents_at (carried_type result_type n) end s bs ≡ Ok y) kind (a.1 ∙ ap (λ (x : Whole). Ok x) whole))

pub return_spelled : (result_type : Option TypeCode) (end : ℕ) (normal : Bool) (uid : Uid) (answers : List Item) (nodes : List Node) (whole : List Item) (bs rest : List ℕ) → AreBytes bs
    → return_at result_type end bs ≡ Ok (of_kind normal (items.Bytes (bytes_of_uid uid) ∷ answers) nodes whole, rest) → ReturnInFront result_type normal uid answers nodes bs rest
unfolding return_at kind_at wants_at return_front
return_spelled result_type end normal uid answers nodes whole bs rest all e =
    let ws = wants_carried (carried_type result_type normal) in
    let magic : List ℕ = 0xAC ∷ 0xED ∷ 0x00 ∷ 0x05 ∷ [] in
    let k = want_ok (kind_at end bs) (λ k. behind_kind result_type (first_byte k.0) end k.1 k.2) (of_kind normal (items.Bytes (bytes_of_uid uid) ∷ answers) nodes whole, rest) e in
    let (known, read) = by_kind_is result_type (first_byte k.0.0) (kind_of_byte (first_byte k.0.0)) end k.0.1 k.0.2 normal (items.Bytes (bytes_of_uid uid) ∷ answers, nodes, whole, rest) k.2 in
    let front = front_is 1 end bs k.0.0 k.0.2 k.0.1 k.1 in
    let kind : k.0.0 ≡ cond normal 1 2 ∷ [] = single k.0.0 front.0 ∙ ap (λ (x : ℕ). x ∷ []) (kind_known (first_byte k.0.0) normal known) in
    let y : Whole = (items.Bytes (cond normal 1 2 ∷ []) ∷ items.Bytes (bytes_of_uid uid) ∷ answers, nodes, whole, rest) in
    let one : wants_at end (wanted.Bytes 1 ∷ wanted.Bytes 14 ∷ ws) bs ≡ Ok y = front_then 1 end (wanted.Bytes 14 ∷ ws) bs k.0.0 k.0.2 k.0.1 k.1 ∙ ap (headed k.0.0) read
    ∙ ap (λ (b : List ℕ). headed b (Ok (items.Bytes (bytes_of_uid uid) ∷ answers, nodes, whole, rest))) kind in
    let m = lifted_ok (magic_at end magic bs) (serve_to_close end (wanted.Bytes 1 ∷ wanted.Bytes 14 ∷ ws) nothing_read) y one in
    let is = magic_is end magic bs m.0 m.1 in
    let s = asked_sound end (wanted.Bytes 1 ∷ wanted.Bytes 14 ∷ ws) m.0 y m.2 (plain.bytes_left bs magic m.0 is (are bs all)) in
    record {
      contents = s.front;
      is = is ∙ ap (λ (l : List ℕ). magic ++ l) s.is;
      asked = together ws (cond normal 1 2) (bytes_of_uid uid) answers nodes s.front s.asked;
    }

-- ---- what is spelled is read

abbrev after_kind : Option TypeCode → ℕ → Result (List ℕ × Stand × List ℕ) WantFault → Result (ReturnRead × List ℕ) WantFault
after_kind result_type end r = r ▸ λ k. behind_kind result_type (first_byte k.0) end k.1 k.2

known_kind : (normal : Bool) → kind_of_byte (cond normal 1 2) ≡ Some normal
known_kind true = refl
known_kind false = refl

bytes_first : (b c : List ℕ) (is js : List Item) → items.Bytes b ∷ is ≡ items.Bytes c ∷ js → b ≡ c
bytes_first b c is js e = cc

pub return_read : (result_type : Option TypeCode) (end : ℕ) (normal : Bool) (uid : Uid) (answers : List Item) (nodes : List Node) (contents rest : List ℕ)
    → SpellsWants (wanted.Bytes 15 ∷ wants_carried (carried_type result_type normal)) (items.Bytes (return_front normal uid) ∷ answers) nodes contents
    → return_at result_type end (0xAC ∷ 0xED ∷ 0x00 ∷ 0x05 ∷ (contents ++ rest)) ≡ Ok (of_kind normal (items.Bytes (bytes_of_uid uid) ∷ answers) nodes (joined (items.Bytes (return_front normal uid) ∷ answers)), rest)
unfolding return_at kind_at magic_at return_front
return_read result_type end normal uid answers nodes contents rest h =
    let ws = wants_carried (carried_type result_type normal) in
    let kind : List ℕ = cond normal 1 2 ∷ [] in
    let whole : List Item = joined (items.Bytes kind ∷ items.Bytes (bytes_of_uid uid) ∷ answers) in
    let all = asked_complete end (wanted.Bytes 1 ∷ wanted.Bytes 14 ∷ ws) (items.Bytes kind ∷ items.Bytes (bytes_of_uid uid) ∷ answers) nodes contents rest (apart ws (cond normal 1 2) (bytes_of_uid uid) answers nodes contents refl h) in
    let y : Whole = (items.Bytes (bytes_of_uid uid) ∷ answers, nodes, whole, rest) in
    let x = want_ok (bytes_at end 1 nothing_read (contents ++ rest)) (λ x. headed x.0 (serve_to_close end (wanted.Bytes 14 ∷ ws) x.1 x.2)) (items.Bytes kind ∷ y.0, y.1, y.2, y.3)
    (sym (split_contents end 1 (wanted.Bytes 14 ∷ ws) nothing_read (contents ++ rest)) ∙ all) in
    let z = want_ok (serve_to_close end (wanted.Bytes 14 ∷ ws) x.0.1 x.0.2) (λ z. Ok (items.Bytes x.0.0 ∷ z.0, z.1, z.2, z.3)) (items.Bytes kind ∷ y.0, y.1, y.2, y.3) x.2 in
    let same = given_is (items.Bytes x.0.0 ∷ z.0.0, z.0.1, z.0.2, z.0.3) (items.Bytes kind ∷ y.0, y.1, y.2, y.3) z.2 in
    let first : x.0.0 ≡ kind = bytes_first x.0.0 kind z.0.0 y.0 (ap (λ (t : Whole). t.0) same) in
    let later : z.0 ≡ y = ap (λ (t : Whole). (drop 1 t.0, t.1, t.2, t.3)) same in
    let read : contents_at (carried_type result_type normal) end x.0.1 x.0.2 ≡ Ok y = z.1 ∙ ap (λ (t : Whole). Ok t) later in
    let byte : first_byte x.0.0 ≡ cond normal 1 2 = ap first_byte first in
    let wide : Whole → Result (ReturnRead × List ℕ) WantFault = λ t. Ok (of_kind normal t.0 t.1 t.2, t.3) in
    ap (after_kind result_type end) x.1
    ∙ ap (λ (b : ℕ). behind_kind result_type b end x.0.1 x.0.2) byte
    ∙ ap (λ (o : Option Bool). by_kind result_type (cond normal 1 2) o end x.0.1 x.0.2) (known_kind normal)
    ∙ ap (λ r. r ▸ wide) read
    ∙ ap (λ (w : List Item). wide (y.0, y.1, w, y.3)) (sym (put_both (cond normal 1 2 ∷ []) (bytes_of_uid uid) (joined answers)))

pub returns_are_read : ReturnsAreRead
returns_are_read result_type end normal uid answers nodes bytes rest all = (
  λ r. return_spelled result_type end normal uid answers nodes r.0 bytes rest all r.1,
  λ h. (joined (items.Bytes (return_front normal uid) ∷ answers), ap (return_at result_type end) h.is ∙ return_read result_type end normal uid answers nodes h.contents rest h.asked),
)

-- ---- what was taken is a return

return_taken : {o q : PullState} (result_type : Option TypeCode) (normal : Bool) (uid : Uid) (body : Body) → ReadsReturn o q (return_at result_type) result_type normal uid body → TakesReturn o q result_type normal uid body
return_taken {o} {q} result_type normal uid body r =
    let one = ap (return_at result_type (q.at + 0)) (sym (append-nil r.reads.taken)) ∙ r.reads.is [] in
    let s = return_spelled result_type (q.at + 0) normal uid r.answers r.nodes r.whole r.reads.taken [] r.reads.bytes one in
    record {
      message = r.reads.taken;
      takes = r.reads.takes;
      is = record {
        contents = s.contents;
        headed = ap (λ (l : List ℕ). 0x51 ∷ l) s.is ∙ ap (λ (l : List ℕ). 0x51 ∷ 0xAC ∷ 0xED ∷ 0x00 ∷ 0x05 ∷ l) (append-nil s.contents);
        answers = r.answers;
        nodes = r.nodes;
        asked = s.asked;
        carries = r.carries;
      };
    }

pub taken_of : (o q : PullState) (result_type : Option TypeCode) (result : Answered) → IfOk result (λ x. ReadsReturn o q (return_at result_type) result_type x.0 x.1 x.2) → IfOk result (λ x. TakesReturn o q result_type x.0 x.1 x.2)
taken_of o q result_type (Ok x) a = return_taken result_type x.0 x.1 x.2 a
taken_of o q result_type (Err fault) a = tt

-- ---- no return is a front of another

run_of : (ws : List Want) (front : List ℕ) (answers : List Item) (nodes : List Node) (contents after : List ℕ) → SpellsWants (wanted.Bytes 15 ∷ ws) (items.Bytes front ∷ answers) nodes contents
    → (left : ℕ) × (rest : List ℕ) × (run_at 0 15 0 (contents ++ after) ≡ Ok (front, left, rest))
run_of ws front answers nodes contents after h =
    let s = spelled_is_headed 0 15 contents front ws answers nodes (omega arith) h in
    (s.left, s.more ++ after, ap (λ (l : List ℕ). run_at 0 15 0 l) (ap (λ (l : List ℕ). l ++ after) s.is ∙ append_assoc s.head s.more after) ∙ head_runs 0 15 s.head front s.left (s.more ++ after) s.ends)

fronts_are_one : (ws vs : List Want) (front back : List ℕ) (answers others : List Item) (nodes more : List Node) (one other after behind : List ℕ) → SpellsWants (wanted.Bytes 15 ∷ ws) (items.Bytes front ∷ answers) nodes one
    → SpellsWants (wanted.Bytes 15 ∷ vs) (items.Bytes back ∷ others) more other → one ++ after ≡ other ++ behind → front ≡ back
fronts_are_one ws vs front back answers others nodes more one other after behind a b e =
    let x = run_of ws front answers nodes one after a in
    let y = run_of vs back others more other behind b in
    let same : (front, x.0, x.1) ≡ (back, y.0, y.1) = given_is (front, x.0, x.1) (back, y.0, y.1) (sym x.2 ∙ ap (λ (l : List ℕ). run_at 0 15 0 l) e ∙ y.2) in
    ap (λ (t : List ℕ × ℕ × List ℕ). t.0) same

kinds_are_one : (normal second : Bool) (uid other : Uid) → return_front normal uid ≡ return_front second other → (normal ≡ second) × (bytes_of_uid uid ≡ bytes_of_uid other)
unfolding return_front
kinds_are_one true true uid other e = (refl, ap (drop 1) e)
kinds_are_one false false uid other e = (refl, ap (drop 1) e)
kinds_are_one true false uid other e = absurd cc
kinds_are_one false true uid other e = absurd cc

bodies_are_one : (code : Option TypeCode) (answers others : List Item) (nodes more : List Node) (body other : Body) → answers ≡ others → nodes ≡ more → Carries code answers nodes body → Carries code others more other → SameBody body other
bodies_are_one code answers others nodes more body other e n a b = go code answers nodes body other a (subst (λ (l : List Item). Carries code l nodes other) (sym e) (subst (λ (l : List Node). Carries code others l other) (sym n) b))
  where
    go : (code : Option TypeCode) (answers : List Item) (nodes : List Node) (body other : Body) → Carries code answers nodes body → Carries code answers nodes other → SameBody body other
    go None [] nodes Void Void a b = tt
    go None [] nodes Void (Prim w) a b = absurd b
    go None [] nodes Void (Tree h) a b = absurd b
    go None [] nodes (Prim v) other a b = absurd a
    go None [] nodes (Tree g) other a b = absurd a
    go None (x ∷ xs) nodes body other a b = absurd a
    go (Some code) [] nodes body other a b = absurd a
    go (Some code) (items.Bytes p ∷ y ∷ xs) nodes body other a b = absurd a
    go (Some code) (items.Ref s ∷ y ∷ xs) nodes body other a b = absurd a
    go (Some code) (items.Bytes p ∷ []) nodes (Prim v) (Prim w) a b = a ∙ sym b
    go (Some code) (items.Bytes p ∷ []) nodes (Prim v) Void a b = absurd b
    go (Some code) (items.Bytes p ∷ []) nodes (Prim v) (Tree h) a b = absurd b
    go (Some code) (items.Bytes p ∷ []) nodes Void other a b = absurd a
    go (Some code) (items.Bytes p ∷ []) nodes (Tree g) other a b = absurd a
    go (Some code) (items.Ref s ∷ []) nodes (Tree g) (Tree h) a b = (a.0 ∙ sym b.0, a.1 ∙ sym b.1)
    go (Some code) (items.Ref s ∷ []) nodes (Tree g) Void a b = absurd b
    go (Some code) (items.Ref s ∷ []) nodes (Tree g) (Prim w) a b = absurd b
    go (Some code) (items.Ref s ∷ []) nodes Void other a b = absurd a
    go (Some code) (items.Ref s ∷ []) nodes (Prim v) other a b = absurd a

-- the same where the kinds are one
of_one_kind : (result_type : Option TypeCode) (normal : Bool) (uid other_uid : Uid) (body other_body : Body) (one other after behind : List ℕ) → (a : ReturnOf result_type normal uid body one) → (b : ReturnOf result_type normal other_uid other_body other)
    → a.contents ++ after ≡ b.contents ++ behind → (one ≡ other) × SameBody body other_body
of_one_kind result_type normal uid other_uid body other_body one other after behind a b inside =
    let ws = wants_carried (carried_type result_type normal) in
    let same = spelled_is_one (wanted.Bytes 15 ∷ ws) (items.Bytes (return_front normal uid) ∷ a.answers) (items.Bytes (return_front normal other_uid) ∷ b.answers) a.nodes b.nodes a.contents b.contents after behind a.asked b.asked inside in (
      a.headed ∙ ap (λ (l : List ℕ). 0x51 ∷ 0xAC ∷ 0xED ∷ 0x00 ∷ 0x05 ∷ l) same.2 ∙ sym b.headed,
      bodies_are_one (carried_type result_type normal) a.answers b.answers a.nodes b.nodes body other_body (ap (drop 1) same.0) same.1 a.carries b.carries,
    )

pub return_is_one : ReturnIsOne
return_is_one result_type normal second uid other_uid body other_body one other after behind a b e =
    let inside : a.contents ++ after ≡ b.contents ++ behind = ap (drop 5) (ap (λ l. l ++ after) (sym a.headed) ∙ e ∙ ap (λ l. l ++ behind) b.headed) in
    let front = fronts_are_one (wants_carried (carried_type result_type normal)) (wants_carried (carried_type result_type second)) (return_front normal uid) (return_front second other_uid) a.answers b.answers a.nodes b.nodes a.contents b.contents after behind a.asked b.asked inside in
    let (kind, ids) = kinds_are_one normal second uid other_uid front in
    let moved : ReturnOf result_type normal other_uid other_body other = subst (λ (n : Bool). ReturnOf result_type n other_uid other_body other) (sym kind) b in
    let (bytes, bodies) = of_one_kind result_type normal uid other_uid body other_body one other after behind a moved (inside ∙ ap (λ (l : List ℕ). l ++ behind) (contents_are other b.contents moved.contents b.headed moved.headed)) in
    (bytes, kind, ids, bodies)
  where
    contents_are : (other x y : List ℕ) → other ≡ 0x51 ∷ 0xAC ∷ 0xED ∷ 0x00 ∷ 0x05 ∷ x → other ≡ 0x51 ∷ 0xAC ∷ 0xED ∷ 0x00 ∷ 0x05 ∷ y → x ≡ y
    contents_are other x y a b = ap (drop 5) (sym a ∙ b)

-- ---- what is written

wants_are : (code : Option TypeCode) (body : Body) → HasType code body → map want_for (items_of body) ≡ wants_carried code
wants_are None Void h = refl
wants_are None (Prim v) h = absurd h
wants_are None (Tree g) h = absurd h
wants_are (Some code) Void h = absurd h
wants_are (Some code) (Prim v) h = ap (λ (w : Want). w ∷ []) (sym h.0)
wants_are (Some code) (Tree g) h = ap (map want_for) h.1.1 ∙ ap (λ (w : Want). w ∷ []) (sym h.0)

written_carries : (code : Option TypeCode) (body : Body) → HasType code body → Carries code (items_of body) (nodes_of body) body
written_carries None Void h = tt
written_carries None (Prim v) h = absurd h
written_carries None (Tree g) h = absurd h
written_carries (Some code) Void h = absurd h
written_carries (Some code) (Prim v) h = sym h.1
written_carries (Some code) (Tree g) h = subst (λ (l : List Item). Carries (Some code) l g.nodes (Tree g)) (sym h.1.1) (refl, h.1.1)

pub written_is_return : WrittenIsReturn
written_is_return result_type normal uid body bytes typed h = record {
  contents = h.contents;
  headed = h.headed;
  answers = items_of body;
  nodes = nodes_of body;
  asked = subst (λ (ws : List Want). SpellsWants (wanted.Bytes 15 ∷ ws) (items.Bytes (return_front normal uid) ∷ items_of body) (nodes_of body) h.contents) (wants_are (carried_type result_type normal) body typed) h.asked;
  carries = written_carries (carried_type result_type normal) body typed;
}
