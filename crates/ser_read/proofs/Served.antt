-- What was read by wants that were served is a graph.
use Rattle.std.proofs.Common.{◌≡◌, ℕ, zero, suc, ◌+◌, ◌-◌, ◌<◌, ◌≤◌, ◌^◌, eqb, ltb, List, [], ◌∷◌, ◌++◌, length, Result, Ok, Err, refl, sym, ap, subst, ◌∙◌, append-nil, length-append, arith, inl, inr}
use Rattle.wire_io.specs.Pulled.{PullState}
use Rattle.class_desc.specs.declared.slot.Slot.{Slot}
use Rattle.class_desc.specs.declared.slot.Item.{Item}
use Rattle.class_desc.specs.declared.slot.Item.TheVariants as items
use Rattle.ser_values.specs.declared.node.SlotPlace.TheVariants as places
use Rattle.ser_values.specs.Node as node
use Rattle.ser_values.specs.Node.{has, item_wants}
use Rattle.ser_values.specs.Shape.{is_joined, refs_in, parts_in}
use Rattle.ser_values.specs.Numbered.{NumberAll, Numbered, IsGraph}
use Rattle.stream_grammar.specs.Spelled.{joined, Spells}
use Rattle.stream_grammar.specs.Reading.{◌>>=◌, short, too_many, byte_at, Fault, Progress, add_parts, counting, slot_at, coded}
use Rattle.std.specs.Prelude.{All}
use Rattle.std.proofs.lemmas.Bool.{ltb-false}
use Rattle.std.proofs.lemmas.List.Elements.{All-nil, All-cons, All-push}
use Rattle.ser_values.specs.Ranges.{ItemFits, ItemsFit, InRange}
use Rattle.ser_values.proofs.Ranged.{numbers_of, units_of}
use Rattle.stream_grammar.proofs.Spelling.{joined_fit, spells_numbered, joined_joined}
use Rattle.stream_grammar.proofs.PlainSound as plain
use Rattle.stream_grammar.proofs.Solid.{Solid, GotBy, got_none, got_map, got_sum, got_add}
use Rattle.stream_grammar.proofs.Sound.{slots_sound}
use Rattle.ser_read.specs.declared.block.Head.{Head}
use Rattle.ser_read.specs.declared.block.Head.TheVariants.{Block, Code}
use Rattle.ser_read.specs.Here.{Reads}
use Rattle.stream_grammar.specs.Faults.{AreBytes}
use Rattle.ser_read.specs.Heads.{head_at}
use Rattle.ser_read.specs.Named.{add_bytes}
use Rattle.ser_read.specs.declared.serving.Want.{Want}
use Rattle.ser_read.specs.declared.serving.Want.TheVariants as wanted
use Rattle.ser_read.specs.Wants.{WantFault, inside, ◌▸◌, lift_fault, Stand, nothing_read, only_block, opened_at, run_at, only_slot, reference_at, bytes_at, slot_next, want_at, ServedWant, HaveLedTo, IsReached}
use Rattle.ser_read.proofs.Joins.{added_is}
use Rattle.ser_read.proofs.Runs.{opened_here}
use Rattle.ser_read.proofs.Slots.{slot_is}
use Rattle.ser_read.proofs.Empties.{Empties, found}

-- ---- steps that did not fail

pub want_ok : {A B : Type 0} (r : Result A WantFault) (f : A → Result B WantFault) (y : B) → (r ▸ f) ≡ Ok y → (x : A) × (r ≡ Ok x) × (f x ≡ Ok y)
want_ok (Ok x) f y e = (x, refl, e)
want_ok (Err d) f y e = absurd cc

pub lifted_ok : {A B : Type 0} (r : Result A Fault) (f : A → Result B WantFault) (y : B) → (lift_fault r ▸ f) ≡ Ok y → (x : A) × (r ≡ Ok x) × (f x ≡ Ok y)
lifted_ok (Ok x) f y e = (x, refl, e)
lifted_ok (Err d) f y e = absurd cc

abbrev given : {A : Type 0} → A → Result A WantFault
given x = Ok x

pub given_is : {A : Type 0} (x y : A) → given x ≡ given y → x ≡ y
given_is x y e = cc

pub lifted_is : {A : Type 0} (r : Result A Fault) (x : A) → lift_fault r ≡ Ok x → r ≡ Ok x
lifted_is (Ok y) x e = let s : y ≡ x = given_is y x e in ap Ok s
lifted_is (Err d) x e = absurd cc

pub are : (bs : List ℕ) → AreBytes bs → plain.AreBytes bs
are [] h = tt
are (b ∷ bs) h = (h.0, are bs h.1)

-- ---- a reference

-- a reference behind empty blocks
pub record RefSound (now : Progress) (bs : List ℕ) (y : Slot × Progress × List ℕ) : Type 0 where
  pub count : ℕ
  pub mid : List ℕ
  pub empties : Empties count bs mid
  pub got : GotBy 1 [] now y.1 y.2 (λ F. Spells F 200 [] (places.Reference, y.0) (length now.nodes) mid y.2 (length y.1.nodes))

pub reference_sound : (end : ℕ) (now : Progress) (bs : List ℕ) (y : Slot × Progress × List ℕ) → reference_at end now bs ≡ Ok y → Solid [] now → plain.AreBytes bs → RefSound now bs y
unfolding reference_at
reference_sound end now bs y e solid bytes =
    let a = lifted_ok (head_at end bs) (only_slot end now) y e in
    go a.0 a.1 a.2
  where
    go : (h : Head × List ℕ) → head_at end bs ≡ Ok h → only_slot end now h ≡ Ok y → RefSound now bs y
    go (Block k, rest) is e = absurd cc
    go (Code code at, rest) is e =
        let f = found end (suc (length bs)) bs (Code code at, rest) is bytes in
        let whole : plain.AreBytes (code ∷ rest) = subst plain.AreBytes f.is.0 f.whole in
        let here : at ≡ end - length (code ∷ rest) = f.is.3 ∙ ap (λ (l : List ℕ). end - length l) f.is.0 in
        let c = plain.bind_ok (coded end 200 (slot_at end 199) places.Reference [] at code now rest) (λ s. counting 1 at s.1 (λ next. Ok (s.0, next, s.2))) y (lifted_is (coded end 200 (slot_at end 199) places.Reference [] at code now rest >>= λ s. counting 1 at s.1 (λ next. Ok (s.0, next, s.2))) y e) in
        let s = c.0 in
        let k = plain.guarded (ltb 1048576 (s.1.parts + 1)) (too_many at) (Ok (s.0, add_parts 1 s.1, s.2)) y c.2 in
        let room : s.1.parts + 1 ≤ 1048576 = ltb-false 1048576 (s.1.parts + 1) k.0 in
        let read : slot_at end 200 places.Reference [] now (code ∷ rest) ≡ Ok s =
        slot_is end 200 places.Reference [] now (code ∷ rest) ∙ ap (λ at. coded end 200 (slot_at end 199) places.Reference [] at code now rest) (sym here) ∙ c.1 in
        let g = slots_sound end 200 [] places.Reference now (code ∷ rest) s read solid whole in
        subst (λ (y : Slot × Progress × List ℕ). RefSound now bs y) (plain.ok_is (s.0, add_parts 1 s.1, s.2) y k.1) (record {
          count = f.count;
          mid = code ∷ rest;
          empties = subst (λ (l : List ℕ). Empties f.count bs l) f.is.0 f.empties;
          got = got_sum 1 (omega arith) [] now s.1 (add_parts 1 s.1) s.2 s.2 (λ F. Spells F 200 [] (places.Reference, s.0) (length now.nodes) (code ∷ rest) s.2 (length s.1.nodes)) (λ F. Unit {0}) (λ F. Spells F 200 [] (places.Reference, s.0) (length now.nodes) (code ∷ rest) s.2 (length s.1.nodes)) g.got (got_add [] s.1 1 s.2 g.got.solid room g.got.left) (λ F sees p q. p);
        })

abbrev pub GotRef : Progress → Slot × Progress × List ℕ → Type 0
GotRef now y = GotBy 1 [] now y.1 y.2 (λ F. Numbered F 200 [] (places.Reference, y.0) (length now.nodes) (length y.1.nodes))

reference_got : (end : ℕ) (now : Progress) (bs : List ℕ) (y : Slot × Progress × List ℕ) → reference_at end now bs ≡ Ok y → Solid [] now → plain.AreBytes bs → GotRef now y
reference_got end now bs y e solid bytes =
    let s = reference_sound end now bs y e solid bytes in
    got_map [] now y.1 y.2 _ _ s.got (λ F sees h. spells_numbered F 200 [] (places.Reference, y.0) (length now.nodes) s.mid y.2 (length y.1.nodes) h)

-- ---- items and what they want

bytes_wants : (is : List Item) (p : List ℕ) → item_wants (add_bytes is p) ≡ item_wants is
unfolding item_wants add_bytes
bytes_wants is [] = refl
bytes_wants [] (b ∷ p) = refl
bytes_wants (items.Bytes q ∷ []) (b ∷ p) = refl
bytes_wants (items.Ref s ∷ []) (b ∷ p) = refl
bytes_wants (items.Bytes q ∷ y ∷ is) (b ∷ p) = bytes_wants (y ∷ is) (b ∷ p)
bytes_wants (items.Ref s ∷ y ∷ is) (b ∷ p) = ap (λ (l : List node.Want). (places.Reference, s) ∷ l) (bytes_wants (y ∷ is) (b ∷ p))

ref_wants : (is : List Item) (s : Slot) → item_wants (is ++ items.Ref s ∷ []) ≡ item_wants is ++ (places.Reference, s) ∷ []
unfolding item_wants
ref_wants [] s = refl
ref_wants (items.Bytes q ∷ is) s = ref_wants is s
ref_wants (items.Ref t ∷ is) s = ap (λ (l : List node.Want). (places.Reference, t) ∷ l) (ref_wants is s)

number_last : (N : node.Want → ℕ → ℕ → Type 0) (ws : List node.Want) (w : node.Want) (n k m : ℕ) → NumberAll N ws n k → N w k m → NumberAll N (ws ++ w ∷ []) n m
number_last N [] w n k m h l = (m, subst (λ j. N w j m) h l, refl)
number_last N (v ∷ ws) w n k m h l = (h.0, h.1, number_last N ws w h.0 k m h.2 l)

-- ---- wants, one after the other

abbrev start : Progress
start = record { nodes = []; parts = 0 }

-- the nodes and the items so far
record SoFar (s : Stand) : Type 0 where
  raw : List Item
  same : s.items ≡ joined raw
  fit : ItemsFit raw
  got : GotBy (refs_in s.items) [] start s.progress [] (λ F. NumberAll (Numbered F 200 []) (item_wants s.items) 0 (length s.progress.nodes))

at_start : SoFar nothing_read
unfolding has item_wants
at_start = record {
  raw = [];
  same = refl;
  fit = All-nil ItemFits;
  got = got_none [] start [] _ (record { above = λ k i gone is desc. absurd cc; good = λ k i gone is. absurd cc; below = λ k h. absurd cc; few = omega arith; ranged = All-nil InRange }) tt (λ F sees. refl);
}

-- the bytes after what opens a block
opened_bytes : (end k : ℕ) (bs : List ℕ) (o : ℕ × List ℕ) → opened_at end k bs ≡ Ok o → plain.AreBytes bs → plain.AreBytes o.1
unfolding opened_at
opened_bytes end zero bs o is bytes = (found end (suc (length bs)) bs (Block o.0, o.1) found_block bytes).left
  where
    found_block : head_at end bs ≡ Ok (Block o.0, o.1)
    found_block =
        let a = lifted_ok (head_at end bs) only_block o is in
        by a.0 a.1 a.2
      where
        by : (x : Head × List ℕ) → head_at end bs ≡ Ok x → only_block x ≡ Ok o → head_at end bs ≡ Ok (Block o.0, o.1)
        by (Block j, rest) is h = let s : (j, rest) ≡ o = given_is (j, rest) o h in is ∙ ap (λ (x : ℕ × List ℕ). Ok (Block x.0, x.1)) s
        by (Code code at, rest) is h = absurd cc
opened_bytes end (suc j) bs o is bytes = let same : (suc j, bs) ≡ o = given_is (suc j, bs) o (sym (opened_here end (suc j) bs (omega arith)) ∙ is) in subst (λ (x : ℕ × List ℕ). plain.AreBytes x.1) same bytes

run_fits : (end n k : ℕ) (bs : List ℕ) (y : List ℕ × ℕ × List ℕ) → run_at end n k bs ≡ Ok y → plain.AreBytes bs → All (λ x. x < 2 ^ 8) y.0
unfolding run_at
run_fits end zero k bs y e bytes = subst (λ (y : List ℕ × ℕ × List ℕ). All (λ x. x < 2 ^ 8) y.0) (given_is ([], k, bs) y e) (All-nil (λ x. x < 2 ^ 8))
run_fits end (suc n) k bs y e bytes =
    let o = want_ok (opened_at end k bs) (λ o. lift_fault (byte_at o.1) ▸ λ b. run_at end n (o.0 - 1) b.1 ▸ λ r. Ok (b.0 ∷ r.0, r.1, r.2)) y e in
    let c = lifted_ok (byte_at o.0.1) (λ b. run_at end n (o.0.0 - 1) b.1 ▸ λ r. Ok (b.0 ∷ r.0, r.1, r.2)) y o.2 in
    let r = want_ok (run_at end n (o.0.0 - 1) c.0.1) (λ r. Ok (c.0.0 ∷ r.0, r.1, r.2)) y c.2 in
    let read = subst plain.AreBytes (plain.byte_sound o.0.1 c.0 c.1) (opened_bytes end k bs o.0 o.1 bytes) in
    subst (λ (y : List ℕ × ℕ × List ℕ). All (λ x. x < 2 ^ 8) y.0) (given_is (c.0.0 ∷ r.0.0, r.0.1, r.0.2) y r.2) (All-cons (λ x. x < 2 ^ 8) c.0.0 r.0.0 read.0 (run_fits end n (o.0.0 - 1) c.0.1 r.0 r.1 read.1))

bytes_so_far : (end n : ℕ) (before after : Stand) (bs x rest : List ℕ) → bytes_at end n before bs ≡ Ok (x, after, rest) → plain.AreBytes bs → SoFar before → SoFar after
unfolding bytes_at
bytes_so_far end n before after bs x rest e bytes h =
    let a = want_ok (run_at end n before.block bs) _ (x, after, rest) e in
    let y = a.0 in
    let now : Stand = record { progress = before.progress; items = add_bytes before.items y.0; block = y.1 } in
    let same : (y.0, now, y.2) ≡ (x, after, rest) = given_is (y.0, now, y.2) (x, after, rest) a.2 in
    let mine : SoFar now = record {
      raw = h.raw ++ items.Bytes y.0 ∷ [];
      same = ap (λ (l : List Item). add_bytes l y.0) h.same ∙ added_is h.raw (items.Bytes y.0);
      fit = All-push ItemFits h.raw (items.Bytes y.0) h.fit (run_fits end n before.block bs y a.1 bytes);
      got = subst (λ k. GotBy k [] start before.progress [] (λ F. NumberAll (Numbered F 200 []) (item_wants (add_bytes before.items y.0)) 0 (length before.progress.nodes))) (sym (ap (λ (l : List node.Want). length l) (bytes_wants before.items y.0)))
          (got_map [] start before.progress [] _ _ h.got (λ F sees g. subst (λ ws. NumberAll (Numbered F 200 []) ws 0 (length before.progress.nodes)) (sym (bytes_wants before.items y.0)) g));
    } in
    subst SoFar (ap (λ (t : List ℕ × Stand × List ℕ). t.1) same) mine

slot_so_far : (end : ℕ) (before after : Stand) (bs : List ℕ) (slot : Slot) → slot_next end before bs ≡ Ok (slot, after, []) → plain.AreBytes bs → SoFar before → SoFar after
unfolding slot_next
slot_so_far end before after bs slot e bytes h = elim (plain.chosen (eqb before.block 0) _ _ _ e) [
  | inr p ↦ absurd (let f = p.1 in cc)
  | inl p ↦ (
      let a = want_ok (reference_at end before.progress bs) _ (slot, after, []) p.1 in
      let y = a.0 in
      let now : Stand = record { progress = y.1; items = before.items ++ items.Ref y.0 ∷ []; block = 0 } in
      let same : (y.0, now, y.2) ≡ (slot, after, []) = given_is (y.0, now, y.2) (slot, after, []) a.2 in
      let g = reference_got end before.progress bs y a.1 h.got.solid bytes in
      let none : y.2 ≡ [] = ap (λ (t : Slot × Stand × List ℕ). t.2) same in
      let mine : SoFar now = record {
        raw = h.raw ++ items.Ref y.0 ∷ [];
        same = ap (λ (l : List Item). l ++ items.Ref y.0 ∷ []) h.same ∙ added_is h.raw (items.Ref y.0);
        fit = All-push ItemFits h.raw (items.Ref y.0) h.fit tt;
        got = subst (λ (r : List ℕ). GotBy (refs_in (before.items ++ items.Ref y.0 ∷ [])) [] start y.1 r (λ F. NumberAll (Numbered F 200 []) (item_wants (before.items ++ items.Ref y.0 ∷ [])) 0 (length y.1.nodes))) none
            (got_sum (refs_in (before.items ++ items.Ref y.0 ∷ [])) (ap (λ (l : List node.Want). length l) (ref_wants before.items y.0) ∙ length-append (item_wants before.items) ((places.Reference, y.0) ∷ [])) [] start before.progress y.1 [] y.2 _ _ _ h.got g (λ F sees a b. subst (λ ws. NumberAll (Numbered F 200 []) ws 0 (length y.1.nodes)) (sym (ref_wants before.items y.0)) (number_last (Numbered F 200 []) (item_wants before.items) (places.Reference, y.0) 0 (length before.progress.nodes) (length y.1.nodes) a b)));
      } in
      subst SoFar (ap (λ (t : Slot × Stand × List ℕ). t.1) same) mine)
]

want_so_far : (end : ℕ) (w : Want) (before after : Stand) (bs : List ℕ) (answer : Item) → want_at end w before bs ≡ Ok (answer, after, []) → plain.AreBytes bs → SoFar before → SoFar after
unfolding want_at
want_so_far end (wanted.Bytes n) before after bs answer e bytes h =
    let a = want_ok (bytes_at end n before bs) _ (answer, after, []) e in
    let s = given_is (items.Bytes a.0.0, a.0.1, a.0.2) (answer, after, []) a.2 in
    subst SoFar (ap (λ (t : Item × Stand × List ℕ). t.1) s) (bytes_so_far end n before a.0.1 bs a.0.0 a.0.2 a.1 bytes h)
want_so_far end wanted.Slot before after bs answer e bytes h =
    let a = want_ok (slot_next end before bs) _ (answer, after, []) e in
    let s = given_is (items.Ref a.0.0, a.0.1, a.0.2) (answer, after, []) a.2 in
    let none : a.0.2 ≡ [] = ap (λ (t : Item × Stand × List ℕ). t.2) s in
    let here : slot_next end before bs ≡ Ok (a.0.0, a.0.1, []) = a.1 ∙ ap (λ (r : List ℕ). given (a.0.0, a.0.1, r)) none in
    subst SoFar (ap (λ (t : Item × Stand × List ℕ). t.1) s) (slot_so_far end before a.0.1 bs a.0.0 here bytes h)

so_far : (served : List ServedWant) (s : Stand) → HaveLedTo served s → SoFar s
so_far [] s h = subst SoFar (sym h) at_start
so_far (w ∷ earlier) s h = want_so_far w.end w.want h.0 s w.bytes w.answer h.2 (are w.bytes h.1) (so_far earlier h.0 h.3)

-- They are a graph, with at most so many nodes.
pub served_graph : (s : Stand) → IsReached s → length s.progress.nodes ≤ 65536 → IsGraph s.progress.nodes s.items
unfolding has parts_in
served_graph s h few =
    let f = so_far h.0 s h.1 in
    let N = s.progress.nodes in
    let all : parts_in N ≡ parts_in f.got.added = ap parts_in f.got.grown in
    let p = f.got.parts in
    let most = f.got.solid.few in
    record {
      numbered = f.got.spelled N (record { descs = λ k i gone is desc. is; texts = λ k i is t. is; long = omega arith }) (λ k low lt. refl);
      joined = ap is_joined f.same ∙ joined_joined f.raw;
      few_nodes = few;
      few_parts = omega arith;
      numbers = numbers_of N f.got.solid.ranged;
      units = units_of N f.got.solid.ranged;
      bytes = subst (λ (l : List Item). ItemsFit l) (sym f.same) (joined_fit f.raw f.fit);
    }

-- ---- one want more

pub bytes_served : {p q : PullState} (n : ℕ) (before after : Stand) (x : List ℕ) → Reads (inside short) p q (λ end. bytes_at end n before) (λ rest. (x, after, rest)) → IsReached before → IsReached after
unfolding want_at
bytes_served {p} {q} n before after x r h =
    let one : bytes_at (q.at + 0) n before r.taken ≡ Ok (x, after, []) = ap (λ (bs : List ℕ). bytes_at (q.at + 0) n before bs) (sym (append-nil r.taken)) ∙ r.is [] in
    (record { want = wanted.Bytes n; end = q.at + 0; bytes = r.taken; answer = items.Bytes x } ∷ h.0, (before, r.bytes, rw one refl, h.1))

pub slot_served : {p q : PullState} (before after : Stand) (x : Slot) → Reads (inside short) p q (λ end. slot_next end before) (λ rest. (x, after, rest)) → IsReached before → IsReached after
unfolding want_at
slot_served {p} {q} before after x r h =
    let one : slot_next (q.at + 0) before r.taken ≡ Ok (x, after, []) = ap (λ (bs : List ℕ). slot_next (q.at + 0) before bs) (sym (append-nil r.taken)) ∙ r.is [] in
    (record { want = wanted.Slot; end = q.at + 0; bytes = r.taken; answer = items.Ref x } ∷ h.0, (before, r.bytes, rw one refl, h.1))
