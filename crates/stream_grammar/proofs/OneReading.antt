-- Bytes are a stream of at most one graph.
use Rattle.std.proofs.Common.{◌≡◌, ℕ, zero, suc, ◌+◌, ◌<◌, ◌≤◌, true, false, eqb, List, [], ◌∷◌, ◌++◌, length, drop, Some, slice_get, refl, sym, ap, subst, ◌∙◌, arith, inl}
use Rattle.std.proofs.lemmas.Bool.{eqb-false}
use Rattle.std.specs.Int.{w32, to_be_bytes}
use Rattle.class_desc.specs.declared.slot.Slot.{Slot}
use Rattle.class_desc.specs.declared.slot.Slot.TheVariants as slots
use Rattle.class_desc.specs.declared.slot.Item.{Item}
use Rattle.ser_values.specs.declared.node.Node.{Node}
use Rattle.ser_values.specs.Node.{has, is_desc, inside}
use Rattle.ser_values.specs.Shape.{is_shaped}
use Rattle.stream_grammar.specs.Spelled.{Token, Spelling, SpellsBlocks, SpellsItems, SpellsAll, Form, Spell, a_null, again, fresh, never, Spells, IsStream}
use Rattle.ser_values.specs.Ranges.{NodeFits, NumbersFit}
use Rattle.stream_grammar.proofs.Apart.{front_same, same_32, heads}
use Rattle.stream_grammar.proofs.Leading.{Leads}
use Rattle.stream_grammar.proofs.Forms.{Whole, forms_lead, IsCodeOf, code_of}
use Rattle.stream_grammar.proofs.Agreeing.{IsState, Agree, agree_none, chained_null, chained_again, chained_fresh, opened, whole_up, agree_node}
use Rattle.stream_grammar.proofs.SameTokens.{AreSame, AllBegin, never_begins, spells_begin, as_many_same, items_same, tokens_same}

pub node_fits : (nodes : List Node) → NumbersFit nodes → (k : ℕ) (i : Node) → slice_get nodes k ≡ Some i → NodeFits i
node_fits (x ∷ nodes) h zero i e = let same : x ≡ i = cc in subst (λ (j : Node). NodeFits j) same (h zero x (omega arith))
node_fits (x ∷ nodes) h (suc k) i e = node_fits nodes (λ j d lt. h (suc j) d (omega arith)) k i e
node_fits [] h k i e = absurd cc

-- one code is not another
codes_apart : (a b : ℕ) (bs x y : List ℕ) → bs ≡ a ∷ x → bs ≡ b ∷ y → eqb a b ≡ false → ⊥
codes_apart a b bs x y e f h = eqb-false _ _ h (heads a b x y (sym e ∙ f)).0

handles_same : (k j n : ℕ) (bs x y : List ℕ) → k < n → j < n → n ≤ 65536 → bs ≡ 0x71 ∷ (to_be_bytes w32 (0x7E0000 + k) ++ x) → bs ≡ 0x71 ∷ (to_be_bytes w32 (0x7E0000 + j) ++ y) → (k ≡ j) × (x ≡ y)
handles_same k j n bs x y lt lt2 few e f =
    let h = front_same (to_be_bytes w32 (0x7E0000 + k)) (to_be_bytes w32 (0x7E0000 + j)) x y refl (heads _ _ _ _ (sym e ∙ f)).1 in
    let same : 0x7E0000 + k ≡ 0x7E0000 + j = same_32 (0x7E0000 + k) (0x7E0000 + j) (omega arith) (omega arith) h.0 in
    (omega arith, h.1)

inside_same : (unread : List ℕ) (k l code : ℕ) (i j : Node) → IsCodeOf i code → IsCodeOf j code → k ≡ l → inside unread k i ≡ inside unread l j
inside_same unread k l code i j a b e = let d : is_desc i ≡ is_desc j = a.tells ∙ sym b.tells in rw (d, e) refl

slot_two : (s t : Slot) (k l : ℕ) → s ≡ slots.Node k → t ≡ slots.Node l → k ≡ l → s ≡ t
slot_two s t k l a b e = a ∙ (ap (λ x. slots.Node x) e ∙ sym b)

-- two nodes that get a handle here
fresh_same : (A B : List Node) (S T : Spelling) → AreSame A B S T → AllBegin S → AllBegin T → NumbersFit A → NumbersFit B → (unread : List ℕ) (n k l code : ℕ) (i j : Node) (bs cs ls ds : List Token) (b b1 c1 x y : List ℕ) (m o : ℕ)
    → slice_get A k ≡ Some i → slice_get B l ≡ Some j → n ≤ k → k < 65536 → is_shaped A i ≡ true → is_shaped B j ≡ true → Form A i code bs ls → Form B j code cs ds
    → SpellsAll (S unread) bs n b b1 k → SpellsAll (S (inside unread k i)) ls (suc k) b1 x m → SpellsAll (T unread) cs n b c1 l → SpellsAll (T (inside unread l j)) ds (suc l) c1 y o → IsState A B unread n
    → (k ≡ l) × Whole A B i j × Agree A B unread n x y m o
fresh_same A B S T same sb tb fits_a fits_b unread n k l code i j bs cs ls ds b b1 c1 x y m o is_a is_b le few shaped_a shaped_b form_a form_b h1 h2 g1 g2 st =
    let lead = forms_lead A B i j code bs cs ls ds form_a form_b shaped_a shaped_b (node_fits A fits_a k i is_a) (node_fits B fits_b l j is_b) in
    let r1 = tokens_same A B S T same sb tb unread bs cs (Leads A B ls ds (Whole A B i j)) n b b1 c1 k l h1 g1 lead st in
    let a1 = r1.1 in
    let within = inside_same unread k l code i j (code_of A i code bs ls form_a) (code_of B j code cs ds form_b) a1.counts in
    let g3 : SpellsAll (T (inside unread k i)) ds (suc k) b1 y o = rw (within, a1.counts, a1.rests) g2 in
    let r2 = tokens_same A B S T same sb tb (inside unread k i) ls ds (Whole A B i j) (suc k) b1 x y m o h2 g3 r1.0 (opened A B unread k i a1.state few is_a) in
    let here : slice_get B k ≡ Some j = ap (slice_get B) a1.counts ∙ is_b in
    (a1.counts, r2.0, agree_node A B unread n k i j b1 c1 x y l m o st le is_a here r2.0 a1 r2.1)

spell_same : (A B : List Node) (left room : ℕ) (S T : Spelling) → AreSame A B S T → AllBegin S → AllBegin T → NumbersFit A → NumbersFit B → AreSame A B (Spell A left S) (Spell B room T)
spell_same A B left room S T same sb tb fits_a fits_b unread p s t n bs x y m o (a_null what ok e c) (a_null what2 ok2 e2 c2) st =
    (what ∙ sym what2, chained_null A B p s what ok, agree_none A B unread n x y m o (heads _ _ _ _ (sym e ∙ e2)).1 c c2 st)
spell_same A B left room S T same sb tb fits_a fits_b unread p s t n bs x y m o (again k i what is lt ok e c) (again l j what2 is2 lt2 ok2 e2 c2) st =
    let h = handles_same k l n bs x y lt lt2 st.few e e2 in
    (slot_two s t k l what what2 h.0, chained_again A B unread n k i p s st what is lt ok, agree_none A B unread n x y m o h.1 c c2 st)
spell_same A B left room S T same sb tb fits_a fits_b unread p s t n bs x y m o (fresh k i code befores afters b b1 what is le few lt ok shaped form e h1 h2) (fresh l j code2 cs ds d d1 what2 is2 le2 few2 lt2 ok2 shaped2 form2 e2 g1 g2) st =
    let h = heads code code2 b d (sym e ∙ e2) in
    let form3 : Form B j code cs ds = subst (λ z. Form B j z cs ds) (sym h.0) form2 in
    let g3 : SpellsAll (T unread) cs n b d1 l = subst (λ (z : List ℕ). SpellsAll (T unread) cs n z d1 l) (sym h.1) g1 in
    let r = fresh_same A B S T same sb tb fits_a fits_b unread n k l code i j befores cs afters ds b b1 d1 x y m o is is2 le few shaped shaped2 form form3 h1 h2 g3 g2 st in
    let here : slice_get B k ≡ Some j = ap (slice_get B) r.0 ∙ is2 in
    (slot_two s t k l what what2 r.0, chained_fresh A B p s i ok (λ desc. rw what (whole_up A B k i j is here r.1)), r.2)
spell_same A B left room S T same sb tb fits_a fits_b unread p s t n bs x y m o (a_null what ok e c) (again l j what2 is2 lt2 ok2 e2 c2) st = absurd (codes_apart 0x70 0x71 bs _ _ e e2 refl)
spell_same A B left room S T same sb tb fits_a fits_b unread p s t n bs x y m o (again k i what is lt ok e c) (a_null what2 ok2 e2 c2) st = absurd (codes_apart 0x71 0x70 bs _ _ e e2 refl)
spell_same A B left room S T same sb tb fits_a fits_b unread p s t n bs x y m o (a_null what ok e c) (fresh l j code2 cs ds d d1 what2 is2 le2 few2 lt2 ok2 shaped2 form2 e2 g1 g2) st =
    absurd (codes_apart code2 0x70 bs _ _ e2 e (code_of B j code2 cs ds form2).not_null)
spell_same A B left room S T same sb tb fits_a fits_b unread p s t n bs x y m o (again k i what is lt ok e c) (fresh l j code2 cs ds d d1 what2 is2 le2 few2 lt2 ok2 shaped2 form2 e2 g1 g2) st =
    absurd (codes_apart code2 0x71 bs _ _ e2 e (code_of B j code2 cs ds form2).not_handle)
spell_same A B left room S T same sb tb fits_a fits_b unread p s t n bs x y m o (fresh k i code befores afters b b1 what is le few lt ok shaped form e h1 h2) (a_null what2 ok2 e2 c2) st =
    absurd (codes_apart code 0x70 bs _ _ e e2 (code_of A i code befores afters form).not_null)
spell_same A B left room S T same sb tb fits_a fits_b unread p s t n bs x y m o (fresh k i code befores afters b b1 what is le few lt ok shaped form e h1 h2) (again l j what2 is2 lt2 ok2 e2 c2) st =
    absurd (codes_apart code 0x71 bs _ _ e e2 (code_of A i code befores afters form).not_handle)

spells_same : (A B : List Node) → NumbersFit A → NumbersFit B → (d : ℕ) → AreSame A B (Spells A d) (Spells B d)
unfolding Spells
spells_same A B fits_a fits_b zero unread p s t n bs x y m o h g st =
    spell_same A B zero zero never never (λ unread p s t n bs x y m o h g st. absurd h) never_begins never_begins fits_a fits_b unread p s t n bs x y m o h g st
spells_same A B fits_a fits_b (suc d) unread p s t n bs x y m o h g st =
    spell_same A B (suc d) (suc d) (Spells A d) (Spells B d) (spells_same A B fits_a fits_b d) (spells_begin A d) (spells_begin B d) fits_a fits_b unread p s t n bs x y m o h g st

pub same_list : {X : Type 0} (xs ys : List X) → length xs ≡ length ys → ((k : ℕ) → k < length xs → slice_get xs k ≡ slice_get ys k) → xs ≡ ys
same_list [] [] e h = refl
same_list [] (y ∷ ys) e h = absurd (omega arith)
same_list (x ∷ xs) [] e h = absurd (omega arith)
same_list (x ∷ xs) (y ∷ ys) e h =
    let first : Some x ≡ Some y = h zero (omega arith) in
    let one : x ≡ y = cc in
    let others : xs ≡ ys = same_list xs ys (omega arith) (λ k lt. h (suc k) (omega arith)) in
    cc

-- No spelling of equally many blocks and references is a proper front of another.
pub no_fronts : (A B : List Node) (is js : List Item) (bytes x y : List ℕ) (m k : ℕ) → NumbersFit A → NumbersFit B → length A ≡ m → length B ≡ k → length is ≡ length js
    → SpellsBlocks (Spells A 200 []) is 0 bytes x m → SpellsBlocks (Spells B 200 []) js 0 bytes y k → (A ≡ B) × (is ≡ js) × (x ≡ y)
unfolding has
no_fronts A B is js bytes x y m k fits_a fits_b ea eb len h g =
    let st : IsState A B [] 0 = record { few = omega arith; below = λ k h. absurd cc; known = λ k i lt h is d. absurd (omega arith) } in
    let r = as_many_same A B (Spells A 200) (Spells B 200) (spells_same A B fits_a fits_b 200) (spells_begin A 200) (spells_begin B 200) [] is js 0 bytes x y m k h g len st in
    let a = r.1 in
    let lens : length A ≡ length B = ea ∙ (a.counts ∙ sym eb) in
    (same_list A B lens (λ k lt. a.agrees k (omega arith) (omega (arith, lt, ea))), r.0, a.rests)

-- Bytes are a stream of at most one graph.
pub one_reading : (nodes1 nodes2 : List Node) (items1 items2 : List Item) (bytes : List ℕ) → IsStream nodes1 items1 bytes → IsStream nodes2 items2 bytes → (nodes1 ≡ nodes2) × (items1 ≡ items2)
unfolding has
one_reading A B is js bytes a b =
    let contents : a.contents ≡ b.contents = ap (drop 4) (sym a.headed ∙ b.headed) in
    let st : IsState A B [] 0 = record { few = omega arith; below = λ k h. absurd cc; known = λ k i lt h is d. absurd (omega arith) } in
    let second = subst (λ (z : List ℕ). SpellsItems (Spells B 200 []) js 0 z [] (length B)) (sym contents) b.spelled in
    let r = items_same A B (Spells A 200) (Spells B 200) (spells_same A B a.numbers b.numbers 200) (spells_begin A 200) (spells_begin B 200) [] is js 0 a.contents [] [] (length A) (length B) a.spelled second (inl refl) (inl refl) st in
    let g = r.1 in
    (same_list A B g.counts (λ k lt. g.agrees k (omega arith) lt), r.0)
