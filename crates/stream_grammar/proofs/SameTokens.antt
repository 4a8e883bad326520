-- Tokens that the same bytes spell are the same, where references are.
use Rattle.std.proofs.Common.{◌≡◌, ℕ, zero, suc, ◌+◌, ◌⊎◌, true, false, eqb, List, [], ◌∷◌, ◌++◌, length, refl, sym, ap, subst, ◌∙◌, arith, inl, inr}
use Rattle.std.proofs.lemmas.Bool.{eqb-false}
use Rattle.std.proofs.lemmas.List.{append_cancel_left}
use Rattle.std.specs.Int.{w32, to_be_bytes}
use Rattle.class_desc.specs.declared.slot.Slot.{Slot}
use Rattle.class_desc.specs.declared.slot.Item.{Item}
use Rattle.class_desc.specs.declared.slot.Item.TheVariants as items
use Rattle.ser_values.specs.declared.node.Node.{Node}
use Rattle.ser_values.specs.declared.node.SlotPlace.{SlotPlace}
use Rattle.ser_values.specs.declared.node.SlotPlace.TheVariants as places
use Rattle.ser_values.specs.Node.{Want}
use Rattle.stream_grammar.specs.Spelled.{Token, raw, truth, want, note, IsBlock, joined, One, SpellsBlocks, SpellsItems, SpellsAll, Spelling, Spell, a_null, again, fresh, never, Spells}
use Rattle.stream_grammar.proofs.Apart.{front_same, same_32, heads}
use Rattle.stream_grammar.proofs.Leading.{Chained, Leads}
use Rattle.stream_grammar.proofs.Forms.{code_of}
use Rattle.stream_grammar.proofs.Agreeing.{IsState, Agree, agree_none, agree_two}

-- ---- what is shown, and how each reference begins

abbrev pub SameSlot : List Node → List Node → List ℕ → SlotPlace → Slot → Slot → ℕ → List ℕ → List ℕ → ℕ → ℕ → Type 0
SameSlot A B unread p s t n x y m k = (s ≡ t) × Chained A B p s × Agree A B unread n x y m k

abbrev pub AreSame : List Node → List Node → Spelling → Spelling → Type 0
AreSame A B S T = (unread : List ℕ) (p : SlotPlace) (s t : Slot) (n : ℕ) (bs x y : List ℕ) (m k : ℕ) → S unread (p, s) n bs x m → T unread (p, t) n bs y k → IsState A B unread n → SameSlot A B unread p s t n x y m k

-- neither a block nor the end of an annotation
pub record Begins (bs : List ℕ) : Type 0 where
  pub code : ℕ
  pub after : List ℕ
  pub is : bs ≡ code ∷ after
  pub not_block : eqb code 0x77 ≡ false
  pub not_long_block : eqb code 0x7A ≡ false
  pub not_end : eqb code 0x78 ≡ false

abbrev pub AllBegin : Spelling → Type 0
AllBegin S = (unread : List ℕ) (w : Want) (n : ℕ) (bs rest : List ℕ) (m : ℕ) → S unread w n bs rest m → Begins bs

pub spell_begins : (nodes : List Node) (left : ℕ) (S : Spelling) → AllBegin (Spell nodes left S)
spell_begins nodes left S unread w n bs rest m (a_null what ok e same) = record { code = 0x70; after = rest; is = e; not_block = refl; not_long_block = refl; not_end = refl }
spell_begins nodes left S unread w n bs rest m (again k i what is lt ok e same) = record { code = 0x71; after = to_be_bytes w32 (0x7E0000 + k) ++ rest; is = e; not_block = refl; not_long_block = refl; not_end = refl }
spell_begins nodes left S unread w n bs rest m (fresh k i code befores afters b b1 what is le few lt admitted shaped form e h1 h2) =
    let c = code_of nodes i code befores afters form in
    record { code = code; after = b; is = e; not_block = c.not_block; not_long_block = c.not_long_block; not_end = c.not_end }

pub never_begins : AllBegin never
never_begins unread w n bs rest m h = absurd h

pub spells_begin : (nodes : List Node) (d : ℕ) → AllBegin (Spells nodes d)
unfolding Spells
spells_begin nodes zero unread w n bs rest m h = spell_begins nodes zero never unread w n bs rest m h
spells_begin nodes (suc d) unread w n bs rest m h = spell_begins nodes (suc d) (Spells nodes d) unread w n bs rest m h

-- ---- blocks

-- the end of the stream, or that of an annotation
abbrev pub IsEnd : List ℕ → Type 0
IsEnd x = (x ≡ []) ⊎ ((r : List ℕ) × (x ≡ 0x78 ∷ r))

begin_no_end : (bs : List ℕ) → Begins bs → IsEnd bs → ⊥
begin_no_end bs b (inl e) = let s : b.code ∷ b.after ≡ [] = sym b.is ∙ e in cc
begin_no_end bs b (inr (r, e)) = eqb-false _ _ b.not_end (heads b.code 0x78 b.after r (sym b.is ∙ e)).0

block_no_end : (bs p block rest : List ℕ) → IsBlock p block → bs ≡ block ++ rest → IsEnd bs → ⊥
block_no_end bs p block rest (inl (few, b)) e (inl f) = let s : 0x77 ∷ (length p ∷ (p ++ rest)) ≡ [] = sym (rw b at e) ∙ f in cc
block_no_end bs p block rest (inl (few, b)) e (inr (r, f)) = let s : 0x77 ∷ (length p ∷ (p ++ rest)) ≡ 0x78 ∷ r = sym (rw b at e) ∙ f in eqb-false 0x77 0x78 refl (heads _ _ _ _ s).0
block_no_end bs p block rest (inr (few, b)) e (inl f) = let s : 0x7A ∷ ((to_be_bytes w32 (length p) ++ p) ++ rest) ≡ [] = sym (rw b at e) ∙ f in cc
block_no_end bs p block rest (inr (few, b)) e (inr (r, f)) = let s : 0x7A ∷ ((to_be_bytes w32 (length p) ++ p) ++ rest) ≡ 0x78 ∷ r = sym (rw b at e) ∙ f in eqb-false 0x7A 0x78 refl (heads _ _ _ _ s).0

block_no_begin : (bs p block rest : List ℕ) → IsBlock p block → bs ≡ block ++ rest → Begins bs → ⊥
block_no_begin bs p block rest (inl (few, b)) e c = let s : c.code ∷ c.after ≡ 0x77 ∷ (length p ∷ (p ++ rest)) = sym c.is ∙ rw b at e in eqb-false _ _ c.not_block (heads _ _ _ _ s).0
block_no_begin bs p block rest (inr (few, b)) e c = let s : c.code ∷ c.after ≡ 0x7A ∷ ((to_be_bytes w32 (length p) ++ p) ++ rest) = sym c.is ∙ rw b at e in eqb-false _ _ c.not_long_block (heads _ _ _ _ s).0

block_same : (bs p q b c x y : List ℕ) → IsBlock p b → IsBlock q c → bs ≡ b ++ x → bs ≡ c ++ y → (p ≡ q) × (x ≡ y)
block_same bs p q b c x y (inl (few, eb)) (inl (few2, ec)) e f =
    let s : 0x77 ∷ (length p ∷ (p ++ x)) ≡ 0x77 ∷ (length q ∷ (q ++ y)) = sym (rw eb at e) ∙ rw ec at f in
    let h = heads (length p) (length q) (p ++ x) (q ++ y) (heads _ _ _ _ s).1 in
    front_same p q x y h.0 h.1
block_same bs p q b c x y (inr (few, eb)) (inr (few2, ec)) e f =
    let s : 0x7A ∷ (to_be_bytes w32 (length p) ++ (p ++ x)) ≡ 0x7A ∷ (to_be_bytes w32 (length q) ++ (q ++ y)) = sym (rw eb at e) ∙ rw ec at f in
    let h = front_same (to_be_bytes w32 (length p)) (to_be_bytes w32 (length q)) (p ++ x) (q ++ y) refl (heads _ _ _ _ s).1 in
    front_same p q x y (same_32 (length p) (length q) (omega arith) (omega arith) h.0) h.1
block_same bs p q b c x y (inl (few, eb)) (inr (few2, ec)) e f =
    let s : 0x77 ∷ (length p ∷ (p ++ x)) ≡ 0x7A ∷ (to_be_bytes w32 (length q) ++ (q ++ y)) = sym (rw eb at e) ∙ rw ec at f in
    absurd (eqb-false 0x77 0x7A refl (heads _ _ _ _ s).0)
block_same bs p q b c x y (inr (few, eb)) (inl (few2, ec)) e f =
    let s : 0x7A ∷ (to_be_bytes w32 (length p) ++ (p ++ x)) ≡ 0x77 ∷ (length q ∷ (q ++ y)) = sym (rw eb at e) ∙ rw ec at f in
    absurd (eqb-false 0x7A 0x77 refl (heads _ _ _ _ s).0)

blocks_same : (A B : List Node) (S T : Spelling) → AreSame A B S T → AllBegin S → AllBegin T → (unread : List ℕ) (is js : List Item) (n : ℕ) (bs x y : List ℕ) (m k : ℕ)
    → SpellsBlocks (S unread) is n bs x m → SpellsBlocks (T unread) js n bs y k → IsEnd x → IsEnd y → IsState A B unread n → (is ≡ js) × Agree A B unread n x y m k
blocks_same A B S T same bs bt unread [] [] n b x y m k h g ex ey st = (refl, agree_none A B unread n x y m k (sym h.0 ∙ g.0) h.1 g.1 st)
blocks_same A B S T same bs bt unread [] (items.Bytes q ∷ js) n b x y m k h g ex ey st = absurd (block_no_end b q g.0 g.1 g.2 g.3 (subst IsEnd (sym h.0) ex))
blocks_same A B S T same bs bt unread [] (items.Ref t ∷ js) n b x y m k h g ex ey st = absurd (begin_no_end b (bt unread (places.Reference, t) n b g.0 g.1 g.2) (subst IsEnd (sym h.0) ex))
blocks_same A B S T same bs bt unread (items.Bytes p ∷ is) [] n b x y m k h g ex ey st = absurd (block_no_end b p h.0 h.1 h.2 h.3 (subst IsEnd (sym g.0) ey))
blocks_same A B S T same bs bt unread (items.Ref s ∷ is) [] n b x y m k h g ex ey st = absurd (begin_no_end b (bs unread (places.Reference, s) n b h.0 h.1 h.2) (subst IsEnd (sym g.0) ey))
blocks_same A B S T same bs bt unread (items.Bytes p ∷ is) (items.Ref t ∷ js) n b x y m k h g ex ey st = absurd (block_no_begin b p h.0 h.1 h.2 h.3 (bt unread (places.Reference, t) n b g.0 g.1 g.2))
blocks_same A B S T same bs bt unread (items.Ref s ∷ is) (items.Bytes q ∷ js) n b x y m k h g ex ey st = absurd (block_no_begin b q g.0 g.1 g.2 g.3 (bs unread (places.Reference, s) n b h.0 h.1 h.2))
blocks_same A B S T same bs bt unread (items.Bytes p ∷ is) (items.Bytes q ∷ js) n b x y m k h g ex ey st =
    let r = block_same b p q h.0 g.0 h.1 g.1 h.2 g.2 h.3 g.3 in
    let more = blocks_same A B S T same bs bt unread is js n h.1 x y m k h.4 (subst (λ (z : List ℕ). SpellsBlocks (T unread) js n z y k) (sym r.1) g.4) ex ey st in
    let first : p ≡ q = r.0 in
    let others : is ≡ js = more.0 in
    (cc, more.1)
blocks_same A B S T same bs bt unread (items.Ref s ∷ is) (items.Ref t ∷ js) n b x y m k h g ex ey st =
    let r = same unread places.Reference s t n b h.0 g.0 h.1 g.1 h.2 g.2 st in
    let a = r.2 in
    let g3 : SpellsBlocks (T unread) js h.1 h.0 y k = subst (λ (z : List ℕ). SpellsBlocks (T unread) js h.1 z y k) (sym a.rests) (subst (λ j. SpellsBlocks (T unread) js j g.0 y k) (sym a.counts) g.3) in
    let more = blocks_same A B S T same bs bt unread is js h.1 h.0 x y m k h.3 g3 ex ey a.state in
    let first : s ≡ t = r.0 in
    let others : is ≡ js = more.0 in
    (cc, agree_two A B unread n h.0 g.0 x y h.1 g.1 m k a more.1)

-- equally many, which need not end the stream or an annotation
pub as_many_same : (A B : List Node) (S T : Spelling) → AreSame A B S T → AllBegin S → AllBegin T → (unread : List ℕ) (is js : List Item) (n : ℕ) (bs x y : List ℕ) (m k : ℕ)
    → SpellsBlocks (S unread) is n bs x m → SpellsBlocks (T unread) js n bs y k → length is ≡ length js → IsState A B unread n → (is ≡ js) × Agree A B unread n x y m k
as_many_same A B S T same bs bt unread [] [] n b x y m k h g len st = (refl, agree_none A B unread n x y m k (sym h.0 ∙ g.0) h.1 g.1 st)
as_many_same A B S T same bs bt unread [] (j ∷ js) n b x y m k h g len st = absurd (omega arith)
as_many_same A B S T same bs bt unread (i ∷ is) [] n b x y m k h g len st = absurd (omega arith)
as_many_same A B S T same bs bt unread (items.Bytes p ∷ is) (items.Ref t ∷ js) n b x y m k h g len st = absurd (block_no_begin b p h.0 h.1 h.2 h.3 (bt unread (places.Reference, t) n b g.0 g.1 g.2))
as_many_same A B S T same bs bt unread (items.Ref s ∷ is) (items.Bytes q ∷ js) n b x y m k h g len st = absurd (block_no_begin b q g.0 g.1 g.2 g.3 (bs unread (places.Reference, s) n b h.0 h.1 h.2))
as_many_same A B S T same bs bt unread (items.Bytes p ∷ is) (items.Bytes q ∷ js) n b x y m k h g len st =
    let r = block_same b p q h.0 g.0 h.1 g.1 h.2 g.2 h.3 g.3 in
    let more = as_many_same A B S T same bs bt unread is js n h.1 x y m k h.4 (subst (λ (z : List ℕ). SpellsBlocks (T unread) js n z y k) (sym r.1) g.4) (omega arith) st in
    let first : p ≡ q = r.0 in
    let others : is ≡ js = more.0 in
    (cc, more.1)
as_many_same A B S T same bs bt unread (items.Ref s ∷ is) (items.Ref t ∷ js) n b x y m k h g len st =
    let r = same unread places.Reference s t n b h.0 g.0 h.1 g.1 h.2 g.2 st in
    let a = r.2 in
    let g3 : SpellsBlocks (T unread) js h.1 h.0 y k = subst (λ (z : List ℕ). SpellsBlocks (T unread) js h.1 z y k) (sym a.rests) (subst (λ j. SpellsBlocks (T unread) js j g.0 y k) (sym a.counts) g.3) in
    let more = as_many_same A B S T same bs bt unread is js h.1 h.0 x y m k h.3 g3 (omega arith) a.state in
    let first : s ≡ t = r.0 in
    let others : is ≡ js = more.0 in
    (cc, agree_two A B unread n h.0 g.0 x y h.1 g.1 m k a more.1)

pub items_same : (A B : List Node) (S T : Spelling) → AreSame A B S T → AllBegin S → AllBegin T → (unread : List ℕ) (is js : List Item) (n : ℕ) (bs x y : List ℕ) (m k : ℕ)
    → SpellsItems (S unread) is n bs x m → SpellsItems (T unread) js n bs y k → IsEnd x → IsEnd y → IsState A B unread n → (is ≡ js) × Agree A B unread n x y m k
items_same A B S T same bs bt unread is js n b x y m k h g ex ey st =
    let r = blocks_same A B S T same bs bt unread h.0 g.0 n b x y m k h.1 g.1 ex ey st in
    (h.2 ∙ (ap joined r.0 ∙ sym g.2), r.1)

-- ---- tokens

-- after one token that is the same, the rest
tokens_on : (A B : List Node) (T : One) (us : List Token) (n i j : ℕ) (b c y : List ℕ) (k : ℕ) → b ≡ c → i ≡ j → SpellsAll T us j c y k → SpellsAll T us i b y k
tokens_on A B T us n i j b c y k e f h = rw (e, f) h

truths_apart : (b : ℕ) (bs x y : List ℕ) → bs ≡ suc b ∷ x → bs ≡ 0 ∷ y → ⊥
truths_apart b bs x y e f = let h = (heads (suc b) 0 x y (sym e ∙ f)).0 in absurd (omega arith)

pub tokens_same : (A B : List Node) (S T : Spelling) → AreSame A B S T → AllBegin S → AllBegin T → (unread : List ℕ) (ts us : List Token) (G : Type 0) (n : ℕ) (bs x y : List ℕ) (m k : ℕ)
    → SpellsAll (S unread) ts n bs x m → SpellsAll (T unread) us n bs y k → Leads A B ts us G → IsState A B unread n → G × Agree A B unread n x y m k
tokens_same A B S T same bs bt unread [] [] G n b x y m k h g l st = (l, agree_none A B unread n x y m k (sym h.0 ∙ g.0) h.1 g.1 st)
tokens_same A B S T same bs bt unread (raw r ∷ ts) (raw q ∷ us) G n b x y m k h g l st =
    let p = l h.0 g.0 (sym h.2.0 ∙ g.2.0) in
    let rests : h.0 ≡ g.0 = append_cancel_left r h.0 g.0 (sym h.2.0 ∙ (g.2.0 ∙ ap (λ (z : List ℕ). z ++ g.0) (sym p.0))) in
    tokens_same A B S T same bs bt unread ts us G n h.0 x y m k (tokens_on A B (S unread) ts n n h.1 h.0 h.0 x m refl (sym h.2.1) h.3) (tokens_on A B (T unread) us n n g.1 h.0 g.0 y k rests (sym g.2.1) g.3) p.1 st
tokens_same A B S T same bs bt unread (truth true ∷ ts) (truth true ∷ us) G n b x y m k h g l st =
    let rests : h.0 ≡ g.0 = (heads _ _ _ _ (sym h.2.1 ∙ g.2.1)).1 in
    tokens_same A B S T same bs bt unread ts us G n h.0 x y m k (tokens_on A B (S unread) ts n n h.1 h.0 h.0 x m refl (sym h.2.2) h.3) (tokens_on A B (T unread) us n n g.1 h.0 g.0 y k rests (sym g.2.2) g.3) (l refl) st
tokens_same A B S T same bs bt unread (truth false ∷ ts) (truth false ∷ us) G n b x y m k h g l st =
    let rests : h.0 ≡ g.0 = (heads _ _ _ _ (sym h.2.0 ∙ g.2.0)).1 in
    tokens_same A B S T same bs bt unread ts us G n h.0 x y m k (tokens_on A B (S unread) ts n n h.1 h.0 h.0 x m refl (sym h.2.1) h.3) (tokens_on A B (T unread) us n n g.1 h.0 g.0 y k rests (sym g.2.1) g.3) (l refl) st
tokens_same A B S T same bs bt unread (truth true ∷ ts) (truth false ∷ us) G n b x y m k h g l st = absurd (truths_apart h.2.0 b h.0 g.0 h.2.1 g.2.0)
tokens_same A B S T same bs bt unread (truth false ∷ ts) (truth true ∷ us) G n b x y m k h g l st = absurd (truths_apart g.2.0 b g.0 h.0 g.2.1 h.2.0)
tokens_same A B S T same bs bt unread (want w ∷ ts) (want v ∷ us) G n b x y m k h g l st =
    let second : T unread (w.0, v.1) n b g.0 g.1 = subst (λ (p : SlotPlace). T unread (p, v.1) n b g.0 g.1) (sym l.0) g.2 in
    let r = same unread w.0 w.1 v.1 n b h.0 g.0 h.1 g.1 h.2 second st in
    let a = r.2 in
    let more = tokens_same A B S T same bs bt unread ts us G h.1 h.0 x y m k h.3 (tokens_on A B (T unread) us n h.1 g.1 h.0 g.0 y k a.rests a.counts g.3) (l.1 r.0 r.1) a.state in
    (more.0, agree_two A B unread n h.0 g.0 x y h.1 g.1 m k a more.1)
tokens_same A B S T same bs bt unread (note is ∷ ts) (note js ∷ us) G n b x y m k h g l st =
    let r = items_same A B S T same bs bt unread is js n b (0x78 ∷ h.0) (0x78 ∷ g.0) h.1 g.1 h.2 g.2 (inr (h.0, refl)) (inr (g.0, refl)) st in
    let a = r.1 in
    let rests : h.0 ≡ g.0 = (heads _ _ _ _ a.rests).1 in
    let more = tokens_same A B S T same bs bt unread ts us G h.1 h.0 x y m k h.3 (tokens_on A B (T unread) us n h.1 g.1 h.0 g.0 y k rests a.counts g.3) (l r.0) a.state in
    (more.0, agree_two A B unread n (0x78 ∷ h.0) (0x78 ∷ g.0) x y h.1 g.1 m k a more.1)
tokens_same A B S T same bs bt unread _ _ G n b x y m k h g l st = absurd l
