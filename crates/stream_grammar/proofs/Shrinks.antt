-- What is spelled takes a byte at least, and gives at most 65,536 handles.
use Rattle.std.proofs.Common.{◌≡◌, ℕ, zero, suc, ◌+◌, ◌<◌, ◌≤◌, true, false, List, [], ◌∷◌, ◌++◌, length, ap, arith, inl, inr}
use Rattle.std.proofs.lemmas.List.{length-append}
use Rattle.std.specs.Int.{w32, to_be_bytes}
use Rattle.class_desc.specs.declared.slot.Item.{Item}
use Rattle.class_desc.specs.declared.slot.Item.TheVariants as items
use Rattle.ser_values.specs.declared.node.Node.{Node}
use Rattle.ser_values.specs.declared.node.SlotPlace.TheVariants as places
use Rattle.ser_values.specs.Node.{Want, inside}
use Rattle.stream_grammar.specs.Spelled.{Token, raw, truth, want, note, IsBlock, One, SpellsBlocks, SpellsAll, Spelling, Spell, a_null, again, fresh, never, Spells, IsStream}

abbrev pub Shrinks : One → Type 0
Shrinks S = (w : Want) (n : ℕ) (bs rest : List ℕ) (m : ℕ) → S w n bs rest m → length rest < length bs

same_len : (xs ys : List ℕ) → xs ≡ ys → length xs ≡ length ys
same_len xs ys e = ap (λ (l : List ℕ). length l) e

append_len : (bs r rest : List ℕ) → bs ≡ r ++ rest → length bs ≡ length r + length rest
append_len bs r rest e = let l = same_len bs (r ++ rest) e in simp length-append at l

pub block_len : (p block bs b : List ℕ) → IsBlock p block → bs ≡ block ++ b → length b < length bs
block_len p block bs b (inl (few, e)) h = let l = append_len bs block b h in let l2 : length block ≡ suc (suc (length p)) = same_len block _ e in omega arith
block_len p block bs b (inr (few, e)) h = let l = append_len bs block b h in let l2 : length block ≡ suc (length (to_be_bytes w32 (length p) ++ p)) = same_len block _ e in omega arith

blocks_shrink : (S : One) → Shrinks S → (is : List Item) (n : ℕ) (bs rest : List ℕ) (m : ℕ) → SpellsBlocks S is n bs rest m → length rest ≤ length bs
blocks_shrink S sh [] n bs rest m h = let l = same_len bs rest h.0 in omega arith
blocks_shrink S sh (items.Bytes p ∷ is) n bs rest m h = let a = block_len p h.0 bs h.1 h.2 h.3 in let b = blocks_shrink S sh is n h.1 rest m h.4 in omega arith
blocks_shrink S sh (items.Ref s ∷ is) n bs rest m h = let a = sh (places.Reference, s) n bs h.0 h.1 h.2 in let b = blocks_shrink S sh is h.1 h.0 rest m h.3 in omega arith

tokens_shrink : (S : One) → Shrinks S → (ts : List Token) (n : ℕ) (bs rest : List ℕ) (m : ℕ) → SpellsAll S ts n bs rest m → length rest ≤ length bs
tokens_shrink S sh [] n bs rest m h = let l = same_len bs rest h.0 in omega arith
tokens_shrink S sh (raw r ∷ ts) n bs rest m h = let a = append_len bs r h.0 h.2.0 in let b = tokens_shrink S sh ts h.1 h.0 rest m h.3 in omega arith
tokens_shrink S sh (truth true ∷ ts) n bs rest m h = let a : length bs ≡ suc (length h.0) = same_len bs _ h.2.1 in let b = tokens_shrink S sh ts h.1 h.0 rest m h.3 in omega arith
tokens_shrink S sh (truth false ∷ ts) n bs rest m h = let a : length bs ≡ suc (length h.0) = same_len bs _ h.2.0 in let b = tokens_shrink S sh ts h.1 h.0 rest m h.3 in omega arith
tokens_shrink S sh (want w ∷ ts) n bs rest m h = let a = sh w n bs h.0 h.1 h.2 in let b = tokens_shrink S sh ts h.1 h.0 rest m h.3 in omega arith
tokens_shrink S sh (note is ∷ ts) n bs rest m h = let a : suc (length h.0) ≤ length bs = blocks_shrink S sh h.2.0 n bs (0x78 ∷ h.0) h.1 h.2.1 in let b = tokens_shrink S sh ts h.1 h.0 rest m h.3 in omega arith

spell_shrinks : (nodes : List Node) (left : ℕ) (S : Spelling) → ((unread : List ℕ) → Shrinks (S unread)) → (unread : List ℕ) → Shrinks (Spell nodes left S unread)
spell_shrinks nodes left S sh unread w n bs rest m (a_null what ok e same) = let l : length bs ≡ suc (length rest) = same_len bs _ e in omega arith
spell_shrinks nodes left S sh unread w n bs rest m (again k i what is lt ok e same) =
    let l : length bs ≡ suc (length (to_be_bytes w32 (0x7E0000 + k) ++ rest)) = same_len bs _ e in
    let l2 = append_len (to_be_bytes w32 (0x7E0000 + k) ++ rest) (to_be_bytes w32 (0x7E0000 + k)) rest (ap (λ x. x) refl_of) in
    omega arith
  where
    refl_of : to_be_bytes w32 (0x7E0000 + k) ++ rest ≡ to_be_bytes w32 (0x7E0000 + k) ++ rest
    refl_of = cc
spell_shrinks nodes left S sh unread w n bs rest m (fresh k i code befores afters b b1 what is le few lt admitted shaped form e h1 h2) =
    let l : length bs ≡ suc (length b) = same_len bs _ e in
    let x = tokens_shrink (S unread) (sh unread) befores n b b1 k h1 in
    let y = tokens_shrink (S (inside unread k i)) (sh (inside unread k i)) afters (suc k) b1 rest m h2 in
    omega arith

pub spells_shrink : (nodes : List Node) (d : ℕ) (unread : List ℕ) → Shrinks (Spells nodes d unread)
unfolding Spells
spells_shrink nodes zero unread w n bs rest m h = spell_shrinks nodes zero never (λ unread w n bs rest m h. absurd h) unread w n bs rest m h
spells_shrink nodes (suc d) unread w n bs rest m h = spell_shrinks nodes (suc d) (Spells nodes d) (spells_shrink nodes d) unread w n bs rest m h

-- ---- handles

abbrev Bounded : One → Type 0
Bounded S = (w : Want) (n : ℕ) (bs rest : List ℕ) (m : ℕ) → S w n bs rest m → n ≤ 65536 → m ≤ 65536

blocks_bounded : (S : One) → Bounded S → (is : List Item) (n : ℕ) (bs rest : List ℕ) (m : ℕ) → SpellsBlocks S is n bs rest m → n ≤ 65536 → m ≤ 65536
blocks_bounded S f [] n bs rest m h le = let e : m ≡ n = h.1 in omega arith
blocks_bounded S f (items.Bytes p ∷ is) n bs rest m h le = blocks_bounded S f is n h.1 rest m h.4 le
blocks_bounded S f (items.Ref s ∷ is) n bs rest m h le = blocks_bounded S f is h.1 h.0 rest m h.3 (f (places.Reference, s) n bs h.0 h.1 h.2 le)

tokens_bounded : (S : One) → Bounded S → (ts : List Token) (n : ℕ) (bs rest : List ℕ) (m : ℕ) → SpellsAll S ts n bs rest m → n ≤ 65536 → m ≤ 65536
tokens_bounded S f [] n bs rest m h le = let e : m ≡ n = h.1 in omega arith
tokens_bounded S f (raw r ∷ ts) n bs rest m h le = let e : h.1 ≡ n = h.2.1 in tokens_bounded S f ts h.1 h.0 rest m h.3 (omega arith)
tokens_bounded S f (truth true ∷ ts) n bs rest m h le = let e : h.1 ≡ n = h.2.2 in tokens_bounded S f ts h.1 h.0 rest m h.3 (omega arith)
tokens_bounded S f (truth false ∷ ts) n bs rest m h le = let e : h.1 ≡ n = h.2.1 in tokens_bounded S f ts h.1 h.0 rest m h.3 (omega arith)
tokens_bounded S f (want w ∷ ts) n bs rest m h le = tokens_bounded S f ts h.1 h.0 rest m h.3 (f w n bs h.0 h.1 h.2 le)
tokens_bounded S f (note is ∷ ts) n bs rest m h le = tokens_bounded S f ts h.1 h.0 rest m h.3 (blocks_bounded S f h.2.0 n bs (0x78 ∷ h.0) h.1 h.2.1 le)

spell_bounded : (nodes : List Node) (left : ℕ) (S : Spelling) → ((unread : List ℕ) → Bounded (S unread)) → (unread : List ℕ) → Bounded (Spell nodes left S unread)
spell_bounded nodes left S f unread w n bs rest m (a_null what ok e same) le = omega arith
spell_bounded nodes left S f unread w n bs rest m (again k i what is lt ok e same) le = omega arith
spell_bounded nodes left S f unread w n bs rest m (fresh k i code befores afters b b1 what is low few lt admitted shaped form e h1 h2) le =
    tokens_bounded (S (inside unread k i)) (f (inside unread k i)) afters (suc k) b1 rest m h2 (omega arith)

spells_bounded : (nodes : List Node) (d : ℕ) (unread : List ℕ) → Bounded (Spells nodes d unread)
unfolding Spells
spells_bounded nodes zero unread w n bs rest m h = spell_bounded nodes zero never (λ unread w n bs rest m h. absurd h) unread w n bs rest m h
spells_bounded nodes (suc d) unread w n bs rest m h = spell_bounded nodes (suc d) (Spells nodes d) (spells_bounded nodes d) unread w n bs rest m h

-- A stream has at most 65,536 nodes.
pub stream_few : (nodes : List Node) (items : List Item) (bytes : List ℕ) → IsStream nodes items bytes → length nodes ≤ 65536
stream_few nodes is bytes h = blocks_bounded (Spells nodes 200 []) (spells_bounded nodes 200 []) h.spelled.0 0 h.contents [] (length nodes) h.spelled.1 (omega arith)

-- ---- handles are given in order

abbrev pub Grows : One → Type 0
Grows S = (w : Want) (n : ℕ) (bs rest : List ℕ) (m : ℕ) → S w n bs rest m → n ≤ m

blocks_grow : (S : One) → Grows S → (is : List Item) (n : ℕ) (bs rest : List ℕ) (m : ℕ) → SpellsBlocks S is n bs rest m → n ≤ m
blocks_grow S f [] n bs rest m h = let e : m ≡ n = h.1 in omega arith
blocks_grow S f (items.Bytes p ∷ is) n bs rest m h = blocks_grow S f is n h.1 rest m h.4
blocks_grow S f (items.Ref s ∷ is) n bs rest m h = let a = f (places.Reference, s) n bs h.0 h.1 h.2 in let b = blocks_grow S f is h.1 h.0 rest m h.3 in omega arith

pub tokens_grow : (S : One) → Grows S → (ts : List Token) (n : ℕ) (bs rest : List ℕ) (m : ℕ) → SpellsAll S ts n bs rest m → n ≤ m
tokens_grow S f [] n bs rest m h = let e : m ≡ n = h.1 in omega arith
tokens_grow S f (raw r ∷ ts) n bs rest m h = let e : h.1 ≡ n = h.2.1 in let b = tokens_grow S f ts h.1 h.0 rest m h.3 in omega arith
tokens_grow S f (truth true ∷ ts) n bs rest m h = let e : h.1 ≡ n = h.2.2 in let b = tokens_grow S f ts h.1 h.0 rest m h.3 in omega arith
tokens_grow S f (truth false ∷ ts) n bs rest m h = let e : h.1 ≡ n = h.2.1 in let b = tokens_grow S f ts h.1 h.0 rest m h.3 in omega arith
tokens_grow S f (want w ∷ ts) n bs rest m h = let a = f w n bs h.0 h.1 h.2 in let b = tokens_grow S f ts h.1 h.0 rest m h.3 in omega arith
tokens_grow S f (note is ∷ ts) n bs rest m h = let a = blocks_grow S f h.2.0 n bs (0x78 ∷ h.0) h.1 h.2.1 in let b = tokens_grow S f ts h.1 h.0 rest m h.3 in omega arith

spell_grows : (nodes : List Node) (left : ℕ) (S : Spelling) → ((unread : List ℕ) → Grows (S unread)) → (unread : List ℕ) → Grows (Spell nodes left S unread)
spell_grows nodes left S f unread w n bs rest m (a_null what ok e same) = omega arith
spell_grows nodes left S f unread w n bs rest m (again k i what is lt ok e same) = omega arith
spell_grows nodes left S f unread w n bs rest m (fresh k i code befores afters b b1 what is low few lt admitted shaped form e h1 h2) =
    let a = tokens_grow (S (inside unread k i)) (f (inside unread k i)) afters (suc k) b1 rest m h2 in omega arith

pub spells_grow : (nodes : List Node) (d : ℕ) (unread : List ℕ) → Grows (Spells nodes d unread)
unfolding Spells
spells_grow nodes zero unread w n bs rest m h = spell_grows nodes zero never (λ unread w n bs rest m h. absurd h) unread w n bs rest m h
spells_grow nodes (suc d) unread w n bs rest m h = spell_grows nodes (suc d) (Spells nodes d) (spells_grow nodes d) unread w n bs rest m h
