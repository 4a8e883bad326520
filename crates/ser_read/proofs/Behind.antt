-- What is spelled, whatever stands behind it.
use Rattle.std.proofs.Common.{◌≡◌, ℕ, zero, suc, ◌+◌, true, false, List, [], ◌∷◌, ◌++◌, refl, sym, ap, subst, ◌∙◌, append_assoc}
use Rattle.std.specs.Int.{w32, to_be_bytes}
use Rattle.class_desc.specs.declared.slot.Item.{Item}
use Rattle.class_desc.specs.declared.slot.Item.TheVariants as items
use Rattle.ser_values.specs.declared.node.Node.{Node}
use Rattle.ser_values.specs.declared.node.SlotPlace.TheVariants as places
use Rattle.ser_values.specs.Node.{Want, inside}
use Rattle.stream_grammar.specs.Spelled.{Token, raw, truth, want, note, One, SpellsBlocks, SpellsToken, SpellsAll, Spelling, Spell, a_null, again, fresh, never, Spells}

-- The bytes are a front and the rest, and the same is said of that front with whatever else stands behind it.
pub record Behind (P : List ℕ → List ℕ → Type 0) (bs rest : List ℕ) : Type 0 where
  pub front : List ℕ
  pub is : bs ≡ front ++ rest
  pub other : (others : List ℕ) → P (front ++ others) others

some : (P : List ℕ → List ℕ → Type 0) (r : List ℕ) → ((others : List ℕ) → P (r ++ others) others) → (bs rest : List ℕ) → bs ≡ r ++ rest → Behind P bs rest
some P r h bs rest e = record { front = r; is = e; other = h }

-- one after the other
two : (P Q R : List ℕ → List ℕ → Type 0) → ((a b c : List ℕ) → P a b → Q b c → R a c) → (bs b rest : List ℕ) → Behind P bs b → Behind Q b rest → Behind R bs rest
two P Q R join bs b rest x y = record {
  front = x.front ++ y.front;
  is = x.is ∙ ap (λ (l : List ℕ). x.front ++ l) y.is ∙ sym (append_assoc x.front y.front rest);
  other = λ others. subst (λ (l : List ℕ). R l others) (sym (append_assoc x.front y.front others)) (join (x.front ++ (y.front ++ others)) (y.front ++ others) others (x.other (y.front ++ others)) (y.other others));
}

abbrev pub HasFront : One → Type 0
HasFront S = (w : Want) (n : ℕ) (bs rest : List ℕ) (m : ℕ) → S w n bs rest m → Behind (λ a b. S w n a b m) bs rest

pub blocks_front : (S : One) → HasFront S → (is : List Item) (n : ℕ) (bs rest : List ℕ) (m : ℕ) → SpellsBlocks S is n bs rest m → Behind (λ a b. SpellsBlocks S is n a b m) bs rest
blocks_front S f [] n bs rest m h = some (λ a b. SpellsBlocks S [] n a b m) [] (λ others. (refl, h.1)) bs rest h.0
blocks_front S f (items.Bytes p ∷ is) n bs rest m h =
    two (λ a b. a ≡ h.0 ++ b) (λ b c. SpellsBlocks S is n b c m) (λ a c. SpellsBlocks S (items.Bytes p ∷ is) n a c m) (λ a b c e g. (h.0, b, h.2, e, g)) bs h.1 rest
    (some (λ a b. a ≡ h.0 ++ b) h.0 (λ others. refl) bs h.1 h.3) (blocks_front S f is n h.1 rest m h.4)
blocks_front S f (items.Ref s ∷ is) n bs rest m h =
    two (λ a b. S (places.Reference, s) n a b h.1) (λ b c. SpellsBlocks S is h.1 b c m) (λ a c. SpellsBlocks S (items.Ref s ∷ is) n a c m) (λ a b c x y. (b, h.1, x, y)) bs h.0 rest
    (f (places.Reference, s) n bs h.0 h.1 h.2) (blocks_front S f is h.1 h.0 rest m h.3)

token_front : (S : One) → HasFront S → (t : Token) (n : ℕ) (bs rest : List ℕ) (m : ℕ) → SpellsToken S t n bs rest m → Behind (λ a b. SpellsToken S t n a b m) bs rest
token_front S f (raw r) n bs rest m h = some (λ a b. SpellsToken S (raw r) n a b m) r (λ others. (refl, h.1)) bs rest h.0
token_front S f (truth true) n bs rest m h = some (λ a b. SpellsToken S (truth true) n a b m) (suc h.0 ∷ []) (λ others. (h.0, refl, h.2)) bs rest h.1
token_front S f (truth false) n bs rest m h = some (λ a b. SpellsToken S (truth false) n a b m) (0 ∷ []) (λ others. (refl, h.1)) bs rest h.0
token_front S f (want w) n bs rest m h = f w n bs rest m h
token_front S f (note is) n bs rest m h =
    two (λ a b. SpellsBlocks S h.0 n a b m) (λ b c. b ≡ 0x78 ∷ c) (λ a c. SpellsToken S (note is) n a c m) (λ a b c x e. (h.0, subst (λ (l : List ℕ). SpellsBlocks S h.0 n a l m) e x, h.2)) bs (0x78 ∷ rest) rest
    (blocks_front S f h.0 n bs (0x78 ∷ rest) m h.1) (some (λ b c. b ≡ 0x78 ∷ c) (0x78 ∷ []) (λ others. refl) (0x78 ∷ rest) rest refl)

all_front : (S : One) → HasFront S → (ts : List Token) (n : ℕ) (bs rest : List ℕ) (m : ℕ) → SpellsAll S ts n bs rest m → Behind (λ a b. SpellsAll S ts n a b m) bs rest
all_front S f [] n bs rest m h = some (λ a b. SpellsAll S [] n a b m) [] (λ others. (refl, h.1)) bs rest h.0
all_front S f (t ∷ ts) n bs rest m h =
    two (λ a b. SpellsToken S t n a b h.1) (λ b c. SpellsAll S ts h.1 b c m) (λ a c. SpellsAll S (t ∷ ts) n a c m) (λ a b c x y. (b, h.1, x, y)) bs h.0 rest
    (token_front S f t n bs h.0 h.1 h.2) (all_front S f ts h.1 h.0 rest m h.3)

spell_front : (nodes : List Node) (left : ℕ) (S : Spelling) → ((unread : List ℕ) → HasFront (S unread)) → (unread : List ℕ) → HasFront (Spell nodes left S unread)
spell_front nodes left S f unread w n bs rest m (a_null what ok e same) = some (λ a b. Spell nodes left S unread w n a b m) (0x70 ∷ []) (λ others. a_null what ok refl same) bs rest e
spell_front nodes left S f unread w n bs rest m (again k i what is lt ok e same) =
    some (λ a b. Spell nodes left S unread w n a b m) (0x71 ∷ to_be_bytes w32 (0x7E0000 + k)) (λ others. again k i what is lt ok refl same) bs rest e
spell_front nodes left S f unread w n bs rest m (fresh k i code befores afters b b1 what is low few lt admitted shaped form e h1 h2) =
    two (λ a x. a ≡ code ∷ x) (λ x c. (y : List ℕ) × SpellsAll (S unread) befores n x y k × SpellsAll (S (inside unread k i)) afters (suc k) y c m) (λ a c. Spell nodes left S unread w n a c m)
    (λ a x c e p. fresh k i code befores afters x p.0 what is low few lt admitted shaped form e p.1 p.2) bs b rest
    (some (λ a x. a ≡ code ∷ x) (code ∷ []) (λ others. refl) bs b e)
    (two (λ x y. SpellsAll (S unread) befores n x y k) (λ y c. SpellsAll (S (inside unread k i)) afters (suc k) y c m) (λ x c. (y : List ℕ) × SpellsAll (S unread) befores n x y k × SpellsAll (S (inside unread k i)) afters (suc k) y c m)
    (λ x y c p q. (y, p, q)) b b1 rest (all_front (S unread) (f unread) befores n b b1 k h1) (all_front (S (inside unread k i)) (f (inside unread k i)) afters (suc k) b1 rest m h2))

pub spells_front : (nodes : List Node) (d : ℕ) (unread : List ℕ) → HasFront (Spells nodes d unread)
unfolding Spells
spells_front nodes zero unread w n bs rest m h = spell_front nodes zero never (λ unread w n bs rest m h. absurd h) unread w n bs rest m h
spells_front nodes (suc d) unread w n bs rest m h = spell_front nodes (suc d) (Spells nodes d) (spells_front nodes d) unread w n bs rest m h
