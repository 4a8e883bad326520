-- Blocks and references, byte by byte.
use Rattle.std.proofs.Common.{◌≡◌, ℕ, List, [], ◌∷◌, ◌++◌, refl, sym, ap, ◌∙◌, append_assoc}
use Rattle.class_desc.specs.declared.slot.Slot.{Slot}
use Rattle.class_desc.specs.declared.slot.Item.{Item}
use Rattle.class_desc.specs.declared.slot.Item.TheVariants as items
use Rattle.stream_grammar.specs.Spelled.{joined}
use Rattle.ser_values.specs.Fronts.{put_block}
use Rattle.ser_values.proofs.FrontLaws.{put_both}

pub data Piece : Type 0 where
  a_byte : ℕ → Piece
  a_slot : Slot → Piece

abbrev pub bytes_of : List ℕ → List Piece
bytes_of [] = []
bytes_of (b ∷ p) = a_byte b ∷ bytes_of p

abbrev pub flat : List Item → List Piece
flat [] = []
flat (items.Bytes p ∷ is) = bytes_of p ++ flat is
flat (items.Ref s ∷ is) = a_slot s ∷ flat is

abbrev grouped : List Piece → List Item
grouped [] = []
grouped (a_byte b ∷ ps) = put_block (b ∷ []) (grouped ps)
grouped (a_slot s ∷ ps) = items.Ref s ∷ grouped ps

bytes_append : (p q : List ℕ) → bytes_of (p ++ q) ≡ bytes_of p ++ bytes_of q
bytes_append [] q = refl
bytes_append (b ∷ p) q = ap (λ (l : List Piece). a_byte b ∷ l) (bytes_append p q)

put_grouped : (p : List ℕ) (ps : List Piece) → grouped (bytes_of p ++ ps) ≡ put_block p (grouped ps)
put_grouped [] ps = refl
put_grouped (b ∷ p) ps = ap (put_block (b ∷ [])) (put_grouped p ps) ∙ sym (put_both (b ∷ []) p (grouped ps))

joined_grouped : (is : List Item) → joined is ≡ grouped (flat is)
joined_grouped [] = refl
joined_grouped (items.Bytes p ∷ is) = ap (put_block p) (joined_grouped is) ∙ sym (put_grouped p (flat is))
joined_grouped (items.Ref s ∷ is) = ap (λ (l : List Item). items.Ref s ∷ l) (joined_grouped is)

pub joined_by : (is js : List Item) → flat is ≡ flat js → joined is ≡ joined js
joined_by is js e = joined_grouped is ∙ ap grouped e ∙ sym (joined_grouped js)

flat_put : (p : List ℕ) (is : List Item) → flat (put_block p is) ≡ bytes_of p ++ flat is
flat_put [] is = refl
flat_put (b ∷ p) [] = refl
flat_put (b ∷ p) (items.Bytes q ∷ is) = ap (λ (l : List Piece). a_byte b ∷ (l ++ flat is)) (bytes_append p q) ∙ ap (λ (l : List Piece). a_byte b ∷ l) (append_assoc (bytes_of p) (bytes_of q) (flat is))
flat_put (b ∷ p) (items.Ref s ∷ is) = refl

flat_joined : (is : List Item) → flat (joined is) ≡ flat is
flat_joined [] = refl
flat_joined (items.Bytes p ∷ is) = flat_put p (joined is) ∙ ap (λ (l : List Piece). bytes_of p ++ l) (flat_joined is)
flat_joined (items.Ref s ∷ is) = ap (λ (l : List Piece). a_slot s ∷ l) (flat_joined is)

pub flat_by : (is js : List Item) → joined is ≡ joined js → flat is ≡ flat js
flat_by is js e = sym (flat_joined is) ∙ ap flat e ∙ flat_joined js
