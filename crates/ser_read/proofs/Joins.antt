-- Block data behind items.
use Rattle.std.proofs.Common.{◌≡◌, ◌≢◌, ℕ, List, [], ◌∷◌, ◌++◌, refl, sym, ap, ◌∙◌, append_assoc}
use Rattle.class_desc.specs.declared.slot.Slot.{Slot}
use Rattle.class_desc.specs.declared.slot.Item.{Item}
use Rattle.class_desc.specs.declared.slot.Item.TheVariants as items
use Rattle.stream_grammar.specs.Spelled.{joined}
use Rattle.ser_values.specs.Fronts.{put_block}
use Rattle.ser_read.specs.Named.{add_bytes, added}

behind_one : (x : Item) (is : List Item) (y : Item) (b : ℕ) (p : List ℕ) → add_bytes (x ∷ (is ++ y ∷ [])) (b ∷ p) ≡ x ∷ add_bytes (is ++ y ∷ []) (b ∷ p)
unfolding add_bytes
behind_one x [] y b p = refl
behind_one x (z ∷ is) y b p = refl

joins_some : (is : List Item) (q : List ℕ) (b : ℕ) (p : List ℕ) → add_bytes (is ++ items.Bytes q ∷ []) (b ∷ p) ≡ is ++ items.Bytes (q ++ b ∷ p) ∷ []
unfolding add_bytes
joins_some [] q b p = refl
joins_some (x ∷ is) q b p = behind_one x is (items.Bytes q) b p ∙ ap (λ (l : List Item). x ∷ l) (joins_some is q b p)

follows_some : (is : List Item) (s : Slot) (b : ℕ) (p : List ℕ) → add_bytes (is ++ items.Ref s ∷ []) (b ∷ p) ≡ (is ++ items.Ref s ∷ []) ++ items.Bytes (b ∷ p) ∷ []
unfolding add_bytes
follows_some [] s b p = refl
follows_some (x ∷ is) s b p = behind_one x is (items.Ref s) b p ∙ ap (λ (l : List Item). x ∷ l) (follows_some is s b p)

pub joins : (all is : List Item) (q p : List ℕ) → p ≢ [] → all ≡ is ++ items.Bytes q ∷ [] → is ++ items.Bytes (q ++ p) ∷ [] ≡ add_bytes all p
joins all is q [] some h = absurd (some refl)
joins all is q (b ∷ p) some h = rw h (sym (joins_some is q b p))

pub follows : (all is : List Item) (s : Slot) (p : List ℕ) → p ≢ [] → all ≡ is ++ items.Ref s ∷ [] → (is ++ items.Ref s ∷ []) ++ items.Bytes p ∷ [] ≡ add_bytes all p
follows all is s [] some h = absurd (some refl)
follows all is s (b ∷ p) some h = rw h (sym (follows_some is s b p))

-- ---- items added one after the other are the items joined

put_ref : (p : List ℕ) (is : List Item) (s : Slot) → put_block p (is ++ items.Ref s ∷ []) ≡ put_block p is ++ items.Ref s ∷ []
put_ref [] is s = refl
put_ref (b ∷ p) [] s = refl
put_ref (b ∷ p) (items.Bytes q ∷ is) s = refl
put_ref (b ∷ p) (items.Ref t ∷ is) s = refl

put_added : (q : List ℕ) (is : List Item) (p : List ℕ) → put_block q (add_bytes is p) ≡ add_bytes (put_block q is) p
unfolding add_bytes
put_added [] is p = refl
put_added (c ∷ q) is [] = refl
put_added (c ∷ q) [] (b ∷ p) = refl
put_added (c ∷ q) (items.Bytes r ∷ []) (b ∷ p) = ap (λ (w : List ℕ). items.Bytes w ∷ []) (sym (append_assoc (c ∷ q) r (b ∷ p)))
put_added (c ∷ q) (items.Ref s ∷ []) (b ∷ p) = refl
put_added (c ∷ q) (items.Bytes r ∷ y ∷ is) (b ∷ p) = refl
put_added (c ∷ q) (items.Ref s ∷ y ∷ is) (b ∷ p) = refl

add_ref : (xs : List Item) (s : Slot) → joined xs ++ items.Ref s ∷ [] ≡ joined (xs ++ items.Ref s ∷ [])
add_ref [] s = refl
add_ref (items.Bytes p ∷ xs) s = sym (put_ref p (joined xs) s) ∙ ap (put_block p) (add_ref xs s)
add_ref (items.Ref t ∷ xs) s = ap (λ (is : List Item). items.Ref t ∷ is) (add_ref xs s)

add_some : (xs : List Item) (p : List ℕ) → add_bytes (joined xs) p ≡ joined (xs ++ items.Bytes p ∷ [])
unfolding add_bytes
add_some [] [] = refl
add_some [] (b ∷ p) = refl
add_some (items.Bytes q ∷ xs) p = sym (put_added q (joined xs) p) ∙ ap (put_block q) (add_some xs p)
add_some (items.Ref t ∷ xs) p = before (joined xs) p ∙ ap (λ (is : List Item). items.Ref t ∷ is) (add_some xs p)
  where
    before : (is : List Item) (p : List ℕ) → add_bytes (items.Ref t ∷ is) p ≡ items.Ref t ∷ add_bytes is p
    before is [] = refl
    before [] (b ∷ p) = refl
    before (y ∷ is) (b ∷ p) = refl

pub added_is : (xs : List Item) (i : Item) → added (joined xs) i ≡ joined (xs ++ i ∷ [])
added_is xs (items.Ref s) = add_ref xs s
added_is xs (items.Bytes p) = add_some xs p
