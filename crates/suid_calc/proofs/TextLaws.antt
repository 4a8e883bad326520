-- Pieces of a text, one after the other.
use Rattle.std.proofs.Common.{◌≡◌, ℕ, Bool, true, false, cond, List, [], ◌++◌, ap, ◌∙◌, append_assoc}

pub three : (a b c d x y z : List ℕ) → b ≡ a ++ x → c ≡ b ++ y → d ≡ c ++ z → d ≡ a ++ (x ++ (y ++ z))
three a b c d x y z e f g =
    g ∙ ap (λ (l : List ℕ). l ++ z) (f ∙ ap (λ (l : List ℕ). l ++ y) e) ∙ append_assoc (a ++ x) y z ∙ append_assoc a x (y ++ z)

pub shown : (b : Bool) (a d x : List ℕ) → b ≡ false → d ≡ a ++ x → d ≡ a ++ cond b [] x
shown true a d x e h = absurd cc
shown false a d x e h = h
