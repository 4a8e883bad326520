-- What a writer leaves.
use Rattle.std.specs.Prelude.{◌≡◌, List, ℕ, ◌++◌}

-- After a refusal a front of the text was appended.
pub record AppendsFront (old text new : List ℕ) : Type 0 where
  pub front : List ℕ
  pub rest : List ℕ
  pub text_is : text ≡ front ++ rest
  pub new_is : new ≡ old ++ front
