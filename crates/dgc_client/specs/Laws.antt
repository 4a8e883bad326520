-- Laws of logs.
use Rattle.std.specs.Prelude.{ℤ, int_lt, Bool, true, ◌&&◌, IsTrue, List, [], ◌∷◌}
use Rattle.std.specs.List.{list_all}
use Rattle.dgc_client.specs.Log.{ClientCall, notes, numbers_sent}

-- Of numbers that are given newest first, each is greater than all that were sent before it.
abbrev pub is_rising : List ℤ → Bool
is_rising [] = true
is_rising (n ∷ ns) = list_all (λ m. int_lt m n) ns && is_rising ns

-- The numbers of the calls that a client sends rise strictly, so none is sent twice.
abbrev pub NumbersRise : Type 0
NumbersRise = (first : ℤ) (calls : List ClientCall) → IsTrue (is_rising (numbers_sent (notes first calls)))
