-- What a dialogue's input and the outside's answers determine.
use Rattle.std.specs.Prelude.{◌≡◌, ℕ, List, ◌++◌, Some}
use Rattle.call_dispatch.specs.declared.end.ConnEnd.{ConnEnd}
use Rattle.call_dispatch.specs.End.{IsSettled}
use Rattle.system_objects.specs.Terms.{Terms}
use Rattle.call_dispatch.specs.ConnectionState.{Transcript}
use Rattle.call_dispatch.specs.Rows.{Exchange, IsExchange, taken_by, acts_by}
use Rattle.call_dispatch.specs.Dialogue.{Dialogue}
use Rattle.call_dispatch.specs.Tape.{OutsideAnswer, tape}

-- Two exchanges that may come at one place, and begin one input and one list of answers, are one.
abbrev pub NextIsOne : Type 0
NextIsOne = (terms : Terms) (drawn : ℕ) (e f : Exchange) (rest rest2 : List ℕ) (t t2 : List OutsideAnswer)
    → IsExchange terms drawn e → IsExchange terms drawn f
    → taken_by e ++ rest ≡ taken_by f ++ rest2 → tape (acts_by e) ++ t ≡ tape (acts_by f) ++ t2
    → (e ≡ f) × (rest ≡ rest2) × (t ≡ t2)

-- An input and the answers of the outside have one settled dialogue: where two have the same input, and the answers that one
-- was given begin as the other's do, as far as both go, they are one.
abbrev pub OneDialogue : Type 0
OneDialogue = (terms : Terms) (drawn : ℕ) (c c2 : Transcript) (rest rest2 : List ℕ) (end end2 : ConnEnd) (t t2 : List OutsideAnswer)
    → Dialogue terms drawn c (Some rest) end → IsSettled end → Dialogue terms drawn c2 (Some rest2) end2 → IsSettled end2
    → c.taken ++ rest ≡ c2.taken ++ rest2 → tape c.acts ++ t ≡ tape c2.acts ++ t2
    → (end ≡ end2) × (c ≡ c2) × (rest ≡ rest2)
