-- What contracts see of the calls that run: each as often as it is counted.
use Rattle.std.specs.Prelude.{◌≡◌, ℕ, ◌+◌, ◌<◌, Bool, List, All, length, filter, replicate, flat_map, if◌then◌else◌}
use Rattle.indexmap.specs.IndexMap.{IndexMap}
use Rattle.space.specs.declared.runs.Run.{Run}

-- The calls that run, in whatever order, and for how many more there is room.
pub record RunTable : Type 0 where
  pub items : List Run
  pub room : ℕ

-- The same calls, each as often, in whatever order.
abbrev pub AreSame : List Run → List Run → Type 0
AreSame xs ys = (test : Run → Bool) → length (filter test xs) ≡ length (filter test ys)

-- The calls that an entry of the counts stands for.
abbrev pub calls_of : Run × ℕ → List Run
calls_of e = replicate e.1 e.0

-- The calls that all stand for.
abbrev pub all_calls : {S : Type 0} → IndexMap Run ℕ S → List Run
all_calls counts = flat_map calls_of counts.entries

-- No count is 0: an entry stands for one call or more.
abbrev pub ArePositive : {S : Type 0} → IndexMap Run ℕ S → Type 0
ArePositive counts = All (λ (e : Run × ℕ). 0 < e.1) counts.entries

-- The new entries stand for the same calls as the old ones, less one of this entry.
abbrev pub LacksOneOf : Run × ℕ → List (Run × ℕ) → List (Run × ℕ) → Type 0
LacksOneOf e old new = (test : Run → Bool) → length (filter test (flat_map calls_of new)) + (if test e.0 then 1 else 0) ≡ length (filter test (flat_map calls_of old))
