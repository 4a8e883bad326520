-- The spelling of a text is one by the definition, and the only one.
use Rattle.std.proofs.Common.{◌≡◌, ℕ, ◌+◌, ◌/◌, ◌%◌, ◌^◌, ◌<◌, ◌≤◌, ◌⊎◌, inl, inr, List, [], ◌∷◌, ◌++◌, length, take, refl, ap, sym, ◌∙◌, arith, append-nil, append_assoc, get_or}
use Rattle.std.proofs.lemmas.Grind.{common_steps}
use Rattle.std.proofs.lemmas.List.{take_more, flat_map_more}
use Rattle.std.proofs.str.Laws.{order}
use Rattle.std.specs.List.{All}
use Rattle.std.proofs.lemmas.List.Elements.{All-head, All-tail}
use Rattle.mod_utf.specs.Utf.{Utf, SpellsUnit, SpellsItself, IsTwoBytes, IsThreeBytes, unit_bytes, utf}

-- A unit's bytes are the only ones that spell it.
pub unit_spelled_once : (unit : ℕ) (bytes : List ℕ) → SpellsUnit unit bytes → bytes ≡ unit_bytes unit
unit_spelled_once unit bytes (inl one) = grind (arith, common_steps, one.spelled, one.above, one.below)
unit_spelled_once unit bytes (inr (inl two)) = grind (arith, common_steps, two.spelled, two.is, two.not_shorter, two.high_bits, two.low_bits)
unit_spelled_once unit bytes (inr (inr three)) = grind (arith, common_steps, three.spelled, three.is, three.not_shorter)

one_byte : (unit : ℕ) → 0 < unit → unit < 128 → unit_bytes unit ≡ unit ∷ []
one_byte unit above below = grind (arith, common_steps)

two_bytes : (unit : ℕ) → (unit ≡ 0) ⊎ (128 ≤ unit) → unit < 2048 → unit_bytes unit ≡ (192 + unit / 64) ∷ (128 + unit % 64) ∷ []
two_bytes unit above below = grind (arith, common_steps)

three_bytes : (unit : ℕ) → 2048 ≤ unit → unit_bytes unit ≡ (224 + unit / 4096) ∷ (128 + unit / 64 % 64) ∷ (128 + unit % 64) ∷ []
three_bytes unit above = grind (arith, common_steps)

spelled_by_two : (unit : ℕ) → (unit ≡ 0) ⊎ (128 ≤ unit) → unit < 2048 → IsTwoBytes unit (unit_bytes unit)
spelled_by_two unit above below = record {
  high = unit / 64;
  low = unit % 64;
  high_bits = omega arith;
  low_bits = omega arith;
  is = omega arith;
  not_shorter = above;
  spelled = two_bytes unit above below;
}

spelled_by_three : (unit : ℕ) → 2048 ≤ unit → unit < 2 ^ 16 → IsThreeBytes unit (unit_bytes unit)
spelled_by_three unit above below = record {
  high = unit / 4096;
  middle = unit / 64 % 64;
  low = unit % 64;
  high_bits = omega arith;
  middle_bits = omega arith;
  low_bits = omega arith;
  is = omega arith;
  not_shorter = above;
  spelled = three_bytes unit above;
}

-- A unit's bytes spell it.
pub unit_spelled : (unit : ℕ) → unit < 2 ^ 16 → SpellsUnit unit (unit_bytes unit)
unit_spelled unit fits = by_range (order unit 128) (order unit 2048) (order 0 unit)
  where
    by_range : (unit < 128) ⊎ (128 ≤ unit) → (unit < 2048) ⊎ (2048 ≤ unit) → (0 < unit) ⊎ (unit ≤ 0) → SpellsUnit unit (unit_bytes unit)
    by_range (inl below) two (inl above) = inl (record { above = omega arith; below = below; spelled = one_byte unit above below })
    by_range (inl below) two (inr zero_unit) = inr (inl (spelled_by_two unit (inl (omega arith)) (omega arith)))
    by_range (inr above) (inl below) at_zero = inr (inl (spelled_by_two unit (inr above) below))
    by_range (inr above) (inr more) at_zero = inr (inr (spelled_by_three unit more fits))

-- No other bytes spell a text.
pub spelled_once : (units bytes : List ℕ) → Utf units bytes → bytes ≡ utf units
spelled_once [] bytes is = is
spelled_once (unit ∷ units) bytes (first, rest, one, more, is) =
    is ∙ ap (λ xs. xs ++ rest) (unit_spelled_once unit first one) ∙ ap (λ xs. unit_bytes unit ++ xs) (spelled_once units rest more)

-- A further unit, and its bytes.
pub spelled_more : (units out : List ℕ) (unit : ℕ) (bytes : List ℕ) → Utf units out → SpellsUnit unit bytes → Utf (units ++ unit ∷ []) (out ++ bytes)
spelled_more [] out unit bytes is spells = (bytes, [], spells, refl, ap (λ xs. xs ++ bytes) is ∙ sym (append-nil bytes))
spelled_more (first ∷ units) out unit bytes (front, rest, one, more, is) spells =
    (front, rest ++ bytes, one, spelled_more units rest unit bytes more spells, ap (λ xs. xs ++ bytes) is ∙ append_assoc front rest bytes)

-- The sum of a loop over all units is the length of the spelling.
pub counted_whole : (units : List ℕ) (sum i : ℕ) → length units ≤ i → sum ≡ length (utf (take i units)) → (bytes : List ℕ) → Utf units bytes → sum ≡ length bytes
counted_whole units sum i all is bytes spells = let whole : take i units ≡ units = grind (arith, common_steps) in is ∙ ap (λ xs. length (utf xs)) whole ∙ ap length (sym (spelled_once units bytes spells))

-- A loop over the units has written one more.
pub written_more : (units out now : List ℕ) (i : ℕ) → i < length units → (out ≡ utf (take i units)) × Utf (take i units) out
    → SpellsUnit (get_or units i 0) (unit_bytes (get_or units i 0)) → now ≡ out ++ unit_bytes (get_or units i 0)
    → (now ≡ utf (take (i + 1) units)) × Utf (take (i + 1) units) now
written_more units out now i inside (is, whole) spells more =
    let front : take (i + 1) units ≡ take i units ++ get_or units i 0 ∷ [] = take_more units i 0 inside in (
      more ∙ ap (λ xs. xs ++ unit_bytes (get_or units i 0)) is ∙ flat_map_more unit_bytes [] (take i units) (get_or units i 0) ∙ ap utf (sym front),
      rw (front, more) (spelled_more (take i units) out (get_or units i 0) (unit_bytes (get_or units i 0)) whole spells),
    )

-- ASCII characters spell themselves.
pub ascii_spelled : (bytes : List ℕ) → All SpellsItself bytes → Utf bytes bytes
ascii_spelled [] all = refl
ascii_spelled (byte ∷ bytes) all =
    let one = All-head SpellsItself byte bytes all in
    (byte ∷ [], bytes, inl (record { above = one.0; below = one.1; spelled = refl }), ascii_spelled bytes (All-tail SpellsItself byte bytes all), refl)
