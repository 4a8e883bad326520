-- Reading modified UTF from left to right: the unit in front, and all units or the place where none is spelled.
use Rattle.std.specs.Prelude.{◌≡◌, ◌≢◌, ℕ, zero, suc, ◌+◌, ◌-◌, ◌*◌, ◌&&◌, ◌||◌, nat_eq, nat_lt, nat_le, List, [], ◌∷◌, ◌++◌, length, drop, Option, Some, None, Result, Ok, Err, if◌then◌else◌}
use Rattle.mod_utf.specs.Utf.{SpellsUnit, Utf}
use Rattle.mod_utf.specs.declared.decode.UtfFault.{UtfFault}
use Rattle.mod_utf.specs.declared.decode.UtfFault.TheVariants.{BadUtf, OutOfMemory}

-- ---- where bytes are no text

-- No unit is spelled at the front of these bytes.
abbrev pub NoUnit : List ℕ → Type 0
NoUnit bytes = (unit : ℕ) (first rest : List ℕ) → SpellsUnit unit first → bytes ≡ first ++ rest → ⊥

-- The bytes spell no text. The longest front of them that spells one ends at this place, from where on no unit is spelled.
pub record IsBadAt (bytes : List ℕ) (at : ℕ) : Type 0 where
  pub units : List ℕ
  pub front : List ℕ
  pub rest : List ℕ
  pub spelled : Utf units front
  pub parts : bytes ≡ front ++ rest
  pub here : at ≡ length front
  pub some : rest ≢ []
  pub none : NoUnit rest
  pub no_text : (others : List ℕ) → Utf others bytes → ⊥

-- Why bytes are not read: they spell no text, or there was no memory.
abbrev pub IsUnread : List ℕ → UtfFault → Type 0
IsUnread bytes (BadUtf at) = IsBadAt bytes at
IsUnread bytes OutOfMemory = Unit {0}

-- ---- reading as a function

-- the unit that a byte from C0 to DF begins, and how many bytes it takes
abbrev pub two : ℕ → List ℕ → Option (ℕ × ℕ)
two a [] = None
two a (b ∷ bs) =
    if (nat_le 128 b && nat_lt b 192) && (nat_eq ((a - 192) * 64 + (b - 128)) 0 || nat_le 128 ((a - 192) * 64 + (b - 128)))
    then Some ((a - 192) * 64 + (b - 128), 2) else None

-- the unit that a byte from E0 to EF begins
abbrev pub three : ℕ → List ℕ → Option (ℕ × ℕ)
three a [] = None
three a (b ∷ []) = None
three a (b ∷ c ∷ bs) =
    if (nat_le 128 b && nat_lt b 192) && ((nat_le 128 c && nat_lt c 192) && nat_le 2048 ((a - 224) * 4096 + (b - 128) * 64 + (c - 128)))
    then Some ((a - 224) * 4096 + (b - 128) * 64 + (c - 128), 3) else None

-- The unit at the front of these bytes, and how many bytes it takes.
unfoldable pub front : List ℕ → Option (ℕ × ℕ)
front [] = None
front (a ∷ bs) =
    if nat_lt 0 a && nat_lt a 128 then Some (a, 1)
    else (if nat_le 192 a && nat_lt a 224 then two a bs
    else (if nat_le 224 a && nat_lt a 240 then three a bs else None))

abbrev pub put_unit : ℕ → Result (List ℕ) ℕ → Result (List ℕ) ℕ
put_unit u (Ok us) = Ok (u ∷ us)
put_unit u (Err at) = Err at

abbrev pub then_unit : (ℕ → List ℕ → Result (List ℕ) ℕ) → ℕ → List ℕ → Option (ℕ × ℕ) → Result (List ℕ) ℕ
then_unit rest at bs None = Err at
then_unit rest at bs (Some (u, n)) = put_unit u (rest (at + n) (drop n bs))

-- at most so many units, from this place on
unfoldable pub decoded_at : ℕ → ℕ → List ℕ → Result (List ℕ) ℕ
decoded_at f at [] = Ok []
decoded_at zero at (b ∷ bs) = Err at
decoded_at (suc f) at (b ∷ bs) = then_unit (decoded_at f) at (b ∷ bs) (front (b ∷ bs))

-- The units that bytes spell, or the place from where on they spell none.
abbrev pub decoded_units : List ℕ → Result (List ℕ) ℕ
decoded_units bs = decoded_at (length bs) 0 bs

-- A function answered what reading gives, unless memory ran out.
abbrev pub GivesUnits : Result (List ℕ) UtfFault → Result (List ℕ) ℕ → Type 0
GivesUnits (Ok us) read = read ≡ Ok us
GivesUnits (Err (BadUtf at)) read = read ≡ Err at
GivesUnits (Err OutOfMemory) read = Unit {0}

-- The same where the units are appended.
abbrev pub GivesMore : List ℕ → List ℕ → Result (Unit {0}) UtfFault → Result (List ℕ) ℕ → Type 0
GivesMore old new (Ok _) read = (text : List ℕ) × (read ≡ Ok text) × (new ≡ old ++ text)
GivesMore old new (Err (BadUtf at)) read = read ≡ Err at
GivesMore old new (Err OutOfMemory) read = Unit {0}
