-- Items and the bytes that they begin with.
use Rattle.std.specs.Prelude.{◌≡◌, ℕ, zero, suc, Bool, true, false, nat_eq, nat_lt, List, [], ◌∷◌, ◌++◌, length, drop, Option, Some, None, if◌then◌else◌}
use Rattle.class_desc.specs.declared.slot.Item.{Item}
use Rattle.class_desc.specs.declared.slot.Item.TheVariants as items
use Rattle.ser_values.specs.Shape.{is_joined}

-- Items with bytes before them, which join those that they begin with.
abbrev pub put_block : List ℕ → List Item → List Item
put_block [] is = is
put_block (b ∷ bs) [] = items.Bytes (b ∷ bs) ∷ []
put_block (b ∷ bs) (items.Bytes p ∷ is) = items.Bytes ((b ∷ bs) ++ p) ∷ is
put_block (b ∷ bs) (items.Ref s ∷ is) = items.Bytes (b ∷ bs) ∷ items.Ref s ∷ is

abbrev pub begin_with_bytes : List Item → Bool
begin_with_bytes (items.Bytes b ∷ is) = true
begin_with_bytes _ = false

-- How many bytes of block data the items begin with.
abbrev pub front_len : List Item → ℕ
front_len (items.Bytes b ∷ is) = length b
front_len _ = 0

-- the first bytes less n of them; emptied, they go
abbrev pub first_less : ℕ → List ℕ → List Item → List Item
first_less n b is = if nat_eq (length b) n then is else items.Bytes (drop n b) ∷ is

-- The items less the first n bytes of their block data. None where they do not begin with so many.
abbrev pub without_front : ℕ → List Item → Option (List Item)
without_front zero is = Some is
without_front (suc n) (items.Bytes b ∷ is) = if nat_lt (length b) (suc n) then None else Some (first_less (suc n) b is)
without_front (suc n) _ = None

-- The items begin with so many bytes: they are those, and then a rest.
pub record HasFront (n : ℕ) (whole rest : List Item) : Type 0 where
  pub bytes : List ℕ
  pub count : length bytes ≡ n
  pub joined : is_joined rest ≡ true
  pub parts : whole ≡ put_block bytes rest
