-- Steps of reading that the reader takes by themselves.
use Rattle.std.specs.Prelude.{ℕ, ◌^◌, nat_eq, List, [], ◌∷◌, ◌++◌, Result, Ok, Err, if◌then◌else◌}
use Rattle.std.specs.Int.{w32}
use Rattle.class_desc.specs.declared.slot.Slot.{Slot}
use Rattle.class_desc.specs.declared.slot.Slot.TheVariants as slots
use Rattle.class_desc.specs.declared.slot.Item.{Item}
use Rattle.class_desc.specs.declared.slot.Item.TheVariants as items
use Rattle.ser_values.specs.declared.node.SlotPlace.TheVariants as places
use Rattle.stream_grammar.specs.Reading.{◌>>=◌, Fault, bad, bad_code, Progress, counting, Step, Slots, byte_at, take_at, size_at, roomy}

-- the class of a construct that begins with it
abbrev pub only_class : ℕ → Slot × Progress × List ℕ → Result (ℕ × Progress × List ℕ) Fault
only_class at (slots.Null, now, bs) = Err (bad bad_code at)
only_class at (slots.Node k, now, bs) = roomy now at (Ok (k, now, bs))

unfoldable pub class_named : Slots → List ℕ → ℕ → Step ℕ
class_named inner unread at now bs = inner places.Class unread now bs >>= only_class at

-- one block or reference behind its code, which stands at this position; a reference is a part
unfoldable pub item_at : ℕ → ℕ → Step Slot → ℕ → Step Item
item_at end at ref code now bs =
    if nat_eq code 0x77 then (byte_at bs >>= λ n. take_at n.0 n.1 >>= λ p. Ok (items.Bytes p.0, now, p.1)) else
    (if nat_eq code 0x7A then (size_at end w32 (2 ^ 31) bs >>= λ n. take_at n.0 n.1 >>= λ p. Ok (items.Bytes p.0, now, p.1)) else
    (ref now bs >>= λ s. counting 1 at s.1 (λ next. Ok (items.Ref s.0, next, s.2))))

-- bytes behind items: they join last bytes, and no bytes are no item
unfoldable pub add_bytes : List Item → List ℕ → List Item
add_bytes is [] = is
add_bytes [] (b ∷ p) = items.Bytes (b ∷ p) ∷ []
add_bytes (items.Bytes q ∷ []) (b ∷ p) = items.Bytes (q ++ b ∷ p) ∷ []
add_bytes (items.Ref s ∷ []) (b ∷ p) = items.Ref s ∷ items.Bytes (b ∷ p) ∷ []
add_bytes (x ∷ y ∷ is) (b ∷ p) = x ∷ add_bytes (y ∷ is) (b ∷ p)

-- an item behind items
abbrev pub added : List Item → Item → List Item
added is (items.Ref s) = is ++ items.Ref s ∷ []
added is (items.Bytes p) = add_bytes is p
