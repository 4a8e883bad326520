-- Descriptions in two steps: what stands before the fields, and what begins with them.
use Rattle.std.specs.Prelude.{ℕ, List, [], Ok, Err, true, if◌then◌else◌}
use Rattle.std.specs.Int.{w16, w64, cast_signed}
use Rattle.class_desc.specs.ClassDesc.{is_good_desc}
use Rattle.class_desc.specs.declared.desc.ClassDesc.{ClassDesc}
use Rattle.class_desc.specs.declared.slot.Slot.TheVariants as slots
use Rattle.ser_values.specs.declared.node.SlotPlace.TheVariants as places
use Rattle.stream_grammar.specs.Reading.{◌>>=◌, bad, bad_desc, Plain, Step, Slots, byte_at, number_at, size_at, counting, many_at, field_at, items_at}
use Rattle.ser_read.specs.declared.front.DescFront.{DescFront}

-- the number, the flags, and how many fields there are
unfoldable pub front_at : ℕ → List ℕ → Plain DescFront
front_at end bs =
    number_at w64 bs >>= λ suid.
    byte_at suid.1 >>= λ flags.
    size_at end w16 32768 flags.1 >>= λ n.
    Ok (record { suid = suid.0; flags = flags.0; fields = n.0 }, n.1)

-- what stands behind these
unfoldable pub desc_behind : ℕ → ℕ → Slots → List ℕ → List ℕ → DescFront → Step ClassDesc
desc_behind end at inner unread name front now bs =
    counting front.fields at now (λ next.
    many_at (field_at end at (inner places.Text unread)) front.fields next bs >>= λ fs.
    if is_good_desc (record { name = name; suid = cast_signed w64 front.suid; flags = front.flags; fields = fs.0; note = []; parent = slots.Null }) then
    (items_at end (inner places.Reference unread) true fs.1 fs.2 >>= λ is.
    inner places.Parent unread is.1 is.2 >>= λ p.
    Ok (record { name = name; suid = cast_signed w64 front.suid; flags = front.flags; fields = fs.0; note = is.0; parent = p.0 }, p.1, p.2)) else Err (bad bad_desc at))
