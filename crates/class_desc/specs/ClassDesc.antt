-- The rules on a class description's flags and fields (Java Object Serialization Specification, 6.4.1 and 6.4.2).
use Rattle.std.specs.Prelude.{◌≡◌, ◌⊎◌, ◌<◌, ℕ, ℤ, pos, Bool, true, false, ◌||◌, ◌&&◌, not, nat_eq, nat_lt, bit_and, IsTrue, List, [], ◌∷◌}
use Rattle.std.specs.Ordering.{is_lt, nat_cmp}
use Rattle.std.specs.Cmp.Lexicographic.{slice_cmp}
use Rattle.class_desc.specs.declared.field.FieldDesc.{FieldDesc}
use Rattle.class_desc.specs.declared.desc.ClassDesc.{ClassDesc}
use Rattle.class_desc.specs.declared.check.DescFault.{DescFault}
use Rattle.class_desc.specs.declared.check.DescFault.TheVariants.{BadFlags, FieldOrder, BadTypeText}
use Rattle.class_desc.specs.TypeCode.{is_primitive}
use Rattle.class_desc.specs.TypeText.{is_nil}

abbrev pub HasFlag : ℕ → ℕ → Type 0
HasFlag flags f = bit_and flags f ≡ f

abbrev pub LacksFlag : ℕ → ℕ → Type 0
LacksFlag flags f = bit_and flags f ≡ 0

-- The flags are 1 (write method), 2 (serializable), 4 (externalizable), 8 (block data) and 16 (enum), and they agree with each other.
pub record HasGoodFlags (d : ClassDesc) : Type 0 where
  pub known : d.flags < 32
  pub one_kind : LacksFlag d.flags 2 ⊎ LacksFlag d.flags 4
  pub block_data : LacksFlag d.flags 8 ⊎ HasFlag d.flags 4
  pub write_method : LacksFlag d.flags 1 ⊎ HasFlag d.flags 2
  pub enums : LacksFlag d.flags 16 ⊎ (HasFlag d.flags 2 × LacksFlag d.flags 1 × (d.fields ≡ []) × (d.suid ≡ pos 0))

-- The first may stand directly before the second: primitive fields come first, and in each group names rise strictly, unit by unit.
abbrev pub comes_before : FieldDesc → FieldDesc → Bool
comes_before f g =
    (is_primitive f.code && not (is_primitive g.code))
    || ((is_primitive f.code || not (is_primitive g.code)) && is_lt (slice_cmp nat_cmp f.name g.name))

-- Each field may stand directly before the next one.
unfoldable pub are_ordered : List FieldDesc → Bool
are_ordered [] = true
are_ordered (f ∷ []) = true
are_ordered (f ∷ g ∷ fs) = comes_before f g && are_ordered (g ∷ fs)

-- The first rule that the description breaks.
abbrev pub IsFirstFault : ClassDesc → DescFault → Type 0
IsFirstFault d BadFlags = ¬ HasGoodFlags d
IsFirstFault d FieldOrder = HasGoodFlags d × ¬ IsTrue (are_ordered d.fields)
IsFirstFault d BadTypeText = ⊥

-- ---- the rules on flags as a test

abbrev pub has_flag : ℕ → ℕ → Bool
has_flag flags f = nat_eq (bit_and flags f) f

abbrev pub lacks_flag : ℕ → ℕ → Bool
lacks_flag flags f = nat_eq (bit_and flags f) 0

abbrev pub is_zero : ℤ → Bool
is_zero (pos n) = nat_eq n 0
is_zero _ = false

unfoldable pub fit_flags : ClassDesc → Bool
fit_flags d =
    nat_lt d.flags 32 && (lacks_flag d.flags 2 || lacks_flag d.flags 4) && (lacks_flag d.flags 8 || has_flag d.flags 4) && (lacks_flag d.flags 1 || has_flag d.flags 2)
    && (lacks_flag d.flags 16 || (has_flag d.flags 2 && lacks_flag d.flags 1 && is_nil d.fields && is_zero d.suid))

-- the description keeps both rules
unfoldable pub is_good_desc : ClassDesc → Bool
is_good_desc d = fit_flags d && are_ordered d.fields
