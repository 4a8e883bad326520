-- The members of a class outline: what tells two of them apart, and the order in which the hashed text has them
-- (Java Object Serialization Specification, 4.6).
use Rattle.std.specs.Prelude.{◌≡◌, ◌≢◌, ℕ, List, [], ◌∷◌, ◌++◌}
use Rattle.std.specs.declared.cmp.Ordering.{Ordering}
use Rattle.std.specs.Ordering.{nat_cmp, ordering_then}
use Rattle.std.specs.Cmp.Lexicographic.{slice_cmp}
use Rattle.std.specs.List.{AllByRecursion}
use Rattle.std.specs.List.Sorted.{IsStrictlySortedBy}
use Rattle.suid_calc.specs.declared.outline.Member.{Member}
use Rattle.suid_calc.specs.declared.outline.Member.TheVariants.{Interface, Field, Initializer, Constructor, Method}

-- The place of a kind of members: interfaces, fields, the class initializer, constructors, methods.
abbrev pub kind_of : Member → ℕ
kind_of (Interface name) = 0
kind_of (Field modifiers name type_text) = 1
kind_of Initializer = 2
kind_of (Constructor modifiers descriptor) = 3
kind_of (Method modifiers name descriptor) = 4

-- The name by which members of one kind are ordered, if they have one.
abbrev pub name_of : Member → List ℕ
name_of (Interface name) = name
name_of (Field modifiers name type_text) = name
name_of (Method modifiers name descriptor) = name
name_of _ = []

-- The descriptor by which members of one kind and name are ordered, if they have one.
abbrev pub descriptor_of : Member → List ℕ
descriptor_of (Constructor modifiers descriptor) = descriptor
descriptor_of (Method modifiers name descriptor) = descriptor
descriptor_of _ = []

-- Two members are the same interface, field, class initializer, constructor or method. A field's type and modifiers don't count.
pub record IsSameMember (a b : Member) : Type 0 where
  pub kind : kind_of a ≡ kind_of b
  pub name : name_of a ≡ name_of b
  pub descriptor : descriptor_of a ≡ descriptor_of b

-- None of the members is the same as this one.
abbrev pub IsNew : Member → List Member → Type 0
IsNew m ms = AllByRecursion (λ x. IsSameMember x m → ⊥) ms

-- No two of the members are the same.
abbrev pub AreDistinct : List Member → Type 0
AreDistinct [] = Unit {0}
AreDistinct (m ∷ ms) = IsNew m ms × AreDistinct ms

-- The order of members: by kind, then by the bytes of the name, then by those of the descriptor.
abbrev pub compare : Member → Member → Ordering
compare a b =
    ordering_then (nat_cmp (kind_of a) (kind_of b)) (ordering_then (slice_cmp nat_cmp (name_of a) (name_of b)) (slice_cmp nat_cmp (descriptor_of a) (descriptor_of b)))

-- Each member is below those after it.
abbrev pub AreInOrder : List Member → Type 0
AreInOrder ms = IsStrictlySortedBy compare ms

-- What tells a member from others, as bytes, which have the members' order: a name has no blank, and a blank is below each of a name's bytes.
abbrev pub key_of : Member → List ℕ
key_of m = kind_of m ∷ (name_of m ++ 0x20 ∷ descriptor_of m)
