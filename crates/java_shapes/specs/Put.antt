-- What putting a shape among the loose nodes of a builder leaves, and the nodes of Java's own classes.
use Rattle.std.specs.Prelude.{◌≡◌, ◌<◌, ◌≤◌, ◌+◌, ℕ, Bool, true, false, List, [], ◌∷◌, ◌++◌, length, map, Some, Result, Ok, Err}
use Rattle.std.specs.List.{zip}
use Rattle.class_desc.specs.declared.slot.Slot.{Slot}
use Rattle.class_desc.specs.declared.slot.Slot.TheVariants as slots
use Rattle.class_desc.specs.declared.slot.Item.{Item}
use Rattle.class_desc.specs.declared.slot.Item.TheVariants as items
use Rattle.class_desc.specs.declared.field.FieldDesc.{FieldDesc}
use Rattle.class_desc.specs.declared.desc.ClassDesc.{ClassDesc}
use Rattle.class_desc.specs.declared.known_class.PartField.{PartField}
use Rattle.class_desc.specs.declared.known_class.ClassParts.{ClassParts}
use Rattle.class_desc.specs.declared.known_class.KnownClass.{KnownClass}
use Rattle.class_desc.specs.KnownClass.{parts_of}
use Rattle.class_desc.specs.TypeCode.{is_primitive}
use Rattle.ser_values.specs.declared.limits.TheConstants.{NODES}
use Rattle.ser_values.specs.declared.fault.BuildFault.{BuildFault}
use Rattle.ser_values.specs.declared.fault.BuildFault.TheVariants.{OutOfMemory, TooManyNodes, WrongShape, TooDeep}
use Rattle.ser_values.specs.declared.node.Node.{Node}
use Rattle.ser_values.specs.declared.node.Node.TheVariants.{Desc}
use Rattle.ser_values.specs.Builder.{IsFirstText}
use Rattle.java_shapes.specs.Objects.{node_at}

-- At most so many loose nodes were added.
pub record Grows (most : ℕ) (old new : List Node) : Type 0 where
  pub added : List Node
  pub few : length added ≤ most
  pub is : new ≡ old ++ added

-- Why a shape of at most so many nodes is not put: with so many more there would be too many loose nodes; or there is no memory.
abbrev pub IsPutRefusal : ℕ → List Node → BuildFault → Type 0
IsPutRefusal most old TooManyNodes = NODES < length old + most
IsPutRefusal most old OutOfMemory = Unit {0}
IsPutRefusal most old WrongShape = ⊥
IsPutRefusal most old TooDeep = ⊥

-- A shape of at most so many nodes is put, or it is refused when a part of it was.
abbrev pub Puts : {A : Type 0} → ℕ → (List Node → A → Type 0) → List Node → List Node → Result A BuildFault → Type 0
Puts most Shape old new (Ok slot) = Grows most old new × Shape new slot
Puts most Shape old new (Err fault) = Grows most old new × IsPutRefusal most old fault

-- ---- descriptions of Java's own classes

abbrev pub field_with : PartField → Slot → FieldDesc
field_with f s = record { code = f.code; name = f.name; type_text = s }

-- the annotation of a class where no codebase is given: null
abbrev pub no_codebase : List Item
no_codebase = items.Ref slots.Null ∷ []

-- The description of a class with these parts, the nodes of its fields' type texts, and its superclass.
abbrev pub desc_with : ClassParts → List Slot → Slot → ClassDesc
desc_with parts texts parent = record { name = parts.name; suid = parts.suid; flags = parts.flags; fields = map (λ p. field_with p.0 p.1) (zip parts.fields texts); note = no_codebase; parent = parent }

-- The slot is null; or it names a text, the first node that is equal to it.
abbrev pub NamesText : Bool → List Node → List ℕ → Slot → Type 0
NamesText true nodes text s = s ≡ slots.Null
NamesText false nodes text s = (j : ℕ) × (s ≡ slots.Node j) × IsFirstText nodes text j

-- The slot names the type text of a reference field, of which there is one node; for a primitive one it is null.
abbrev pub NamesType : List Node → PartField → Slot → Type 0
NamesType nodes f s = NamesText (is_primitive f.code) nodes f.type_text s

abbrev pub NameTypes : List Node → List PartField → List Slot → Type 0
NameTypes nodes [] ss = ss ≡ []
NameTypes nodes (f ∷ fs) [] = ⊥
NameTypes nodes (f ∷ fs) (s ∷ ss) = NamesType nodes f s × NameTypes nodes fs ss

-- The slot names the description of one of Java's own classes with this superclass.
pub record IsClassAt (nodes : List Node) (which : KnownClass) (parent s : Slot) : Type 0 where
  pub texts : List Slot
  pub typed : NameTypes nodes (parts_of which).fields texts
  pub is : node_at nodes s ≡ Some (Desc (desc_with (parts_of which) texts parent))
