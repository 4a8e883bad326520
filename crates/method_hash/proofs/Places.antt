-- From each place a method's text can be completed, by as many bytes as the place needs, and by no fewer.
use Rattle.std.proofs.Common.{◌≡◌, ℕ, zero, suc, ◌+◌, ◌<◌, ◌≤◌, List, [], ◌∷◌, length, Option, Some, None, refl, ap, arith, inr}
use Rattle.std.proofs.lemmas.List.{length-append}
use Rattle.class_desc.specs.declared.field.TypeCode.{TypeCode}
use Rattle.class_desc.specs.declared.field.TypeCode.TheVariants as codes
use Rattle.method_hash.specs.MethodText.{IsType, IsClassTail, Returns}
use Rattle.method_hash.specs.Next.{need, IsWithin}
use Rattle.method_hash.specs.TextReading.{CompletesPart, CompletesTypes, Completes}
use Rattle.method_hash.specs.declared.place.Part.{Part}
use Rattle.method_hash.specs.declared.place.Part.TheVariants.{Elements, Class, ClassName}
use Rattle.method_hash.specs.declared.place.TextPlace.{TextPlace}
use Rattle.method_hash.specs.declared.place.TextPlace.TheVariants.{Name, Parameters, Parameter, Returned, ReturnedType, End}
use Rattle.method_hash.specs.declared.place.TheConstants.{MAX_METHOD_PARTS}

-- ---- no fewer

class_tail : (t : List ℕ) → IsClassTail t → 2 ≤ length t
class_tail t (name, some, are, is) = omega (arith, ap length is, length-append name (0x3B ∷ []))

a_type : (t : List ℕ) → IsType t → 1 ≤ length t
a_type [] h = absurd h
a_type (c ∷ t) h = omega arith

returned_some : (coming : Option TypeCode) (t : List ℕ) → Returns coming t → 1 ≤ length t
returned_some None t is = omega (arith, ap length is)
returned_some (Some code) t (tail, is, h) = omega (arith, ap length is)

types_some : (count : ℕ) (t : List ℕ) (params : List TypeCode) (coming : Option TypeCode) → CompletesTypes count t params coming → 2 ≤ length t
types_some count t params coming (types, last, are, few, returns, is) =
    let some : 1 ≤ length last = returned_some coming last returns in
    omega (arith, ap length is, length-append types (0x29 ∷ last))

abbrev part_need : Part → ℕ
part_need Elements = 1
part_need Class = 2
part_need ClassName = 1

part_some : (part : Part) (t : List ℕ) → CompletesPart part t → part_need part ≤ length t
part_some Elements t h = a_type t h
part_some Class t h = class_tail t h
part_some ClassName t (name, are, is) = omega (arith, ap length is, length-append name (0x3B ∷ []))

name_some : (read : ℕ) (t name : List ℕ) (params : List TypeCode) (coming : Option TypeCode) → Completes (Name read) t name params coming → 3 + length name ≤ length t
name_some read t name params coming (tail, are, some, few, types, is) =
    let more : 2 ≤ length tail = types_some 0 tail params coming types in
    omega (arith, ap length is, length-append name (0x28 ∷ tail))

parameter_some : (count : ℕ) (part : Part) (t name : List ℕ) (params : List TypeCode) (coming : Option TypeCode) → Completes (Parameter count part) t name params coming → part_need part + 2 ≤ length t
parameter_some count part t name params coming (none, (first, tail, completes, types, is)) =
    let some : part_need part ≤ length first = part_some part first completes in
    let more : 2 ≤ length tail = types_some count tail params coming types in
    omega (arith, ap length is, length-append first tail)

pub needs : (p : TextPlace) (t name : List ℕ) (params : List TypeCode) (coming : Option TypeCode) → Completes p t name params coming → need p ≤ length t
needs (Name zero) t name params coming h = let some : 3 + length name ≤ length t = name_some zero t name params coming h in let one : 0 < length name = omega (arith, h.2) in omega arith
needs (Name (suc read)) t name params coming h = let some : 3 + length name ≤ length t = name_some (suc read) t name params coming h in omega arith
needs (Parameters read) t name params coming h = types_some read t params coming h.1
needs (Parameter count Elements) t name params coming h = parameter_some count Elements t name params coming h
needs (Parameter count Class) t name params coming h = parameter_some count Class t name params coming h
needs (Parameter count ClassName) t name params coming h = parameter_some count ClassName t name params coming h
needs Returned t name params coming h = returned_some coming t h.2
needs (ReturnedType Elements) t name params coming h = part_some Elements t h.2
needs (ReturnedType Class) t name params coming h = part_some Class t h.2
needs (ReturnedType ClassName) t name params coming h = part_some ClassName t h.2
needs End t name params coming h = omega arith

-- ---- and as many

-- What completes a text from a place, as short as may be.
abbrev pub Shortest : TextPlace → Type 0
Shortest p = (t name : List ℕ) × (params : List TypeCode) × (coming : Option TypeCode) × (length t ≡ need p) × Completes p t name params coming

nothing_more : (count : ℕ) → count ≤ MAX_METHOD_PARTS → CompletesTypes count (0x29 ∷ 0x56 ∷ []) [] None
nothing_more count few = ([], 0x56 ∷ [], refl, omega arith, refl, refl)

abbrev part_text : Part → List ℕ
part_text Elements = 0x49 ∷ []
part_text Class = 0x61 ∷ 0x3B ∷ []
part_text ClassName = 0x3B ∷ []

part_completed : (part : Part) → CompletesPart part (part_text part)
part_completed Elements = inr (inr (codes.Int, refl, refl, refl))
part_completed Class = (0x61 ∷ [], omega arith, (refl, tt), refl)
part_completed ClassName = ([], tt, refl)

pub shortest : (p : TextPlace) → IsWithin p → Shortest p
shortest (Name zero) few = (0x61 ∷ 0x28 ∷ 0x29 ∷ 0x56 ∷ [], 0x61 ∷ [], [], None, refl, (0x29 ∷ 0x56 ∷ [], (refl, tt), omega arith, omega arith, nothing_more 0 (omega arith), refl))
shortest (Name (suc read)) few = (0x28 ∷ 0x29 ∷ 0x56 ∷ [], [], [], None, refl, (0x29 ∷ 0x56 ∷ [], tt, omega arith, omega arith, nothing_more 0 (omega arith), refl))
shortest (Parameters read) few = (0x29 ∷ 0x56 ∷ [], [], [], None, refl, (refl, nothing_more read few))
shortest (Parameter count Elements) few = (0x49 ∷ 0x29 ∷ 0x56 ∷ [], [], [], None, refl, (refl, (part_text Elements, 0x29 ∷ 0x56 ∷ [], part_completed Elements, nothing_more count few, refl)))
shortest (Parameter count Class) few = (0x61 ∷ 0x3B ∷ 0x29 ∷ 0x56 ∷ [], [], [], None, refl, (refl, (part_text Class, 0x29 ∷ 0x56 ∷ [], part_completed Class, nothing_more count few, refl)))
shortest (Parameter count ClassName) few = (0x3B ∷ 0x29 ∷ 0x56 ∷ [], [], [], None, refl, (refl, (part_text ClassName, 0x29 ∷ 0x56 ∷ [], part_completed ClassName, nothing_more count few, refl)))
shortest Returned few = (0x56 ∷ [], [], [], None, refl, (refl, refl, refl))
shortest (ReturnedType Elements) few = (part_text Elements, [], [], None, refl, (refl, refl, part_completed Elements))
shortest (ReturnedType Class) few = (part_text Class, [], [], None, refl, (refl, refl, part_completed Class))
shortest (ReturnedType ClassName) few = (part_text ClassName, [], [], None, refl, (refl, refl, part_completed ClassName))
shortest End few = ([], [], [], None, refl, (refl, refl, refl))
