-- What calls are answered: the bytes of Returns (Java RMI Specification, 10.2), and which outcomes a method can have.
use Rattle.std.specs.Prelude.{ℕ, Bool, true, false, ◌&&◌, not, nat_le, List, [], ◌∷◌, length, Option, None, Some, if◌then◌else◌}
use Rattle.class_desc.specs.declared.field.TypeCode.{TypeCode}
use Rattle.class_desc.specs.TypeCode.{is_primitive}
use Rattle.class_desc.specs.declared.slot.Item.{Item}
use Rattle.class_desc.specs.declared.slot.Item.TheVariants as items
use Rattle.ser_values.specs.declared.value.Value.{Value}
use Rattle.ser_values.specs.Shape.{fits_value}
use Rattle.object_ids.specs.declared.ids.Uid.{Uid}
use Rattle.system_objects.specs.declared.book.Kind.{Kind}
use Rattle.call_dispatch.specs.declared.outcome.Outcome.{Outcome}
use Rattle.call_dispatch.specs.declared.outcome.Outcome.TheVariants.{Void, Prim, Tree, NewRemote, OldRemote, Fault}
use Rattle.call_dispatch.specs.Results.{is_place, plain_return}
use Rattle.system_objects.specs.Terms.{Terms}
use Rattle.system_objects.specs.declared.returns.TheConstants.{RETURN_BYTES}
use Rattle.system_objects.specs.ReturnBytes.{wrong_outcome, fault_return}

-- ---- outcomes

-- The value is of this primitive type.
abbrev pub is_of : TypeCode → Value → Bool
is_of code value = is_primitive code && fits_value code value

-- one reference and nothing else
abbrev pub is_one_reference : List Item → Bool
is_one_reference (items.Ref slot ∷ []) = true
is_one_reference _ = false

-- A method with this result returns references, and the kind has a place.
abbrev pub returns_place : List Kind → Option TypeCode → ℕ → Bool
returns_place kinds (Some code) kind = not (is_primitive code) && is_place kinds kind
returns_place kinds None kind = false

-- The outcome is one of a method with this result.
abbrev pub suits : List Kind → Option TypeCode → Outcome → Bool
suits kinds None Void = true
suits kinds (Some code) (Prim value) = is_of code value
suits kinds (Some code) (Tree graph) = not (is_primitive code) && is_one_reference graph.items
suits kinds (Some code) (NewRemote kind) = returns_place kinds (Some code) kind
suits kinds (Some code) (OldRemote object kind) = returns_place kinds (Some code) kind
suits kinds _ _ = false

abbrev pub is_short : List ℕ → Bool
is_short bytes = nat_le (length bytes) RETURN_BYTES

-- The outcome's Return isn't too long. That of a remote object never is.
abbrev pub is_sent : Uid → Outcome → Bool
is_sent uid (NewRemote kind) = true
is_sent uid (OldRemote object kind) = true
is_sent uid outcome = is_short (plain_return uid outcome)

-- The outcome is one of a method with this result, and its Return can be sent.
abbrev pub fits : Terms → Uid → Option TypeCode → Outcome → Bool
fits terms uid result outcome = suits terms.kinds result outcome && is_sent uid outcome

-- ---- messages of exceptional Returns

-- The worker's own message, where its Return can be sent.
abbrev pub fault_message : Uid → Outcome → List ℕ
fault_message uid (Fault message) = if is_short (fault_return uid message) then message else wrong_outcome
fault_message uid _ = wrong_outcome
