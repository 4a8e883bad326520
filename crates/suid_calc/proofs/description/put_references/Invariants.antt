use Rattle.std.proofs.Common.{◌≡◌, ◌++◌, map, filter, take}
use Rattle.suid_calc.specs.Description.{is_reference_field, texts_in, field_of}
use Rattle.suid_calc.proofs.description.put_references.Given as goal

abbrev pub invariant-loop-member : goal.invariant-loop-member
invariant-loop-member l = l.fields ≡ l.initial.fields ++ map (field_of (texts_in l.texts.keys)) (filter is_reference_field (take l.member-index l.members))
