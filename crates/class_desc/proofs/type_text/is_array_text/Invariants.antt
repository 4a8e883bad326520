use Rattle.std.proofs.Common.{◌≡◌, ◌≤◌, ◌-◌, drop, length}
use Rattle.class_desc.specs.TypeText.{is_array_text, is_component_text}
use Rattle.class_desc.proofs.type_text.is_array_text.Given as goal

abbrev pub invariant-loop-i : goal.invariant-loop-i
invariant-loop-i l = record {
  within : l.i ≤ length l.text;
  told : is_component_text (drop l.i l.text) ≡ is_array_text l.text;
}

abbrev pub decreases-loop-i : goal.decreases-loop-i
decreases-loop-i l = length l.text - l.i
