use Rattle.std.proofs.Common.{◌≡◌, ◌++◌, take, flat_map}
use Rattle.space.specs.OutlineRows.{binding_text}
use Rattle.space.proofs.texts.put_names.Given as goal

abbrev pub invariant-loop-binding : goal.invariant-loop-binding
invariant-loop-binding l = l.text ≡ l.initial.text ++ flat_map (binding_text l.config) (take l.binding-index l.bindings)
