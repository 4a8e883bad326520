use Rattle.std.proofs.Common.{◌≡◌, ◌∙◌, ap, sym, Some}
use Rattle.std.specs.Prelude.{is_some}
use Rattle.std.specs.Map.{set_value}
use Rattle.rmi_registry.specs.MapEntries.{bindings_of}
use Rattle.rmi_registry.specs.Bindings.{object_of}
use Rattle.rmi_registry.proofs.Entries.{key_is, object-looked_up, bindings-set}
use Rattle.rmi_registry.proofs.binding_map.replace.Goals as goal

pub returns-in_err-slot-clause-was : goal.returns-in_err-slot-clause-was
returns-in_err-slot-clause-was c = c.from_residual.ensures ∙ c.in_err-slot.ensures.value ∙ object-looked_up c.args.bound.now.entries c.args.units.now

pub returns-clause-was : goal.returns-clause-was
returns-clause-was c = ap Some c.replace.ensures.value ∙ c.in_ok-slot.ensures.value ∙ object-looked_up c.args.bound.now.entries c.args.units.now

pub returns-clause-bindings : goal.returns-clause-bindings
returns-clause-bindings c =
    let found : Some c.in_ok-slot.slot.now ≡ object_of (bindings_of c.args.bound.now.entries) c.args.units.now = c.in_ok-slot.ensures.value ∙ object-looked_up c.args.bound.now.entries c.args.units.now in
    ap bindings_of (c.get_mut.follows.holds c.replace.new.dest).0
    ∙ ap (λ w. bindings_of (set_value (key_is c.args.units.now) c.args.bound.now.entries w)) c.replace.ensures.after
    ∙ bindings-set c.args.bound.now.entries c.args.units.now c.args.object (sym (ap is_some found))
