use Rattle.std.proofs.Common.{rules, w32, w64}
use Rattle.std.specs.Int.{w16}
use Rattle.std.specs.Prelude.{FitsSigned}
use Rattle.std.proofs.lemmas.Int.{to_z-of_z}
use Rattle.rmi_caller.proofs.Putting.{add_boolean, add_byte, add_char, add_int, add_long, add_null, add_short}
use Rattle.rmi_caller.proofs.arguments.Draft.add.Goals as goal

pub returns-in_ok-add_value-in-Boolean-clause-added : goal.returns-in_ok-add_value-in-Boolean-clause-added
returns-in_ok-add_value-in-Boolean-clause-added c = add_boolean c.args.self.now c.add_value.new.self c.args.argument.now _ c.in-Boolean.is c.in_ok-add_value-in-Boolean.ensures.items

pub returns-in_ok-add_value-in-Byte-clause-added : goal.returns-in_ok-add_value-in-Byte-clause-added
returns-in_ok-add_value-in-Byte-clause-added c = add_byte c.args.self.now c.add_value-in-Byte.new.self c.args.argument.now _ c.in-Byte.is c.in_ok-add_value-in-Byte.ensures.items

pub returns-in_ok-add_value-in-Char-clause-added : goal.returns-in_ok-add_value-in-Char-clause-added
returns-in_ok-add_value-in-Char-clause-added c = add_char c.args.self.now c.add_value-in-Char.new.self c.args.argument.now _ c.in-Char.is c.in_ok-add_value-in-Char.ensures.items

pub returns-in_ok-add_value-in-Short-clause-added : goal.returns-in_ok-add_value-in-Short-clause-added
returns-in_ok-add_value-in-Short-clause-added c =
    let fits : FitsSigned w16 c.in-Short.value = search rules in
    add_short c.args.self.now c.add_value-in-Short.new.self c.args.argument.now c.in-Short.value _ c.in-Short.is (to_z-of_z w16 c.in-Short.value fits) c.in_ok-add_value-in-Short.ensures.items

pub returns-in_ok-add_value-in-Int-clause-added : goal.returns-in_ok-add_value-in-Int-clause-added
returns-in_ok-add_value-in-Int-clause-added c =
    let fits : FitsSigned w32 c.in-Int.value = search rules in
    add_int c.args.self.now c.add_value-in-Int.new.self c.args.argument.now c.in-Int.value _ c.in-Int.is (to_z-of_z w32 c.in-Int.value fits) c.in_ok-add_value-in-Int.ensures.items

pub returns-in_ok-add_value-in-Long-clause-added : goal.returns-in_ok-add_value-in-Long-clause-added
returns-in_ok-add_value-in-Long-clause-added c =
    let fits : FitsSigned w64 c.in-Long.value = search rules in
    add_long c.args.self.now c.add_value-in-Long.new.self c.args.argument.now c.in-Long.value _ c.in-Long.is (to_z-of_z w64 c.in-Long.value fits) c.in_ok-add_value-in-Long.ensures.items

pub returns-in_ok-add_slot-in-Null-clause-added : goal.returns-in_ok-add_slot-in-Null-clause-added
returns-in_ok-add_slot-in-Null-clause-added c = add_null c.args.self.now c.add_slot.new.self c.args.argument.now c.in-Null.is c.in_ok-add_slot-in-Null.ensures.items
