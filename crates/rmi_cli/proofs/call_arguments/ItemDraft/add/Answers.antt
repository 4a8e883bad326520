use Rattle.rmi_cli.proofs.ArgumentItems.{add_number, add_text}
use Rattle.rmi_cli.proofs.call_arguments.ItemDraft.add.Goals as goal

pub returns-in_ok-put_primitive-in-Prim-clause-items : goal.returns-in_ok-put_primitive-in-Prim-clause-items
returns-in_ok-put_primitive-in-Prim-clause-items c = add_number c.args.self.now c.args.argument.now c.in-Prim.value _ c.in-Prim.is c.in_ok-put_primitive-in-Prim.ensures.written

pub returns-in_ok-add_string-in-Text-clause-items : goal.returns-in_ok-add_string-in-Text-clause-items
returns-in_ok-add_string-in-Text-clause-items c = add_text c.args.self.now _ c.args.argument.now c.in-Text.field-0 c.in-Text.is c.in_ok-add_string-in-Text.ensures.strings c.in_ok-add_string-in-Text.ensures.items
