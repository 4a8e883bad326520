use Rattle.std.proofs.Common.{◌≡◌, ◌∙◌, ap, sym, ℕ, List, Option, Some, codes}
use Rattle.class_desc.specs.declared.slot.Slot.{Slot}
use Rattle.ser_values.specs.declared.node.Node.{Node}
use Rattle.java_shapes.specs.Objects.{Held, node_at, held_in, held_at}
use Rattle.java_shapes.specs.Throwable.{class_name_in, class_name_at, message_of, with_message, fault_text_at}
use Rattle.java_shapes.proofs.throwable.fault_text.Goals as goal

told : (nodes : List Node) (s : Slot) (i : Option Node) (name text : List ℕ) (held : Held) (message : Option (List ℕ)) → i ≡ node_at nodes s → Some name ≡ class_name_in nodes i
    → Some held ≡ held_in nodes (codes "java.lang.Throwable") i → message ≡ message_of nodes held → text ≡ with_message name message → fault_text_at nodes s ≡ Some text
told nodes s i name text held message e n h m t =
    let a : class_name_at nodes s ≡ Some name = ap (class_name_in nodes) (sym e) ∙ sym n in
    let b : held_at nodes (codes "java.lang.Throwable") s ≡ Some held = ap (held_in nodes (codes "java.lang.Throwable")) (sym e) ∙ sym h in
    rw (a, b) (ap (λ (o : Option (List ℕ)). Some (with_message name o)) (sym m) ∙ ap Some (sym t))

pub returns : goal.returns
returns c = told c.args.nodes.now c.args.slot _ c.in-Some.name.now c.in_ok-text_of.field-0 _ _ c.node_at-node.ensures c.in-Some.ensures c.in-Some-held_in.ensures c.message_of.ensures c.in_ok-text_of.ensures
