use Rattle.std.proofs.Common.{◌≡◌, ◌∙◌, ◌≤◌, ap, sym, subst, List, length, arith}
use Rattle.std.specs.Prelude.{All}
use Rattle.ser_values.specs.declared.node.Node.{Node}
use Rattle.ser_values.specs.Ranges.{InRange}
use Rattle.ser_values.proofs.Ranged.{set_kept, written_back}
use Rattle.ser_values.proofs.builder.Builder.set_ref.Goals as goal

pub invariant_of-self : goal.invariant_of-self
invariant_of-self c =
    let changed = c.set_in_nodes.new.nodes in
    let before = c.self.inside.nodes.items in
    let old : c.deref_mut.result.now ≡ before = c.deref_mut.ensures.value in
    let len : length changed ≡ length before = c.set_in_nodes.auto.nodes ∙ ap (λ (l : List Node). length l) old in
    let count : c.self.inside.nodes.len ≡ length changed = sym (c.set_in_nodes.auto.nodes ∙ c.deref_mut.ensures.len) in
    let ranged : All InRange c.deref_mut.result.now = subst (λ (l : List Node). All InRange l) (sym old) c.self.invariant.1 in
    let kept = set_kept c.deref_mut.result.now changed c.set_in_nodes.result c.args.node c.args.part c.args.place c.args.to c.set_in_nodes.ensures.done c.set_in_nodes.ensures.kept ranged in
    let few : length before ≤ 65536 = c.self.invariant.0 in
    let small : length changed ≤ 65536 = omega (arith, len, few) in
    subst (λ (l : List Node). (length l ≤ 65536) × All InRange l) (sym (written_back changed before c.self.inside.nodes.len len count)) (small, kept)
