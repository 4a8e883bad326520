-- Graphs with the same nodes and items are the same.
use Rattle.std.proofs.Common.{◌≡◌, List, Result, Ok, Err, ap, subst}
use Rattle.std.specs.Prelude.{IfOk}
use Rattle.std.proofs.Math.Logic.{∥∥₁_prop}
use Rattle.class_desc.specs.declared.slot.Item.{Item}
use Rattle.ser_values.specs.declared.node.Node.{Node}
use Rattle.ser_values.specs.declared.graph.Graph.{Graph}
use Rattle.ser_values.specs.Numbered.{IsGraph}

numbered_same : (nodes : List Node) (items : List Item) (x y : ∥ IsGraph nodes items ∥₁) → ◌≡◌ {A = Graph} (record { nodes = nodes; items = items; numbered = x }) (record { nodes = nodes; items = items; numbered = y })
numbered_same nodes items x y = let make : ∥ IsGraph nodes items ∥₁ → Graph = λ z. record { nodes = nodes; items = items; numbered = z } in ap make (∥∥₁_prop x y)

pub graph_same : (a b : Graph) → a.nodes ≡ b.nodes → a.items ≡ b.items → a ≡ b
graph_same a b nodes items =
    let P : List Node → Type 0 = λ ns. (x : ∥ IsGraph ns a.items ∥₁) → a ≡ record { nodes = ns; items = a.items; numbered = x } in
    let Q : List Item → Type 0 = λ is. (x : ∥ IsGraph b.nodes is ∥₁) → a ≡ record { nodes = b.nodes; items = is; numbered = x } in
    subst Q items (subst P nodes (λ x. numbered_same a.nodes a.items a.numbered x)) b.numbered

pub copied_same : {E : Type 0} (graph : Graph) (result : Result Graph E) → IfOk result (λ copy. copy.nodes ≡ graph.nodes) → IfOk result (λ copy. copy.items ≡ graph.items) → IfOk result (λ copy. copy ≡ graph)
copied_same graph (Ok copy) nodes items = graph_same copy graph nodes items
copied_same graph (Err e) nodes items = tt
