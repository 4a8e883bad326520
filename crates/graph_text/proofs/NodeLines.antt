-- The lines of nodes, one after another.
use Rattle.std.proofs.Common.{◌≡◌, ℕ, ◌+◌, ◌<◌, List, [], ◌∷◌, ◌++◌, length, take, get_or, ap, sym, ◌∙◌, arith, append-nil, append_assoc}
use Rattle.std.proofs.lemmas.Grind.{common_steps}
use Rattle.std.proofs.lemmas.List.{take_more}
use Rattle.ser_values.specs.declared.node.Node.{Node}
use Rattle.graph_text.specs.GraphText.{node_line, node_lines}

-- One more node at the end.
pub lines_more : (k : ℕ) (front : List Node) (node : Node) → node_lines k (front ++ node ∷ []) ≡ node_lines k front ++ node_line (k + length front) node
unfolding node_lines
lines_more k [] node = append-nil (node_line k node) ∙ ap (λ n. node_line n node) (omega arith)
lines_more k (x ∷ front) node =
    let at : (k + 1) + length front ≡ k + length (x ∷ front) = omega arith in
    ap (λ (t : List ℕ). node_line k x ++ t) (lines_more (k + 1) front node ∙ ap (λ n. node_lines (k + 1) front ++ node_line n node) at)
    ∙ sym (append_assoc (node_line k x) (node_lines (k + 1) front) (node_line (k + length (x ∷ front)) node))

-- A loop over nodes has written one more line.
pub one_line_more : (old out new : List ℕ) (nodes : List Node) (i : ℕ) (node : Node) → i < length nodes → node ≡ get_or nodes i node → out ≡ old ++ node_lines 0 (take i nodes)
    → new ≡ out ++ node_line i node → new ≡ old ++ node_lines 0 (take (i + 1) nodes)
one_line_more old out new nodes i node inside is so_far more =
    let front : take (i + 1) nodes ≡ take i nodes ++ node ∷ [] = take_more nodes i node inside ∙ ap (λ n. take i nodes ++ n ∷ []) (sym is) in
    let at : 0 + length (take i nodes) ≡ i = grind (arith, common_steps, inside) in
    let lines : node_lines 0 (take (i + 1) nodes) ≡ node_lines 0 (take i nodes) ++ node_line i node =
    ap (node_lines 0) front ∙ lines_more 0 (take i nodes) node ∙ ap (λ n. node_lines 0 (take i nodes) ++ node_line n node) at in
    more ∙ ap (λ t. t ++ node_line i node) so_far ∙ append_assoc old (node_lines 0 (take i nodes)) (node_line i node) ∙ ap (λ t. old ++ t) (sym lines)
