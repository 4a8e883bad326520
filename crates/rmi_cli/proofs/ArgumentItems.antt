-- The items of arguments, as they are made one after the other; and the graph of arguments has their own nodes and items.
use Rattle.std.proofs.Common.{◌≡◌, ◌≢◌, ◌<◌, ◌≤◌, ◌+◌, ℕ, zero, suc, false, true≢false, List, [], ◌∷◌, ◌++◌, map, length, take, drop, get_or, slice_get, Some, refl, sym, ap, subst, ◌∙◌, arith, inl, inr, append_assoc, append-nil, length-append, add-one, drop-cons}
use Rattle.std.proofs.lemmas.Bool.Decides.{eqb_tells}
use Rattle.std.proofs.lemmas.Grind.{flat_map-append}
use Rattle.std.proofs.lemmas.List.{drop_all, take_more}
use Rattle.class_desc.specs.declared.slot.Slot.TheVariants as slots
use Rattle.class_desc.specs.declared.slot.Item.{Item}
use Rattle.class_desc.specs.declared.slot.Item.TheVariants as items
use Rattle.ser_values.specs.declared.node.Node.{Node}
use Rattle.ser_values.specs.declared.node.Node.TheVariants as nodes
use Rattle.ser_values.specs.declared.node.SlotPlace.TheVariants.{Reference}
use Rattle.ser_values.specs.declared.value.Value.{Value}
use Rattle.ser_values.specs.Node.{has, Want, before, after, inside, item_wants}
use Rattle.ser_values.specs.Finished.{IsGraphOf}
use Rattle.ser_values.specs.Fronts.{put_block}
use Rattle.ser_values.specs.Renumber.{Renaming, item_by, node_by, node_or_by, place_in, reordered}
use Rattle.ser_values.specs.Visits.{VisitAll, a_null, again, fresh, Visits}
use Rattle.ser_values.proofs.FrontLaws.{put_both, put_wants}
use Rattle.ser_values.proofs.Lists.{slice_get-append_seam}
use Rattle.ser_write.specs.Canonical.{value_bytes}
use Rattle.stream_grammar.specs.Spelled.{joined}
use Rattle.rmi_words.specs.declared.call_words.Argument.{Argument}
use Rattle.rmi_words.specs.declared.call_words.Argument.TheVariants.{Prim, Text}
use Rattle.rmi_cli.specs.declared.call_arguments.ItemDraft.{ItemDraft}
use Rattle.rmi_cli.specs.Arguments.{answers_from, argument_items, argument_nodes, before_items, node_of, with_arguments}

-- ---- one argument more

pub add_number : (draft : ItemDraft) (a : Argument) (v : Value) (run : List ℕ) → a ≡ Prim v → run ≡ draft.run ++ value_bytes v
    → (more : List Argument) → with_arguments (record draft { run = run }) more ≡ with_arguments draft (a ∷ more)
unfolding answers_from
add_number draft a v run is longer more =
    let W : Argument → List Item = λ x. with_arguments draft (x ∷ more) in
    let rest = joined (answers_from draft.strings more) in
    let both : put_block run rest ≡ put_block draft.run (put_block (value_bytes v) rest) = ap (λ (b : List ℕ). put_block b rest) longer ∙ put_both draft.run (value_bytes v) rest in
    ap (λ (l : List Item). draft.items ++ l) both ∙ ap W (sym is)

pub add_text : (old new : ItemDraft) (a : Argument) (t : List ℕ) → a ≡ Text t → new.strings ≡ old.strings + 1
    → ((more : List Item) → before_items new more ≡ before_items old (items.Ref (slots.Node old.strings) ∷ more))
    → (more : List Argument) → with_arguments new more ≡ with_arguments old (a ∷ more)
unfolding answers_from
add_text old new a t is next same more =
    let W : Argument → List Item = λ x. with_arguments old (x ∷ more) in
    let up : new.strings ≡ suc old.strings = omega (arith, next) in
    ap (λ (k : ℕ). before_items new (joined (answers_from k more))) up ∙ same (joined (answers_from (suc old.strings) more)) ∙ ap W (sym is)

pub items_step : (arguments : List Argument) (i : ℕ) (a : Argument) (old new : ItemDraft) (whole : List Item) → i < length arguments → a ≡ get_or arguments i a
    → ((more : List Argument) → with_arguments new more ≡ with_arguments old (a ∷ more)) → with_arguments old (drop i arguments) ≡ whole → with_arguments new (drop (i + 1) arguments) ≡ whole
items_step arguments i a old new whole less is turn rest =
    let cut : drop i arguments ≡ get_or arguments i a ∷ drop (i + 1) arguments = rw (add-one) (drop-cons arguments i a less) in
    let here : drop i arguments ≡ a ∷ drop (i + 1) arguments = cut ∙ ap (λ (x : Argument). x ∷ drop (i + 1) arguments) (sym is) in
    turn (drop (i + 1) arguments) ∙ ap (with_arguments old) (sym here) ∙ rest

pub items_end : (arguments : List Argument) (i : ℕ) (draft : ItemDraft) (new whole : List Item) → length arguments ≤ i → with_arguments draft (drop i arguments) ≡ whole
    → new ≡ before_items draft [] → new ≡ whole
unfolding answers_from
items_end arguments i draft new whole past rest is = is ∙ ap (with_arguments draft) (sym (drop_all i arguments past)) ∙ rest

-- ---- nodes

pub one_node : (a : Argument) → length (node_of a) ≤ 1
one_node (Prim v) = omega arith
one_node (Text t) = omega arith

pub nodes_step : (arguments : List Argument) (i : ℕ) (a : Argument) (old new : List Node) → i < length arguments → a ≡ get_or arguments i a
    → old ≡ argument_nodes (take i arguments) → new ≡ old ++ node_of a → new ≡ argument_nodes (take (i + 1) arguments)
nodes_step arguments i a old new less is before more =
    let front : take (i + 1) arguments ≡ take i arguments ++ a ∷ [] = take_more arguments i a less ∙ ap (λ (x : Argument). take i arguments ++ x ∷ []) (sym is) in
    more ∙ ap (λ (l : List Node). l ++ node_of a) before ∙ ap (λ (l : List Node). argument_nodes (take i arguments) ++ l) (sym (append-nil (node_of a)))
    ∙ sym (flat_map-append node_of (take i arguments) (a ∷ [])) ∙ ap argument_nodes (sym front)

pub nodes_few : (i : ℕ) (a : Argument) (old new : List Node) → length old ≤ i → new ≡ old ++ node_of a → length new ≤ i + 1
nodes_few i a old new few more = omega (arith, few, ap length more, length-append old (node_of a), one_node a)

-- ---- the graph of arguments

-- so many numbers, from this one on
unfoldable upto : ℕ → ℕ → List ℕ
upto k zero = []
upto k (suc n) = k ∷ upto (suc k) n

upto_more : (k n : ℕ) → upto k n ++ (k + n) ∷ [] ≡ upto k (suc n)
unfolding upto
upto_more k zero = ap (λ (j : ℕ). j ∷ []) (omega arith)
upto_more k (suc n) = ap (λ (l : List ℕ). k ∷ l) (ap (λ (j : ℕ). upto (suc k) n ++ j ∷ []) (omega arith) ∙ upto_more (suc k) n)

beyond : (k n j : ℕ) → k + n ≤ j → has (upto k n) j ≡ false
unfolding has upto
beyond k zero j past = refl
beyond k (suc n) j past = elim (eqb_tells k j) [
  | inl same ↦ absurd (omega (arith, past, same.1))
  | inr apart ↦ rw (apart.0) (beyond (suc k) n j (omega (arith, past)))
]

placed : (k n j : ℕ) → j < n → place_in (upto k n) (k + j) ≡ j
unfolding place_in upto
placed k zero j less = absurd (omega (arith, less))
placed k (suc n) zero less = elim (eqb_tells k (k + 0)) [
  | inl same ↦ rw (same.0) refl
  | inr apart ↦ absurd (apart.1 (omega arith))
]
placed k (suc n) (suc j) less = elim (eqb_tells k (k + suc j)) [
  | inl same ↦ absurd (omega (arith, same.1))
  | inr apart ↦ rw (apart.0) (ap suc (ap (place_in (upto (suc k) n)) (omega arith) ∙ placed (suc k) n j (omega (arith, less))))
]

-- what the items want: the strings, in order
abbrev refs_from : ℕ → List Argument → List Want
refs_from k [] = []
refs_from k (Prim v ∷ more) = refs_from k more
refs_from k (Text t ∷ more) = (Reference, slots.Node k) ∷ refs_from (suc k) more

wants_are : (k : ℕ) (arguments : List Argument) → item_wants (joined (answers_from k arguments)) ≡ refs_from k arguments
unfolding item_wants answers_from
wants_are k [] = refl
wants_are k (Prim v ∷ more) = put_wants (value_bytes v) (joined (answers_from k more)) ∙ wants_are k more
wants_are k (Text t ∷ more) = ap (λ (l : List Want). (Reference, slots.Node k) ∷ l) (wants_are (suc k) more)

-- A string gets the next number.
string_visited : (loose : List Node) (d k : ℕ) (t : List ℕ) (order order2 : List ℕ) → slice_get loose k ≡ Some (nodes.Text t) → has order k ≡ false
    → Visits loose (suc d) [] (Reference, slots.Node k) order order2 → order2 ≡ order ++ k ∷ []
unfolding Visits before after
string_visited loose d k t order order2 is new (a_null null admitted same) = absurd cc
string_visited loose d k t order order2 is new (again j i at found there takes same) =
    let k_is : k ≡ j = cc in
    absurd (true≢false (sym there ∙ ap (has order) (sym k_is) ∙ new))
string_visited loose d k t order order2 is new (fresh j i middle at found absent left admitted shaped first missing later) =
    let k_is : k ≡ j = cc in
    let node : i ≡ nodes.Text t = cc in
    rest (subst (λ x. VisitAll (Visits loose d []) (before x) order middle) node first) (subst (λ x. VisitAll (Visits loose d (inside [] j i)) (after x) (middle ++ j ∷ []) order2) node later) k_is
  where
    rest : middle ≡ order → order2 ≡ middle ++ j ∷ [] → k ≡ j → order2 ≡ order ++ k ∷ []
    rest a b c = b ∙ ap (λ (l : List ℕ). l ++ j ∷ []) a ∙ ap (λ (x : ℕ). order ++ x ∷ []) (sym c)

visited : (d k : ℕ) (front : List Node) (arguments : List Argument) (order order2 : List ℕ) → length front ≡ k → order ≡ upto 0 k
    → VisitAll (Visits (front ++ argument_nodes arguments) (suc d) []) (refs_from k arguments) order order2 → order2 ≡ upto 0 (k + length (argument_nodes arguments))
visited d k front [] order order2 long is all = all ∙ is ∙ ap (upto 0) (omega arith)
visited d k front (Prim v ∷ more) order order2 long is all = visited d k front more order order2 long is all
visited d k front (Text t ∷ more) order order2 long is (mid, one, all) =
    let loose = front ++ nodes.Text t ∷ argument_nodes more in
    let here : slice_get loose k ≡ Some (nodes.Text t) = subst (λ n. slice_get loose n ≡ Some (nodes.Text t)) long (slice_get-append_seam front (nodes.Text t) (argument_nodes more)) in
    let new : has order k ≡ false = ap (λ (o : List ℕ). has o k) is ∙ beyond 0 k k (omega arith) in
    let next : mid ≡ upto 0 (suc k) = string_visited loose d k t order mid here new one ∙ ap (λ (o : List ℕ). o ++ k ∷ []) is ∙ ap (λ (j : ℕ). upto 0 k ++ j ∷ []) (omega arith) ∙ upto_more 0 k in
    let whole : loose ≡ (front ++ nodes.Text t ∷ []) ++ argument_nodes more = sym (append_assoc front (nodes.Text t ∷ []) (argument_nodes more)) in
    let longer : length (front ++ nodes.Text t ∷ []) ≡ suc k = omega (arith, long, length-append front (nodes.Text t ∷ [])) in
    visited d (suc k) (front ++ nodes.Text t ∷ []) more mid order2 longer next (subst (λ l. VisitAll (Visits l (suc d) []) (refs_from (suc k) more) mid order2) whole all)
    ∙ ap (upto 0) (omega arith)

-- Texts in their own order are the same nodes.
in_order : (f : Renaming) (front : List Node) (arguments : List Argument)
    → map (λ j. node_or_by f (slice_get (front ++ argument_nodes arguments) j)) (upto (length front) (length (argument_nodes arguments))) ≡ argument_nodes arguments
unfolding upto node_by
in_order f front [] = refl
in_order f front (Prim v ∷ more) = in_order f front more
in_order f front (Text t ∷ more) =
    let loose = front ++ nodes.Text t ∷ argument_nodes more in
    let one : node_or_by f (slice_get loose (length front)) ≡ nodes.Text t = ap (node_or_by f) (slice_get-append_seam front (nodes.Text t) (argument_nodes more)) in
    let whole : loose ≡ (front ++ nodes.Text t ∷ []) ++ argument_nodes more = sym (append_assoc front (nodes.Text t ∷ []) (argument_nodes more)) in
    let longer : suc (length front) ≡ length (front ++ nodes.Text t ∷ []) = omega (arith, length-append front (nodes.Text t ∷ [])) in
    let rest : map (λ j. node_or_by f (slice_get loose j)) (upto (suc (length front)) (length (argument_nodes more))) ≡ argument_nodes more =
    ap (λ (n : ℕ). map (λ j. node_or_by f (slice_get loose j)) (upto n (length (argument_nodes more)))) longer
    ∙ ap (λ (l : List Node). map (λ j. node_or_by f (slice_get l j)) (upto (length (front ++ nodes.Text t ∷ [])) (length (argument_nodes more)))) whole
    ∙ in_order f (front ++ nodes.Text t ∷ []) more in
    ap (λ (i : Node). i ∷ map (λ j. node_or_by f (slice_get loose j)) (upto (suc (length front)) (length (argument_nodes more)))) one ∙ ap (λ (l : List Node). nodes.Text t ∷ l) rest

-- Items in which no number changes are the same items.
block_by : (f : Renaming) (p : List ℕ) (is : List Item) → map (item_by f) (put_block p is) ≡ put_block p (map (item_by f) is)
block_by f [] is = refl
block_by f (x ∷ p) [] = refl
block_by f (x ∷ p) (items.Bytes q ∷ is) = refl
block_by f (x ∷ p) (items.Ref s ∷ is) = refl

same_items : (f : Renaming) (k : ℕ) (arguments : List Argument) → ((j : ℕ) → j < k + length (argument_nodes arguments) → f j ≡ j)
    → map (item_by f) (joined (answers_from k arguments)) ≡ joined (answers_from k arguments)
unfolding answers_from
same_items f k [] same = refl
same_items f k (Prim v ∷ more) same = block_by f (value_bytes v) (joined (answers_from k more)) ∙ ap (put_block (value_bytes v)) (same_items f k more same)
same_items f k (Text t ∷ more) same =
    let here : f k ≡ k = same k (omega arith) in
    let rest = same_items f (suc k) more (λ j less. same j (omega (arith, less))) in
    ap (λ (n : ℕ). items.Ref (slots.Node n) ∷ map (item_by f) (joined (answers_from (suc k) more))) here ∙ ap (λ (l : List Item). items.Ref (slots.Node k) ∷ l) rest

-- The graph of arguments has their own nodes, in their order, and their own items.
pub graph_is : (arguments : List Argument) (to_nodes : List Node) (to : List Item) → IsGraphOf (argument_nodes arguments) (argument_items arguments) to_nodes to
    → (to_nodes ≡ argument_nodes arguments) × (to ≡ argument_items arguments)
unfolding reordered upto
graph_is arguments to_nodes to graph =
    let loose = argument_nodes arguments in
    let wants : VisitAll (Visits loose 200 []) (refs_from 0 arguments) [] graph.order = subst (λ ws. VisitAll (Visits loose 200 []) ws [] graph.order) (wants_are 0 arguments) graph.is_order.visits in
    let order : graph.order ≡ upto 0 (length loose) = visited 199 0 [] arguments [] graph.order refl refl wants ∙ ap (upto 0) (omega arith) in
    let place : (j : ℕ) → j < length loose → place_in graph.order j ≡ j = λ j less. ap (λ (o : List ℕ). place_in o j) order ∙ ap (place_in (upto 0 (length loose))) (omega arith) ∙ placed 0 (length loose) j less in (
      graph.nodes_are ∙ ap (λ (o : List ℕ). reordered loose o) order ∙ in_order (place_in (upto 0 (length loose))) [] arguments,
      graph.items_are ∙ same_items (place_in graph.order) 0 arguments (λ j less. place j (omega (arith, less))),
    )

pub graph_by : (arguments : List Argument) (loose : List Node) (is : List Item) (to_nodes : List Node) (to : List Item) → loose ≡ argument_nodes arguments → is ≡ argument_items arguments
    → IsGraphOf loose is to_nodes to → (to_nodes ≡ argument_nodes arguments) × (to ≡ argument_items arguments)
graph_by arguments loose is to_nodes to from these graph =
    graph_is arguments to_nodes to (subst (λ l. IsGraphOf l (argument_items arguments) to_nodes to) from (subst (λ i. IsGraphOf loose i to_nodes to) these graph))
