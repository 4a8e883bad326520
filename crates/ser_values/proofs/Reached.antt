-- Loose nodes become a graph: which nodes are reached, in which order, and what they are under their new numbers.
use Rattle.std.proofs.Common.{◌≡◌, ℕ, ◌+◌, ◌≤◌, ◌||◌, Bool, true, false, cond, eqb, leb, List, [], ◌∷◌, ◌++◌, map, length, Option, Some, None, slice_get, refl, sym, ap, subst, ◌∙◌, arith}
use Rattle.std.proofs.lemmas.Bool.{eqb-true, eqb-false, leb-true, leb-false, or_parts, or_right}
use Rattle.std.proofs.lemmas.Option.{slice_get_within}
use Rattle.std.proofs.lemmas.Map.Steps.{length-le_from_distinct_below}
use Rattle.std.proofs.Math.Logic.{∥∥₁_elim}
use Rattle.std.proofs.Math.Bridge.{le_prop}
use mathlib.Core.Bool.{Bool-set}
use Rattle.std.specs.Prelude.{All}
use Rattle.std.specs.List.{IsDistinct, list_any, AllByRecursion}
use Rattle.class_desc.specs.declared.slot.Slot.{Slot}
use Rattle.class_desc.specs.declared.slot.Slot.TheVariants as slots
use Rattle.class_desc.specs.declared.slot.Item.{Item}
use Rattle.class_desc.specs.declared.slot.Item.TheVariants as items
use Rattle.class_desc.specs.declared.field.FieldDesc.{FieldDesc}
use Rattle.class_desc.specs.TypeCode.{is_primitive}
use Rattle.ser_values.specs.declared.value.Value.{Value}
use Rattle.ser_values.specs.declared.value.Value.TheVariants as values
use Rattle.ser_values.specs.declared.value.Values.{Values}
use Rattle.ser_values.specs.declared.value.Values.TheVariants as kinds
use Rattle.ser_values.specs.declared.value.Part.{Part}
use Rattle.ser_values.specs.declared.node.Node.{Node}
use Rattle.ser_values.specs.declared.node.Node.TheVariants.{Text, Desc, Proxy, Object, Array, Class, Enum}
use Rattle.ser_values.specs.declared.node.SlotPlace.TheVariants as places
use Rattle.ser_values.specs.Node.{has, Want, item_wants, value_wants, part_wants, field_wants, slot_wants, element_wants, before, after}
use Rattle.ser_values.specs.Shape.{is_joined, refs_in, sizes_in, notes_in, parts_of, parts_in}
use Rattle.ser_values.specs.Ranges.{ItemsFit, InRange}
use Rattle.ser_values.specs.Visits.{VisitAll, Visits}
use Rattle.ser_values.specs.Walk.{end_of, all, visit_at}
use Rattle.ser_values.specs.Numbered.{NumberAll, Numbered, IsGraph}
use Rattle.ser_values.specs.Renumber.{place_in, slot_by, item_by, field_by, value_by, part_by, values_by, node_by, node_or_by, reordered, HasPlaces, AllBelow, place_at}
use Rattle.ser_values.specs.Finished.{IsOrder, IsGraphOf, HasShape, parts_or, parts_at}
use Rattle.ser_values.specs.Seen.{Once}
use Rattle.ser_values.proofs.Orders.{sound, complete, all_sound, all_complete}
use Rattle.ser_values.proofs.Depths.{deeper, bounded, all_bounded, all_more}
use Rattle.ser_values.proofs.Places.{get_or-some}
use Rattle.ser_values.proofs.Ranged.{numbers_of, units_of, both_of, items_kept, reordered_kept}
use Rattle.ser_values.proofs.Added.{Names, NamesAll, Wants, Adds, visits_add, all_adds, has-seam}
use Rattle.ser_values.proofs.Renumbered.{map_len, want_by, split_named, item_wants-map, is_joined-map}
use Rattle.ser_values.proofs.Numbering.{is_numbered, length-reordered}

-- ---- no more nodes than there are

any_is : (xs : List ℕ) (j : ℕ) → has xs j ≡ list_any (eqb j) xs
unfolding has
any_is [] j = refl
any_is (x ∷ xs) j = rw (any_is xs j) (ap (λ b. b || list_any (eqb j) xs) (turn x j))
  where
    turn : (x j : ℕ) → eqb x j ≡ eqb j x
    turn x j = go (eqb x j) (eqb j x) refl refl
      where
        go : (a b : Bool) → eqb x j ≡ a → eqb j x ≡ b → a ≡ b
        go true true e f = refl
        go false false e f = refl
        go true false e f = absurd (eqb-false j x f (sym (eqb-true x j e)))
        go false true e f = absurd (eqb-false x j e (sym (eqb-true j x f)))

turn : (x j : ℕ) → eqb x j ≡ false → eqb j x ≡ false
turn x j e = go (eqb j x) refl
  where
    go : (b : Bool) → eqb j x ≡ b → b ≡ false
    go false f = refl
    go true f = absurd (eqb-false x j e (sym (eqb-true j x f)))

apart : (x : ℕ) (xs : List ℕ) → has xs x ≡ false → AllByRecursion (λ y. eqb x y ≡ false) xs
unfolding has
apart x [] h = tt
apart x (y ∷ ys) h = let p = or_parts (eqb y x) (has ys x) h in (turn y x p.0, apart x ys p.1)

distinct : (xs : List ℕ) → Once xs → IsDistinct eqb xs
unfolding Once IsDistinct
distinct [] o = tt
distinct (x ∷ xs) o = (apart x xs o.0, distinct xs o.1)

adds : (loose : List Node) (ws : List Want) (d : ℕ) (order : List ℕ) → VisitAll (Visits loose d []) ws [] order → Adds loose [] order × NamesAll order ws
adds loose ws d order h = all_adds loose (Visits loose d) (visits_add loose d) [] ws [] order h

pub few : (loose : List Node) (ws : List Want) (d : ℕ) (order : List ℕ) → VisitAll (Visits loose d []) ws [] order → AllBelow order (length loose)
unfolding has
few loose ws d order h j g =
    let t = (adds loose ws d order h).0.there j g refl in
    slice_get_within loose j t.0 t.1

pub at_most : (loose : List Node) (ws : List Want) (d : ℕ) (order : List ℕ) → VisitAll (Visits loose d []) ws [] order → length order ≤ length loose
unfolding Once
at_most loose ws d order h =
    let p = (adds loose ws d order h).0 in
    length-le_from_distinct_below order (length loose) (distinct order (p.once tt)) (λ q t. few loose ws d order h q (any_is order q ∙ t))

-- as deep as there are nodes is deep enough
pub deep_enough : (loose : List Node) (ws : List Want) (d : ℕ) (order : List ℕ) → VisitAll (Visits loose d []) ws [] order → VisitAll (Visits loose (length loose) []) ws [] order
deep_enough loose ws d order h = all_bounded loose d (bounded loose d) [] ws [] order h (length loose) (let le = at_most loose ws d order h in omega arith)

-- ---- there is one order

walk_of : (loose : List Node) (ws : List Want) (d : ℕ) (order : List ℕ) → VisitAll (Visits loose d []) ws [] order → end_of (all (visit_at loose d []) ws []) ≡ Some order
walk_of loose ws d order h = all_complete (visit_at loose d) (Visits loose d) (complete loose d) [] ws [] order h

pub one_order : (loose : List Node) (ws : List Want) (d e : ℕ) (a b : List ℕ) → VisitAll (Visits loose d []) ws [] a → VisitAll (Visits loose e []) ws [] b → a ≡ b
one_order loose ws d e a b g h =
    let p = walk_of loose ws (d + e) a (all_more (Visits loose d) (Visits loose (d + e)) (deeper loose d (d + e) (omega arith)) [] ws [] a g) in
    let q = walk_of loose ws (d + e) b (all_more (Visits loose e) (Visits loose (d + e)) (deeper loose e (d + e) (omega arith)) [] ws [] b h) in
    let s : Some a ≡ Some b = sym p ∙ q in cc

-- ---- two renamings that agree on what is named

module _ (F : List ℕ) (f g : ℕ → ℕ) (agree : (j : ℕ) → has F j ≡ true → f j ≡ g j) where
  same_slot : (s : Slot) → Names F s → slot_by f s ≡ slot_by g s
  same_slot slots.Null n = refl
  same_slot (slots.Node j) n = ap (λ k. slots.Node k) (agree j n)

  same_slots : (ss : List Slot) → NamesAll F (slot_wants ss) → map (slot_by f) ss ≡ map (slot_by g) ss
  unfolding slot_wants
  same_slots [] n = refl
  same_slots (s ∷ ss) n = rw (same_slot s n.0, same_slots ss n.1) refl

  same_items : (is : List Item) → NamesAll F (item_wants is) → map (item_by f) is ≡ map (item_by g) is
  unfolding item_wants
  same_items [] n = refl
  same_items (items.Bytes b ∷ is) n = ap (λ (l : List Item). items.Bytes b ∷ l) (same_items is n)
  same_items (items.Ref s ∷ is) n = rw (same_slot s n.0, same_items is n.1) refl

  same_values : (vs : List Value) → NamesAll F (value_wants vs) → map (value_by f) vs ≡ map (value_by g) vs
  unfolding value_wants
  same_values [] n = refl
  same_values (values.Byte v ∷ vs) n = ap (λ (l : List Value). values.Byte v ∷ l) (same_values vs n)
  same_values (values.Char v ∷ vs) n = ap (λ (l : List Value). values.Char v ∷ l) (same_values vs n)
  same_values (values.Double v ∷ vs) n = ap (λ (l : List Value). values.Double v ∷ l) (same_values vs n)
  same_values (values.Float v ∷ vs) n = ap (λ (l : List Value). values.Float v ∷ l) (same_values vs n)
  same_values (values.Int v ∷ vs) n = ap (λ (l : List Value). values.Int v ∷ l) (same_values vs n)
  same_values (values.Long v ∷ vs) n = ap (λ (l : List Value). values.Long v ∷ l) (same_values vs n)
  same_values (values.Short v ∷ vs) n = ap (λ (l : List Value). values.Short v ∷ l) (same_values vs n)
  same_values (values.Boolean v ∷ vs) n = ap (λ (l : List Value). values.Boolean v ∷ l) (same_values vs n)
  same_values (values.Ref s ∷ vs) n = rw (same_slot s n.0, same_values vs n.1) refl

  same_parts : (ps : List Part) → NamesAll F (part_wants ps) → map (part_by f) ps ≡ map (part_by g) ps
  unfolding part_wants
  same_parts [] n = refl
  same_parts (x ∷ ps) n =
      let p = split_named F (value_wants x.values) (item_wants x.note ++ part_wants ps) n in
      let q = split_named F (item_wants x.note) (part_wants ps) p.1 in
      rw (same_values x.values p.0, same_items x.note q.0, same_parts ps q.1) refl

  same_fields : (fs : List FieldDesc) → NamesAll F (field_wants fs) → map (field_by f) fs ≡ map (field_by g) fs
  unfolding field_wants
  same_fields [] n = refl
  same_fields (d ∷ fs) n = go (is_primitive d.code) (λ m. same_fields fs m) n
    where
      go : (b : Bool) → (NamesAll F (field_wants fs) → map (field_by f) fs ≡ map (field_by g) fs) → NamesAll F (cond b (field_wants fs) ((places.Text, d.type_text) ∷ field_wants fs))
          → record d { type_text = cond b d.type_text (slot_by f d.type_text) } ∷ map (field_by f) fs ≡ record d { type_text = cond b d.type_text (slot_by g d.type_text) } ∷ map (field_by g) fs
      go true more n = ap (λ (l : List FieldDesc). d ∷ l) (more n)
      go false more n = rw (same_slot d.type_text n.0, more n.1) refl

  same_elements : (vs : Values) → NamesAll F (element_wants vs) → values_by f vs ≡ values_by g vs
  same_elements (kinds.Bytes v) n = refl
  same_elements (kinds.Chars v) n = refl
  same_elements (kinds.Doubles v) n = refl
  same_elements (kinds.Floats v) n = refl
  same_elements (kinds.Ints v) n = refl
  same_elements (kinds.Longs v) n = refl
  same_elements (kinds.Shorts v) n = refl
  same_elements (kinds.Bools v) n = refl
  same_elements (kinds.Refs ss) n = ap kinds.Refs (same_slots ss n)

  same_node : (i : Node) → Wants F i → node_by f i ≡ node_by g i
  unfolding node_by before after
  same_node (Text t) n = refl
  same_node (Desc d) n =
      let p = split_named F (field_wants d.fields) (item_wants d.note ++ (places.Parent, d.parent) ∷ []) n.afters in
      let q = split_named F (item_wants d.note) ((places.Parent, d.parent) ∷ []) p.1 in
      rw (same_fields d.fields p.0, same_items d.note q.0, same_slot d.parent q.1.0) refl
  same_node (Proxy p) n =
      let q = split_named F (item_wants p.note) ((places.Parent, p.parent) ∷ []) n.afters in
      rw (same_items p.note q.0, same_slot p.parent q.1.0) refl
  same_node (Object c ps) n = rw (agree c n.befores.0, same_parts ps n.afters) refl
  same_node (Array c vs) n = rw (agree c n.befores.0, same_elements vs n.afters) refl
  same_node (Class c) n = rw (agree c n.befores.0) refl
  same_node (Enum c t) n = rw (agree c n.befores.0, agree t n.afters.0) refl

agrees : (order places : List ℕ) → HasPlaces order 0 places → (j : ℕ) → has order j ≡ true → place_at places j ≡ place_in order j
agrees order places p j h = let z : 0 + place_in order j ≡ place_in order j = omega arith in get_or-some places j _ (p j h) ∙ z

map_same : {A : Type 0} (f g : ℕ → A) (xs : List ℕ) → ((j : ℕ) → has xs j ≡ true → f j ≡ g j) → map f xs ≡ map g xs
unfolding has
map_same f g [] h = refl
map_same f g (x ∷ xs) h = rw (h x (has-seam [] x xs), map_same f g xs (λ j t. h j (or_right (eqb x j) (has xs j) t))) refl

pub made_is : (loose : List Node) (ws : List Want) (d : ℕ) (order places : List ℕ) → VisitAll (Visits loose d []) ws [] order → HasPlaces order 0 places
    → map (λ j. node_or_by (place_at places) (slice_get loose j)) order ≡ reordered loose order
unfolding reordered has
made_is loose ws d order places h p = map_same (λ j. node_or_by (place_at places) (slice_get loose j)) (λ j. node_or_by (place_in order) (slice_get loose j)) order same
  where
    same : (j : ℕ) → has order j ≡ true → node_or_by (place_at places) (slice_get loose j) ≡ node_or_by (place_in order) (slice_get loose j)
    same j t =
        let a = (adds loose ws d order h).0 in
        let found = a.there j t refl in
        rw found.1 (same_node order (place_at places) (place_in order) (agrees order places p) found.0 (a.closed j found.0 t refl found.1))

-- ---- parts

refs_by : (f : ℕ → ℕ) (is : List Item) → refs_in (map (item_by f) is) ≡ refs_in is
refs_by f is = ap (λ (l : List Want). length l) (item_wants-map f is) ∙ map_len (want_by f) (item_wants is)

sizes_by : (f : ℕ → ℕ) (ps : List Part) → sizes_in (map (part_by f) ps) ≡ sizes_in ps
unfolding sizes_in
sizes_by f [] = refl
sizes_by f (p ∷ ps) = let l : length (map (value_by f) p.values) ≡ length p.values = map_len (value_by f) p.values in let h = sizes_by f ps in omega arith

notes_by : (f : ℕ → ℕ) (ps : List Part) → notes_in (map (part_by f) ps) ≡ notes_in ps
unfolding notes_in
notes_by f [] = refl
notes_by f (p ∷ ps) = let l : refs_in (map (item_by f) p.note) ≡ refs_in p.note = refs_by f p.note in let h = notes_by f ps in omega arith

elements_by : (f : ℕ → ℕ) (c : ℕ) (vs : Values) → parts_of (Array (f c) (values_by f vs)) ≡ parts_of (Array c vs)
elements_by f c (kinds.Refs ss) = rw (map_len (slot_by f) ss) refl
elements_by f c (kinds.Bytes v) = refl
elements_by f c (kinds.Chars v) = refl
elements_by f c (kinds.Doubles v) = refl
elements_by f c (kinds.Floats v) = refl
elements_by f c (kinds.Ints v) = refl
elements_by f c (kinds.Longs v) = refl
elements_by f c (kinds.Shorts v) = refl
elements_by f c (kinds.Bools v) = refl

parts_of_by : (f : ℕ → ℕ) (o : Option Node) → parts_of (node_or_by f o) ≡ parts_or o
unfolding node_by
parts_of_by f None = refl
parts_of_by f (Some (Text t)) = refl
parts_of_by f (Some (Desc d)) = rw (map_len (field_by f) d.fields) (rw (refs_by f d.note) refl)
parts_of_by f (Some (Proxy p)) = rw (refs_by f p.note) refl
parts_of_by f (Some (Object c ps)) = rw (sizes_by f ps) (rw (notes_by f ps) refl)
parts_of_by f (Some (Array c vs)) = elements_by f c vs
parts_of_by f (Some (Class c)) = refl
parts_of_by f (Some (Enum c t)) = refl

parts_go : (loose : List Node) (f : ℕ → ℕ) (js : List ℕ) → parts_in (map (λ j. node_or_by f (slice_get loose j)) js) ≡ parts_at loose js
unfolding parts_in parts_at
parts_go loose f [] = refl
parts_go loose f (j ∷ js) = rw (parts_of_by f (slice_get loose j), parts_go loose f js) refl

pub parts_same : (loose : List Node) (order : List ℕ) → parts_in (reordered loose order) ≡ parts_at loose order
unfolding reordered
parts_same loose order = parts_go loose (place_in order) order

-- ---- what is answered

pub walked : (loose : List Node) (ws : List Want) (d : ℕ) (order : List ℕ) → Some order ≡ end_of (all (visit_at loose d []) ws []) → VisitAll (Visits loose d []) ws [] order
walked loose ws d order e = all_sound (visit_at loose d) (Visits loose d) (sound loose d) [] ws [] order (sym e)

none_deep : (loose : List Node) (ws : List Want) (d : ℕ) → None ≡ end_of (all (visit_at loose d []) ws []) → (order : List ℕ) → ¬ VisitAll (Visits loose d []) ws [] order
none_deep loose ws d e order h = let s : Some order ≡ None = sym (walk_of loose ws d order h) ∙ sym e in absurd cc

pub no_order : (loose : List Node) (items : List Item) → None ≡ end_of (all (visit_at loose 200 []) (item_wants items) []) → (order : List ℕ) → ¬ IsOrder loose 200 items order
no_order loose items e order h = none_deep loose (item_wants items) 200 e order h.visits

pub no_shape : (loose : List Node) (items : List Item) → None ≡ end_of (all (visit_at loose (length loose) []) (item_wants items) []) → ¬ HasShape loose items
no_shape loose items e h = none_deep loose (item_wants items) (length loose) e h.1 (deep_enough loose (item_wants items) h.0 h.1 h.2.visits)

pub not_joined : (loose : List Node) (items : List Item) → is_joined items ≡ false → ¬ HasShape loose items
not_joined loose items e h = let j = h.2.joined in let s : true ≡ false = sym j ∙ e in absurd cc

pub is_order : (loose : List Node) (items : List Item) (d : ℕ) (order : List ℕ) → Some order ≡ end_of (all (visit_at loose d []) (item_wants items) []) → is_joined items ≡ true → leb (parts_at loose order + refs_in items) 1048576 ≡ true → IsOrder loose d items order
is_order loose items d order e joined few = record {
  visits = walked loose (item_wants items) d order e;
  joined = joined;
  few_parts = rw (parts_same loose order) (leb-true (parts_at loose order + refs_in items) 1048576 few);
}

-- too many parts
pub not_few : (loose : List Node) (items : List Item) (d : ℕ) (order : List ℕ) → Some order ≡ end_of (all (visit_at loose d []) (item_wants items) []) → leb (parts_at loose order + refs_in items) 1048576 ≡ false → ¬ HasShape loose items
not_few loose items d order e few h =
    let same = one_order loose (item_wants items) d h.0 order h.1 (walked loose (item_wants items) d order e) h.2.visits in
    let le : parts_at loose order + refs_in items ≤ 1048576 = rw (← parts_same loose order) (rw same h.2.few_parts) in
    let lt = leb-false (parts_at loose order + refs_in items) 1048576 few in
    absurd (omega arith)

pub below_order : (loose : List Node) (items : List Item) (d : ℕ) (order : List ℕ) → IsOrder loose d items order → AllBelow order (length loose)
below_order loose items d order h = few loose (item_wants items) d order h.visits

pub few_in_order : (loose : List Node) (items : List Item) (d : ℕ) (order : List ℕ) → IsOrder loose d items order → length order ≤ length loose
few_in_order loose items d order h = at_most loose (item_wants items) d order h.visits

pub once_in_order : (loose : List Node) (items : List Item) (d : ℕ) (order : List ℕ) → IsOrder loose d items order → Once order
unfolding Once
once_in_order loose items d order h = (adds loose (item_wants items) d order h.visits).0.once tt

pub graph_of : (loose : List Node) (items : List Item) (order places : List ℕ) (nodes : List Node) (to : List Item) → IsOrder loose 200 items order → HasPlaces order 0 places
    → nodes ≡ map (λ j. node_or_by (place_at places) (slice_get loose j)) order → to ≡ map (item_by (place_at places)) items → IsGraphOf loose items nodes to
graph_of loose items order places nodes to h p n t = record {
  order = order;
  is_order = h;
  nodes_are = n ∙ made_is loose (item_wants items) 200 order places h.visits p;
  items_are = t ∙ same_items order (place_at places) (place_in order) (agrees order places p) items (adds loose (item_wants items) 200 order h.visits).1;
}

pub is_graph : (loose : List Node) (items : List Item) (nodes : List Node) (to : List Item) → length loose ≤ 65536 → All InRange loose → ItemsFit items → IsGraphOf loose items nodes to → IsGraph nodes to
is_graph loose items nodes to small ranged fit g =
    let n = is_numbered loose (item_wants items) 200 g.order g.is_order.visits in
    let wants : item_wants to ≡ map (want_by (place_in g.order)) (item_wants items) = ap item_wants g.items_are ∙ item_wants-map (place_in g.order) items in
    let numbered : NumberAll (Numbered nodes 200 []) (map (want_by (place_in g.order)) (item_wants items)) 0 (length nodes) = subst (λ (ns : List Node). NumberAll (Numbered ns 200 []) (map (want_by (place_in g.order)) (item_wants items)) 0 (length ns)) (sym g.nodes_are) n in
    let len : length nodes ≡ length g.order = ap (λ (l : List Node). length l) g.nodes_are ∙ length-reordered loose g.order in
    let most = at_most loose (item_wants items) 200 g.order g.is_order.visits in
    let kept : All InRange nodes = subst (λ (ns : List Node). All InRange ns) (sym g.nodes_are) (reordered_kept loose g.order ranged) in
    record {
      numbered = subst (λ ws. NumberAll (Numbered nodes 200 []) ws 0 (length nodes)) (sym wants) numbered;
      joined = ap is_joined g.items_are ∙ (is_joined-map (place_in g.order) items ∙ g.is_order.joined);
      few_nodes = omega arith;
      few_parts = (let refs : refs_in to ≡ refs_in items = ap refs_in g.items_are ∙ refs_by (place_in g.order) items in rw g.nodes_are (rw refs g.is_order.few_parts));
      numbers = numbers_of nodes kept;
      units = units_of nodes kept;
      bytes = subst (λ (l : List Item). ItemsFit l) (sym g.items_are) (items_kept (place_in g.order) items fit);
    }

-- the same, where each list is seen more than once
pub graph_by : (loose l2 nodes : List Node) (items to : List Item) (order o1 o2 places p1 p2 : List ℕ) → IsOrder loose 200 items order → HasPlaces o1 0 places → o1 ≡ order → o2 ≡ order → p1 ≡ places → p2 ≡ places → l2 ≡ loose
    → nodes ≡ map (λ j. node_or_by (place_at p1) (slice_get l2 j)) o2 → to ≡ map (item_by (place_at p2)) items → IsGraphOf loose items nodes to
graph_by loose l2 nodes items to order o1 o2 places p1 p2 h p e1 e2 e3 e4 e5 n t =
    graph_of loose items order places nodes to h (subst (λ (o : List ℕ). HasPlaces o 0 places) e1 p)
    (subst (λ (o : List ℕ). nodes ≡ map (λ j. node_or_by (place_at places) (slice_get loose j)) o) e2
    (subst (λ (l : List Node). nodes ≡ map (λ j. node_or_by (place_at places) (slice_get l j)) o2) e5
    (subst (λ (q : List ℕ). nodes ≡ map (λ j. node_or_by (place_at q) (slice_get l2 j)) o2) e3 n)))
    (subst (λ (q : List ℕ). to ≡ map (item_by (place_at q)) items) e4 t)

pub few_nodes : (nodes : List Node) (items : List Item) → ∥ IsGraph nodes items ∥₁ → length nodes ≤ 65536
few_nodes nodes items h = ∥∥₁_elim h le_prop (λ g. g.few_nodes)

pub in_range : (nodes : List Node) (items : List Item) → IsGraph nodes items → All InRange nodes
in_range nodes items g = both_of nodes g.numbers g.units

pub joined_items : (nodes : List Node) (items : List Item) → ∥ IsGraph nodes items ∥₁ → is_joined items ≡ true
joined_items nodes items h = ∥∥₁_elim h (Bool-set _ _) (λ g. g.joined)
