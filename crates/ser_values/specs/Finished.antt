-- What a list of loose nodes is as a graph: the nodes that the items reach, under new numbers.
use Rattle.std.specs.Prelude.{◌≡◌, ℕ, ◌+◌, ◌≤◌, true, List, [], ◌∷◌, map, Option, Some, None, slice_get}
use Rattle.class_desc.specs.declared.slot.Item.{Item}
use Rattle.ser_values.specs.declared.node.Node.{Node}
use Rattle.ser_values.specs.declared.fault.BuildFault.{BuildFault}
use Rattle.ser_values.specs.declared.fault.BuildFault.TheVariants.{OutOfMemory, TooManyNodes, WrongShape, TooDeep}
use Rattle.ser_values.specs.declared.limits.TheConstants.{LEVELS, PARTS}
use Rattle.ser_values.specs.Node.{item_wants}
use Rattle.ser_values.specs.Shape.{is_joined, refs_in, parts_of, parts_in}
use Rattle.ser_values.specs.Visits.{VisitAll, Visits}
use Rattle.ser_values.specs.Renumber.{place_in, item_by, reordered}

-- When the items are written in order, these loose nodes get handles, in this order, at most so many levels deep; and the rules of graphs are kept.
pub record IsOrder (loose : List Node) (depth : ℕ) (items : List Item) (order : List ℕ) : Type 0 where
  pub visits : VisitAll (Visits loose depth []) (item_wants items) [] order
  pub joined : is_joined items ≡ true
  pub few_parts : parts_in (reordered loose order) + refs_in items ≤ PARTS

-- The graph of what the items reach, the rest dropped: each node's number is its place in the order.
pub record IsGraphOf (loose : List Node) (items : List Item) (nodes : List Node) (to : List Item) : Type 0 where
  pub order : List ℕ
  pub is_order : IsOrder loose LEVELS items order
  pub nodes_are : nodes ≡ reordered loose order
  pub items_are : to ≡ map (item_by (place_in order)) items

-- The items and what they reach keep the rules of graphs, however deep.
abbrev pub HasShape : List Node → List Item → Type 0
HasShape loose items = (depth : ℕ) × (order : List ℕ) × IsOrder loose depth items order

-- Why there is no graph: a rule is broken, or else it is too deep. Want of memory may stand in place of any answer.
abbrev pub IsRefusal : List Node → List Item → BuildFault → Type 0
IsRefusal loose items WrongShape = ¬ HasShape loose items
IsRefusal loose items TooDeep = HasShape loose items × ((order : List ℕ) → ¬ IsOrder loose LEVELS items order)
IsRefusal loose items TooManyNodes = ⊥
IsRefusal loose items OutOfMemory = Unit {0}

-- ---- along an order

abbrev pub parts_or : Option Node → ℕ
parts_or None = 0
parts_or (Some i) = parts_of i

unfoldable pub parts_at : List Node → List ℕ → ℕ
parts_at loose [] = 0
parts_at loose (j ∷ js) = parts_or (slice_get loose j) + parts_at loose js
