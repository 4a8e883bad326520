-- The same as a walk, with the number of its steps.
use Rattle.std.specs.Prelude.{◌≡◌, ℕ, zero, suc, Bool, true, false, ◌&&◌, not, nat_eq, List, [], ◌∷◌, ◌++◌, map, reverse, Option, Some, None, Result, Ok, Err, slice_get, if◌then◌else◌}
use Rattle.std.specs.declared.alloc.AllocError.{AllocError}
use Rattle.class_desc.specs.declared.slot.Slot.{Slot}
use Rattle.class_desc.specs.declared.slot.Slot.TheVariants as slots
use Rattle.ser_values.specs.declared.node.Node.{Node}
use Rattle.ser_values.specs.declared.node.SlotPlace.{SlotPlace}
use Rattle.ser_values.specs.declared.walking.Task.{Task}
use Rattle.ser_values.specs.declared.walking.Task.TheVariants as tasks
use Rattle.ser_values.specs.Node.{has, Want, before, after, is_desc, admits, admits_null, takes, inside}
use Rattle.ser_values.specs.Shape.{is_shaped}

-- it stops, it ends with an order, or it takes a step
pub data Walk : Type 0 where
  stop : Walk
  ends : List ℕ → Walk
  tick : Walk → Walk

infixl 10 ◌>>=◌
abbrev pub ◌>>=◌ : Walk → (List ℕ → Walk) → Walk
stop >>= f = stop
(ends o) >>= f = f o
(tick w) >>= f = tick (w >>= f)

abbrev pub Walking : Type 0
Walking = List ℕ → Want → List ℕ → Walk

unfoldable pub steps_of : Walk → ℕ
steps_of stop = 0
steps_of (ends o) = 0
steps_of (tick w) = suc (steps_of w)

unfoldable pub end_of : Walk → Option (List ℕ)
end_of stop = None
end_of (ends o) = Some o
end_of (tick w) = end_of w

unfoldable pub all : (Want → List ℕ → Walk) → List Want → List ℕ → Walk
all one [] order = ends order
all one (w ∷ ws) order = one w order >>= all one ws

abbrev pub leave : Bool → List ℕ → Walk
leave true order = tick (ends order)
leave false order = ends order

-- the handle, and what stands after it
abbrev pub number_item : Walking → List ℕ → ℕ → List ℕ → Option Node → Walk
number_item inner unread j order None = stop
number_item inner unread j order (Some i) = if has order j then stop else tick (all (inner (inside unread j i)) (after i) (order ++ j ∷ []) >>= leave (is_desc i))

abbrev pub number : List Node → Walking → List ℕ → ℕ → List ℕ → Walk
number nodes inner unread j order = number_item inner unread j order (slice_get nodes j)

abbrev pub is_new : List Node → ℕ → SlotPlace → Node → Bool
is_new nodes left place i = not (nat_eq left 0) && (admits place i && is_shaped nodes i)

abbrev pub check : Bool → List ℕ → Walk
check true order = tick (ends order)
check false order = stop

abbrev pub visit_item : List Node → ℕ → Walking → List ℕ → SlotPlace → ℕ → List ℕ → Option Node → Walk
visit_item nodes left inner unread place j order None = stop
visit_item nodes left inner unread place j order (Some i) = if has order j then check (takes place (has unread j) i) order else
    (if is_new nodes left place i then tick (all (inner unread) (before i) order >>= number nodes inner unread j) else stop)

abbrev pub visit_slot : List Node → ℕ → Walking → List ℕ → SlotPlace → Slot → List ℕ → Walk
visit_slot nodes left inner unread place slots.Null order = check (admits_null place) order
visit_slot nodes left inner unread place (slots.Node j) order = visit_item nodes left inner unread place j order (slice_get nodes j)

abbrev pub nowhere : Walking
nowhere unread w order = stop

unfoldable pub visit_at : List Node → ℕ → Walking
visit_at nodes zero unread w order = visit_slot nodes zero nowhere unread w.0 w.1 order
visit_at nodes (suc d) unread w order = visit_slot nodes (suc d) (visit_at nodes d) unread w.0 w.1 order

-- ---- tasks, the next first

abbrev pub front : List ℕ → List ℕ
front [] = []
front (x ∷ []) = []
front (x ∷ y ∷ xs) = x ∷ front (y ∷ xs)

abbrev pub wanted : ℕ → List Want → List Task
wanted d ws = map (λ w. tasks.Visit w.0 w.1 d) ws

-- a description is left behind when it is read
abbrev pub closing : Bool → List Task → List Task
closing true ts = tasks.Close ∷ ts
closing false ts = ts

unfoldable pub run : List Node → List Task → List ℕ → List ℕ → Walk
run nodes [] unread order = ends order
run nodes (tasks.Visit place slot d ∷ ts) unread order = visit_at nodes d unread (place, slot) order >>= run nodes ts unread
run nodes (tasks.Number j d ∷ ts) unread order = number nodes (visit_at nodes d) unread j order >>= run nodes ts unread
run nodes (tasks.Close ∷ ts) unread order = tick (run nodes ts (front unread) order)

-- a stack's last is the next
abbrev pub stacked : List Task → List Task
stacked ts = reverse ts

-- a step was taken, or the walk stops there, unless memory ran out
abbrev pub Steps : Result Bool AllocError → Walk → Walk → Type 0
Steps (Ok true) whole rest = whole ≡ tick rest
Steps (Ok false) whole rest = whole ≡ stop
Steps (Err e) whole rest = Unit {0}
