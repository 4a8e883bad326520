-- Numbers stay in range: in lists, under new numbers, and where a reference is written over.
use Rattle.std.proofs.Common.{◌≡◌, ℕ, zero, suc, ◌<◌, ◌^◌, Bool, true, false, List, [], ◌∷◌, ◌++◌, map, length, take, drop, Option, Some, None, slice_get, refl, sym, ap, subst, arith, get_or}
use Rattle.std.specs.Prelude.{All, option_map, slice_set}
use Rattle.std.proofs.lemmas.List.Elements.{All-nil, All-cons, All-head, All-tail, All-append, All-set, All-map, All-weaker}
use Rattle.mod_utf.proofs.Fronts.{AreUnits}
use Rattle.class_desc.specs.declared.slot.Slot.{Slot}
use Rattle.class_desc.specs.declared.slot.Slot.TheVariants as slots
use Rattle.class_desc.specs.declared.slot.Item.{Item}
use Rattle.class_desc.specs.declared.slot.Item.TheVariants as items
use Rattle.ser_values.specs.declared.value.Value.{Value}
use Rattle.ser_values.specs.declared.value.Value.TheVariants as values
use Rattle.ser_values.specs.declared.value.Values.{Values}
use Rattle.ser_values.specs.declared.value.Values.TheVariants as kinds
use Rattle.ser_values.specs.declared.value.Part.{Part}
use Rattle.ser_values.specs.declared.node.Node.{Node}
use Rattle.ser_values.specs.declared.node.Node.TheVariants.{Text, Desc, Proxy, Object, Array, Class, Enum}
use Rattle.ser_values.specs.Builder.{put, value_to, slot_to, values_to, part_to, node_to, with_reference, or_none}
use Rattle.ser_values.specs.Fronts.{put_block}
use Rattle.ser_values.specs.Ranges.{ValueFits, ElementsFit, ItemFits, ItemsFit, PartFits, NumbersFit, TextFits, NameFits, UnitsFit, InRange}
use Rattle.ser_values.specs.Renumber.{Renaming, item_by, field_by, value_by, part_by, values_by, node_by, place_in, node_or_by, reordered}
use Rattle.ser_values.proofs.Lists.{some_same}

-- ---- lists

pub numbers_of : (nodes : List Node) → All InRange nodes → NumbersFit nodes
numbers_of nodes h = λ k d lt. (h k d lt).0

pub units_of : (nodes : List Node) → All InRange nodes → UnitsFit nodes
units_of nodes h = λ k d lt. (h k d lt).1

pub both_of : (nodes : List Node) → NumbersFit nodes → UnitsFit nodes → All InRange nodes
both_of nodes h g = λ k d lt. (h k d lt, g k d lt)

pub all_at : {X : Type 0} (P : X → Type 0) (xs : List X) → All P xs → (k : ℕ) (x : X) → slice_get xs k ≡ Some x → P x
all_at P [] h k x e = absurd cc
all_at P (y ∷ xs) h zero x e = subst P (some_same y x e) (h zero y (omega arith))
all_at P (y ∷ xs) h (suc k) x e = all_at P xs (All-tail P y xs h) k x e

pub units_all : (us : List ℕ) → AreUnits us → TextFits us
units_all [] h = All-nil (λ u. u < 2 ^ 16)
units_all (u ∷ us) h = All-cons (λ u. u < 2 ^ 16) u us h.0 (units_all us h.1)

-- Bytes that are in range, each at its place, are so all together.
pub all_fit : (bs : List ℕ) → ((i : ℕ) → get_or bs i 0 < 256) → All (λ x. x < 2 ^ 8) bs
all_fit [] h = All-nil (λ x. x < 2 ^ 8)
all_fit (b ∷ bs) h = All-cons (λ x. x < 2 ^ 8) b bs (h 0) (all_fit bs (λ i. h (suc i)))

-- ---- items

-- bytes before items, which join those that they begin with
pub block_fits : (b : List ℕ) (is : List Item) → All (λ x. x < 2 ^ 8) b → ItemsFit is → ItemsFit (put_block b is)
block_fits [] is p h = h
block_fits (x ∷ b) [] p h = All-cons ItemFits (items.Bytes (x ∷ b)) [] p h
block_fits (x ∷ b) (items.Bytes q ∷ is) p h = All-cons ItemFits (items.Bytes ((x ∷ b) ++ q)) is (All-append (λ x. x < 2 ^ 8) (x ∷ b) q p (All-head ItemFits (items.Bytes q) is h)) (All-tail ItemFits (items.Bytes q) is h)
block_fits (x ∷ b) (items.Ref s ∷ is) p h = All-cons ItemFits (items.Bytes (x ∷ b)) (items.Ref s ∷ is) p h

-- ---- under new numbers

item_kept : (f : Renaming) (i : Item) → ItemFits i → ItemFits (item_by f i)
item_kept f (items.Bytes b) h = h
item_kept f (items.Ref s) h = h

pub items_kept : (f : Renaming) (is : List Item) → ItemsFit is → ItemsFit (map (item_by f) is)
items_kept f is h = All-map ItemFits (item_by f) is (All-weaker ItemFits (λ i. ItemFits (item_by f i)) (item_kept f) is h)

value_kept : (f : Renaming) (v : Value) → ValueFits v → ValueFits (value_by f v)
value_kept f (values.Byte v) h = h
value_kept f (values.Char v) h = h
value_kept f (values.Double v) h = h
value_kept f (values.Float v) h = h
value_kept f (values.Int v) h = h
value_kept f (values.Long v) h = h
value_kept f (values.Short v) h = h
value_kept f (values.Boolean v) h = h
value_kept f (values.Ref s) h = h

part_kept : (f : Renaming) (p : Part) → PartFits p → PartFits (part_by f p)
part_kept f p h = (All-map ValueFits (value_by f) p.values (All-weaker ValueFits (λ v. ValueFits (value_by f v)) (value_kept f) p.values h.0), items_kept f p.note h.1)

elements_kept : (f : Renaming) (vs : Values) → ElementsFit vs → ElementsFit (values_by f vs)
elements_kept f (kinds.Bytes v) h = h
elements_kept f (kinds.Chars v) h = h
elements_kept f (kinds.Doubles v) h = h
elements_kept f (kinds.Floats v) h = h
elements_kept f (kinds.Ints v) h = h
elements_kept f (kinds.Longs v) h = h
elements_kept f (kinds.Shorts v) h = h
elements_kept f (kinds.Bools v) h = h
elements_kept f (kinds.Refs v) h = h

pub node_kept : (f : Renaming) (i : Node) → InRange i → InRange (node_by f i)
unfolding node_by
node_kept f (Text t) h = h
node_kept f (Desc d) h = ((h.0.0, items_kept f d.note h.0.1), (h.1.0, All-map NameFits (field_by f) d.fields h.1.1))
node_kept f (Proxy p) h = (items_kept f p.note h.0, h.1)
node_kept f (Object c ps) h = (All-map PartFits (part_by f) ps (All-weaker PartFits (λ p. PartFits (part_by f p)) (part_kept f) ps h.0), tt)
node_kept f (Array c vs) h = (elements_kept f vs h.0, tt)
node_kept f (Class c) h = h
node_kept f (Enum c t) h = h

pub or_kept : (f : Renaming) (loose : List Node) → All InRange loose → (j : ℕ) → InRange (node_or_by f (slice_get loose j))
or_kept f loose h j = go (slice_get loose j) refl
  where
    go : (o : Option Node) → slice_get loose j ≡ o → InRange (node_or_by f o)
    go None e = (tt, All-nil _)
    go (Some i) e = node_kept f i (all_at InRange loose h j i e)

-- The nodes of an order are in range where the loose nodes are.
pub reordered_kept : (loose : List Node) (order : List ℕ) → All InRange loose → All InRange (reordered loose order)
unfolding reordered
reordered_kept loose order h = All-map InRange (λ j. node_or_by (place_in order) (slice_get loose j)) order (λ k d lt. or_kept (place_in order) loose h _)

-- ---- where a reference is written over

pub put_kept : {A : Type 0} (P : A → Type 0) (xs ys : List A) (k : ℕ) (x : Option A) → put xs k x ≡ Some ys → ((y : A) → x ≡ Some y → P y) → All P xs → All P ys
put_kept P xs ys k None e f h = absurd cc
put_kept P xs ys k (Some x) e f h = subst (λ (l : List _). All P l) (some_same (slice_set xs k x) ys e) (All-set P xs k x (f x refl) h)

value_put : (to : Slot) (o : Option Value) (v : Value) → value_to to o ≡ Some v → ValueFits v
value_put to (Some (values.Ref s)) v e = subst ValueFits (some_same (values.Ref to) v e) tt
value_put to _ v e = absurd cc

part_put : (place : ℕ) (to : Slot) (o : Option Part) (q : Part) → ((p : Part) → o ≡ Some p → PartFits p) → part_to place to o ≡ Some q → PartFits q
part_put place to None q f e = absurd cc
part_put place to (Some p) q f e = go (values_to p.values place to) refl e
  where
    go : (r : Option (List Value)) → values_to p.values place to ≡ r → option_map (λ vs. record p { values = vs }) r ≡ Some q → PartFits q
    go None is e = absurd cc
    go (Some vs) is e =
        let made : Part = record p { values = vs } in
        let whole = f p refl in
        subst PartFits (some_same made q e) (put_kept ValueFits p.values vs place (value_to to (slice_get p.values place)) is (value_put to (slice_get p.values place)) whole.0, whole.1)

node_put : (part place : ℕ) (to : Slot) (o : Option Node) (j : Node) → ((i : Node) → o ≡ Some i → InRange i) → node_to part place to o ≡ Some j → InRange j
node_put part place to (Some (Object c ps)) j f e = go (put ps part (part_to place to (slice_get ps part))) refl e
  where
    go : (r : Option (List Part)) → put ps part (part_to place to (slice_get ps part)) ≡ r → option_map (λ qs. Object c qs) r ≡ Some j → InRange j
    go None is e = absurd cc
    go (Some qs) is e =
        let whole = f (Object c ps) refl in
        let fits = put_kept PartFits ps qs part (part_to place to (slice_get ps part)) is (λ q. part_put place to (slice_get ps part) q (all_at PartFits ps whole.0 part)) whole.0 in
        subst InRange (some_same (Object c qs) j e) (fits, tt)
node_put zero place to (Some (Array c (kinds.Refs ss))) j f e = go (put ss place (slot_to to (slice_get ss place))) e
  where
    go : (r : Option (List Slot)) → option_map (λ ts. Array c (kinds.Refs ts)) r ≡ Some j → InRange j
    go None e = absurd cc
    go (Some ts) e = subst InRange (some_same (Array c (kinds.Refs ts)) j e) (tt, tt)
node_put part place to _ j f e = absurd cc

-- Loose nodes stay in range where one reference is written over.
pub reference_kept : (loose new : List Node) (node : Slot) (part place : ℕ) (to : Slot) → with_reference loose node part place to ≡ Some new → All InRange loose → All InRange new
reference_kept loose new slots.Null part place to e h = absurd cc
reference_kept loose new (slots.Node k) part place to e h = put_kept InRange loose new k (node_to part place to (slice_get loose k)) e (λ j. node_put part place to (slice_get loose k) j (all_at InRange loose h k)) h

-- so too where it is told whether that was done
pub set_kept : (loose new : List Node) (done : Bool) (node : Slot) (part place : ℕ) (to : Slot) → with_reference loose node part place to ≡ or_none done (Some new) → (done ≡ false → new ≡ loose) → All InRange loose → All InRange new
set_kept loose new true node part place to e f h = reference_kept loose new node part place to e h
set_kept loose new false node part place to e f h = subst (λ (l : List Node). All InRange l) (sym (f refl)) h

-- a slice that was written back whole
pub written_back : {X : Type 0} (ys items : List X) (n : ℕ) → length ys ≡ length items → n ≡ length ys → take n (ys ++ drop (length ys) items) ≡ ys
written_back ys items n e f = subst (λ k. take k (ys ++ drop (length ys) items) ≡ ys) (sym f) (go ys items e)
  where
    go : {X : Type 0} (ys items : List X) → length ys ≡ length items → take (length ys) (ys ++ drop (length ys) items) ≡ ys
    go [] items e = refl
    go (y ∷ ys) [] e = absurd (omega arith)
    go (y ∷ ys) (x ∷ items) e = ap (λ (l : List _). y ∷ l) (go ys items (omega arith))
