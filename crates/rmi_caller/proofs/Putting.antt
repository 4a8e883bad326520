-- The items of arguments, as they are put one after the other.
use Rattle.std.proofs.Common.{◌≡◌, ◌≤◌, ◌<◌, ◌+◌, ◌∙◌, ℕ, Bool, List, [], ◌∷◌, ◌++◌, length, take, get_or, refl, sym, ap, subst, append_assoc, append-nil}
use Rattle.std.specs.Prelude.{ℤ}
use Rattle.std.proofs.lemmas.List.{take_all, take_more}
use Rattle.class_desc.specs.declared.slot.Slot.{Slot}
use Rattle.class_desc.specs.declared.slot.Slot.TheVariants as slots
use Rattle.class_desc.specs.declared.slot.Item.{Item}
use Rattle.class_desc.specs.declared.slot.Item.TheVariants as items
use Rattle.ser_values.specs.declared.node.Node.{Node}
use Rattle.ser_values.specs.declared.value.Value.TheVariants as values
use Rattle.ser_values.specs.Finished.{IsGraphOf}
use Rattle.ser_write.specs.Canonical.{value_bytes}
use Rattle.stream_grammar.specs.Spelled.{joined}
use Rattle.java_shapes.specs.Put.{Grows}
use Rattle.java_shapes.specs.Proxies.{ProxyAt}
use Rattle.java_shapes.proofs.Growth.{class_grown, node_grown, text_grown}
use Rattle.rmi_caller.specs.declared.argument.Argument.{Argument}
use Rattle.rmi_caller.specs.declared.argument.Argument.TheVariants.{Boolean, Byte, Char, Short, Int, Long, Null, Text, Remote}
use Rattle.rmi_caller.specs.declared.arguments.Draft.{Draft}
use Rattle.rmi_caller.specs.Arguments.{AddsItem, AreSent, HasPut, IsSent, before_items}

-- ---- what is sent stays so as more is put

proxy_grown : {n : ℕ} {a b : List Node} (g : Grows n a b) (interface bytes : List ℕ) (s : Slot) → ProxyAt a interface bytes s → ProxyAt b interface bytes s
proxy_grown g interface bytes s h = record {
  class = h.class;
  handler = h.handler;
  own = record { proxy = h.own.proxy; above = class_grown g h.own.above; is = node_grown g h.class _ h.own.is };
  handler_is = record {
    remote_object = h.handler_is.remote_object;
    class = h.handler_is.class;
    above = class_grown g h.handler_is.above;
    own = class_grown g h.handler_is.own;
    is = node_grown g h.handler _ h.handler_is.is;
  };
  is = node_grown g s _ h.is;
}

sent_grown : {n : ℕ} {a b : List Node} (g : Grows n a b) (x : Argument) (i : Item) → IsSent a x i → IsSent b x i
sent_grown g (Boolean value) i h = h
sent_grown g (Byte value) i h = h
sent_grown g (Char value) i h = h
sent_grown g (Short value) i h = h
sent_grown g (Int value) i h = h
sent_grown g (Long value) i h = h
sent_grown g Null i h = h
sent_grown g (Text text) i (s, is, at) = (s, is, text_grown g s _ at)
sent_grown g (Remote interface reference) i (s, is, at) = (s, is, proxy_grown g _ _ s at)

are_grown : {n : ℕ} {a b : List Node} (g : Grows n a b) (xs : List Argument) (is : List Item) → AreSent a xs is → AreSent b xs is
are_grown g [] [] h = tt
are_grown g [] (i ∷ is) h = h
are_grown g (x ∷ xs) [] h = h
are_grown g (x ∷ xs) (i ∷ is) h = (sent_grown g x i h.0, are_grown g xs is h.1)

are_more : (loose : List Node) (xs : List Argument) (is : List Item) (x : Argument) (i : Item) → AreSent loose xs is → IsSent loose x i → AreSent loose (xs ++ x ∷ []) (is ++ i ∷ [])
are_more loose [] [] x i h one = (one, tt)
are_more loose [] (j ∷ is) x i h one = absurd h
are_more loose (y ∷ xs) [] x i h one = absurd h
are_more loose (y ∷ xs) (j ∷ is) x i h one = (h.0, are_more loose xs is x i h.1 one)

pub put_step : {n : ℕ} (arguments : List Argument) (k : ℕ) (x : Argument) (old new : Draft) → k < length arguments → x ≡ get_or arguments k x → Grows n old.builder new.builder
    → HasPut old (take k arguments) → AddsItem old new (IsSent new.builder x) → HasPut new (take (k + 1) arguments)
put_step arguments k x old new less is g (sent, are, rest) (item, one, turn) =
    let front : take (k + 1) arguments ≡ take k arguments ++ x ∷ [] = take_more arguments k x less ∙ ap (λ (y : Argument). take k arguments ++ y ∷ []) (sym is) in (
      sent ++ item ∷ [],
      subst (λ (l : List Argument). AreSent new.builder l (sent ++ item ∷ [])) (sym front) (are_more new.builder (take k arguments) sent x item (are_grown g (take k arguments) sent are) one),
      λ (more : List Item). turn more ∙ rest (item ∷ more) ∙ ap joined (sym (append_assoc sent (item ∷ []) more)),
    )

pub put_none : (arguments : List Argument) (draft : Draft) → draft.items ≡ [] → draft.run ≡ [] → HasPut draft (take 0 arguments)
put_none arguments draft no_items none = ([], tt, λ (more : List Item). rw (no_items, none) refl)

-- ---- one argument

pub add_boolean : (old new : Draft) (x : Argument) (v : Bool) → x ≡ Boolean v → ((more : List Item) → before_items new (joined more) ≡ before_items old (joined (items.Bytes (value_bytes (values.Boolean v)) ∷ more))) → AddsItem old new (IsSent new.builder x)
add_boolean old new x v is turn = (items.Bytes (value_bytes (values.Boolean v)), rw is refl, turn)

pub add_byte : (old new : Draft) (x : Argument) (v : ℕ) → x ≡ Byte v → ((more : List Item) → before_items new (joined more) ≡ before_items old (joined (items.Bytes (value_bytes (values.Byte v)) ∷ more))) → AddsItem old new (IsSent new.builder x)
add_byte old new x v is turn = (items.Bytes (value_bytes (values.Byte v)), rw is refl, turn)

pub add_char : (old new : Draft) (x : Argument) (v : ℕ) → x ≡ Char v → ((more : List Item) → before_items new (joined more) ≡ before_items old (joined (items.Bytes (value_bytes (values.Char v)) ∷ more))) → AddsItem old new (IsSent new.builder x)
add_char old new x v is turn = (items.Bytes (value_bytes (values.Char v)), rw is refl, turn)

pub add_short : (old new : Draft) (x : Argument) (v w : ℤ) → x ≡ Short v → w ≡ v → ((more : List Item) → before_items new (joined more) ≡ before_items old (joined (items.Bytes (value_bytes (values.Short w)) ∷ more))) → AddsItem old new (IsSent new.builder x)
add_short old new x v w is same turn = (items.Bytes (value_bytes (values.Short w)), rw (is, same) refl, turn)

pub add_int : (old new : Draft) (x : Argument) (v w : ℤ) → x ≡ Int v → w ≡ v → ((more : List Item) → before_items new (joined more) ≡ before_items old (joined (items.Bytes (value_bytes (values.Int w)) ∷ more))) → AddsItem old new (IsSent new.builder x)
add_int old new x v w is same turn = (items.Bytes (value_bytes (values.Int w)), rw (is, same) refl, turn)

pub add_long : (old new : Draft) (x : Argument) (v w : ℤ) → x ≡ Long v → w ≡ v → ((more : List Item) → before_items new (joined more) ≡ before_items old (joined (items.Bytes (value_bytes (values.Long w)) ∷ more))) → AddsItem old new (IsSent new.builder x)
add_long old new x v w is same turn = (items.Bytes (value_bytes (values.Long w)), rw (is, same) refl, turn)

pub add_null : (old new : Draft) (x : Argument) → x ≡ Null → ((more : List Item) → before_items new more ≡ before_items old (items.Ref slots.Null ∷ more)) → AddsItem old new (IsSent new.builder x)
add_null old new x is turn = (items.Ref slots.Null, rw is refl, λ (more : List Item). turn (joined more))

pub add_same : (old new : Draft) (x y : Argument) → x ≡ y → AddsItem old new (IsSent new.builder y) → AddsItem old new (IsSent new.builder x)
add_same old new x y is added = subst (λ (z : Argument). AddsItem old new (IsSent new.builder z)) (sym is) added

-- A text or a proxy is referred to.
pub add_ref : (old new : Draft) (s : Slot) (Is : Item → Type 0) → Is (items.Ref s) → ((more : List Item) → before_items new more ≡ before_items old (items.Ref s ∷ more)) → AddsItem old new Is
add_ref old new s Is one turn = (items.Ref s, one, λ (more : List Item). turn (joined more))

-- ---- the graph

pub put_end : (arguments : List Argument) (k : ℕ) (draft : Draft) (loose : List Node) (is to : List Item) (nodes : List Node) → length arguments ≤ k → HasPut draft (take k arguments)
    → loose ≡ draft.builder → is ≡ before_items draft [] → IsGraphOf loose is nodes to → (b : List Node) × (sent : List Item) × AreSent b arguments sent × IsGraphOf b (joined sent) nodes to
put_end arguments k draft loose is to nodes past (sent, are, rest) loose_is items_are graph = (
  draft.builder,
  sent,
  subst (λ (l : List Argument). AreSent draft.builder l sent) (take_all k arguments past) are,
  subst (λ (l : List Item). IsGraphOf draft.builder l nodes to) (items_are ∙ rest [] ∙ ap joined (append-nil sent)) (subst (λ (b : List Node). IsGraphOf b is nodes to) loose_is graph),
)
