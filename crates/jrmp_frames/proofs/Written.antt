-- Calls and returns as they are written.
use Rattle.std.proofs.Common.{◌≡◌, ℕ, ◌+◌, ◌<◌, ◌≤◌, Bool, true, List, [], ◌∷◌, ◌++◌, length, map, get_or, Result, Ok, Err, refl, sym, ap, subst, ◌∙◌, append-nil, suc, arith}
use Rattle.std.proofs.Math.Logic.{∥∥₁_map, ∥∥₁_elim, ∥∥₁_prop}
use Rattle.std.specs.Prelude.{OnOk}
use Rattle.std.specs.List.{AllByRecursion}
use Rattle.std.proofs.lemmas.List.Elements.{All-nil}
use Rattle.ser_values.proofs.FrontLaws.{later_joined, put_apart}
use Rattle.object_ids.specs.declared.ids.Uid.{Uid}
use Rattle.class_desc.specs.declared.field.TypeCode.{TypeCode}
use Rattle.class_desc.specs.declared.slot.Item.{Item}
use Rattle.class_desc.specs.declared.slot.Item.TheVariants as items
use Rattle.ser_values.specs.declared.node.Node.{Node}
use Rattle.ser_values.specs.declared.graph.Graph.{Graph}
use Rattle.ser_values.specs.Numbered.{IsGraph}
use Rattle.ser_values.specs.Ranges.{NumbersFit, UnitsFit, NodeFits, UnitsFitIn}
use Rattle.ser_values.specs.Shape.{joined_from, is_joined, refs_in, parts_in}
use Rattle.ser_values.specs.Node as node
use Rattle.ser_values.specs.Node.{item_wants}
use Rattle.stream_grammar.proofs.Spelling.{joined_wants}
use Rattle.stream_grammar.specs.Spelled.{joined, Spells, SpellsBlocks}
use Rattle.ser_values.specs.Fronts.{put_block}
use Rattle.ser_write.proofs.Streams.{bytes_full}
use Rattle.ser_write.specs.Canonical.{blocks, write_items, contents, value_bytes, IsFull, SpellFully}
use Rattle.ser_read.specs.declared.serving.Want.{Want}
use Rattle.ser_read.specs.declared.serving.Want.TheVariants as wanted
use Rattle.stream_grammar.specs.Faults.{AreBytes}
use Rattle.ser_read.specs.SpelledWants.{Fits, IsSome, EndsFull, SpellsWants}
use Rattle.jrmp_frames.specs.declared.head.CallHead.{CallHead}
use Rattle.jrmp_frames.specs.declared.message.Body.{Body}
use Rattle.jrmp_frames.specs.declared.message.Body.TheVariants.{Void, Prim, Tree}
use Rattle.jrmp_frames.specs.Messages.{head_bytes, return_front, wants_of, args_of, items_of, nodes_of, want_for, call_message, return_message, CallBytes, ReturnBytes}

-- ---- bytes

pub all_bytes : (bs : List ℕ) → ((i : ℕ) → get_or bs i 0 < 256) → AreBytes bs
all_bytes [] h = tt
all_bytes (b ∷ bs) h = (h 0, all_bytes bs (λ i. h (suc i)))

-- ---- blocks

full_is : (i : Item) → IsFull i → IsSome i
full_is (items.Bytes []) h = absurd h
full_is (items.Bytes (b ∷ p)) h = tt
full_is (items.Ref s) h = tt

ends_full : (is : List Item) → AllByRecursion IsFull is → EndsFull is
ends_full [] h = tt
ends_full (i ∷ []) h = full_is i h.0
ends_full (i ∷ j ∷ is) h = ends_full (j ∷ is) h.1

-- Items that are joined stay so.
joined_own : (is : List Item) → is_joined is ≡ true → joined is ≡ is
unfolding joined_from
joined_own [] h = refl
joined_own (items.Ref s ∷ is) h = ap (λ (l : List Item). items.Ref s ∷ l) (joined_own is h)
joined_own (items.Bytes [] ∷ is) h = absurd cc
joined_own (items.Bytes (x ∷ b) ∷ is) h = ap (put_block (x ∷ b)) (joined_own is (later_joined is h)) ∙ put_apart (x ∷ b) is refl h

-- ---- what is spelled

-- what of the nodes of a graph is known, with what its items are answered as
pub record Nodes (nodes : List Node) (answers : List Item) : Type 0 where
  pub numbers : NumbersFit nodes
  pub units : UnitsFit nodes
  pub few : parts_in nodes + refs_in answers ≤ 1048576

block_wants : (b : List ℕ) (is : List Item) → item_wants (items.Bytes b ∷ is) ≡ item_wants is
unfolding item_wants
block_wants b is = refl

-- behind bytes of a head
pub of_graph : (nodes : List Node) (is answers : List Item) (head : List ℕ) → IsGraph nodes is → item_wants is ≡ item_wants answers → Nodes nodes (items.Bytes head ∷ answers)
of_graph nodes is answers head g same =
    let few = g.few_parts in
    let refs : refs_in is ≡ refs_in (items.Bytes head ∷ answers) = ap (λ (l : List node.Want). length l) (same ∙ sym (block_wants head answers)) in
    record { numbers = g.numbers; units = g.units; few = omega arith }

no_nodes : (answers : List Item) → item_wants answers ≡ [] → Nodes [] answers
unfolding parts_in
no_nodes answers none = let refs : refs_in answers ≡ 0 = ap (λ (l : List node.Want). length l) none in record { numbers = All-nil NodeFits; units = All-nil UnitsFitIn; few = omega arith }

spelled_asked : (ws : List Want) (answers : List Item) (nodes : List Node) (is : List Item) (bytes : List ℕ) → AreBytes bytes → Fits ws answers → joined answers ≡ is → Nodes nodes answers → SpellFully nodes is bytes → SpellsWants ws answers nodes bytes
spelled_asked ws answers nodes is bytes range fits same known s = record {
  are_bytes = range;
  fits = fits;
  blocks = s.blocks;
  spelled = subst (λ (b : List ℕ). SpellsBlocks (Spells nodes 200 []) s.blocks 0 b [] (length nodes)) (append-nil bytes) (s.spelled []);
  full = ends_full s.blocks s.full;
  same = same ∙ s.same;
  numbers = known.numbers;
  units = known.units;
  few_parts = known.few;
}

-- ---- calls

head_long : (head : CallHead) → length (head_bytes head) ≡ 34
unfolding head_bytes
head_long head = refl

pub call_spelled : (head : CallHead) (graph : Graph) (params : List TypeCode) (answers : List Item) (bytes : List ℕ) → AreBytes bytes → bytes ≡ call_message head graph → Fits (wants_of params) answers → graph.items ≡ joined answers
    → ∥ SpellFully graph.nodes (put_block (head_bytes head) graph.items) (contents graph.nodes (put_block (head_bytes head) graph.items)) ∥₁ → ∥ CallBytes head params (record { graph = graph; values = args_of params answers }) bytes ∥₁
call_spelled head graph params answers bytes range is fits same spelled =
    let inside : AreBytes (contents graph.nodes (put_block (head_bytes head) graph.items)) = (subst AreBytes is range).1.1.1.1.1 in
    ∥∥₁_elim graph.numbered ∥∥₁_prop (λ g. ∥∥₁_map spelled (λ s. record {
      contents = contents graph.nodes (put_block (head_bytes head) graph.items);
      headed = is;
      answers = answers;
      asked = spelled_asked (wanted.Bytes 34 ∷ wants_of params) (items.Bytes (head_bytes head) ∷ answers) graph.nodes (put_block (head_bytes head) graph.items) (contents graph.nodes (put_block (head_bytes head) graph.items))
          inside (head_long head, fits) (ap (put_block (head_bytes head)) (sym same)) (of_graph graph.nodes graph.items answers (head_bytes head) g (ap item_wants same ∙ joined_wants answers)) s;
      items = same;
      values = refl;
    }))

-- ---- returns

front_long : (normal : Bool) (uid : Uid) → length (return_front normal uid) ≡ 15
unfolding return_front
front_long normal uid = refl

pub front_some : (normal : Bool) (uid : Uid) → 0 < length (return_front normal uid)
front_some normal uid = let h = front_long normal uid in omega (arith, h)

pub void_written : (front : List ℕ) → 0 < length front → contents [] (put_block front []) ≡ blocks front
unfolding contents write_items
void_written [] some = absurd (omega arith)
void_written (x ∷ front) some = append-nil (blocks (x ∷ front))

pub prim_written : (front v : List ℕ) → 0 < length front → contents [] (put_block front (items.Bytes v ∷ [])) ≡ blocks (front ++ v)
unfolding contents write_items
prim_written [] v some = absurd (omega arith)
prim_written (x ∷ front) v some = append-nil (blocks (x ∷ front ++ v))

pub on_ok : {A E : Type 0} (result : Result A E) {P : Type 0} → P → OnOk result P
on_ok (Ok x) h = h
on_ok (Err e) h = tt

pub void_full : (front : List ℕ) → 0 < length front → ∥ SpellFully [] (put_block front []) (contents [] (put_block front [])) ∥₁
void_full [] some = absurd (omega arith)
void_full (x ∷ front) some = ∣ subst (λ (b : List ℕ). SpellFully [] (items.Bytes (x ∷ front) ∷ []) b) (sym (void_written (x ∷ front) some)) (bytes_full (x ∷ front) some) ∣₁

pub prim_full : (front v : List ℕ) → 0 < length front → ∥ SpellFully [] (put_block front (items.Bytes v ∷ [])) (contents [] (put_block front (items.Bytes v ∷ []))) ∥₁
prim_full [] v some = absurd (omega arith)
prim_full (x ∷ front) v some = ∣ subst (λ (b : List ℕ). SpellFully [] (items.Bytes (x ∷ front ++ v) ∷ []) b) (sym (prim_written (x ∷ front) v some)) (bytes_full (x ∷ front ++ v) (omega arith)) ∣₁

fits_own : (is : List Item) → Fits (map want_for is) is
fits_own [] = tt
fits_own (items.Bytes b ∷ is) = (refl, fits_own is)
fits_own (items.Ref s ∷ is) = fits_own is

prim_joined : (front v : List ℕ) → 0 < length front → put_block front (put_block v []) ≡ put_block front (items.Bytes v ∷ [])
prim_joined [] v some = absurd (omega arith)
prim_joined (x ∷ front) [] some = ap (λ (l : List ℕ). items.Bytes (x ∷ l) ∷ []) (sym (append-nil front))
prim_joined (x ∷ front) (y ∷ v) some = refl

with_nodes : (normal : Bool) (uid : Uid) (body : Body) (bytes : List ℕ) → AreBytes bytes → bytes ≡ return_message normal uid body → put_block (return_front normal uid) (joined (items_of body)) ≡ put_block (return_front normal uid) (items_of body) → Nodes (nodes_of body) (items.Bytes (return_front normal uid) ∷ items_of body)
    → SpellFully (nodes_of body) (put_block (return_front normal uid) (items_of body)) (contents (nodes_of body) (put_block (return_front normal uid) (items_of body))) → ReturnBytes normal uid body bytes
with_nodes normal uid body bytes range is same known s =
    let front = return_front normal uid in
    let inside : AreBytes (contents (nodes_of body) (put_block front (items_of body))) = (subst AreBytes is range).1.1.1.1.1 in
    record {
      contents = contents (nodes_of body) (put_block front (items_of body));
      headed = is;
      asked = spelled_asked (wanted.Bytes 15 ∷ map want_for (items_of body)) (items.Bytes front ∷ items_of body) (nodes_of body) (put_block front (items_of body)) (contents (nodes_of body) (put_block front (items_of body)))
          inside (front_long normal uid, fits_own (items_of body)) same known s;
    }

pub return_spelled : (normal : Bool) (uid : Uid) (body : Body) (bytes : List ℕ) → AreBytes bytes → bytes ≡ return_message normal uid body
    → ∥ SpellFully (nodes_of body) (put_block (return_front normal uid) (items_of body)) (contents (nodes_of body) (put_block (return_front normal uid) (items_of body))) ∥₁ → ∥ ReturnBytes normal uid body bytes ∥₁
unfolding item_wants
return_spelled normal uid Void bytes range is spelled = ∥∥₁_map spelled (λ s. with_nodes normal uid Void bytes range is refl (no_nodes _ refl) s)
return_spelled normal uid (Prim v) bytes range is spelled = ∥∥₁_map spelled (λ s. with_nodes normal uid (Prim v) bytes range is (prim_joined (return_front normal uid) (value_bytes v) (front_some normal uid)) (no_nodes _ refl) s)
return_spelled normal uid (Tree graph) bytes range is spelled =
    ∥∥₁_elim graph.numbered ∥∥₁_prop (λ g. ∥∥₁_map spelled (λ s. with_nodes normal uid (Tree graph) bytes range is (ap (put_block (return_front normal uid)) (joined_own graph.items g.joined)) (of_graph graph.nodes graph.items graph.items (return_front normal uid) g refl) s))
