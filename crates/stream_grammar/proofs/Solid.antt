-- Nodes that were read, and graphs that have them.
use Rattle.std.proofs.Common.{◌≡◌, ◌≢◌, ℕ, zero, suc, ◌+◌, ◌<◌, ◌≤◌, Bool, true, false, cond, List, [], ◌∷◌, ◌++◌, length, Some, Option, slice_get, refl, sym, ap, subst, ◌∙◌, append_assoc, append-nil, arith, inl, inr}
use Rattle.std.proofs.lemmas.Bool.{cases_eq}
use Rattle.std.specs.Prelude.{All}
use Rattle.std.proofs.lemmas.List.{length-append}
use Rattle.std.proofs.lemmas.List.Elements.{All-push}
use Rattle.std.proofs.lemmas.Option.{slice_get_within}
use Rattle.class_desc.specs.declared.slot.Slot.{Slot}
use Rattle.class_desc.specs.declared.slot.Slot.TheVariants as slots
use Rattle.class_desc.specs.ClassDesc.{is_good_desc}
use Rattle.ser_values.specs.declared.node.Node.{Node}
use Rattle.ser_values.specs.declared.node.Node.TheVariants.{Text, Desc, Proxy, Object, Array, Class, Enum}
use Rattle.ser_values.specs.declared.node.SlotPlace.{SlotPlace}
use Rattle.ser_values.specs.declared.node.SlotPlace.TheVariants as places
use Rattle.ser_values.specs.Node.{has, is_desc, is_text}
use Rattle.ser_values.specs.Shape.{parts_in}
use Rattle.ser_values.specs.Ranges.{InRange}
use Rattle.stream_grammar.specs.Reading.{Progress, add_parts}
use Rattle.ser_values.proofs.Lists.{slice_get-append_left, slice_get-append_seam, has-append_no, has-append_other, length_push, some_same, still_not}
use Rattle.stream_grammar.proofs.Leading.{SameAbove, SameChain, SameUp}
use Rattle.stream_grammar.proofs.Chains.{parent_of}
use Rattle.stream_grammar.proofs.PlainSound.{AreBytes}

-- ---- whole descriptions

-- the description was read
pub record IsWhole (N : List Node) (unread : List ℕ) (k : ℕ) : Type 0 where
  pub read : has unread k ≡ false
  pub node : Node
  pub is : slice_get N k ≡ Some node
  pub desc : is_desc node ≡ true

abbrev pub WholeSlot : List Node → List ℕ → Slot → Type 0
WholeSlot N unread slots.Null = Unit {0}
WholeSlot N unread (slots.Node k) = IsWhole N unread k

pub record IsTextAt (N : List Node) (s : Slot) : Type 0 where
  pub number : ℕ
  pub node : Node
  pub what : s ≡ slots.Node number
  pub is : slice_get N number ≡ Some node
  pub text : is_text node ≡ true

abbrev pub WholeIn : SlotPlace → List Node → List ℕ → Slot → Type 0
WholeIn places.Reference N unread s = Unit {0}
WholeIn places.Class N unread s = WholeSlot N unread s
WholeIn places.Parent N unread s = WholeSlot N unread s
WholeIn places.Text N unread s = IsTextAt N s

abbrev pub IsGood : Node → Type 0
IsGood (Desc d) = is_good_desc d ≡ true
IsGood _ = Unit {0}

-- What was read whole names what was read whole; unread descriptions have handles; there are not too many parts; numbers are in range.
pub record Solid (unread : List ℕ) (now : Progress) : Type 0 where
  pub above : (k : ℕ) (i : Node) → has unread k ≡ false → slice_get now.nodes k ≡ Some i → is_desc i ≡ true → WholeSlot now.nodes unread (parent_of (Some i))
  pub good : (k : ℕ) (i : Node) → has unread k ≡ false → slice_get now.nodes k ≡ Some i → IsGood i
  pub below : (k : ℕ) → has unread k ≡ true → k < length now.nodes
  pub few : now.parts ≤ 1048576
  pub ranged : All InRange now.nodes

-- ---- graphs

-- the graph has the descriptions and the texts that were read
pub record Sees (F N : List Node) (unread : List ℕ) : Type 0 where
  pub descs : (k : ℕ) (i : Node) → has unread k ≡ false → slice_get N k ≡ Some i → is_desc i ≡ true → slice_get F k ≡ Some i
  pub texts : (k : ℕ) (i : Node) → slice_get N k ≡ Some i → is_text i ≡ true → slice_get F k ≡ Some i
  pub long : length N ≤ length F

abbrev pub Agrees : List Node → List Node → ℕ → Type 0
Agrees F N from = (k : ℕ) → from ≤ k → k < length N → slice_get F k ≡ slice_get N k

above_same : (F N : List Node) (n : ℕ) (i : Node) → IsGood i → SameChain F N n (parent_of (Some i)) → SameAbove (SameChain F N n) (Some i)
above_same F N n (Desc d) g h = (g, h)
above_same F N n (Proxy p) g h = h
above_same F N n (Text t) g h = tt
above_same F N n (Object c ps) g h = tt
above_same F N n (Array c vs) g h = tt
above_same F N n (Class c) g h = tt
above_same F N n (Enum c t) g h = tt

-- the chain of a description that was read is that of the graph
pub whole_same : (F : List Node) (unread : List ℕ) (now : Progress) → Solid unread now → Sees F now.nodes unread → (s : Slot) → WholeSlot now.nodes unread s → SameUp F now.nodes s
whole_same F unread now solid sees s w zero = tt
whole_same F unread now solid sees slots.Null w (suc n) = tt
whole_same F unread now solid sees (slots.Node k) w (suc n) =
    let here = sees.descs k w.node w.read w.is w.desc in
    let above = above_same F now.nodes n w.node (solid.good k w.node w.read w.is) (whole_same F unread now solid sees (parent_of (Some w.node)) (solid.above k w.node w.read w.is w.desc) n) in
    (here ∙ sym w.is, subst (λ (o : Option Node). SameAbove (SameChain F now.nodes n) o) (sym here) above)

-- ---- what a step does

-- These nodes were added, with so many bytes left, and so many parts were counted beside theirs; and each graph that has what was read has it
-- spelled.
pub record GotBy (own : ℕ) (unread : List ℕ) (now later : Progress) (rest : List ℕ) (Spelled : List Node → Type 0) : Type 0 where
  pub added : List Node
  pub grown : later.nodes ≡ now.nodes ++ added
  pub parts : later.parts ≡ now.parts + (own + parts_in added)
  pub solid : Solid unread later
  pub left : AreBytes rest
  pub spelled : (F : List Node) → Sees F later.nodes unread → Agrees F later.nodes (length now.nodes) → Spelled F

abbrev pub Got : List ℕ → Progress → Progress → List ℕ → (List Node → Type 0) → Type 0
Got unread now later rest P = GotBy 0 unread now later rest P

pub grown_length : (N added M : List Node) → M ≡ N ++ added → length M ≡ length N + length added
grown_length N added M e = let l : length M ≡ length (N ++ added) = ap (λ (l : List Node). length l) e in simp length-append at l

pub grown_kept : (N added M : List Node) → M ≡ N ++ added → (k : ℕ) → k < length N → slice_get M k ≡ slice_get N k
grown_kept N added M e k lt = ap (λ (l : List Node). slice_get l k) e ∙ slice_get-append_left N added k lt

pub sees_front : (F N added M : List Node) (unread : List ℕ) → M ≡ N ++ added → Sees F M unread → Sees F N unread
sees_front F N added M unread e h = record {
  descs = λ k i no is d. h.descs k i no (grown_kept N added M e k (slice_get_within N k i is) ∙ is) d;
  texts = λ k i is t. h.texts k i (grown_kept N added M e k (slice_get_within N k i is) ∙ is) t;
  long = let l = grown_length N added M e in let m = h.long in omega arith;
}

pub agrees_front : (F N added M : List Node) (from : ℕ) → M ≡ N ++ added → Agrees F M from → Agrees F N from
agrees_front F N added M from e h = λ k low lt. (let l = grown_length N added M e in h k low (omega arith) ∙ grown_kept N added M e k lt)

pub parts_append : (xs ys : List Node) → parts_in (xs ++ ys) ≡ parts_in xs + parts_in ys
unfolding parts_in
parts_append [] ys = omega arith
parts_append (x ∷ xs) ys = let h = parts_append xs ys in omega arith

pub got_none : (unread : List ℕ) (now : Progress) (rest : List ℕ) (P : List Node → Type 0) → Solid unread now → AreBytes rest → ((F : List Node) → Sees F now.nodes unread → P F) → Got unread now now rest P
unfolding parts_in
got_none unread now rest P solid left f = record { added = []; grown = sym (append-nil now.nodes); parts = omega arith; solid = solid; left = left; spelled = λ F sees agrees. f F sees }

pub got_sum : {o p : ℕ} (own : ℕ) → own ≡ o + p → (unread : List ℕ) (a b c : Progress) (y z : List ℕ) (P Q R : List Node → Type 0) → GotBy o unread a b y P → GotBy p unread b c z Q → ((F : List Node) → Sees F c.nodes unread → P F → Q F → R F) → GotBy own unread a c z R
got_sum own e unread a b c y z P Q R g h f =
    let whole : c.nodes ≡ a.nodes ++ (g.added ++ h.added) = h.grown ∙ (ap (λ (l : List Node). l ++ h.added) g.grown ∙ append_assoc a.nodes g.added h.added) in
    let sum = parts_append g.added h.added in
    let more = g.parts in
    let most = h.parts in
    let le : length a.nodes ≤ length b.nodes = let l = grown_length a.nodes g.added b.nodes g.grown in omega arith in
    record {
      added = g.added ++ h.added;
      grown = whole;
      parts = omega arith;
      solid = h.solid;
      left = h.left;
      spelled = λ F sees agrees. f F sees (g.spelled F (sees_front F b.nodes h.added c.nodes unread h.grown sees) (agrees_front F b.nodes h.added c.nodes (length a.nodes) h.grown agrees)) (h.spelled F sees (λ k low lt. agrees k (omega arith) lt));
    }

pub got_two : (unread : List ℕ) (a b c : Progress) (y z : List ℕ) (P Q R : List Node → Type 0) → Got unread a b y P → Got unread b c z Q → ((F : List Node) → Sees F c.nodes unread → P F → Q F → R F) → Got unread a c z R
got_two unread a b c y z P Q R g h f = got_sum 0 (omega arith) unread a b c y z P Q R g h f

pub solid_add : (unread : List ℕ) (now : Progress) (n : ℕ) → Solid unread now → now.parts + n ≤ 1048576 → Solid unread (add_parts n now)
solid_add unread now n solid room = record { above = solid.above; good = solid.good; below = solid.below; few = room; ranged = solid.ranged }

-- parts that are counted
pub got_add : (unread : List ℕ) (now : Progress) (n : ℕ) (rest : List ℕ) → Solid unread now → now.parts + n ≤ 1048576 → AreBytes rest → GotBy n unread now (add_parts n now) rest (λ F. Unit {0})
unfolding parts_in
got_add unread now n rest solid room left = record { added = []; grown = sym (append-nil now.nodes); parts = omega arith; solid = solid_add unread now n solid room; left = left; spelled = λ F sees agrees. tt }

-- what holds in each graph that has what was read, holds of the nodes that were read
pub got_self : {own : ℕ} (unread : List ℕ) (now later : Progress) (rest : List ℕ) (P : List Node → Type 0) → GotBy own unread now later rest P → P later.nodes
got_self unread now later rest P g = g.spelled later.nodes (record { descs = λ k i gone is desc. is; texts = λ k i is t. is; long = omega arith }) (λ k low lt. refl)

pub got_map : {own : ℕ} (unread : List ℕ) (now later : Progress) (rest : List ℕ) (P Q : List Node → Type 0) → GotBy own unread now later rest P → ((F : List Node) → Sees F later.nodes unread → P F → Q F) → GotBy own unread now later rest Q
got_map unread now later rest P Q g f = record { added = g.added; grown = g.grown; parts = g.parts; solid = g.solid; left = g.left; spelled = λ F sees agrees. f F sees (g.spelled F sees agrees) }

-- ---- a place that is kept free

pub was_no : (unread : List ℕ) (k j : ℕ) (d : Bool) → has (cond d (unread ++ k ∷ []) unread) j ≡ false → has unread j ≡ false
was_no unread k j true h = (has-append_no unread k j h).0
was_no unread k j false h = h

not_it : (unread : List ℕ) (k j : ℕ) → has (cond true (unread ++ k ∷ []) unread) j ≡ false → j ≢ k
not_it unread k j h = (has-append_no unread k j h).1

-- node n is free while it is read
pub record Free (unread : List ℕ) (now mid : Progress) (j : Node) (d : Bool) : Type 0 where
  pub grown : mid.nodes ≡ now.nodes ++ j ∷ []
  pub kind : is_desc j ≡ d
  pub few : mid.parts ≤ 1048576
  pub ranged : InRange j

abbrev pub Within : List ℕ → ℕ → Bool → List ℕ
Within unread k d = cond d (unread ++ k ∷ []) unread

-- what is no free place
pub not_free : (unread : List ℕ) (k z : ℕ) (j i : Node) (N : List Node) (d : Bool) → is_desc j ≡ d → slice_get N k ≡ Some j → has (Within unread k d) z ≡ false → slice_get N z ≡ Some i → is_desc i ≡ true → z ≢ k
not_free unread k z j i N true e at h is desc = not_it unread k z h
not_free unread k z j i N false e at h is desc = λ same. (
    let one : i ≡ j = some_same i j (sym is ∙ (ap (slice_get N) same ∙ at)) in
    let no_desc : is_desc i ≡ false = ap is_desc one ∙ e in
    absurd cc)

pub free_at : (unread : List ℕ) (now mid : Progress) (j : Node) (d : Bool) → Free unread now mid j d → slice_get mid.nodes (length now.nodes) ≡ Some j
free_at unread now mid j d f = ap (λ (l : List Node). slice_get l (length now.nodes)) f.grown ∙ slice_get-append_seam now.nodes j []

pub good_none : (i : Node) → is_desc i ≡ false → IsGood i
unfolding is_desc
good_none (Desc d) h = absurd cc
good_none (Proxy p) h = tt
good_none (Text t) h = tt
good_none (Object c ps) h = tt
good_none (Array c vs) h = tt
good_none (Class c) h = tt
good_none (Enum c t) h = tt

pub free_solid : (unread : List ℕ) (now mid : Progress) (j : Node) (d : Bool) → Solid unread now → Free unread now mid j d → Solid (Within unread (length now.nodes) d) mid
free_solid unread now mid j d solid f =
    let n = length now.nodes in
    let len : length mid.nodes ≡ suc n = ap (λ (l : List Node). length l) f.grown ∙ length_push now.nodes j in
    let at = free_at unread now mid j d f in
    let old : (z : ℕ) (i : Node) → slice_get mid.nodes z ≡ Some i → z ≢ n → slice_get now.nodes z ≡ Some i = λ z i is ne. (let lt = slice_get_within mid.nodes z i is in sym (grown_kept now.nodes (j ∷ []) mid.nodes f.grown z (omega arith)) ∙ is) in
    let carry : (s : Slot) → WholeSlot now.nodes unread s → WholeSlot mid.nodes (Within unread n d) s = carried n at old in
    record {
      above = λ z i gone is desc. (
          let ne = not_free unread n z j i mid.nodes d f.kind at gone is desc in
          carry (parent_of (Some i)) (solid.above z i (was_no unread n z d gone) (old z i is ne) desc));
      good = λ z i gone is. good_at n z i (was_no unread n z d gone) is gone old at;
      below = λ z h. below_at n z len d h;
      few = f.few;
      ranged = subst (λ (l : List Node). All InRange l) (sym f.grown) (All-push InRange now.nodes j solid.ranged f.ranged);
    }
  where
    carried : (n : ℕ) → slice_get mid.nodes (length now.nodes) ≡ Some j → ((z : ℕ) (i : Node) → slice_get mid.nodes z ≡ Some i → z ≢ n → slice_get now.nodes z ≡ Some i) → (s : Slot) → WholeSlot now.nodes unread s → WholeSlot mid.nodes (Within unread (length now.nodes) d) s
    carried n at old slots.Null w = tt
    carried n at old (slots.Node q) w =
        let lt = slice_get_within now.nodes q w.node w.is in
        record { read = still_not unread (length now.nodes) q d w.read (λ same. omega arith); node = w.node; is = grown_kept now.nodes (j ∷ []) mid.nodes f.grown q lt ∙ w.is; desc = w.desc }

    good_at : (n z : ℕ) (i : Node) → has unread z ≡ false → slice_get mid.nodes z ≡ Some i → has (Within unread (length now.nodes) d) z ≡ false → ((z : ℕ) (i : Node) → slice_get mid.nodes z ≡ Some i → z ≢ n → slice_get now.nodes z ≡ Some i) → slice_get mid.nodes (length now.nodes) ≡ Some j → IsGood i
    good_at n z i gone is inside_no old at = go (is_desc i) refl
      where
        go : (b : Bool) → is_desc i ≡ b → IsGood i
        go false e = good_none i e
        go true e =
            let ne = not_free unread (length now.nodes) z j i mid.nodes d f.kind at inside_no is e in
            solid.good z i gone (let lt = slice_get_within mid.nodes z i is in let len : length mid.nodes ≡ suc (length now.nodes) = ap (λ (l : List Node). length l) f.grown ∙ length_push now.nodes j in sym (grown_kept now.nodes (j ∷ []) mid.nodes f.grown z (omega arith)) ∙ is)

    below_at : (n z : ℕ) → length mid.nodes ≡ suc (length now.nodes) → (d : Bool) → has (Within unread (length now.nodes) d) z ≡ true → z < length mid.nodes
    below_at n z len false h = let lt : z < length now.nodes = solid.below z h in omega arith
    below_at n z len true h = elim (cases_eq z (length now.nodes)) [
      | inl same ↦ omega arith
      | inr ne ↦ go (has unread z) refl ne
    ]
      where
        go : (b : Bool) → has unread z ≡ b → z ≢ length now.nodes → z < length mid.nodes
        go true e ne = let lt : z < length now.nodes = solid.below z e in omega arith
        go false e ne = absurd (let no_one : has (unread ++ length now.nodes ∷ []) z ≡ false = has-append_other unread (length now.nodes) z e ne in cc)
