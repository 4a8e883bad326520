-- Objects, arrays, classes and enum constants that are read are spelled.
use Rattle.std.proofs.Common.{◌≡◌, ◌||◌, ◌&&◌, ℕ, zero, suc, ◌+◌, ◌<◌, ◌≤◌, ◌^◌, Bool, true, false, eqb, ltb, List, [], ◌∷◌, ◌++◌, map, length, Some, None, Option, Ok, slice_get, refl, sym, ap, subst, ◌∙◌, arith}
use Rattle.std.proofs.lemmas.Bool.{lt-ltb, ltb-true, ltb-false, and_parts}
use Rattle.std.proofs.lemmas.List.{length-set}
use Rattle.std.proofs.lemmas.List.Elements.{All-nil}
use Rattle.std.specs.Int.{w32, to_be_bytes}
use Rattle.class_desc.specs.declared.slot.Slot.{Slot}
use Rattle.class_desc.specs.declared.slot.Slot.TheVariants as slots
use Rattle.class_desc.specs.declared.field.TypeCode.{TypeCode}
use Rattle.class_desc.specs.declared.desc.ClassDesc.{ClassDesc}
use Rattle.class_desc.specs.ClassDesc.{has_flag}
use Rattle.class_desc.specs.TypeText.{is_nil}
use Rattle.ser_values.specs.declared.value.Value.{Value}
use Rattle.ser_values.specs.declared.value.Values.{Values}
use Rattle.ser_values.specs.declared.value.Values.TheVariants as kinds
use Rattle.ser_values.specs.declared.value.Part.{Part}
use Rattle.ser_values.specs.declared.node.Node.{Node}
use Rattle.ser_values.specs.declared.node.Node.TheVariants.{Text, Desc, Proxy, Object, Array, Class, Enum}
use Rattle.ser_values.specs.declared.node.SlotPlace.TheVariants as places
use Rattle.ser_values.specs.Node.{is_desc, is_text, inside}
use Rattle.ser_values.specs.Shape.{is_joined, is_shaped, fits_chain, fits_object, fit_values, fits_array, fit_elements, count_of, is_enum, sizes_in, parts_of}
use Rattle.ser_values.specs.Ranges.{PartFits}
use Rattle.stream_grammar.specs.Spelled.{Token, want, note, number, value_token, element_tokens, part_tokens, writers, Form, an_object, an_external, an_array, a_class, an_enum, SpellsAll, Spelling}
use Rattle.stream_grammar.specs.Reading.{too_many, ◌>>=◌, size_at, Progress, add_parts, Step, Slots, push, fill, elements_at, parts_at, Row, chain_of, rows_of, sizes_of, refs_among, class_fault, on_class, with_class, object_after, object_at, type_in, array_of, array_at, class_at, named, enum_at}
use Rattle.ser_values.proofs.Lists.{length_push, slice_get-append_seam}
use Rattle.stream_grammar.proofs.Leading.{SameUp}
use Rattle.stream_grammar.proofs.Parted.{writes}
use Rattle.stream_grammar.proofs.Chains.{rows, rows_write}
use Rattle.stream_grammar.proofs.Objects.{chain_rows, chain_same}
use Rattle.stream_grammar.proofs.PlainSound.{AreBytes, bind_ok, passed, guarded, ok_is, number_sound_32, size_sound, unless_ok}
use Rattle.stream_grammar.proofs.Solid.{WholeSlot, Solid, Sees, Got, got_two, grown_length, sees_front, whole_same, Free, free_solid}
use Rattle.stream_grammar.proofs.Filled.{got_filled, got_pushed}
use Rattle.stream_grammar.proofs.StepSound.{IsSound, spells_last}
use Rattle.stream_grammar.proofs.FieldSound.{elements_sound}
use Rattle.stream_grammar.proofs.NoteSound.{FitRows, parts_sound}
use Rattle.stream_grammar.proofs.Varieties.{elements_of}
use Rattle.stream_grammar.proofs.Sizes.{sizes_len, values_len, elements_own}
use Rattle.stream_grammar.proofs.ClassSound.{chain_fits, ClassFine, external, chained, class_fine}
use Rattle.stream_grammar.proofs.NodeSound.{FreshAs, GotNode, filled_here}

-- ---- a class first

-- what a graph has of a node whose class was read before it
pub record AfterAs (F : List Node) (S : Spelling) (unread : List ℕ) (c n code : ℕ) (bs rest : List ℕ) (m : ℕ) (i : Node) : Type 0 where
  pub is : slice_get F n ≡ Some i
  pub shaped : is_shaped F i ≡ true
  pub afters : List Token
  pub form : Form F i code (want (places.Class, slots.Node c) ∷ []) afters
  pub second : SpellsAll (S (inside unread n i)) afters (suc n) bs rest m

pub record GotAfter (S : List Node → Spelling) (unread : List ℕ) (c : ℕ) (now : Progress) (code : ℕ) (bs : List ℕ) (y : Slot × Progress × List ℕ) : Type 0 where
  pub node : Node
  pub what : y.0 ≡ slots.Node (length now.nodes)
  pub here : slice_get y.1.nodes (length now.nodes) ≡ Some node
  pub desc : is_desc node ≡ (eqb code 0x72 || eqb code 0x7D)
  pub text : is_text node ≡ (eqb code 0x74 || eqb code 0x7C)
  pub got : Got unread now y.1 y.2 (λ F. AfterAs F (S F) unread c (length now.nodes) code bs y.2 (length y.1.nodes) node)

abbrev pub AfterClass : (List Node → Spelling) → List ℕ → ℕ → (ℕ → Step Slot) → Type 0
AfterClass S unread code f = (c : ℕ) (now : Progress) (bs : List ℕ) (y : Slot × Progress × List ℕ) → f c now bs ≡ Ok y → WholeSlot now.nodes unread (slots.Node c) → Solid unread now → AreBytes bs → GotAfter S unread c now code bs y

on_class_ok : (at : ℕ) (f : ℕ → Step Slot) (c : Slot × Progress × List ℕ) (y : Slot × Progress × List ℕ) → on_class at f c ≡ Ok y → (k : ℕ) × (c.0 ≡ slots.Node k) × (length c.1.nodes < 65536) × (f k c.1 c.2 ≡ Ok y)
on_class_ok at f (slots.Null, now, bs) y e = absurd cc
on_class_ok at f (slots.Node k, now, bs) y e = let p = passed (ltb (length now.nodes) 65536) (f k now bs) (too_many at) y e in (k, refl, ltb-true _ _ p.0, p.1)

pub class_node : (S : List Node → Spelling) (inner : Slots) → IsSound S inner → (unread : List ℕ) (at code : ℕ) (f : ℕ → Step Slot) → AfterClass S unread code f → (now : Progress) (bs : List ℕ) (y : Slot × Progress × List ℕ) → with_class inner unread at f now bs ≡ Ok y → Solid unread now → AreBytes bs → GotNode S unread now code bs y
unfolding with_class
class_node S inner sound unread at code f after now bs y e solid bytes =
    let a = bind_ok (inner places.Class unread now bs) (on_class at f) y e in
    let c = a.0 in
    let o = on_class_ok at f c y a.2 in
    let g = sound unread places.Class now bs c a.1 solid bytes in
    let h = after o.0 c.1 c.2 y o.3 (subst (λ (s : Slot). WholeSlot c.1.nodes unread s) o.1 g.whole) g.got.solid g.got.left in
    let low = grown_length now.nodes g.got.added c.1.nodes g.got.grown in
    record {
      k = length c.1.nodes;
      node = h.node;
      what = h.what;
      low = omega arith;
      few = o.2;
      here = h.here;
      desc = h.desc;
      text = h.text;
      got = got_two unread now c.1 y.1 c.2 y.2 _ _ (λ F. FreshAs F (S F) unread (length now.nodes) code bs y.2 (length y.1.nodes) (length c.1.nodes) h.node) g.got h.got (λ F sees p q. record {
        is = q.is;
        shaped = q.shaped;
        befores = want (places.Class, slots.Node o.0) ∷ [];
        afters = q.afters;
        form = q.form;
        middle = c.2;
        first = spells_last (S F unread) (want (places.Class, slots.Node o.0)) (length now.nodes) bs c.2 (length c.1.nodes) (subst (λ (s : Slot). S F unread (places.Class, s) (length now.nodes) bs c.2 (length c.1.nodes)) o.1 p);
        second = q.second;
      });
    }

-- what is seen of the nodes before the place that is kept free
seen_before : (F : List Node) (unread : List ℕ) (now mid last : Progress) (j : Node) (added : List Node) → mid.nodes ≡ now.nodes ++ j ∷ [] → last.nodes ≡ mid.nodes ++ added → Sees F last.nodes unread → Sees F now.nodes unread
seen_before F unread now mid last j added e f sees = sees_front F now.nodes (j ∷ []) mid.nodes unread e (sees_front F mid.nodes added last.nodes unread f sees)

-- ---- objects

record ObjectAs (F : List Node) (c : ℕ) (ps : List Part) (ts : List Token) : Type 0 where
  shaped : fits_object (slice_get F c) ps (fits_chain F ps (length ps) (slots.Node c)) ≡ true
  form : Form F (Object c ps) 0x73 (want (places.Class, slots.Node c) ∷ []) ts

nil_values : (vs : List Value) → fit_values [] vs ≡ true → vs ≡ []
unfolding fit_values
nil_values [] h = refl
nil_values (v ∷ vs) h = absurd cc

external_as : (F : List Node) (c : ℕ) (d : ClassDesc) (ps : List Part) → slice_get F c ≡ Some (Desc d) → has_flag d.flags 4 ≡ true → ((p : Part) (chained : Bool) → p.values ≡ [] → is_joined p.note ≡ true → fits_object (slice_get F c) (p ∷ []) chained ≡ true) → FitRows (([], true) ∷ []) ps
    → ObjectAs F c ps (part_tokens (true ∷ []) ps)
unfolding part_tokens
external_as F c d (p ∷ []) is four fine fit =
    let a = and_parts (fit_values [] p.values) _ fit.0 in
    let none = nil_values p.values a.0 in
    let tokens : note p.note ∷ [] ≡ map value_token p.values ++ (note p.note ∷ []) = ap (λ (vs : List Value). map value_token vs ++ (note p.note ∷ [])) (sym none) in
    record {
      shaped = fine p (fits_chain F (p ∷ []) 1 (slots.Node c)) none a.1;
      form = subst (λ (ts : List Token). Form F (Object c (p ∷ [])) 0x73 (want (places.Class, slots.Node c) ∷ []) ts) tokens (an_external c p d is four none);
    }
external_as F c d [] is four fine fit = absurd fit
external_as F c d (p ∷ q ∷ ps) is four fine fit = absurd fit.1

chained_as : (F N : List Node) (c : ℕ) (ps : List Part) (rs : List Row) → SameUp F N (slots.Node c) → length ps ≤ 1048576 → chain_of 1048576 N (slots.Node c) ≡ (rs, true) → ((ps : List Part) → fits_object (slice_get F c) ps true ≡ true) → FitRows rs ps → ObjectAs F c ps (part_tokens (writes rs) ps)
chained_as F N c ps rs up few chain fine fit =
    let whole : chain_of 1048576 F (slots.Node c) ≡ (rs, true) = chain_same F N 1048576 (slots.Node c) (up 1048576) ∙ chain in
    let fits = chain_fits F 1048576 (slots.Node c) rs whole ps fit in
    let same : rows F (length ps) (slots.Node c) ≡ rs = ap (λ (x : List Row × Bool). x.0) (sym (chain_rows F ps (length ps) 1048576 (slots.Node c) few fits) ∙ whole) in
    let wrote : writers F (length ps) (slots.Node c) ≡ writes rs = rows_write F (length ps) (slots.Node c) ∙ ap (λ (r : List Row). writes r) same in
    record {
      shaped = subst (λ (b : Bool). fits_object (slice_get F c) ps b ≡ true) (sym fits) (fine ps);
      form = subst (λ (ws : List Bool). Form F (Object c ps) 0x73 (want (places.Class, slots.Node c) ∷ []) (part_tokens ws ps)) wrote (an_object c ps fits);
    }

pair_is : (x : List Row × Bool) → x.1 ≡ true → x ≡ (x.0, true)
pair_is (l, b) e = ap (λ (z : Bool). (l, z)) e

object_as : (F N : List Node) (c : ℕ) (ps : List Part) → SameUp F N (slots.Node c) → length ps ≤ 1048576 → ClassFine (slice_get N c) (chain_of 1048576 N (slots.Node c)).1 → FitRows (rows_of (slice_get N c) (chain_of 1048576 N (slots.Node c)).0) ps
    → ObjectAs F c ps (part_tokens (writes (rows_of (slice_get N c) (chain_of 1048576 N (slots.Node c)).0)) ps)
object_as F N c ps up few (external d is four fine) fit =
    let one = up (suc zero) in
    let row : rows_of (slice_get N c) (chain_of 1048576 N (slots.Node c)).0 ≡ ([], true) ∷ [] = rw is (rw four refl) in
    let fine2 : (p : Part) (chained : Bool) → p.values ≡ [] → is_joined p.note ≡ true → fits_object (slice_get F c) (p ∷ []) chained ≡ true = λ p b none joined. subst (λ (i : Option Node). fits_object i (p ∷ []) b ≡ true) (sym one.0) (fine p b none joined) in
    subst (λ (rs : List Row). ObjectAs F c ps (part_tokens (writes rs) ps)) (sym row) (external_as F c d ps (one.0 ∙ is) four fine2 (subst (λ (rs : List Row). FitRows rs ps) row fit))
object_as F N c ps up few (chained serial fine keeps) fit =
    let one = up (suc zero) in
    let chain = chain_of 1048576 N (slots.Node c) in
    let row : rows_of (slice_get N c) chain.0 ≡ chain.0 = keeps chain.0 in
    subst (λ (rs : List Row). ObjectAs F c ps (part_tokens (writes rs) ps)) (sym row)
    (chained_as F N c ps chain.0 up few (pair_is chain serial) (λ ps. subst (λ (i : Option Node). fits_object i ps true ≡ true) (sym one.0) (fine ps)) (subst (λ (rs : List Row). FitRows rs ps) row fit))

fit_sizes : (rs : List Row) (ps : List Part) → FitRows rs ps → sizes_of rs ≡ sizes_in ps
unfolding sizes_of sizes_in
fit_sizes [] [] h = refl
fit_sizes (r ∷ rs) (p ∷ ps) h = let one = values_len r.0 p.values (and_parts (fit_values r.0 p.values) ((r.1 || is_nil p.note) && is_joined p.note) h.0).0 in let more = fit_sizes rs ps h.1 in omega arith
fit_sizes [] (p ∷ ps) h = absurd h
fit_sizes (r ∷ rs) [] h = absurd h

pub object_node : (S : List Node → Spelling) (inner : Slots) → IsSound S inner → (unread : List ℕ) (end at : ℕ) → AfterClass S unread 0x73 (object_at end at (inner places.Reference unread))
unfolding object_at object_after is_desc is_text is_shaped
object_node S inner sound unread end at c now bs y e class solid bytes =
    let n = length now.nodes in
    let one = inner places.Reference unread in
    let rs = rows_of (slice_get now.nodes c) (chain_of 1048576 now.nodes (slots.Node c)).0 in
    let a = guarded (ltb 1048576 (now.parts + sizes_of rs)) (too_many at) _ y e in
    let b = unless_ok (class_fault (slice_get now.nodes c) (chain_of 1048576 now.nodes (slots.Node c)).1) at _ y a.1 in
    let mid : Progress = record { nodes = now.nodes ++ Object c [] ∷ []; parts = now.parts + sizes_of rs } in
    let d = bind_ok (parts_at end one rs mid bs) (λ ps. Ok (slots.Node n, fill ps.1 n (Object c ps.0), ps.2)) y b.1 in
    let ps = d.0 in
    let room : now.parts + sizes_of rs ≤ 1048576 = ltb-false 1048576 (now.parts + sizes_of rs) a.0 in
    let free : Free unread now mid (Object c []) false = record { grown = refl; kind = refl; few = room; ranged = (All-nil PartFits, tt) } in
    let g = parts_sound S inner sound unread end rs mid bs ps d.1 (free_solid unread now mid (Object c []) false solid free) bytes in
    let sizes : sizes_of rs ≡ sizes_in ps.0 = fit_sizes rs ps.0 g.fit in
    let lens = sizes_len ps.0 in
    let mid_len : length mid.nodes ≡ suc n = length_push now.nodes (Object c []) in
    let len : length (fill ps.1 n (Object c ps.0)).nodes ≡ length ps.1.nodes = length-set ps.1.nodes n (Object c ps.0) in
    let fine = class_fine (slice_get now.nodes c) (chain_of 1048576 now.nodes (slots.Node c)).1 b.0 in
    subst (λ (y : Slot × Progress × List ℕ). GotAfter S unread c now 0x73 bs y) (ok_is (slots.Node n, fill ps.1 n (Object c ps.0), ps.2) y d.2) (record {
      node = Object c ps.0;
      what = refl;
      here = filled_here now mid ps.1 g.got.added (Object c ps.0) (Object c []) refl g.got.grown;
      desc = refl;
      text = refl;
      got = got_filled unread now mid ps.1 ps.2 _ _ (Object c ps.0) (Object c []) false solid refl refl free g.got (λ no. absurd cc) tt (g.ranged, tt) (omega arith) (λ F sees is q. (
          let up = whole_same F unread now solid (seen_before F unread now mid ps.1 (Object c []) g.got.added refl g.got.grown sees) (slots.Node c) class in
          let o = object_as F now.nodes c ps.0 up (omega arith) fine g.fit in
          record { is = is; shaped = o.shaped; afters = part_tokens (writes rs) ps.0; form = o.form; second = rw len (rw (sym mid_len) q) }));
    })

-- ---- arrays, classes and enums

array_shaped : (i : Option Node) (code : TypeCode) (vs : Values) → type_in i ≡ Some code → fit_elements vs (Some code) ≡ true → count_of vs < 2 ^ 31 → fits_array i vs ≡ true
array_shaped (Some (Desc d)) code vs e fit few = let f : ltb (count_of vs) (2 ^ 31) ≡ true = lt-ltb _ _ few in rw e (rw fit f)
array_shaped (Some (Text t)) code vs e fit few = absurd cc
array_shaped (Some (Proxy p)) code vs e fit few = absurd cc
array_shaped (Some (Object c ps)) code vs e fit few = absurd cc
array_shaped (Some (Array c w)) code vs e fit few = absurd cc
array_shaped (Some (Class c)) code vs e fit few = absurd cc
array_shaped (Some (Enum c t)) code vs e fit few = absurd cc
array_shaped None code vs e fit few = absurd cc

array_by : (S : List Node → Spelling) (inner : Slots) → IsSound S inner → (unread : List ℕ) (end at c : ℕ) (o : Option TypeCode) (now : Progress) (bs : List ℕ) (y : Slot × Progress × List ℕ) → type_in (slice_get now.nodes c) ≡ o → array_of end at (inner places.Reference unread) c o now bs ≡ Ok y
    → WholeSlot now.nodes unread (slots.Node c) → Solid unread now → AreBytes bs → GotAfter S unread c now 0x75 bs y
unfolding array_of is_desc is_text is_shaped
array_by S inner sound unread end at c None now bs y is_type e class solid bytes = absurd cc
array_by S inner sound unread end at c (Some code) now bs y is_type e class solid bytes =
    let n = length now.nodes in
    let begun = push now (Array c (kinds.Bytes [])) in
    let a = bind_ok (size_at end w32 (2 ^ 31) bs) _ y e in
    let own = refs_among code a.0.0 in
    let mid = add_parts own begun in
    let count = guarded (ltb 1048576 (begun.parts + own)) (too_many at) _ y a.2 in
    let limit : begun.parts + own ≤ 1048576 = ltb-false 1048576 (begun.parts + own) count.0 in
    let b = bind_ok (elements_at (inner places.Reference unread) code a.0.0 mid a.0.1) (λ vs. Ok (slots.Node n, fill vs.1 n (Array c vs.0), vs.2)) y count.1 in
    let vs = b.0 in
    let size = size_sound end w32 (2 ^ 31) (2 ^ 32) number_sound_32 bs a.0 a.1 bytes in
    let free : Free unread now mid (Array c (kinds.Bytes [])) false = record { grown = refl; kind = refl; few = limit; ranged = (All-nil _, tt) } in
    let g = elements_sound S inner sound unread code a.0.0 mid a.0.1 vs b.1 (free_solid unread now mid (Array c (kinds.Bytes [])) false solid free) size.left in
    let below = size.below in
    let same : own ≡ parts_of (Array c vs.0) = ap (λ k. refs_among code k) (sym g.count) ∙ elements_own c code vs.0 (elements_of vs.0 (Some code) g.fit) in
    let few : count_of vs.0 < 2 ^ 31 = rw g.count below in
    let begins : bs ≡ to_be_bytes w32 (count_of vs.0) ++ a.0.1 = size.parts ∙ ap (λ k. to_be_bytes w32 k ++ a.0.1) (sym g.count) in
    let mid_len : length mid.nodes ≡ suc n = length_push now.nodes (Array c (kinds.Bytes [])) in
    let len : length (fill vs.1 n (Array c vs.0)).nodes ≡ length vs.1.nodes = length-set vs.1.nodes n (Array c vs.0) in
    subst (λ (y : Slot × Progress × List ℕ). GotAfter S unread c now 0x75 bs y) (ok_is (slots.Node n, fill vs.1 n (Array c vs.0), vs.2) y b.2) (record {
      node = Array c vs.0;
      what = refl;
      here = filled_here now mid vs.1 g.got.added (Array c vs.0) (Array c (kinds.Bytes [])) refl g.got.grown;
      desc = refl;
      text = refl;
      got = got_filled unread now mid vs.1 vs.2 _ _ (Array c vs.0) (Array c (kinds.Bytes [])) false solid refl refl free g.got (λ no. absurd cc) tt (g.ranged, tt) (omega arith) (λ F sees is q. (
          let up = whole_same F unread now solid (seen_before F unread now mid vs.1 (Array c (kinds.Bytes [])) g.got.added refl g.got.grown sees) (slots.Node c) class in
          record {
            is = is;
            shaped = subst (λ (i : Option Node). fits_array i vs.0 ≡ true) (sym (up (suc zero)).0) (array_shaped (slice_get now.nodes c) code vs.0 is_type g.fit few);
            afters = number w32 (count_of vs.0) ∷ element_tokens vs.0;
            form = an_array c vs.0;
            second = (a.0.1, suc n, (begins, refl), rw len (rw (sym mid_len) q));
          }));
    })

pub array_node : (S : List Node → Spelling) (inner : Slots) → IsSound S inner → (unread : List ℕ) (end at : ℕ) → AfterClass S unread 0x75 (array_at end at (inner places.Reference unread))
unfolding array_at
array_node S inner sound unread end at c now bs y e class solid bytes = array_by S inner sound unread end at c (type_in (slice_get now.nodes c)) now bs y refl e class solid bytes

pub class_of_node : (S : List Node → Spelling) (unread : List ℕ) → AfterClass S unread 0x76 class_at
unfolding class_at is_desc is_text is_shaped
class_of_node S unread c now bs y e class solid bytes =
    subst (λ (y : Slot × Progress × List ℕ). GotAfter S unread c now 0x76 bs y) (ok_is (slots.Node (length now.nodes), push now (Class c), bs) y e) (record {
      node = Class c;
      what = refl;
      here = slice_get-append_seam now.nodes (Class c) [];
      desc = refl;
      text = refl;
      got = got_pushed unread now bs _ (Class c) solid refl refl (tt, tt) bytes (λ F sees is. record { is = is; shaped = refl; afters = []; form = a_class c; second = (refl, length_push now.nodes (Class c)) });
    })

named_ok : (c n : ℕ) (v : Slot × Progress × List ℕ) (y : Slot × Progress × List ℕ) → named c n v ≡ Ok y → (t : ℕ) × (v.0 ≡ slots.Node t) × ((slots.Node n, fill v.1 n (Enum c t), v.2) ≡ y)
named_ok c n (slots.Null, now, bs) y e = absurd cc
named_ok c n (slots.Node t, now, bs) y e = (t, refl, ok_is (slots.Node n, fill now n (Enum c t), bs) y e)

pub enum_node : (S : List Node → Spelling) (inner : Slots) → IsSound S inner → (unread : List ℕ) (at : ℕ) → AfterClass S unread 0x7E (enum_at at (inner places.Text unread))
unfolding enum_at is_desc is_text is_shaped
enum_node S inner sound unread at c now bs y e class solid bytes =
    let n = length now.nodes in
    let mid = push now (Enum c 0) in
    let a = passed (is_enum (slice_get now.nodes c)) (inner places.Text unread mid bs >>= named c n) _ y e in
    let b = bind_ok (inner places.Text unread mid bs) (named c n) y a.1 in
    let t = named_ok c n b.0 y b.2 in
    let free : Free unread now mid (Enum c 0) false = record { grown = refl; kind = refl; few = solid.few; ranged = (tt, tt) } in
    let g = sound unread places.Text mid bs b.0 b.1 (free_solid unread now mid (Enum c 0) false solid free) bytes in
    let mid_len : length mid.nodes ≡ suc n = length_push now.nodes (Enum c 0) in
    let last = b.0.1 in
    let len : length (fill last n (Enum c t.0)).nodes ≡ length last.nodes = length-set last.nodes n (Enum c t.0) in
    subst (λ (y : Slot × Progress × List ℕ). GotAfter S unread c now 0x7E bs y) t.2 (record {
      node = Enum c t.0;
      what = refl;
      here = filled_here now mid last g.got.added (Enum c t.0) (Enum c 0) refl g.got.grown;
      desc = refl;
      text = refl;
      got = got_filled unread now mid last b.0.2 _ _ (Enum c t.0) (Enum c 0) false solid refl refl free g.got (λ no. absurd cc) tt (tt, tt) (omega arith) (λ F sees is q. (
          let up = whole_same F unread now solid (seen_before F unread now mid last (Enum c 0) g.got.added refl g.got.grown sees) (slots.Node c) class in
          record {
            is = is;
            shaped = ap (λ (i : Option Node). is_enum i) (up (suc zero)).0 ∙ a.0;
            afters = want (places.Text, slots.Node t.0) ∷ [];
            form = an_enum c t.0;
            second = spells_last (S F unread) (want (places.Text, slots.Node t.0)) (suc n) bs b.0.2 (length (fill last n (Enum c t.0)).nodes) (rw len (rw (sym mid_len) (subst (λ (s : Slot). S F unread (places.Text, s) (length mid.nodes) bs b.0.2 (length last.nodes)) t.1 q)));
          }));
    })
