-- Each construct that names a class, and each proxy's description, that is spelled is read.
use Rattle.std.proofs.Common.{◌≡◌, ◌&&◌, ℕ, zero, suc, ◌+◌, ◌<◌, ◌≤◌, ◌^◌, true, false, ltb, List, [], ◌∷◌, ◌++◌, map, length, flat_map, All, Some, Option, Result, Ok, slice_get, refl, sym, ap, subst, ◌∙◌, arith}
use Rattle.std.proofs.lemmas.Bool.{ltb-true, lt-ltb, le-ltb, and_parts}
use Rattle.std.proofs.lemmas.List.{length-set}
use Rattle.std.specs.Int.{w32}
use Rattle.mod_utf.specs.Utf.{utf}
use Rattle.mod_utf.proofs.Fronts.{AreUnits}
use Rattle.class_desc.specs.declared.slot.Slot.{Slot}
use Rattle.class_desc.specs.declared.slot.Slot.TheVariants as slots
use Rattle.class_desc.specs.declared.desc.ProxyDesc.{ProxyDesc}
use Rattle.ser_values.specs.declared.value.Values.{Values}
use Rattle.ser_values.specs.declared.value.Values.TheVariants as kinds
use Rattle.ser_values.specs.declared.value.Part.{Part}
use Rattle.ser_values.specs.declared.node.Node.{Node}
use Rattle.ser_values.specs.declared.node.Node.TheVariants.{Desc, Proxy, Object, Array, Class, Enum}
use Rattle.ser_values.specs.declared.node.SlotPlace.TheVariants as places
use Rattle.ser_values.specs.Node.{is_desc, is_text, inside}
use Rattle.ser_values.specs.Shape.{are_short, is_joined, count_of, fit_elements, fits_array, is_enum, is_shaped, refs_in, sizes_in, parts_of}
use Rattle.stream_grammar.specs.Spelled.{Token, want, note, number, short_text, element_tokens, part_tokens, One, SpellsItems, SpellsAll, Spelling}
use Rattle.ser_values.specs.Ranges.{NodeFits, UnitsFitIn}
use Rattle.stream_grammar.specs.Reading.{Fault, size_at, short_at, Progress, Step, Slots, plain, add_parts, push, fill, blank, elements_at, parts_at, chain_of, rows_of, sizes_of, refs_among, proxy_at, with_class, object_after, object_at, array_of, array_at, class_at, named, enum_at}
use Rattle.ser_values.proofs.Lists.{slice_get-set_other, length_push}
use Rattle.stream_grammar.proofs.Varieties.{elements_of}
use Rattle.stream_grammar.proofs.Sizes.{fitted_sizes, elements_own}
use Rattle.stream_grammar.proofs.Leading.{SameAbove, SameChain, SameUp, short_all}
use Rattle.stream_grammar.proofs.SameTokens.{AllBegin}
use Rattle.stream_grammar.proofs.Shrinks.{Shrinks}
use Rattle.stream_grammar.proofs.Mirror.{Ready, AfterBy, Reads, reads_then, ready_push, mid_total, after_sum, after_node}
use Rattle.stream_grammar.proofs.Plains.{units_are, number_back_32, size_back, short_back}
use Rattle.stream_grammar.proofs.Steps.{IsComplete, spells_split, spells_one, moved, plain_reads, StepReads, many_reads, map_flat}
use Rattle.stream_grammar.proofs.Notes.{items_reads, elements_reads, parts_reads}
use Rattle.stream_grammar.proofs.Objects.{ObjectRow, array_type}
use Rattle.stream_grammar.proofs.Constructs.{set_here, filled_reads, pushed_reads}

-- ---- a proxy's description

-- the node is written over its place
filled_at : {own : ℕ} (F : List Node) (unread : List ℕ) (now mid last : Progress) (i j : Node) (rest : List ℕ) (m : ℕ) (r : Result (Slot × Progress × List ℕ) Fault) → mid.parts + own ≡ now.parts + parts_of i → Ready F unread now → slice_get F (length now.nodes) ≡ Some i → mid.nodes ≡ now.nodes ++ j ∷ []
    → AfterBy own F (inside unread (length now.nodes) i) mid last → length last.nodes ≡ m → ((n : ℕ) → SameAbove (SameChain F last.nodes n) (Some i)) → r ≡ Ok (slots.Node (length now.nodes), fill last (length now.nodes) i, rest) → Reads F unread now (slots.Node (length now.nodes)) rest m r
filled_at F unread now mid last i j rest m r counted ready here grown after len up e =
    let k = length now.nodes in
    let made = fill last k i in
    let mid_len : length mid.nodes ≡ suc k = ap (λ (N : List Node). length N) grown ∙ length_push now.nodes j in
    let room : k < length last.nodes = let o = after.ordered in omega arith in
    let same_len : length made.nodes ≡ length last.nodes = length-set last.nodes k i in
    record {
      later = made;
      is = e;
      len = same_len ∙ len;
      after = after_node F unread now mid last made i j counted ready here grown after same_len refl (λ z ne. slice_get-set_other last.nodes k z i ne) (set_here last.nodes k i room) up;
    }

abbrev read_as : Slot → Progress → List ℕ → Result (Slot × Progress × List ℕ) Fault
read_as s now bs = Ok (s, now, bs)

record NameFits (t : List ℕ) : Type 0 where
  is_short : length (utf t) < 2 ^ 16
  units : AreUnits t

name_step : (F : List Node) (S : One) (unread : List ℕ) (end : ℕ) → StepReads F S unread (plain (short_at end)) (λ t. short_text t ∷ []) NameFits
name_step F S unread end t now bs rest m fits h ready =
    let s = spells_one S (short_text t) (length now.nodes) bs rest m h in
    plain_reads F unread now (short_at end) t bs rest m (short_back end t bs rest fits.is_short fits.units s.0) s.1 ready

names_fit : (ns : List (List ℕ)) → are_short ns ≡ true → All (λ n. All (λ u. u < 2 ^ 16) n) ns → All NameFits ns
names_fit ns h units k d lt = record { is_short = short_all ns h k d lt; units = units_are _ (units k d lt) }

pub proxy_reads : (F : List Node) (S : Spelling) (inner : Slots) → IsComplete F S inner → AllBegin S → (unread : List ℕ) → ((unread : List ℕ) → Shrinks (S unread)) → (end at : ℕ) (p : ProxyDesc) → is_shaped F (Proxy p) ≡ true → UnitsFitIn (Proxy p)
    → (now : Progress) (bs rest : List ℕ) (m : ℕ) → slice_get F (length now.nodes) ≡ Some (Proxy p)
    → SpellsAll (S (inside unread (length now.nodes) (Proxy p))) (number w32 (length p.names) ∷ (map short_text p.names ++ (note p.note ∷ want (places.Parent, p.parent) ∷ []))) (suc (length now.nodes)) bs rest m
    → Ready F unread now → Reads F unread now (slots.Node (length now.nodes)) rest m (proxy_at end at inner unread now bs)
unfolding proxy_at is_shaped is_desc is_text
proxy_reads F S inner complete begin unread sh end at p shaped units now bs rest m here h ready =
    let n = length now.nodes in
    let within = unread ++ n ∷ [] in
    let a = and_parts (ltb (length p.names) (2 ^ 31) && are_short p.names) (is_joined p.note) shaped in
    let b = and_parts (ltb (length p.names) (2 ^ 31)) (are_short p.names) a.0 in
    let few : length p.names < 2 ^ 31 = ltb-true _ _ b.0 in
    let size : size_at end w32 (2 ^ 31) bs ≡ Ok (length p.names, h.0) = size_back end w32 (2 ^ 31) (length p.names) bs h.0 (number_back_32 (length p.names) bs h.0 (omega arith) h.2.0) few in
    let begun = push now (Desc blank) in
    let mid = add_parts (length p.names) begun in
    let all = ready.few in
    let counted : begun.parts + length p.names + refs_in p.note ≡ now.parts + parts_of (Proxy p) = omega arith in
    let ready_mid = ready_push F unread now mid (Proxy p) (Desc blank) ready here refl (omega arith) (λ t. absurd cc) in
    let mid_len : length mid.nodes ≡ suc n = length_push now.nodes (Desc blank) in
    let s = spells_split (S within) (map short_text p.names) (note p.note ∷ want (places.Parent, p.parent) ∷ []) h.1 h.0 rest m h.3 in
    let first : SpellsAll (S within) (flat_map (λ t. short_text t ∷ []) p.names) (length mid.nodes) h.0 s.0 s.1 =
    moved (S within) (flat_map (λ t. short_text t ∷ []) p.names) (length mid.nodes) h.1 h.0 s.0 s.1 (mid_len ∙ sym h.2.1) (subst (λ (ts : List Token). SpellsAll (S within) ts h.1 h.0 s.0 s.1) (map_flat short_text p.names) s.2) in
    let sum_mid = mid_total F now mid (Proxy p) here mid_len in
    let room : begun.parts + length p.names ≤ 1048576 = omega arith in
    let fine : ltb 1048576 (begun.parts + length p.names) ≡ false = le-ltb 1048576 (begun.parts + length p.names) room in
    let names = many_reads F (S within) within (plain (short_at end)) (λ t. short_text t ∷ []) NameFits (name_step F (S within) within end) p.names mid h.0 s.0 s.1 (names_fit p.names b.1 units) first ready_mid in
    let t = s.3 in
    let noted : SpellsItems (S within) p.note (length names.later.nodes) s.0 (0x78 ∷ t.0) t.1 = subst (λ j. SpellsItems (S within) p.note j s.0 (0x78 ∷ t.0) t.1) (sym names.len) t.2 in
    let sum = names.after.sum in
    let is = items_reads F S inner complete begin within (sh within) end true p.note names.later s.0 (0x78 ∷ t.0) t.0 t.1 noted refl names.after.ready (omega arith) in
    let last : S within (places.Parent, p.parent) (length is.later.nodes) t.0 rest m = spells_one (S within) (want (places.Parent, p.parent)) (length is.later.nodes) t.0 rest m (moved (S within) (want (places.Parent, p.parent) ∷ []) (length is.later.nodes) t.1 t.0 rest m is.len t.3) in
    let par = complete within places.Parent p.parent is.later t.0 rest m last is.after.ready in
    let later = par.reads.later in
    filled_at F unread now mid later (Proxy p) (Desc blank) rest m (proxy_at end at inner unread now bs) counted ready here refl (after_sum (refs_in p.note) (omega arith) F within mid is.later later (after_sum (refs_in p.note) (omega arith) F within mid names.later is.later names.after is.after) par.reads.after) par.reads.len (λ j. par.settled j)
    (rw size (rw fine (rw names.is (rw is.is (rw par.reads.is (refl {a = read_as (slots.Node n) (fill later n (Proxy p)) rest}))))))

-- ---- a class first

pub class_reads : (F : List Node) (S : Spelling) (inner : Slots) → IsComplete F S inner → (unread : List ℕ) (at : ℕ) (f : ℕ → Step Slot) (c k : ℕ) (s : Slot) (now : Progress) (bs b rest : List ℕ) (m : ℕ) → SpellsAll (S unread) (want (places.Class, slots.Node c) ∷ []) (length now.nodes) bs b k
    → k < 65536 → Ready F unread now → ((later : Progress) → length later.nodes ≡ k → Ready F unread later → SameUp F later.nodes (slots.Node c) → Reads F unread later s rest m (f c later b)) → Reads F unread now s rest m (with_class inner unread at f now bs)
unfolding with_class
class_reads F S inner complete unread at f c k s now bs b rest m h few ready more =
    let first = complete unread places.Class (slots.Node c) now bs b k (spells_one (S unread) (want (places.Class, slots.Node c)) (length now.nodes) bs b k h) ready in
    let later = first.reads.later in
    let len : length later.nodes ≡ k = first.reads.len in
    let room : ltb (length later.nodes) 65536 ≡ true = lt-ltb _ _ (omega arith) in
    reads_then F unread now (slots.Node c) b k (inner places.Class unread now bs) _ s rest m first.reads (rw room (more later len first.reads.after.ready first.settled))

-- ---- objects

pub object_reads : (F : List Node) (S : Spelling) (inner : Slots) → IsComplete F S inner → AllBegin S → (unread : List ℕ) → Shrinks (S unread) → (end at c : ℕ) (ps : List Part) (ts : List Token) (now : Progress) (bs rest : List ℕ) (m : ℕ)
    → ObjectRow now.nodes c ps ts → NodeFits (Object c ps) → slice_get F (length now.nodes) ≡ Some (Object c ps) → SpellsAll (S (inside unread (length now.nodes) (Object c ps))) ts (suc (length now.nodes)) bs rest m → Ready F unread now
    → Reads F unread now (slots.Node (length now.nodes)) rest m (object_at end at (inner places.Reference unread) c now bs)
unfolding object_at object_after is_desc is_text
object_reads F S inner complete begin unread sh end at c ps ts now bs rest m row fits here h ready =
    let n = length now.nodes in
    let rs = row.rs in
    let rows = rows_of (slice_get now.nodes c) (chain_of 1048576 now.nodes (slots.Node c)).0 in
    let all = ready.few in
    let sizes : sizes_of rs ≡ sizes_in ps = fitted_sizes rs ps row.fitted in
    let mid : Progress = record { nodes = now.nodes ++ Object c [] ∷ []; parts = now.parts + sizes_of rs } in
    let mid_len : length mid.nodes ≡ suc n = length_push now.nodes (Object c []) in
    let sum = mid_total F now mid (Object c ps) here mid_len in
    let fine : ltb 1048576 (now.parts + sizes_of rows) ≡ false = le-ltb 1048576 (now.parts + sizes_of rows) (let e : sizes_of rows ≡ sizes_of rs = ap sizes_of row.are in omega arith) in
    let ready_mid = ready_push F unread now mid (Object c ps) (Object c []) ready here refl (omega arith) (λ t. absurd cc) in
    let spelled : SpellsAll (S unread) (part_tokens (map (λ r. r.1) rs) ps) (length mid.nodes) bs rest m = subst (λ (l : List Token). SpellsAll (S unread) l (length mid.nodes) bs rest m) row.toks (moved (S unread) ts (length mid.nodes) (suc n) bs rest m mid_len h) in
    let read = parts_reads F S inner complete begin unread sh end rs ps mid bs rest m row.fitted fits spelled ready_mid (omega arith) in
    let whole : Reads F unread now (slots.Node n) rest m (object_after end (inner places.Reference unread) c rs now bs) =
    filled_reads F unread now mid (Object c ps) (Object c []) ps rest m (parts_at end (inner places.Reference unread) rs mid bs) (λ x. Ok (slots.Node n, fill x.1 n (Object c x.0), x.2)) (omega arith) ready here refl read (λ j. tt) (λ later. refl) in
    rw fine (rw row.fine (subst (λ (l : List _). Reads F unread now (slots.Node n) rest m (object_after end (inner places.Reference unread) c l now bs)) (sym row.are) whole))

-- ---- arrays, classes and enums

pub array_reads : (F : List Node) (S : Spelling) (inner : Slots) → IsComplete F S inner → (unread : List ℕ) (end at c : ℕ) (v : Values) (now : Progress) (bs rest : List ℕ) (m : ℕ) → SameUp F now.nodes (slots.Node c) → is_shaped F (Array c v) ≡ true → NodeFits (Array c v)
    → slice_get F (length now.nodes) ≡ Some (Array c v) → SpellsAll (S (inside unread (length now.nodes) (Array c v))) (number w32 (count_of v) ∷ element_tokens v) (suc (length now.nodes)) bs rest m → Ready F unread now
    → Reads F unread now (slots.Node (length now.nodes)) rest m (array_at end at (inner places.Reference unread) c now bs)
unfolding array_at array_of is_shaped is_desc is_text
array_reads F S inner complete unread end at c v now bs rest m up shaped fits here h ready =
    let n = length now.nodes in
    let one = up (suc zero) in
    let a = array_type now.nodes (slice_get F c) c v (sym one.0) shaped in
    let few : count_of v < 2 ^ 31 = count_few (slice_get now.nodes c) v a.few in
    let size : size_at end w32 (2 ^ 31) bs ≡ Ok (count_of v, h.0) = size_back end w32 (2 ^ 31) (count_of v) bs h.0 (number_back_32 (count_of v) bs h.0 (omega arith) h.2.0) few in
    let begun = push now (Array c (kinds.Bytes [])) in
    let mid = add_parts (refs_among a.code (count_of v)) begun in
    let all = ready.few in
    let own = elements_own c a.code v (elements_of v (Some a.code) a.fit) in
    let sum = mid_total F now mid (Array c v) here (length_push now.nodes (Array c (kinds.Bytes []))) in
    let fine : ltb 1048576 (begun.parts + refs_among a.code (count_of v)) ≡ false = le-ltb 1048576 (begun.parts + refs_among a.code (count_of v)) (omega arith) in
    let ready_mid = ready_push F unread now mid (Array c v) (Array c (kinds.Bytes [])) ready here refl (omega arith) (λ t. absurd cc) in
    let mid_len : length mid.nodes ≡ suc n = length_push now.nodes (Array c (kinds.Bytes [])) in
    let read = elements_reads F S inner complete unread a.code v mid h.0 rest m (elements_of v (Some a.code) a.fit) fits (moved (S unread) (element_tokens v) (length mid.nodes) h.1 h.0 rest m (mid_len ∙ sym h.2.1) h.3) ready_mid in
    rw a.is (rw size (rw fine (filled_reads F unread now mid (Array c v) (Array c (kinds.Bytes [])) v rest m (elements_at (inner places.Reference unread) a.code (count_of v) mid h.0) (λ x. Ok (slots.Node n, fill x.1 n (Array c x.0), x.2)) (omega arith) ready here refl read (λ j. tt) (λ later. refl))))
  where
    count_few : (i : Option Node) (v : Values) → fits_array i v ≡ true → count_of v < 2 ^ 31
    count_few (Some (Desc d)) v h = ltb-true _ _ (and_parts (fit_elements v _) (ltb (count_of v) (2 ^ 31)) h).1
    count_few _ v h = absurd cc

pub class_of_reads : (F : List Node) (unread : List ℕ) (c : ℕ) (now : Progress) (bs rest : List ℕ) (m : ℕ) → slice_get F (length now.nodes) ≡ Some (Class c) → bs ≡ rest → m ≡ suc (length now.nodes) → Ready F unread now → Reads F unread now (slots.Node (length now.nodes)) rest m (class_at c now bs)
unfolding class_at
class_of_reads F unread c now bs rest m here e len ready = rw e (pushed_reads F unread now (Class c) rest m ready here refl (λ n. tt) len)

pub enum_reads : (F : List Node) (S : Spelling) (inner : Slots) → IsComplete F S inner → (unread : List ℕ) (at c t : ℕ) (now : Progress) (bs rest : List ℕ) (m : ℕ) → SameUp F now.nodes (slots.Node c) → is_shaped F (Enum c t) ≡ true
    → slice_get F (length now.nodes) ≡ Some (Enum c t) → SpellsAll (S (inside unread (length now.nodes) (Enum c t))) (want (places.Text, slots.Node t) ∷ []) (suc (length now.nodes)) bs rest m → Ready F unread now
    → Reads F unread now (slots.Node (length now.nodes)) rest m (enum_at at (inner places.Text unread) c now bs)
unfolding enum_at is_shaped is_desc is_text
enum_reads F S inner complete unread at c t now bs rest m up shaped here h ready =
    let n = length now.nodes in
    let one = up (suc zero) in
    let enum : is_enum (slice_get now.nodes c) ≡ true = ap (λ (i : Option Node). is_enum i) (sym one.0) ∙ shaped in
    let mid = push now (Enum c 0) in
    let ready_mid = ready_push F unread now mid (Enum c t) (Enum c 0) ready here refl (omega arith) (λ t. absurd cc) in
    let mid_len : length mid.nodes ≡ suc n = length_push now.nodes (Enum c 0) in
    let name = complete unread places.Text (slots.Node t) mid bs rest m (spells_one (S unread) (want (places.Text, slots.Node t)) (length mid.nodes) bs rest m (moved (S unread) (want (places.Text, slots.Node t) ∷ []) (length mid.nodes) (suc n) bs rest m mid_len h)) ready_mid in
    rw enum (filled_reads F unread now mid (Enum c t) (Enum c 0) (slots.Node t) rest m (inner places.Text unread mid bs) (named c n) (omega arith) ready here refl name.reads (λ j. tt) (λ later. refl))
