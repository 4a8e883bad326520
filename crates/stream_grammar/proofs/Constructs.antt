-- Each construct that is spelled is read.
use Rattle.std.proofs.Common.{◌≡◌, ◌&&◌, ℕ, zero, suc, ◌+◌, ◌<◌, ◌≤◌, ◌^◌, ℤ, true, false, ltb, List, [], ◌∷◌, ◌++◌, length, flat_map, All, Some, Result, Ok, slice_get, slice_set, refl, sym, ap, subst, ◌∙◌, arith}
use Rattle.std.proofs.lemmas.Bool.{ltb-true, le-ltb, and_parts}
use Rattle.std.proofs.lemmas.List.{length-set}
use Rattle.std.specs.Int.{w16, w64, cast_unsigned, cast_signed}
use Rattle.class_desc.specs.declared.slot.Slot.{Slot}
use Rattle.class_desc.specs.declared.slot.Slot.TheVariants as slots
use Rattle.class_desc.specs.declared.field.FieldDesc.{FieldDesc}
use Rattle.class_desc.specs.declared.desc.ClassDesc.{ClassDesc}
use Rattle.class_desc.specs.ClassDesc.{is_good_desc, fit_flags}
use Rattle.ser_values.specs.declared.node.Node.{Node}
use Rattle.ser_values.specs.declared.node.Node.TheVariants.{Text, Desc}
use Rattle.ser_values.specs.declared.node.SlotPlace.TheVariants as places
use Rattle.ser_values.specs.Node.{is_desc, is_text, inside}
use Rattle.ser_values.specs.Shape.{is_short, fits_type, are_typed, is_joined, is_shaped, parts_of}
use Rattle.stream_grammar.specs.Spelled.{Token, raw, want, note, number, short_text, field_tokens, SpellsItems, SpellsAll, Spelling}
use Rattle.ser_values.specs.Ranges.{NodeFits, UnitsFitIn}
use Rattle.stream_grammar.specs.Reading.{Fault, ◌>>=◌, Plain, number_at, size_at, short_at, Progress, add_parts, Slots, push, fill, blank, field_at, text_at, desc_after, desc_at}
use Rattle.ser_values.proofs.Lists.{slice_get-append_seam, slice_get-set_other, length_push}
use Rattle.stream_grammar.proofs.Leading.{SameAbove, SameChain, SameUp}
use Rattle.stream_grammar.proofs.Apart.{below_64}
use Rattle.stream_grammar.proofs.SameTokens.{AllBegin}
use Rattle.stream_grammar.proofs.Shrinks.{Shrinks}
use Rattle.stream_grammar.proofs.Mirror.{total, Ready, ready_add, ReadsBy, Reads, ready_push, mid_total, after_none, after_sum, after_add, after_node}
use Rattle.stream_grammar.proofs.Plains.{units_are, number_back_16, number_back_64, size_back, short_back}
use Rattle.stream_grammar.proofs.Steps.{IsComplete, spells_split, spells_one, moved, many_reads, field_toks, fields_flat, FieldFits, field_reads, signed}
use Rattle.stream_grammar.proofs.Notes.{items_reads}

-- ---- a node in its place

pub set_here : {X : Type 0} (xs : List X) (k : ℕ) (y : X) → k < length xs → slice_get (slice_set xs k y) k ≡ Some y
set_here [] k y h = absurd (omega arith)
set_here (x ∷ xs) zero y h = refl
set_here (x ∷ xs) (suc k) y h = set_here xs k y (omega arith)

-- the node's own reading, and then the node written over its place
pub filled_reads : {A : Type 0} {own : ℕ} (F : List Node) (unread : List ℕ) (now mid : Progress) (i j : Node) (x : A) (rest : List ℕ) (m : ℕ) (r : Result (A × Progress × List ℕ) Fault) (g : A × Progress × List ℕ → Result (Slot × Progress × List ℕ) Fault)
    → mid.parts + own ≡ now.parts + parts_of i → Ready F unread now → slice_get F (length now.nodes) ≡ Some i → mid.nodes ≡ now.nodes ++ j ∷ [] → (h : ReadsBy own F (inside unread (length now.nodes) i) mid x rest m r)
    → ((n : ℕ) → SameAbove (SameChain F h.later.nodes n) (Some i)) → ((later : Progress) → g (x, later, rest) ≡ Ok (slots.Node (length now.nodes), fill later (length now.nodes) i, rest)) → Reads F unread now (slots.Node (length now.nodes)) rest m (r >>= g)
filled_reads F unread now mid i j x rest m r g counted ready here grown h up gives =
    let k = length now.nodes in
    let last = h.later in
    let made = fill last k i in
    let mid_len : length mid.nodes ≡ suc k = ap (λ (N : List Node). length N) grown ∙ length_push now.nodes j in
    let room : k < length last.nodes = let o = h.after.ordered in omega arith in
    let len : length made.nodes ≡ length last.nodes = length-set last.nodes k i in
    record {
      later = made;
      is = rw h.is (gives last);
      len = len ∙ h.len;
      after = after_node F unread now mid last made i j counted ready here grown h.after len refl (λ z ne. slice_get-set_other last.nodes k z i ne) (set_here last.nodes k i room) up;
    }

-- a node that is whole as soon as it has its handle
pub pushed_reads : (F : List Node) (unread : List ℕ) (now : Progress) (i : Node) (rest : List ℕ) (m : ℕ) → Ready F unread now → slice_get F (length now.nodes) ≡ Some i → parts_of i ≡ 0 → ((n : ℕ) → SameAbove (SameChain F (now.nodes ++ i ∷ []) n) (Some i)) → m ≡ suc (length now.nodes)
    → Reads F unread now (slots.Node (length now.nodes)) rest m (Ok (slots.Node (length now.nodes), push now i, rest))
pushed_reads F unread now i rest m ready here none up len =
    let made = push now i in
    let inner = ready_push F unread now made i i ready here refl (omega arith) (λ t. refl) in
    record {
      later = made;
      is = refl;
      len = length_push now.nodes i ∙ sym len;
      after = after_node F unread now made made made i i (omega arith) ready here refl (after_none F (inside unread (length now.nodes) i) made inner) refl refl (λ z ne. refl) (slice_get-append_seam now.nodes i []) up;
    }

-- ---- texts

pub text_reads : (F : List Node) (unread : List ℕ) (read : List ℕ → Plain (List ℕ)) (t : List ℕ) (now : Progress) (bs rest : List ℕ) (m : ℕ) → Ready F unread now → slice_get F (length now.nodes) ≡ Some (Text t) → read bs ≡ Ok (t, rest) → m ≡ suc (length now.nodes)
    → Reads F unread now (slots.Node (length now.nodes)) rest m (text_at read now bs)
unfolding text_at
text_reads F unread read t now bs rest m ready here e len = rw e (pushed_reads F unread now (Text t) rest m ready here refl (λ n. tt) len)

-- ---- descriptions

pub record ReadsUp (F : List Node) (unread : List ℕ) (now : Progress) (d : ClassDesc) (rest : List ℕ) (m : ℕ) (r : Result (ClassDesc × Progress × List ℕ) Fault) : Type 0 where
  pub reads : ReadsBy (parts_of (Desc d)) F unread now d rest m r
  pub up : SameUp F reads.later.nodes d.parent

field_fits : (F : List Node) (fs : List FieldDesc) → are_typed F fs ≡ true → All (λ f. All (λ u. u < 2 ^ 16) f.name) fs → All (FieldFits F) fs
unfolding are_typed
field_fits F [] h units k d lt = absurd (omega arith)
field_fits F (f ∷ fs) h units zero d lt =
    let a = and_parts (is_short f.name && fits_type F f.code f.type_text) (are_typed F fs) h in
    let b = and_parts (is_short f.name) (fits_type F f.code f.type_text) a.0 in
    record { is_short = ltb-true _ _ b.0; units = units_are f.name (units zero f (omega arith)); typed = b.1 }
field_fits F (f ∷ fs) h units (suc k) d lt = field_fits F fs (and_parts (is_short f.name && fits_type F f.code f.type_text) (are_typed F fs) h).1 (λ j e g. units (suc j) e (omega arith)) k d (omega arith)

good_same : (d : ClassDesc) (s : ℤ) → s ≡ d.suid → is_good_desc (record { name = d.name; suid = s; flags = d.flags; fields = d.fields; note = []; parent = slots.Null }) ≡ is_good_desc d
unfolding is_good_desc fit_flags
good_same d s e = rw e refl

abbrev read_as : {A : Type 0} → A → Progress → List ℕ → Result (A × Progress × List ℕ) Fault
read_as x later rest = Ok (x, later, rest)

abbrev desc_of : ClassDesc → ℤ → ClassDesc
desc_of d s = record { name = d.name; suid = s; flags = d.flags; fields = d.fields; note = d.note; parent = d.parent }

desc_after_reads : (F : List Node) (S : Spelling) (inner : Slots) → IsComplete F S inner → AllBegin S → (unread : List ℕ) → Shrinks (S unread) → (end at : ℕ) (d : ClassDesc) (suid : ℕ) → cast_signed w64 suid ≡ d.suid → is_shaped F (Desc d) ≡ true → UnitsFitIn (Desc d)
    → (now : Progress) (bs rest : List ℕ) (m : ℕ) → SpellsAll (S unread) (number w16 (length d.fields) ∷ (field_tokens d.fields ++ (note d.note ∷ want (places.Parent, d.parent) ∷ []))) (length now.nodes) bs rest m → Ready F unread now → total F now + parts_of (Desc d) ≤ 1048576
    → ReadsUp F unread now d rest m (desc_after end at inner unread d.name suid d.flags now bs)
unfolding desc_after is_shaped
desc_after_reads F S inner complete begin unread sh end at d suid same shaped units now bs rest m h ready limit =
    let a = and_parts (is_short d.name && ltb (length d.fields) 32768) (is_good_desc d && (are_typed F d.fields && is_joined d.note)) shaped in
    let few : length d.fields < 32768 = ltb-true _ _ (and_parts (is_short d.name) (ltb (length d.fields) 32768) a.0).1 in
    let c = and_parts (is_good_desc d) (are_typed F d.fields && is_joined d.note) a.1 in
    let typed = (and_parts (are_typed F d.fields) (is_joined d.note) c.1).0 in
    let size : size_at end w16 32768 bs ≡ Ok (length d.fields, h.0) = size_back end w16 32768 (length d.fields) bs h.0 (number_back_16 (length d.fields) bs h.0 (omega arith) h.2.0) few in
    let s = spells_split (S unread) (field_tokens d.fields) (note d.note ∷ want (places.Parent, d.parent) ∷ []) h.1 h.0 rest m h.3 in
    let first : SpellsAll (S unread) (flat_map field_toks d.fields) (length now.nodes) h.0 s.0 s.1 = moved (S unread) (flat_map field_toks d.fields) (length now.nodes) h.1 h.0 s.0 s.1 (sym h.2.1) (subst (λ (ts : List Token). SpellsAll (S unread) ts h.1 h.0 s.0 s.1) (fields_flat d.fields) s.2) in
    let n = length d.fields in
    let room : total F now + n ≤ 1048576 = omega arith in
    let next = add_parts n now in
    let fine : ltb 1048576 (now.parts + n) ≡ false = le-ltb 1048576 (now.parts + n) (omega arith) in
    let fs = many_reads F (S unread) unread (field_at end at (inner places.Text unread)) field_toks (FieldFits F) (field_reads F S inner complete unread end at) d.fields next h.0 s.0 s.1 (field_fits F d.fields typed units.1) first (ready_add F unread now n room ready) in
    let sum = fs.after.sum in
    let t = s.3 in
    let noted : SpellsItems (S unread) d.note (length fs.later.nodes) s.0 (0x78 ∷ t.0) t.1 = subst (λ j. SpellsItems (S unread) d.note j s.0 (0x78 ∷ t.0) t.1) (sym fs.len) t.2 in
    let is = items_reads F S inner complete begin unread sh end true d.note fs.later s.0 (0x78 ∷ t.0) t.0 t.1 noted refl fs.after.ready (omega arith) in
    let last : S unread (places.Parent, d.parent) (length is.later.nodes) t.0 rest m = spells_one (S unread) (want (places.Parent, d.parent)) (length is.later.nodes) t.0 rest m (moved (S unread) (want (places.Parent, d.parent) ∷ []) (length is.later.nodes) t.1 t.0 rest m is.len t.3) in
    let p = complete unread places.Parent d.parent is.later t.0 rest m last is.after.ready in
    let good : is_good_desc (record { name = d.name; suid = cast_signed w64 suid; flags = d.flags; fields = d.fields; note = []; parent = slots.Null }) ≡ true = good_same d (cast_signed w64 suid) same ∙ c.0 in
    let whole : desc_of d (cast_signed w64 suid) ≡ d = ap (desc_of d) same in
    let later = p.reads.later in
    let read : desc_after end at inner unread d.name suid d.flags now bs ≡ Ok (d, later, rest) = rw size (rw fine (rw fs.is (rw good (rw is.is (rw p.reads.is (ap (λ x. read_as x later rest) whole)))))) in
    record {
      reads = record { later = later; is = read; len = p.reads.len; after = after_sum (parts_of (Desc d)) (omega arith) F unread now is.later later (after_sum (parts_of (Desc d)) refl F unread now fs.later is.later (after_sum n (omega arith) F unread now next fs.later (after_add F unread now n room ready) fs.after) is.after) p.reads.after };
      up = p.settled;
    }

pub desc_reads : (F : List Node) (S : Spelling) (inner : Slots) → IsComplete F S inner → AllBegin S → (unread : List ℕ) → ((unread : List ℕ) → Shrinks (S unread)) → (end at : ℕ) (d : ClassDesc) → is_shaped F (Desc d) ≡ true → NodeFits (Desc d) → UnitsFitIn (Desc d)
    → (k : ℕ) (now : Progress) (bs b rest : List ℕ) (m : ℕ) → k ≡ length now.nodes → slice_get F (length now.nodes) ≡ Some (Desc d) → SpellsAll (S unread) (short_text d.name ∷ number w64 (cast_unsigned w64 d.suid) ∷ []) (length now.nodes) bs b k
    → SpellsAll (S (inside unread (length now.nodes) (Desc d))) (raw (d.flags ∷ []) ∷ number w16 (length d.fields) ∷ (field_tokens d.fields ++ (note d.note ∷ want (places.Parent, d.parent) ∷ []))) (suc (length now.nodes)) b rest m
    → Ready F unread now → Reads F unread now (slots.Node (length now.nodes)) rest m (desc_at end at inner unread now bs)
unfolding desc_at is_shaped is_desc is_text
desc_reads F S inner complete begin unread sh end at d shaped fits units k now bs b rest m same here h1 h2 ready =
    let n = length now.nodes in
    let inside_list = unread ++ n ∷ [] in
    let a = and_parts (is_short d.name && ltb (length d.fields) 32768) (is_good_desc d && (are_typed F d.fields && is_joined d.note)) shaped in
    let good = (and_parts (is_good_desc d) (are_typed F d.fields && is_joined d.note) a.1).0 in
    let name : short_at end bs ≡ Ok (d.name, h1.0) = short_back end d.name bs h1.0 (ltb-true _ _ (and_parts (is_short d.name) (ltb (length d.fields) 32768) a.0).0) (units_are d.name units.0) h1.2.0 in
    let t = h1.3 in
    let suid : number_at w64 h1.0 ≡ Ok (cast_unsigned w64 d.suid, t.0) = number_back_64 (cast_unsigned w64 d.suid) h1.0 t.0 (below_64 d.suid fits.0) t.2.0 in
    let u = h2 in
    let flags : t.0 ≡ d.flags ∷ u.0 = t.3.0 ∙ u.2.0 in
    let mid = push now (Desc blank) in
    let ready_mid = ready_push F unread now mid (Desc d) (Desc blank) ready here refl (omega arith) (λ t. absurd cc) in
    let mid_len : length mid.nodes ≡ suc n = length_push now.nodes (Desc blank) in
    let sum = mid_total F now mid (Desc d) here mid_len in
    let all = ready.few in
    let spelled = moved (S inside_list) (number w16 (length d.fields) ∷ (field_tokens d.fields ++ (note d.note ∷ want (places.Parent, d.parent) ∷ []))) (length mid.nodes) u.1 u.0 rest m (mid_len ∙ sym u.2.1) u.3 in
    let inner_read = desc_after_reads F S inner complete begin inside_list (sh inside_list) end at d (cast_unsigned w64 d.suid) (signed w64 d.suid fits.0) shaped units mid u.0 rest m spelled ready_mid (omega arith) in
    rw name (rw suid (rw flags (filled_reads F unread now mid (Desc d) (Desc blank) d rest m (desc_after end at inner inside_list d.name (cast_unsigned w64 d.suid) d.flags mid u.0) (λ d. Ok (slots.Node n, fill d.1 n (Desc d.0), d.2))
    refl ready here refl inner_read.reads (λ j. (good, inner_read.up j)) (λ later. refl))))
