-- What is spelled is read: reading answers the nodes and the items of each stream.
use Rattle.std.proofs.Common.{◌≡◌, not, ℕ, zero, suc, ◌+◌, ◌-◌, ◌<◌, ◌≤◌, true, false, eqb, ltb, List, [], ◌∷◌, ◌++◌, length, Some, None, Result, Ok, slice_get, refl, sym, ap, subst, ◌∙◌, arith}
use Rattle.std.proofs.lemmas.Bool.{lt-ltb, le-ltb, and_parts, not-true}
use Rattle.std.proofs.lemmas.Option.{slice_get_within}
use Rattle.std.specs.Int.{w32, to_be_bytes}
use Rattle.class_desc.specs.declared.slot.Slot.{Slot}
use Rattle.class_desc.specs.declared.slot.Slot.TheVariants as slots
use Rattle.class_desc.specs.declared.slot.Item.{Item}
use Rattle.ser_values.specs.declared.node.Node.{Node}
use Rattle.ser_values.specs.declared.node.Node.TheVariants.{Text, Desc, Proxy, Object, Array, Class, Enum}
use Rattle.ser_values.specs.declared.node.SlotPlace.{SlotPlace}
use Rattle.ser_values.specs.declared.node.SlotPlace.TheVariants as places
use Rattle.ser_values.specs.Node.{has, is_desc, is_text, admits, admits_null, takes, inside}
use Rattle.ser_values.specs.Shape.{is_shaped, parts_in, count_of}
use Rattle.stream_grammar.specs.Spelled.{Token, want, note, number, part_tokens, element_tokens, writers, short_text, long_text, Form, a_text, a_long_text, a_desc, a_proxy, an_object, an_external, an_array, a_class, an_enum, SpellsAll, Spelling, Spell, a_null, again, fresh, never, Spells, IsStream}
use Rattle.ser_values.specs.Ranges.{NumbersFit, UnitsFitIn, UnitsFit}
use Rattle.stream_grammar.specs.Reading.{Fault, number_at, Progress, Slots, object_at, array_at, class_at, enum_at, short_at, long_at, admits_code, fresh_at, null_at, handle_fault, handle_at, coded, no_slots, slot_at, magic_at, stream_of}
use Rattle.ser_values.proofs.Lists.{has_not, found_at}
use Rattle.stream_grammar.proofs.Leading.{SameUp}
use Rattle.stream_grammar.proofs.Forms.{code_of, desc_tokens, proxy_tokens}
use Rattle.stream_grammar.proofs.SameTokens.{AllBegin, never_begins, spells_begin}
use Rattle.stream_grammar.proofs.OneReading.{same_list, node_fits}
use Rattle.stream_grammar.proofs.Shrinks.{Shrinks, spells_shrink, Grows, tokens_grow, spells_grow, stream_few}
use Rattle.stream_grammar.proofs.Mirror.{Ready, Reads, Settled, after_none, parts_room}
use Rattle.stream_grammar.proofs.Plains.{units_are, number_back_32, short_back, long_back}
use Rattle.stream_grammar.proofs.Steps.{ReadsIn, IsComplete, spells_one}
use Rattle.stream_grammar.proofs.Notes.{items_reads}
use Rattle.stream_grammar.proofs.Objects.{object_row, external_row}
use Rattle.stream_grammar.proofs.Sizes.{sizes_len}
use Rattle.stream_grammar.proofs.Constructs.{text_reads, desc_reads}
use Rattle.stream_grammar.proofs.Classes.{proxy_reads, class_reads, object_reads, array_reads, class_of_reads, enum_reads}

-- what is taken of the graph
pub record Given (F : List Node) : Type 0 where
  pub few : length F ≤ 65536
  pub parts : parts_in F ≤ 1048576
  pub numbers : NumbersFit F
  pub units : UnitsFit F

units_in : (nodes : List Node) → UnitsFit nodes → (k : ℕ) (i : Node) → slice_get nodes k ≡ Some i → UnitsFitIn i
units_in (x ∷ nodes) h zero i e = let same : x ≡ i = cc in subst (λ (j : Node). UnitsFitIn j) same (h zero x (omega arith))
units_in (x ∷ nodes) h (suc k) i e = units_in nodes (λ j d lt. h (suc j) d (omega arith)) k i e
units_in [] h k i e = absurd cc

-- ---- null and handles

null_settled : (F N : List Node) (p : SlotPlace) (s : Slot) → s ≡ slots.Null → admits_null p ≡ true → Settled F N p s
unfolding admits_null
null_settled F N places.Reference s e h = tt
null_settled F N places.Text s e h = absurd cc
null_settled F N places.Class s e h = absurd cc
null_settled F N places.Parent s e h = rw e go
  where
    go : SameUp F N slots.Null
    go zero = tt
    go (suc n) = tt

null_read : (p : SlotPlace) (at : ℕ) (now : Progress) (bs : List ℕ) → admits_null p ≡ true → null_at p at now bs ≡ Ok (slots.Null, now, bs)
unfolding admits_null
null_read places.Reference at now bs h = refl
null_read places.Parent at now bs h = refl
null_read _ at now bs h = absurd cc

handle_settled : (F : List Node) (unread : List ℕ) (now : Progress) (p : SlotPlace) (s : Slot) (k : ℕ) (i : Node) → Ready F unread now → s ≡ slots.Node k → slice_get F k ≡ Some i → k < length now.nodes → takes p (has unread k) i ≡ true → Settled F now.nodes p s
unfolding takes
handle_settled F unread now places.Reference s k i r what is lt h = tt
handle_settled F unread now places.Text s k i r what is lt h = λ j e. (let same : k ≡ j = cc in subst (λ z. slice_get F z ≡ slice_get now.nodes z) same (r.texts k i lt is h))
handle_settled F unread now places.Class s k i r what is lt h = let a = and_parts (is_desc i) (not (has unread k)) h in rw what (r.known k i lt (not-true (has unread k) a.1) is a.0)
handle_settled F unread now places.Parent s k i r what is lt h = let a = and_parts (is_desc i) (not (has unread k)) h in rw what (r.known k i lt (not-true (has unread k) a.1) is a.0)

handle_fine : (F : List Node) (unread : List ℕ) (now : Progress) (p : SlotPlace) (k : ℕ) (i : Node) → Ready F unread now → slice_get F k ≡ Some i → k < length now.nodes → takes p (has unread k) i ≡ true → handle_fault p (has unread k) (slice_get now.nodes k) ≡ None
unfolding takes
handle_fine F unread now places.Reference k i r is lt h = let w = found_at now.nodes k lt in rw w.1 refl
handle_fine F unread now places.Text k i r is lt h = let e : slice_get now.nodes k ≡ Some i = sym (r.texts k i lt is h) ∙ is in rw e (rw h refl)
handle_fine F unread now places.Class k i r is lt h =
    let a = and_parts (is_desc i) (not (has unread k)) h in
    let none = not-true (has unread k) a.1 in
    let e : slice_get now.nodes k ≡ Some i = sym (r.known k i lt none is a.0 (suc zero)).0 ∙ is in
    rw e (rw none (rw a.0 refl))
handle_fine F unread now places.Parent k i r is lt h =
    let a = and_parts (is_desc i) (not (has unread k)) h in
    let none = not-true (has unread k) a.1 in
    let e : slice_get now.nodes k ≡ Some i = sym (r.known k i lt none is a.0 (suc zero)).0 ∙ is in
    rw e (rw none (rw a.0 refl))

abbrev read_as : Slot → Progress → List ℕ → Result (Slot × Progress × List ℕ) Fault
read_as s now bs = Ok (s, now, bs)

handle_read : (p : SlotPlace) (unread : List ℕ) (at k : ℕ) (now : Progress) (bs rest : List ℕ) → k < 65536 → bs ≡ to_be_bytes w32 (0x7E0000 + k) ++ rest → handle_fault p (has unread k) (slice_get now.nodes k) ≡ None → handle_at p unread at now bs ≡ read_as (slots.Node k) now rest
unfolding handle_at
handle_read p unread at k now bs rest lt e fine =
    let number : number_at w32 bs ≡ Ok (0x7E0000 + k, rest) = number_back_32 (0x7E0000 + k) bs rest (omega arith) e in
    let low : ltb (0x7E0000 + k) 0x7E0000 ≡ false = le-ltb (0x7E0000 + k) 0x7E0000 (omega arith) in
    let back : (0x7E0000 + k) - 0x7E0000 ≡ k = omega arith in
    rw number (rw low (rw back (rw fine refl)))

-- ---- a node that gets a handle

code_admitted : (nodes : List Node) (i : Node) (code : ℕ) (bs ts : List Token) (p : SlotPlace) → Form nodes i code bs ts → admits p i ≡ true → admits_code p code ≡ true
unfolding admits is_desc is_text
code_admitted nodes _ _ _ _ places.Reference (a_text t f) h = refl
code_admitted nodes _ _ _ _ places.Text (a_text t f) h = refl
code_admitted nodes _ _ _ _ places.Reference (a_long_text t f) h = refl
code_admitted nodes _ _ _ _ places.Text (a_long_text t f) h = refl
code_admitted nodes _ _ _ _ places.Reference (a_desc d) h = refl
code_admitted nodes _ _ _ _ places.Class (a_desc d) h = refl
code_admitted nodes _ _ _ _ places.Parent (a_desc d) h = refl
code_admitted nodes _ _ _ _ places.Reference (a_proxy q) h = refl
code_admitted nodes _ _ _ _ places.Class (a_proxy q) h = refl
code_admitted nodes _ _ _ _ places.Parent (a_proxy q) h = refl
code_admitted nodes _ _ _ _ places.Reference (an_object c ps chained) h = refl
code_admitted nodes _ _ _ _ places.Reference (an_external c q d is external none) h = refl
code_admitted nodes _ _ _ _ places.Reference (an_array c vs) h = refl
code_admitted nodes _ _ _ _ places.Reference (a_class c) h = refl
code_admitted nodes _ _ _ _ places.Reference (an_enum c t) h = refl
code_admitted nodes _ _ _ _ _ _ h = absurd cc

coded_fresh : (end left : ℕ) (inner : Slots) (p : SlotPlace) (unread : List ℕ) (at code : ℕ) (now : Progress) (bs : List ℕ) → eqb code 0x70 ≡ false → eqb code 0x71 ≡ false → admits_code p code ≡ true → 0 < left → length now.nodes < 65536
    → coded end left inner p unread at code now bs ≡ fresh_at end at inner unread code now bs
unfolding coded
coded_fresh end zero inner p unread at code now bs a b c lt few = absurd (omega arith)
coded_fresh end (suc left) inner p unread at code now bs a b c lt few = let room : ltb (length now.nodes) 65536 ≡ true = lt-ltb _ _ few in rw a (rw b (rw c (rw room refl)))

-- how a node that has its handle is read, at its own number
at_number : (F : List Node) (unread : List ℕ) (now : Progress) (n k : ℕ) (rest : List ℕ) (m : ℕ) (r : Result (Slot × Progress × List ℕ) Fault) → k ≡ n → Reads F unread now (slots.Node n) rest m r → Reads F unread now (slots.Node k) rest m r
at_number F unread now n k rest m r e h = subst (λ j. Reads F unread now (slots.Node j) rest m r) (sym e) h

after_at : (S : Spelling) (unread : List ℕ) (i : Node) (ts : List Token) (n k : ℕ) (bs rest : List ℕ) (m : ℕ) → k ≡ n → SpellsAll (S (inside unread k i)) ts (suc k) bs rest m → SpellsAll (S (inside unread n i)) ts (suc n) bs rest m
after_at S unread i ts n k bs rest m e h = subst (λ j. SpellsAll (S (inside unread j i)) ts (suc j) bs rest m) e h

here_at : (F : List Node) (i : Node) (n k : ℕ) → k ≡ n → slice_get F k ≡ Some i → slice_get F n ≡ Some i
here_at F i n k e is = ap (slice_get F) (sym e) ∙ is

fresh_reads : (F : List Node) → Given F → (S : Spelling) (inner : Slots) → IsComplete F S inner → AllBegin S → ((unread : List ℕ) → Shrinks (S unread)) → (end at : ℕ) (unread : List ℕ) (k : ℕ) (i : Node) (code : ℕ) (bs ts : List Token) (now : Progress) (b b1 rest : List ℕ) (m : ℕ)
    → slice_get F k ≡ Some i → k < 65536 → is_shaped F i ≡ true → Form F i code bs ts → SpellsAll (S unread) bs (length now.nodes) b b1 k → SpellsAll (S (inside unread k i)) ts (suc k) b1 rest m → Ready F unread now → Reads F unread now (slots.Node k) rest m (fresh_at end at inner unread code now b)
unfolding fresh_at is_shaped is_desc
fresh_reads F given S inner complete begin sh end at unread k i code bs ts now b b1 rest m is few shaped (a_text t f) h1 h2 ready =
    let n = length now.nodes in
    let g = spells_one (S unread) (short_text t) (suc k) b1 rest m h2 in
    let units = units_are t (units_in F given.units k (Text t) is) in
    at_number F unread now n k rest m _ h1.1 (text_reads F unread (short_at end) t now b rest m ready (here_at F (Text t) n k h1.1 is) (short_back end t b rest f units (h1.0 ∙ g.0)) (g.1 ∙ ap suc h1.1))
fresh_reads F given S inner complete begin sh end at unread k i code bs ts now b b1 rest m is few shaped (a_long_text t f) h1 h2 ready =
    let n = length now.nodes in
    let g = spells_one (S unread) (long_text t) (suc k) b1 rest m h2 in
    let units = units_are t (units_in F given.units k (Text t) is) in
    at_number F unread now n k rest m _ h1.1 (text_reads F unread (long_at end) t now b rest m ready (here_at F (Text t) n k h1.1 is) (long_back end t b rest f units (h1.0 ∙ g.0)) (g.1 ∙ ap suc h1.1))
fresh_reads F given S inner complete begin sh end at unread k i code bs ts now b b1 rest m is few shaped (a_desc d) h1 h2 ready =
    let n = length now.nodes in
    let e : k ≡ n = h1.3.3.1 ∙ (h1.3.2.1 ∙ h1.2.1) in
    at_number F unread now n k rest m _ e (desc_reads F S inner complete begin unread sh end at d shaped (node_fits F given.numbers k (Desc d) is) (units_in F given.units k (Desc d) is) k now b b1 rest m e (here_at F (Desc d) n k e is) h1 (after_at S unread (Desc d) (desc_tokens d) n k b1 rest m e h2) ready)
fresh_reads F given S inner complete begin sh end at unread k i code bs ts now b b1 rest m is few shaped (a_proxy p) h1 h2 ready =
    let n = length now.nodes in
    let e : k ≡ n = h1.1 in
    let g = subst (λ (l : List ℕ). SpellsAll (S (inside unread n (Proxy p))) (proxy_tokens p) (suc n) l rest m) (sym h1.0) (after_at S unread (Proxy p) (proxy_tokens p) n k b1 rest m e h2) in
    at_number F unread now n k rest m _ e (proxy_reads F S inner complete begin unread sh end at p shaped (units_in F given.units k (Proxy p) is) now b rest m (here_at F (Proxy p) n k e is) g ready)
fresh_reads F given S inner complete begin sh end at unread k i code bs ts now b b1 rest m is few shaped (an_object c ps chained) h1 h2 ready =
    class_reads F S inner complete unread at (object_at end at (inner places.Reference unread)) c k (slots.Node k) now b b1 rest m h1 few ready (λ later len r up. (
    let e : k ≡ length later.nodes = sym len in
    let room = parts_room F k (Object c ps) is in
    let all = given.parts in
    let lens = sizes_len ps in
    let row = object_row F later.nodes c ps up (omega arith) chained shaped in
    at_number F unread later (length later.nodes) k rest m _ e (object_reads F S inner complete begin unread (sh unread) end at c ps (part_tokens (writers F (length ps) (slots.Node c)) ps) later b1 rest m row (node_fits F given.numbers k (Object c ps) is) (here_at F (Object c ps) (length later.nodes) k e is) (after_at S unread (Object c ps) (part_tokens (writers F (length ps) (slots.Node c)) ps) (length later.nodes) k b1 rest m e h2) r)))
fresh_reads F given S inner complete begin sh end at unread k i code bs ts now b b1 rest m is few shaped (an_external c p d is_class external none) h1 h2 ready =
    class_reads F S inner complete unread at (object_at end at (inner places.Reference unread)) c k (slots.Node k) now b b1 rest m h1 few ready (λ later len r up. (
    let e : k ≡ length later.nodes = sym len in
    let row = external_row F later.nodes c p d up is_class external none shaped in
    at_number F unread later (length later.nodes) k rest m _ e (object_reads F S inner complete begin unread (sh unread) end at c (p ∷ []) (note p.note ∷ []) later b1 rest m row (node_fits F given.numbers k (Object c (p ∷ [])) is) (here_at F (Object c (p ∷ [])) (length later.nodes) k e is) (after_at S unread (Object c (p ∷ [])) (note p.note ∷ []) (length later.nodes) k b1 rest m e h2) r)))
fresh_reads F given S inner complete begin sh end at unread k i code bs ts now b b1 rest m is few shaped (an_array c v) h1 h2 ready =
    class_reads F S inner complete unread at (array_at end at (inner places.Reference unread)) c k (slots.Node k) now b b1 rest m h1 few ready (λ later len r up. (
    let e : k ≡ length later.nodes = sym len in
    at_number F unread later (length later.nodes) k rest m _ e (array_reads F S inner complete unread end at c v later b1 rest m up shaped (node_fits F given.numbers k (Array c v) is) (here_at F (Array c v) (length later.nodes) k e is) (after_at S unread (Array c v) (number w32 (count_of v) ∷ element_tokens v) (length later.nodes) k b1 rest m e h2) r)))
fresh_reads F given S inner complete begin sh end at unread k i code bs ts now b b1 rest m is few shaped (a_class c) h1 h2 ready =
    class_reads F S inner complete unread at class_at c k (slots.Node k) now b b1 rest m h1 few ready (λ later len r up. (
    let e : k ≡ length later.nodes = sym len in
    at_number F unread later (length later.nodes) k rest m _ e (class_of_reads F unread c later b1 rest m (here_at F (Class c) (length later.nodes) k e is) h2.0 (h2.1 ∙ ap suc e) r)))
fresh_reads F given S inner complete begin sh end at unread k i code bs ts now b b1 rest m is few shaped (an_enum c t) h1 h2 ready =
    class_reads F S inner complete unread at (enum_at at (inner places.Text unread)) c k (slots.Node k) now b b1 rest m h1 few ready (λ later len r up. (
    let e : k ≡ length later.nodes = sym len in
    at_number F unread later (length later.nodes) k rest m _ e (enum_reads F S inner complete unread at c t later b1 rest m up shaped (here_at F (Enum c t) (length later.nodes) k e is) (after_at S unread (Enum c t) (want (places.Text, slots.Node t) ∷ []) (length later.nodes) k b1 rest m e h2) r)))

fresh_settled : (F : List Node) (unread : List ℕ) (later : Progress) (p : SlotPlace) (s : Slot) (k : ℕ) (i : Node) → Ready F unread later → s ≡ slots.Node k → slice_get F k ≡ Some i → k < length later.nodes → has unread k ≡ false → admits p i ≡ true → Settled F later.nodes p s
unfolding admits
fresh_settled F unread later places.Reference s k i r what is lt none h = tt
fresh_settled F unread later places.Text s k i r what is lt none h = λ j e. (let same : k ≡ j = cc in subst (λ z. slice_get F z ≡ slice_get later.nodes z) same (r.texts k i lt is h))
fresh_settled F unread later places.Class s k i r what is lt none h = rw what (r.known k i lt none is h)
fresh_settled F unread later places.Parent s k i r what is lt none h = rw what (r.known k i lt none is h)

-- ---- any reference

record CodedReads (F : List Node) (end left : ℕ) (inner : Slots) (unread : List ℕ) (p : SlotPlace) (s : Slot) (now : Progress) (bs rest : List ℕ) (m : ℕ) : Type 0 where
  code : ℕ
  after : List ℕ
  begins : bs ≡ code ∷ after
  read : (at : ℕ) → ReadsIn F unread p now s rest m (coded end left inner p unread at code now after)

reads_by : (F : List Node) (unread : List ℕ) (now : Progress) (s : Slot) (rest : List ℕ) (m : ℕ) (r q : Result (Slot × Progress × List ℕ) Fault) → r ≡ q → Reads F unread now s rest m q → Reads F unread now s rest m r
reads_by F unread now s rest m r q e h = rw e h

spell_reads : (F : List Node) → Given F → (S : Spelling) (inner : Slots) → IsComplete F S inner → AllBegin S → ((unread : List ℕ) → Shrinks (S unread)) → ((unread : List ℕ) → Grows (S unread)) → (end left : ℕ) (unread : List ℕ) (p : SlotPlace) (s : Slot) (now : Progress) (bs rest : List ℕ) (m : ℕ)
    → Spell F left S unread (p, s) (length now.nodes) bs rest m → Ready F unread now → CodedReads F end left inner unread p s now bs rest m
unfolding coded
spell_reads F given S inner complete begin sh grow end left unread p s now bs rest m (a_null what ok e same) ready = record {
  code = 0x70;
  after = rest;
  begins = e;
  read = λ at. record {
    reads = record { later = now; is = null_read p at now rest ok ∙ ap (λ (z : Slot). read_as z now rest) (sym what); len = sym same; after = after_none F unread now ready };
    settled = null_settled F now.nodes p s what ok;
  };
}
spell_reads F given S inner complete begin sh grow end left unread p s now bs rest m (again k i what is lt ok e same) ready = record {
  code = 0x71;
  after = to_be_bytes w32 (0x7E0000 + k) ++ rest;
  begins = e;
  read = λ at. (
      let k_few : k < length F = slice_get_within F k i is in
      let few = given.few in
      record {
        reads = record {
          later = now;
          is = handle_read p unread at k now (to_be_bytes w32 (0x7E0000 + k) ++ rest) rest (omega arith) refl (handle_fine F unread now p k i ready is lt ok) ∙ ap (λ (z : Slot). read_as z now rest) (sym what);
          len = sym same;
          after = after_none F unread now ready;
        };
        settled = handle_settled F unread now p s k i ready what is lt ok;
      });
}
spell_reads F given S inner complete begin sh grow end left unread p s now bs rest m (fresh k i code befores afters b b1 what is le few lt ok shaped form e h1 h2) ready = record {
  code = code;
  after = b;
  begins = e;
  read = λ at. (
      let c = code_of F i code befores afters form in
      let by = coded_fresh end left inner p unread at code now b c.not_null c.not_handle (code_admitted F i code befores afters p form ok) lt (omega arith) in
      let whole = fresh_reads F given S inner complete begin sh end at unread k i code befores afters now b b1 rest m is few shaped form h1 h2 ready in
      let mine : Reads F unread now s rest m (coded end left inner p unread at code now b) = subst (λ (z : Slot). Reads F unread now z rest m (coded end left inner p unread at code now b)) (sym what) (reads_by F unread now (slots.Node k) rest m (coded end left inner p unread at code now b) (fresh_at end at inner unread code now b) by whole) in
      let more = tokens_grow (S (inside unread k i)) (grow (inside unread k i)) afters (suc k) b1 rest m h2 in
      let len : length mine.later.nodes ≡ m = mine.len in
      record { reads = mine; settled = fresh_settled F unread mine.later p s k i mine.after.ready what is (omega arith) (has_not unread (length now.nodes) ready.below k le) ok });
}

at_code : (F : List Node) (end left : ℕ) (inner slot : Slots) (unread : List ℕ) (p : SlotPlace) (s : Slot) (now : Progress) (bs rest : List ℕ) (m : ℕ) → ((code : ℕ) (after : List ℕ) → slot p unread now (code ∷ after) ≡ coded end left inner p unread (end - length (code ∷ after)) code now after)
    → CodedReads F end left inner unread p s now bs rest m → ReadsIn F unread p now s rest m (slot p unread now bs)
at_code F end left inner slot unread p s now bs rest m opens c =
    let r = c.read (end - length (c.code ∷ c.after)) in
    record {
      reads = record { later = r.reads.later; is = ap (slot p unread now) c.begins ∙ (opens c.code c.after ∙ r.reads.is); len = r.reads.len; after = r.reads.after };
      settled = r.settled;
    }

pub slots_complete : (F : List Node) → Given F → (end d : ℕ) → IsComplete F (Spells F d) (slot_at end d)
unfolding slot_at Spells
slots_complete F given end zero unread p s now bs rest m h ready =
    at_code F end zero no_slots (slot_at end zero) unread p s now bs rest m (λ code after. refl)
    (spell_reads F given never no_slots (λ unread p s now bs rest m h ready. absurd h) never_begins (λ unread w n bs rest m h. absurd h) (λ unread w n bs rest m h. absurd h) end zero unread p s now bs rest m h ready)
slots_complete F given end (suc d) unread p s now bs rest m h ready =
    at_code F end (suc d) (slot_at end d) (slot_at end (suc d)) unread p s now bs rest m (λ code after. refl)
    (spell_reads F given (Spells F d) (slot_at end d) (slots_complete F given end d) (spells_begin F d) (spells_shrink F d) (spells_grow F d) end (suc d) unread p s now bs rest m h ready)

-- ---- a whole stream

abbrev pub answer : List Node → List Item → Result (List Node × List Item) Fault
answer nodes is = Ok (nodes, is)

pub magic_read : (end : ℕ) (contents : List ℕ) → magic_at end (0xAC ∷ 0xED ∷ 0x00 ∷ 0x05 ∷ []) (0xAC ∷ 0xED ∷ 0x00 ∷ 0x05 ∷ contents) ≡ Ok contents
unfolding magic_at
magic_read end contents = refl

-- Each stream is read.
pub stream_complete : (nodes : List Node) (items : List Item) (bytes : List ℕ) → IsStream nodes items bytes → stream_of bytes ≡ Ok (nodes, items)
unfolding stream_of has parts_in
stream_complete F is bytes h =
    let limit = h.few_parts in
    let given : Given F = record { few = stream_few F is bytes h; parts = omega arith; numbers = h.numbers; units = h.units } in
    let end = length bytes in
    let start : Progress = record { nodes = []; parts = 0 } in
    let ready : Ready F [] start = record { few = omega arith; below = λ k e. absurd cc; known = λ k i lt e is d. absurd (omega arith); texts = λ k i lt is t. absurd (omega arith) } in
    let magic : magic_at end (0xAC ∷ 0xED ∷ 0x00 ∷ 0x05 ∷ []) bytes ≡ Ok h.contents = ap (magic_at end (0xAC ∷ 0xED ∷ 0x00 ∷ 0x05 ∷ [])) h.headed ∙ magic_read end h.contents in
    let r = items_reads F (Spells F 200) (slot_at end 200) (slots_complete F given end 200) (spells_begin F 200) [] (spells_shrink F 200 []) end false is start h.contents [] [] (length F) h.spelled (refl, refl) ready (omega arith) in
    let same : F ≡ r.later.nodes = same_list F r.later.nodes (sym r.len) (λ k lt. r.after.agrees k (omega arith) (let e : length r.later.nodes ≡ length F = r.len in omega arith)) in
    rw magic (rw r.is (ap (λ (l : List Node). answer l is) (sym same)))
