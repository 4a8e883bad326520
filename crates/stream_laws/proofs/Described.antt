-- The stream of a description: it is one, it is read back, and it is short.
use Rattle.std.proofs.Common.{◌≡◌, ℕ, zero, suc, ◌+◌, ◌*◌, ◌≤◌, Bool, true, false, cond, not, ltb, eqb, List, [], ◌∷◌, ◌++◌, length, map, filter, Some, Ok, slice_get, refl, length-append, arith}
use Rattle.std.specs.List.{AllByRecursion}
use Rattle.std.specs.Int.{w16, w32, w64, to_be_bytes}
use Rattle.std.proofs.lemmas.Bool.{and_parts}
use Rattle.mod_utf.specs.Utf.{utf}
use Rattle.wire_io.specs.declared.limits.TheConstants.{LAST_POSITION}
use Rattle.class_desc.specs.declared.slot.Slot.{Slot}
use Rattle.class_desc.specs.declared.slot.Slot.TheVariants as slots
use Rattle.class_desc.specs.declared.field.FieldDesc.{FieldDesc}
use Rattle.class_desc.specs.TypeCode.{is_primitive, letter}
use Rattle.ser_values.specs.declared.node.Node.{Node}
use Rattle.ser_values.specs.declared.node.Node.TheVariants.{Text, Desc}
use Rattle.ser_values.specs.declared.node.SlotPlace.TheVariants as places
use Rattle.ser_values.specs.Shape.{is_short}
use Rattle.stream_grammar.specs.Spelled.{Token, raw, note, want, short_text, long_text, field_tokens, IsStream}
use Rattle.ser_write.specs.Canonical.{Writing, write_items, write_token, write_all, tokens_before, tokens_after, write_new, write_one, write_at, contents, canonical}
use Rattle.suid_calc.specs.declared.outline.Member.{Member}
use Rattle.suid_calc.specs.declared.outline.ClassOutline.{ClassOutline}
use Rattle.suid_calc.specs.Reading.{is_good}
use Rattle.suid_calc.specs.Description.{is_serial, type_of, code_in, is_primitive_field, is_reference_field, place_in, slot_in, field_of, fields_of, texts_of, desc_with, nodes_with, nodes_of, one_item, items_of}
use Rattle.suid_calc.proofs.WordLaws.{name_is}
use Rattle.suid_calc.proofs.FieldLaws.{AreVisible, utf_itself, field_is, all_append, later}
use Rattle.suid_calc.proofs.GraphLaws.{IsDescribable, IsWritable, texts_writable, field_count, is_graph}
use Rattle.stream_grammar.specs.Reading.{stream_of}
use Rattle.stream_grammar.proofs.Complete.{stream_complete}
use Rattle.ser_write.proofs.Streams.{canonical_stream}

-- ---- tokens of which few bytes are written

-- At most 200,000 bytes are written of the token, however many nodes have handles.
abbrev IsSmall : Writing → Token → Type 0
IsSmall one t = (n : ℕ) → length (write_token one n t).0 ≤ 200000

all_small : (one : Writing) (ts : List Token) → AllByRecursion (IsSmall one) ts → (n : ℕ) → length (write_all one n ts).0 ≤ 200000 * length ts
unfolding write_all
all_small one [] h n = omega arith
all_small one (t ∷ ts) h n =
    let w = write_token one n t in
    omega (arith, length-append w.0 (write_all one w.1 ts).0, h.0 n, all_small one ts h.1 w.1)

-- a text of at most 65,535 visible bytes, behind its length
text_length : (t : List ℕ) → AreVisible t → length t ≤ 65535 → length (utf t) ≤ 65535
text_length t v short = rw (utf_itself t v) short

small_short : (one : Writing) (t : List ℕ) → AreVisible t → length t ≤ 65535 → IsSmall one (short_text t)
small_short one t v short = λ n. omega (arith, length-append (to_be_bytes w16 (length (utf t))) (utf t), text_length t v short)

small_long : (one : Writing) (t : List ℕ) → AreVisible t → length t ≤ 65535 → IsSmall one (long_text t)
small_long one t v short = λ n. omega (arith, length-append (to_be_bytes w64 (length (utf t))) (utf t), text_length t v short)

-- ---- references

new_text : (nodes : List Node) (inner : Writing) (n k : ℕ) (t : List ℕ) → IsWritable t → length (write_new nodes inner n k (Some (Text t))).0 ≤ 100000
unfolding write_all tokens_before tokens_after
new_text nodes inner n k t w = go (is_short t)
  where
    go : (b : Bool) → length (cond b 0x74 0x7C ∷ ([] ++ ((write_token inner (k + 1) (cond b (short_text t) (long_text t))).0 ++ []))) ≤ 100000
    go true = omega (arith, length-append (to_be_bytes w16 (length (utf t)) ++ utf t) [], length-append (to_be_bytes w16 (length (utf t))) (utf t), text_length t w.visible w.short)
    go false = omega (arith, length-append (to_be_bytes w64 (length (utf t)) ++ utf t) [], length-append (to_be_bytes w64 (length (utf t))) (utf t), text_length t w.visible w.short)

new_small : (texts : List (List ℕ)) → AllByRecursion IsWritable texts → (nodes : List Node) (inner : Writing) (n k j : ℕ)
    → length (write_new nodes inner n k (slice_get (map (λ (t : List ℕ). Text t) texts) j)).0 ≤ 100000
new_small [] h nodes inner n k j = omega arith
new_small (t ∷ texts) h nodes inner n k zero = new_text nodes inner n k t h.0
new_small (t ∷ texts) h nodes inner n k (suc j) = new_small texts h.1 nodes inner n k j

-- It is no reference to the description.
abbrev IsBehind : Slot → Type 0
IsBehind slots.Null = Unit {0}
IsBehind (slots.Node zero) = ⊥
IsBehind (slots.Node (suc j)) = Unit {0}

one_small : (texts : List (List ℕ)) (o : ClassOutline) → AllByRecursion IsWritable texts → (left : ℕ) (inner : Writing) (n : ℕ) (s : Slot) → IsBehind s
    → length (write_one left (nodes_with texts o) inner n s).0 ≤ 100000
unfolding write_one
one_small texts o h left inner n slots.Null behind = omega arith
one_small texts o h left inner n (slots.Node zero) behind = absurd behind
one_small texts o h left inner n (slots.Node (suc j)) behind = go (ltb (suc j) n) (eqb left 0)
  where
    go : (a b : Bool) → length (cond a (0x71 ∷ to_be_bytes w32 (0x7E0000 + suc j), n) (cond b ([], n) (write_new (nodes_with texts o) inner n (suc j) (slice_get (map (λ (t : List ℕ). Text t) texts) j)))).0 ≤ 100000
    go true b = omega arith
    go false true = omega arith
    go false false = new_small texts h (nodes_with texts o) inner n (suc j) j

-- ---- fields

-- A field's name is short, and its type text is none but null or a text.
record IsPlain (f : FieldDesc) : Type 0 where
  visible : AreVisible f.name
  short : length f.name ≤ 65535
  behind : IsBehind f.type_text

-- The writing writes few bytes of a reference to anything but the description.
abbrev IsShortly : Writing → Type 0
IsShortly one = (n : ℕ) (s : Slot) → IsBehind s → length (one n s).0 ≤ 100000

fields_small : (one : Writing) → IsShortly one → (fs : List FieldDesc) → AllByRecursion IsPlain fs → AllByRecursion (IsSmall one) (field_tokens fs)
fields_small one few [] h = tt
fields_small one few (f ∷ fs) h = (λ n. omega arith, (small_short one f.name h.0.visible h.0.short, go (is_primitive f.code) (fields_small one few fs h.1)))
  where
    go : (b : Bool) → AllByRecursion (IsSmall one) (field_tokens fs) → AllByRecursion (IsSmall one) (cond b (field_tokens fs) (want (places.Text, f.type_text) ∷ field_tokens fs))
    go true rest = rest
    go false rest = (λ n. omega (arith, few n f.type_text h.0.behind), rest)

tokens_few : (fs : List FieldDesc) → length (field_tokens fs) ≤ 3 * length fs
tokens_few [] = omega arith
tokens_few (f ∷ fs) = go (is_primitive f.code) (tokens_few fs)
  where
    go : (b : Bool) → length (field_tokens fs) ≤ 3 * length fs
        → length (raw (letter f.code ∷ []) ∷ short_text f.name ∷ cond b (field_tokens fs) (want (places.Text, f.type_text) ∷ field_tokens fs)) ≤ 3 * length (f ∷ fs)
    go true e = omega (arith, e)
    go false e = omega (arith, e)

slot_behind : (texts : List (List ℕ)) (t : List ℕ) → IsBehind (slot_in texts t)
slot_behind texts t = go (is_primitive (code_in t))
  where
    go : (b : Bool) → IsBehind (cond b slots.Null (slots.Node (suc (place_in texts t))))
    go true = tt
    go false = tt

plain : (texts : List (List ℕ)) (m : Member) → is_good m ≡ true → is_serial m ≡ true → IsPlain (field_of texts m)
plain texts m good s =
    let f = field_is m good s in
    let few = f.name_short in
    record { visible = f.name_visible; short = omega (arith, few); behind = slot_behind texts (type_of m) }

all_plain : (texts : List (List ℕ)) (ms : List Member) → AllByRecursion (λ m. is_good m ≡ true) ms → AllByRecursion IsPlain (fields_of texts ms)
all_plain texts ms good =
    all_append IsPlain (map (field_of texts) (filter is_primitive_field ms)) (map (field_of texts) (filter is_reference_field ms))
    (later is_primitive_field IsPlain (λ m. is_good m ≡ true) texts (λ m p g. plain texts m g (and_parts (is_serial m) (is_primitive (code_in (type_of m))) p).0) ms good)
    (later is_reference_field IsPlain (λ m. is_good m ≡ true) texts (λ m p g. plain texts m g (and_parts (is_serial m) (not (is_primitive (code_in (type_of m)))) p).0) ms good)

-- ---- the description

shortly : (texts : List (List ℕ)) (o : ClassOutline) → AllByRecursion IsWritable texts → (d : ℕ) → IsShortly (write_at (suc d) (nodes_with texts o))
unfolding write_at
shortly texts o h d n s behind = one_small texts o h (suc d) (write_at d (nodes_with texts o)) n s behind

small_note : (one : Writing) → IsShortly one → IsSmall one (note (one_item slots.Null))
unfolding write_items
small_note one few = λ n. omega (arith, length-append ((one n slots.Null).0 ++ []) (0x78 ∷ []), length-append (one n slots.Null).0 [], few n slots.Null tt)

before_small : (one : Writing) (texts : List (List ℕ)) (o : ClassOutline) → IsDescribable o texts → AllByRecursion (IsSmall one) (tokens_before (Desc (desc_with texts o)))
unfolding tokens_before
before_small one texts o h =
    let name = name_is o.name h.named in
    let few = name.short in
    (small_short one o.name name.visible (omega (arith, few)), (λ n. omega arith, tt))

after_small : (one : Writing) → IsShortly one → (texts : List (List ℕ)) (o : ClassOutline) → IsDescribable o texts → AllByRecursion (IsSmall one) (tokens_after (nodes_with texts o) (Desc (desc_with texts o)))
unfolding tokens_after
after_small one few texts o h = (
  λ n. omega arith,
  (
    λ n. omega arith,
    all_append (IsSmall one) (field_tokens (fields_of texts o.members)) (note (one_item slots.Null) ∷ want (places.Parent, slots.Null) ∷ [])
        (fields_small one few (fields_of texts o.members) (all_plain texts o.members h.good)) (small_note one few, (λ n. omega (arith, few n slots.Null tt), tt)),
  ),
)

before_few : (texts : List (List ℕ)) (o : ClassOutline) → length (tokens_before (Desc (desc_with texts o))) ≤ 10
unfolding tokens_before
before_few texts o = omega arith

after_few : (texts : List (List ℕ)) (o : ClassOutline) → IsDescribable o texts → length (tokens_after (nodes_with texts o) (Desc (desc_with texts o))) ≤ 99000
unfolding tokens_after
after_few texts o h =
    let few = h.few in
    omega (
      arith,
      few,
      field_count texts o.members,
      tokens_few (fields_of texts o.members),
      length-append (field_tokens (fields_of texts o.members)) (note (one_item slots.Null) ∷ want (places.Parent, slots.Null) ∷ []),
    )

-- The bytes of a description: its code, what stands before its handle, and what stands after it.
abbrev desc_bytes : Writing → List Token → List Token → List ℕ
desc_bytes inner front back = (0x72 ∷ (write_all inner 0 front).0) ++ (write_all inner 1 back).0

whole_small : (inner : Writing) (front back : List Token) → AllByRecursion (IsSmall inner) front → AllByRecursion (IsSmall inner) back → length front ≤ 10 → length back ≤ 99000
    → length (desc_bytes inner front back) ≤ 200000 * 100000
whole_small inner front back f b few many =
    omega (arith, length-append (0x72 ∷ (write_all inner 0 front).0) (write_all inner 1 back).0, all_small inner front f 0, all_small inner back b 1, few, many)

desc_small : (texts : List (List ℕ)) (o : ClassOutline) → IsDescribable o texts → length (write_at 200 (nodes_with texts o) 0 (slots.Node 0)).0 ≤ 200000 * 100000
unfolding write_at write_one
desc_small texts o h =
    let few = shortly texts o (texts_writable texts o h) 198 in
    whole_small (write_at 199 (nodes_with texts o)) (tokens_before (Desc (desc_with texts o))) (tokens_after (nodes_with texts o) (Desc (desc_with texts o)))
    (before_small (write_at 199 (nodes_with texts o)) texts o h) (after_small (write_at 199 (nodes_with texts o)) few texts o h) (before_few texts o) (after_few texts o h)

describable : (o : ClassOutline) → length (filter is_serial o.members) ≤ 32767 → IsDescribable o (texts_of o.members)
describable o few = record { named = o.named; good = o.good; sorted = o.ordered; few = few; texts_are = refl }

-- The stream of a description has no more bytes than can be counted.
pub short_stream : (o : ClassOutline) → length (filter is_serial o.members) ≤ 32767 → length (canonical (nodes_of o) items_of) ≤ LAST_POSITION
unfolding canonical contents write_items
short_stream o few = omega (arith, length-append (write_at 200 (nodes_of o) 0 (slots.Node 0)).0 [], desc_small (texts_of o.members) o (describable o few))

-- What is written of a description is a stream of it.
pub desc_stream : (o : ClassOutline) → length (filter is_serial o.members) ≤ 32767 → IsStream (nodes_of o) items_of (canonical (nodes_of o) items_of)
desc_stream o few = canonical_stream (nodes_of o) items_of (is_graph (texts_of o.members) o (describable o few))

-- Reading it gives the description.
pub desc_read : (o : ClassOutline) → length (filter is_serial o.members) ≤ 32767 → stream_of (canonical (nodes_of o) items_of) ≡ Ok (nodes_of o, items_of)
desc_read o few = stream_complete (nodes_of o) items_of (canonical (nodes_of o) items_of) (desc_stream o few)
