-- What is written of a graph are bytes.
use Rattle.std.proofs.Common.{◌≡◌, ◌&&◌, ℕ, zero, suc, ◌+◌, ◌<◌, ◌^◌, ◌/◌, ◌%◌, Bool, true, false, cond, eqb, ltb, List, [], ◌∷◌, ◌++◌, map, length, take, drop, Option, Some, None, slice_get, refl, arith}
use Rattle.std.specs.Prelude.{All, FitsSigned}
use Rattle.std.specs.List.{flat_map, AllByRecursion}
use Rattle.std.specs.Int as int
use Rattle.std.specs.Int.{Width, w16, w32, w64, byte_len, bytes_high_first, to_be_bytes, cast_unsigned}
use Rattle.std.proofs.lemmas.Bool.{ltb-true, and_parts}
use Rattle.std.proofs.lemmas.List.Elements.{All-head, All-tail}
use Rattle.mod_utf.specs.Utf.{utf, unit_bytes}
use Rattle.mod_utf.proofs.Fronts.{AreUnits}
use Rattle.class_desc.specs.declared.slot.Slot.{Slot}
use Rattle.class_desc.specs.declared.slot.Slot.TheVariants as slots
use Rattle.class_desc.specs.declared.slot.Item.{Item}
use Rattle.class_desc.specs.declared.slot.Item.TheVariants as items
use Rattle.class_desc.specs.declared.field.TypeCode.{TypeCode}
use Rattle.class_desc.specs.declared.field.TypeCode.TheVariants as codes
use Rattle.class_desc.specs.declared.field.FieldDesc.{FieldDesc}
use Rattle.class_desc.specs.declared.desc.ClassDesc.{ClassDesc}
use Rattle.class_desc.specs.TypeCode.{is_primitive, letter}
use Rattle.class_desc.specs.ClassDesc.{is_good_desc, fit_flags, are_ordered}
use Rattle.class_desc.proofs.Fields.{flags_are}
use Rattle.ser_values.specs.declared.value.Value.{Value}
use Rattle.ser_values.specs.declared.value.Value.TheVariants as values
use Rattle.ser_values.specs.declared.value.Values.{Values}
use Rattle.ser_values.specs.declared.value.Values.TheVariants as kinds
use Rattle.ser_values.specs.declared.value.Part.{Part}
use Rattle.ser_values.specs.declared.node.Node.{Node}
use Rattle.ser_values.specs.declared.node.Node.TheVariants.{Text, Desc, Proxy, Object, Array, Class, Enum}
use Rattle.ser_values.specs.declared.node.SlotPlace.TheVariants as places
use Rattle.ser_values.specs.Shape.{is_short, are_typed, is_joined, is_shaped}
use Rattle.ser_values.specs.Numbered.{IsGraph}
use Rattle.ser_values.specs.Ranges.{ValueFits, ElementsFit, ItemFits, ItemsFit, PartFits, TextFits, NameFits, InRange}
use Rattle.stream_grammar.specs.Spelled.{Token, raw, truth, want, note, number, short_text, long_text, reference, field_tokens, value_token, element_tokens, writers, part_tokens}
use Rattle.stream_grammar.proofs.PlainSound.{AreBytes, all_bytes}
use Rattle.stream_grammar.proofs.Plains.{units_are}
use Rattle.ser_values.proofs.Ranged.{all_at}
use Rattle.ser_values.proofs.Reached.{in_range}
use Rattle.stream_grammar.proofs.Shaped.{graph_shaped}
use Rattle.ser_write.specs.Canonical.{Writing, block_of, pieces_in, pieces, blocks, write_items, write_token, write_all, code_of, tokens_before, is_external_class, external_tokens, tokens_after, write_new, write_one, nothing, write_at, contents, canonical}
use Rattle.ser_write.specs.declared.pieces.TheConstants.{BLOCK_BYTES}

-- ---- lists of bytes

join : (xs ys : List ℕ) → AreBytes xs → AreBytes ys → AreBytes (xs ++ ys)
join [] ys h g = g
join (x ∷ xs) ys h g = (h.0, join xs ys h.1 g)

from_all : (bs : List ℕ) → All (λ x. x < 2 ^ 8) bs → AreBytes bs
from_all [] h = tt
from_all (b ∷ bs) h = (All-head (λ x. x < 2 ^ 8) b bs h, from_all bs (All-tail (λ x. x < 2 ^ 8) b bs h))

taken : (n : ℕ) (bs : List ℕ) → AreBytes bs → AreBytes (take n bs)
taken zero bs h = tt
taken (suc n) [] h = tt
taken (suc n) (b ∷ bs) h = (h.0, taken n bs h.1)

left_of : (n : ℕ) (bs : List ℕ) → AreBytes bs → AreBytes (drop n bs)
left_of zero bs h = h
left_of (suc n) [] h = tt
left_of (suc n) (b ∷ bs) h = left_of n bs h.1

-- ---- numbers, texts and blocks

rest_low : (n : ℕ) → n % 256 < 256
rest_low n = omega arith

byte_low : (k n : ℕ) → int.byte_at k n < 256
byte_low zero n = rest_low n
byte_low (suc k) n = rest_low (n / 256 ^ suc k)

high_first : (k n : ℕ) → AreBytes (bytes_high_first k n)
high_first zero n = tt
high_first (suc k) n = (byte_low k n, high_first k n)

number_bytes : (w : Width) (n : ℕ) → AreBytes (to_be_bytes w n)
number_bytes w n = high_first (byte_len w) n

unit_of : (u : ℕ) (a b : Bool) → u < 65536 → (ltb 0 u && ltb u 128) ≡ a → ltb u 2048 ≡ b → AreBytes (cond a (u ∷ []) (cond b ((192 + u / 64) ∷ (128 + u % 64) ∷ []) ((224 + u / 4096) ∷ (128 + u / 64 % 64) ∷ (128 + u % 64) ∷ [])))
unit_of u true b lt e f = let low : u < 128 = ltb-true u 128 (and_parts (ltb 0 u) (ltb u 128) e).1 in (omega arith, tt)
unit_of u false true lt e f = let low : u < 2048 = ltb-true u 2048 f in (omega arith, (omega arith, tt))
unit_of u false false lt e f = (omega arith, (omega arith, (omega arith, tt)))

utf_bytes : (t : List ℕ) → AreUnits t → AreBytes (utf t)
utf_bytes [] h = tt
utf_bytes (u ∷ t) h = join (unit_bytes u) (utf t) (unit_of u (ltb 0 u && ltb u 128) (ltb u 2048) h.0 refl refl) (utf_bytes t h.1)

block_bytes : (p : List ℕ) → AreBytes p → AreBytes (block_of p)
block_bytes p h = go (ltb (length p) 256) refl
  where
    go : (b : Bool) → ltb (length p) 256 ≡ b → AreBytes (cond b (0x77 ∷ length p ∷ p) (0x7A ∷ (to_be_bytes w32 (length p) ++ p)))
    go true e = (omega arith, (ltb-true (length p) 256 e, h))
    go false e = (omega arith, join (to_be_bytes w32 (length p)) p (number_bytes w32 (length p)) h)

pieces_bytes : (k : ℕ) (b : List ℕ) → AreBytes b → AreBytes (flat_map block_of (pieces_in k b))
unfolding pieces_in
pieces_bytes zero b h = tt
pieces_bytes (suc k) [] h = tt
pieces_bytes (suc k) (x ∷ b) h =
    join (block_of (take BLOCK_BYTES (x ∷ b))) (flat_map block_of (pieces_in k (drop BLOCK_BYTES (x ∷ b)))) (block_bytes (take BLOCK_BYTES (x ∷ b)) (taken BLOCK_BYTES (x ∷ b) h)) (pieces_bytes k (drop BLOCK_BYTES (x ∷ b)) (left_of BLOCK_BYTES (x ∷ b) h))

blocks_bytes : (b : List ℕ) → AreBytes b → AreBytes (blocks b)
unfolding pieces
blocks_bytes b h = pieces_bytes (length b) b h

-- ---- tokens

abbrev TokenFits : Token → Type 0
TokenFits (raw r) = AreBytes r
TokenFits (truth b) = Unit {0}
TokenFits (want w) = Unit {0}
TokenFits (note is) = ItemsFit is

abbrev AllFit : List Token → Type 0
AllFit [] = Unit {0}
AllFit (t ∷ ts) = TokenFits t × AllFit ts

abbrev AreWritten : Writing → Type 0
AreWritten one = (n : ℕ) (s : Slot) → AreBytes (one n s).0

items_bytes : (one : Writing) → AreWritten one → (n : ℕ) (is : List Item) → ItemsFit is → AreBytes (write_items one n is).0
unfolding write_items
items_bytes one out n [] h = tt
items_bytes one out n (items.Bytes b ∷ is) h = join (blocks b) (write_items one n is).0 (blocks_bytes b (from_all b (All-head ItemFits (items.Bytes b) is h))) (items_bytes one out n is (All-tail ItemFits (items.Bytes b) is h))
items_bytes one out n (items.Ref s ∷ is) h = join (one n s).0 (write_items one (one n s).1 is).0 (out n s) (items_bytes one out (one n s).1 is (All-tail ItemFits (items.Ref s) is h))

token_bytes : (one : Writing) → AreWritten one → (n : ℕ) (t : Token) → TokenFits t → AreBytes (write_token one n t).0
token_bytes one out n (raw r) h = h
token_bytes one out n (truth true) h = (omega arith, tt)
token_bytes one out n (truth false) h = (omega arith, tt)
token_bytes one out n (want w) h = out n w.1
token_bytes one out n (note is) h = join (write_items one n is).0 (0x78 ∷ []) (items_bytes one out n is h) (omega arith, tt)

tokens_bytes : (one : Writing) → AreWritten one → (n : ℕ) (ts : List Token) → AllFit ts → AreBytes (write_all one n ts).0
unfolding write_all
tokens_bytes one out n [] h = tt
tokens_bytes one out n (t ∷ ts) h = join (write_token one n t).0 (write_all one (write_token one n t).1 ts).0 (token_bytes one out n t h.0) (tokens_bytes one out (write_token one n t).1 ts h.1)

-- ---- nodes as tokens

fit_join : (ts us : List Token) → AllFit ts → AllFit us → AllFit (ts ++ us)
fit_join [] us h g = g
fit_join (t ∷ ts) us h g = (h.0, fit_join ts us h.1 g)

fit_map : {X : Type 0} (f : X → Token) (P : X → Type 0) → ((x : X) → P x → TokenFits (f x)) → (xs : List X) → All P xs → AllFit (map f xs)
fit_map f P one [] h = tt
fit_map f P one (x ∷ xs) h = (one x (All-head P x xs h), fit_map f P one xs (All-tail P x xs h))

short_fits : (t : List ℕ) → TextFits t → TokenFits (short_text t)
short_fits t h = join (to_be_bytes w16 (length (utf t))) (utf t) (number_bytes w16 (length (utf t))) (utf_bytes t (units_are t h))

long_fits : (t : List ℕ) → TextFits t → TokenFits (long_text t)
long_fits t h = join (to_be_bytes w64 (length (utf t))) (utf t) (number_bytes w64 (length (utf t))) (utf_bytes t (units_are t h))

letter_low : (c : TypeCode) → letter c < 256
letter_low codes.Byte = omega arith
letter_low codes.Char = omega arith
letter_low codes.Double = omega arith
letter_low codes.Float = omega arith
letter_low codes.Int = omega arith
letter_low codes.Long = omega arith
letter_low codes.Short = omega arith
letter_low codes.Boolean = omega arith
letter_low codes.Array = omega arith
letter_low codes.Object = omega arith

fields_fit : (fs : List FieldDesc) → All NameFits fs → AllFit (field_tokens fs)
fields_fit [] h = tt
fields_fit (f ∷ fs) h = ((letter_low f.code, tt), (short_fits f.name (All-head NameFits f fs h), go (is_primitive f.code) (fields_fit fs (All-tail NameFits f fs h))))
  where
    go : (b : Bool) → AllFit (field_tokens fs) → AllFit (cond b (field_tokens fs) (want (places.Text, f.type_text) ∷ field_tokens fs))
    go true h = h
    go false h = (tt, h)

value_fits : (v : Value) → ValueFits v → TokenFits (value_token v)
value_fits (values.Byte v) h = (h, tt)
value_fits (values.Char v) h = number_bytes w16 v
value_fits (values.Double v) h = number_bytes w64 v
value_fits (values.Float v) h = number_bytes w32 v
value_fits (values.Int v) h = number_bytes w32 (cast_unsigned w32 v)
value_fits (values.Long v) h = number_bytes w64 (cast_unsigned w64 v)
value_fits (values.Short v) h = number_bytes w16 (cast_unsigned w16 v)
value_fits (values.Boolean v) h = tt
value_fits (values.Ref s) h = tt

elements_fit : (vs : Values) → ElementsFit vs → AllFit (element_tokens vs)
elements_fit (kinds.Bytes v) h = fit_map (λ x. raw (x ∷ [])) (λ x. x < 2 ^ 8) (λ x h. (h, tt)) v h
elements_fit (kinds.Chars v) h = fit_map (λ x. number w16 x) (λ x. x < 2 ^ 16) (λ x h. number_bytes w16 x) v h
elements_fit (kinds.Doubles v) h = fit_map (λ x. number w64 x) (λ x. x < 2 ^ 64) (λ x h. number_bytes w64 x) v h
elements_fit (kinds.Floats v) h = fit_map (λ x. number w32 x) (λ x. x < 2 ^ 32) (λ x h. number_bytes w32 x) v h
elements_fit (kinds.Ints v) h = fit_map (λ x. number w32 (cast_unsigned w32 x)) (FitsSigned w32) (λ x h. number_bytes w32 (cast_unsigned w32 x)) v h
elements_fit (kinds.Longs v) h = fit_map (λ x. number w64 (cast_unsigned w64 x)) (FitsSigned w64) (λ x h. number_bytes w64 (cast_unsigned w64 x)) v h
elements_fit (kinds.Shorts v) h = fit_map (λ x. number w16 (cast_unsigned w16 x)) (FitsSigned w16) (λ x h. number_bytes w16 (cast_unsigned w16 x)) v h
elements_fit (kinds.Bools v) h = fit_map (λ x. truth x) (λ x. Unit {0}) (λ x h. tt) v (λ k d lt. tt)
elements_fit (kinds.Refs v) h = fit_map (λ s. reference s) (λ x. Unit {0}) (λ x h. tt) v (λ k d lt. tt)

parts_fit : (ws : List Bool) (ps : List Part) → All PartFits ps → AllFit (part_tokens ws ps)
unfolding part_tokens
parts_fit [] [] h = tt
parts_fit (w ∷ ws) [] h = tt
parts_fit [] (p ∷ ps) h = tt
parts_fit (true ∷ ws) (p ∷ ps) h =
    let one = All-head PartFits p ps h in
    fit_join (map value_token p.values) (note p.note ∷ part_tokens ws ps) (fit_map value_token ValueFits value_fits p.values one.0) (one.1, parts_fit ws ps (All-tail PartFits p ps h))
parts_fit (false ∷ ws) (p ∷ ps) h = fit_join (map value_token p.values) (part_tokens ws ps) (fit_map value_token ValueFits value_fits p.values (All-head PartFits p ps h).0) (parts_fit ws ps (All-tail PartFits p ps h))

external_fit : (ps : List Part) → All PartFits ps → AllFit (external_tokens ps)
external_fit [] h = tt
external_fit (p ∷ ps) h = ((All-head PartFits p ps h).1, tt)

object_fits : (b : Bool) (ws : List Bool) (ps : List Part) → All PartFits ps → AllFit (cond b (external_tokens ps) (part_tokens ws ps))
object_fits true ws ps h = external_fit ps h
object_fits false ws ps h = parts_fit ws ps h

before_fit : (i : Node) → InRange i → AllFit (tokens_before i)
unfolding tokens_before
before_fit (Text t) h = tt
before_fit (Desc d) h = (short_fits d.name h.1.0, (number_bytes w64 (cast_unsigned w64 d.suid), tt))
before_fit (Proxy p) h = tt
before_fit (Object c ps) h = (tt, tt)
before_fit (Array c vs) h = (tt, tt)
before_fit (Class c) h = (tt, tt)
before_fit (Enum c t) h = (tt, tt)

text_fits : (b : Bool) (t : List ℕ) → TextFits t → AllFit (cond b (short_text t) (long_text t) ∷ [])
text_fits true t h = (short_fits t h, tt)
text_fits false t h = (long_fits t h, tt)

flags_low : (nodes : List Node) (d : ClassDesc) → is_shaped nodes (Desc d) ≡ true → d.flags < 256
unfolding is_shaped is_good_desc
flags_low nodes d h =
    let a = and_parts (is_short d.name && ltb (length d.fields) 32768) (is_good_desc d && (are_typed nodes d.fields && is_joined d.note)) h in
    let b = and_parts (is_good_desc d) (are_typed nodes d.fields && is_joined d.note) a.1 in
    let low = (flags_are d (and_parts (fit_flags d) (are_ordered d.fields) b.0).0).known in
    omega arith

after_fit : (nodes : List Node) (i : Node) → InRange i → is_shaped nodes i ≡ true → AllFit (tokens_after nodes i)
unfolding tokens_after
after_fit nodes (Text t) h s = text_fits (is_short t) t h.1
after_fit nodes (Desc d) h s = ((flags_low nodes d s, tt), (number_bytes w16 (length d.fields), fit_join (field_tokens d.fields) (note d.note ∷ want (places.Parent, d.parent) ∷ []) (fields_fit d.fields h.1.1) (h.0.1, (tt, tt))))
after_fit nodes (Proxy p) h s = (number_bytes w32 (length p.names), fit_join (map short_text p.names) (note p.note ∷ want (places.Parent, p.parent) ∷ []) (fit_map short_text TextFits short_fits p.names h.1) (h.0, (tt, tt)))
after_fit nodes (Object c ps) h s = object_fits (is_external_class (slice_get nodes c)) (writers nodes (length ps) (slots.Node c)) ps h.0
after_fit nodes (Array c vs) h s = (number_bytes w32 _, elements_fit vs h.0)
after_fit nodes (Class c) h s = tt
after_fit nodes (Enum c t) h s = (tt, tt)

-- ---- references

text_code : (b : Bool) → cond b 0x74 0x7C < 256
text_code true = omega arith
text_code false = omega arith

code_low : (i : Node) → code_of i < 256
code_low (Text t) = text_code (is_short t)
code_low (Desc d) = omega arith
code_low (Proxy p) = omega arith
code_low (Object c ps) = omega arith
code_low (Array c vs) = omega arith
code_low (Class c) = omega arith
code_low (Enum c t) = omega arith

abbrev AreShaped : List Node → Type 0
AreShaped F = (k : ℕ) (i : Node) → slice_get F k ≡ Some i → is_shaped F i ≡ true

one_bytes : (F : List Node) → All InRange F → AreShaped F → (left : ℕ) (inner : Writing) → AreWritten inner → AreWritten (write_one left F inner)
unfolding write_one
one_bytes F ranged good left inner out n slots.Null = (omega arith, tt)
one_bytes F ranged good left inner out n (slots.Node k) = go (ltb k n) (eqb left 0) (slice_get F k) refl
  where
    go : (a b : Bool) (o : Option Node) → slice_get F k ≡ o → AreBytes (cond a (0x71 ∷ to_be_bytes w32 (0x7E0000 + k), n) (cond b ([], n) (write_new F inner n k o))).0
    go true b o e = (omega arith, number_bytes w32 (0x7E0000 + k))
    go false true o e = tt
    go false false None e = tt
    go false false (Some i) e =
        let fit = all_at InRange F ranged k i e in
        (code_low i, join (write_all inner n (tokens_before i)).0 (write_all inner (k + 1) (tokens_after F i)).0 (tokens_bytes inner out n (tokens_before i) (before_fit i fit)) (tokens_bytes inner out (k + 1) (tokens_after F i) (after_fit F i fit (good k i e))))

at_bytes : (F : List Node) → All InRange F → AreShaped F → (left : ℕ) → AreWritten (write_at left F)
unfolding write_at
at_bytes F ranged good zero n s = one_bytes F ranged good zero nothing (λ n s. tt) n s
at_bytes F ranged good (suc d) n s = one_bytes F ranged good (suc d) (write_at d F) (at_bytes F ranged good d) n s

-- The bytes of a stream are.
pub canonical_bytes : (F : List Node) (is : List Item) → IsGraph F is → AllByRecursion (λ b. b < 256) (canonical F is)
unfolding canonical contents
canonical_bytes F is g =
    let inside = items_bytes (write_at 200 F) (at_bytes F (in_range F is g) (graph_shaped F is g) 200) 0 is g.bytes in
    (omega arith, (omega arith, (omega arith, (omega arith, all_bytes (contents F is) inside))))
