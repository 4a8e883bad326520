-- What is written of a graph is a stream of its items.
use Rattle.std.proofs.Common.{◌≡◌, ◌||◌, ◌&&◌, not, ℕ, zero, suc, ◌+◌, ◌<◌, ◌≤◌, ◌^◌, Bool, true, false, cond, ltb, List, [], ◌∷◌, ◌++◌, map, length, take, drop, Option, Some, None, slice_get, refl, sym, ap, subst, ◌∙◌, append_assoc, add-one, arith, inl, inr}
use Rattle.std.specs.Prelude.{is_some}
use Rattle.std.specs.List.{flat_map, AllByRecursion}
use Rattle.std.specs.Int.{w32, to_be_bytes}
use Rattle.std.proofs.lemmas.Bool.{ltb-true, lt-ltb, le-ltb, and_parts}
use Rattle.std.proofs.lemmas.List.{append-nil}
use Rattle.std.proofs.lemmas.Option.{slice_get_within}
use Rattle.std.proofs.Math.Dec.{eqb-suc-zero}
use Rattle.mod_utf.specs.Utf.{utf}
use Rattle.class_desc.specs.declared.slot.Slot.{Slot}
use Rattle.class_desc.specs.declared.slot.Slot.TheVariants as slots
use Rattle.class_desc.specs.declared.slot.Item.{Item}
use Rattle.class_desc.specs.declared.slot.Item.TheVariants as items
use Rattle.class_desc.specs.declared.field.FieldDesc.{FieldDesc}
use Rattle.class_desc.specs.declared.desc.ClassDesc.{ClassDesc}
use Rattle.class_desc.specs.TypeCode.{is_primitive}
use Rattle.class_desc.specs.TypeText.{is_nil, element_of}
use Rattle.class_desc.specs.ClassDesc.{has_flag, lacks_flag, is_good_desc}
use Rattle.ser_values.specs.declared.value.Value.{Value}
use Rattle.ser_values.specs.declared.value.Value.TheVariants as values
use Rattle.ser_values.specs.declared.value.Values.{Values}
use Rattle.ser_values.specs.declared.value.Values.TheVariants as kinds
use Rattle.ser_values.specs.declared.value.Part.{Part}
use Rattle.ser_values.specs.declared.node.Node.{Node}
use Rattle.ser_values.specs.declared.node.Node.TheVariants.{Text, Desc, Proxy, Object, Array, Class, Enum}
use Rattle.ser_values.specs.declared.node.SlotPlace.TheVariants as places
use Rattle.ser_values.specs.Node.{Want, item_wants, after, inside}
use Rattle.ser_values.specs.Shape.{is_short, joined_from, is_joined, are_typed, are_short, fits_chain, is_external, fits_object, is_shaped}
use Rattle.ser_values.specs.Numbered.{Numbering, NumberAll, Numbers, no_numbers, Numbered, IsGraph}
use Rattle.ser_values.specs.Numbered as numbers
use Rattle.stream_grammar.specs.Spelled.{Token, raw, truth, want, note, short_text, long_text, reference, field_tokens, value_token, element_tokens, writers, part_tokens, Form, a_text, a_long_text, a_desc, a_proxy, an_object, an_external, an_array, a_class, an_enum, IsBlock, joined, One, SpellsBlocks, SpellsItems, SpellsAll, Spelling, Spell, a_null, again, fresh, never, Spells, IsStream}
use Rattle.ser_values.specs.Fronts.{put_block}
use Rattle.ser_values.proofs.FrontLaws.{later_joined, put_apart, put_both}
use Rattle.stream_grammar.proofs.Spelling.{token_wants, form_wants, Silent, parts_silent, nil_is}
use Rattle.stream_grammar.proofs.Shaped.{graph_shaped}
use Rattle.stream_grammar.proofs.OneReading.{one_reading}
use Rattle.std.proofs.Math.Logic.{∥∥₁_map, ∥∥₁_elim, ∥∥₁_prop}
use Rattle.stream_grammar.proofs.Chains.{not_both, chained_flag}
use Rattle.ser_write.proofs.Bytes.{canonical_bytes}
use Rattle.ser_write.specs.Canonical.{Written, Writing, block_of, pieces_in, pieces, blocks, write_items, write_all, code_of, tokens_before, is_external_class, external_tokens, object_tokens, tokens_after, write_new, write_one, nothing, write_at, contents, canonical, IsFull, SpellFully}
use Rattle.ser_write.specs.declared.pieces.TheConstants.{BLOCK_BYTES}

-- ---- blocks

-- the items with their bytes in pieces
abbrev cut : List Item → List Item
cut [] = []
cut (items.Bytes b ∷ is) = map items.Bytes (pieces b) ++ cut is
cut (items.Ref s ∷ is) = items.Ref s ∷ cut is

abbrev AllShort : List (List ℕ) → Type 0
AllShort [] = Unit {0}
AllShort (c ∷ cs) = (length c ≤ BLOCK_BYTES) × AllShort cs

take_short : {A : Type 0} (n : ℕ) (xs : List A) → length (take n xs) ≤ n
take_short zero xs = omega arith
take_short (suc n) [] = omega arith
take_short (suc n) (x ∷ xs) = let h = take_short n xs in omega arith

in_short : (k : ℕ) (b : List ℕ) → AllShort (pieces_in k b)
unfolding pieces_in
in_short zero b = tt
in_short (suc k) [] = tt
in_short (suc k) (x ∷ b) = (take_short BLOCK_BYTES (x ∷ b), in_short k (drop BLOCK_BYTES (x ∷ b)))

pieces_short : (b : List ℕ) → AllShort (pieces b)
unfolding pieces
pieces_short b = in_short (length b) b

abbrev concat : List (List ℕ) → List ℕ
concat [] = []
concat (c ∷ cs) = c ++ concat cs

take-drop : {A : Type 0} (n : ℕ) (xs : List A) → take n xs ++ drop n xs ≡ xs
take-drop zero xs = refl
take-drop (suc n) [] = refl
take-drop (suc n) (x ∷ xs) = ap (λ l. x ∷ l) (take-drop n xs)

drop_less : {A : Type 0} (n : ℕ) (xs : List A) → length (drop n xs) ≤ length xs
drop_less zero xs = omega arith
drop_less (suc n) [] = omega arith
drop_less (suc n) (x ∷ xs) = let h = drop_less n xs in omega arith

in_concat : (k : ℕ) (b : List ℕ) → length b ≤ k → concat (pieces_in k b) ≡ b
unfolding pieces_in
in_concat zero [] h = refl
in_concat zero (x ∷ b) h = absurd (omega arith)
in_concat (suc k) [] h = refl
in_concat (suc k) (x ∷ b) h =
    let d : length (drop 1023 b) ≤ length b = drop_less 1023 b in
    let more = in_concat k (drop BLOCK_BYTES (x ∷ b)) (omega arith) in
    ap (λ (l : List ℕ). take BLOCK_BYTES (x ∷ b) ++ l) more ∙ take-drop BLOCK_BYTES (x ∷ b)

concat-pieces : (b : List ℕ) → concat (pieces b) ≡ b
unfolding pieces
concat-pieces b = in_concat (length b) b (omega arith)

joined_pieces : (cs : List (List ℕ)) (is : List Item) → joined (map items.Bytes cs ++ is) ≡ put_block (concat cs) (joined is)
joined_pieces [] is = refl
joined_pieces (c ∷ cs) is = ap (put_block c) (joined_pieces cs is) ∙ sym (put_both c (concat cs) (joined is))

not_nil : (b : List ℕ) → not (false || is_nil b) ≡ true → is_nil b ≡ false
not_nil [] h = absurd cc
not_nil (x ∷ b) h = refl

joined_cut : (is : List Item) → is_joined is ≡ true → joined (cut is) ≡ is
unfolding joined_from
joined_cut [] h = refl
joined_cut (items.Ref s ∷ is) h = ap (λ (l : List Item). items.Ref s ∷ l) (joined_cut is h)
joined_cut (items.Bytes b ∷ is) h =
    let p = and_parts (not (false || is_nil b)) (joined_from true is) h in
    joined_pieces (pieces b) (cut is) ∙ ap (λ (l : List ℕ). put_block l (joined (cut is))) (concat-pieces b) ∙ ap (put_block b) (joined_cut is (later_joined is p.1)) ∙ put_apart b is (not_nil b p.0) p.1

is_block : (c : List ℕ) → length c ≤ BLOCK_BYTES → IsBlock c (block_of c)
is_block c h = go (ltb (length c) 256) refl
  where
    go : (b : Bool) → ltb (length c) 256 ≡ b → IsBlock c (cond b (0x77 ∷ length c ∷ c) (0x7A ∷ (to_be_bytes w32 (length c) ++ c)))
    go true e = inl (ltb-true (length c) 256 e, refl)
    go false e = inr (omega arith, refl)

blocks_spelled : (S : One) (cs : List (List ℕ)) (is : List Item) (n : ℕ) (bs rest : List ℕ) (m : ℕ) → AllShort cs → SpellsBlocks S is n bs rest m → SpellsBlocks S (map items.Bytes cs ++ is) n (flat_map block_of cs ++ bs) rest m
blocks_spelled S [] is n bs rest m short h = h
blocks_spelled S (c ∷ cs) is n bs rest m short h = (block_of c, flat_map block_of cs ++ bs, is_block c short.0, append_assoc (block_of c) (flat_map block_of cs) bs, blocks_spelled S cs is n bs rest m short.1 h)

-- ---- items and tokens

abbrev Spelt : One → Want → ℕ → ℕ → Written → Type 0
Spelt S w n m v = (v.1 ≡ m) × ((rest : List ℕ) → S w n (v.0 ++ rest) rest m)

abbrev IsWritten : Writing → Numbering → Spelling → Type 0
IsWritten one N S = (unread : List ℕ) (w : Want) (n m : ℕ) → N unread w n m → Spelt (S unread) w n m (one n w.1)

number_split : (N : Want → ℕ → ℕ → Type 0) (xs ys : List Want) (n m : ℕ) → NumberAll N (xs ++ ys) n m → (k : ℕ) × NumberAll N xs n k × NumberAll N ys k m
number_split N [] ys n m h = (n, refl, h)
number_split N (x ∷ xs) ys n m h = let r = number_split N xs ys h.0 m h.2 in (r.0, (h.0, h.1, r.1), r.2)

items_written : (one : Writing) (N : Numbering) (S : Spelling) → IsWritten one N S → (unread : List ℕ) (is : List Item) (n m : ℕ) → NumberAll (N unread) (item_wants is) n m
    → ((write_items one n is).1 ≡ m) × ((rest : List ℕ) → SpellsBlocks (S unread) (cut is) n ((write_items one n is).0 ++ rest) rest m)
unfolding write_items item_wants
items_written one N S written unread [] n m h = (sym h, λ rest. (refl, h))
items_written one N S written unread (items.Bytes b ∷ is) n m h =
    let more = items_written one N S written unread is n m h in
    (more.0, λ rest. subst (λ (bs : List ℕ). SpellsBlocks (S unread) (map items.Bytes (pieces b) ++ cut is) n bs rest m) (sym (append_assoc (blocks b) (write_items one n is).0 rest)) (blocks_spelled (S unread) (pieces b) (cut is) n ((write_items one n is).0 ++ rest) rest m (pieces_short b) (more.1 rest)))
items_written one N S written unread (items.Ref s ∷ is) n m h =
    let k = h.0 in
    let v = one n s in
    let first = written unread (places.Reference, s) n k h.1 in
    let more = items_written one N S written unread is k m h.2 in
    let same : write_items one v.1 is ≡ write_items one k is = ap (λ i. write_items one i is) first.0 in (
      ap (λ (x : Written). x.1) same ∙ more.0,
      λ rest.
          let tail = (write_items one v.1 is).0 ++ rest in
          let second : SpellsBlocks (S unread) (cut is) k tail rest m = subst (λ (x : Written). SpellsBlocks (S unread) (cut is) k (x.0 ++ rest) rest m) (sym same) (more.1 rest) in
          (tail, k, subst (λ (b : List ℕ). S unread (places.Reference, s) n b tail k) (sym (append_assoc v.0 (write_items one v.1 is).0 rest)) (first.1 tail), second),
    )

abbrev AllJoined : List Token → Type 0
AllJoined [] = Unit {0}
AllJoined (raw r ∷ ts) = AllJoined ts
AllJoined (truth b ∷ ts) = AllJoined ts
AllJoined (want w ∷ ts) = AllJoined ts
AllJoined (note is ∷ ts) = (is_joined is ≡ true) × AllJoined ts

tokens_written : (one : Writing) (N : Numbering) (S : Spelling) → IsWritten one N S → (unread : List ℕ) (ts : List Token) (n m : ℕ) → AllJoined ts → NumberAll (N unread) (token_wants ts) n m
    → ((write_all one n ts).1 ≡ m) × ((rest : List ℕ) → SpellsAll (S unread) ts n ((write_all one n ts).0 ++ rest) rest m)
unfolding write_all
tokens_written one N S written unread [] n m j h = (sym h, λ rest. (refl, h))
tokens_written one N S written unread (raw r ∷ ts) n m j h =
    let more = tokens_written one N S written unread ts n m j h in
    let w = write_all one n ts in
    (more.0, λ rest. (w.0 ++ rest, n, (append_assoc r w.0 rest, refl), more.1 rest))
tokens_written one N S written unread (truth true ∷ ts) n m j h =
    let more = tokens_written one N S written unread ts n m j h in
    (more.0, λ rest. ((write_all one n ts).0 ++ rest, n, (0, refl, refl), more.1 rest))
tokens_written one N S written unread (truth false ∷ ts) n m j h =
    let more = tokens_written one N S written unread ts n m j h in
    (more.0, λ rest. ((write_all one n ts).0 ++ rest, n, (refl, refl), more.1 rest))
tokens_written one N S written unread (want w ∷ ts) n m j h =
    let k = h.0 in
    let v = one n w.1 in
    let first = written unread w n k h.1 in
    let more = tokens_written one N S written unread ts k m j h.2 in
    let same : write_all one v.1 ts ≡ write_all one k ts = ap (λ i. write_all one i ts) first.0 in (
      ap (λ (x : Written). x.1) same ∙ more.0,
      λ rest.
          let tail = (write_all one v.1 ts).0 ++ rest in
          let second : SpellsAll (S unread) ts k tail rest m = subst (λ (x : Written). SpellsAll (S unread) ts k (x.0 ++ rest) rest m) (sym same) (more.1 rest) in
          (tail, k, subst (λ (b : List ℕ). S unread w n b tail k) (sym (append_assoc v.0 (write_all one v.1 ts).0 rest)) (first.1 tail), second),
    )
tokens_written one N S written unread (note is ∷ ts) n m j h =
    let p = number_split (N unread) (item_wants is) (token_wants ts) n m h in
    let k = p.0 in
    let v = write_items one n is in
    let first = items_written one N S written unread is n k p.1 in
    let more = tokens_written one N S written unread ts k m j.1 p.2 in
    let same : write_all one v.1 ts ≡ write_all one k ts = ap (λ i. write_all one i ts) first.0 in (
      ap (λ (x : Written). x.1) same ∙ more.0,
      λ rest.
          let w = write_all one v.1 ts in
          let tail = w.0 ++ rest in
          let flat : ((v.0 ++ 0x78 ∷ []) ++ w.0) ++ rest ≡ v.0 ++ (0x78 ∷ tail) = append_assoc (v.0 ++ 0x78 ∷ []) w.0 rest ∙ append_assoc v.0 (0x78 ∷ []) tail in
          let second : SpellsAll (S unread) ts k tail rest m = subst (λ (x : Written). SpellsAll (S unread) ts k (x.0 ++ rest) rest m) (sym same) (more.1 rest) in
          let noted : SpellsItems (S unread) is n (v.0 ++ (0x78 ∷ tail)) (0x78 ∷ tail) k = (cut is, first.1 (0x78 ∷ tail), sym (joined_cut is j.0)) in
          (tail, k, subst (λ (b : List ℕ). SpellsItems (S unread) is n b (0x78 ∷ tail) k) (sym flat) noted, second),
    )

-- ---- each node has the form that is written

external_form : (nodes : List Node) (c : ℕ) (ps : List Part) (d : ClassDesc) → slice_get nodes c ≡ Some (Desc d) → has_flag d.flags 4 ≡ true → is_external ps ≡ true
    → Form nodes (Object c ps) 0x73 (want (places.Class, slots.Node c) ∷ []) (external_tokens ps)
external_form nodes c [] d is four h = absurd cc
external_form nodes c (p ∷ []) d is four h = an_external c p d is four (nil_is p.values (and_parts (is_nil p.values) (is_joined p.note) h).0)
external_form nodes c (p ∷ q ∷ ps) d is four h = absurd cc

abbrev AreShaped : List Node → Type 0
AreShaped nodes = (k : ℕ) (i : Node) → slice_get nodes k ≡ Some i → is_shaped nodes i ≡ true

good_desc : (nodes : List Node) (d : ClassDesc) → is_shaped nodes (Desc d) ≡ true → is_good_desc d ≡ true
unfolding is_shaped
good_desc nodes d h =
    let a = and_parts (is_short d.name && ltb (length d.fields) 32768) (is_good_desc d && (are_typed nodes d.fields && is_joined d.note)) h in
    (and_parts (is_good_desc d) (are_typed nodes d.fields && is_joined d.note) a.1).0

-- an object of a class that is externalizable, or of one that isn't
pub data Kind (nodes : List Node) (c : ℕ) (ps : List Part) (o : Option Node) : Type 0 where
  external : is_external_class o ≡ true → (d : ClassDesc) → slice_get nodes c ≡ Some (Desc d) → has_flag d.flags 4 ≡ true → is_external ps ≡ true → Kind nodes c ps o
  chained : is_external_class o ≡ false → fits_chain nodes ps (length ps) (slots.Node c) ≡ true → Kind nodes c ps o

kind_of : (nodes : List Node) (c : ℕ) (ps : List Part) (o : Option Node) → AreShaped nodes → slice_get nodes c ≡ o → fits_object o ps (fits_chain nodes ps (length ps) (slots.Node c)) ≡ true → Kind nodes c ps o
kind_of nodes c ps None good is h = absurd cc
kind_of nodes c ps (Some (Text t)) good is h = absurd cc
kind_of nodes c ps (Some (Object b qs)) good is h = absurd cc
kind_of nodes c ps (Some (Array b vs)) good is h = absurd cc
kind_of nodes c ps (Some (Class b)) good is h = absurd cc
kind_of nodes c ps (Some (Enum b t)) good is h = absurd cc
kind_of nodes c ps (Some (Proxy q)) good is h = chained refl h
kind_of nodes c ps (Some (Desc d)) good is h = go (has_flag d.flags 4) (fits_chain nodes ps (length ps) (slots.Node c)) refl refl (and_parts (lacks_flag d.flags 16 && not (is_some (element_of d.name))) _ h).1
  where
    go : (four chain : Bool) → has_flag d.flags 4 ≡ four → fits_chain nodes ps (length ps) (slots.Node c) ≡ chain → (chain || ((four && has_flag d.flags 8) && is_external ps)) ≡ true → Kind nodes c ps (Some (Desc d))
    go true true e f h = absurd (not_both d (good_desc nodes d (good c (Desc d) is)) (chained_flag nodes ps c d is f) e)
    go true false e f h = external e d is e (and_parts (true && has_flag d.flags 8) (is_external ps) h).1
    go false true e f h = chained e f
    go false false e f h = absurd cc

object_form : (nodes : List Node) (c : ℕ) (ps : List Part) → AreShaped nodes → is_shaped nodes (Object c ps) ≡ true → Form nodes (Object c ps) 0x73 (want (places.Class, slots.Node c) ∷ []) (object_tokens nodes c ps)
unfolding is_shaped
object_form nodes c ps good h = elim (kind_of nodes c ps (slice_get nodes c) good refl h) [
  | external e d is four ext ↦ rw e (external_form nodes c ps d is four ext)
  | chained e chain ↦ rw e (an_object c ps chain)
]

text_form : (nodes : List Node) (t : List ℕ) → is_shaped nodes (Text t) ≡ true → Form nodes (Text t) (code_of (Text t)) (tokens_before (Text t)) (tokens_after nodes (Text t))
unfolding is_shaped tokens_before tokens_after
text_form nodes t h = go (is_short t) refl
  where
    go : (b : Bool) → is_short t ≡ b → Form nodes (Text t) (cond b 0x74 0x7C) [] (cond b (short_text t) (long_text t) ∷ [])
    go true e = a_text t (ltb-true (length (utf t)) 65536 e)
    go false e = a_long_text t (ltb-true (length (utf t)) (2 ^ 63) h)

form_of : (nodes : List Node) (i : Node) → AreShaped nodes → is_shaped nodes i ≡ true → Form nodes i (code_of i) (tokens_before i) (tokens_after nodes i)
unfolding tokens_before tokens_after
form_of nodes (Text t) good h = text_form nodes t h
form_of nodes (Desc d) good h = a_desc d
form_of nodes (Proxy p) good h = a_proxy p
form_of nodes (Object c ps) good h = object_form nodes c ps good h
form_of nodes (Array c vs) good h = an_array c vs
form_of nodes (Class c) good h = a_class c
form_of nodes (Enum c t) good h = an_enum c t

-- ---- notes are joined

joined-append : (xs ys : List Token) → AllJoined xs → AllJoined ys → AllJoined (xs ++ ys)
joined-append [] ys h g = g
joined-append (raw r ∷ xs) ys h g = joined-append xs ys h g
joined-append (truth b ∷ xs) ys h g = joined-append xs ys h g
joined-append (want w ∷ xs) ys h g = joined-append xs ys h g
joined-append (note is ∷ xs) ys h g = (h.0, joined-append xs ys h.1 g)

fields_joined : (fs : List FieldDesc) → AllJoined (field_tokens fs)
fields_joined [] = tt
fields_joined (f ∷ fs) = go (is_primitive f.code) (fields_joined fs)
  where
    go : (b : Bool) → AllJoined (field_tokens fs) → AllJoined (cond b (field_tokens fs) (want (places.Text, f.type_text) ∷ field_tokens fs))
    go true h = h
    go false h = h

raws_joined : {A : Type 0} (f : A → List ℕ) (xs : List A) → AllJoined (map (λ x. raw (f x)) xs)
raws_joined f [] = tt
raws_joined f (x ∷ xs) = raws_joined f xs

truths_joined : (xs : List Bool) → AllJoined (map (λ x. truth x) xs)
truths_joined [] = tt
truths_joined (x ∷ xs) = truths_joined xs

slots_joined : (ss : List Slot) → AllJoined (map reference ss)
slots_joined [] = tt
slots_joined (s ∷ ss) = slots_joined ss

values_joined : (vs : List Value) → AllJoined (map value_token vs)
values_joined [] = tt
values_joined (values.Byte v ∷ vs) = values_joined vs
values_joined (values.Char v ∷ vs) = values_joined vs
values_joined (values.Double v ∷ vs) = values_joined vs
values_joined (values.Float v ∷ vs) = values_joined vs
values_joined (values.Int v ∷ vs) = values_joined vs
values_joined (values.Long v ∷ vs) = values_joined vs
values_joined (values.Short v ∷ vs) = values_joined vs
values_joined (values.Boolean v ∷ vs) = values_joined vs
values_joined (values.Ref s ∷ vs) = values_joined vs

elements_joined : (vs : Values) → AllJoined (element_tokens vs)
elements_joined (kinds.Bytes v) = raws_joined _ v
elements_joined (kinds.Chars v) = raws_joined _ v
elements_joined (kinds.Doubles v) = raws_joined _ v
elements_joined (kinds.Floats v) = raws_joined _ v
elements_joined (kinds.Ints v) = raws_joined _ v
elements_joined (kinds.Longs v) = raws_joined _ v
elements_joined (kinds.Shorts v) = raws_joined _ v
elements_joined (kinds.Bools v) = truths_joined v
elements_joined (kinds.Refs v) = slots_joined v

parts_joined : (ws : List Bool) (ps : List Part) → Silent ws ps → AllJoined (part_tokens ws ps)
unfolding part_tokens
parts_joined [] [] h = tt
parts_joined [] (p ∷ ps) h = absurd h
parts_joined (w ∷ ws) [] h = absurd h
parts_joined (true ∷ ws) (p ∷ ps) h = joined-append (map value_token p.values) (note p.note ∷ part_tokens ws ps) (values_joined p.values) (h.1, parts_joined ws ps h.2)
parts_joined (false ∷ ws) (p ∷ ps) h = joined-append (map value_token p.values) (part_tokens ws ps) (values_joined p.values) (parts_joined ws ps h.2)

external_joined : (ps : List Part) → is_external ps ≡ true → AllJoined (external_tokens ps)
external_joined [] h = tt
external_joined (p ∷ []) h = ((and_parts (is_nil p.values) (is_joined p.note) h).1, tt)
external_joined (p ∷ q ∷ ps) h = absurd cc

object_joined : (nodes : List Node) (c : ℕ) (ps : List Part) → AreShaped nodes → is_shaped nodes (Object c ps) ≡ true → AllJoined (object_tokens nodes c ps)
unfolding is_shaped
object_joined nodes c ps good h = elim (kind_of nodes c ps (slice_get nodes c) good refl h) [
  | external e d is four ext ↦ rw e (external_joined ps ext)
  | chained e chain ↦ rw e (parts_joined (writers nodes (length ps) (slots.Node c)) ps (parts_silent nodes ps (slots.Node c) chain))
]

before_joined : (i : Node) → AllJoined (tokens_before i)
unfolding tokens_before
before_joined (Text t) = tt
before_joined (Desc d) = tt
before_joined (Proxy p) = tt
before_joined (Object c ps) = tt
before_joined (Array c vs) = tt
before_joined (Class c) = tt
before_joined (Enum c t) = tt

text_joined : (b : Bool) (t : List ℕ) → AllJoined (cond b (short_text t) (long_text t) ∷ [])
text_joined true t = tt
text_joined false t = tt

after_joined : (nodes : List Node) (i : Node) → AreShaped nodes → is_shaped nodes i ≡ true → AllJoined (tokens_after nodes i)
unfolding tokens_after is_shaped
after_joined nodes (Text t) good h = text_joined (is_short t) t
after_joined nodes (Desc d) good h =
    let a = and_parts (is_short d.name && ltb (length d.fields) 32768) (is_good_desc d && (are_typed nodes d.fields && is_joined d.note)) h in
    let b = and_parts (is_good_desc d) (are_typed nodes d.fields && is_joined d.note) a.1 in
    let j = (and_parts (are_typed nodes d.fields) (is_joined d.note) b.1).1 in
    joined-append (field_tokens d.fields) (note d.note ∷ want (places.Parent, d.parent) ∷ []) (fields_joined d.fields) (j, tt)
after_joined nodes (Proxy p) good h =
    let j = (and_parts (ltb (length p.names) (2 ^ 31) && are_short p.names) (is_joined p.note) h).1 in
    joined-append (map short_text p.names) (note p.note ∷ want (places.Parent, p.parent) ∷ []) (raws_joined _ p.names) (j, tt)
after_joined nodes (Object c ps) good h = object_joined nodes c ps good h
after_joined nodes (Array c vs) good h = elements_joined vs
after_joined nodes (Class c) good h = tt
after_joined nodes (Enum c t) good h = tt

-- ---- references

fresh_is : (F : List Node) (left : ℕ) (inner : Writing) (n k : ℕ) (i : Node) → n ≤ k → 0 < left → slice_get F k ≡ Some i → write_one left F inner n (slots.Node k) ≡ write_new F inner n k (Some i)
unfolding write_one
fresh_is F zero inner n k i le room is = absurd (omega arith)
fresh_is F (suc d) inner n k i le room is = let e : ltb k n ≡ false = le-ltb k n le in rw (e, eqb-suc-zero d, is) refl

one_written : (F : List Node) (left : ℕ) (inner : Writing) (N : Numbering) (S : Spelling) → AreShaped F → length F ≤ 65536 → IsWritten inner N S → IsWritten (write_one left F inner) (Numbers F left N) (Spell F left S)
unfolding write_one
one_written F left inner N S good few written unread w n m (numbers.a_null what ok same) =
    subst (λ (s : Slot). Spelt (Spell F left S unread) w n m (write_one left F inner n s)) (sym what) (sym same, λ rest. a_null what ok refl same)
one_written F left inner N S good few written unread w n m (numbers.again k i what is lt ok same) =
    let e1 : ltb k n ≡ true = lt-ltb k n lt in
    let e : write_one left F inner n (slots.Node k) ≡ (0x71 ∷ to_be_bytes w32 (0x7E0000 + k), n) = rw e1 refl in
    subst (λ (s : Slot). Spelt (Spell F left S unread) w n m (write_one left F inner n s)) (sym what)
    (subst (λ (v : Written). Spelt (Spell F left S unread) w n m v) (sym e) (sym same, λ rest. again k i what is lt ok refl same))
one_written F left inner N S good few written unread w n m (numbers.fresh k i what is le room admitted shaped befores afters) =
    let form = form_of F i good shaped in
    let wants = form_wants F i (code_of i) (tokens_before i) (tokens_after F i) form in
    let b = tokens_written inner N S written unread (tokens_before i) n k (before_joined i) (subst (λ (ws : List Want). NumberAll (N unread) ws n k) (sym wants.0) befores) in
    let inner_unread = inside unread k i in
    let numbered : NumberAll (N inner_unread) (token_wants (tokens_after F i)) (k + 1) m = subst (λ (ws : List Want). NumberAll (N inner_unread) ws (k + 1) m) (sym wants.1) (subst (λ j. NumberAll (N inner_unread) (after i) j m) (sym (add-one k)) afters) in
    let a = tokens_written inner N S written inner_unread (tokens_after F i) (k + 1) m (after_joined F i good shaped) numbered in
    let vb = write_all inner n (tokens_before i) in
    let va = write_all inner (k + 1) (tokens_after F i) in
    let lt = slice_get_within F k i is in
    let small : k < 65536 = omega arith in
    let e = fresh_is F left inner n k i le room is in
    subst (λ (s : Slot). Spelt (Spell F left S unread) w n m (write_one left F inner n s)) (sym what)
    (subst (λ (v : Written). Spelt (Spell F left S unread) w n m v) (sym e) (
      a.0,
      λ rest. fresh k i (code_of i) (tokens_before i) (tokens_after F i) (vb.0 ++ (va.0 ++ rest)) (va.0 ++ rest) what is le small room admitted shaped form
          (ap (λ (l : List ℕ). code_of i ∷ l) (append_assoc vb.0 va.0 rest)) (b.1 (va.0 ++ rest)) (subst (λ j. SpellsAll (S inner_unread) (tokens_after F i) j (va.0 ++ rest) rest m) (add-one k) (a.1 rest)),
    ))

at_written : (F : List Node) (left : ℕ) → AreShaped F → length F ≤ 65536 → IsWritten (write_at left F) (Numbered F left) (Spells F left)
unfolding write_at Numbered Spells
at_written F zero good few unread w n m h = one_written F zero nothing no_numbers never good few (λ unread w n m h. absurd h) unread w n m h
at_written F (suc d) good few unread w n m h = one_written F (suc d) (write_at d F) (Numbered F d) (Spells F d) good few (at_written F d good few) unread w n m h

-- What is written of a graph's items spells them, and with the head it is a stream.
pub contents_spelled : (F : List Node) (is : List Item) → IsGraph F is → (rest : List ℕ) → SpellsItems (Spells F 200 []) is 0 (contents F is ++ rest) rest (length F)
unfolding contents
contents_spelled F is g rest =
    let v = items_written (write_at 200 F) (Numbered F 200) (Spells F 200) (at_written F 200 (graph_shaped F is g) g.few_nodes) [] is 0 (length F) g.numbered in
    (cut is, v.1 rest, sym (joined_cut is g.joined))

pub canonical_stream : (F : List Node) (is : List Item) → IsGraph F is → IsStream F is (canonical F is)
unfolding canonical
canonical_stream F is g =
    let spelled = subst (λ (b : List ℕ). SpellsItems (Spells F 200 []) is 0 b [] (length F)) (append-nil (contents F is)) (contents_spelled F is g []) in
    record { contents = contents F is; headed = refl; spelled = spelled; numbers = g.numbers; units = g.units; few_parts = g.few_parts; are_bytes = canonical_bytes F is g }

-- Two graphs have the same canonical bytes only where they are equal.
pub canonical_alone : (F E : List Node) (is js : List Item) → ∥ IsGraph F is ∥₁ → ∥ IsGraph E js ∥₁ → canonical E js ≡ canonical F is → ∥ (E ≡ F) × (js ≡ is) ∥₁
canonical_alone F E is js g h e =
    ∥∥₁_elim g ∥∥₁_prop (λ a. ∥∥₁_map h (λ b. (
    let stream : IsStream E js (canonical F is) = subst (λ (bytes : List ℕ). IsStream E js bytes) e (canonical_stream E js b) in
    one_reading E F js is (canonical F is) stream (canonical_stream F is a))))

-- ---- no block is empty

pieces_full : (k : ℕ) (b : List ℕ) (is : List Item) → AllByRecursion IsFull is → AllByRecursion IsFull (map items.Bytes (pieces_in k b) ++ is)
unfolding pieces_in
pieces_full zero b is h = h
pieces_full (suc k) [] is h = h
pieces_full (suc k) (x ∷ b) is h = (tt, pieces_full k (drop BLOCK_BYTES (x ∷ b)) is h)

cut_full : (is : List Item) → AllByRecursion IsFull (cut is)
unfolding pieces
cut_full [] = tt
cut_full (items.Bytes b ∷ is) = pieces_full (length b) b (cut is) (cut_full is)
cut_full (items.Ref s ∷ is) = (tt, cut_full is)

-- What is written of a graph's items spells them in blocks of which none is empty.
pub contents_full : (F : List Node) (is : List Item) → IsGraph F is → SpellFully F is (contents F is)
unfolding contents
contents_full F is g =
    let v = items_written (write_at 200 F) (Numbered F 200) (Spells F 200) (at_written F 200 (graph_shaped F is g) g.few_nodes) [] is 0 (length F) g.numbered in
    record { blocks = cut is; full = cut_full is; same = sym (joined_cut is g.joined); spelled = v.1 }

-- Bytes by themselves are spelled so.
pub bytes_full : (b : List ℕ) → 0 < length b → SpellFully [] (items.Bytes b ∷ []) (blocks b)
unfolding pieces joined_from
bytes_full [] some = absurd (omega arith)
bytes_full (x ∷ b) some = record {
  blocks = map items.Bytes (pieces (x ∷ b)) ++ [];
  full = pieces_full (suc (length b)) (x ∷ b) [] tt;
  same = sym (joined_cut (items.Bytes (x ∷ b) ∷ []) refl);
  spelled = λ rest. blocks_spelled (Spells [] 200 []) (pieces (x ∷ b)) [] 0 rest rest 0 (pieces_short (x ∷ b)) (refl, refl);
}
