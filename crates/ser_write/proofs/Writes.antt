-- How what is written is put together, and that it is spelled.
use Rattle.std.proofs.Common.{◌≡◌, ℕ, zero, suc, ◌+◌, ◌-◌, ◌<◌, ◌≤◌, Bool, true, false, ltb, List, [], ◌∷◌, ◌++◌, map, length, drop, None, Some, Result, Ok, Err, slice_get, if◌then◌else◌, refl, sym, ap, ◌∙◌, ◌≢◌, append_assoc, arith}
use Rattle.std.specs.Int.{w32, w64, to_be_bytes, cast_unsigned, from_bool}
use Rattle.std.proofs.lemmas.Bool.{lt-ltb, le-ltb}
use Rattle.std.proofs.lemmas.List.{append-nil}
use Rattle.std.specs.List.{flat_map}
use Rattle.std.specs.declared.alloc.AllocError.{AllocError}
use Rattle.class_desc.specs.declared.slot.Slot.{Slot}
use Rattle.class_desc.specs.declared.slot.Slot.TheVariants as slots
use Rattle.class_desc.specs.declared.slot.Item.{Item}
use Rattle.class_desc.specs.declared.slot.Item.TheVariants as items
use Rattle.ser_values.specs.declared.value.Value.{Value}
use Rattle.ser_values.specs.declared.value.Value.TheVariants as values
use Rattle.ser_values.specs.declared.value.Values.{Values}
use Rattle.ser_values.specs.declared.value.Values.TheVariants as kinds
use Rattle.ser_values.specs.declared.node.Node.{Node}
use Rattle.class_desc.specs.declared.field.FieldDesc.{FieldDesc}
use Rattle.ser_values.specs.declared.value.Part.{Part}
use Rattle.ser_values.specs.declared.node.Node.TheVariants.{Text, Desc, Proxy, Object, Array, Class, Enum}
use Rattle.ser_values.specs.declared.node.SlotPlace.TheVariants as places
use Rattle.ser_values.specs.Shape.{is_short, count_of}
use Rattle.stream_grammar.specs.Spelled.{Token, raw, truth, want, note, reference, short_text, long_text, field_tokens, value_token, element_tokens, part_tokens}
use Rattle.ser_values.specs.Fronts.{put_block}
use Rattle.ser_write.proofs.Begins.{begins_on}
use Rattle.ser_write.specs.Canonical.{Written, Writing, pieces_in, pieces, blocks, before_more, write_items, write_token, write_all, value_bytes, primitive_bytes, short_bytes, long_bytes, text_bytes, code_of, tokens_before, note_tokens, tokens_after, write_new, write_one, write_at, front_bytes, after_front, ending_tokens, handle_bytes, Adds}
use Rattle.ser_write.specs.Nodes.{own_title, class_of, slots_of, behind_handle, rest_tokens}

-- ---- one after the other

pub adds_more : (old mid new : List ℕ) (m : ℕ) (r : Result ℕ AllocError) (w : Written) (f : ℕ → Written) → Adds old mid (Ok m) w → Adds mid new r (f m) → Adds old new r (before_more w f)
adds_more old mid new m (Err e) w f a b = begins_on old mid new w.0 a.0 b
adds_more old mid new m (Ok k) w f a b =
    let e : f m ≡ f w.1 = ap f a.1 in
    (b.0 ∙ (ap (λ (l : List ℕ). l ++ (f m).0) a.0 ∙ (append_assoc old w.0 (f m).0 ∙ ap (λ (v : Written). old ++ (w.0 ++ v.0)) e)), b.1 ∙ ap (λ (v : Written). v.1) e)

-- bytes alone
pub adds_bytes : (old mid new : List ℕ) (n : ℕ) (r : Result ℕ AllocError) (b : List ℕ) (f : ℕ → Written) → mid ≡ old ++ b → Adds mid new r (f n) → Adds old new r (before_more (b, n) f)
adds_bytes old mid new n r b f e h = adds_more old mid new n r (b, n) f (e, refl) h

more_assoc : (w : Written) (f g : ℕ → Written) → before_more (before_more w f) g ≡ before_more w (λ m. before_more (f m) g)
more_assoc w f g = ap (λ (l : List ℕ). (l, (g (f w.1).1).1)) (append_assoc w.0 (f w.1).0 (g (f w.1).1).0)

pub write_all-append : (one : Writing) (n : ℕ) (xs ys : List Token) → write_all one n (xs ++ ys) ≡ before_more (write_all one n xs) (λ m. write_all one m ys)
unfolding write_all
write_all-append one n [] ys = refl
write_all-append one n (x ∷ xs) ys =
    ap (λ (v : Written). ((write_token one n x).0 ++ v.0, v.1)) (write_all-append one (write_token one n x).1 xs ys) ∙ sym (more_assoc (write_token one n x) (λ m. write_all one m xs) (λ m. write_all one m ys))

nothing_more : (w : Written) → before_more w (λ m. ([], m)) ≡ w
nothing_more w = ap (λ (l : List ℕ). (l, w.1)) (append-nil w.0)

pub write_all-one : (one : Writing) (n : ℕ) (t : Token) → write_all one n (t ∷ []) ≡ write_token one n t
unfolding write_all
write_all-one one n t = nothing_more (write_token one n t)

-- ---- bytes alone

pub write_all-raw : {A : Type 0} (one : Writing) (n : ℕ) (f : A → List ℕ) (xs : List A) → write_all one n (map (λ x. raw (f x)) xs) ≡ (flat_map f xs, n)
unfolding write_all
write_all-raw one n f [] = refl
write_all-raw one n f (x ∷ xs) = ap (λ (v : Written). (f x ++ v.0, v.1)) (write_all-raw one n f xs)

flat_map-one : (xs : List ℕ) → flat_map (λ x. x ∷ []) xs ≡ xs
flat_map-one [] = refl
flat_map-one (x ∷ xs) = ap (λ (l : List ℕ). x ∷ l) (flat_map-one xs)

write_all-truth : (one : Writing) (n : ℕ) (xs : List Bool) → write_all one n (map (λ x. truth x) xs) ≡ (flat_map (λ x. from_bool x ∷ []) xs, n)
unfolding write_all
write_all-truth one n [] = refl
write_all-truth one n (x ∷ xs) = ap (λ (v : Written). (from_bool x ∷ v.0, v.1)) (write_all-truth one n xs)

alone : {w : Written} (b : List ℕ) (n : ℕ) → w ≡ (b, n) → w ≡ before_more (b, n) (λ m. ([], m))
alone b n e = e ∙ sym (nothing_more (b, n))

-- the elements of an array: first the bytes of primitive ones, and then the references
pub write_all-elements : (one : Writing) (n : ℕ) (vs : Values) → write_all one n (element_tokens vs) ≡ before_more (primitive_bytes vs, n) (λ m. write_all one m (map reference (slots_of vs)))
unfolding write_all
write_all-elements one n (kinds.Bytes v) = alone v n (write_all-raw one n (λ x. x ∷ []) v ∙ ap (λ (l : List ℕ). (l, n)) (flat_map-one v))
write_all-elements one n (kinds.Chars v) = alone _ n (write_all-raw one n _ v)
write_all-elements one n (kinds.Doubles v) = alone _ n (write_all-raw one n _ v)
write_all-elements one n (kinds.Floats v) = alone _ n (write_all-raw one n _ v)
write_all-elements one n (kinds.Ints v) = alone _ n (write_all-raw one n _ v)
write_all-elements one n (kinds.Longs v) = alone _ n (write_all-raw one n _ v)
write_all-elements one n (kinds.Shorts v) = alone _ n (write_all-raw one n _ v)
write_all-elements one n (kinds.Bools v) = alone _ n (write_all-truth one n v)
write_all-elements one n (kinds.Refs v) = refl

pub write_token-primitive : (one : Writing) (n : ℕ) (v : Value) → ((s : Slot) → v ≢ values.Ref s) → write_token one n (value_token v) ≡ (value_bytes v, n)
write_token-primitive one n (values.Byte v) h = refl
write_token-primitive one n (values.Char v) h = refl
write_token-primitive one n (values.Double v) h = refl
write_token-primitive one n (values.Float v) h = refl
write_token-primitive one n (values.Int v) h = refl
write_token-primitive one n (values.Long v) h = refl
write_token-primitive one n (values.Short v) h = refl
write_token-primitive one n (values.Boolean v) h = refl
write_token-primitive one n (values.Ref s) h = absurd (h s refl)

-- ---- levels

pub write_at_is : (left : ℕ) (nodes : List Node) (n : ℕ) (s : Slot) → write_at left nodes n s ≡ write_one left nodes (write_at (left - 1) nodes) n s
unfolding write_at write_one
write_at_is zero nodes n slots.Null = refl
write_at_is zero nodes n (slots.Node k) = refl
write_at_is (suc d) nodes n s = let e : suc d - 1 ≡ d = omega arith in rw e refl

pub again_adds : (old new : List ℕ) (left : ℕ) (nodes : List Node) (n k : ℕ) → new ≡ old ++ handle_bytes k → k < n → Adds old new (Ok n) (write_at left nodes n (slots.Node k))
unfolding write_one
again_adds old new left nodes n k is lt =
    let t : ltb k n ≡ true = lt-ltb k n lt in
    let e : write_at left nodes n (slots.Node k) ≡ (handle_bytes k, n) = write_at_is left nodes n (slots.Node k) ∙ rw t refl in
    rw e (is, refl)

pub flat_adds : (old : List ℕ) (left : ℕ) (nodes : List Node) (n k : ℕ) → n ≤ k → left ≡ 0 → Adds old old (Ok n) (write_at left nodes n (slots.Node k))
unfolding write_one
flat_adds old left nodes n k le z =
    let t : ltb k n ≡ false = le-ltb k n le in
    let e : write_at left nodes n (slots.Node k) ≡ ([], n) = write_at_is left nodes n (slots.Node k) ∙ rw (t, z) refl in
    rw e (sym (append-nil old), refl)

-- ---- a node

title_before : (one : Writing) (n : ℕ) (i : Node) → class_of i ≡ None → (write_all one n (tokens_before i)).0 ≡ own_title i
unfolding write_all tokens_before
title_before one n (Text t) none = refl
title_before one n (Desc d) none = ap (λ (l : List ℕ). short_bytes d.name ++ l) (append-nil (to_be_bytes w64 (cast_unsigned w64 d.suid)))
title_before one n (Proxy p) none = refl
title_before one n (Object c ps) none = absurd cc
title_before one n (Array c vs) none = absurd cc
title_before one n (Class c) none = absurd cc
title_before one n (Enum c t) none = absurd cc

-- no class stands before its handle
pub alone_adds : (nodes : List Node) (inner : Writing) (n k : ℕ) (i : Node) (old mid new : List ℕ) (r : Result ℕ AllocError) → class_of i ≡ None → mid ≡ old ++ code_of i ∷ own_title i → Adds mid new r (write_all inner (k + 1) (tokens_after nodes i))
    → Adds old new r (write_new nodes inner n k (Some i))
alone_adds nodes inner n k i old mid new r none e h =
    adds_more old mid new (k + 1) r (code_of i ∷ (write_all inner n (tokens_before i)).0, k + 1) (λ m. write_all inner m (tokens_after nodes i)) (rw (title_before inner n i none) (e, refl)) h

class_one : (one : Writing) (n b c : ℕ) → b ≡ c → write_all one n (want (places.Class, slots.Node b) ∷ []) ≡ one n (slots.Node c)
class_one one n b c same = write_all-one one n (want (places.Class, slots.Node b)) ∙ ap (λ k. one n (slots.Node k)) same

class_before : (one : Writing) (n c : ℕ) (i : Node) → class_of i ≡ Some c → write_all one n (tokens_before i) ≡ one n (slots.Node c)
unfolding write_all tokens_before
class_before one n c (Text t) is = absurd cc
class_before one n c (Desc d) is = absurd cc
class_before one n c (Proxy p) is = absurd cc
class_before one n c (Object b ps) is = class_one one n b c cc
class_before one n c (Array b vs) is = class_one one n b c cc
class_before one n c (Class b) is = class_one one n b c cc
class_before one n c (Enum b t) is = class_one one n b c cc

untitled : (i : Node) (c : ℕ) → class_of i ≡ Some c → own_title i ≡ []
untitled (Text t) c is = refl
untitled (Desc d) c is = absurd cc
untitled (Proxy p) c is = refl
untitled (Object b ps) c is = refl
untitled (Array b vs) c is = refl
untitled (Class b) c is = refl
untitled (Enum b t) c is = refl

-- its class stands before its handle
pub classed_adds : (nodes : List Node) (inner : Writing) (n k c : ℕ) (i : Node) (old o1 o2 new : List ℕ) (m : ℕ) (r : Result ℕ AllocError) → class_of i ≡ Some c → o1 ≡ old ++ code_of i ∷ own_title i → Adds o1 o2 (Ok m) (inner n (slots.Node c))
    → Adds o2 new r (write_all inner (k + 1) (tokens_after nodes i)) → Adds old new r (write_new nodes inner n k (Some i))
classed_adds nodes inner n k c i old o1 o2 new m r is e a h =
    let bare : o1 ≡ old ++ code_of i ∷ [] = e ∙ ap (λ (l : List ℕ). old ++ code_of i ∷ l) (untitled i c is) in
    let before = class_before inner n c i is in
    let head : o2 ≡ old ++ (code_of i ∷ (write_all inner n (tokens_before i)).0) = rw before (a.0 ∙ (ap (λ (l : List ℕ). l ++ (inner n (slots.Node c)).0) bare ∙ append_assoc old (code_of i ∷ []) (inner n (slots.Node c)).0)) in
    adds_more old o2 new (k + 1) r (code_of i ∷ (write_all inner n (tokens_before i)).0, k + 1) (λ m. write_all inner m (tokens_after nodes i)) (head, refl) h

pub note_adds : (one : Writing) (n m : ℕ) (is : List Item) (old mid new : List ℕ) → Adds old mid (Ok m) (write_items one n is) → new ≡ mid ++ 0x78 ∷ [] → Adds old new (Ok m) (write_all one n (note_tokens true is))
note_adds one n m is old mid new a e = rw (write_all-one one n (note is)) (adds_more old mid new m (Ok m) (write_items one n is) (λ m. (0x78 ∷ [], m)) a (e, refl))

-- fields, and the end of a description: its annotation and its superclass
pub class_adds : (one : Writing) (n m k : ℕ) (fs : List FieldDesc) (is : List Item) (s : Slot) (old o1 o2 new : List ℕ) (r : Result ℕ AllocError) → Adds old o1 (Ok m) (write_all one n (field_tokens fs)) → Adds o1 o2 (Ok k) (write_all one m (note_tokens true is)) → Adds o2 new r (one k s)
    → Adds old new r (write_all one n (field_tokens fs ++ ending_tokens is s))
class_adds one n m k fs is s old o1 o2 new r a b h =
    let parent : List Token = want (places.Parent, s) ∷ [] in
    let e : write_all one m (ending_tokens is s) ≡ before_more (write_all one m (note is ∷ [])) (λ m. write_all one m parent) = write_all-append one m (note is ∷ []) parent in
    let ending : Adds o1 new r (write_all one m (ending_tokens is s)) = rw e (adds_more o1 o2 new k r (write_all one m (note is ∷ [])) (λ m. write_all one m parent) b (rw (write_all-one one k (want (places.Parent, s))) h)) in
    rw (write_all-append one n (field_tokens fs) (ending_tokens is s)) (adds_more old o1 new m r (write_all one n (field_tokens fs)) (λ m. write_all one m (ending_tokens is s)) a ending)

text_alone : (one : Writing) (n : ℕ) (short : Bool) (t : List ℕ) → write_all one n ((if short then short_text t else long_text t) ∷ []) ≡ (if short then short_bytes t else long_bytes t, n)
text_alone one n true t = write_all-one one n (short_text t)
text_alone one n false t = write_all-one one n (long_text t)

-- behind a node's handle: first what is written in one piece
after_head : (nodes : List Node) (one : Writing) (n : ℕ) (i : Node) → write_all one n (tokens_after nodes i) ≡ before_more (behind_handle i, n) (λ m. write_all one m (rest_tokens nodes i))
unfolding write_all tokens_after
after_head nodes one n (Text t) = alone (text_bytes t) n (text_alone one n (is_short t) t)
after_head nodes one n (Desc d) = refl
after_head nodes one n (Proxy p) =
    let count = to_be_bytes w32 (length p.names) in
    let ending = ending_tokens p.note p.parent in
    ap (λ (v : Written). (count ++ v.0, v.1)) (write_all-append one n (map short_text p.names) ending ∙ ap (λ (w : Written). before_more w (λ m. write_all one m ending)) (write_all-raw one n short_bytes p.names))
    ∙ sym (more_assoc (count, n) (λ m. (flat_map short_bytes p.names, m)) (λ m. write_all one m ending))
after_head nodes one n (Object c ps) = refl
after_head nodes one n (Array c vs) =
    let count = to_be_bytes w32 (count_of vs) in
    ap (λ (v : Written). (count ++ v.0, v.1)) (write_all-elements one n vs)
    ∙ sym (more_assoc (count, n) (λ m. (primitive_bytes vs, m)) (λ m. write_all one m (map reference (slots_of vs))))
after_head nodes one n (Class c) = refl
after_head nodes one n (Enum c t) = refl

pub head_adds : (nodes : List Node) (one : Writing) (n : ℕ) (i : Node) (old mid new : List ℕ) (r : Result ℕ AllocError) → mid ≡ old ++ behind_handle i → Adds mid new r (write_all one n (rest_tokens nodes i)) → Adds old new r (write_all one n (tokens_after nodes i))
head_adds nodes one n i old mid new r e h = rw (after_head nodes one n i) (adds_bytes old mid new n r (behind_handle i) (λ m. write_all one m (rest_tokens nodes i)) e h)

-- nothing follows
pub head_alone : (nodes : List Node) (one : Writing) (n : ℕ) (i : Node) (old new : List ℕ) → rest_tokens nodes i ≡ [] → new ≡ old ++ behind_handle i → Adds old new (Ok n) (write_all one n (tokens_after nodes i))
unfolding write_all
head_alone nodes one n i old new none e = head_adds nodes one n i old new new (Ok n) e (rw none (sym (append-nil new), refl))

-- ---- parts

parts_are : (w : Bool) (ws : List Bool) (p : Part) (ps : List Part) → part_tokens (w ∷ ws) (p ∷ ps) ≡ map value_token p.values ++ (note_tokens w p.note ++ part_tokens ws ps)
unfolding part_tokens
parts_are true ws p ps = refl
parts_are false ws p ps = refl

no_parts : (ps : List Part) → part_tokens [] ps ≡ []
unfolding part_tokens
no_parts [] = refl
no_parts (p ∷ ps) = refl

drop_past : {A : Type 0} (xs : List A) (i : ℕ) → length xs ≤ i → drop i xs ≡ []
drop_past [] zero h = refl
drop_past [] (suc i) h = refl
drop_past (x ∷ xs) zero h = absurd (omega arith)
drop_past (x ∷ xs) (suc i) h = drop_past xs i (omega arith)

-- no more write methods are known
pub parts_stop : (one : Writing) (n : ℕ) (ws : List Bool) (ps : List Part) (i : ℕ) → length ws ≤ i → write_all one n (part_tokens (drop i ws) ps) ≡ ([], n)
unfolding write_all
parts_stop one n ws ps i h = let e = drop_past ws i h in rw (e, no_parts ps) refl

drop_here : {A : Type 0} (xs : List A) (i : ℕ) (x : A) → slice_get xs i ≡ Some x → drop i xs ≡ x ∷ drop (i + 1) xs
drop_here [] i x e = absurd cc
drop_here (y ∷ xs) zero x e = let same : y ≡ x = cc in ap (λ z. z ∷ xs) same
drop_here (y ∷ xs) (suc i) x e = let z : suc i + 1 ≡ suc (i + 1) = omega arith in rw z (drop_here xs i x e)

-- one part more, after whose values and note the rest is written
pub record NextPart (one : Writing) (n m : ℕ) (old new : List ℕ) (now rest : List Token) : Type 0 where
  pub bytes : new ++ (write_all one m rest).0 ≡ old ++ (write_all one n now).0
  pub count : (write_all one m rest).1 ≡ (write_all one n now).1

pub part_next : (one : Writing) (n n1 n2 : ℕ) (ws : List Bool) (ps : List Part) (i : ℕ) (w : Bool) (p : Part) (o1 o2 o3 : List ℕ) → slice_get ws i ≡ Some w → slice_get ps i ≡ Some p
    → Adds o1 o2 (Ok n1) (write_all one n (map value_token p.values)) → Adds o2 o3 (Ok n2) (write_all one n1 (note_tokens w p.note)) → NextPart one n n2 o1 o3 (part_tokens (drop i ws) (drop i ps)) (part_tokens (drop (i + 1) ws) (drop (i + 1) ps))
part_next one n n1 n2 ws ps i w p o1 o2 o3 at_w at_p a b =
    let rest = part_tokens (drop (i + 1) ws) (drop (i + 1) ps) in
    let va = write_all one n (map value_token p.values) in
    let vb = write_all one n1 (note_tokens w p.note) in
    let vc = write_all one n2 rest in
    let tokens : part_tokens (drop i ws) (drop i ps) ≡ map value_token p.values ++ (note_tokens w p.note ++ rest) = ap (λ (l : List Bool). part_tokens l (drop i ps)) (drop_here ws i w at_w) ∙ ap (λ (l : List Part). part_tokens (w ∷ drop (i + 1) ws) l) (drop_here ps i p at_p) ∙ parts_are w (drop (i + 1) ws) p (drop (i + 1) ps) in
    let whole : write_all one n (part_tokens (drop i ws) (drop i ps)) ≡ (va.0 ++ (vb.0 ++ vc.0), vc.1) =
    ap (write_all one n) tokens ∙ write_all-append one n (map value_token p.values) (note_tokens w p.note ++ rest)
    ∙ ap (λ (m : ℕ). before_more (va.0, m) (λ m. write_all one m (note_tokens w p.note ++ rest))) (sym a.1)
    ∙ ap (λ (v : Written). (va.0 ++ v.0, v.1)) (write_all-append one n1 (note_tokens w p.note) rest ∙ ap (λ (m : ℕ). before_more (vb.0, m) (λ m. write_all one m rest)) (sym b.1)) in
    let out : o3 ≡ (o1 ++ va.0) ++ vb.0 = b.0 ∙ ap (λ (l : List ℕ). l ++ vb.0) a.0 in
    record {
      bytes = ap (λ (l : List ℕ). l ++ vc.0) out ∙ (append_assoc (o1 ++ va.0) vb.0 vc.0 ∙ (append_assoc o1 va.0 (vb.0 ++ vc.0) ∙ ap (λ (v : Written). o1 ++ v.0) (sym whole)));
      count = ap (λ (v : Written). v.1) (sym whole);
    }

-- ---- bytes before items

-- They join those that the items begin with.
pub front_joins : (one : Writing) (n : ℕ) (front : List ℕ) (is : List Item) → write_items one n (put_block front is) ≡ before_more (blocks (front ++ front_bytes is), n) (λ m. write_items one m (after_front is))
unfolding write_items pieces pieces_in
front_joins one n [] [] = refl
front_joins one n [] (items.Bytes b ∷ is) = refl
front_joins one n [] (items.Ref s ∷ is) = refl
front_joins one n (x ∷ front) [] = rw (append-nil front) refl
front_joins one n (x ∷ front) (items.Bytes b ∷ is) = refl
front_joins one n (x ∷ front) (items.Ref s ∷ is) = rw (append-nil front) refl

pub front_adds : (one : Writing) (n : ℕ) (front run : List ℕ) (is : List Item) (old mid new : List ℕ) (r : Result ℕ AllocError) → run ≡ front ++ front_bytes is → mid ≡ old ++ blocks run → Adds mid new r (write_items one n (after_front is)) → Adds old new r (write_items one n (put_block front is))
front_adds one n front run is old mid new r joins first later =
    rw (front_joins one n front is, ← joins) (adds_bytes old mid new n r (blocks run) (λ m. write_items one m (after_front is)) first later)
