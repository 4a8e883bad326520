-- Loose nodes as they grow: what a slot named, it still names.
use Rattle.std.proofs.Common.{◌≡◌, ◌≢◌, ◌∙◌, ◌<◌, ◌≤◌, ◌+◌, ◌⊎◌, ℕ, zero, suc, Bool, true, false, List, [], ◌∷◌, ◌++◌, length, map, min, Option, Some, None, Result, Ok, Err, slice_get, get_or, take, drop, refl, ap, sym, arith, add-one, drop-cons, append_assoc, append-nil, length-append, inl, inr, subst}
use Rattle.class_desc.specs.declared.slot.Slot.{Slot}
use Rattle.class_desc.specs.declared.slot.Slot.TheVariants as slots
use Rattle.std.specs.List.{zip}
use Rattle.std.proofs.lemmas.List.{take_more, drop_all}
use Rattle.class_desc.specs.declared.field.FieldDesc.{FieldDesc}
use Rattle.class_desc.specs.declared.desc.ClassDesc.{ClassDesc}
use Rattle.class_desc.specs.declared.known_class.PartField.{PartField}
use Rattle.class_desc.specs.declared.known_class.KnownClass.{KnownClass}
use Rattle.class_desc.specs.KnownClass.{parts_of}
use Rattle.class_desc.specs.TypeCode.{is_primitive}
use Rattle.ser_values.specs.declared.fault.BuildFault.{BuildFault}
use Rattle.ser_values.specs.declared.fault.BuildFault.TheVariants.{OutOfMemory, TooManyNodes, WrongShape, TooDeep}
use Rattle.ser_values.specs.declared.node.Node.{Node}
use Rattle.ser_values.specs.declared.node.Node.TheVariants.{Text, Desc, Proxy, Object, Array, Class, Enum}
use Rattle.ser_values.specs.Builder.{AddsNode, IsFirstText, HasNoText, number_of}
use Rattle.java_shapes.specs.Objects.{same_text, node_at, text_in, text_at}
use Rattle.java_shapes.specs.Put.{Grows, Puts, NamesText, NamesType, NameTypes, IsClassAt, desc_with, field_with}
use Rattle.java_shapes.proofs.Same.{same_refl, same_true}

-- ---- growth

pub grows_then : {n m most : ℕ} {a b c : List Node} → Grows n a b → Grows m b c → n + m ≤ most → Grows most a c
grows_then {a = a} g h le = record {
  added = g.added ++ h.added;
  few = omega (arith, length-append g.added h.added, g.few, h.few);
  is = h.is ∙ (ap (λ (l : List Node). l ++ h.added) g.is ∙ append_assoc a g.added h.added);
}

grows_none : {n : ℕ} {a b : List Node} → b ≡ a → Grows n a b
grows_none {a = a} e = record { added = []; few = omega arith; is = e ∙ sym (append-nil a) }

pub puts_after : {A : Type 0} (Shape : List Node → A → Type 0) {n : ℕ} (m most : ℕ) {a b : List Node} (c : List Node) (r : Result A BuildFault) → Grows n a b → Puts m Shape b c r → n + m ≤ most → Puts most Shape a c r
puts_after Shape m most c (Ok s) g h le = (grows_then g h.0 le, h.1)
puts_after Shape m most {a = a} c (Err TooManyNodes) g h le = (grows_then g h.0 le, omega (arith, length-append a g.added, ap length g.is, g.few, h.1))
puts_after Shape m most c (Err OutOfMemory) g h le = (grows_then g h.0 le, tt)
puts_after Shape m most c (Err WrongShape) g h le = absurd h.1
puts_after Shape m most c (Err TooDeep) g h le = absurd h.1

pub puts_map : {A : Type 0} (Shape Other : List Node → A → Type 0) (n : ℕ) (a b : List Node) (r : Result A BuildFault) → Puts n Shape a b r → ((s : A) → Grows n a b → Shape b s → Other b s) → Puts n Other a b r
puts_map Shape Other n a b (Ok s) h f = (h.0, f s h.0 h.1)
puts_map Shape Other n a b (Err TooManyNodes) h f = h
puts_map Shape Other n a b (Err OutOfMemory) h f = h
puts_map Shape Other n a b (Err WrongShape) h f = absurd h.1
puts_map Shape Other n a b (Err TooDeep) h f = absurd h.1

get_last : (xs : List Node) (i : Node) → slice_get (xs ++ i ∷ []) (length xs) ≡ Some i
get_last [] i = refl
get_last (x ∷ xs) i = get_last xs i

pub puts_node : (old new : List Node) (i : Node) (r : Result Slot BuildFault) → AddsNode old new i r → Puts 1 (λ loose s. node_at loose s ≡ Some i) old new r
puts_node old new i (Ok s) h = (record { added = i ∷ []; few = omega arith; is = h.2 }, rw (h.1, h.2) (get_last old i))
puts_node old new i (Err TooManyNodes) h = (grows_none h.1, omega (arith, h.0))
puts_node old new i (Err OutOfMemory) h = (grows_none h.1, tt)
puts_node old new i (Err WrongShape) h = absurd h
puts_node old new i (Err TooDeep) h = absurd h

-- ---- what is named

pub puts_text : (old new : List Node) (t : List ℕ) (r : Result Slot BuildFault) → AddsNode old new (Text t) r → Puts 1 (λ loose s. text_at loose s ≡ Some t) old new r
puts_text old new t r h = puts_map (λ loose s. node_at loose s ≡ Some (Text t)) (λ loose s. text_at loose s ≡ Some t) 1 old new r (puts_node old new (Text t) r h) (λ s g e. rw e refl)

get_more : (xs ys : List Node) (k : ℕ) (i : Node) → slice_get xs k ≡ Some i → slice_get (xs ++ ys) k ≡ Some i
get_more [] ys k i h = absurd cc
get_more (x ∷ xs) ys zero i h = h
get_more (x ∷ xs) ys (suc k) i h = get_more xs ys k i h

node_more : (xs ys : List Node) (s : Slot) (i : Node) → node_at xs s ≡ Some i → node_at (xs ++ ys) s ≡ Some i
node_more xs ys slots.Null i h = absurd cc
node_more xs ys (slots.Node k) i h = get_more xs ys k i h

pub node_grown : {n : ℕ} {a b : List Node} (g : Grows n a b) (s : Slot) (i : Node) → node_at a s ≡ Some i → node_at b s ≡ Some i
node_grown {a = a} g s i h = rw g.is (node_more a g.added s i h)

text_is : (o : Option Node) (t : List ℕ) → text_in o ≡ Some t → o ≡ Some (Text t)
text_is None t h = absurd cc
text_is (Some (Text u)) t h = cc
text_is (Some (Desc d)) t h = absurd cc
text_is (Some (Proxy p)) t h = absurd cc
text_is (Some (Object c ps)) t h = absurd cc
text_is (Some (Array c vs)) t h = absurd cc
text_is (Some (Class c)) t h = absurd cc
text_is (Some (Enum c k)) t h = absurd cc

pub text_grown : {n : ℕ} {a b : List Node} (g : Grows n a b) (s : Slot) (t : List ℕ) → text_at a s ≡ Some t → text_at b s ≡ Some t
text_grown {a = a} g s t h = rw (node_grown g s (Text t) (text_is (node_at a s) t h)) refl

get_same : (xs ys : List Node) (k j : ℕ) (i : Node) → slice_get xs j ≡ Some i → k < j → slice_get (xs ++ ys) k ≡ slice_get xs k
get_same [] ys k j i h lt = absurd cc
get_same (x ∷ xs) ys zero j i h lt = refl
get_same (x ∷ xs) ys (suc k) zero i h lt = absurd (omega (arith, lt))
get_same (x ∷ xs) ys (suc k) (suc j) i h lt = get_same xs ys k j i h (omega (arith, lt))

first_grown : {n : ℕ} {a b : List Node} (g : Grows n a b) (t : List ℕ) (j : ℕ) → IsFirstText a t j → IsFirstText b t j
first_grown {a = a} g t j h = rw g.is (get_more a g.added j (Text t) h.0, λ k lt e. h.1 k lt (sym (get_same a g.added k j (Text t) h.0 lt) ∙ e))

named_grown : {n : ℕ} {a b : List Node} (g : Grows n a b) (primitive : Bool) (t : List ℕ) (s : Slot) → NamesText primitive a t s → NamesText primitive b t s
named_grown g true t s h = h
named_grown g false t s (j, is, first) = (j, is, first_grown g t j first)

pub types_grown : {n : ℕ} {a b : List Node} (g : Grows n a b) (fs : List PartField) (ss : List Slot) → NameTypes a fs ss → NameTypes b fs ss
types_grown g [] ss h = h
types_grown g (f ∷ fs) [] h = h
types_grown g (f ∷ fs) (s ∷ ss) h = (named_grown g (is_primitive f.code) f.type_text s h.0, types_grown g fs ss h.1)

pub types_more : (nodes : List Node) (fs : List PartField) (ss : List Slot) (f : PartField) (s : Slot) → NameTypes nodes fs ss → NamesType nodes f s → NameTypes nodes (fs ++ f ∷ []) (ss ++ s ∷ [])
types_more nodes [] [] f s h k = (k, refl)
types_more nodes [] (t ∷ ss) f s h k = absurd cc
types_more nodes (g ∷ fs) [] f s h k = absurd h
types_more nodes (g ∷ fs) (t ∷ ss) f s h k = (h.0, types_more nodes fs ss f s h.1 k)

pub class_grown : {n : ℕ} {a b : List Node} {which : KnownClass} {parent s : Slot} (g : Grows n a b) → IsClassAt a which parent s → IsClassAt b which parent s
class_grown {which = which} {parent = parent} {s = s} g h = record {
  texts = h.texts;
  typed = types_grown g (parts_of which).fields h.texts h.typed;
  is = node_grown g s (Desc (desc_with (parts_of which) h.texts parent)) h.is;
}

pub numbered : (nodes : List Node) (s : Slot) (i : Node) → node_at nodes s ≡ Some i → node_at nodes (slots.Node (number_of s)) ≡ Some i
numbered nodes slots.Null i h = absurd cc
numbered nodes (slots.Node k) i h = h

-- ---- shared texts

same_not : (u t : List ℕ) → same_text u t ≡ false → u ≢ t
same_not u t g e =
    let h : same_text t t ≡ false = subst (λ (v : List ℕ). same_text v t ≡ false) e g in
    let k : true ≡ false = sym (same_refl t) ∙ h in
    absurd cc

abbrev units_in : Node → List ℕ
units_in (Text t) = t
units_in _ = []

text_one : (u t : List ℕ) → Text u ≡ Text t → u ≡ t
text_one u t e = ap units_in e

abbrev or_empty : Option Node → Node
or_empty (Some i) = i
or_empty None = Text []

some_one : (i k : Node) → Some i ≡ Some k → i ≡ k
some_one i k e = ap or_empty e

-- A description is no text, and a text is no other text.
pub desc_differs : (d : ClassDesc) (t : List ℕ) → Some (Desc d) ≡ Some (Text t) → ⊥
desc_differs d t e = cc

pub texts_differ : (u t : List ℕ) → same_text u t ≡ false → Some (Text u) ≡ Some (Text t) → ⊥
texts_differ u t differ e = same_not u t differ (text_one u t (some_one (Text u) (Text t) e))

by_test : (u t : List ℕ) (b : Bool) → same_text u t ≡ b → (Text u ≡ Text t) ⊎ (Text u ≢ Text t)
by_test u t true e = inl (ap Text (same_true u t e))
by_test u t false e = inr (λ same. same_not u t e (text_one u t same))

is_or_not : (t : List ℕ) (i : Node) → (i ≡ Text t) ⊎ (i ≢ Text t)
is_or_not t (Text u) = by_test u t (same_text u t) refl
is_or_not t (Desc d) = inr (λ e. cc)
is_or_not t (Proxy p) = inr (λ e. cc)
is_or_not t (Object c ps) = inr (λ e. cc)
is_or_not t (Array c vs) = inr (λ e. cc)
is_or_not t (Class c) = inr (λ e. cc)
is_or_not t (Enum c k) = inr (λ e. cc)

abbrev Sought : List Node → List ℕ → Type 0
Sought nodes t = ((j : ℕ) × IsFirstText nodes t j) ⊎ HasNoText nodes t

not_before : (i : Node) (is : List Node) (t : List ℕ) (j : ℕ) → i ≢ Text t → ((k : ℕ) → k < j → slice_get is k ≢ Some (Text t)) → (k : ℕ) → k < suc j → slice_get (i ∷ is) k ≢ Some (Text t)
not_before i is t j d h zero lt = λ e. d (some_one i (Text t) e)
not_before i is t j d h (suc k) lt = h k (omega arith)

none_first : (i : Node) (is : List Node) (t : List ℕ) → i ≢ Text t → HasNoText is t → HasNoText (i ∷ is) t
none_first i is t d h zero = λ e. d (some_one i (Text t) e)
none_first i is t d h (suc k) = h k

later : (i : Node) (is : List Node) (t : List ℕ) → i ≢ Text t → Sought is t → Sought (i ∷ is) t
later i is t d (inl (j, first)) = inl (suc j, (first.0, not_before i is t j d first.1))
later i is t d (inr none) = inr (none_first i is t d none)

here : (i : Node) (is : List Node) (t : List ℕ) → Sought is t → (i ≡ Text t) ⊎ (i ≢ Text t) → Sought (i ∷ is) t
here i is t more (inl e) = inl (0, (ap Some e, λ k lt. absurd (omega arith)))
here i is t more (inr d) = later i is t d more

sought : (nodes : List Node) (t : List ℕ) → Sought nodes t
sought [] t = inr (λ k e. cc)
sought (i ∷ is) t = here i is t (sought is t) (is_or_not t i)

shared_at : (old new : List Node) (t : List ℕ) (r : Result Slot BuildFault) (j : ℕ) → IsFirstText old t j → r ≡ Ok (slots.Node j) → new ≡ old → Puts 1 (λ loose s. NamesText false loose t s) old new r
shared_at old new t r j h e f = rw (e, f) (grows_none refl, (j, refl, h))

get_before : (xs ys : List Node) (k : ℕ) → k < length xs → slice_get (xs ++ ys) k ≡ slice_get xs k
get_before [] ys k lt = absurd (omega (arith, lt))
get_before (x ∷ xs) ys zero lt = refl
get_before (x ∷ xs) ys (suc k) lt = get_before xs ys k (omega (arith, lt))

first_added : (xs : List Node) (t : List ℕ) → HasNoText xs t → IsFirstText (xs ++ Text t ∷ []) t (length xs)
first_added xs t none = (get_last xs (Text t), λ k lt e. none k (sym (get_before xs (Text t ∷ []) k lt) ∙ e))

puts_first : (old new : List Node) (t : List ℕ) (r : Result Slot BuildFault) → HasNoText old t → AddsNode old new (Text t) r → Puts 1 (λ loose s. NamesText false loose t s) old new r
puts_first old new t (Ok s) none h = (record { added = Text t ∷ []; few = omega arith; is = h.2 }, (length old, h.1, rw h.2 (first_added old t none)))
puts_first old new t (Err TooManyNodes) none h = (grows_none h.1, omega (arith, h.0))
puts_first old new t (Err OutOfMemory) none h = (grows_none h.1, tt)
puts_first old new t (Err WrongShape) none h = absurd h
puts_first old new t (Err TooDeep) none h = absurd h

pub puts_shared : (old new : List Node) (t : List ℕ) (r : Result Slot BuildFault) → ((j : ℕ) → IsFirstText old t j → (r ≡ Ok (slots.Node j)) × (new ≡ old)) → (HasNoText old t → AddsNode old new (Text t) r)
    → Puts 1 (λ loose s. NamesText false loose t s) old new r
puts_shared old new t r shared added = elim (sought old t) [
  | inl w ↦ let found = shared w.0 w.1 in shared_at old new t r w.0 w.1 found.0 found.1
  | inr none ↦ puts_first old new t r none (added none)
]

-- ---- known classes

pub types_step : (nodes : List Node) (fs : List PartField) (i : ℕ) (f : PartField) (ss more : List Slot) (s : Slot) → i < length fs → f ≡ get_or fs i f → NameTypes nodes (take i fs) ss → NamesType nodes f s
    → more ≡ ss ++ s ∷ [] → NameTypes nodes (take (i + 1) fs) more
types_step nodes fs i f ss more s lt is h k e =
    let front : take (i + 1) fs ≡ take i fs ++ f ∷ [] = take_more fs i f lt ∙ ap (λ (x : PartField). take i fs ++ x ∷ []) (sym is) in
    rw (front, e) (types_more nodes (take i fs) ss f s h k)

pub puts_class : (old mid new : List Node) (which : KnownClass) (parent : Slot) (fs : List PartField) (texts : List Slot) (desc : ClassDesc) (r : Result Slot BuildFault) → fs ≡ (parts_of which).fields
    → Grows (length fs) old mid → NameTypes mid fs texts → desc ≡ desc_with (parts_of which) texts parent → Puts 1 (λ loose s. node_at loose s ≡ Some (Desc desc)) mid new r
    → Puts (length (parts_of which).fields + 1) (λ loose s. IsClassAt loose which parent s) old new r
puts_class old mid new which parent fs texts desc r e g typed d h =
    puts_after (λ loose s. IsClassAt loose which parent s) 1 (length (parts_of which).fields + 1) new r g
    (puts_map (λ loose s. node_at loose s ≡ Some (Desc desc)) (λ loose s. IsClassAt loose which parent s) 1 mid new r h
    (λ s grown is. record { texts = texts; typed = subst (λ (l : List PartField). NameTypes new l texts) e (types_grown grown fs texts typed); is = is ∙ ap (λ (x : ClassDesc). Some (Desc x)) d }))
    (omega (arith, ap length e))

abbrev with_types : List PartField → List Slot → List FieldDesc
with_types fs ss = map (λ p. field_with p.0 p.1) (zip fs ss)

pub fields_step : (fs : List PartField) (ss : List Slot) (i : ℕ) (f : PartField) (e : Slot) (list more : List FieldDesc) (d : FieldDesc) (whole : List FieldDesc) → i < length fs → i < length ss
    → f ≡ get_or fs i f → d ≡ field_with f (get_or ss i e) → more ≡ list ++ d ∷ [] → list ++ with_types (drop i fs) (drop i ss) ≡ whole → more ++ with_types (drop (i + 1) fs) (drop (i + 1) ss) ≡ whole
fields_step fs ss i f e list more d whole h k is made added rest =
    let a : drop i fs ≡ f ∷ drop (i + 1) fs = rw (add-one) (drop-cons fs i f h ∙ ap (λ (x : PartField). x ∷ drop (suc i) fs) (sym is)) in
    let b : drop i ss ≡ get_or ss i e ∷ drop (i + 1) ss = rw (add-one) (drop-cons ss i e k) in
    let both : with_types (drop i fs) (drop i ss) ≡ d ∷ with_types (drop (i + 1) fs) (drop (i + 1) ss) = rw (a, b, made) refl in
    rw added (append_assoc list (d ∷ []) (with_types (drop (i + 1) fs) (drop (i + 1) ss)) ∙ (ap (λ (l : List FieldDesc). list ++ l) (sym both) ∙ rest))

no_types : (fs : List PartField) → with_types fs [] ≡ []
no_types [] = refl
no_types (f ∷ fs) = refl

types_end : (fs : List PartField) (ss : List Slot) (i : ℕ) → (length fs ≤ i) ⊎ (length ss ≤ i) → with_types (drop i fs) (drop i ss) ≡ []
types_end fs ss i (inl h) = rw (drop_all i fs h) refl
types_end fs ss i (inr h) = rw (drop_all i ss h) (no_types (drop i fs))

pub fields_end : (fs : List PartField) (ss : List Slot) (i : ℕ) (list whole : List FieldDesc) → (length fs ≤ i) ⊎ (length ss ≤ i) → list ++ with_types (drop i fs) (drop i ss) ≡ whole → list ≡ whole
fields_end fs ss i list whole h rest = sym (append-nil list) ∙ (ap (λ (l : List FieldDesc). list ++ l) (sym (types_end fs ss i h)) ∙ rest)

le_up : (a b : ℕ) → (a ≤ b) ⊎ (b ≤ a) → (suc a ≤ suc b) ⊎ (suc b ≤ suc a)
le_up a b (inl h) = inl (omega arith)
le_up a b (inr h) = inr (omega arith)

le_total : (a b : ℕ) → (a ≤ b) ⊎ (b ≤ a)
le_total zero b = inl (omega arith)
le_total (suc a) zero = inr (omega arith)
le_total (suc a) (suc b) = le_up a b (le_total a b)

pub either_ends : (a b i : ℕ) → min a b ≤ i → (a ≤ i) ⊎ (b ≤ i)
either_ends a b i h = elim (le_total a b) [
  | inl l ↦ inl (omega arith)
  | inr l ↦ inr (omega arith)
]
