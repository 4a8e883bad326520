-- A description and its type texts are numbered as the nodes of a graph.
use Rattle.std.proofs.Common.{◌≡◌, ℕ, suc, ◌+◌, ◌<◌, ◌≤◌, ◌^◌, Bool, true, false, cond, not, ◌&&◌, ltb, List, [], ◌∷◌, ◌++◌, length, map, filter, fold, slice_get, Some, refl, sym, ap, subst, ◌∙◌, arith, lt-ltb, length-append, append_assoc, w64}
use Rattle.std.specs.Prelude.{All}
use Rattle.std.specs.List.{AllByRecursion}
use Rattle.std.specs.List.Sorted.{IsStrictlySortedBy}
use Rattle.std.proofs.lemmas.Bool.{and_parts, and_from, not-true}
use Rattle.std.proofs.lemmas.List.{length-map}
use Rattle.std.proofs.lemmas.List.Elements.{All-nil, All-cons, All-from_recursion}
use borrow.Author.Gap.{read_sfits}
use Rattle.mod_utf.specs.Utf.{utf}
use Rattle.class_desc.specs.declared.slot.Slot.{Slot}
use Rattle.class_desc.specs.declared.slot.Slot.TheVariants as slots
use Rattle.class_desc.specs.declared.field.FieldDesc.{FieldDesc}
use Rattle.class_desc.specs.TypeCode.{is_primitive}
use Rattle.class_desc.specs.ClassDesc.{fit_flags, is_good_desc, are_ordered}
use Rattle.class_desc.proofs.Fields.{flags_are}
use Rattle.ser_values.specs.declared.node.Node.{Node}
use Rattle.ser_values.specs.declared.node.Node.TheVariants.{Text, Desc}
use Rattle.ser_values.specs.declared.node.SlotPlace.TheVariants as places
use Rattle.ser_values.specs.Node.{Want, is_text, admits, admits_null, takes, item_wants, field_wants, before, after}
use Rattle.ser_values.specs.Shape.{is_short, joined_from, are_typed, is_shaped, parts_in}
use Rattle.ser_values.specs.Ranges.{ItemFits, NodeFits, UnitsFitIn, NameFits}
use Rattle.ser_values.specs.Numbered.{a_null, again, fresh, Numbered, NumberAll, IsGraph}
use Rattle.ser_values.proofs.Added.{slice_get-map}
use Rattle.suid_calc.specs.declared.outline.Member.{Member}
use Rattle.suid_calc.specs.declared.outline.ClassOutline.{ClassOutline}
use Rattle.suid_calc.specs.Members.{name_of, compare}
use Rattle.suid_calc.specs.Reading.{is_name, is_good}
use Rattle.suid_calc.specs.Description.{is_serial, type_of, code_in, is_primitive_field, is_reference_field, with_text, with_type, texts_of, place_in, slot_in, field_of, fields_of, desc_with, desc_of, nodes_with, one_item, items_of, IsChecked}
use Rattle.suid_calc.proofs.WordLaws.{name_is}
use Rattle.suid_calc.proofs.FieldLaws.{AreVisible, type_visible, utf_itself, text_fits, field_is, all_append, later, fields_ordered, counted}
use Rattle.suid_calc.proofs.DescriptionLaws.{has, has_here, has_still, found, place_below, place_stays, place_new, Grows, grows, HasText, all_there, TypeHas, all_texts, few_texts, IsTyped, typed_all, AreBehind, typed_primitive, typed_reference, short_text}

-- ---- what the fields want

primitive_wants : (f : FieldDesc) (fs : List FieldDesc) → is_primitive f.code ≡ true → field_wants (f ∷ fs) ≡ field_wants fs
unfolding field_wants
primitive_wants f fs h = rw h refl

reference_wants : (f : FieldDesc) (fs : List FieldDesc) → is_primitive f.code ≡ false → field_wants (f ∷ fs) ≡ (places.Text, f.type_text) ∷ field_wants fs
unfolding field_wants
reference_wants f fs h = rw h refl

wants_append : (fs gs : List FieldDesc) → field_wants (fs ++ gs) ≡ field_wants fs ++ field_wants gs
unfolding field_wants
wants_append [] gs = refl
wants_append (f ∷ fs) gs = go (is_primitive f.code) (field_wants (fs ++ gs)) (field_wants fs) (field_wants gs) (wants_append fs gs)
  where
    go : (b : Bool) (whole front back : List Want) → whole ≡ front ++ back → cond b whole ((places.Text, f.type_text) ∷ whole) ≡ cond b front ((places.Text, f.type_text) ∷ front) ++ back
    go true whole front back e = e
    go false whole front back e = ap (λ (l : List Want). (places.Text, f.type_text) ∷ l) e

no_field_wants : field_wants [] ≡ []
unfolding field_wants
no_field_wants = refl

no_wants : (texts : List (List ℕ)) (ms : List Member) → field_wants (map (field_of texts) (filter is_primitive_field ms)) ≡ []
no_wants texts [] = no_field_wants
no_wants texts (m ∷ ms) = go (is_primitive_field m) refl (no_wants texts ms)
  where
    go : (b : Bool) → is_primitive_field m ≡ b → field_wants (map (field_of texts) (filter is_primitive_field ms)) ≡ []
        → field_wants (map (field_of texts) (cond b (m ∷ filter is_primitive_field ms) (filter is_primitive_field ms))) ≡ []
    go true e rest =
        let a = and_parts (is_serial m) (is_primitive (code_in (type_of m))) e in
        primitive_wants (field_of texts m) (map (field_of texts) (filter is_primitive_field ms)) a.1 ∙ rest
    go false e rest = rest

wants_are : (texts : List (List ℕ)) (ms : List Member) → field_wants (fields_of texts ms) ≡ field_wants (map (field_of texts) (filter is_reference_field ms))
wants_are texts ms =
    wants_append (map (field_of texts) (filter is_primitive_field ms)) (map (field_of texts) (filter is_reference_field ms))
    ∙ ap (λ (l : List Want). l ++ field_wants (map (field_of texts) (filter is_reference_field ms))) (no_wants texts ms)

-- ---- texts that are written

pub record IsWritable (t : List ℕ) : Type 0 where
  pub visible : AreVisible t
  pub short : length t ≤ 65535

writable : (m : Member) → is_good m ≡ true → TypeHas IsWritable m
writable m good r =
    let a = and_parts (is_serial m) (not (is_primitive (code_in (type_of m)))) r in
    let f = field_is m good a.0 in
    record { visible = type_visible (type_of m) f.typed; short = f.type_short }

shaped_text : (nodes : List Node) (t : List ℕ) → IsWritable t → is_shaped nodes (Text t) ≡ true
unfolding is_shaped
shaped_text nodes t w = let short = w.short in lt-ltb (length (utf t)) (2 ^ 63) (rw (utf_itself t w.visible) (omega (arith, short)))

num_again : (nodes : List Node) (d : ℕ) (u : List ℕ) (n j : ℕ) (t : List ℕ) → slice_get nodes (suc j) ≡ Some (Text t) → suc j < n → Numbered nodes (suc d) u (places.Text, slots.Node (suc j)) n n
unfolding Numbered takes is_text
num_again nodes d u n j t is less = again (suc j) (Text t) refl is less refl refl

num_fresh : (nodes : List Node) (d : ℕ) (u : List ℕ) (j : ℕ) (t : List ℕ) → slice_get nodes (suc j) ≡ Some (Text t) → IsWritable t → Numbered nodes (suc d) u (places.Text, slots.Node (suc j)) (suc j) (suc (suc j))
unfolding Numbered admits is_text before after
num_fresh nodes d u j t is w = fresh (suc j) (Text t) refl is (omega arith) (omega arith) refl (shaped_text nodes t w) refl refl

num_step : (nodes : List Node) (texts : List (List ℕ)) (d : ℕ) (u : List ℕ) (seen : List (List ℕ)) (t : List ℕ) → AreBehind nodes texts → IsWritable t → Grows (with_text seen t) texts
    → Numbered nodes (suc d) u (places.Text, slots.Node (suc (place_in texts t))) (suc (length seen)) (suc (length (with_text seen t)))
num_step nodes texts d u seen t behind w (more, grown) = go (has seen t) refl grown
  where
    go : (b : Bool) → has seen t ≡ b → texts ≡ cond b seen (seen ++ t ∷ []) ++ more
        → Numbered nodes (suc d) u (places.Text, slots.Node (suc (place_in texts t))) (suc (length seen)) (suc (length (cond b seen (seen ++ t ∷ []))))
    go true e g =
        let there : has texts t ≡ true = subst (λ (l : List (List ℕ)). has l t ≡ true) (sym g) (has_still seen more t e) in
        let place : place_in texts t ≡ place_in seen t = ap (λ (l : List (List ℕ)). place_in l t) g ∙ place_stays seen more t e in
        let below : place_in seen t < length seen = place_below seen t e in
        num_again nodes d u (suc (length seen)) (place_in texts t) t (behind (place_in texts t) t (found texts t there)) (omega (arith, place, below))
    go false e g =
        let whole : texts ≡ seen ++ t ∷ more = g ∙ append_assoc seen (t ∷ []) more in
        let there : has texts t ≡ true = subst (λ (l : List (List ℕ)). has l t ≡ true) (sym whole) (has_here seen more t) in
        let place : place_in texts t ≡ length seen = ap (λ (l : List (List ℕ)). place_in l t) whole ∙ place_new seen more t e in
        let many : suc (place_in texts t) ≡ length (seen ++ t ∷ []) = omega (arith, place, length-append seen (t ∷ [])) in
        subst (λ (n : ℕ). Numbered nodes (suc d) u (places.Text, slots.Node (suc (place_in texts t))) (suc n) (suc (length (seen ++ t ∷ [])))) place
        (subst (λ (n : ℕ). Numbered nodes (suc d) u (places.Text, slots.Node (suc (place_in texts t))) (suc (place_in texts t)) (suc n)) many
        (num_fresh nodes d u (place_in texts t) t (behind (place_in texts t) t (found texts t there)) w))

-- ---- the fields' texts in order

abbrev FieldsFrom : List Node → List (List ℕ) → ℕ → List ℕ → List (List ℕ) → List Member → Type 0
FieldsFrom nodes texts d u seen ms = NumberAll (Numbered nodes (suc d) u) (field_wants (map (field_of texts) (filter is_reference_field ms))) (suc (length seen)) (suc (length texts))

num_one : (nodes : List Node) (texts : List (List ℕ)) (d : ℕ) (u : List ℕ) (seen : List (List ℕ)) (m : Member) (ms : List Member) → AreBehind nodes texts → is_good m ≡ true → is_reference_field m ≡ true
    → Grows (with_text seen (type_of m)) texts → FieldsFrom nodes texts d u (with_text seen (type_of m)) ms
    → NumberAll (Numbered nodes (suc d) u) (field_wants (field_of texts m ∷ map (field_of texts) (filter is_reference_field ms))) (suc (length seen)) (suc (length texts))
num_one nodes texts d u seen m ms behind good r grown rest =
    let a = and_parts (is_serial m) (not (is_primitive (code_in (type_of m)))) r in
    let reference : is_primitive (code_in (type_of m)) ≡ false = not-true (is_primitive (code_in (type_of m))) a.1 in
    let slot : slots.Node (suc (place_in texts (type_of m))) ≡ slot_in texts (type_of m) = rw reference refl in
    let step = num_step nodes texts d u seen (type_of m) behind (writable m good r) grown in
    subst (λ (ws : List Want). NumberAll (Numbered nodes (suc d) u) ws (suc (length seen)) (suc (length texts)))
    (sym (reference_wants (field_of texts m) (map (field_of texts) (filter is_reference_field ms)) reference))
    (suc (length (with_text seen (type_of m))), subst (λ (s : Slot). Numbered nodes (suc d) u (places.Text, s) (suc (length seen)) (suc (length (with_text seen (type_of m))))) slot step, rest)

num_fields : (nodes : List Node) (texts : List (List ℕ)) (d : ℕ) (u : List ℕ) (seen : List (List ℕ)) (ms : List Member) → AreBehind nodes texts → AllByRecursion (λ m. is_good m ≡ true) ms
    → fold with_type seen ms ≡ texts → FieldsFrom nodes texts d u seen ms
num_fields nodes texts d u seen [] behind good is =
    subst (λ (ws : List Want). NumberAll (Numbered nodes (suc d) u) ws (suc (length seen)) (suc (length texts))) (sym no_field_wants) (ap (λ (l : List (List ℕ)). suc (length l)) (sym is))
num_fields nodes texts d u seen (m ∷ ms) behind good is = go (is_reference_field m) refl is (λ s e. num_fields nodes texts d u s ms behind good.1 e)
  where
    go : (b : Bool) → is_reference_field m ≡ b → fold with_type (cond b (with_text seen (type_of m)) seen) ms ≡ texts → ((s : List (List ℕ)) → fold with_type s ms ≡ texts → FieldsFrom nodes texts d u s ms)
        → NumberAll (Numbered nodes (suc d) u) (field_wants (map (field_of texts) (cond b (m ∷ filter is_reference_field ms) (filter is_reference_field ms)))) (suc (length seen)) (suc (length texts))
    go true e f rest =
        let g = grows (with_text seen (type_of m)) ms in
        num_one nodes texts d u seen m ms behind good.0 e (g.0, sym f ∙ g.1) (rest (with_text seen (type_of m)) f)
    go false e f rest = rest seen f

number_append : (One : Want → ℕ → ℕ → Type 0) (xs ys : List Want) (n k m : ℕ) → NumberAll One xs n k → NumberAll One ys k m → NumberAll One (xs ++ ys) n m
number_append One [] ys n k m h g = subst (λ (i : ℕ). NumberAll One ys i m) h g
number_append One (x ∷ xs) ys n k m (i, one, rest) g = (i, one, number_append One xs ys i k m rest g)

-- ---- the description's shape

-- what is known of an outline with few fields
pub record IsDescribable (o : ClassOutline) (texts : List (List ℕ)) : Type 0 where
  pub named : is_name o.name ≡ true
  pub good : AllByRecursion (λ m. is_good m ≡ true) o.members
  pub sorted : IsStrictlySortedBy compare o.members
  pub few : length (filter is_serial o.members) ≤ 32767
  pub texts_are : texts ≡ texts_of o.members

behind_desc : (texts : List (List ℕ)) (o : ClassOutline) → AreBehind (nodes_with texts o) texts
behind_desc texts o = λ k t e. slice_get-map (λ (t : List ℕ). Text t) texts k t e

abbrev IsReady : List (List ℕ) → Member → Type 0
IsReady texts m = (is_good m ≡ true) × HasText texts m

ready : (texts : List (List ℕ)) (ms : List Member) → AllByRecursion (λ m. is_good m ≡ true) ms → AllByRecursion (HasText texts) ms → AllByRecursion (IsReady texts) ms
ready texts [] g h = tt
ready texts (m ∷ ms) g h = ((g.0, h.0), ready texts ms g.1 h.1)

all_ready : (texts : List (List ℕ)) (o : ClassOutline) → IsDescribable o texts → AllByRecursion (IsReady texts) o.members
all_ready texts o h =
    ready texts o.members h.good (subst (λ (l : List (List ℕ)). AllByRecursion (HasText l) o.members) (sym h.texts_are) (all_there [] o.members))

typed_fields : (texts : List (List ℕ)) (o : ClassOutline) → IsDescribable o texts → are_typed (nodes_with texts o) (fields_of texts o.members) ≡ true
typed_fields texts o h =
    let each = all_ready texts o h in
    typed_all (nodes_with texts o) (fields_of texts o.members)
    (all_append (IsTyped (nodes_with texts o)) (map (field_of texts) (filter is_primitive_field o.members)) (map (field_of texts) (filter is_reference_field o.members))
    (later is_primitive_field (IsTyped (nodes_with texts o)) (IsReady texts) texts (λ m p q. typed_primitive (nodes_with texts o) texts m q.0 p) o.members each)
    (later is_reference_field (IsTyped (nodes_with texts o)) (IsReady texts) texts (λ m p q. typed_reference (nodes_with texts o) texts m (behind_desc texts o) q.0 (q.1 p) p) o.members each))

pub field_count : (texts : List (List ℕ)) (ms : List Member) → length (fields_of texts ms) ≡ length (filter is_serial ms)
field_count texts ms =
    length-append (map (field_of texts) (filter is_primitive_field ms)) (map (field_of texts) (filter is_reference_field ms))
    ∙ ap (λ (n : ℕ). n + length (map (field_of texts) (filter is_reference_field ms))) (length-map (filter is_primitive_field ms) (field_of texts))
    ∙ ap (λ (n : ℕ). length (filter is_primitive_field ms) + n) (length-map (filter is_reference_field ms) (field_of texts))
    ∙ counted ms

good_flags : (texts : List (List ℕ)) (o : ClassOutline) → fit_flags (desc_with texts o) ≡ true
unfolding fit_flags
good_flags texts o = refl

good_desc : (texts : List (List ℕ)) (o : ClassOutline) → IsDescribable o texts → is_good_desc (desc_with texts o) ≡ true
unfolding is_good_desc
good_desc texts o h = and_from (fit_flags (desc_with texts o)) (are_ordered (fields_of texts o.members)) (good_flags texts o) (fields_ordered texts o.members h.sorted)

short_title : (o : ClassOutline) → is_name o.name ≡ true → is_short o.name ≡ true
short_title o named = let n = name_is o.name named in let few = n.short in short_text o.name n.visible (omega (arith, few))

shaped_desc : (texts : List (List ℕ)) (o : ClassOutline) → IsDescribable o texts → is_shaped (nodes_with texts o) (Desc (desc_with texts o)) ≡ true
unfolding is_shaped joined_from
shaped_desc texts o h =
    let few = h.few in
    let many : length (fields_of texts o.members) < 32768 = omega (arith, few, field_count texts o.members) in
    and_from (is_short o.name && ltb (length (fields_of texts o.members)) 32768) _
    (and_from (is_short o.name) (ltb (length (fields_of texts o.members)) 32768) (short_title o h.named) (lt-ltb (length (fields_of texts o.members)) 32768 many))
    (and_from (is_good_desc (desc_with texts o)) _ (good_desc texts o h) (and_from (are_typed (nodes_with texts o) (fields_of texts o.members)) true (typed_fields texts o h) refl))

-- ---- its numbering

num_top : (nodes : List Node) (d : ℕ) (u : List ℕ) (n : ℕ) → Numbered nodes (suc d) u (places.Parent, slots.Null) n n
unfolding Numbered admits_null
num_top nodes d u n = a_null refl refl refl

num_null : (nodes : List Node) (d : ℕ) (u : List ℕ) (n : ℕ) → Numbered nodes (suc d) u (places.Reference, slots.Null) n n
unfolding Numbered admits_null
num_null nodes d u n = a_null refl refl refl

num_behind : (texts : List (List ℕ)) (o : ClassOutline) (d : ℕ) (u : List ℕ) → IsDescribable o texts
    → NumberAll (Numbered (nodes_with texts o) (suc d) u) (field_wants (fields_of texts o.members) ++ (places.Reference, slots.Null) ∷ (places.Parent, slots.Null) ∷ []) 1 (suc (length texts))
num_behind texts o d u h =
    number_append (Numbered (nodes_with texts o) (suc d) u) (field_wants (fields_of texts o.members)) ((places.Reference, slots.Null) ∷ (places.Parent, slots.Null) ∷ []) 1 (suc (length texts)) (suc (length texts))
    (subst (λ (ws : List Want). NumberAll (Numbered (nodes_with texts o) (suc d) u) ws 1 (suc (length texts))) (sym (wants_are texts o.members))
    (num_fields (nodes_with texts o) texts d u [] o.members (behind_desc texts o) h.good (sym h.texts_are)))
    (suc (length texts), num_null (nodes_with texts o) d u (suc (length texts)), (suc (length texts), num_top (nodes_with texts o) d u (suc (length texts)), refl))

num_desc : (texts : List (List ℕ)) (o : ClassOutline) (d : ℕ) (u : List ℕ) → IsDescribable o texts → Numbered (nodes_with texts o) (suc (suc d)) u (places.Reference, slots.Node 0) 0 (suc (length texts))
unfolding Numbered admits before after item_wants
num_desc texts o d u h = fresh 0 (Desc (desc_with texts o)) refl refl (omega arith) (omega arith) refl (shaped_desc texts o h) refl (num_behind texts o d _ h)

-- ---- its numbers and units

text_numbers : (texts : List (List ℕ)) → All NodeFits (map (λ t. Text t) texts)
text_numbers [] = All-nil NodeFits
text_numbers (t ∷ texts) = All-cons NodeFits (Text t) (map (λ t. Text t) texts) tt (text_numbers texts)

numbers_fit : (texts : List (List ℕ)) (o : ClassOutline) → All NodeFits (nodes_with texts o)
numbers_fit texts o = All-cons NodeFits (Desc (desc_with texts o)) (map (λ t. Text t) texts) (read_sfits w64 _, All-from_recursion ItemFits (one_item slots.Null) (tt, tt)) (text_numbers texts)

text_units : (texts : List (List ℕ)) → AllByRecursion IsWritable texts → All UnitsFitIn (map (λ t. Text t) texts)
text_units [] h = All-nil UnitsFitIn
text_units (t ∷ texts) h = let w = h.0 in All-cons UnitsFitIn (Text t) (map (λ t. Text t) texts) (text_fits t w.visible) (text_units texts h.1)

name_fits : (texts : List (List ℕ)) (m : Member) → is_good m ≡ true → is_serial m ≡ true → NameFits (field_of texts m)
name_fits texts m good s = let f = field_is m good s in text_fits (name_of m) f.name_visible

names_fit : (texts : List (List ℕ)) (ms : List Member) → AllByRecursion (λ m. is_good m ≡ true) ms → All NameFits (fields_of texts ms)
names_fit texts ms good =
    All-from_recursion NameFits (fields_of texts ms)
    (all_append NameFits (map (field_of texts) (filter is_primitive_field ms)) (map (field_of texts) (filter is_reference_field ms))
    (later is_primitive_field NameFits (λ m. is_good m ≡ true) texts (λ m p g. name_fits texts m g (and_parts (is_serial m) (is_primitive (code_in (type_of m))) p).0) ms good)
    (later is_reference_field NameFits (λ m. is_good m ≡ true) texts (λ m p g. name_fits texts m g (and_parts (is_serial m) (not (is_primitive (code_in (type_of m)))) p).0) ms good))

types_writable : (ms : List Member) → AllByRecursion (λ m. is_good m ≡ true) ms → AllByRecursion (TypeHas IsWritable) ms
types_writable [] good = tt
types_writable (m ∷ ms) good = (writable m good.0, types_writable ms good.1)

pub texts_writable : (texts : List (List ℕ)) (o : ClassOutline) → IsDescribable o texts → AllByRecursion IsWritable texts
texts_writable texts o h = subst (λ (l : List (List ℕ)). AllByRecursion IsWritable l) (sym h.texts_are) (all_texts IsWritable [] o.members tt (types_writable o.members h.good))

units_fit : (texts : List (List ℕ)) (o : ClassOutline) → IsDescribable o texts → All UnitsFitIn (nodes_with texts o)
units_fit texts o h =
    let n = name_is o.name h.named in
    All-cons UnitsFitIn (Desc (desc_with texts o)) (map (λ t. Text t) texts) (text_fits o.name n.visible, names_fit texts o.members h.good) (text_units texts (texts_writable texts o h))

text_parts : (texts : List (List ℕ)) → parts_in (map (λ t. Text t) texts) ≡ 0
unfolding parts_in
text_parts [] = refl
text_parts (t ∷ texts) = let h = text_parts texts in omega arith

-- the fields, and the null of the annotation
part_count : (texts : List (List ℕ)) (o : ClassOutline) → parts_in (nodes_with texts o) ≡ length (fields_of texts o.members) + 1
unfolding parts_in item_wants
part_count texts o = let h = text_parts texts in omega arith

node_count : (texts : List (List ℕ)) (o : ClassOutline) → length (nodes_with texts o) ≡ suc (length texts)
node_count texts o = ap suc (length-map texts (λ t. Text t))

no_bytes : AllByRecursion ItemFits items_of
no_bytes = (tt, tt)

pub is_graph : (texts : List (List ℕ)) (o : ClassOutline) → IsDescribable o texts → IsGraph (nodes_with texts o) items_of
unfolding item_wants joined_from
is_graph texts o h =
    let few = h.few in
    let many : length texts ≤ 32767 = rw h.texts_are (omega (arith, few, few_texts o.members)) in
    record {
      numbered = (suc (length texts), num_desc texts o 198 [] h, node_count texts o);
      joined = refl;
      few_nodes = omega (arith, node_count texts o, many);
      few_parts = omega (arith, few, part_count texts o, field_count texts o.members);
      numbers = numbers_fit texts o;
      units = units_fit texts o h;
      bytes = All-from_recursion ItemFits items_of no_bytes;
    }

pub checked : (o : ClassOutline) → IsDescribable o (texts_of o.members) → IsChecked o
checked o h = (flags_are (desc_of o) (good_flags (texts_of o.members) o), fields_ordered (texts_of o.members) o.members h.sorted)
