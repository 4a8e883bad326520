-- What is spelled is numbered.
use Rattle.std.proofs.Common.{◌≡◌, ◌&&◌, ◌||◌, ℕ, zero, suc, ◌≤◌, Bool, true, false, cond, List, [], ◌∷◌, ◌++◌, map, length, take, Option, Some, None, slice_get, refl, sym, ap, subst, ◌∙◌, append_assoc}
use Rattle.std.proofs.lemmas.List.{append-nil}
use Rattle.std.proofs.lemmas.List.Elements.{All-cons, All-head, All-tail}
use Rattle.std.proofs.lemmas.Bool.{and_parts}
use Rattle.class_desc.specs.declared.slot.Slot.{Slot}
use Rattle.class_desc.specs.declared.slot.Slot.TheVariants as slots
use Rattle.class_desc.specs.declared.slot.Item.{Item}
use Rattle.class_desc.specs.declared.slot.Item.TheVariants as items
use Rattle.class_desc.specs.declared.field.FieldDesc.{FieldDesc}
use Rattle.class_desc.specs.TypeCode.{is_primitive}
use Rattle.class_desc.specs.TypeText.{is_nil}
use Rattle.class_desc.specs.ClassDesc.{has_flag}
use Rattle.ser_values.specs.declared.value.Value.{Value}
use Rattle.ser_values.specs.declared.value.Value.TheVariants as values
use Rattle.ser_values.specs.declared.value.Values.{Values}
use Rattle.ser_values.specs.declared.value.Values.TheVariants as kinds
use Rattle.ser_values.specs.declared.value.Part.{Part}
use Rattle.ser_values.specs.declared.node.Node.{Node}
use Rattle.ser_values.specs.declared.node.Node.TheVariants.{Text, Desc, Proxy, Object, Array, Class, Enum}
use Rattle.ser_values.specs.declared.node.SlotPlace.TheVariants as places
use Rattle.ser_values.specs.Node.{Want, item_wants, value_wants, part_wants, field_wants, slot_wants, element_wants, before, after, inside}
use Rattle.ser_values.specs.Ranges.{ItemFits, ItemsFit}
use Rattle.ser_values.specs.Shape.{is_joined, joined_from, fit_values, fits_part, fits_above, fits_chain}
use Rattle.ser_values.specs.Numbered.{Numbering, NumberAll, Numbers, no_numbers, Numbered, IsGraph}
use Rattle.ser_values.specs.Numbered as numbers
use Rattle.ser_values.proofs.Ranged.{block_fits}
use Rattle.ser_values.proofs.FrontLaws.{put_wants, joined_put}
use Rattle.stream_grammar.specs.Spelled.{Token, raw, truth, want, note, short_text, reference, field_tokens, value_token, element_tokens, writers_above, writers, part_tokens, Form, a_text, a_long_text, a_desc, a_proxy, an_object, an_external, an_array, a_class, an_enum, One, SpellsBlocks, joined, SpellsAll, Spelling, Spell, a_null, again, fresh, never, Spells, IsStream}

-- what tokens want
abbrev pub token_wants : List Token → List Want
token_wants [] = []
token_wants (raw r ∷ ts) = token_wants ts
token_wants (truth b ∷ ts) = token_wants ts
token_wants (want w ∷ ts) = w ∷ token_wants ts
token_wants (note is ∷ ts) = item_wants is ++ token_wants ts

pub joined_wants : (is : List Item) → item_wants (joined is) ≡ item_wants is
unfolding item_wants
joined_wants [] = refl
joined_wants (items.Bytes p ∷ is) = put_wants p (joined is) ∙ joined_wants is
joined_wants (items.Ref s ∷ is) = ap (λ (l : List Want). (places.Reference, s) ∷ l) (joined_wants is)

-- ---- a form wants what its node does

pub token_wants-append : (xs ys : List Token) → token_wants (xs ++ ys) ≡ token_wants xs ++ token_wants ys
token_wants-append [] ys = refl
token_wants-append (raw r ∷ xs) ys = token_wants-append xs ys
token_wants-append (truth b ∷ xs) ys = token_wants-append xs ys
token_wants-append (want w ∷ xs) ys = ap (λ (l : List Want). w ∷ l) (token_wants-append xs ys)
token_wants-append (note is ∷ xs) ys = ap (λ (l : List Want). item_wants is ++ l) (token_wants-append xs ys) ∙ sym (append_assoc (item_wants is) (token_wants xs) (token_wants ys))

field_token_wants : (fs : List FieldDesc) → token_wants (field_tokens fs) ≡ field_wants fs
unfolding field_wants
field_token_wants [] = refl
field_token_wants (f ∷ fs) = go (is_primitive f.code) (field_token_wants fs)
  where
    go : (b : Bool) → token_wants (field_tokens fs) ≡ field_wants fs → token_wants (cond b (field_tokens fs) (want (places.Text, f.type_text) ∷ field_tokens fs)) ≡ cond b (field_wants fs) ((places.Text, f.type_text) ∷ field_wants fs)
    go true e = e
    go false e = ap (λ (l : List Want). (places.Text, f.type_text) ∷ l) e

value_token_wants : (vs : List Value) → token_wants (map value_token vs) ≡ value_wants vs
unfolding value_wants
value_token_wants [] = refl
value_token_wants (values.Byte v ∷ vs) = value_token_wants vs
value_token_wants (values.Char v ∷ vs) = value_token_wants vs
value_token_wants (values.Double v ∷ vs) = value_token_wants vs
value_token_wants (values.Float v ∷ vs) = value_token_wants vs
value_token_wants (values.Int v ∷ vs) = value_token_wants vs
value_token_wants (values.Long v ∷ vs) = value_token_wants vs
value_token_wants (values.Short v ∷ vs) = value_token_wants vs
value_token_wants (values.Boolean v ∷ vs) = value_token_wants vs
value_token_wants (values.Ref s ∷ vs) = ap (λ (l : List Want). (places.Reference, s) ∷ l) (value_token_wants vs)

-- a part for each description, with a joined note, and with none where there is no write method
abbrev pub Silent : List Bool → List Part → Type 0
Silent [] [] = Unit {0}
Silent [] (p ∷ ps) = ⊥
Silent (w ∷ ws) [] = ⊥
Silent (w ∷ ws) (p ∷ ps) = (w ≡ false → p.note ≡ []) × (is_joined p.note ≡ true) × Silent ws ps

part_token_wants : (ws : List Bool) (ps : List Part) → Silent ws ps → token_wants (part_tokens ws ps) ≡ part_wants ps
unfolding part_tokens part_wants item_wants
part_token_wants [] [] h = refl
part_token_wants [] (p ∷ ps) h = absurd h
part_token_wants (w ∷ ws) [] h = absurd h
part_token_wants (true ∷ ws) (p ∷ ps) h =
    token_wants-append (map value_token p.values) (note p.note ∷ part_tokens ws ps) ∙ rw (value_token_wants p.values, part_token_wants ws ps h.2) refl
part_token_wants (false ∷ ws) (p ∷ ps) h =
    token_wants-append (map value_token p.values) (part_tokens ws ps) ∙ rw (value_token_wants p.values, part_token_wants ws ps h.2, h.0 refl) refl

silent_push : (ws : List Bool) (ps : List Part) (w : Bool) (p : Part) → Silent ws ps → (w ≡ false → p.note ≡ []) × (is_joined p.note ≡ true) → Silent (ws ++ w ∷ []) (ps ++ p ∷ [])
silent_push [] [] w p h one = (one.0, one.1, tt)
silent_push [] (q ∷ ps) w p h one = absurd h
silent_push (v ∷ ws) [] w p h one = absurd h
silent_push (v ∷ ws) (q ∷ ps) w p h one = (h.0, h.1, silent_push ws ps w p h.2 one)

pub take-push : {A : Type 0} (xs : List A) (n : ℕ) (x : A) → slice_get xs n ≡ Some x → take (suc n) xs ≡ take n xs ++ x ∷ []
take-push [] n x e = absurd cc
take-push (y ∷ xs) zero x e = let same : y ≡ x = cc in ap (λ z. z ∷ []) same
take-push (y ∷ xs) (suc n) x e = ap (λ l. y ∷ l) (take-push xs n x e)

pub nil_is : {A : Type 0} (xs : List A) → is_nil xs ≡ true → xs ≡ []
nil_is [] h = refl
nil_is (x ∷ xs) h = absurd cc

silent_part : (fs : List FieldDesc) (w : Bool) (p : Part) → fits_part fs w (Some p) ≡ true → (w ≡ false → p.note ≡ []) × (is_joined p.note ≡ true)
silent_part fs w p h =
    let a = and_parts (fit_values fs p.values) ((w || is_nil p.note) && is_joined p.note) h in
    let b = and_parts (w || is_nil p.note) (is_joined p.note) a.1 in
    (λ none. let c : is_nil p.note ≡ true = rw none at b.0 in nil_is p.note c, b.1)

abbrev AreSilent : List Node → List Part → ℕ → Type 0
AreSilent nodes ps n = (s : Slot) → fits_chain nodes ps n s ≡ true → Silent (writers nodes n s) (take n ps)

-- one description more
silent_above : (nodes : List Node) (ps : List Part) (n : ℕ) → AreSilent nodes ps n → (o : Option Part) (i : Option Node) → slice_get ps n ≡ o → fits_above (fits_chain nodes ps n) o i ≡ true → Silent (writers_above (writers nodes n) i) (take (suc n) ps)
silent_above nodes ps n ih None None e h = absurd cc
silent_above nodes ps n ih (Some p) None e h = absurd cc
silent_above nodes ps n ih o (Some (Text t)) e h = absurd cc
silent_above nodes ps n ih o (Some (Object c qs)) e h = absurd cc
silent_above nodes ps n ih o (Some (Array c vs)) e h = absurd cc
silent_above nodes ps n ih o (Some (Class c)) e h = absurd cc
silent_above nodes ps n ih o (Some (Enum c t)) e h = absurd cc
silent_above nodes ps n ih None (Some (Desc d)) e h = let a = (and_parts (has_flag d.flags 2) (false && fits_chain nodes ps n d.parent) h).1 in absurd cc
silent_above nodes ps n ih None (Some (Proxy q)) e h = absurd cc
silent_above nodes ps n ih (Some p) (Some (Desc d)) e h =
    let a = and_parts (has_flag d.flags 2) (fits_part d.fields (has_flag d.flags 1) (Some p) && fits_chain nodes ps n d.parent) h in
    let b = and_parts (fits_part d.fields (has_flag d.flags 1) (Some p)) (fits_chain nodes ps n d.parent) a.1 in
    rw (take-push ps n p e) (silent_push (writers nodes n d.parent) (take n ps) (has_flag d.flags 1) p (ih d.parent b.1) (silent_part d.fields (has_flag d.flags 1) p b.0))
silent_above nodes ps n ih (Some p) (Some (Proxy q)) e h =
    let b = and_parts (fits_part [] false (Some p)) (fits_chain nodes ps n q.parent) h in
    rw (take-push ps n p e) (silent_push (writers nodes n q.parent) (take n ps) false p (ih q.parent b.1) (silent_part [] false p b.0))

chain_silent : (nodes : List Node) (ps : List Part) (n : ℕ) → AreSilent nodes ps n
unfolding fits_chain writers
chain_silent nodes ps zero s h = tt
chain_silent nodes ps (suc n) slots.Null h = absurd cc
chain_silent nodes ps (suc n) (slots.Node k) h = silent_above nodes ps n (chain_silent nodes ps n) (slice_get ps n) (slice_get nodes k) refl h

pub take-all : {A : Type 0} (xs : List A) → take (length xs) xs ≡ xs
take-all [] = refl
take-all (x ∷ xs) = ap (λ l. x ∷ l) (take-all xs)

pub parts_silent : (nodes : List Node) (ps : List Part) (s : Slot) → fits_chain nodes ps (length ps) s ≡ true → Silent (writers nodes (length ps) s) ps
parts_silent nodes ps s h = subst (λ (l : List Part). Silent (writers nodes (length ps) s) l) (take-all ps) (chain_silent nodes ps (length ps) s h)

no_wants : {A : Type 0} (f : A → List ℕ) (xs : List A) → token_wants (map (λ x. raw (f x)) xs) ≡ []
no_wants f [] = refl
no_wants f (x ∷ xs) = no_wants f xs

no_truths : (xs : List Bool) → token_wants (map (λ x. truth x) xs) ≡ []
no_truths [] = refl
no_truths (x ∷ xs) = no_truths xs

slot_token_wants : (ss : List Slot) → token_wants (map reference ss) ≡ slot_wants ss
unfolding slot_wants
slot_token_wants [] = refl
slot_token_wants (s ∷ ss) = ap (λ (l : List Want). (places.Reference, s) ∷ l) (slot_token_wants ss)

element_token_wants : (vs : Values) → token_wants (element_tokens vs) ≡ element_wants vs
element_token_wants (kinds.Bytes v) = no_wants _ v
element_token_wants (kinds.Chars v) = no_wants _ v
element_token_wants (kinds.Doubles v) = no_wants _ v
element_token_wants (kinds.Floats v) = no_wants _ v
element_token_wants (kinds.Ints v) = no_wants _ v
element_token_wants (kinds.Longs v) = no_wants _ v
element_token_wants (kinds.Shorts v) = no_wants _ v
element_token_wants (kinds.Bools v) = no_truths v
element_token_wants (kinds.Refs v) = slot_token_wants v

pub form_wants : (nodes : List Node) (i : Node) (code : ℕ) (befores afters : List Token) → Form nodes i code befores afters → (token_wants befores ≡ before i) × (token_wants afters ≡ after i)
unfolding before after part_wants value_wants
form_wants nodes _ _ _ _ (a_text t fits) = (refl, refl)
form_wants nodes _ _ _ _ (a_long_text t fits) = (refl, refl)
form_wants nodes _ _ _ _ (a_desc d) = (refl, token_wants-append (field_tokens d.fields) (note d.note ∷ want (places.Parent, d.parent) ∷ []) ∙ rw (field_token_wants d.fields) refl)
form_wants nodes _ _ _ _ (a_proxy p) = (refl, token_wants-append (map short_text p.names) (note p.note ∷ want (places.Parent, p.parent) ∷ []) ∙ ap (λ (l : List Want). l ++ (item_wants p.note ++ (places.Parent, p.parent) ∷ [])) (no_wants _ p.names))
form_wants nodes _ _ _ _ (an_object c ps chained) = (refl, part_token_wants (writers nodes (length ps) (slots.Node c)) ps (parts_silent nodes ps (slots.Node c) chained))
form_wants nodes _ _ _ _ (an_external c p d is external none) = (refl, rw none refl)
form_wants nodes _ _ _ _ (an_array c vs) = (refl, element_token_wants vs)
form_wants nodes _ _ _ _ (a_class c) = (refl, refl)
form_wants nodes _ _ _ _ (an_enum c t) = (refl, refl)

-- ---- what is spelled is numbered

abbrev Fewer : One → (Want → ℕ → ℕ → Type 0) → Type 0
Fewer S N = (w : Want) (n : ℕ) (bs rest : List ℕ) (m : ℕ) → S w n bs rest m → N w n m

blocks_numbered : (S : One) (N : Want → ℕ → ℕ → Type 0) → Fewer S N → (is : List Item) (ws : List Want) (n : ℕ) (bs rest : List ℕ) (k m : ℕ) → SpellsBlocks S is n bs rest k → NumberAll N ws k m → NumberAll N (item_wants is ++ ws) n m
unfolding item_wants
blocks_numbered S N f [] ws n bs rest k m h more = subst (λ j. NumberAll N ws j m) h.1 more
blocks_numbered S N f (items.Bytes p ∷ is) ws n bs rest k m h more = blocks_numbered S N f is ws n h.1 rest k m h.4 more
blocks_numbered S N f (items.Ref s ∷ is) ws n bs rest k m h more = (h.1, f (places.Reference, s) n bs h.0 h.1 h.2, blocks_numbered S N f is ws h.1 h.0 rest k m h.3 more)

tokens_numbered : (S : One) (N : Want → ℕ → ℕ → Type 0) → Fewer S N → (ts : List Token) (n : ℕ) (bs rest : List ℕ) (m : ℕ) → SpellsAll S ts n bs rest m → NumberAll N (token_wants ts) n m
tokens_numbered S N f [] n bs rest m h = h.1
tokens_numbered S N f (raw r ∷ ts) n bs rest m h = subst (λ j. NumberAll N (token_wants ts) j m) h.2.1 (tokens_numbered S N f ts h.1 h.0 rest m h.3)
tokens_numbered S N f (truth true ∷ ts) n bs rest m h = subst (λ j. NumberAll N (token_wants ts) j m) h.2.2 (tokens_numbered S N f ts h.1 h.0 rest m h.3)
tokens_numbered S N f (truth false ∷ ts) n bs rest m h = subst (λ j. NumberAll N (token_wants ts) j m) h.2.1 (tokens_numbered S N f ts h.1 h.0 rest m h.3)
tokens_numbered S N f (want w ∷ ts) n bs rest m h = (h.1, f w n bs h.0 h.1 h.2, tokens_numbered S N f ts h.1 h.0 rest m h.3)
tokens_numbered S N f (note is ∷ ts) n bs rest m h =
    let more = tokens_numbered S N f ts h.1 h.0 rest m h.3 in
    let r = blocks_numbered S N f h.2.0 (token_wants ts) n bs (0x78 ∷ h.0) h.1 m h.2.1 more in
    subst (λ ws. NumberAll N (ws ++ token_wants ts) n m) (sym (joined_wants h.2.0) ∙ ap item_wants (sym h.2.2)) r

spell_numbered : (nodes : List Node) (left : ℕ) (S : Spelling) (N : Numbering) → ((unread : List ℕ) → Fewer (S unread) (N unread)) → (unread : List ℕ) → Fewer (Spell nodes left S unread) (Numbers nodes left N unread)
spell_numbered nodes left S N f unread w n bs rest m (a_null what ok e same) = numbers.a_null what ok same
spell_numbered nodes left S N f unread w n bs rest m (again k i what is lt ok e same) = numbers.again k i what is lt ok same
spell_numbered nodes left S N f unread w n bs rest m (fresh k i code befores afters b b1 what is le few lt admitted shaped form e h1 h2) =
    let p = form_wants nodes i code befores afters form in
    numbers.fresh k i what is le lt admitted shaped
    (subst (λ ws. NumberAll (N unread) ws n k) p.0 (tokens_numbered (S unread) (N unread) (f unread) befores n b b1 k h1))
    (subst (λ ws. NumberAll (N (inside unread k i)) ws (suc k) m) p.1 (tokens_numbered (S (inside unread k i)) (N (inside unread k i)) (f (inside unread k i)) afters (suc k) b1 rest m h2))

-- What is spelled is numbered.
pub spells_numbered : (nodes : List Node) (d : ℕ) (unread : List ℕ) → Fewer (Spells nodes d unread) (Numbered nodes d unread)
unfolding Spells Numbered
spells_numbered nodes zero unread w n bs rest m h = spell_numbered nodes zero never no_numbers (λ u w n bs rest m h. absurd h) unread w n bs rest m h
spells_numbered nodes (suc d) unread w n bs rest m h = spell_numbered nodes (suc d) (Spells nodes d) (Numbered nodes d) (spells_numbered nodes d) unread w n bs rest m h

-- ---- joined items

pub joined_joined : (is : List Item) → is_joined (joined is) ≡ true
unfolding joined_from
joined_joined [] = refl
joined_joined (items.Bytes p ∷ is) = joined_put p (joined is) (joined_joined is)
joined_joined (items.Ref s ∷ is) = joined_joined is

pub joined_fit : (is : List Item) → ItemsFit is → ItemsFit (joined is)
joined_fit [] h = h
joined_fit (items.Bytes p ∷ is) h = block_fits p (joined is) (All-head ItemFits (items.Bytes p) is h) (joined_fit is (All-tail ItemFits (items.Bytes p) is h))
joined_fit (items.Ref s ∷ is) h = All-cons ItemFits (items.Ref s) (joined is) tt (joined_fit is (All-tail ItemFits (items.Ref s) is h))

-- The nodes and items of a stream are a graph.
pub stream_graph : (nodes : List Node) (items : List Item) (bytes : List ℕ) → IsStream nodes items bytes → length nodes ≤ 65536 → ItemsFit items → IsGraph nodes items
stream_graph nodes items bytes s few fit =
    let n = blocks_numbered (Spells nodes 200 []) (Numbered nodes 200 []) (spells_numbered nodes 200 []) s.spelled.0 [] 0 s.contents [] (length nodes) (length nodes) s.spelled.1 refl in
    let wants : item_wants s.spelled.0 ++ [] ≡ item_wants items = append-nil (item_wants s.spelled.0) ∙ sym (joined_wants s.spelled.0) ∙ ap item_wants (sym s.spelled.2) in
    record {
      numbered = subst (λ ws. NumberAll (Numbered nodes 200 []) ws 0 (length nodes)) wants n;
      joined = ap is_joined s.spelled.2 ∙ joined_joined s.spelled.0;
      few_nodes = few;
      few_parts = s.few_parts;
      numbers = s.numbers;
      units = s.units;
      bytes = fit;
    }
