-- The nodes that were read so far, beside those of the whole graph.
use Rattle.std.proofs.Common.{◌≡◌, ◌≢◌, ℕ, zero, suc, ◌+◌, ◌<◌, ◌≤◌, ◌⊎◌, Bool, true, false, cond, List, [], ◌∷◌, ◌++◌, length, drop, Some, None, Option, Result, Ok, slice_get, refl, sym, ap, subst, ◌∙◌, arith, inl, inr}
use Rattle.std.proofs.lemmas.Bool.{cases_lt, cases_eq, le-ltb}
use Rattle.class_desc.specs.declared.slot.Slot.{Slot}
use Rattle.class_desc.specs.declared.slot.Slot.TheVariants as slots
use Rattle.ser_values.specs.declared.node.Node.{Node}
use Rattle.ser_values.specs.declared.node.Node.TheVariants.{Text, Desc, Proxy, Object, Array, Class, Enum}
use Rattle.ser_values.specs.declared.node.SlotPlace.{SlotPlace}
use Rattle.ser_values.specs.declared.node.SlotPlace.TheVariants as places
use Rattle.ser_values.specs.Node.{has, is_desc, is_text, inside}
use Rattle.ser_values.specs.Shape.{parts_of, parts_in}
use Rattle.stream_grammar.specs.Reading.{Fault, ◌>>=◌, Progress, add_parts, counting}
use Rattle.ser_values.proofs.Lists.{slice_get-append_left, slice_get-append_seam, has-append_no, has-append_other, length_push, some_same, still_not}
use Rattle.stream_grammar.proofs.Leading.{SameAbove, SameChain, SameUp}

-- ---- what stays the same as nodes are read

-- what the nodes have of the graph, those that come later have too
abbrev pub Keeps : List Node → List Node → List Node → Type 0
Keeps F N M = (j : ℕ) → slice_get F j ≡ slice_get N j → slice_get F j ≡ slice_get M j

above_keeps : (F N M : List Node) (n : ℕ) → ((s : Slot) → SameChain F N n s → SameChain F M n s) → (i : Option Node) → SameAbove (SameChain F N n) i → SameAbove (SameChain F M n) i
above_keeps F N M n ih (Some (Desc d)) h = (h.0, ih d.parent h.1)
above_keeps F N M n ih (Some (Proxy p)) h = ih p.parent h
above_keeps F N M n ih (Some (Text t)) h = tt
above_keeps F N M n ih (Some (Object c ps)) h = tt
above_keeps F N M n ih (Some (Array c vs)) h = tt
above_keeps F N M n ih (Some (Class c)) h = tt
above_keeps F N M n ih (Some (Enum c t)) h = tt
above_keeps F N M n ih None h = tt

chain_keeps : (F N M : List Node) → Keeps F N M → (n : ℕ) (s : Slot) → SameChain F N n s → SameChain F M n s
chain_keeps F N M keeps zero s h = tt
chain_keeps F N M keeps (suc n) slots.Null h = tt
chain_keeps F N M keeps (suc n) (slots.Node k) h = (keeps k h.0, above_keeps F N M n (chain_keeps F N M keeps n) (slice_get F k) h.1)

pub up_keeps : (F N M : List Node) → Keeps F N M → (s : Slot) → SameUp F N s → SameUp F M s
up_keeps F N M keeps s h n = chain_keeps F N M keeps n s (h n)

-- what is known of a slot that was read in a place
abbrev pub Settled : List Node → List Node → SlotPlace → Slot → Type 0
Settled F N places.Reference s = Unit {0}
Settled F N places.Class s = SameUp F N s
Settled F N places.Parent s = SameUp F N s
Settled F N places.Text s = (k : ℕ) → s ≡ slots.Node k → slice_get F k ≡ slice_get N k

-- ---- states

-- The parts that were counted, with those of the nodes to come.
abbrev pub total : List Node → Progress → ℕ
total F now = now.parts + parts_in (drop (length now.nodes) F)

pub record Ready (F : List Node) (unread : List ℕ) (now : Progress) : Type 0 where
  pub few : total F now ≤ 1048576
  pub below : (k : ℕ) → has unread k ≡ true → k < length now.nodes
  pub known : (k : ℕ) (i : Node) → k < length now.nodes → has unread k ≡ false → slice_get F k ≡ Some i → is_desc i ≡ true → SameUp F now.nodes (slots.Node k)
  pub texts : (k : ℕ) (i : Node) → k < length now.nodes → slice_get F k ≡ Some i → is_text i ≡ true → slice_get F k ≡ slice_get now.nodes k

-- What was read has so many parts beside those of the nodes that it added.
pub record AfterBy (own : ℕ) (F : List Node) (unread : List ℕ) (now later : Progress) : Type 0 where
  pub ordered : length now.nodes ≤ length later.nodes
  pub ready : Ready F unread later
  pub keeps : Keeps F now.nodes later.nodes
  pub agrees : (j : ℕ) → length now.nodes ≤ j → j < length later.nodes → slice_get F j ≡ slice_get later.nodes j
  pub sum : total F later ≡ own + total F now

abbrev pub After : List Node → List ℕ → Progress → Progress → Type 0
After F unread now later = AfterBy 0 F unread now later

pub after_none : (F : List Node) (unread : List ℕ) (now : Progress) → Ready F unread now → After F unread now now
after_none F unread now r = record { ordered = omega arith; ready = r; keeps = λ j e. e; agrees = λ j low high. absurd (omega arith); sum = omega arith }

pub after_sum : {o r : ℕ} (own : ℕ) → own ≡ o + r → (F : List Node) (unread : List ℕ) (a b c : Progress) → AfterBy o F unread a b → AfterBy r F unread b c → AfterBy own F unread a c
after_sum {o} {r} own e F unread a b c p q = record {
  ordered = let x = p.ordered in let y = q.ordered in omega arith;
  ready = q.ready;
  keeps = λ j e. q.keeps j (p.keeps j e);
  agrees = λ j low high. elim (cases_lt j (length b.nodes)) [
    | inl less ↦ q.keeps j (p.agrees j low less)
    | inr more ↦ q.agrees j more high
  ];
  sum = let x = p.sum in let y = q.sum in omega arith;
}

pub after_two : (F : List Node) (unread : List ℕ) (a b c : Progress) → After F unread a b → After F unread b c → After F unread a c
after_two F unread a b c p q = after_sum 0 (omega arith) F unread a b c p q

pub ready_add : (F : List Node) (unread : List ℕ) (now : Progress) (n : ℕ) → total F now + n ≤ 1048576 → Ready F unread now → Ready F unread (add_parts n now)
ready_add F unread now n few r = record { few = omega arith; below = r.below; known = r.known; texts = r.texts }

-- parts that are counted where they have room
pub after_add : (F : List Node) (unread : List ℕ) (now : Progress) (n : ℕ) → total F now + n ≤ 1048576 → Ready F unread now → AfterBy n F unread now (add_parts n now)
after_add F unread now n few r = record { ordered = omega arith; ready = ready_add F unread now n few r; keeps = λ j e. e; agrees = λ j low high. absurd (omega arith); sum = omega arith }

pub counting_is : {A : Type 0} (F : List Node) (n at : ℕ) (now : Progress) (f : Progress → Result A Fault) → total F now + n ≤ 1048576 → counting n at now f ≡ f (add_parts n now)
counting_is F n at now f few = rw (le-ltb 1048576 (now.parts + n) (omega arith)) refl

-- The reading gives this, with so many nodes then, and these bytes left; it has so many parts beside those of its nodes.
pub record ReadsBy {A : Type 0} (own : ℕ) (F : List Node) (unread : List ℕ) (now : Progress) (x : A) (rest : List ℕ) (m : ℕ) (r : Result (A × Progress × List ℕ) Fault) : Type 0 where
  pub later : Progress
  pub is : r ≡ Ok (x, later, rest)
  pub len : length later.nodes ≡ m
  pub after : AfterBy own F unread now later

abbrev pub Reads : {A : Type 0} → List Node → List ℕ → Progress → A → List ℕ → ℕ → Result (A × Progress × List ℕ) Fault → Type 0
Reads F unread now x rest m r = ReadsBy 0 F unread now x rest m r

pub reads_done : {A : Type 0} (F : List Node) (unread : List ℕ) (now : Progress) (x : A) (rest : List ℕ) (m : ℕ) → m ≡ length now.nodes → Ready F unread now → Reads F unread now x rest m (Ok (x, now, rest))
reads_done F unread now x rest m e r = record { later = now; is = refl; len = sym e; after = after_none F unread now r }

pub reads_then : {A B : Type 0} (F : List Node) (unread : List ℕ) (now : Progress) (x : A) (b : List ℕ) (k : ℕ) (r : Result (A × Progress × List ℕ) Fault) (f : A × Progress × List ℕ → Result (B × Progress × List ℕ) Fault) (y : B) (rest : List ℕ) (m : ℕ)
    → (h : Reads F unread now x b k r) → Reads F unread h.later y rest m (f (x, h.later, b)) → Reads F unread now y rest m (r >>= f)
reads_then F unread now x b k r f y rest m h g = record { later = g.later; is = rw h.is g.is; len = g.len; after = after_two F unread now h.later g.later h.after g.after }

pub reads_sum : {A B : Type 0} {o p : ℕ} (own : ℕ) → own ≡ o + p → (F : List Node) (unread : List ℕ) (now : Progress) (x : A) (b : List ℕ) (k : ℕ) (r : Result (A × Progress × List ℕ) Fault) (f : A × Progress × List ℕ → Result (B × Progress × List ℕ) Fault) (y : B) (rest : List ℕ) (m : ℕ)
    → (h : ReadsBy o F unread now x b k r) → ReadsBy p F unread h.later y rest m (f (x, h.later, b)) → ReadsBy own F unread now y rest m (r >>= f)
reads_sum own e F unread now x b k r f y rest m h g = record { later = g.later; is = rw h.is g.is; len = g.len; after = after_sum own e F unread now h.later g.later h.after g.after }

pub reads_counting : {A : Type 0} {p : ℕ} (own n at : ℕ) → own ≡ n + p → (F : List Node) (unread : List ℕ) (now : Progress) (f : Progress → Result (A × Progress × List ℕ) Fault) (y : A) (rest : List ℕ) (m : ℕ) → total F now + n ≤ 1048576 → Ready F unread now
    → ReadsBy p F unread (add_parts n now) y rest m (f (add_parts n now)) → ReadsBy own F unread now y rest m (counting n at now f)
reads_counting own n at e F unread now f y rest m few r g = record { later = g.later; is = counting_is F n at now f few ∙ g.is; len = g.len; after = after_sum own e F unread now (add_parts n now) g.later (after_add F unread now n few r) g.after }

-- ---- a node that gets a handle

pub none_at_end : (N : List Node) (j : ℕ) → length N ≤ j → slice_get N j ≡ None
none_at_end [] j h = refl
none_at_end (x ∷ N) zero h = absurd (omega arith)
none_at_end (x ∷ N) (suc j) h = none_at_end N j (omega arith)

pub drop_parts : (F : List Node) (k : ℕ) (i : Node) → slice_get F k ≡ Some i → parts_in (drop k F) ≡ parts_of i + parts_in (drop (suc k) F)
unfolding parts_in
drop_parts [] k i e = absurd cc
drop_parts (x ∷ F) zero i e = let same : x ≡ i = some_same x i e in rw same refl
drop_parts (x ∷ F) (suc k) i e = drop_parts F k i e

-- what counting the node's parts makes of it
pub mid_total : (F : List Node) (now mid : Progress) (i : Node) → slice_get F (length now.nodes) ≡ Some i → length mid.nodes ≡ suc (length now.nodes) → total F mid + parts_of i + now.parts ≡ total F now + mid.parts
mid_total F now mid i here len = let e = drop_parts F (length now.nodes) i here in let same : parts_in (drop (length mid.nodes) F) ≡ parts_in (drop (suc (length now.nodes)) F) = ap (λ k. parts_in (drop k F)) len in omega arith

pub parts_room : (F : List Node) (k : ℕ) (i : Node) → slice_get F k ≡ Some i → parts_of i ≤ parts_in F
unfolding parts_in
parts_room [] k i e = absurd cc
parts_room (x ∷ F) zero i e = let same : x ≡ i = some_same x i e in rw same (omega arith)
parts_room (x ∷ F) (suc k) i e = let more = parts_room F k i e in omega arith

-- before the graph's node is written over its place, or where nothing has to be
pub push_keeps : (F N : List Node) (i j : Node) → slice_get F (length N) ≡ Some i → Keeps F N (N ++ j ∷ [])
push_keeps F N i j here z e = elim (cases_lt z (length N)) [
  | inl less ↦ e ∙ sym (slice_get-append_left N (j ∷ []) z less)
  | inr more ↦
      let none : slice_get F z ≡ None = e ∙ none_at_end N z more in
      elim (cases_eq z (length N)) [
        | inl same ↦ absurd (let bad : Some i ≡ None = sym here ∙ (ap (slice_get F) (sym same) ∙ none) in cc)
        | inr other ↦ none ∙ sym (none_at_end (N ++ j ∷ []) z (let l = length_push N j in omega arith))
      ]
]

ready_desc : (F : List Node) (unread : List ℕ) (now later : Progress) (i j : Node) → Ready F unread now → slice_get F (length now.nodes) ≡ Some i → later.nodes ≡ now.nodes ++ j ∷ [] → later.parts ≤ now.parts + parts_of i → is_desc i ≡ true → is_text i ≡ false
    → Ready F (unread ++ length now.nodes ∷ []) later
ready_desc F unread now later i j r here grown parts d t =
    let k = length now.nodes in
    let len : length later.nodes ≡ suc k = ap (λ (N : List Node). length N) grown ∙ length_push now.nodes j in
    let keeps : Keeps F now.nodes later.nodes = rw grown (push_keeps F now.nodes i j here) in
    record {
      few = let t = mid_total F now later i here len in let few = r.few in omega arith;
      below = λ z h. elim (cases_lt z k) [
        | inl less ↦ omega arith
        | inr more ↦ elim (cases_eq z k) [
          | inl same ↦ omega arith
          | inr other ↦ elim (old z h other) [ inl was ↦ let lt : z < k = r.below z was in omega arith | inr none ↦ absurd none ]
        ]
      ];
      known = λ z i2 lt h is d2. (let p = has-append_no unread k z h in up_keeps F now.nodes later.nodes keeps (slots.Node z) (r.known z i2 (let ne = p.1 in elim (cases_lt z k) [ inl less ↦ less | inr more ↦ absurd (ne (omega arith)) ]) p.0 is d2));
      texts = λ z i2 lt is t2. elim (cases_lt z k) [
        | inl less ↦ keeps z (r.texts z i2 less is t2)
        | inr more ↦
            let same : z ≡ k = omega arith in
            let one : i2 ≡ i = some_same i2 i (sym is ∙ (ap (slice_get F) same ∙ here)) in
            let no_text : is_text i2 ≡ false = ap is_text one ∙ t in
            absurd cc
      ];
    }
  where
    old : (z : ℕ) → has (unread ++ length now.nodes ∷ []) z ≡ true → z ≢ length now.nodes → (has unread z ≡ true) ⊎ ⊥
    old z h other = go (has unread z) refl
      where
        go : (b : Bool) → has unread z ≡ b → (has unread z ≡ true) ⊎ ⊥
        go true e = inl e
        go false e = absurd (let no_one : has (unread ++ length now.nodes ∷ []) z ≡ false = has-append_other unread (length now.nodes) z e other in cc)

ready_other : (F : List Node) (unread : List ℕ) (now later : Progress) (i j : Node) → Ready F unread now → slice_get F (length now.nodes) ≡ Some i → later.nodes ≡ now.nodes ++ j ∷ [] → later.parts ≤ now.parts + parts_of i → is_desc i ≡ false → (is_text i ≡ true → j ≡ i)
    → Ready F unread later
ready_other F unread now later i j r here grown parts d t =
    let k = length now.nodes in
    let len : length later.nodes ≡ suc k = ap (λ (N : List Node). length N) grown ∙ length_push now.nodes j in
    let keeps : Keeps F now.nodes later.nodes = rw grown (push_keeps F now.nodes i j here) in
    record {
      few = let t = mid_total F now later i here len in let few = r.few in omega arith;
      below = λ z h. (let lt : z < k = r.below z h in omega arith);
      known = λ z i2 lt h is d2. elim (cases_lt z k) [
        | inl less ↦ up_keeps F now.nodes later.nodes keeps (slots.Node z) (r.known z i2 less h is d2)
        | inr more ↦
            let same : z ≡ k = omega arith in
            let one : i2 ≡ i = some_same i2 i (sym is ∙ (ap (slice_get F) same ∙ here)) in
            let no_desc : is_desc i2 ≡ false = ap is_desc one ∙ d in
            absurd cc
      ];
      texts = λ z i2 lt is t2. elim (cases_lt z k) [
        | inl less ↦ keeps z (r.texts z i2 less is t2)
        | inr more ↦
            let same : z ≡ k = omega arith in
            let one : i2 ≡ i = some_same i2 i (sym is ∙ (ap (slice_get F) same ∙ here)) in
            let text : j ≡ i = t (ap is_text (sym one) ∙ t2) in
            let seam : slice_get later.nodes k ≡ Some j = ap (λ (N : List Node). slice_get N k) grown ∙ slice_get-append_seam now.nodes j [] in
            rw same (here ∙ sym (seam ∙ ap (λ (v : Node). Some v) text))
      ];
    }

no_text : (i : Node) → is_desc i ≡ true → is_text i ≡ false
unfolding is_desc is_text
no_text (Text t) h = absurd cc
no_text (Desc d) h = refl
no_text (Proxy p) h = refl
no_text (Object c ps) h = refl
no_text (Array c vs) h = refl
no_text (Class c) h = refl
no_text (Enum c t) h = refl

ready_by : (F : List Node) (unread : List ℕ) (now later : Progress) (i j : Node) (d : Bool) → is_desc i ≡ d → Ready F unread now → slice_get F (length now.nodes) ≡ Some i → later.nodes ≡ now.nodes ++ j ∷ [] → later.parts ≤ now.parts + parts_of i → (is_text i ≡ true → j ≡ i)
    → Ready F (cond d (unread ++ length now.nodes ∷ []) unread) later
ready_by F unread now later i j true e r here grown parts t = ready_desc F unread now later i j r here grown parts e (no_text i e)
ready_by F unread now later i j false e r here grown parts t = ready_other F unread now later i j r here grown parts e t

pub ready_push : (F : List Node) (unread : List ℕ) (now later : Progress) (i j : Node) → Ready F unread now → slice_get F (length now.nodes) ≡ Some i → later.nodes ≡ now.nodes ++ j ∷ [] → later.parts ≤ now.parts + parts_of i → (is_text i ≡ true → j ≡ i)
    → Ready F (inside unread (length now.nodes) i) later
ready_push F unread now later i j r here grown parts t = ready_by F unread now later i j (is_desc i) refl r here grown parts t

-- ---- a node that was read

-- The node is in its place, and what was read after its handle stands as it was.
pub after_node : {own : ℕ} (F : List Node) (unread : List ℕ) (now mid last made : Progress) (i j : Node) → mid.parts + own ≡ now.parts + parts_of i → Ready F unread now → slice_get F (length now.nodes) ≡ Some i → mid.nodes ≡ now.nodes ++ j ∷ [] → AfterBy own F (inside unread (length now.nodes) i) mid last
    → length made.nodes ≡ length last.nodes → made.parts ≡ last.parts → ((z : ℕ) → z ≢ length now.nodes → slice_get made.nodes z ≡ slice_get last.nodes z) → slice_get made.nodes (length now.nodes) ≡ Some i
    → ((n : ℕ) → SameAbove (SameChain F last.nodes n) (Some i)) → After F unread now made
after_node F unread now mid last made i j counted r here grown after len parts same is up =
    let k = length now.nodes in
    let mid_len : length mid.nodes ≡ suc k = ap (λ (N : List Node). length N) grown ∙ length_push now.nodes j in
    let le : suc k ≤ length last.nodes = let o = after.ordered in omega arith in
    let filled : Keeps F last.nodes made.nodes = λ z e. elim (cases_eq z k) [
      | inl at ↦ rw at (here ∙ sym is)
      | inr other ↦ e ∙ sym (same z other)
    ] in
    let keeps : Keeps F now.nodes made.nodes = λ z e. filled z (after.keeps z ((let pushed : Keeps F now.nodes mid.nodes = rw grown (push_keeps F now.nodes i j here) in pushed) z e)) in
    let ups : SameUp F made.nodes (slots.Node k) = whole (up_all k le filled) in
    record {
      ordered = omega arith;
      ready = record {
        few = (let few = after.ready.few in let drops = at_end len in omega arith);
        below = λ z h. (let lt : z < k = r.below z h in omega arith);
        known = λ z i2 lt h is2 d. elim (cases_eq z k) [
          | inl at ↦ rw at ups
          | inr other ↦ up_keeps F last.nodes made.nodes filled (slots.Node z) (after.ready.known z i2 (omega arith) (still_not unread k z (is_desc i) h other) is2 d)
        ];
        texts = λ z i2 lt is2 t. filled z (after.ready.texts z i2 (omega arith) is2 t);
      };
      keeps = keeps;
      agrees = λ z low high. elim (cases_eq z k) [
        | inl at ↦ rw at (here ∙ sym is)
        | inr other ↦ filled z (after.agrees z (omega arith) (omega arith))
      ];
      sum = (let t = mid_total F now mid i here mid_len in let s = after.sum in let drops = at_end len in omega arith);
    }
  where
    at_end : length made.nodes ≡ length last.nodes → parts_in (drop (length made.nodes) F) ≡ parts_in (drop (length last.nodes) F)
    at_end e = ap (λ n. parts_in (drop n F)) e

    up_all : (k : ℕ) → suc k ≤ length last.nodes → Keeps F last.nodes made.nodes → (n : ℕ) → SameAbove (SameChain F made.nodes n) (Some i)
    up_all k le filled n = above_keeps F last.nodes made.nodes n (chain_keeps F last.nodes made.nodes filled n) (Some i) (up n)

    whole : ((n : ℕ) → SameAbove (SameChain F made.nodes n) (Some i)) → SameUp F made.nodes (slots.Node (length now.nodes))
    whole h zero = tt
    whole h (suc n) = (here ∙ sym is, subst (λ (o : Option Node). SameAbove (SameChain F made.nodes n) o) (sym here) (h n))
