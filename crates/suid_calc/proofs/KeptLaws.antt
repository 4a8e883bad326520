-- Members that are kept by their keys: no two are the same, and they are in order.
use Rattle.std.proofs.Common.{◌≡◌, ℕ, ◌+◌, ◌<◌, Bool, true, false, cond, eqb, ltb, List, [], ◌∷◌, ◌++◌, length, Option, Some, None, Ordering, Less, Equal, Greater, nat_cmp, is_eq, refl, sym, ap, subst, ◌∙◌, arith, append_assoc, IsPermutation, true≢false, lt-ltb, le-ltb, eqb-true, leb, leb-true, append-nil, inr, is_some, length-append, ◌≤◌}
use Rattle.std.specs.Ordering.{ordering_then, match_ordering}
use Rattle.std.specs.Cmp.Lexicographic.{slice_cmp}
use Rattle.std.specs.List.{AllByRecursion}
use Rattle.std.specs.List.Sorted.{IsStrictlySortedBy}
use Rattle.std.specs.Map.{lookup, values_of, keys_of}
use Rattle.std.specs.BTreeMap.{insert_entry}
use Rattle.std.proofs.lemmas.Bool.{and_parts, false_from_ne_true, ne_eqb}
use Rattle.std.proofs.lemmas.Cmp.{tied_itself, nat_list_cmp_total}
use Rattle.std.proofs.lemmas.List.{length_push}
use Rattle.std.proofs.lemmas.List.Elements.{All-from_recursion, recursion_from_All}
use Rattle.std.proofs.lemmas.List.Sorted.{IsPermutation-refl, IsPermutation-cons, IsPermutation-middle, IsPermutation-trans, IsPermutation-sym, IsPermutation-push_more, All-permutation}
use Rattle.suid_calc.specs.declared.outline.Member.{Member}
use Rattle.suid_calc.specs.declared.outline.Member.TheVariants.{Interface, Field, Initializer, Constructor, Method}
use Rattle.suid_calc.specs.declared.outline.OutlineFault.{OutlineFault}
use Rattle.suid_calc.specs.declared.outline.OutlineFault.TheVariants.{BadLine, OutOfMemory}
use Rattle.suid_calc.specs.Members.{kind_of, name_of, descriptor_of, key_of, IsSameMember, IsNew, AreDistinct, compare}
use Rattle.suid_calc.specs.Grammar.{is_name_byte, IsClassLine, IsLine, AreLines, IsOutline, IsBadFirst, IsUnread}
use Rattle.suid_calc.specs.Reading.{split_at, is_name, is_type, is_descriptor, is_good, member_of, class_line_of}
use Rattle.suid_calc.specs.Loops.{HasRead, IsNoMember, TakesMember, AreKept, IsUnreadRest}
use Rattle.suid_calc.proofs.WordLaws.{some_is, weaker, Lacks, split_of, name_is, apart_from}
use Rattle.suid_calc.proofs.LineLaws.{line_found, line_lacks, class_line_found, class_line_lacks}

-- ---- orders

then_tie : (o p : Ordering) → ordering_then o p ≡ Equal → (o ≡ Equal) × (p ≡ Equal)
then_tie Less p h = absurd cc
then_tie Equal p h = (refl, h)
then_tie Greater p h = absurd cc

number_tie : (a b : ℕ) → nat_cmp a b ≡ Equal → a ≡ b
number_tie a b h = go (ltb a b) (eqb a b) refl h
  where
    go : (u v : Bool) → eqb a b ≡ v → cond u Less (cond v Equal Greater) ≡ Equal → a ≡ b
    go true v e g = absurd cc
    go false true e g = eqb-true a b e
    go false false e g = absurd cc

tie : (x y : List ℕ) → slice_cmp nat_cmp x y ≡ Equal → x ≡ y
tie [] [] h = refl
tie [] (d ∷ y) h = absurd cc
tie (c ∷ x) [] h = absurd cc
tie (c ∷ x) (d ∷ y) h =
    let t = then_tie (nat_cmp c d) (slice_cmp nat_cmp x y) h in
    ap (λ (n : ℕ). n ∷ x) (number_tie c d t.0) ∙ ap (λ (l : List ℕ). d ∷ l) (tie x y t.1)

is_tie : (o : Ordering) → is_eq o ≡ true → o ≡ Equal
is_tie Less h = absurd cc
is_tie Equal h = refl
is_tie Greater h = absurd cc

below : (a b : ℕ) → a < b → nat_cmp a b ≡ Less
below a b h = rw (lt-ltb a b h) refl

above : (a b : ℕ) → b < a → nat_cmp a b ≡ Greater
above a b h = go (ltb a b) (le-ltb a b (omega arith)) (eqb a b) (ne_eqb a b (λ e. absurd (omega arith)))
  where
    go : (u : Bool) → u ≡ false → (v : Bool) → v ≡ false → cond u Less (cond v Equal Greater) ≡ Greater
    go true e v f = absurd cc
    go false e true f = absurd cc
    go false e false f = refl

then_then : (o p q : Ordering) → ordering_then o (ordering_then p q) ≡ ordering_then (ordering_then o p) q
then_then Less p q = refl
then_then Equal p q = refl
then_then Greater p q = refl

abbrev AreVisible : List ℕ → Type 0
AreVisible t = AllByRecursion (λ b. is_name_byte b ≡ true) t

visible_above : (c : ℕ) → is_name_byte c ≡ true → 0x20 < c
visible_above c h = let a = and_parts (leb 0x21 c) _ h in let b = leb-true 0x21 c a.0 in omega arith

-- a blank is below each byte of a name
words_order : (x y d e : List ℕ) → AreVisible x → AreVisible y → slice_cmp nat_cmp (x ++ 0x20 ∷ d) (y ++ 0x20 ∷ e) ≡ ordering_then (slice_cmp nat_cmp x y) (slice_cmp nat_cmp d e)
words_order [] [] d e v w = refl
words_order [] (c ∷ y) d e v w = ap (λ (o : Ordering). ordering_then o (slice_cmp nat_cmp d (y ++ 0x20 ∷ e))) (below 0x20 c (visible_above c w.0))
words_order (c ∷ x) [] d e v w = ap (λ (o : Ordering). ordering_then o (slice_cmp nat_cmp (x ++ 0x20 ∷ d) e)) (above c 0x20 (visible_above c v.0))
words_order (c ∷ x) (f ∷ y) d e v w =
    ap (λ (o : Ordering). ordering_then (nat_cmp c f) o) (words_order x y d e v.1 w.1) ∙ then_then (nat_cmp c f) (slice_cmp nat_cmp x y) (slice_cmp nat_cmp d e)

-- ---- keys

visible : (m : Member) → is_good m ≡ true → AreVisible (name_of m)
visible (Interface name) h = let n = name_is name h in n.visible
visible (Field modifiers name type_text) h = let a = and_parts (is_name name) (is_type type_text) h in let n = name_is name a.0 in n.visible
visible Initializer h = tt
visible (Constructor modifiers descriptor) h = tt
visible (Method modifiers name descriptor) h = let a = and_parts (is_name name) (is_descriptor descriptor) h in let n = name_is name a.0 in n.visible

no_blank : (m : Member) → is_good m ≡ true → Lacks 0x20 (name_of m)
no_blank m h = weaker (λ b. is_name_byte b ≡ true) (λ c. eqb c 0x20 ≡ false) (λ c k. apart_from is_name_byte 0x20 c refl k) (name_of m) (visible m h)

key_order : (a b : Member) → is_good a ≡ true → is_good b ≡ true → slice_cmp nat_cmp (key_of a) (key_of b) ≡ compare a b
key_order a b good other =
    ap (λ (o : Ordering). ordering_then (nat_cmp (kind_of a) (kind_of b)) o) (words_order (name_of a) (name_of b) (descriptor_of a) (descriptor_of b) (visible a good) (visible b other))

parts : (c d : ℕ) (x y : List ℕ) → c ∷ x ≡ d ∷ y → (c ≡ d) × (x ≡ y)
parts c d x y h = (cc, cc)

pub same_from_key : (a b : Member) → is_good a ≡ true → is_good b ≡ true → key_of a ≡ key_of b → IsSameMember a b
same_from_key a b good other h =
    let p = parts (kind_of a) (kind_of b) (name_of a ++ 0x20 ∷ descriptor_of a) (name_of b ++ 0x20 ∷ descriptor_of b) h in
    let s : Some (name_of a, descriptor_of a) ≡ Some (name_of b, descriptor_of b) =
    sym (split_of 0x20 (name_of a) (descriptor_of a) (no_blank a good)) ∙ ap (split_at 0x20) p.1 ∙ split_of 0x20 (name_of b) (descriptor_of b) (no_blank b other) in
    let q : (name_of a, descriptor_of a) ≡ (name_of b, descriptor_of b) = some_is (name_of a, descriptor_of a) (name_of b, descriptor_of b) s in
    record { kind = p.0; name = ap (λ (r : List ℕ × List ℕ). r.0) q; descriptor = ap (λ (r : List ℕ × List ℕ). r.1) q }

pub key_from_same : (a b : Member) → IsSameMember a b → key_of a ≡ key_of b
key_from_same a b s =
    ap (λ (k : ℕ). k ∷ (name_of a ++ 0x20 ∷ descriptor_of a)) s.kind
    ∙ ap (λ (n : List ℕ). kind_of b ∷ (n ++ 0x20 ∷ descriptor_of a)) s.name
    ∙ ap (λ (d : List ℕ). kind_of b ∷ (name_of b ++ 0x20 ∷ d)) s.descriptor

flipped : (a b : Member) → IsSameMember a b → IsSameMember b a
flipped a b s = record { kind = sym s.kind; name = sym s.name; descriptor = sym s.descriptor }

-- ---- what is kept

missed : {A : Type 0} (b : Bool) (x : A) (o : Option A) → b ≡ false → o ≡ None → cond b (Some x) o ≡ None
missed true x o e h = absurd cc
missed false x o e h = h

hit : {A : Type 0} (b : Bool) (x : A) (o : Option A) → b ≡ true → cond b (Some x) o ≡ None → ⊥
hit true x o e h = cc
hit false x o e h = cc

behind : {A : Type 0} (b : Bool) (x : A) (o : Option A) → cond b (Some x) o ≡ None → o ≡ None
behind true x o h = absurd cc
behind false x o h = h

-- a further member isn't found by its key
pub not_found : {K : Type 0} (bytes : K → List ℕ) (es : List (K × Member)) (m : Member) → is_good m ≡ true → AreKept bytes es → IsNew m (values_of es) → lookup (λ k. is_eq (slice_cmp nat_cmp (key_of m) (bytes k))) es ≡ None
not_found bytes [] m good kept new = refl
not_found bytes (e ∷ es) m good kept new =
    let apart : is_eq (slice_cmp nat_cmp (key_of m) (bytes e.0)) ≡ false =
    false_from_ne_true (is_eq (slice_cmp nat_cmp (key_of m) (bytes e.0))) (λ h. new.0 (same_from_key e.1 m kept.0.1 good (sym kept.0.0 ∙ sym (tie (key_of m) (bytes e.0) (is_tie _ h))))) in
    missed (is_eq (slice_cmp nat_cmp (key_of m) (bytes e.0))) e.1 (lookup (λ k. is_eq (slice_cmp nat_cmp (key_of m) (bytes k))) es) apart (not_found bytes es m good kept.1 new.1)

-- a member that isn't found by its key is a further one
pub new_from_lookup : {K : Type 0} (bytes : K → List ℕ) (es : List (K × Member)) (m : Member) → AreKept bytes es → lookup (λ k. is_eq (slice_cmp nat_cmp (key_of m) (bytes k))) es ≡ None → IsNew m (values_of es)
new_from_lookup bytes [] m kept h = tt
new_from_lookup bytes (e ∷ es) m kept h = (
  λ s.
      let same : slice_cmp nat_cmp (key_of m) (bytes e.0) ≡ Equal = ap (slice_cmp nat_cmp (key_of m)) (kept.0.0 ∙ key_from_same e.1 m s) ∙ tied_itself nat_list_cmp_total (key_of m) in
      hit (is_eq (slice_cmp nat_cmp (key_of m) (bytes e.0))) e.1 (lookup (λ k. is_eq (slice_cmp nat_cmp (key_of m) (bytes k))) es) (ap is_eq same) h,
  new_from_lookup bytes es m kept.1 (behind (is_eq (slice_cmp nat_cmp (key_of m) (bytes e.0))) e.1 (lookup (λ k. is_eq (slice_cmp nat_cmp (key_of m) (bytes k))) es) h),
)

pub kept_more : {K : Type 0} (bytes : K → List ℕ) (cmp : K → K → Ordering) (es : List (K × Member)) (k : K) (m : Member) → AreKept bytes es → bytes k ≡ key_of m → is_good m ≡ true → lookup (λ q. is_eq (cmp k q)) es ≡ None → AreKept bytes (insert_entry cmp es k m)
kept_more bytes cmp [] k m kept key good h = ((key, good), tt)
kept_more bytes cmp (e ∷ es) k m kept key good h = go (λ n. kept_more bytes cmp es k m kept.1 key good n) (cmp k e.0) h
  where
    go : (lookup (λ q. is_eq (cmp k q)) es ≡ None → AreKept bytes (insert_entry cmp es k m)) → (o : Ordering) → cond (is_eq o) (Some e.1) (lookup (λ q. is_eq (cmp k q)) es) ≡ None
        → AreKept bytes (match_ordering o ((k, m) ∷ e ∷ es) ((e.0, m) ∷ es) (e ∷ insert_entry cmp es k m))
    go again Less g = ((key, good), kept)
    go again Equal g = absurd cc
    go again Greater g = (kept.0, again g)

pub values_more : {K : Type 0} (cmp : K → K → Ordering) (es : List (K × Member)) (k : K) (m : Member) → lookup (λ q. is_eq (cmp k q)) es ≡ None → IsPermutation (m ∷ values_of es) (values_of (insert_entry cmp es k m))
values_more cmp [] k m h = IsPermutation-refl (m ∷ [])
values_more cmp (e ∷ es) k m h = go (λ n. values_more cmp es k m n) (cmp k e.0) h
  where
    go : (lookup (λ q. is_eq (cmp k q)) es ≡ None → IsPermutation (m ∷ values_of es) (values_of (insert_entry cmp es k m))) → (o : Ordering) → cond (is_eq o) (Some e.1) (lookup (λ q. is_eq (cmp k q)) es) ≡ None
        → IsPermutation (m ∷ e.1 ∷ values_of es) (values_of (match_ordering o ((k, m) ∷ e ∷ es) ((e.0, m) ∷ es) (e ∷ insert_entry cmp es k m)))
    go again Less g = IsPermutation-refl (m ∷ e.1 ∷ values_of es)
    go again Equal g = absurd cc
    go again Greater g =
        IsPermutation-trans (m ∷ e.1 ∷ values_of es) (e.1 ∷ m ∷ values_of es) (e.1 ∷ values_of (insert_entry cmp es k m))
        (IsPermutation-middle (m ∷ []) e.1 (values_of es)) (IsPermutation-cons e.1 (m ∷ values_of es) (values_of (insert_entry cmp es k m)) (again g))

first_below : {K : Type 0} (bytes : K → List ℕ) (e : K × Member) (es : List (K × Member)) → (bytes e.0 ≡ key_of e.1) → is_good e.1 ≡ true → AreKept bytes es
    → AllByRecursion (λ y. slice_cmp nat_cmp (bytes e.0) (bytes y) ≡ Less) (keys_of es) → AllByRecursion (λ m. compare e.1 m ≡ Less) (values_of es)
first_below bytes e [] key good kept h = tt
first_below bytes e (f ∷ es) key good kept h = (
  sym (key_order e.1 f.1 good kept.0.1) ∙ ap (λ (l : List ℕ). slice_cmp nat_cmp l (key_of f.1)) (sym key) ∙ ap (slice_cmp nat_cmp (bytes e.0)) (sym kept.0.0) ∙ h.0,
  first_below bytes e es key good kept.1 h.1,
)

-- the members are in order, since their keys are
pub kept_in_order : {K : Type 0} (bytes : K → List ℕ) (es : List (K × Member)) → AreKept bytes es → IsStrictlySortedBy (λ x y. slice_cmp nat_cmp (bytes x) (bytes y)) (keys_of es) → IsStrictlySortedBy compare (values_of es)
unfolding IsStrictlySortedBy
kept_in_order bytes [] kept h = tt
kept_in_order bytes (e ∷ es) kept h = (first_below bytes e es kept.0.0 kept.0.1 kept.1 h.0, kept_in_order bytes es kept.1 h.1)

pub kept_are_good : {K : Type 0} (bytes : K → List ℕ) (es : List (K × Member)) → AreKept bytes es → AllByRecursion (λ m. is_good m ≡ true) (values_of es)
kept_are_good bytes [] kept = tt
kept_are_good bytes (e ∷ es) kept = (kept.0.1, kept_are_good bytes es kept.1)

-- ---- one more line

new_more : (x : Member) (ms : List Member) (m : Member) → IsNew x ms → (IsSameMember m x → ⊥) → IsNew x (ms ++ m ∷ [])
new_more x [] m new apart = (apart, tt)
new_more x (y ∷ ms) m new apart = (new.0, new_more x ms m new.1 apart)

distinct_more : (ms : List Member) (m : Member) → AreDistinct ms → IsNew m ms → AreDistinct (ms ++ m ∷ [])
distinct_more [] m distinct new = (tt, tt)
distinct_more (x ∷ ms) m distinct new = (new_more x ms m distinct.0 (λ s. new.0 (flipped m x s)), distinct_more ms m distinct.1 new.1)

lines_more : (ms : List Member) (m : Member) (line others : List ℕ) → AreLines ms others → IsLine line m → AreLines (ms ++ m ∷ []) (others ++ (line ++ 0x0A ∷ []))
lines_more [] m line others e is = (line, [], is, refl, ap (λ (o : List ℕ). o ++ (line ++ 0x0A ∷ [])) e)
lines_more (x ∷ ms) m line others (first, rest, reads, more, e) is =
    (first, rest ++ (line ++ 0x0A ∷ []), reads, lines_more ms m line rest more is, ap (λ (o : List ℕ). o ++ (line ++ 0x0A ∷ [])) e ∙ append_assoc first (0x0A ∷ rest) (line ++ 0x0A ∷ []))

new_in : (m : Member) (xs ys : List Member) → IsPermutation xs ys → IsNew m xs → IsNew m ys
new_in m xs ys same new = recursion_from_All (λ x. IsSameMember x m → ⊥) ys (All-permutation (λ x. IsSameMember x m → ⊥) xs ys same (All-from_recursion (λ x. IsSameMember x m → ⊥) xs new))

pub read_nothing : (text : List ℕ) → HasRead text [] 2 text
read_nothing text = record { lines = []; others = []; read = refl; distinct = tt; parts = refl; same = IsPermutation-refl []; counted = refl }

pub read_on : (text : List ℕ) (kept after : List Member) (number : ℕ) (rest behind : List ℕ) → HasRead text kept number rest → TakesMember rest kept after behind → HasRead text after (number + 1) behind
read_on text kept after number rest behind h t =
    let whole : rest ≡ (t.line ++ 0x0A ∷ []) ++ behind = t.parts ∙ sym (append_assoc t.line (0x0A ∷ []) behind) in
    let len : length (h.lines ++ t.member ∷ []) ≡ length h.lines + 1 = length_push h.lines t.member in
    record {
      lines = h.lines ++ t.member ∷ [];
      others = h.others ++ (t.line ++ 0x0A ∷ []);
      read = lines_more h.lines t.member t.line h.others h.read t.is;
      distinct = distinct_more h.lines t.member h.distinct (new_in t.member kept h.lines (IsPermutation-sym h.lines kept h.same) t.new);
      parts = h.parts ∙ ap (λ (l : List ℕ). h.others ++ l) whole ∙ sym (append_assoc h.others (t.line ++ 0x0A ∷ []) behind);
      same = IsPermutation-push_more h.lines kept after t.member h.same t.kept;
      counted = omega (arith, len, h.counted);
    }

pub takes_some : (rest : List ℕ) (before after : List Member) (behind : List ℕ) → TakesMember rest before after behind → length behind + 1 ≤ length rest
takes_some rest before after behind t =
    let e : length rest ≡ length t.line + length (0x0A ∷ behind) = ap length t.parts ∙ length-append t.line (0x0A ∷ behind) in
    omega arith

-- ---- where no further member is

same_line : (rest line behind l tail : List ℕ) (m : Member) → split_at 0x0A rest ≡ Some (line, behind) → IsLine l m → rest ≡ l ++ 0x0A ∷ tail → member_of line ≡ Some m
same_line rest line behind l tail m split is e =
    let s : Some (line, behind) ≡ Some (l, tail) = sym split ∙ ap (split_at 0x0A) e ∙ split_of 0x0A l tail (line_lacks l m is) in
    let q : (line, behind) ≡ (l, tail) = some_is (line, behind) (l, tail) s in
    ap member_of (ap (λ (p : List ℕ × List ℕ). p.0) q) ∙ line_found l m is

pub no_line : (rest : List ℕ) (kept : List Member) → split_at 0x0A rest ≡ None → IsNoMember rest kept
no_line rest kept none line tail m is new e =
    let s : split_at 0x0A rest ≡ Some (line, tail) = ap (split_at 0x0A) e ∙ split_of 0x0A line tail (line_lacks line m is) in
    cc

pub not_line : (rest line behind : List ℕ) (kept : List Member) → split_at 0x0A rest ≡ Some (line, behind) → member_of line ≡ None → IsNoMember rest kept
not_line rest line behind kept split none l tail m is new e =
    let s : member_of line ≡ Some m = same_line rest line behind l tail m split is e in
    cc

pub kept_already : (rest line behind : List ℕ) (kept : List Member) (x : Member) → split_at 0x0A rest ≡ Some (line, behind) → member_of line ≡ Some x → (IsNew x kept → ⊥) → IsNoMember rest kept
kept_already rest line behind kept x split found old l tail m is new e =
    let s : Some x ≡ Some m = sym found ∙ same_line rest line behind l tail m split is e in
    old (subst (λ (y : Member). IsNew y kept) (sym (some_is x m s)) new)

-- ---- a look-up by the key's bytes

none_from : {A : Type 0} (o : Option A) → is_some o ≡ false → o ≡ None
none_from None h = refl
none_from (Some x) h = absurd cc

abbrev found : {K : Type 0} → (K → List ℕ) → List (K × Member) → List ℕ → Option Member
found bytes es x = lookup (λ k. is_eq (slice_cmp nat_cmp x (bytes k))) es

pub kept_answer : {K : Type 0} (bytes : K → List ℕ) (es : List (K × Member)) (m : Member) (x : List ℕ) → x ≡ key_of m → is_good m ≡ true → AreKept bytes es → is_some (found bytes es x) ≡ true → IsNew m (values_of es) → ⊥
kept_answer bytes es m x same good kept there new =
    let h : is_some (found bytes es (key_of m)) ≡ true = subst (λ (y : List ℕ). is_some (found bytes es y) ≡ true) same there in
    let n : is_some (found bytes es (key_of m)) ≡ false = ap is_some (not_found bytes es m good kept new) in
    true≢false (sym h ∙ n)

pub new_answer : {K : Type 0} (bytes : K → List ℕ) (es : List (K × Member)) (m : Member) (x : List ℕ) → x ≡ key_of m → AreKept bytes es → is_some (found bytes es x) ≡ false → IsNew m (values_of es)
new_answer bytes es m x same kept gone =
    new_from_lookup bytes es m kept (none_from (found bytes es (key_of m)) (subst (λ (y : List ℕ). is_some (found bytes es y) ≡ false) same gone))

pub kept_with : {K : Type 0} (bytes : K → List ℕ) (es : List (K × Member)) (k : K) (m : Member) (x : List ℕ) → x ≡ bytes k → bytes k ≡ key_of m → is_good m ≡ true → AreKept bytes es → is_some (found bytes es x) ≡ false
    → AreKept bytes (insert_entry (λ a b. slice_cmp nat_cmp (bytes a) (bytes b)) es k m)
kept_with bytes es k m x same key good kept gone =
    kept_more bytes (λ a b. slice_cmp nat_cmp (bytes a) (bytes b)) es k m kept key good (none_from (found bytes es (bytes k)) (subst (λ (y : List ℕ). is_some (found bytes es y) ≡ false) same gone))

pub values_with : {K : Type 0} (bytes : K → List ℕ) (es : List (K × Member)) (k : K) (m : Member) (x : List ℕ) → x ≡ bytes k → is_some (found bytes es x) ≡ false
    → IsPermutation (m ∷ values_of es) (values_of (insert_entry (λ a b. slice_cmp nat_cmp (bytes a) (bytes b)) es k m))
values_with bytes es k m x same gone =
    values_more (λ a b. slice_cmp nat_cmp (bytes a) (bytes b)) es k m (none_from (found bytes es (bytes k)) (subst (λ (y : List ℕ). is_some (found bytes es y) ≡ false) same gone))

-- ---- whole outlines

pub no_first_line : (text : List ℕ) → split_at 0x0A text ≡ None → IsBadFirst text
no_first_line text none line rest modifiers name is e =
    let s : split_at 0x0A text ≡ Some (line, rest) = ap (split_at 0x0A) e ∙ split_of 0x0A line rest (class_line_lacks line modifiers name is) in
    cc

pub not_first_line : (text line rest : List ℕ) → split_at 0x0A text ≡ Some (line, rest) → class_line_of line ≡ None → IsBadFirst text
not_first_line text line rest split none l tail modifiers name is e =
    let s : Some (line, rest) ≡ Some (l, tail) = sym split ∙ ap (split_at 0x0A) e ∙ split_of 0x0A l tail (class_line_lacks l modifiers name is) in
    let q : (line, rest) ≡ (l, tail) = some_is (line, rest) (l, tail) s in
    let f : class_line_of line ≡ Some (modifiers, name) = ap class_line_of (ap (λ (p : List ℕ × List ℕ). p.0) q) ∙ class_line_found l modifiers name is in
    cc

pub unread_rest : (text line rest : List ℕ) (modifiers : ℕ) (name : List ℕ) (fault : OutlineFault) → IsClassLine line modifiers name → text ≡ line ++ 0x0A ∷ rest → IsUnreadRest rest fault → IsUnread text fault
unread_rest text line rest modifiers name (BadLine number) is e h = inr record {
  first = line;
  modifiers = modifiers;
  name = name;
  lines = h.read.lines;
  others = h.read.others;
  rest = h.rest;
  class = is;
  read = h.read.read;
  distinct = h.read.distinct;
  parts = e ∙ ap (λ (l : List ℕ). line ++ 0x0A ∷ l) h.read.parts;
  more = h.more;
  bad = λ l tail m reads new f. h.bad l tail m reads (new_in m h.read.lines h.kept h.read.same new) f;
  counted = h.read.counted;
}
unread_rest text line rest modifiers name OutOfMemory is e h = tt

pub whole_outline : (text line rest : List ℕ) (modifiers : ℕ) (name : List ℕ) (kept : List Member) (number : ℕ) → IsClassLine line modifiers name → text ≡ line ++ 0x0A ∷ rest → HasRead rest kept number [] → IsOutline text modifiers name kept
whole_outline text line rest modifiers name kept number is e h = record {
  first = line;
  lines = h.lines;
  others = h.others;
  class = is;
  read = h.read;
  distinct = h.distinct;
  parts = e ∙ ap (λ (l : List ℕ). line ++ 0x0A ∷ l) (h.parts ∙ append-nil h.others);
  same = h.same;
}
