-- The order of the lines after the first doesn't matter; and a text with a bad line is no outline's.
use Rattle.std.proofs.Common.{◌≡◌, ℕ, ◌+◌, Bool, true, false, List, [], ◌∷◌, ◌++◌, length, map, Option, Some, None, Ordering, Less, Equal, Greater, nat_cmp, unwrap_or, refl, sym, ap, subst, ◌∙◌, append_assoc, append-nil, IsPermutation, inl, inr}
use Rattle.std.specs.Prelude.{◌⊎◌}
use Rattle.std.specs.Cmp.{IsTotalOrder}
use Rattle.std.specs.Ordering.{ordering_reverse}
use Rattle.std.specs.List.{AllByRecursion}
use Rattle.std.specs.List.Sorted.{IsStrictlySortedBy}
use Rattle.std.proofs.lemmas.Cmp.{nat_cmp_total, nat_list_cmp_total, on_total, then_total, tied_itself}
use Rattle.std.proofs.lemmas.List.Elements.{All-from_recursion, recursion_from_All}
use Rattle.std.proofs.lemmas.List.Sorted.{IsPermutation-map, IsPermutation-sym, IsPermutation-trans, All-permutation}
use Rattle.suid_calc.specs.declared.outline.Member.{Member}
use Rattle.suid_calc.specs.declared.outline.Member.TheVariants.{Initializer}
use Rattle.suid_calc.specs.Members.{kind_of, name_of, descriptor_of, compare, IsSameMember, IsNew, AreDistinct}
use Rattle.suid_calc.specs.Grammar.{IsClassLine, IsLine, AreLines, IsOutline, IsBadLine, IsBadAfter}
use Rattle.suid_calc.specs.Reading.{split_at, member_of, class_line_of}
use Rattle.suid_calc.specs.Text.{suid_of}
use Rattle.suid_calc.specs.Laws.{ended, IsOneLine, IsReordered, IsOutlineText}
use Rattle.suid_calc.proofs.WordLaws.{some_is, Lacks, split_of}
use Rattle.suid_calc.proofs.LineLaws.{line_found, line_lacks, class_line_found, class_line_lacks}

-- ---- sorted lists with the same members

abbrev In : {X : Type 0} → X → List X → Type 0
In x [] = ⊥
In x (y ∷ ys) = (y ≡ x) ⊎ In x ys

in_more : {X : Type 0} (y : X) (xs ys : List X) → AllByRecursion (λ x. In x ys) xs → AllByRecursion (λ x. In x (y ∷ ys)) xs
in_more y [] ys h = tt
in_more y (x ∷ xs) ys h = (inr h.0, in_more y xs ys h.1)

in_itself : {X : Type 0} (xs : List X) → AllByRecursion (λ x. In x xs) xs
in_itself [] = tt
in_itself (x ∷ xs) = (inl refl, in_more x xs xs (in_itself xs))

in_permutation : {X : Type 0} (xs ys : List X) → IsPermutation xs ys → AllByRecursion (λ y. In y xs) ys
in_permutation xs ys p = recursion_from_All (λ y. In y xs) ys (All-permutation (λ y. In y xs) xs ys p (All-from_recursion (λ y. In y xs) xs (in_itself xs)))

below_in : {X : Type 0} (R : X → X → Ordering) (x y : X) (ys : List X) → AllByRecursion (λ z. R x z ≡ Less) ys → In y ys → R x y ≡ Less
below_in R x y [] h i = absurd i
below_in R x y (z ∷ ys) h (inl e) = subst (λ w. R x w ≡ Less) e h.0
below_in R x y (z ∷ ys) h (inr i) = below_in R x y ys h.1 i

not_both : {X : Type 0} {R : X → X → Ordering} (o : IsTotalOrder R) (x y : X) → R x y ≡ Less → R y x ≡ Less → ⊥
not_both o x y h g = let e : Less ≡ Greater = sym h ∙ o.antisymm x y ∙ ap ordering_reverse g in cc

not_itself : {X : Type 0} {R : X → X → Ordering} (o : IsTotalOrder R) (x : X) → R x x ≡ Less → ⊥
not_itself o x h = let e : Less ≡ Equal = sym h ∙ tied_itself o x in cc

behind_first : {X : Type 0} {R : X → X → Ordering} (o : IsTotalOrder R) (x y : X) (ys zs : List X) → x ≡ y → AllByRecursion (λ z. R x z ≡ Less) zs → AllByRecursion (λ z. In z (y ∷ ys)) zs → AllByRecursion (λ z. In z ys) zs
behind_first o x y ys [] e less all = tt
behind_first {X} {R} o x y ys (z ∷ zs) e less all = (at all.0, behind_first o x y ys zs e less.1 all.1)
  where
    at : In z (y ∷ ys) → In z ys
    at (inl f) = absurd (not_itself o x (subst (λ w. R x w ≡ Less) (sym (e ∙ f)) less.0))
    at (inr i) = i

same_first : {X : Type 0} {R : X → X → Ordering} (o : IsTotalOrder R) (x y : X) (xs ys : List X) → AllByRecursion (λ z. R x z ≡ Less) xs → AllByRecursion (λ z. R y z ≡ Less) ys → In x (y ∷ ys) → In y (x ∷ xs) → x ≡ y
same_first o x y xs ys above_x above_y (inl e) j = sym e
same_first o x y xs ys above_x above_y (inr i) (inl e) = e
same_first {X} {R} o x y xs ys above_x above_y (inr i) (inr j) = absurd (not_both o x y (below_in R x y xs above_x j) (below_in R y x ys above_y i))

same_sorted : {X : Type 0} {R : X → X → Ordering} (o : IsTotalOrder R) (xs ys : List X) → IsStrictlySortedBy R xs → IsStrictlySortedBy R ys → AllByRecursion (λ x. In x ys) xs → AllByRecursion (λ y. In y xs) ys → xs ≡ ys
unfolding IsStrictlySortedBy
same_sorted o [] [] up up' all all' = refl
same_sorted o [] (y ∷ ys) up up' all all' = absurd all'.0
same_sorted o (x ∷ xs) [] up up' all all' = absurd all.0
same_sorted o (x ∷ xs) (y ∷ ys) up up' all all' =
    let e : x ≡ y = same_first o x y xs ys up.0 up'.0 all.0 all'.0 in
    let rest : xs ≡ ys = same_sorted o xs ys up.1 up'.1 (behind_first o x y ys xs e up.0 all.1) (behind_first o y x xs ys (sym e) up'.0 all'.1) in
    ap (λ w. w ∷ xs) e ∙ ap (λ l. y ∷ l) rest

compare_total : IsTotalOrder compare
compare_total = then_total (on_total kind_of nat_cmp_total) (then_total (on_total name_of nat_list_cmp_total) (on_total descriptor_of nat_list_cmp_total))

-- ---- lines

cut : (x y s t : List ℕ) → Lacks 0x0A x → Lacks 0x0A y → x ++ 0x0A ∷ s ≡ y ++ 0x0A ∷ t → (x ≡ y) × (s ≡ t)
cut x y s t k l e =
    let p : Some (x, s) ≡ Some (y, t) = sym (split_of 0x0A x s k) ∙ ap (split_at 0x0A) e ∙ split_of 0x0A y t l in
    let q : (x, s) ≡ (y, t) = some_is (x, s) (y, t) p in
    (ap (λ (r : List ℕ × List ℕ). r.0) q, ap (λ (r : List ℕ × List ℕ). r.1) q)

no_nil : (x : List ℕ) (b : ℕ) (t : List ℕ) → x ++ b ∷ t ≡ [] → ⊥
no_nil [] b t e = cc
no_nil (c ∷ x) b t e = cc

members_are : (ms : List Member) (ls : List (List ℕ)) → AllByRecursion IsOneLine ls → AreLines ms (ended ls) → map member_of ls ≡ map Some ms
members_are [] [] lacks e = refl
members_are [] (l ∷ ls) lacks e = absurd (no_nil l 0x0A (ended ls) (sym (append_assoc l (0x0A ∷ []) (ended ls)) ∙ e))
members_are (m ∷ ms) [] lacks (line, rest, is, more, e) = absurd (no_nil line 0x0A rest (sym e))
members_are (m ∷ ms) (l ∷ ls) lacks (line, rest, is, more, e) =
    let p = cut l line (ended ls) rest lacks.0 (line_lacks line m is) (sym (append_assoc l (0x0A ∷ []) (ended ls)) ∙ e) in
    let head : member_of l ≡ Some m = ap member_of p.0 ∙ line_found line m is in
    let tail : map member_of ls ≡ map Some ms = members_are ms ls lacks.1 (subst (λ (t : List ℕ). AreLines ms t) (sym p.1) more) in
    ap (λ (o : Option Member). o ∷ map member_of ls) head ∙ ap (λ (r : List (Option Member)). Some m ∷ r) tail

unwrapped : (ms : List Member) → map (λ (o : Option Member). unwrap_or o Initializer) (map Some ms) ≡ ms
unwrapped [] = refl
unwrapped (m ∷ ms) = ap (λ (l : List Member). m ∷ l) (unwrapped ms)

permuted : (ls ks : List (List ℕ)) (ms ns : List Member) → IsPermutation ls ks → map member_of ls ≡ map Some ms → map member_of ks ≡ map Some ns → IsPermutation ms ns
permuted ls ks ms ns p e f =
    let P : List (Option Member) → Type 0 = λ r. IsPermutation r (map member_of ks) in
    let Q : List (Option Member) → Type 0 = λ r. IsPermutation (map Some ms) r in
    let some : IsPermutation (map Some ms) (map Some ns) = subst Q f (subst P e (IsPermutation-map member_of ls ks p)) in
    let plain = IsPermutation-map (λ (o : Option Member). unwrap_or o Initializer) (map Some ms) (map Some ns) some in
    let S : List Member → Type 0 = λ r. IsPermutation r (map (λ (o : Option Member). unwrap_or o Initializer) (map Some ns)) in
    let T : List Member → Type 0 = λ r. IsPermutation ms r in
    subst T (unwrapped ns) (subst S (unwrapped ms) plain)

abbrev IsSameClass : ℕ → List ℕ → ℕ → List ℕ → Type 0
IsSameClass m n k l = (m ≡ k) × (n ≡ l)

same_class : (line : List ℕ) (m k : ℕ) (n l : List ℕ) → IsClassLine line m n → IsClassLine line k l → IsSameClass m n k l
same_class line m k n l is other =
    let p : Some (m, n) ≡ Some (k, l) = sym (class_line_found line m n is) ∙ class_line_found line k l other in
    let q : (m, n) ≡ (k, l) = some_is (m, n) (k, l) p in
    (ap (λ (r : ℕ × List ℕ). r.0) q, ap (λ (r : ℕ × List ℕ). r.1) q)

one_lines : (ls ks : List (List ℕ)) → IsPermutation ls ks → AllByRecursion IsOneLine ls → AllByRecursion IsOneLine ks
one_lines ls ks p h = recursion_from_All IsOneLine ks (All-permutation IsOneLine ls ks p (All-from_recursion IsOneLine ls h))

record IsSplit (first : List ℕ) (lines : List (List ℕ)) (m : ℕ) (n : List ℕ) (ms : List Member) : Type 0 where
  kept : List Member
  class : IsClassLine first m n
  members : map member_of lines ≡ map Some kept
  same : IsPermutation kept ms

split_outline : (text first : List ℕ) (lines : List (List ℕ)) (m : ℕ) (n : List ℕ) (ms : List Member) → IsOneLine first → AllByRecursion IsOneLine lines → text ≡ first ++ 0x0A ∷ ended lines → IsOutline text m n ms → IsSplit first lines m n ms
split_outline text first lines m n ms one each e o =
    let p = cut o.first first o.others (ended lines) (class_line_lacks o.first m n o.class) one (sym o.parts ∙ e) in
    record {
      kept = o.lines;
      class = subst (λ (l : List ℕ). IsClassLine l m n) p.0 o.class;
      members = members_are o.lines lines each (subst (λ (t : List ℕ). AreLines o.lines t) p.1 o.read);
      same = o.same;
    }

pub record IsSameOutline (m : ℕ) (n : List ℕ) (ms : List Member) (k : ℕ) (l : List ℕ) (ks : List Member) : Type 0 where
  pub modifiers : m ≡ k
  pub name : n ≡ l
  pub members : ms ≡ ks

-- outlines whose lines after the first are the same are the same
pub reordered : (text other : List ℕ) (m k : ℕ) (n l : List ℕ) (ms ks : List Member) → IsReordered text other → IsOutline text m n ms → IsOutline other k l ks
    → IsStrictlySortedBy compare ms → IsStrictlySortedBy compare ks → IsSameOutline m n ms k l ks
reordered text other m k n l ms ks r o p up up' =
    let a = split_outline text r.first r.lines m n ms r.one r.each r.text_is o in
    let b = split_outline other r.first r.others k l ks r.one (one_lines r.lines r.others r.same r.each) r.other_is p in
    let same = same_class r.first m k n l a.class b.class in
    let kept : IsPermutation a.kept b.kept = permuted r.lines r.others a.kept b.kept r.same a.members b.members in
    let all : IsPermutation ms ks = IsPermutation-trans ms a.kept ks (IsPermutation-sym a.kept ms a.same) (IsPermutation-trans a.kept b.kept ks kept b.same) in
    record {
      modifiers = same.0;
      name = same.1;
      members = same_sorted compare_total ms ks up up' (in_permutation ks ms (IsPermutation-sym ms ks all)) (in_permutation ms ks all);
    }

-- ---- bad lines

-- where the first lines of a text are those of some members, its members begin with these
record IsFront (ms ns : List Member) (rest : List ℕ) : Type 0 where
  tail : List Member
  whole : ns ≡ ms ++ tail
  read : AreLines tail rest

front : (ms ns : List Member) (s rest t : List ℕ) → AreLines ms s → AreLines ns t → t ≡ s ++ rest → IsFront ms ns rest
front [] ns s rest t e read is = record { tail = ns; whole = refl; read = subst (λ (l : List ℕ). AreLines ns l) (is ∙ ap (λ (l : List ℕ). l ++ rest) e) read }
front (m ∷ ms) [] s rest t (line, more, reads, after, e) read is =
    absurd (no_nil line 0x0A (more ++ rest) (sym (append_assoc line (0x0A ∷ more) rest) ∙ ap (λ (l : List ℕ). l ++ rest) (sym e) ∙ sym is ∙ read))
front (m ∷ ms) (n ∷ ns) s rest t (line, more, reads, after, e) (line', more', reads', after', e') is =
    let whole : line' ++ 0x0A ∷ more' ≡ line ++ 0x0A ∷ (more ++ rest) = sym e' ∙ is ∙ ap (λ (l : List ℕ). l ++ rest) e ∙ append_assoc line (0x0A ∷ more) rest in
    let p = cut line' line more' (more ++ rest) (line_lacks line' n reads') (line_lacks line m reads) whole in
    let same : Some n ≡ Some m = sym (line_found line' n reads') ∙ ap member_of p.0 ∙ line_found line m reads in
    let f = front ms ns more rest more' after after' p.1 in
    record { tail = f.tail; whole = ap (λ (x : Member). x ∷ ns) (some_is n m same) ∙ ap (λ (l : List Member). m ∷ l) f.whole; read = f.read }

apart_later : (x : Member) (ms : List Member) (m : Member) (ns : List Member) → IsNew x (ms ++ m ∷ ns) → IsSameMember m x → ⊥
apart_later x [] m ns h s = h.0 s
apart_later x (y ∷ ms) m ns h s = apart_later x ms m ns h.1 s

new_behind : (ms : List Member) (m : Member) (ns : List Member) → AreDistinct (ms ++ m ∷ ns) → IsNew m ms
new_behind [] m ns h = tt
new_behind (x ∷ ms) m ns h = (λ s. apart_later x ms m ns h.0 record { kind = sym s.kind; name = sym s.name; descriptor = sym s.descriptor }, new_behind ms m ns h.1)

none_after : (text : List ℕ) (number : ℕ) (m : ℕ) (n : List ℕ) (ms : List Member) → IsBadAfter text number → IsOutline text m n ms → ⊥
none_after text number m n ms b o =
    let p = cut o.first b.first o.others (b.others ++ b.rest) (class_line_lacks o.first m n o.class) (class_line_lacks b.first b.modifiers b.name b.class) (sym o.parts ∙ b.parts) in
    let f = front b.lines o.lines b.others b.rest o.others b.read o.read p.1 in
    go f.tail f.read (subst AreDistinct f.whole o.distinct)
  where
    go : (tail : List Member) → AreLines tail b.rest → AreDistinct (b.lines ++ tail) → ⊥
    go [] e distinct = b.more e
    go (x ∷ tail) (line, rest, is, more, e) distinct = b.bad line rest x is (new_behind b.lines x tail distinct) e

-- a text with a bad line is no outline's
pub no_outline : (text : List ℕ) (number : ℕ) → IsBadLine text number → IsOutlineText text → ⊥
no_outline text number (inl b) (m, (n, (ms, o))) = b.0 o.first o.others m n o.class o.parts
no_outline text number (inr b) (m, (n, (ms, o))) = none_after text number m n ms b o

-- ---- one reading

-- The members ns are ms and some more, whose lines the rest r of ms has before the rest u of ns.
record IsLonger (ms ns : List Member) (r u : List ℕ) : Type 0 where
  tail : List Member
  others : List ℕ
  whole : ns ≡ ms ++ tail
  read : AreLines tail others
  is : r ≡ others ++ u

with_first : (m : Member) (ms ns : List Member) (r u : List ℕ) → IsLonger ms ns r u → IsLonger (m ∷ ms) (m ∷ ns) r u
with_first m ms ns r u l = record { tail = l.tail; others = l.others; whole = ap (λ (x : List Member). m ∷ x) l.whole; read = l.read; is = l.is }

-- Of two readings of the beginning of a text the one is the other, and goes on.
meet : (ms ns : List Member) (s r t u : List ℕ) → AreLines ms s → AreLines ns t → s ++ r ≡ t ++ u → IsLonger ms ns r u ⊎ IsLonger ns ms u r
meet [] ns s r t u e read is = inl record { tail = ns; others = t; whole = refl; read = read; is = sym (ap (λ (x : List ℕ). x ++ r) e) ∙ is }
meet (m ∷ ms) [] s r t u read e is = inr record { tail = m ∷ ms; others = s; whole = refl; read = read; is = sym (ap (λ (x : List ℕ). x ++ u) e) ∙ sym is }
meet (m ∷ ms) (n ∷ ns) s r t u (line, more, reads, after, e) (line', more', reads', after', e') is =
    let whole : line ++ 0x0A ∷ (more ++ r) ≡ line' ++ 0x0A ∷ (more' ++ u) =
    sym (append_assoc line (0x0A ∷ more) r) ∙ sym (ap (λ (x : List ℕ). x ++ r) e) ∙ is ∙ ap (λ (x : List ℕ). x ++ u) e' ∙ append_assoc line' (0x0A ∷ more') u in
    let p = cut line line' (more ++ r) (more' ++ u) (line_lacks line m reads) (line_lacks line' n reads') whole in
    let same : m ≡ n = some_is m n (sym (line_found line m reads) ∙ ap member_of p.0 ∙ line_found line' n reads') in
    let Either : Member → Type 0 = λ x. IsLonger (m ∷ ms) (x ∷ ns) r u ⊎ IsLonger (x ∷ ns) (m ∷ ms) u r in
    subst Either same (elim (meet ms ns more r more' u after after' p.1) [
      | inl l ↦ inl (with_first m ms ns r u l)
      | inr l ↦ inr (with_first m ns ms u r l)
    ])

-- Where reading stops at no further member, no longer reading has distinct members.
none_longer : (ms ns : List Member) (r u : List ℕ) → ((line tail : List ℕ) (m : Member) → IsLine line m → IsNew m ms → r ≡ line ++ 0x0A ∷ tail → ⊥) → AreDistinct ns → IsLonger ms ns r u → ns ≡ ms
none_longer ms ns r u bad distinct l = go l.tail l.others l.whole l.read l.is
  where
    go : (tail : List Member) (others : List ℕ) → ns ≡ ms ++ tail → AreLines tail others → r ≡ others ++ u → ns ≡ ms
    go [] others whole e is = whole ∙ append-nil ms
    go (x ∷ tail) others whole (line, rest, reads, more, e) is =
        absurd (bad line (rest ++ u) x reads (new_behind ms x tail (subst AreDistinct whole distinct)) (is ∙ ap (λ (y : List ℕ). y ++ u) e ∙ append_assoc line (0x0A ∷ rest) u))

same_lines : (text : List ℕ) (a b : ℕ) (x : IsBadAfter text a) (y : IsBadAfter text b) → x.lines ≡ y.lines
same_lines text a b x y =
    let p = cut x.first y.first (x.others ++ x.rest) (y.others ++ y.rest) (class_line_lacks x.first x.modifiers x.name x.class) (class_line_lacks y.first y.modifiers y.name y.class) (sym x.parts ∙ y.parts) in
    elim (meet x.lines y.lines x.others x.rest y.others y.rest x.read y.read p.1) [
      | inl l ↦ sym (none_longer x.lines y.lines x.rest y.rest x.bad y.distinct l)
      | inr l ↦ none_longer y.lines x.lines y.rest x.rest y.bad x.distinct l
    ]

-- A text has one first bad line.
pub bad_once : (text : List ℕ) (a b : ℕ) → IsBadLine text a → IsBadLine text b → a ≡ b
bad_once text a b (inl x) (inl y) = x.1 ∙ sym y.1
bad_once text a b (inl x) (inr y) = absurd (x.0 y.first (y.others ++ y.rest) y.modifiers y.name y.class y.parts)
bad_once text a b (inr x) (inl y) = absurd (y.0 x.first (x.others ++ x.rest) x.modifiers x.name x.class x.parts)
bad_once text a b (inr x) (inr y) = x.counted ∙ ap (λ (ms : List Member). length ms + 2) (same_lines text a b x y) ∙ sym y.counted

-- A text outlines one class.
pub outlined_once : (text : List ℕ) (m k : ℕ) (n l : List ℕ) (ms ks : List Member) → IsOutline text m n ms → IsOutline text k l ks
    → IsStrictlySortedBy compare ms → IsStrictlySortedBy compare ks → IsSameOutline m n ms k l ks
outlined_once text m k n l ms ks o p up up' =
    let c = cut o.first p.first o.others p.others (class_line_lacks o.first m n o.class) (class_line_lacks p.first k l p.class) (sym o.parts ∙ p.parts) in
    let same = same_class o.first m k n l o.class (subst (λ (x : List ℕ). IsClassLine x k l) (sym c.0) p.class) in
    let f = front o.lines p.lines o.others [] p.others o.read p.read (sym c.1 ∙ sym (append-nil o.others)) in
    let lines : p.lines ≡ o.lines = f.whole ∙ ap (λ (x : List Member). o.lines ++ x) (no_more f.tail f.read) ∙ append-nil o.lines in
    let all : IsPermutation ms ks = IsPermutation-trans ms o.lines ks (IsPermutation-sym o.lines ms o.same) (subst (λ (x : List Member). IsPermutation x ks) lines p.same) in
    record {
      modifiers = same.0;
      name = same.1;
      members = same_sorted compare_total ms ks up up' (in_permutation ks ms (IsPermutation-sym ms ks all)) (in_permutation ms ks all);
    }
  where
    no_more : (tail : List Member) → AreLines tail [] → tail ≡ []
    no_more [] e = refl
    no_more (x ∷ tail) (line, rest, is, more, e) = absurd (no_nil line 0x0A rest (sym e))

-- ---- numbers

pub same_number : (m k : ℕ) (n l : List ℕ) (ms ks : List Member) → IsSameOutline m n ms k l ks → suid_of m n ms ≡ suid_of k l ks
same_number m k n l ms ks s =
    ap (λ (x : ℕ). suid_of x n ms) s.modifiers ∙ ap (λ (x : List ℕ). suid_of k x ms) s.name ∙ ap (λ (x : List Member). suid_of k l x) s.members
