-- Reading words: what is read is what the grammar says, and all of that is read.
use Rattle.std.proofs.Common.{◌≡◌, ℕ, zero, suc, ◌+◌, ◌-◌, ◌*◌, ◌<◌, ◌≤◌, Bool, true, false, cond, not, ◌&&◌, eqb, leb, ltb, List, [], ◌∷◌, ◌++◌, length, Option, Some, None, option_map, option_and_then, refl, sym, ap, subst, ◌∙◌, arith, eq-eqb, eqb-true, le-leb, leb-true, ltb-true, lt-ltb, le_trans}
use Rattle.std.specs.List.{AllByRecursion, list_all}
use Rattle.std.proofs.lemmas.Bool.{and_parts, and_from, ne_eqb, eqb-false, not-true}
use Rattle.suid_calc.specs.declared.outline.TheConstants.{NAME_BYTES, MAX_MODIFIERS}
use Rattle.suid_calc.specs.Grammar.{is_name_byte, is_digit, IsName, IsNumber, HasNoLeadingZero, value_after}
use Rattle.suid_calc.specs.Reading.{split_at, is_name, number, number_after}

-- ---- options

pub some_is : {A : Type 0} (x y : A) → Some x ≡ Some y → x ≡ y
some_is x y e = cc

pub bound : {A B : Type 0} (f : A → Option B) (o : Option A) (y : B) → option_and_then f o ≡ Some y → (x : A) × (o ≡ Some x) × (f x ≡ Some y)
bound f None y h = absurd cc
bound f (Some x) y h = (x, refl, h)

pub mapped : {A B : Type 0} (f : A → B) (o : Option A) (y : B) → option_map f o ≡ Some y → (x : A) × (o ≡ Some x) × (f x ≡ y)
mapped f None y h = absurd cc
mapped f (Some x) y h = (x, refl, some_is (f x) y h)

pub tested : {A : Type 0} (b : Bool) (x y : A) → cond b (Some x) None ≡ Some y → (b ≡ true) × (x ≡ y)
tested true x y h = (refl, some_is x y h)
tested false x y h = absurd cc

-- ---- lists

pub all_is : {X : Type 0} (p : X → Bool) (xs : List X) → list_all p xs ≡ true → AllByRecursion (λ x. p x ≡ true) xs
all_is p [] h = tt
all_is p (x ∷ xs) h = let a = and_parts (p x) (list_all p xs) h in (a.0, all_is p xs a.1)

pub all_of : {X : Type 0} (p : X → Bool) (xs : List X) → AllByRecursion (λ x. p x ≡ true) xs → list_all p xs ≡ true
all_of p [] h = refl
all_of p (x ∷ xs) h = and_from (p x) (list_all p xs) h.0 (all_of p xs h.1)

pub weaker : {X : Type 0} (P Q : X → Type 0) → ((x : X) → P x → Q x) → (xs : List X) → AllByRecursion P xs → AllByRecursion Q xs
weaker P Q f [] h = tt
weaker P Q f (x ∷ xs) h = (f x h.0, weaker P Q f xs h.1)

-- ---- words

-- no byte of the list is b
abbrev pub Lacks : ℕ → List ℕ → Type 0
Lacks b w = AllByRecursion (λ c. eqb c b ≡ false) w

pub split_is : (b : ℕ) (t : List ℕ) (p : List ℕ × List ℕ) → split_at b t ≡ Some p → t ≡ p.0 ++ b ∷ p.1
unfolding split_at
split_is b [] p h = absurd cc
split_is b (c ∷ t) p h = go (λ q e. split_is b t q e) (eqb c b) refl h
  where
    go : ((q : List ℕ × List ℕ) → split_at b t ≡ Some q → t ≡ q.0 ++ b ∷ q.1) → (v : Bool) → eqb c b ≡ v → cond v (Some ([], t)) (option_map (λ (q : List ℕ × List ℕ). (c ∷ q.0, q.1)) (split_at b t)) ≡ Some p → c ∷ t ≡ p.0 ++ b ∷ p.1
    go again true e g =
        let is : ([], t) ≡ p = some_is ([], t) p g in
        subst (λ (q : List ℕ × List ℕ). c ∷ t ≡ q.0 ++ b ∷ q.1) is (ap (λ (n : ℕ). n ∷ t) (eqb-true c b e))
    go again false e g =
        let m = mapped (λ (q : List ℕ × List ℕ). (c ∷ q.0, q.1)) (split_at b t) p g in
        subst (λ (q : List ℕ × List ℕ). c ∷ t ≡ q.0 ++ b ∷ q.1) m.2 (ap (λ (l : List ℕ). c ∷ l) (again m.0 m.1))

pub split_lacks : (b : ℕ) (t : List ℕ) (p : List ℕ × List ℕ) → split_at b t ≡ Some p → Lacks b p.0
unfolding split_at
split_lacks b [] p h = absurd cc
split_lacks b (c ∷ t) p h = go (λ q e. split_lacks b t q e) (eqb c b) refl h
  where
    go : ((q : List ℕ × List ℕ) → split_at b t ≡ Some q → Lacks b q.0) → (v : Bool) → eqb c b ≡ v → cond v (Some ([], t)) (option_map (λ (q : List ℕ × List ℕ). (c ∷ q.0, q.1)) (split_at b t)) ≡ Some p → Lacks b p.0
    go again true e g =
        let is : ([], t) ≡ p = some_is ([], t) p g in
        subst (λ (q : List ℕ × List ℕ). Lacks b q.0) is tt
    go again false e g =
        let m = mapped (λ (q : List ℕ × List ℕ). (c ∷ q.0, q.1)) (split_at b t) p g in
        subst (λ (q : List ℕ × List ℕ). Lacks b q.0) m.2 (e, again m.0 m.1)

pub split_of : (b : ℕ) (w t : List ℕ) → Lacks b w → split_at b (w ++ b ∷ t) ≡ Some (w, t)
unfolding split_at
split_of b [] t l = rw (eq-eqb b b refl) refl
split_of b (c ∷ w) t l =
    let apart : eqb c b ≡ false = l.0 in
    let rest : split_at b (w ++ b ∷ t) ≡ Some (w, t) = split_of b w t l.1 in
    rw (apart, rest) refl

pub name_is : (t : List ℕ) → is_name t ≡ true → IsName t
name_is t h =
    let a = and_parts (ltb 0 (length t)) (leb (length t) NAME_BYTES && list_all is_name_byte t) h in
    let b = and_parts (leb (length t) NAME_BYTES) (list_all is_name_byte t) a.1 in
    record { visible = all_is is_name_byte t b.1; some = ltb-true 0 (length t) a.0; short = leb-true (length t) NAME_BYTES b.0 }

pub name_is_read : (t : List ℕ) → IsName t → is_name t ≡ true
name_is_read t n =
    and_from (ltb 0 (length t)) _ (lt-ltb 0 (length t) n.some) (and_from (leb (length t) NAME_BYTES) _ (le-leb (length t) NAME_BYTES n.short) (all_of is_name_byte t n.visible))

-- a byte that passes a test which b fails isn't b
pub apart_from : (p : ℕ → Bool) (b c : ℕ) → p b ≡ false → p c ≡ true → eqb c b ≡ false
apart_from p b c fails passes = ne_eqb c b (λ e. true≢false' (sym passes ∙ ap p e ∙ fails))
  where
    true≢false' : true ≡ false → ⊥
    true≢false' h = cc

pub name_has_no_blank : (t : List ℕ) → IsName t → Lacks 0x20 t
name_has_no_blank t n = weaker (λ b. is_name_byte b ≡ true) (λ c. eqb c 0x20 ≡ false) (λ c h. apart_from is_name_byte 0x20 c refl h) t n.visible

pub digits_have_no_blank : (t : List ℕ) (n : ℕ) → IsNumber t n → Lacks 0x20 t
digits_have_no_blank t n h = weaker (λ b. is_digit b ≡ true) (λ c. eqb c 0x20 ≡ false) (λ c k. apart_from is_digit 0x20 c refl k) t h.digital

-- ---- numbers

rises : (n : ℕ) (t : List ℕ) → n ≤ value_after n t
rises n [] = omega arith
rises n (c ∷ t) = let more : 10 * n + (c - 0x30) ≤ value_after (10 * n + (c - 0x30)) t = rises (10 * n + (c - 0x30)) t in omega arith

record IsAfter (n : ℕ) (t : List ℕ) (m : ℕ) : Type 0 where
  digital : AllByRecursion (λ b. is_digit b ≡ true) t
  value : value_after n t ≡ m
  small : n ≤ MAX_MODIFIERS → m ≤ MAX_MODIFIERS

after_is : (n : ℕ) (t : List ℕ) (m : ℕ) → number_after n t ≡ Some m → IsAfter n t m
unfolding number_after
after_is n [] m h = let e : n ≡ m = some_is n m h in record { digital = tt; value = e; small = λ k. subst (λ (x : ℕ). x ≤ MAX_MODIFIERS) e k }
after_is n (c ∷ t) m h = go (λ g. after_is (10 * n + (c - 0x30)) t m g) (is_digit c) refl (leb (10 * n + (c - 0x30)) MAX_MODIFIERS) refl h
  where
    go : (number_after (10 * n + (c - 0x30)) t ≡ Some m → IsAfter (10 * n + (c - 0x30)) t m) → (u : Bool) → is_digit c ≡ u → (v : Bool) → leb (10 * n + (c - 0x30)) MAX_MODIFIERS ≡ v → cond (u && v) (number_after (10 * n + (c - 0x30)) t) None ≡ Some m → IsAfter n (c ∷ t) m
    go again true d true l g =
        let a = again g in
        record { digital = (d, a.digital); value = a.value; small = λ k. a.small (leb-true _ _ l) }
    go again true d false l g = absurd cc
    go again false d v l g = absurd cc

after_of : (n : ℕ) (t : List ℕ) → AllByRecursion (λ b. is_digit b ≡ true) t → value_after n t ≤ MAX_MODIFIERS → number_after n t ≡ Some (value_after n t)
unfolding number_after
after_of n [] d small = refl
after_of n (c ∷ t) d small =
    let fits : leb (10 * n + (c - 0x30)) MAX_MODIFIERS ≡ true = le-leb _ _ (le_trans (rises (10 * n + (c - 0x30)) t) small) in
    let digit : is_digit c ≡ true = d.0 in
    let rest : number_after (10 * n + (c - 0x30)) t ≡ Some (value_after (10 * n + (c - 0x30)) t) = after_of (10 * n + (c - 0x30)) t d.1 small in
    rw (and_from (is_digit c) (leb (10 * n + (c - 0x30)) MAX_MODIFIERS) digit fits) rest

pub number_is : (t : List ℕ) (m : ℕ) → number t ≡ Some m → IsNumber t m
number_is [] m h = absurd cc
number_is (c ∷ []) m h = let a = after_is 0 (c ∷ []) m h in record { digital = a.digital; plain = tt; value = a.value; small = a.small (omega arith) }
number_is (c ∷ d ∷ t) m h = go (eqb c 0x30) refl h
  where
    go : (v : Bool) → eqb c 0x30 ≡ v → cond v None (number_after 0 (c ∷ d ∷ t)) ≡ Some m → IsNumber (c ∷ d ∷ t) m
    go true e g = absurd cc
    go false e g = let a = after_is 0 (c ∷ d ∷ t) m g in record { digital = a.digital; plain = eqb-false c 0x30 e; value = a.value; small = a.small (omega arith) }

pub number_of : (t : List ℕ) (m : ℕ) → IsNumber t m → number t ≡ Some m
number_of [] m n = absurd n.plain
number_of (c ∷ []) m n = after_of 0 (c ∷ []) n.digital (subst (λ (x : ℕ). x ≤ MAX_MODIFIERS) (sym n.value) n.small) ∙ ap Some n.value
number_of (c ∷ d ∷ t) m n =
    rw (ne_eqb c 0x30 n.plain) (after_of 0 (c ∷ d ∷ t) n.digital (subst (λ (x : ℕ). x ≤ MAX_MODIFIERS) (sym n.value) n.small) ∙ ap Some n.value)
