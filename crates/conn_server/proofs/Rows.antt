-- Lists whose elements are known by their places.
use Rattle.std.proofs.Common.{◌≡◌, ℕ, zero, suc, ◌+◌, ◌<◌, List, [], ◌∷◌, ◌++◌, length, map, set, get_or, ap, refl, sym, ◌∙◌, subst, arith}
use Rattle.conn_server.specs.Rows.{EachAt, Paired}

pub each_on : {A : Type 0} (P : ℕ → A → Type 0) (n : ℕ) (xs : List A) (x : A) → EachAt P n xs → P (length xs + n) x → EachAt P n (xs ++ x ∷ [])
each_on P n [] x a b = (subst (λ (k : ℕ). P k x) (omega arith) b, tt)
each_on P n (y ∷ ys) x a b = (a.0, each_on P (suc n) ys x a.1 (subst (λ (k : ℕ). P k x) (omega arith) b))

pub each_map : {A : Type 0} (P Q : ℕ → A → Type 0) → ((k : ℕ) (x : A) → P k x → Q k x) → (n : ℕ) (xs : List A) → EachAt P n xs → EachAt Q n xs
each_map P Q f n [] a = tt
each_map P Q f n (x ∷ xs) a = (f n x a.0, each_map P Q f (suc n) xs a.1)

pub each_get : {A : Type 0} (P : ℕ → A → Type 0) (n i : ℕ) (xs : List A) (d : A) → EachAt P n xs → i < length xs → P (i + n) (get_or xs i d)
each_get P n i [] d a lt = absurd (omega (arith, lt))
each_get P n zero (x ∷ xs) d a lt = subst (λ (k : ℕ). P k x) (omega arith) a.0
each_get P n (suc i) (x ∷ xs) d a lt = subst (λ (k : ℕ). P k (get_or xs i d)) (omega arith) (each_get P (suc n) i xs d a.1 (omega (arith, lt)))

pub each_set : {A : Type 0} (P : ℕ → A → Type 0) (n i : ℕ) (xs : List A) (y : A) → EachAt P n xs → P (i + n) y → EachAt P n (set xs i y)
each_set P n i [] y a b = tt
each_set P n zero (x ∷ xs) y a b = (subst (λ (k : ℕ). P k y) (omega arith) b, a.1)
each_set P n (suc i) (x ∷ xs) y a b = (a.0, each_set P (suc n) i xs y a.1 (subst (λ (k : ℕ). P k y) (omega arith) b))

pub map_set : {A B : Type 0} (f : A → B) (i : ℕ) (xs : List A) (y d : A) → f y ≡ f (get_or xs i d) → map f (set xs i y) ≡ map f xs
map_set f i [] y d same = refl
map_set f zero (x ∷ xs) y d same = ap (λ z. z ∷ map f xs) same
map_set f (suc i) (x ∷ xs) y d same = ap (λ l. f x ∷ l) (map_set f i xs y d same)

pub map_by : {A B C : Type 0} (f : A → B) (g : B → C) (xs ys : List A) → map f xs ≡ map f ys → map (λ x. g (f x)) xs ≡ map (λ x. g (f x)) ys
map_by f g xs ys same = sym (twice f g xs) ∙ (ap (map g) same ∙ twice f g ys)
  where
    twice : {A B C : Type 0} (f : A → B) (g : B → C) (l : List A) → map g (map f l) ≡ map (λ x. g (f x)) l
    twice f g [] = refl
    twice f g (x ∷ l) = ap (λ t. g (f x) ∷ t) (twice f g l)

pub paired_map : {A B : Type 0} (R Q : ℕ → A → B → Type 0) → ((k : ℕ) (x : A) (y : B) → R k x y → Q k x y) → (n : ℕ) (xs : List A) (ys : List B) → Paired R n xs ys → Paired Q n xs ys
paired_map R Q f n [] [] p = tt
paired_map R Q f n (x ∷ xs) (y ∷ ys) p = (f n x y p.0, paired_map R Q f (suc n) xs ys p.1)
paired_map R Q f n [] (y ∷ ys) p = p
paired_map R Q f n (x ∷ xs) [] p = p

pub paired_on : {A B : Type 0} (R : ℕ → A → B → Type 0) (n : ℕ) (xs : List A) (ys : List B) (x : A) (y : B) → Paired R n xs ys → R (length xs + n) x y → Paired R n (xs ++ x ∷ []) (ys ++ y ∷ [])
paired_on R n [] [] x y p r = (subst (λ (k : ℕ). R k x y) (omega arith) r, tt)
paired_on R n (a ∷ xs) (b ∷ ys) x y p r = (p.0, paired_on R (suc n) xs ys x y p.1 (subst (λ (k : ℕ). R k x y) (omega arith) r))
paired_on R n [] (b ∷ ys) x y p r = absurd p
paired_on R n (a ∷ xs) [] x y p r = absurd p

pub paired_length : {A B : Type 0} (R : ℕ → A → B → Type 0) (n : ℕ) (xs : List A) (ys : List B) → Paired R n xs ys → length xs ≡ length ys
paired_length R n [] [] p = refl
paired_length R n (a ∷ xs) (b ∷ ys) p = ap suc (paired_length R (suc n) xs ys p.1)
paired_length R n [] (b ∷ ys) p = absurd p
paired_length R n (a ∷ xs) [] p = absurd p

pub none_left : {A : Type 0} (n : ℕ) (xs : List A) → n ≡ length xs → n ≡ 0 → xs ≡ []
none_left n [] is none = refl
none_left n (x ∷ xs) is none = absurd (omega (arith, is, none))

pub one_left : {A : Type 0} (n m : ℕ) (xs more : List A) (x : A) → n ≡ length xs → xs ≡ x ∷ more → m + 1 ≡ n → m ≡ length more
one_left {A = A} n m xs more x is took less =
    let l : length xs ≡ suc (length more) = ap (λ (l : List A). length l) took in omega (arith, is, l, less)

-- An element amid others.
pub each_amid : {A : Type 0} (P : ℕ → A → Type 0) (n : ℕ) (before : List A) (x : A) (after : List A) → EachAt P n (before ++ x ∷ after) → P (length before + n) x
each_amid P n [] x after a = subst (λ (k : ℕ). P k x) (omega arith) a.0
each_amid P n (b ∷ before) x after a = subst (λ (k : ℕ). P k x) (omega arith) (each_amid P (suc n) before x after a.1)

pub each_instead : {A : Type 0} (P : ℕ → A → Type 0) (n : ℕ) (before : List A) (x y : A) (after : List A) → EachAt P n (before ++ x ∷ after) → P (length before + n) y → EachAt P n (before ++ y ∷ after)
each_instead P n [] x y after a p = (subst (λ (k : ℕ). P k y) (omega arith) p, a.1)
each_instead P n (b ∷ before) x y after a p = (a.0, each_instead P (suc n) before x y after a.1 (subst (λ (k : ℕ). P k y) (omega arith) p))

pub set_amid : {A : Type 0} (before : List A) (x y : A) (after : List A) → set (before ++ x ∷ after) (length before) y ≡ before ++ y ∷ after
set_amid [] x y after = refl
set_amid (b ∷ before) x y after = ap (λ l. b ∷ l) (set_amid before x y after)

pub map_instead : {A B : Type 0} (f : A → B) (before : List A) (x y : A) (after : List A) → f y ≡ f x → map f (before ++ y ∷ after) ≡ map f (before ++ x ∷ after)
map_instead f [] x y after same = ap (λ z. z ∷ map f after) same
map_instead f (b ∷ before) x y after same = ap (λ l. f b ∷ l) (map_instead f before x y after same)

-- What a pair says of its second element, each second element has.
pub paired_second : {A B : Type 0} (R : ℕ → A → B → Type 0) (P : ℕ → B → Type 0) → ((k : ℕ) (x : A) (y : B) → R k x y → P k y) → (n : ℕ) (xs : List A) (ys : List B) → Paired R n xs ys → EachAt P n ys
paired_second R P f n [] [] p = tt
paired_second R P f n (x ∷ xs) (y ∷ ys) p = (f n x y p.0, paired_second R P f (suc n) xs ys p.1)
paired_second R P f n [] (y ∷ ys) p = absurd p
paired_second R P f n (x ∷ xs) [] p = absurd p
