-- Identifiers are the same exactly where they are equal.
use Rattle.std.proofs.Common.{◌≡◌, ℕ, refl, ap, subst, ◌∙◌, List, [], ◌∷◌}
use Rattle.std.specs.Prelude.{ℤ, Bool, true, false, ◌&&◌, ◌==◌}
use Rattle.std.specs.Ordering.{int_eq}
use Rattle.std.proofs.lemmas.Bool.Decides.{Decides-int_eq, Decides-eqb}
use Rattle.std.proofs.lemmas.Bool.{and_parts, and_from}
use Rattle.object_ids.specs.declared.ids.Uid.{Uid}
use Rattle.object_ids.specs.declared.ids.ObjId.{ObjId}
use Rattle.object_ids.specs.Client.{Client}
use Rattle.object_ids.specs.Same.{same_uid, same_id, same_uid_key, same_key, same_bytes, same_client}

int_eq-self : (x : ℤ) → int_eq x x ≡ true
int_eq-self x = (Decides-int_eq x x).1 refl

-- Keys are the same exactly where the identifiers are.
pub same_uid_key-same : (a b : Uid) → same_uid_key a b ≡ same_uid a b
same_uid_key-same a b = regrouped (int_eq a.time b.time) (int_eq a.unique b.unique) (int_eq a.count b.count)
  where
    regrouped : (t u c : Bool) → (t && (u && c)) ≡ ((u && t) && c)
    regrouped true true c = refl
    regrouped true false c = refl
    regrouped false true c = refl
    regrouped false false c = refl

pub same_key-same : (a b : ObjId) → same_key a b ≡ same_id a b
same_key-same a b = ap (λ v. int_eq a.number b.number && v) (same_uid_key-same a.space b.space)

pub same_uid-equal : (a b : Uid) → same_uid a b ≡ true → a ≡ b
same_uid-equal a b h =
    let two = and_parts (int_eq a.unique b.unique && int_eq a.time b.time) (int_eq a.count b.count) h in
    let one = and_parts (int_eq a.unique b.unique) (int_eq a.time b.time) two.0 in
    let u : a.unique ≡ b.unique = (Decides-int_eq a.unique b.unique).0 one.0 in
    let t : a.time ≡ b.time = (Decides-int_eq a.time b.time).0 one.1 in
    let c : a.count ≡ b.count = (Decides-int_eq a.count b.count).0 two.1 in
    ap (λ (x : ℤ). record a { unique = x }) u ∙ ap (λ (x : ℤ). record a { unique = b.unique; time = x }) t ∙ ap (λ (x : ℤ). record { unique = b.unique; time = b.time; count = x }) c

pub same_uid-self : (a : Uid) → same_uid a a ≡ true
same_uid-self a = rw (int_eq-self a.unique, int_eq-self a.time, int_eq-self a.count) refl

pub same_uid-true : (a b : Uid) → a ≡ b → same_uid a b ≡ true
same_uid-true a b e = let P : Uid → Type 0 = λ x. same_uid a x ≡ true in subst P e (same_uid-self a)

pub same_id-equal : (a b : ObjId) → same_id a b ≡ true → a ≡ b
same_id-equal a b h =
    let two = and_parts (int_eq a.number b.number) (same_uid a.space b.space) h in
    ap (λ (x : ℤ). record a { number = x }) ((Decides-int_eq a.number b.number).0 two.0) ∙ ap (λ (x : Uid). record { number = b.number; space = x }) (same_uid-equal a.space b.space two.1)

pub same_id-self : (a : ObjId) → same_id a a ≡ true
same_id-self a = rw (int_eq-self a.number, same_uid-self a.space) refl

pub same_id-true : (a b : ObjId) → a ≡ b → same_id a b ≡ true
same_id-true a b e = let P : ObjId → Type 0 = λ x. same_id a x ≡ true in subst P e (same_id-self a)

pub same_bytes-equal : (a b : List ℕ) → same_bytes a b ≡ true → a ≡ b
same_bytes-equal [] [] h = refl
same_bytes-equal [] (y ∷ ys) h = absurd (cc)
same_bytes-equal (x ∷ xs) [] h = absurd (cc)
same_bytes-equal (x ∷ xs) (y ∷ ys) h =
    let two = and_parts (x == y) (same_bytes xs ys) h in
    ap (λ n. n ∷ xs) ((Decides-eqb x y).0 two.0) ∙ ap (λ l. y ∷ l) (same_bytes-equal xs ys two.1)

pub same_bytes-self : (a : List ℕ) → same_bytes a a ≡ true
same_bytes-self [] = refl
same_bytes-self (x ∷ xs) = and_from (x == x) (same_bytes xs xs) ((Decides-eqb x x).1 refl) (same_bytes-self xs)

pub same_client-equal : (a b : Client) → same_client a b ≡ true → a ≡ b
same_client-equal a b h =
    let two = and_parts (same_bytes a.addr b.addr) (same_uid a.uid b.uid) h in
    ap (λ (x : List ℕ). record a { addr = x }) (same_bytes-equal a.addr b.addr two.0) ∙ ap (λ (x : Uid). record { addr = b.addr; uid = x }) (same_uid-equal a.uid b.uid two.1)

pub same_client-self : (a : Client) → same_client a a ≡ true
same_client-self a = and_from (same_bytes a.addr a.addr) (same_uid a.uid a.uid) (same_bytes-self a.addr) (same_uid-self a.uid)

pub same_client-true : (a b : Client) → a ≡ b → same_client a b ≡ true
same_client-true a b e = let P : Client → Type 0 = λ x. same_client a x ≡ true in subst P e (same_client-self a)

-- the tests compute on numbers that stand there
one : Uid
one = record { unique = Rattle.std.specs.Prelude.pos 1; time = Rattle.std.specs.Prelude.negsuc 4; count = Rattle.std.specs.Prelude.pos 3 }

one_is_one : same_uid one one ≡ true
unfolding one
one_is_one = refl
