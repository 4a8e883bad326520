-- Laws of the leases.
use Rattle.std.proofs.Common.{◌≡◌, ℕ, inl, inr, List, [], ◌∷◌, length, refl, ap, sym, subst, ◌∙◌, arith, cond, Ordering}
use Rattle.std.specs.Prelude.{ℤ, Bool, true, false, ◌&&◌, ◌||◌, nat_lt, not, map, int_lt}
use Rattle.std.specs.List.{list_any, list_all, AllByRecursion}
use Rattle.std.specs.Ordering.{is_eq, int_eq}
use Rattle.std.specs.declared.cmp.Ordering.TheVariants.{Less, Equal, Greater}
use Rattle.std.proofs.lemmas.Int.{ints}
use Rattle.std.proofs.lemmas.Bool.{and_parts, and_from, not-true, true_from_ne_false, false_from_ne_true}
use Rattle.object_ids.specs.declared.ids.ObjId.{ObjId}
use Rattle.object_ids.specs.Client.{Client, client_cmp}
use Rattle.object_ids.proofs.Order.{client_cmp-equal}
use Rattle.history.specs.declared.calls.Call.{Call}
use Rattle.history.specs.Leases.{is_dirty, is_higher, highest_is_dirty, calls_of, clients, holds, holders, is_held}
use Rattle.history.proofs.ListLemmas.{every-two, every-test, Somewhere, Somewhere-test, test-Somewhere, Somewhere-both, Respects, list_any-filter, list_any-in_order, list_any-map, list_any-length, same_test}

-- ---- the highest call

int_lt-asym : (a b : ℤ) → int_lt a b ≡ true → int_lt b a ≡ false
int_lt-asym a b h = grind (arith, ints)

int_lt-above : (a b m : ℤ) → int_lt a b ≡ true → int_lt m b ≡ false → int_lt a m ≡ true
int_lt-above a b m h g = grind (arith, ints)

-- A dirty is below a clean exactly where the clean's number isn't smaller.
higher-clean : (x y : Call) → is_dirty x ≡ true → is_dirty y ≡ false → is_higher y x ≡ not (int_lt y.number x.number)
higher-clean x y d c = rw (d, c) (go (int_lt x.number y.number) (int_lt y.number x.number) refl refl)
  where
    go : (p q : Bool) → int_lt x.number y.number ≡ p → int_lt y.number x.number ≡ q →
        (p || ((is_eq (cond p Less (cond q Greater Equal)) && true) && true)) ≡ not q
    go true true e f = absurd (let never = int_lt-asym x.number y.number e in cc)
    go true false e f = refl
    go false true e f = refl
    go false false e f = refl

higher-dirty : (x y : Call) → is_dirty y ≡ true → is_higher y x ≡ int_lt x.number y.number
higher-dirty x y d = rw d (go (int_lt x.number y.number) (int_eq x.number y.number && is_dirty x))
  where
    go : (p q : Bool) → (p || (q && false)) ≡ p
    go true q = refl
    go false true = refl
    go false false = refl

-- The call is a dirty of these than which no other dirty has a greater number.
record IsGreatest (calls : List Call) (m : Call) : Type 0 where
  dirty : is_dirty m ≡ true
  there : Somewhere (λ x. x ≡ m) calls
  above : AllByRecursion (λ x. is_dirty x ≡ true → int_lt m.number x.number ≡ false) calls

greatest : (calls : List Call) → list_any is_dirty calls ≡ true → (m : Call) × IsGreatest calls m
greatest [] h = absurd (cc)
greatest (x ∷ calls) h = go (is_dirty x) (list_any is_dirty calls) refl refl h (greatest calls)
  where
    self : int_lt x.number x.number ≡ false
    self = false_from_ne_true (int_lt x.number x.number) (λ e. let f = int_lt-asym x.number x.number e in cc)

    nothing : (ys : List Call) → list_any is_dirty ys ≡ false → AllByRecursion (λ y. is_dirty y ≡ true → int_lt x.number y.number ≡ false) ys
    nothing [] e = tt
    nothing (y ∷ ys) e = none (is_dirty y) (list_any is_dirty ys) refl refl e (nothing ys)
      where
        none : (a b : Bool) → is_dirty y ≡ a → list_any is_dirty ys ≡ b → (a || b) ≡ false →
            (list_any is_dirty ys ≡ false → AllByRecursion (λ z. is_dirty z ≡ true → int_lt x.number z.number ≡ false) ys) →
            AllByRecursion (λ z. is_dirty z ≡ true → int_lt x.number z.number ≡ false) (y ∷ ys)
        none false false p q r rest = ((λ d. absurd (cc)), rest q)
        none true b p q r rest = absurd (cc)
        none false true p q r rest = absurd (cc)

    compared : (m : Call) → IsGreatest calls m → (b : Bool) → int_lt m.number x.number ≡ b → is_dirty x ≡ true → (n : Call) × IsGreatest (x ∷ calls) n
    compared m g true e d = (
      x,
      record {
        dirty = d;
        there = inl refl;
        above = (
          (λ z. self),
          every-two (λ y. is_dirty y ≡ true → int_lt m.number y.number ≡ false) (λ y. Unit {0}) (λ y. is_dirty y ≡ true → int_lt x.number y.number ≡ false)
              (λ y f u z. not_above m y (f z) e) calls g.above (every_unit calls),
        );
      },
    )
      where
        not_above : (m y : Call) → int_lt m.number y.number ≡ false → int_lt m.number x.number ≡ true → int_lt x.number y.number ≡ false
        not_above m y f e = grind (arith, ints)

        every_unit : (ys : List Call) → AllByRecursion (λ y. Unit {0}) ys
        every_unit [] = tt
        every_unit (y ∷ ys) = (tt, every_unit ys)
    compared m g false e d = (m, record { dirty = g.dirty; there = inr g.there; above = ((λ z. e), g.above) })

    go : (a b : Bool) → is_dirty x ≡ a → list_any is_dirty calls ≡ b → (a || b) ≡ true →
        (list_any is_dirty calls ≡ true → (m : Call) × IsGreatest calls m) → (m : Call) × IsGreatest (x ∷ calls) m
    go true true p q r rest = let some = rest q in compared some.0 some.1 (int_lt some.0.number x.number) refl p
    go true false p q r rest = (x, record { dirty = p; there = inl refl; above = ((λ z. self), nothing calls q) })
    go false true p q r rest = let some = rest q in (some.0, record { dirty = some.1.dirty; there = inr some.1.there; above = ((λ z. absurd (cc)), some.1.above) })
    go false false p q r rest = absurd (cc)

-- THE HIGHEST CALL IS A DIRTY exactly where the number of some dirty is above that of each clean.
pub highest_is_dirty-scan : (calls : List Call) →
    highest_is_dirty calls ≡ list_any (λ d. is_dirty d && list_all (λ x. is_dirty x || int_lt x.number d.number) calls) calls
unfolding highest_is_dirty
highest_is_dirty-scan calls =
    list_any-filter is_dirty (λ x. not (list_any (λ y. is_higher y x) calls)) calls
    ∙ same_test
    (list_any (λ x. not (list_any (λ y. is_higher y x) calls) && is_dirty x) calls)
    (list_any (λ d. is_dirty d && list_all (λ x. is_dirty x || int_lt x.number d.number) calls) calls)
    (λ h. test-Somewhere (λ x. (not (list_any (λ y. is_higher y x) calls) && is_dirty x) ≡ true)
    (λ d. is_dirty d && list_all (λ x. is_dirty x || int_lt x.number d.number) calls)
    (λ x e. forth x e) calls (Somewhere-test (λ x. not (list_any (λ y. is_higher y x) calls) && is_dirty x) calls h))
    (λ h. back (Somewhere-test (λ d. is_dirty d && list_all (λ x. is_dirty x || int_lt x.number d.number) calls) calls h))
  where
    -- a dirty than which nothing is higher is above each clean
    each : (x : Call) → is_dirty x ≡ true → (ys : List Call) → list_any (λ y. is_higher y x) ys ≡ false → list_all (λ y. is_dirty y || int_lt y.number x.number) ys ≡ true
    each x d [] e = refl
    each x d (y ∷ ys) e = first (is_dirty y) (is_higher y x) (list_any (λ z. is_higher z x) ys) refl refl refl e (each x d ys)
      where
        first : (k a b : Bool) → is_dirty y ≡ k → is_higher y x ≡ a → list_any (λ z. is_higher z x) ys ≡ b → (a || b) ≡ false →
            (list_any (λ z. is_higher z x) ys ≡ false → list_all (λ z. is_dirty z || int_lt z.number x.number) ys ≡ true) →
            ((k || int_lt y.number x.number) && list_all (λ z. is_dirty z || int_lt z.number x.number) ys) ≡ true
        first true false false p q r s rest = rest r
        first false false false p q r s rest =
            let lower : int_lt y.number x.number ≡ true = true_from_ne_false (int_lt y.number x.number) (λ z. let h = higher-clean x y d p in (cc)) in
            rw lower (rest r)
        first k true b p q r s rest = absurd (cc)
        first k false true p q r s rest = absurd (cc)

    forth : (x : Call) → (not (list_any (λ y. is_higher y x) calls) && is_dirty x) ≡ true → (is_dirty x && list_all (λ y. is_dirty y || int_lt y.number x.number) calls) ≡ true
    forth x e =
        let two = and_parts (not (list_any (λ y. is_higher y x) calls)) (is_dirty x) e in
        and_from (is_dirty x) (list_all (λ y. is_dirty y || int_lt y.number x.number) calls) two.1
        (each x two.1 calls (not-true (list_any (λ y. is_higher y x) calls) two.0))

    -- the greatest dirty is as high as that one
    below : (d m : Call) → is_dirty d ≡ true → is_dirty m ≡ true → int_lt m.number d.number ≡ false → (ys : List Call) →
        AllByRecursion (λ y. (is_dirty y || int_lt y.number d.number) ≡ true) ys → AllByRecursion (λ y. is_dirty y ≡ true → int_lt m.number y.number ≡ false) ys →
        list_any (λ y. is_higher y m) ys ≡ false
    below d m dd dm n [] a b = refl
    below d m dd dm n (y ∷ ys) a b = rw (one (is_dirty y) refl, below d m dd dm n ys a.1 b.1) refl
      where
        one : (k : Bool) → is_dirty y ≡ k → is_higher y m ≡ false
        one true p = higher-dirty m y p ∙ b.0 p
        one false p =
            let lower : int_lt y.number d.number ≡ true = second (is_dirty y) (int_lt y.number d.number) p a.0 in
            higher-clean m y dm p ∙ not_from_false_or (int_lt-above y.number d.number m.number lower n)
          where
            second : (u v : Bool) → u ≡ false → (u || v) ≡ true → v ≡ true
            second true v e h = absurd (cc)
            second false v e h = h

            not_from_false_or : int_lt y.number m.number ≡ true → not (int_lt y.number m.number) ≡ false
            not_from_false_or e = rw e refl

    back : Somewhere (λ d. (is_dirty d && list_all (λ x. is_dirty x || int_lt x.number d.number) calls) ≡ true) calls →
        list_any (λ x. not (list_any (λ y. is_higher y x) calls) && is_dirty x) calls ≡ true
    back s = found (greatest calls (test-Somewhere (λ d. (is_dirty d && list_all (λ x. is_dirty x || int_lt x.number d.number) calls) ≡ true) is_dirty
        (λ d e. (and_parts (is_dirty d) (list_all (λ x. is_dirty x || int_lt x.number d.number) calls) e).0) calls s))
      where
        found : (m : Call) × IsGreatest calls m → list_any (λ x. not (list_any (λ y. is_higher y x) calls) && is_dirty x) calls ≡ true
        found (m, g) =
            test-Somewhere (λ x. x ≡ m) (λ x. not (list_any (λ y. is_higher y x) calls) && is_dirty x) (λ x e. moved x e) calls g.there
          where
            lowest : Somewhere (λ d. (list_any (λ y. is_higher y m) calls) ≡ false) calls
            lowest = Somewhere-both (λ d. (is_dirty d && list_all (λ x. is_dirty x || int_lt x.number d.number) calls) ≡ true) (λ d. is_dirty d ≡ true → int_lt m.number d.number ≡ false) (λ d. (list_any (λ y. is_higher y m) calls) ≡ false)
                (λ d e f. let two = and_parts (is_dirty d) (list_all (λ x. is_dirty x || int_lt x.number d.number) calls) e in
                below d m two.0 g.dirty (f two.0) calls (every-test (λ x. is_dirty x || int_lt x.number d.number) calls two.1) g.above) calls s g.above

            none_higher : (P : Type 0) (ys : List Call) → Somewhere (λ d. P) ys → P
            none_higher P [] s = absurd s
            none_higher P (y ∷ ys) s = elim s [ inl p ↦ p | inr r ↦ none_higher P ys r ]

            moved : (x : Call) → x ≡ m → (not (list_any (λ y. is_higher y x) calls) && is_dirty x) ≡ true
            moved x e =
                let P : Call → Type 0 = λ z. (not (list_any (λ y. is_higher y z) calls) && is_dirty z) ≡ true in
                subst P (sym e) (rw (none_higher ((list_any (λ y. is_higher y m) calls) ≡ false) calls lowest, g.dirty) refl)

-- ---- clients

equal_when : (o : Ordering) → is_eq o ≡ true → o ≡ Equal
equal_when Less e = absurd (cc)
equal_when Equal e = refl
equal_when Greater e = absurd (cc)

pub clients-respect : (p : Client → Bool) → Respects client_cmp p
clients-respect p a b e = ap p (client_cmp-equal a b (equal_when (client_cmp a b) e))

-- Some client passes a test exactly where the client of some call does.
pub list_any-clients : (p : Client → Bool) (calls : List Call) → list_any p (clients calls) ≡ list_any (λ x. p x.client) calls
unfolding clients
list_any-clients p calls = list_any-in_order client_cmp p (clients-respect p) (map (λ x. x.client) calls) ∙ list_any-map p (λ (x : Call). x.client) calls

pub is_held-calls : (lease t : ℕ) (calls : List Call) (o : ObjId) → is_held lease t calls o ≡ list_any (λ x. holds lease t (calls_of x.client calls) o) calls
unfolding is_held
is_held-calls lease t calls o = list_any-clients (λ c. holds lease t (calls_of c calls) o) calls

-- An object is held exactly where it has a holder.
pub is_held-holders : (lease t : ℕ) (calls : List Call) (o : ObjId) → is_held lease t calls o ≡ nat_lt 0 (length (holders lease t calls o))
unfolding is_held holders
is_held-holders lease t calls o = list_any-length (λ c. holds lease t (calls_of c calls) o) (clients calls)
