-- Holding an object asks of each call only when it came, whose it is, its number, its kind, and whether it names that object.
use Rattle.std.proofs.Common.{◌≡◌, ℕ, List, [], ◌∷◌, ◌++◌, refl, ap, sym, ◌∙◌, cond}
use Rattle.std.specs.Prelude.{Bool, true, false, ◌&&◌, ◌||◌, filter, max, int_lt, nat_lt, if◌then◌else◌, map}
use Rattle.std.specs.List.{list_any, list_all}
use Rattle.object_ids.specs.declared.ids.ObjId.{ObjId}
use Rattle.object_ids.specs.Client.{Client, client_cmp}
use Rattle.object_ids.specs.Same.{same_client}
use Rattle.history.specs.Lists.{in_order}
use Rattle.history.specs.declared.calls.Call.{Call}
use Rattle.history.specs.Leases.{is_dirty, is_strong, is_naming, grant_end, lease_end, has_time_left, tenure, strong_cleans, counting_calls, highest_is_dirty, holds, is_remembered, calls_of, clients, clients_with_time_left, holders, is_held}
use Rattle.history.proofs.LeaseLaws.{highest_is_dirty-scan, is_held-calls}

pub record Alike (o : ObjId) (x y : Call) : Type 0 where
  pub moment : x.moment ≡ y.moment
  pub client : x.client ≡ y.client
  pub number : x.number ≡ y.number
  pub kind : x.kind ≡ y.kind
  pub asked : x.asked ≡ y.asked
  pub naming : is_naming o x ≡ is_naming o y

abbrev pub AllAlike : ObjId → List Call → List Call → Type 0
AllAlike o [] [] = Unit {0}
AllAlike o (x ∷ xs) (y ∷ ys) = Alike o x y × AllAlike o xs ys
AllAlike o [] (y ∷ ys) = ⊥
AllAlike o (x ∷ xs) [] = ⊥

pub AllAlike-self : (o : ObjId) (xs : List Call) → AllAlike o xs xs
AllAlike-self o [] = tt
AllAlike-self o (x ∷ xs) = (record { moment = refl; client = refl; number = refl; kind = refl; asked = refl; naming = refl }, AllAlike-self o xs)

pub AllAlike-append : (o : ObjId) (xs ys us vs : List Call) → AllAlike o xs ys → AllAlike o us vs → AllAlike o (xs ++ us) (ys ++ vs)
AllAlike-append o [] [] us vs a b = b
AllAlike-append o (x ∷ xs) (y ∷ ys) us vs a b = (a.0, AllAlike-append o xs ys us vs a.1 b)
AllAlike-append o [] (y ∷ ys) us vs a b = absurd a
AllAlike-append o (x ∷ xs) [] us vs a b = absurd a

-- A change of each call that keeps these.
pub AllAlike-map : (o : ObjId) (f : Call → Call) → ((x : Call) → Alike o x (f x)) → (xs : List Call) → AllAlike o xs (map f xs)
AllAlike-map o f h [] = tt
AllAlike-map o f h (x ∷ xs) = (h x, AllAlike-map o f h xs)

AllAlike-filter : (o : ObjId) (p : Call → Bool) → ((x y : Call) → Alike o x y → p x ≡ p y) → (xs ys : List Call) → AllAlike o xs ys → AllAlike o (filter p xs) (filter p ys)
AllAlike-filter o p h [] [] a = tt
AllAlike-filter o p h (x ∷ xs) (y ∷ ys) a = rw (h x y a.0) (go (p y) (AllAlike-filter o p h xs ys a.1))
  where
    go : (b : Bool) → AllAlike o (filter p xs) (filter p ys) → AllAlike o (cond b (x ∷ filter p xs) (filter p xs)) (cond b (y ∷ filter p ys) (filter p ys))
    go true r = (a.0, r)
    go false r = r
AllAlike-filter o p h [] (y ∷ ys) a = absurd a
AllAlike-filter o p h (x ∷ xs) [] a = absurd a

list_any-alike : (o : ObjId) (p q : Call → Bool) → ((x y : Call) → Alike o x y → p x ≡ q y) → (xs ys : List Call) → AllAlike o xs ys → list_any p xs ≡ list_any q ys
list_any-alike o p q h [] [] a = refl
list_any-alike o p q h (x ∷ xs) (y ∷ ys) a = rw (h x y a.0, list_any-alike o p q h xs ys a.1) refl
list_any-alike o p q h [] (y ∷ ys) a = absurd a
list_any-alike o p q h (x ∷ xs) [] a = absurd a

list_all-alike : (o : ObjId) (p q : Call → Bool) → ((x y : Call) → Alike o x y → p x ≡ q y) → (xs ys : List Call) → AllAlike o xs ys → list_all p xs ≡ list_all q ys
list_all-alike o p q h [] [] a = refl
list_all-alike o p q h (x ∷ xs) (y ∷ ys) a = rw (h x y a.0, list_all-alike o p q h xs ys a.1) refl
list_all-alike o p q h [] (y ∷ ys) a = absurd a
list_all-alike o p q h (x ∷ xs) [] a = absurd a

is_dirty-alike : (o : ObjId) (x y : Call) → Alike o x y → is_dirty x ≡ is_dirty y
is_dirty-alike o x y a = rw a.kind refl

is_strong-alike : (o : ObjId) (x y : Call) → Alike o x y → is_strong x ≡ is_strong y
is_strong-alike o x y a = rw a.kind refl

pub lease_end-alike : (o : ObjId) (lease : ℕ) (xs ys : List Call) → AllAlike o xs ys → lease_end lease xs ≡ lease_end lease ys
unfolding lease_end
lease_end-alike o lease [] [] a = refl
lease_end-alike o lease (x ∷ xs) (y ∷ ys) a = rw (is_dirty-alike o x y a.0) (go (is_dirty y) (lease_end-alike o lease xs ys a.1))
  where
    go : (b : Bool) → lease_end lease xs ≡ lease_end lease ys →
        (if b then max (grant_end lease x) (lease_end lease xs) else lease_end lease xs) ≡ (if b then max (grant_end lease y) (lease_end lease ys) else lease_end lease ys)
    go true r = rw (a.0.moment, a.0.asked, r) refl
    go false r = r
lease_end-alike o lease [] (y ∷ ys) a = absurd a
lease_end-alike o lease (x ∷ xs) [] a = absurd a

pub tenure-alike : (o : ObjId) (lease : ℕ) (xs ys : List Call) → AllAlike o xs ys → AllAlike o (tenure lease xs) (tenure lease ys)
unfolding tenure
tenure-alike o lease [] [] a = tt
tenure-alike o lease (x ∷ xs) (y ∷ ys) a =
    let time : has_time_left lease x.moment xs ≡ has_time_left lease y.moment ys = ap (λ n. nat_lt n (lease_end lease xs)) a.0.moment ∙ ap (λ n. nat_lt y.moment n) (lease_end-alike o lease xs ys a.1) in
    let dirty : is_dirty x ≡ is_dirty y = is_dirty-alike o x y a.0 in
    rw (time, dirty) (go (has_time_left lease y.moment ys) (is_dirty y) (tenure-alike o lease xs ys a.1))
  where
    go : (b c : Bool) → AllAlike o (tenure lease xs) (tenure lease ys) →
        AllAlike o (if b then x ∷ tenure lease xs else if c then x ∷ [] else tenure lease xs) (if b then y ∷ tenure lease ys else if c then y ∷ [] else tenure lease ys)
    go true c r = (a.0, r)
    go false true r = (a.0, tt)
    go false false r = r
tenure-alike o lease [] (y ∷ ys) a = absurd a
tenure-alike o lease (x ∷ xs) [] a = absurd a

counting_calls-alike : (o : ObjId) (lease : ℕ) (xs ys : List Call) → AllAlike o xs ys → AllAlike o (counting_calls lease xs o) (counting_calls lease ys o)
unfolding counting_calls
counting_calls-alike o lease xs ys a =
    AllAlike-filter o (is_naming o) (λ x y b. b.naming) (tenure lease xs ++ strong_cleans xs) (tenure lease ys ++ strong_cleans ys)
    (AllAlike-append o (tenure lease xs) (tenure lease ys) (strong_cleans xs) (strong_cleans ys) (tenure-alike o lease xs ys a)
    (AllAlike-filter o is_strong (is_strong-alike o) xs ys a))

highest_is_dirty-alike : (o : ObjId) (xs ys : List Call) → AllAlike o xs ys → highest_is_dirty xs ≡ highest_is_dirty ys
highest_is_dirty-alike o xs ys a =
    highest_is_dirty-scan xs
    ∙ list_any-alike o (λ d. is_dirty d && list_all (λ x. is_dirty x || int_lt x.number d.number) xs) (λ d. is_dirty d && list_all (λ x. is_dirty x || int_lt x.number d.number) ys)
    (λ x y b. rw (is_dirty-alike o x y b, b.number)
    (ap (λ v. is_dirty y && v) (list_all-alike o (λ z. is_dirty z || int_lt z.number y.number) (λ z. is_dirty z || int_lt z.number y.number) (λ u v c. rw (is_dirty-alike o u v c, c.number) refl) xs ys a))) xs ys a
    ∙ sym (highest_is_dirty-scan ys)

pub holds-alike : (o : ObjId) (lease t : ℕ) (xs ys : List Call) → AllAlike o xs ys → holds lease t xs o ≡ holds lease t ys o
unfolding holds
holds-alike o lease t xs ys a = rw (lease_end-alike o lease xs ys a, highest_is_dirty-alike o (counting_calls lease xs o) (counting_calls lease ys o) (counting_calls-alike o lease xs ys a)) refl

pub is_remembered-alike : (o : ObjId) (lease t : ℕ) (xs ys : List Call) → AllAlike o xs ys → is_remembered lease t xs o ≡ is_remembered lease t ys o
unfolding is_remembered
is_remembered-alike o lease t xs ys a =
    rw (
      lease_end-alike o lease xs ys a,
      list_any-alike o (is_naming o) (is_naming o) (λ x y b. b.naming) (tenure lease xs) (tenure lease ys) (tenure-alike o lease xs ys a),
      list_any-alike o (is_naming o) (is_naming o) (λ x y b. b.naming) (strong_cleans xs) (strong_cleans ys) (AllAlike-filter o is_strong (is_strong-alike o) xs ys a),
    ) refl

pub calls_of-alike : (o : ObjId) (c : Client) (xs ys : List Call) → AllAlike o xs ys → AllAlike o (calls_of c xs) (calls_of c ys)
unfolding calls_of
calls_of-alike o c xs ys a = AllAlike-filter o (λ x. same_client x.client c) (λ x y b. ap (λ d. same_client d c) b.client) xs ys a

clients_alike : (o : ObjId) (xs ys : List Call) → AllAlike o xs ys → map (λ x. x.client) xs ≡ map (λ x. x.client) ys
clients_alike o [] [] a = refl
clients_alike o (x ∷ xs) (y ∷ ys) a = rw (a.0.client, clients_alike o xs ys a.1) refl
clients_alike o [] (y ∷ ys) a = absurd a
clients_alike o (x ∷ xs) [] a = absurd a

pub clients-alike : (o : ObjId) (xs ys : List Call) → AllAlike o xs ys → clients xs ≡ clients ys
unfolding clients
clients-alike o xs ys a = ap (in_order client_cmp) (clients_alike o xs ys a)

-- The same holders, and the object is held or not, of calls that are alike for it.
filter_alike : (p q : Client → Bool) → ((c : Client) → p c ≡ q c) → (cs : List Client) → filter p cs ≡ filter q cs
filter_alike p q h [] = refl
filter_alike p q h (c ∷ cs) = rw (h c, filter_alike p q h cs) refl

pub holders-alike : (o : ObjId) (lease t : ℕ) (xs ys : List Call) → AllAlike o xs ys → holders lease t xs o ≡ holders lease t ys o
unfolding holders
holders-alike o lease t xs ys a =
    ap (λ cs. filter (λ c. holds lease t (calls_of c xs) o) cs) (clients-alike o xs ys a)
    ∙ filter_alike (λ c. holds lease t (calls_of c xs) o) (λ c. holds lease t (calls_of c ys) o) (λ c. holds-alike o lease t (calls_of c xs) (calls_of c ys) (calls_of-alike o c xs ys a)) (clients ys)

pub is_held-alike : (o : ObjId) (lease t : ℕ) (xs ys : List Call) → AllAlike o xs ys → is_held lease t xs o ≡ is_held lease t ys o
is_held-alike o lease t xs ys a =
    is_held-calls lease t xs o
    ∙ list_any-alike o (λ x. holds lease t (calls_of x.client xs) o) (λ x. holds lease t (calls_of x.client ys) o)
    (λ x y b. ap (λ c. holds lease t (calls_of c xs) o) b.client ∙ holds-alike o lease t (calls_of y.client xs) (calls_of y.client ys) (calls_of-alike o y.client xs ys a)) xs ys a
    ∙ sym (is_held-calls lease t ys o)

-- Which objects the calls name doesn't matter to leases.
pub clients_with_time_left-alike : (o : ObjId) (lease t : ℕ) (xs ys : List Call) → AllAlike o xs ys → clients_with_time_left lease t xs ≡ clients_with_time_left lease t ys
unfolding clients_with_time_left
clients_with_time_left-alike o lease t xs ys a =
    ap (λ cs. filter (λ c. has_time_left lease t (calls_of c xs)) cs) (clients-alike o xs ys a)
    ∙ filter_alike (λ c. has_time_left lease t (calls_of c xs)) (λ c. has_time_left lease t (calls_of c ys)) (λ c. ap (λ n. nat_lt t n) (lease_end-alike o lease (calls_of c xs) (calls_of c ys) (calls_of-alike o c xs ys a))) (clients ys)
