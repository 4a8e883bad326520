-- A word spells at most one value of a kind.
use Rattle.std.proofs.Common.{◌≡◌, ℕ, suc, ◌^◌, ◌<◌, ◌≤◌, inl, inr, Bool, true, false, List, [], ◌∷◌, ◌++◌, length, drop, refl, ap, sym, subst, ◌∙◌, arith, flat_map, codes, ℤ, pos, negsuc, w64, get_or}
use Rattle.std.specs.List.{AllByRecursion, AllZip}
use Rattle.std.specs.Fmt.{signed_decimal}
use Rattle.std.specs.Int.Signed.{mag}
use Rattle.std.specs.Str.{bytes_eq}
use Rattle.std.proofs.lemmas.Bool.{false≢true}
use Rattle.std.proofs.lemmas.List.{append_cancel_right}
use Rattle.std.proofs.lemmas.Slice.Eq.{bytes_eq-Decides}
use Rattle.std.proofs.lemmas.Fmt.{decimal_nonempty}
use Rattle.std.proofs.Math.Pow.{pow_mono}
use mir.Syntax.{Width}
use mir.Val.{hbits}
use Rattle.object_ids.specs.declared.ids.Uid.{Uid}
use Rattle.object_ids.specs.declared.ids.ObjId.{ObjId}
use Rattle.object_ids.specs.Client.{Client}
use Rattle.history.specs.Texts.{hex_byte, unit_text, uid_text, address_text}
use Rattle.journal.specs.Parts.{parts, Lacks}
use Rattle.journal.specs.Grammar.{SpellsBelow, SpellsSigned, SpellsNumber, SpellsDuration, SpellsUid, SpellsLong, SpellsObject, SpellsAddress, SpellsClient, SpellsName, SpellsList, SpellsKinds, SpellsObjects, SpellsPinned, SpellsStrong}
use Rattle.journal.proofs.Decimals.{same_number, same_signed, no_minus}
use Rattle.journal.proofs.Bytes.{number_lacks_comma}
use Rattle.journal.proofs.Joined.{uid_parts, unique_small, time_small, count_small, long_parts, number_alone, no_long, object_lacks_comma}
use Rattle.journal.proofs.Lists.{list_parts}
use Rattle.journal.proofs.Clients.{client_parts}
use Rattle.journal.proofs.NameUnits.{hex_injective, unit_injective, unit_not_empty}

-- At most one value is spelled by a text.
pub record IsOnce {X Y : Type 0} (Spells : X → Y → Type 0) : Type 0 where
  pub same : (x y : X) (text : Y) → Spells x text → Spells y text → x ≡ y

-- Two words that a test tells apart are not equal.
pub apart : (a b : List ℕ) → bytes_eq a b ≡ false → a ≡ b → ⊥
apart a b differ same = false≢true (sym differ ∙ (bytes_eq-Decides a b).1 same)

-- ---- numbers

pub below_once : (limit : ℕ) → limit ≤ 2 ^ 64 → IsOnce (SpellsBelow limit)
below_once limit small = record { same = λ m n word of_m of_n. same_number word m n (omega (arith, of_m.0)) (omega (arith, of_n.0)) of_m.1 of_n.1 }

pub duration_once : IsOnce SpellsDuration
duration_once = record { same = λ m n word of_m of_n. same_number word m n (omega (arith, of_m.1)) (omega (arith, of_n.1)) of_m.2 of_n.2 }

pub signed_once : (w : Width) → hbits w ≤ 63 → IsOnce (SpellsSigned w)
signed_once w small = record { same = λ m n word of_m of_n. same_signed word m n (below (mag m) of_m.0.sfits) (below (mag n) of_n.0.sfits) of_m.1 of_n.1 }
  where
    below : (m : ℕ) → m < 2 ^ hbits w → m < 2 ^ 63
    below m fits = let wide = pow_mono small in omega (arith, fits, wide)

-- ---- identifiers

three_same : (a b c x y z : List ℕ) → ◌≡◌ {A = List (List ℕ)} (a ∷ b ∷ c ∷ []) (x ∷ y ∷ z ∷ []) → (a ≡ x) × (b ≡ y) × (c ≡ z)
three_same a b c x y z same = (cc, cc, cc)

two_same : (a b x y : List ℕ) → ◌≡◌ {A = List (List ℕ)} (a ∷ b ∷ []) (x ∷ y ∷ []) → (a ≡ x) × (b ≡ y)
two_same a b x y same = (cc, cc)

uid_is : (a b : Uid) → a.unique ≡ b.unique → a.time ≡ b.time → a.count ≡ b.count → a ≡ b
uid_is a b u t c = ap (λ (x : ℤ). record a { unique = x }) u ∙ ap (λ (x : ℤ). record a { unique = b.unique; time = x }) t ∙ ap (λ (x : ℤ). record { unique = b.unique; time = b.time; count = x }) c

pub uid_once : IsOnce SpellsUid
uid_once = record { same = same_uids }
  where
    same_uids : (a b : Uid) (word : List ℕ) → SpellsUid a word → SpellsUid b word → a ≡ b
    same_uids a b word of_a of_b =
        let words = sym (uid_parts a of_a.0) ∙ ap (parts 47) (sym of_a.1 ∙ of_b.1) ∙ uid_parts b of_b.0 in
        let parted = three_same _ _ _ _ _ _ words in
        uid_is a b
        (same_signed (signed_decimal a.unique) a.unique b.unique (unique_small a of_a.0) (unique_small b of_b.0) refl parted.0)
        (same_signed (signed_decimal a.time) a.time b.time (time_small a of_a.0) (time_small b of_b.0) refl parted.1)
        (same_signed (signed_decimal a.count) a.count b.count (count_small a of_a.0) (count_small b of_b.0) refl parted.2)

object_is : (a b : ObjId) → a.number ≡ b.number → a.space ≡ b.space → a ≡ b
object_is a b n s = ap (λ (x : ℤ). record a { number = x }) n ∙ ap (λ (x : Uid). record { number = b.number; space = x }) s

pub long_once : IsOnce SpellsLong
long_once = record { same = same_long }
  where
    same_long : (a b : ObjId) (word : List ℕ) → SpellsLong a word → SpellsLong b word → a ≡ b
    same_long a b word of_a of_b =
        let words = sym (long_parts a of_a.0.sfits of_a.1) ∙ ap (parts 58) (sym of_a.2 ∙ of_b.2) ∙ long_parts b of_b.0.sfits of_b.1 in
        let parted = two_same _ _ _ _ words in
        object_is a b (same_signed (signed_decimal a.number) a.number b.number of_a.0.sfits of_b.0.sfits refl parted.0)
        (uid_once.same a.space b.space (uid_text a.space) (of_a.1, refl) (of_b.1, parted.1))

one_is_not_two : (a x y : List ℕ) → ◌≡◌ {A = List (List ℕ)} (a ∷ []) (x ∷ y ∷ []) → ⊥
one_is_not_two a x y same = cc

short_is_not_long : (number : ℤ) (object : ObjId) (word : List ℕ) → SpellsSigned w64 number word → SpellsLong object word → ⊥
short_is_not_long number object word short long =
    one_is_not_two _ _ _ (sym (number_alone number word short) ∙ ap (parts 58) long.2 ∙ long_parts object long.0.sfits long.1)

pub object_once : (space : Uid) → IsOnce (SpellsObject space)
object_once space = record { same = same_objects }
  where
    same_objects : (a b : ObjId) (word : List ℕ) → SpellsObject space a word → SpellsObject space b word → a ≡ b
    same_objects a b word (inl of_a) (inl of_b) = object_is a b ((signed_once w64 (omega arith)).same a.number b.number word of_a.1 of_b.1) (of_a.0 ∙ sym of_b.0)
    same_objects a b word (inl of_a) (inr of_b) = absurd (short_is_not_long a.number b word of_a.1 of_b)
    same_objects a b word (inr of_a) (inl of_b) = absurd (short_is_not_long b.number a word of_b.1 of_a)
    same_objects a b word (inr of_a) (inr of_b) = long_once.same a b word of_a of_b

-- ---- clients

bytes_same : (xs ys : List ℕ) → AllByRecursion (λ b. b < 2 ^ 8) xs → AllByRecursion (λ b. b < 2 ^ 8) ys → flat_map hex_byte xs ≡ flat_map hex_byte ys → xs ≡ ys
bytes_same [] [] fit_x fit_y same = refl
bytes_same [] (y ∷ ys) fit_x fit_y same = absurd (cc)
bytes_same (x ∷ xs) [] fit_x fit_y same = absurd (cc)
bytes_same (x ∷ xs) (y ∷ ys) fit_x fit_y same =
    let both = hex_injective x y (flat_map hex_byte xs) (flat_map hex_byte ys) fit_x.0 fit_y.0 same in
    ap (λ (b : ℕ). b ∷ xs) both.0 ∙ ap (λ (bs : List ℕ). y ∷ bs) (bytes_same xs ys fit_x.1 fit_y.1 both.1)

pub address_once : IsOnce SpellsAddress
address_once = record { same = same_addresses }
  where
    same_addresses : (a b : List ℕ) (word : List ℕ) → SpellsAddress a word → SpellsAddress b word → a ≡ b
    same_addresses [] [] word of_a of_b = refl
    same_addresses [] (y ∷ ys) word of_a of_b = absurd (omega (arith, ap length (sym of_a.1 ∙ of_b.1)))
    same_addresses (x ∷ xs) [] word of_a of_b = absurd (omega (arith, ap length (sym of_a.1 ∙ of_b.1)))
    same_addresses (x ∷ xs) (y ∷ ys) word of_a of_b = bytes_same (x ∷ xs) (y ∷ ys) of_a.0.bytes of_b.0.bytes (sym of_a.1 ∙ of_b.1)

pub client_once : IsOnce SpellsClient
client_once = record { same = same_clients }
  where
    same_clients : (a b : Client) (word : List ℕ) → SpellsClient a word → SpellsClient b word → a ≡ b
    same_clients a b word of_a of_b =
        let words = sym (client_parts a of_a.0) ∙ ap (parts 64) (sym of_a.1 ∙ of_b.1) ∙ client_parts b of_b.0 in
        let parted = two_same _ _ _ _ words in
        ap (λ (x : List ℕ). record a { addr = x }) (address_once.same a.addr b.addr (address_text a.addr) (of_a.0.addr, refl) (of_b.0.addr, parted.0))
        ∙ ap (λ (x : Uid). record { addr = b.addr; uid = x }) (uid_once.same a.uid b.uid (uid_text a.uid) (of_a.0.uid, refl) (of_b.0.uid, parted.1))

-- ---- names

units_same : (xs ys : List ℕ) → AllByRecursion (λ u. u < 2 ^ 16) xs → AllByRecursion (λ u. u < 2 ^ 16) ys → flat_map unit_text xs ≡ flat_map unit_text ys → xs ≡ ys
units_same [] [] fit_x fit_y same = refl
units_same [] (y ∷ ys) fit_x fit_y same = absurd (unit_not_empty y (flat_map unit_text ys) (sym same))
units_same (x ∷ xs) [] fit_x fit_y same = absurd (unit_not_empty x (flat_map unit_text xs) same)
units_same (x ∷ xs) (y ∷ ys) fit_x fit_y same =
    let both = unit_injective x y (flat_map unit_text xs) (flat_map unit_text ys) fit_x.0 fit_y.0 same in
    ap (λ (u : ℕ). u ∷ xs) both.0 ∙ ap (λ (us : List ℕ). y ∷ us) (units_same xs ys fit_x.1 fit_y.1 both.1)

pub name_once : IsOnce SpellsName
name_once = record { same = λ a b word of_a of_b. units_same a b of_a.0.units of_b.0.units (unquote (flat_map unit_text a) (flat_map unit_text b) (ap (drop 1) (sym of_a.1 ∙ of_b.1))) }
  where
    unquote : (xs ys : List ℕ) → xs ++ 34 ∷ [] ≡ ys ++ 34 ∷ [] → xs ≡ ys
    unquote xs ys same = append_cancel_right xs ys (34 ∷ []) same

-- ---- lists

zip_once : {X : Type 0} (Spells : X → List ℕ → Type 0) → IsOnce Spells → (xs ys : List X) (items : List (List ℕ)) → AllZip Spells xs items → AllZip Spells ys items → xs ≡ ys
zip_once Spells once [] [] [] of_x of_y = refl
zip_once Spells once [] [] (i ∷ items) of_x of_y = refl
zip_once Spells once [] (y ∷ ys) [] of_x of_y = absurd of_y
zip_once Spells once [] (y ∷ ys) (i ∷ items) of_x of_y = absurd of_x
zip_once Spells once (x ∷ xs) ys [] of_x of_y = absurd of_x
zip_once Spells once (x ∷ xs) [] (i ∷ items) of_x of_y = absurd of_y
zip_once Spells once (x ∷ xs) (y ∷ ys) (i ∷ items) of_x of_y =
    ap (λ z. z ∷ xs) (once.same x y i of_x.0 of_y.0) ∙ ap (λ zs. y ∷ zs) (zip_once Spells once xs ys items of_x.1 of_y.1)

not_empty_sign : {X : Type 0} (Spells : X → List ℕ → Type 0) → ((x : X) (text : List ℕ) → Spells x text → Lacks 44 text) → ((x : X) → Spells x (codes "-") → ⊥)
    → (x : X) (xs : List X) (word : List ℕ) → SpellsList Spells (x ∷ xs) word → word ≡ codes "-" → ⊥
not_empty_sign Spells lack no_sign x xs word (items, zip, is) sign =
    let words = sym (list_parts Spells lack x xs items word zip is) ∙ ap (parts 44) sign in
    no_sign x (subst (AllZip Spells (x ∷ xs)) words zip).0

pub list_once : {X : Type 0} (Spells : X → List ℕ → Type 0) → IsOnce Spells → ((x : X) (text : List ℕ) → Spells x text → Lacks 44 text) → ((x : X) → Spells x (codes "-") → ⊥) → IsOnce (SpellsList Spells)
list_once {X = X} Spells once lack no_sign = record { same = same_lists }
  where
    same_lists : (xs ys : List X) (word : List ℕ) → SpellsList Spells xs word → SpellsList Spells ys word → xs ≡ ys
    same_lists [] [] word of_x of_y = refl
    same_lists [] (y ∷ ys) word of_x of_y = absurd (not_empty_sign Spells lack no_sign y ys word of_y of_x)
    same_lists (x ∷ xs) [] word of_x of_y = absurd (not_empty_sign Spells lack no_sign x xs word of_x of_y)
    same_lists (x ∷ xs) (y ∷ ys) word (items, zip, is) (others, zip_y, is_y) =
        let words = sym (list_parts Spells lack y ys others word zip_y is_y) ∙ list_parts Spells lack x xs items word zip is in
        zip_once Spells once (x ∷ xs) (y ∷ ys) items zip (subst (AllZip Spells (y ∷ ys)) words zip_y)

-- a minus sign alone is no number
sign_is_no_number : (z : ℤ) → mag z < 2 ^ 63 → codes "-" ≡ signed_decimal z → ⊥
sign_is_no_number (pos n) small is = no_minus n (omega arith) (ap (λ (ds : List ℕ). get_or ds 0 0) (sym is))
sign_is_no_number (negsuc n) small is = omega (arith, decimal_nonempty (suc n) (omega arith), ap length (ap (drop 1) is))

pub kinds_once : IsOnce SpellsKinds
kinds_once = list_once SpellsNumber (below_once (2 ^ 32) (omega arith)) (λ n word. number_lacks_comma (2 ^ 32) n word (omega arith))
    (λ n spells. no_minus n (omega (arith, spells.0)) (ap (λ (ds : List ℕ). get_or ds 0 0) (sym spells.1)))

pub objects_once : (space : Uid) → IsOnce (SpellsObjects space)
objects_once space = list_once (SpellsObject space) (object_once space) (object_lacks_comma space) no_sign
  where
    no_sign : (o : ObjId) → SpellsObject space o (codes "-") → ⊥
    no_sign o (inl short) = sign_is_no_number o.number short.1.0.sfits short.1.1
    no_sign o (inr long) = no_long o (codes "-") refl long

-- ---- the other words

pub pinned_once : IsOnce SpellsPinned
pinned_once = record { same = same_pinned }
  where
    same_pinned : (a b : Bool) (word : List ℕ) → SpellsPinned a word → SpellsPinned b word → a ≡ b
    same_pinned true true word of_a of_b = refl
    same_pinned true false word of_a of_b = absurd (apart (codes "pinned") (codes "free") refl (sym of_a ∙ of_b))
    same_pinned false true word of_a of_b = absurd (apart (codes "free") (codes "pinned") refl (sym of_a ∙ of_b))
    same_pinned false false word of_a of_b = refl

pub strong_once : IsOnce SpellsStrong
strong_once = record { same = same_strong }
  where
    same_strong : (a b : Bool) (word : List ℕ) → SpellsStrong a word → SpellsStrong b word → a ≡ b
    same_strong true true word of_a of_b = refl
    same_strong true false word of_a of_b = absurd (apart (codes "strong") (codes "weak") refl (sym of_a ∙ of_b))
    same_strong false true word of_a of_b = absurd (apart (codes "weak") (codes "strong") refl (sym of_a ∙ of_b))
    same_strong false false word of_a of_b = refl
