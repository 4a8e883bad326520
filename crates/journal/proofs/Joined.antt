-- Identifiers, by the parts of their texts.
use Rattle.std.proofs.Common.{◌≡◌, ℕ, ◌+◌, ◌^◌, ◌<◌, inl, inr, List, [], ◌∷◌, ◌++◌, refl, ap, sym, subst, ◌∙◌, arith, ℤ, w32, w64, append_assoc, eqb, Some, None, drop}
use Rattle.std.specs.Int.{w16}
use Rattle.std.specs.List.{join_with_byte, position}
use Rattle.std.specs.Fmt.{signed_decimal}
use Rattle.std.specs.Int.Signed.{mag}
use Rattle.object_ids.specs.declared.ids.Uid.{Uid}
use Rattle.object_ids.specs.declared.ids.ObjId.{ObjId}
use Rattle.std.specs.Prelude.{Bool, true, false, if◌then◌else◌, FitsSigned}
use Rattle.object_ids.specs.Same.{same_uid}
use Rattle.object_ids.proofs.Exact.{same_uid-equal}
use Rattle.history.specs.Texts.{uid_text, object_text}
use Rattle.journal.specs.Parts.{parts, Lacks}
use Rattle.journal.specs.Grammar.{◌▸◌, End, SpellsSigned, IsUid, SpellsUid, SpellsObject, SpellsLong, long_text}
use Rattle.journal.proofs.Splitting.{parts_at, parts_last, parts_join, join_parts, parts_exist}
use Rattle.journal.proofs.Bytes.{Within, within_append, within_wider, within_lacks, signed_within, signed_lacks}

-- ---- two and three words

pub record AreTwo (P Q : List ℕ → Type 0) (words : List (List ℕ)) : Type 0 where
  pub a : List ℕ
  pub b : List ℕ
  pub are : words ≡ a ∷ b ∷ []
  pub first : P a
  pub second : Q b

pub record AreThree (P Q R : List ℕ → Type 0) (words : List (List ℕ)) : Type 0 where
  pub a : List ℕ
  pub b : List ℕ
  pub c : List ℕ
  pub are : words ≡ a ∷ b ∷ c ∷ []
  pub first : P a
  pub second : Q b
  pub third : R c

pub two_words : (P Q : List ℕ → Type 0) (words : List (List ℕ)) → (P ▸ Q ▸ End) words → AreTwo P Q words
two_words P Q [] h = absurd h
two_words P Q (a ∷ []) h = absurd h.1
two_words P Q (a ∷ b ∷ words) h = record { a = a; b = b; are = ap (λ (xs : List (List ℕ)). a ∷ b ∷ xs) h.1.1; first = h.0; second = h.1.0 }

pub three_words : (P Q R : List ℕ → Type 0) (words : List (List ℕ)) → (P ▸ Q ▸ R ▸ End) words → AreThree P Q R words
three_words P Q R [] h = absurd h
three_words P Q R (a ∷ []) h = absurd h.1
three_words P Q R (a ∷ b ∷ []) h = absurd h.1.1
three_words P Q R (a ∷ b ∷ c ∷ words) h = record {
  a = a;
  b = b;
  c = c;
  are = ap (λ (xs : List (List ℕ)). a ∷ b ∷ c ∷ xs) h.1.1.1;
  first = h.0;
  second = h.1.0;
  third = h.1.1.0;
}

-- ---- identifiers U/T/C

-- the three numbers of an identifier
abbrev pub uid_words : Uid → List (List ℕ)
uid_words uid = signed_decimal uid.unique ∷ signed_decimal uid.time ∷ signed_decimal uid.count ∷ []

pub unique_small : (uid : Uid) → IsUid uid → mag uid.unique < 2 ^ 63
unique_small uid is = let small : mag uid.unique < 2 ^ 31 = is.unique.sfits in omega arith

pub time_small : (uid : Uid) → IsUid uid → mag uid.time < 2 ^ 63
time_small uid is = is.time.sfits

pub count_small : (uid : Uid) → IsUid uid → mag uid.count < 2 ^ 63
count_small uid is = let small : mag uid.count < 2 ^ 15 = is.count.sfits in omega arith

-- the parts of an identifier's text
pub uid_parts : (uid : Uid) → IsUid uid → parts 47 (uid_text uid) ≡ uid_words uid
uid_parts uid is = parts_join 47 (signed_decimal uid.unique) (signed_decimal uid.time ∷ signed_decimal uid.count ∷ []) (
  signed_lacks 47 (λ e. cc) (inl (omega arith)) uid.unique (unique_small uid is),
  (signed_lacks 47 (λ e. cc) (inl (omega arith)) uid.time (time_small uid is), (signed_lacks 47 (λ e. cc) (inl (omega arith)) uid.count (count_small uid is), tt)),
)

pub uid_to_parts : (uid : Uid) (word : List ℕ) → SpellsUid uid word
    → (SpellsSigned w32 uid.unique ▸ SpellsSigned w64 uid.time ▸ SpellsSigned w16 uid.count ▸ End) (parts 47 word)
uid_to_parts uid word spells =
    let All : List (List ℕ) → Type 0 = SpellsSigned w32 uid.unique ▸ SpellsSigned w64 uid.time ▸ SpellsSigned w16 uid.count ▸ End in
    let is = ap (parts 47) spells.1 ∙ uid_parts uid spells.0 in
    subst All (sym is) ((spells.0.unique, refl), ((spells.0.time, refl), ((spells.0.count, refl), refl)))

pub uid_from_parts : (uid : Uid) (word : List ℕ)
    → (SpellsSigned w32 uid.unique ▸ SpellsSigned w64 uid.time ▸ SpellsSigned w16 uid.count ▸ End) (parts 47 word) → SpellsUid uid word
uid_from_parts uid word h =
    let three = three_words (SpellsSigned w32 uid.unique) (SpellsSigned w64 uid.time) (SpellsSigned w16 uid.count) (parts 47 word) h in (
      record { unique = three.first.0; time = three.second.0; count = three.third.0 },
      join_parts 47 word ∙ ap (join_with_byte 47) three.are
          ∙ ap (λ (a : List ℕ). join_with_byte 47 (a ∷ three.b ∷ three.c ∷ [])) three.first.1
          ∙ ap (λ (b : List ℕ). join_with_byte 47 (signed_decimal uid.unique ∷ b ∷ three.c ∷ [])) three.second.1
          ∙ ap (λ (c : List ℕ). join_with_byte 47 (signed_decimal uid.unique ∷ signed_decimal uid.time ∷ c ∷ [])) three.third.1,
    )

-- ---- objects N:U/T/C

pub uid_within : (uid : Uid) → IsUid uid → Within 45 57 (uid_text uid)
uid_within uid is =
    within_append 45 57 (signed_decimal uid.unique) (47 ∷ signed_decimal uid.time ++ 47 ∷ signed_decimal uid.count) (signed_within uid.unique (unique_small uid is)) (
      (omega arith, omega arith),
      within_append 45 57 (signed_decimal uid.time) (47 ∷ signed_decimal uid.count) (signed_within uid.time (time_small uid is)) (
        (omega arith, omega arith),
        signed_within uid.count (count_small uid is),
      ),
    )

-- the text is the number and the identifier, joined by a colon
pub long_joined : (object : ObjId) → long_text object ≡ join_with_byte 58 (signed_decimal object.number ∷ uid_text object.space ∷ [])
long_joined object = append_assoc (signed_decimal object.number) (58 ∷ []) (uid_text object.space)

pub long_parts : (object : ObjId) → mag object.number < 2 ^ 63 → IsUid object.space → parts 58 (long_text object) ≡ signed_decimal object.number ∷ uid_text object.space ∷ []
long_parts object small is = ap (parts 58) (long_joined object) ∙ parts_join 58 (signed_decimal object.number) (uid_text object.space ∷ []) (
  signed_lacks 58 (λ e. cc) (inr (omega arith)) object.number small,
  (within_lacks 45 57 58 (inr (omega arith)) (uid_text object.space) (uid_within object.space is), tt),
)

pub long_to_parts : (object : ObjId) (word : List ℕ) → SpellsLong object word → (SpellsSigned w64 object.number ▸ SpellsUid object.space ▸ End) (parts 58 word)
long_to_parts object word spells =
    let All : List (List ℕ) → Type 0 = SpellsSigned w64 object.number ▸ SpellsUid object.space ▸ End in
    let is = ap (parts 58) spells.2 ∙ long_parts object spells.0.sfits spells.1 in
    subst All (sym is) ((spells.0, refl), ((spells.1, refl), refl))

pub long_from_parts : (object : ObjId) (word : List ℕ) → (SpellsSigned w64 object.number ▸ SpellsUid object.space ▸ End) (parts 58 word) → SpellsLong object word
long_from_parts object word h =
    let two = two_words (SpellsSigned w64 object.number) (SpellsUid object.space) (parts 58 word) h in (
      two.first.0,
      two.second.0,
      join_parts 58 word ∙ ap (join_with_byte 58) two.are
          ∙ ap (λ (a : List ℕ). join_with_byte 58 (a ∷ two.b ∷ [])) two.first.1
          ∙ ap (λ (b : List ℕ). join_with_byte 58 (signed_decimal object.number ∷ b ∷ [])) two.second.1
          ∙ sym (long_joined object),
    )

-- ---- objects

-- A number alone has no colon.
pub number_alone : (number : ℤ) (word : List ℕ) → SpellsSigned w64 number word → parts 58 word ≡ word ∷ []
number_alone number word spells =
    let is = parts_join 58 (signed_decimal number) [] (signed_lacks 58 (λ e. cc) (inr (omega arith)) number spells.0.sfits, tt) in
    ap (parts 58) spells.1 ∙ is ∙ ap (λ (w : List ℕ). w ∷ []) (sym spells.1)

-- A word without a colon spells no object in full.
pub no_long : (object : ObjId) (word : List ℕ) → position (λ b. eqb b 58) word ≡ None → SpellsLong object word → ⊥
no_long object word none spells =
    let one = sym (parts_last 58 word none) ∙ ap (parts 58) spells.2 ∙ long_parts object spells.0.sfits spells.1 in cc

-- A word with a colon spells no number.
pub no_number : (number : ℤ) (word : List ℕ) (i : ℕ) → position (λ b. eqb b 58) word ≡ Some i → SpellsSigned w64 number word → ⊥
no_number number word i at_colon spells =
    let more = sym (parts_at 58 word i at_colon) ∙ number_alone number word spells in
    no_parts 58 (drop (i + 1) word) (tail_of more)
  where
    tail_of : {x y : List ℕ} {xs : List (List ℕ)} → x ∷ xs ≡ y ∷ [] → xs ≡ []
    tail_of same = cc

    no_parts : (c : ℕ) (bytes : List ℕ) → parts c bytes ≡ [] → ⊥
    no_parts c bytes none = parts_exist c bytes none

-- What a word with a colon spells it spells in full.
pub in_full : (space : Uid) (word : List ℕ) (i : ℕ) → position (λ b. eqb b 58) word ≡ Some i → (object : ObjId) → SpellsObject space object word → SpellsLong object word
in_full space word i at_colon object (inl short) = absurd (no_number object.number word i at_colon short.1)
in_full space word i at_colon object (inr long) = long

-- What a word without a colon spells it spells as a number.
pub by_number : (space : Uid) (word : List ℕ) → position (λ b. eqb b 58) word ≡ None → (object : ObjId) → SpellsObject space object word → SpellsSigned w64 object.number word
by_number space word none object (inl short) = short.1
by_number space word none object (inr long) = absurd (no_long object word none long)

-- ---- which bytes stand in an object's text

pub long_within : (object : ObjId) (word : List ℕ) → SpellsLong object word → Within 45 58 word
long_within object word spells = subst (Within 45 58) (sym (spells.2 ∙ long_joined object)) (
    within_append 45 58 (signed_decimal object.number) (58 ∷ uid_text object.space)
    (within_wider 45 57 45 58 (omega arith) (omega arith) (signed_decimal object.number) (signed_within object.number spells.0.sfits))
    ((omega arith, omega arith), within_wider 45 57 45 58 (omega arith) (omega arith) (uid_text object.space) (uid_within object.space spells.1)))

pub object_within : (space : Uid) (object : ObjId) (word : List ℕ) → SpellsObject space object word → Within 45 58 word
object_within space object word (inl short) =
    subst (Within 45 58) (sym short.1.1) (within_wider 45 57 45 58 (omega arith) (omega arith) (signed_decimal object.number) (signed_within object.number short.1.0.sfits))
object_within space object word (inr long) = long_within object word long

-- A list of objects is parted at its commas alone.
pub object_lacks_comma : (space : Uid) (object : ObjId) (word : List ℕ) → SpellsObject space object word → Lacks 44 word
object_lacks_comma space object word spells = within_lacks 45 58 44 (inl (omega arith)) word (object_within space object word spells)

-- An object of another space is written in full.
pub other_space : (space : Uid) (object : ObjId) → (object.space ≡ space → ⊥) → object_text space object ≡ long_text object
other_space space object other = by_test (same_uid object.space space) refl
  where
    by_test : (b : Bool) → same_uid object.space space ≡ b → (if b then signed_decimal object.number else long_text object) ≡ long_text object
    by_test true same = absurd (other (same_uid-equal object.space space same))
    by_test false differ = refl

-- The text of an object spells it.
pub object_text_spells : (space : Uid) (object : ObjId) → FitsSigned w64 object.number → IsUid object.space → SpellsObject space object (object_text space object)
object_text_spells space object fits is = by_test (same_uid object.space space) refl
  where
    by_test : (b : Bool) → same_uid object.space space ≡ b → SpellsObject space object (if b then signed_decimal object.number else long_text object)
    by_test true same = inl (same_uid-equal object.space space same, (fits, refl))
    by_test false differ = inr (fits, is, refl)
