-- The words of a line have no blanks and no LF: each byte is from 21 to 7E.
use Rattle.std.proofs.Common.{◌≡◌, ℕ, ◌^◌, ◌<◌, ◌≤◌, inl, Bool, true, false, ◌&&◌, List, [], ◌∷◌, refl, sym, subst, arith, codes, ℤ, w32, w64, leb, leb-true, flat_map, ◌/◌, ◌%◌}
use Rattle.std.specs.Int.Signed.{mag}
use Rattle.std.proofs.Math.Pow.{pow_mono}
use Rattle.std.specs.List.{AllByRecursion, AllZip, list_all, join_with_byte}
use Rattle.std.specs.Fmt.{signed_decimal}
use mir.Syntax.{Width}
use mir.Val.{hbits}
use Rattle.object_ids.specs.declared.ids.Uid.{Uid}
use Rattle.object_ids.specs.declared.ids.ObjId.{ObjId}
use Rattle.object_ids.specs.Client.{Client}
use Rattle.std.proofs.lemmas.Grind.{common_steps}
use Rattle.std.proofs.lemmas.Bool.{ne_eqb, and_parts}
use Rattle.history.specs.declared.asks.SpaceConfig.{SpaceConfig}
use Rattle.history.specs.declared.asks.Event.{Event}
use Rattle.history.specs.declared.asks.Ask.{Ask}
use Rattle.history.specs.declared.asks.Ask.TheVariants.{Open, Begin, Finish, Abandon, Dirty, Clean, Ack, Bind, Rebind, Unbind, Lookup, Tick}
use Rattle.history.specs.declared.asks.Ask.TheVariants.{List as ListNames}
use Rattle.history.specs.Texts.{hex_byte, is_plain_unit, unit_text}
use Rattle.history.specs.declared.limits.TheConstants.{END_OF_TIME}
use Rattle.journal.specs.Parts.{Lacks}
use Rattle.journal.specs.Grammar.{◌▸◌, End, Is, SpellsSigned, SpellsNumber, SpellsMoment, SpellsDuration, SpellsUid, SpellsObject, SpellsClient, SpellsName, SpellsList, SpellsKinds, SpellsObjects, SpellsPinned, SpellsStrong, SpellsAsk, EventWords, ConfigWords}
use Rattle.journal.proofs.Bytes.{Within, within_append, within_wider, within_lacks, lacks_append, signed_within, number_within}
use Rattle.journal.proofs.Joined.{uid_within, object_within}
use Rattle.journal.proofs.Clients.{client_within, glyph_within}
use Rattle.journal.proofs.NameUnits.{plain_unit, escaped_unit}

-- Whatever word is so has only bytes from 21 to 7E.
pub record IsGraphic (Spelled : List ℕ → Type 0) : Type 0 where
  pub within : (word : List ℕ) → Spelled word → Within 33 126 word

-- Whatever words are so have only such bytes.
pub record AreGraphic (Spelled : List (List ℕ) → Type 0) : Type 0 where
  pub within : (words : List (List ℕ)) → Spelled words → AllByRecursion (Within 33 126) words

infixr 10 ◌▹◌
pub ◌▹◌ : {First : List ℕ → Type 0} {Others : List (List ℕ) → Type 0} → IsGraphic First → AreGraphic Others → AreGraphic (First ▸ Others)
first ▹ others = record { within = both_within first others }
  where
    both_within : {First : List ℕ → Type 0} {Others : List (List ℕ) → Type 0} → IsGraphic First → AreGraphic Others
        → (words : List (List ℕ)) → (First ▸ Others) words → AllByRecursion (Within 33 126) words
    both_within first others [] spells = absurd spells
    both_within first others (word ∷ words) spells = (first.within word spells.0, others.within words spells.1)

pub ends : AreGraphic End
ends = record { within = none_within }
  where
    none_within : (words : List (List ℕ)) → End words → AllByRecursion (Within 33 126) words
    none_within [] is = tt
    none_within (word ∷ words) is = absurd (cc)

-- ---- the fields

within_by_test : (word : List ℕ) → list_all (λ b. leb 33 b && leb b 126) word ≡ true → Within 33 126 word
within_by_test [] holds = tt
within_by_test (b ∷ word) holds =
    let now = and_parts (leb 33 b && leb b 126) (list_all (λ x. leb 33 x && leb x 126) word) holds in
    let here = and_parts (leb 33 b) (leb b 126) now.0 in
    ((leb-true 33 b here.0, leb-true b 126 here.1), within_by_test word now.1)

-- a given word
pub text : (t : List ℕ) → list_all (λ b. leb 33 b && leb b 126) t ≡ true → IsGraphic (Is t)
text t holds = record { within = λ word is. subst (Within 33 126) (sym is) (within_by_test t holds) }

pub number : (n : ℕ) → IsGraphic (SpellsNumber n)
number n = record { within = λ word is. within_wider 48 57 33 126 (omega arith) (omega arith) word (number_within (2 ^ 32) n word (omega arith) is) }

pub moment : (n : ℕ) → IsGraphic (SpellsMoment n)
moment n = record { within = λ word is. within_wider 48 57 33 126 (omega arith) (omega arith) word (number_within END_OF_TIME n word (omega arith) is) }

pub duration : (n : ℕ) → IsGraphic (SpellsDuration n)
duration n = record { within = λ word is. within_wider 48 57 33 126 (omega arith) (omega arith) word (number_within (2 ^ 64) n word (omega arith) (omega (arith, is.1), is.2)) }

pub signed : (w : Width) (z : ℤ) → hbits w ≤ 63 → IsGraphic (SpellsSigned w z)
signed w z small = record {
  within = λ word is. subst (Within 33 126) (sym is.1)
      (within_wider 45 57 33 126 (omega arith) (omega arith) (signed_decimal z) (signed_within z (below (mag z) is.0.sfits)));
}
  where
    below : (m : ℕ) → m < 2 ^ hbits w → m < 2 ^ 63
    below m fits = let wide = pow_mono small in omega (arith, fits, wide)

pub uid : (u : Uid) → IsGraphic (SpellsUid u)
uid u = record { within = λ word is. subst (Within 33 126) (sym is.1) (within_wider 45 57 33 126 (omega arith) (omega arith) _ (uid_within u is.0)) }

pub object : (space : Uid) (o : ObjId) → IsGraphic (SpellsObject space o)
object space o = record { within = λ word is. within_wider 45 58 33 126 (omega arith) (omega arith) word (object_within space o word is) }

pub client : (c : Client) → IsGraphic (SpellsClient c)
client c = record { within = λ word is. subst (Within 33 126) (sym is.1) (within_wider 45 102 33 126 (omega arith) (omega arith) _ (client_within c is.0)) }

pub pinned : (b : Bool) → IsGraphic (SpellsPinned b)
pinned true = text (codes "pinned") refl
pinned false = text (codes "free") refl

pub strong : (b : Bool) → IsGraphic (SpellsStrong b)
strong true = text (codes "strong") refl
strong false = text (codes "weak") refl

-- ---- names

hex_graphic : (b : ℕ) → b < 2 ^ 8 → Within 33 126 (hex_byte b)
hex_graphic b small =
    let high = glyph_within (b / 16) (omega (arith, small)) in let low = glyph_within (b % 16) (omega arith) in
    ((omega (arith, high), omega (arith, high)), ((omega (arith, low), omega (arith, low)), tt))

plain_graphic : (u : ℕ) → is_plain_unit u ≡ true → (33 ≤ u) × (u ≤ 126)
plain_graphic u plain = (grind (arith, common_steps), grind (arith, common_steps))

unit_graphic : (u : ℕ) → u < 2 ^ 16 → Within 33 126 (unit_text u)
unit_graphic u small = by_kind (is_plain_unit u) refl
  where
    by_kind : (p : Bool) → is_plain_unit u ≡ p → Within 33 126 (unit_text u)
    by_kind true plain = subst (Within 33 126) (sym (plain_unit u plain)) (plain_graphic u plain, tt)
    by_kind false escaped = subst (Within 33 126) (sym (escaped_unit u escaped)) (
      (omega arith, omega arith),
      ((omega arith, omega arith), within_append 33 126 (hex_byte (u / 256)) (hex_byte (u % 256)) (hex_graphic (u / 256) (omega arith)) (hex_graphic (u % 256) (omega arith))),
    )

units_graphic : (units : List ℕ) → AllByRecursion (λ u. u < 2 ^ 16) units → Within 33 126 (flat_map unit_text units)
units_graphic [] fit = tt
units_graphic (u ∷ units) fit = within_append 33 126 (unit_text u) (flat_map unit_text units) (unit_graphic u fit.0) (units_graphic units fit.1)

pub name : (n : List ℕ) → IsGraphic (SpellsName n)
name n = record {
  within = λ word is. subst (Within 33 126) (sym is.1)
      ((omega arith, omega arith), within_append 33 126 (flat_map unit_text n) (34 ∷ []) (units_graphic n is.0.units) ((omega arith, omega arith), tt));
}

-- ---- lists

joined_graphic : {X : Type 0} (Spells : X → List ℕ → Type 0) → ((x : X) → IsGraphic (Spells x)) → (xs : List X) (items : List (List ℕ)) → AllZip Spells xs items → Within 33 126 (join_with_byte 44 items)
joined_graphic Spells each [] [] zip = tt
joined_graphic Spells each [] (t ∷ items) zip = absurd zip
joined_graphic Spells each (x ∷ xs) [] zip = absurd zip
joined_graphic Spells each (x ∷ xs) (t ∷ []) zip = (each x).within t zip.0
joined_graphic Spells each (x ∷ xs) (t ∷ u ∷ items) zip =
    within_append 33 126 t (44 ∷ join_with_byte 44 (u ∷ items)) ((each x).within t zip.0) ((omega arith, omega arith), joined_graphic Spells each xs (u ∷ items) zip.1)

list_graphic : {X : Type 0} (Spells : X → List ℕ → Type 0) → ((x : X) → IsGraphic (Spells x)) → (xs : List X) (word : List ℕ) → SpellsList Spells xs word → Within 33 126 word
list_graphic Spells each [] word is = subst (Within 33 126) (sym is) ((omega arith, omega arith), tt)
list_graphic Spells each (x ∷ xs) word (items, zip, is) = subst (Within 33 126) (sym is) (joined_graphic Spells each (x ∷ xs) items zip)

pub kinds : (ks : List ℕ) → IsGraphic (SpellsKinds ks)
kinds ks = record { within = λ word is. list_graphic SpellsNumber number ks word is }

pub objects : (space : Uid) (os : List ObjId) → IsGraphic (SpellsObjects space os)
objects space os = record { within = λ word is. list_graphic (SpellsObject space) (object space) os word is }

-- ---- lines

pub ask_words : (space : Uid) (ask : Ask) → AreGraphic (SpellsAsk space ask)
ask_words space (Open kind p) = text (codes "open") refl ▹ number kind ▹ pinned p ▹ ends
ask_words space (Begin o) = text (codes "begin") refl ▹ object space o ▹ ends
ask_words space (Finish o made listed u) = text (codes "finish") refl ▹ object space o ▹ kinds made ▹ objects space listed ▹ uid u ▹ ends
ask_words space (Abandon o) = text (codes "abandon") refl ▹ object space o ▹ ends
ask_words space (Dirty c n asked os) = text (codes "dirty") refl ▹ client c ▹ signed w64 n (omega arith) ▹ signed w64 asked (omega arith) ▹ objects space os ▹ ends
ask_words space (Clean c n os s) = text (codes "clean") refl ▹ client c ▹ signed w64 n (omega arith) ▹ strong s ▹ objects space os ▹ ends
ask_words space (Ack u) = text (codes "ack") refl ▹ uid u ▹ ends
ask_words space (Bind n o) = text (codes "bind") refl ▹ name n ▹ object space o ▹ ends
ask_words space (Rebind n o) = text (codes "rebind") refl ▹ name n ▹ object space o ▹ ends
ask_words space (Unbind n) = text (codes "unbind") refl ▹ name n ▹ ends
ask_words space (Lookup n u) = text (codes "lookup") refl ▹ name n ▹ uid u ▹ ends
ask_words space ListNames = text (codes "list") refl ▹ ends
ask_words space Tick = text (codes "tick") refl ▹ ends

pub event_words : (space : Uid) (e : Event) → AreGraphic (EventWords space e)
event_words space e = number e.by ▹ moment e.moment ▹ ask_words space e.ask

config_fields : (config : SpaceConfig) → AreGraphic (Is (codes "space") ▸ SpellsDuration config.lease_ms ▸ SpellsDuration config.ack_ms ▸ SpellsSigned w32 config.uid.unique ▸ SpellsSigned w64 config.uid.time ▸ End)
config_fields config =
    text (codes "space") refl ▹ duration config.lease_ms ▹ duration config.ack_ms ▹ signed w32 config.uid.unique (omega arith) ▹ signed w64 config.uid.time (omega arith) ▹ ends

pub config_words : (config : SpaceConfig) → AreGraphic (ConfigWords config)
config_words config = record { within = λ words is. (config_fields config).within words is.2 }

-- Words of such bytes have no blank.
pub words_lack : (c : ℕ) → c < 33 → (words : List (List ℕ)) → AllByRecursion (Within 33 126) words → AllByRecursion (Lacks c) words
words_lack c small [] within = tt
words_lack c small (word ∷ words) within = (within_lacks 33 126 c (inl small) word within.0, words_lack c small words within.1)

-- Words of such bytes, joined by blanks, have no LF.
pub line_lacks : (c : ℕ) → c < 32 → (words : List (List ℕ)) → AllByRecursion (Within 33 126) words → Lacks c (join_with_byte 32 words)
line_lacks c small [] within = tt
line_lacks c small (word ∷ []) within = within_lacks 33 126 c (inl (omega arith)) word within.0
line_lacks c small (word ∷ next ∷ words) within =
    lacks_append c word (32 ∷ join_with_byte 32 (next ∷ words)) (within_lacks 33 126 c (inl (omega arith)) word within.0)
    (ne_eqb 32 c (λ same. omega (arith, same)), line_lacks c small (next ∷ words) within.1)
