-- Addresses and clients as words.
use Rattle.std.proofs.Common.{◌≡◌, ◌≢◌, ℕ, ◌*◌, ◌/◌, ◌%◌, ◌^◌, ◌<◌, ◌≤◌, ◌⊎◌, inl, inr, false, List, [], ◌∷◌, length, refl, ap, sym, subst, ◌∙◌, arith, flat_map, append_assoc, codes}
use Rattle.std.proofs.lemmas.Bool.{ne_eqb}
use Rattle.std.proofs.lemmas.Grind.{common_steps}
use Rattle.std.specs.List.{AllByRecursion, join_with_byte}
use Rattle.std.specs.Fmt.{digit_glyph}
use Rattle.object_ids.specs.Client.{Client}
use Rattle.history.specs.Texts.{hex_byte, uid_text, address_text, client_text}
use Rattle.journal.specs.Parts.{parts, Lacks}
use Rattle.journal.specs.Hex.{SpellsBytes}
use Rattle.journal.specs.Grammar.{◌▸◌, End, IsAddress, SpellsAddress, IsClient, SpellsClient, SpellsUid}
use Rattle.journal.proofs.Splitting.{parts_join, join_parts}
use Rattle.journal.proofs.Bytes.{Within, within_append, within_wider, within_lacks}
use Rattle.journal.proofs.Joined.{two_words, uid_within}

-- ---- addresses

pub length-hex : (bytes : List ℕ) → length (flat_map hex_byte bytes) ≡ 2 * length bytes
length-hex [] = refl
length-hex (b ∷ bytes) = let more = length-hex bytes in omega arith

-- A word that is neither the sign of the empty address nor of 2 to 510 digits spells no address.
pub no_address : (word : List ℕ) → word ≢ codes "-" → (word ≡ []) ⊎ (510 < length word) → (addr : List ℕ) → SpellsAddress addr word → ⊥
no_address word other out [] spells = other spells.1
no_address word other (inl none) (b ∷ addr) spells = let both = sym none ∙ spells.1 in cc
no_address word other (inr long) (b ∷ addr) spells = let counted = length-hex (b ∷ addr) in omega (arith, ap length spells.1, spells.0.short)

-- Digits that spell bytes spell an address.
pub an_address : (word addr : List ℕ) → word ≢ [] → length word ≤ 510 → SpellsBytes addr word → SpellsAddress addr word
an_address word [] some short spells = absurd (some spells.1)
an_address word (b ∷ addr) some short spells =
    (record { bytes = spells.0; short = let counted = length-hex (b ∷ addr) in omega (arith, ap length spells.1) }, spells.1)

-- What spells an address of some bytes is their digits.
pub digits_of : (word addr : List ℕ) → word ≢ codes "-" → SpellsAddress addr word → SpellsBytes addr word
digits_of word [] other spells = absurd (other spells.1)
digits_of word (b ∷ addr) other spells = (spells.0.bytes, spells.1)

-- ---- which bytes stand in an address

pub glyph_within : (d : ℕ) → d < 16 → (48 ≤ digit_glyph false d) × (digit_glyph false d ≤ 102)
glyph_within d small = (grind (arith, common_steps), grind (arith, common_steps))

glyph_no_at : (d : ℕ) → d < 16 → digit_glyph false d ≢ 64
glyph_no_at d small = grind (arith, common_steps)

hex_within : (bytes : List ℕ) → AllByRecursion (λ b. b < 2 ^ 8) bytes → Within 48 102 (flat_map hex_byte bytes)
hex_within [] fit = tt
hex_within (b ∷ bytes) fit = (glyph_within (b / 16) (omega (arith, fit.0)), (glyph_within (b % 16) (omega arith), hex_within bytes fit.1))

hex_no_at : (bytes : List ℕ) → AllByRecursion (λ b. b < 2 ^ 8) bytes → Lacks 64 (flat_map hex_byte bytes)
hex_no_at [] fit = tt
hex_no_at (b ∷ bytes) fit =
    (ne_eqb (digit_glyph false (b / 16)) 64 (glyph_no_at (b / 16) (omega (arith, fit.0))), (ne_eqb (digit_glyph false (b % 16)) 64 (glyph_no_at (b % 16) (omega arith)), hex_no_at bytes fit.1))

pub address_within : (addr : List ℕ) → IsAddress addr → Within 45 102 (address_text addr)
address_within [] is = ((omega arith, omega arith), tt)
address_within (b ∷ addr) is = within_wider 48 102 45 102 (omega arith) (omega arith) (flat_map hex_byte (b ∷ addr)) (hex_within (b ∷ addr) is.bytes)

address_no_at : (addr : List ℕ) → IsAddress addr → Lacks 64 (address_text addr)
address_no_at [] is = (refl, tt)
address_no_at (b ∷ addr) is = hex_no_at (b ∷ addr) is.bytes

-- ---- clients ADDR@U/T/C

client_joined : (client : Client) → client_text client ≡ join_with_byte 64 (address_text client.addr ∷ uid_text client.uid ∷ [])
client_joined client = append_assoc (address_text client.addr) (64 ∷ []) (uid_text client.uid)

pub client_parts : (client : Client) → IsClient client → parts 64 (client_text client) ≡ address_text client.addr ∷ uid_text client.uid ∷ []
client_parts client is = ap (parts 64) (client_joined client) ∙ parts_join 64 (address_text client.addr) (uid_text client.uid ∷ []) (
  address_no_at client.addr is.addr,
  (within_lacks 45 57 64 (inr (omega arith)) (uid_text client.uid) (uid_within client.uid is.uid), tt),
)

pub client_within : (client : Client) → IsClient client → Within 45 102 (client_text client)
client_within client is = subst (Within 45 102) (sym (client_joined client)) (
    within_append 45 102 (address_text client.addr) (64 ∷ uid_text client.uid) (address_within client.addr is.addr)
    ((omega arith, omega arith), within_wider 45 57 45 102 (omega arith) (omega arith) (uid_text client.uid) (uid_within client.uid is.uid)))

pub client_to_parts : (client : Client) (word : List ℕ) → SpellsClient client word → (SpellsAddress client.addr ▸ SpellsUid client.uid ▸ End) (parts 64 word)
client_to_parts client word spells =
    let All : List (List ℕ) → Type 0 = SpellsAddress client.addr ▸ SpellsUid client.uid ▸ End in
    subst All (sym (ap (parts 64) spells.1 ∙ client_parts client spells.0)) ((spells.0.addr, refl), ((spells.0.uid, refl), refl))

pub client_from_parts : (client : Client) (word : List ℕ) → (SpellsAddress client.addr ▸ SpellsUid client.uid ▸ End) (parts 64 word) → SpellsClient client word
client_from_parts client word h =
    let two = two_words (SpellsAddress client.addr) (SpellsUid client.uid) (parts 64 word) h in (
      record { addr = two.first.0; uid = two.second.0 },
      join_parts 64 word ∙ ap (join_with_byte 64) two.are
          ∙ ap (λ (a : List ℕ). join_with_byte 64 (a ∷ two.b ∷ [])) two.first.1
          ∙ ap (λ (b : List ℕ). join_with_byte 64 (address_text client.addr ∷ b ∷ [])) two.second.1
          ∙ sym (client_joined client),
    )
