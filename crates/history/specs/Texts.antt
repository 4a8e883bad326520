-- How a journal and an outline spell what they name. Words are separated by one space, and lines end with LF. Numbers are decimal.
use Rattle.std.specs.Prelude.{ℕ, ◌/◌, ◌%◌, Bool, false, List, [], ◌∷◌, ◌++◌, flat_map, ◌==◌, ◌&&◌, not, nat_le, if◌then◌else◌, codes}
use Rattle.std.specs.List.{join_with_byte}
use Rattle.std.specs.Fmt.{signed_decimal, digit_glyph}
use Rattle.object_ids.specs.declared.ids.Uid.{Uid}
use Rattle.object_ids.specs.declared.ids.ObjId.{ObjId}
use Rattle.object_ids.specs.Client.{Client}
use Rattle.object_ids.specs.Same.{same_uid}

-- A line of words.
abbrev pub line : List (List ℕ) → List ℕ
line words = join_with_byte 32 words ++ 10 ∷ []

-- The lower-case hexadecimal digits of a byte.
abbrev pub hex_byte : ℕ → List ℕ
hex_byte b = digit_glyph false (b / 16) ∷ digit_glyph false (b % 16) ∷ []

-- The identifier U/T/C.
abbrev pub uid_text : Uid → List ℕ
uid_text uid = join_with_byte 47 (signed_decimal uid.unique ∷ signed_decimal uid.time ∷ signed_decimal uid.count ∷ [])

-- The client ADDR@U/T/C, with the address in hexadecimal, or `-` where it is empty.
abbrev pub address_text : List ℕ → List ℕ
address_text [] = codes "-"
address_text (b ∷ bytes) = flat_map hex_byte (b ∷ bytes)

abbrev pub client_text : Client → List ℕ
client_text client = address_text client.addr ++ codes "@" ++ uid_text client.uid

-- An object of the space by its number, another one as N:U/T/C.
abbrev pub object_text : Uid → ObjId → List ℕ
object_text space o =
    if same_uid o.space space then signed_decimal o.number else signed_decimal o.number ++ codes ":" ++ uid_text o.space

-- The units that stand for themselves: those from 21 to 7E but for the quotation mark and the backslash.
abbrev pub is_plain_unit : ℕ → Bool
is_plain_unit u = nat_le 0x21 u && nat_le u 0x7E && not (u == 0x22) && not (u == 0x5C)

-- A unit of a name: itself, or `\u` and four hexadecimal digits.
abbrev pub unit_text : ℕ → List ℕ
unit_text u = if is_plain_unit u then u ∷ [] else codes "\\u" ++ hex_byte (u / 256) ++ hex_byte (u % 256)

-- A name in quotation marks.
abbrev pub name_text : List ℕ → List ℕ
name_text units = 0x22 ∷ flat_map unit_text units ++ 0x22 ∷ []
