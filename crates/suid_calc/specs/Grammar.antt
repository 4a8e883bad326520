-- Class outlines as text: lines that end with LF, of words with single blanks between them.
use Rattle.std.specs.Prelude.{◌≡◌, ◌≢◌, ◌⊎◌, ◌<◌, ◌≤◌, ◌+◌, ◌-◌, ◌*◌, ◌^◌, ℕ, Bool, true, ◌&&◌, nat_le, List, [], ◌∷◌, ◌++◌, length, codes}
use Rattle.std.specs.List.{AllByRecursion, flat_map}
use Rattle.std.specs.List.Sorted.{IsPermutation}
use Rattle.method_hash.specs.MethodText.{IsType}
use Rattle.suid_calc.specs.declared.outline.Member.{Member}
use Rattle.suid_calc.specs.declared.outline.Member.TheVariants.{Interface, Field, Initializer, Constructor, Method}
use Rattle.suid_calc.specs.declared.outline.TheConstants.{NAME_BYTES, TYPE_BYTES, MAX_PARAMETERS, MAX_MODIFIERS}
use Rattle.suid_calc.specs.declared.outline.OutlineFault.{OutlineFault}
use Rattle.suid_calc.specs.declared.outline.OutlineFault.TheVariants.{BadLine, OutOfMemory}
use Rattle.suid_calc.specs.Members.{IsNew, AreDistinct}

-- ---- words

abbrev pub is_name_byte : ℕ → Bool
is_name_byte b = nat_le 0x21 b && nat_le b 0x7E

-- 1 to 255 bytes from 21 to 7E
pub record IsName (name : List ℕ) : Type 0 where
  pub visible : AllByRecursion (λ b. is_name_byte b ≡ true) name
  pub some : 0 < length name
  pub short : length name ≤ NAME_BYTES

abbrev pub is_digit : ℕ → Bool
is_digit b = nat_le 0x30 b && nat_le b 0x39

-- the number that decimal digits make, behind digits that make n
abbrev pub value_after : ℕ → List ℕ → ℕ
value_after n [] = n
value_after n (c ∷ t) = value_after (10 * n + (c - 0x30)) t

-- the first digit of more than one isn't 0
abbrev pub HasNoLeadingZero : List ℕ → Type 0
HasNoLeadingZero [] = ⊥
HasNoLeadingZero (c ∷ []) = Unit {0}
HasNoLeadingZero (c ∷ d ∷ t) = c ≢ 0x30

-- decimal digits without a leading zero, which make n, from 0 to 65,535
pub record IsNumber (digits : List ℕ) (n : ℕ) : Type 0 where
  pub digital : AllByRecursion (λ b. is_digit b ≡ true) digits
  pub plain : HasNoLeadingZero digits
  pub value : value_after 0 digits ≡ n
  pub small : n ≤ MAX_MODIFIERS

-- the text of a type, of at most 65,535 bytes
pub record IsTypeText (t : List ℕ) : Type 0 where
  pub typed : IsType t
  pub short : length t ≤ TYPE_BYTES

-- what a method returns: V for nothing, or a type
abbrev pub IsReturned : List ℕ → Type 0
IsReturned t = IsType t ⊎ (t ≡ 0x56 ∷ [])

-- the types of at most 255 parameters in parentheses and then what is returned, of at most 65,535 bytes in all
pub record IsDescriptor (t : List ℕ) : Type 0 where
  pub types : List (List ℕ)
  pub last : List ℕ
  pub typed : AllByRecursion IsType types
  pub few : length types ≤ MAX_PARAMETERS
  pub returned : IsReturned last
  pub parts : t ≡ 0x28 ∷ (flat_map (λ x. x) types ++ 0x29 ∷ last)
  pub short : length t ≤ TYPE_BYTES

-- ---- lines

-- class MODS NAME
abbrev pub IsClassLine : List ℕ → ℕ → List ℕ → Type 0
IsClassLine line modifiers name =
    (digits : List ℕ) × IsNumber digits modifiers × IsName name × (line ≡ codes "class" ++ 0x20 ∷ (digits ++ 0x20 ∷ name))

-- interface NAME, field MODS NAME TYPE, clinit, constructor MODS DESCRIPTOR, method MODS NAME DESCRIPTOR
abbrev pub IsLine : List ℕ → Member → Type 0
IsLine line (Interface name) = IsName name × (line ≡ codes "interface" ++ 0x20 ∷ name)
IsLine line (Field modifiers name type_text) =
    (digits : List ℕ) × IsNumber digits modifiers × IsName name × IsTypeText type_text
    × (line ≡ codes "field" ++ 0x20 ∷ (digits ++ 0x20 ∷ (name ++ 0x20 ∷ type_text)))
IsLine line Initializer = line ≡ codes "clinit"
IsLine line (Constructor modifiers descriptor) =
    (digits : List ℕ) × IsNumber digits modifiers × IsDescriptor descriptor
    × (line ≡ codes "constructor" ++ 0x20 ∷ (digits ++ 0x20 ∷ descriptor))
IsLine line (Method modifiers name descriptor) =
    (digits : List ℕ) × IsNumber digits modifiers × IsName name × IsDescriptor descriptor
    × (line ≡ codes "method" ++ 0x20 ∷ (digits ++ 0x20 ∷ (name ++ 0x20 ∷ descriptor)))

-- The lines of these members, in this order.
abbrev pub AreLines : List Member → List ℕ → Type 0
AreLines [] t = t ≡ []
AreLines (m ∷ ms) t = (line rest : List ℕ) × IsLine line m × AreLines ms rest × (t ≡ line ++ 0x0A ∷ rest)

-- ---- outlines

-- The text of a class's outline: its first line, and a line for each of its members, of which no two are the same.
pub record IsOutline (text : List ℕ) (modifiers : ℕ) (name : List ℕ) (members : List Member) : Type 0 where
  pub first : List ℕ
  pub lines : List Member
  pub others : List ℕ
  pub class : IsClassLine first modifiers name
  pub read : AreLines lines others
  pub distinct : AreDistinct lines
  pub parts : text ≡ first ++ 0x0A ∷ others
  pub same : IsPermutation lines members

-- No line for a class begins the text.
abbrev pub IsBadFirst : List ℕ → Type 0
IsBadFirst text = (line rest : List ℕ) (modifiers : ℕ) (name : List ℕ) → IsClassLine line modifiers name → text ≡ line ++ 0x0A ∷ rest → ⊥

-- The text is some good lines and something else, which begins with no line of a further member.
pub record IsBadAfter (text : List ℕ) (number : ℕ) : Type 0 where
  pub first : List ℕ
  pub modifiers : ℕ
  pub name : List ℕ
  pub lines : List Member
  pub others : List ℕ
  pub rest : List ℕ
  pub class : IsClassLine first modifiers name
  pub read : AreLines lines others
  pub distinct : AreDistinct lines
  pub parts : text ≡ first ++ 0x0A ∷ (others ++ rest)
  pub more : rest ≢ []
  pub bad : (line tail : List ℕ) (m : Member) → IsLine line m → IsNew m lines → rest ≡ line ++ 0x0A ∷ tail → ⊥
  pub counted : number ≡ length lines + 2

-- The line of this number, from 1, is the first bad one.
abbrev pub IsBadLine : List ℕ → ℕ → Type 0
IsBadLine text number = (IsBadFirst text × (number ≡ 1)) ⊎ IsBadAfter text number

-- Why a text is not taken: a line is bad, or there was no memory.
abbrev pub IsUnread : List ℕ → OutlineFault → Type 0
IsUnread text (BadLine number) = IsBadLine text number
IsUnread text OutOfMemory = Unit {0}
