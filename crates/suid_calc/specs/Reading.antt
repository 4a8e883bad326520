-- Reading a line word by word.
use Rattle.std.specs.Prelude.{◌≡◌, ◌+◌, ◌-◌, ◌*◌, ℕ, zero, suc, Bool, true, false, ◌&&◌, ◌||◌, nat_eq, nat_le, nat_lt, List, [], ◌∷◌, length, Option, Some, None, if◌then◌else◌, codes}
use Rattle.std.specs.Option.{option_map, option_and_then}
use Rattle.std.specs.List.{list_all}
use Rattle.std.specs.Cmp.Lexicographic.{pointwise}
use Rattle.class_desc.specs.TypeText.{is_letter}
use Rattle.method_hash.specs.MethodText.{is_class_byte}
use Rattle.suid_calc.specs.declared.outline.Member.{Member}
use Rattle.suid_calc.specs.declared.outline.Member.TheVariants.{Interface, Field, Initializer, Constructor, Method}
use Rattle.suid_calc.specs.declared.outline.TheConstants.{NAME_BYTES, TYPE_BYTES, MAX_PARAMETERS, MAX_MODIFIERS}
use Rattle.suid_calc.specs.Grammar.{is_name_byte, is_digit}

-- what stands before the first byte b, and what behind it
unfoldable pub split_at : ℕ → List ℕ → Option (List ℕ × List ℕ)
split_at b [] = None
split_at b (c ∷ t) = if nat_eq c b then Some ([], t) else option_map (λ p. (c ∷ p.0, p.1)) (split_at b t)

abbrev pub is_name : List ℕ → Bool
is_name t = nat_lt 0 (length t) && (nat_le (length t) NAME_BYTES && list_all is_name_byte t)

-- the number that digits make behind digits that make n
unfoldable pub number_after : ℕ → List ℕ → Option ℕ
number_after n [] = Some n
number_after n (c ∷ t) = if is_digit c && nat_le (10 * n + (c - 0x30)) MAX_MODIFIERS then number_after (10 * n + (c - 0x30)) t else None

abbrev pub number : List ℕ → Option ℕ
number [] = None
number (c ∷ []) = number_after 0 (c ∷ [])
number (c ∷ d ∷ t) = if nat_eq c 0x30 then None else number_after 0 (c ∷ d ∷ t)

-- what is behind the rest of a class's name
unfoldable pub after_name : List ℕ → Option (List ℕ)
after_name [] = None
after_name (c ∷ t) = if nat_eq c 0x3B then Some t else (if is_class_byte c then after_name t else None)

-- what is behind a class's name and its semicolon
abbrev pub after_class : List ℕ → Option (List ℕ)
after_class [] = None
after_class (c ∷ t) = if is_class_byte c then after_name t else None

-- what is behind a type
unfoldable pub after_type : List ℕ → Option (List ℕ)
after_type [] = None
after_type (c ∷ t) = if nat_eq c 0x5B then after_type t else (if nat_eq c 0x4C then after_class t else (if is_letter c then Some t else None))

-- what is behind at most so many parameters and the closing parenthesis
unfoldable pub after_parameters : ℕ → List ℕ → Option (List ℕ)
after_parameters n [] = None
after_parameters zero (c ∷ t) = if nat_eq c 0x29 then Some t else None
after_parameters (suc n) (c ∷ t) = if nat_eq c 0x29 then Some t else option_and_then (after_parameters n) (after_type (c ∷ t))

abbrev pub is_end : Option (List ℕ) → Bool
is_end (Some []) = true
is_end _ = false

abbrev pub is_returned : List ℕ → Bool
is_returned t = pointwise nat_eq t (0x56 ∷ []) || is_end (after_type t)

abbrev pub is_type : List ℕ → Bool
is_type t = nat_le (length t) TYPE_BYTES && is_end (after_type t)

abbrev pub returned_behind : Option (List ℕ) → Bool
returned_behind (Some t) = is_returned t
returned_behind None = false

abbrev pub is_signature : List ℕ → Bool
is_signature (c ∷ t) = nat_eq c 0x28 && returned_behind (after_parameters MAX_PARAMETERS t)
is_signature [] = false

abbrev pub is_descriptor : List ℕ → Bool
is_descriptor t = nat_le (length t) TYPE_BYTES && is_signature t

-- ---- lines

-- a number and a blank, and what is behind them
abbrev pub after_number : List ℕ → Option (ℕ × List ℕ)
after_number t = option_and_then (λ p. option_map (λ n. (n, p.1)) (number p.0)) (split_at 0x20 t)

abbrev pub class_of : List ℕ → Option (ℕ × List ℕ)
class_of t = option_and_then (λ p. if is_name p.1 then Some p else None) (after_number t)

abbrev pub interface_of : List ℕ → Option Member
interface_of t = if is_name t then Some (Interface t) else None

abbrev pub field_with : ℕ → List ℕ → Option Member
field_with n t = option_and_then (λ p. if is_name p.0 && is_type p.1 then Some (Field n p.0 p.1) else None) (split_at 0x20 t)

abbrev pub field_of : List ℕ → Option Member
field_of t = option_and_then (λ p. field_with p.0 p.1) (after_number t)

abbrev pub constructor_of : List ℕ → Option Member
constructor_of t = option_and_then (λ p. if is_descriptor p.1 then Some (Constructor p.0 p.1) else None) (after_number t)

abbrev pub method_with : ℕ → List ℕ → Option Member
method_with n t = option_and_then (λ p. if is_name p.0 && is_descriptor p.1 then Some (Method n p.0 p.1) else None) (split_at 0x20 t)

abbrev pub method_of : List ℕ → Option Member
method_of t = option_and_then (λ p. method_with p.0 p.1) (after_number t)

abbrev pub is_word : List ℕ → List ℕ → Bool
is_word t word = pointwise nat_eq t word

-- by the first word of a line, and what is behind it
abbrev pub with_word : List ℕ → List ℕ → Option Member
with_word word t =
    if is_word word (codes "interface") then interface_of t else
    (if is_word word (codes "field") then field_of t else
    (if is_word word (codes "constructor") then constructor_of t else
    (if is_word word (codes "method") then method_of t else None)))

unfoldable pub member_of : List ℕ → Option Member
member_of t = if is_word t (codes "clinit") then Some Initializer else option_and_then (λ p. with_word p.0 p.1) (split_at 0x20 t)

unfoldable pub class_line_of : List ℕ → Option (ℕ × List ℕ)
class_line_of t = option_and_then (λ p. if is_word p.0 (codes "class") then class_of p.1 else None) (split_at 0x20 t)

-- the parts of a member are names, types' texts and descriptors
abbrev pub is_good : Member → Bool
is_good (Interface name) = is_name name
is_good (Field modifiers name type_text) = is_name name && is_type type_text
is_good Initializer = true
is_good (Constructor modifiers descriptor) = is_descriptor descriptor
is_good (Method modifiers name descriptor) = is_name name && is_descriptor descriptor
