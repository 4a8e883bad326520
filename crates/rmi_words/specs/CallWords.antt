-- The words of `call`.
use Rattle.std.specs.Prelude.{◌≡◌, ◌<◌, ◌^◌, ℕ, ℤ, FitsSigned, pos, negsuc, suc, Bool, true, false, List, [], ◌∷◌, codes, decimal, drop, Option, Some, None, slice_get}
use Rattle.std.specs.List.{list_all, list_any}
use Rattle.std.specs.Int.{Width, cast_signed, w8, w16, w32, w64}
use Rattle.class_desc.specs.declared.field.TypeCode.{TypeCode}
use Rattle.class_desc.specs.declared.field.TypeCode.TheVariants as types
use Rattle.ser_values.specs.declared.value.Value.{Value}
use Rattle.ser_values.specs.declared.value.Value.TheVariants as values
use Rattle.method_hash.specs.declared.method.Method.{Method}
use Rattle.rmi_words.specs.Clients.{IsNamedIn, placed_words}
use Rattle.rmi_words.specs.Program.{is_option}
use Rattle.mod_utf.specs.Texts.{units_of}
use Rattle.rmi_words.specs.declared.call_words.Argument.{Argument}
use Rattle.rmi_words.specs.declared.call_words.Argument.TheVariants.{Prim, Text}
use Rattle.rmi_words.specs.declared.call_words.CallWords.{CallWords}

-- ---- arguments

-- A number on the command line: `~` stands before the amount of a negative one.
abbrev pub number_word : ℤ → List ℕ
number_word (pos n) = decimal n
number_word (negsuc n) = 126 ∷ decimal (suc n)

-- The word spells a signed number of a width.
abbrev pub SpellsNumber : Width → ℤ → List ℕ → Type 0
SpellsNumber w n word = FitsSigned w n × (word ≡ number_word n)

-- The word spells a signed number of 8 bits, which is carried as its bits.
abbrev pub SpellsByte : ℕ → List ℕ → Type 0
SpellsByte bits word = (bits < 2 ^ 8) × (word ≡ number_word (cast_signed w8 bits))

-- The word spells the number of one 16-bit unit.
abbrev pub SpellsUnit : ℕ → List ℕ → Type 0
SpellsUnit unit word = (unit < 2 ^ 16) × (word ≡ decimal unit)

-- the word of a truth value
abbrev pub truth_word : Bool → List ℕ
truth_word true = codes "true"
truth_word false = codes "false"

-- The word spells the value, of this primitive type: a truth value, a number in the type's range, or the number of a character's unit.
-- No word spells a `float` or a `double`.
abbrev pub IsValue : TypeCode → Value → List ℕ → Type 0
IsValue types.Boolean (values.Boolean b) word = word ≡ truth_word b
IsValue types.Byte (values.Byte bits) word = SpellsByte bits word
IsValue types.Char (values.Char unit) word = SpellsUnit unit word
IsValue types.Short (values.Short n) word = SpellsNumber w16 n word
IsValue types.Int (values.Int n) word = SpellsNumber w32 n word
IsValue types.Long (values.Long n) word = SpellsNumber w64 n word
IsValue _ _ _ = ⊥

-- The word says the argument, for a parameter of this type: a value of a primitive type, or a string, which is the word itself. It says
-- none for an array.
abbrev pub IsArgument : TypeCode → Argument → List ℕ → Type 0
IsArgument code (Prim value) word = IsValue code value word
IsArgument types.Object (Text units) word = units ≡ units_of word
IsArgument _ (Text units) word = ⊥

-- There are as many words as parameters, and as many arguments; each word says its argument.
abbrev pub AreArguments : List TypeCode → List Argument → List (List ℕ) → Type 0
AreArguments [] [] [] = Unit {0}
AreArguments (code ∷ codes) (argument ∷ arguments) (word ∷ words) =
    IsArgument code argument word × AreArguments codes arguments words
AreArguments _ _ _ = ⊥

-- ---- the method

-- An argument of the type can be said by a word.
abbrev pub is_said : TypeCode → Bool
is_said types.Float = false
is_said types.Double = false
is_said types.Array = false
is_said _ = true

-- A result of the type can be printed.
abbrev pub is_printed : Option TypeCode → Bool
is_printed (Some types.Float) = false
is_printed (Some types.Double) = false
is_printed _ = true

-- The word is the method's text; its parameters can be said, and its result be printed.
pub record IsMethodIn (method : Method) (word : List ℕ) : Type 0 where
  pub text_is : word ≡ method.text
  pub said : list_all is_said method.params ≡ true
  pub printed : is_printed method.result ≡ true

-- the same of a word that may be left out
abbrev pub IsMethodOf : Method → Option (List ℕ) → Type 0
IsMethodOf method (Some word) = IsMethodIn method word
IsMethodOf method None = ⊥

-- ---- the command line

-- These words are `call`, where the registry is, a name there, the method's text, and a word for each of its parameters. None begins
-- with `-`.
pub record IsCall (call : CallWords) (words : List (List ℕ)) : Type 0 where
  pub rest : List (List ℕ)
  pub words_are : words ≡ codes "call" ∷ rest
  pub plain : list_any is_option rest ≡ false
  pub name_is : IsNamedIn call.server call.name (placed_words rest)
  pub method_is : IsMethodOf call.method (slice_get rest 3)
  pub arguments_are : AreArguments call.method.params call.arguments (drop 4 rest)
