-- The arguments of a call, and the words that say them.
use Rattle.std.proofs.Common.{◌≡◌, ◌∙◌, ◌<◌, ◌≤◌, ℕ, zero, suc, Bool, true, false, List, [], ◌∷◌, map, drop, get_or, length, refl, ap, ap₂, sym, arith, Bor, w8, w64, SFits}
use Rattle.std.proofs.Math.Facts.{sfits_widen}
use Rattle.std.proofs.lemmas.Fmt.{decimal_injective}
use Rattle.std.proofs.lemmas.Int.{of_z-to_z}
use Rattle.std.proofs.lemmas.List.{drop_all}
use Rattle.std.specs.Int.{cast_signed, cast_unsigned}
use Rattle.class_desc.specs.declared.field.TypeCode.{TypeCode}
use Rattle.class_desc.specs.declared.field.TypeCode.TheVariants as types
use Rattle.ser_values.specs.declared.value.Value.{Value}
use Rattle.ser_values.specs.declared.value.Value.TheVariants as values
use Rattle.rmi_words.proofs.SignedNumbers.{byte_fits, same_signed}
use Rattle.rmi_words.specs.CallWords.{AreArguments, IsArgument, IsValue, SpellsByte, SpellsUnit, truth_word}
use Rattle.rmi_words.specs.declared.call_words.Argument.{Argument}
use Rattle.rmi_words.specs.declared.call_words.Argument.TheVariants.{Prim, Text}

-- ---- all arguments

-- There are as many words as parameters.
pub same_length : (codes : List TypeCode) (arguments : List Argument) (words : List (List ℕ)) → AreArguments codes arguments words → length codes ≡ length words
same_length [] [] [] told = refl
same_length (c ∷ cs) (a ∷ as2) (w ∷ ws) told = let rest = same_length cs as2 ws told.1 in omega (arith, rest)
same_length [] [] (w ∷ ws) told = absurd told
same_length [] (a ∷ as2) ws told = absurd told
same_length (c ∷ cs) [] ws told = absurd told
same_length (c ∷ cs) (a ∷ as2) [] told = absurd told

abbrev now_all : List (Bor (List ℕ)) → List (List ℕ)
now_all = map (λ word. word.now)

-- Where all words say arguments, each does.
pub told_at : (codes : List TypeCode) (arguments : List Argument) (words : List (Bor (List ℕ))) (i : ℕ) (d : TypeCode) (e : Bor (List ℕ))
    → i < length codes → AreArguments codes arguments (now_all words) → (a : Argument) × IsArgument (get_or codes i d) a (get_or words i e).now
told_at [] arguments words i d e inside told = absurd (omega (arith, inside))
told_at (c ∷ cs) [] words i d e inside told = absurd told
told_at (c ∷ cs) (a ∷ as2) [] i d e inside told = absurd told
told_at (c ∷ cs) (a ∷ as2) (w ∷ ws) zero d e inside told = (a, told.0)
told_at (c ∷ cs) (a ∷ as2) (w ∷ ws) (suc i) d e inside told = told_at cs as2 ws i d e (omega (arith, inside)) told.1

-- Behind the last word there is none.
pub none_left : (codes : List TypeCode) (words : List (Bor (List ℕ))) (i : ℕ) → length codes ≤ i → length words ≤ i → AreArguments (drop i codes) [] (now_all (drop i words))
none_left codes words i last last2 = rw (drop_all i codes last, drop_all i words last2) tt

-- ---- a word says one argument

same_truth : (a b : Bool) → truth_word a ≡ truth_word b → a ≡ b
same_truth true true e = refl
same_truth false false e = refl
same_truth true false e = absurd cc
same_truth false true e = absurd cc

same_byte : (word : List ℕ) (m n : ℕ) → SpellsByte m word → SpellsByte n word → m ≡ n
same_byte word m n x y =
    let wide : SFits w64 (cast_signed w8 m) = sfits_widen tt (byte_fits m x.0) in
    let wide2 : SFits w64 (cast_signed w8 n) = sfits_widen tt (byte_fits n y.0) in
    let same = same_signed word (cast_signed w8 m) (cast_signed w8 n) wide wide2 x.1 y.1 in
    sym (of_z-to_z w8 m x.0) ∙ ap (cast_unsigned w8) same ∙ of_z-to_z w8 n y.0

same_unit : (word : List ℕ) (m n : ℕ) → SpellsUnit m word → SpellsUnit n word → m ≡ n
same_unit word m n x y = decimal_injective m n (omega (arith, x.0)) (omega (arith, y.0)) (sym x.1 ∙ y.1)

same_value : (code : TypeCode) (a b : Value) (word : List ℕ) → IsValue code a word → IsValue code b word → a ≡ b
same_value types.Boolean (values.Boolean a) (values.Boolean b) word x y = ap values.Boolean (same_truth a b (sym x ∙ y))
same_value types.Boolean (values.Boolean a) _ word x y = absurd y
same_value types.Byte (values.Byte m) (values.Byte n) word x y = ap values.Byte (same_byte word m n x y)
same_value types.Byte (values.Byte m) _ word x y = absurd y
same_value types.Char (values.Char m) (values.Char n) word x y = ap values.Char (same_unit word m n x y)
same_value types.Char (values.Char m) _ word x y = absurd y
same_value types.Short (values.Short m) (values.Short n) word x y = ap values.Short (same_signed word m n (sfits_widen tt x.0) (sfits_widen tt y.0) x.1 y.1)
same_value types.Short (values.Short m) _ word x y = absurd y
same_value types.Int (values.Int m) (values.Int n) word x y = ap values.Int (same_signed word m n (sfits_widen tt x.0) (sfits_widen tt y.0) x.1 y.1)
same_value types.Int (values.Int m) _ word x y = absurd y
same_value types.Long (values.Long m) (values.Long n) word x y = ap values.Long (same_signed word m n x.0 y.0 x.1 y.1)
same_value types.Long (values.Long m) _ word x y = absurd y
same_value _ _ _ word x y = absurd x

same_argument : (code : TypeCode) (a b : Argument) (word : List ℕ) → IsArgument code a word → IsArgument code b word → a ≡ b
same_argument code (Prim a) (Prim b) word x y = ap Prim (same_value code a b word x y)
same_argument types.Object (Prim a) (Text b) word x y = absurd x
same_argument _ (Prim a) (Text b) word x y = absurd y
same_argument types.Object (Text a) (Prim b) word x y = absurd y
same_argument _ (Text a) (Prim b) word x y = absurd x
same_argument types.Object (Text a) (Text b) word x y = ap Text (x ∙ sym y)
same_argument _ (Text a) (Text b) word x y = absurd x

-- Words say one list of arguments.
pub same_arguments : (codes : List TypeCode) (xs ys : List Argument) (words : List (List ℕ)) → AreArguments codes xs words → AreArguments codes ys words → xs ≡ ys
same_arguments [] [] [] words x y = refl
same_arguments [] [] (b ∷ bs) words x y = absurd y
same_arguments [] (a ∷ as2) ys words x y = absurd x
same_arguments (c ∷ cs) [] ys words x y = absurd x
same_arguments (c ∷ cs) (a ∷ as2) [] words x y = absurd y
same_arguments (c ∷ cs) (a ∷ as2) (b ∷ bs) [] x y = absurd x
same_arguments (c ∷ cs) (a ∷ as2) (b ∷ bs) (w ∷ ws) x y = ap₂ (λ z zs. z ∷ zs) (same_argument c a b w x.0 y.0) (same_arguments cs as2 bs ws x.1 y.1)
