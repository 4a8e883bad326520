-- The words that ask for a drill.
use Rattle.std.proofs.Common.{◌≡◌, ℕ, List, [], ◌∷◌, refl, sym, ◌∙◌, arith}
use Rattle.std.specs.Prelude.{decimal}
use Rattle.std.proofs.lemmas.Fmt.{decimal_injective}
use Rattle.rmi_words.specs.Command.{IsWordOfDrill, word_of_text}
use Rattle.rmi_words.specs.declared.command.DrillText.{DrillText}
use Rattle.rmi_words.specs.declared.command.DrillText.TheVariants.{Summary, Journal}

same_numbers : (word word2 seed rounds seed2 rounds2 : List ℕ) → word ∷ seed ∷ rounds ∷ [] ≡ word2 ∷ seed2 ∷ rounds2 ∷ [] → (seed ≡ seed2) × (rounds ≡ rounds2)
same_numbers word word2 seed rounds seed2 rounds2 same = (cc, cc)

no_other : (words : List (List ℕ)) (seed rounds seed2 rounds2 : ℕ) → words ≡ word_of_text Summary ∷ decimal seed ∷ decimal rounds ∷ []
    → words ≡ word_of_text Journal ∷ decimal seed2 ∷ decimal rounds2 ∷ [] → ⊥
no_other words seed rounds seed2 rounds2 is is2 = let both = sym is ∙ is2 in cc

same_text : (words : List (List ℕ)) (text text2 : DrillText) (seed rounds seed2 rounds2 : ℕ) → words ≡ word_of_text text ∷ decimal seed ∷ decimal rounds ∷ []
    → words ≡ word_of_text text2 ∷ decimal seed2 ∷ decimal rounds2 ∷ [] → text ≡ text2
same_text words Summary Summary seed rounds seed2 rounds2 is is2 = refl
same_text words Summary Journal seed rounds seed2 rounds2 is is2 = absurd (no_other words seed rounds seed2 rounds2 is is2)
same_text words Journal Summary seed rounds seed2 rounds2 is is2 = absurd (no_other words seed2 rounds2 seed rounds is2 is)
same_text words Journal Journal seed rounds seed2 rounds2 is is2 = refl

-- Words ask for one drill.
pub one_drill : (words : List (List ℕ)) (text text2 : DrillText) (seed rounds seed2 rounds2 : ℕ) → IsWordOfDrill words (word_of_text text) seed rounds
    → IsWordOfDrill words (word_of_text text2) seed2 rounds2 → (text ≡ text2) × (seed ≡ seed2) × (rounds ≡ rounds2)
one_drill words text text2 seed rounds seed2 rounds2 d d2 =
    let same = same_numbers _ _ _ _ _ _ (sym d.words_are ∙ d2.words_are) in (
      same_text words text text2 seed rounds seed2 rounds2 d.words_are d2.words_are,
      decimal_injective seed seed2 (omega (arith, d.in_range.seed_fits)) (omega (arith, d2.in_range.seed_fits)) same.0,
      decimal_injective rounds rounds2 (omega (arith, d.in_range.most)) (omega (arith, d2.in_range.most)) same.1,
    )
