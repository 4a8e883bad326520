-- Where a part is not found, the whole is not.
use Rattle.std.proofs.Common.{◌≡◌, Option, None, sym, subst}
use Rattle.journal.specs.Reading.{Finds}

pub not_found : {X Y Part Seen : Type 0} (Spells : X → Y → Type 0) (SpellsPart : Part → Seen → Type 0) (result : Option X) (found : Option Part) (part : X → Part) (text : Y) (given seen : Seen)
    → result ≡ None → found ≡ None → given ≡ seen → Finds SpellsPart found given → ((x : X) → Spells x text → SpellsPart (part x) seen) → Finds Spells result text
not_found {Part = Part} Spells SpellsPart result found part text given seen none lacks same finds has =
    let lacking : (p : Part) → SpellsPart p given → ⊥ = subst (λ o. Finds SpellsPart o given) lacks finds in
    subst (λ o. Finds Spells o text) (sym none) (λ x spells. lacking (part x) (subst (λ s. SpellsPart (part x) s) (sym same) (has x spells)))
