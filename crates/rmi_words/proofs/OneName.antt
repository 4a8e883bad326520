-- A name is one command's: where what it is told is not found, no command is.
use Rattle.std.proofs.Common.{◌≡◌, ◌∙◌, ℕ, List, Option, None, codes, sym, subst}
use Rattle.journal.specs.Reading.{Finds}
use Rattle.rmi_words.proofs.Naming.{named_by}
use Rattle.rmi_words.specs.Values.{AreOptionsOf, Given, IsOwnOf, IsServeOf, IsToldIn}
use Rattle.rmi_words.specs.declared.options.LeaseOptions.{LeaseOptions}
use Rattle.rmi_words.specs.declared.options.ServeWords.{ServeWords}
use Rattle.rmi_words.specs.declared.command.Command.{Command}

-- ---- where a part is not found

answer_none : (name : List ℕ) (given : Given) → name ≡ codes "answer" → ((o : LeaseOptions) → AreOptionsOf o given.value → ⊥) → (c : Command) → IsOwnOf name c given → ⊥
answer_none name given is none c g =
    let of = named_by (codes "answer") c (sym g.1.0 ∙ is) in
    none of.0 (subst (λ (x : Command). IsToldIn x given) of.1 g.1.1)

serve_none : (name : List ℕ) (given : Given) → name ≡ codes "serve" → ((o : ServeWords) → IsServeOf o given.value → ⊥) → (c : Command) → IsOwnOf name c given → ⊥
serve_none name given is none c g =
    let of = named_by (codes "serve") c (sym g.1.0 ∙ is) in
    none of.0 (subst (λ (x : Command). IsToldIn x given) of.1 g.1.1)

pub answer_lacks : (name : List ℕ) (given : Given) (result : Option Command) (found : Option LeaseOptions) → result ≡ None → found ≡ None → name ≡ codes "answer" → Finds AreOptionsOf found given.value
    → Finds (IsOwnOf name) result given
answer_lacks name given result found none lacks is finds =
    let lacking : (o : LeaseOptions) → AreOptionsOf o given.value → ⊥ = subst (λ (f : Option LeaseOptions). Finds AreOptionsOf f given.value) lacks finds in
    subst (λ (r : Option Command). Finds (IsOwnOf name) r given) (sym none) (answer_none name given is lacking)

pub serve_lacks : (name : List ℕ) (given : Given) (result : Option Command) (found : Option ServeWords) → result ≡ None → found ≡ None → name ≡ codes "serve" → Finds IsServeOf found given.value
    → Finds (IsOwnOf name) result given
serve_lacks name given result found none lacks is finds =
    let lacking : (o : ServeWords) → IsServeOf o given.value → ⊥ = subst (λ (f : Option ServeWords). Finds IsServeOf f given.value) lacks finds in
    subst (λ (r : Option Command). Finds (IsOwnOf name) r given) (sym none) (serve_none name given is lacking)
