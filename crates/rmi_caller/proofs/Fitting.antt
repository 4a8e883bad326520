-- Arguments that fit their parameters, one after the other.
use Rattle.std.proofs.Common.{◌≡◌, ◌<◌, ◌≤◌, ◌+◌, ◌∙◌, ℕ, List, ◌∷◌, length, drop, get_or, sym, ap, subst, add-one, drop-cons}
use Rattle.std.proofs.lemmas.List.{drop_all}
use Rattle.class_desc.specs.declared.field.TypeCode.{TypeCode}
use Rattle.rmi_caller.specs.declared.argument.Argument.{Argument}
use Rattle.rmi_caller.specs.Arguments.{AllFit, Fits}

here : {A : Type 0} (xs : List A) (i : ℕ) (x : A) → i < length xs → x ≡ get_or xs i x → drop i xs ≡ x ∷ drop (i + 1) xs
here xs i x less is = rw (add-one) (drop-cons xs i x less) ∙ ap (λ y. y ∷ drop (i + 1) xs) (sym is)

pub fit_step : (cs : List TypeCode) (xs : List Argument) (i : ℕ) (c : TypeCode) (x : Argument) → i < length cs → i < length xs → c ≡ get_or cs i c → x ≡ get_or xs i x → Fits c x
    → (AllFit (drop i cs) (drop i xs) → AllFit cs xs) → AllFit (drop (i + 1) cs) (drop (i + 1) xs) → AllFit cs xs
fit_step cs xs i c x few_codes few c_is x_is fits all rest =
    all (subst (λ l. AllFit l (drop i xs)) (sym (here cs i c few_codes c_is)) (subst (λ l. AllFit (c ∷ drop (i + 1) cs) l) (sym (here xs i x few x_is)) (fits, rest)))

pub fit_end : (cs : List TypeCode) (xs : List Argument) (i : ℕ) → length cs ≤ i → length xs ≤ i → (AllFit (drop i cs) (drop i xs) → AllFit cs xs) → AllFit cs xs
fit_end cs xs i past_codes past all = all (rw (drop_all i cs past_codes, drop_all i xs past) tt)
