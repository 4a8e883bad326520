use Rattle.std.proofs.Common.{◌∷◌, ◌<◌, length, refl, rules, subst, sym, IsPermutation}
use Rattle.std.proofs.lemmas.List.Sorted.{IsPermutation-swap_remove}
use Rattle.rmi_cli.proofs.host_desk.take_start.Goals as goal

pub returns : goal.returns
returns c =
    let inside : c.in_ok-place.place < length c.args.starts.now.items = search rules in (
      c.swap_remove.result,
      refl,
      subst (λ left. IsPermutation c.args.starts.now.items (c.swap_remove.result ∷ left)) (sym c.swap_remove.ensures.items)
          (IsPermutation-swap_remove c.args.starts.now.items c.in_ok-place.place c.swap_remove.result inside c.swap_remove.ensures.value),
    )
