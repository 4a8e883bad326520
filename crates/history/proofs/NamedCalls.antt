-- Lease calls that name the same of their objects: those of one ask, by two tests that agree on an object, are alike for it.
use Rattle.std.proofs.Common.{◌≡◌, ℕ, List, refl, ap, sym, ◌∙◌}
use Rattle.std.specs.Prelude.{Bool, true, false, ◌&&◌, filter}
use Rattle.std.specs.List.{list_any}
use Rattle.object_ids.specs.declared.ids.ObjId.{ObjId}
use Rattle.object_ids.specs.Same.{same_id}
use Rattle.object_ids.proofs.Exact.{same_id-equal}
use Rattle.history.specs.declared.asks.Ask.{Ask}
use Rattle.history.specs.declared.asks.Ask.TheVariants.{Dirty, Clean}
use Rattle.history.specs.LeaseCalls.{call_with}
use Rattle.history.proofs.ListLemmas.{list_any-filter, list_any-same}
use Rattle.history.proofs.AlikeCalls.{AllAlike}

named-alike : (s t : ObjId → Bool) (o : ObjId) → s o ≡ t o → (ys : List ObjId) → list_any (λ y. same_id y o) (filter s ys) ≡ list_any (λ y. same_id y o) (filter t ys)
named-alike s t o e ys =
    list_any-filter (λ y. same_id y o) s ys
    ∙ list_any-same (λ y. s y && same_id y o) (λ y. t y && same_id y o) (λ y. each y (same_id y o) refl) ys
    ∙ sym (list_any-filter (λ y. same_id y o) t ys)
  where
    off : (a b : Bool) → (a && false) ≡ (b && false)
    off true true = refl
    off true false = refl
    off false true = refl
    off false false = refl

    each : (y : ObjId) (b : Bool) → same_id y o ≡ b → (s y && b) ≡ (t y && b)
    each y true h = ap (λ v. v && true) (ap s (same_id-equal y o h) ∙ e ∙ ap t (sym (same_id-equal y o h)))
    each y false h = off (s y) (t y)

pub call_with-alike : (s t : ObjId → Bool) (o : ObjId) → s o ≡ t o → (moment : ℕ) (a : Ask) → AllAlike o (call_with s moment a) (call_with t moment a)
call_with-alike s t o e moment (Dirty client number asked objects) = (record { moment = refl; client = refl; number = refl; kind = refl; asked = refl; naming = named-alike s t o e objects }, tt)
call_with-alike s t o e moment (Clean client number objects strong) = (record { moment = refl; client = refl; number = refl; kind = refl; asked = refl; naming = named-alike s t o e objects }, tt)
call_with-alike s t o e moment _ = tt
