use Rattle.std.proofs.Common.{◌≡◌, ◌+◌, None, length, ap, sym, ◌∙◌, subst, true≢false}
use Rattle.std.specs.Prelude.{is_some}
use Rattle.std.specs.Map.{lookup}
use Rattle.std.specs.Option.{option_copied_mut}
use Rattle.object_ids.specs.Same.{same_key}
use Rattle.dgc_client.specs.declared.ref_map.Kept.{Kept}
use Rattle.dgc_client.specs.RefMap.{refs_in, rests, AreSettled}
use Rattle.dgc_client.proofs.RefEntries.{refs-gapped, count-gapped, others-all, find-none, find-shown, no-gap}
use Rattle.dgc_client.proofs.Settled.{settled-set}
use Rattle.dgc_client.proofs.ref_map.remove.Goals as goal

pub returns-in-Some-clause-refs : goal.returns-in-Some-clause-refs
returns-in-Some-clause-refs c =
    ap refs_in (c.get_mut.follows.holds c.gap.result).0
    ∙ refs-gapped c.args.object.now c.in-Some.kept.now c.gap.result c.args.refs.now.entries (ap (λ (k : Kept). k.gone) c.gap.ensures) c.get_mut.ensures.unique (sym c.in-Some.ensures.value)

pub returns-in-Some-clause-count : goal.returns-in-Some-clause-count
returns-in-Some-clause-count c = λ there.
    let o = c.args.object.now in
    let es = c.args.refs.now.entries in
    let here = no-gap o c.in-Some.kept.now (ap is_some (sym (find-shown o c.in-Some.kept.now es c.get_mut.ensures.unique (sym c.in-Some.ensures.value))) ∙ there) in
    ap (λ l. length (refs_in l) + 1) (c.get_mut.follows.holds c.gap.result).0
    ∙ count-gapped o c.in-Some.kept.now c.gap.result es (ap (λ (k : Kept). k.gone) c.gap.ensures) here (sym c.in-Some.ensures.value)

pub returns-in_default-clause-refs : goal.returns-in_default-clause-refs
returns-in_default-clause-refs c =
    let none : lookup (same_key c.args.object.now) c.args.refs.now.entries ≡ None = sym c.get_mut.ensures.value ∙ ap option_copied_mut c.in_default.is in
    ap (λ m. refs_in m.entries) c.get_mut.follows.holds-at-none
    ∙ sym (others-all c.args.object.now (refs_in c.args.refs.now.entries) (find-none c.args.object.now c.args.refs.now.entries none))

pub returns-in_default-clause-count : goal.returns-in_default-clause-count
returns-in_default-clause-count c = λ there.
    let none : lookup (same_key c.args.object.now) c.args.refs.now.entries ≡ None = sym c.get_mut.ensures.value ∙ ap option_copied_mut c.in_default.is in
    absurd (true≢false (sym there ∙ ap is_some (find-none c.args.object.now c.args.refs.now.entries none)))

pub returns-in-Some-clause-settled : goal.returns-in-Some-clause-settled
returns-in-Some-clause-settled c = λ n h.
    subst (AreSettled n) (sym (c.get_mut.follows.holds c.gap.result).0)
    (settled-set (same_key c.args.object.now) c.in-Some.kept.now c.gap.result (λ r. ap rests c.gap.ensures) c.args.refs.now.entries (sym c.in-Some.ensures.value) n h)

pub returns-in_default-clause-settled : goal.returns-in_default-clause-settled
returns-in_default-clause-settled c = λ n h. subst (λ m. AreSettled n m.entries) (sym c.get_mut.follows.holds-at-none) h
