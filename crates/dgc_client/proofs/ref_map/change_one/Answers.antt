use Rattle.std.proofs.Common.{◌≡◌, None, ap, sym, ◌∙◌, subst}
use Rattle.std.specs.Map.{lookup}
use Rattle.std.specs.Option.{option_copied_mut}
use Rattle.object_ids.specs.Same.{same_key}
use Rattle.dgc_client.specs.RefMap.{refs_in, AreSettled}
use Rattle.dgc_client.proofs.RefEntries.{refs-changed, unchanged, find-none}
use Rattle.dgc_client.proofs.Settled.{settled-set, rests-changed}
use Rattle.dgc_client.proofs.ref_map.change_one.Goals as goal

pub returns-in-Some-clause-refs : goal.returns-in-Some-clause-refs
returns-in-Some-clause-refs c =
    ap refs_in (c.get_mut.follows.holds c.with_change.result).0
    ∙ refs-changed c.args.object.now c.args.change.now c.in-Some.kept.now c.with_change.result c.args.refs.now.entries c.with_change.ensures.gone c.with_change.ensures.value
    c.get_mut.ensures.unique (sym c.in-Some.ensures.value)

pub returns-in_default-clause-refs : goal.returns-in_default-clause-refs
returns-in_default-clause-refs c =
    let none : lookup (same_key c.args.object.now) c.args.refs.now.entries ≡ None = sym c.get_mut.ensures.value ∙ ap option_copied_mut c.in_default.is in
    ap (λ m. refs_in m.entries) c.get_mut.follows.holds-at-none
    ∙ sym (unchanged c.args.object.now c.args.change.now (refs_in c.args.refs.now.entries) (find-none c.args.object.now c.args.refs.now.entries none))

pub returns-in-Some-clause-settled : goal.returns-in-Some-clause-settled
returns-in-Some-clause-settled c = λ n h.
    subst (AreSettled n) (sym (c.get_mut.follows.holds c.with_change.result).0)
    (settled-set (same_key c.args.object.now) c.in-Some.kept.now c.with_change.result
    (rests-changed c.args.object.now c.args.change.now c.in-Some.kept.now c.with_change.result c.with_change.ensures.gone (c.with_change.ensures.value c.args.object.now))
    c.args.refs.now.entries (sym c.in-Some.ensures.value) n h)

pub returns-in_default-clause-settled : goal.returns-in_default-clause-settled
returns-in_default-clause-settled c = λ n h. subst (λ m. AreSettled n m.entries) (sym c.get_mut.follows.holds-at-none) h
