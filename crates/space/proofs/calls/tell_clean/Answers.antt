use Rattle.std.proofs.Common.{◌∷◌, List, sym, subst}
use Rattle.std.specs.Prelude.{OnOk}
use Rattle.object_ids.specs.declared.ids.ObjId.{ObjId}
use Rattle.dgc_server.specs.Counts.{clean_call}
use Rattle.dgc_server.specs.StandsForCalls.{StandsFor}
use Rattle.space.specs.Acts.{Agrees, ForEachLogBy, call_refusal}
use Rattle.space.proofs.calls.tell_clean.Goals as goal

pub returns-then-are_exported-clause-ok : goal.returns-then-are_exported-clause-ok
returns-then-are_exported-clause-ok c =
    subst (λ (os : List ObjId). OnOk c.take_clean.result (ForEachLogBy c.args.call.now.moment c.args.leases.now (λ lease calls.
    StandsFor lease c.take_clean.new.leases c.args.call.now.moment (clean_call c.args.call.now.moment c.args.call.now.client.now c.args.call.now.number os c.args.call.now.strong ∷ calls)))) (sym (c.are_exported.ensures c.if-are_exported.true)) c.take_clean.ensures.ok

pub returns-then-are_exported-clause-refusal : goal.returns-then-are_exported-clause-refusal
returns-then-are_exported-clause-refusal c lease moment calls s le =
    subst (λ (os : List ObjId). Agrees (call_refusal lease c.args.call.now.moment calls (clean_call c.args.call.now.moment c.args.call.now.client.now c.args.call.now.number os c.args.call.now.strong)) c.take_clean.result) (sym (c.are_exported.ensures c.if-are_exported.true))
    (c.take_clean.ensures.refusal lease moment calls s le)

pub returns-clause-ok : goal.returns-clause-ok
returns-clause-ok c =
    subst (λ (os : List ObjId). OnOk c.take_clean-2.result (ForEachLogBy c.args.call.now.moment c.args.leases.now (λ lease calls.
    StandsFor lease c.take_clean-2.new.leases c.args.call.now.moment (clean_call c.args.call.now.moment c.args.call.now.client.now c.args.call.now.number os c.args.call.now.strong ∷ calls)))) c.in_ok-live.ensures c.take_clean-2.ensures.ok

pub returns-clause-refusal : goal.returns-clause-refusal
returns-clause-refusal c lease moment calls s le =
    subst (λ (os : List ObjId). Agrees (call_refusal lease c.args.call.now.moment calls (clean_call c.args.call.now.moment c.args.call.now.client.now c.args.call.now.number os c.args.call.now.strong)) c.take_clean-2.result) c.in_ok-live.ensures
    (c.take_clean-2.ensures.refusal lease moment calls s le)
