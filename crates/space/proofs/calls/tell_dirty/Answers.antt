use Rattle.std.proofs.Common.{◌∷◌, List, sym, subst}
use Rattle.std.specs.Prelude.{OnOk}
use Rattle.object_ids.specs.declared.ids.ObjId.{ObjId}
use Rattle.dgc_server.specs.Counts.{dirty_call}
use Rattle.dgc_server.specs.StandsForCalls.{StandsFor}
use Rattle.space.specs.Acts.{Agrees, ForEachLogBy, call_refusal}
use Rattle.space.proofs.calls.tell_dirty.Goals as goal

pub returns-then-are_exported-clause-ok : goal.returns-then-are_exported-clause-ok
returns-then-are_exported-clause-ok c =
    subst (λ (os : List ObjId). OnOk c.take_dirty.result (ForEachLogBy c.args.call.now.moment c.args.leases.now (λ lease calls.
    StandsFor lease c.take_dirty.new.leases c.args.call.now.moment (dirty_call c.args.call.now.moment c.args.call.now.client.now c.args.call.now.number c.args.call.now.asked os ∷ calls)))) (sym (c.are_exported.ensures c.if-are_exported.true)) c.take_dirty.ensures.ok

pub returns-then-are_exported-clause-refusal : goal.returns-then-are_exported-clause-refusal
returns-then-are_exported-clause-refusal c lease moment calls s le =
    subst (λ (os : List ObjId). Agrees (call_refusal lease c.args.call.now.moment calls (dirty_call c.args.call.now.moment c.args.call.now.client.now c.args.call.now.number c.args.call.now.asked os)) c.take_dirty.result) (sym (c.are_exported.ensures c.if-are_exported.true))
    (c.take_dirty.ensures.refusal lease moment calls s le)

pub returns-clause-ok : goal.returns-clause-ok
returns-clause-ok c =
    subst (λ (os : List ObjId). OnOk c.take_dirty-2.result (ForEachLogBy c.args.call.now.moment c.args.leases.now (λ lease calls.
    StandsFor lease c.take_dirty-2.new.leases c.args.call.now.moment (dirty_call c.args.call.now.moment c.args.call.now.client.now c.args.call.now.number c.args.call.now.asked os ∷ calls)))) c.in_ok-live.ensures c.take_dirty-2.ensures.ok

pub returns-clause-refusal : goal.returns-clause-refusal
returns-clause-refusal c lease moment calls s le =
    subst (λ (os : List ObjId). Agrees (call_refusal lease c.args.call.now.moment calls (dirty_call c.args.call.now.moment c.args.call.now.client.now c.args.call.now.number c.args.call.now.asked os)) c.take_dirty-2.result) c.in_ok-live.ensures
    (c.take_dirty-2.ensures.refusal lease moment calls s le)
