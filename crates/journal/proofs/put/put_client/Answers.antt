use Rattle.std.proofs.Common.{◌∷◌, [], List, ℕ, ◌++◌, ap, sym, ◌∙◌, append_assoc}
use Rattle.std.proofs.lemmas.Result.{on_err_weaker}
use Rattle.object_ids.specs.declared.ids.Uid.{Uid}
use Rattle.history.specs.Texts.{address_text, uid_text, client_text}
use Rattle.journal.proofs.Fronts.{on_err, front_first, front_last, then_more}
use Rattle.journal.proofs.put.put_client.Goals as goal

pub returns-in_err-put_address-clause-err : goal.returns-in_err-put_address-clause-err
returns-in_err-put_address-clause-err c =
    let client = c.args.client.now in
    let refused = rw c.addr.ensures.value at (c.in_err-put_address.ensures {u = tt}).err in
    on_err c.from_residual.result (front_first c.args.out.now (address_text client.addr) (64 ∷ uid_text client.uid) c.put_address.new.out (client_text client)
    (append_assoc (address_text client.addr) (64 ∷ []) (uid_text client.uid)) refused)

pub returns-clause-err : goal.returns-clause-err
returns-clause-err c =
    let client = c.args.client.now in
    let one = (c.in_ok-put_address.ensures {u = tt}).ok ∙ ap (λ (a : List ℕ). c.args.out.now ++ address_text a) c.addr.ensures.value in
    let two = then_more c.args.out.now (address_text client.addr) c.put_address.new.out (64 ∷ []) c.push.new.self one (c.in_ok-push.ensures {u = tt}).ok in
    on_err_weaker c.put_uid.result (λ refused. front_last c.args.out.now (address_text client.addr ++ 64 ∷ []) (uid_text c.uid.result) c.push.new.self c.put_uid.new.out (client_text client) two
    (ap (λ (u : Uid). (address_text client.addr ++ 64 ∷ []) ++ uid_text u) (sym c.uid.ensures)) refused) c.put_uid.ensures.err
