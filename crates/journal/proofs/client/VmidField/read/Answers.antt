use Rattle.std.proofs.lemmas.Result.{err_from_is_err_and}
use Rattle.journal.specs.declared.unread.Unread.TheVariants.{NotSpelled}
use Rattle.journal.proofs.Refusing.{some_is_ok}
use Rattle.journal.proofs.Clients.{client_to_parts, client_from_parts}
use Rattle.journal.proofs.client.VmidField.read.Goals as goal

pub returns-in_err-addr : goal.returns-in_err-addr
returns-in_err-addr c = let p = err_from_is_err_and c.from_residual.result c.from_residual.ensures.1 in
    rw (p.1, p.2) (λ is client spells. c.in_err-addr.ensures {u = tt} is (record { 0 = client.addr }, client.uid)
    (rw c.new.ensures (client_to_parts client c.args.word.now spells)))

pub returns : goal.returns
returns c =
    let spelled = client_from_parts (record { addr = c.in_ok-addr.addr.0; uid = c.in_ok-addr.uid }) c.args.word.now (rw c.new.ensures at (c.in_ok-addr.ensures {u = tt})) in
    let made = some_is_ok c.new-2.result NotSpelled (record { addr = c.in_ok-addr.addr.0; uid = c.in_ok-addr.uid }) c.new-2.ensures.value (c.new-2.ensures.short.1 spelled.0.addr.short) in
    rw (c.ok_or.ensures.value, made) spelled
