use Rattle.std.proofs.Common.{◌≡◌, rules}
use Rattle.lease_world.proofs.Scripts.{ok_weaker, client_text}
use Rattle.lease_world.proofs.text.put_client.Goals as goal

pub returns : goal.returns
returns c = ok_weaker c.put_refs.result (λ each vmid first log stands at_first.
    let listed : c.as_slice.result.now ≡ c.refs.result.now = search rules in
    client_text c.args.client c.args.now first log c.args.text.now c.put_until.new.text c.put_refs.new.text c.until.result c.as_slice.result.now at_first
    (c.until.ensures vmid first log stands) (rw listed (c.refs.ensures vmid first log stands)) (c.in_ok-put_until.ensures {u = tt}) (each vmid first log stands)) c.put_refs.ensures
