use Rattle.rmi_client.proofs.requests.put_reference.Goals as goal

pub returns-clause-put : goal.returns-clause-put
returns-clause-put c = rw (c.in_ok-interface.ensures.value, c.in_ok-sent.ensures) at c.put_live_ref.ensures.ok
