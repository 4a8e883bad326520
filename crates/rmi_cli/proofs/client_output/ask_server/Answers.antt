use Rattle.rmi_cli.proofs.Asking.{asks_bind, asks_list, asks_lookup, asks_unbind}
use Rattle.rmi_cli.proofs.client_output.ask_server.Goals as goal

pub returns-in-List-clause-asks : goal.returns-in-List-clause-asks
returns-in-List-clause-asks g c given = asks_list _ c.in-List.server c.place_of.result _ _ given _ c.list-names.result c.in-List.is c.place_of.ensures (c.list-names.ensures.spoke given) c.list-names.ensures.fault c.print_names.ensures.prints

pub returns-in-Lookup-clause-asks : goal.returns-in-Lookup-clause-asks
returns-in-Lookup-clause-asks g c given = asks_lookup _ c.in-Lookup.server c.in-Lookup.name c.place_of-in-Lookup.result _ _ given _ c.look_up-reference.result c.in-Lookup.is c.place_of-in-Lookup.ensures (c.look_up-reference.ensures.spoke given) c.look_up-reference.ensures.fault c.print_reference.ensures.prints

pub returns-in-Bind-clause-asks : goal.returns-in-Bind-clause-asks
returns-in-Bind-clause-asks g c given = asks_bind _ c.in-Bind.server c.in-Bind.name c.in-Bind.from c.place_of-in-Bind.result _ _ given _ c.bind-bound.result c.in-Bind.is c.place_of-in-Bind.ensures (c.bind-bound.ensures.spoke given) c.bind-bound.ensures.fault c.print_ok.ensures.prints

pub returns-in-Unbind-clause-asks : goal.returns-in-Unbind-clause-asks
returns-in-Unbind-clause-asks g c given = asks_unbind _ c.in-Unbind.server c.in-Unbind.name c.place_of-in-Unbind.result _ _ given _ c.unbind-unbound.result c.in-Unbind.is c.place_of-in-Unbind.ensures (c.unbind-unbound.ensures.spoke given) c.unbind-unbound.ensures.fault c.print_ok-in-Unbind.ensures.prints
