use Rattle.std.proofs.Common.{◌≡◌, length, rules}
use Rattle.std.proofs.lemmas.Result.{on_ok_weaker}
use Rattle.space.proofs.TextLaws.{standing-written}
use Rattle.space.proofs.texts.put_standing.Goals as goal

pub returns : goal.returns
returns c =
    let count : c.len.result ≡ length c.space.inside.tables.events.items = search rules in
    on_ok_weaker c.put_bindings.result (λ last. standing-written c.space.inside.tables.config c.space.inside.tables.events.items c.space.inside.tables.leases c.space.inside.tables.exports c.space.inside.tables.runs.items c.space.inside.tables.withdrawn.items c.space.inside.tables.reported c.space.inside.tables.added c.space.inside.tables.units c.space.inside.tables.moment c.len.result c.space.inside.tables.names
    c.args.text.now c.put_events_line.new.out c.put_exports.new.text c.put_leases.new.text c.put_bindings.new.text c.args.space.now c.space.view_is c.space.invariant.0 c.space.invariant.2 count
    (c.in_ok-put_events_line.ensures {u = tt}).ok (c.in_ok-put_exports.ensures {u = tt}) (c.in_ok-put_leases.ensures {u = tt}) last)
    c.put_bindings.ensures
