use Rattle.std.proofs.Common.{sym, ◌∙◌}
use Rattle.dgc_client.proofs.RefEntries.{find-shown, find-none}
use Rattle.dgc_client.proofs.ref_map.find.Goals as goal

pub returns-in-Some : goal.returns-in-Some
returns-in-Some c = c.shown.ensures ∙ sym (find-shown c.args.object.now c.in-Some.kept.now c.args.refs.now.entries c.len-count.ensures.unique (sym c.in-Some.ensures.value))

pub returns-in-None : goal.returns-in-None
returns-in-None c = sym (find-none c.args.object.now c.args.refs.now.entries (sym c.in-None.ensures.value))
