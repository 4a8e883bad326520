use Rattle.std.proofs.Common.{◌≡◌, ap, ◌∙◌, arith}
use Rattle.dgc_server.proofs.MarkLists.{place_of, within-there, replaced-at}
use Rattle.dgc_server.proofs.few_marks.replace.Goals as goal

pub index_mut-requires : goal.index_mut-requires
index_mut-requires c =
    let place : c.place_of-place.result ≡ place_of c.args.object.now c.args.marks.now.items = c.place_of-place.ensures ∙ ap (place_of c.args.object.now) c.deref.ensures.value in
    let within = within-there c.args.object.now c.args.marks.now.items c.requires in omega arith

pub returns-clause-objects : goal.returns-clause-objects
returns-clause-objects c =
    let place : c.place_of-place.result ≡ place_of c.args.object.now c.args.marks.now.items = c.place_of-place.ensures ∙ ap (place_of c.args.object.now) c.deref.ensures.value in
    let within = within-there c.args.object.now c.args.marks.now.items c.requires in
    replaced-at c.args.object.now c.args.numbers c.args.marks.now.items c.place_of-place.result place (omega arith)
