use Rattle.std.proofs.Common.{◌≤◌, length, sym, ◌∙◌, arith}
use Rattle.dgc_server.specs.Entry.{object_entries}
use Rattle.dgc_server.proofs.Objects.{no_object}
use Rattle.dgc_server.proofs.MarkLists.{place_of, numbers-at, none-at}
use Rattle.dgc_server.proofs.few_marks.numbers_in.Goals as goal

pub returns-then-place-marks : goal.returns-then-place-marks
returns-then-place-marks c =
    c.numbers.ensures
    ∙ numbers-at c.args.object.now c.args.marks.now c.place_of-place.result c.index-marks-place.result c.place_of-place.ensures c.if-place-marks.true

pub returns-else-place-marks : goal.returns-else-place-marks
returns-else-place-marks c =
    let behind : length c.args.marks.now ≤ place_of c.args.object.now c.args.marks.now = (let place = c.place_of-place.ensures in let test = c.if-place-marks.false in omega arith) in
    c.none.ensures ∙ sym (no_object (object_entries c.args.marks.now) c.args.object.now (none-at c.args.object.now c.args.marks.now behind))
