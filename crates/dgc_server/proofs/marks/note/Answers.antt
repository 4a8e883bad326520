use Rattle.std.proofs.Common.{◌≡◌, ap, arith}
use Rattle.std.specs.Prelude.{if◌then◌else◌}
use Rattle.dgc_server.specs.Entry.{object_entries, absent_in, tenure_forgotten}
use Rattle.dgc_server.proofs.Room.{room-settled}
use Rattle.dgc_server.proofs.marks.note.Goals as goal

pub note_all-requires-clause-room : goal.note_all-requires-clause-room
note_all-requires-clause-room c =
    let es = object_entries c.args.objects.now.entries in
    let same : absent_in (object_entries c.settle.new.objects.entries) c.args.named.now ≡ absent_in (if c.args.left then es else tenure_forgotten es) c.args.named.now
    = ap (λ l. absent_in l c.args.named.now) c.settle.ensures.objects in
    let enough = room-settled c.args.left es c.args.named.now in let asked = c.requires.room in let kept = c.settle.ensures.room in omega arith
