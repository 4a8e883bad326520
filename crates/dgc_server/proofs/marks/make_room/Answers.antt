use Rattle.std.proofs.Common.{ℕ, ◌≤◌, ap, sym, subst, ◌∙◌, arith}
use Rattle.std.specs.Prelude.{List, OnOk}
use Rattle.object_ids.specs.declared.ids.ObjId.{ObjId}
use Rattle.dgc_server.specs.declared.numbers.Numbers.{Numbers}
use Rattle.dgc_server.specs.Entry.{object_entries, room_for}
use Rattle.dgc_server.proofs.Room.{room-within}
use Rattle.dgc_server.proofs.marks.make_room.Goals as goal

pub returns-then-named-room-clause-room : goal.returns-then-named-room-clause-room
returns-then-named-room-clause-room c =
    let few = room-within c.args.left (object_entries c.args.objects.now.entries) c.args.named.now in let room = c.room.ensures in let test = c.if-named-room.true in omega arith

pub returns-clause-room : goal.returns-clause-room
returns-clause-room c =
    let P : ℕ → Type 0 = λ n. OnOk c.make_room.result (n ≤ c.make_room.new.self.room) in
    subst P (c.room_wanted-more.ensures ∙ ap (λ (ps : List (ObjId × Numbers)). room_for c.args.left (object_entries ps) c.args.named.now) (sym c.make_room.ensures.entries))
    c.make_room.ensures.room

pub returns-clause-fits : goal.returns-clause-fits
returns-clause-fits c = λ enough. c.make_room.ensures.fits (let more = c.room_wanted-more.ensures in omega arith)

pub returns-clause-same : goal.returns-clause-same
returns-clause-same c = λ enough. c.make_room.ensures.same (let more = c.room_wanted-more.ensures in omega arith)
