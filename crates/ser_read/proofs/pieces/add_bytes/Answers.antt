use Rattle.std.proofs.Common.{◌≢◌, []}
use Rattle.ser_read.proofs.Joins.{joins, follows}
use Rattle.ser_read.proofs.pieces.add_bytes.Goals as goal

pub returns-in_ok-push-in-Bytes : goal.returns-in_ok-push-in-Bytes
returns-in_ok-push-in-Bytes c =
    let some : c.args.bytes ≢ [] = λ e. let h = rw c.if-is_empty.false at (c.is_empty.ensures.1 e) in cc in
    rw (c.in_ok-push-in-Bytes.ensures.items, c.in_ok-append-in-Bytes.ensures.ok, c.as_slice.ensures) (joins c.args.items.now.items c.pop.new.self.items c.in-Bytes.joined c.args.bytes some (rw c.in-Bytes.is at c.in-Some.ensures.items))

pub returns-in_ok-push-in-Ref-2 : goal.returns-in_ok-push-in-Ref-2
returns-in_ok-push-in-Ref-2 c =
    let some : c.args.bytes ≢ [] = λ e. let h = rw c.if-is_empty.false at (c.is_empty.ensures.1 e) in cc in
    rw (c.in_ok-push-in-Ref-2.ensures.items, c.make_room-in-Ref.ensures, c.in_ok-push-in-Ref.ensures.items) (follows c.args.items.now.items c.pop.new.self.items c.in-Ref.slot c.args.bytes some (rw c.in-Ref.is at c.in-Some.ensures.items))
