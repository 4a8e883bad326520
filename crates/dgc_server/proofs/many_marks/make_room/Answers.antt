use Rattle.std.proofs.Common.{◌≡◌, ◌+◌, ◌≤◌, length, ap, arith}
use Rattle.std.specs.Prelude.{min}
use Rattle.indexmap.specs.IndexMap.{spare}
use Rattle.dgc_server.proofs.many_marks.make_room.Goals as goal

pub returns-clause-room : goal.returns-clause-room
returns-clause-room c =
    let before = c.args.marks.now.entries in
    let grown = c.reserve.new.self in
    let after = c.shrink_to.new.self in
    let long : c.len-long.result ≡ length before = c.len-long.ensures.len in
    let ok : c.args.more ≤ spare grown = c.in_ok-reserve.ensures.ok in
    let kept : length grown.entries ≡ length before = ap length c.in_ok-reserve.ensures.entries in
    let same : length after.entries ≡ length grown.entries = ap length c.shrink_to.ensures.entries in
    let room : c.capacity-room.result ≡ length grown.entries + spare grown = c.capacity-room.ensures in
    let few = c.min-few.ensures in
    let low : min (c.len-long.result + c.args.more + c.min-few.result) (length grown.entries + spare grown) ≤ length after.entries + spare after = c.shrink_to.ensures.lower_bound in
    omega arith
