use Rattle.std.proofs.Common.{◌≡◌, ◌++◌, rules}
use Rattle.ser_write.specs.Canonical.{write_at, front_bytes}
use Rattle.ser_write.proofs.Writes.{front_adds}
use Rattle.ser_write.proofs.writing.put_joined.Goals as goal

pub returns : goal.returns
returns c =
    let joins : c.as_slice.result.now ≡ c.args.front.now ++ front_bytes c.args.items.now = search rules in
    front_adds (write_at 200 c.args.nodes.now) 0 c.args.front.now c.as_slice.result.now c.args.items.now c.args.out.now c.put_blocks.new.out c.put_items.new.out c.put_items.result joins c.in_ok-put_blocks.ensures.written
    (rw c.split_front.ensures.rest at c.put_items.ensures)
