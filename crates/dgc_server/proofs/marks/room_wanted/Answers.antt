use Rattle.std.proofs.Common.{ap, sym, ◌∙◌}
use Rattle.std.specs.Prelude.{Bool}
use Rattle.dgc_server.specs.Entry.{object_entries, room_for}
use Rattle.dgc_server.proofs.marks.room_wanted.Goals as goal

pub returns-then-left : goal.returns-then-left
returns-then-left c = c.absent_count.ensures ∙ ap (λ (b : Bool). room_for b (object_entries c.args.objects.now.entries) c.args.named.now) (sym c.if-left.true)

pub returns-else-left : goal.returns-else-left
returns-else-left c = ap (λ (b : Bool). room_for b (object_entries c.args.objects.now.entries) c.args.named.now) (sym c.if-left.false)
