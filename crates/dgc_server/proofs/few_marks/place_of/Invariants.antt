use Rattle.std.proofs.Common.{◌≡◌, ◌+◌, ◌-◌, ◌≤◌, length, drop}
use Rattle.dgc_server.proofs.MarkLists.{place_of}
use Rattle.dgc_server.proofs.few_marks.place_of.Given as goal

abbrev pub decreases-loop-place : goal.decreases-loop-place
decreases-loop-place l = length l.marks - l.place

abbrev pub invariant-loop-place : goal.invariant-loop-place
invariant-loop-place l =
    record {
      found : place_of l.object l.marks ≡ l.place + place_of l.object (drop l.place l.marks);
      within : l.place ≤ length l.marks;
    }
