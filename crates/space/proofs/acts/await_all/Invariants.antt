use Rattle.std.proofs.Common.{◌≡◌, ◌+◌, ◌≤◌, drop, length}
use Rattle.history.specs.declared.limits.TheConstants.{MAX_AWAITING}
use Rattle.space.specs.Acts.{awaiting_with}
use Rattle.export_table.specs.StandsForHistory.{waits_once, reference_of}
use Rattle.space.proofs.acts.await_all.Given as goal
use Rattle.export_table.specs.Waits.{with_each_listed}

abbrev pub invariant-loop-object : goal.invariant-loop-object
invariant-loop-object l =
    record {
      value : l.exports ≡ record l.initial.exports { waits = l.exports.waits; room = l.exports.room };
      waits : with_each_listed l.initial.exports.ack l.now l.uid (drop l.object-index l.objects) l.exports.waits ≡ with_each_listed l.initial.exports.ack l.now l.uid l.objects l.initial.exports.waits;
      once : waits_once reference_of l.exports.waits;
      few : awaiting_with l.now l.uid (drop l.object-index l.objects) l.exports.waits ≤ MAX_AWAITING;
      room : length l.objects ≤ l.exports.room.waits + l.object-index;
    }
