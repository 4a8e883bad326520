use Rattle.rmi_client.proofs.Returning.{normal_heard, exception_heard, return_no_kind, return_breaks}
use Rattle.rmi_client.proofs.reply.read_behind.Goals as goal

pub returns-then-normal-clause-hears : goal.returns-then-normal-clause-hears
returns-then-normal-clause-hears g c = normal_heard _ _ c.args.want c.in-Ok.read.0 _ c.if-normal.true c.in-Ok.ensures.reads c.in-Ok.ensures.message c.read_return.new.pull.within

pub returns-else-normal-clause-hears : goal.returns-else-normal-clause-hears
returns-else-normal-clause-hears g c =
    exception_heard _ _ c.args.want c.in-Ok.read.0 c.in-Ok.read.1 c.in-Ok.read.2 c.exception_end.result c.if-normal.false c.in-Ok.ensures.reads c.in-Ok.ensures.message c.read_return.new.pull.within c.exception_end.ensures

pub returns-in-BadKind-clause-hears : goal.returns-in-BadKind-clause-hears
returns-in-BadKind-clause-hears g c = return_no_kind _ _ c.args.want _ _ (rw c.in-BadKind.is at c.in-Err.ensures.stops) c.read_return.new.pull.within

pub returns-in-Stream-clause-hears : goal.returns-in-Stream-clause-hears
returns-in-Stream-clause-hears g c = rw c.end_of.ensures (return_breaks _ _ c.args.want c.in-Stream.inside (rw c.in-Stream.is at c.in-Err.ensures.stops) c.read_return.new.pull.within)
