use Rattle.rmi_cli.proofs.Sinking.{goes_failed}
use Rattle.rmi_cli.proofs.sink_state.write_text.Goals as goal

pub returns-in-Err : goal.returns-in-Err
returns-in-Err g c pieces is = rw c.in-Whole.is (
    goes_failed (g.K.Sink.half c.args.sink.now) (g.K.Sink.half c.put_all.new.sink) c.args.text.now pieces c.in-Err.field-0.sent is c.in-Err.ensures.sent.0 c.in-Err.ensures.sent.1 c.in-Err.ensures.fault
    c.put_all.ensures.faults c.put_all.ensures.shut
    )
