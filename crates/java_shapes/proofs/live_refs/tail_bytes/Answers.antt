use Rattle.std.specs.Prelude.{FitsSigned}
use Rattle.std.specs.Int.{w32}
use Rattle.std.proofs.Common.{◌∙◌, ap, sym, rules}
use Rattle.object_ids.specs.Bytes.{objid_from_bytes}
use Rattle.java_shapes.proofs.RefNotes.{port_back}
use Rattle.java_shapes.proofs.live_refs.tail_bytes.Goals as goal

pub returns-clause-port : goal.returns-clause-port
returns-clause-port c =
    let fits : FitsSigned w32 c.args.reference.now.port = search rules in
    port_back c.args.reference.now.port fits

pub returns-clause-id : goal.returns-clause-id
returns-clause-id c = ap objid_from_bytes (sym c.objid_bytes.ensures.value) ∙ c.objid_bytes.ensures.inverse
