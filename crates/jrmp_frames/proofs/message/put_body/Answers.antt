use Rattle.jrmp_frames.proofs.Written.{void_written, prim_written, void_full, prim_full, on_ok}
use Rattle.jrmp_frames.proofs.message.put_body.Goals as goal

pub returns-in-Void-clause-written : goal.returns-in-Void-clause-written
returns-in-Void-clause-written c = rw (c.in-Void.is, void_written c.args.front.now c.requires) c.write_blocks_onto.ensures.written

pub returns-in-Void-clause-spelled : goal.returns-in-Void-clause-spelled
returns-in-Void-clause-spelled c = rw c.in-Void.is (on_ok c.write_blocks_onto.result (void_full c.args.front.now c.requires))

pub returns-in-Prim-clause-written : goal.returns-in-Prim-clause-written
returns-in-Prim-clause-written c = rw (c.in-Prim.is, prim_written c.args.front.now _ c.requires) c.put_value.ensures

pub returns-in-Prim-clause-spelled : goal.returns-in-Prim-clause-spelled
returns-in-Prim-clause-spelled c = rw c.in-Prim.is (on_ok c.put_value.result (prim_full c.args.front.now _ c.requires))
