use Rattle.system_objects.specs.Terms.{terms_of}
use Rattle.call_dispatch.proofs.returns.prepare.Goals as goal

pub returns-in-Void-clause-prepares : goal.returns-in-Void-clause-prepares
returns-in-Void-clause-prepares c = rw c.in-Void.is (c.prepare_void.ensures.prepares (terms_of c.args.book.now c.args.setup.now))

pub returns-in-Prim-clause-prepares : goal.returns-in-Prim-clause-prepares
returns-in-Prim-clause-prepares c = rw c.in-Prim.is (c.prepare_value.ensures.prepares (terms_of c.args.book.now c.args.setup.now))

pub returns-in-Tree-clause-prepares : goal.returns-in-Tree-clause-prepares
returns-in-Tree-clause-prepares c = rw c.in-Tree.is (c.prepare_tree.ensures.prepares c.args.book.now)

pub returns-in-NewRemote-clause-prepares : goal.returns-in-NewRemote-clause-prepares
returns-in-NewRemote-clause-prepares c = rw c.in-NewRemote.is (c.prepare_new.ensures.prepares c.args.setup.now)

pub returns-in-Fault-clause-prepares : goal.returns-in-Fault-clause-prepares
returns-in-Fault-clause-prepares c = rw c.in-Fault.is (c.prepare_fault.ensures.prepares (terms_of c.args.book.now c.args.setup.now) c.args.result_type)
