-- The bytes of exceptional Returns.
use Rattle.std.proofs.Common.{◌≡◌, ℕ, List, Result, Ok, Err}
use Rattle.std.specs.Prelude.{IfOk, false}
use Rattle.object_ids.specs.declared.ids.Uid.{Uid}
use Rattle.ser_values.specs.declared.graph.Graph.{Graph}
use Rattle.java_shapes.specs.Fault.{fault_nodes, fault_items}
use Rattle.jrmp_frames.specs.declared.message.Body.TheVariants as bodies
use Rattle.jrmp_frames.specs.Messages.{return_message}
use Rattle.system_objects.specs.ReturnBytes.{fault_return}

pub fault_written : {E : Type 0} (uid : Uid) (message : List ℕ) (graph : Graph) (result : Result (List ℕ) E) → graph.nodes ≡ fault_nodes message → graph.items ≡ fault_items
    → IfOk result (λ bytes. bytes ≡ return_message false uid (bodies.Tree graph)) → IfOk result (λ bytes. bytes ≡ fault_return uid message)
unfolding fault_return
fault_written uid message graph (Ok bytes) nodes items is = rw (nodes, items) at is
fault_written uid message graph (Err e) nodes items is = tt
