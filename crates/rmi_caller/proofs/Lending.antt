-- Calls and lease calls that a session made, as a remote tells of them.
use Rattle.std.proofs.Common.{◌≡◌, ℕ, Bool, true, false, List, Option, Result, Err, subst}
use Rattle.std.specs.Prelude.{ℤ, negsuc}
use Rattle.object_ids.specs.Client.{Client}
use Rattle.object_ids.specs.declared.ids.ObjId.{ObjId}
use Rattle.class_desc.specs.declared.field.TypeCode.{TypeCode}
use Rattle.ser_values.specs.declared.graph.Graph.{Graph}
use Rattle.method_hash.specs.Hash.{hash_of}
use Rattle.jrmp_frames.specs.declared.head.CallHead.{CallHead}
use Rattle.dgc_client.specs.declared.plan.Plan.{Plan}
use Rattle.dgc_client.specs.Log.{ClientCall}
use Rattle.dgc_client.specs.StandsForLog.{Parts}
use Rattle.rmi_client.specs.declared.end.ClientEnd.{ClientEnd}
use Rattle.rmi_client.specs.declared.end.ClientEnd.TheVariants as ends
use Rattle.rmi_client.specs.declared.reply.Answer.{Answer as Heard}
use Rattle.rmi_client.specs.Leases.{IsPlanCall, grant_in, want_of_plan}
use Rattle.rmi_client.specs.Requests.{HearsSeen}
use Rattle.rmi_client.specs.Sessions.{LinkState, Asks, HearsReturnOf, IsCall}
use Rattle.rmi_caller.specs.declared.answer.Answer.{Answer}
use Rattle.rmi_caller.specs.declared.argument.Argument.{Argument}
use Rattle.rmi_caller.specs.declared.error.CallError.{CallError}
use Rattle.rmi_caller.specs.declared.remote.TheConstants.{ASKED_MS}
use Rattle.rmi_caller.specs.Calls.{CallsMethod, IsMethodCall, Tells}
use Rattle.rmi_caller.specs.Leasing.{LeasesPlan, SendsPlan}

-- A call by a head that has the hash of the method's text.
pub called_by : (object : ObjId) (text : List ℕ) (arguments : List Argument) (head : CallHead) (hash : ℤ) (graph : Graph) (want : Option TypeCode) (old new : LinkState) (heard : Result Heard ClientEnd) (result : Result Answer CallError)
    → head ≡ record { id = object; operation = negsuc 0; hash = hash } → hash ≡ hash_of text → IsMethodCall text arguments graph want
    → Asks (IsCall head graph) (HearsReturnOf want) old new heard → Tells heard result → CallsMethod object text arguments old new result
called_by object text arguments head hash graph want old new heard result is same call asks tells =
    let told = subst (λ (x : CallHead). Asks (IsCall x graph) (HearsReturnOf want) old new heard) is asks in
    (graph, want, heard, call, subst (λ (n : ℤ). Asks (IsCall (record { id = object; operation = negsuc 0; hash = n }) graph) (HearsReturnOf want) old new heard) same told, tells)

-- A plan's call was sent for the client that the table is of.
pub sent_by : (own client : Client) (plan : Plan) (over : Bool) (old new : LinkState) (heard : Result ℕ ClientEnd) → own ≡ client → (over ≡ true → (heard ≡ Err ends.Over) × (new ≡ old))
    → (over ≡ false → Asks (IsPlanCall own plan ASKED_MS) (HearsSeen (grant_in plan) (want_of_plan plan)) old new heard) → SendsPlan client plan over old new heard
sent_by own client plan over old new heard is is_over is_open = record {
  over = is_over;
  asks = λ still. subst (λ (x : Client). Asks (IsPlanCall x plan ASKED_MS) (HearsSeen (grant_in plan) (want_of_plan plan)) old new heard) is (is_open still);
}

-- What is planned is this.
pub planned_as : (client : Client) (first : ℤ) (log : List ClientCall) (p q : Option Plan) (table : Parts) (over : Bool) (old new : LinkState) (result : Result (Unit {0}) CallError) → p ≡ q
    → LeasesPlan client first log p table over old new result → LeasesPlan client first log q table over old new result
planned_as client first log p q table over old new result is leases = subst (λ (x : Option Plan). LeasesPlan client first log x table over old new result) is leases
