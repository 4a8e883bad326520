-- A call: what it asks for, and what it did.
use Rattle.std.specs.Prelude.{◌≡◌, ◌⊎◌, ℕ, negsuc, List, Option, Result, Ok, Err}
use Rattle.object_ids.specs.declared.ids.ObjId.{ObjId}
use Rattle.class_desc.specs.declared.field.TypeCode.{TypeCode}
use Rattle.ser_values.specs.declared.graph.Graph.{Graph}
use Rattle.method_hash.specs.MethodText.{IsMethod, IsUnread}
use Rattle.method_hash.specs.Hash.{hash_of}
use Rattle.method_hash.specs.declared.method.MethodFault.TheVariants as methods
use Rattle.jrmp_frames.specs.declared.head.CallHead.{CallHead}
use Rattle.rmi_client.specs.declared.end.ClientEnd.{ClientEnd}
use Rattle.rmi_client.specs.declared.reply.Answer.{Answer as Heard}
use Rattle.rmi_client.specs.Sessions.{LinkState, Asks, HearsReturnOf, IsCall}
use Rattle.rmi_caller.specs.declared.answer.Answer.{Answer}
use Rattle.rmi_caller.specs.declared.argument.Argument.{Argument}
use Rattle.rmi_caller.specs.declared.error.CallError.{CallError}
use Rattle.rmi_caller.specs.declared.error.CallError.TheVariants.{BadMethod, ArgumentCount, WrongArgument, BadArguments, Lapsed, OutOfMemory}
use Rattle.rmi_caller.specs.declared.prepared.Prepared.{Prepared}
use Rattle.rmi_caller.specs.Arguments.{AllFit, AreArguments, RefusesArguments}
use Rattle.rmi_caller.specs.Errors.{IsErrorOf}

-- ---- what is asked for

-- A method's text says these types of parameters and this type of result.
abbrev pub Takes : List ℕ → List TypeCode → Option TypeCode → Type 0
Takes text params result = (name : List ℕ) × IsMethod text name params result

-- The call of the method of this text with these arguments: the arguments' graph, and the type of the result.
abbrev pub IsMethodCall : List ℕ → List Argument → Graph → Option TypeCode → Type 0
IsMethodCall text arguments graph want = (params : List TypeCode) × Takes text params want × AllFit params arguments × AreArguments arguments graph

-- It is ready to be sent.
pub record IsPrepared (text : List ℕ) (arguments : List Argument) (call : Prepared) : Type 0 where
  pub is : IsMethodCall text arguments call.arguments call.result
  pub hash : call.hash ≡ hash_of text

-- The arguments do not fit the method of this text.
abbrev pub RefusesFor : List ℕ → List Argument → CallError → Type 0
RefusesFor text arguments error = (params : List TypeCode) × (want : Option TypeCode) × Takes text params want × RefusesArguments params arguments error

-- Why a call is refused before anything is sent: the text is no method's, the arguments do not fit the method, or they are no graph. There may be no memory.
abbrev pub RefusesCall : List ℕ → List Argument → CallError → Type 0
RefusesCall text arguments (BadMethod place) = IsUnread text (methods.BadDescriptor place)
RefusesCall text arguments (ArgumentCount wanted) = RefusesFor text arguments (ArgumentCount wanted)
RefusesCall text arguments (WrongArgument place) = RefusesFor text arguments (WrongArgument place)
RefusesCall text arguments BadArguments = Unit {0}
RefusesCall text arguments OutOfMemory = Unit {0}
RefusesCall text arguments _ = ⊥

-- The same of a call whose object is held no more.
abbrev pub IsRefused : {T : Type 0} → List ℕ → List Argument → Result T CallError → Type 0
IsRefused text arguments (Ok _) = ⊥
IsRefused text arguments (Err Lapsed) = Unit {0}
IsRefused text arguments (Err error) = RefusesCall text arguments error

-- ---- what was done

-- the head of a call of an object's method, by the hash of the method's text
abbrev pub call_head : ObjId → List ℕ → CallHead
call_head object text = record { id = object; operation = negsuc 0; hash = hash_of text }

-- What an author is told of what a session heard.
abbrev pub Tells : Result Heard ClientEnd → Result Answer CallError → Type 0
Tells (Ok heard) result = (answer : Answer) × (result ≡ Ok answer) × (answer.heard ≡ heard)
Tells (Err end) result = (error : CallError) × (result ≡ Err error) × IsErrorOf end error

-- The object's method was called with these arguments on an open session, and what was heard is told.
abbrev pub CallsMethod : ObjId → List ℕ → List Argument → LinkState → LinkState → Result Answer CallError → Type 0
CallsMethod object text arguments old new result =
    (graph : Graph) × (want : Option TypeCode) × (heard : Result Heard ClientEnd) × IsMethodCall text arguments graph want
    × Asks (IsCall (call_head object text) graph) (HearsReturnOf want) old new heard × Tells heard result

-- The call was refused, and nothing was sent or read; or it was made.
abbrev pub CallsOrRefuses : ObjId → List ℕ → List Argument → LinkState → LinkState → Result Answer CallError → Type 0
CallsOrRefuses object text arguments old new result = (IsRefused text arguments result × (new ≡ old)) ⊎ CallsMethod object text arguments old new result
