-- What is said where a command calls an object.
use Rattle.std.proofs.Common.{◌≡◌, ◌≤◌, ℕ, suc, List, [], ◌∷◌, length, drop, Option, refl, sym, ap, subst, ◌∙◌, arith, inl, inr}
use Rattle.std.proofs.Math.Bridge.{le_prop}
use Rattle.std.proofs.Math.Logic.{∥∥₁_elim}
use Rattle.class_desc.specs.declared.field.TypeCode.{TypeCode}
use Rattle.method_hash.specs.declared.method.Method.{Method}
use Rattle.client_talk.specs.Calling.{call_script}
use Rattle.client_talk.specs.declared.request.Request.{Request}
use Rattle.rmi_words.specs.CallWords.{AreArguments, IsCall}
use Rattle.rmi_words.specs.declared.call_words.Argument.{Argument}
use Rattle.rmi_words.specs.declared.call_words.CallWords.{CallWords}
use Rattle.rmi_words.specs.declared.client.ClientCommand.{ClientCommand}
use Rattle.rmi_words.specs.declared.command.Command.{Command}
use Rattle.rmi_words.specs.declared.command.Command.TheVariants.{Answer, Serve, Host, Client, Call, Replay, Show, Drill, World, Class, Help}
use Rattle.rmi_cli.specs.Called.{AsksAServer, Calls, CallsObject, IsRequestOf, LacksRequest, answer_text}
use Rattle.rmi_cli.specs.Line.{status_of_run}
use Rattle.rmi_cli.specs.Talked.{Asks, Side}
use Rattle.rmi_cli.specs.Told.{Reported, TellsExactly}
use Rattle.rmi_cli.specs.declared.end.RunEnd.{RunEnd}
use Rattle.rmi_cli.specs.declared.end.RunEnd.TheVariants.{OutOfMemory}
use Rattle.rmi_cli.proofs.Asking.{Causes, causes_of}

-- ---- the arguments are few

as_many : (params : List TypeCode) (arguments : List Argument) (words : List (List ℕ)) → AreArguments params arguments words → length arguments ≡ length params
as_many [] [] [] are = refl
as_many [] [] (word ∷ words) are = absurd are
as_many [] (argument ∷ arguments) words are = absurd are
as_many (code ∷ params) [] words are = absurd are
as_many (code ∷ params) (argument ∷ arguments) [] are = absurd are
as_many (code ∷ params) (argument ∷ arguments) (word ∷ words) are = ap suc (as_many params arguments words are.1)

few_params : (method : Method) → length method.params ≤ 255
few_params method = ∥∥₁_elim method.spelled le_prop (λ spelled. spelled.few)

-- A call has at most 255 arguments, since its method has no more parameters.
pub few_arguments : (call : CallWords) (words : List (List ℕ)) → IsCall call words → length call.arguments ≤ 255
few_arguments call words is = omega (arith, as_many call.method.params call.arguments (drop 4 is.rest) is.arguments_are, few_params call.method)

-- ---- one call

same_call : (a b : CallWords) → Call a ≡ Call b → a ≡ b
same_call a b same = cc

-- The call that is named twice was made, and that is told.
pub calls_named : (command : Command) (a b : CallWords) (seed : List ℕ) (old new : Side) (given given2 : Option (List ℕ)) (told : Reported)
    → command ≡ Call a → command ≡ Call b → CallsObject seed a old new given given2 told → CallsObject seed b old new given given2 told
calls_named command a b seed old new given given2 told is is2 = subst (λ (c : CallWords). CallsObject seed c old new given given2 told) (same_call a b (sym is ∙ is2))

-- A request was asked to an end.
pub asked : (seed : List ℕ) (call : CallWords) (request : Request) (old new : Side) (given given2 : Option (List ℕ)) (end : RunEnd)
    → IsRequestOf seed call request → Asks (call_script request) answer_text old new given given2 end → Calls seed call old new given given2 end
asked seed call request old new given given2 end is asks = inl (request, is, asks)

-- Nothing was done for want of memory.
pub lacks : (seed : List ℕ) (call : CallWords) (old : Side) (given : Option (List ℕ)) → Calls seed call old old given given OutOfMemory
lacks seed call old given = inr (record { same = refl; unread = refl; ends = refl })

-- Nothing was done where there was no memory to read the words.
pub calls_none : (seed : List ℕ) (call : CallWords) (old : Side) (given : Option (List ℕ)) (told : Reported) → TellsExactly told OutOfMemory → CallsObject seed call old old given given told
calls_none seed call old given told tells = (OutOfMemory, lacks seed call old given, inl tells)

-- ---- causes

lacks_causes : (old new : Side) (given given2 : Option (List ℕ)) (end : RunEnd) → LacksRequest old new given given2 end → Causes old new end
lacks_causes old new given given2 end none =
    let is : status_of_run end ≡ 5 = ap status_of_run none.ends in
    record { known = λ e. omega (arith, is, e); link = λ e. absurd (omega (arith, is, e)); sink = λ e. absurd (omega (arith, is, e)) }

-- The causes of the end of a call.
pub calls_causes : (seed : List ℕ) (call : CallWords) (old new : Side) (given given2 : Option (List ℕ)) (end : RunEnd) → Calls seed call old new given given2 end → Causes old new end
calls_causes seed call old new given given2 end (inl asks) = causes_of (call_script asks.0) answer_text old new given given2 end asks.2
calls_causes seed call old new given given2 end (inr none) = lacks_causes old new given given2 end none

-- ---- a command that asks a server

pub by_server : {P : Type 0} (command : Command) → AsksAServer command → ((asked : ClientCommand) → command ≡ Client asked → P) → ((call : CallWords) → command ≡ Call call → P) → P
by_server (Client asked) server one two = one asked refl
by_server (Call call) server one two = two call refl
by_server (Answer options) server one two = absurd server
by_server (Serve serve) server one two = absurd server
by_server (Host host) server one two = absurd server
by_server Replay server one two = absurd server
by_server Show server one two = absurd server
by_server (Drill text seed rounds) server one two = absurd server
by_server World server one two = absurd server
by_server (Class output) server one two = absurd server
by_server (Help topic) server one two = absurd server
