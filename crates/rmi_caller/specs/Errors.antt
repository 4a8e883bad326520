-- The errors that tell an author why a call has no result.
use Rattle.std.specs.Prelude.{◌≡◌, ◌⊎◌, ℕ, List}
use Rattle.dgc_client.specs.declared.plan.ClientFault.{ClientFault}
use Rattle.dgc_client.specs.declared.plan.ClientFault.TheVariants as tables
use Rattle.method_hash.specs.declared.method.MethodFault.{MethodFault}
use Rattle.method_hash.specs.declared.method.MethodFault.TheVariants as methods
use Rattle.ser_values.specs.declared.fault.BuildFault.{BuildFault}
use Rattle.ser_values.specs.declared.fault.BuildFault.TheVariants as builds
use Rattle.rmi_client.specs.declared.end.ClientEnd.{ClientEnd}
use Rattle.rmi_client.specs.declared.end.ClientEnd.TheVariants as ends
use Rattle.rmi_caller.specs.declared.error.CallError.{CallError}
use Rattle.rmi_caller.specs.declared.error.CallError.TheVariants.{BadMethod, ArgumentCount, WrongArgument, BadArguments, Lapsed, Exception, Link, NumbersSpent, OutOfMemory}
use Rattle.rmi_caller.specs.Exceptions.{class_of, message_of}

abbrev pub method_error : MethodFault → CallError
method_error (methods.BadDescriptor place) = BadMethod place
method_error methods.OutOfMemory = OutOfMemory

abbrev pub build_error : BuildFault → CallError
build_error builds.OutOfMemory = OutOfMemory
build_error builds.TooManyNodes = BadArguments
build_error builds.WrongShape = BadArguments
build_error builds.TooDeep = BadArguments

abbrev pub table_error : ClientFault → CallError
table_error tables.OutOfMemory = OutOfMemory
table_error tables.NumbersSpent = NumbersSpent
table_error tables.FullRefs = NumbersSpent

-- The error of an exception of this text: its class and its message. There may be no memory for it.
abbrev pub IsExceptionError : List ℕ → CallError → Type 0
IsExceptionError text error = (error ≡ Exception (record { class = class_of text; message = message_of text })) ⊎ (error ≡ OutOfMemory)

-- The error of the end of a session's call.
abbrev pub IsErrorOf : ClientEnd → CallError → Type 0
IsErrorOf (ends.RemoteFault text) error = IsExceptionError text error
IsErrorOf ends.OutOfMemory error = error ≡ OutOfMemory
IsErrorOf end error = error ≡ Link end

-- The error comes before anything is sent.
abbrev pub IsUnsent : CallError → Type 0
IsUnsent (BadMethod place) = Unit {0}
IsUnsent (ArgumentCount wanted) = Unit {0}
IsUnsent (WrongArgument place) = Unit {0}
IsUnsent BadArguments = Unit {0}
IsUnsent Lapsed = Unit {0}
IsUnsent _ = ⊥
