-- The texts of the exceptions that clients get.
use Rattle.std.specs.Prelude.{◌≡◌, ◌⊎◌, ℕ, codes, List, ◌++◌, Option, Some, None}
use Rattle.std.specs.Fmt.{decimal}
use Rattle.call_dispatch.specs.declared.outcome.Outcome.{Outcome}
use Rattle.call_dispatch.specs.declared.outcome.Outcome.TheVariants as outcomes
use Rattle.rmi_server.specs.declared.fault.Wanted.{Wanted}
use Rattle.rmi_server.specs.declared.fault.Wanted.TheVariants.{Boolean, Byte, Char, Short, Int, Long, Text, Reference, Object}
use Rattle.rmi_server.specs.declared.fault.CallFault.{CallFault}
use Rattle.rmi_server.specs.declared.fault.CallFault.TheVariants.{WrongArgument, UnknownMethod, Exception, OutOfMemory}

-- the Java name of a type
abbrev pub wanted_word : Wanted → List ℕ
wanted_word Boolean = codes "boolean"
wanted_word Byte = codes "byte"
wanted_word Char = codes "char"
wanted_word Short = codes "short"
wanted_word Int = codes "int"
wanted_word Long = codes "long"
wanted_word Text = codes "String"
wanted_word Reference = codes "remote reference"
wanted_word Object = codes "object"

-- the words that say which argument is of another type than this
abbrev pub wrong_words : ℕ → Wanted → List ℕ
wrong_words place wanted = codes "argument " ++ decimal place ++ codes " is no " ++ wanted_word wanted

-- the text of the exception that says so
abbrev pub wrong_argument : ℕ → Wanted → List ℕ
wrong_argument place wanted = codes "java.rmi.UnmarshalException: " ++ wrong_words place wanted

-- The text of a fault, where it is one that the client gets.
abbrev pub fault_text : CallFault → Option (List ℕ)
fault_text (WrongArgument place wanted) = Some (wrong_argument place wanted)
fault_text UnknownMethod = Some (codes "java.rmi.UnmarshalException: no such method")
fault_text (Exception text) = Some text
fault_text OutOfMemory = None

-- The outcome with this text, where there is one.
abbrev pub GivesText : Option (List ℕ) → Outcome → Type 0
GivesText (Some text) outcome = outcome ≡ outcomes.Fault text
GivesText None outcome = ⊥

-- The outcome of a call with a fault: an exception with the fault's text. There may be no memory for it.
abbrev pub FaultGives : CallFault → Outcome → Type 0
FaultGives fault outcome = GivesText (fault_text fault) outcome ⊎ (outcome ≡ outcomes.OutOfMemory)
