-- What is said of a command that the words ask for where there is no memory to read them: nothing is done, and that is told.
use Rattle.std.proofs.Common.{◌≡◌, ℕ, List, [], ◌∷◌, ◌++◌, Option, None, Result, Err, refl, sym, inl, inr, arith}
use Rattle.wire_io.specs.Links.{Accepted, Listening}
use Rattle.wire_io.specs.Pulled.{PullState, Takes}
use Rattle.wire_io.specs.Wire.{Wires, with_front-nothing}
use Rattle.space.specs.declared.asked.Asked.{Asked}
use Rattle.call_dispatch.specs.declared.end.ConnEnd.TheVariants as connections
use Rattle.conn_server.specs.declared.admission.LostLink.{LostLink}
use Rattle.conn_server.specs.declared.link_task.LinkReport.{LinkReport}
use Rattle.ser_read.specs.declared.fault.StreamFault.TheVariants as faults
use Rattle.ser_values.specs.declared.limits.TheConstants.{MESSAGE_BYTES}
use Rattle.rmi_words.specs.Command.{AskFor}
use Rattle.rmi_words.specs.declared.command.ClassOutput.{ClassOutput}
use Rattle.rmi_words.specs.declared.command.Command.{Command}
use Rattle.rmi_words.specs.declared.command.DrillText.{DrillText}
use Rattle.rmi_words.specs.declared.command.HelpTopic.{HelpTopic}
use Rattle.rmi_words.specs.declared.command.WordsFault.{WordsFault}
use Rattle.rmi_words.specs.declared.command.WordsFault.TheVariants as words
use Rattle.rmi_words.specs.declared.options.LeaseOptions.{LeaseOptions}
use Rattle.rmi_words.specs.declared.options.ServeWords.{ServeWords}
use Rattle.rmi_cli.specs.Answer.{Answers, AnswersExactly}
use Rattle.rmi_cli.specs.Drilled.{Drills, DrillsExactly}
use Rattle.rmi_cli.specs.Helped.{Helps}
use Rattle.rmi_cli.specs.Printing.{PrintsClass, PrintsExactly}
use Rattle.rmi_cli.specs.Replayed.{ReplaysInput, ReplaysExactly}
use Rattle.rmi_cli.specs.ServedLinks.{Serving}
use Rattle.rmi_cli.specs.Shown.{StopsAt, ShowsInput, ShowsExactly}
use Rattle.rmi_cli.specs.Line.{status_of_run}
use Rattle.rmi_cli.specs.Told.{Failures, Ran, Reported, TellsExactly, TellsEnd, TellsNoCommand, end_of_words}
use Rattle.rmi_cli.specs.declared.end.RunEnd.{RunEnd}
use Rattle.rmi_cli.specs.Worlds.{MakesWorld, MakesWorldExactly}
use Rattle.rmi_cli.specs.declared.end.RunEnd.TheVariants.{NotShown, OutOfMemory}
use Rattle.rmi_cli.proofs.Drilling.{drills_exactly}
use Rattle.rmi_cli.proofs.Answering.{answered}
use Rattle.rmi_cli.proofs.Serving.{memory_at_once}

-- A fault of the words is told.
pub none_told : (fault : WordsFault) (told : Reported) → TellsExactly told (end_of_words fault) → TellsNoCommand told
none_told words.Usage told tells = inl tells
none_told words.OutOfMemory told tells = inr tells

abbrev failed : WordsFault → Result Command WordsFault
failed fault = Err fault

-- Where the words ask for a command, the fault is want of memory.
pub wanted : (asked : List (List ℕ)) (fault : WordsFault) (told : Reported) → (failed fault ≡ failed words.Usage → (c : Command) → AskFor asked c → ⊥)
    → (c : Command) → AskFor asked c → TellsExactly told (end_of_words fault) → TellsExactly told OutOfMemory
wanted asked words.Usage told refused c asks tells = absurd (refused refl c asks)
wanted asked words.OutOfMemory told refused c asks tells = tells

pub answers_none : (seed : List ℕ) (options : LeaseOptions) (old : Wires) (failed : Failures) (given : Option (List ℕ)) (told : Reported) → TellsExactly told OutOfMemory
    → Answers seed options old old failed failed given given told
answers_none seed options old failed given told tells = answered seed options old old failed failed given given told connections.OutOfMemory (memory_at_once seed options old given) (λ same. cc) absurd (inl tells)

-- Want of memory alone is told, and nothing failed.
none_ran : (Holds : RunEnd → Type 0) (end : RunEnd) (failed : Failures) (told : Reported) → status_of_run end ≡ 5 → Holds end → TellsEnd told end → Ran Holds failed failed told
none_ran Holds end failed told lacks holds tells = record {
  end = end;
  holds = holds;
  read_fault = λ same. absurd (omega (arith, lacks, same));
  write_fault = λ same. absurd (omega (arith, lacks, same));
  tells = tells;
}

pub answers_none_exactly : (seed : List ℕ) (options : LeaseOptions) (old : Wires) (told : Reported) → TellsExactly told OutOfMemory → AnswersExactly seed options old old told
unfolding AnswersExactly
answers_none_exactly seed options old told tells other rest end is dialogue quiet settled = inr (inr (inr tells.0))

pub serves_none : {I O T H : Type 0} (IsLink : ℕ → Accepted × Asked → LinkReport I O T H → Type 0) (IsLost : Accepted → LostLink I O T → Type 0) (seed : List ℕ) (serve : ServeWords) (log : Listening) (old : Wires) (faults : ℕ) (told : Reported)
    → TellsExactly told OutOfMemory → Serving {I = I} {O = O} {T = T} {H = H} IsLink IsLost seed serve None log log old old faults faults told
serves_none IsLink IsLost seed serve log old faults told tells = record { alone = (inl refl, refl); links = tt; end = OutOfMemory; ends = (inr refl, refl); tells = inl tells; unread = refl }

pub replays_none : (old : Wires) (failed : Failures) (told : Reported) → TellsExactly told OutOfMemory → ReplaysInput old old failed failed told
replays_none old failed told tells = none_ran _ OutOfMemory failed told refl ([], omega arith, sym (with_front-nothing old.left), refl) (inl tells)

pub replays_none_exactly : (old : Wires) (told : Reported) → TellsExactly told OutOfMemory → ReplaysExactly old old told
replays_none_exactly old told tells = record {
  within = λ input answer left short replays known. inr (inr (inr tells.0));
  past = λ input left long. inr (inr (inr tells.0));
}

no_front : (front : List ℕ) (next : ℕ) (others : List ℕ) → [] ≡ front ++ next ∷ others → ⊥
no_front [] next others e = cc
no_front (x ∷ front) next others e = cc

abbrev unread : Option (List ℕ) → PullState
unread left = record { left = left; faults = 0; shut = None; at = 0; stop = MESSAGE_BYTES }

nothing_taken : (left : Option (List ℕ)) → Takes (unread left) (unread left) []
nothing_taken left = record { left = sym (with_front-nothing left); at = refl; stop = refl; faults = omega arith; shut = refl }

stops_at_once : (left : Option (List ℕ)) → StopsAt left left faults.OutOfMemory
stops_at_once left = record {
  start = unread left;
  stop = unread left;
  before = refl;
  after = refl;
  first = refl;
  limit = refl;
  is = record { is = record { is = record { taken = []; takes = nothing_taken left; least = λ front next others e. absurd (no_front front next others e) } } };
}

pub shows_none : (old : Wires) (failed : Failures) (told : Reported) → TellsExactly told OutOfMemory → ShowsInput old old failed failed told
shows_none old failed told tells =
    none_ran _ (NotShown faults.OutOfMemory) failed told refl (record { within = λ input left short. tt; past = λ input left long. tt }, stops_at_once old.left, refl) (inl tells)

pub shows_none_exactly : (old : Wires) (told : Reported) → TellsExactly told OutOfMemory → ShowsExactly old old told
shows_none_exactly old told tells = record {
  stream = λ nodes items input left short is. inr (inr (inr tells.0));
  within = λ input fault left short stops. inr (inr (inr tells.0));
  past = λ input fault left long stops. inr (inr (inr tells.0));
}

pub drills_none : (text : DrillText) (seed rounds : ℕ) (old : Wires) (failed : Failures) (told : Reported) → TellsExactly told OutOfMemory → Drills text seed rounds old old failed failed told
drills_none text seed rounds old failed told tells = record { ran = none_ran _ OutOfMemory failed told refl refl (inl tells); unread = refl }

pub drills_none_exactly : (text : DrillText) (seed rounds : ℕ) (old : Wires) (told : Reported) → TellsExactly told OutOfMemory → DrillsExactly text seed rounds old old told
drills_none_exactly text seed rounds old told tells = drills_exactly text seed rounds old old told OutOfMemory refl (inl tells)

pub worlds_none : (old : Wires) (failed : Failures) (told : Reported) → TellsExactly told OutOfMemory → MakesWorld old old failed failed told
worlds_none old failed told tells = none_ran _ OutOfMemory failed told refl ([], omega arith, sym (with_front-nothing old.left), refl) (inl tells)

pub worlds_none_exactly : (old : Wires) (told : Reported) → TellsExactly told OutOfMemory → MakesWorldExactly old old told
worlds_none_exactly old told tells = record {
  within = λ script answer left short runs known. inr (inr (inr tells.0));
  past = λ script left long. inr (inr (inr tells.0));
}

pub prints_none : (output : ClassOutput) (old : Wires) (faults : ℕ) (told : Reported) → TellsExactly told OutOfMemory → PrintsClass output old old faults faults told
prints_none output old faults told tells = (OutOfMemory, ([], omega arith, sym (with_front-nothing old.left), refl), inl tells)

pub prints_none_exactly : (output : ClassOutput) (old : Wires) (told : Reported) → TellsExactly told OutOfMemory → PrintsExactly output old old told
prints_none_exactly output old told tells = record {
  printed = λ input bytes left short prints. inr (inr (inr tells.0));
  bad = λ input line left short wrong. inr (inr (inr tells.0));
  many = λ input left short has. inr (inr (inr tells.0));
  past = λ input left long. inr (inr (inr tells.0));
}

pub helps_none : (topic : HelpTopic) (old : Wires) (faults : ℕ) (told : Reported) → TellsExactly told OutOfMemory → Helps topic old old faults faults told
helps_none topic old faults told tells = record { end = OutOfMemory; printed = inr (inr (refl, refl, refl)); tells = inl tells; unread = refl }
