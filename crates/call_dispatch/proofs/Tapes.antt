-- What the outside handed in at the acts of a Call.
use Rattle.std.proofs.Common.{◌≡◌, ◌≢◌, ℕ, List, [], ◌∷◌, ◌++◌, Option, Ok, Err, refl, ap, ◌∙◌}
use Rattle.std.proofs.lemmas.Grind.{flat_map-append}
use Rattle.class_desc.specs.declared.field.TypeCode.{TypeCode}
use Rattle.object_ids.specs.declared.ids.ObjId.{ObjId}
use Rattle.object_ids.specs.declared.ids.Uid.{Uid}
use Rattle.history.specs.declared.asks.Ask.{Ask}
use Rattle.history.specs.declared.asks.Ask.TheVariants.{Begin}
use Rattle.history.specs.declared.replies.Turn.{Turn}
use Rattle.history.specs.declared.replies.Refused.{Refused}
use Rattle.history.specs.declared.replies.Refused.TheVariants as refusals
use Rattle.space.specs.declared.asked.AskedEnd.TheVariants.{Turned, Abandoned, Refused as Denied}
use Rattle.jrmp_frames.specs.declared.head.CallHead.{CallHead}
use Rattle.call_dispatch.specs.declared.outcome.Outcome.{Outcome}
use Rattle.call_dispatch.specs.Acts.{Act, tells_of, acts_of, abandon_act}
use Rattle.call_dispatch.specs.Results.{finish_with}
use Rattle.call_dispatch.specs.Served.{Conclusion, finished, denied, faulted, conclusion_acts, IsConclusion, Running, unknown, ran, running_acts, IsRunning, AtHead, absent, refused, begun, served_acts, IsServed}
use Rattle.system_objects.specs.Terms.{Terms}
use Rattle.call_dispatch.specs.Tape.{OutsideAnswer, turn_answer, worker_outcome, outside_answers, tape}

-- Telling the worker of what is gone hands nothing in.
told_tape : (gone : List ObjId) → tape (tells_of gone) ≡ []
told_tape [] = refl
told_tape (object ∷ gone) = told_tape gone

-- A turn that was answered hands in its answer, and then what the later acts do.
pub turn_tape : (moment : ℕ) (ask : Ask) (turn : Turn) (later : List Act) → tape (acts_of moment ask (Ok turn) ++ later) ≡ turn_answer moment (Turned turn) ∷ tape later
turn_tape moment ask turn later =
    ap (λ (l : List OutsideAnswer). turn_answer moment (Turned turn) ∷ l) (flat_map-append outside_answers (tells_of turn.gone) later ∙ ap (λ (l : List OutsideAnswer). l ++ tape later) (told_tape turn.gone))

pub turn_alone : (moment : ℕ) (ask : Ask) (turn : Turn) → tape (acts_of moment ask (Ok turn)) ≡ turn_answer moment (Turned turn) ∷ []
turn_alone moment ask turn = ap (λ (l : List OutsideAnswer). turn_answer moment (Turned turn) ∷ l) (told_tape turn.gone)

abbrev pub conclusion_ticks : Conclusion → List OutsideAnswer
conclusion_ticks (finished fin) = turn_answer fin.moment (Turned fin.turn) ∷ []
conclusion_ticks (denied den) = turn_answer den.moment (Denied den.refused) ∷ turn_answer den.end_moment (Abandoned den.place) ∷ []
conclusion_ticks (faulted up) = turn_answer up.moment (Abandoned up.place) ∷ []

abbrev pub running_ticks : Running → List OutsideAnswer
running_ticks (unknown up) = turn_answer up.moment (Abandoned up.place) ∷ []
running_ticks (ran inv conclusion) = worker_outcome inv.outcome ∷ conclusion_ticks conclusion

abbrev pub served_ticks : AtHead → List OutsideAnswer
served_ticks (absent gone) = turn_answer gone.moment (Turned gone.turn) ∷ []
served_ticks (refused moment) = turn_answer moment (Denied refusals.HistoryFull) ∷ []
served_ticks (begun start running) = turn_answer start.moment (Turned start.turn) ∷ running_ticks running

denied_tape : (ask : Ask) (moment : ℕ) (refusal : Refused) (object : ObjId) (end_moment place : ℕ) → refusal ≢ refusals.OutOfMemory
    → tape (acts_of moment ask (Err refusal) ++ abandon_act end_moment object place ∷ []) ≡ turn_answer moment (Denied refusal) ∷ turn_answer end_moment (Abandoned place) ∷ []
denied_tape ask moment refusals.HistoryFull object end_moment place other = refl
denied_tape ask moment (refusals.Full kind) object end_moment place other = refl
denied_tape ask moment refusals.OutOfMemory object end_moment place other = absurd (other refl)

conclusion_tape : (terms : Terms) (object : ObjId) (uid : Uid) (result_type : Option TypeCode) (outcome : Outcome) (c : Conclusion) → IsConclusion terms uid result_type outcome c → tape (conclusion_acts object uid outcome c) ≡ conclusion_ticks c
conclusion_tape terms object uid result_type outcome (finished fin) is = turn_alone fin.moment (finish_with object outcome fin.listed uid) fin.turn
conclusion_tape terms object uid result_type outcome (denied den) (fit, (same, other)) =
    denied_tape (finish_with object outcome den.listed uid) den.moment den.refused object den.end_moment den.place other
conclusion_tape terms object uid result_type outcome (faulted up) is = refl

running_tape : (terms : Terms) (head : CallHead) (kind : ℕ) (bytes : List ℕ) (uid : Uid) (r : Running) → IsRunning terms head kind bytes uid r → tape (running_acts head uid kind r) ≡ running_ticks r
running_tape terms head kind bytes uid (unknown up) is = refl
running_tape terms head kind bytes uid (ran inv conclusion) (known, (method, method_is, call, concluded)) =
    ap (λ (l : List OutsideAnswer). worker_outcome inv.outcome ∷ l) (conclusion_tape terms head.id uid method.result inv.outcome conclusion concluded)

-- What a Call's acts hand in.
pub served_tape : (terms : Terms) (head : CallHead) (bytes : List ℕ) (uid : Uid) (s : AtHead) → IsServed terms head bytes uid s → tape (served_acts head uid s) ≡ served_ticks s
served_tape terms head bytes uid (absent gone) is = turn_alone gone.moment (Begin head.id) gone.turn
served_tape terms head bytes uid (refused moment) is = refl
served_tape terms head bytes uid (begun start running) (started, is) =
    turn_tape start.moment (Begin head.id) start.turn (running_acts head uid start.kind running) ∙ ap (λ (l : List OutsideAnswer). turn_answer start.moment (Turned start.turn) ∷ l) (running_tape terms head start.kind bytes uid running is)
