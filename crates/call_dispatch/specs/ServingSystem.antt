-- How far a call of the registry or the collector has come, for the functions that serve it step by step.
use Rattle.std.specs.Prelude.{◌≡◌, ℕ, ◌+◌, ◌≤◌, ◌⊎◌, true, false, List, [], ◌∷◌, None, Some, Result, Ok, Err, OnOk}
use Rattle.history.specs.declared.asks.Ask.{Ask}
use Rattle.history.specs.declared.replies.Turn.{Turn}
use Rattle.history.specs.declared.replies.Refused.{Refused}
use Rattle.object_ids.specs.declared.ids.Uid.{Uid}
use Rattle.wire_io.specs.Pulled.{PullState, Takes}
use Rattle.ser_read.specs.Wants.{Stand, serve_to_close}
use Rattle.jrmp_frames.specs.declared.arguments.Arguments.{Arguments}
use Rattle.jrmp_frames.specs.declared.fault.FrameFault.{FrameFault}
use Rattle.jrmp_frames.specs.declared.head.CallHead.{CallHead}
use Rattle.jrmp_frames.specs.Messages.{wants_of, CallBytes}
use Rattle.jrmp_frames.specs.Calls.{ReadsHead, BreaksIn}
use Rattle.call_dispatch.specs.declared.end.ConnEnd.{ConnEnd}
use Rattle.call_dispatch.specs.declared.end.ConnEnd.TheVariants as ends
use Rattle.call_dispatch.specs.declared.outcome.Invocation.{Invocation}
use Rattle.call_dispatch.specs.declared.outcome.Outcome.{Outcome}
use Rattle.call_dispatch.specs.declared.returns.Answer.{Answer}
use Rattle.system_ids.specs.declared.methods.SystemMethod.{SystemMethod}
use Rattle.call_dispatch.specs.Acts.{Act, Call, States, Observed, Led, acts_of}
use Rattle.call_dispatch.specs.Progress.{end_from}
use Rattle.call_dispatch.specs.Rows.{IsCut}
use Rattle.call_dispatch.specs.Serving.{Answers, next_of}
use Rattle.system_objects.specs.SystemReturns.{answer_written}
use Rattle.call_dispatch.specs.Systems.{System, system_acts, system_draws, system_written, system_closes, IsTurned, IsSystem}
use Rattle.system_ids.specs.SystemIds.{is_system}
use Rattle.system_objects.specs.MethodByHead.{system_method}
use Rattle.system_ids.specs.SystemMethods.{params_of}
use Rattle.system_objects.specs.Terms.{Terms}

-- This was asked in one turn, and the Return prepared; or there was no memory for the turn or the Return.
abbrev pub AsksTurn : (Invocation → Outcome → Type 0) → (States → Call → States → Type 0) → Terms → Uid → Ask → Observed → Observed → Result Answer ConnEnd → Type 0
AsksTurn may moves terms uid ask before after (Ok answer) = (moment : ℕ) × (reply : Result Turn Refused) × IsTurned ask reply × Led may moves before after (acts_of moment ask reply)
    × (answer.bytes ≡ answer_written terms uid ask reply) × (answer.close ≡ None)
AsksTurn may moves terms uid ask before after (Err end) = (end ≡ ends.OutOfMemory)
    × ((moment : ℕ) × (reply : Result Turn Refused) × IsTurned ask reply × ((acts : List Act) × Led may moves before after acts × IsCut [] (acts_of moment ask reply) acts))

-- A call of this head, of which these bytes were taken behind its code, is answered, or there is no memory for it. So many identifiers were drawn before
-- and after.
abbrev pub AnswersRead : (Invocation → Outcome → Type 0) → (States → Call → States → Type 0) → Terms → CallHead → List ℕ → Observed → Observed → ℕ → ℕ → Result Answer ConnEnd → Type 0
AnswersRead may moves terms head bytes before after drawn drew (Ok answer) = (uid : Uid) × (s : System) × IsSystem terms drawn head bytes uid s × Led may moves before after (system_acts s)
    × (drew ≡ drawn + system_draws s) × (answer.bytes ≡ system_written uid s) × (answer.close ≡ system_closes head s)
AnswersRead may moves terms head bytes before after drawn drew (Err end) = (end ≡ ends.OutOfMemory)
    × ((uid : Uid) × (s : System) × IsSystem terms drawn head bytes uid s × ((acts : List Act) × Led may moves before after acts × IsCut [] (system_acts s) acts)
    × ((draws : ℕ) × (drew ≡ drawn + draws) × (draws ≤ system_draws s)))

-- Wherever this call's bytes were taken behind its code, it is answered.
abbrev pub AnswersMethod : (Invocation → Outcome → Type 0) → (States → Call → States → Type 0) → Terms → SystemMethod → Arguments → Observed → Observed → ℕ → ℕ → Result Answer ConnEnd → Type 0
AnswersMethod may moves terms method arguments before after drawn drew result = (head : CallHead) (bytes : List ℕ) → system_method head ≡ Some method
    → CallBytes head (params_of method) arguments (0x50 ∷ bytes) → AnswersRead may moves terms head bytes before after drawn drew result

-- The arguments of a call whose head was read, and whose method was found, break off.
abbrev pub BreaksSystem : CallHead → PullState → PullState → ConnEnd → Type 0
BreaksSystem head first now end = (mid : PullState) × (stand : Stand) × (method : SystemMethod) × (fault : FrameFault)
    × ReadsHead first mid head stand × (system_method head ≡ Some method)
    × BreaksIn mid now fault (λ end. serve_to_close end (wants_of (params_of method)) stand) × (end ≡ end_from fault)

-- A call of the registry or the collector whose head was read behind `first` is answered, or the connection ends in it. So many identifiers were drawn
-- before and after.
abbrev pub AnswersSystem : (Invocation → Outcome → Type 0) → (States → Call → States → Type 0) → Terms → CallHead → PullState → PullState → Observed → Observed → ℕ → ℕ → Result Answer ConnEnd → Type 0
AnswersSystem may moves terms head first now before after drawn drew (Ok answer) = (bytes : List ℕ) × Takes first now bytes × AnswersRead may moves terms head bytes before after drawn drew (Ok answer)
AnswersSystem may moves terms head first now before after drawn drew (Err end) =
    ((bytes : List ℕ) × Takes first now bytes × AnswersRead may moves terms head bytes before after drawn drew (Err end))
    ⊎ ((drew ≡ drawn) × (after ≡ before) × BreaksSystem head first now end)

-- A Call whose head was read behind `first` is answered, or the connection ends in it: a call of the registry or the collector, or any other.
abbrev pub AnswersAny : (Invocation → Outcome → Type 0) → (States → Call → States → Type 0) → Terms → CallHead → PullState → PullState → Observed → Observed → ℕ → ℕ → Result Answer ConnEnd → Type 0
AnswersAny may moves terms head first now before after drawn drew result =
    ((is_system head.id ≡ true) × AnswersSystem may moves terms head first now before after drawn drew result)
    ⊎ ((is_system head.id ≡ false) × Answers may moves terms (next_of terms drawn) head first now before after drawn drew result
    × OnOk result (drew ≡ drawn + 1) × (drawn ≤ drew) × (drew ≤ drawn + 1))
