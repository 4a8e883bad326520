-- How often a Call is invoked.
use Rattle.std.proofs.Common.{◌≡◌, ℕ, ◌+◌, inl, inr, List, [], ◌∷◌, ◌++◌, map, Option, Result, Ok, Err, refl, ap, sym, subst, ◌∙◌, append_assoc, append-nil}
use Rattle.std.specs.List.{flat_map}
use Rattle.std.proofs.lemmas.Grind.{flat_map-append}
use Rattle.object_ids.specs.declared.ids.ObjId.{ObjId}
use Rattle.object_ids.specs.declared.ids.Uid.{Uid}
use Rattle.history.specs.declared.asks.Ask.{Ask}
use Rattle.history.specs.declared.asks.Ask.TheVariants.{Begin, Ack}
use Rattle.history.specs.declared.replies.Turn.{Turn}
use Rattle.history.specs.declared.replies.Refused.{Refused}
use Rattle.history.specs.declared.replies.Refused.TheVariants.{HistoryFull, Full, OutOfMemory}
use Rattle.jrmp_frames.specs.declared.head.CallHead.{CallHead}
use Rattle.system_objects.specs.declared.book.Kind.{Kind}
use Rattle.call_dispatch.specs.declared.outcome.Invocation.{Invocation}
use Rattle.space.specs.declared.asked.Asked.{Asked}
use Rattle.space.specs.declared.asked.AskedEnd.{AskedEnd}
use Rattle.space.specs.declared.asked.AskedEnd.TheVariants.{Turned, Abandoned, Refused as Denied}
use Rattle.call_dispatch.specs.declared.outcome.Outcome.{Outcome}
use Rattle.call_dispatch.specs.declared.end.ConnEnd.{ConnEnd}
use Rattle.call_dispatch.specs.declared.end.ConnEnd.TheVariants as ends
use Rattle.system_objects.specs.Terms.{Terms}
use Rattle.call_dispatch.specs.ConnectionState.{ConnectionState, Transcript, bytes_taken}
use Rattle.wire_io.specs.Wire.{with_front}
use Rattle.jrmp_frames.specs.declared.code.Code.TheVariants.{Call as Call50}
use Rattle.jrmp_frames.specs.Frames.{code_byte}
use Rattle.call_dispatch.specs.Acts.{Act, asks, lost, called, invokes, unreferenced, Call, States, calls, invocations, tells_of, entries, acts_of, abandon_act}
use Rattle.call_dispatch.specs.Rows.{Exchange, ping, acknowledged, served, system, IsExchange, taken_by, acts_by, draws_by, draws_in, IsChain, lost_at, acts_at_failure, IsFailed, IsGivenUp, IsCut}
use Rattle.call_dispatch.specs.Dialogue.{Completed, nothing, greeted, opened, exchanges_in, IsCompleted, IsAnswered, IsCutIn, EndsInCall, Ends}
use Rattle.call_dispatch.specs.Progress.{Talked}
use Rattle.call_dispatch.proofs.OneReading.{chain_first, chain_rest}
use Rattle.call_dispatch.specs.Results.{finish_with}
use Rattle.call_dispatch.specs.Served.{Conclusion, finished, denied, faulted, conclusion_acts, Running, unknown, ran, invocation_of, running_acts, IsRunning, absent, refused, begun}
use Rattle.call_dispatch.specs.Invoked.{invocations_in, IsInvokedOnce, CallIsInvokedOnce, IsCallOf, LeadTo, InvokesEachOnce, DialogueInvokesEachOnce}
use Rattle.call_dispatch.specs.Systems.{System, rejected, turned, system_acts, unknown as nameless}

in_more : (xs ys : List Act) → invocations_in (xs ++ ys) ≡ invocations_in xs ++ invocations_in ys
in_more xs ys = ap (λ l. flat_map invocations l) (flat_map-append calls xs ys) ∙ flat_map-append invocations (flat_map calls xs) (flat_map calls ys)

told_none : (gone : List ObjId) → invocations_in (tells_of gone) ≡ []
told_none [] = refl
told_none (o ∷ gone) = told_none gone

-- No turn invokes the worker.
turn_none : (moment : ℕ) (ask : Ask) (answer : Result Turn Refused) → invocations_in (acts_of moment ask answer) ≡ []
turn_none moment ask (Ok turn) = told_none turn.gone
turn_none moment ask (Err HistoryFull) = refl
turn_none moment ask (Err (Full kind)) = refl
turn_none moment ask (Err OutOfMemory) = refl

conclusion_none : (object : ObjId) (uid : Uid) (outcome : Outcome) (c : Conclusion) → invocations_in (conclusion_acts object uid outcome c) ≡ []
conclusion_none object uid outcome (finished fin) = turn_none fin.moment (finish_with object outcome fin.listed uid) (Ok fin.turn)
conclusion_none object uid outcome (denied den) =
    in_more (acts_of den.moment (finish_with object outcome den.listed uid) (Err den.refused)) (abandon_act den.end_moment object den.place ∷ []) ∙ ap (λ (l : List Invocation). l ++ []) (turn_none den.moment (finish_with object outcome den.listed uid) (Err den.refused))
conclusion_none object uid outcome (faulted up) = refl

running_once : (terms : Terms) (head : CallHead) (kind : ℕ) (bytes : List ℕ) (uid : Uid) (r : Running) → IsRunning terms head kind bytes uid r → IsInvokedOnce terms.kinds head bytes (invocations_in (running_acts head uid kind r))
running_once terms head kind bytes uid (unknown up) is = tt
running_once terms head kind bytes uid (ran inv c) (known, (method, here, spelled, concluded)) =
    let call : Invocation = invocation_of head.id kind inv.place inv.arguments in
    let once : IsInvokedOnce terms.kinds head bytes (call ∷ []) = record { object = refl; known = known; method = method; method_is = here; spelled = spelled } in
    subst (λ (l : List Invocation). IsInvokedOnce terms.kinds head bytes (call ∷ l)) (sym (conclusion_none head.id uid inv.outcome c)) once

pub call_is_invoked_once : CallIsInvokedOnce
call_is_invoked_once terms head bytes uid (absent gone) is = subst (λ (l : List Invocation). IsInvokedOnce terms.kinds head bytes l) (sym (turn_none gone.moment (Begin head.id) (Ok gone.turn))) tt
call_is_invoked_once terms head bytes uid (refused moment) is = tt
call_is_invoked_once terms head bytes uid (begun start r) (started, is) =
    let same = in_more (acts_of start.moment (Begin head.id) (Ok start.turn)) (running_acts head uid start.kind r) ∙ ap (λ (l : List Invocation). l ++ invocations_in (running_acts head uid start.kind r)) (turn_none start.moment (Begin head.id) (Ok start.turn)) in
    subst (λ (l : List Invocation). IsInvokedOnce terms.kinds head bytes l) (sym same) (running_once terms head start.kind bytes uid r is)

-- ---- in a connection

-- A message that leads to nothing.
none_leads : (kinds : List Kind) (message : List ℕ) (xs : List Invocation) → xs ≡ [] → LeadTo kinds (message ∷ []) xs
none_leads kinds message xs none = inl none

-- A Call leads to at most one invocation.
once_leads : (kinds : List Kind) (head : CallHead) (bytes : List ℕ) (xs : List Invocation) → IsInvokedOnce kinds head bytes xs → LeadTo kinds ((0x50 ∷ bytes) ∷ []) xs
once_leads kinds head bytes [] once = inl refl
once_leads kinds head bytes (call ∷ []) once = inr (call, [], refl, (head, bytes, refl, once), refl)
once_leads kinds head bytes (call ∷ other ∷ others) once = absurd once

-- Messages, and then others.
leads_more : (kinds : List Kind) (ms ns : List (List ℕ)) (xs ys : List Invocation) → LeadTo kinds ms xs → LeadTo kinds ns ys → LeadTo kinds (ms ++ ns) (xs ++ ys)
leads_more kinds [] ns xs ys first then = subst (λ (l : List Invocation). LeadTo kinds ns (l ++ ys)) (sym first) then
leads_more kinds (m ∷ ms) ns xs ys (inl first) then = inl (leads_more kinds ms ns xs ys first then)
leads_more kinds (m ∷ ms) ns xs ys (inr (call, others, is, mine, first)) then =
    inr (call, others ++ ys, ap (λ (l : List Invocation). l ++ ys) is, mine, leads_more kinds ms ns others ys first then)

-- A call of the registry or the collector leads to none.
system_none : (s : System) → invocations_in (system_acts s) ≡ []
system_none nameless = refl
system_none (rejected rej) = refl
system_none (turned took) = turn_none took.moment took.ask took.answer

-- An exchange leads to at most one.
exchange_leads : (terms : Terms) (drawn : ℕ) (e : Exchange) → IsExchange terms drawn e → LeadTo terms.kinds (taken_by e ∷ []) (invocations_in (acts_by e))
exchange_leads terms drawn ping is = inl refl
exchange_leads terms drawn (acknowledged noted) is = inl (turn_none noted.moment (Ack noted.uid) noted.answer)
exchange_leads terms drawn (system msg s) is = inl (system_none s)
exchange_leads terms drawn (served msg s) (other, draw, fits, few, is) =
    once_leads terms.kinds msg.head msg.bytes (invocations_in (acts_by (served msg s))) (call_is_invoked_once terms msg.head msg.bytes msg.uid s is)

exchanges_lead : (terms : Terms) (drawn : ℕ) (es : List Exchange) → IsChain terms drawn es → LeadTo terms.kinds (map taken_by es) (invocations_in (flat_map acts_by es))
exchanges_lead terms drawn [] chain = refl
exchanges_lead terms drawn (e ∷ es) chain =
    subst (λ (l : List Invocation). LeadTo terms.kinds (taken_by e ∷ map taken_by es) l) (sym (in_more (acts_by e) (flat_map acts_by es)))
    (leads_more terms.kinds (taken_by e ∷ []) (map taken_by es) (invocations_in (acts_by e)) (invocations_in (flat_map acts_by es))
    (exchange_leads terms drawn e (chain_first terms drawn e es chain)) (exchanges_lead terms (drawn + draws_by e) es (chain_rest terms drawn e es chain)))

-- What there was no memory for invokes nothing but what the act does.
lost_none : (moment : ℕ) (end : AskedEnd) → invocations_in (lost_at moment end) ≡ []
lost_none moment (Turned turn) = refl
lost_none moment (Denied refusal) = refl
lost_none moment (Abandoned place) = refl

failed_same : (act : Act) → invocations_in (acts_at_failure act) ≡ invocations_in (act ∷ [])
failed_same (asks entry) = lost_none entry.moment entry.end
failed_same (lost moment) = refl
failed_same (called (invokes call outcome)) = refl
failed_same (called (unreferenced object)) = refl

given_up_none : (shown : List Asked) (acts : List Act) → IsGivenUp shown acts → invocations_in acts ≡ []
given_up_none shown [] is = refl
given_up_none shown (asks entry ∷ []) is = refl
given_up_none shown (asks entry ∷ act ∷ acts) is = absurd is
given_up_none shown (lost moment ∷ acts) is = absurd is
given_up_none shown (called call ∷ acts) is = absurd is

-- Where the next act failed, its invocation, if it was one, is the row's next.
fails_front : (later fails : List Act) → IsFailed later fails → (more : List Invocation) × (invocations_in later ≡ invocations_in fails ++ more)
fails_front [] fails is = ([], ap invocations_in (sym is) ∙ sym (append-nil (invocations_in fails)))
fails_front (asks entry ∷ later) fails (inl is) = (invocations_in (asks entry ∷ later), ap (λ (l : List Act). invocations_in l ++ invocations_in (asks entry ∷ later)) (sym is))
fails_front (asks entry ∷ later) fails (inr is) =
    (invocations_in later, ap (λ (l : List Invocation). l ++ invocations_in later) (sym (failed_same (asks entry)) ∙ ap invocations_in (sym is)))
fails_front (lost moment ∷ later) fails (inl is) = (invocations_in (lost moment ∷ later), ap (λ (l : List Act). invocations_in l ++ invocations_in (lost moment ∷ later)) (sym is))
fails_front (lost moment ∷ later) fails (inr is) = (invocations_in later, ap (λ (l : List Act). invocations_in l ++ invocations_in later) (sym is))
fails_front (called (invokes call outcome) ∷ later) fails (inl is) =
    (invocations_in (called (invokes call outcome) ∷ later), ap (λ (l : List Act). invocations_in l ++ invocations_in (called (invokes call outcome) ∷ later)) (sym is))
fails_front (called (invokes call outcome) ∷ later) fails (inr is) = (invocations_in later, ap (λ (l : List Act). invocations_in l ++ invocations_in later) (sym is))
fails_front (called (unreferenced object) ∷ later) fails is = absurd is

-- The invocations of a row that was cut are the first of the row's.
cut_front : (shown : List Asked) (row acts : List Act) → IsCut shown row acts → (more : List Invocation) × (invocations_in row ≡ invocations_in acts ++ more)
cut_front shown row acts cut =
    let (more, is) = fails_front cut.later cut.fails cut.failing in
    let none = given_up_none (shown ++ flat_map entries cut.front) cut.given_up cut.giving_up in
    let mine : invocations_in acts ≡ invocations_in cut.front ++ invocations_in cut.fails =
    ap invocations_in cut.is ∙ in_more (cut.front ++ cut.fails) cut.given_up ∙ ap (λ (l : List Invocation). invocations_in (cut.front ++ cut.fails) ++ l) none
    ∙ append-nil (invocations_in (cut.front ++ cut.fails)) ∙ in_more cut.front cut.fails in (
      more,
      ap invocations_in cut.whole ∙ in_more cut.front cut.later ∙ ap (λ (l : List Invocation). invocations_in cut.front ++ l) is
          ∙ sym (append_assoc (invocations_in cut.front) (invocations_in cut.fails) more) ∙ ap (λ (l : List Invocation). l ++ more) (sym mine),
    )

first_same : (x call : Invocation) (xs ys : List Invocation) → x ∷ xs ≡ call ∷ ys → x ≡ call
first_same x call xs ys same = cc

-- The first of what a message leads to are what it leads to.
fronts_lead : (kinds : List Kind) (message : List ℕ) (xs more : List Invocation) → LeadTo kinds (message ∷ []) (xs ++ more) → LeadTo kinds (message ∷ []) xs
fronts_lead kinds message [] more h = inl refl
fronts_lead kinds message (x ∷ xs) more (inl none) = absurd (cc)
fronts_lead kinds message (x ∷ []) more (inr (call, others, is, mine, none)) = inr (x, [], refl, subst (λ (c : Invocation). IsCallOf kinds message c) (sym (first_same x call more others is)) mine, refl)
fronts_lead kinds message (x ∷ y ∷ xs) more (inr (call, others, is, mine, none)) =
    let one : x ∷ y ∷ (xs ++ more) ≡ call ∷ [] = is ∙ ap (λ (l : List Invocation). call ∷ l) none in absurd (cc)

-- Nothing was done.
took_leads : (kinds : List Kind) (tail : Transcript) (more : List ℕ) → tail ≡ bytes_taken more → LeadTo kinds (tail.taken ∷ []) (invocations_in tail.acts)
took_leads kinds tail more is = inl (ap (λ (c : Transcript). invocations_in c.acts) is)

call_leads : (terms : Terms) (w : Completed) (tail : Transcript) (rest : Option (List ℕ)) (end : ConnEnd) → EndsInCall terms w tail rest end → LeadTo terms.kinds (tail.taken ∷ []) (invocations_in tail.acts)
call_leads terms w tail rest end (code, room, inl (more, is, breaks)) = took_leads terms.kinds tail (code_byte Call50 ∷ more) is
call_leads terms w tail rest end (code, room, inr (inr a)) = took_leads terms.kinds tail (code_byte Call50 ∷ a.front ++ a.more) a.tail_is
call_leads terms w tail rest end (code, room, inr (inl a)) =
    inl (ap (λ (c : Transcript). invocations_in c.acts) a.tail_is ∙ in_more (acts_of a.moment (Begin a.head.id) (Ok a.turn)) (abandon_act a.end_moment a.head.id a.end_place ∷ [])
    ∙ ap (λ (l : List Invocation). l ++ []) (turn_none a.moment (Begin a.head.id) (Ok a.turn)))

-- An exchange that was cut leads to at most one.
cut_leads : (terms : Terms) (drawn : ℕ) (w : Completed) (tail : Transcript) (e : Exchange) → IsCutIn terms drawn w tail e → LeadTo terms.kinds (tail.taken ∷ []) (invocations_in tail.acts)
cut_leads terms drawn w tail e cut =
    let (more, is) = cut_front [] (acts_by e) tail.acts cut.acts in
    let whole : LeadTo terms.kinds (taken_by e ∷ []) (invocations_in (acts_by e)) = exchange_leads terms (drawn + draws_in (exchanges_in w)) e cut.next.2 in
    let P : List Invocation → Type 0 = λ l. LeadTo terms.kinds (taken_by e ∷ []) l in
    let Q : List ℕ → Type 0 = λ l. LeadTo terms.kinds (l ∷ []) (invocations_in tail.acts) in
    subst Q (sym cut.message) (fronts_lead terms.kinds (taken_by e) (invocations_in tail.acts) more (subst P is whole))

-- An answer that was cut.
answer_leads : (terms : Terms) (drawn : ℕ) (w : Completed) (c : Transcript) → IsAnswered terms drawn w c → LeadTo terms.kinds (c.taken ∷ []) (invocations_in c.acts)
answer_leads terms drawn w c (inl (none, is)) = inl (ap (λ (x : Transcript). invocations_in x.acts) is)
answer_leads terms drawn w c (inr (inl (byte, (none, other, is)))) = inl (ap (λ (x : Transcript). invocations_in x.acts) is)
answer_leads terms drawn w c (inr (inr (e, next, is))) =
    let P : Transcript → Type 0 = λ x. LeadTo terms.kinds (x.taken ∷ []) (invocations_in x.acts) in
    subst P (sym is) (exchange_leads terms (drawn + draws_in (exchanges_in w)) e next.2)

-- What comes behind what stands whole leads to at most one invocation, which is its own.
tail_leads : (terms : Terms) (drawn : ℕ) (w : Completed) (tail : Transcript) (rest : Option (List ℕ)) (end : ConnEnd) → Ends terms drawn w tail rest end → LeadTo terms.kinds (tail.taken ∷ []) (invocations_in tail.acts)
tail_leads terms drawn w tail rest ends.Ended (how, is) = took_leads terms.kinds tail [] is
tail_leads terms drawn w tail rest (ends.BadHeader at) (none, (more, breaks, is)) = took_leads terms.kinds tail more is
tail_leads terms drawn w tail rest (ends.UnknownProtocol byte) (none, other, is) = inl (ap (λ (c : Transcript). invocations_in c.acts) is)
tail_leads terms drawn w tail rest (ends.BadMessage byte at) (code, none, place, is) = took_leads terms.kinds tail (byte ∷ []) is
tail_leads terms drawn w tail rest (ends.BadStream kind at) inside = call_leads terms w tail rest (ends.BadStream kind at) inside
tail_leads terms drawn w tail rest (ends.TooLarge what at) inside = call_leads terms w tail rest (ends.TooLarge what at) inside
tail_leads terms drawn w tail rest (ends.Truncated at) (inl (more, inside, left, place, is)) = took_leads terms.kinds tail more is
tail_leads terms drawn w tail rest (ends.Truncated at) (inr inside) = call_leads terms w tail rest (ends.Truncated at) inside
tail_leads terms drawn w tail rest (ends.NoSuchObject id) (closed, is) = took_leads terms.kinds tail [] is
tail_leads terms drawn w tail rest (ends.NoSuchMethod operation hash) (closed, is) = took_leads terms.kinds tail [] is
tail_leads terms drawn w tail rest ends.SpaceFull (closed, is) = took_leads terms.kinds tail [] is
tail_leads terms drawn w tail rest ends.MessageLimit (code, full, (byte, known, is)) = took_leads terms.kinds tail (byte ∷ []) is
tail_leads terms drawn w tail rest ends.ReadFault (inl (more, front, is)) = took_leads terms.kinds tail more is
tail_leads terms drawn w tail rest ends.ReadFault (inr inside) = call_leads terms w tail rest ends.ReadFault inside
tail_leads terms drawn w tail rest (ends.WriteFault sent) (c, part, answered, less, place, is) =
    let P : Transcript → Type 0 = λ x. LeadTo terms.kinds (x.taken ∷ []) (invocations_in x.acts) in
    subst P (sym is) (answer_leads terms drawn w c answered)
tail_leads terms drawn w tail rest ends.OutOfMemory (inl (more, none, which, is)) = took_leads terms.kinds tail more is
tail_leads terms drawn w tail rest ends.OutOfMemory (inr (inl (e, cut, some))) = cut_leads terms drawn w tail e cut
tail_leads terms drawn w tail rest ends.OutOfMemory (inr (inr inside)) = call_leads terms w tail rest ends.OutOfMemory inside

whole_leads : (terms : Terms) (drawn : ℕ) (w : Completed) → IsCompleted terms drawn w → LeadTo terms.kinds (map taken_by (exchanges_in w)) (invocations_in (flat_map acts_by (exchanges_in w)))
whole_leads terms drawn nothing whole = refl
whole_leads terms drawn greeted whole = refl
whole_leads terms drawn (opened opening es) (legal, chain, few) = exchanges_lead terms drawn es chain

pub dialogue_invokes : DialogueInvokesEachOnce
dialogue_invokes terms drawn c rest end (w, tail, whole, is, how) =
    let all : invocations_in c.acts ≡ invocations_in (flat_map acts_by (exchanges_in w)) ++ invocations_in tail.acts =
    ap (λ (x : Transcript). invocations_in x.acts) is ∙ in_more (flat_map acts_by (exchanges_in w)) tail.acts in
    let P : List Invocation → Type 0 = λ l. LeadTo terms.kinds (map taken_by (exchanges_in w) ++ tail.taken ∷ []) l in
    record {
      whole = w;
      behind = tail.taken;
      is_whole = whole;
      taken = ap (λ (x : Transcript). x.taken) is;
      once = subst P (sym all) (leads_more terms.kinds (map taken_by (exchanges_in w)) (tail.taken ∷ []) (invocations_in (flat_map acts_by (exchanges_in w))) (invocations_in tail.acts)
          (whole_leads terms drawn w whole) (tail_leads terms drawn w tail rest end how));
    }

-- A connection that ended in a dialogue invoked each message at most once, with what it spells.
pub talked_invokes : (may : Invocation → Outcome → Type 0) (moves : States → Call → States → Type 0) (terms : Terms) (start now : ConnectionState) (end : ConnEnd) → Talked may moves terms start now end → InvokesEachOnce terms start now
talked_invokes may moves terms start now end (c, talks) =
    let each = dialogue_invokes terms start.drawn c now.wires.left end talks.dialogue in
    record {
      whole = each.whole;
      behind = each.behind;
      is_whole = each.is_whole;
      taken = talks.goes.left ∙ ap (λ (l : List ℕ). with_front l now.wires.left) each.taken;
      told = flat_map calls c.acts;
      count = talks.goes.led.invoked;
      seen = talks.goes.led.seen;
      once = each.once;
    }
