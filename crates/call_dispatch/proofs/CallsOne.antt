-- A Call is served in one way: its bytes and what the outside hands in decide how; and where it ends, it isn't served.
use Rattle.std.proofs.Common.{◌≡◌, ℕ, ◌+◌, ◌≤◌, ◌⊎◌, inl, inr, List, [], ◌∷◌, ◌++◌, length, drop, slice_get, Option, None, Some, Ok, refl, ap, sym, subst, ◌∙◌, arith, append_assoc, append-nil, length-append}
use Rattle.class_desc.specs.declared.slot.Item.{Item}
use Rattle.class_desc.specs.declared.field.TypeCode.{TypeCode}
use Rattle.ser_values.specs.declared.node.Node.{Node}
use Rattle.ser_values.specs.declared.graph.Graph.{Graph}
use Rattle.ser_values.specs.Numbered.{IsGraph}
use Rattle.ser_read.specs.Wants.{serve_to_close}
use Rattle.ser_read.specs.Heading.{inside_block}
use Rattle.method_hash.specs.declared.method.Method.{Method}
use Rattle.object_ids.specs.declared.ids.ObjId.{ObjId}
use Rattle.object_ids.specs.declared.ids.Uid.{Uid}
use Rattle.history.specs.declared.asks.Ask.TheVariants.{Begin}
use Rattle.history.specs.declared.replies.Reply.TheVariants.{Started, NoObject}
use Rattle.history.specs.declared.replies.Turn.{Turn}
use Rattle.space.specs.declared.asked.AskedEnd.TheVariants.{Turned, Abandoned}
use Rattle.jrmp_frames.specs.declared.arguments.Arg.{Arg}
use Rattle.jrmp_frames.specs.declared.arguments.Arguments.{Arguments}
use Rattle.jrmp_frames.specs.declared.head.CallHead.{CallHead}
use Rattle.jrmp_frames.specs.declared.code.Code.TheVariants.{Call}
use Rattle.jrmp_frames.specs.Frames.{code_byte}
use Rattle.jrmp_frames.specs.Messages.{head_bytes, wants_of, CallBytes}
use Rattle.jrmp_frames.specs.Calls.{head_at}
use Rattle.jrmp_frames.proofs.CallLaws.{call_is_one}
use Rattle.system_objects.specs.declared.book.Kind.{Kind}
use Rattle.call_dispatch.specs.declared.end.ConnEnd.{ConnEnd}
use Rattle.call_dispatch.specs.declared.outcome.Outcome.{Outcome}
use Rattle.call_dispatch.specs.End.{IsSettled}
use Rattle.call_dispatch.specs.Acts.{acts_of, abandon_act}
use Rattle.system_objects.specs.Book.{methods_of}
use Rattle.call_dispatch.specs.Inside.{BreaksAt}
use Rattle.call_dispatch.specs.Results.{listed_by, normal_return}
use Rattle.call_dispatch.specs.Served.{EndsWithHead, FitsHead, Conclusion, finished, denied, faulted, IsConclusion, Running, unknown, ran, IsMethodOf, HasNoMethod, IsRunning, AtHead, absent, refused, begun, served_acts, IsServed}
use Rattle.call_dispatch.specs.ConnectionState.{Transcript, bytes_taken}
use Rattle.ser_values.specs.declared.limits.TheConstants.{MESSAGE_BYTES}
use Rattle.call_dispatch.specs.Dialogue.{EndsInHead, EndsInArguments}
use Rattle.system_objects.specs.Terms.{Terms}
use Rattle.call_dispatch.specs.Tape.{OutsideAnswer, turn_answer, tape}
use Rattle.call_dispatch.proofs.HeadReads.{head_given, one_front, same_head, Begins, call_begins}
use Rattle.call_dispatch.proofs.Breaks.{same_behind, breaks_one, breaks_read, breaks_within}
use Rattle.call_dispatch.proofs.Tapes.{turn_tape, conclusion_ticks, running_ticks, served_ticks, served_tape}

-- ---- what a Call begins with

pub served_begins : (terms : Terms) (head : CallHead) (bytes : List ℕ) (uid : Uid) (s : AtHead) → IsServed terms head bytes uid s → Begins head bytes
served_begins terms head bytes uid (absent gone) ((left, heading), none) = record { front = bytes; left = left; more = []; is = sym (append-nil bytes); heading = heading }
served_begins terms head bytes uid (refused moment) (left, heading) = record { front = bytes; left = left; more = []; is = sym (append-nil bytes); heading = heading }
served_begins terms head bytes uid (begun start (unknown up2)) (started, ((left, heading), none)) =
    record { front = bytes; left = left; more = []; is = sym (append-nil bytes); heading = heading }
served_begins terms head bytes uid (begun start (ran inv conclusion)) (started, (known, (method, method_is, call, concluded))) =
    call_begins head method.params inv.arguments bytes call

-- Fronts of one list that begin with heads begin with one head.
pub begin_same : (head head2 : CallHead) (bytes bytes2 rest rest2 : List ℕ) → FitsHead head → FitsHead head2 → Begins head bytes → Begins head2 bytes2 → bytes ++ rest ≡ bytes2 ++ rest2 → head ≡ head2
begin_same head head2 bytes bytes2 rest rest2 fits fits2 a b input =
    let one : bytes ++ rest ≡ a.front ++ (a.more ++ rest) = ap (λ (l : List ℕ). l ++ rest) a.is ∙ append_assoc a.front a.more rest in
    let two : bytes2 ++ rest2 ≡ b.front ++ (b.more ++ rest2) = ap (λ (l : List ℕ). l ++ rest2) b.is ∙ append_assoc b.front b.more rest2 in
    let same = one_front head head2 a.front b.front (a.more ++ rest) (b.more ++ rest2) a.left b.left a.heading b.heading (sym one ∙ input ∙ two) in
    same_head head head2 fits fits2 same.0

-- What ends with a head of one Call and of another is the same.
pub front_same : (head : CallHead) (bytes bytes2 rest rest2 : List ℕ) (left left2 : ℕ) → EndsWithHead head bytes left → EndsWithHead head bytes2 left2 → bytes ++ rest ≡ bytes2 ++ rest2 → bytes ≡ bytes2
front_same head bytes bytes2 rest rest2 left left2 a b input = (one_front head head bytes bytes2 rest rest2 left left2 a b input).2

-- ---- one way

abbrev graph_with : (nodes : List Node) (items : List Item) → ∥ IsGraph nodes items ∥₁ → Graph
graph_with nodes items numbered = record { nodes = nodes; items = items; numbered = numbered }

graph_same : (a b : Graph) → a.nodes ≡ b.nodes → a.items ≡ b.items → a ≡ b
graph_same a b n i =
    let P : List Node → Type 0 = λ x. (g : ∥ IsGraph x a.items ∥₁) → a ≡ graph_with x a.items g in
    let first : P a.nodes = λ g. ap (λ (h : ∥ IsGraph a.nodes a.items ∥₁). graph_with a.nodes a.items h) (squash₁ a.numbered g) in
    let second : P b.nodes = subst P n first in
    let Q : List Item → Type 0 = λ y. (g : ∥ IsGraph b.nodes y ∥₁) → a ≡ graph_with b.nodes y g in
    let third : Q b.items = subst Q i second in
    third b.numbered

abbrev arguments_with : Graph → List Arg → Arguments
arguments_with graph values = record { graph = graph; values = values }

pub arguments_same : (a b : Arguments) → a.graph.nodes ≡ b.graph.nodes → a.graph.items ≡ b.graph.items → a.values ≡ b.values → a ≡ b
arguments_same a b n i v = ap (λ (g : Graph). arguments_with g a.values) (graph_same a.graph b.graph n i) ∙ ap (λ (l : List Arg). arguments_with b.graph l) v

-- An outcome of a call comes to one conclusion.
conclusion_one : (terms : Terms) (uid : Uid) (result_type result_type2 : Option TypeCode) (outcome outcome2 : Outcome) (c c2 : Conclusion) (t t2 : List OutsideAnswer) → outcome ≡ outcome2
    → IsConclusion terms uid result_type outcome c → IsConclusion terms uid result_type2 outcome2 c2 → conclusion_ticks c ++ t ≡ conclusion_ticks c2 ++ t2 → (c ≡ c2) × (t ≡ t2)
conclusion_one terms uid result_type result_type2 outcome outcome2 (finished fin) (finished fin2) t t2 same (fit, (lists, over, is)) (fit2, (lists2, over2, is2)) e =
    let moments : fin.moment ≡ fin2.moment = cc in
    let turns : fin.turn ≡ fin2.turn = cc in
    let lists_same : fin.listed ≡ fin2.listed = lists ∙ ap (listed_by terms) same ∙ sym lists2 in
    let bytes_same : fin.bytes ≡ fin2.bytes = is ∙ ap (λ o. normal_return terms uid o fin.turn.reply) same ∙ ap (λ (x : Turn). normal_return terms uid outcome2 x.reply) turns ∙ sym is2 in (
      (λ i. finished (record { listed = lists_same i; moment = moments i; turn = turns i; bytes = bytes_same i })),
      ap (drop 1) e,
    )
conclusion_one terms uid result_type result_type2 outcome outcome2 (finished fin) (denied den2) t t2 same is is2 e = absurd (cc)
conclusion_one terms uid result_type result_type2 outcome outcome2 (finished fin) (faulted up2) t t2 same is is2 e = absurd (cc)
conclusion_one terms uid result_type result_type2 outcome outcome2 (denied den) (finished fin2) t t2 same is is2 e = absurd (cc)
conclusion_one terms uid result_type result_type2 outcome outcome2 (denied den) (denied den2) t t2 same (fit, (lists, other)) (fit2, (lists2, other2)) e =
    let lists_same : den.listed ≡ den2.listed = lists ∙ ap (listed_by terms) same ∙ sym lists2 in
    let moments : den.moment ≡ den2.moment = cc in
    let refusals_same : den.refused ≡ den2.refused = cc in
    let end_moments : den.end_moment ≡ den2.end_moment = cc in
    let places : den.place ≡ den2.place = cc in
    ((λ i. denied (record { listed = lists_same i; moment = moments i; refused = refusals_same i; end_moment = end_moments i; place = places i })), ap (drop 2) e)
conclusion_one terms uid result_type result_type2 outcome outcome2 (denied den) (faulted up2) t t2 same is is2 e = absurd (cc)
conclusion_one terms uid result_type result_type2 outcome outcome2 (faulted up) (finished fin2) t t2 same is is2 e = absurd (cc)
conclusion_one terms uid result_type result_type2 outcome outcome2 (faulted up) (denied den2) t t2 same is is2 e = absurd (cc)
conclusion_one terms uid result_type result_type2 outcome outcome2 (faulted up) (faulted up2) t t2 same is is2 e =
    let moments : up.moment ≡ up2.moment = cc in
    let places : up.place ≡ up2.place = cc in
    ((λ i. faulted (record { moment = moments i; place = places i })), (cc))

abbrev some_place : ℕ → Option ℕ
some_place place = Some place

abbrev some_method : Method → Option Method
some_method method = Some method

place_same : (a b : ℕ) → some_place a ≡ some_place b → a ≡ b
place_same a b e = cc

method_same : (a b : Method) → some_method a ≡ some_method b → a ≡ b
method_same a b e = cc

no_place : (a : ℕ) → some_place a ≡ None → ⊥
no_place a e = cc

-- A kind doesn't have the method that it doesn't have.
pub none_known : (kinds : List Kind) (kind : ℕ) (head : CallHead) (place : ℕ) → IsMethodOf kinds kind head place → HasNoMethod kinds kind head → ⊥
none_known kinds kind head place known (inl other) = other known.0
none_known kinds kind head place known (inr none) = no_place place (sym known.1 ∙ none)

-- One place has one method.
pub known_same : (kinds : List Kind) (kind : ℕ) (head : CallHead) (place place2 : ℕ) (method method2 : Method) → IsMethodOf kinds kind head place → IsMethodOf kinds kind head place2
    → slice_get (methods_of kinds kind) place ≡ Some method → slice_get (methods_of kinds kind) place2 ≡ Some method2 → (place ≡ place2) × (method ≡ method2)
known_same kinds kind head place place2 method method2 known known2 is is2 =
    let places : place ≡ place2 = place_same place place2 (sym known.1 ∙ known2.1) in
    (places, method_same method method2 (sym is ∙ ap (slice_get (methods_of kinds kind)) places ∙ is2))

abbrev OneRunning : Running → Running → List ℕ → List ℕ → List OutsideAnswer → List OutsideAnswer → Type 0
OneRunning r r2 bytes bytes2 t t2 = (r ≡ r2) × (bytes ≡ bytes2) × (t ≡ t2)

-- A Call that was read whole is invoked with one list of arguments.
ran_same : (terms : Terms) (uid : Uid) (head : CallHead) (method method2 : Method) (place place2 : ℕ) (a a2 : Arguments) (o o2 : Outcome) (c c2 : Conclusion) (bytes bytes2 rest rest2 : List ℕ) (t t2 : List OutsideAnswer)
    → place ≡ place2 → method ≡ method2 → CallBytes head method.params a (0x50 ∷ bytes) → CallBytes head method2.params a2 (0x50 ∷ bytes2)
    → IsConclusion terms uid method.result o c → IsConclusion terms uid method2.result o2 c2 → bytes ++ rest ≡ bytes2 ++ rest2 → running_ticks (ran (record { place = place; arguments = a; outcome = o }) c) ++ t ≡ running_ticks (ran (record { place = place2; arguments = a2; outcome = o2 }) c2) ++ t2 → OneRunning (ran (record { place = place; arguments = a; outcome = o }) c) (ran (record { place = place2; arguments = a2; outcome = o2 }) c2) bytes bytes2 t t2
ran_same terms uid head method method2 place place2 a a2 o o2 c c2 bytes bytes2 rest rest2 t t2 places methods call call2 is is2 input e =
    let P : Method → Type 0 = λ m. CallBytes head m.params a2 (0x50 ∷ bytes2) in
    let same = call_is_one method.params head head a a2 (0x50 ∷ bytes) (0x50 ∷ bytes2) rest rest2 call (subst P (sym methods) call2) (ap (λ (l : List ℕ). 0x50 ∷ l) input) in
    let arguments : a ≡ a2 = arguments_same a a2 same.2 same.3 same.4 in
    let outcomes : o ≡ o2 = cc in
    let later : conclusion_ticks c ++ t ≡ conclusion_ticks c2 ++ t2 = ap (drop 1) e in
    let one = conclusion_one terms uid method.result method2.result o o2 c c2 t t2 outcomes is is2 later in (
      (λ i. ran (record { place = places i; arguments = arguments i; outcome = outcomes i }) (one.0 i)),
      ap (drop 1) same.0,
      one.1,
    )

running_one : (terms : Terms) (head : CallHead) (kind : ℕ) (bytes bytes2 : List ℕ) (uid : Uid) (r r2 : Running) (rest rest2 : List ℕ) (t t2 : List OutsideAnswer) → IsRunning terms head kind bytes uid r → IsRunning terms head kind bytes2 uid r2
    → bytes ++ rest ≡ bytes2 ++ rest2 → running_ticks r ++ t ≡ running_ticks r2 ++ t2 → OneRunning r r2 bytes bytes2 t t2
running_one terms head kind bytes bytes2 uid (unknown up) (unknown up2) rest rest2 t t2 ((left, a), none) ((left2, b), none2) input e =
    let moments : up.moment ≡ up2.moment = cc in
    let places : up.place ≡ up2.place = cc in
    ((λ i. unknown (record { moment = moments i; place = places i })), front_same head bytes bytes2 rest rest2 left left2 a b input, (cc))
running_one terms head kind bytes bytes2 uid (unknown up) (ran inv2 conclusion) rest rest2 t t2 a b input e = absurd (none_known terms.kinds kind head inv2.place b.0 a.1)
running_one terms head kind bytes bytes2 uid (ran inv conclusion) (unknown up2) rest rest2 t t2 a b input e = absurd (none_known terms.kinds kind head inv.place a.0 b.1)
running_one terms head kind bytes bytes2 uid (ran inv conclusion) (ran inv2 conclusion2) rest rest2 t t2 (known, (method, is, call, concluded)) (known2, (method2, is2, call2, concluded2)) input e =
    let same = known_same terms.kinds kind head inv.place inv2.place method method2 known known2 is is2 in
    ran_same terms uid head method method2 inv.place inv2.place inv.arguments inv2.arguments inv.outcome inv2.outcome conclusion conclusion2 bytes bytes2 rest rest2 t t2 same.0 same.1 call call2 concluded concluded2 input e

started_same : (turn turn2 : Turn) (kind kind2 : ℕ) → turn ≡ turn2 → turn.reply ≡ Started kind → turn2.reply ≡ Started kind2 → kind ≡ kind2
started_same turn turn2 kind kind2 same is is2 =
    let replies : Started kind ≡ Started kind2 = sym is ∙ ap (λ (x : Turn). x.reply) same ∙ is2 in
    cc

not_started : (turn turn2 : Turn) (kind : ℕ) → turn ≡ turn2 → turn.reply ≡ NoObject → turn2.reply ≡ Started kind → ⊥
not_started turn turn2 kind same is is2 =
    let replies : NoObject ≡ Started kind = sym is ∙ ap (λ (x : Turn). x.reply) same ∙ is2 in
    cc

abbrev OneServed : AtHead → AtHead → List ℕ → List ℕ → List OutsideAnswer → List OutsideAnswer → Type 0
OneServed s s2 bytes bytes2 t t2 = (s ≡ s2) × (bytes ≡ bytes2) × (t ≡ t2)

-- A Call of one head is served in one way.
pub served_one : (terms : Terms) (head : CallHead) (bytes bytes2 : List ℕ) (uid : Uid) (s s2 : AtHead) (rest rest2 : List ℕ) (t t2 : List OutsideAnswer) → IsServed terms head bytes uid s → IsServed terms head bytes2 uid s2
    → bytes ++ rest ≡ bytes2 ++ rest2 → served_ticks s ++ t ≡ served_ticks s2 ++ t2 → OneServed s s2 bytes bytes2 t t2
served_one terms head bytes bytes2 uid (absent gone) (absent gone2) rest rest2 t t2 ((left, a), none) ((left2, b), none2) input e =
    let moments : gone.moment ≡ gone2.moment = cc in
    let turns : gone.turn ≡ gone2.turn = cc in
    ((λ i. absent (record { moment = moments i; turn = turns i })), front_same head bytes bytes2 rest rest2 left left2 a b input, (cc))
served_one terms head bytes bytes2 uid (absent gone) (refused moment2) rest rest2 t t2 a b input e = absurd (cc)
served_one terms head bytes bytes2 uid (absent gone) (begun start2 r2) rest rest2 t t2 a b input e =
    let turns : gone.turn ≡ start2.turn = cc in absurd (not_started gone.turn start2.turn start2.kind turns a.1 b.0)
served_one terms head bytes bytes2 uid (refused moment) (absent gone2) rest rest2 t t2 a b input e = absurd (cc)
served_one terms head bytes bytes2 uid (refused moment) (refused moment2) rest rest2 t t2 (left, a) (left2, b) input e =
    ((cc), front_same head bytes bytes2 rest rest2 left left2 a b input, (cc))
served_one terms head bytes bytes2 uid (refused moment) (begun start2 r2) rest rest2 t t2 a b input e = absurd (cc)
served_one terms head bytes bytes2 uid (begun start r) (absent gone2) rest rest2 t t2 a b input e =
    let turns : gone2.turn ≡ start.turn = cc in absurd (not_started gone2.turn start.turn start.kind turns b.1 a.0)
served_one terms head bytes bytes2 uid (begun start r) (refused moment2) rest rest2 t t2 a b input e = absurd (cc)
served_one terms head bytes bytes2 uid (begun start r) (begun start2 r2) rest rest2 t t2 (started, a) (started2, b) input e =
    let moments : start.moment ≡ start2.moment = cc in
    let turns : start.turn ≡ start2.turn = cc in
    let same : start.kind ≡ start2.kind = started_same start.turn start2.turn start.kind start2.kind turns started started2 in
    let P : ℕ → Type 0 = λ k. IsRunning terms head k bytes2 uid r2 in
    let later : running_ticks r ++ t ≡ running_ticks r2 ++ t2 = ap (drop 1) e in
    let one = running_one terms head start.kind bytes bytes2 uid r r2 rest rest2 t t2 a (subst P (sym same) b) input later in
    ((λ i. begun (record { moment = moments i; turn = turns i; kind = same i }) (one.0 i)), one.1, one.2)

-- ---- ends in a Call

abbrev pub InCall : List Kind → ℕ → Transcript → List ℕ → ConnEnd → Type 0
InCall kinds at tail rest end = EndsInHead at tail (Some rest) end ⊎ EndsInArguments kinds at tail (Some rest) end

-- What was taken of a head that isn't read whole doesn't begin with a head, within the limit.
pub head_unread : (at : ℕ) (more rest whole xs : List ℕ) (end : ConnEnd) (head : CallHead) (left : ℕ) → BreaksAt head_at (at + 1) (at + MESSAGE_BYTES) more (Some rest) end → IsSettled end
    → EndsWithHead head whole left → at + 1 + length whole ≤ at + MESSAGE_BYTES → whole ++ xs ≡ more ++ rest → ⊥
head_unread at more rest whole xs end head left breaks settled heading within input =
    breaks_read head_at (at + 1) (at + MESSAGE_BYTES) more rest whole xs end breaks settled (λ n r. ((head_bytes head, inside_block (head_bytes head) left, r), head_given n head whole left r heading)) within input

-- Reading doesn't end in the head of a Call that is served.
pub head_not_served : (at : ℕ) (more rest bytes xs : List ℕ) (end : ConnEnd) (head : CallHead) → BreaksAt head_at (at + 1) (at + MESSAGE_BYTES) more (Some rest) end → IsSettled end
    → Begins head bytes → 1 + length bytes ≤ MESSAGE_BYTES → more ++ rest ≡ bytes ++ xs → ⊥
head_not_served at more rest bytes xs end head breaks settled b few input =
    let long : length bytes ≡ length b.front + length b.more = ap (λ (l : List ℕ). length l) b.is ∙ length-append b.front b.more in
    let whole : bytes ++ xs ≡ b.front ++ (b.more ++ xs) = ap (λ (l : List ℕ). l ++ xs) b.is ∙ append_assoc b.front b.more xs in
    head_unread at more rest b.front (b.more ++ xs) end head b.left breaks settled b.heading (omega (arith, few, long)) (sym whole ∙ sym input)

-- what is read behind a head, of the arguments of a method
abbrev ArgumentsBreak : ℕ → List ℕ → ConnEnd → CallHead → List ℕ → ℕ → Method → List ℕ → Type 0
ArgumentsBreak at rest end head front left method more =
    BreaksAt (λ last. serve_to_close last (wants_of method.params) (inside_block (head_bytes head) left)) (at + 1 + length front) (at + MESSAGE_BYTES) more (Some rest) end

head_read_whole : (kinds : List Kind) (at : ℕ) (tail : Transcript) (rest : List ℕ) (end : ConnEnd) (a : EndsInArguments kinds at tail (Some rest) end) → IsSettled end → at + 1 + length a.front ≤ at + MESSAGE_BYTES
head_read_whole kinds at tail rest end a settled =
    breaks_within (λ last. serve_to_close last (wants_of a.method.params) (inside_block (head_bytes a.head) a.left)) (at + 1 + length a.front) (at + MESSAGE_BYTES) a.more rest end a.breaks settled

-- Reading ends in a head or behind it, not both.
head_or_behind : (kinds : List Kind) (at : ℕ) (more rest more2 rest2 : List ℕ) (tail2 : Transcript) (end end2 : ConnEnd) → BreaksAt head_at (at + 1) (at + MESSAGE_BYTES) more (Some rest) end → IsSettled end
    → (a : EndsInArguments kinds at tail2 (Some rest2) end2) → IsSettled end2 → more2 ≡ a.front ++ a.more → more ++ rest ≡ more2 ++ rest2 → ⊥
head_or_behind kinds at more rest more2 rest2 tail2 end end2 breaks settled a settled2 is input =
    let whole : more2 ++ rest2 ≡ a.front ++ (a.more ++ rest2) = ap (λ (l : List ℕ). l ++ rest2) is ∙ append_assoc a.front a.more rest2 in
    head_unread at more rest a.front (a.more ++ rest2) end a.head a.left breaks settled a.heading (head_read_whole kinds at tail2 rest2 end2 a settled2) (sym whole ∙ sym input)

-- what the outside hands in where a call is begun and given up
abbrev ends_ticks : ℕ → Turn → ℕ → ℕ → List OutsideAnswer
ends_ticks moment turn moment2 place = turn_answer moment (Turned turn) ∷ turn_answer moment2 (Abandoned place) ∷ []

ends_ticks_same : (m n : ℕ) (t u : Turn) (m2 n2 p q : ℕ) (more others : List OutsideAnswer) → ends_ticks m t m2 p ++ more ≡ ends_ticks n u n2 q ++ others → (m ≡ n) × (t ≡ u) × (m2 ≡ n2) × (p ≡ q)
ends_ticks_same m n t u m2 n2 p q more others e = ((cc), (cc), (cc), (cc))

arguments_tape : (kinds : List Kind) (at : ℕ) (tail : Transcript) (rest : List ℕ) (end : ConnEnd) (a : EndsInArguments kinds at tail (Some rest) end) → tape tail.acts ≡ ends_ticks a.moment a.turn a.end_moment a.end_place
arguments_tape kinds at tail rest end a = ap (λ (c : Transcript). tape c.acts) a.tail_is ∙ turn_tape a.moment (Begin a.head.id) a.turn (abandon_act a.end_moment a.head.id a.end_place ∷ [])

-- what comes where reading ends in the arguments, by its parts
abbrev tail_of : ObjId → List ℕ → List ℕ → ℕ → Turn → ℕ → ℕ → Transcript
tail_of object front more moment turn moment2 place =
    record { taken = code_byte Call ∷ front ++ more; acts = acts_of moment (Begin object) (Ok turn) ++ abandon_act moment2 object place ∷ []; draws = 0; written = [] }

tail_same : (o o2 : ObjId) (f f2 m m2 : List ℕ) (x x2 : ℕ) (t t2 : Turn) (y y2 p p2 : ℕ) → o ≡ o2 → f ≡ f2 → m ≡ m2 → x ≡ x2 → t ≡ t2 → y ≡ y2 → p ≡ p2 → tail_of o f m x t y p ≡ tail_of o2 f2 m2 x2 t2 y2 p2
tail_same o o2 f f2 m m2 x x2 t t2 y y2 p p2 os fs ms xs ts ys ps =
    ap (λ z. tail_of z f m x t y p) os ∙ ap (λ z. tail_of o2 z m x t y p) fs ∙ ap (λ z. tail_of o2 f2 z x t y p) ms ∙ ap (λ z. tail_of o2 f2 m2 z t y p) xs
    ∙ ap (λ z. tail_of o2 f2 m2 x2 z y p) ts ∙ ap (λ z. tail_of o2 f2 m2 x2 t2 z p) ys ∙ ap (λ z. tail_of o2 f2 m2 x2 t2 y2 z) ps

-- Reading ends in the arguments of a Call in one way.
arguments_one : (kinds : List Kind) (at : ℕ) (tail tail2 : Transcript) (rest rest2 : List ℕ) (end end2 : ConnEnd) (t t2 : List OutsideAnswer) → (a : EndsInArguments kinds at tail (Some rest) end) → IsSettled end
    → (b : EndsInArguments kinds at tail2 (Some rest2) end2) → IsSettled end2 → tail.taken ++ rest ≡ tail2.taken ++ rest2 → tape tail.acts ++ t ≡ tape tail2.acts ++ t2 → (end ≡ end2) × (tail ≡ tail2)
arguments_one kinds at tail tail2 rest rest2 end end2 t t2 a settled b settled2 input ticking =
    let behind : (a.front ++ a.more) ++ rest ≡ (b.front ++ b.more) ++ rest2 =
    ap (drop 1) (sym (ap (λ (c : Transcript). c.taken ++ rest) a.tail_is) ∙ input ∙ ap (λ (c : Transcript). c.taken ++ rest2) b.tail_is) in
    let parts : a.front ++ (a.more ++ rest) ≡ b.front ++ (b.more ++ rest2) = sym (append_assoc a.front a.more rest) ∙ behind ∙ append_assoc b.front b.more rest2 in
    let same = one_front a.head b.head a.front b.front (a.more ++ rest) (b.more ++ rest2) a.left b.left a.heading b.heading parts in
    let heads : a.head ≡ b.head = same_head a.head b.head a.numbers b.numbers same.0 in
    let handed : ends_ticks a.moment a.turn a.end_moment a.end_place ++ t ≡ ends_ticks b.moment b.turn b.end_moment b.end_place ++ t2 =
    ap (λ (l : List OutsideAnswer). l ++ t) (sym (arguments_tape kinds at tail rest end a)) ∙ ticking ∙ ap (λ (l : List OutsideAnswer). l ++ t2) (arguments_tape kinds at tail2 rest2 end2 b) in
    let ticked = ends_ticks_same a.moment b.moment a.turn b.turn a.end_moment b.end_moment a.end_place b.end_place t t2 handed in
    let same_kind : a.kind ≡ b.kind = started_same a.turn b.turn a.kind b.kind ticked.1 a.started b.started in
    let P : ℕ → Type 0 = λ k. IsMethodOf kinds k a.head b.place in
    let Q : CallHead → Type 0 = λ h. IsMethodOf kinds b.kind h b.place in
    let known : IsMethodOf kinds a.kind a.head b.place = subst P (sym same_kind) (subst Q (sym heads) b.known) in
    let method_is : slice_get (methods_of kinds a.kind) b.place ≡ Some b.method = ap (λ k. slice_get (methods_of kinds k) b.place) same_kind ∙ b.method_is in
    let methods = known_same kinds a.kind a.head a.place b.place a.method b.method a.known known a.method_is method_is in
    let R : Method → Type 0 = λ x. ArgumentsBreak at rest2 end2 b.head b.front b.left x b.more in
    let S : ℕ → Type 0 = λ x. ArgumentsBreak at rest2 end2 b.head b.front x a.method b.more in
    let T : List ℕ → Type 0 = λ x. ArgumentsBreak at rest2 end2 b.head x a.left a.method b.more in
    let U : CallHead → Type 0 = λ x. ArgumentsBreak at rest2 end2 x a.front a.left a.method b.more in
    let breaks : ArgumentsBreak at rest2 end2 a.head a.front a.left a.method b.more = subst U (sym heads) (subst T (sym same.2) (subst S (sym same.1) (subst R (sym methods.1) b.breaks))) in
    let one = breaks_one (λ last. serve_to_close last (wants_of a.method.params) (inside_block (head_bytes a.head) a.left)) (at + 1 + length a.front) (at + MESSAGE_BYTES) a.more b.more rest rest2 end end2
    a.breaks settled breaks settled2 same.3 in (
      one.0,
      a.tail_is ∙ tail_same a.head.id b.head.id a.front b.front a.more b.more a.moment b.moment a.turn b.turn a.end_moment b.end_moment a.end_place b.end_place
          (ap (λ (h : CallHead). h.id) heads) same.2 one.1 ticked.0 ticked.1 ticked.2 ticked.3 ∙ sym b.tail_is,
    )

-- A call that is given up isn't served.
not_given_up : (terms : Terms) (head : CallHead) (bytes : List ℕ) (uid : Uid) (moment : ℕ) (turn : Turn) (kind place moment2 place2 : ℕ) (s : AtHead) (t u : List OutsideAnswer) → turn.reply ≡ Started kind → IsMethodOf terms.kinds kind head place
    → IsServed terms head bytes uid s → ends_ticks moment turn moment2 place2 ++ t ≡ served_ticks s ++ u → ⊥
not_given_up terms head bytes uid moment turn kind place moment2 place2 (absent gone3) t u started known (h, none) e =
    let turns : gone3.turn ≡ turn = cc in not_started gone3.turn turn kind turns none started
not_given_up terms head bytes uid moment turn kind place moment2 place2 (refused moment3) t u started known is e = cc
not_given_up terms head bytes uid moment turn kind place moment2 place2 (begun start3 (unknown up4)) t u started known (started2, (h, none)) e =
    let turns : start3.turn ≡ turn = cc in
    let P : ℕ → Type 0 = λ k. HasNoMethod terms.kinds k head in
    none_known terms.kinds kind head place known (subst P (started_same start3.turn turn start3.kind kind turns started2 started) none)
not_given_up terms head bytes uid moment turn kind place moment2 place2 (begun start3 (ran inv3 conclusion)) t u started known is e = cc

-- Reading doesn't end in the arguments of a Call that is served.
arguments_not_served : (terms : Terms) (at : ℕ) (tail : Transcript) (rest : List ℕ) (end : ConnEnd) (head : CallHead) (bytes : List ℕ) (uid : Uid) (s : AtHead) (xs : List ℕ) (t u : List OutsideAnswer)
    → EndsInArguments terms.kinds at tail (Some rest) end → FitsHead head → IsServed terms head bytes uid s → tail.taken ++ rest ≡ code_byte Call ∷ (bytes ++ xs) → tape tail.acts ++ t ≡ tape (served_acts head uid s) ++ u → ⊥
arguments_not_served terms at tail rest end head bytes uid s xs t u a fits is input ticking =
    let b = served_begins terms head bytes uid s is in
    let behind : (a.front ++ a.more) ++ rest ≡ bytes ++ xs = ap (drop 1) (sym (ap (λ (c : Transcript). c.taken ++ rest) a.tail_is) ∙ input) in
    let mine : Begins a.head (a.front ++ a.more) = record { front = a.front; left = a.left; more = a.more; is = refl; heading = a.heading } in
    let heads : a.head ≡ head = begin_same a.head head (a.front ++ a.more) bytes rest xs a.numbers fits mine b behind in
    let P : CallHead → Type 0 = λ h. IsMethodOf terms.kinds a.kind h a.place in
    let handed : ends_ticks a.moment a.turn a.end_moment a.end_place ++ t ≡ served_ticks s ++ u =
    ap (λ (l : List OutsideAnswer). l ++ t) (sym (arguments_tape terms.kinds at tail rest end a)) ∙ ticking ∙ ap (λ (l : List OutsideAnswer). l ++ u) (served_tape terms head bytes uid s is) in
    not_given_up terms head bytes uid a.moment a.turn a.kind a.place a.end_moment a.end_place s t u a.started (subst P heads a.known) is handed

-- ---- a Call in which reading ends, beside others

abbrev OneEnd : ConnEnd → ConnEnd → Transcript → Transcript → List ℕ → List ℕ → Type 0
OneEnd end end2 tail tail2 rest rest2 = (end ≡ end2) × (tail ≡ tail2) × (rest ≡ rest2)

-- The rest of one input is one.
with_rests : (end end2 : ConnEnd) (tail tail2 : Transcript) (rest rest2 : List ℕ) → tail.taken ++ rest ≡ tail2.taken ++ rest2 → end ≡ end2 → tail ≡ tail2 → OneEnd end end2 tail tail2 rest rest2
with_rests end end2 tail tail2 rest rest2 input ends tails = (ends, tails, same_behind tail.taken tail2.taken rest rest2 (ap (λ (c : Transcript). c.taken) tails) input)

-- what comes behind the code of a Call in whose head reading ends
pub head_behind : (at : ℕ) (tail : Transcript) (rest more2 rest2 : List ℕ) (end : ConnEnd) (a : EndsInHead at tail (Some rest) end) → tail.taken ++ rest ≡ code_byte Call ∷ (more2 ++ rest2) → a.0 ++ rest ≡ more2 ++ rest2
head_behind at tail rest more2 rest2 end (more, is, breaks) input = ap (drop 1) (sym (ap (λ (c : Transcript). c.taken ++ rest) is) ∙ input)

-- Reading ends in a Call in one way.
pub in_call_one : (kinds : List Kind) (at : ℕ) (tail tail2 : Transcript) (rest rest2 : List ℕ) (end end2 : ConnEnd) (t t2 : List OutsideAnswer) → InCall kinds at tail rest end → IsSettled end → InCall kinds at tail2 rest2 end2 → IsSettled end2
    → tail.taken ++ rest ≡ tail2.taken ++ rest2 → tape tail.acts ++ t ≡ tape tail2.acts ++ t2 → (end ≡ end2) × (tail ≡ tail2) × (rest ≡ rest2)
in_call_one kinds at tail tail2 rest rest2 end end2 t t2 (inl (more, is, breaks)) settled (inl (more2, is2, breaks2)) settled2 input ticking =
    let behind : more ++ rest ≡ more2 ++ rest2 = head_behind at tail rest more2 rest2 end (more, is, breaks) (input ∙ ap (λ (c : Transcript). c.taken ++ rest2) is2) in
    let one = breaks_one head_at (at + 1) (at + MESSAGE_BYTES) more more2 rest rest2 end end2 breaks settled breaks2 settled2 behind in
    with_rests end end2 tail tail2 rest rest2 input one.0 (is ∙ ap (λ (l : List ℕ). bytes_taken (code_byte Call ∷ l)) one.1 ∙ sym is2)
in_call_one kinds at tail tail2 rest rest2 end end2 t t2 (inl (more, is, breaks)) settled (inr b) settled2 input ticking =
    absurd (head_or_behind kinds at more rest (b.front ++ b.more) rest2 tail2 end end2 breaks settled b settled2 refl
    (head_behind at tail rest (b.front ++ b.more) rest2 end (more, is, breaks) (input ∙ ap (λ (c : Transcript). c.taken ++ rest2) b.tail_is)))
in_call_one kinds at tail tail2 rest rest2 end end2 t t2 (inr a) settled (inl (more2, is2, breaks2)) settled2 input ticking =
    absurd (head_or_behind kinds at more2 rest2 (a.front ++ a.more) rest tail end2 end breaks2 settled2 a settled refl
    (head_behind at tail2 rest2 (a.front ++ a.more) rest end2 (more2, is2, breaks2) (sym input ∙ ap (λ (c : Transcript). c.taken ++ rest) a.tail_is)))
in_call_one kinds at tail tail2 rest rest2 end end2 t t2 (inr a) settled (inr b) settled2 input ticking =
    let one = arguments_one kinds at tail tail2 rest rest2 end end2 t t2 a settled b settled2 input ticking in
    with_rests end end2 tail tail2 rest rest2 input one.0 one.1

-- Reading doesn't end in a Call that is served.
pub in_call_not_served : (terms : Terms) (at : ℕ) (tail : Transcript) (rest : List ℕ) (end : ConnEnd) (head : CallHead) (bytes : List ℕ) (uid : Uid) (s : AtHead) (xs : List ℕ) (t u : List OutsideAnswer)
    → InCall terms.kinds at tail rest end → IsSettled end → FitsHead head → 1 + length bytes ≤ MESSAGE_BYTES → IsServed terms head bytes uid s
    → tail.taken ++ rest ≡ code_byte Call ∷ (bytes ++ xs) → tape tail.acts ++ t ≡ tape (served_acts head uid s) ++ u → ⊥
in_call_not_served terms at tail rest end head bytes uid s xs t u (inl (more, is, breaks)) settled fits few legal input ticking =
    head_not_served at more rest bytes xs end head breaks settled (served_begins terms head bytes uid s legal) few (head_behind at tail rest bytes xs end (more, is, breaks) input)
in_call_not_served terms at tail rest end head bytes uid s xs t u (inr a) settled fits few legal input ticking = arguments_not_served terms at tail rest end head bytes uid s xs t u a fits legal input ticking

-- ---- one exchange

-- A Call of some bytes is served in one way, by one head.
pub exchange_one : (terms : Terms) (head head2 : CallHead) (bytes bytes2 : List ℕ) (uid : Uid) (s s2 : AtHead) (rest rest2 : List ℕ) (t t2 : List OutsideAnswer) → FitsHead head → FitsHead head2
    → IsServed terms head bytes uid s → IsServed terms head2 bytes2 uid s2 → bytes ++ rest ≡ bytes2 ++ rest2 → tape (served_acts head uid s) ++ t ≡ tape (served_acts head2 uid s2) ++ t2
    → (head ≡ head2) × (s ≡ s2) × (bytes ≡ bytes2) × (t ≡ t2)
exchange_one terms head head2 bytes bytes2 uid s s2 rest rest2 t t2 fits fits2 is is2 input ticking =
    let heads : head ≡ head2 = begin_same head head2 bytes bytes2 rest rest2 fits fits2 (served_begins terms head bytes uid s is) (served_begins terms head2 bytes2 uid s2 is2) input in
    let P : CallHead → Type 0 = λ h. IsServed terms h bytes2 uid s2 in
    let handed : served_ticks s ++ t ≡ served_ticks s2 ++ t2 =
    ap (λ (l : List OutsideAnswer). l ++ t) (sym (served_tape terms head bytes uid s is)) ∙ ticking ∙ ap (λ (l : List OutsideAnswer). l ++ t2) (served_tape terms head2 bytes2 uid s2 is2) in
    let one = served_one terms head bytes bytes2 uid s s2 rest rest2 t t2 is (subst P (sym heads) is2) input handed in
    (heads, one.0, one.1, one.2)
