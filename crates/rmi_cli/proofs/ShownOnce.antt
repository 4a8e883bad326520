-- What showing a told input comes to is determined by the input.
use Rattle.std.proofs.Common.{◌≡◌, ℕ, ◌≤◌, ◌<◌, List, [], length, take, Option, Some, Result, Ok, Err, ◌⊎◌, inl, inr, refl, ap, sym, subst, ◌∙◌, arith}
use Rattle.class_desc.specs.declared.slot.Item.{Item}
use Rattle.ser_values.specs.declared.node.Node.{Node}
use Rattle.stream_grammar.specs.Spelled.{IsStream}
use Rattle.stream_grammar.specs.Reading.{Fault, short, bad, too_many, too_deep, stream_of}
use Rattle.stream_grammar.proofs.Complete.{stream_complete}
use Rattle.stream_grammar.proofs.Sound.{Answer}
use Rattle.ser_read.specs.declared.fault.StreamKind.{StreamKind}
use Rattle.ser_read.specs.declared.fault.StreamKind.TheVariants as kinds
use Rattle.ser_read.specs.declared.fault.StreamFault.{StreamFault}
use Rattle.ser_read.specs.declared.fault.StreamFault.TheVariants as faults
use Rattle.ser_read.specs.declared.fault.Large.TheVariants.{Bytes, Nodes, Depth}
use Rattle.ser_read.specs.Here.{Fails, IsInBytes, kind_of, stream_kind}
use Rattle.ser_read.specs.Whole.{stream_at, going_on}
use Rattle.graph_text.specs.GraphText.{graph_text}
use Rattle.wire_io.specs.Wire.{Wires, with_end}
use Rattle.rmi_cli.specs.declared.end.RunEnd.{RunEnd}
use Rattle.rmi_cli.specs.declared.end.RunEnd.TheVariants as ends
use Rattle.rmi_cli.specs.Answer.{IsOutsideStatus}
use Rattle.rmi_cli.specs.Line.{status_of_fault}
use Rattle.ser_values.specs.declared.limits.TheConstants.{MESSAGE_BYTES}
use Rattle.rmi_cli.specs.Shown.{TakesGraph, ShowEnds, told_fault, EndsExactly, ShowsExactly}
use Rattle.rmi_cli.specs.Told.{Reported, TellsExactly, TellsEnd}
use Rattle.rmi_cli.proofs.Once.{whole_is}

-- ---- faults

same_kind : (kind : StreamKind) → IsInBytes kind → stream_kind (kind_of kind) ≡ kind
same_kind kinds.BadMagic is = refl
same_kind kinds.BadCode is = refl
same_kind kinds.BadHandle is = refl
same_kind kinds.WrongHandleKind is = refl
same_kind kinds.BadDesc is = refl
same_kind kinds.BadUtf is = refl
same_kind kinds.NegativeLength is = refl
same_kind kinds.BlockLeft is = absurd is
same_kind kinds.MissingBlock is = absurd is
same_kind kinds.Reset is = refl
same_kind kinds.InnerException is = refl
same_kind kinds.OldExternal is = refl

abbrev stopped : (Y : Type 0) → Fault → Result Y Fault
stopped Y f = Err f

stop_is : (Y : Type 0) (f g : Fault) → stopped Y f ≡ stopped Y g → f ≡ g
stop_is Y f g e = cc

-- The fault that is told where reading stops is that of the stop, or the outside's.
told_or_outside : (Y : Type 0) (after e : StreamFault) (f : Fault) → Fails after e (stopped Y f) → (e ≡ told_fault after f) ⊎ IsOutsideStatus (status_of_fault e)
told_or_outside Y after faults.OutOfMemory f is = inr (inr (inr refl))
told_or_outside Y after faults.ReadFault f is = inr (inl refl)
told_or_outside Y after (faults.Truncated at) f is = inl (sym is.1 ∙ ap (told_fault after) (sym (stop_is Y f short is.0)))
told_or_outside Y after (faults.TooLarge Bytes at) f is = inl (sym is.1 ∙ ap (told_fault after) (sym (stop_is Y f short is.0)))
told_or_outside Y after (faults.TooLarge Nodes at) f is = inl (ap (told_fault after) (sym (stop_is Y f (too_many at) is)))
told_or_outside Y after (faults.TooLarge Depth at) f is = inl (ap (told_fault after) (sym (stop_is Y f (too_deep at) is)))
told_or_outside Y after (faults.Bad kind at) f is =
    inl (ap (λ k. faults.Bad k at) (sym (same_kind kind is.1)) ∙ ap (told_fault after) (sym (stop_is Y f (bad (kind_of kind) at) is.0)))

no_stop : {Y : Type 0} (y : Y) (f : Fault) → Ok y ≡ Err f → ⊥
no_stop y f e = cc

-- Where reading gives something, a fault is the outside's.
read_or_outside : {Y : Type 0} (after e : StreamFault) (y : Y) → Fails after e (Ok y) → IsOutsideStatus (status_of_fault e)
read_or_outside after faults.OutOfMemory y is = inr (inr refl)
read_or_outside after faults.ReadFault y is = inl refl
read_or_outside after (faults.Truncated at) y is = absurd (no_stop y short is.0)
read_or_outside after (faults.TooLarge Bytes at) y is = absurd (no_stop y short is.0)
read_or_outside after (faults.TooLarge Nodes at) y is = absurd (no_stop y (too_many at) is)
read_or_outside after (faults.TooLarge Depth at) y is = absurd (no_stop y (too_deep at) is)
read_or_outside after (faults.Bad kind at) y is = absurd (no_stop y (bad (kind_of kind) at) is.0)

-- ---- the whole input

record TookAll (left : Option (List ℕ)) (nodes : List Node) (items : List Item) (input : List ℕ) : Type 0 where
  within : length input ≤ MESSAGE_BYTES
  nothing : left ≡ Some []
  read : stream_of input ≡ Ok (nodes, items)

took_all : (before after : Option (List ℕ)) (nodes : List Node) (items : List Item) (input : List ℕ) → TakesGraph before after nodes items → before ≡ Some input → TookAll after nodes items input
took_all before after nodes items input takes told =
    let all = whole_is input takes.input after (sym told ∙ takes.left) takes.nothing in
    record {
      within = subst (λ (i : List ℕ). length i ≤ MESSAGE_BYTES) all.0 takes.short;
      nothing = all.1;
      read = subst (λ (i : List ℕ). stream_of i ≡ Ok (nodes, items)) all.0 takes.read;
    }

abbrev given : Answer → Result Answer Fault
given x = Ok x

same_answer : (x y : Answer) → given x ≡ given y → x ≡ y
same_answer x y e = cc

-- The text of a stream's graph is written.
text_is : (old new : Wires) (nodes others : List Node) (items contents : List Item) (input : List ℕ) → TookAll new.left nodes items input → IsStream others contents input
    → new.held ≡ with_end old.held (graph_text nodes items) → new.held ≡ with_end old.held (graph_text others contents)
text_is old new nodes others items contents input all is held =
    let same : (nodes, items) ≡ (others, contents) = same_answer (nodes, items) (others, contents) (sym all.read ∙ stream_complete others contents input is) in
    subst (λ (x : Answer). new.held ≡ with_end old.held (graph_text x.0 x.1)) same held

-- What was read through stops nowhere.
reads_on : (left : Option (List ℕ)) (nodes : List Node) (items : List Item) (input : List ℕ) (f : Fault) → TookAll left nodes items input → stream_of input ≡ Err f → ⊥
reads_on left nodes items input f all stops = no_stop (nodes, items) f (sym all.read ∙ stops)

no_room : (left : Option (List ℕ)) (nodes : List Node) (items : List Item) (input : List ℕ) → TookAll left nodes items input → MESSAGE_BYTES < length input → ⊥
no_room left nodes items input all long = omega (arith, all.within, long)

-- ---- ends

-- An end at a fault at which reading stops.
abbrev Ended : Wires → Wires → StreamFault → StreamFault → Fault → Type 0
Ended old new fault after f = ((ends.NotShown fault ≡ ends.NotShown (told_fault after f)) × (new.held ≡ old.held)) ⊎ IsOutsideStatus (status_of_fault fault)

ended_at : {Y : Type 0} (old new : Wires) (fault after : StreamFault) (f : Fault) (read : Result Y Fault) → new.held ≡ old.held → Fails after fault read → read ≡ Err f → Ended old new fault after f
ended_at {Y} old new fault after f read held fails stops =
    elim (told_or_outside Y after fault f (subst (λ (r : Result Y Fault). Fails after fault r) stops fails)) [
      | inl same ↦ inl (ap ends.NotShown same, held)
      | inr outside ↦ inr outside
    ]

-- What a stream came to.
outside_stops : (fault after : StreamFault) (nodes : List Node) (items : List Item) (input : List ℕ) → IsStream nodes items input → Fails after fault (stream_of input) → IsOutsideStatus (status_of_fault fault)
outside_stops fault after nodes items input is fails =
    read_or_outside after fault (nodes, items) (subst (λ (r : Result Answer Fault). Fails after fault r) (stream_complete nodes items input is) fails)

-- What ended so ended exactly so.
pub ends_exactly : (old new : Wires) (end : RunEnd) → ShowEnds old new end → EndsExactly old new end
ends_exactly old new ends.Done (nodes, items, takes, held) = record {
  stream = λ others contents input told short is.
      let all = took_all old.left new.left nodes items input takes told in
      inl (refl, all.nothing, text_is old new nodes others items contents input all is held);
  within = λ input f told short stops. absurd (reads_on new.left nodes items input f (took_all old.left new.left nodes items input takes told) stops);
  past = λ input f told long stops. absurd (no_room new.left nodes items input (took_all old.left new.left nodes items input takes told) long);
}
ends_exactly old new ends.Usage e = absurd e
ends_exactly old new (ends.Answered end) e = absurd e
ends_exactly old new (ends.Talked end) e = absurd e
ends_exactly old new (ends.BadLine line) e = absurd e
ends_exactly old new ends.Refused e = absurd e
ends_exactly old new (ends.TooLarge limit) e = absurd e
ends_exactly old new (ends.NotShown fault) (is_fault, stops_at, held) = record {
  stream = λ nodes items input told short is. inr (outside_stops fault (faults.Truncated (length input)) nodes items input is (is_fault.within input told short));
  within = λ input f told short stops. ended_at old new fault (faults.Truncated (length input)) f (stream_of input) held (is_fault.within input told short) stops;
  past = λ input f told long stops.
      ended_at old new fault (faults.TooLarge Bytes MESSAGE_BYTES) f (going_on (stream_at MESSAGE_BYTES (take MESSAGE_BYTES input))) held (is_fault.past input told long) stops;
}
ends_exactly old new ends.ListenFault e = absurd e
ends_exactly old new ends.AcceptFault e = absurd e
ends_exactly old new ends.ReadFault e = absurd e
ends_exactly old new ends.WriteFault e = record {
  stream = λ nodes items input told short is. inr (inr (inl refl));
  within = λ input f told short stops. inr (inr (inl refl));
  past = λ input f told long stops. inr (inr (inl refl));
}
ends_exactly old new ends.OutOfMemory e = record {
  stream = λ nodes items input told short is. inr (inr (inr refl));
  within = λ input f told short stops. inr (inr (inr refl));
  past = λ input f told long stops. inr (inr (inr refl));
}

-- What ended exactly so, and is told, is exact.
pub shows_exactly : (old new : Wires) (told : Reported) (end : RunEnd) → EndsExactly old new end → TellsEnd told end → ShowsExactly old new told
shows_exactly old new told end exact (inr memory) = record {
  stream = λ nodes items input left short is. inr (inr (inr memory.1.0));
  within = λ input f left short stops. inr (inr (inr memory.1.0));
  past = λ input f left long stops. inr (inr (inr memory.1.0));
}
shows_exactly old new told end exact (inl tells) = record {
  stream = λ nodes items input left short is. elim (exact.stream nodes items input left short is) [
    | inl had ↦ inl (subst (λ (e : RunEnd). TellsExactly told e) had.0 tells, had.1, had.2)
    | inr outside ↦ inr (subst IsOutsideStatus (sym tells.0) outside)
  ];
  within = λ input f left short stops. elim (exact.within input f left short stops) [
    | inl had ↦ inl (subst (λ (e : RunEnd). TellsExactly told e) had.0 tells, had.1)
    | inr outside ↦ inr (subst IsOutsideStatus (sym tells.0) outside)
  ];
  past = λ input f left long stops. elim (exact.past input f left long stops) [
    | inl had ↦ inl (subst (λ (e : RunEnd). TellsExactly told e) had.0 tells, had.1)
    | inr outside ↦ inr (subst IsOutsideStatus (sym tells.0) outside)
  ];
}
