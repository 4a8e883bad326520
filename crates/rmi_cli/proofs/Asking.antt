-- What is said of a command that asks a server.
use Rattle.std.proofs.Common.{◌≡◌, ◌≢◌, ◌⊎◌, ◌∙◌, ℕ, List, Option, Result, Ok, Err, inl, inr, refl, sym, ap, subst, arith}
use Rattle.wire_io.specs.Wire.{Rose}
use Rattle.rmi_client.specs.declared.end.ClientEnd.TheVariants as ends
use Rattle.dgc_client.specs.declared.plan.ClientFault.TheVariants as refusals
use Rattle.client_talk.specs.Scripts.{Cause, Script, by_read, by_write}
use Rattle.client_talk.specs.Rmi.{cause_of, rmi}
use Rattle.client_talk.specs.Steps.{BlamesBy, Spoke}
use Rattle.client_talk.specs.Commands.{bind_script, list_script, lookup_script, unbind_script}
use Rattle.client_talk.proofs.Leaving.{spoke_nothing}
use Rattle.client_talk.specs.declared.end.CommandEnd.{CommandEnd}
use Rattle.client_talk.specs.declared.end.CommandEnd.TheVariants.{DialFault, Session, Table}
use Rattle.client_talk.specs.declared.place.Place.{Place}
use Rattle.java_shapes.specs.declared.ref_views.LiveRef.{LiveRef}
use Rattle.rmi_words.specs.declared.client.ServerAddress.{ServerAddress}
use Rattle.rmi_words.specs.declared.client.ClientCommand.{ClientCommand}
use Rattle.rmi_words.specs.declared.client.ClientCommand.TheVariants.{List as ListNames, Lookup, Bind, Unbind}
use Rattle.rmi_words.specs.declared.command.Command.{Command}
use Rattle.rmi_words.specs.declared.command.Command.TheVariants.{Client}
use Rattle.rmi_cli.specs.Line.{status_of_run}
use Rattle.rmi_cli.specs.Talked.{Asks, AsksBy, AsksServer, LinkFailed, PrintsAnswer, Side, SinkFailed, names_text, ok_text, place_of, reference_text}
use Rattle.rmi_cli.specs.TalkEnds.{status_of_talk}
use Rattle.rmi_cli.specs.Told.{Reported, TellsExactly}
use Rattle.rmi_cli.specs.declared.end.RunEnd.{RunEnd}
use Rattle.rmi_cli.specs.declared.end.RunEnd.TheVariants.{Done, Talked, OutOfMemory}

-- ---- each command, by the place that is dialled

pub asks_list : (command : ClientCommand) (server : ServerAddress) (place : Place) (old new : Side) (given : Option (List ℕ)) (end : RunEnd) (answer : Result (List (List ℕ)) CommandEnd) → command ≡ ListNames server → place ≡ place_of server
    → Spoke (list_script place) old.dialing.dialed new.dialing.dialed old.talked new.talked given given answer → (answer ≡ Err DialFault → Rose old.dialing.faults new.dialing.faults)
    → PrintsAnswer names_text old.output new.output answer end → AsksBy command old new given given end
asks_list command server place old new given end answer is at spoke fault prints =
    let P : Place → Type 0 = λ x. Asks (list_script x) names_text old new given given end in
    let Q : ClientCommand → Type 0 = λ c. AsksBy c old new given given end in
    subst Q (sym is) (subst P at (record { answer = answer; spoke = spoke; fault = fault; prints = prints }))

pub asks_lookup : (command : ClientCommand) (server : ServerAddress) (name : List ℕ) (place : Place) (old new : Side) (given : Option (List ℕ)) (end : RunEnd) (answer : Result LiveRef CommandEnd) → command ≡ Lookup server name → place ≡ place_of server
    → Spoke (lookup_script place name) old.dialing.dialed new.dialing.dialed old.talked new.talked given given answer → (answer ≡ Err DialFault → Rose old.dialing.faults new.dialing.faults)
    → PrintsAnswer reference_text old.output new.output answer end → AsksBy command old new given given end
asks_lookup command server name place old new given end answer is at spoke fault prints =
    let P : Place → Type 0 = λ x. Asks (lookup_script x name) reference_text old new given given end in
    let Q : ClientCommand → Type 0 = λ c. AsksBy c old new given given end in
    subst Q (sym is) (subst P at (record { answer = answer; spoke = spoke; fault = fault; prints = prints }))

pub asks_bind : (command : ClientCommand) (server : ServerAddress) (name from : List ℕ) (place : Place) (old new : Side) (given : Option (List ℕ)) (end : RunEnd) (answer : Result (Unit {0}) CommandEnd) → command ≡ Bind server name from → place ≡ place_of server
    → Spoke (bind_script place name from) old.dialing.dialed new.dialing.dialed old.talked new.talked given given answer → (answer ≡ Err DialFault → Rose old.dialing.faults new.dialing.faults)
    → PrintsAnswer ok_text old.output new.output answer end → AsksBy command old new given given end
asks_bind command server name from place old new given end answer is at spoke fault prints =
    let P : Place → Type 0 = λ x. Asks (bind_script x name from) ok_text old new given given end in
    let Q : ClientCommand → Type 0 = λ c. AsksBy c old new given given end in
    subst Q (sym is) (subst P at (record { answer = answer; spoke = spoke; fault = fault; prints = prints }))

pub asks_unbind : (command : ClientCommand) (server : ServerAddress) (name : List ℕ) (place : Place) (old new : Side) (given : Option (List ℕ)) (end : RunEnd) (answer : Result (Unit {0}) CommandEnd) → command ≡ Unbind server name → place ≡ place_of server
    → Spoke (unbind_script place name) old.dialing.dialed new.dialing.dialed old.talked new.talked given given answer → (answer ≡ Err DialFault → Rose old.dialing.faults new.dialing.faults)
    → PrintsAnswer ok_text old.output new.output answer end → AsksBy command old new given given end
asks_unbind command server name place old new given end answer is at spoke fault prints =
    let P : Place → Type 0 = λ x. Asks (unbind_script x name) ok_text old new given given end in
    let Q : ClientCommand → Type 0 = λ c. AsksBy c old new given given end in
    subst Q (sym is) (subst P at (record { answer = answer; spoke = spoke; fault = fault; prints = prints }))

-- ---- one command

same_client : (a b : ClientCommand) → Client a ≡ Client b → a ≡ b
same_client a b same = cc

-- The command that is named twice was asked, and that is told.
pub asks_named : (command : Command) (a b : ClientCommand) (old new : Side) (given given2 : Option (List ℕ)) (told : Reported) → command ≡ Client a → command ≡ Client b
    → AsksServer a old new given given2 told → AsksServer b old new given given2 told
asks_named command a b old new given given2 told is is2 = subst (λ (c : ClientCommand). AsksServer c old new given given2 told) (same_client a b (sym is ∙ is2))

-- ---- want of memory

nothing_asked : {V : Type 0} (s : Script rmi V) (text : V → List ℕ) (old : Side) (given : Option (List ℕ)) → Asks s text old old given given (Talked (Session ends.OutOfMemory))
nothing_asked {V} s text old given = record { answer = Err (Session ends.OutOfMemory); spoke = spoke_nothing s old.dialing.dialed old.talked given; fault = no_dial; prints = (refl, refl) }
  where
    no_dial : ◌≡◌ {A = Result V CommandEnd} (Err (Session ends.OutOfMemory)) (Err DialFault) → Rose old.dialing.faults old.dialing.faults
    no_dial e = cc

none_asked : (command : ClientCommand) (old : Side) (given : Option (List ℕ)) → AsksBy command old old given given (Talked (Session ends.OutOfMemory))
none_asked (ListNames server) old given = nothing_asked (list_script (place_of server)) names_text old given
none_asked (Lookup server name) old given = nothing_asked (lookup_script (place_of server) name) reference_text old given
none_asked (Bind server name from) old given = nothing_asked (bind_script (place_of server) name from) ok_text old given
none_asked (Unbind server name) old given = nothing_asked (unbind_script (place_of server) name) ok_text old given

-- Nothing was asked where there was no memory to read the words.
pub asks_none : (command : ClientCommand) (old : Side) (given : Option (List ℕ)) (told : Reported) → TellsExactly told OutOfMemory → AsksServer command old old given given told
asks_none command old given told tells = (Talked (Session ends.OutOfMemory), none_asked command old given, inr (not_done, tells))
  where
    not_done : Talked (Session ends.OutOfMemory) ≢ Done
    not_done e = cc

-- ---- causes

-- What is said of the causes of an end.
pub record Causes (old new : Side) (end : RunEnd) : Type 0 where
  pub known : status_of_run end ≢ 1
  pub link : status_of_run end ≡ 3 → LinkFailed old new
  pub sink : status_of_run end ≡ 4 → SinkFailed old new

-- The same of the end of a talk.
record TalkCauses (stop : CommandEnd) : Type 0 where
  known : status_of_talk stop ≢ 1
  link : status_of_talk stop ≡ 3 → (cause_of stop ≡ by_read) ⊎ (stop ≡ DialFault)
  sink : status_of_talk stop ≡ 4 → cause_of stop ≡ by_write

other : (stop : CommandEnd) (n : ℕ) → status_of_talk stop ≡ n → n ≢ 1 → n ≢ 3 → n ≢ 4 → TalkCauses stop
other stop n is one three four = record {
  known = λ e. one (sym is ∙ e);
  link = λ e. absurd (three (sym is ∙ e));
  sink = λ e. absurd (four (sym is ∙ e));
}

two : (stop : CommandEnd) → status_of_talk stop ≡ 2 → TalkCauses stop
two stop is = other stop 2 is (λ e. omega (arith, e)) (λ e. omega (arith, e)) (λ e. omega (arith, e))

five : (stop : CommandEnd) → status_of_talk stop ≡ 5 → TalkCauses stop
five stop is = other stop 5 is (λ e. omega (arith, e)) (λ e. omega (arith, e)) (λ e. omega (arith, e))

six : (stop : CommandEnd) → status_of_talk stop ≡ 6 → TalkCauses stop
six stop is = other stop 6 is (λ e. omega (arith, e)) (λ e. omega (arith, e)) (λ e. omega (arith, e))

talk_causes : (stop : CommandEnd) → TalkCauses stop
talk_causes DialFault = record { known = λ e. omega (arith, e); link = λ e. inr refl; sink = λ e. absurd (omega (arith, e)) }
talk_causes (Session ends.ReadFault) = record { known = λ e. omega (arith, e); link = λ e. inl refl; sink = λ e. absurd (omega (arith, e)) }
talk_causes (Session (ends.WriteFault n)) = record { known = λ e. omega (arith, e); link = λ e. absurd (omega (arith, e)); sink = λ e. refl }
talk_causes (Session ends.Nack) = two (Session ends.Nack) refl
talk_causes (Session (ends.BadReply kind at)) = two (Session (ends.BadReply kind at)) refl
talk_causes (Session (ends.Truncated at)) = two (Session (ends.Truncated at)) refl
talk_causes (Session ends.OutOfMemory) = five (Session ends.OutOfMemory) refl
talk_causes (Session (ends.TooLarge what at)) = six (Session (ends.TooLarge what at)) refl
talk_causes (Session ends.Over) = six (Session ends.Over) refl
talk_causes (Session (ends.RemoteFault text)) = other (Session (ends.RemoteFault text)) 7 refl (λ e. omega (arith, e)) (λ e. omega (arith, e)) (λ e. omega (arith, e))
talk_causes (Table refusals.OutOfMemory) = five (Table refusals.OutOfMemory) refl
talk_causes (Table refusals.NumbersSpent) = six (Table refusals.NumbersSpent) refl
talk_causes (Table refusals.FullRefs) = six (Table refusals.FullRefs) refl

module _ {V : Type 0} (s : Script rmi V) (text : V → List ℕ) (old new : Side) (given given2 : Option (List ℕ)) (end : RunEnd) where
  -- A talk that went no further.
  stopped : (stop : CommandEnd) → end ≡ Talked stop → Spoke s old.dialing.dialed new.dialing.dialed old.talked new.talked given given2 (Err stop)
      → (stop ≡ DialFault → Rose old.dialing.faults new.dialing.faults) → Causes old new end
  stopped stop is spoke dial =
      let causes = talk_causes stop in
      let status : status_of_run end ≡ status_of_talk stop = ap status_of_run is in
      let blamed : (c : Cause) → cause_of stop ≡ c → BlamesBy c spoke.left = λ c same. subst (λ x. BlamesBy x spoke.left) same spoke.blames in record {
        known = λ e. causes.known (sym status ∙ e);
        link = λ e. elim (causes.link (sym status ∙ e)) [
          | inl read ↦ inr (spoke.left, spoke.talked_are, blamed by_read read)
          | inr dialed ↦ inl (dial dialed)
        ];
        sink = λ e. inr (spoke.left, spoke.talked_are, blamed by_write (causes.sink (sym status ∙ e)));
      }

  -- What a talk answered was printed.
  printed : (value : V) → PrintsAnswer text old.output new.output (Ok value) end → Causes old new end
  printed value (inl done) =
      let is : status_of_run end ≡ 0 = ap status_of_run done.0 in
      record { known = λ e. omega (arith, is, e); link = λ e. absurd (omega (arith, is, e)); sink = λ e. absurd (omega (arith, is, e)) }
  printed value (inr (inl wrote)) =
      let is : status_of_run end ≡ 4 = ap status_of_run wrote.0 in
      record { known = λ e. omega (arith, is, e); link = λ e. absurd (omega (arith, is, e)); sink = λ e. inl wrote.2 }
  printed value (inr (inr none)) =
      let is : status_of_run end ≡ 5 = ap status_of_run none.0 in
      record { known = λ e. omega (arith, is, e); link = λ e. absurd (omega (arith, is, e)); sink = λ e. absurd (omega (arith, is, e)) }

  causes_by : (answer : Result V CommandEnd) → Spoke s old.dialing.dialed new.dialing.dialed old.talked new.talked given given2 answer
      → (answer ≡ Err DialFault → Rose old.dialing.faults new.dialing.faults) → PrintsAnswer text old.output new.output answer end → Causes old new end
  causes_by (Ok value) spoke dial prints = printed value prints
  causes_by (Err stop) spoke dial prints = stopped stop prints.0 spoke (λ e. dial (ap (λ (x : CommandEnd). Err x) e))

  pub causes_of : Asks s text old new given given2 end → Causes old new end
  causes_of a = causes_by a.answer a.spoke a.fault a.prints

-- The causes of the end of each command.
pub asks_causes : (command : ClientCommand) (old new : Side) (given given2 : Option (List ℕ)) (end : RunEnd) → AsksBy command old new given given2 end → Causes old new end
asks_causes (ListNames server) old new given given2 end a = causes_of (list_script (place_of server)) names_text old new given given2 end a
asks_causes (Lookup server name) old new given given2 end a = causes_of (lookup_script (place_of server) name) reference_text old new given given2 end a
asks_causes (Bind server name from) old new given given2 end a = causes_of (bind_script (place_of server) name from) ok_text old new given given2 end a
asks_causes (Unbind server name) old new given given2 end a = causes_of (unbind_script (place_of server) name) ok_text old new given given2 end a

-- A status that is the end's, or 5, has the end's causes.
told_is : (n status : ℕ) (end : RunEnd) → (status ≡ status_of_run end) ⊎ (status ≡ 5) → status ≡ n → n ≢ 5 → status_of_run end ≡ n
told_is n status end (inl same) is not = sym same ∙ is
told_is n status end (inr none) is not = absurd (not (sym is ∙ none))

pub known_told : (old new : Side) (status : ℕ) (end : RunEnd) → Causes old new end → (status ≡ status_of_run end) ⊎ (status ≡ 5) → status ≢ 1
known_told old new status end causes told one = causes.known (told_is 1 status end told one (λ e. omega (arith, e)))

pub link_told : (old new : Side) (status : ℕ) (end : RunEnd) → Causes old new end → (status ≡ status_of_run end) ⊎ (status ≡ 5) → status ≡ 3 → LinkFailed old new
link_told old new status end causes told three = causes.link (told_is 3 status end told three (λ e. omega (arith, e)))

pub sink_told : (old new : Side) (status : ℕ) (end : RunEnd) → Causes old new end → (status ≡ status_of_run end) ⊎ (status ≡ 5) → status ≡ 4 → SinkFailed old new
sink_told old new status end causes told four = causes.sink (told_is 4 status end told four (λ e. omega (arith, e)))
