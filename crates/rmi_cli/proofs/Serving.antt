-- What serving one connection over a space of its own says.
use Rattle.std.proofs.Common.{◌≡◌, Bool, ℕ, List, [], ◌++◌, Option, Some, refl, ap, sym, subst, ◌∙◌, inl, inr, append-nil}
use Rattle.std.specs.List.{flat_map}
use Rattle.wire_io.specs.Wire.{Wires, with_end, with_front-nothing, with_end-nothing, Gave-nothing}
use Rattle.space.specs.Built.{SpaceHistory}
use Rattle.ports.specs.Ports.{Went}
use Rattle.ports.specs.Ties.{Leads}
use Rattle.space.specs.declared.asked.Asked.{Asked}
use Rattle.call_dispatch.specs.declared.outcome.Invocation.{Invocation}
use Rattle.call_dispatch.specs.declared.outcome.Outcome.{Outcome}
use Rattle.call_dispatch.specs.declared.end.ConnEnd.{ConnEnd}
use Rattle.call_dispatch.specs.declared.end.ConnEnd.TheVariants.{OutOfMemory}
use Rattle.system_objects.specs.Terms.{Terms}
use Rattle.call_dispatch.specs.Acts.{Act, Call, States, entries, calls, Moves, LeadsStates as WorkerLeads}
use Rattle.call_dispatch.specs.ConnectionState.{ConnectionState, Transcript, bytes_taken}
use Rattle.call_dispatch.specs.Dialogue.{nothing, Dialogue}
use Rattle.call_dispatch.specs.Tape.{OutsideAnswer, tape}
use Rattle.call_dispatch.specs.Progress.{IsServedFrom, Settles}
use Rattle.call_dispatch.proofs.Invoking.{dialogue_invokes}
use Rattle.call_dispatch.proofs.Completing.{dialogue_completes}
use Rattle.sample_app.specs.Opened.{sample_events}
use Rattle.sample_app.specs.Does as sample
use Rattle.rmi_cli.specs.Answer.{answer_terms, IsOnly, ServesOne, ServesExactly}
use Rattle.rmi_cli.specs.Opening.{served_space, served_opening}
use Rattle.rmi_words.specs.declared.options.LeaseOptions.{LeaseOptions}

-- A dialogue on these terms, before which so much was drawn, is one on the same.
dialogue_is : (terms terms2 : Terms) (drawn drawn2 : ℕ) (c : Transcript) (rest : Option (List ℕ)) (end : ConnEnd) → terms ≡ terms2 → drawn ≡ drawn2
    → Dialogue terms drawn c rest end → Dialogue terms2 drawn2 c rest end
dialogue_is terms terms2 drawn drawn2 c rest end same none dialogue =
    let P : Terms → Type 0 = λ t. Dialogue t drawn2 c rest end in
    let Q : ℕ → Type 0 = λ n. Dialogue terms n c rest end in
    subst P same (subst Q none dialogue)

-- The events of the connection's turns follow those of the sample space.
went_is : (seed : List ℕ) (given : LeaseOptions) (by : ℕ) (s s2 : SpaceHistory) (asked asked2 : List Asked) (acts : List Act) → by ≡ 1 → s ≡ served_opening seed given
    → asked ≡ [] → asked2 ≡ asked ++ flat_map entries acts → Leads by s asked s2 asked2 → Went (served_space seed given) 1 (sample_events (served_space seed given)) (flat_map entries acts) s2.events
went_is seed given by s s2 asked asked2 acts one fresh none led leads =
    let same : leads.more ≡ flat_map entries acts = ap (λ l. l ++ leads.more) (sym none) ∙ sym leads.longer ∙ led ∙ ap (λ l. l ++ flat_map entries acts) none in
    let P : SpaceHistory → Type 0 = λ x. Went x.configuration by x.events leads.more s2.events in
    let Q : ℕ → Type 0 = λ n. Went (served_space seed given) n (sample_events (served_space seed given)) leads.more s2.events in
    let R : List Asked → Type 0 = λ l. Went (served_space seed given) 1 (sample_events (served_space seed given)) l s2.events in
    subst R same (subst Q one (subst P fresh leads.went))

-- What settles a course on these terms settles it on the same.
only_is : (terms : Terms) (seed : List ℕ) (binding : Bool) (start now : ConnectionState) (c : Transcript) (result : ConnEnd) → terms ≡ answer_terms seed binding → start.drawn ≡ 0
    → Settles terms start now c result → IsOnly seed binding start.wires now.wires c result
unfolding Settles
only_is terms seed binding start now c result same none settles other rest end t t2 told dialogue settled settled2 answers =
    settles other rest end t t2 told (dialogue_is (answer_terms seed binding) terms 0 start.drawn other (Some rest) end (sym same) (sym none) dialogue) settled settled2 answers

-- What a worker tells that had counted nothing is counted from no numbers on.
counted_is : (before after : Option States) (numbers numbers2 : States) (told : List Call) → before ≡ Some numbers → numbers ≡ [] → after ≡ Some numbers2
    → WorkerLeads sample.Moves before told after → Moves sample.Moves [] told numbers2
counted_is before after numbers numbers2 told is none is2 leads =
    let P : Option States → Type 0 = λ b. WorkerLeads sample.Moves b told after in
    let Q : Option States → Type 0 = λ a. WorkerLeads sample.Moves (Some []) told a in
    subst Q is2 (subst P (is ∙ ap Some none) leads)

-- A connection that was served on the terms of the seed, over the sample space and by a sample worker that had counted nothing.
pub serves_one : (seed : List ℕ) (given : LeaseOptions) (terms : Terms) (start now : ConnectionState) (by : ℕ) (s s2 : SpaceHistory) (numbers numbers2 : States) (end : ConnEnd)
    → terms ≡ answer_terms seed given.binding → start.drawn ≡ 0 → start.side.asked ≡ [] → by ≡ 1
    → s ≡ served_opening seed given → Leads by s start.side.asked s2 now.side.asked → IsServedFrom sample.May sample.Moves terms start now end
    → start.side.state ≡ Some numbers → numbers ≡ [] → now.side.state ≡ Some numbers2
    → ServesOne seed given start.wires now.wires start.side.given now.side.given end
serves_one seed given terms start now by s s2 numbers numbers2 end same none empty one opened leads served told uncounted told2 = record {
  course = served.transcript;
  left = served.talks.goes.left;
  held = served.talks.goes.held;
  dialogue = dialogue_is terms (answer_terms seed given.binding) start.drawn 0 served.transcript now.wires.left end same none served.talks.dialogue;
  once = dialogue_invokes (answer_terms seed given.binding) 0 served.transcript now.wires.left end
      (dialogue_is terms (answer_terms seed given.binding) start.drawn 0 served.transcript now.wires.left end same none served.talks.dialogue);
  complete = dialogue_completes (answer_terms seed given.binding) 0 start.wires.left served.transcript now.wires.left end served.talks.goes.left
      (dialogue_is terms (answer_terms seed given.binding) start.drawn 0 served.transcript now.wires.left end same none served.talks.dialogue);
  only = only_is terms seed given.binding start now served.transcript end same none served.settles;
  given = served.talks.goes.led.given;
  events = s2.events;
  went = went_is seed given by s s2 start.side.asked now.side.asked served.transcript.acts one opened empty served.talks.goes.led.asked leads;
  may_all = served.talks.goes.led.may_all;
  numbers = numbers2;
  counted = counted_is start.side.state now.side.state numbers numbers2 (flat_map calls served.transcript.acts) told uncounted told2 served.talks.goes.led.state;
}

-- It went as each settled dialogue of its input says that has no acts.
pub serves_exactly : (may : Invocation → Outcome → Type 0) (moves : States → Call → States → Type 0) (seed : List ℕ) (given : LeaseOptions) (terms : Terms) (start now : ConnectionState) (result : ConnEnd)
    → terms ≡ answer_terms seed given.binding → start.drawn ≡ 0 → IsServedFrom may moves terms start now result → ServesExactly seed given start.wires now.wires result
unfolding ServesExactly
serves_exactly may moves seed given terms start now result same none served other rest end told dialogue quiet settled settled2 =
    let ticks : List OutsideAnswer = tape served.transcript.acts in
    let answers : tape served.transcript.acts ++ [] ≡ tape other.acts ++ ticks = append-nil ticks ∙ sym (ap (λ a. tape a ++ ticks) quiet) in
    let went = only_is terms seed given.binding start now served.transcript result same none served.settles other rest end [] ticks told dialogue settled settled2 answers in
    (went.0, went.2, served.talks.goes.held ∙ ap (λ (x : Transcript). with_end start.wires.held x.written) went.1)

-- No memory was there at all.
pub memory_at_once : (seed : List ℕ) (options : LeaseOptions) (start : Wires) (given : Option (List ℕ)) → ServesOne seed options start start given given OutOfMemory
memory_at_once seed options start given = record {
  course = bytes_taken [];
  left = sym (with_front-nothing start.left);
  held = sym (with_end-nothing start.held);
  dialogue = (nothing, bytes_taken [], tt, refl, inl ([], refl, inl refl, refl));
  once = dialogue_invokes (answer_terms seed options.binding) 0 (bytes_taken []) start.left OutOfMemory (nothing, bytes_taken [], tt, refl, inl ([], refl, inl refl, refl));
  complete = λ unfailed opening sents input told whole finds. inr refl;
  only = λ other rest end t t2 told dialogue settled settled2 answers. absurd settled2;
  given = Gave-nothing given;
  events = sample_events (served_space seed options);
  went = refl;
  may_all = tt;
  numbers = [];
  counted = refl;
}

pub memory_unsettled : (seed : List ℕ) (options : LeaseOptions) (start : Wires) → ServesExactly seed options start start OutOfMemory
unfolding ServesExactly
memory_unsettled seed options start other rest end told dialogue quiet settled settled2 = absurd settled2
