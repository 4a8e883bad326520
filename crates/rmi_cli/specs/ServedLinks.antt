-- What `rmi serve` does.
use Rattle.std.specs.Prelude.{◌≡◌, ℕ, pos, ◌⊎◌, List, Option, Some, None, IfSome}
use Rattle.wire_io.specs.Links.{Accepted, Listening, with_next}
use Rattle.wire_io.specs.Wire.{ReadHalf, WriteHalf, Wires, with_end, Rose}
use Rattle.history.specs.Outline.{outline}
use Rattle.space.specs.declared.asked.Asked.{Asked}
use Rattle.sample_app.specs.Does.{May, Moves}
use Rattle.sample_app.specs.Kinds.{sample_kinds}
use Rattle.sample_app.specs.declared.crew.SampleHand.{SampleHand}
use Rattle.conn_server.specs.Reports.{IsLinkOf, ServesLinks}
use Rattle.conn_server.specs.declared.accept_loop.Stop.{Stop}
use Rattle.conn_server.specs.declared.admission.LostLink.{LostLink}
use Rattle.conn_server.specs.declared.accept_loop.Stop.TheVariants as stops
use Rattle.conn_server.specs.declared.link_task.LinkReport.{LinkReport}
use Rattle.conn_server.specs.declared.plan.ServePlan.{ServePlan}
use Rattle.conn_server.specs.declared.server.Report.{Report}
use Rattle.rmi_cli.specs.Loopback.{loopback_host}
use Rattle.rmi_cli.specs.Opening.{served_opening}
use Rattle.rmi_cli.specs.Sinks.{WroteLess}
use Rattle.rmi_cli.specs.Told.{Reported, TellsEnd}
use Rattle.rmi_words.specs.declared.options.ServeWords.{ServeWords}
use Rattle.rmi_cli.specs.declared.end.RunEnd.{RunEnd}
use Rattle.rmi_cli.specs.declared.end.RunEnd.TheVariants.{Done, ListenFault, AcceptFault, WriteFault, OutOfMemory}

-- What the server is told, by the seed and the words: its own end is 127.0.0.1 and the port that it listens on.
abbrev pub serve_plan : List ℕ → ServeWords → ServePlan
serve_plan seed serve = record { count = serve.count; host = loopback_host; port = pos serve.port; binding = serve.options.binding; seed = seed }

-- What is told of a link whose calls a hand of the sample does, by what its source, its sink and its clock show and by what the server is told. A
-- hand tells its connection's number, and neither its calls nor the numbers, which all hands share.
abbrev pub IsSampleLink : {I O T R : Type 0} → (I → ReadHalf) → (O → WriteHalf) → (T → Option (List ℕ)) → ServePlan → ℕ → Accepted × Asked → LinkReport I O T (SampleHand R) → Type 0
IsSampleLink read_half write_half given plan = IsLinkOf read_half write_half given (λ hand. record { calls = hand.calls; seen = None; state = None; number = hand.by }) May Moves sample_kinds plan

-- How printing this text ends, by what the output holds and how often it failed: all was written; or less, for the output failed; or nothing, for
-- there was no memory for the text. It counts a fault only where the output failed.
abbrev pub Printed : Option (List ℕ) → Option (List ℕ) → ℕ → ℕ → List ℕ → RunEnd → Type 0
Printed held held_after faults faults_after text end =
    ((end ≡ Done) × (held_after ≡ with_end held text) × (faults_after ≡ faults))
    ⊎ (((end ≡ WriteFault) × WroteLess held held_after text × Rose faults faults_after)
    ⊎ ((end ≡ OutOfMemory) × (held_after ≡ held) × (faults_after ≡ faults)))

-- The same of a sink, by what it shows before and after.
abbrev pub PrintedOn : {K : Type 0} → (K → WriteHalf) → K → K → List ℕ → RunEnd → Type 0
PrintedOn half old new text end = Printed (half old).held (half new).held (half old).faults (half new).faults text end

-- How the run ends where the accepting stopped so and printing ended so.
abbrev pub end_after : Stop → RunEnd → RunEnd
end_after stops.All printed = printed
end_after stops.Told printed = printed
end_after stops.AcceptFault printed = AcceptFault
end_after stops.OutOfMemory printed = OutOfMemory

-- The outline, which is this text, was printed, and the run ends as that and the stop say.
abbrev pub EndsServed : Option (List ℕ) → Option (List ℕ) → ℕ → ℕ → List ℕ → Stop → RunEnd → Type 0
EndsServed held held_after faults faults_after text stop end = (printed : RunEnd) × Printed held held_after faults faults_after text printed × (end ≡ end_after stop printed)

-- How the run ends by what was served: where nothing was, the port could not be listened on, or there was no memory; nothing was written then.
abbrev pub ServeEnds : {I O T H : Type 0} → Option (List ℕ) → Option (List ℕ) → ℕ → ℕ → Option (Report I O T H) → RunEnd → Type 0
ServeEnds held held_after faults faults_after None end = ((end ≡ ListenFault) ⊎ (end ≡ OutOfMemory)) × (held_after ≡ held)
ServeEnds held held_after faults faults_after (Some report) end = EndsServed held held_after faults faults_after (outline report.space.configuration report.space.events) report.stop end

-- Where links were served this port of this address was listened on, and no other; else none was but this one, and no link was accepted.
abbrev pub ListensAt : {R : Type 0} → List ℕ → ℕ → Listening → Listening → Option R → Type 0
ListensAt address port old new None = ((new.ports ≡ old.ports) ⊎ (new.ports ≡ with_next old.ports (address, port))) × (new.accepted ≡ old.accepted)
ListensAt address port old new (Some served) = new.ports ≡ with_next old.ports (address, port)

-- The same of 127.0.0.1.
abbrev pub ListensAlone : {R : Type 0} → ℕ → Listening → Listening → Option R → Type 0
ListensAlone port old new served = ListensAt loopback_host port old new served

-- The run of `serve` by its seed and words, and by what it left as served, which tells of the links' sources and sinks as they are left; and the end
-- that is told, where the output had failed so often before and after. Nothing was read.
pub record Serving {I O T H : Type 0} (IsLink : ℕ → Accepted × Asked → LinkReport I O T H → Type 0) (IsLost : Accepted → LostLink I O T → Type 0) (seed : List ℕ) (serve : ServeWords) (served : Option (Report I O T H))
    (log_before log_after : Listening) (old new : Wires) (faults faults_after : ℕ) (told : Reported) : Type 0 where
  pub alone : ListensAlone serve.port log_before log_after served
  pub links : IfSome served (ServesLinks IsLink IsLost (served_opening seed serve.options) serve.count log_before.accepted log_after.accepted)
  pub end : RunEnd
  pub ends : ServeEnds old.held new.held faults faults_after served end
  pub tells : TellsEnd told end
  pub unread : new.left ≡ old.left
