-- What is said of the command that words ask for.
use Rattle.wire_io.specs.Links.{Listening}
use Rattle.std.proofs.Common.{◌≡◌, ℕ, List, Option, sym, subst, ◌∙◌}
use Rattle.wire_io.specs.Wire.{ReadHalf, WriteHalf, Wires}
use Rattle.conn_server.specs.declared.server.Report.{Report}
use Rattle.sample_app.specs.declared.crew.SampleHand.{SampleHand}
use Rattle.rmi_words.proofs.Asked.{answer_in_range, host_in_range, serve_in_range}
use Rattle.rmi_cli.specs.Answer.{AnswersExactly}
use Rattle.rmi_cli.proofs.Calling.{few_arguments}
use Rattle.rmi_words.specs.Command.{AskFor}
use Rattle.rmi_cli.specs.Drilled.{DrillEnds, drill_text}
use Rattle.rmi_cli.specs.Limits.{IsInLimits}
use Rattle.conn_server.specs.Stops.{IsLostLink}
use Rattle.rmi_cli.specs.ServedLinks.{IsSampleLink, Serving, serve_plan}
use Rattle.rmi_cli.specs.Told.{Reported}
use Rattle.rmi_cli.specs.declared.end.RunEnd.{RunEnd}
use Rattle.rmi_words.specs.declared.options.ServeWords.{ServeWords}
use Rattle.rmi_words.specs.declared.options.LeaseOptions.{LeaseOptions}
use Rattle.rmi_cli.specs.Printing.{PrintEnds}
use Rattle.rmi_words.specs.declared.command.ClassOutput.{ClassOutput}
use Rattle.rmi_words.specs.declared.command.Command.{Command}
use Rattle.rmi_words.specs.declared.command.Command.TheVariants.{Answer, Serve, Host, Client, Call, Replay, Show, Drill, World, Class, Help}
use Rattle.rmi_words.specs.declared.command.DrillText.{DrillText}

-- What words ask for is in the limits of its command.
pub asked_fits : (words : List (List ℕ)) (c : Command) → AskFor words c → IsInLimits c
asked_fits words (Answer options) is = answer_in_range words options is
asked_fits words (Serve serve) is = serve_in_range words serve is
asked_fits words (Host host) is = host_in_range words host is
asked_fits words (Client command) is = tt
asked_fits words (Call call) is = few_arguments call words is
asked_fits words Replay is = tt
asked_fits words Show is = tt
asked_fits words (Drill text seed rounds) is = is.in_range.most
asked_fits words World is = tt
asked_fits words (Class output) is = tt
asked_fits words (Help topic) is = tt

-- ---- one command, named twice

same_options : (t t2 : LeaseOptions) → Answer t ≡ Answer t2 → t ≡ t2
same_options t t2 same = cc

same_serve : (s s2 : ServeWords) → Serve s ≡ Serve s2 → s ≡ s2
same_serve s s2 same = cc

same_class : (a b : ClassOutput) → Class a ≡ Class b → a ≡ b
same_class a b same = cc

same_drill : (text text2 : DrillText) (m n m2 n2 : ℕ) → Drill text m n ≡ Drill text2 m2 n2 → (text ≡ text2) × (m ≡ m2) × (n ≡ n2)
same_drill text text2 m n m2 n2 same = (cc, cc, cc)

pub exactly_asked : (seed : List ℕ) (command : Command) (t t2 : LeaseOptions) (old new : Wires) (told : Reported) → command ≡ Answer t → command ≡ Answer t2
    → AnswersExactly seed t old new told → AnswersExactly seed t2 old new told
exactly_asked seed command t t2 old new told is is2 exact =
    let P : LeaseOptions → Type 0 = λ x. AnswersExactly seed x old new told in subst P (same_options t t2 (sym is ∙ is2)) exact

pub prints_named : (command : Command) (a b : ClassOutput) (old new : Wires) (faults faults2 : ℕ) (end : RunEnd) → command ≡ Class a → command ≡ Class b
    → PrintEnds a old new faults faults2 end → PrintEnds b old new faults faults2 end
prints_named command a b old new faults faults2 end is is2 = subst (λ (x : ClassOutput). PrintEnds x old new faults faults2 end) (same_class a b (sym is ∙ is2))

pub drills_named : (command : Command) (text text2 : DrillText) (m n m2 n2 : ℕ) (held held2 : Option (List ℕ)) (end : RunEnd) → command ≡ Drill text m n → command ≡ Drill text2 m2 n2
    → DrillEnds m n (drill_text text m n) held held2 end → DrillEnds m2 n2 (drill_text text2 m2 n2) held held2 end
drills_named command text text2 m n m2 n2 held held2 end is is2 ends =
    let same = same_drill text text2 m n m2 n2 (sym is ∙ is2) in
    let P : DrillText → Type 0 = λ t. DrillEnds m n (drill_text t m n) held held2 end in
    let Q : ℕ → Type 0 = λ s. DrillEnds s n (drill_text text2 s n) held held2 end in
    let R : ℕ → Type 0 = λ r. DrillEnds m2 r (drill_text text2 m2 r) held held2 end in
    subst R same.2 (subst Q same.1 (subst P same.0 ends))

pub serving_asked : {I O T R : Type 0} (read_half : I → ReadHalf) (write_half : O → WriteHalf) (given : T → Option (List ℕ)) (seed : List ℕ) (command : Command) (s s2 : ServeWords)
    (log_before log_after : Listening) (old new : Wires) (faults faults2 : ℕ) (told : Reported) (served : Option (Report I O T (SampleHand R))) → command ≡ Serve s → command ≡ Serve s2
    → Serving (IsSampleLink {R = R} read_half write_half given (serve_plan seed s)) (IsLostLink read_half write_half given) seed s served log_before log_after old new faults faults2 told
    → Serving (IsSampleLink {R = R} read_half write_half given (serve_plan seed s2)) (IsLostLink read_half write_half given) seed s2 served log_before log_after old new faults faults2 told
serving_asked {I} {O} {T} {R} read_half write_half given seed command s s2 log_before log_after old new faults faults2 told served is is2 =
    let P : ServeWords → Type 0 = λ x. Serving (IsSampleLink {R = R} read_half write_half given (serve_plan seed x)) (IsLostLink read_half write_half given) seed x served log_before log_after old new faults faults2 told in
    subst P (same_serve s s2 (sym is ∙ is2))
