-- The text that the output of `host` begins with.
use Rattle.std.proofs.Common.{◌≡◌, ℕ, List, Result, Ok, Err, refl, ap, ◌∙◌}
use Rattle.std.specs.Prelude.{IfOk}
use Rattle.journal.specs.Written.{config_text, journal_text}
use Rattle.space.specs.Built.{SpaceHistory}
use Rattle.rmi_words.specs.declared.host_words.Record.{Record}
use Rattle.rmi_words.specs.declared.host_words.Record.TheVariants.{Silent, Journal}
use Rattle.rmi_words.specs.declared.options.LeaseOptions.{LeaseOptions}
use Rattle.rmi_cli.specs.Hosted.{first_text}
use Rattle.rmi_cli.specs.Opening.{hosted_opening, served_opening}

-- A journal does not tell whether the space keeps its events.
same_journal : (seed : List ℕ) (options : LeaseOptions)
    → journal_text (served_opening seed options).configuration (served_opening seed options).events ≡ journal_text (hosted_opening seed options).configuration (hosted_opening seed options).events
unfolding journal_text config_text
same_journal seed options = refl

-- So the journal of a space that keeps them is the text.
pub opened_text : {E : Type 0} (result : Result (List ℕ) E) (output : Record) (opened : SpaceHistory) (seed : List ℕ) (options : LeaseOptions) → output ≡ Journal → opened ≡ served_opening seed options
    → IfOk result (λ text. text ≡ journal_text opened.configuration opened.events) → IfOk result (λ text. text ≡ first_text output (hosted_opening seed options))
opened_text (Ok text) Journal opened seed options is same ok = ok ∙ ap (λ (s : SpaceHistory). journal_text s.configuration s.events) same ∙ same_journal seed options
opened_text (Ok text) Silent opened seed options is same ok = absurd (cc)
opened_text (Err refused) output opened seed options is same ok = ok
