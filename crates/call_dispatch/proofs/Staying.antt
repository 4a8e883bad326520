-- What steps leave as it was, one after another.
use Rattle.std.proofs.Common.{◌≡◌, ℕ, Result, ap, subst, ◌∙◌, arith}
use Rattle.call_dispatch.specs.declared.connection.Connection.{Connection}
use Rattle.call_dispatch.specs.declared.outcome.Invocation.{Invocation}
use Rattle.call_dispatch.specs.declared.outcome.Outcome.{Outcome}
use Rattle.call_dispatch.specs.declared.end.ConnEnd.{ConnEnd}
use Rattle.system_objects.specs.Terms.{Terms, terms_of}
use Rattle.call_dispatch.specs.Acts.{Call, States}
use Rattle.call_dispatch.specs.ConnectionState.{ConnectionState, Stays, IsLent}
use Rattle.call_dispatch.specs.Faults.{FaultCounts, Grew}
use Rattle.jrmp_frames.specs.declared.header.Protocol.{Protocol}
use Rattle.call_dispatch.specs.Progress.{FinishesDialogue, Steps}

-- What stays as it was is lent on.
pub stays_lent : {S K C P W : Type 0} (a b : Connection S K C P W) → Stays a b → IsLent a b
stays_lent a b h = record {
  source_lent = h.source_lent;
  sink_lent = h.sink_lent;
  clock_lent = h.clock_lent;
  port_lent = h.port_lent;
  worker_lent = h.worker_lent;
  setup_lent = h.setup_lent;
  book = h.book;
  terms = ap (λ lent. terms_of lent.now b.setup.now) h.book ∙ ap (terms_of a.book.now) h.setup;
}

pub lent_on : {S K C P W : Type 0} (a b c : Connection S K C P W) → IsLent a b → IsLent b c → IsLent a c
lent_on a b c first then = record {
  source_lent = then.source_lent ∙ first.source_lent;
  sink_lent = then.sink_lent ∙ first.sink_lent;
  clock_lent = then.clock_lent ∙ first.clock_lent;
  port_lent = then.port_lent ∙ first.port_lent;
  worker_lent = then.worker_lent ∙ first.worker_lent;
  setup_lent = then.setup_lent ∙ first.setup_lent;
  book = then.book ∙ first.book;
  terms = then.terms ∙ first.terms;
}

pub grew_on : (a b c : FaultCounts) → Grew a b → Grew b c → Grew a c
grew_on a b c first then = record { source = omega (arith, first.source, then.source); sink = omega (arith, first.sink, then.sink) }

-- The terms of a step are those of its connection's beginning.
pub steps_on : (may : Invocation → Outcome → Type 0) (moves : States → Call → States → Type 0) (terms first : Terms) (before now : ConnectionState) (at sent served at2 : ℕ) (result : Result ℕ ConnEnd)
    → terms ≡ first → Steps may moves terms before now at sent served at2 result → Steps may moves first before now at sent served at2 result
steps_on may moves terms first before now at sent served at2 result same steps =
    let P : Terms → Type 0 = λ t. Steps may moves t before now at sent served at2 result in subst P same steps

pub goes_on_terms : (may : Invocation → Outcome → Type 0) (moves : States → Call → States → Type 0) (terms first : Terms) (protocol : Protocol) (before now : ConnectionState) (at sent : ℕ) (end : ConnEnd)
    → terms ≡ first → FinishesDialogue may moves terms protocol before now at sent end → FinishesDialogue may moves first protocol before now at sent end
goes_on_terms may moves terms first protocol before now at sent end same goes =
    let P : Terms → Type 0 = λ t. FinishesDialogue may moves t protocol before now at sent end in subst P same goes
