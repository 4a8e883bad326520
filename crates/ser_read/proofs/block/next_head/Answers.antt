use Rattle.std.proofs.Common.{◌∙◌, refl, sym, Ok}
use Rattle.stream_grammar.specs.Reading.{short}
use Rattle.ser_read.proofs.Steps.{leads_start, leads_more, leads_done}
use Rattle.ser_read.proofs.Heads.{head_goes, head_stops, head_err, head_nearer}
use Rattle.ser_read.proofs.Breaking.{raised, loop_stops}
use Rattle.ser_read.proofs.block.next_head.Goals as goal

pub loop-head-init : goal.loop-head-init
loop-head-init g c = record {
  lent = refl;
  leads = leads_start _ _ _ (λ end bs. refl);
}

pub returns-then-not-is_empty-clause-reads : goal.returns-then-not-is_empty-clause-reads
returns-then-not-is_empty-clause-reads g c =
    leads_done (leads_more (λ end rest. Ok (c.in_ok-head.head, rest)) c.loop-head.invariant.leads c.in_ok-head.ensures.reads (λ end bs rest here h. head_stops end bs c.in_ok-head.head rest h (sym c.is_empty.ensures ∙ c.if-not-is_empty.true)) (λ end bs here is. head_err end bs short is)) (λ end bs. refl)

pub loop-head-preserved : goal.loop-head-preserved
loop-head-preserved g c =
    record {
      lent = c.in_ok-head.ensures.lent ∙ c.loop-head.invariant.lent;
      leads = leads_more _ c.loop-head.invariant.leads c.in_ok-head.ensures.reads (λ end bs rest here h. head_goes end bs c.in_ok-head.head rest h (sym c.is_empty.ensures ∙ c.if-not-is_empty.false)) (λ end bs here is. head_err end bs short is);
    }

pub returns-in_err-head-clause-stops : goal.returns-in_err-head-clause-stops
returns-in_err-head-clause-stops g c = raised c.from_residual.result c.from_residual.ensures.1 (loop_stops c.loop-head.invariant.leads (λ end bs f here is. head_err end bs f is) c.in_err-head.ensures.stops)

pub loop-head-smaller : goal.loop-head-smaller
loop-head-smaller g c = head_nearer c.in_ok-head.ensures.reads c.any_head.new.pull.within
