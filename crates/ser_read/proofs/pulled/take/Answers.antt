use Rattle.std.proofs.Common.{◌∙◌, arith}
use Rattle.stream_grammar.specs.Reading.{short}
use Rattle.ser_read.proofs.Steps.{leads_more}
use Rattle.ser_read.proofs.Bytes.{take_more}
use Rattle.ser_read.proofs.Breaking.{raised, loop_stops, took}
use Rattle.ser_read.proofs.Stopping.{take_err}
use Rattle.ser_read.proofs.pulled.take.Goals as goal

pub returns-in_err-piece-clause-stops : goal.returns-in_err-piece-clause-stops
returns-in_err-piece-clause-stops g c = raised c.from_residual.result c.from_residual.ensures.1 (loop_stops c.loop-left.invariant.leads (λ end bs f here is. take_err c.loop-left.bytes c.loop-left.left c.min-more.result bs f (omega arith) is) c.in_err-piece.ensures.stops)

pub returns-in_err-add_piece-clause-stops : goal.returns-in_err-add_piece-clause-stops
returns-in_err-add_piece-clause-stops g c = raised c.from_residual-in_err-add_piece.result c.from_residual-in_err-add_piece.ensures.1 (loop_stops c.loop-left.invariant.leads (λ end bs f here is. take_err c.loop-left.bytes c.loop-left.left c.min-more.result bs f (omega arith) is) (took c.in_ok-piece.ensures.reads))

pub loop-left-preserved : goal.loop-left-preserved
loop-left-preserved g c =
    record {
      lent = c.in_ok-piece.ensures.lent ∙ c.loop-left.invariant.lent;
      leads = leads_more _ c.loop-left.invariant.leads c.in_ok-piece.ensures.reads (λ end bs rest here h. rw c.in_ok-add_piece.ensures (take_more c.loop-left.bytes c.loop-left.left c.min-more.result bs c.in_ok-piece.piece rest (omega arith) h))
          (λ end bs here is. take_err c.loop-left.bytes c.loop-left.left c.min-more.result bs short (omega arith) is);
    }
