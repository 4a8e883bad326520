use Rattle.std.proofs.Common.{◌≡◌, ◌∙◌, ◌<◌, List, ℕ, length, take, sym, subst, arith, length-take-le, length-set}
use Rattle.std.proofs.lemmas.Result.{err_from_is_err_and}
use Rattle.std.proofs.lemmas.List.{take_more_set, take_all}
use Rattle.wire_io.specs.Pulled.{pull_state, Takes}
use Rattle.wire_io.proofs.Pulling.{takes_more}
use Rattle.jrmp_frames.proofs.Reading.{stops_in, stops_next}
use Rattle.jrmp_frames.proofs.uid.read_uid.Goals as goal

pub returns-in_err-byte-clause-gives : goal.returns-in_err-byte-clause-gives
returns-in_err-byte-clause-gives g c =
    let p = err_from_is_err_and c.from_residual.result c.from_residual.ensures.1 in
    let all = c.loop-i.invariant.long in
    let long : length (take c.loop-i.i c.loop-i.bytes) ≡ c.loop-i.i = length-take-le c.loop-i.i c.loop-i.bytes (omega (arith, all, c.loop-i-test.true)) in
    rw (p.1, p.2) (stops_in (λ part. length part < 14) _ _ _ (stops_next (λ part. length part < 14) _ _ _ _ _ (omega (arith, long, c.loop-i-test.true)) c.loop-i.invariant.takes c.in_err-byte.ensures.gives))

pub loop-i-preserved : goal.loop-i-preserved
loop-i-preserved g c =
    let all = c.loop-i.invariant.long in
    record {
      long = length-set c.loop-i.bytes c.loop-i.i c.in_ok-byte.byte ∙ all;
      takes = rw (take_more_set c.loop-i.bytes c.loop-i.i c.in_ok-byte.byte (omega (arith, all, c.loop-i-test.true))) (takes_more _ _ _ _ _ c.loop-i.invariant.takes c.in_ok-byte.ensures.gives.2);
      lent = c.byte.ensures.lent ∙ c.loop-i.invariant.lent;
    }

pub returns-clause-gives : goal.returns-clause-gives
returns-clause-gives g c =
    let all = c.loop-i.invariant.long in
    let whole = take_all c.loop-i.i c.loop-i.bytes (omega (arith, all, c.loop-i-test.false)) in
    subst (λ (l : List ℕ). Takes (pull_state g.S.Source.half c.args.pull.now) (pull_state g.S.Source.half c.loop-i.pull) l) (whole ∙ sym c.uid_of.ensures.inverse) c.loop-i.invariant.takes
