use Rattle.std.proofs.Common.{◌∷◌, arith}
use Rattle.std.proofs.lemmas.Result.{err_from_is_err_and}
use Rattle.wire_io.proofs.Pulling.{takes_more}
use Rattle.jrmp_frames.specs.Frames.{IsInEndpoint}
use Rattle.jrmp_frames.proofs.Reading.{stops_in, stops_at_once, stops_next, stops_after, nothing_in_endpoint, byte_in_endpoint, part_in_endpoint}
use Rattle.jrmp_frames.proofs.endpoint.skip_endpoint.Goals as goal

pub returns-in_err-high-clause-gives : goal.returns-in_err-high-clause-gives
returns-in_err-high-clause-gives g c =
    let p = err_from_is_err_and c.from_residual.result c.from_residual.ensures.1 in
    rw (p.1, p.2) (stops_in IsInEndpoint _ _ _ (stops_at_once IsInEndpoint _ _ _ nothing_in_endpoint c.in_err-high.ensures.gives))

pub returns-in_err-low-clause-gives : goal.returns-in_err-low-clause-gives
returns-in_err-low-clause-gives g c =
    let p = err_from_is_err_and c.from_residual-in_err-low.result c.from_residual-in_err-low.ensures.1 in
    let first = c.in_ok-high.ensures.gives in
    rw (p.1, p.2) (stops_in IsInEndpoint _ _ _ (stops_next IsInEndpoint _ _ _ _ _ (byte_in_endpoint _ first.0) first.2 c.in_err-low.ensures.gives))

pub returns-in_err-skip-clause-gives : goal.returns-in_err-skip-clause-gives
returns-in_err-skip-clause-gives g c =
    let p = err_from_is_err_and c.from_residual-in_err-skip.result c.from_residual-in_err-skip.ensures.1 in
    let first = c.in_ok-high.ensures.gives in
    let second = c.in_ok-low.ensures.gives in
    rw (p.1, p.2) (stops_in IsInEndpoint _ _ _ (stops_after _ IsInEndpoint _ _ _ _ _ (takes_more _ _ _ _ _ first.2 second.2) c.in_err-skip.ensures.gives
    (λ part short. part_in_endpoint _ _ part first.0 second.0 short)))

pub returns-clause-gives : goal.returns-clause-gives
returns-clause-gives g c =
    let first = c.in_ok-high.ensures.gives in
    let second = c.in_ok-low.ensures.gives in
    let rest = c.in_ok-skip.ensures.gives in (
      c.in_ok-high.high ∷ c.in_ok-low.low ∷ rest.0,
      (first.0, second.0, omega (arith, rest.1)),
      takes_more _ _ _ _ _ (takes_more _ _ _ _ _ first.2 second.2) rest.2,
    )
