use Rattle.jrmp_frames.proofs.arguments.read_arguments.Goals as goal

pub returns-clause-cut : goal.returns-clause-cut
returns-clause-cut g c = rw c.as_slice.ensures at c.read_parameters.ensures.cut
