use Rattle.std.proofs.Common.{ℕ, ◌≤◌, arith, [], ◌∷◌}
use Rattle.std.proofs.lemmas.List.{length-take-le}
use Rattle.ser_read.proofs.Wants.{want_bytes}
use Rattle.ser_read.proofs.Breaking.{want_raised, want_said, want_first}
use Rattle.jrmp_frames.specs.Messages.{want_of}
use Rattle.jrmp_frames.proofs.Each.{width_is, few_bytes, bytes_argument}
use Rattle.jrmp_frames.proofs.arguments.read_prim.Goals as goal

pub returns-in_err-bytes_into-clause-stops : goal.returns-in_err-bytes_into-clause-stops
returns-in_err-bytes_into-clause-stops g c =
    let short : c.args.n ≤ 8 = omega (arith, few_bytes c.args.code, width_is c.args.code c.args.n c.requires.wanted) in
    want_raised c.from_residual.result c.from_residual.ensures.1 (want_said (λ end bs here. want_bytes end (want_of c.args.code) c.args.n c.args.reader.now.stand bs c.requires.wanted)
    (want_first _ (rw (length-take-le {A = ℕ} c.args.n (0 ∷ 0 ∷ 0 ∷ 0 ∷ 0 ∷ 0 ∷ 0 ∷ 0 ∷ []) short) at (c.in_err-bytes_into.ensures.stops c.requires.kept))))

pub returns-clause-reads : goal.returns-clause-reads
returns-clause-reads g c =
    let short : c.args.n ≤ 8 = omega (arith, few_bytes c.args.code, width_is c.args.code c.args.n c.requires.wanted) in
    rw c.value_of.ensures (bytes_argument c.args.code c.args.n c.args.reader.now.stand c.bytes_into.new.self.stand c.bytes_into.new.buf c.requires.wanted
    (rw (length-take-le {A = ℕ} c.args.n (0 ∷ 0 ∷ 0 ∷ 0 ∷ 0 ∷ 0 ∷ 0 ∷ 0 ∷ []) short) at c.in_ok-bytes_into.ensures.reads))
