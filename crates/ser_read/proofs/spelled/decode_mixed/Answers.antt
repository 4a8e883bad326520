use Rattle.std.proofs.Common.{◌≡◌, ◌++◌, ◌∙◌, ap, List, ℕ}
use Rattle.mod_utf.proofs.Decoded.{gives_text}
use Rattle.ser_read.proofs.spelled.decode_mixed.Goals as goal

pub returns-in-Ok-clause-value : goal.returns-in-Ok-clause-value
returns-in-Ok-clause-value c =
    let text = c.in-Ok.ensures in
    let is : c.push_runs.new.units ≡ text.0 = text.2 ∙ ap (λ (l : List ℕ). l ++ text.0) (c.reserve.ensures ∙ c.new-units.ensures) in
    rw is (gives_text c.args.bytes.now text.0 text.1)
