use Rattle.std.proofs.Common.{◌≡◌, ◌++◌, ◌∙◌, ap, List, ℕ}
use Rattle.mod_utf.proofs.Decoded.{gives_text}
use Rattle.ser_read.proofs.Texts.{all_plain}
use Rattle.ser_read.proofs.spelled.plain.Goals as goal

pub returns-clause-value : goal.returns-clause-value
returns-clause-value c =
    let is : c.from_vec.result ≡ c.args.bytes.now = c.from_vec.ensures ∙ c.push_each.ensures ∙ ap (λ (l : List ℕ). l ++ c.args.bytes.now) (c.reserve_exact.ensures.items ∙ c.new-units.ensures.items) in
    rw is (gives_text c.args.bytes.now c.args.bytes.now (all_plain c.args.bytes.now c.requires))
