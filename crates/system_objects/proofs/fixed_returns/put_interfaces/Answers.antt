use Rattle.std.proofs.Common.{ap, ◌∙◌, ◌++◌, ℕ, List}
use Rattle.mod_utf.specs.Utf.{utf}
use Rattle.java_shapes.specs.RefNotes.{text_bytes}
use Rattle.system_objects.proofs.FixedReturns.{both_put}
use Rattle.system_objects.proofs.fixed_returns.put_interfaces.Goals as goal

pub returns : goal.returns
returns c = both_put c.args.out.now c.interfaces_head.result.now (text_bytes (utf c.args.interface.now)) _ _
    ((rw (c.as_slice.ensures, c.in_ok-text.ensures) at c.in_ok-put_text.ensures) ∙ ap (λ (l : List ℕ). l ++ text_bytes (utf c.args.interface.now)) c.in_ok-append.ensures.ok)
    c.interfaces_head.ensures
