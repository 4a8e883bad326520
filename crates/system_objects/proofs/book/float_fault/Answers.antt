use Rattle.std.proofs.Common.{◌∙◌, sym, ap, true≢false}
use Rattle.std.specs.List.{position, list_any}
use Rattle.system_objects.specs.Book.{uses_float, has_float}
use Rattle.system_objects.proofs.Books.{first_here, none_passes, methods_here}
use Rattle.system_objects.proofs.book.float_fault.Goals as goal

pub unreachable-requires : goal.unreachable-requires
unreachable-requires c =
    let h = first_here has_float c.args.kinds.now c.args.kind c.index-kinds-kind.result c.requires.first in
    let none = none_passes uses_float c.as_slice.result.now (sym c.in-None.ensures) in
    true≢false (sym h.1 ∙ ap (list_any uses_float) (sym c.as_slice.ensures) ∙ none)

pub returns : goal.returns
returns c =
    let h = first_here has_float c.args.kinds.now c.args.kind c.index-kinds-kind.result c.requires.first in
    (c.requires.first, ap (position uses_float) (methods_here c.args.kinds.now c.args.kind c.index-kinds-kind.result h.0 ∙ sym c.as_slice.ensures) ∙ sym c.in-Some.ensures)
