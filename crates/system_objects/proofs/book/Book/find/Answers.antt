use Rattle.std.proofs.Common.{◌≡◌, ◌∙◌, sym, ap, List, ℤ, Some, slice_get, arith}
use Rattle.std.specs.Int.{w64}
use Rattle.std.proofs.lemmas.Int.{to_z-of_z}
use Rattle.system_objects.specs.declared.book.Kind.{Kind}
use Rattle.system_objects.specs.Book.{methods_of, first_with}
use Rattle.system_objects.proofs.Books.{within_or, hash_found, place_fits}
use Rattle.system_objects.proofs.book.Book.find.Goals as goal

pub returns-in_err-place : goal.returns-in_err-place
returns-in_err-place c =
    let all = c.as_slice.result.now in
    let found = c.in_ok-hashes.ensures.lookup in
    let has : slice_get all c.args.kind ≡ Some c.in_ok-hashes.hashes.now = within_or all c.args.kind c.in_ok-hashes.hashes.now found.3.0 ∙ ap (λ (l : List ℤ). Some l) (sym found.1) in
    let first = hash_found all c.self.inside.kinds c.args.kind c.in_ok-hashes.hashes.now _ (c.as_slice.ensures ∙ c.self.invariant.same) has in
    let same = ap (λ (hash : ℤ). first_with hash (methods_of c.self.inside.kinds c.args.kind)) (to_z-of_z w64 c.args.hash c.ranges.hash) in
    c.from_residual-in_err-place.ensures ∙ (rw c.as_slice-2.ensures at c.in_err-place.ensures) ∙ first ∙ same ∙ ap (λ (kinds : List Kind). first_with c.args.hash (methods_of kinds c.args.kind)) c.self.view_is

pub overflow_cast-result : goal.overflow_cast-result
overflow_cast-result c =
    let all = c.as_slice.result.now in
    let found = c.in_ok-hashes.ensures.lookup in
    let has : slice_get all c.args.kind ≡ Some c.in_ok-hashes.hashes.now = within_or all c.args.kind c.in_ok-hashes.hashes.now found.3.0 ∙ ap (λ (l : List ℤ). Some l) (sym found.1) in
    let few = place_fits all c.self.inside.kinds c.args.kind c.in_ok-hashes.hashes.now _ c.in_ok-place.place (c.as_slice.ensures ∙ c.self.invariant.same) c.self.invariant.few_methods has
    (sym (rw c.as_slice-2.ensures at c.in_ok-place.ensures)) in
    omega (arith, few)

pub returns : goal.returns
returns c =
    let all = c.as_slice.result.now in
    let found = c.in_ok-hashes.ensures.lookup in
    let has : slice_get all c.args.kind ≡ Some c.in_ok-hashes.hashes.now = within_or all c.args.kind c.in_ok-hashes.hashes.now found.3.0 ∙ ap (λ (l : List ℤ). Some l) (sym found.1) in
    let first = hash_found all c.self.inside.kinds c.args.kind c.in_ok-hashes.hashes.now _ (c.as_slice.ensures ∙ c.self.invariant.same) has in
    let same = ap (λ (hash : ℤ). first_with hash (methods_of c.self.inside.kinds c.args.kind)) (to_z-of_z w64 c.args.hash c.ranges.hash) in
    (rw c.as_slice-2.ensures at c.in_ok-place.ensures) ∙ first ∙ same ∙ ap (λ (kinds : List Kind). first_with c.args.hash (methods_of kinds c.args.kind)) c.self.view_is
