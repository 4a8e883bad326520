-- The sample kinds make a book.
use Rattle.std.proofs.Common.{◌≡◌, ◌≤◌, ◌<◌, ◌^◌, ℕ, List, length, subst, sym, ◌∙◌, refl, All, Some, None}
use Rattle.std.specs.List.{position}
use Rattle.std.proofs.Math.Dec.{lit≤}
use Rattle.std.proofs.lemmas.List.Elements.{All-from_recursion}
use Rattle.mod_utf.specs.Utf.{utf}
use Rattle.system_objects.specs.declared.book.Kind.{Kind}
use Rattle.system_objects.specs.declared.book.BookFault.{BookFault}
use Rattle.system_objects.specs.declared.book.BookFault.TheVariants.{FloatMethod}
use Rattle.system_objects.specs.Book.{has_float, FaultsBook}
use Rattle.sample_app.specs.Kinds.{echo, counter, maker, sample_kinds}

pub few_methods : (kinds : List Kind) → kinds ≡ sample_kinds → All (λ kind. length kind.methods < 2 ^ 32) kinds
unfolding echo counter maker
few_methods kinds are = subst (All (λ kind. length kind.methods < 2 ^ 32)) (sym are)
    (All-from_recursion (λ kind. length kind.methods < 2 ^ 32) sample_kinds (lit≤ tt, (lit≤ tt, (lit≤ tt, tt))))

pub short_interfaces : (kinds : List Kind) → kinds ≡ sample_kinds → All (λ kind. length (utf kind.interface) ≤ 65535) kinds
unfolding echo counter maker
short_interfaces kinds are = subst (All (λ kind. length (utf kind.interface) ≤ 65535)) (sym are)
    (All-from_recursion (λ kind. length (utf kind.interface) ≤ 65535) sample_kinds (lit≤ tt, (lit≤ tt, (lit≤ tt, tt))))

no_float : position has_float sample_kinds ≡ None
unfolding echo counter maker
no_float = refl

none_found : (kind : ℕ) → None ≡ Some kind → ⊥
none_found kind is = cc

pub not_float : (kinds : List Kind) (fault : BookFault) (kind method : ℕ) → kinds ≡ sample_kinds → fault ≡ FloatMethod kind method → FaultsBook kinds fault → ⊥
not_float kinds fault kind method are is faults =
    let P : BookFault → Type 0 = λ f. FaultsBook kinds f in
    let Q : List Kind → Type 0 = λ ks. position has_float ks ≡ Some kind in
    none_found kind (sym no_float ∙ subst Q are (subst P is faults).0)
