-- The order of clients is a total order, in which only equal clients are equal.
use Rattle.std.proofs.Common.{◌≡◌, ℕ, List, refl, ap, ◌∙◌}
use Rattle.std.specs.Prelude.{ℤ}
use Rattle.std.specs.Ordering.{ordering_then, nat_cmp, int_cmp}
use Rattle.std.specs.declared.cmp.Ordering.{Ordering}
use Rattle.std.specs.declared.cmp.Ordering.TheVariants.{Less, Equal, Greater}
use Rattle.std.specs.Cmp.{IsTotalOrder}
use Rattle.std.specs.Cmp.Lexicographic.{slice_cmp}
use Rattle.std.proofs.lemmas.Cmp.{nat_list_cmp_total, int_cmp_total, on_total, then_total, tied_itself}
use Rattle.std.proofs.lemmas.Map.Lookups.{exact_signed, exact_bytes}
use Rattle.object_ids.specs.Client.{Client, client_cmp}

pub client_cmp_total : IsTotalOrder client_cmp
client_cmp_total =
    then_total (on_total (λ (c : Client). c.addr) nat_list_cmp_total)
    (then_total (on_total (λ (c : Client). c.uid.unique) int_cmp_total)
    (then_total (on_total (λ (c : Client). c.uid.time) int_cmp_total) (on_total (λ (c : Client). c.uid.count) int_cmp_total)))

pub client_cmp-self : (a : Client) → client_cmp a a ≡ Equal
client_cmp-self a = tied_itself client_cmp_total a

-- both of two comparisons that tie together
then-equal : (a b : Ordering) → ordering_then a b ≡ Equal → (a ≡ Equal) × (b ≡ Equal)
then-equal Less b h = absurd (cc)
then-equal Equal b h = (refl, h)
then-equal Greater b h = absurd (cc)

pub client_cmp-equal : (a b : Client) → client_cmp a b ≡ Equal → a ≡ b
client_cmp-equal a b h =
    let p = then-equal (slice_cmp nat_cmp a.addr b.addr) _ h in
    let q = then-equal (int_cmp a.uid.unique b.uid.unique) _ p.1 in
    let r = then-equal (int_cmp a.uid.time b.uid.time) (int_cmp a.uid.count b.uid.count) q.1 in
    ap (λ (x : List ℕ). record a { addr = x }) (exact_bytes a.addr b.addr p.0)
    ∙ ap (λ (x : ℤ). record { addr = b.addr; uid = record a.uid { unique = x } }) (exact_signed a.uid.unique b.uid.unique q.0)
    ∙ ap (λ (x : ℤ). record { addr = b.addr; uid = record a.uid { unique = b.uid.unique; time = x } }) (exact_signed a.uid.time b.uid.time r.0)
    ∙ ap (λ (x : ℤ). record { addr = b.addr; uid = record { unique = b.uid.unique; time = b.uid.time; count = x } }) (exact_signed a.uid.count b.uid.count r.1)
