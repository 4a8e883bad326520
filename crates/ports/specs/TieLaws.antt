-- Laws of how ports lead on.
use Rattle.std.proofs.Common.{◌≡◌, ℕ, List, [], ◌∷◌, ◌++◌, refl, ap, sym, subst, ◌∙◌, append_assoc, append-nil}
use Rattle.history.specs.declared.asks.SpaceConfig.{SpaceConfig}
use Rattle.history.specs.declared.asks.Event.{Event}
use Rattle.space.specs.declared.asked.Asked.{Asked}
use Rattle.space.specs.Built.{SpaceHistory}
use Rattle.ports.specs.Ports.{Went}
use Rattle.ports.specs.Ties.{Leads}

went_on : (config : SpaceConfig) (by : ℕ) (h h2 h3 : List Event) (xs ys : List Asked) → Went config by h xs h2 → Went config by h2 ys h3 → Went config by h (xs ++ ys) h3
went_on config by h h2 h3 [] ys a b = subst (λ (g : List Event). Went config by g ys h3) a b
went_on config by h h2 h3 (x ∷ xs) ys a b = (a.0, a.1, went_on config by a.0 h2 h3 xs ys a.2 b)

pub leads_self : (by : ℕ) (s : SpaceHistory) (xs : List Asked) → Leads by s xs s xs
leads_self by s xs = record { same = refl; more = []; longer = sym (append-nil xs); went = refl }

leads_then : (by : ℕ) (s s2 s3 : SpaceHistory) (xs ys zs : List Asked) → Leads by s xs s2 ys → Leads by s2 ys s3 zs → Leads by s xs s3 zs
leads_then by s s2 s3 xs ys zs a b = record {
  same = b.same ∙ a.same;
  more = a.more ++ b.more;
  longer = b.longer ∙ ap (λ l. l ++ b.more) a.longer ∙ append_assoc xs a.more b.more;
  went = went_on s.configuration by s.events s2.events s3.events a.more b.more a.went (subst (λ (c : SpaceConfig). Went c by s2.events b.more s3.events) a.same b.went);
}

-- The same of two ports, whose names and numbers stay.
pub leads_on : {N : Type 0} (by by2 by3 : ℕ) (name name2 name3 : N) (s s2 s3 : SpaceHistory) (xs ys zs : List Asked) →
    (name2 ≡ name) × (by2 ≡ by) × Leads by s xs s2 ys → (name3 ≡ name2) × (by3 ≡ by2) × Leads by2 s2 ys s3 zs → (name3 ≡ name) × (by3 ≡ by) × Leads by s xs s3 zs
leads_on by by2 by3 name name2 name3 s s2 s3 xs ys zs a b =
    (b.0 ∙ a.0, b.1 ∙ a.1, leads_then by s s2 s3 xs ys zs a.2 (subst (λ (n : ℕ). Leads n s2 ys s3 zs) a.1 b.2))
