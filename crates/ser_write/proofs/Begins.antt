-- A list that only grows begins with what stood there.
use Rattle.std.proofs.Common.{◌≡◌, ℕ, List, ◌++◌, ap, ◌∙◌, append_assoc}
use Rattle.ser_write.specs.Canonical.{Begins}

pub begins_more : (a b c w : List ℕ) → Begins a b → c ≡ b ++ w → Begins a c
begins_more a b c w h e = record { more = h.more ++ w; is = e ∙ (ap (λ (l : List ℕ). l ++ w) h.is ∙ append_assoc a h.more w) }

pub begins_on : (a b c w : List ℕ) → b ≡ a ++ w → Begins b c → Begins a c
begins_on a b c w e h = begins_more a b c h.more (record { more = w; is = e }) h.is
