-- Why a lease call is refused.
use Rattle.std.proofs.Common.{◌≡◌, ℕ, ◌<◌, ◌≤◌, ◌⊎◌, inl, inr, List, [], ◌∷◌, refl, ap, sym, ◌∙◌, Option, Some, None, Ok, Err, Result, true≢false}
use Rattle.std.specs.Prelude.{ℤ, Bool, true, false, ◌&&◌, ◌↔◌, nat_lt, if◌then◌else◌, ◌≢◌, filter}
use Rattle.std.specs.List.{list_all}
use Rattle.std.proofs.str.Laws.{order}
use Rattle.std.proofs.lemmas.Bool.{lt-ltb, le-ltb}
use Rattle.object_ids.specs.declared.ids.ObjId.{ObjId}
use Rattle.object_ids.specs.declared.ids.FullKind.TheVariants.{Clients, Pairs}
use Rattle.object_ids.specs.Client.{Client}
use Rattle.history.specs.declared.asks.Ask.{Ask}
use Rattle.history.specs.declared.asks.Ask.TheVariants.{Dirty, Clean}
use Rattle.history.specs.declared.limits.TheConstants.{MAX_CLIENTS, MAX_PAIRS}
use Rattle.history.specs.declared.replies.Refused.{Refused}
use Rattle.history.specs.declared.replies.Refused.TheVariants.{Full, OutOfMemory}
use Rattle.history.specs.LeaseCalls.{call_with}
use Rattle.history.specs.Leases.{is_dirty_kind}
use Rattle.dgc_server.specs.Counts.{clean_kind}
use Rattle.dgc_server.specs.declared.leases.LeaseFault.{LeaseFault}
use Rattle.dgc_server.specs.declared.leases.LeaseFault.TheVariants.{Clients as ClientsFault, Pairs as PairsFault, OutOfMemory as NoMemory}
use Rattle.space.specs.Faults.{refused_for}

-- The refusal of a call by what would be counted after it.
abbrev pub by_counts : Bool → ℕ → ℕ → Option Refused
by_counts dirty clients pairs =
    if dirty && nat_lt MAX_CLIENTS clients then Some (Full Clients)
    else if nat_lt MAX_PAIRS pairs then Some (Full Pairs)
    else None

clients-over : (cs ps : ℕ) → MAX_CLIENTS < cs → by_counts true cs ps ≡ Some (Full Clients)
clients-over cs ps h = rw (lt-ltb MAX_CLIENTS cs h) refl

pairs-over : (cs ps : ℕ) → cs ≤ MAX_CLIENTS → MAX_PAIRS < ps → by_counts true cs ps ≡ Some (Full Pairs)
pairs-over cs ps c p = rw (le-ltb MAX_CLIENTS cs c, lt-ltb MAX_PAIRS ps p) refl

none-over : (cs ps : ℕ) → cs ≤ MAX_CLIENTS → ps ≤ MAX_PAIRS → by_counts true cs ps ≡ None
none-over cs ps c p = rw (le-ltb MAX_CLIENTS cs c, le-ltb MAX_PAIRS ps p) refl

clean-over : (cs ps : ℕ) → MAX_PAIRS < ps → by_counts false cs ps ≡ Some (Full Pairs)
clean-over cs ps p = rw (lt-ltb MAX_PAIRS ps p) refl

clean-none : (cs ps : ℕ) → ps ≤ MAX_PAIRS → by_counts false cs ps ≡ None
clean-none cs ps p = rw (le-ltb MAX_PAIRS ps p) refl

-- A dirty that is taken, and one that isn't.
pub dirty-taken : (cs ps granted : ℕ) → ((◌≡◌ {A = Result ℕ LeaseFault} (Ok granted) (Err ClientsFault)) ↔ (MAX_CLIENTS < cs)) →
    ((◌≡◌ {A = Result ℕ LeaseFault} (Ok granted) (Err PairsFault)) ↔ ((cs ≤ MAX_CLIENTS) × (MAX_PAIRS < ps))) → by_counts true cs ps ≡ None
dirty-taken cs ps granted c p = elim (order MAX_CLIENTS cs) [
  | inl over ↦ absurd (let never = c.1 over in cc)
  | inr few ↦ elim (order MAX_PAIRS ps) [
    | inl over ↦ absurd (let never = p.1 (few, over) in cc)
    | inr fewer ↦ none-over cs ps few fewer
  ]
]

pub dirty-refused : (cs ps : ℕ) (fault : LeaseFault) → ((◌≡◌ {A = Result ℕ LeaseFault} (Err fault) (Err ClientsFault)) ↔ (MAX_CLIENTS < cs)) →
    ((◌≡◌ {A = Result ℕ LeaseFault} (Err fault) (Err PairsFault)) ↔ ((cs ≤ MAX_CLIENTS) × (MAX_PAIRS < ps))) → (by_counts true cs ps ≡ Some (refused_for fault)) ⊎ (refused_for fault ≡ OutOfMemory)
dirty-refused cs ps ClientsFault c p = inl (clients-over cs ps (c.0 refl))
dirty-refused cs ps PairsFault c p = let both = p.0 refl in inl (pairs-over cs ps both.0 both.1)
dirty-refused cs ps NoMemory c p = inr refl

-- The same of a clean.
clean-kind : (strong : Bool) → is_dirty_kind (clean_kind strong) ≡ false
clean-kind true = refl
clean-kind false = refl

pub clean-taken : (strong : Bool) (cs ps : ℕ) (done : Unit {0}) → ((◌≡◌ {A = Result (Unit {0}) LeaseFault} (Ok done) (Err PairsFault)) ↔ (MAX_PAIRS < ps)) →
    by_counts (is_dirty_kind (clean_kind strong)) cs ps ≡ None
clean-taken strong cs ps done p = rw (clean-kind strong) (elim (order MAX_PAIRS ps) [
  | inl over ↦ absurd (let never = p.1 over in cc)
  | inr few ↦ clean-none cs ps few
])

pub clean-refused : (strong : Bool) (cs ps : ℕ) (fault : LeaseFault) → ◌≢◌ {A = Result (Unit {0}) LeaseFault} (Err fault) (Err ClientsFault) →
    ((◌≡◌ {A = Result (Unit {0}) LeaseFault} (Err fault) (Err PairsFault)) ↔ (MAX_PAIRS < ps)) →
    (by_counts (is_dirty_kind (clean_kind strong)) cs ps ≡ Some (refused_for fault)) ⊎ (refused_for fault ≡ OutOfMemory)
clean-refused strong cs ps ClientsFault c p = absurd (c refl)
clean-refused strong cs ps PairsFault c p = inl (ap (λ d. by_counts d cs ps) (clean-kind strong) ∙ clean-over cs ps (p.0 refl))
clean-refused strong cs ps NoMemory c p = inr refl

-- An ask that is no dirty and no clean sends no call.
pub no_call : (names : ObjId → Bool) (moment : ℕ) (a : Ask) →
    ((client : Client) (number asked : ℤ) (objects : List ObjId) → a ≡ Dirty client number asked objects → ⊥) →
    ((client : Client) (number : ℤ) (objects : List ObjId) (strong : Bool) → a ≡ Clean client number objects strong → ⊥) →
    call_with names moment a ≡ []
no_call names moment (Dirty a b c d) nd nc = absurd (nd a b c d refl)
no_call names moment (Clean a b c d) nd nc = absurd (nc a b c d refl)
no_call names moment _ nd nc = refl

-- Where all of some objects are exported, those of them that are exported are all of them.
pub filter_all : (test : ObjId → Bool) (objects : List ObjId) → list_all test objects ≡ true → filter test objects ≡ objects
filter_all test [] all = refl
filter_all test (object ∷ objects) all = elim (test object) as (λ b. test object ≡ b → (b && list_all test objects) ≡ true → (if b then object ∷ filter test objects else filter test objects) ≡ object ∷ objects) [
  | true ↦ λ is rest. ap (λ os. object ∷ os) (filter_all test objects rest)
  | false ↦ λ is never. absurd (true≢false (sym never))
] refl all
