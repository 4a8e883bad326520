-- A line spells at most one step, and at most one first line of a world.
use Rattle.std.proofs.Common.{◌≡◌, ℕ, ◌^◌, List, [], ◌∷◌, drop, refl, ap, sym, subst, ◌∙◌, arith, codes, ℤ, w64}
use Rattle.journal.specs.Grammar.{◌▸◌, End, SpellsSigned, SpellsDuration}
use Rattle.journal.specs.Parts.{parts}
use Rattle.journal.proofs.Decimals.{same_number}
use Rattle.journal.proofs.Unique.{IsOnce, apart, below_once, duration_once, signed_once}
use Rattle.lease_world.specs.Script.{StepWords, SpellsStep, SpellsCount, SpellsClient, SpellsClients, WorldWords, SpellsWorld}
use Rattle.lease_world.specs.declared.step.Step.{Step}
use Rattle.lease_world.specs.declared.step.Step.TheVariants as steps

-- ---- words

-- The words after the first.
after : (S : List ℕ → Type 0) (P : List (List ℕ) → Type 0) (words : List (List ℕ)) → (S ▸ P) words → P (drop 1 words)
after S P [] spells = absurd spells
after S P (word ∷ words) spells = spells.1

-- The first word spells at most one thing, whatever the words after it spell.
first_once : {X : Type 0} (S : X → List ℕ → Type 0) → IsOnce S → (P Q : List (List ℕ) → Type 0) (words : List (List ℕ)) (x y : X) → (S x ▸ P) words → (S y ▸ Q) words → x ≡ y
first_once S once P Q [] x y of_x of_y = absurd of_x
first_once S once P Q (word ∷ words) x y of_x of_y = once.same x y word of_x.0 of_y.0

count_once : IsOnce SpellsCount
count_once = below_once (2 ^ 63) (omega arith)

client_once : IsOnce SpellsClient
client_once = below_once (2 ^ 8) (omega arith)

number_once : IsOnce (SpellsSigned w64)
number_once = signed_once w64 (omega arith)

clients_once : IsOnce SpellsClients
clients_once = record { same = λ m n word of_m of_n. same_number word m n (omega (arith, of_m.1)) (omega (arith, of_n.1)) of_m.2 of_n.2 }

counts_once : (words : List (List ℕ)) (m n : ℕ) → (SpellsCount m ▸ End) words → (SpellsCount n ▸ End) words → m ≡ n
counts_once words m n of_m of_n = first_once SpellsCount count_once End End words m n of_m of_n

-- A client, and a number of one of its objects or calls.
numbered_once : (words : List (List ℕ)) (c d : ℕ) (m n : ℤ) → (SpellsClient c ▸ SpellsSigned w64 m ▸ End) words → (SpellsClient d ▸ SpellsSigned w64 n ▸ End) words → (c ≡ d) × (m ≡ n)
numbered_once words c d m n of_a of_b = (
  first_once SpellsClient client_once (SpellsSigned w64 m ▸ End) (SpellsSigned w64 n ▸ End) words c d of_a of_b,
  first_once (SpellsSigned w64) number_once End End (drop 1 words) m n (after (SpellsClient c) (SpellsSigned w64 m ▸ End) words of_a) (after (SpellsClient d) (SpellsSigned w64 n ▸ End) words of_b),
)

-- ---- each keyword begins the steps of its kind alone

only_at : {Z : Type 0} (rest : List (List ℕ)) (s : Step) → StepWords s (codes "at" ∷ rest) → ((m : ℕ) → s ≡ steps.At m → (SpellsCount m ▸ End) rest → Z) → Z
only_at rest (steps.At m) spells then = then m refl spells.1
only_at rest _ spells then = absurd (apart _ _ refl spells.0)

only_make : {Z : Type 0} (rest : List (List ℕ)) (s : Step) → StepWords s (codes "make" ∷ rest) → (s ≡ steps.Make → Z) → Z
only_make rest steps.Make spells then = then refl
only_make rest _ spells then = absurd (apart _ _ refl spells.0)

only_ack : {Z : Type 0} (rest : List (List ℕ)) (s : Step) → StepWords s (codes "ack" ∷ rest) → ((m : ℕ) → s ≡ steps.Ack m → (SpellsCount m ▸ End) rest → Z) → Z
only_ack rest (steps.Ack m) spells then = then m refl spells.1
only_ack rest _ spells then = absurd (apart _ _ refl spells.0)

only_register : {Z : Type 0} (rest : List (List ℕ)) (s : Step) → StepWords s (codes "register" ∷ rest)
    → ((c : ℕ) (n : ℤ) → s ≡ steps.Register c n → (SpellsClient c ▸ SpellsSigned w64 n ▸ End) rest → Z) → Z
only_register rest (steps.Register c n) spells then = then c n refl spells.1
only_register rest _ spells then = absurd (apart _ _ refl spells.0)

only_drop : {Z : Type 0} (rest : List (List ℕ)) (s : Step) → StepWords s (codes "drop" ∷ rest)
    → ((c : ℕ) (n : ℤ) → s ≡ steps.Release c n → (SpellsClient c ▸ SpellsSigned w64 n ▸ End) rest → Z) → Z
only_drop rest (steps.Release c n) spells then = then c n refl spells.1
only_drop rest _ spells then = absurd (apart _ _ refl spells.0)

only_due : {Z : Type 0} (rest : List (List ℕ)) (s : Step) → StepWords s (codes "due" ∷ rest) → ((c : ℕ) → s ≡ steps.Due c → (SpellsClient c ▸ End) rest → Z) → Z
only_due rest (steps.Due c) spells then = then c refl spells.1
only_due rest _ spells then = absurd (apart _ _ refl spells.0)

only_deliver : {Z : Type 0} (rest : List (List ℕ)) (s : Step) → StepWords s (codes "deliver" ∷ rest) → ((m : ℕ) → s ≡ steps.Deliver m → (SpellsCount m ▸ End) rest → Z) → Z
only_deliver rest (steps.Deliver m) spells then = then m refl spells.1
only_deliver rest _ spells then = absurd (apart _ _ refl spells.0)

only_answer : {Z : Type 0} (rest : List (List ℕ)) (s : Step) → StepWords s (codes "answer" ∷ rest) → ((m : ℕ) → s ≡ steps.Answer m → (SpellsCount m ▸ End) rest → Z) → Z
only_answer rest (steps.Answer m) spells then = then m refl spells.1
only_answer rest _ spells then = absurd (apart _ _ refl spells.0)

only_fail : {Z : Type 0} (rest : List (List ℕ)) (s : Step) → StepWords s (codes "fail" ∷ rest) → ((m : ℕ) → s ≡ steps.Fail m → (SpellsCount m ▸ End) rest → Z) → Z
only_fail rest (steps.Fail m) spells then = then m refl spells.1
only_fail rest _ spells then = absurd (apart _ _ refl spells.0)

only_tick : {Z : Type 0} (rest : List (List ℕ)) (s : Step) → StepWords s (codes "tick" ∷ rest) → (s ≡ steps.Tick → Z) → Z
only_tick rest steps.Tick spells then = then refl
only_tick rest _ spells then = absurd (apart _ _ refl spells.0)

only_ask : {Z : Type 0} (rest : List (List ℕ)) (s : Step) → StepWords s (codes "ask" ∷ rest)
    → ((c : ℕ) (n : ℤ) → s ≡ steps.Ask c n → (SpellsClient c ▸ SpellsSigned w64 n ▸ End) rest → Z) → Z
only_ask rest (steps.Ask c n) spells then = then c n refl spells.1
only_ask rest _ spells then = absurd (apart _ _ refl spells.0)

-- ---- lines

no_words : (s : Step) → StepWords s [] → ⊥
no_words steps.Tick spells = spells
no_words _ spells = spells

-- A step's words begin with this keyword too, where they begin with a word that is the keyword.
begun : (s : Step) (word keyword : List ℕ) (rest : List (List ℕ)) → word ≡ keyword → StepWords s (word ∷ rest) → StepWords s (keyword ∷ rest)
begun s word keyword rest is spells = subst (λ (w : List ℕ). StepWords s (w ∷ rest)) is spells

at_word : (a b : Step) (word : List ℕ) (rest : List (List ℕ)) → StepWords a (word ∷ rest) → StepWords b (word ∷ rest) → a ≡ b
at_word (steps.At m) b word rest of_a of_b = only_at rest b (begun b word _ rest of_a.0 of_b) (λ n is spells.
    ap steps.At (counts_once rest m n of_a.1 spells) ∙ sym is)
at_word steps.Make b word rest of_a of_b = only_make rest b (begun b word _ rest of_a.0 of_b) (λ is. sym is)
at_word (steps.Ack m) b word rest of_a of_b = only_ack rest b (begun b word _ rest of_a.0 of_b) (λ n is spells.
    ap steps.Ack (counts_once rest m n of_a.1 spells) ∙ sym is)
at_word (steps.Register c m) b word rest of_a of_b = only_register rest b (begun b word _ rest of_a.0 of_b) (λ d n is spells.
    let both = numbered_once rest c d m n of_a.1 spells in
    ap (λ (x : ℕ). steps.Register x m) both.0 ∙ ap (λ (x : ℤ). steps.Register d x) both.1 ∙ sym is)
at_word (steps.Release c m) b word rest of_a of_b = only_drop rest b (begun b word _ rest of_a.0 of_b) (λ d n is spells.
    let both = numbered_once rest c d m n of_a.1 spells in
    ap (λ (x : ℕ). steps.Release x m) both.0 ∙ ap (λ (x : ℤ). steps.Release d x) both.1 ∙ sym is)
at_word (steps.Due c) b word rest of_a of_b = only_due rest b (begun b word _ rest of_a.0 of_b) (λ d is spells.
    ap steps.Due (first_once SpellsClient client_once End End rest c d of_a.1 spells) ∙ sym is)
at_word (steps.Deliver m) b word rest of_a of_b = only_deliver rest b (begun b word _ rest of_a.0 of_b) (λ n is spells.
    ap steps.Deliver (counts_once rest m n of_a.1 spells) ∙ sym is)
at_word (steps.Answer m) b word rest of_a of_b = only_answer rest b (begun b word _ rest of_a.0 of_b) (λ n is spells.
    ap steps.Answer (counts_once rest m n of_a.1 spells) ∙ sym is)
at_word (steps.Fail m) b word rest of_a of_b = only_fail rest b (begun b word _ rest of_a.0 of_b) (λ n is spells.
    ap steps.Fail (counts_once rest m n of_a.1 spells) ∙ sym is)
at_word steps.Tick b word rest of_a of_b = only_tick rest b (begun b word _ rest of_a.0 of_b) (λ is. sym is)
at_word (steps.Ask c m) b word rest of_a of_b = only_ask rest b (begun b word _ rest of_a.0 of_b) (λ d n is spells.
    let both = numbered_once rest c d m n of_a.1 spells in
    ap (λ (x : ℕ). steps.Ask x m) both.0 ∙ ap (λ (x : ℤ). steps.Ask d x) both.1 ∙ sym is)

words_once : (a b : Step) (words : List (List ℕ)) → StepWords a words → StepWords b words → a ≡ b
words_once a b [] of_a of_b = absurd (no_words a of_a)
words_once a b (word ∷ rest) of_a of_b = at_word a b word rest of_a of_b

-- A line spells at most one step.
pub step_once : (a b : Step) (text : List ℕ) → SpellsStep a text → SpellsStep b text → a ≡ b
step_once a b text of_a of_b = words_once a b (parts 32 text) of_a of_b

-- A line spells at most one first line of a world.
pub world_once : (lease lease2 ack ack2 clients clients2 : ℕ) (text : List ℕ) → SpellsWorld lease ack clients text → SpellsWorld lease2 ack2 clients2 text
    → (lease ≡ lease2) × (ack ≡ ack2) × (clients ≡ clients2)
world_once lease lease2 ack ack2 clients clients2 text of_a of_b =
    let others = after_world (parts 32 text) of_a of_b in
    let words = others.0 in
    let of_ack = after (SpellsDuration lease) (SpellsDuration ack ▸ SpellsClients clients ▸ End) words others.1 in
    let of_ack2 = after (SpellsDuration lease2) (SpellsDuration ack2 ▸ SpellsClients clients2 ▸ End) words others.2 in (
      first_once SpellsDuration duration_once (SpellsDuration ack ▸ SpellsClients clients ▸ End) (SpellsDuration ack2 ▸ SpellsClients clients2 ▸ End) words lease lease2 others.1 others.2,
      first_once SpellsDuration duration_once (SpellsClients clients ▸ End) (SpellsClients clients2 ▸ End) (drop 1 words) ack ack2 of_ack of_ack2,
      first_once SpellsClients clients_once End End (drop 1 (drop 1 words)) clients clients2
          (after (SpellsDuration ack) (SpellsClients clients ▸ End) (drop 1 words) of_ack) (after (SpellsDuration ack2) (SpellsClients clients2 ▸ End) (drop 1 words) of_ack2),
    )
  where
    after_world : (words : List (List ℕ)) → WorldWords lease ack clients words → WorldWords lease2 ack2 clients2 words
        → (rest : List (List ℕ)) × (SpellsDuration lease ▸ SpellsDuration ack ▸ SpellsClients clients ▸ End) rest × (SpellsDuration lease2 ▸ SpellsDuration ack2 ▸ SpellsClients clients2 ▸ End) rest
    after_world [] of_x of_y = absurd of_x
    after_world (word ∷ words) of_x of_y = (words, of_x.1, of_y.1)
