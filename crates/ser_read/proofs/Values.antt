-- Values and elements of primitive types.
use Rattle.std.proofs.Common.{◌≡◌, ℕ, List, Result, Ok, Err, refl}
use Rattle.wire_io.specs.Pulled.{PullState}
use Rattle.stream_grammar.specs.Reading.{short, ◌>>=◌, Fault, Plain, Progress, Step, map_step, plain}
use Rattle.ser_read.specs.declared.fault.StreamFault.{StreamFault}
use Rattle.ser_read.specs.Here.{Reads, Breaks}
use Rattle.ser_read.proofs.Steps.{then, done}
use Rattle.ser_read.proofs.Breaking.{first}

pub twice : {A B C : Type 0} (f : B → C) (g : A → B) (step : Step A) (now : Progress) (bs : List ℕ) → map_step (λ n. f (g n)) step now bs ≡ map_step f (map_step g step) now bs
twice {A} {B} {C} f g step now bs = go (step now bs)
  where
    go : (r : Result (A × Progress × List ℕ) Fault) → ◌>>=◌ {B = C × Progress × List ℕ} r (λ x. Ok (f (g x.0), x.1, x.2)) ≡ ◌>>=◌ {B = C × Progress × List ℕ} (◌>>=◌ {B = B × Progress × List ℕ} r (λ x. Ok (g x.0, x.1, x.2))) (λ x. Ok (f x.0, x.1, x.2))
    go (Ok x) = refl
    go (Err e) = refl

pub mapped_reads : {A B : Type 0} {p q : PullState} (f : A → B) (step : Step A) (now : Progress) (x : A) → Reads short p q (λ end. step now) (λ rest. (x, now, rest)) → Reads short p q (λ end. map_step f step now) (λ rest. (f x, now, rest))
mapped_reads f step now x h = then (λ end y. Ok (f y.0, y.1, y.2)) h (done (λ end bs. refl))

pub mapped_stops : {A B : Type 0} {p q : PullState} {e : StreamFault} (f : A → B) (step : Step A) (now : Progress) → Breaks p q e (λ end. step now) → Breaks p q e (λ end. map_step f step now)
mapped_stops f step now h = first (λ end y. Ok (f y.0, y.1, y.2)) h

-- what changes no nodes
pub plain_stops : {A : Type 0} {p q : PullState} {e : StreamFault} {read : ℕ → List ℕ → Plain A} (now : Progress) → Breaks p q e read → Breaks p q e (λ end. plain (read end) now)
plain_stops now h = first (λ end y. Ok (y.0, now, y.1)) h
