-- Runs of numbers, each of so many bytes.
use Rattle.std.specs.Prelude.{◌≡◌, ℕ, zero, suc, ℤ, Bool, false, nat_lt, List, [], ◌∷◌, length, get_or, take, drop, Result, Ok, Err}
use Rattle.std.proofs.Common.{refl, arith}
use Rattle.std.proofs.lemmas.Bool.{le-ltb}
use Rattle.std.specs.Int.{Width, byte_len, from_be_bytes, cast_signed}
use Rattle.stream_grammar.specs.Reading.{◌>>=◌, Fault, Plain, Progress, Step, plain, byte_at, take_at, number_at, is_true}
use Rattle.ser_read.specs.Signed.{signed_at, truth_at}

-- ---- what bytes spell

abbrev pub byte_of : List ℕ → ℕ
byte_of bs = get_or bs 0 0

abbrev pub truth_of : List ℕ → Bool
truth_of bs = is_true (get_or bs 0 0)

abbrev pub number_of : Width → List ℕ → ℕ
number_of w bs = from_be_bytes w bs

abbrev pub signed_of : Width → List ℕ → ℤ
signed_of w bs = cast_signed w (from_be_bytes w bs)

-- What the next bytes spell, so many of them.
unfoldable pub of_front : {A : Type 0} → ℕ → (List ℕ → A) → Step A
of_front width value now bs = take_at width bs >>= λ t. Ok (value t.0, now, t.1)

-- what so many numbers are, one after the other
unfoldable pub run_of : {A : Type 0} → ℕ → (List ℕ → A) → ℕ → List ℕ → List A
run_of width value zero bs = []
run_of width value (suc n) bs = value (take width bs) ∷ run_of width value n (drop width bs)

-- ---- reading one is what its bytes spell

pub byte_is : (now : Progress) (bs : List ℕ) → plain byte_at now bs ≡ of_front 1 byte_of now bs
unfolding of_front
byte_is now [] = refl
byte_is now (b ∷ bs) = let k : nat_lt (length (b ∷ bs)) 1 ≡ false = le-ltb _ _ (omega arith) in rw k refl

pub truth_is : (now : Progress) (bs : List ℕ) → truth_at now bs ≡ of_front 1 truth_of now bs
unfolding of_front
truth_is now [] = refl
truth_is now (b ∷ bs) = let k : nat_lt (length (b ∷ bs)) 1 ≡ false = le-ltb _ _ (omega arith) in rw k refl

abbrev number_one : Width → List ℕ × List ℕ → Plain ℕ
number_one w t = Ok (from_be_bytes w t.0, t.1)

abbrev plain_one : {A : Type 0} → Progress → A × List ℕ → Result (A × Progress × List ℕ) Fault
plain_one now x = Ok (x.0, now, x.1)

abbrev signed_one : Width → ℕ × Progress × List ℕ → Result (ℤ × Progress × List ℕ) Fault
signed_one w x = Ok (cast_signed w x.0, x.1, x.2)

abbrev front_one : {A : Type 0} → (List ℕ → A) → Progress → List ℕ × List ℕ → Result (A × Progress × List ℕ) Fault
front_one value now t = Ok (value t.0, now, t.1)

pub number_is : (w : Width) (now : Progress) (bs : List ℕ) → plain (number_at w) now bs ≡ of_front (byte_len w) (number_of w) now bs
unfolding of_front
number_is w now bs = go (take_at (byte_len w) bs)
  where
    go : (r : Plain (List ℕ)) → ((r >>= number_one w) >>= plain_one now) ≡ (r >>= front_one (number_of w) now)
    go (Ok x) = refl
    go (Err e) = refl

pub signed_is : (w : Width) (now : Progress) (bs : List ℕ) → signed_at w now bs ≡ of_front (byte_len w) (signed_of w) now bs
unfolding of_front
signed_is w now bs = go (take_at (byte_len w) bs)
  where
    go : (r : Plain (List ℕ)) → (((r >>= number_one w) >>= plain_one now) >>= signed_one w) ≡ (r >>= front_one (signed_of w) now)
    go (Ok x) = refl
    go (Err e) = refl
