-- What a Pull's bytes are, up to the limit.
use Rattle.std.proofs.Common.{◌≡◌, ℕ, zero, suc, ◌+◌, ◌-◌, ◌≤◌, true, List, [], ◌∷◌, ◌++◌, length, take, drop, length-append, Option, None, Some, refl, ◌∙◌, arith}
use Rattle.std.proofs.Math.Seq.{take-append-add, drop-append-add}
use Rattle.wire_io.specs.Wire.{with_front, NothingLeft}
use Rattle.wire_io.specs.Pulled.{PullState, Takes, Passes}
use Rattle.stream_grammar.specs.Reading.{byte_at}
use Rattle.ser_read.specs.declared.fault.StreamFault.TheVariants.{Truncated, TooLarge}
use Rattle.ser_read.specs.declared.fault.Large.TheVariants.{Bytes}
use Rattle.ser_read.specs.Here.{Fails, fault_after, coming_at, env_at}

abbrev nil : List ℕ
nil = []

ends : (at k : ℕ) → Fails (fault_after (drop k nil) (at + length (take k nil))) (Truncated at) (byte_at (take k nil))
ends at zero = let p : at + 0 ≡ at = omega arith in rw p (refl, refl)
ends at (suc k) = let p : at + 0 ≡ at = omega arith in rw p (refl, refl)

pub byte_ends : (old new : PullState) → Takes old new [] → NothingLeft new.left → (env_at old.left old.at old.stop).told ≡ true
    → Fails (env_at old.left old.at old.stop).after (Truncated old.at) (byte_at (coming_at old.left old.at old.stop))
byte_ends old new t none = go old.left new.left t.left none
  where
    go : (o n : Option (List ℕ)) → o ≡ with_front [] n → NothingLeft n → (env_at o old.at old.stop).told ≡ true → Fails (env_at o old.at old.stop).after (Truncated old.at) (byte_at (coming_at o old.at old.stop))
    go None n h none told = absurd cc
    go (Some os) None h none told = absurd cc
    go (Some os) (Some bs) h none told =
        let e : os ≡ [] = let e1 : os ≡ bs = cc in e1 ∙ none in
        rw e (ends old.at (old.stop - old.at))

pub byte_passes : (old new : PullState) → Passes old new → (env_at old.left old.at old.stop).told ≡ true
    → Fails (env_at old.left old.at old.stop).after (TooLarge Bytes old.at) (byte_at (coming_at old.left old.at old.stop))
byte_passes old new t = go old.left new.left t.left
  where
    go : (o n : Option (List ℕ)) → o ≡ with_front (t.dropped ∷ []) n → (env_at o old.at old.stop).told ≡ true → Fails (env_at o old.at old.stop).after (TooLarge Bytes old.at) (byte_at (coming_at o old.at old.stop))
    go None n h told = absurd cc
    go (Some os) None h told = absurd cc
    go (Some os) (Some bs) h told =
        let e : os ≡ t.dropped ∷ bs = cc in
        let k : old.stop - old.at ≡ 0 = omega (arith, t.at_stop) in
        let p : old.at + 0 ≡ old.at = omega arith in
        rw (e, k, p) (refl, refl)

-- ---- several bytes

pub takes_told : (old new : PullState) (bytes : List ℕ) → Takes old new bytes → new.at ≤ new.stop → (env_at old.left old.at old.stop).told ≡ true
    → coming_at old.left old.at old.stop ≡ bytes ++ coming_at new.left new.at new.stop
takes_told old new bytes t le = go old.left new.left t.left
  where
    go : (o n : Option (List ℕ)) → o ≡ with_front bytes n → (env_at o old.at old.stop).told ≡ true → coming_at o old.at old.stop ≡ bytes ++ coming_at n new.at new.stop
    go None n h told = absurd cc
    go (Some os) None h told = absurd cc
    go (Some os) (Some bs) h told =
        let k : old.stop - old.at ≡ length bytes + (new.stop - new.at) = omega (arith, t.at, t.stop) in
        let e : os ≡ bytes ++ bs = cc in
        rw (e, k) (take-append-add bytes bs (new.stop - new.at))

pub takes_env : (old new : PullState) (bytes : List ℕ) → Takes old new bytes → new.at ≤ new.stop → env_at new.left new.at new.stop ≡ env_at old.left old.at old.stop
takes_env old new bytes t le = go old.left new.left t.left
  where
    go : (o n : Option (List ℕ)) → o ≡ with_front bytes n → env_at n new.at new.stop ≡ env_at o old.at old.stop
    go o None h = rw h refl
    go o (Some bs) h =
        let k : old.stop - old.at ≡ length bytes + (new.stop - new.at) = omega (arith, t.at, t.stop) in
        let e : new.at + length (take (new.stop - new.at) bs) ≡ old.at + length (bytes ++ take (new.stop - new.at) bs) = omega (arith, t.at, length-append bytes (take (new.stop - new.at) bs)) in
        rw (h, k, take-append-add bytes bs (new.stop - new.at), drop-append-add bytes bs (new.stop - new.at), e) refl
