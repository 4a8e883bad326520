-- What the readers of the protocol's parts do.
use Rattle.std.specs.Prelude.{◌≡◌, ◌≢◌, ℕ, ◌+◌, ◌<◌, List, [], ◌∷◌, ◌++◌, length, Option, None, Some, Result, Ok, Err}
use Rattle.wire_io.specs.Wire.{NothingLeft}
use Rattle.wire_io.specs.Pulled.{PullState, Takes, Stops}
use Rattle.wire_io.specs.declared.pull.PullEnd.{PullEnd}
use Rattle.wire_io.specs.declared.pull.PullEnd.TheVariants as ends
use Rattle.object_ids.specs.declared.ids.Uid.{Uid}
use Rattle.object_ids.specs.Bytes.{bytes_of_uid}
use Rattle.ser_read.specs.declared.fault.StreamFault.{StreamFault}
use Rattle.ser_read.specs.declared.fault.StreamFault.TheVariants.{TooLarge, Truncated, ReadFault}
use Rattle.ser_read.specs.declared.fault.Large.TheVariants.{Bytes}
use Rattle.jrmp_frames.specs.Frames.{header_start, header, IsNoProtocol, IsInHeader, BreaksHeader, IsEndpoint, IsInEndpoint, code_byte, IsCode}
use Rattle.jrmp_frames.specs.declared.fault.FrameFault.{FrameFault}
use Rattle.jrmp_frames.specs.declared.fault.FrameFault.TheVariants.{BadHeader, UnknownProtocol, BadMessage, Stream}
use Rattle.jrmp_frames.specs.declared.header.Protocol.{Protocol}
use Rattle.jrmp_frames.specs.declared.code.Code.{Code}

-- The input stops inside a part of the protocol, after these bytes of it. Want of memory doesn't stop it.
pub record StopsInside (IsInside : List ℕ → Type 0) (old new : PullState) (e : PullEnd) : Type 0 where
  pub part : List ℕ
  pub mid : PullState
  pub inside : IsInside part
  pub takes : Takes old mid part
  pub stops : Stops mid new e
  pub memory : e ≢ ends.OutOfMemory

-- The same, where the fault says how the input stops.
abbrev pub StopsIn : (List ℕ → Type 0) → PullState → PullState → StreamFault → Type 0
StopsIn IsInside old new (Truncated at) = StopsInside IsInside old new (ends.End at)
StopsIn IsInside old new (TooLarge Bytes at) = StopsInside IsInside old new (ends.Limit at)
StopsIn IsInside old new ReadFault = StopsInside IsInside old new ends.ReadFault
StopsIn IsInside old new _ = ⊥

-- What reading the header does.
abbrev pub GivesHeader : PullState → PullState → Result Protocol FrameFault → Type 0
GivesHeader old new (Ok protocol) = Takes old new (header protocol)
GivesHeader old new (Err (BadHeader at)) = (k : ℕ) × (bytes : List ℕ) × (at ≡ old.at + k) × BreaksHeader k bytes × Takes old new bytes
GivesHeader old new (Err (UnknownProtocol byte)) = IsNoProtocol byte × Takes old new (header_start ++ byte ∷ [])
GivesHeader old new (Err (Stream fault)) = StopsIn IsInHeader old new fault
GivesHeader old new (Err _) = ⊥

-- What skipping an endpoint does.
abbrev pub GivesEndpoint : {A : Type 0} → PullState → PullState → Result A FrameFault → Type 0
GivesEndpoint old new (Ok _) = (bytes : List ℕ) × IsEndpoint bytes × Takes old new bytes
GivesEndpoint old new (Err (Stream fault)) = StopsIn IsInEndpoint old new fault
GivesEndpoint old new (Err _) = ⊥

-- What skipping n bytes does.
abbrev pub GivesSkipped : {A : Type 0} → PullState → PullState → ℕ → Result A PullEnd → Type 0
GivesSkipped old new n (Ok _) = (bytes : List ℕ) × (length bytes ≡ n) × Takes old new bytes
GivesSkipped old new n (Err e) = StopsInside (λ part. length part < n) old new e

-- What reading a message's code does.
abbrev pub GivesCode : PullState → PullState → Result (Option Code) FrameFault → Type 0
GivesCode old new (Ok None) = Takes old new [] × NothingLeft new.left
GivesCode old new (Ok (Some code)) = Takes old new (code_byte code ∷ [])
GivesCode old new (Err (BadMessage byte at)) = (at ≡ old.at) × ¬ IsCode byte × Takes old new (byte ∷ [])
GivesCode old new (Err (Stream fault)) = ((at : ℕ) → fault ≢ Truncated at) × StopsIn (λ part. part ≡ []) old new fault
GivesCode old new (Err _) = ⊥

-- What reading an identifier does.
abbrev pub GivesUid : PullState → PullState → Result Uid FrameFault → Type 0
GivesUid old new (Ok uid) = Takes old new (bytes_of_uid uid)
GivesUid old new (Err (Stream fault)) = StopsIn (λ part. length part < 14) old new fault
GivesUid old new (Err _) = ⊥
