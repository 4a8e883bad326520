-- Why the accepting stopped.
use Rattle.std.specs.Prelude.{◌≡◌, ◌<◌, ◌≤◌, ℕ, Bool, true, List, [], ◌∷◌, length, Option, Some, None}
use Rattle.wire_io.specs.Links.{Accepted}
use Rattle.wire_io.specs.Wire.{ReadHalf, WriteHalf, Gave}
use Rattle.conn_server.specs.declared.admission.LostLink.{LostLink}
use Rattle.conn_server.specs.declared.accept_loop.Stop.{Stop}
use Rattle.conn_server.specs.declared.accept_loop.Stop.TheVariants.{All, AcceptFault, Told, OutOfMemory}

-- Of so many links that were to be accepted so many were served, and these were accepted and not served: one, where there was no memory for it, and
-- else none. As many as were to be were served exactly where that is why the accepting stopped.
-- It isn't stopped by being told to.
abbrev pub Stopped : Stop → ℕ → ℕ → List Accepted → Type 0
Stopped All count served lost = (served ≡ count) × (lost ≡ [])
Stopped AcceptFault count served lost = (served < count) × (lost ≡ [])
Stopped OutOfMemory count served lost = (served < count) × (length lost ≡ 1)
Stopped Told count served lost = ⊥

-- The same of a server that stops where its listener was told to, too, before as many were served as were to be. Then none was accepted and not served.
abbrev pub HostStopped : Stop → Bool → ℕ → ℕ → List Accepted → Type 0
HostStopped Told told count served lost = (told ≡ true) × (served < count) × (lost ≡ [])
HostStopped All told count served lost = Stopped All count served lost
HostStopped AcceptFault told count served lost = Stopped AcceptFault count served lost
HostStopped OutOfMemory told count served lost = Stopped OutOfMemory count served lost

-- A link that the listener tells so is given back as it was accepted, but that each half was shut: no byte of it was taken or written, and its clock
-- gave one moment at most.
pub record IsLostLink {I O T : Type 0} (read_half : I → ReadHalf) (write_half : O → WriteHalf) (given : T → Option (List ℕ)) (p : Accepted) (lost : LostLink I O T) : Type 0 where
  pub left : (read_half lost.source).left ≡ p.left
  pub held : (write_half lost.sink).held ≡ p.held
  pub read_faults : (read_half lost.source).faults ≡ 0
  pub write_faults : (write_half lost.sink).faults ≡ 0
  pub read_shut : (read_half lost.source).shut ≡ Some p.left
  pub write_shut : (write_half lost.sink).shut ≡ Some p.held
  pub moments : List ℕ
  pub few : length moments ≤ 1
  pub gave : Gave p.given (given lost.clock) moments

-- The links that were accepted and not served, of which there is one at most, are given back.
abbrev pub AreGivenBack : {I O T : Type 0} → (Accepted → LostLink I O T → Type 0) → List Accepted → Option (LostLink I O T) → Type 0
AreGivenBack IsLost [] None = Unit {0}
AreGivenBack IsLost (p ∷ []) (Some lost) = IsLost p lost
AreGivenBack IsLost _ _ = ⊥
