-- A link that is given back, by the link as it was accepted.
use Rattle.std.proofs.Common.{ℕ, ◌≤◌, List, length, ap, ◌∙◌}
use Rattle.std.specs.Prelude.{Option}
use Rattle.wire_io.specs.Links.{accepted_as}
use Rattle.wire_io.specs.Wire.{ReadHalf, WriteHalf, AreNewHalves, ShutsRead, ShutsWrite, Gave, first_shut}
use Rattle.wire_io.specs.declared.link.Link.{Link}
use Rattle.conn_server.specs.Stops.{IsLostLink}
use Rattle.conn_server.specs.declared.admission.LostLink.{LostLink}

pub lost_link : {I O T : Type 0} (read_half : I → ReadHalf) (write_half : O → WriteHalf) (given : T → Option (List ℕ)) (link : Link I O T) (lost : LostLink I O T) (moments : List ℕ)
    → AreNewHalves (read_half link.source) (write_half link.sink) → ShutsRead (read_half link.source) (read_half lost.source) → ShutsWrite (write_half link.sink) (write_half lost.sink)
    → length moments ≤ 1 → Gave (given link.clock) (given lost.clock) moments → IsLostLink read_half write_half given (accepted_as read_half write_half given link) lost
lost_link read_half write_half given link lost moments fresh shuts shuts2 few gave = record {
  left = shuts.0;
  held = shuts2.0;
  read_faults = shuts.1 ∙ fresh.0;
  write_faults = shuts2.1 ∙ fresh.2;
  read_shut = shuts.2 ∙ ap (λ s. first_shut s (read_half link.source).left) fresh.1;
  write_shut = shuts2.2 ∙ ap (λ s. first_shut s (write_half link.sink).held) fresh.3;
  moments = moments;
  few = few;
  gave = gave;
}
