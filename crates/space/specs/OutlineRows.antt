-- What an outline says of an object and of a name.
use Rattle.std.specs.Prelude.{ℕ, List, length}
use Rattle.history.specs.declared.asks.SpaceConfig.{SpaceConfig}
use Rattle.history.specs.declared.calls.Call.{Call}
use Rattle.history.specs.Leases.{holders}
use Rattle.history.specs.Outline.{ObjectRow}
use Rattle.export_table.specs.declared.rows.ExportRow.{ExportRow}
use Rattle.journal.specs.Rows.{named_text}
use Rattle.rmi_registry.specs.declared.binding.Binding.{Binding}

-- An object, which clients may hold. Each name that stands for it is a pin.
abbrev pub held_row : ℕ → ℕ → List Call → ExportRow → ObjectRow
held_row lease at calls x = record {
  object = x.id;
  kind = x.kind;
  pinned = x.pinned;
  running = x.running;
  awaiting = x.awaiting;
  held = length (holders lease at calls x.id);
  names = x.pins;
}

-- The line of a name and of the object for which it stands.
abbrev pub binding_text : SpaceConfig → Binding → List ℕ
binding_text config b = named_text config.uid b.name b.object
