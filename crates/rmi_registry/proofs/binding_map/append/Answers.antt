use Rattle.std.proofs.Common.{◌∙◌, ap}
use Rattle.std.specs.Prelude.{nat_eq}
use Rattle.std.specs.Cmp.Lexicographic.{pointwise}
use Rattle.indexmap.proofs.CallerLemmas.{insert_entry-new}
use Rattle.rmi_registry.specs.MapEntries.{bindings_of}
use Rattle.rmi_registry.specs.Bindings.{object_of}
use Rattle.rmi_registry.proofs.Entries.{object-looked_up, bindings-keyed}
use Rattle.rmi_registry.proofs.binding_map.append.Goals as goal

pub returns-clause-ok : goal.returns-clause-ok
returns-clause-ok c = bindings-keyed c.args.bound.now.entries c.insert.new.self.entries c.in_ok-key.key c.args.units.now c.args.object c.in_ok-key.ensures.items
    (c.in_ok-insert.ensures.entries ∙ insert_entry-new (λ a b. pointwise nat_eq a.items b.items) c.args.bound.now c.in_ok-key.key c.args.object
    (object-looked_up c.args.bound.now.entries c.in_ok-key.key.items ∙ ap (object_of (bindings_of c.args.bound.now.entries)) c.in_ok-key.ensures.items ∙ c.requires))
