use Rattle.std.proofs.Common.{List, [], ◌∷◌, ◌++◌, length, ap, sym, subst, ◌∙◌}
use Rattle.std.specs.Prelude.{map}
use Rattle.std.specs.List.{AllByRecursion}
use Rattle.history.proofs.ListLemmas.{every-append}
use Rattle.history.specs.declared.asks.Event.{Event}
use Rattle.event_log.specs.Log.{EventRecord}
use Rattle.event_log.specs.Rows.{IsKnown, event_of}
use Rattle.event_log.specs.declared.rows.Row.{Row}
use Rattle.event_log.proofs.RowLaws.{one-more, pushed, pushed-known}
use Rattle.event_log.proofs.log.EventLog.push_reserved.Goals as goal

pub invariant_of-self : goal.invariant_of-self
invariant_of-self c =
    let n = length c.self.inside.clients.list.items in
    let m = length c.self.inside.names.list.items in (
      subst (λ (rows : List Row). AllByRecursion (IsKnown n m) rows) (sym c.push_reserved.ensures.items)
          (every-append (IsKnown n m) c.self.inside.rows.items (c.plain_row-row.result ∷ []) c.self.invariant.0 (c.plain_row-row.ensures.known n m, tt)),
      c.self.invariant.1,
      c.self.invariant.2,
    )

pub invariant_of-self-else-is_plain : goal.invariant_of-self-else-is_plain
invariant_of-self-else-is_plain c =
    let before = c.self.inside.clients.list.items in
    let after = c.row_of-row.new.clients.list.items in
    let names = c.self.inside.names.list.items in
    let longer = c.row_of-row.new.names.list.items in (
      subst (λ (rows : List Row). AllByRecursion (IsKnown (length after) (length longer)) rows) (sym c.push_reserved-else-is_plain.ensures.items)
          (pushed-known before after c.row_of-row.ensures.clients names longer c.row_of-row.ensures.names c.self.inside.rows.items c.row_of-row.result c.self.invariant.0
          c.row_of-row.ensures.known),
      c.row_of-row.ensures.room,
      c.row_of-row.ensures.name_room,
    )

pub returns-then-is_plain-clause-items : goal.returns-then-is_plain-clause-items
returns-then-is_plain-clause-items c =
    let clients = c.self.inside.clients.list.items in
    let names = c.self.inside.names.list.items in
    let view : Row → Event = event_of c.self.inside.space clients names in
    ap (λ (rows : List Row). map view rows) c.push_reserved.ensures.items
    ∙ one-more c.self.inside.space clients names c.self.inside.rows.items c.plain_row-row.result
    ∙ ap (λ (e : Event). map view c.self.inside.rows.items ++ e ∷ []) (c.plain_row-row.ensures.row clients names)
    ∙ ap (λ (l : EventRecord). l.items ++ c.args.event ∷ []) c.self.view_is

pub returns-else-is_plain-clause-items : goal.returns-else-is_plain-clause-items
returns-else-is_plain-clause-items c =
    let after = c.row_of-row.new.clients.list.items in
    let longer = c.row_of-row.new.names.list.items in
    ap (λ (rows : List Row). map (event_of c.self.inside.space after longer) rows) c.push_reserved-else-is_plain.ensures.items
    ∙ pushed c.self.inside.space c.self.inside.clients.list.items after c.row_of-row.ensures.clients c.self.inside.names.list.items longer c.row_of-row.ensures.names
    c.self.inside.rows.items c.row_of-row.result c.args.event c.self.invariant.0 c.row_of-row.ensures.row
    ∙ ap (λ (l : EventRecord). l.items ++ c.args.event ∷ []) c.self.view_is
