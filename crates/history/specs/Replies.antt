-- What an event is answered.
use Rattle.std.specs.Prelude.{Bool, true, false, List, [], ◌∷◌, ◌++◌, Option, Some, None, map, if◌then◌else◌}
use Rattle.object_ids.specs.declared.ids.ObjId.{ObjId}
use Rattle.history.specs.declared.asks.SpaceConfig.{SpaceConfig}
use Rattle.history.specs.declared.asks.Event.{Event}
use Rattle.history.specs.declared.asks.Ask.{Ask}
use Rattle.history.specs.declared.asks.Ask.TheVariants.{Open, Begin, Finish, Abandon, Dirty, Clean, Ack, Bind, Rebind, Unbind, Lookup, List as ListNames, Tick}
use Rattle.history.specs.declared.replies.Reply.{Reply}
use Rattle.history.specs.declared.replies.Reply.TheVariants.{Opened, Started, NoObject, Finished, NotRunning, Granted, Done, Bound, AlreadyBound, Unbound, NotBound, Found, Names}
use Rattle.history.specs.declared.places.Place.{Place}
use Rattle.history.specs.declared.places.Exported.{Exported}
use Rattle.history.specs.Places.{History, has, kind_of, exported_count, id_at}
use Rattle.history.specs.Leases.{grant}
use Rattle.history.specs.Names.{names, stands_for}
use Rattle.history.specs.Table.{table, place_of, withdrawn_objects}

-- The identifiers of some objects.
abbrev pub ids : List Exported → List ObjId
ids objects = map (λ x. x.id) objects

-- The reply to a Lookup whose name stands for this.
abbrev pub reply_found : List Exported → Option ObjId → Reply
reply_found objects None = NotBound
reply_found objects (Some object) = Found object (kind_of objects object)

-- The reply to an event after a history. An effective one is answered by what it did.
abbrev pub reply_to : SpaceConfig → History → Place → Ask → Reply
reply_to config h p (Open kind pinned) = Opened (id_at config.uid (exported_count h))
reply_to config h p (Begin object) = if p.effective then Started (kind_of (table config h) object) else NoObject
reply_to config h p (Finish object made listed uid) = if p.effective then Finished (ids p.exported_here) else NotRunning
reply_to config h p (Abandon object) = if p.effective then Done else NotRunning
reply_to config h p (Dirty client number asked objects) = Granted (grant config.lease_ms asked)
reply_to config h p (Clean client number objects strong) = Done
reply_to config h p (Ack uid) = Done
reply_to config h p (Bind name object) = if p.effective then Bound else if has (table config h) object then AlreadyBound else NoObject
reply_to config h p (Rebind name object) = if p.effective then Bound else NoObject
reply_to config h p (Unbind name) = if p.effective then Unbound else NotBound
reply_to config h p (Lookup name uid) = reply_found (table config h) (stands_for h name)
reply_to config h p ListNames = Names (names h)
reply_to config h p Tick = Done

unfoldable pub reply : SpaceConfig → History → Event → Reply
reply config h e = reply_to config h (place_of config h e) e.ask

abbrev pub is_abandon : Ask → Bool
is_abandon (Abandon object) = true
is_abandon _ = false

-- The objects that a history has still to report as gone: those withdrawn since its last event that is no Abandon, in order.
unfoldable pub unreported_objects : SpaceConfig → History → List ObjId
unreported_objects config [] = []
unreported_objects config (p ∷ before) = if is_abandon p.event.ask then unreported_objects config before ++ ids (withdrawn_objects config (p ∷ before)) else []

-- The objects that the next event reports as gone: those still to be reported, and those that it withdraws.
unfoldable pub gone_objects : SpaceConfig → History → Event → List ObjId
gone_objects config h e = unreported_objects config h ++ ids (withdrawn_objects config (place_of config h e ∷ h))
