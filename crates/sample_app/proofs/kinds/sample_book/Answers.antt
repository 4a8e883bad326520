use Rattle.sample_app.proofs.Booking.{few_methods, short_interfaces, not_float}
use Rattle.sample_app.proofs.kinds.sample_book.Goals as goal

pub new-requires-clause-few_methods : goal.new-requires-clause-few_methods
new-requires-clause-few_methods c = few_methods _ c.in_ok-kinds_of.ensures

pub new-requires-clause-interfaces : goal.new-requires-clause-interfaces
new-requires-clause-interfaces c = short_interfaces _ c.in_ok-kinds_of.ensures

pub unreachable-requires : goal.unreachable-requires
unreachable-requires c = not_float _ _ _ _ c.in_ok-kinds_of.ensures c.in-Err-FloatMethod.field-0-is c.in-Err-FloatMethod.ensures.float
