use Rattle.history.proofs.GrantLaws.{never-falls, lasts-as-granted, grant-within, grant-configured}
use Rattle.history.proofs.laws.a_lease_never_falls.Goals as goal

pub returns : goal.returns
returns c = record { falls = never-falls; lasts = lasts-as-granted; within = grant-within; configured = grant-configured }
