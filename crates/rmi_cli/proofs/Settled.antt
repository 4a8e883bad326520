-- How serving ends where neither the port nor the output fails.
use Rattle.std.proofs.Common.{◌≡◌, ◌⊎◌, ℕ, List, Option, Some, None, refl, ap, sym, subst, ◌∙◌, inl, inr}
use Rattle.wire_io.specs.Links.{Accepted, Listening}
use Rattle.wire_io.specs.Wire.{Wires}
use Rattle.space.specs.declared.asked.Asked.{Asked}
use Rattle.conn_server.specs.declared.accept_loop.Stop.{Stop}
use Rattle.conn_server.specs.declared.accept_loop.Stop.TheVariants as stops
use Rattle.conn_server.specs.declared.admission.LostLink.{LostLink}
use Rattle.conn_server.specs.declared.link_task.LinkReport.{LinkReport}
use Rattle.conn_server.specs.declared.server.Report.{Report}
use Rattle.rmi_words.specs.declared.options.ServeWords.{ServeWords}
use Rattle.rmi_cli.specs.Line.{status_of_run}
use Rattle.rmi_cli.specs.ServedLinks.{Printed, ServeEnds, Serving, end_after}
use Rattle.rmi_cli.specs.Told.{Reported, TellsEnd}
use Rattle.rmi_cli.specs.declared.end.RunEnd.{RunEnd}

-- A run of `serve` has no other status.
abbrev pub IsServed : ℕ → Type 0
IsServed status = (status ≡ 0) ⊎ ((status ≡ 3) ⊎ ((status ≡ 4) ⊎ (status ≡ 5)))

pub stopped : (held held2 : Option (List ℕ)) (faults faults2 : ℕ) (text : List ℕ) (stop : Stop) (printed : RunEnd) → Printed held held2 faults faults2 text printed
    → IsServed (status_of_run (end_after stop printed))
stopped held held2 faults faults2 text stops.All printed (inl whole) = inl (ap status_of_run whole.0)
stopped held held2 faults faults2 text stops.All printed (inr (inl less)) = inr (inr (inl (ap status_of_run less.0)))
stopped held held2 faults faults2 text stops.All printed (inr (inr none)) = inr (inr (inr (ap status_of_run none.0)))
stopped held held2 faults faults2 text stops.Told printed (inl whole) = inl (ap status_of_run whole.0)
stopped held held2 faults faults2 text stops.Told printed (inr (inl less)) = inr (inr (inl (ap status_of_run less.0)))
stopped held held2 faults faults2 text stops.Told printed (inr (inr none)) = inr (inr (inr (ap status_of_run none.0)))
stopped held held2 faults faults2 text stops.AcceptFault printed p = inr (inl refl)
stopped held held2 faults faults2 text stops.OutOfMemory printed p = inr (inr (inr refl))

pub named : (end end2 : RunEnd) → end ≡ end2 → IsServed (status_of_run end2) → IsServed (status_of_run end)
named end end2 same served = subst (λ (e : RunEnd). IsServed (status_of_run e)) (sym same) served

ended : {I O T H : Type 0} (held held2 : Option (List ℕ)) (faults faults2 : ℕ) (served : Option (Report I O T H)) (end : RunEnd) → ServeEnds held held2 faults faults2 served end
    → IsServed (status_of_run end)
ended held held2 faults faults2 None end (inl fault, same) = inr (inl (ap status_of_run fault))
ended held held2 faults faults2 None end (inr memory, same) = inr (inr (inr (ap status_of_run memory)))
ended held held2 faults faults2 (Some report) end ends = named end (end_after report.stop ends.0) ends.2 (stopped held held2 faults faults2 _ report.stop ends.0 ends.1)

told_settled : (status status2 : ℕ) → status ≡ status2 → IsServed status2 → (status ≡ 3 → ⊥) → (status ≡ 4 → ⊥) → (status ≡ 0) ⊎ (status ≡ 5)
told_settled status status2 same (inl well) unread unwritten = inl (same ∙ well)
told_settled status status2 same (inr (inl fault)) unread unwritten = absurd (unread (same ∙ fault))
told_settled status status2 same (inr (inr (inl fault))) unread unwritten = absurd (unwritten (same ∙ fault))
told_settled status status2 same (inr (inr (inr memory))) unread unwritten = inr (same ∙ memory)

pub told_of : (told : Reported) (end : RunEnd) → TellsEnd told end → IsServed (status_of_run end) → (told.status ≡ 3 → ⊥) → (told.status ≡ 4 → ⊥) → (told.status ≡ 0) ⊎ (told.status ≡ 5)
told_of told end (inl tells) served unread unwritten = told_settled told.status (status_of_run end) tells.0 served unread unwritten
told_of told end (inr tells) served unread unwritten = inr tells.1.0

-- Where neither the port nor the output failed, all was served and printed, or memory lacked.
pub serving_settles : {I O T H : Type 0} (IsLink : ℕ → Accepted × Asked → LinkReport I O T H → Type 0) (IsLost : Accepted → LostLink I O T → Type 0) (seed : List ℕ) (serve : ServeWords) (served : Option (Report I O T H))
    (log log2 : Listening) (old new : Wires) (faults faults2 : ℕ) (told : Reported) → Serving IsLink IsLost seed serve served log log2 old new faults faults2 told
    → (told.status ≡ 3 → ⊥) → (told.status ≡ 4 → ⊥) → (told.status ≡ 0) ⊎ (told.status ≡ 5)
serving_settles IsLink IsLost seed serve served log log2 old new faults faults2 told serving unread unwritten =
    told_of told serving.end serving.tells (ended old.held new.held faults faults2 served serving.end serving.ends) unread unwritten
