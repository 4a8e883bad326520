-- What crosses to the thread of a link.
use mathlib.Core.List.{List, [], ◌∷◌}
use Prim.Native.Nat.{ℕ}
use mir.Syntax.{Sym, Ty}
use denote.Exit.{Kept}
use denote.RattleType.{RattleType}
use denote.Param.{param, arg}
use denote.Param.Send.{IsSend, IsSync, AllSend, arg_send, param_send, recorded_send, struct_send, sendable, view_send}
use denote.Param.SendFields.{FieldsHave, as_row_send, declared_send}
use denote.Struct.Declared.{shape}
use denote.Struct.Field.{row_field}
use denote.Struct.Tuple.{TupleAt, parts, type_at}
use Rattle.std.proofs.Crossing.{crosses}
use Rattle.system_objects.specs.contracts.book.Book as book
use Rattle.system_objects.proofs.book.Book.TheSendSync as book_there
use Rattle.system_objects.proofs.setup.Setup.TheSendSync as setup_there
use Rattle.conn_server.specs.contracts.ended_links.EndedLinks as ended
use Rattle.conn_server.proofs.ended_links.EndedLinks.TheSendSync as ended_there
use Rattle.conn_server.specs.contracts.link_task.LinkTask as task
use Rattle.conn_server.proofs.link_task.Peer.TheSendSync as peer_there
use Rattle.turn_lock.specs.contracts.handles.TurnLock as lock
use Rattle.turn_lock.proofs.handles.TurnLock.TheSendSync as lock_there
use Rattle.turn_lock.proofs.handles.Pass.TheSendSync as pass_there
use Rattle.ports.proofs.asked_log.PortEntries.TheSendSync as kept_there
use Rattle.call_dispatch.proofs.end.ConnEnd.TheSendSync as end_there
use Rattle.conn_server.specs.contracts.link_task.LinkDone as done
use Rattle.conn_server.specs.contracts.link_task.LinkReport as report
use Rattle.conn_server.specs.contracts.link_entries.LinkEntries as entries
use Rattle.conn_server.specs.contracts.link_entries.LinkEntries.TheInside as inside
use Rattle.conn_server.specs.contracts.link_entries.Form as form
use Rattle.sequence.proofs.list.Sequence.TheSendSync as units_there

pub book_sync : IsSync book.the_row
book_sync = book_there.the_sync

pub lock_sync : IsSync lock.the_row
lock_sync = lock_there.the_sync

pub ended_sync : IsSync ended.the_row
ended_sync = ended_there.the_sync

pub task_send : (I O T H : RattleType) → IsSend I → IsSend O → IsSend T → IsSend H → IsSend (task.the_row I O T H)
task_send I O T H i o t h = recorded_send (task.the_field I O T H).row _ _ (task.the_type I O T H).to_one (struct_send (shape (task.the_type I O T H))
    (search sendable, (pass_there.the_field_send, (search sendable, (search (peer_there.the_field_send, setup_there.the_field_send, i, o, t, h, sendable, crosses) depth 20, tt)))))

parts_send : (Ts : List RattleType) → AllSend Ts → FieldsHave IsSend (parts Ts)
parts_send [] s = tt
parts_send (T ∷ Ts) s = (as_row_send (row_field T) s.0, parts_send Ts s.1)

-- A closure may cross where each of its captures may.
pub captures_send : (i : ℕ) (δ : Ty) (k : Kept) (ν : Sym) (Ts : List RattleType) → AllSend Ts → IsSend (param i (arg δ k (TupleAt ν Ts)))
captures_send i δ k ν Ts s = param_send i (arg δ k (TupleAt ν Ts)) (arg_send δ k (TupleAt ν Ts) (declared_send (type_at ν Ts) (parts_send Ts s)))

pub six_send : {i : ℕ} {δ : Ty} {A B C D E F : RattleType} (k : Kept) (ν : Sym) → IsSend A → IsSend B → IsSend C → IsSend D → IsSend E → IsSend F → IsSend (param i (arg δ k (TupleAt ν (A ∷ B ∷ C ∷ D ∷ E ∷ F ∷ []))))
six_send {i} {δ} {A} {B} {C} {D} {E} {F} k ν a b c d e f = captures_send i δ k ν (A ∷ B ∷ C ∷ D ∷ E ∷ F ∷ []) (a, (b, (c, (d, (e, (f, tt))))))

-- The entries of a link may cross, kept ones and those that exist in proofs alone.
form_send : IsSend form.the_row
form_send = search (kept_there.the_send, sendable, crosses) depth 20

inside_send : IsSend inside.the_row
inside_send = declared_send inside.the_type (form_send, (search sendable, tt))

pub entries_send : IsSend entries.the_row
entries_send = view_send _ _ _ _ _ inside_send

report_send : (I O T H : RattleType) → IsSend I → IsSend O → IsSend T → IsSend H → IsSend (report.the_field I O T H).row
report_send I O T H i o t h = struct_send (shape (report.the_type I O T H)) (
  search sendable,
  (
    search (units_there.the_send, sendable, crosses) depth 20,
    (
      search sendable,
      (
        search sendable,
        (
          end_there.the_field_send,
          (search (i, sendable), (search (o, sendable), (search (t, sendable), (search (entries_send, sendable), (search (h, sendable), tt))))),
        ),
      ),
    ),
  ),
)

pub done_send : (I O T H : RattleType) → IsSend I → IsSend O → IsSend T → IsSend H → IsSend (done.the_row I O T H)
done_send I O T H i o t h = recorded_send (done.the_field I O T H).row _ _ (done.the_type I O T H).to_one (struct_send (shape (done.the_type I O T H))
    (pass_there.the_field_send, (report_send I O T H i o t h, tt)))
