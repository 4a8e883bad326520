use Rattle.system_objects.proofs.system_return.refused_return.Goals as goal

pub returns-in-HistoryFull : goal.returns-in-HistoryFull
returns-in-HistoryFull c = rw c.in-HistoryFull.is c.exceptional_ascii-in-HistoryFull.ensures.written
