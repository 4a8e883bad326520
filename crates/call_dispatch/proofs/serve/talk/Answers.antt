use Rattle.std.proofs.Common.{◌∙◌, rules}
use Rattle.call_dispatch.proofs.Staying.{goes_on_terms, stays_lent, lent_on}
use Rattle.call_dispatch.proofs.serve.talk.Goals as goal

pub returns-in-Ok-clause-dialogue : goal.returns-in-Ok-clause-dialogue
returns-in-Ok-clause-dialogue g c =
    let (opening, is, at, sent, stands) = c.in-Ok.ensures.opens in
    goes_on_terms _ _ _ _ _ _ _ _ _ _ (stays_lent _ _ c.in-Ok.ensures.stays).terms c.serve_messages.ensures.goes_on _ opening is stands

pub returns-in-Ok-clause-frame : goal.returns-in-Ok-clause-frame
returns-in-Ok-clause-frame g c = record {
  lent = lent_on _ _ _ (stays_lent _ _ c.in-Ok.ensures.stays) c.serve_messages.ensures.frame.lent;
  balanced = c.serve_messages.ensures.frame.balanced;
  ready = c.serve_messages.ensures.frame.ready;
  leads = rw c.in-Ok.ensures.stays.port at c.serve_messages.ensures.frame.leads;
}

pub serve_messages-requires-clause-can : goal.serve_messages-requires-clause-can
serve_messages-requires-clause-can g c = record {
  host = rw c.in-Ok.ensures.stays.setup c.requires.can.host;
  time = rw c.in-Ok.ensures.stays.setup c.requires.can.time;
  drawn = rw c.in-Ok.ensures.stays.setup c.requires.can.drawn;
  ready = rw c.in-Ok.ensures.stays.port c.requires.can.ready;
  room = rw c.in-Ok.ensures.stays.port c.requires.can.room;
  balanced = rw c.in-Ok.ensures.stays.port c.requires.can.balanced;
  calls = rw c.in-Ok.ensures.stays.worker c.requires.can.calls;
}

pub returns-in-Err-clause-frame : goal.returns-in-Err-clause-frame
returns-in-Err-clause-frame g c = record {
  lent = stays_lent _ _ c.in-Err.ensures.stays;
  balanced = rw c.in-Err.ensures.stays.port c.requires.can.balanced;
  ready = rw c.in-Err.ensures.stays.port c.requires.can.ready;
  leads = rw c.in-Err.ensures.stays.port (search rules);
}

pub returns-in-Ok-clause-shut : goal.returns-in-Ok-clause-shut
returns-in-Ok-clause-shut g c = (c.serve_messages.ensures.shut.0 ∙ c.in-Ok.ensures.shut.0, c.serve_messages.ensures.shut.1 ∙ c.in-Ok.ensures.shut.1)
