use Rattle.std.proofs.Common.{◌≡◌, ◌≢◌, inl, inr, codes, [], rules}
use Rattle.journal.proofs.Clients.{no_address, an_address}
use Rattle.journal.proofs.client.AddressField.read.Goals as goal
use Rattle.journal.proofs.client.AddressField.read.Goals.{then-is_empty-via-then-is_empty, then-is_empty-via-else-is_empty+then-word-gt-MAX_ADDRESS_DIGITS}

pub returns-then-is_empty : goal.returns-then-is_empty
returns-then-is_empty c is addr spells =
    let other : c.args.word.now ≢ codes "-" = search rules in
    elim c.then-is_empty.branch [
      | then-is_empty-via-then-is_empty w ↦ let none : c.args.word.now ≡ [] = search rules in no_address c.args.word.now other (inl none) addr.0 spells
      | then-is_empty-via-else-is_empty+then-word-gt-MAX_ADDRESS_DIGITS w ↦ no_address c.args.word.now other (inr w.if-word-gt-MAX_ADDRESS_DIGITS.true) addr.0 spells
    ]

pub returns : goal.returns
returns c =
    let some : c.args.word.now ≢ [] = search rules in
    an_address c.args.word.now c.in_ok-read_bytes.field-0 some c.if-word-gt-MAX_ADDRESS_DIGITS.false (c.in_ok-read_bytes.ensures {u = tt})
