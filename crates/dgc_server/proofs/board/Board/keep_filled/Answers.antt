use Rattle.std.proofs.Common.{rules, ◌≡◌, length, ap, sym, ◌∙◌, arith}
use Rattle.std.specs.Prelude.{ℕ, List, filter, vec_len}
use Rattle.std.proofs.lemmas.List.{length-map}
use Rattle.dgc_server.specs.declared.clients.Chunk.{Chunk}
use Rattle.dgc_server.specs.Chunks.{ends_of, is_filled}
use Rattle.dgc_server.proofs.Skipping.{fewer-filled, filled-same}
use Rattle.dgc_server.proofs.board.Board.keep_filled.Goals as goal

pub returns-then-len-clause-ends : goal.returns-then-len-clause-ends
returns-then-len-clause-ends c =
    let cs = c.args.self.now.chunks.items in
    let kept : length c.retain_filled.new.chunks.items ≡ length (filter is_filled cs) = ap (λ (l : List Chunk). length l) c.retain_filled.ensures in
    let ends : length c.args.self.now.ends.items ≡ length (ends_of cs) = ap (λ (l : List ℕ). length l) c.requires in
    let long = length-map cs (λ (x : Chunk). x.least) in
    let wide : vec_len c.retain_filled.new.chunks ≡ length c.retain_filled.new.chunks.items = search rules in
    let beside : vec_len c.args.self.now.ends ≡ length c.args.self.now.ends.items = search rules in
    let test = c.if-len.true in let a = c.len.ensures in let b = c.len-2.ensures in
    c.requires ∙ ap ends_of (sym (c.retain_filled.ensures ∙ filled-same cs (omega arith)))

pub follow-requires : goal.follow-requires
follow-requires c =
    let cs = c.args.self.now.chunks.items in
    let kept : length c.deref.result.now ≡ length (filter is_filled cs) = ap (λ (l : List Chunk). length l) (c.deref.ensures.value ∙ c.retain_filled.ensures) in
    let ends : length c.args.self.now.ends.items ≡ length (ends_of cs) = ap (λ (l : List ℕ). length l) c.requires in
    let long = length-map cs (λ (x : Chunk). x.least) in
    let beside : vec_len c.args.self.now.ends ≡ length c.args.self.now.ends.items = search rules in
    let fewer = fewer-filled cs in omega arith
