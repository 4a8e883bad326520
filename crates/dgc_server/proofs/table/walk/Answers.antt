use Rattle.std.proofs.Common.{◌≡◌, ◌<◌, rules, ap, sym, ◌∙◌, arith, length, filter, get_or, true}
use Rattle.std.specs.Prelude.{vec_len}
use Rattle.dgc_server.specs.HolderIndex.{entry_names, one_if}
use Rattle.dgc_server.proofs.Walking.{changed, changed-same, changed-kept, changed-names, changed-front}
use Rattle.dgc_server.proofs.BoardLaws.{settled-at}
use Rattle.dgc_server.proofs.table.walk.Goals as goal

pub loop-i-preserved-then-names : goal.loop-i-preserved-then-names
loop-i-preserved-then-names c =
    let o = c.args.object.now in
    let m = c.args.time in
    let es = c.loop-i.entries.items in
    let i = c.loop-i.i in
    let d = c.index.result.now in
    let inv = c.loop-i.invariant in
    let test = c.loop-i-test.true in let all = c.len.ensures in
    let long : vec_len c.loop-i.entries ≡ length es = search rules in
    let within : i < length es = omega arith in
    let new : c.drop_at.new.entries.items ≡ changed o m i d es = c.drop_at.ensures d in
    let named : entry_names o (get_or es i d) ≡ true = ap (entry_names o) (sym c.index.ensures) ∙ sym c.names.ensures ∙ c.if-names.true in
    rw new record {
      same = changed-same o m i d es within ∙ inv.same;
      kept = changed-kept o m i d es within inv.kept;
      counted = (let fewer = changed-names o m i d es within in let one = ap one_if named in let counted = inv.counted in let enough = inv.enough in omega arith);
      enough = (let fewer = changed-names o m i d es within in let one = ap one_if named in let enough = inv.enough in omega arith);
      settled = λ n a. settled-at m n o es i d within (inv.settled n a);
      front = λ z. ap (λ l. length (filter (entry_names o) l)) (changed-front o m i d es within) ∙ inv.front z;
    }
