use Rattle.std.proofs.Common.{◌≡◌, ◌∙◌, ap, refl, sym, arith, ◌++◌, ◌&&◌, reverse, true, false, []}
use Rattle.ser_read.specs.declared.shape.Climb.TheVariants.{Top, NoClass}
use Rattle.ser_read.proofs.Links.{Up, up_rows, up_serial, up_end, null_end, node_end}
use Rattle.ser_read.proofs.shape.chain_up.Goals as goal

pub returns-in-Top-clause-rows : goal.returns-in-Top-clause-rows
returns-in-Top-clause-rows c =
    let e = up_end c.args.nodes.now c.loop-left.left c.loop-left.slot Top [] true c.loop-left-test.true (rw c.in-Top.is at c.in_ok-step_up.ensures) (λ above. refl) in
    ap (λ (x : Up). x.0 ++ reverse c.loop-left.rows) (sym e) ∙ c.loop-left.invariant.rows

pub returns-in-Top-clause-is_serial : goal.returns-in-Top-clause-is_serial
returns-in-Top-clause-is_serial c =
    let e = up_end c.args.nodes.now c.loop-left.left c.loop-left.slot Top [] true c.loop-left-test.true (rw c.in-Top.is at c.in_ok-step_up.ensures) (λ above. refl) in
    ap (λ (x : Up). x.1 && c.loop-left.is_serial) (sym e) ∙ c.loop-left.invariant.serial

pub returns-in-NoClass-clause-rows : goal.returns-in-NoClass-clause-rows
returns-in-NoClass-clause-rows c =
    let e = up_end c.args.nodes.now c.loop-left.left c.loop-left.slot NoClass [] false c.loop-left-test.true (rw c.in-NoClass.is at c.in_ok-step_up.ensures) (λ above. refl) in
    ap (λ (x : Up). x.0 ++ reverse c.loop-left.rows) (sym e) ∙ c.loop-left.invariant.rows

pub returns-in-NoClass-clause-is_serial : goal.returns-in-NoClass-clause-is_serial
returns-in-NoClass-clause-is_serial c =
    let e = up_end c.args.nodes.now c.loop-left.left c.loop-left.slot NoClass [] false c.loop-left-test.true (rw c.in-NoClass.is at c.in_ok-step_up.ensures) (λ above. refl) in
    ap (λ (x : Up). x.1 && c.loop-left.is_serial) (sym e) ∙ c.loop-left.invariant.serial

pub loop-left-preserved : goal.loop-left-preserved
loop-left-preserved c =
    let step = rw c.in-Class.is at c.in_ok-step_up.ensures in
    record {
      rows = rw c.in_ok-rows-in-Class.ensures (sym (up_rows c.args.nodes.now c.loop-left.left c.loop-left.slot c.in-Class.row c.in-Class.also c.in-Class.parent c.loop-left.rows c.loop-left-test.true step) ∙ c.loop-left.invariant.rows);
      serial = rw c.both-is_serial.ensures (sym (up_serial c.args.nodes.now c.loop-left.left c.loop-left.slot c.in-Class.row c.in-Class.also c.in-Class.parent c.loop-left.is_serial c.loop-left-test.true step) ∙ c.loop-left.invariant.serial);
    }

pub returns-in-Null-clause-rows : goal.returns-in-Null-clause-rows
returns-in-Null-clause-rows c =
    ap (λ (x : Up). x.0 ++ reverse c.loop-left.rows) (sym (null_end c.args.nodes.now c.loop-left.left c.loop-left.slot c.in-Null.is)) ∙ c.loop-left.invariant.rows

pub returns-in-Null-clause-is_serial : goal.returns-in-Null-clause-is_serial
returns-in-Null-clause-is_serial c =
    ap (λ (x : Up). x.1 && c.loop-left.is_serial) (sym (null_end c.args.nodes.now c.loop-left.left c.loop-left.slot c.in-Null.is)) ∙ c.loop-left.invariant.serial

pub returns-in-Node-clause-rows : goal.returns-in-Node-clause-rows
returns-in-Node-clause-rows c =
    let none : c.loop-left.left ≡ 0 = omega (arith, c.loop-left-test.false) in
    ap (λ (x : Up). x.0 ++ reverse c.loop-left.rows) (sym (node_end c.args.nodes.now c.loop-left.left c.loop-left.slot _ none c.in-Node.is)) ∙ c.loop-left.invariant.rows

pub returns-in-Node-clause-is_serial : goal.returns-in-Node-clause-is_serial
returns-in-Node-clause-is_serial c =
    let none : c.loop-left.left ≡ 0 = omega (arith, c.loop-left-test.false) in
    ap (λ (x : Up). x.1 && c.loop-left.is_serial) (sym (node_end c.args.nodes.now c.loop-left.left c.loop-left.slot _ none c.in-Node.is)) ∙ c.loop-left.invariant.serial
