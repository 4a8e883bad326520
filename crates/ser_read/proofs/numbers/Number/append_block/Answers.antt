use Rattle.std.proofs.Common.{◌≡◌, ◌∙◌, ◌+◌, ◌-◌, ◌*◌, take, drop, ap, sym, arith}
use Rattle.std.proofs.lemmas.List.{append-nil}
use Rattle.ser_read.specs.NumberRuns.{run_of}
use Rattle.ser_read.proofs.NumberRuns.{run_push, times_more}
use Rattle.ser_read.proofs.numbers.Number.append_block.Goals as goal

pub loop-init : goal.loop-init
unfolding run_of
loop-init g c = record {
  here = omega arith;
  appended = sym (append-nil c.args.numbers.now);
}

pub loop-preserved : goal.loop-preserved
loop-preserved g c =
    let width = g.Self.Number.WIDTH in
    let value = g.Self.Number.value in
    let k : c.loop.at + c.WIDTH.result - c.loop.at ≡ width = omega (arith, c.WIDTH.ensures) in
    let one : c.of.result ≡ value (take width (drop (c.loop.counter * width) c.args.bytes.now)) =
    c.of.ensures ∙ ap (λ n. value (take n (drop c.loop.at c.args.bytes.now))) k ∙ ap (λ n. value (take width (drop n c.args.bytes.now))) c.loop.invariant.here in
    record {
      here = omega (arith, c.loop.invariant.here, c.WIDTH-at.ensures, times_more c.loop.counter width);
      appended = run_push width value c.args.numbers.now c.loop.numbers c.push.new.self c.loop.counter c.args.bytes.now c.of.result c.loop.invariant.appended c.in_ok-push.ensures.ok one;
    }
