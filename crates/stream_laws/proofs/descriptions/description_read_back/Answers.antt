use Rattle.std.proofs.Common.{◌≤◌, length, filter, arith}
use Rattle.suid_calc.specs.Description.{is_serial}
use Rattle.stream_laws.proofs.Described.{short_stream, desc_stream, desc_read}
use Rattle.stream_laws.proofs.descriptions.description_read_back.Goals as goal

pub returns-clause-same : goal.returns-clause-same
returns-clause-same c =
    let o = c.args.outline.now in
    let few : length (filter is_serial o.members) ≤ 32767 = omega (arith, c.in_ok-graph.ensures.few) in
    let read = rw (c.in_ok-graph.ensures.nodes, c.in_ok-graph.ensures.items) at c.read_back.ensures in
    read.same (short_stream o few)

pub returns-clause-spelled : goal.returns-clause-spelled
returns-clause-spelled c =
    let o = c.args.outline.now in
    let few : length (filter is_serial o.members) ≤ 32767 = omega (arith, c.in_ok-graph.ensures.few) in
    ∣ desc_stream o few ∣₁

pub returns-clause-read : goal.returns-clause-read
returns-clause-read c =
    let o = c.args.outline.now in
    let few : length (filter is_serial o.members) ≤ 32767 = omega (arith, c.in_ok-graph.ensures.few) in
    desc_read o few
