use Rattle.std.proofs.Common.{◌≡◌, ◌≤◌, List, ap, sym, refl, ◌∙◌, arith, length, filter}
use Rattle.std.proofs.lemmas.List.{length-map}
use Rattle.suid_calc.specs.declared.outline.Member.{Member}
use Rattle.suid_calc.specs.Description.{is_serial, texts_of, texts_in}
use Rattle.suid_calc.proofs.DescriptionLaws.{few_texts}
use Rattle.suid_calc.proofs.GraphLaws.{IsDescribable, is_graph, checked}
use Rattle.suid_calc.proofs.description.describe.Goals as goal

pub nodes_with-requires : goal.nodes_with-requires
nodes_with-requires c =
    let o = c.args.outline.now in
    let count = c.count_fields.ensures ∙ ap (λ (ms : List Member). length (filter is_serial ms)) c.as_slice-members.ensures in
    let many : length c.in_ok-texts.texts.keys ≡ length (texts_of o.members) =
    sym (length-map c.in_ok-texts.texts.keys (λ k. k.items)) ∙ ap length (c.in_ok-texts.ensures ∙ ap texts_of c.as_slice-members.ensures) in
    omega (arith, count, many, few_texts o.members, c.if-count_fields-gt-MAX_FIELDS.false)

pub from_parts-requires : goal.from_parts-requires
from_parts-requires c =
    let o = c.args.outline.now in
    let count = c.count_fields.ensures ∙ ap (λ (ms : List Member). length (filter is_serial ms)) c.as_slice-members.ensures in
    let few : length (filter is_serial o.members) ≤ 32767 = omega (arith, count, c.if-count_fields-gt-MAX_FIELDS.false) in
    let known : IsDescribable o (texts_in c.in_ok-texts.texts.keys) =
    record { named = o.named; good = o.good; sorted = o.ordered; few = few; texts_are = c.in_ok-texts.ensures ∙ ap texts_of c.as_slice-members.ensures } in
    let graph = is_graph (texts_in c.in_ok-texts.texts.keys) o known in
    rw (c.in_ok-nodes.ensures, c.in_ok-items.ensures) (∣ graph ∣₁)

pub returns-clause-checked : goal.returns-clause-checked
returns-clause-checked c =
    let o = c.args.outline.now in
    let count = c.count_fields.ensures ∙ ap (λ (ms : List Member). length (filter is_serial ms)) c.as_slice-members.ensures in
    let few : length (filter is_serial o.members) ≤ 32767 = omega (arith, count, c.if-count_fields-gt-MAX_FIELDS.false) in
    let known : IsDescribable o (texts_of o.members) = record { named = o.named; good = o.good; sorted = o.ordered; few = few; texts_are = refl } in
    checked o known
