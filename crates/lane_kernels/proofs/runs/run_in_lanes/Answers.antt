use Rattle.std.proofs.Common.{◌≡◌, ℕ, ◌%◌, ◌^◌, Bool, eqb, leb, cond, not, map, replicate, bit_or, refl, ap, ◌∙◌, arith, w8}
use Rattle.std.proofs.lemmas.Bool.{agree_below_at}
use Rattle.std.proofs.lemmas.Simd.{map-map, length-chunk, chunk-fits, Each1-weaker, mask_l-mod, zip2_splat, zip2_splat_left, zip2_of_maps, first_set_mask_l}
use Rattle.std.proofs.lemmas.List.{length-map}
use lib.Count.{count_trailing_zeros}
use lib.Lanes.{zip2, chunk, mask_l, top}
use Rattle.lane_kernels.specs.Kernels.{is_plain}
use Rattle.lane_kernels.proofs.LongestRuns.{same_run}
use Rattle.lane_kernels.proofs.runs.run_in_lanes.Goals as goal

-- what a lane of the comparison holds
abbrev lane : ℕ → ℕ
lane x = bit_or (cond (eqb x 0) 255 0) (cond (leb 128 x) 255 0)

abbrev stops : ℕ → Bool
stops x = top 7 (lane x)

pub returns : goal.returns
returns c =
    let bytes = c.args.bytes.now in
    let v = chunk c.args.at 32 bytes in
    let long = length-chunk c.args.at 32 bytes c.requires in
    let lanes : zip2 bit_or (zip2 (λ a b. cond (eqb a b) 255 0) v (replicate 32 0)) (zip2 (λ a b. cond (leb a b) 255 0) (replicate 32 128) v) ≡ map lane v =
    zip2_of_maps bit_or (λ x. cond (eqb x 0) 255 0) (λ x. cond (leb 128 x) 255 0) v (zip2_splat (λ a b. cond (eqb a b) 255 0) v 32 0 long) (zip2_splat_left {X = ℕ} (λ a b. cond (leb a b) 255 0) 128 32 v long) in
    let mask = ap (λ l. mask_l l % 2 ^ 64) (ap (map (top 7)) lanes ∙ map-map (top 7) lane v) ∙ mask_l-mod (map stops v) 64 (omega (arith, length-map v stops, long)) in
    let agree = Each1-weaker _ (λ x. not (stops x) ≡ is_plain x) (λ x f. agree_below_at (λ x. not (stops x)) is_plain 256 x refl f.fits) v (chunk-fits w8 c.args.at 32 bytes c.type_inv.bytes) in
    c.first_set.ensures ∙ ap (λ m. cond (eqb m 0) 32 (count_trailing_zeros 64 m)) mask ∙ first_set_mask_l stops v 32 long (omega arith) ∙ same_run (λ x. not (stops x)) is_plain v agree
