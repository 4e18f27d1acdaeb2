-- Files and objects that commands print, written out by hand, and some that are none.
use Rattle.std.proofs.Common.{◌≡◌, ◌≢◌, ◌++◌, ℕ, zero, suc, Bool, true, false, List, [], ◌∷◌, Some, None, codes, length, replicate, take, drop, ap, refl, arith}
use Rattle.std.specs.Fmt.{digits}
use Rattle.std.specs.Ordering.{nat_cmp}
use Rattle.std.specs.List.Sorted.{IsSorted}
use Rattle.rand_pcg.specs.Lcg.{Lcg}
use Rattle.serde_json.specs.Data as json
use Rattle.serde_json.specs.Written.{IsInOrder}
use Rattle.command_parts.specs.schedules.damage_tool.Draws.{draw, draw_junk}
use Rattle.command_parts.specs.world.declared.simulation.Summary.{Summary as Simulated}
use Rattle.experiments.specs.declared.measured_run.Recovery.{Recovery}
use Rattle.experiments.specs.declared.measured_run.Scheduler.TheVariants as scheduler
use Rattle.experiments.specs.declared.summary.ThreeNumberSummary.{ThreeNumberSummary}
use Rattle.experiments.specs.Summary.{IsSummaryOf}
use Rattle.subcommands.specs.declared.measure.MeasurePlan.{MeasurePlan}
use Rattle.network_commands.specs.BoundData.{count}
use Rattle.subcommands.specs.Damaged.{junk_text, scrambled_file, seeded}
use Rattle.subcommands.specs.Hints.{loan_hint}
use Rattle.subcommands.specs.Measured.{HaveServed, IsMeasured}
use Rattle.subcommands.specs.MeasuredData.{IsMeasuredJson, measured_data, IsPlanMeasured}
use Rattle.subcommands.proofs.RowsTexts.{two_nodes}

-- ---- `scramble` and `junk`

-- the file of node 1 names its network, the node and its one neighbour; each port has twelve numbers
-- of two bytes, and a distance and a parent stand before them
module _ (seed : ℕ) where
  scrambled-shape : take 12 (scrambled_file two_nodes 1 seed) ≡ codes "TKT2" ++ (0 ∷ 2 ∷ 0 ∷ 1 ∷ 0 ∷ 1 ∷ 0 ∷ 1 ∷ [])
  scrambled-shape = refl

  scrambled-length : length (scrambled_file two_nodes 1 seed) ≡ 36
  scrambled-length = refl

  -- the first number that is drawn from the generator of the seed is the distance
  scrambled-distance : (draw 3 (seeded seed)).0 ≡ 2 → take 2 (drop 12 (scrambled_file two_nodes 1 seed)) ≡ 0 ∷ 2 ∷ []
  scrambled-distance drawn = rw drawn refl

  scrambled_not-another : (draw 3 (seeded seed)).0 ≡ 1 → take 2 (drop 12 (scrambled_file two_nodes 1 seed)) ≢ 0 ∷ 2 ∷ []
  scrambled_not-another drawn e = let bytes : ◌≡◌ {A = List ℕ} (0 ∷ 1 ∷ []) (0 ∷ 2 ∷ []) = rw drawn at e in absurd cc

-- each line has a newline, and is drawn after the one before
module _ (g : Lcg) where
  junk-two : junk_text 2 g ≡ (draw_junk g).0 ++ (codes "\n" ++ ((draw_junk (draw_junk g).1).0 ++ codes "\n"))
  junk-two = refl

-- from the state 0 the first word is 0, so the line is empty, and yet it is one
abbrev still : Lcg
still = record { state = 0; increment = 1 }

junk-one : junk_text 1 still ≡ codes "\n"
unfolding draw
junk-one = refl

junk_not-none : junk_text 1 still ≢ []
unfolding draw
junk_not-none e = let lengths : 1 ≡ 0 = ap length e in omega (arith, lengths)

-- ---- `measure`

-- a run of the seed 4 that served after 5 of its 35 sweeps
abbrev run : Recovery
run = record { seed = 4; sweeps = 5; seen = 35 }

abbrev summary : ThreeNumberSummary
summary = record { least = 5; median = 5; most = 5 }

one-sorted : IsSorted nat_cmp (5 ∷ [])
one-sorted zero d low high = absurd (omega (arith, high))
one-sorted (suc k) d low high = absurd (omega (arith, high))

sums-one : IsSummaryOf (5 ∷ []) (Some summary)
sums-one = record {
  some = omega arith;
  ascending = 5 ∷ [];
  same = record { moves = []; below = tt; is = refl };
  sorted = one-sorted;
  least = refl;
  median = refl;
  most = refl;
}

measures : IsMeasured two_nodes (run ∷ []) true (codes "seed 4 sweeps 5\nruns 1\nsweeps least 5 median 5 most 5\nsharp 35\nsweeps-bound 69\n")
unfolding digits
measures = record { summary = Some summary; sums_up = sums-one; text_is = refl }

-- without a table a run that served has no line
measures-alone : IsMeasured two_nodes (run ∷ []) false (codes "runs 1\nsweeps least 5 median 5 most 5\nsharp 35\nsweeps-bound 69\n")
unfolding digits
measures-alone = record { summary = Some summary; sums_up = sums-one; text_is = refl }

-- the first byte of a text
abbrev first_of : List ℕ → ℕ
first_of [] = 0
first_of (byte ∷ bytes) = byte

-- runs that were made are not left out
measures_not-none : ¬ IsMeasured two_nodes (run ∷ []) true (codes "runs 0\n")
measures_not-none m = let e : 114 ≡ 115 = ap first_of m.text_is in omega (arith, e)

-- the same as an object
measures-object : measured_data two_nodes (run ∷ []) true (Some summary)
    ≡ json.object (json.member (codes "least") (count 5) (json.member (codes "median") (count 5) (json.member (codes "most") (count 5)
    (json.member (codes "runs") (count 1)
    (json.member (codes "seeds") (json.array (json.item (json.object (json.member (codes "seed") (count 4) (json.member (codes "sweeps") (count 5) json.no_members))) json.no_items))
    (json.member (codes "sharp") (count 35) (json.member (codes "sweeps-bound") (count 69) json.no_members)))))))
measures-object = refl

-- a run that has not served has null in place of its sweeps, and stands there without a table too
measures-unserved : measured_data two_nodes (record { seed = 4; sweeps = 5; seen = 7 } ∷ []) false None
    ≡ json.object (json.member (codes "least") json.null (json.member (codes "median") json.null (json.member (codes "most") json.null
    (json.member (codes "runs") (count 1)
    (json.member (codes "seeds") (json.array (json.item (json.object (json.member (codes "seed") (count 4) (json.member (codes "sweeps") json.null json.no_members))) json.no_items))
    (json.member (codes "sharp") (count 35) (json.member (codes "sweeps-bound") (count 69) json.no_members)))))))
measures-unserved = refl

module _ (text : List ℕ) where
  json-measured : IsInOrder text (measured_data two_nodes (run ∷ []) true (Some summary)) → IsMeasuredJson two_nodes (run ∷ []) true text
  json-measured in_order = record { summary = Some summary; sums_up = sums-one; in_order = in_order }

  -- runs that have served are summed up
  json_not-without : (m : IsMeasuredJson two_nodes (run ∷ []) true text) → m.summary ≢ None
  json_not-without m none = let sums : ◌≡◌ {A = List ℕ} (5 ∷ []) [] = rw none at m.sums_up in absurd cc

-- a plan of no runs: none has failed to serve
abbrev no_runs : MeasurePlan
no_runs = record { runs = 0; seed = 4; scheduler = scheduler.Rounds; table = false; progress = false }

none-served : HaveServed [] 35
none-served k d h = absurd (omega (arith, h))

plan-measured : IsPlanMeasured false two_nodes no_runs (codes "runs 0\nsweeps least none median none most none\nsharp 35\nsweeps-bound 69\n") true
unfolding digits
plan-measured = record {
  runs = [];
  are_runs = record { all = refl; each = tt };
  measured = record { summary = None; sums_up = refl; text_is = refl };
  served_is = ((λ _. none-served), (λ _. refl));
}

-- a run more than the plan has is none of it
plan_not-more : (is_json served : Bool) (text : List ℕ) (m : IsPlanMeasured is_json two_nodes no_runs text served) → m.runs ≢ run ∷ []
plan_not-more is_json served text m one = let lengths : 1 ≡ 0 = rw one at m.are_runs.all in omega (arith, lengths)

-- ---- what `simulate` says of a loan

abbrev seen : (sweeps lending : ℕ) → Simulated
seen sweeps lending = record { refused = 0; sweeps = sweeps; lending = lending }

hints-loan : loan_hint 0 69 (seen 3 1) ≡ Some (codes "a node lends the lock without a lease: no sweep ends until its ticket leaves")
hints-loan = refl

-- neither with a lease, nor if no node lends, nor if the network served
hints_not : loan_hint 5 69 (seen 3 1) ∷ loan_hint 0 69 (seen 3 0) ∷ loan_hint 0 69 (seen 69 1) ∷ [] ≡ replicate 3 None
hints_not = refl
