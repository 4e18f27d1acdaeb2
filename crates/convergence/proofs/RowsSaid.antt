-- What nodes say along runs on two nodes, and which staged payloads and copies are fresh.
use Rattle.std.proofs.Common.{◌≡◌, ℕ, suc, ◌<◌, List, [], ◌∷◌, ◌++◌, Bool, true, refl, sym, ◌∙◌, ap, subst, arith}
use Rattle.std.specs.Prelude.{Contains, nat_lt}
use Rattle.std.specs.List.{list_all}
use Rattle.std.proofs.lemmas.Bool.{false≢true}
use Rattle.std.proofs.lemmas.List.Sums.{AllPass-from_list_all}
use Rattle.std.proofs.lemmas.List.Elements.{All-contains}
use Rattle.topology.specs.declared.frame.Payload.{Payload}
use Rattle.run_model.specs.World.{World}
use Rattle.run_model.specs.Step.{step}
use Rattle.run_model.specs.Run.{run}
use Rattle.run_model.specs.Sweep.{IsSweep, Sweeps}
use Rattle.run_model.specs.Project.{present}
use Rattle.run_model.specs.declared.event.Event.{Event}
use Rattle.run_model.specs.declared.event.Event.TheVariants.{Tick}
use Rattle.run_model.proofs.RowsTwo.{shown, calm}
use Rattle.run_model.proofs.RowsServing.{stale}
use Rattle.convergence.specs.Said.{said_in}
use Rattle.convergence.specs.Payloads.{ArePayloadsFresh}
use Rattle.convergence.proofs.RowsService.{least, joined, sweeps-of_two}

-- ---- what is said

-- a run without events has one moment
said-at_the_start : said_in calm [] 0 1 ≡ shown 0 0 ∷ []
said-at_the_start = refl

-- node 0's machine moves in its tick, so it says another ring value afterwards, though it has not
-- yet staged it
said-before_and_after : said_in calm (Tick 0 ∷ []) 0 1 ≡ shown 0 0 ∷ shown 0 1 ∷ []
said-before_and_after = refl

-- node 1 says the same before and after
said-the_other_way : said_in calm (Tick 0 ∷ []) 1 0 ≡ shown 1 0 ∷ shown 1 0 ∷ []
said-the_other_way = refl

-- ---- fresh payloads

-- eleven sweeps: eight, which are 4(C + 1) of links of capacity 1, and three
abbrev early : List Event
early = joined (least ∷ least ∷ least ∷ least ∷ least ∷ least ∷ least ∷ least ∷ [])

abbrev late : List Event
late = joined (least ∷ least ∷ least ∷ [])

eight-sweeps : Sweeps calm 8 early
eight-sweeps = sweeps-of_two calm (least ∷ least ∷ least ∷ least ∷ least ∷ least ∷ least ∷ least ∷ [])
    (refl, refl, (refl, refl, (refl, refl, (refl, refl, (refl, refl, (refl, refl, (refl, refl, (refl, refl, tt))))))))

three-sweeps : Sweeps (run calm early) 3 late
three-sweeps = sweeps-of_two (run calm early) (least ∷ least ∷ least ∷ []) (refl, refl, (refl, refl, (refl, refl, tt)))

-- in the last three sweeps node 0 says only ring values above 0
abbrev is_above_0 : Payload → Bool
is_above_0 p = nat_lt 0 p.ring

later-values : list_all is_above_0 (said_in (run calm early) late 0 1) ≡ true
later-values = refl

not-said_later : Contains (said_in (run calm early) late 0 1) (shown 0 0) → ⊥
not-said_later said =
    false≢true (All-contains (λ p. is_above_0 p ≡ true) (said_in (run calm early) late 0 1) (shown 0 0)
    (AllPass-from_list_all is_above_0 (said_in (run calm early) late 0 1) later-values) said)

-- so a world in which node 0 still has 0 staged, as at the start, is not fresh after them
staged-long_ago : ¬ ArePayloadsFresh calm (early ++ late) calm
staged-long_ago fresh = not-said_later (fresh early late 0 1 refl refl eight-sweeps three-sweeps).0

-- the calm world, but with everything staged as its node says it at the end
abbrev half_fresh : World
half_fresh = record {
  net = calm.net;
  spares = 0;
  node = λ v. record (calm.node v) {
    port = λ u. record ((calm.node v).port u) { staged = present (run calm (early ++ late)) v u };
  };
  link = calm.link;
}

-- it is not fresh either, since node 1 still has 0 copied
copied-long_ago : ¬ ArePayloadsFresh calm (early ++ late) half_fresh
copied-long_ago fresh = not-said_later (fresh early late 0 1 refl refl eight-sweeps three-sweeps).1

-- ---- fresh at the end

-- a world with all staged payloads and copies as its nodes say them
abbrev all_said : World → World
all_said w = record {
  net = w.net;
  spares = w.spares;
  node = λ v. record (w.node v) { port = λ u. record ((w.node v).port u) { staged = present w v u; copy = present w u v } };
  link = w.link;
}

said-at_the_end : (w : World) (es : List Event) (u v : ℕ) → Contains (said_in w es u v) (present (run w es) u v)
said-at_the_end w [] u v = (0, omega arith, refl)
said-at_the_end w (e ∷ es) u v = let c = said-at_the_end (step w e) es u v in (suc c.0, omega (arith, c.1), c.2)

run-in_parts : (w : World) (first last : List Event) → run w (first ++ last) ≡ run (run w first) last
run-in_parts w [] last = refl
run-in_parts w (e ∷ first) last = run-in_parts (step w e) first last

end-of_parts : (w : World) (es first last : List Event) (u v : ℕ) → es ≡ first ++ last
    → Contains (said_in (run w first) last u v) (present (run w es) u v)
end-of_parts w es first last u v parts =
    subst (λ x. Contains (said_in (run w first) last u v) (present x u v)) (sym (ap (run w) parts ∙ run-in_parts w first last))
    (said-at_the_end (run w first) last u v)

-- what is said at the last moment is said within the last three sweeps, wherever these begin
said-last : ArePayloadsFresh calm (early ++ late) (all_said (run calm (early ++ late)))
said-last first last u v parts edge eight three =
    let c = end-of_parts calm (early ++ late) first last u v parts in (c, c)

-- ---- nothing is claimed of a run without enough sweeps

no-sweep : (w : World) (first rest : List Event) → 0 < w.net.nodes → [] ≡ first ++ rest → IsSweep w first → ⊥
no-sweep w [] rest some parts sweep = false≢true (sweep.ticked 0 some)
no-sweep w (e ∷ first) rest some parts sweep = absurd cc

-- so copies that nobody ever said do not matter yet
too-early : ArePayloadsFresh calm [] stale
too-early [] last u v parts edge eight three = absurd (no-sweep calm eight.0 eight.1 (omega arith) eight.2 eight.3)
too-early (e ∷ first) last u v parts edge eight three = absurd cc
