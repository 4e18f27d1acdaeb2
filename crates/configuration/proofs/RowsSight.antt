-- Rows: whose event it is.
use Rattle.std.proofs.Common.{◌≡◌, ℕ, Option, Some, None, refl, arith}
use Rattle.run_model.specs.declared.event.Event.TheVariants.{Send, Take}
use Rattle.configuration.specs.Sight.{IsOwnNode}

apart : (◌≡◌ {A = Option ℕ} (Some 3) (Some 5)) → ⊥
apart e = grind arith

-- a take is the taker's,
taker : IsOwnNode (Take 3 5) (Some 5)
taker v own = grind arith

-- and not the sender's,
not_sender : IsOwnNode (Take 3 5) (Some 3) → ⊥
not_sender h = apart (h 5 refl)

-- and a send is nobody's
nobody : IsOwnNode (Send 3 5) None
nobody v own = grind arith
