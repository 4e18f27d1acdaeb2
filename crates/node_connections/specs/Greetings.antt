-- How far a hello went out.
use Rattle.std.specs.Prelude.{ℕ, ◌≤◌, ◌-◌, List, Option, take, drop, ⊤}
use Rattle.socket_links.specs.Pipes.{GoesOn}
use Rattle.node_connections.specs.declared.greeting.Greeting.{Greeting}
use Rattle.node_connections.specs.declared.greeting.Greeted.{Greeted}
use Rattle.node_connections.specs.declared.greeting.Greeted.TheVariants as greeted

module _ {P : Type 0} where
  -- the pipe took the next bytes of the hello: all that were left, or those up to where the
  -- greeting is now; nothing is claimed of a pipe that failed
  abbrev pub Greets : (P → Option (List ℕ)) → List ℕ → Greeting P → Greeted P → Type 0
  Greets took hello old (greeted.Done pipe) =
      GoesOn (drop old.sent hello) (took old.pipe) (took pipe)
  Greets took hello old (greeted.Later new) =
      (old.sent ≤ new.sent)
      × GoesOn (take (new.sent - old.sent) (drop old.sent hello)) (took old.pipe) (took new.pipe)
  Greets took hello old greeted.Failed = ⊤
