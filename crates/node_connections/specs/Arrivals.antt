-- What a first line says, and how it comes.
use Rattle.std.specs.Prelude.{◌≡◌, ℕ, ◌+◌, ◌<◌, List, ◌∷◌, ◌++◌, Option, None, Some, take, ⊤, []}
use Rattle.byte_lines.specs.Lines.{newline}
use Rattle.socket_links.specs.frame_codec.Spelling.{hello}
use Rattle.socket_links.specs.Pipes.{GoesOn}
use Rattle.node_connections.specs.declared.lobby.Arrival.{Arrival}
use Rattle.node_connections.specs.declared.lobby.Arrival.TheVariants as arrival
use Rattle.node_connections.specs.declared.lobby.Visitor.{Visitor}

-- the line, without its newline, is the hello of that node of the network, or of none
abbrev pub IsArrival : ℕ → List ℕ → Arrival → Type 0
IsArrival nodes line (arrival.Is id) = (line ≡ hello id) × (id < nodes)
IsArrival nodes line arrival.Goes = (id : ℕ) → id < nodes → line ≡ hello id → ⊥
IsArrival nodes line arrival.Waits = ⊥

module _ {P : Type 0} where
  -- what has come so far of a visitor's first line
  abbrev pub first_line : Visitor P → List ℕ
  first_line visitor = take visitor.count visitor.line

  -- What a visitor says with these bytes: its first line goes on with them, and it has turns left;
  -- or they end that line, which is the hello of that node. Nothing is claimed of a visitor that
  -- goes.
  abbrev pub Says : ℕ → List ℕ → Visitor P → Visitor P → Arrival → Type 0
  Says nodes more old new arrival.Waits =
      (first_line new ≡ first_line old ++ more) × (new.turns ≡ old.turns + 1) × (new.turns < 256)
  Says nodes more old new (arrival.Is id) =
      (first_line old ++ more ≡ hello id ++ newline ∷ []) × (id < nodes)
  Says nodes more old new arrival.Goes = ⊤

  -- These bytes came on a visitor's pipe in a turn, and nothing was written to it.
  pub record Listened (gave took : P → Option (List ℕ)) (nodes : ℕ) (old new : Visitor P)
      (answer : Arrival) : Type 0 where
    pub more : List ℕ
    pub came : GoesOn more (gave old.pipe) (gave new.pipe)
    pub unwritten : took new.pipe ≡ took old.pipe
    pub says : Says nodes more old new answer

  -- there was a visitor, and this is its pipe, once its hello came whole and nothing after it
  abbrev pub HasSaid : (P → Option (List ℕ)) → (P → Option (List ℕ)) → ℕ → Option (Visitor P) → ℕ
      → P → Type 0
  HasSaid gave took nodes None id pipe = ⊥
  HasSaid gave took nodes (Some visitor) id pipe =
      (new : Visitor P) × (new.pipe ≡ pipe) × Listened gave took nodes visitor new (arrival.Is id)
