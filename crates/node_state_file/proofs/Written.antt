-- The parts of a port are written one after the other.
use Rattle.std.proofs.Common.{◌≡◌, ◌∙◌, ap, Result, Ok, Err, IsOk, OnOk, ℕ, arith}
use Rattle.std.proofs.Math.Path.{fun_ext}
use Rattle.std.proofs.lemmas.Grind.{common_steps}
use Rattle.topology.specs.At.{at}
use Rattle.state_writing.specs.node_core.data_link.Port.{PortState}
use Rattle.state_writing.specs.node_core.State.{LocalState}
use Rattle.state_writing.specs.node_core.Writes.{with_port}
use Rattle.node_state_file.specs.declared.saved.SavedPort.{SavedPort}

-- if a call that answers Ok does something, it is done
pub on_ok : {T E P : Type 0} (r : Result T E) → IsOk r → OnOk r P → P
on_ok (Ok x) ok done = done
on_ok (Err e) ok done = absurd (grind arith)

-- the state with one port, and the value of the machine that comes in there, as saved
abbrev pub port_written : ℕ → SavedPort → LocalState → LocalState
port_written w p s = record s { port = at s.port w (record { seq = p.seq; last = p.last; staged = p.staged; copy = p.copy }); value = at s.value w p.value }

abbrev pub numbered : ℕ → SavedPort → LocalState → LocalState
numbered w d s = with_port s w (record (s.port w) { seq = d.seq; last = d.last })

abbrev pub staged : ℕ → SavedPort → LocalState → LocalState
staged w d s = with_port s w (record (s.port w) { staged = d.staged })

abbrev pub copied : ℕ → SavedPort → LocalState → LocalState
copied w d s = with_port s w (record (s.port w) { copy = d.copy })

abbrev pub valued : ℕ → SavedPort → LocalState → LocalState
valued w d s = record s { value = at s.value w d.value }

port-at : (w : ℕ) (d : SavedPort) (s : LocalState) (i : ℕ)
    → (copied w d (staged w d (numbered w d s))).port i ≡ at s.port w (record { seq = d.seq; last = d.last; staged = d.staged; copy = d.copy }) i
port-at w d s i = grind (arith, common_steps)

whole : (w : ℕ) (d : SavedPort) (s : LocalState) → valued w d (copied w d (staged w d (numbered w d s))) ≡ port_written w d s
whole w d s = ap (λ (p : ℕ → PortState). record s { port = p; value = at s.value w d.value }) (fun_ext (port-at w d s))

pub written : (w : ℕ) (d : SavedPort) (s0 s1 s2 s3 s4 : LocalState) → s1 ≡ numbered w d s0 → s2 ≡ staged w d s1 → s3 ≡ copied w d s2 → s4 ≡ valued w d s3
    → s4 ≡ port_written w d s0
written w d s0 s1 s2 s3 s4 a b c e =
    e ∙ ap (valued w d) (c ∙ ap (copied w d) (b ∙ ap (staged w d) a)) ∙ whole w d s0
