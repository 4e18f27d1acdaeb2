-- The parts of a port are written one after the other.
use Rattle.std.proofs.Common.{◌≡◌, ◌∙◌, ◌<◌, ◌+◌, ap, sym, Result, Ok, Err, IsOk, OnOk, ℕ, List, length, get_or, drop, arith}
use Rattle.std.proofs.Math.Path.{fun_ext}
use Rattle.std.proofs.lemmas.Grind.{common_steps}
use Rattle.std.proofs.lemmas.List.{at_drop_more}
use Rattle.rand_pcg.specs.Lcg.{Lcg}
use Rattle.topology.specs.At.{at}
use Rattle.topology.specs.declared.frame.Ranges.{Ranges}
use Rattle.run_model.specs.data_link.Port.{PortState}
use Rattle.run_model.specs.node_core.State.{LocalState}
use Rattle.run_model.specs.node_core.Writes.{with_port}
use Rattle.damage_tool.specs.declared.draws.PortDraw.{PortDraw}
use Rattle.damage_tool.specs.Draws.{draw_port}
use Rattle.damage_tool.specs.Scrambled.{port_written, ports_scrambled}

-- if a call that answers Ok does something, it is done
pub on-ok : {T E P : Type 0} (r : Result T E) → IsOk r → OnOk r P → P
on-ok (Ok x) ok done = done
on-ok (Err e) ok done = absurd (grind arith)

abbrev pub numbered : ℕ → PortDraw → LocalState → LocalState
numbered w d s = with_port s w (record (s.port w) { seq = d.seq; last = d.last })

abbrev pub staged : ℕ → PortDraw → LocalState → LocalState
staged w d s = with_port s w (record (s.port w) { staged = d.staged })

abbrev pub copied : ℕ → PortDraw → LocalState → LocalState
copied w d s = with_port s w (record (s.port w) { copy = d.copy })

abbrev pub valued : ℕ → PortDraw → LocalState → LocalState
valued w d s = record s { value = at s.value w d.value }

port-at : (w : ℕ) (d : PortDraw) (s : LocalState) (i : ℕ)
    → (copied w d (staged w d (numbered w d s))).port i ≡ at s.port w (record { seq = d.seq; last = d.last; staged = d.staged; copy = d.copy }) i
port-at w d s i = grind (arith, common_steps)

whole : (w : ℕ) (d : PortDraw) (s : LocalState) → valued w d (copied w d (staged w d (numbered w d s))) ≡ port_written w d s
whole w d s = ap (λ (p : ℕ → PortState). record s { port = p; value = at s.value w d.value }) (fun_ext (port-at w d s))

pub written : (w : ℕ) (d : PortDraw) (s0 s1 s2 s3 s4 : LocalState) → s1 ≡ numbered w d s0 → s2 ≡ staged w d s1 → s3 ≡ copied w d s2 → s4 ≡ valued w d s3
    → s4 ≡ port_written w d s0
written w d s0 s1 s2 s3 s4 a b c e =
    e ∙ ap (valued w d) (c ∙ ap (copied w d) (b ∙ ap (staged w d) a)) ∙ whole w d s0

-- one port more is written
pub ports-more : (r : Ranges) (near : List ℕ) (i : ℕ) (s s2 : LocalState) (g g2 : Lcg) (d : PortDraw) → i < length near
    → d ≡ (draw_port r g).0 → g2 ≡ (draw_port r g).1 → s2 ≡ port_written (get_or near i 0) d s
    → ports_scrambled r (drop i near) s g ≡ ports_scrambled r (drop (i + 1) near) s2 g2
ports-more r near i s s2 g g2 d h drawn after wrote =
    let w = get_or near i 0 in
    let port = draw_port r g in
    at_drop_more (λ (xs : List ℕ). ports_scrambled r xs s g) near i 0 h
    ∙ sym (ap (λ (x : LocalState). ports_scrambled r (drop (i + 1) near) x g2) (wrote ∙ ap (λ (p : PortDraw). port_written w p s) drawn)
    ∙ ap (λ (x : Lcg). ports_scrambled r (drop (i + 1) near) (port_written w port.0 s) x) after)
