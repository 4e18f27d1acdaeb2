-- Writing lines of junk, one after the other.
use Rattle.std.proofs.Common.{◌≡◌, ◌<◌, ◌+◌, ◌-◌, ◌∙◌, ap, sym, arith, ℕ, suc, List, ◌++◌, Option, Some, None, option_map, codes, append_assoc}
use Rattle.rand_pcg.specs.Lcg.{Lcg}
use Rattle.byte_streams.specs.Streams.{Takes}
use Rattle.command_parts.specs.schedules.damage_tool.Draws.{draw_junk}
use Rattle.subcommands.specs.Damaged.{junk_text, seeded}

-- Some of the lines were taken, and what is still to come is drawn from the generator.
pub record IsUnderWay (lines done seed : ℕ) (g : Lcg) (before now : Option (List ℕ)) : Type 0 where
  pub front : List ℕ
  pub parts : junk_text lines (seeded seed) ≡ front ++ junk_text (lines - done) g
  pub taken : Takes front before now

takes_both : (xs ys : List ℕ) (before now next : Option (List ℕ)) → Takes xs before now → Takes ys now next → Takes (xs ++ ys) before next
takes_both xs ys None now next first second = second ∙ ap (option_map (λ t. t ++ ys)) first
takes_both xs ys (Some t) now next first second = second ∙ ap (option_map (λ u. u ++ ys)) first ∙ ap Some (append_assoc t xs ys)

-- one more line is taken
pub line_more : (lines done seed : ℕ) (g g2 : Lcg) (before now next : Option (List ℕ)) → done < lines → IsUnderWay lines done seed g before now
    → Takes ((draw_junk g).0 ++ codes "\n") now next → g2 ≡ (draw_junk g).1 → IsUnderWay lines (done + 1) seed g2 before next
line_more lines done seed g g2 before now next below so_far took g_is =
    let line : List ℕ = (draw_junk g).0 in
    let k : ℕ = lines - (done + 1) in
    let one : lines - done ≡ suc k = omega (arith, below) in
    let rest : List ℕ = junk_text k (draw_junk g).1 in
    let first : junk_text lines (seeded seed) ≡ so_far.front ++ (line ++ (codes "\n" ++ rest)) = so_far.parts ∙ ap (λ n. so_far.front ++ junk_text n g) one in
    record {
      front = so_far.front ++ (line ++ codes "\n");
      parts = first
          ∙ ap (λ xs. so_far.front ++ xs) (sym (append_assoc line (codes "\n") rest))
          ∙ sym (append_assoc so_far.front (line ++ codes "\n") rest)
          ∙ ap (λ h. (so_far.front ++ (line ++ codes "\n")) ++ junk_text k h) (sym g_is);
      taken = takes_both so_far.front (line ++ codes "\n") before now next so_far.taken took;
    }
