-- Connections that keep order play: by induction on the acts.
use Rattle.std.proofs.Common.{◌≡◌, ℕ, suc, List, [], ◌∷◌, ◌++◌, length, refl, ap, ◌∙◌, sym, subst, arith}
use Rattle.std.proofs.lemmas.List.{append_assoc, append-nil, map-append, length-map, length-append}
use Rattle.std.specs.List.{remove}
use Rattle.topology.specs.declared.frame.Frame.{Frame}
use Rattle.link_model.specs.declared.item.Item.{Item}
use Rattle.link_model.specs.declared.item.Item.TheVariants as item
use Rattle.processes.specs.Links.{Act, Accepts, Gives, Loses, Plays}
use Rattle.processes.specs.Connections.{accepted_frames, given_frames, IsWithin, Ended, left_after, all_lost, history_over, KeepOrder, as_items}
use Rattle.processes.specs.LinkLaws.{ConnectionsPlay}

module _ (capacity : ℕ) where
  plays-join : (acts others : List Act) (way mid last : List Item) → Plays capacity way acts mid → Plays capacity mid others last → Plays capacity way (acts ++ others) last
  plays-join [] others way mid last h k = subst (λ x. Plays capacity x others last) h k
  plays-join (Accepts t f ∷ acts) others way mid last h k = (h.0, plays-join acts others (way ++ item.Frame f ∷ []) mid last h.1 k)
  plays-join (Gives t f ∷ acts) others way mid last h k = (h.0, h.1, plays-join acts others h.0 mid last h.2 k)
  plays-join (Loses t i ∷ acts) others way mid last h k = (h.0, plays-join acts others (remove way i) mid last h.1 k)

  order-plays : (acts : List Act) (way left : List Frame) → way ++ accepted_frames acts ≡ given_frames acts ++ left → IsWithin capacity (length way) acts
      → Plays capacity (as_items way) acts (as_items left)
  order-plays [] way left kept within = ap as_items (sym kept ∙ append-nil way)
  order-plays (Accepts t f ∷ acts) way left kept within =
      let longer : length (way ++ f ∷ []) ≡ suc (length way) = omega (arith, length-append way (f ∷ [])) in
      let same = length-map way (λ g. item.Frame g) in
      let rest = order-plays acts (way ++ f ∷ []) left (append_assoc way (f ∷ []) (accepted_frames acts) ∙ kept)
      (subst (λ n. IsWithin capacity n acts) (sym longer) within.1) in
      let l = within.0 in
      (omega (arith, same, l), subst (λ x. Plays capacity x acts (as_items left)) (map-append (λ g. item.Frame g) way (f ∷ [])) rest)
  order-plays (Gives t f ∷ acts) [] left kept within = absurd within
  order-plays (Gives t f ∷ acts) (x ∷ way) left kept within =
      let k : ◌≡◌ {A = List Frame} (x ∷ (way ++ accepted_frames acts)) (f ∷ (given_frames acts ++ left)) = kept in
      let first : x ≡ f = cc in
      let others : way ++ accepted_frames acts ≡ given_frames acts ++ left = cc in
      (as_items way, ap (λ g. item.Frame g ∷ as_items way) first, order-plays acts way left others within)
  order-plays (Loses t i ∷ acts) [] left kept within = absurd within
  order-plays (Loses t i ∷ acts) (x ∷ way) left kept within = absurd within

  lost-plays : (t : ℕ) (way : List Frame) → Plays capacity (as_items way) (all_lost t way) []
  lost-plays t [] = refl
  lost-plays t (f ∷ way) = (omega arith, lost-plays t way)

  over-plays : (cs : List Ended) (way last : List Frame) (acts : List Act) → KeepOrder capacity way cs acts last
      → Plays capacity (as_items way) (history_over way cs acts) (as_items last)
  over-plays [] way last acts h = order-plays acts way last h.kept h.within
  over-plays (c ∷ cs) way last acts h =
      let left = left_after way c.acts in
      plays-join c.acts (all_lost c.instant left ++ history_over [] cs acts) (as_items way) (as_items left) (as_items last) (order-plays c.acts way left h.0.kept h.0.within)
      (plays-join (all_lost c.instant left) (history_over [] cs acts) (as_items left) [] (as_items last) (lost-plays c.instant left) (over-plays cs [] last acts h.1))

pub connections-play : ConnectionsPlay
connections-play capacity way last cs acts h = over-plays capacity cs way last acts h
