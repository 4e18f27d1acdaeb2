-- What becomes of a link: items are lost, frames are taken and sent.
use Rattle.std.proofs.Common.{append_assoc, ◌≡◌, ◌∙◌, ℕ, ◌<◌, ◌≤◌, ◌+◌, Bool, true, false, nat_lt, List, [], ◌∷◌, ◌++◌, refl, ap, sym, subst, arith, suc, zero, drop, length, add-one}
use Rattle.std.proofs.lemmas.Grind.{common_steps}
use Rattle.std.specs.Prelude.{if◌then◌else◌}
use Rattle.topology.specs.Network.{Network, are_joined}
use Rattle.topology.specs.Ranges.{ranges_of, frame_fits}
use Rattle.topology.specs.declared.frame.Frame.{Frame}
use Rattle.configuration.specs.link_model.declared.item.Item.{Item}
use Rattle.configuration.specs.link_model.declared.item.Item.TheVariants as item
use Rattle.configuration.specs.data_link.Port.{PortState, frame_of}
use Rattle.configuration.specs.node_core.State.{LocalState}
use Rattle.configuration.specs.node_core.Step.{taken}
use Rattle.configuration.specs.node_core.Site.{site_of}
use Rattle.configuration.specs.run_model.World.{World, at_pair, site, with_link}
use Rattle.configuration.specs.run_model.Step.{has_room, step}
use Rattle.configuration.specs.run_model.Run.{run}
use Rattle.configuration.specs.run_model.Laws.{RunsJoin}
use Rattle.configuration.specs.run_model.declared.event.Event.{Event}
use Rattle.configuration.specs.run_model.declared.event.Event.TheVariants.{Send, Take, Damage}
use Rattle.configuration.specs.run_model.declared.event.Harm.TheVariants as harm
use Rattle.record_gathering.specs.Differences.{harms_in, frame_harms}
use Rattle.record_gathering.specs.Entries.{losses, forged_events, item_events, events_again, room_events, taken_events, sent_events}
use Rattle.record_gathering.specs.Frames.{is_frame, is_under_way, in_front}
use Rattle.record_gathering.proofs.Same.{frame-same}
use Rattle.record_gathering.proofs.Steps.{send-step, lose-step, take-step, item-step}
use Rattle.record_gathering.proofs.Reached.{at-here, IsPortAt, frame-reached}

pair-here : {X : Type 0} (f : ℕ → ℕ → X) (u v : ℕ) (x : X) → at_pair f u v x u v ≡ x
pair-here f u v x = grind (arith, common_steps)

-- ---- where a frame is

is-it : (f : Frame) (x : Item) → is_frame f x ≡ true → x ≡ item.Frame f
is-it f (item.Frame g) t = ap item.Frame (frame-same g f t)
is-it f item.Noise t = absurd cc

few-in_front : (f : Frame) (xs : List Item) → in_front f xs ≤ length xs
few-in_front f [] = omega arith
few-in_front f (x ∷ xs) = let e = few-in_front f xs in grind (arith, common_steps, e)

found : (f : Frame) (xs : List Item) → is_under_way f xs ≡ true
    → (rest : List Item) × (drop (in_front f xs) xs ≡ item.Frame f ∷ rest)
found f [] t = absurd cc
found f (x ∷ xs) t = by (is_frame f x) refl (λ later. found f xs later)
  where
    by : (b : Bool) → is_frame f x ≡ b
        → (is_under_way f xs ≡ true → (rest : List Item) × (drop (in_front f xs) xs ≡ item.Frame f ∷ rest))
        → (rest : List Item) × (drop (in_front f (x ∷ xs)) (x ∷ xs) ≡ item.Frame f ∷ rest)
    by true e further =
        let count : in_front f (x ∷ xs) ≡ 0 = ap (λ (c : Bool). if c then 0 else in_front f xs + 1) e in
        (xs, ap (λ (k : ℕ). drop k (x ∷ xs)) count ∙ ap (λ (y : Item). y ∷ xs) (is-it f x e))
    by false e further =
        let later : is_under_way f xs ≡ true = grind (arith, common_steps) in
        let h = further later in
        let count : in_front f (x ∷ xs) ≡ suc (in_front f xs) =
        ap (λ (c : Bool). if c then 0 else in_front f xs + 1) e ∙ add-one (in_front f xs) in
        (h.0, ap (λ (k : ℕ). drop k (x ∷ xs)) count ∙ h.1)

not-found : (f : Frame) (xs : List Item) → is_under_way f xs ≡ false → in_front f xs ≡ length xs
not-found f [] t = refl
not-found f (x ∷ xs) t =
    let none : is_frame f x ≡ false = grind (arith, common_steps) in
    let later : is_under_way f xs ≡ false = grind (arith, common_steps) in
    let e = not-found f xs later in grind (arith, common_steps, none, e)

none-left : (xs : List Item) → drop (length xs) xs ≡ []
none-left [] = refl
none-left (x ∷ xs) = none-left xs

-- ---- losses

-- from one world to another, this many of a link's oldest items were lost, and nothing else changed
-- that matters here
record IsAfterLosses (w : World) (u v n : ℕ) (new : World) : Type 0 where
  link : new.link u v ≡ drop n (w.link u v)
  node : new.node ≡ w.node
  network : new.net ≡ w.net

module _ (u v : ℕ) where
  losses-lead : (n : ℕ) (w : World) → u < w.net.nodes → v < w.net.nodes → are_joined w.net.edges u v ≡ true
      → n ≤ length (w.link u v) → IsAfterLosses w u v n (run w (losses u v n))
  losses-lead zero w here there joined few = record { link = refl; node = refl; network = refl }
  losses-lead (suc n) w here there joined few = by (w.link u v) refl (λ m a b c d. losses-lead n m a b c d)
    where
      by : (items : List Item) → w.link u v ≡ items
          → ((m : World) → u < m.net.nodes → v < m.net.nodes → are_joined m.net.edges u v ≡ true
          → n ≤ length (m.link u v) → IsAfterLosses m u v n (run m (losses u v n)))
          → IsAfterLosses w u v (suc n) (run w (losses u v (suc n)))
      by [] e further = let none : suc n ≤ 0 = subst (λ (l : List Item). suc n ≤ length l) e few in absurd (omega (arith, none))
      by (x ∷ xs) e further =
          let m = with_link w u v xs in
          let now : m.link u v ≡ xs = pair-here w.link u v xs in
          let fewer : suc n ≤ suc (length xs) = subst (λ (l : List Item). suc n ≤ length l) e few in
          let h = further m here there joined (subst (λ (l : List Item). n ≤ length l) (sym now) (omega (arith, fewer))) in
          let h2 : IsAfterLosses w u v (suc n) (run m (losses u v n)) = record {
            link = h.link ∙ ap (λ (l : List Item). drop n l) now ∙ sym (ap (λ (l : List Item). drop (suc n) l) e);
            node = h.node;
            network = h.network;
          } in
          subst (λ (y : World). IsAfterLosses w u v (suc n) (run y (losses u v n)))
          (sym (lose-step w u v here there joined x xs e)) h2

-- ---- a frame that was taken

module _ (join : RunsJoin) (w : World) (u v : ℕ) (f : Frame) (here : u < w.net.nodes) (there : v < w.net.nodes) (joined : are_joined w.net.edges u v ≡ true) (fits : frame_fits (ranges_of w.net) f ≡ true) (some : 1 ≤ w.net.capacity) where
  takes-it : (m : World) (rest : List Item) → m.net ≡ w.net → m.node ≡ w.node → m.link u v ≡ item.Frame f ∷ rest
      → (step m (Take u v)).node v ≡ taken (site w v) u (item.Frame f) (w.node v)
  takes-it m rest network node items =
      ap (λ (x : World). x.node v)
      (take-step m u v (subst (λ (n : Network). u < n.nodes) (sym network) here)
      (subst (λ (n : Network). v < n.nodes) (sym network) there)
      (subst (λ (n : Network). are_joined n.edges u v ≡ true) (sym network) joined)
      (item.Frame f) rest items)
      ∙ at-here m.node v (taken (site m v) u (item.Frame f) (m.node v))
      ∙ ap (λ (n : Network). taken (site_of n v) u (item.Frame f) (m.node v)) network
      ∙ ap (λ (g : ℕ → LocalState). taken (site w v) u (item.Frame f) (g v)) node

  -- after items were put on a link, the nodes are as they were
  items-keep : (items : List Item) (x : World) → (run x (item_events u v items)).node ≡ x.node
  items-keep [] x = refl
  items-keep (i ∷ items) x =
      let one : (step x (Damage (harm.Item u v i))).node ≡ x.node = grind (arith, common_steps) in
      items-keep items (step x (Damage (harm.Item u v i))) ∙ one

  -- the frame is taken after some events, and then what was under way is put there again
  taken-then : (m : World) (es more : List Event) → (run m (es ++ Take u v ∷ [])).node v ≡ taken (site w v) u (item.Frame f) (w.node v)
      → ((x : World) → (run x more).node ≡ x.node) → (run m (es ++ (Take u v ∷ more))).node v ≡ taken (site w v) u (item.Frame f) (w.node v)
  taken-then m es more is keeps =
      let first = run m (es ++ Take u v ∷ []) in
      ap (λ (l : List Event). (run m l).node v) (sym (append_assoc es (Take u v ∷ []) more))
      ∙ ap (λ (x : World). x.node v) (join m (es ++ Take u v ∷ []) more)
      ∙ ap (λ (g : ℕ → LocalState). g v) (keeps first) ∙ is

  pub taken-leads : (run w (taken_events w u v f)).node v ≡ taken (site w v) u (item.Frame f) (w.node v)
  taken-leads =
      ap (λ (x : World). x.node v)
      (join w (losses u v (in_front f (w.link u v))) (forged_events w u v f ++ (Take u v ∷ events_again w u v f)))
      ∙ cases (is_under_way f (w.link u v)) refl
    where
      positive : (c : ℕ) → 1 ≤ c → nat_lt 0 c ≡ true
      positive c h = grind (arith, common_steps)

      cases : (b : Bool) → is_under_way f (w.link u v) ≡ b
          → (run (run w (losses u v (in_front f (w.link u v)))) (forged_events w u v f ++ (Take u v ∷ events_again w u v f))).node v
          ≡ taken (site w v) u (item.Frame f) (w.node v)
      cases true is =
          let items = w.link u v in
          let m = run w (losses u v (in_front f items)) in
          let h : IsAfterLosses w u v (in_front f items) m = losses-lead u v (in_front f items) w here there joined (few-in_front f items) in
          let rest = found f items is in
          rw is (takes-it m rest.0 h.network h.node (h.link ∙ rest.1))
      cases false not_there =
          let items = w.link u v in
          let n = in_front f items in
          let m = run w (losses u v n) in
          let h : IsAfterLosses w u v n m = losses-lead u v n w here there joined (few-in_front f items) in
          let empty : m.link u v ≡ [] = h.link ∙ ap (λ (k : ℕ). drop k items) (not-found f items not_there) ∙ none-left items in
          let m2 = with_link m u v (m.link u v ++ item.Frame f ∷ []) in
          let room : has_room m u v ≡ true = rw (empty, h.network) (positive w.net.capacity some) in
          let forged : step m (Damage (harm.Item u v (item.Frame f))) ≡ m2 =
          item-step m u v (subst (λ (k : Network). u < k.nodes) (sym h.network) here)
          (subst (λ (k : Network). v < k.nodes) (sym h.network) there)
          (subst (λ (k : Network). are_joined k.edges u v ≡ true) (sym h.network) joined)
          f (subst (λ (k : Network). frame_fits (ranges_of k) f ≡ true) (sym h.network) fits) room in
          let one : (run m (Damage (harm.Item u v (item.Frame f)) ∷ Take u v ∷ [])).node v ≡ taken (site w v) u (item.Frame f) (w.node v) =
          ap (λ (x : World). (step x (Take u v)).node v) forged
          ∙ takes-it m2 [] h.network h.node
          (pair-here m.link u v (m.link u v ++ item.Frame f ∷ []) ∙ ap (λ (l : List Item). l ++ item.Frame f ∷ []) empty) in
          rw not_there (taken-then m (Damage (harm.Item u v (item.Frame f)) ∷ []) (item_events u v items) one (items-keep items))

-- ---- a frame that was sent

module _ (join : RunsJoin) (w : World) (v u : ℕ) (f : Frame) (here : v < w.net.nodes) (there : u < w.net.nodes) (joined : are_joined w.net.edges v u ≡ true) (fits : frame_fits (ranges_of w.net) f ≡ true) (some : 1 ≤ w.net.capacity) (few : length (w.link v u) ≤ w.net.capacity) where
  abbrev sender : PortState → Type 0
  sender p = frame_of p ≡ f

  sends-it : (m : World) (items : List Item) → m.net ≡ w.net → frame_of ((m.node v).port u) ≡ f → m.link v u ≡ items
      → length items < w.net.capacity → (step m (Send v u)).link v u ≡ items ++ item.Frame f ∷ []
  sends-it m items network frame link room =
      let free : has_room m v u ≡ true = rw (link, network) (less-test (length items) w.net.capacity room) in
      ap (λ (x : World). x.link v u)
      (send-step m v u (subst (λ (n : Network). v < n.nodes) (sym network) here)
      (subst (λ (n : Network). u < n.nodes) (sym network) there)
      (subst (λ (n : Network). are_joined n.edges v u ≡ true) (sym network) joined) free)
      ∙ pair-here m.link v u (m.link v u ++ item.Frame (frame_of ((m.node v).port u)) ∷ [])
      ∙ ap (λ (l : List Item). l ++ item.Frame (frame_of ((m.node v).port u)) ∷ []) link
      ∙ ap (λ (g : Frame). items ++ item.Frame g ∷ []) frame
    where
      less-test : (a b : ℕ) → a < b → nat_lt a b ≡ true
      less-test a b h = grind (arith, common_steps)

  less-is : (a b : ℕ) → nat_lt a b ≡ true → a < b
  less-is a b t = grind (arith, common_steps)

  not-less : (a b : ℕ) → nat_lt a b ≡ false → b ≤ a
  not-less a b t = grind (arith, common_steps)

  one-less : (xs : List Item) (c : ℕ) → length xs ≤ c → 1 ≤ c → length (drop 1 xs) < c
  one-less [] c h s = omega (arith, s)
  one-less (x ∷ xs) c h s = omega (arith, h)

  pub sent-leads : (run w (sent_events w v u f)).link v u
      ≡ (if has_room w v u then w.link v u else drop 1 (w.link v u)) ++ item.Frame f ∷ []
  sent-leads =
      let items = w.link v u in
      let harms = harms_in (frame_harms v u ((w.node v).port u) f) in
      let m = run w harms in
      let h : IsPortAt w v u (record ((w.node v).port u) { seq = f.seq; last = f.ack; staged = f.payload }) ((w.node v).value u) m =
      frame-reached w v u here there joined f fits in
      let frame : frame_of ((m.node v).port u) ≡ f = ap (λ (p : PortState). frame_of p) h.port in
      let link : m.link v u ≡ items = ap (λ (g : ℕ → ℕ → List Item). g v u) h.links in
      ap (λ (x : World). x.link v u) (join w harms (room_events w v u ++ Send v u ∷ []))
      ∙ by m h.network frame link (has_room w v u) refl
    where
      by : (m : World) → m.net ≡ w.net → frame_of ((m.node v).port u) ≡ f → m.link v u ≡ w.link v u
          → (b : Bool) → has_room w v u ≡ b
          → (run m ((if b then [] else losses v u 1) ++ Send v u ∷ [])).link v u
          ≡ (if b then w.link v u else drop 1 (w.link v u)) ++ item.Frame f ∷ []
      by m network frame link true e =
          sends-it m (w.link v u) network frame link (less-is (length (w.link v u)) w.net.capacity e)
      by m network frame link false e =
          let full : w.net.capacity ≤ length (w.link v u) = not-less (length (w.link v u)) w.net.capacity e in
          let h = losses-lead v u 1 m (subst (λ (n : Network). v < n.nodes) (sym network) here)
          (subst (λ (n : Network). u < n.nodes) (sym network) there)
          (subst (λ (n : Network). are_joined n.edges v u ≡ true) (sym network) joined)
          (subst (λ (l : List Item). 1 ≤ length l) (sym link) (omega (arith, full, some))) in
          sends-it (run m (losses v u 1)) (drop 1 (w.link v u)) (h.network ∙ network)
          (ap (λ (g : ℕ → LocalState). frame_of ((g v).port u)) h.node ∙ frame)
          (h.link ∙ ap (λ (l : List Item). drop 1 l) link)
          (one-less (w.link v u) w.net.capacity few some)
