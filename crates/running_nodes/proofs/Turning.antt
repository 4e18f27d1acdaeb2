-- Turns, one after the other.
use Rattle.std.proofs.Common.{◌≡◌, ◌<◌, ℕ, false, List, [], ◌∷◌, ◌++◌, Option, None, Some, Contains, slice_get, slice_index_or, refl, inl, inr, ap, sym, subst, ◌∙◌, append-nil}
use Rattle.topology.specs.declared.frame.Frame.{Frame}
use Rattle.topology.specs.declared.frame.Ranges.{Ranges}
use Rattle.data_link.specs.Port.{frame_of}
use Rattle.node_core.specs.View.{site_in, state_of}
use Rattle.node_core.specs.declared.ticked.Ticked.{Ticked}
use Rattle.pace.specs.Plans.{port_of}
use Rattle.socket_links.specs.Counts.{Counts}
use Rattle.socket_links.specs.Links.{IsPushed}
use Rattle.socket_links.specs.declared.link.SocketLink.{SocketLink}
use Rattle.node_core.specs.Deeds.{Deed, Leads, taken_from, sent_to}
use Rattle.node_core.proofs.Joined.{joins, frames-join}
use Rattle.node_loop.specs.node_connections.declared.port.NodePort.{NodePort}
use Rattle.node_loop.specs.Hearing.{Listens}
use Rattle.node_loop.specs.node_connections.Hearing.{Pulls, Wires}
use Rattle.node_loop.specs.node_connections.Ports.{AtBoth}
use Rattle.node_loop.specs.Moments.{Moment}
use Rattle.node_loop.specs.Speaking.{Speaks, SpeaksTo}
use Rattle.node_loop.specs.Turns.{Attends, Turns}
use Rattle.node_loop.proofs.Accounts.{turn-takes, turn-sends, attend-takes, attend-sends}
use Rattle.node_loop.proofs.node_connections.Hearing.{both-join}
use Rattle.running_nodes.specs.Stood.{Start, Stood, IsStood, PortWas, StartsAt, all_sent, all_taken}
use Rattle.running_nodes.specs.Stretches.{Went, IsTurn, Goes, all_deeds}
use Rattle.running_nodes.specs.Laws.{TurnsLead, TurnsGoByConnections}
use Rattle.running_nodes.proofs.Passing.{Passes, closed, pass-join, pass-same, sent-more, taken-more, all-more}
use Rattle.running_nodes.proofs.Phases.{wires-pass, pulls-pass, speaks-pass}

is-some : {X : Type 0} (a b : X) → Some a ≡ Some b → a ≡ b
is-some a b e = cc

module _ {P : Type 0} (gave took : P → Option (List ℕ)) (counts : P → Counts) where
  -- what passes at a place of two lists of ports
  abbrev PassesAt : Ranges → List Frame → List Frame → Option (NodePort P) → Option (NodePort P) → Type 0
  PassesAt r fs ss = AtBoth (λ a b. Passes r gave took fs ss a.link b.link)

  passes-join : (r : Ranges) (fs ss gs ts : List Frame) (x y z : Option (NodePort P)) → PassesAt r fs ss x y → PassesAt r gs ts y z → PassesAt r (fs ++ gs) (ss ++ ts) x z
  passes-join r fs ss gs ts x y z f g =
      both-join (λ a b. Passes r gave took fs ss a.link b.link) (λ a b. Passes r gave took gs ts a.link b.link) (λ a b. Passes r gave took (fs ++ gs) (ss ++ ts) a.link b.link)
      (λ a b c k l. pass-join r gave took fs ss gs ts a.link b.link c.link k l) x y z f g

  -- the same at both places
  both-map : (R S : NodePort P → NodePort P → Type 0) → ((a b : NodePort P) → R a b → S a b) → (x y : Option (NodePort P)) → AtBoth R x y → AtBoth S x y
  both-map R S f None None h = tt
  both-map R S f None (Some b) h = h
  both-map R S f (Some a) None h = h
  both-map R S f (Some a) (Some b) h = f a b h

  -- what is heard at a port
  listens-pass : (old new : Moment P) (w : ℕ) (l : Listens gave took counts old new)
      → PassesAt (site_in old.node).ranges (taken_from w l.hears.takes.deeds) [] (slice_get old.ports w) (slice_get new.ports w)
  listens-pass old new w l =
      let r = (site_in old.node).ranges in
      let frames = taken_from w l.hears.takes.deeds in
      passes-join r [] [] frames [] (slice_get old.ports w) (slice_get l.wired w) (slice_get new.ports w)
      (both-map Wires (λ a b. Passes r gave took [] [] a.link b.link) (wires-pass r gave took counts) (slice_get old.ports w) (slice_get l.wired w) (l.wires w))
      (both-map (Pulls r gave took counts frames) (λ a b. Passes r gave took frames [] a.link b.link) (pulls-pass r gave took counts frames) (slice_get l.wired w) (slice_get new.ports w) (l.hears.pulls w))

  -- what is said at it
  speaks-at : (r : Ranges) (offers : List _) (now : ℕ) (old new : Moment P) (w : ℕ) → w < (site_in old.node).ranges.nodes → Contains (site_in old.node).neighbours w
      → (s : Speaks gave took counts offers now old new) → PassesAt r [] (sent_to w s.sends) (slice_get old.ports w) (slice_get new.ports w)
  speaks-at r offers now old new w within has s =
      both-map
      (SpeaksTo gave took counts (frame_of ((state_of old.node).port w)) (slice_index_or offers w false) now (port_of old.pace.ports w) (port_of new.pace.ports w) (sent_to w s.sends))
      (λ a b. Passes r gave took [] (sent_to w s.sends) a.link b.link)
      (speaks-pass r gave took counts (frame_of ((state_of old.node).port w)) (slice_index_or offers w false) now (port_of old.pace.ports w) (port_of new.pace.ports w) (sent_to w s.sends))
      (slice_get old.ports w) (slice_get new.ports w) (s.neighbours w within has)

  -- the site stays
  pub turn-site : (says : Ticked) (now : ℕ) (old new : Moment P) → Turns gave took counts says now old new → site_in new.node ≡ site_in old.node
  turn-site says now old new t = t.leaves.site ∙ (t.acts.leaves.site ∙ (t.acts.site ∙ (t.listens.serves.site ∙ t.listens.hears.takes.site)))

  pub attend-site : (now : ℕ) (old new : Moment P) → Attends gave took counts now old new → site_in new.node ≡ site_in old.node
  attend-site now old new t = t.leaves.site ∙ (t.listens.serves.site ∙ t.listens.hears.takes.site)

  turn-pass : (says : Ticked) (now : ℕ) (old new : Moment P) (w : ℕ) → w < (site_in old.node).ranges.nodes → Contains (site_in old.node).neighbours w
      → (t : Turns gave took counts says now old new)
      → PassesAt (site_in old.node).ranges (taken_from w t.account) (sent_to w t.account) (slice_get old.ports w) (slice_get new.ports w)
  turn-pass says now old new w within has t =
      let r = (site_in old.node).ranges in
      let frames = taken_from w t.listens.hears.takes.deeds in
      let sents = sent_to w t.speaks.sends in
      let site : site_in t.acted.node ≡ site_in old.node = t.acts.leaves.site ∙ (t.acts.site ∙ (t.listens.serves.site ∙ t.listens.hears.takes.site)) in
      let heard = listens-pass old t.heard w t.listens in
      let spoke = speaks-at r t.plan.offers now t.acted new w (subst (λ s. w < s.ranges.nodes) (sym site) within) (subst (λ s. Contains s.neighbours w) (sym site) has) t.speaks in
      let after = subst (λ ports. PassesAt r [] sents (slice_get ports w) (slice_get new.ports w)) t.ports spoke in
      let whole : PassesAt r (frames ++ []) sents (slice_get old.ports w) (slice_get new.ports w)
      = passes-join r frames [] [] sents (slice_get old.ports w) (slice_get t.heard.ports w) (slice_get new.ports w) heard after in
      subst (λ fs. PassesAt r fs (sent_to w t.account) (slice_get old.ports w) (slice_get new.ports w)) (append-nil frames ∙ sym (turn-takes gave took counts now old new says t w))
      (subst (λ ss. PassesAt r (frames ++ []) ss (slice_get old.ports w) (slice_get new.ports w)) (sym (turn-sends gave took counts now old new says t w)) whole)

  attend-pass : (now : ℕ) (old new : Moment P) (w : ℕ) → w < (site_in old.node).ranges.nodes → Contains (site_in old.node).neighbours w
      → (t : Attends gave took counts now old new)
      → PassesAt (site_in old.node).ranges (taken_from w t.account) (sent_to w t.account) (slice_get old.ports w) (slice_get new.ports w)
  attend-pass now old new w within has t =
      let r = (site_in old.node).ranges in
      let frames = taken_from w t.listens.hears.takes.deeds in
      let sents = sent_to w t.speaks.sends in
      let site : site_in t.heard.node ≡ site_in old.node = t.listens.serves.site ∙ t.listens.hears.takes.site in
      let heard = listens-pass old t.heard w t.listens in
      let after = speaks-at r t.plan.offers now t.heard new w (subst (λ s. w < s.ranges.nodes) (sym site) within) (subst (λ s. Contains s.neighbours w) (sym site) has) t.speaks in
      let whole : PassesAt r (frames ++ []) sents (slice_get old.ports w) (slice_get new.ports w)
      = passes-join r frames [] [] sents (slice_get old.ports w) (slice_get t.heard.ports w) (slice_get new.ports w) heard after in
      subst (λ fs. PassesAt r fs (sent_to w t.account) (slice_get old.ports w) (slice_get new.ports w)) (append-nil frames ∙ sym (attend-takes gave took counts now old new t w))
      (subst (λ ss. PassesAt r (frames ++ []) ss (slice_get old.ports w) (slice_get new.ports w)) (sym (attend-sends gave took counts now old new t w)) whole)

  -- each of the two
  step-pass : (account : List Deed) (old new : Moment P) (w : ℕ) → w < (site_in old.node).ranges.nodes → Contains (site_in old.node).neighbours w
      → IsTurn gave took counts account old new → PassesAt (site_in old.node).ranges (taken_from w account) (sent_to w account) (slice_get old.ports w) (slice_get new.ports w)
  step-pass account old new w within has (inl (says, now, t, e)) =
      subst (λ ds. PassesAt (site_in old.node).ranges (taken_from w ds) (sent_to w ds) (slice_get old.ports w) (slice_get new.ports w)) (sym e) (turn-pass says now old new w within has t)
  step-pass account old new w within has (inr (now, t, e)) =
      subst (λ ds. PassesAt (site_in old.node).ranges (taken_from w ds) (sent_to w ds) (slice_get old.ports w) (slice_get new.ports w)) (sym e) (attend-pass now old new w within has t)

  step-site : (account : List Deed) (old new : Moment P) → IsTurn gave took counts account old new → site_in new.node ≡ site_in old.node
  step-site account old new (inl (says, now, t, e)) = turn-site says now old new t
  step-site account old new (inr (now, t, e)) = attend-site now old new t

  step-leads : (account : List Deed) (old new : Moment P) → IsTurn gave took counts account old new → Leads (site_in old.node) account (state_of old.node) (state_of new.node)
  step-leads account old new (inl (says, now, t, e)) = subst (λ ds. Leads (site_in old.node) ds (state_of old.node) (state_of new.node)) (sym e) t.leads
  step-leads account old new (inr (now, t, e)) = subst (λ ds. Leads (site_in old.node) ds (state_of old.node) (state_of new.node)) (sym e) t.leads

  -- all of them
  goes-site : (ts : List (Went P)) (old last : Moment P) → Goes gave took counts old ts last → site_in last.node ≡ site_in old.node
  goes-site [] old last h = ap (λ m. site_in m.node) h
  goes-site (t ∷ ts) old last h = goes-site ts t.after last h.1 ∙ step-site t.account old t.after h.0

  goes-lead : (ts : List (Went P)) (old last : Moment P) → Goes gave took counts old ts last → Leads (site_in old.node) (all_deeds ts) (state_of old.node) (state_of last.node)
  goes-lead [] old last h = ap (λ m. state_of m.node) h
  goes-lead (t ∷ ts) old last h =
      joins (site_in old.node) t.account (all_deeds ts) (state_of old.node) (state_of t.after.node) (state_of last.node) (step-leads t.account old t.after h.0)
      (subst (λ site. Leads site (all_deeds ts) (state_of t.after.node) (state_of last.node)) (step-site t.account old t.after h.0) (goes-lead ts t.after last h.1))

  pub turns-lead : TurnsLead gave took counts
  turns-lead old last ts h = (goes-site ts old last h, goes-lead ts old last h)

  goes-pass : (ts : List (Went P)) (old last : Moment P) (w : ℕ) → w < (site_in old.node).ranges.nodes → Contains (site_in old.node).neighbours w → Goes gave took counts old ts last
      → PassesAt (site_in old.node).ranges (taken_from w (all_deeds ts)) (sent_to w (all_deeds ts)) (slice_get old.ports w) (slice_get last.ports w)
  goes-pass [] old last w within has h =
      subst (λ m. PassesAt (site_in old.node).ranges [] [] (slice_get old.ports w) (slice_get m.ports w)) (sym h) (itself (slice_get old.ports w))
    where
      itself : (x : Option (NodePort P)) → PassesAt (site_in old.node).ranges [] [] x x
      itself None = tt
      itself (Some p) = pass-same (site_in old.node).ranges gave took p.link
  goes-pass (t ∷ ts) old last w within has h =
      let r = (site_in old.node).ranges in
      let site = step-site t.account old t.after h.0 in
      let rest = goes-pass ts t.after last w (subst (λ s. w < s.ranges.nodes) (sym site) within) (subst (λ s. Contains s.neighbours w) (sym site) has) h.1 in
      let here = subst (λ s. PassesAt s.ranges (taken_from w (all_deeds ts)) (sent_to w (all_deeds ts)) (slice_get t.after.ports w) (slice_get last.ports w)) site rest in
      let both = passes-join r (taken_from w t.account) (sent_to w t.account) (taken_from w (all_deeds ts)) (sent_to w (all_deeds ts)) (slice_get old.ports w) (slice_get t.after.ports w)
      (slice_get last.ports w) (step-pass t.account old t.after w within has h.0) here in
      let frames = frames-join w t.account (all_deeds ts) in
      subst (λ fs. PassesAt r fs (sent_to w (t.account ++ all_deeds ts)) (slice_get old.ports w) (slice_get last.ports w)) (sym frames.0)
      (subst (λ ss. PassesAt r (taken_from w t.account ++ taken_from w (all_deeds ts)) ss (slice_get old.ports w) (slice_get last.ports w)) (sym frames.1) both)

  -- the last one, too, is one of the connections
  port-was : (r : Ranges) (frames sents : List Frame) (start : Start) (a b : SocketLink P) → StartsAt r gave took start a → Passes r gave took frames sents a b
      → (cs : List (Stood P)) × PortWas r gave took frames sents cs
  port-was r frames sents start a b at pass =
      let passed = pass (record { start = start; taken = []; sent = [] }) (record {
        pulled = at.pulled;
        pushed = subst (λ xs. IsPushed took xs a) (sym (append-nil start.taken)) at.pushed;
        loose = λ e. (refl, refl);
      }) in
      let end = closed r gave took passed.now b passed.opened in (
        passed.ended ++ end.ended,
        record {
          each = all-more (IsStood r gave took) passed.ended end.ended passed.each end.each;
          takes = taken-more passed.ended end.ended ∙ (ap (λ xs. all_taken passed.ended ++ xs) end.takes ∙ passed.takes);
          sends = sent-more passed.ended end.ended ∙ (ap (λ xs. all_sent passed.ended ++ xs) end.sends ∙ passed.sends);
        },
      )

  pub turns-go : TurnsGoByConnections gave took counts
  turns-go old last ts w port start h within has there at = by (slice_get old.ports w) (slice_get last.ports w) there (goes-pass ts old last w within has h) where
    by : (x y : Option (NodePort P)) → x ≡ Some port
        → PassesAt (site_in old.node).ranges (taken_from w (all_deeds ts)) (sent_to w (all_deeds ts)) x y
        → (cs : List (Stood P)) × PortWas (site_in old.node).ranges gave took (taken_from w (all_deeds ts)) (sent_to w (all_deeds ts)) cs
    by None y e k = absurd cc
    by (Some p) None e k = elim k [ ]
    by (Some p) (Some q) e k =
        port-was (site_in old.node).ranges (taken_from w (all_deeds ts)) (sent_to w (all_deeds ts)) start p.link q.link
        (subst (λ link. StartsAt (site_in old.node).ranges gave took start link) (sym (ap (λ z. z.link) (is-some p port e))) at) k
