-- Accounts that grow.
use Rattle.std.proofs.Common.{◌≡◌, ℕ, ◌<◌, ◌≤◌, List, [], ◌∷◌, ◌++◌, map, ap, refl, sym, subst, ◌∙◌, arith}
use Rattle.std.proofs.lemmas.Grind.{common_steps}
use Rattle.std.specs.List.{AllByRecursion}
use Rattle.topology.specs.Network.{Network}
use Rattle.run_model.specs.node_core.Site.{site_of}
use Rattle.run_model.specs.node_core.State.{LocalState}
use Rattle.weaving.specs.declared.journal.JournalEntry.{JournalEntry}
use Rattle.weaving.specs.Woven.{AreRising}
use Rattle.link_model.specs.declared.item.Item.{Item}
use Rattle.link_model.specs.declared.item.Item.TheVariants.{Noise, Frame}
use Rattle.node_core.specs.Deeds.{Deed, Ticks}
use Rattle.node_core.specs.Deeds as deeds
use Rattle.node_core.proofs.Joined.{joins}
use Rattle.weaving.specs.Account.{Note, Ticked, Sent, Took, entry_of, sent_to, taken_from, deeds_in, send_first, take_first, AreOverLinks, Leads}

links-on : (net : Network) (v : ℕ) (ns ms : List Note) → AreOverLinks net v ns → AreOverLinks net v ms → AreOverLinks net v (ns ++ ms)
links-on net v [] ms h more = more
links-on net v (Ticked t ∷ ns) ms h more = links-on net v ns ms h more
links-on net v (Sent u x ∷ ns) ms h more = (h.0, h.1, links-on net v ns ms h.2 more)
links-on net v (Took u x ∷ ns) ms h more = (h.0, links-on net v ns ms h.1 more)

send-on : (w : ℕ) (i : Item) (ds es : List Deed) → send_first w i (ds ++ es) ≡ send_first w i ds ++ es
send-on w (Frame f) ds es = refl
send-on w Noise ds es = refl

take-on : (w : ℕ) (i : Item) (ds es : List Deed) → take_first w i (ds ++ es) ≡ take_first w i ds ++ es
take-on w (Frame f) ds es = refl
take-on w Noise ds es = refl

deeds-on : (ns ms : List Note) → deeds_in (ns ++ ms) ≡ deeds_in ns ++ deeds_in ms
deeds-on [] ms = refl
deeds-on (Ticked t ∷ ns) ms = ap (λ ds. Ticks ∷ ds) (deeds-on ns ms)
deeds-on (Sent u x ∷ ns) ms = ap (send_first u x.item) (deeds-on ns ms) ∙ send-on u x.item (deeds_in ns) (deeds_in ms)
deeds-on (Took u x ∷ ns) ms = ap (take_first u x.item) (deeds-on ns ms) ∙ take-on u x.item (deeds_in ns) (deeds_in ms)

pub leads-on : (net : Network) (v : ℕ) (ds es : List Note) (s mid last : LocalState) → Leads net v s ds mid → Leads net v mid es last → Leads net v s (ds ++ es) last
leads-on net v ds es s mid last h more = (
  links-on net v ds es h.0 more.0,
  subst (λ xs. deeds.Leads (site_of net v) xs s last) (sym (deeds-on ds es)) (joins (site_of net v) (deeds_in ds) (deeds_in es) s mid last h.1 more.1),
)

pub sent-on : (u : ℕ) (ds es : List Note) → sent_to u (ds ++ es) ≡ sent_to u ds ++ sent_to u es
sent-on u [] es = refl
sent-on u (Ticked t ∷ ds) es = sent-on u ds es
sent-on u (Sent w s ∷ ds) es = let later = sent-on u ds es in grind (arith, common_steps)
sent-on u (Took w s ∷ ds) es = sent-on u ds es

pub taken-on : (u : ℕ) (ds es : List Note) → taken_from u (ds ++ es) ≡ taken_from u ds ++ taken_from u es
taken-on u [] es = refl
taken-on u (Ticked t ∷ ds) es = taken-on u ds es
taken-on u (Sent w s ∷ ds) es = taken-on u ds es
taken-on u (Took w s ∷ ds) es = let later = taken-on u ds es in grind (arith, common_steps)

pub entries-on : (v : ℕ) (ds es : List Note) → map (entry_of v) (ds ++ es) ≡ map (entry_of v) ds ++ map (entry_of v) es
entries-on v [] es = refl
entries-on v (d ∷ ds) es = ap (λ xs. entry_of v d ∷ xs) (entries-on v ds es)

pub all-push : {X : Type 0} (P : X → Type 0) (xs : List X) (y : X) → AllByRecursion P xs → P y → AllByRecursion P (xs ++ y ∷ [])
all-push P [] y all one = (one, tt)
all-push P (x ∷ xs) y all one = (all.0, all-push P xs y all.1 one)

-- later clocks are above what earlier ones were above
pub all-below : (xs : List JournalEntry) (a b : ℕ) → a ≤ b → AllByRecursion (λ e. e.stamp ≤ a) xs → AllByRecursion (λ e. e.stamp ≤ b) xs
all-below [] a b le all = tt
all-below (x ∷ xs) a b le all = (let h = all.0 in omega arith, all-below xs a b le all.1)

pub rising-push : (xs : List JournalEntry) (clock : ℕ) (y : JournalEntry) → AreRising xs → AllByRecursion (λ e. e.stamp ≤ clock) xs → clock < y.stamp → AreRising (xs ++ y ∷ [])
rising-push [] clock y rising below later = (tt, tt)
rising-push (x ∷ xs) clock y rising below later =
    (all-push (λ e. x.stamp < e.stamp) xs y rising.0 (let h = below.0 in omega arith), rising-push xs clock y rising.1 below.1 later)
