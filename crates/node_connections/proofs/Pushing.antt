-- What a port's pipe took goes on from call to call.
use Rattle.std.proofs.Common.{◌≡◌, ℕ, Bool, List, ◌++◌, Option, None, Some, ap, refl, sym, subst, ◌∙◌, append-nil, []}
use Rattle.std.specs.Prelude.{MatchOption, ⊤}
use Rattle.socket_links.specs.Counts.{Counts}
use Rattle.socket_links.specs.declared.link.SocketLink.{SocketLink}
use Rattle.socket_links.specs.declared.link.Offer.{Offer}
use Rattle.socket_links.specs.declared.link.Offer.TheVariants as offer
use Rattle.socket_links.specs.declared.writing.Flow.{Flow}
use Rattle.socket_links.specs.declared.writing.Flow.TheVariants as flow
use Rattle.socket_links.specs.Links.{unsent, IsPushed, Offered, Pushed, PushesOn}
use Rattle.node_connections.specs.declared.port.NodePort.{NodePort}
use Rattle.node_connections.specs.Speaking.{Follows, OffersLine}

matched : {X : Type 0} (o : Option X) (A B : X → Type 0) → ((x : X) → A x → B x) → MatchOption o ⊤ A → MatchOption o ⊤ B
matched None A B f h = h
matched (Some x) A B f h = f x h

module _ {P : Type 0} (took : P → Option (List ℕ)) where
  -- a push goes on, and so does one at which the pipe was let go
  pub pushed-on : (gave : P → Option (List ℕ)) (counts : P → Counts) (old new : SocketLink P) (f : Flow) → Pushed gave took counts old new f → PushesOn took [] old new
  pushed-on gave counts old new flow.Done h = h.0
  pushed-on gave counts old new flow.Later h = h.0
  pushed-on gave counts old new flow.Broken h = λ lines was. rw h.1 tt

  -- an accepted line goes on
  pub offered-on : (line : List ℕ) (old new : SocketLink P) → Offered line old new offer.Taken → PushesOn took line old new
  offered-on line old new h lines was =
      rw h.2 (matched old.pipe (λ pipe. MatchOption (took pipe) ⊤ (λ bytes. bytes ++ unsent old ≡ lines))
      (λ pipe. MatchOption (took pipe) ⊤ (λ bytes. bytes ++ unsent new ≡ lines ++ line))
      (λ pipe. matched (took pipe) (λ bytes. bytes ++ unsent old ≡ lines) (λ bytes. bytes ++ unsent new ≡ lines ++ line)
      (λ bytes e. ap (λ xs. bytes ++ xs) h.1 ∙ ap (λ xs. xs ++ line) (sym (append-nil bytes) ∙ (ap (λ xs. bytes ++ xs) (sym h.0) ∙ e))))
      was)

  -- a line, and then nothing more
  pub goes-on : (line : List ℕ) (old mid new : SocketLink P) → PushesOn took line old mid → PushesOn took [] mid new → PushesOn took line old new
  goes-on line old mid new first second lines was =
      subst (λ xs. IsPushed took xs new) (append-nil (lines ++ line)) (second (lines ++ line) (first lines was))

  -- nothing at all
  pub stays-on : (link : SocketLink P) → PushesOn took [] link link
  stays-on link lines was = subst (λ xs. IsPushed took xs link) (sym (append-nil lines)) was

-- the answer of the link to a line is the port's
pub offers-line : {P : Type 0} (gave took : P → Option (List ℕ)) (counts : P → Counts) (line : List ℕ) (old : NodePort P) (link : SocketLink P) (answer : Offer) (new : NodePort P) (is_taken : Bool)
    → Offered line old.link link answer → Follows gave took counts answer (record old { link = link }) new is_taken → OffersLine gave took counts line old new is_taken
offers-line gave took counts line old link answer new is_taken offered follows =
    record { answer = answer; accepted = record old { link = link }; offered = offered; stuck = refl; greeting = refl; follows = follows }
