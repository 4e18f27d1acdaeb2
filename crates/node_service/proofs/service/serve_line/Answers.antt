use Rattle.std.specs.Prelude.{IsTrue, []}
use Rattle.std.proofs.Common.{◌≡◌, ◌∙◌, ℕ, take, ap, append-nil, arith, inl, refl, rules, subst, sym}
use Rattle.lock_desk.specs.Desk.{is_number}
use Rattle.lock_desk.specs.declared.client_line.ClientLine.{ClientLine}
use Rattle.lock_desk.specs.declared.client_line.ClientLine.TheVariants.{Lock, Unlock, Status, Unknown}
use Rattle.node_core.specs.View.{NodeView, site_in, state_of}
use Rattle.node_service.specs.Answers.{after_line, answer_text}
use Rattle.node_connections.specs.Clients.{answers_of, is_connected, Reports}
use Rattle.node_service.specs.Deeds.{IsLeaveOfGone, IsOfClient, Asks, Leaves}
use Rattle.node_service.specs.Noting.{after_all, deeds_of_line, Did}
use Rattle.node_service.specs.NotesView.{NotesView}
use Rattle.node_service.proofs.Became.{one, same}
use Rattle.node_connections.proofs.Heard.{unheard-same}
use Rattle.node_connections.proofs.Lives.{stay}
use Rattle.node_service.proofs.Noting.{did-none}
use Rattle.node_connections.proofs.Saying.{nothing-same, reported-said, SaidTo}
use Rattle.node_service.proofs.Serving.{serves-line}
use Rattle.node_service.proofs.service.serve_line.Goals as goal

-- a line is an ask, a leave, or neither
line-did : (t : ℕ) (line : ClientLine) (x y : NodeView) (n m : NotesView) → IsTrue (is_number t) → site_in y ≡ site_in x → state_of y ≡ after_line t line (state_of x)
    → m ≡ after_all (deeds_of_line t line) n → (d : Did IsOfClient x y n m) × (d.became.deeds ≡ deeds_of_line t line)
line-did t Lock x y n m number site state noted = (record { became = one IsOfClient (Asks t) x y tt site (number, state); noted = noted }, refl)
line-did t Unlock x y n m number site state noted = (record { became = one IsOfClient (Leaves t) x y tt site state; noted = noted }, refl)
line-did t Status x y n m number site state noted = (record { became = same IsOfClient x y site state; noted = noted }, refl)
line-did t Unknown x y n m number site state noted = (record { became = same IsOfClient x y site state; noted = noted }, refl)

pub returns-then-count-gt0-clause-serves : goal.returns-then-count-gt0-clause-serves
returns-then-count-gt0-clause-serves g c =
    let number : IsTrue (is_number c.args.ticket) = search rules in
    let old = c.args.clients.now in
    let new = c.reply.new.clients in
    let t = c.args.ticket in
    let line = line-did t c.args.line c.args.node.now c.answer-count.new.node c.args.notes.now c.line.new.self number c.answer-count.ensures.site c.answer-count.ensures.state c.line.ensures in
    serves-line g.P.Pipe.took t c.args.line c.args.node.now c.answer-count.new.node c.reply.new.node c.args.notes.now c.line.new.self c.reply.new.notes old new line.0 line.1
    c.reply.ensures.node
    (subst (λ text. SaidTo g.P.Pipe.took text t old new) c.answer-count.ensures.text (reported-said g.P.Pipe.took _ t old new c.reply.ensures.reported))

pub returns-else-count-gt0-clause-serves : goal.returns-else-count-gt0-clause-serves
returns-else-count-gt0-clause-serves g c =
    let number : IsTrue (is_number c.args.ticket) = search rules in
    let clients = c.args.clients.now in
    let t = c.args.ticket in
    let line = line-did t c.args.line c.args.node.now c.answer-count.new.node c.args.notes.now c.line.new.self number c.answer-count.ensures.site c.answer-count.ensures.state c.line.ensures in
    let none : c.answer-count.result ≡ 0 = (let few = c.if-count-gt0.false in omega (arith, few)) in
    let silent : [] ≡ answer_text (site_in c.args.node.now) t c.args.line (state_of c.args.node.now) = sym (ap (λ n. take n c.answer-count.new.text) none) ∙ c.answer-count.ensures.text in
    let nothing = nothing-same g.P.Pipe.took clients clients refl refl in
    serves-line g.P.Pipe.took t c.args.line c.args.node.now c.answer-count.new.node c.answer-count.new.node c.args.notes.now c.line.new.self c.line.new.self clients clients line.0 line.1
    (did-none (IsLeaveOfGone (is_connected clients)) c.answer-count.new.node c.line.new.self)
    (subst (λ text. SaidTo g.P.Pipe.took text t clients clients) silent (nothing t, λ u o. nothing u))

pub returns-else-count-gt0-clause-lives : goal.returns-else-count-gt0-clause-lives
returns-else-count-gt0-clause-lives g c = stay g.P.Pipe.gave g.P.Pipe.took g.P.Pipe.counts c.args.clients.now c.args.clients.now refl

pub returns-else-count-gt0-clause-heard : goal.returns-else-count-gt0-clause-heard
returns-else-count-gt0-clause-heard g c = unheard-same g.P.Pipe.gave c.args.clients.now c.args.clients.now refl

pub returns-then-count-gt0-clause-reported : goal.returns-then-count-gt0-clause-reported
returns-then-count-gt0-clause-reported g c = subst (λ text. Reports text c.args.ticket c.args.clients.now c.reply.new.clients) c.answer-count.ensures.text c.reply.ensures.reported

pub returns-else-count-gt0-clause-reported : goal.returns-else-count-gt0-clause-reported
returns-else-count-gt0-clause-reported g c =
    let clients = c.args.clients.now in
    let t = c.args.ticket in
    let none : c.answer-count.result ≡ 0 = (let few = c.if-count-gt0.false in omega (arith, few)) in
    let silent : [] ≡ answer_text (site_in c.args.node.now) t c.args.line (state_of c.args.node.now) = sym (ap (λ n. take n c.answer-count.new.text) none) ∙ c.answer-count.ensures.text in
    subst (λ text. Reports text t clients clients) silent (inl (sym (append-nil (answers_of clients t)), refl), λ u o. (refl, refl))
