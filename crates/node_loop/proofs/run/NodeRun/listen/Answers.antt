use Rattle.std.proofs.Common.{◌≡◌, ◌∙◌, ◌++◌, ℕ, List, refl, subst, sym, []}
use Rattle.lock_desk.specs.declared.client_line.ClientLine.{ClientLine}
use Rattle.node_connections.specs.Hearing.{AreWired}
use Rattle.node_connections.specs.Lives.{Admits, AllRead, LiveOn}
use Rattle.node_service.specs.Noting.{emptied}
use Rattle.node_loop.specs.Noting.{DidHear}
use Rattle.node_connections.specs.Said.{IsServed}
use Rattle.node_service.specs.Serving.{Serves}
use Rattle.node_connections.proofs.Ends.{and-nothing}
use Rattle.node_connections.proofs.Hearing.{wired-join}
use Rattle.node_connections.proofs.Lives.{still-live}
use Rattle.node_service.proofs.Noting.{grown}
use Rattle.node_loop.proofs.Remembering.{remembers-equal, remembers-join}
use Rattle.node_connections.proofs.Saying.{nothing-same}
use Rattle.node_service.proofs.Serving.{serves-goes, serves-join}
use Rattle.node_service.specs.Pieces.{GivePieces}
use Rattle.std.proofs.lemmas.Bool.{or_right}
use Rattle.node_loop.proofs.run.NodeRun.listen.Goals as goal

pub returns-clause-listens : goal.returns-clause-listens
returns-clause-listens g c =
    let start = c.args.self.now in
    let heard = c.pull_all.new.self.node in
    let served = c.serve_all.new.node in
    let wired = c.connect.new.self.ports.items in
    let before = c.connect.ensures.node ∙ (c.hear_hellos.ensures.node ∙ (c.accept_clients.ensures.node ∙ c.accept_links.ensures.node)) in
    let come = c.accept_clients.ensures.ports ∙ c.accept_links.ensures.ports in
    let start_notes = emptied c.args.notes.now in
    let pulled = c.pull_all.new.notes in
    let last = c.leave_absent.new.notes in
    let admitted = c.accept_clients.new.self.clients in
    let answered = c.serve_all.new.clients in
    let same = c.pull_all.ensures.rest.3 ∙ (c.connect.ensures.rest.3 ∙ c.hear_hellos.ensures.rest.3) in
    let hears = subst (λ x. DidHear g.D.P.Pipe.gave g.D.P.Pipe.took g.D.P.Pipe.counts x heard wired c.pull_all.new.self.ports.items start_notes pulled) before
    (subst (λ n. DidHear g.D.P.Pipe.gave g.D.P.Pipe.took g.D.P.Pipe.counts c.connect.new.self.node heard wired c.pull_all.new.self.ports.items n pulled) c.begin.ensures c.pull_all.ensures.hears) in
    let first : Serves g.D.P.Pipe.took (IsServed g.D.P.Pipe.gave g.D.P.Pipe.took g.D.P.Pipe.counts admitted answered) heard served pulled c.serve_all.new.notes admitted answered =
    subst (λ x. Serves g.D.P.Pipe.took (IsServed g.D.P.Pipe.gave g.D.P.Pipe.took g.D.P.Pipe.counts x answered) heard served pulled c.serve_all.new.notes x answered) same c.serve_all.ensures.serves in
    let none : ℕ → List ClientLine → List ℕ → Type 0 = λ t lines answers. (lines ≡ []) × (answers ≡ []) in
    let serves = serves-join g.D.P.Pipe.took (IsServed g.D.P.Pipe.gave g.D.P.Pipe.took g.D.P.Pipe.counts admitted answered) none
    (IsServed g.D.P.Pipe.gave g.D.P.Pipe.took g.D.P.Pipe.counts admitted answered)
    (λ t xs ys ps qs f e.
    subst (λ lines. IsServed g.D.P.Pipe.gave g.D.P.Pipe.took g.D.P.Pipe.counts admitted answered t lines (ps ++ qs)) (sym (and-nothing xs ys e.0))
    (subst (λ answers. IsServed g.D.P.Pipe.gave g.D.P.Pipe.took g.D.P.Pipe.counts admitted answered t xs answers) (sym (and-nothing ps qs e.1)) f))
    heard served c.leave_absent.new.node pulled c.serve_all.new.notes last admitted answered answered first
    (serves-goes g.D.P.Pipe.took none served c.leave_absent.new.node c.serve_all.new.notes last answered answered (λ t. (refl, refl)) (nothing-same g.D.P.Pipe.took answered answered refl refl) c.leave_absent.ensures.node) in
    record {
      did = record {
        listens = record {
          wired = wired;
          heard = heard;
          wires = wired-join start.ports.items c.hear_hellos.new.self.ports.items wired
              (subst (λ ports. AreWired ports.items c.hear_hellos.new.self.ports.items) come c.hear_hellos.ensures.wires) c.connect.ensures.wires;
          hears = hears.hears;
          serves = serves.did.became;
          remembers = remembers-join start.pace c.accept_clients.new.self.pace c.pull_all.new.self.pace
              (remembers-equal start.pace c.accept_clients.new.self.pace (c.accept_clients.ensures.pace ∙ c.accept_links.ensures.pace))
              (remembers-join c.accept_clients.new.self.pace c.hear_hellos.new.self.pace c.pull_all.new.self.pace c.hear_hellos.ensures.pace
              (remembers-join c.hear_hellos.new.self.pace c.connect.new.self.pace c.pull_all.new.self.pace c.connect.ensures.pace c.pull_all.ensures.pace));
        };
        noted = grown hears.hears.takes.deeds serves.did.became.deeds start_notes pulled last hears.noted serves.did.noted;
      };
      answers = record {
        came = admitted;
        admits = subst (λ x. Admits x admitted) c.accept_links.ensures.rest.3 c.accept_clients.ensures.admits;
        services = serves.services;
        deeds_are = serves.deeds_are;
        gone = serves.gone;
        heard = λ t. (serves.lines_are t).0;
        ends = λ t. (serves.lines_are t).1;
        said = serves.said;
        reads = subst (λ x. AllRead g.D.P.Pipe.gave g.D.P.Pipe.took g.D.P.Pipe.counts x answered) same c.serve_all.ensures.reads;
        may_have_more = c.serve_all.result;
        pieces = subst (λ x. GivePieces g.D.P.Pipe.gave g.D.P.Pipe.took g.D.P.Pipe.counts c.serve_all.result x answered) same c.serve_all.ensures.pieces;
      };
      more = λ some. or_right _ c.serve_all.result some;
    }

pub returns-clause-lives : goal.returns-clause-lives
returns-clause-lives g c =
    let start = c.args.self.now.clients in
    let admitted = c.accept_clients.new.self.clients in
    let served = c.serve_all.new.clients in
    let came : Admits start admitted = subst (λ x. Admits x admitted) c.accept_links.ensures.rest.3 c.accept_clients.ensures.admits in
    let heard = c.pull_all.ensures.rest.3 ∙ (c.connect.ensures.rest.3 ∙ c.hear_hellos.ensures.rest.3) in
    still-live g.D.P.Pipe.gave g.D.P.Pipe.took g.D.P.Pipe.counts start admitted served came
    (subst (λ x. LiveOn g.D.P.Pipe.gave g.D.P.Pipe.took g.D.P.Pipe.counts x served) heard c.serve_all.ensures.lives)
