use Rattle.std.proofs.Common.{◌≡◌, ◌∙◌, ◌++◌, ◌∷◌, ℕ, true, List, get_or, take, refl, sym, subst, arith, []}
use Rattle.std.specs.Option.{option_to_list}
use Rattle.std.proofs.lemmas.List.{take_all, take_more}
use Rattle.slab.specs.Slab.{get}
use Rattle.lock_desk.specs.declared.client_line.ClientLine.{ClientLine}
use Rattle.node_core.specs.View.{site_in, state_of}
use Rattle.node_service.specs.Answers.{answer_text}
use Rattle.node_connections.specs.Clients.{is_connected}
use Rattle.node_connections.specs.Heard.{HeardAt}
use Rattle.node_connections.specs.Said.{IsLineAlone, IsServedAlone}
use Rattle.node_service.specs.Serving.{Serves}
use Rattle.node_connections.proofs.Lives.{stay, live-join, others-join}
use Rattle.node_connections.proofs.Saying.{nothing-same}
use Rattle.node_connections.proofs.Served.{served-alone-join, served-alone-none, served-byte, served-line}
use Rattle.node_service.proofs.Serving.{serves-join, serves-none}
use Rattle.node_service.proofs.service.serve_bytes.Goals.{in-Some, in_default}
use Rattle.node_service.proofs.service.serve_bytes.Goals as goal

pub loop-byte-init : goal.loop-byte-init
loop-byte-init g c =
    let clients = c.args.clients.now in (
      serves-none g.P.Pipe.took (IsServedAlone g.P.Pipe.gave g.P.Pipe.took g.P.Pipe.counts clients clients c.args.ticket []) c.args.node.now c.args.notes.now clients clients
          (served-alone-none g.P.Pipe.gave g.P.Pipe.took g.P.Pipe.counts c.args.ticket clients) (nothing-same g.P.Pipe.took clients clients refl refl),
      stay g.P.Pipe.gave g.P.Pipe.took g.P.Pipe.counts clients clients refl,
      λ u other. refl,
    )

pub loop-byte-preserved : goal.loop-byte-preserved
loop-byte-preserved g c =
    let old = c.args.clients.now in
    let mid = c.loop-byte.clients in
    let pushed = c.push.new.self in
    let node = c.loop-byte.node in
    let notes = c.loop-byte.notes in
    let lives = live-join g.P.Pipe.gave g.P.Pipe.took g.P.Pipe.counts old mid pushed c.loop-byte.invariant.1 c.push.ensures.lives in
    let t = c.args.ticket in
    let others = others-join t old mid pushed c.loop-byte.invariant.2 c.push.ensures.others in
    let bytes = c.args.bytes.now in
    let at = c.loop-byte.byte-index in
    let byte = get_or bytes at 0 in
    let read = take at bytes in
    let next = sym (take_more bytes at 0 c.loop-byte-test.true) in
    let none : ℕ → List ClientLine → List ℕ → Type 0 = λ u lines answers. (lines ≡ []) × (answers ≡ []) in
    elim c.match-push.branch [
      | in-Some w ↦
          let new = w.serve_line.new.clients in
          let text = answer_text (site_in node) t w.in-Some.line (state_of node) in
          let there : is_connected pushed t ≡ true = c.push.ensures.same t ∙ rw w.in-Some.is at c.push.ensures.there in
          let served-one = served-line g.P.Pipe.gave g.P.Pipe.took g.P.Pipe.counts t byte w.in-Some.line text mid pushed new c.push.ensures.lives
          (subst (λ said. HeardAt g.P.Pipe.gave [] (byte ∷ []) (option_to_list said) (get mid.table t) (get pushed.table t)) w.in-Some.is c.push.ensures.heard)
          c.push.ensures.others c.push.ensures.answers there w.serve_line.ensures.heard w.serve_line.ensures.reported in
          let served = serves-join g.P.Pipe.took none (IsLineAlone t w.in-Some.line text) (IsServedAlone g.P.Pipe.gave g.P.Pipe.took g.P.Pipe.counts mid new t (byte ∷ []))
          (λ u xs ys ps qs e f.
          subst (λ lines. IsServedAlone g.P.Pipe.gave g.P.Pipe.took g.P.Pipe.counts mid new t (byte ∷ []) u (lines ++ ys) (ps ++ qs)) (sym e.0)
          (subst (λ answers. IsServedAlone g.P.Pipe.gave g.P.Pipe.took g.P.Pipe.counts mid new t (byte ∷ []) u ys (answers ++ qs)) (sym e.1) (served-one u ys qs f)))
          node node w.serve_line.new.node notes notes w.serve_line.new.notes mid pushed new
          (serves-none g.P.Pipe.took none node notes mid pushed (λ u. (refl, refl)) c.push.ensures.nothing) w.serve_line.ensures.serves in
          rw (w.node-is, w.notes-is, w.clients-is) (
            subst (λ read. Serves g.P.Pipe.took (IsServedAlone g.P.Pipe.gave g.P.Pipe.took g.P.Pipe.counts old new t read) c.args.node.now w.serve_line.new.node c.args.notes.now w.serve_line.new.notes old new) next
                (serves-join g.P.Pipe.took (IsServedAlone g.P.Pipe.gave g.P.Pipe.took g.P.Pipe.counts old mid t read) (IsServedAlone g.P.Pipe.gave g.P.Pipe.took g.P.Pipe.counts mid new t (byte ∷ [])) (IsServedAlone g.P.Pipe.gave g.P.Pipe.took g.P.Pipe.counts old new t (read ++ byte ∷ []))
                (served-alone-join g.P.Pipe.gave g.P.Pipe.took g.P.Pipe.counts t read (byte ∷ []) old mid new c.loop-byte.invariant.1)
                c.args.node.now node w.serve_line.new.node c.args.notes.now notes w.serve_line.new.notes old mid new c.loop-byte.invariant.0 served),
            live-join g.P.Pipe.gave g.P.Pipe.took g.P.Pipe.counts old pushed new lives w.serve_line.ensures.lives,
            others-join t old pushed new others (λ u other. (w.serve_line.ensures.reported.1 u other).1),
          )
      | in_default w ↦
          let heard = served-byte g.P.Pipe.gave g.P.Pipe.took g.P.Pipe.counts t byte mid pushed
          (subst (λ said. HeardAt g.P.Pipe.gave [] (byte ∷ []) (option_to_list said) (get mid.table t) (get pushed.table t)) w.in_default.is c.push.ensures.heard)
          c.push.ensures.others c.push.ensures.same c.push.ensures.answers in
          rw (w.node-is, w.notes-is, w.clients-is) (
            subst (λ read. Serves g.P.Pipe.took (IsServedAlone g.P.Pipe.gave g.P.Pipe.took g.P.Pipe.counts old pushed t read) c.args.node.now node c.args.notes.now notes old pushed) next
                (serves-join g.P.Pipe.took (IsServedAlone g.P.Pipe.gave g.P.Pipe.took g.P.Pipe.counts old mid t read) (IsServedAlone g.P.Pipe.gave g.P.Pipe.took g.P.Pipe.counts mid pushed t (byte ∷ [])) (IsServedAlone g.P.Pipe.gave g.P.Pipe.took g.P.Pipe.counts old pushed t (read ++ byte ∷ []))
                (served-alone-join g.P.Pipe.gave g.P.Pipe.took g.P.Pipe.counts t read (byte ∷ []) old mid pushed c.loop-byte.invariant.1)
                c.args.node.now node node c.args.notes.now notes notes old mid pushed c.loop-byte.invariant.0
                (serves-none g.P.Pipe.took (IsServedAlone g.P.Pipe.gave g.P.Pipe.took g.P.Pipe.counts mid pushed t (byte ∷ [])) node notes mid pushed heard c.push.ensures.nothing)),
            lives,
            others,
          )
    ]

pub returns-clause-serves : goal.returns-clause-serves
returns-clause-serves g c =
    let old = c.args.clients.now in
    let new = c.loop-byte.clients in
    subst (λ read. Serves g.P.Pipe.took (IsServedAlone g.P.Pipe.gave g.P.Pipe.took g.P.Pipe.counts old new c.args.ticket read) c.args.node.now c.loop-byte.node c.args.notes.now c.loop-byte.notes old new)
    (take_all c.loop-byte.byte-index c.args.bytes.now (let end = c.loop-byte-test.false in omega (arith, end))) c.loop-byte.invariant.0

pub returns-clause-others : goal.returns-clause-others
returns-clause-others g c = c.loop-byte.invariant.2
